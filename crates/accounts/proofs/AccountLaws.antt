-- What an entry changes: one of no kind changes nothing.
use Rattle.std.proofs.Common.{◌≡◌, ℕ, refl}
use Rattle.accounts.specs.declared.account.Account.{Account}
use Rattle.accounts.specs.Account.{entered}

pub entered_none : (a : Account) (number who object value : ℕ)
    → entered a number (record { who = who; kind = 0; object = object; value = value }) ≡ a
unfolding entered
entered_none a number who object value = refl
