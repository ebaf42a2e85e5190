-- One read more, in the form in which the loop meets it.
use Prim.Native.Nat.{ℕ, zero, suc, ◌+◌, ◌-◌, ◌<◌}
use native.Mathlib.Omega.{arith}
use mathlib.Core.Path.{◌≡◌, refl, sym, ap, ◌∙◌}
use mathlib.Core.Bool.{Bool, true, false, cond}
use mathlib.Core.List.{List}
use Rattle.trace.specs.Told.{Read}
use Rattle.trace.specs.Decoding.{next_read}
use Rattle.replays.specs.Told.{Replayed}
use Rattle.replays.specs.Replaying.{read_on, replay_from}

-- at its end nothing is read
pub replay-done : (n : ℕ) (s : List ℕ) (x : Replayed) → x.done ≡ true → x ≡ replay_from n s x
unfolding replay_from
replay-done zero s x t = refl
replay-done (suc n) s x t = sym (ap (λ (b : Bool). cond b x (replay_from n s (read_on x (next_read s x.at)))) t)

-- after i reads of 5000
pub replay-more : (i : ℕ) (s : List ℕ) (x y : Replayed) (r : Read) → x.done ≡ false → i < 5000 → r ≡ next_read s x.at → y ≡ read_on x r
    → replay_from (5000 - (i + 1)) s y ≡ replay_from (5000 - i) s x
unfolding replay_from
replay-more i s x y r f h e g =
    let n = 5000 - (i + 1) in
    let more : 5000 - i ≡ suc n = omega arith in
    ap (replay_from n s) (g ∙ ap (read_on x) e)
    ∙ sym (ap (λ (b : Bool). cond b x (replay_from n s (read_on x (next_read s x.at)))) f)
    ∙ sym (ap (λ (m : ℕ). replay_from m s x) more)

pub replay-none : (n : ℕ) (s : List ℕ) (x z : Replayed) → n ≡ 0 → replay_from n s x ≡ z → x ≡ z
unfolding replay_from
replay-none n s x z none e = sym (ap (λ (m : ℕ). replay_from m s x) none) ∙ e
