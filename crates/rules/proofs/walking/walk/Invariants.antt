-- The invariant: of the first i rows all were tested, ready is the word, and the three tables have tallied the words of their keys.
use Rattle.std.proofs.Common.{◌≡◌}
use Rattle.kernel.specs.Tables.{row_in}
use Rattle.kernel.specs.Waiters.{is_ready, queued_at}
use Rattle.kernel.specs.Walk.{all_from}
use Rattle.kernel.specs.Words.{word_of}
use Rattle.rules.specs.PoolRules.{promised_by}
use Rattle.rules.specs.ReferenceRules.{suspended_at}
use Rattle.rules.specs.RowRules.{row_fits}
use Rattle.rules.proofs.HangingLaws.{Tallied}
use Rattle.rules.proofs.walking.walk.Given as goal

abbrev pub invariant-loop-i : goal.invariant-loop-i
invariant-loop-i l =
    record {
      tested : l.rows ≡ all_from (λ j. row_fits (row_in l.threads j) l.z) 0 l.i;
      is_word : l.ready ≡ word_of (λ j. is_ready (row_in l.threads j)) l.i;
      queued : Tallied word_of (λ p j. queued_at p (row_in l.threads j)) 36 l.waiting l.i;
      suspended : Tallied word_of (λ r j. suspended_at r (row_in l.threads j)) 8 l.suspended l.i;
      promised : Tallied word_of (λ q j. promised_by q (row_in l.threads j)) 4 l.promised l.i;
    }
