-- What one walk over the threads' records gives, as words: bit i of a word stands for thread i.
use Rattle.std.specs.Prelude.{List}
use Rattle.kernel.specs.declared.records.Thread.{Thread}
use Rattle.kernel.specs.Tables.{used_rows, row_in}
use Rattle.kernel.specs.Waiters.{is_ready, queued_at}
use Rattle.kernel.specs.Walk.{all_from}
use Rattle.kernel.specs.Words.{word_of}
use Rattle.library.specs.declared.sizes.Sizes.{Sizes}
use Rattle.rules.specs.declared.walking.Walked.{Walked}
use Rattle.rules.specs.Limits.{tabled}
use Rattle.rules.specs.RowRules.{row_fits}
use Rattle.rules.specs.ReferenceRules.{suspended_at}
use Rattle.rules.specs.PoolRules.{promised_by}

-- whether each of the T records hangs together by itself; who is ready, who waits at each place, who is suspended on each reference, and
-- to whom each pool has promised an object
abbrev pub walked : List Thread → Sizes → Walked
walked threads z =
    record {
      rows = all_from (λ i. row_fits (row_in threads i) z) 0 (used_rows z.threads);
      ready = word_of (λ i. is_ready (row_in threads i)) (used_rows z.threads);
      waiting = tabled (λ p. word_of (λ i. queued_at p (row_in threads i)) (used_rows z.threads)) 36;
      suspended = tabled (λ r. word_of (λ i. suspended_at r (row_in threads i)) (used_rows z.threads)) 8;
      promised = tabled (λ q. word_of (λ i. promised_by q (row_in threads i)) (used_rows z.threads)) 4;
    }
