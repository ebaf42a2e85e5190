-- A move changes one thread's row, and the one counter or reference that the thread leaves or joins; all else stands as it stood.
use Rattle.std.proofs.Common.{◌≡◌, ℕ, ◌+◌, ◌-◌, ◌<◌, ◌≤◌, Bool, true, false, cond, ◌&&◌, eqb, ltb, ◌≢◌, List, length, get_or, ℤ, pos, sym, refl, ap, ◌∙◌, arith, length-set, get_or-set_other, get_or-set_same, le-ltb, lt-ltb, eq-eqb, ne_eqb, eqb-true}
use lib.Seq.{set_out}
use lib.Signed.{lt_z}
use borrow.Author.Tests.{eqb-false}
use Rattle.kernel.specs.declared.records.Call.{Call}
use Rattle.kernel.specs.declared.records.Answer.{Answer}
use Rattle.kernel.specs.declared.records.Thread.{Thread}
use Rattle.kernel.specs.declared.records.Words.{Words}
use Rattle.kernel.specs.declared.records.Kernel.{Kernel}
use Rattle.kernel.specs.Numbers.{nobody, suspended, queued, timed_out}
use Rattle.kernel.specs.Records.{blank}
use Rattle.kernel.specs.Walk.{bit}
use Rattle.kernel.specs.Counters.{up, down}
use Rattle.kernel.specs.Tables.{thread_at, counter_at, holder_at, with_thread, with_counter, with_holder, with_woken, with_answer}
use Rattle.kernel.specs.Moves.{readied, asleep, answered, taken_off, put_on, woken, slept, finished, blocked}
use Rattle.kernel.specs.Waiters.{queued_at}
use Rattle.kernel.specs.Words.{noted_ready, noted_asleep}
use Rattle.kernel.proofs.Cases.{split, same_or, in-or-out, chosen}
use Rattle.kernel.proofs.TablesLaws.{
  woken_at,
  finished_at,
  SameSizes,
  sizes-refl,
  sizes-trans,
  thread-sizes,
  mark-woken-sizes,
  mark-finished-sizes,
  answer-sizes,
  words-sizes,
  thread-blank,
  thread-same,
  thread-other,
  thread-kept,
  counter-same,
  counter-other,
  holder-same,
  holder-other,
  holder-nobody,
  mark-woken-same,
  mark-woken-other,
  mark-finished-same,
  mark-finished-other,
}
use Rattle.kernel.proofs.WordsLaws.{with-past, ready-length, asleep-length}
use Rattle.kernel.proofs.CountersLaws.{debt, raised-debt, lowered-debt}

-- suspended on the reference r
abbrev pub suspended_at : ℕ → Thread → Bool
suspended_at r t = eqb t.state suspended && eqb t.place r

-- nobody is queued and suspended at once
not-suspended : (s : ℕ) → eqb s queued ≡ true → eqb s suspended ≡ false
not-suspended s e = rw (eqb-true s queued e)

-- h differs from k at most in counters and references
record Beside (k h : Kernel) : Type 0 where
  threads : h.threads ≡ k.threads
  woken : h.woken ≡ k.woken
  finished : h.finished ≡ k.finished
  answer : h.answer ≡ k.answer
  words : h.words ≡ k.words
  steps : h.steps ≡ k.steps
  cause : h.cause ≡ k.cause

-- nor do their lengths differ, where one of each may be written
beside-sizes : (k h : Kernel) (p : ℕ) (x : ℤ) (y : ℕ) (b c : Bool) → Beside k h
    → h.counters ≡ cond b (with_counter k p x).counters k.counters
    → h.references ≡ cond c (with_holder k p y).references k.references → SameSizes k h
beside-sizes k h p x y b c s e f =
    record {
      threads = ap length s.threads;
      counters = rw e (chosen (λ (l : List ℤ). length l ≡ length k.counters) b (λ t. length-set k.counters p x) (λ t. refl));
      references = rw f (chosen (λ (l : List ℕ). length l ≡ length k.references) c (λ t. length-set k.references p y) (λ t. refl));
      woken = ap length s.woken;
      finished = ap length s.finished;
      waiting = ap (λ (w : Words). length w.waiting) s.words;
      steps = s.steps;
      cause = s.cause;
    }

-- to leave a place or a reference
module _ (k : Kernel) (s p : ℕ) where
  off-beside : Beside k (taken_off k s p)
  unfolding taken_off
  off-beside =
      chosen (Beside k) (eqb s queued) (λ e. record { threads = refl; woken = refl; finished = refl; answer = refl; words = refl; steps = refl; cause = refl })
      (λ e. chosen (Beside k) (eqb s suspended) (λ f. record { threads = refl; woken = refl; finished = refl; answer = refl; words = refl; steps = refl; cause = refl })
      (λ f. record { threads = refl; woken = refl; finished = refl; answer = refl; words = refl; steps = refl; cause = refl }))

  off-counters : (taken_off k s p).counters ≡ cond (eqb s queued) (with_counter k p (up (counter_at k p))).counters k.counters
  unfolding taken_off
  off-counters = split (eqb s queued) (λ e. rw e) (λ e. rw e (split (eqb s suspended) (λ f. rw f) (λ f. rw f)))

  off-references : (taken_off k s p).references ≡ cond (eqb s suspended) (with_holder k p nobody).references k.references
  unfolding taken_off
  off-references =
      split (eqb s queued) (λ e. rw (e, not-suspended s e)) (λ e. rw e (split (eqb s suspended) (λ f. rw f) (λ f. rw f)))

  off-sizes : SameSizes k (taken_off k s p)
  off-sizes =
      beside-sizes k (taken_off k s p) p (up (counter_at k p)) nobody (eqb s queued) (eqb s suspended) off-beside off-counters off-references

-- to join one
module _ (k : Kernel) (i s p : ℕ) where
  on-beside : Beside k (put_on k i s p)
  unfolding put_on
  on-beside =
      chosen (Beside k) (eqb s queued) (λ e. record { threads = refl; woken = refl; finished = refl; answer = refl; words = refl; steps = refl; cause = refl })
      (λ e. chosen (Beside k) (eqb s suspended) (λ f. record { threads = refl; woken = refl; finished = refl; answer = refl; words = refl; steps = refl; cause = refl })
      (λ f. record { threads = refl; woken = refl; finished = refl; answer = refl; words = refl; steps = refl; cause = refl }))

  on-counters : (put_on k i s p).counters ≡ cond (eqb s queued) (with_counter k p (down (counter_at k p))).counters k.counters
  unfolding put_on
  on-counters = split (eqb s queued) (λ e. rw e) (λ e. rw e (split (eqb s suspended) (λ f. rw f) (λ f. rw f)))

  on-references : (put_on k i s p).references ≡ cond (eqb s suspended) (with_holder k p i).references k.references
  unfolding put_on
  on-references =
      split (eqb s queued) (λ e. rw (e, not-suspended s e)) (λ e. rw e (split (eqb s suspended) (λ f. rw f) (λ f. rw f)))

  on-sizes : SameSizes k (put_on k i s p)
  on-sizes =
      beside-sizes k (put_on k i s p) p (down (counter_at k p)) i (eqb s queued) (eqb s suspended) on-beside on-counters on-references

-- a counter changed by g where b, read at every place
changed : (k : Kernel) (g : ℤ → ℤ) (b : Bool) (p q : ℕ) → q < length k.counters
    → get_or (cond b (with_counter k p (g (counter_at k p))).counters k.counters) q (pos 0)
    ≡ cond (b && eqb p q) (g (counter_at k q)) (counter_at k q)
changed k g true p q h =
    same_or q p (λ e. rw (e, eq-eqb p p refl) (counter-same k p (g (counter_at k p)) (rw e at h)))
    (λ n. rw (ne_eqb p q (λ e. n (sym e))) (counter-other k p (g (counter_at k p)) q n))
changed k g false p q h = refl

unchanged : (k : Kernel) (g : ℤ → ℤ) (b : Bool) (p q : ℕ) → b && eqb p q ≡ false
    → get_or (cond b (with_counter k p (g (counter_at k p))).counters k.counters) q (pos 0) ≡ counter_at k q
unchanged k g true p q z = counter-other k p (g (counter_at k p)) q (λ e. eqb-false p q z (sym e))
unchanged k g false p q z = refl

-- a reference given the holder x where b; emptied, it may be any
given-holder : (k : Kernel) (b : Bool) (p r x : ℕ) → r < length k.references
    → get_or (cond b (with_holder k p x).references k.references) r nobody ≡ cond (b && eqb p r) x (holder_at k r)
given-holder k true p r x h =
    same_or r p (λ e. rw (e, eq-eqb p p refl) (holder-same k p x (rw e at h)))
    (λ n. rw (ne_eqb p r (λ e. n (sym e))) (holder-other k p x r n))
given-holder k false p r x h = refl

as-held : (k : Kernel) (b : Bool) (p r x : ℕ) → b && eqb p r ≡ false
    → get_or (cond b (with_holder k p x).references k.references) r nobody ≡ holder_at k r
as-held k true p r x z = holder-other k p x r (λ e. eqb-false p r z (sym e))
as-held k false p r x z = refl

emptied : (k : Kernel) (b : Bool) (p r : ℕ)
    → get_or (cond b (with_holder k p nobody).references k.references) r nobody ≡ cond (b && eqb p r) nobody (holder_at k r)
emptied k b p r = in-or-out r (length k.references) (given-holder k b p r nobody) (λ h. past b h)
  where
    past : (b : Bool) → length k.references ≤ r
        → get_or (cond b (with_holder k p nobody).references k.references) r nobody ≡ cond (b && eqb p r) nobody (holder_at k r)
    past true h =
        rw (holder-nobody k r h, holder-nobody (with_holder k p nobody) r (rw length-set h))
        (split (eqb p r) (λ e. rw e) (λ e. rw e))
    past false h = refl

-- ---- to be made ready

module _ (k : Kernel) (i : ℕ) (m : ℤ) where
  -- its row: by the cause and in the step that are at work
  abbrev pub woken_row : Thread → Thread
  woken_row t = readied t m k.cause k.steps

  -- one row is written
  pub wake-threads : (woken k i m).threads ≡ (with_thread k i (woken_row (thread_at k i))).threads
  unfolding woken
  wake-threads = rw (off-beside k (thread_at k i).state (thread_at k i).place).threads

  -- ""Made ready" stores the message and sets remaining ticks to 0"
  pub wake-row : i < length k.threads → thread_at (woken k i m) i ≡ woken_row (thread_at k i)
  wake-row h = rw wake-threads (get_or-set_same k.threads i (woken_row (thread_at k i)) blank h)

  -- nobody else's row changes
  pub wake-others : (j : ℕ) → j ≢ i → thread_at (woken k i m) j ≡ thread_at k j
  wake-others j n = rw wake-threads (get_or-set_other k.threads i j (woken_row (thread_at k i)) blank n)

  -- "taken off its queue (counter +1)": at its place, and nowhere else
  pub wake-counter : (q : ℕ) → q < length k.counters
      → counter_at (woken k i m) q ≡ cond (queued_at q (thread_at k i)) (up (counter_at k q)) (counter_at k q)
  unfolding woken
  wake-counter q h =
      rw (off-counters k (thread_at k i).state (thread_at k i).place)
      (changed k up (eqb (thread_at k i).state queued) (thread_at k i).place q h)

  -- no other counter changes
  pub wake-counter-others : (q : ℕ) → queued_at q (thread_at k i) ≡ false → counter_at (woken k i m) q ≡ counter_at k q
  unfolding woken
  wake-counter-others q z =
      rw (off-counters k (thread_at k i).state (thread_at k i).place)
      (unchanged k up (eqb (thread_at k i).state queued) (thread_at k i).place q z)

  -- its place owes one waking less, and no other place does
  pub wake-debt : (q : ℕ) → debt (counter_at (woken k i m) q) ≡ debt (counter_at k q) - bit (queued_at q (thread_at k i))
  unfolding woken
  wake-debt q =
      rw (off-counters k (thread_at k i).state (thread_at k i).place)
      (split (eqb (thread_at k i).state queued) (λ e. rw e (raised-debt k (thread_at k i).place q)) (λ e. rw e (omega arith)))

  -- "or reference (emptied)"
  pub wake-holder : (r : ℕ) → holder_at (woken k i m) r ≡ cond (suspended_at r (thread_at k i)) nobody (holder_at k r)
  unfolding woken
  wake-holder r =
      rw (off-references k (thread_at k i).state (thread_at k i).place)
      (emptied k (eqb (thread_at k i).state suspended) (thread_at k i).place r)

  -- one woken flag is set
  pub wake-woken : (woken k i m).woken ≡ (with_woken k i).woken
  unfolding woken
  wake-woken = rw (off-beside k (thread_at k i).state (thread_at k i).place).woken

  -- its woken flag is set
  pub wake-flag : i < length k.woken → woken_at (woken k i m) i ≡ true
  wake-flag h = rw wake-woken (mark-woken-same k i h)

  -- no other woken flag changes
  pub wake-flag-others : (j : ℕ) → j ≢ i → woken_at (woken k i m) j ≡ woken_at k j
  wake-flag-others j n = rw wake-woken (mark-woken-other k i j n)

  -- no call is finished by a waking
  pub wake-finished : (woken k i m).finished ≡ k.finished
  unfolding woken
  wake-finished = (off-beside k (thread_at k i).state (thread_at k i).place).finished

  -- an interrupt's answer stays
  pub wake-answer : (woken k i m).answer ≡ k.answer
  unfolding woken
  wake-answer = (off-beside k (thread_at k i).state (thread_at k i).place).answer

  -- the tables keep their lengths
  pub wake-sizes : SameSizes k (woken k i m)
  unfolding woken
  wake-sizes =
      let off = taken_off k (thread_at k i).state (thread_at k i).place in
      let set = with_thread off i (woken_row (thread_at k i)) in
      let marked = with_woken set i in
      sizes-trans (off-sizes k (thread_at k i).state (thread_at k i).place)
      (sizes-trans (thread-sizes off i (woken_row (thread_at k i)))
      (sizes-trans (mark-woken-sizes set i)
      (words-sizes marked (noted_ready k.words i (thread_at k i).state (thread_at k i).place)
      (ready-length k.words i (thread_at k i).state (thread_at k i).place
      ∙ ap (λ (w : Words). length w.waiting) (sym (off-beside k (thread_at k i).state (thread_at k i).place).words)))))

  -- nothing changes where there is no thread i
  pub wake-past : length k.threads ≤ i → length k.woken ≤ i → 16 ≤ i → woken k i m ≡ k
  unfolding woken taken_off
  wake-past h w l =
      rw (thread-blank k i h, set_out k.threads i (woken_row blank) h, set_out k.woken i true w, with-past k.words.ready i l)

  -- it is noted as ready, and no more as waiting
  pub wake-words : (woken k i m).words ≡ noted_ready k.words i (thread_at k i).state (thread_at k i).place
  unfolding woken
  wake-words = refl

-- ---- to go to sleep

module _ (k : Kernel) (i s p : ℕ) (c : Call) where
  -- only a thread of the table sleeps
  pub sleep-past : 16 ≤ i → slept k i s p c ≡ k
  unfolding slept
  sleep-past h = rw (le-ltb i 16 h)

  -- nobody is woken
  pub sleep-woken : (slept k i s p c).woken ≡ k.woken
  unfolding slept
  sleep-woken = chosen (λ (h : Kernel). h.woken ≡ k.woken) (ltb i 16) (λ e. (on-beside k i s p).woken) (λ e. refl)

  -- no call is finished
  pub sleep-finished : (slept k i s p c).finished ≡ k.finished
  unfolding slept
  sleep-finished = chosen (λ (h : Kernel). h.finished ≡ k.finished) (ltb i 16) (λ e. (on-beside k i s p).finished) (λ e. refl)

  -- an interrupt's answer stays
  pub sleep-answer : (slept k i s p c).answer ≡ k.answer
  unfolding slept
  sleep-answer = chosen (λ (h : Kernel). h.answer ≡ k.answer) (ltb i 16) (λ e. (on-beside k i s p).answer) (λ e. refl)

  -- the tables keep their lengths
  pub sleep-sizes : SameSizes k (slept k i s p c)
  unfolding slept
  sleep-sizes =
      chosen (SameSizes k) (ltb i 16)
      (λ e. sizes-trans (on-sizes k i s p)
      (sizes-trans (thread-sizes (put_on k i s p) i (asleep (thread_at k i) s p c))
      (words-sizes (with_thread (put_on k i s p) i (asleep (thread_at k i) s p c)) (noted_asleep k.words i s p)
      (asleep-length k.words i s p ∙ ap (λ (w : Words). length w.waiting) (sym (on-beside k i s p).words)))))
      (λ e. sizes-refl k)

  -- nobody else's row changes
  pub sleep-others : (j : ℕ) → j ≢ i → thread_at (slept k i s p c) j ≡ thread_at k j
  unfolding slept
  sleep-others j n =
      chosen (λ (h : Kernel). thread_at h j ≡ thread_at k j) (ltb i 16)
      (λ e. rw (on-beside k i s p).threads (get_or-set_other k.threads i j (asleep (thread_at k i) s p c) blank n)) (λ e. refl)

  -- no other counter changes
  pub sleep-counter-others : (q : ℕ) → eqb s queued && eqb p q ≡ false → counter_at (slept k i s p c) q ≡ counter_at k q
  unfolding slept
  sleep-counter-others q z =
      chosen (λ (h : Kernel). counter_at h q ≡ counter_at k q) (ltb i 16)
      (λ e. rw (on-counters k i s p) (unchanged k down (eqb s queued) p q z)) (λ e. refl)

  -- no other reference changes
  pub sleep-holder-others : (r : ℕ) → eqb s suspended && eqb p r ≡ false → holder_at (slept k i s p c) r ≡ holder_at k r
  unfolding slept
  sleep-holder-others r z =
      chosen (λ (h : Kernel). holder_at h r ≡ holder_at k r) (ltb i 16)
      (λ e. rw (on-references k i s p) (as-held k (eqb s suspended) p r i z)) (λ e. refl)

  module _ (here : i < 16) where
    -- "one that sleeps sets its last answer to 0 and 0", and keeps its call's fields
    pub sleep-row : i < length k.threads → thread_at (slept k i s p c) i ≡ asleep (thread_at k i) s p c
    unfolding slept
    sleep-row h =
        rw (lt-ltb i 16 here, (on-beside k i s p).threads) (get_or-set_same k.threads i (asleep (thread_at k i) s p c) blank h)

    -- it is noted as waiting, and no more as ready
    pub sleep-words : (slept k i s p c).words ≡ noted_asleep k.words i s p
    unfolding slept
    sleep-words = rw (lt-ltb i 16 here)

    -- "counter less 1 and sleep": at the place it sleeps on if queued, and nowhere else
    pub sleep-counter : (q : ℕ) → q < length k.counters
        → counter_at (slept k i s p c) q ≡ cond (eqb s queued && eqb p q) (down (counter_at k q)) (counter_at k q)
    unfolding slept
    sleep-counter q h = rw (lt-ltb i 16 here, on-counters k i s p) (changed k down (eqb s queued) p q h)

    -- the place owes one waking more, and no other place does
    pub sleep-debt : s ≡ queued → p < length k.counters → lt_z (pos 0) (counter_at k p) ≡ false → debt (counter_at k p) < 2147483648
        → (q : ℕ) → debt (counter_at (slept k i s p c) q) ≡ debt (counter_at k q) + bit (eqb p q)
    unfolding slept
    sleep-debt e h z l q = rw (lt-ltb i 16 here, on-counters k i s p, e) (lowered-debt k p q h z l)

    -- "Reference r holds i exactly if i is suspended on r"
    pub sleep-holder : (r : ℕ) → r < length k.references
        → holder_at (slept k i s p c) r ≡ cond (eqb s suspended && eqb p r) i (holder_at k r)
    unfolding slept
    sleep-holder r h = rw (lt-ltb i 16 here, on-references k i s p) (given-holder k (eqb s suspended) p r i h)

-- ---- the end of a call

module _ (k : Kernel) (i : ℕ) (m : ℤ) (d : ℕ) where
  -- "For an interrupt they are the step's answer, and no finished bit stands for it"
  pub finish-interrupt : i ≡ nobody → finished k i m d ≡ with_answer k (record { message = m; datum = d })
  unfolding finished
  finish-interrupt e = rw (eq-eqb i nobody e)

  -- no counter changes
  pub finish-counters : (finished k i m d).counters ≡ k.counters
  unfolding finished
  finish-counters = chosen (λ (h : Kernel). h.counters ≡ k.counters) (eqb i nobody) (λ e. refl) (λ e. refl)

  -- no reference changes
  pub finish-references : (finished k i m d).references ≡ k.references
  unfolding finished
  finish-references = chosen (λ (h : Kernel). h.references ≡ k.references) (eqb i nobody) (λ e. refl) (λ e. refl)

  -- no word changes
  pub finish-words : (finished k i m d).words ≡ k.words
  unfolding finished
  finish-words = chosen (λ (h : Kernel). h.words ≡ k.words) (eqb i nobody) (λ e. refl) (λ e. refl)

  -- nobody is woken
  pub finish-woken : (finished k i m d).woken ≡ k.woken
  unfolding finished
  finish-woken = chosen (λ (h : Kernel). h.woken ≡ k.woken) (eqb i nobody) (λ e. refl) (λ e. refl)

  -- the tables keep their lengths
  pub finish-sizes : SameSizes k (finished k i m d)
  unfolding finished
  finish-sizes =
      let a : Answer = record { message = m; datum = d } in
      let set = with_thread k i (answered (thread_at k i) a) in
      chosen (SameSizes k) (eqb i nobody) (λ e. answer-sizes k a)
      (λ e. sizes-trans (thread-sizes k i (answered (thread_at k i) a)) (mark-finished-sizes set i))

  -- nobody else's row changes
  pub finish-others : (j : ℕ) → j ≢ i → thread_at (finished k i m d) j ≡ thread_at k j
  unfolding finished
  finish-others j n =
      chosen (λ (h : Kernel). thread_at h j ≡ thread_at k j) (eqb i nobody) (λ e. refl)
      (λ e. thread-other k i (answered (thread_at k i) (record { message = m; datum = d })) j n)

  -- no other finished flag changes
  pub finish-flag-others : (j : ℕ) → j ≢ i → finished_at (finished k i m d) j ≡ finished_at k j
  unfolding finished
  finish-flag-others j n =
      chosen (λ (h : Kernel). finished_at h j ≡ finished_at k j) (eqb i nobody) (λ e. refl) (λ e. mark-finished-other k i j n)

  -- what an answer keeps of a row, every row keeps: state, place, ticks, pending flags and message
  pub finish-kept : {A : Type 0} (f : Thread → A) → ((a : Answer) → f (answered (thread_at k i) a) ≡ f (thread_at k i))
      → (j : ℕ) → f (thread_at (finished k i m d) j) ≡ f (thread_at k j)
  unfolding finished
  finish-kept f e j =
      let a : Answer = record { message = m; datum = d } in
      chosen (λ (h : Kernel). f (thread_at h j) ≡ f (thread_at k j)) (eqb i nobody) (λ n. refl)
      (λ n. thread-kept k i (answered (thread_at k i) a) f (e a) j)

  module _ (thread : i ≢ nobody) where
    -- a finished call is no more: its fields are 0, and its answer is the last answer
    pub finish-row : i < length k.threads
        → thread_at (finished k i m d) i ≡ answered (thread_at k i) (record { message = m; datum = d })
    unfolding finished
    finish-row h =
        rw (ne_eqb i nobody thread) (thread-same k i (answered (thread_at k i) (record { message = m; datum = d })) h)

    -- its finished flag is set
    pub finish-flag : i < length k.finished → finished_at (finished k i m d) i ≡ true
    unfolding finished
    finish-flag h = rw (ne_eqb i nobody thread) (mark-finished-same k i h)

    -- an interrupt's answer stays
    pub finish-answer : (finished k i m d).answer ≡ k.answer
    unfolding finished
    finish-answer = rw (ne_eqb i nobody thread)

-- ---- what cannot be had at once

module _ (k : Kernel) (i s p : ℕ) (c : Call) where
  -- "a timeout of 0 answers -1 at once, changing nothing else"
  pub block-immediate : c.timeout ≡ 0 → blocked k i s p c ≡ finished k i timed_out 0
  unfolding blocked
  block-immediate e = rw (eq-eqb c.timeout 0 e)

  -- any other timeout goes to sleep
  pub block-sleeps : c.timeout ≢ 0 → blocked k i s p c ≡ slept k i s p c
  unfolding blocked
  block-sleeps n = rw (ne_eqb c.timeout 0 n)

  -- one of the two
  pub block-cases : (P : Kernel → Type 0) → (c.timeout ≡ 0 → P (finished k i timed_out 0)) → (c.timeout ≢ 0 → P (slept k i s p c))
      → P (blocked k i s p c)
  block-cases P f g =
      same_or c.timeout 0 (λ e. rw (block-immediate e) (f e)) (λ n. rw (block-sleeps n) (g n))
