-- A kind's number says which it is, and what a number decodes to is one.
use Rattle.std.proofs.Common.{◌≡◌, ℕ, ◌==◌, ◌<◌, ◌||◌, true, cond, refl, sym, ap, ◌∙◌, arith, Result, Ok, Err, eqb, ltb}
use Rattle.kernel.specs.declared.refusals.Refusal.{Refusal}
use Rattle.kernel.specs.declared.kinds.Kind.{Kind}
use Rattle.kernel.specs.declared.kinds.Kind.TheVariants.{Tick, SemaphoreWait, Signal, SemaphoreReset, BinarySignal, QueueWait, ReleaseFirst, ReleaseAll, Suspend, Resume, SleepFor, SleepUntil, EventSignal, EventWait, Post, PostAhead, Fetch, MailboxReset, MailboxResume, Alloc, Free, Add}
use Rattle.kernel.proofs.Cases.{contrary}
use Rattle.kernel.specs.Kinds.{kind_number, Decodes}

-- the kind of a number
abbrev kind_at : ℕ → Kind
kind_at n =
    cond (n == 1) Tick (cond (n == 2) SemaphoreWait (cond (n == 3) Signal (cond (n == 4) SemaphoreReset
    (cond (n == 5) BinarySignal (cond (n == 6) QueueWait (cond (n == 7) ReleaseFirst (cond (n == 8) ReleaseAll
    (cond (n == 9) Suspend (cond (n == 10) Resume (cond (n == 11) SleepFor (cond (n == 12) SleepUntil (cond (n == 13) EventSignal
    (cond (n == 14) EventWait (cond (n == 15) Post (cond (n == 16) PostAhead (cond (n == 17) Fetch (cond (n == 18) MailboxReset
    (cond (n == 19) MailboxResume (cond (n == 20) Alloc (cond (n == 21) Free Add))))))))))))))))))))

kind-at-is : (a : Kind) → kind_at (kind_number a) ≡ a
kind-at-is Tick = refl
kind-at-is SemaphoreWait = refl
kind-at-is Signal = refl
kind-at-is SemaphoreReset = refl
kind-at-is BinarySignal = refl
kind-at-is QueueWait = refl
kind-at-is ReleaseFirst = refl
kind-at-is ReleaseAll = refl
kind-at-is Suspend = refl
kind-at-is Resume = refl
kind-at-is SleepFor = refl
kind-at-is SleepUntil = refl
kind-at-is EventSignal = refl
kind-at-is EventWait = refl
kind-at-is Post = refl
kind-at-is PostAhead = refl
kind-at-is Fetch = refl
kind-at-is MailboxReset = refl
kind-at-is MailboxResume = refl
kind-at-is Alloc = refl
kind-at-is Free = refl
kind-at-is Add = refl

-- two kinds of one number are the same
pub kind-one : {a b : Kind} → kind_number a ≡ kind_number b → a ≡ b
kind-one {a} {b} e = sym (kind-at-is a) ∙ ap kind_at e ∙ kind-at-is b

-- no kind has a number that decodes to a refusal
kind-within : (a : Kind) → (eqb (kind_number a) 0 || ltb 22 (kind_number a)) ≡ true → ⊥
kind-within Tick e = contrary e refl
kind-within SemaphoreWait e = contrary e refl
kind-within Signal e = contrary e refl
kind-within SemaphoreReset e = contrary e refl
kind-within BinarySignal e = contrary e refl
kind-within QueueWait e = contrary e refl
kind-within ReleaseFirst e = contrary e refl
kind-within ReleaseAll e = contrary e refl
kind-within Suspend e = contrary e refl
kind-within Resume e = contrary e refl
kind-within SleepFor e = contrary e refl
kind-within SleepUntil e = contrary e refl
kind-within EventSignal e = contrary e refl
kind-within EventWait e = contrary e refl
kind-within Post e = contrary e refl
kind-within PostAhead e = contrary e refl
kind-within Fetch e = contrary e refl
kind-within MailboxReset e = contrary e refl
kind-within MailboxResume e = contrary e refl
kind-within Alloc e = contrary e refl
kind-within Free e = contrary e refl
kind-within Add e = contrary e refl

-- a number decodes to one kind, or to the refusal
pub decodes-one : (n : ℕ) {x y : Result Kind Refusal} → Decodes n x → Decodes n y → x ≡ y
decodes-one n {x = Ok a} {y = Ok b} p q = ap Ok (kind-one (p ∙ sym q))
decodes-one n {x = Ok a} {y = Err b} p q = absurd (kind-within a (ap (λ m. eqb m 0 || ltb 22 m) p ∙ q.1))
decodes-one n {x = Err a} {y = Ok b} p q = absurd (kind-within b (ap (λ m. eqb m 0 || ltb 22 m) q ∙ p.1))
decodes-one n {x = Err a} {y = Err b} p q = ap Err (p.0 ∙ sym q.0)
