-- The kinds of step, with document 01's numbers.
use Rattle.std.specs.Prelude.{ℕ, ◌≡◌, true, Result, MatchResult, ◌||◌, eqb, ltb}
use Rattle.kernel.specs.declared.refusals.Refusal.{Refusal}
use Rattle.kernel.specs.declared.refusals.Refusal.TheVariants
use Rattle.kernel.specs.declared.kinds.Kind.{Kind}
use Rattle.kernel.specs.declared.kinds.Kind.TheVariants.{Tick, SemaphoreWait, Signal, SemaphoreReset, BinarySignal, QueueWait, ReleaseFirst, ReleaseAll, Suspend, Resume, SleepFor, SleepUntil, EventSignal, EventWait, Post, PostAhead, Fetch, MailboxReset, MailboxResume, Alloc, Free, Add}

-- the number of a kind
abbrev pub kind_number : Kind → ℕ
kind_number Tick = 1
kind_number SemaphoreWait = 2
kind_number Signal = 3
kind_number SemaphoreReset = 4
kind_number BinarySignal = 5
kind_number QueueWait = 6
kind_number ReleaseFirst = 7
kind_number ReleaseAll = 8
kind_number Suspend = 9
kind_number Resume = 10
kind_number SleepFor = 11
kind_number SleepUntil = 12
kind_number EventSignal = 13
kind_number EventWait = 14
kind_number Post = 15
kind_number PostAhead = 16
kind_number Fetch = 17
kind_number MailboxReset = 18
kind_number MailboxResume = 19
kind_number Alloc = 20
kind_number Free = 21
kind_number Add = 22

-- the kind with this number, or refusal 2 for a number that is none's
abbrev pub Decodes : ℕ → Result Kind Refusal → Type 0
Decodes n r = MatchResult r (λ kind. kind_number kind ≡ n) (λ why. (why ≡ TheVariants.Kind) × ((eqb n 0 || ltb 22 n) ≡ true))
