-- The parts of a listing, with the numbers of their order in docs/LISTING.md.
use Rattle.std.specs.Prelude.{ℕ}
use Rattle.text.specs.declared.parts.Part.{Part}
use Rattle.text.specs.declared.parts.Part.TheVariants

-- the number of a part
abbrev pub part_number : Part → ℕ
part_number TheVariants.Step = 0
part_number TheVariants.Answer = 1
part_number TheVariants.Threads = 2
part_number TheVariants.Semaphores = 3
part_number TheVariants.Queues = 4
part_number TheVariants.References = 5
part_number TheVariants.Mailboxes = 6
part_number TheVariants.Pools = 7
part_number TheVariants.ReadyWord = 8
part_number TheVariants.SemaphoreWords = 9
part_number TheVariants.QueueWords = 10
part_number TheVariants.MailboxWords = 11
part_number TheVariants.PoolWords = 12
part_number TheVariants.Clock = 13
part_number TheVariants.Steps = 14
part_number TheVariants.Answered = 15
part_number TheVariants.Wakings = 16
part_number TheVariants.MailboxSums = 17
part_number TheVariants.PoolSums = 18
part_number TheVariants.ObjectSums = 19
part_number TheVariants.ListHead = 20
part_number TheVariants.WhyHead = 21
