-- The code's test of sizes passes exactly where each is within its limits.
use Rattle.std.specs.Prelude.{◌≡◌, ◌↔◌, true, false}
use Rattle.library.specs.declared.sizes.Sizes.{Sizes}
use Rattle.library.specs.Sizes.{sizes_fit}
use Rattle.kernel.proofs.Cases.{contrary}
use Rattle.promises.specs.Paper.Together.{SizesFit}
use Rattle.promises.specs.Together.Good.{GoodSizes}
use Rattle.promises.specs.Together.PlaceTests.{sizes-good, good-sizes}

pub fit-limits : (z : Sizes) → sizes_fit z ≡ true → SizesFit z
fit-limits z e =
    let g : GoodSizes z = sizes-good z e in
    record {
      threads = g.threads;
      semaphores = g.semaphores;
      queues = g.queues;
      references = g.references;
      mailboxes = g.mailboxes;
      pools = g.pools;
      slots = g.slots;
    }

pub limits-fit : (z : Sizes) → SizesFit z → sizes_fit z ≡ true
limits-fit z g =
    good-sizes z
    (record {
      threads = g.threads;
      semaphores = g.semaphores;
      queues = g.queues;
      references = g.references;
      mailboxes = g.mailboxes;
      pools = g.pools;
      slots = g.slots;
    })

pub limits-exactly : (z : Sizes) → (sizes_fit z ≡ true) ↔ SizesFit z
limits-exactly z = (fit-limits z, limits-fit z)

-- what does not pass is not within its limits
pub out-of-limits : (z : Sizes) → sizes_fit z ≡ false → SizesFit z → ⊥
out-of-limits z f g = contrary (limits-fit z g) f
