-- The refusals, in document 01's order.
use Rattle.std.specs.Prelude.{ℕ, ◌%◌, Bool, true, false, cond, not, ◌&&◌, ◌||◌, List, eqb, leb, ltb}
use Rattle.kernel.specs.declared.time.SystemTime.{SystemTime}
use Rattle.kernel.specs.declared.clock.Clock.{Clock}
use Rattle.kernel.specs.Numbers.{nobody, immediate, infinite}
use Rattle.kernel.specs.Time.{differed}
use Rattle.kernel.specs.Tables.{holder_in}
use Rattle.library.specs.declared.calls.Step.{Step}
use Rattle.library.specs.declared.sizes.Sizes.{Sizes}
use Rattle.library.specs.declared.tables.Plant.{Plant}
use Rattle.library.specs.declared.tables.Pool.{Pool}
use Rattle.library.specs.Tables.{pool_in}
use Rattle.library.specs.Pool.{absent, out, mark_at}
use Rattle.library.specs.Acting.{kernel_waits}
use Rattle.library.specs.Settling.{is_box_call, running_in}
use Rattle.rules.specs.Hanging.{hangs_together}

-- 2: "kind not 1 to 22"
abbrev pub kind_fits : ℕ → Bool
kind_fits kind = leb 1 kind && leb kind 22

-- 3: "caller is neither 255 nor the running thread"
abbrev pub caller_fits : ℕ → ℕ → Bool
caller_fits running caller = eqb caller nobody || eqb caller running

-- 4: "tick from a thread; 2, 6, 9, 11, 12, 14 from an interrupt; 15, 16, 17, 20 from an interrupt with timeout not 0"
abbrev pub context_fits : Step → Bool
context_fits s =
    cond (eqb s.caller nobody)
    (cond (kernel_waits s.kind) false (cond (is_box_call s.kind) (eqb s.timeout immediate) true))
    (not (eqb s.kind 1))

-- 5: "object not in the configuration (13: no such thread)": how many there are for a kind, or 256 for a kind without an object
abbrev pub object_limit : Sizes → ℕ → ℕ
object_limit z kind =
    cond (leb kind 1) 256
    (cond (leb kind 5) z.semaphores
    (cond (leb kind 8) z.queues
    (cond (leb kind 10) z.references
    (cond (eqb kind 13) z.threads
    (cond (leb kind 14) 256
    (cond (leb kind 19) z.mailboxes z.pools))))))

-- neither "0 or 4294967295 ticks"
abbrev pub is_span : ℕ → Bool
is_span ticks = leb 1 ticks && ltb ticks infinite

-- 6: "reset above 2147483647; pool object above 31; event wait for mask 0; sleep, for or until, of 0 or 4294967295 ticks"
abbrev pub value_fits : SystemTime → Step → Bool
value_fits now s =
    cond (eqb s.kind 4) (leb s.a 2147483647)
    (cond (eqb s.kind 11) (is_span s.timeout)
    (cond (eqb s.kind 12) (is_span (differed now (record { 0 = s.a })).0)
    (cond (eqb s.kind 14) (leb 1 s.a)
    (cond (eqb s.kind 21) (leb s.a 31) (cond (eqb s.kind 22) (leb s.a 31) true)))))

-- 7: "suspend on a held reference; free of an object not out; add of one not absent"; of document 02: "the first case of 7 is struck out"
abbrev pub state_fits : List ℕ → List Pool → Step → Bool
state_fits references pools s =
    cond (eqb s.kind 9) (eqb (holder_in references s.object) nobody)
    (cond (eqb s.kind 21) (eqb (mark_at (pool_in pools s.object) (s.a % 256)) out)
    (cond (eqb s.kind 22) (eqb (mark_at (pool_in pools s.object) (s.a % 256)) absent) true))

-- "Refusal numbers, in the order of checking": that of the first test that fails, of the fifth where it holds; 0 is an accepted step
abbrev pub first_failing : Bool → Bool → Bool → Bool → Bool → Bool → Bool → ℕ
first_failing hangs kind caller context outside value state =
    cond hangs (cond kind (cond caller (cond context (cond outside 5 (cond value (cond state 0 7) 6)) 4) 3) 2) 1

-- the number of a step's refusal, all seven tests made
unfoldable pub refusal_of : Plant → Clock → Step → ℕ
refusal_of p c s =
    first_failing (hangs_together p c) (kind_fits s.kind) (caller_fits (running_in p) s.caller) (context_fits s)
    (leb (object_limit p.sizes s.kind) s.object) (value_fits c.time s)
    (state_fits p.kernel.references p.pools s)
