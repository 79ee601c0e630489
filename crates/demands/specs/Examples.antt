-- The claim on the worked example of a run (docs/RULES.md, section 10): what it asks is met, its bound reached.
--
--   one_each            each of the two stations owns one index
--   collision           after three events two stations collide on the time leaf 2
--   search              the rows of that collision and of the search behind it
--   quiet               nothing arrives while the static search goes on
--   cost                a collision and two sendings: one slot lost, which is X(2, 2)
use Rattle.std.specs.Prelude.{◌≡◌, refl, List, ℕ, zero, suc, ◌+◌, length}
use Rattle.std.proofs.Common.{arith}
use Rattle.rows.specs.declared.Row.{Row}
use Rattle.trees.specs.Search.{silences, collisions}
use Rattle.trees.specs.Worst.{worst_of}
use Rattle.messages.specs.Message.{better, first_among}
use Rattle.contention.specs.Contenders.{owns, entry, contenders_below}
use Rattle.inputs.specs.Inputs.{table_of}
use Rattle.wire.specs.Examples.{shop, owners, three}
use Rattle.demands.specs.Claims.{OneIndexEach, search_from, NoneArrives, Quiet, LeafCollision, world_at, rows_after}

pub one_each : OneIndexEach shop owners
one_each zero h = refl
one_each (suc zero) h = refl
one_each (suc (suc s)) h = absurd (omega arith)

pub collision : LeafCollision shop (table_of owners) (world_at shop owners three 3) 2
unfolding better first_among owns entry contenders_below
collision = record { leaf = 2; stands = refl; contend = refl; collide = omega arith }

-- the collision's row and the static rows behind it, whatever follows
abbrev pub search : List Row
search = search_from (rows_after shop owners three 3 4096)

-- all three messages arrive in slot 0
early : (from to : ℕ) → NoneArrives three from to
early from to zero h l = absurd (omega arith)
early from to (suc zero) h l = absurd (omega arith)
early from to (suc (suc zero)) h l = absurd (omega arith)
early from to (suc (suc (suc i))) h l = absurd (omega arith)

pub quiet : Quiet three 3 search
unfolding better first_among owns entry contenders_below
quiet = (early 3 3, (early 3 4, (early 3 7, tt)))

pub cost : (length search ≡ 3) × (silences search + collisions search ≡ 1) × (worst_of 2 1 2 ≡ 1)
unfolding better first_among owns entry contenders_below
cost = (refl, refl, refl)
