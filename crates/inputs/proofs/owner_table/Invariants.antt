-- After i turns the first i owners stand over the free places.
use mathlib.Core.Path.{◌≡◌}
use lib.Seq.{paste}
use lib.ListN.{length, replicate}
use Rattle.inputs.proofs.owner_table.Given as goal

abbrev pub invariant-loop-i : goal.invariant-loop-i
invariant-loop-i l = (l.table ≡ paste (replicate 1024 255) 0 l.owners l.i) × (length l.table ≡ 1024)
