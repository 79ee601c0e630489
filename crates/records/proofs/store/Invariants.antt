-- The first i places hold the first i records of the table.
use Rattle.std.proofs.Common.{◌≡◌, take}
use Rattle.records.proofs.store.Given as goal

abbrev pub invariant-loop-i : goal.invariant-loop-i
invariant-loop-i l = take l.i l.place-items ≡ take l.i l.table
