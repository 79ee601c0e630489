-- The first i places hold the slots of sending of the first i records.
use Rattle.std.proofs.Common.{◌≡◌, take, map}
use Rattle.records.proofs.put_slots.Given as goal

abbrev pub invariant-loop-i : goal.invariant-loop-i
invariant-loop-i l = take l.i l.slot-items ≡ take l.i (map (λ m. m.sent) l.table)
