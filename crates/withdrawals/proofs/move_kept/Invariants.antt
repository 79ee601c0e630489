-- What is kept of the records gone through so far is at the front, and nothing is written at or behind the one that is read.
use mathlib.Core.Bool.{not}
use lib.Dec.{eqb}
use Rattle.std.proofs.lemmas.List.Filters.{FiltersInPlace}
use Rattle.withdrawals.proofs.move_kept.Given as goal

abbrev pub invariant-loop-i : goal.invariant-loop-i
invariant-loop-i l = FiltersInPlace (λ m. not (eqb m.station l.station)) l.initial.messages l.messages l.kept l.i
