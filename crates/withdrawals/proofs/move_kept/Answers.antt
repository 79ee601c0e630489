-- One record more is gone through: kept at the front, or passed over.
use Rattle.std.proofs.Common.{◌<◌, length, arith, ap, eq-eqb, ne_eqb}
use mathlib.Core.Bool.{not}
use Rattle.std.proofs.lemmas.List.{get_or_default}
use Rattle.std.proofs.lemmas.List.Filters.{FiltersInPlace-more_no, FiltersInPlace-more_set}
use Rattle.withdrawals.proofs.move_kept.Goals as goal
use Rattle.withdrawals.proofs.move_kept.Goals.{then-message-station, else-message-station}

pub loop-i-preserved : goal.loop-i-preserved
loop-i-preserved c =
    let l = c.loop-i in
    let here : l.i < length l.messages = omega arith in
    elim c.if-message-station.branch [
      | then-message-station w ↦ rw (w.messages-is, w.kept-is)
          (FiltersInPlace-more_set l.invariant here (ap not (ne_eqb _ _ w.if-message-station.true)) (get_or_default _ _ _ _ here))
      | else-message-station w ↦ rw (w.messages-is, w.kept-is)
          (FiltersInPlace-more_no l.invariant here (ap not (eq-eqb _ _ w.if-message-station.false)) (get_or_default _ _ _ _ here))
    ]
