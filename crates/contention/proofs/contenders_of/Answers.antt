-- The tally so far is that of the stations looked at.
use Rattle.std.proofs.Common.{◌∙◌, ap, arith}
use Rattle.contention.specs.Contenders.{counted}
use Rattle.contention.proofs.ContendLaws.{tally_start, tally_next, tally_few}
use Rattle.contention.proofs.contenders_of.Goals as goal
use Rattle.contention.proofs.contenders_of.Goals.{in-Some, in_default}

pub loop-station-init : goal.loop-station-init
loop-station-init c =
    let s = c.args in
    tally_start s.shop s.table.now s.list.now s.state

pub overflow_add-tally : goal.overflow_add-tally
overflow_add-tally c =
    let s = c.args in
    let l = c.loop-station in
    let few = tally_few s.shop s.table.now s.list.now s.state l.station l.tally l.invariant in
    omega (arith, c.requires.0.sound.stations)

pub loop-station-preserved : goal.loop-station-preserved
loop-station-preserved c =
    let s = c.args in
    let l = c.loop-station in
    let next = tally_next s.shop s.table.now s.list.now s.state l.station l.tally c.match-entry_of.tally l.invariant in
    elim c.match-entry_of.branch [
      | in-Some w ↦ next (w.tally-is ∙ ap (counted l.tally) w.in-Some.ensures)
      | in_default w ↦ next (w.tally-is ∙ ap (counted l.tally) w.in_default.ensures)
    ]
