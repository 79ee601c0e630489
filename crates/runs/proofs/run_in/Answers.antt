-- What the run over the records leaves is what the fields hold.
use Rattle.std.proofs.Common.{sym, ap, ◌∙◌}
use Rattle.std.proofs.lemmas.Result.{err_from_is_err_and}
use Rattle.records.specs.Table.{laid_over}
use Rattle.runs.proofs.FieldLaws.{cut_whole, list_refused, list_granted}
use Rattle.runs.proofs.run_in.Goals as goal

pub returns-in_err-list_verdict : goal.returns-in_err-list_verdict
returns-in_err-list_verdict c =
    let s = c.args in
    let p = err_from_is_err_and c.from_residual.result c.from_residual.ensures.1 in
    rw (p.1, p.2)
    (list_refused s.shop s.owners.now s.stations.now s.arrivals.now s.relatives.now s.lengths.now s.sent.now s.log.now s.budget
    c.requires.set c.requires.whole s.table.now c.requires.room c.put_records.new.table
    (c.put_records.ensures ∙ ap (laid_over s.table.now) (cut_whole s.stations.now s.arrivals.now s.relatives.now s.lengths.now s.sent.now c.requires.whole))
    _ (sym c.list_verdict.ensures ∙ c.in_err-list_verdict.was))

pub returns : goal.returns
returns c =
    let s = c.args in
    let run = c.run_granted-outcome in
    list_granted s.shop s.owners.now s.stations.now s.arrivals.now s.relatives.now s.lengths.now s.sent.now s.log.now s.budget
    c.requires.set c.requires.whole s.table.now c.requires.room c.put_records.new.table
    (c.put_records.ensures ∙ ap (laid_over s.table.now) (cut_whole s.stations.now s.arrivals.now s.relatives.now s.lengths.now s.sent.now c.requires.whole))
    (sym c.list_verdict.ensures ∙ c.in_ok-list_verdict.was) run.result run.new.list run.new.log run.ensures c.put_slots.new.sent c.put_slots.ensures
