-- Fields that make no list are refused; the others are copied.
use Rattle.std.proofs.Common.{sym, ◌∙◌}
use Rattle.runs.proofs.FieldLaws.{fields_refused}
use Rattle.runs.proofs.run_fields.Goals as goal

pub returns-then-not-is_whole : goal.returns-then-not-is_whole
returns-then-not-is_whole c =
    let s = c.args in
    fields_refused s.shop s.owners.now s.stations.now s.arrivals.now s.relatives.now s.lengths.now s.sent.now s.log.now s.budget
    (sym c.setup_verdict.ensures ∙ c.in_ok-setup_verdict.was) c.if-not-is_whole.ensures
