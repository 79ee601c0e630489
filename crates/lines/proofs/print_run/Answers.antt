-- The run, and its report.
use Rattle.std.proofs.Common.{ℕ, arith}
use Rattle.std.proofs.lemmas.List.{length-replicate}
use Rattle.wire.proofs.BudgetLaws.{events_few}
use Rattle.lines.proofs.ReportLaws.{run_printed}
use Rattle.lines.proofs.print_run.Goals as goal

pub put_report-requires : goal.put_report-requires
put_report-requires c =
    let few = events_few c.args.shop c.args.owners.now _ c.args.list.now _ _ c.run_list-outcome.result _ _ c.run_list-outcome.ensures in
    record { output = omega (arith, few); rows = omega (arith, few, c.run_list-outcome.auto.log, length-replicate {A = ℕ} 65536 0) }

pub returns : goal.returns
returns c =
    run_printed c.args.shop c.args.owners.now c.args.list.now _ _ c.run_list-outcome.result _ _ c.args.output.now c.put_report.result c.put_report.new.output c.run_list-outcome.ensures c.put_report.ensures (length-replicate {A = ℕ} 65536 0) (omega arith)
