-- A list that is granted came whole.
use Rattle.std.proofs.Common.{sym, ◌∙◌, subst, length}
use Rattle.std.specs.Prelude.{◌≡◌, Bool}
use Rattle.refusals.specs.Numbers.{granted}
use Rattle.inputs.specs.Inputs.{run_verdict}
use Rattle.inputs.proofs.GrantLaws.{allowed}
use Rattle.wire.proofs.run_list.Goals as goal

pub run_granted-requires : goal.run_granted-requires
run_granted-requires c =
    let s = c.args in
    let e = sym c.run_verdict.ensures ∙ c.in_ok-run_verdict.was in
    subst (λ (b : Bool). run_verdict s.shop s.owners.now b s.list.now s.budget (length s.log.now) ≡ granted) (allowed s.shop s.owners.now s.whole s.list.now s.budget _ e).complete e
