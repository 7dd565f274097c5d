use Rattle.std.proofs.Common.{◌≡◌, ◌∙◌, subst}
use Rattle.node_end.specs.FlatTexts.{HasNoFlatForm}
use Rattle.comparison_files.specs.Faults.{IfFaultOf}
use Rattle.program_tree.specs.View.{program_view}
use Rattle.comparison_files.proofs.ReadTexts.{program_read}
use Rattle.comparison_files.proofs.Refusals.{ManyNodes, program_refused}
use Rattle.comparison_files.proofs.accept.program_in.Goals as goal

pub returns-in-Err-clause-refused : goal.returns-in-Err-clause-refused
returns-in-Err-clause-refused c = λ bytes kept.
    let held = rw c.in-Some.is at kept in
    let same : c.deref.result.now ≡ bytes = c.deref.ensures.value ∙ held.0 in
    subst (λ b. IfFaultOf c.args.source (HasNoFlatForm b) (ManyNodes b) c.program_fault.result) same
    (rw c.program_fault.ensures (program_refused c.args.source c.deref.result.now c.in-Err.fault c.in-Err.ensures.refused))

pub returns-in-Ok-clause-read : goal.returns-in-Ok-clause-read
returns-in-Ok-clause-read c = program_read c.deref.result.now (program_view c.in-Ok.accepted.program) c.in-Ok.ensures.program c.in-Ok.ensures.fit
