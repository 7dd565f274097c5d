use Rattle.program_tree.specs.View.{program_view}
use Rattle.flat_end.specs.FlatTexts.HasNoFlatForm.{by_size}
use Rattle.flat_end.proofs.flat.accept_flat.Goals as goal

pub returns-in-Err-Refused-clause-refused : goal.returns-in-Err-Refused-clause-refused
returns-in-Err-Refused-clause-refused c =
    let fault = rw c.in-Err-Refused.field-0-is at c.in-Err-Refused.ensures.refused in
    by_size (program_view c.in_ok-program.program) c.in_ok-program.ensures.program fault.0 fault.1
