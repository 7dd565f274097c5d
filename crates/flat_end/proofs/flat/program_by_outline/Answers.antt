use Rattle.flat_end.specs.FlatTexts.HasNoFlatForm.{by_program}
use Rattle.flat_end.proofs.flat.program_by_outline.Goals as goal

pub returns-in-Err-Refused-clause-refused : goal.returns-in-Err-Refused-clause-refused
returns-in-Err-Refused-clause-refused c =
    let no = rw c.in-Err-Refused.field-0-is at c.in-Err-Refused.ensures.refused in
    λ text h. rw c.in-Err-Refused.refusal-is (by_program (no text h))
