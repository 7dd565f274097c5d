use Rattle.flat_end.specs.FlatTexts.HasNoFlatForm.{by_program}
use Rattle.front_end.proofs.Passes.{file_first}
use Rattle.rules.specs.declared.fault.Fault.TheVariants.{Refused}
use Rattle.flat_end.proofs.flat.accept_short.Goals as goal

pub returns-in-Err-Refused-clause-refused : goal.returns-in-Err-Refused-clause-refused
returns-in-Err-Refused-clause-refused c =
    let no = rw c.in-Err-Refused.field-0-is at c.in-Err-Refused.ensures.refused in
    rw c.in-Err-Refused.field-0-is (by_program (file_first c.args.text.now (Refused c.in-Err-Refused.refusal) no))
