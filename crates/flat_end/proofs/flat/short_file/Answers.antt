use Rattle.std.proofs.Common.{ℕ, List}
use Rattle.source_tree.specs.SyntaxView.{file_view}
use Rattle.program_tree.specs.View.{program_view}
use Rattle.typed_programs.specs.Programs.{IsTypedProgram}
use Rattle.front_end.specs.Texts.{HasFile}
use Rattle.front_end.proofs.Passes.{ok_more, of_file}
use Rattle.flat_end.specs.FlatTexts.HasNoFlatForm.{by_program}
use Rattle.flat_end.proofs.flat.short_file.Goals as goal

pub returns-in-Ok-clause-typed : goal.returns-in-Ok-clause-typed
returns-in-Ok-clause-typed c =
    let f = file_view c.in-Ok.names.file.now in
    let g = file_view c.args.file.now in
    ok_more c.short_program.result (λ p. (text : List ℕ) → HasFile text f → IsTypedProgram (program_view p)) (λ p. (text : List ℕ) → HasFile text g → IsTypedProgram (program_view p))
    (λ p each. of_file (λ text. IsTypedProgram (program_view p)) f g c.in-Ok.ensures.file each) c.short_program.ensures.typed

pub returns-in-Err-Refused-clause-refused : goal.returns-in-Err-Refused-clause-refused
returns-in-Err-Refused-clause-refused c =
    let no = rw c.in-Err-Refused.field-0-is at c.in-Err-Refused.ensures.refused in
    λ text h. rw c.in-Err-Refused.refusal-is (by_program (no text h))
