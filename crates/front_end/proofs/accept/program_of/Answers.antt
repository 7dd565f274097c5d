use Rattle.std.proofs.Common.{◌≡◌, ℕ, List, Some}
use Rattle.source_tree.specs.Syntax.{PouData}
use Rattle.naming.specs.FileScope.{pou_at}
use Rattle.st_names.specs.Bound.{program_number}
use Rattle.program_tree.specs.View.{program_view}
use Rattle.typed_programs.specs.Programs.{IsTypedProgram}
use Rattle.st_types.specs.CheckedFiles.{file_checked}
use Rattle.st_types.specs.LargePous.{runs_large, IsRefusedIf}
use Rattle.rules.specs.Faults.{IfRefused}
use Rattle.front_end.specs.Texts.{HasFile, StatesProgram, StatesNoProgram}
use Rattle.front_end.proofs.TypedTexts.{text_typed}
use Rattle.front_end.proofs.Passes.{ok_more, err_more, program_read, large_refused}
use Rattle.front_end.proofs.accept.program_of.Goals as goal

pub returns-clause-program : goal.returns-clause-program
returns-clause-program c = program_read (file_checked c.args.checked) c.program.result c.requires c.program.ensures.kept c.program.ensures.room c.program.ensures.few c.program.ensures.typed

pub returns-clause-typed : goal.returns-clause-typed
returns-clause-typed c =
    let f = file_checked c.args.checked in
    ok_more c.program.result (λ p. (text : List ℕ) → HasFile text f → StatesProgram text (program_view p)) (λ p. (text : List ℕ) → HasFile text f → IsTypedProgram (program_view p)) (λ p each text h. text_typed text (program_view p) (each text h))
    (program_read f c.program.result c.requires c.program.ensures.kept c.program.ensures.room c.program.ensures.few c.program.ensures.typed)

pub returns-clause-refused : goal.returns-clause-refused
returns-clause-refused c =
    let f = file_checked c.args.checked in
    err_more c.program.result (λ e. (n : ℕ) (q : PouData) → program_number f ≡ Some n → pou_at f n ≡ Some q → IfRefused (IsRefusedIf (runs_large f n q)) e)
    (λ e. (text : List ℕ) → HasFile text f → IfRefused (StatesNoProgram text) e)
    (λ e large text h. large_refused text f e h c.requires c.program.ensures.kept c.program.ensures.room large) c.program.ensures.refused
