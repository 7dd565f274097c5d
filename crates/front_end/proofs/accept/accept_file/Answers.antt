use Rattle.std.proofs.Common.{ℕ, List}
use Rattle.rules.specs.Faults.{IfRefused}
use Rattle.source_tree.specs.SyntaxView.{file_view}
use Rattle.program_tree.specs.View.{program_view}
use Rattle.typed_programs.specs.Programs.{IsTypedProgram}
use Rattle.front_end.specs.Texts.{HasFile, StatesProgram, StatesNoProgram}
use Rattle.front_end.proofs.Passes.{ok_more, err_more, of_file}
use Rattle.front_end.proofs.accept.accept_file.Goals as goal

pub returns-clause-program : goal.returns-clause-program
returns-clause-program c =
    let f = file_view c.in_ok-names.names.file.now in
    let g = file_view c.args.file.now in
    ok_more c.accept_names.result (λ p. (text : List ℕ) → HasFile text f → StatesProgram text (program_view p)) (λ p. (text : List ℕ) → HasFile text g → StatesProgram text (program_view p))
    (λ p each. of_file (λ text. StatesProgram text (program_view p)) f g c.in_ok-names.ensures.file each) c.accept_names.ensures.program

pub returns-clause-typed : goal.returns-clause-typed
returns-clause-typed c =
    let f = file_view c.in_ok-names.names.file.now in
    let g = file_view c.args.file.now in
    ok_more c.accept_names.result (λ p. (text : List ℕ) → HasFile text f → IsTypedProgram (program_view p)) (λ p. (text : List ℕ) → HasFile text g → IsTypedProgram (program_view p))
    (λ p each. of_file (λ text. IsTypedProgram (program_view p)) f g c.in_ok-names.ensures.file each) c.accept_names.ensures.typed

pub returns-clause-refused : goal.returns-clause-refused
returns-clause-refused c =
    let f = file_view c.in_ok-names.names.file.now in
    let g = file_view c.args.file.now in
    err_more c.accept_names.result (λ e. (text : List ℕ) → HasFile text f → IfRefused (StatesNoProgram text) e) (λ e. (text : List ℕ) → HasFile text g → IfRefused (StatesNoProgram text) e)
    (λ e each. of_file (λ text. IfRefused (StatesNoProgram text) e) f g c.in_ok-names.ensures.file each) c.accept_names.ensures.refused
