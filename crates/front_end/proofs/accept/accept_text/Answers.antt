use Rattle.std.proofs.Common.{ℕ, List}
use Rattle.std.proofs.lemmas.Result.{err_from_is_err_and}
use Rattle.rules.specs.Faults.{IfRefused}
use Rattle.source_tree.specs.SyntaxView.{file_view}
use Rattle.program_tree.specs.View.{program_view}
use Rattle.typed_programs.specs.Programs.{IsTypedProgram}
use Rattle.front_end.specs.Texts.{HasFile, StatesProgram, StatesNoProgram}
use Rattle.front_end.proofs.Passes.{ok_more, err_more, file_first}
use Rattle.front_end.proofs.accept.accept_text.Goals as goal

pub returns-in_err-file-clause-refused : goal.returns-in_err-file-clause-refused
returns-in_err-file-clause-refused c =
    let p = err_from_is_err_and c.from_residual.result c.from_residual.ensures.1 in
    rw (p.1, p.2) (file_first c.args.text.now c.in_err-file.field-0.0 c.in_err-file.ensures.refused)

pub returns-clause-program : goal.returns-clause-program
returns-clause-program c =
    let f = file_view c.in_ok-file.file in
    ok_more c.accept_file.result (λ p. (text : List ℕ) → HasFile text f → StatesProgram text (program_view p)) (λ p. StatesProgram c.args.text.now (program_view p)) (λ p each. each c.args.text.now c.in_ok-file.ensures.file) c.accept_file.ensures.program

pub returns-clause-typed : goal.returns-clause-typed
returns-clause-typed c =
    let f = file_view c.in_ok-file.file in
    ok_more c.accept_file.result (λ p. (text : List ℕ) → HasFile text f → IsTypedProgram (program_view p)) (λ p. IsTypedProgram (program_view p)) (λ p each. each c.args.text.now c.in_ok-file.ensures.file) c.accept_file.ensures.typed

pub returns-clause-refused : goal.returns-clause-refused
returns-clause-refused c =
    let f = file_view c.in_ok-file.file in
    err_more c.accept_file.result (λ e. (text : List ℕ) → HasFile text f → IfRefused (StatesNoProgram text) e) (IfRefused (StatesNoProgram c.args.text.now)) (λ e each. each c.args.text.now c.in_ok-file.ensures.file) c.accept_file.ensures.refused
