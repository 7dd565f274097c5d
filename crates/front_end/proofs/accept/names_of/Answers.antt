use Rattle.std.proofs.Common.{ℕ, List}
use Rattle.source_tree.specs.SyntaxView.{file_view}
use Rattle.rules.specs.Faults.{IfRefused}
use Rattle.st_names.specs.Bound.{IsFaultOf}
use Rattle.front_end.specs.Texts.{HasFile, StatesNoProgram}
use Rattle.front_end.proofs.Passes.{sound_in, names_refused, err_more}
use Rattle.front_end.proofs.accept.names_of.Goals as goal

pub returns-clause-names : goal.returns-clause-names
returns-clause-names c = sound_in (file_view c.args.file.now) c.resolve.result (λ n. file_view n.file.now) c.resolve.ensures.file c.resolve.ensures.kept c.resolve.ensures.acyclic

pub returns-clause-refused : goal.returns-clause-refused
returns-clause-refused c =
    let f = file_view c.args.file.now in
    err_more c.resolve.result (IsFaultOf f) (λ e. (text : List ℕ) → HasFile text f → IfRefused (StatesNoProgram text) e) (λ e broken text h. names_refused text f e h broken) c.resolve.ensures.refused
