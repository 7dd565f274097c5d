use Rattle.std.proofs.Common.{◌≡◌, ℕ, List, Some}
use Rattle.rules.specs.Faults.{IfRefused}
use Rattle.source_tree.specs.SyntaxView.{file_view}
use Rattle.st_names.specs.Bound.{program_number}
use Rattle.typing.specs.Faults.{IsFaultOf}
use Rattle.front_end.specs.Texts.{HasFile, StatesNoProgram}
use Rattle.front_end.proofs.OnePou.{one_pou}
use Rattle.front_end.proofs.Passes.{none_broken, types_refused, err_more}
use Rattle.front_end.proofs.accept.checked_of.Goals as goal

pub returns-clause-refused : goal.returns-clause-refused
returns-clause-refused c =
    let f = file_view c.args.names.now.file.now in
    let one = one_pou f (none_broken f c.requires) in
    err_more c.check.result (λ e. (number : ℕ) → program_number f ≡ Some number → IsFaultOf f number e) (λ e. (text : List ℕ) → HasFile text f → IfRefused (StatesNoProgram text) e)
    (λ e each text h. types_refused text f one.number e h c.requires one.one.is (each one.number one.one.is)) c.check.ensures.refused
