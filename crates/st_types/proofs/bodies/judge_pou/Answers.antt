use Rattle.std.proofs.Common.{◌≡◌, Option, map, refl, ap, ◌∙◌}
use Rattle.source_tree.specs.Syntax.{PouData}
use Rattle.source_tree.specs.SyntaxView.{pou_view}
use Rattle.naming.specs.Scopes.{variables_in_pou}
use Rattle.decl_types.specs.Bodies.{file_in}
use Rattle.decl_types.specs.Told.{told_in, told_outcome}
use Rattle.decl_types.specs.ToldView.{told_view}
use Rattle.decl_types.proofs.ToldLemmas.{told_outcome-is}
use Rattle.typing.specs.Outcomes.{variables_outcome}
use Rattle.typing.specs.Places.{variables_in}
use Rattle.typing_laws.proofs.DeclaredLemmas.{outcome_of-pou}
use Rattle.st_types.proofs.bodies.judge_pou.Goals as goal

pub returns : goal.returns
returns c =
    let f = file_in c.args.pous.now.domains in
    let p = pou_view c.args.pou.now in
    let vs = variables_in_pou p in
    let told : map told_view c.told_at.result.now ≡ told_in f vs = c.told_at.ensures ∙ ap (λ (o : Option PouData). told_in f (variables_in o)) c.requires in
    let declared : c.judge_told-declared.result ≡ variables_outcome f c.ok.result vs =
    c.judge_told-declared.ensures ∙ ap (told_outcome c.ok.result) told ∙ told_outcome-is f c.ok.result vs in
    outcome_of-pou f c.args.number p vs c.ok.result c.judge_told-declared.result c.in_ok-body.body c.and.result refl c.ok.ensures declared c.in_ok-body.ensures c.and.ensures
