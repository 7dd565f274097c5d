use Rattle.std.proofs.Common.{Option, ap, ◌∙◌, sym}
use Rattle.std.specs.Prelude.{option_map}
use Rattle.source_tree.specs.Syntax.{TypeData}
use Rattle.source_tree.specs.SyntaxView.{type_view}
use Rattle.decl_types.specs.Bodies.{file_in}
use Rattle.typing.specs.declared.domain.Domain.{Domain}
use Rattle.decl_types.proofs.UnknownKinds.{unknown_kind}
use Rattle.decl_types.proofs.told.told_of.Goals as goal

pub judged_initial_value-requires : goal.judged_initial_value-requires
judged_initial_value-requires c = λ broken.
    let t : Option TypeData = option_map (λ t. type_view t.now) c.args.variable.now.kind in
    let is = c.in_ok-of_type.ensures.domain in
    ap (λ (d : Domain). d.kind) is ∙ unknown_kind (file_in c.args.domains.now) t (ap (λ (d : Domain). d.whole) (sym is) ∙ broken)
