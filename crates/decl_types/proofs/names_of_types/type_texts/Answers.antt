use Rattle.std.proofs.Common.{◌≡◌, ◌++◌, List, [], ℕ, ap, ◌∙◌, rules}
use Rattle.std.proofs.Math.Logic.{∥∥₁_elim}
use Rattle.std.proofs.Props.{props}
use Rattle.program_tree.specs.View.{lists_of_texts}
use Rattle.naming.specs.ScopeView.{types_view}
use Rattle.typing.specs.TypedPrograms.{type_texts}
use Rattle.decl_types.proofs.names_of_types.type_texts.Goals as goal

pub loop-declaration-init : goal.loop-declaration-init
loop-declaration-init c =
    let none : lists_of_texts c.new-list.result.items ≡ [] = search rules in
    ap (λ (ns : List (List (List ℕ))). ns ++ type_texts (types_view c.args.file.now.types.now)) none ∙ ∥∥₁_elim c.args.file.now.declared (hlevel props) (λ declared. ap type_texts declared)
