use Rattle.std.proofs.Common.{◌≡◌, length, ap, sym, ◌∙◌, arith}
use Rattle.std.proofs.lemmas.List.{length-map}
use Rattle.source_tree.specs.SyntaxView.{type_declaration_view, file_view}
use Rattle.naming.specs.FileScope.{types_of}
use Rattle.naming.proofs.EndLemmas.{all_steps}
use Rattle.file_scope.proofs.ends.first_steps.Goals as goal

pub returns-clause-led : goal.returns-clause-led
returns-clause-led c =
    let f = file_view c.args.names.now.file.now in
    let types : length (types_of f) ≡ length c.args.types.now = ap length (sym c.requires) ∙ length-map c.args.types.now (λ d. type_declaration_view d.now) in
    all_steps f c.loop-place.ends.items (omega arith) (λ t below. c.loop-place.invariant.led t (omega arith))
