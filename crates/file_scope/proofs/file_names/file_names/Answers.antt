use Rattle.std.proofs.Common.{◌≡◌, length, ap, ◌∙◌, sym, arith}
use Rattle.std.proofs.lemmas.List.{length-map}
use Rattle.source_tree.specs.SyntaxView.{file_view}
use Rattle.naming.specs.FileScope.{names_of}
use Rattle.naming.proofs.DeclarationLemmas.{all_named}
use Rattle.file_scope.specs.FileView.{file_name_view}
use Rattle.file_scope.proofs.file_names.file_names.Goals as goal

pub invariant_of-result-clause-few : goal.invariant_of-result-clause-few
invariant_of-result-clause-few c =
    let f = file_view c.args.file.now in
    let all = all_named 0 0 f in
    let same : length c.args.names.now ≡ length (names_of f) = sym (length-map c.args.names.now file_name_view) ∙ ap length c.requires.names in
    let few = c.requires.few in
    omega arith
