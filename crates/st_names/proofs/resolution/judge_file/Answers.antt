use Rattle.std.proofs.Common.{[], ◌++◌, length, ap, sym, ◌∙◌}
use Rattle.rules.specs.Rules.{earlier, first_in}
use Rattle.source_tree.specs.SyntaxView.{file_view}
use Rattle.rules.proofs.Refusals.{first_in-append}
use Rattle.naming.specs.Broken.{not_one, names_twice, in_types, in_results, in_pous}
use Rattle.naming.specs.FileScope.{types_of, pous_of, names_of}
use Rattle.st_names.proofs.resolution.judge_file.Goals as goal

pub returns-clause-broken : goal.returns-clause-broken
returns-clause-broken c =
    let f = file_view c.args.scope.now.types.names.file.now in
    let front = not_one (pous_of f) ++ names_twice [] (names_of f) in
    let types = in_types f 0 (types_of f) in
    let results = in_results f (length (types_of f)) (pous_of f) in
    let pous = in_pous f (pous_of f) in
    let one = c.in_ok-walk_types.ensures ∙ ap (λ o. earlier o (first_in types)) c.requires.once ∙ sym (first_in-append front types) in
    let two = c.walk_results.ensures ∙ ap (λ o. earlier o (first_in results)) one ∙ sym (first_in-append (front ++ types) results) in
    c.earlier.ensures ∙ ap (λ o. earlier o c.judge_pous.new.first) two ∙ ap (earlier (first_in (front ++ types ++ results))) c.in_ok-judged.ensures.broken ∙ sym (first_in-append (front ++ types ++ results) pous)
