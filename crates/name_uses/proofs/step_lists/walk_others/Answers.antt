use Rattle.std.proofs.Common.{◌≡◌, List, [], ◌+◌, ◌∷◌, ◌++◌, take, drop, ap, sym, ◌∙◌, arith}
use Rattle.std.specs.List.{list_any}
use Rattle.std.specs.Str.{bytes_eq}
use Rattle.std.proofs.lemmas.List.{drop_all}
use Rattle.source_tree.specs.Syntax.{Named}
use Rattle.source_tree.specs.SyntaxView.{name_view, names_view}
use Rattle.naming.specs.Broken.{step_by, listed_by, in_listed, in_listed_from}
use Rattle.pou_scope.specs.NamesView.{file_in, pou_in}
use Rattle.rules.specs.Outcomes.{outcome_of, both}
use Rattle.naming.specs.Scopes.{seen_named}
use Rattle.naming.specs.TextSets.{has}
use Rattle.rules.proofs.Outcomes.{before_rest, loop_done}
use Rattle.naming.proofs.Steps.{view-take, view-drop}
use Rattle.naming.proofs.TextSetLemmas.{met_push}
use Rattle.naming.proofs.ChartLemmas.{texts_of, texts_push}
use Rattle.name_uses.proofs.step_lists.walk_others.Goals as goal

pub loop-name-preserved : goal.loop-name-preserved
loop-name-preserved c =
    let f = file_in c.args.scope.now.names in
    let p = pou_in c.args.scope.now.names in
    let x = c.name-item.result in
    let n = name_view x in
    let i = c.loop-name.name-index in
    let first = (name_view c.args.first.now).text in
    let before = names_view (take i c.args.others.now) in
    let rest = names_view (drop (i + 1) c.args.others.now) in
    let met = first ∷ texts_of before in
    let more = view-take name_view c.args.others.now i x (omega arith) c.name-item.is in
    let left = view-drop name_view c.args.others.now i x (omega arith) c.name-item.is in
    let texts : first ∷ texts_of (names_view (take (i + 1) c.args.others.now)) ≡ met ++ n.text ∷ [] = ap (λ (ns : List Named). first ∷ texts_of ns) more ∙ texts_push first before n in
    let known = c.has-is_met.ensures ∙ ap (has c.loop-name.met) c.as_str.ensures.value ∙ c.loop-name.invariant.held n.text in
    let told = c.judged_listed.ensures ∙ ap (λ b. outcome_of (listed_by (step_by (seen_named f p n.text) n) b n)) known in
    let all = ap (λ ns. both c.loop-name.outcome (outcome_of (in_listed_from f p met ns))) (sym left) ∙ c.loop-name.invariant.judged in
    record {
      held = λ text. met_push c.loop-name.met c.add-in-loop-name.new.set met n.text c.loop-name.invariant.held c.in_ok-add-2.ensures text ∙ ap (list_any (λ t. bytes_eq t text)) (sym texts);
      judged = ap (λ ts. both c.and.result (outcome_of (in_listed_from f p ts rest))) texts
          ∙ before_rest c.loop-name.outcome c.and.result _ (in_listed f p met n) (in_listed_from f p (met ++ n.text ∷ []) rest) (c.and.ensures ∙ ap (both c.loop-name.outcome) told) all;
    }

pub returns : goal.returns
returns c =
    let f = file_in c.args.scope.now.names in
    let p = pou_in c.args.scope.now.names in
    let xs = c.args.others.now in
    let i = c.loop-name.name-index in
    let first = (name_view c.args.first.now).text in
    let met = first ∷ texts_of (names_view (take i xs)) in
    let none : drop i xs ≡ [] = drop_all i xs (omega arith) in
    loop_done c.loop-name.outcome c.args.outcome.now (in_listed_from f p met (names_view (drop i xs))) (in_listed_from f p (first ∷ []) (names_view xs)) c.loop-name.invariant.judged (ap (λ ys. in_listed_from f p met (names_view ys)) none)
