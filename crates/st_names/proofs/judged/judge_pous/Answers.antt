use Rattle.std.proofs.Common.{◌≡◌, List, ℕ, Bool, ◌<◌, ◌+◌, ◌∷◌, [], ◌++◌, length, map, drop, ap, sym, ◌∙◌, arith}
use Rattle.std.proofs.lemmas.List.{map-append}
use Rattle.call_order.specs.Uses.{graph_of}
use Rattle.rules.specs.Rules.{earlier, first_in}
use Rattle.source_tree.specs.Syntax.{PouData}
use Rattle.source_tree.specs.SyntaxView.{body_view, pou_view, file_view}
use Rattle.naming.specs.Broken.{in_pou_scope, in_pou, in_pous}
use Rattle.naming.specs.Circles.{uses_in}
use Rattle.naming.specs.FileScope.{pous_of}
use Rattle.pou_scope.specs.NamesView.{scope_named, pous_named}
use Rattle.rules.specs.Outcomes.{outcome_of}
use Rattle.naming.specs.Scopes.{scope_of}
use Rattle.pou_scope.proofs.JudgedLemmas.{are_names, scope_at, seen_at, uses_is}
use Rattle.naming.proofs.ListLemmas.{then_more}
use Rattle.rules.proofs.Outcomes.{outcome_first, outcome_whole, first_before}
use Rattle.naming.proofs.Steps.{view-drop}
use Rattle.st_names.proofs.judged.judge_pous.Goals as goal

pub invariant_of-judge_pou : goal.invariant_of-judge_pou
invariant_of-judge_pou c = record { all = are_names (file_view c.args.file.now.types.names.file.now) c.args.all.now c.requires.scopes c.requires.seen }

pub invariant_of-names : goal.invariant_of-names
invariant_of-names c =
    let f = file_view c.args.file.now.types.names.file.now in
    let all = c.args.all.now in
    let below : c.loop-own.own-index < length all = omega arith in
    record { known = seen_at f all (pous_of f) c.loop-own.own-index c.own-item.result c.requires.pous c.requires.scopes c.requires.seen below c.own-item.is }

pub loop-own-preserved : goal.loop-own-preserved
loop-own-preserved c =
    let f = file_view c.args.file.now.types.names.file.now in
    let all = c.args.all.now in
    let i = c.loop-own.own-index in
    let x = c.own-item.result in
    let p = pou_view x.pou.now in
    let rest = pous_named (drop (i + 1) all) in
    let below : i < length all = omega arith in
    let same : scope_named x ≡ scope_of p = scope_at all (pous_of f) i x c.requires.pous c.requires.scopes below c.own-item.is in
    let left = view-drop (λ n. pou_view n.pou.now) all i x below c.own-item.is in
    let given = c.in_ok-outcome.ensures in
    let judged = given.judged ∙ ap (λ q. outcome_of (in_pou_scope f q (body_view x.pou.now.body))) same in
    let known = c.loop-own.invariant in
    let whole = outcome_whole (in_pou f p) c.in_ok-outcome.outcome judged in
    let uses = uses_is f p (scope_named x) c.in_ok-outcome.uses.items same given.uses in
    let marks = c.loop-own.wholes.items in
    let graph = c.loop-own.all_uses.items in
    record {
      broken = first_before c.loop-own.first c.earlier.result _ (in_pou f p).broken (in_pous f rest) (c.earlier.ensures ∙ ap (earlier c.loop-own.first) (outcome_first (in_pou f p) c.in_ok-outcome.outcome judged))
          (ap (λ (ps : List PouData). earlier c.loop-own.first (first_in (in_pous f ps))) (sym left) ∙ known.broken);
      wholes = then_more marks c.push.new.self.items ((in_pou f p).whole ∷ []) (map (λ q. (in_pou f q).whole) rest) _ (c.in_ok-push.ensures.items ∙ ap (λ (b : Bool). marks ++ b ∷ []) whole)
          (ap (λ (ps : List PouData). marks ++ map (λ q. (in_pou f q).whole) ps) (sym left) ∙ known.wholes);
      uses = then_more (graph_of graph) (graph_of c.push-in-loop-own.new.self.items) (uses_in f p ∷ []) (map (uses_in f) rest) _
          (ap graph_of c.in_ok-push-2.ensures.items ∙ map-append (λ v. v.items) graph (c.in_ok-outcome.uses ∷ []) ∙ ap (λ (us : List ℕ). graph_of graph ++ us ∷ []) uses)
          (ap (λ (ps : List PouData). graph_of graph ++ map (uses_in f) ps) (sym left) ∙ known.uses);
    }
