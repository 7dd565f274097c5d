use Rattle.std.proofs.Common.{◌≡◌, ℕ, ◌<◌, ◌≤◌, ◌∙◌, length, Bool, true, false, List, ltb, ◌↔◌, inl, inr, arith, sym, ap, subst}
use Rattle.std.proofs.lemmas.Bool.{false_from_ne_true, ltb-true}
use Rattle.std.proofs.lemmas.Bool.Decides.{nat_tests}
use Rattle.call_order.specs.Uses.{Graph, graph_of, uses_at, Reaches, directly, through, leads_to}
use Rattle.call_order.specs.Marks.{is_marked}
use Rattle.call_order.specs.Parts.{IsReached}
use Rattle.call_order.proofs.Counts.{same_test}
use Rattle.call_order.proofs.Graphs.{length-graph, uses_at-graph}
use Rattle.call_order.proofs.Orders.{begins}
use Rattle.call_order.proofs.Ways.{leads_reaches}
use Rattle.call_order.proofs.searching.leads_to.Goals as goal

-- what the uses of a number reach is what it reaches
behind : (g : Graph) (a b : ℕ) → IsReached g (uses_at g a) b → Reaches g a b
behind g a b (inl there) = directly a b there
behind g a b (inr way) = through a way.0 b way.1 way.2

ahead : (g : Graph) (a b : ℕ) → Reaches g a b → IsReached g (uses_at g a) b
ahead g a b (directly _ _ u) = inl u
ahead g a b (through _ c _ u r) = inr (c, u, r)

marked : (g : Graph) (a b : ℕ) (marks : List Bool) → (is_marked marks b ≡ true) ↔ IsReached g (uses_at g a) b → is_marked marks b ≡ leads_to g a b
marked g a b marks both = same_test _ _ (λ h. (leads_reaches g a b).1 (behind g a b (both.0 h))) (λ h. both.1 (ahead g a b ((leads_reaches g a b).0 h)))

nowhere : (g : Graph) (a b : ℕ) → length g ≤ a → false ≡ leads_to g a b
nowhere g a b past = sym (false_from_ne_true _ (λ h. let below = begins g a b ((leads_reaches g a b).0 h) in omega arith))

pub returns-in_default : goal.returns-in_default
returns-in_default c =
    let l = length-graph c.args.uses.now in
    let test : ltb c.args.from (length c.args.uses.now) ≡ false = sym c.in_default.ensures.lookup.0 in
    let past : length c.args.uses.now ≤ c.args.from = grind (arith, nat_tests) in
    nowhere (graph_of c.args.uses.now) c.args.from c.args.to (omega arith)

pub returns : goal.returns
returns c =
    let g = graph_of c.args.uses.now in
    let found = c.in-Some.ensures.lookup in
    let below : c.args.from < length c.args.uses.now = ltb-true _ _ (sym found.0) in
    let used : uses_at g c.args.from ≡ c.in-Some.first.now.items = uses_at-graph c.args.uses.now c.args.from c.in-Some.first.now below found.1 in
    let from : c.deref.result.now ≡ uses_at g c.args.from = c.deref.ensures.value ∙ sym used in
    let both = c.in_ok-marks.ensures.marks c.args.to c.requires in
    let read : c.is_marked.result ≡ is_marked c.in_ok-marks.marks.items c.args.to = c.is_marked.ensures ∙ ap (λ (ms : List Bool). is_marked ms c.args.to) c.deref-2.ensures.value in
    read ∙ marked g c.args.from c.args.to c.in_ok-marks.marks.items (subst (λ (starts : List ℕ). (is_marked c.in_ok-marks.marks.items c.args.to ≡ true) ↔ IsReached g starts c.args.to) from both)
