use Rattle.std.proofs.Common.{◌≡◌, ℕ, ◌<◌, ◌≤◌, ◌∙◌, length, true, false, ltb, not, ◌==◌, vec_len, [], arith, sym, ap}
use Rattle.std.proofs.lemmas.Bool.{ltb-true, not-true, not-false}
use Rattle.std.proofs.lemmas.Bool.Decides.{nat_tests}
use Rattle.std.proofs.lemmas.List.{get_or_past}
use Rattle.call_order.specs.Uses.{graph_of, uses_at}
use Rattle.call_order.proofs.Filters.{stands}
use Rattle.call_order.proofs.Graphs.{length-graph, uses_at-graph}
use Rattle.call_order.proofs.circular.stands_in_circle.Goals as goal

filled : (n : ℕ) → (n == 0) ≡ false → n ≡ 0 → ⊥
filled n h e = grind (arith, nat_tests)

is_none : (n : ℕ) → (n == 0) ≡ true → n ≡ 0
is_none n h = grind (arith, nat_tests)

pub returns-in-None : goal.returns-in-None
returns-in-None c = λ g has.
    let l = length-graph c.args.circles.now in
    let test : ltb c.args.number (length c.args.circles.now) ≡ false = sym c.in-None.ensures.lookup.0 in
    let past : length c.args.circles.now ≤ c.args.number = grind (arith, nat_tests) in
    let none : uses_at (graph_of c.args.circles.now) c.args.number ≡ [] = get_or_past (graph_of c.args.circles.now) c.args.number [] (omega arith) in
    stands g (graph_of c.args.circles.now) c.args.number false has (λ h. absurd (let e : ⊥ = cc in e)) (λ _. ap length none)

pub returns-in-Some : goal.returns-in-Some
returns-in-Some c = λ g has.
    let found = c.in-Some.ensures.lookup in
    let below : c.args.number < length c.args.circles.now = ltb-true _ _ (sym found.0) in
    let used : uses_at (graph_of c.args.circles.now) c.args.number ≡ c.in-Some.back.now.items = uses_at-graph c.args.circles.now c.args.number c.in-Some.back.now below found.1 in
    let l = ap length used in
    stands g (graph_of c.args.circles.now) c.args.number (not c.is_empty.result) has (λ h e. absurd (let none = sym c.is_empty.ensures ∙ not-true c.is_empty.result h in filled (vec_len c.in-Some.back.now) none (omega arith)))
    (λ h. let none : vec_len c.in-Some.back.now ≡ 0 = is_none (vec_len c.in-Some.back.now) (sym c.is_empty.ensures ∙ not-false c.is_empty.result h) in omega arith)
