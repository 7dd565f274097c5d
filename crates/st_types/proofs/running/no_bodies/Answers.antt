use Rattle.std.proofs.Common.{◌≡◌, ◌<◌, ℕ, ◌+◌, ◌-◌, zero, suc, List, [], ◌∷◌, ◌++◌, replicate, ap, sym, ◌∙◌, append_assoc, arith}
use Rattle.std.proofs.lemmas.List.{map-append}
use Rattle.program_tree.specs.Tree.{Statements, no_statements}
use Rattle.program_tree.specs.View.{stmts_view}
use Rattle.running_pous.specs.Bodies.{bodies_view}
use Rattle.st_types.proofs.running.no_bodies.Goals as goal

one_less : (n : ℕ) → 0 < n → replicate n no_statements ≡ no_statements ∷ replicate (n - 1) no_statements
one_less zero some = absurd (omega (arith, some))
one_less (suc n) some = let same : n ≡ suc n - 1 = omega arith in ap (λ (m : ℕ). no_statements ∷ replicate m no_statements) same

pub loop-preserved : goal.loop-preserved
loop-preserved c =
    let list = c.loop.list.items in
    let left = c.args.count - c.loop.counter in
    let less : c.args.count - (c.loop.counter + 1) ≡ left - 1 = omega arith in
    let some : 0 < left = omega (arith, c.loop-test.true) in
    let behind = replicate (left - 1) no_statements in
    ap (λ (m : ℕ). bodies_view c.push.new.self.items ++ replicate m no_statements) less
    ∙ ap (λ l. bodies_view l ++ behind) c.in_ok-push.ensures.items
    ∙ ap (λ (ss : List Statements). ss ++ behind) (map-append (λ body. stmts_view body.items) list (c.new.result ∷ []))
    ∙ append_assoc (bodies_view list) (stmts_view c.new.result.items ∷ []) behind
    ∙ ap (λ l. bodies_view list ++ stmts_view l ∷ behind) c.new.ensures.items
    ∙ ap (λ (ss : List Statements). bodies_view list ++ ss) (sym (one_less left some))
    ∙ c.loop.invariant
