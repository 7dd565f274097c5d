use Rattle.std.proofs.Common.{ℕ, ◌+◌, ◌-◌, length, ap, ◌∙◌}
use Rattle.clause_core.specs.Formula.{Formula}
use Rattle.queries.specs.Sets.{members}
use Rattle.query_formulas.specs.QueryClauses.{members_of}
use Rattle.product_build.proofs.Inside.{inside_at, inside_members}
use Rattle.product_build.proofs.one_scan.complete_step.Goals as goal

pub add_some_fails-requires : goal.add_some_fails-requires
add_some_fails-requires c =
    let p = c.args.product.now in
    let set = members c.args.set.now in
    let v : ℕ = p.circuit.first - 1 + length p.circuit.gates in
    inside_at v _ _ _ (ap (λ (f : Formula). f.variables) c.in_ok-add_premises.ensures) (c.as_slice-2.ensures.value ∙ c.in_ok-after.ensures ∙ ap (members_of set) c.as_slice.ensures.value)
    (inside_members v set p.lits.after.items c.requires.order.after)
