use Rattle.std.proofs.Common.{◌≡◌, ℕ, ◌+◌, ◌-◌, length, ap, ◌∙◌}
use Rattle.clause_core.specs.Formula.{Formula}
use Rattle.queries.specs.Sets.{members}
use Rattle.query_formulas.specs.QueryClauses.{members_of}
use Rattle.product_build.proofs.Inside.{inside_at, inside_members}
use Rattle.product_build.proofs.one_scan.add_premises.Goals as goal

pub add_units-requires : goal.add_units-requires
add_units-requires c =
    let net = c.args.product.now.circuit in
    let set = members c.args.set.now in
    let v : ℕ = net.first - 1 + length net.gates in
    let many : c.add_negative_units.new.formula.variables ≡ v = ap (λ (f : Formula). f.variables) c.in_ok-add_negative_units.ensures.ok ∙ ap (λ (f : Formula). f.variables) c.requires.begun in
    inside_at v _ _ _ many (c.as_slice-3.ensures.value ∙ c.in_ok-members.ensures ∙ ap (members_of set) c.as_slice.ensures.value)
    (inside_members v set c.args.product.now.lits.before.items c.requires.order.before)
