use Rattle.std.proofs.Common.{arith, subst, List, length, ◌≤◌}
use Rattle.clause_core.specs.declared.literal.Lit.{Lit}
use Rattle.clause_core.specs.Satisfaction.{assigned}
use Rattle.pair_decoding.proofs.Spelled.{spelled_small}
use Rattle.pair_decoding.proofs.numbers.+number.Goals as goal

pub overflow_mul-result : goal.overflow_mul-result
overflow_mul-result t c =
    let is = c.in-Some.ensures in
    let few = subst (λ (w : List Lit). length w ≤ 64) is.cases.0 c.requires in
    omega (arith, spelled_small (assigned c.args.found.now) c.in-Some.lit.now c.in-Some.rest.now few, c.number.ensures)

pub overflow_add-result : goal.overflow_add-result
overflow_add-result t c =
    let is = c.in-Some.ensures in
    let few = subst (λ (w : List Lit). length w ≤ 64) is.cases.0 c.requires in
    omega (arith, spelled_small (assigned c.args.found.now) c.in-Some.lit.now c.in-Some.rest.now few, c.number.ensures, c.bit.ensures)
