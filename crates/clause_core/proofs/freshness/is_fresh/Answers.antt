use Rattle.std.proofs.Common.{◌≡◌, ◌+◌, ◌∷◌, length, arith, rules}
use Rattle.clause_core.proofs.OneOpen.{parts-below}
use Rattle.clause_core.proofs.freshness.is_fresh.Goals as goal

pub shows_between-requires-clause-front : goal.shows_between-requires-clause-front
shows_between-requires-clause-front c =
    let n : length c.loop-i.values ≡ c.args.variables + 1 = omega (arith, c.requires.size) in
    let er : c.split_at.result.1.now ≡ c.in-Some.literal.now ∷ c.in-Some.back.now = search (rules, c.in-Some.ensures.cases) in
    let r = parts-below c.args.variables (length c.loop-i.values) c.args.literals.now c.split_at.result.0.now c.in-Some.literal.now c.in-Some.back.now c.split_at.result.1.now n c.requires.literals c.split_at.ensures.by_index.0 er in
    r.in_front

pub shows_between-requires-clause-literal : goal.shows_between-requires-clause-literal
shows_between-requires-clause-literal c =
    let n : length c.loop-i.values ≡ c.args.variables + 1 = omega (arith, c.requires.size) in
    let er : c.split_at.result.1.now ≡ c.in-Some.literal.now ∷ c.in-Some.back.now = search (rules, c.in-Some.ensures.cases) in
    let r = parts-below c.args.variables (length c.loop-i.values) c.args.literals.now c.split_at.result.0.now c.in-Some.literal.now c.in-Some.back.now c.split_at.result.1.now n c.requires.literals c.split_at.ensures.by_index.0 er in
    r.here

pub shows_between-requires-clause-back : goal.shows_between-requires-clause-back
shows_between-requires-clause-back c =
    let n : length c.loop-i.values ≡ c.args.variables + 1 = omega (arith, c.requires.size) in
    let er : c.split_at.result.1.now ≡ c.in-Some.literal.now ∷ c.in-Some.back.now = search (rules, c.in-Some.ensures.cases) in
    let r = parts-below c.args.variables (length c.loop-i.values) c.args.literals.now c.split_at.result.0.now c.in-Some.literal.now c.in-Some.back.now c.split_at.result.1.now n c.requires.literals c.split_at.ensures.by_index.0 er in
    r.in_back
