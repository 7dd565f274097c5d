use Rattle.std.proofs.Common.{◌≡◌, ◌≢◌, ◌++◌, ◌∷◌, [], sym, ap, subst, List, ℤ, pos, to_z, of_z, to_z-of_z}
use Rattle.std.specs.Int.{w128}
use Rattle.finding_lines.proofs.NumberLemmas.{number-fits}
use Rattle.finding_lines.proofs.RowLemmas.{ListSoFar, list-step, list-end, list-none, zero-from}
use Rattle.finding_lines.proofs.rows.take_list.Goals as goal

pub returns-then-number-eq0 : goal.returns-then-number-eq0
returns-then-number-eq0 c =
    let taken = c.in-Some.ensures in
    list-end c.args.bytes.now c.list.rest.now c.in-Some.more.now c.list.numbers c.in-Some.number c.list.invariant taken
    (zero-from c.in-Some.number taken.good c.if-number-eq0.true)

pub list-preserved : goal.list-preserved
list-preserved c =
    let taken = c.in-Some.ensures in
    let same : to_z w128 (of_z w128 c.in-Some.number) ≡ c.in-Some.number = to_z-of_z {w = w128} {z = c.in-Some.number} (number-fits c.in-Some.number taken.good) in
    let pushed = c.in_ok-push.ensures.ok in
    let is : c.push.new.self ≡ c.list.numbers ++ c.in-Some.number ∷ [] = cc (pushed, same) in
    let apart : c.in-Some.number ≢ pos 0 = λ e. c.if-number-eq0.false (ap (of_z w128) e) in
    subst (λ (ns : List ℤ). ListSoFar c.args.bytes.now ns c.in-Some.more.now) (sym is)
    (list-step c.args.bytes.now c.list.rest.now c.in-Some.more.now c.list.numbers c.in-Some.number c.list.invariant taken apart)

pub returns : goal.returns
returns c = list-none c.args.bytes.now c.list.numbers c.list.rest.now c.list.invariant c.in_default.ensures
