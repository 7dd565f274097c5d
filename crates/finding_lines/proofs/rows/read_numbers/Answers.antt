use Rattle.std.proofs.Common.{◌≡◌, ◌++◌, ◌∷◌, [], sym, subst, List, ℤ, to_z, of_z, to_z-of_z}
use Rattle.std.specs.Int.{w128}
use Rattle.finding_lines.proofs.NumberLemmas.{number-fits}
use Rattle.finding_lines.proofs.RowLemmas.{RowSoFar, row-step, row-none}
use Rattle.finding_lines.proofs.ReadLemmas.{some-left}
use Rattle.finding_lines.proofs.rows.read_numbers.Goals as goal

pub returns-in_default : goal.returns-in_default
returns-in_default c =
    row-none c.args.bytes.now c.row.numbers c.row.rest.now c.row.invariant
    (some-left c.row.rest.now c.is_empty.result c.is_empty.ensures c.row-test.true) c.in_default.ensures

pub row-preserved : goal.row-preserved
row-preserved c =
    let taken = c.in-Some.ensures in
    let same : to_z w128 (of_z w128 c.in-Some.number) ≡ c.in-Some.number = to_z-of_z {w = w128} {z = c.in-Some.number} (number-fits c.in-Some.number taken.good) in
    let pushed = c.in_ok-push.ensures.ok in
    let is : c.push.new.self ≡ c.row.numbers ++ c.in-Some.number ∷ [] = cc (pushed, same) in
    subst (λ (ns : List ℤ). RowSoFar c.args.bytes.now ns c.in-Some.more.now) (sym is)
    (row-step c.args.bytes.now c.row.rest.now c.in-Some.more.now c.row.numbers c.in-Some.number c.row.invariant taken)
