use Rattle.std.proofs.Common.{◌≡◌, ◌<◌, ◌≤◌, Bool, true, false, sym, subst, arith}
use Rattle.std.specs.Prelude.{OnOk, OnErr}
use Rattle.std.proofs.lemmas.Bool.Decides.{nat_tests}
use Rattle.derivation_check.proofs.Deleting.{may-judged}
use Rattle.derivation_check.proofs.deletion.judge_deletion.Goals as goal

pub returns-in-Some-clause-ok : goal.returns-in-Some-clause-ok
returns-in-Some-clause-ok c =
    let f = c.args.cnf.now in
    let above = c.if-number-given.false in
    let not_none = c.if-variables-eq0.false in
    let count = c.variables.ensures.same in
    let lt : c.args.given < c.args.number = grind (arith, nat_tests) in
    let some : 1 ≤ f.variables = grind (arith, nat_tests) in
    let is = may-judged c.args.given f c.args.number c.clauses.result.now c.in-Some.clause.now c.literals.result.now c.requires lt some c.clauses.ensures.same c.in-Some.ensures.lookup.0 c.in-Some.ensures.lookup.1 c.literals.ensures in
    subst (λ (b : Bool). OnOk c.judge_clause.result (b ≡ true)) (sym is) c.judge_clause.ensures.ok

pub returns-in-Some-clause-err : goal.returns-in-Some-clause-err
returns-in-Some-clause-err c =
    let f = c.args.cnf.now in
    let above = c.if-number-given.false in
    let not_none = c.if-variables-eq0.false in
    let count = c.variables.ensures.same in
    let lt : c.args.given < c.args.number = grind (arith, nat_tests) in
    let some : 1 ≤ f.variables = grind (arith, nat_tests) in
    let is = may-judged c.args.given f c.args.number c.clauses.result.now c.in-Some.clause.now c.literals.result.now c.requires lt some c.clauses.ensures.same c.in-Some.ensures.lookup.0 c.in-Some.ensures.lookup.1 c.literals.ensures in
    subst (λ (b : Bool). OnErr c.judge_clause.result (b ≡ false)) (sym is) c.judge_clause.ensures.err
