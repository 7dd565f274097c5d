use Rattle.std.proofs.Common.{◌<◌, ◌+◌, set, length, ◌∙◌, ap, arith}
use Rattle.std.proofs.lemmas.Bool.Decides.{nat_tests}
use Rattle.std.proofs.lemmas.List.{length-set, set-append_left}
use Rattle.clause_core.specs.Deletions.{always, IsDeletion}
use Rattle.clause_core.specs.Formula.{Formula}
use Rattle.cdcl_core.proofs.Grown.{Deletes-more, BeginsWith-without}
use Rattle.cdcl_core.proofs.letting_go.let_covered_go.Goals as goal

pub returns-in_err-let_go-clause-begins : goal.returns-in_err-let_go-clause-begins
returns-in_err-let_go-clause-begins g c f few begins =
    let i = c.loop in
    let place = c.in-Some.covered.place in
    let is : IsDeletion i.cnf.variables c.args.given i.cnf.clauses (place + 1) = c.may_go.ensures (grind arith) in
    BeginsWith-without f i.cnf c.let_go.new.self place (let lt = is.derived in omega (arith, lt, few)) c.let_go.ensures (i.invariant.begins f few begins)

pub loop-preserved : goal.loop-preserved
loop-preserved g c =
    let i = c.loop in
    let place = c.in-Some.covered.place in
    let is : IsDeletion i.cnf.variables c.args.given i.cnf.clauses (place + 1) = c.may_go.ensures (grind arith) in
    let t = i.invariant.taken in
    let inside : place < length t.0 = grind (arith, nat_tests) in
    let held = ap (λ (f : Formula). f.clauses) c.let_go.ensures in
    record {
      deletes = Deletes-more c.args.given place (place + 1) c.args.cnf.now i.cnf c.let_go.new.self c.args.log.now i.log c.push_deletion.new.self i.invariant.deletes is (grind arith)
          c.let_go.ensures c.in_ok-push_deletion.ensures.ok;
      begins = λ f few begins. BeginsWith-without f i.cnf c.let_go.new.self place (let lt = is.derived in omega (arith, lt, few)) c.let_go.ensures (i.invariant.begins f few begins);
      taken = (
        _,
        t.1,
        c.let_go-in-loop.ensures.taken t.0 (c.in-Some.ensures.taken t.0 t.2),
        held ∙ ap (λ cs. set cs place always) t.3 ∙ set-append_left t.0 t.1 place always inside,
        length-set t.0 place always ∙ t.4,
      );
      places = c.let_go-in-loop.ensures.places ∙ c.covered.ensures.places ∙ i.invariant.places;
    }
