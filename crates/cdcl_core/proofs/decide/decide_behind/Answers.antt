use Rattle.std.proofs.Common.{◌≡◌, ◌≢◌, ◌+◌, ◌++◌, ◌∷◌, [], List, ◌==◌, true, false, length, take, drop, sym, ◌∙◌, ap, subst, arith, refl, map}
use Rattle.std.proofs.lemmas.Bool.{false≢true}
use Rattle.std.proofs.lemmas.Grind.{common_steps}
use Rattle.clause_core.specs.declared.literal.Lit.{Lit}
use Rattle.clause_core.specs.declared.log.Entry.{Entry}
use Rattle.clause_core.specs.Values.{is_true}
use Rattle.clause_core.specs.Clauses.{rises}
use Rattle.clause_core.specs.Logs.{steps_of}
use Rattle.cdcl_core.specs.Deleting.{Deletes}
use Rattle.clause_core.specs.Formula.{Formula}
use Rattle.clause_core.proofs.Fronts.{BeginsWith-refl, BeginsWith-trans}
use Rattle.clause_core.specs.Satisfaction.{assigned, Satisfies}
use Rattle.cdcl_core.specs.declared.next.Next.TheVariants.{Found, Derived}
use Rattle.cdcl_core.specs.Next.{IsNext, assignment}
use Rattle.cdcl_core.proofs.Grown.{Grown, Grown-start, Grown-push, Grown-deletes, steps-push, steps-deletes, IsRefutation-push, formula_true-begins}
use Rattle.cdcl_core.proofs.decide.decide_behind.Goals as goal

nil-test : (c : List Lit) → (length c == 0) ≡ true → c ≡ []
nil-test [] h = refl
nil-test (l ∷ ls) h = absurd (grind arith)

cons-test : (c : List Lit) → (length c == 0) ≡ false → c ≢ []
cons-test c h e = false≢true (sym h ∙ ap (λ (z : List Lit). length z == 0) e)

pub returns-in-Found-clause-decided : goal.returns-in-Found-clause-decided
returns-in-Found-clause-decided g c =
    let i = c.loop-turn in
    let values = c.next_tested.new.values in
    let next : IsNext c.args.cnf.now.variables i.cnf.clauses values Found =
    subst (λ n. IsNext n i.cnf.clauses values Found) c.variables-variables.ensures.same
    (subst (λ h. IsNext c.variables-variables.result h values Found) c.clauses.ensures.same
    (subst (IsNext c.variables-variables.result c.clauses.result.now values) c.in-Found.is c.in_ok-next_tested.ensures.next)) in
    let back : take i.values.len (values ++ drop (length values) i.values.items) ≡ values = grind (arith, common_steps) in
    let found : c.from_values.result ≡ map is_true values = c.from_values.ensures ∙ ap (map is_true) back in
    subst (λ z. Satisfies (assigned z) c.args.cnf.now.clauses) (sym found)
    (formula_true-begins (assignment values) c.args.cnf.now i.cnf i.invariant.begins next)

pub returns-then-is_empty-clause-decided : goal.returns-then-is_empty-clause-decided
returns-then-is_empty-clause-decided g c =
    let i = c.loop-turn in
    let s = c.in-Derived.step in
    let next : IsNext c.args.cnf.now.variables i.cnf.clauses c.next_tested.new.values (Derived s) =
    subst (λ n. IsNext n i.cnf.clauses c.next_tested.new.values (Derived s)) c.variables-variables.ensures.same
    (subst (λ h. IsNext c.variables-variables.result h c.next_tested.new.values (Derived s)) c.clauses.ensures.same
    (subst (IsNext c.variables-variables.result c.clauses.result.now c.next_tested.new.values) c.in-Derived.is c.in_ok-next_tested.ensures.next)) in
    let nil : s.clause ≡ [] = nil-test s.clause (ap (λ (z : List Lit). length z == 0) (sym c.literals.ensures) ∙ sym c.is_empty.ensures ∙ c.if-is_empty.true) in
    IsRefutation-push c.args.limit c.args.cnf.now i.cnf.clauses i.log c.push.new.self s i.invariant.grown next.0 nil c.in_ok-push-in-Derived.ensures.ok (omega arith)

pub hold-requires : goal.hold-requires
hold-requires g c =
    let i = c.loop-turn in
    let s = c.in-Derived.step in
    let next : IsNext c.args.cnf.now.variables i.cnf.clauses c.next_tested.new.values (Derived s) =
    subst (λ n. IsNext n i.cnf.clauses c.next_tested.new.values (Derived s)) c.variables-variables.ensures.same
    (subst (λ h. IsNext c.variables-variables.result h c.next_tested.new.values (Derived s)) c.clauses.ensures.same
    (subst (IsNext c.variables-variables.result c.clauses.result.now c.next_tested.new.values) c.in-Derived.is c.in_ok-next_tested.ensures.next)) in
    subst (λ n. rises n s.clause ≡ true) (sym i.invariant.begins.variables) next.0.rises

pub loop-turn-preserved : goal.loop-turn-preserved
loop-turn-preserved g c =
    let i = c.loop-turn in
    let s = c.in-Derived.step in
    let next : IsNext c.args.cnf.now.variables i.cnf.clauses c.next_tested.new.values (Derived s) =
    subst (λ n. IsNext n i.cnf.clauses c.next_tested.new.values (Derived s)) c.variables-variables.ensures.same
    (subst (λ h. IsNext c.variables-variables.result h c.next_tested.new.values (Derived s)) c.clauses.ensures.same
    (subst (IsNext c.variables-variables.result c.clauses.result.now c.next_tested.new.values) c.in-Derived.is c.in_ok-next_tested.ensures.next)) in
    let some : s.clause ≢ [] = cons-test s.clause (ap (λ (z : List Lit). length z == 0) (sym c.literals.ensures) ∙ sym c.is_empty.ensures ∙ c.if-is_empty.false) in
    let held : c.hold.new.cnf.clauses ≡ i.cnf.clauses ++ s.clause ∷ [] = ap (λ (f : Formula). f.clauses) c.in_ok-hold-in-Derived.ensures.held in
    let grown : Grown c.args.cnf.now.variables c.args.cnf.now.clauses c.hold.new.cnf.clauses c.hold.new.log =
    Grown-push c.args.cnf.now.variables c.args.cnf.now.clauses i.cnf.clauses c.hold.new.cnf.clauses i.log c.hold.new.log s i.invariant.grown next.0 (next.1 some) some held c.in_ok-hold-in-Derived.ensures.kept
    in
    let variables : c.hold.new.cnf.variables ≡ c.args.cnf.now.variables = ap (λ (f : Formula). f.variables) c.in_ok-hold-in-Derived.ensures.held ∙ i.invariant.begins.variables in
    let deletes = subst (λ n. Deletes n c.hold.new.cnf c.let_covered_go.new.cnf c.hold.new.log c.let_covered_go.new.log) i.invariant.given c.in_ok-let_covered_go-in-Derived.ensures.deletes in
    record {
      grown = Grown-deletes c.args.cnf.now.variables c.args.cnf.now.clauses c.hold.new.cnf c.let_covered_go.new.cnf c.hold.new.log c.let_covered_go.new.log grown variables deletes;
      begins = c.let_covered_go.ensures.begins c.args.cnf.now (let g = i.invariant.given in omega (arith, g)) (BeginsWith-trans c.args.cnf.now i.cnf c.hold.new.cnf i.invariant.begins c.hold.ensures.begins);
      turns = steps-deletes (length c.args.cnf.now.clauses) c.hold.new.cnf c.let_covered_go.new.cnf c.hold.new.log c.let_covered_go.new.log deletes
          ∙ steps-push i.log c.hold.new.log s c.in_ok-hold-in-Derived.ensures.kept ∙ ap (λ n. n + 1) i.invariant.turns;
      given = i.invariant.given;
      size = grind (arith, common_steps);
      variables = i.invariant.variables;
      taken = c.in_ok-let_covered_go-in-Derived.ensures.taken;
      places = c.let_covered_go.ensures.places ∙ c.next_tested.ensures.places ∙ i.invariant.places;
    }

pub next_tested-requires-clause-taken : goal.next_tested-requires-clause-taken
next_tested-requires-clause-taken g c = let t = c.loop-turn.invariant.taken in (t.0, t.1, t.2, c.clauses.ensures.same ∙ t.3)

pub loop-turn-init : goal.loop-turn-init
loop-turn-init g c = record {
  grown = subst (λ (log : List Entry). Grown c.args.cnf.now.variables c.args.cnf.now.clauses c.args.cnf.now.clauses log) (sym c.new-log.ensures) (Grown-start c.args.cnf.now.variables c.args.cnf.now.clauses c.args.cnf.now.clauses refl);
  begins = BeginsWith-refl c.args.cnf.now;
  turns = ap (λ (log : List Entry). length (steps_of log)) c.new-log.ensures;
  given = ap length c.clauses-given.ensures.same;
  size = grind (arith, common_steps);
  variables = c.variables-variables.ensures.same;
  taken = ([], c.args.cnf.now.clauses, c.requires.taken, refl);
  places = c.requires.places ∙ ap (λ n. n + 1) (sym c.variables-variables.ensures.same);
}
