use Rattle.std.proofs.Common.{◌≡◌, ◌≤◌, ◌++◌, ◌∷◌, [], length, take, sym, ◌∙◌, ap, subst, arith}
use Rattle.std.specs.List.{Contains}
use Rattle.std.proofs.lemmas.List.{length-append, take-append-le}
use Rattle.std.proofs.lemmas.List.Elements.{Contains-push}
use Rattle.propagation_trail.specs.Trails.{IsConsistent}
use Rattle.propagation_trail.proofs.Signs.{within-true}
use Rattle.propagation_trail.proofs.Tables.{IsConsistent-pop}
use Rattle.propagation_trail.proofs.trail.pop_to.Goals as goal

pub set_value-requires-clause-code : goal.set_value-requires-clause-code
set_value-requires-clause-code c =
    let l = c.loop-literals in
    let code = c.in-Some.code in
    let split : l.literals.items ≡ c.pop.new.self.items ++ code ∷ [] = c.in-Some.ensures.items in
    within-true l.values code (l.invariant.consistent.holds code (subst (λ z. Contains z code) (sym split) (Contains-push c.pop.new.self.items code)))

pub loop-literals-preserved : goal.loop-literals-preserved
loop-literals-preserved c =
    let l = c.loop-literals in
    let code = c.in-Some.code in
    let left = c.pop.new.self.items in
    let split : l.literals.items ≡ left ++ code ∷ [] = c.in-Some.ensures.items in
    let size : length l.literals.items ≡ length (left ++ code ∷ []) = ap length split in
    let more = length-append left (code ∷ []) in
    let same = l.literals.ok.0 in
    let count = c.len.ensures in
    let test = c.loop-literals-test.true in
    let le : c.args.count ≤ length left = omega arith in
    record {
      tabled = c.set_value.ensures.tabled;
      consistent = subst (IsConsistent left) (sym c.set_value.ensures.values) (IsConsistent-pop left l.values code (subst (λ z. IsConsistent z l.values) split l.invariant.consistent));
      kept = sym (take-append-le c.args.count left (code ∷ []) le) ∙ ap (take c.args.count) (sym split) ∙ l.invariant.kept;
    }
