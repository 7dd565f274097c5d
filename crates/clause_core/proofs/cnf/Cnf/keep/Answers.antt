use Rattle.std.proofs.Common.{◌≡◌, ◌++◌, ◌∷◌, [], true, sym, subst}
use Rattle.std.specs.List.{list_all}
use Rattle.clause_core.specs.Clauses.{is_within, is_set}
use Rattle.clause_core.specs.Formula.{Formula}
use Rattle.clause_core.proofs.Ranges.{list_all-push}
use Rattle.clause_core.proofs.cnf.Cnf.keep.Goals as goal

pub invariant_of-self : goal.invariant_of-self
invariant_of-self c =
    let same : c.push.new.self.items ≡ c.self.inside.clauses.items = c.in_default.ensures.items in
    record {
      few = c.self.invariant.few;
      within = subst (λ z. list_all (is_within c.self.inside.variables) z ≡ true) (sym same) c.self.invariant.within;
      sets = subst (λ z. list_all is_set z ≡ true) (sym same) c.self.invariant.sets;
    }

pub invariant_of-self-2 : goal.invariant_of-self-2
invariant_of-self-2 c =
    let held = c.self.inside.clauses.items in
    let variables = c.self.inside.variables in
    let clause = c.args.clause in
    let inside : is_within variables clause ≡ true = subst (λ (w : Formula). is_within w.variables clause ≡ true) (sym c.self.view_is) c.requires.within in
    let grown : c.push.new.self.items ≡ held ++ clause ∷ [] = c.in-Ok.ensures.items in
    record {
      few = c.self.invariant.few;
      within = subst (λ z. list_all (is_within variables) z ≡ true) (sym grown) (list_all-push (is_within variables) held clause c.self.invariant.within inside);
      sets = subst (λ z. list_all is_set z ≡ true) (sym grown) (list_all-push is_set held clause c.self.invariant.sets c.requires.set);
    }
