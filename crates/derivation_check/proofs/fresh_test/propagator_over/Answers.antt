use Rattle.std.proofs.Common.{◌+◌, ◌++◌, ◌∷◌, [], take, sym, ◌∙◌, ap, subst, arith}
use Rattle.std.proofs.lemmas.List.{take_all, take_more}
use Rattle.clause_core.specs.Freshness.{Unforced}
use Rattle.clause_core.specs.Steps.{VariablesBelow}
use Rattle.clause_core.proofs.Ranges.{AllVariablesBelow-within}
use Rattle.derivation_check.proofs.fresh_test.propagator_over.Goals as goal

pub add_given-requires : goal.add_given-requires
add_given-requires c =
    let v = c.args.cnf.now.variables in
    let held = c.clauses-clauses.result.now in
    let item = c.clause-item.result in
    subst (λ n. VariablesBelow n c.literals.result.now) (sym c.loop-clause.invariant.size)
    (subst (VariablesBelow (v + 1)) (sym (c.literals.ensures ∙ c.clause-item.is)) (AllVariablesBelow-within v held c.clauses-clauses.ensures.within c.loop-clause.clause-index item (omega arith)))

pub loop-clause-preserved : goal.loop-clause-preserved
loop-clause-preserved c =
    let held = c.clauses-clauses.result.now in
    let i = c.loop-clause in
    let item = c.clause-item.result in
    record {
      held = c.in_ok-add_given.ensures.held ∙ ap (λ z. z ++ c.literals.result.now ∷ []) i.invariant.held
          ∙ ap (λ z. take i.clause-index held ++ z ∷ []) (c.literals.ensures ∙ c.clause-item.is) ∙ sym (take_more held i.clause-index item (omega arith));
      size = c.add_given.ensures.size ∙ i.invariant.size;
    }

pub returns : goal.returns
returns c =
    let same = c.loop-clause.invariant.held ∙ take_all c.loop-clause.clause-index c.clauses-clauses.result.now (omega arith) ∙ c.clauses-clauses.ensures.same in
    record { held = λ vs un. subst (λ cs. Unforced cs vs) same un; size = c.loop-clause.invariant.size }
