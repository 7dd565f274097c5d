use Rattle.std.proofs.Common.{◌∙◌, sym, subst, List}
use Rattle.clause_core.specs.declared.literal.Lit.{Lit}
use Rattle.query_formulas.specs.QueryClauses.{AreInside}
use Rattle.pair_circuits.proofs.Inside.{inside_negations}
use Rattle.pair_circuits.proofs.formula.add_some_fails.Goals as goal

pub push-requires : goal.push-requires
push-requires c =
    subst (λ (ls : List Lit). AreInside c.args.formula.now.variables ls) (sym (c.as_slice.ensures.value ∙ c.in_ok-negatives.ensures))
    (inside_negations c.args.formula.now.variables c.args.lits.now c.requires)
