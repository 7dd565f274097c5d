use Rattle.std.proofs.Common.{◌≡◌, ◌+◌, true, length, replicate, sym, ◌∙◌, ap, subst, arith}
use Rattle.clause_core.specs.Steps.{VariablesBelow, AllVariablesBelow, assume_false}
use Rattle.clause_core.specs.Clauses.{rises}
use Rattle.clause_core.specs.declared.truth.Truth.TheVariants.{Open}
use Rattle.clause_core.proofs.Ranges.{AllVariablesBelow-within, VariablesBelow-fits}
use Rattle.cdcl_core.specs.Noting.{Derives}
use Rattle.cdcl_core.proofs.Decisions.{IsGoodStep-propagate_from}
use Rattle.cdcl_core.proofs.acceptance.derives.Goals as goal

pub assume_false-requires : goal.assume_false-requires
assume_false-requires c =
    let n : length c.clear.new.values ≡ c.args.variables + 1 = omega (arith, c.requires.size) in
    let good : rises c.args.variables c.literals-literals.result.now ≡ true = sym c.is_rising.ensures ∙ c.if-not-is_rising.false in
    subst (λ m. VariablesBelow m c.literals-literals.result.now) (sym n) (VariablesBelow-fits c.args.variables 0 c.literals-literals.result.now good)

pub last_decides-requires : goal.last_decides-requires
last_decides-requires c =
    let n : length c.assume_false.new.values ≡ c.args.variables + 1 = omega (arith, c.requires.size) in
    subst (λ m. AllVariablesBelow m c.args.held.now) (sym n) (AllVariablesBelow-within c.args.variables c.args.held.now c.requires.held)

pub returns : goal.returns
returns c =
    let held = c.args.held.now in
    let literals = c.literals-literals.result.now in
    let start : c.assume_false.new.values ≡ assume_false (replicate (length c.args.values.now) Open) literals = c.assume_false.ensures ∙ ap (λ z. assume_false z literals) c.clear.ensures in
    let good : rises c.args.variables c.args.step.now.clause ≡ true = ap (rises c.args.variables) (sym c.literals-literals.ensures) ∙ sym c.is_rising.ensures ∙ c.if-not-is_rising.false in
    record {
      good = λ yes.
          IsGoodStep-propagate_from c.args.variables held c.args.step.now (length c.args.values.now) literals c.requires.size c.literals-literals.ensures good
          (subst (λ z. Derives held z c.args.step.now.hints) start (subst (Derives held c.assume_false.new.values) c.numbers.ensures (c.last_decides.ensures yes)));
    }
