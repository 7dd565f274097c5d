use Rattle.std.proofs.Common.{drop, ◌+◌, ap, refl, arith, sym, ◌∙◌}
use Rattle.token_rules.proofs.FirstFaults.{fault_from, fault_here, none_here, fault_end, none_broken, first_broken, shallow}
use Rattle.grammar.specs.Nesting.{nothing_open}
use Rattle.token_rules.proofs.nesting.first_fault.Goals as goal

pub returns-in-Err-clause-first : goal.returns-in-Err-clause-first
returns-in-Err-clause-first c =
    first_broken c.args.toks.now _ (
    c.loop-at.invariant.same ∙ fault_here c.args.toks.now c.loop-at.at c.loop-at.held _ _ c.in-Err.rule refl c.loop-at-test.true c.in-Err.ensures.broken)

pub loop-at-preserved : goal.loop-at-preserved
loop-at-preserved c = record {
  few = c.in-Ok.ensures.few;
  same = c.loop-at.invariant.same ∙ none_here c.args.toks.now c.loop-at.at c.loop-at.held _ _ refl c.loop-at-test.true c.in-Ok.ensures.sound
      ∙ ap (λ o. fault_from o (drop (c.loop-at.at + 1) c.args.toks.now)) (sym c.in-Ok.ensures.next);
}

pub returns-clause-none : goal.returns-clause-none
returns-clause-none c =
    none_broken c.args.toks.now nothing_open (c.loop-at.invariant.same ∙ fault_end c.args.toks.now c.loop-at.at c.loop-at.held (omega arith))

pub returns-clause-shallow : goal.returns-clause-shallow
returns-clause-shallow c =
    shallow c.args.toks.now (c.loop-at.invariant.same ∙ fault_end c.args.toks.now c.loop-at.at c.loop-at.held (omega arith))
