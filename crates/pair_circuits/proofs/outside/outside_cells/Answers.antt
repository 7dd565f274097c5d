use Rattle.std.proofs.Common.{◌∙◌, ap, sym, ◌++◌, arith}
use Rattle.std.proofs.lemmas.List.{append-nil}
use Rattle.std.proofs.lemmas.Result.{err_from_is_err_and}
use Rattle.word_circuits.proofs.Growth.{handed_on}
use Rattle.query_formulas.specs.Literals.{MadeLiterals}
use Rattle.pair_circuits.proofs.Turns.{outside_turn, outside_end}
use Rattle.pair_circuits.proofs.outside.outside_cells.Goals as goal

pub returns-clause-lits : goal.returns-clause-lits
returns-clause-lits c =
    let done = outside_end c.loop-i.i c.args.cells.now c.args.words.now c.loop-i.circuit (omega arith) in
    sym (append-nil c.loop-i.lits.items) ∙ sym (ap (λ (m : MadeLiterals). c.loop-i.lits.items ++ m.lits) done) ∙ c.loop-i.invariant.lits

pub returns-clause-net : goal.returns-clause-net
returns-clause-net c =
    let done = outside_end c.loop-i.i c.args.cells.now c.args.words.now c.loop-i.circuit (omega arith) in
    sym (ap (λ (m : MadeLiterals). m.net) done) ∙ c.loop-i.invariant.net

pub returns-in_err-add_outside-clause-too_many : goal.returns-in_err-add_outside-clause-too_many
returns-in_err-add_outside-clause-too_many c =
    let p = err_from_is_err_and c.from_residual.result c.from_residual.ensures.1 in
    handed_on c.from_residual.result p.0 _ _ _ p.1 p.2 c.in_err-add_outside.ensures.too_many
    (outside_turn c.args.cells.now c.args.words.now c.loop-i.i _ c.index-words-i.result c.as_slice.result.now c.loop-i.circuit _ (omega arith) (omega arith) c.index-words-i.is c.as_slice.ensures.value c.loop-i.invariant.net)
