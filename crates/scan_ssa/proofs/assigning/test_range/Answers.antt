use Rattle.std.proofs.Common.{refl}
use Rattle.std.proofs.lemmas.Result.{err_from_is_err_and}
use Rattle.node_core.specs.Words.{taken, faulted}
use Rattle.node_core.specs.Stores.{tested_word}
use Rattle.scan_ssa.specs.Making.{list_view}
use Rattle.scan_ssa.proofs.Faults.{handed_on, tests_first, tests_second}
use Rattle.scan_ssa.proofs.assigning.test_range.Goals as goal

pub returns-in_err-outside-clause-too_many : goal.returns-in_err-outside-clause-too_many
returns-in_err-outside-clause-too_many c =
    let p = err_from_is_err_and c.from_residual.result c.from_residual.ensures.1 in
    handed_on c.from_residual.result p.0 _ _ _ _ _ p.1 p.2 refl c.in_err-outside.ensures.too_many (tests_first c.args.target c.args.old c.args.word (list_view c.args.making.now))

pub returns-in_err-add_fault-clause-too_many : goal.returns-in_err-add_fault-clause-too_many
returns-in_err-add_fault-clause-too_many c =
    let p = err_from_is_err_and c.from_residual-in_err-add_fault.result c.from_residual-in_err-add_fault.ensures.1 in
    handed_on c.from_residual-in_err-add_fault.result p.0 _ _ _ (faulted (taken c.in_ok-outside.outside (list_view c.make.new.making))) (tested_word c.args.target c.args.old c.args.word (list_view c.args.making.now)).list p.1 p.2 c.in_ok-outside.ensures.limit c.in_err-add_fault.ensures.too_many
    (tests_second c.args.target c.args.old c.args.word c.in_ok-outside.outside (list_view c.args.making.now) (list_view c.make.new.making) c.in_ok-outside.ensures.word c.in_ok-outside.ensures.list)
