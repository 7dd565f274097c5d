use Rattle.std.proofs.Common.{rules}
use Rattle.source_tree.specs.SyntaxView.{iteration_view}
use Rattle.typing_laws.proofs.Judging.{outcome_of-turns}
use Rattle.stmt_types.proofs.iteration.judge_turns.Goals as goal

pub returns-clause-judged : goal.returns-clause-judged
returns-clause-judged g c =
    outcome_of-turns (g.S.Scope.means c.args.scope.now) c.args.controls.now c.args.meaning (iteration_view c.args.iteration.now) c.or_dint-kind.result c.if-last.fits c.in_ok-first.first.judged c.in_ok-last.last.judged c.in_ok-step.step.judged c.and.result c.and-bounds.result c.judge_control.result c.and-parts.result c.require-judged.result
    (search rules) (search rules) (search rules) (search rules) (search rules) (search rules) (search rules) (search rules) (search rules) (search rules)
