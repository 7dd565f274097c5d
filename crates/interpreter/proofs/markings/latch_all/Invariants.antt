use Rattle.std.proofs.Common.{◌≡◌, drop}
use Rattle.program_tree.specs.View.{actions_view}
use Rattle.meaning.specs.Effects.{all_latched}
use Rattle.interpreter.proofs.markings.latch_all.Given as goal

abbrev pub invariant-loop-action : goal.invariant-loop-action
invariant-loop-action l =
    all_latched l.scope.ranges.now l.scope.base l.now (actions_view (drop l.action-index l.actions)) l.cells
    ≡ all_latched l.scope.ranges.now l.scope.base l.now (actions_view l.actions) l.initial.cells
