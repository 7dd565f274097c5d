use Rattle.std.proofs.Common.{◌≡◌, ◌-◌, length, []}
use Rattle.source_tree.specs.SyntaxView.{step_actions_view}
use Rattle.grammar.specs.Reading.{ahead}
use Rattle.grammar.specs.ChartSteps.{step_actions}
use Rattle.file_reader.proofs.step.step_actions.Given as goal

abbrev pub invariant-loop-turn : goal.invariant-loop-turn
invariant-loop-turn l = step_actions (length l.toks) [] (ahead l.toks l.fn.at) ≡ step_actions (l._turn-end - l._turn) (step_actions_view l.found.items) (ahead l.toks l.at)
