use Rattle.std.proofs.Common.{◌≡◌, ◌-◌, length, []}
use Rattle.source_tree.specs.SyntaxView.{all_variables_view}
use Rattle.grammar.specs.Reading.{ahead}
use Rattle.grammar.specs.Declarations.{variables}
use Rattle.file_reader.proofs.declaration.variables.Given as goal

abbrev pub invariant-loop-turn : goal.invariant-loop-turn
invariant-loop-turn l = variables (length l.toks) l.of_function (length l.toks) [] (ahead l.toks l.fn.at) ≡ variables (length l.toks) l.of_function (l._turn-end - l._turn) (all_variables_view l.found.items) (ahead l.toks l.at)
