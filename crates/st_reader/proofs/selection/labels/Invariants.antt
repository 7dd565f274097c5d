use Rattle.std.proofs.Common.{◌≡◌, ◌-◌, length, []}
use Rattle.source_tree.specs.SyntaxView.{labels_view}
use Rattle.grammar.specs.Reading.{ahead}
use Rattle.grammar.specs.Labels.{labels}
use Rattle.st_reader.proofs.selection.labels.Given as goal

abbrev pub invariant-loop-turn : goal.invariant-loop-turn
invariant-loop-turn l = labels (length l.toks) [] (ahead l.toks l.fn.at) ≡ labels (l._turn-end - l._turn) (labels_view l.found.items) (ahead l.toks l.at)
