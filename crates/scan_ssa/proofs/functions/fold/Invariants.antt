use Rattle.std.proofs.Common.{◌≡◌, drop}
use Rattle.node_core.specs.Words.{folded, of_many}
use Rattle.scan_ssa.specs.Making.{list_view}
use Rattle.scan_ssa.specs.Folds.{fold_node}
use Rattle.scan_ssa.proofs.functions.fold.Given as goal

-- what is left to do gives the whole
abbrev pub invariant-loop-i : goal.invariant-loop-i
invariant-loop-i l = record {
  rest : folded (fold_node l.least l.kind) l.word (drop l.i l.words) (list_view l.making) ≡ of_many (fold_node l.least l.kind) l.kind l.words (list_view l.initial.making);
  limit : l.making.limit ≡ l.initial.making.limit;
}
