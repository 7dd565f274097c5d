use Rattle.std.proofs.Common.{◌≡◌, ◌++◌, drop}
use Rattle.program_tree.specs.View.{operands_view, arguments_view}
use Rattle.node_core.specs.Words.{word_on, words_of}
use Rattle.scan_ssa.specs.Making.{list_view}
use Rattle.scan_ssa.specs.Held.{held_store}
use Rattle.scan_ssa.proofs.words.+words.Given as goal

-- what is left to do gives the whole

abbrev pub invariant-word_on-loop-operand : goal.invariant-word_on-loop-operand
invariant-word_on-loop-operand l = record {
  rest : word_on (held_store l.held) l.left (operands_view (drop l.operand-index l.operands)) (list_view l.making) ≡ word_on (held_store l.held) l.initial.left (operands_view l.operands) (list_view l.initial.making);
  limit : l.making.limit ≡ l.initial.making.limit;
}

abbrev pub invariant-words_of-loop-argument : goal.invariant-words_of-loop-argument
invariant-words_of-loop-argument l = record {
  words : l.words.items ++ (words_of (held_store l.held) l.kind l.others (arguments_view (drop l.argument-index l.arguments)) (list_view l.making)).words ≡ (words_of (held_store l.held) l.initial.kind l.others (arguments_view l.arguments) (list_view l.initial.making)).words;
  list : (words_of (held_store l.held) l.kind l.others (arguments_view (drop l.argument-index l.arguments)) (list_view l.making)).list ≡ (words_of (held_store l.held) l.initial.kind l.others (arguments_view l.arguments) (list_view l.initial.making)).list;
  limit : l.making.limit ≡ l.initial.making.limit;
}
