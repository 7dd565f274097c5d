use Rattle.std.proofs.Common.{◌≡◌, ◌+◌, ◌-◌, ◌*◌, length, Some}
use Rattle.source_tree.specs.Syntax.{no_links, no_arguments}
use Rattle.source_tree.specs.SyntaxView.{tree_view, links_view, arguments_view}
use Rattle.grammar.specs.Reading.{ahead}
use Rattle.grammar.specs.Expressions.{inside, levelled, links, arguments_from}
use Rattle.st_reader.proofs.+expression.Given as goal

abbrev pub decreases-expressions::inside : goal.decreases-expressions::inside
decreases-expressions::inside l = 32 * l.depth

abbrev pub decreases-call::arguments_from : goal.decreases-call::arguments_from
decreases-call::arguments_from l = 32 * l.depth + 1

abbrev pub decreases-call::arguments : goal.decreases-call::arguments
decreases-call::arguments l = 32 * l.depth + 2

abbrev pub decreases-expressions::called : goal.decreases-expressions::called
decreases-expressions::called l = 32 * l.depth + 3

abbrev pub decreases-expressions::referred : goal.decreases-expressions::referred
decreases-expressions::referred l = 32 * l.depth + 4

abbrev pub decreases-expressions::primary : goal.decreases-expressions::primary
decreases-expressions::primary l = 32 * l.depth + 5

abbrev pub decreases-expressions::signed : goal.decreases-expressions::signed
decreases-expressions::signed l = 32 * l.depth + 6

abbrev pub decreases-expressions::links : goal.decreases-expressions::links
decreases-expressions::links l = 32 * l.depth + 2 * l.level + 6

abbrev pub decreases-expressions::levelled : goal.decreases-expressions::levelled
decreases-expressions::levelled l = 32 * l.depth + 2 * l.level + 7

abbrev pub invariant-call::arguments_from-loop-turn : goal.invariant-call::arguments_from-loop-turn
invariant-call::arguments_from-loop-turn l = arguments_from (length l.toks) (inside (length l.toks) l.depth) l.by_name (length l.toks) no_arguments (ahead l.toks l.fn.at)
    ≡ arguments_from (length l.toks) (inside (length l.toks) l.depth) l.by_name (l._turn-end - l._turn) (arguments_view l.found.items) (ahead l.toks l.at)

abbrev pub invariant-expressions::links-loop-turn : goal.invariant-expressions::links-loop-turn
invariant-expressions::links-loop-turn l = links (levelled (length l.toks) (inside (length l.toks) l.depth) (l.level - 1)) l.level (length l.toks) no_links (ahead l.toks l.fn.at)
    ≡ links (levelled (length l.toks) (inside (length l.toks) l.depth) (l.level - 1)) l.level (l._turn-end - l._turn) (links_view l.links.items) (ahead l.toks l.at)

abbrev pub invariant-expressions::levelled-loop-tighter : goal.invariant-expressions::levelled-loop-tighter
invariant-expressions::levelled-loop-tighter l = levelled (length l.toks) (inside (length l.toks) l.depth) l.tighter (ahead l.toks l.fn.at) ≡ Some (tree_view l.value, ahead l.toks l.at)
