use Rattle.std.proofs.Common.{◌≡◌, ◌+◌, ◌-◌, ◌*◌, false, length}
use Rattle.source_tree.specs.SyntaxView.{stmts_view, arms_view, entries_view}
use Rattle.source_tree.specs.Syntax.{no_arms, no_entries}
use Rattle.grammar.specs.Reading.{ahead}
use Rattle.grammar.specs.Expressions.{expression}
use Rattle.grammar.specs.Statements.{simple, nested, statements, statements_from, arms_from, entries_from}
use Rattle.st_reader.proofs.statement.+statement.Given as goal

abbrev pub decreases-nested : goal.decreases-nested
decreases-nested l = 8 * l.depth

abbrev pub decreases-marked : goal.decreases-marked
decreases-marked l = 8 * l.depth + 1

abbrev pub decreases-begun : goal.decreases-begun
decreases-begun l = 8 * l.depth + 2

abbrev pub decreases-statements : goal.decreases-statements
decreases-statements l = 8 * l.depth + 3

abbrev pub decreases-arms : goal.decreases-arms
decreases-arms l = 8 * l.depth + 4

abbrev pub decreases-entries : goal.decreases-entries
decreases-entries l = 8 * l.depth + 4

abbrev pub decreases-otherwise : goal.decreases-otherwise
decreases-otherwise l = 8 * l.depth + 4

abbrev pub decreases-conditional : goal.decreases-conditional
decreases-conditional l = 8 * l.depth + 5

abbrev pub decreases-selection : goal.decreases-selection
decreases-selection l = 8 * l.depth + 5

abbrev pub decreases-repetition : goal.decreases-repetition
decreases-repetition l = 8 * l.depth + 5

abbrev pub invariant-statements-loop-turn : goal.invariant-statements-loop-turn
invariant-statements-loop-turn l = statements (length l.toks) l.depth l.labelled (ahead l.toks l.fn.at)
    ≡ statements_from l.labelled (simple (length l.toks) l.depth) (nested (length l.toks) l.depth) (l._turn-end - l._turn) (stmts_view l.found.items) (ahead l.toks l.at)

abbrev pub invariant-arms-loop-turn : goal.invariant-arms-loop-turn
invariant-arms-loop-turn l = arms_from (length l.toks) (expression (length l.toks) l.depth) (statements (length l.toks) l.depth false) (length l.toks) no_arms (ahead l.toks l.fn.at)
    ≡ arms_from (length l.toks) (expression (length l.toks) l.depth) (statements (length l.toks) l.depth false) (l._turn-end - l._turn) (arms_view l.found.items) (ahead l.toks l.at)

abbrev pub invariant-entries-loop-turn : goal.invariant-entries-loop-turn
invariant-entries-loop-turn l = entries_from (length l.toks) (expression (length l.toks) l.depth) (statements (length l.toks) l.depth) (length l.toks) no_entries (ahead l.toks l.fn.at)
    ≡ entries_from (length l.toks) (expression (length l.toks) l.depth) (statements (length l.toks) l.depth) (l._turn-end - l._turn) (entries_view l.found.items) (ahead l.toks l.at)
