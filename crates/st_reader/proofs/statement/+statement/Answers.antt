use Rattle.std.proofs.Common.{◌≡◌, false, length, rules, arith, ap}
use Rattle.std.proofs.lemmas.Grind.{common_steps}
use Rattle.source_tree.specs.SyntaxView.{stmts_view, arms_view, entries_view}
use Rattle.grammar.specs.Reading.{ahead}
use Rattle.grammar.specs.Expressions.{expression}
use Rattle.grammar.specs.Statements.{simple, nested, statements, statements_from, arms_from, entries_from, opened}
use Rattle.grammar.proofs.Turns.{one_more, no_more}
use Rattle.grammar.proofs.StatementLists.{nested_step, stmts-push, arms-push, entries-push}
use Rattle.st_reader.proofs.statement.+statement.Goals as goal

pub arms-returns-in_err-condition : goal.arms-returns-in_err-condition
unfolding arms_from
arms-returns-in_err-condition t c =
    let e = one_more (λ n. arms_from (length c.args.toks.now) (expression (length c.args.toks.now) c.args.depth) (statements (length c.args.toks.now) c.args.depth false) n (arms_view c.loop-turn.found.items) (ahead c.args.toks.now c.loop-turn.at)) _ c.loop-turn._turn c.loop-turn-test.true c.loop-turn.invariant in
    first_of (search rules, grind (arith, common_steps))

pub arms-returns-in_err-next : goal.arms-returns-in_err-next
unfolding arms_from
arms-returns-in_err-next t c =
    let e = one_more (λ n. arms_from (length c.args.toks.now) (expression (length c.args.toks.now) c.args.depth) (statements (length c.args.toks.now) c.args.depth false) n (arms_view c.loop-turn.found.items) (ahead c.args.toks.now c.loop-turn.at)) _ c.loop-turn._turn c.loop-turn-test.true c.loop-turn.invariant in
    first_of (search rules, grind (arith, common_steps))

pub arms-returns-in_err-body : goal.arms-returns-in_err-body
unfolding arms_from
arms-returns-in_err-body t c =
    let e = one_more (λ n. arms_from (length c.args.toks.now) (expression (length c.args.toks.now) c.args.depth) (statements (length c.args.toks.now) c.args.depth false) n (arms_view c.loop-turn.found.items) (ahead c.args.toks.now c.loop-turn.at)) _ c.loop-turn._turn c.loop-turn-test.true c.loop-turn.invariant in
    first_of (search rules, grind (arith, common_steps))

pub arms-returns-in_default : goal.arms-returns-in_default
unfolding arms_from
arms-returns-in_default t c =
    let e = one_more (λ n. arms_from (length c.args.toks.now) (expression (length c.args.toks.now) c.args.depth) (statements (length c.args.toks.now) c.args.depth false) n (arms_view c.loop-turn.found.items) (ahead c.args.toks.now c.loop-turn.at)) _ c.loop-turn._turn c.loop-turn-test.true c.loop-turn.invariant in
    first_of (search rules, grind (arith, common_steps, arms-push))

pub arms-loop-turn-preserved : goal.arms-loop-turn-preserved
unfolding arms_from
arms-loop-turn-preserved t c =
    let e = one_more (λ n. arms_from (length c.args.toks.now) (expression (length c.args.toks.now) c.args.depth) (statements (length c.args.toks.now) c.args.depth false) n (arms_view c.loop-turn.found.items) (ahead c.args.toks.now c.loop-turn.at)) _ c.loop-turn._turn c.loop-turn-test.true c.loop-turn.invariant in
    first_of (search rules, grind (arith, common_steps, arms-push))

pub arms-returns : goal.arms-returns
unfolding arms_from
arms-returns t c =
    let e = no_more (λ n. arms_from (length c.args.toks.now) (expression (length c.args.toks.now) c.args.depth) (statements (length c.args.toks.now) c.args.depth false) n (arms_view c.loop-turn.found.items) (ahead c.args.toks.now c.loop-turn.at)) _ c.loop-turn._turn c.loop-turn-test.false c.loop-turn.invariant in
    first_of (search rules, grind (arith, common_steps))

pub statements-loop-turn-init : goal.statements-loop-turn-init
unfolding statements
statements-loop-turn-init t c =
    first_of (search rules, grind (arith, common_steps))

pub statements-returns-in_err-next : goal.statements-returns-in_err-next
unfolding statements_from
statements-returns-in_err-next t c =
    let e = one_more (λ n. statements_from c.args.labelled (simple (length c.args.toks.now) c.args.depth) (nested (length c.args.toks.now) c.args.depth) n (stmts_view c.loop-turn.found.items) (ahead c.args.toks.now c.loop-turn.at)) _ c.loop-turn._turn c.loop-turn-test.true c.loop-turn.invariant in
    first_of (search rules, grind (arith, common_steps))

pub statements-returns-in_default : goal.statements-returns-in_default
unfolding statements_from
statements-returns-in_default t c =
    let e = one_more (λ n. statements_from c.args.labelled (simple (length c.args.toks.now) c.args.depth) (nested (length c.args.toks.now) c.args.depth) n (stmts_view c.loop-turn.found.items) (ahead c.args.toks.now c.loop-turn.at)) _ c.loop-turn._turn c.loop-turn-test.true c.loop-turn.invariant in
    first_of (search rules, grind (arith, common_steps))

pub statements-loop-turn-preserved : goal.statements-loop-turn-preserved
unfolding statements_from
statements-loop-turn-preserved t c =
    let e = one_more (λ n. statements_from c.args.labelled (simple (length c.args.toks.now) c.args.depth) (nested (length c.args.toks.now) c.args.depth) n (stmts_view c.loop-turn.found.items) (ahead c.args.toks.now c.loop-turn.at)) _ c.loop-turn._turn c.loop-turn-test.true c.loop-turn.invariant in
    first_of (search rules, grind (arith, common_steps, stmts-push))

pub statements-returns : goal.statements-returns
unfolding statements_from
statements-returns t c =
    let e = no_more (λ n. statements_from c.args.labelled (simple (length c.args.toks.now) c.args.depth) (nested (length c.args.toks.now) c.args.depth) n (stmts_view c.loop-turn.found.items) (ahead c.args.toks.now c.loop-turn.at)) _ c.loop-turn._turn c.loop-turn-test.false c.loop-turn.invariant in
    first_of (search rules, grind (arith, common_steps))

pub entries-returns-in_err-labels : goal.entries-returns-in_err-labels
unfolding entries_from
entries-returns-in_err-labels t c =
    let e = one_more (λ n. entries_from (length c.args.toks.now) (expression (length c.args.toks.now) c.args.depth) (statements (length c.args.toks.now) c.args.depth) n (entries_view c.loop-turn.found.items) (ahead c.args.toks.now c.loop-turn.at)) _ c.loop-turn._turn c.loop-turn-test.true c.loop-turn.invariant in
    first_of (search rules, grind (arith, common_steps))

pub entries-returns-in_err-next : goal.entries-returns-in_err-next
unfolding entries_from
entries-returns-in_err-next t c =
    let e = one_more (λ n. entries_from (length c.args.toks.now) (expression (length c.args.toks.now) c.args.depth) (statements (length c.args.toks.now) c.args.depth) n (entries_view c.loop-turn.found.items) (ahead c.args.toks.now c.loop-turn.at)) _ c.loop-turn._turn c.loop-turn-test.true c.loop-turn.invariant in
    first_of (search rules, grind (arith, common_steps))

pub entries-returns-in_err-body : goal.entries-returns-in_err-body
unfolding entries_from
entries-returns-in_err-body t c =
    let e = one_more (λ n. entries_from (length c.args.toks.now) (expression (length c.args.toks.now) c.args.depth) (statements (length c.args.toks.now) c.args.depth) n (entries_view c.loop-turn.found.items) (ahead c.args.toks.now c.loop-turn.at)) _ c.loop-turn._turn c.loop-turn-test.true c.loop-turn.invariant in
    first_of (search rules, grind (arith, common_steps))

pub entries-returns-then-ends_entries : goal.entries-returns-then-ends_entries
unfolding entries_from
entries-returns-then-ends_entries t c =
    let e = one_more (λ n. entries_from (length c.args.toks.now) (expression (length c.args.toks.now) c.args.depth) (statements (length c.args.toks.now) c.args.depth) n (entries_view c.loop-turn.found.items) (ahead c.args.toks.now c.loop-turn.at)) _ c.loop-turn._turn c.loop-turn-test.true c.loop-turn.invariant in
    first_of (search rules, grind (arith, common_steps, entries-push))

pub entries-loop-turn-preserved : goal.entries-loop-turn-preserved
unfolding entries_from
entries-loop-turn-preserved t c =
    let e = one_more (λ n. entries_from (length c.args.toks.now) (expression (length c.args.toks.now) c.args.depth) (statements (length c.args.toks.now) c.args.depth) n (entries_view c.loop-turn.found.items) (ahead c.args.toks.now c.loop-turn.at)) _ c.loop-turn._turn c.loop-turn-test.true c.loop-turn.invariant in
    first_of (search rules, grind (arith, common_steps, entries-push))

pub entries-returns : goal.entries-returns
unfolding entries_from
entries-returns t c =
    let e = no_more (λ n. entries_from (length c.args.toks.now) (expression (length c.args.toks.now) c.args.depth) (statements (length c.args.toks.now) c.args.depth) n (entries_view c.loop-turn.found.items) (ahead c.args.toks.now c.loop-turn.at)) _ c.loop-turn._turn c.loop-turn-test.false c.loop-turn.invariant in
    first_of (search rules, grind (arith, common_steps))

pub nested-returns-then-depth-eq0 : goal.nested-returns-then-depth-eq0
unfolding nested
nested-returns-then-depth-eq0 t c =
    λ _. let none : c.args.depth ≡ 0 = omega arith in ap (λ d. nested (length c.args.toks.now) d c.args.opener (ahead c.args.toks.now c.args.at)) none

pub nested-returns-in-If : goal.nested-returns-in-If
unfolding opened
nested-returns-in-If t c =
    let e = nested_step (length c.args.toks.now) c.args.depth c.args.opener (ahead c.args.toks.now c.args.at) (omega arith) in
    first_of (search rules, grind (arith, common_steps))

pub nested-returns-in-Case : goal.nested-returns-in-Case
unfolding opened
nested-returns-in-Case t c =
    let e = nested_step (length c.args.toks.now) c.args.depth c.args.opener (ahead c.args.toks.now c.args.at) (omega arith) in
    first_of (search rules, grind (arith, common_steps))

pub nested-returns-in-For : goal.nested-returns-in-For
unfolding opened
nested-returns-in-For t c =
    let e = nested_step (length c.args.toks.now) c.args.depth c.args.opener (ahead c.args.toks.now c.args.at) (omega arith) in
    first_of (search rules, grind (arith, common_steps))
