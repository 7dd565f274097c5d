use Rattle.std.proofs.Common.{◌∙◌, List, ap, sym}
use Rattle.program_tree.specs.declared.typed.TypedStmt.{TypedStmt}
use Rattle.program_tree.specs.Leaving.{can_exit_all, can_return_all}
use Rattle.program_tree.specs.View.{stmt_view, stmts_view}
use Rattle.flat_count.specs.Counts.{count_of, count_of_all, counting_here, capped}
use Rattle.flat_count.proofs.CountLemmas.{turns-counted}
use Rattle.flat_count.proofs.count.+count.Goals as goal

pub count-returns-in-For : goal.count-returns-in-For
count-returns-in-For t c =
    let counts = counting_here c.args.counts.now in
    turns-counted counts c.in-For.turns c.in-For.body c.leaving_all.result.exits c.leaving_all.result.returns c.count_all-in-For.result c.count_turns.result
    (c.leaving_all.ensures.exits ∙ ap (λ (l : List TypedStmt). can_exit_all (stmts_view l)) c.deref-in-For.ensures.value)
    (c.leaving_all.ensures.returns ∙ ap (λ (l : List TypedStmt). can_return_all (stmts_view l)) c.deref-in-For.ensures.value)
    (c.count_all-in-For.ensures ∙ ap (λ (l : List TypedStmt). capped (count_of_all counts (stmts_view l))) c.deref-in-For-2.ensures.value)
    c.count_turns.ensures.count
    ∙ ap (λ (s : TypedStmt). capped (count_of counts (stmt_view s))) (sym c.in-For.is)
