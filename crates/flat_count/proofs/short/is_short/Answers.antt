use Rattle.std.proofs.Common.{ap, sym, ◌∙◌}
use Rattle.program_tree.specs.View.{stmts_view, program_view, all_called_view}
use Rattle.flat_count.specs.Counts.{Counting, count_of_all, capped}
use Rattle.flat_count.proofs.CountLemmas.{is_short-count, counting-same-of}
use Rattle.flat_count.proofs.short.is_short.Goals as goal

pub returns : goal.returns
returns c =
    let p = program_view c.args.program.now in
    let body = stmts_view c.deref-5.result.now in
    let ps = all_called_view c.deref.result.now in
    let runs = c.in_ok-pous.pous.runs.items in
    let bodies = c.in_ok-pous.pous.bodies.items in
    let known = counting-same-of _ ps _ runs _ bodies (ap all_called_view (c.deref-2.ensures.value ∙ sym c.deref.ensures.value)) c.deref-3.ensures.value c.deref-4.ensures.value in
    is_short-count p body runs bodies ps _ (c.count_all-count.ensures ∙ ap (λ (k : Counting). capped (count_of_all k body)) known) c.in_ok-pous.ensures (ap all_called_view c.deref.ensures.value) (ap stmts_view c.deref-5.ensures.value)
