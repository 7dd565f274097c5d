use Rattle.std.proofs.Common.{◌+◌, ◌*◌, ◌≤◌, ◌≡◌, length, Some, take, drop, sym, ap, ◌∙◌, arith}
use Rattle.std.specs.Prelude.{slice_get}
use Rattle.trace_rows.proofs.RowLemmas.{length-rows_of, row_at, row_within}
use Rattle.trace_rows.proofs.rows.TraceRows.row.Goals as goal

pub overflow_mul-place : goal.overflow_mul-place
overflow_mul-place c =
    let r = c.self.inside in
    let counted : length c.args.self.now ≡ r.count = ap length (sym c.self.view_is) ∙ length-rows_of r.width r.count r.numbers.items in
    let within : c.args.place * r.width + r.width ≤ length r.numbers.items = row_within r.width r.count c.args.place (length r.numbers.items) (omega arith) c.self.invariant in
    omega (arith, within, r.numbers.ok.0, r.numbers.ok.1, r.numbers.small)

pub part-requires : goal.part-requires
part-requires c =
    let r = c.self.inside in
    let counted : length c.args.self.now ≡ r.count = ap length (sym c.self.view_is) ∙ length-rows_of r.width r.count r.numbers.items in
    let within : c.args.place * r.width + r.width ≤ length r.numbers.items = row_within r.width r.count c.args.place (length r.numbers.items) (omega arith) c.self.invariant in
    omega (arith, within, ap length c.deref.ensures.value)

pub returns : goal.returns
returns c =
    let r = c.self.inside in
    let counted : length c.args.self.now ≡ r.count = ap length (sym c.self.view_is) ∙ length-rows_of r.width r.count r.numbers.items in
    ap (λ rows. slice_get rows c.args.place) (sym c.self.view_is) ∙ row_at r.width r.count r.numbers.items c.args.place (omega arith)
    ∙ ap (λ zs. Some (take r.width (drop (c.args.place * r.width) zs))) (sym c.deref.ensures.value) ∙ ap (λ s. Some s) (sym c.part.ensures)
