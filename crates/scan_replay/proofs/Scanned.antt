-- What a scan leaves, by the parts that the code hands to the interpreter.
use Rattle.std.proofs.Common.{◌≡◌, ℕ, List, length, refl, sym, ap, ◌∙◌, pos}
use Rattle.std.specs.Prelude.{slice_set}
use Rattle.std.specs.Vec.{vec_len}
use Rattle.std.proofs.lemmas.List.{length-map}
use Rattle.plc_types.specs.declared.range.Range.{Range}
use Rattle.program_tree.specs.declared.typed.Called.{Called}
use Rattle.program_tree.specs.declared.typed.Program.{Program}
use Rattle.program_tree.specs.declared.typed.TypedStmt.{TypedStmt}
use Rattle.program_tree.specs.View.{called_view, all_called_view, stmts_view, cells_view, program_view}
use Rattle.meaning.specs.Values.{State}
use Rattle.meaning.specs.Effects.{state_of, effect_of_all}
use Rattle.meaning.specs.Calls.{callees_of}
use Rattle.scan_model.specs.Scans.{ranges_of, scanned}

pub scan-left : (p : Program) (ranges : List Range) (called : List Called) (n : ℕ) (body : List TypedStmt) (s begun after : State)
    → after ≡ state_of (effect_of_all (callees_of (all_called_view called) n) ranges 0 (stmts_view body) begun)
    → called ≡ p.called.items → n ≡ vec_len p.called → length called ≡ vec_len p.called → body ≡ p.body.items → ranges ≡ ranges_of (cells_view p.cells.items) → begun ≡ slice_set s 0 (pos 0)
    → after ≡ scanned (program_view p) s
scan-left p ranges called n body s begun after ran is_called is_n is_long is_body is_ranges is_begun =
    let long : n ≡ length (all_called_view p.called.items) = is_n ∙ sym is_long ∙ ap length is_called ∙ sym (length-map p.called.items called_view) in
    rw (ran, long, is_called, is_body, is_ranges, is_begun) refl
