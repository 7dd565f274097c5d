use Rattle.std.proofs.Common.{◌≡◌, ◌<◌, ◌+◌, ◌^◌, [], ◌∷◌, ◌++◌, pos, length, arith, refl, ap, sym, subst, ◌∙◌}
use Rattle.std.proofs.lemmas.List.{length-map}
use Rattle.program_tree.specs.Tree.{number}
use Rattle.program_tree.specs.View.{cell_view, cells_view, called_view, all_called_view, stmts_view, program_view}
use Rattle.flat_core.specs.FlatRules.{IsFlat}
use Rattle.flat_core.specs.FlatTree.{set, FlatData}
use Rattle.flat_core.specs.FlatView.{flats_of, flats_view}
use Rattle.flat_form.specs.Owners.{program_owner}
use Rattle.flat_form.specs.Pous.{bodies_of}
use Rattle.flat_form.specs.FlatPrograms.{bodies_in, flat_program, flat_scan}
use Rattle.flat_form.specs.Unless.{without_flags}
use Rattle.flat_form.specs.FlatLists.{scratch_of_all, flat_of_all}
use Rattle.fb_inline.proofs.PouLemmas.{idle-here}
use Rattle.fb_inline.proofs.TypedForms.{form-typed}
use Rattle.fb_inline.proofs.TypedLemmas.{program-typed}
use Rattle.fb_inline.proofs.ViewLemmas.{few-items}
use Rattle.fb_inline.proofs.program.flat_program.Goals as goal

pub flatten_all-requires : goal.flatten_all-requires
flatten_all-requires c =
    let whole = c.args.program.now.called.items in
    let all : c.len-2.result ≡ length whole = omega (arith, ap length c.deref-2.ensures.value) in
    let p = program_view c.args.program.now in
    let below : c.len-2.result ≡ length p.called = omega (arith, length-map whole called_view, all) in
    let cells : length p.cells < 2 ^ 64 = omega (arith, length-map c.args.program.now.cells.items cell_view, few-items c.args.program.now.cells) in
    record {
      known = record {
        few = omega arith;
        called = omega arith;
        idle = idle-here c.in_ok-idle.idle.items c.deref-3.result.now c.deref-2.result.now c.deref.result.now whole c.len-2.result c.deref-3.ensures.value c.deref.ensures.value c.deref-2.ensures.value all c.in_ok-idle.ensures;
      };
      typed = program-typed p c.requires.typed (stmts_view c.deref-4.result.now) (ap stmts_view c.deref-4.ensures.value) cells _ refl below (ap all_called_view c.deref-2.ensures.value);
    }

pub invariant_of-result : goal.invariant_of-result
invariant_of-result c =
    let p = program_view c.args.program.now in
    let whole = c.args.program.now.called.items in
    let made : FlatData = record { cells = cells_view c.in_ok-copy_cells.field-0.items; scratch = c.flatten_all.new.scratch.items; body = flats_of (flats_view c.flatten_all.new.out.items) } in
    let s = c.flatten_all.new.scratch.items in
    let b = flats_view c.flatten_all.new.out.items in
    let cells_are : cells_view c.in_ok-copy_cells.field-0.items ≡ p.cells = c.in_ok-copy_cells.ensures ∙ ap cells_view c.deref-5.ensures.value in
    let called : c.len-2.result ≡ length p.called = omega (arith, length-map whole called_view, ap length c.deref-2.ensures.value) in
    let bodies_are : bodies_of (all_called_view c.deref-2.result.now) c.len-2.result ≡ bodies_in p =
    ap (λ ps. bodies_of (all_called_view ps) c.len-2.result) c.deref-2.ensures.value ∙ ap (bodies_of p.called) called in
    let body_stands : stmts_view c.deref-4.result.now ≡ p.body = ap stmts_view c.deref-4.ensures.value in
    let scratch_is : s ≡ scratch_of_all (bodies_in p) p.body =
    c.in_ok-flatten_all.ensures.scratch
    ∙ (ap (λ before. before ++ scratch_of_all (bodies_of (all_called_view c.deref-2.result.now) c.len-2.result) (stmts_view c.deref-4.result.now)) c.new-scratch.ensures.items
    ∙ (ap (λ bodies. scratch_of_all bodies (stmts_view c.deref-4.result.now)) bodies_are ∙ ap (scratch_of_all (bodies_in p)) body_stands)) in
    let at : c.len.result + length c.new-scratch.result.items ≡ length p.cells = omega (arith, length-map c.args.program.now.cells.items cell_view, ap length c.new-scratch.ensures.items, c.len.ensures) in
    let first : flats_view c.put_number.new.out.items ≡ set 0 (number (pos 0)) ∷ [] = c.in_ok-put_number.ensures ∙ ap (λ before. flats_view before ++ (set 0 (number (pos 0)) ∷ [])) c.new-body.ensures.items in
    let body_is : b ≡ flat_scan p =
    c.in_ok-flatten_all.ensures.list
    ∙ (ap (λ before. before ++ flat_of_all (bodies_of (all_called_view c.deref-2.result.now) c.len-2.result) program_owner 0 without_flags (stmts_view c.deref-4.result.now) (c.len.result + length c.new-scratch.result.items)) first
    ∙ (ap (λ bodies. set 0 (number (pos 0)) ∷ flat_of_all bodies program_owner 0 without_flags (stmts_view c.deref-4.result.now) (c.len.result + length c.new-scratch.result.items)) bodies_are
    ∙ (ap (λ list. set 0 (number (pos 0)) ∷ flat_of_all (bodies_in p) program_owner 0 without_flags list (c.len.result + length c.new-scratch.result.items)) body_stands
    ∙ ap (λ k. set 0 (number (pos 0)) ∷ flat_of_all (bodies_in p) program_owner 0 without_flags p.body k) at))) in
    let is : made ≡ flat_program p =
    ap (λ cs. record { cells = cs; scratch = s; body = flats_of b }) cells_are
    ∙ (ap (λ ss. record { cells = p.cells; scratch = ss; body = flats_of b }) scratch_is ∙ ap (λ bs. record { cells = p.cells; scratch = (flat_program p).scratch; body = flats_of bs }) body_is) in
    let typed = form-typed p (record { begins_with_fault = c.requires.fit.begins_with_fault; start_in_range = c.requires.fit.start_in_range }) c.requires.typed in
    record { rules = ∣ subst IsFlat (sym is) typed.flat ∣₁ }
