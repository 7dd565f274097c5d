use Rattle.std.proofs.Common.{◌++◌, Vec, Global, ap, ◌∙◌}
use Rattle.flat_core.specs.declared.flat_tree.FlatStmt.{FlatStmt}
use Rattle.flat_core.specs.FlatView.{flats_view}
use Rattle.flat_form.specs.Unless.{was_left, guarded}
use Rattle.fb_inline.specs.Leaving.{flags_view}
use Rattle.fb_inline.proofs.LeavingLemmas.{within-popped}
use Rattle.fb_inline.proofs.leaving.close.Goals as goal

pub loop-part-preserved : goal.loop-part-preserved
loop-part-preserved c =
    let flags = flags_view c.args.flags in
    let p = c.in-Some.part in
    let rest = flats_view c.replace-rest.result.items in
    record {
      list = within-popped flags c.loop-part.parts.items c.pop.new.self.items p (flats_view c.loop-part.out.items) rest (flats_view c.put_guarded.new.out.items) _ c.in-Some.ensures.items
          (ap (λ (v : Vec FlatStmt Global). flats_view v.items) c.replace-rest.ensures.value)
          (c.in_ok-put_guarded.ensures ∙ ap (λ (v : Vec FlatStmt Global). flats_view v.items ++ guarded (was_left p.left.exits p.left.returns flags) rest) c.replace-rest.ensures.after)
          c.loop-part.invariant.list;
    }
