use Rattle.std.proofs.Common.{◌≡◌, ◌+◌, ◌<◌, ◌∷◌, [], length, length-append, ap, arith, ◌∙◌}
use Rattle.meaning.specs.Frames.{scratch_at}
use Rattle.flat_charts.specs.Views.{frame_view}
use Rattle.fb_inline.proofs.CallLemmas.{more-others, more-other-scratch, more-other-starts}
use Rattle.fb_inline.proofs.frames.put_others.Goals as goal

pub loop-place-preserved : goal.loop-place-preserved
loop-place-preserved c =
    let frame = frame_view c.args.frame.now in
    let cells = c.args.cells in
    let place = c.loop-place.place in
    let end = length c.args.frame.now.types.items in
    let below : place < end = omega arith in
    let made = c.loop-place.scratch.items in
    let next : cells + length c.put_start.new.scratch.items ≡ cells + length made + 1
    = omega (arith, ap length c.in_ok-there.ensures.scratch, length-append made (scratch_at frame place ∷ [])) in
    record {
      places = more-others frame place end below _ _ c.in_ok-there.there (cells + length made) _ c.in_ok-push.ensures.items c.in_ok-there.ensures.place next ∙ c.loop-place.invariant.places;
      scratch = more-other-scratch frame place end below _ _ c.in_ok-there.ensures.scratch ∙ c.loop-place.invariant.scratch;
      list = more-other-starts frame place end below _ _ (cells + length made) _ c.in_ok-there.ensures.list next ∙ c.loop-place.invariant.list;
    }
