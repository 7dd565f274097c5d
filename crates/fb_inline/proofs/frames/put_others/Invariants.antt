use Rattle.std.proofs.Common.{◌≡◌, ◌+◌, ◌-◌, ◌++◌, length}
use Rattle.meaning.specs.Frames.{counted_from}
use Rattle.flat_core.specs.FlatView.{flats_view}
use Rattle.flat_form.specs.Frames.{others_behind, other_scratch, other_starts}
use Rattle.flat_charts.specs.Views.{frame_view}
use Rattle.fb_inline.proofs.frames.put_others.Given as goal

-- what is there with what is left to come
abbrev pub invariant-loop-place : goal.invariant-loop-place
invariant-loop-place l = record {
  places : l.places.items ++ counted_from (l.cells + length l.scratch.items) (length l.frame.types.items - l.place)
      ≡ l.initial.places.items ++ counted_from (l.cells + length l.initial.scratch.items) (others_behind (frame_view l.frame) l.inputs);
  scratch : l.scratch.items ++ other_scratch (frame_view l.frame) l.place (length l.frame.types.items - l.place)
      ≡ l.initial.scratch.items ++ other_scratch (frame_view l.frame) (2 + l.inputs) (others_behind (frame_view l.frame) l.inputs);
  list : flats_view l.out.items ++ other_starts (frame_view l.frame) l.place (length l.frame.types.items - l.place) (l.cells + length l.scratch.items)
      ≡ flats_view l.initial.out.items ++ other_starts (frame_view l.frame) (2 + l.inputs) (others_behind (frame_view l.frame) l.inputs) (l.cells + length l.initial.scratch.items);
}
