use Rattle.std.proofs.Common.{◌≡◌, vec_len}
use Rattle.flat_core.specs.FlatView.{flats_view}
use Rattle.fb_inline.specs.Leaving.{flags_view, within}
use Rattle.fb_inline.proofs.leaving.close.Given as goal

-- closing what is still open gives the whole
abbrev pub invariant-loop-part : goal.invariant-loop-part
invariant-loop-part l = record {
  list : within (flags_view l.flags) l.parts.items (flats_view l.out.items) ≡ within (flags_view l.flags) l.initial.parts.items (flats_view l.initial.out.items);
}

abbrev pub decreases-loop-part : goal.decreases-loop-part
decreases-loop-part l = vec_len l.parts
