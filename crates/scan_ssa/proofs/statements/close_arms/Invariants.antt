use Rattle.std.proofs.Common.{◌≡◌, ℕ, length, vec_len}
use Rattle.scan_ssa.specs.Making.{list_view}
use Rattle.scan_ssa.specs.Trails.{Keeps}
use Rattle.scan_ssa.specs.OpenArms.{open_views, AreMarks, closed}
use Rattle.scan_ssa.proofs.statements.close_arms.Given as goal

-- closing what is still open gives the whole
abbrev pub invariant-loop-arm : goal.invariant-loop-arm
invariant-loop-arm l = record {
  marks : AreMarks 0 l.sides.items (length l.trail.log.items);
  kept : (low : ℕ) → AreMarks low l.initial.sides.items (length l.initial.trail.log.items) → AreMarks low l.sides.items (length l.trail.log.items) × Keeps low l.initial.trail l.trail;
  rest : closed l.places (open_views l.trail l.sides.items) (record { store = l.trail.store.items; list = list_view l.making })
      ≡ closed l.places (open_views l.initial.trail l.initial.sides.items) (record { store = l.initial.trail.store.items; list = list_view l.initial.making });
  limit : l.making.limit ≡ l.initial.making.limit;
}

abbrev pub decreases-loop-arm : goal.decreases-loop-arm
decreases-loop-arm l = vec_len l.sides
