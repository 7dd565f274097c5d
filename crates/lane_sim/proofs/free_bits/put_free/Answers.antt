use Rattle.std.proofs.Common.{◌≡◌, ◌≤◌, ℕ, List, [], ◌∷◌, length, get_or, ap, ◌∙◌, arith, refl}
use Rattle.std.specs.Prelude.{slice_set}
use borrow.Rule.Slice.PartMut.{put_mid}
use Rattle.lane_sim.specs.Lanes.{lane}
use Rattle.lane_sim.proofs.LaneLaws.{lane_ones}
use Rattle.lane_sim.proofs.free_bits.put_free.Goals as goal

-- the words from place 2 on are others, and the one at place 1 stays
second_stays : (k : ℕ) (words more : List (List ℕ)) (w : List ℕ) → 2 ≤ length words → get_or (put_mid 2 k (slice_set words 1 w) more) 1 [] ≡ w
second_stays k [] more w h = absurd (omega arith)
second_stays k (a ∷ []) more w h = absurd (omega arith)
second_stays k (a ∷ b ∷ rest) more w h = refl

pub returns-clause-one : goal.returns-clause-one
returns-clause-one c j h =
    ap (λ z. lane z j) (second_stays _ c.args.words.now c.copy_from_slice.new.self _ (omega arith)) ∙ lane_ones j h
