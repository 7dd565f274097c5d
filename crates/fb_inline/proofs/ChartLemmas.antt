-- The statements of a chart, one part behind the other.
use Rattle.std.proofs.Common.{◌≡◌, ℕ, zero, suc, ◌+◌, ◌*◌, ◌<◌, ◌≤◌, List, [], ◌∷◌, ◌++◌, length, drop, pos, refl, ap, arith, append_assoc, length-append, length-drop}
use Rattle.program_tree.specs.declared.typed.StepCells.{StepCells}
use Rattle.program_tree.specs.Tree.{number, TransitionData, chart, Actions}
use Rattle.program_tree.specs.declared.scratch.Scratch.{Scratch}
use Rattle.flat_core.specs.FlatTree.{FlatStatement, set}
use Rattle.flat_form.specs.Owners.{OwnerData}
use Rattle.flat_form.specs.Bodies.{Bodies}
use Rattle.flat_form.specs.FlatCharts.{latch_list, flag_cell, flags_of, clear_flags, flat_transitions, mark_list}
use Rattle.flat_form.specs.Unless.{without_flags}
use Rattle.flat_form.specs.FlatLists.{scratch_of_actions, flat_of, flat_actions}
use Rattle.flat_laws.proofs.ChartMoves.{length-flags}

-- ---- the flags of one more step

left-flags : (steps : List StepCells) (i : ℕ) → i < length steps → flags_of (drop i steps) ≡ flag_cell ∷ flag_cell ∷ flags_of (drop (i + 1) steps)
left-flags [] i h = absurd (omega (arith, h))
left-flags (p ∷ ps) zero h = refl
left-flags (p ∷ ps) (suc i) h = let more : suc i + 1 ≡ suc (i + 1) = omega arith in rw more (left-flags ps i (omega (arith, h)))

left-cleared : (steps : List StepCells) (i k : ℕ) → i < length steps
    → clear_flags (drop i steps) k ≡ set k (number (pos 0)) ∷ set (k + 1) (number (pos 0)) ∷ clear_flags (drop (i + 1) steps) (k + 2)
left-cleared [] i k h = absurd (omega (arith, h))
left-cleared (p ∷ ps) zero k h = refl
left-cleared (p ∷ ps) (suc i) k h = let more : suc i + 1 ≡ suc (i + 1) = omega arith in rw more (left-cleared ps i k (omega (arith, h)))

module _ (steps : List StepCells) (i cells : ℕ) (below : i < length steps) (made made1 made2 : List Scratch) (is_made1 : made1 ≡ made ++ flag_cell ∷ []) (is_made2 : made2 ≡ made1 ++ flag_cell ∷ []) where
  pub more-flags : made2 ++ flags_of (drop (i + 1) steps) ≡ made ++ flags_of (drop i steps)
  more-flags = rw (left-flags steps i below, is_made2, is_made1) (simp append_assoc)

  pub more-cleared : (out out1 out2 : List FlatStatement) → out1 ≡ out ++ set (cells + length made) (number (pos 0)) ∷ [] → out2 ≡ out1 ++ set (cells + length made1) (number (pos 0)) ∷ []
      → out2 ++ clear_flags (drop (i + 1) steps) (cells + length made2) ≡ out ++ clear_flags (drop i steps) (cells + length made)
  more-cleared out out1 out2 is_out1 is_out2 =
      let t1 : cells + length made1 ≡ cells + length made + 1 = omega (arith, ap length is_made1, length-append made (flag_cell ∷ [])) in
      let t2 : cells + length made2 ≡ cells + length made + 2 = omega (arith, t1, ap length is_made2, length-append made1 (flag_cell ∷ [])) in
      rw (left-cleared steps i (cells + length made) below, is_out2, is_out1, t2, t1) (simp append_assoc)

-- all flags stand behind those that were there before
pub flags-made : (steps : List StepCells) (i : ℕ) (made all : List Scratch) → length steps ≤ i → all ++ flags_of (drop i steps) ≡ made ++ flags_of steps → length all ≡ length made + 2 * length steps
flags-made steps i made all done is =
    omega (arith, done, ap length is, length-append all (flags_of (drop i steps)), length-append made (flags_of steps), length-flags (drop i steps), length-flags steps, length-drop i steps)

-- ---- a chart

module _ (bodies : Bodies) (owner : OwnerData) (base cells : ℕ) (steps : List StepCells) (actions : Actions) (ts : List TransitionData) (made made1 made2 : List Scratch)
    (is_made1 : made1 ≡ made ++ scratch_of_actions bodies actions) (is_made2 : made2 ≡ made1 ++ flags_of steps) where
  pub chart-listed : (out out1 out2 out3 out4 out5 : List FlatStatement) (flags : ℕ) → flags ≡ cells + length made1
      → out1 ≡ out ++ latch_list owner base steps actions → out2 ≡ out1 ++ flat_actions bodies owner base steps actions (cells + length made) → out3 ≡ out2 ++ clear_flags steps (cells + length made1)
      → out4 ≡ out3 ++ flat_transitions bodies owner base steps flags ts (cells + length made2) → out5 ≡ out4 ++ mark_list owner base steps flags
      → out5 ≡ out ++ flat_of bodies owner base without_flags (chart steps actions ts) (cells + length made)
  chart-listed out out1 out2 out3 out4 out5 flags is_flags is_out1 is_out2 is_out3 is_out4 is_out5 =
      let t1 : cells + length made1 ≡ cells + length made + length (scratch_of_actions bodies actions)
      = omega (arith, ap length is_made1, length-append made (scratch_of_actions bodies actions)) in
      let t2 : cells + length made2 ≡ cells + length made + length (scratch_of_actions bodies actions) + length (flags_of steps)
      = omega (arith, t1, ap length is_made2, length-append made1 (flags_of steps)) in
      rw (is_out5, is_out4, is_out3, is_out2, is_out1, is_flags, t2, t1) (simp append_assoc)
