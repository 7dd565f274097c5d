-- The statements of a CASE, and one more arm of an IF.
use Rattle.std.proofs.Common.{◌≡◌, ℕ, zero, suc, ◌+◌, ◌<◌, List, [], ◌∷◌, ◌++◌, length, drop, get_or, ap, arith, append_assoc, length-append}
use Rattle.plc_types.specs.declared.elementary.Elementary.{Elementary}
use Rattle.program_tree.specs.declared.typed.TypedArm.{TypedArm}
use Rattle.program_tree.specs.Tree.{Expression, cases, Statements, Choices, choose, Entries}
use Rattle.program_tree.specs.View.{ChoiceData, arm_view, choices_view}
use Rattle.program_tree.specs.declared.scratch.Scratch.{Scratch}
use Rattle.program_tree.specs.Places.{whole_cell}
use Rattle.flat_core.specs.FlatTree.{FlatStatement, set}
use Rattle.flat_core.specs.FlatView.{FlatArmData, nested}
use Rattle.flat_form.specs.Owners.{OwnerData}
use Rattle.flat_form.specs.Bodies.{Bodies}
use Rattle.flat_form.specs.Calls.{scratch_in, before, moved}
use Rattle.flat_form.specs.Unless.{Flags}
use Rattle.flat_form.specs.FlatLists.{scratch_of, scratch_of_all, scratch_of_choices, scratch_of_entries, scratch_of_choice, flat_of, flat_of_all, flat_choices, flat_choice, flat_entries}

pub left-choices : (arms : List TypedArm) (i : ℕ) (d a : TypedArm) → i < length arms → get_or arms i d ≡ a → choices_view (drop i arms) ≡ choose (arm_view a).0 (arm_view a).1 (choices_view (drop (i + 1) arms))
left-choices [] i d a h is = absurd (omega (arith, h))
left-choices (x ∷ arms) zero d a h is = ap (λ (y : TypedArm). choose (arm_view y).0 (arm_view y).1 (choices_view arms)) is
left-choices (x ∷ arms) (suc i) d a h is = let more : suc i + 1 ≡ suc (i + 1) = omega arith in rw more (left-choices arms i d a (omega (arith, h)) is)

module _ (bodies : Bodies) (owner : OwnerData) (base cells : ℕ) (flags : Flags) where
  module _ (c : ChoiceData) (arms : Choices) (made made1 : List Scratch) (is_made1 : made1 ≡ made ++ scratch_of_choice bodies c) where
    pub more-choices : (out more : List FlatArmData) → more ≡ out ++ flat_choice bodies owner base flags c (cells + length made) ∷ []
        → more ++ flat_choices bodies owner base flags arms (cells + length made1) ≡ out ++ flat_choices bodies owner base flags (choose c.0 c.1 arms) (cells + length made)
    more-choices out more is_more =
        let later : cells + length made1 ≡ cells + length made + length (scratch_in bodies c.0) + length (scratch_of_all bodies c.1)
        = omega (arith, ap length is_made1, length-append made (scratch_in bodies c.0 ++ scratch_of_all bodies c.1), length-append (scratch_in bodies c.0) (scratch_of_all bodies c.1)) in
        rw (is_more, later) (simp append_assoc)

    pub more-choices-scratch : made1 ++ scratch_of_choices bodies arms ≡ made ++ scratch_of_choices bodies (choose c.0 c.1 arms)
    more-choices-scratch = rw is_made1 (simp append_assoc)

  module _ (e : Expression) (es : Entries) (other : Statements) (kind : Elementary) (made made1 made2 made3 made4 : List Scratch)
      (is_made1 : made1 ≡ made ++ scratch_in bodies e) (is_made2 : made2 ≡ made1 ++ whole_cell kind ∷ [])
      (is_made3 : made3 ≡ made2 ++ scratch_of_entries bodies es) (is_made4 : made4 ≡ made3 ++ scratch_of_all bodies other) where
    pub case-made : made4 ≡ made ++ scratch_of bodies (cases kind e es other)
    case-made = rw (is_made4, is_made3, is_made2, is_made1) (simp append_assoc)

    pub case-listed : (out out1 out2 out3 : List FlatStatement) (value : Expression) (place : ℕ) (none arms : List FlatArmData) (nothing rest : List FlatStatement)
        → value ≡ moved bodies owner base e (cells + length made) → out1 ≡ out ++ before bodies owner base e (cells + length made) → place ≡ cells + length made1 → out2 ≡ out1 ++ set (cells + length made1) value ∷ []
        → none ≡ [] → arms ≡ none ++ flat_entries bodies owner base flags kind place es (cells + length made2) → nothing ≡ [] → rest ≡ nothing ++ flat_of_all bodies owner base flags other (cells + length made3)
        → out3 ≡ out2 ++ nested arms rest → out3 ≡ out ++ flat_of bodies owner base flags (cases kind e es other) (cells + length made)
    case-listed out out1 out2 out3 value place none arms nothing rest is_value is_out1 is_place is_out2 is_none is_arms is_nothing is_rest is_out3 =
        let t : cells + length made1 ≡ cells + length made + length (scratch_in bodies e) = omega (arith, ap length is_made1, length-append made (scratch_in bodies e)) in
        let t1 : cells + length made2 ≡ cells + length made + length (scratch_in bodies e) + 1 = omega (arith, t, ap length is_made2, length-append made1 (whole_cell kind ∷ [])) in
        let t2 : cells + length made3 ≡ cells + length made + length (scratch_in bodies e) + 1 + length (scratch_of_entries bodies es)
        = omega (arith, t1, ap length is_made3, length-append made2 (scratch_of_entries bodies es)) in
        rw (is_out3, is_arms, is_none, is_rest, is_nothing, is_out2, is_out1, is_value, is_place, t2, t1, t) (simp append_assoc)
