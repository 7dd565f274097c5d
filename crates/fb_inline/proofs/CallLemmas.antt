-- What operands, inputs and calls become, one at a time.
use Rattle.std.proofs.Common.{◌≡◌, ℕ, zero, suc, ◌+◌, ◌-◌, ◌<◌, List, [], ◌∷◌, ◌++◌, length, refl, ap, ◌∙◌, sym, arith, append_assoc, length-append}
use Rattle.plc_types.specs.declared.elementary.Elementary.{Elementary}
use Rattle.plc_types.specs.declared.operator.Operator.{Operator}
use Rattle.program_tree.specs.Tree.{Expression, number, cell, call_function, Operands, operand, Expressions, expression}
use Rattle.program_tree.specs.View.{OperandData}
use Rattle.program_tree.specs.declared.scratch.Scratch.{Scratch}
use Rattle.program_tree.specs.OperandTypes.{arity}
use Rattle.meaning.specs.Frames.{FrameData, scratch_at, initial_at, counted_from}
use Rattle.flat_core.specs.FlatTree.{FlatStatement, set}
use Rattle.flat_form.specs.Frames.{input_start, others_behind, other_scratch, other_starts, places_of}
use Rattle.flat_form.specs.Owners.{OwnerData}
use Rattle.flat_form.specs.Bodies.{Bodies}
use Rattle.flat_form.proofs.OperandLemmas.{with_expressions, with_expressions-push, with_operands, with_operands-push}
use Rattle.flat_form.specs.Calls.{rest_scratch, rest_list, scratch_in, operand_scratch, all_scratch, input_scratch, input_places, moved, moved_operands, all_moved, before, operands_before, all_before, inputs_before}

-- ---- one more of them

module _ (bodies : Bodies) (owner : OwnerData) (base cells : ℕ) (e : Expression) (made made1 : List Scratch) (is_made1 : made1 ≡ made ++ scratch_in bodies e) where
  later : cells + length made1 ≡ cells + length made + length (scratch_in bodies e)
  later = omega (arith, ap length is_made1, length-append made (scratch_in bodies e))

  pub more-operands : (o : Operator) (t : Elementary) (os : Operands) (there more : List OperandData) (d : OperandData) → more ≡ there ++ d ∷ [] → d ≡ (o, t, moved bodies owner base e (cells + length made))
      → with_operands more (moved_operands bodies owner base os (cells + length made1)) ≡ with_operands there (moved_operands bodies owner base (operand o t e os) (cells + length made))
  more-operands o t os there more d is_more is_d =
      rw (is_more, is_d, later) (with_operands-push there (o, t, moved bodies owner base e (cells + length made)) (moved_operands bodies owner base os (cells + length made + length (scratch_in bodies e))))

  pub more-expressions : (es : Expressions) (there more : List Expression) (d : Expression) → more ≡ there ++ d ∷ [] → d ≡ moved bodies owner base e (cells + length made)
      → with_expressions more (all_moved bodies owner base es (cells + length made1)) ≡ with_expressions there (all_moved bodies owner base (expression e es) (cells + length made))
  more-expressions es there more d is_more is_d =
      rw (is_more, is_d, later) (with_expressions-push there (moved bodies owner base e (cells + length made)) (all_moved bodies owner base es (cells + length made + length (scratch_in bodies e))))

  pub more-operands-before : (o : Operator) (t : Elementary) (os : Operands) (out out1 : List FlatStatement) → out1 ≡ out ++ before bodies owner base e (cells + length made)
      → out1 ++ operands_before bodies owner base os (cells + length made1) ≡ out ++ operands_before bodies owner base (operand o t e os) (cells + length made)
  more-operands-before o t os out out1 is_out1 = rw (is_out1, later) (simp append_assoc)

  pub more-before : (es : Expressions) (out out1 : List FlatStatement) → out1 ≡ out ++ before bodies owner base e (cells + length made)
      → out1 ++ all_before bodies owner base es (cells + length made1) ≡ out ++ all_before bodies owner base (expression e es) (cells + length made)
  more-before es out out1 is_out1 = rw (is_out1, later) (simp append_assoc)

  pub more-operand-scratch : (o : Operator) (t : Elementary) (os : Operands) → made1 ++ operand_scratch bodies os ≡ made ++ operand_scratch bodies (operand o t e os)
  more-operand-scratch o t os = rw is_made1 (simp append_assoc)

  pub more-scratch : (es : Expressions) → made1 ++ all_scratch bodies es ≡ made ++ all_scratch bodies (expression e es)
  more-scratch es = rw is_made1 (simp append_assoc)

  -- an input
  module _ (frame : FrameData) (place : ℕ) (es : Expressions) (made2 : List Scratch) (is_made2 : made2 ≡ made1 ++ scratch_at frame place ∷ []) where
    behind : cells + length made2 ≡ cells + length made + length (scratch_in bodies e) + 1
    behind = omega (arith, later, ap length is_made2, length-append made1 (scratch_at frame place ∷ []))

    pub more-input-scratch : made2 ++ input_scratch bodies frame (place + 1) es ≡ made ++ input_scratch bodies frame place (expression e es)
    more-input-scratch = rw (is_made2, is_made1) (simp append_assoc)

    pub more-input-places : (places more : List ℕ) (there : ℕ) → more ≡ places ++ there ∷ [] → there ≡ cells + length made1
        → more ++ input_places bodies es (cells + length made2) ≡ places ++ input_places bodies (expression e es) (cells + length made)
    more-input-places places more there is_more is_there = rw (is_more, is_there, behind, later) (simp append_assoc)

    pub more-inputs-before : (out out1 out2 : List FlatStatement) (value : Expression) → out1 ≡ out ++ before bodies owner base e (cells + length made) → value ≡ moved bodies owner base e (cells + length made)
        → out2 ≡ out1 ++ (input_start frame place (cells + length made1) ++ set (cells + length made1) value ∷ [])
        → out2 ++ inputs_before bodies owner base frame (place + 1) es (cells + length made2) ≡ out ++ inputs_before bodies owner base frame place (expression e es) (cells + length made)
    more-inputs-before out out1 out2 value is_out1 is_value is_out2 = rw (is_out2, is_out1, is_value, behind, later) (simp append_assoc)

-- ---- one variable more behind the inputs

module _ (frame : FrameData) (place end : ℕ) (below : place < end) where
  one_less : end - place ≡ suc (end - (place + 1))
  one_less = omega (arith, below)

  pub more-others : (places more : List ℕ) (there k next_free : ℕ) → more ≡ places ++ there ∷ [] → there ≡ k → next_free ≡ k + 1 → more ++ counted_from next_free (end - (place + 1)) ≡ places ++ counted_from k (end - place)
  more-others places more there k next_free is_more is_there is_next = rw (one_less, is_more, is_there, is_next) (simp append_assoc)

  pub more-other-scratch : (made more : List Scratch) → more ≡ made ++ scratch_at frame place ∷ [] → more ++ other_scratch frame (place + 1) (end - (place + 1)) ≡ made ++ other_scratch frame place (end - place)
  more-other-scratch made more is_more = rw (one_less, is_more) (simp append_assoc)

  pub more-other-starts : (out more : List FlatStatement) (k next_free : ℕ) → more ≡ out ++ set k (number (initial_at frame place)) ∷ [] → next_free ≡ k + 1
      → more ++ other_starts frame (place + 1) (end - (place + 1)) next_free ≡ out ++ other_starts frame place (end - place) k
  more-other-starts out more k next_free is_more is_next = rw (one_less, is_more, is_next) (simp append_assoc)

-- ---- the steps of a call

length-others : (frame : FrameData) (place n : ℕ) → length (other_scratch frame place n) ≡ n
length-others frame place zero = refl
length-others frame place (suc n) = omega (arith, length-others frame (place + 1) n)

module _ (bodies : Bodies) (f n cells : ℕ) (frame : FrameData) (es : Expressions) (same : bodies.frame f ≡ frame) (inputs : n ≡ arity es)
    (made0 made1 made2 : List Scratch)
    (is_made1 : made1 ≡ made0 ++ input_scratch bodies frame 2 es)
    (is_made2 : made2 ≡ made1 ++ other_scratch frame (2 + n) (others_behind frame n)) where
  first_free : cells + length made1 ≡ cells + length made0 + length (input_scratch bodies frame 2 es)
  first_free = omega (arith, ap length is_made1, length-append made0 (input_scratch bodies frame 2 es))

  answer_place : cells + length made2 ≡ cells + length made1 + others_behind frame n
  answer_place = omega (arith, ap length is_made2, length-append made1 (other_scratch frame (2 + n) (others_behind frame n)), length-others frame (2 + n) (others_behind frame n))

  pub call-value : (owner : OwnerData) (base there : ℕ) → there ≡ cells + length made2 → cell there ≡ moved bodies owner base (call_function f es) (cells + length made0)
  call-value owner base there is =
      let over : there ≡ cells + length made0 + length (input_scratch bodies frame 2 es) + others_behind frame (arity es)
      = is ∙ answer_place ∙ ap (λ (k : ℕ). k + others_behind frame n) first_free ∙ ap (λ (m : ℕ). cells + length made0 + length (input_scratch bodies frame 2 es) + others_behind frame m) inputs in
      ap (λ (k : ℕ). cell k) (over ∙ ap (λ (fr : FrameData). cells + length made0 + length (input_scratch bodies fr 2 es) + others_behind fr (arity es)) (sym same))

  pub call-made : (made3 made4 : List Scratch) → made3 ≡ made2 ++ scratch_at frame 1 ∷ [] → made4 ≡ made3 ++ bodies.call_scratch f → made4 ≡ made0 ++ scratch_in bodies (call_function f es)
  call-made made3 made4 is3 is4 =
      let over : made4 ≡ made0 ++ (input_scratch bodies frame 2 es ++ rest_scratch bodies frame f n) = rw (is4, is3, is_made2, is_made1) (simp append_assoc) in
      over ∙ ap (λ (m : ℕ). made0 ++ (input_scratch bodies frame 2 es ++ rest_scratch bodies frame f m)) inputs
      ∙ ap (λ (fr : FrameData). made0 ++ (input_scratch bodies fr 2 es ++ rest_scratch bodies fr f (arity es))) (sym same)

  pub call-listed : (owner : OwnerData) (base there : ℕ) (places all_places : List ℕ) (made3 : List Scratch) (out0 out1 out2 out3 out4 : List FlatStatement)
      → made3 ≡ made2 ++ scratch_at frame 1 ∷ [] → there ≡ cells + length made2
      → places ≡ input_places bodies es (cells + length made0) → all_places ≡ places_of places (cells + length made1) (others_behind frame n)
      → out1 ≡ out0 ++ inputs_before bodies owner base frame 2 es (cells + length made0)
      → out2 ≡ out1 ++ other_starts frame (2 + n) (others_behind frame n) (cells + length made1)
      → out3 ≡ out2 ++ set (cells + length made2) (number (initial_at frame 1)) ∷ []
      → out4 ≡ out3 ++ bodies.call_list f there all_places (cells + length made3)
      → out4 ≡ out0 ++ before bodies owner base (call_function f es) (cells + length made0)
  call-listed owner base there places all_places made3 out0 out1 out2 out3 out4 is3 is_there is_places is_all is1 is2 is_out3 is4 =
      let k1 = cells + length made1 in
      let last : cells + length made3 ≡ k1 + others_behind frame n + 1 = omega (arith, ap length is3, length-append made2 (scratch_at frame 1 ∷ []), answer_place) in
      let over : out4 ≡ out0 ++ (inputs_before bodies owner base frame 2 es (cells + length made0) ++ rest_list bodies frame f n (input_places bodies es (cells + length made0)) k1)
      = rw (is4, is_out3, is2, is1, is_there, is_all, is_places, last, answer_place) (simp append_assoc) in
      over
      ∙ ap (λ (k : ℕ). out0 ++ (inputs_before bodies owner base frame 2 es (cells + length made0) ++ rest_list bodies frame f n (input_places bodies es (cells + length made0)) k)) first_free
      ∙ ap (λ (m : ℕ). out0 ++ (inputs_before bodies owner base frame 2 es (cells + length made0) ++ rest_list bodies frame f m (input_places bodies es (cells + length made0)) (cells + length made0 + length (input_scratch bodies frame 2 es)))) inputs
      ∙ ap (λ (fr : FrameData). out0 ++ (inputs_before bodies owner base fr 2 es (cells + length made0) ++ rest_list bodies fr f (arity es) (input_places bodies es (cells + length made0)) (cells + length made0 + length (input_scratch bodies fr 2 es)))) (sym same)
