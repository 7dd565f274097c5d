use Rattle.std.proofs.Common.{◌≡◌, ◌<◌, ◌≤◌, ◌-◌, ◌+◌, suc, ℕ, ℤ, pos, List, [], ◌∷◌, append_assoc, length-append, ◌++◌, sym, ◌∙◌, ap, length, arith}
use Rattle.std.specs.Int.{int_div_euclid}
use mir.Val.{to_z, of_z}
use mir.Syntax.{w128}
use Rattle.std.proofs.lemmas.Int.{to_z-of_z}
use Rattle.std.proofs.lemmas.List.{append-nil}
use Rattle.clause_core.specs.declared.literal.Lit.{Lit}
use Rattle.word_circuits.specs.Words.{constant_of, low_bit}
use Rattle.word_circuits.proofs.words.constant.Goals as goal

-- at the end no bit is left
all_made : (w : List Lit) (width i : ℕ) (x y : ℤ) → width ≤ i → w ++ constant_of (width - i) x ≡ constant_of width y → w ≡ constant_of width y
all_made w width i x y h e = sym (append-nil w) ∙ ap (λ k. w ++ constant_of k x) (nothing width i h) ∙ e
  where
    nothing : (m n : ℕ) → m ≤ n → 0 ≡ m - n
    nothing m n h = omega arith

pub returns-clause-word : goal.returns-clause-word
returns-clause-word c = all_made c.loop-i.word.items c.args.width c.loop-i._i (to_z w128 c.loop-i.rest-bits) (to_z w128 (of_z w128 c.args.value)) (omega arith) c.loop-i.invariant.word ∙ ap (constant_of c.args.width) (to_z-of_z w128 c.args.value c.ranges.value)

pub returns-clause-len : goal.returns-clause-len
returns-clause-len c = omega (arith, c.loop-i.invariant.len)

constant_turn : (w : List Lit) (width i : ℕ) (x y : ℤ) → i < width → w ++ constant_of (width - i) x ≡ constant_of width y → (w ++ low_bit x ∷ []) ++ constant_of (width - (i + 1)) (int_div_euclid x (pos 2)) ≡ constant_of width y
constant_turn w width i x y h e =
    append_assoc w (low_bit x ∷ []) (constant_of (width - (i + 1)) (int_div_euclid x (pos 2))) ∙ ap (λ k. w ++ constant_of k x) (one_less width i h) ∙ e
  where
    one_less : (m n : ℕ) → n < m → suc (m - (n + 1)) ≡ m - n
    one_less m n h = omega arith

pub loop-i-preserved : goal.loop-i-preserved
loop-i-preserved c =
    let rest = to_z w128 c.loop-i.rest-bits in
    let next : to_z w128 (of_z w128 c.div_euclid-rest.result) ≡ int_div_euclid rest (pos 2) = to_z-of_z w128 c.div_euclid-rest.result (record { sfits = c.div_euclid-rest.type_inv }) ∙ c.div_euclid-rest.ensures in
    let pushed : c.push.new.self.items ≡ c.loop-i.word.items ++ low_bit rest ∷ [] = c.in_ok-push.ensures.items ∙ ap (λ (l : Lit). c.loop-i.word.items ++ l ∷ []) c.low_bit.ensures in
    record {
      len = omega (arith, ap length pushed, length-append c.loop-i.word.items (low_bit rest ∷ []), c.loop-i.invariant.len);
      word = ap (λ (w : List Lit). w ++ constant_of (c.args.width - (c.loop-i._i + 1)) (to_z w128 (of_z w128 c.div_euclid-rest.result))) pushed
          ∙ ap (λ (x : ℤ). (c.loop-i.word.items ++ low_bit rest ∷ []) ++ constant_of (c.args.width - (c.loop-i._i + 1)) x) next
          ∙ constant_turn c.loop-i.word.items c.args.width c.loop-i._i rest (to_z w128 (of_z w128 c.args.value)) (omega arith) c.loop-i.invariant.word;
    }
