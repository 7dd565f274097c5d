use Rattle.std.proofs.Common.{◌≡◌, ◌<◌, ◌-◌, ◌+◌, suc, ℕ, List, [], ◌∷◌, ◌++◌, append_assoc, ◌∙◌, ap, arith}
use Rattle.clause_core.specs.declared.literal.Lit.{Lit}
use Rattle.gates.specs.Literals.{plain}
use Rattle.query_formulas.specs.PairWords.{free_word}
use Rattle.pair_circuits.proofs.free.free_word.Goals as goal

free_turn : (w all : List Lit) (width i v : ℕ) → i < width → w ++ free_word v (width - i) ≡ all → (w ++ plain v ∷ []) ++ free_word (v + 1) (width - (i + 1)) ≡ all
free_turn w all width i v h e =
    append_assoc w (plain v ∷ []) (free_word (v + 1) (width - (i + 1))) ∙ ap (λ k. w ++ free_word v k) (one_less width i h) ∙ e
  where
    one_less : (m n : ℕ) → n < m → suc (m - (n + 1)) ≡ m - n
    one_less m n h = omega arith

pub loop-bit-preserved : goal.loop-bit-preserved
loop-bit-preserved c = record {
  next = omega (arith, c.loop-bit.invariant.next);
  word = ap (λ (w : List Lit). w ++ free_word (c.loop-bit.next + 1) (c.args.width - (c.loop-bit._bit + 1))) c.in_ok-push.ensures.items
      ∙ free_turn c.loop-bit.word.items _ c.args.width c.loop-bit._bit c.loop-bit.next (omega arith) c.loop-bit.invariant.word;
}
