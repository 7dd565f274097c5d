-- The numbers that words spell.
use Rattle.std.proofs.Common.{◌≡◌, ℕ, ◌+◌, ◌*◌, ◌^◌, ◌<◌, ◌≤◌, Bool, List, ◌∷◌, length, arith, pos}
use Rattle.std.proofs.Math.Nat.{pow-le-pow_right}
use Rattle.clause_core.specs.declared.literal.Lit.{Lit}
use Rattle.clause_core.specs.Satisfaction.{literal_true}
use Rattle.plc_types.specs.declared.elementary.Elementary.{Elementary}
use Rattle.plc_types.specs.Types.{width_of, is_signed, wrap_to}
use Rattle.plc_types.proofs.Widths.{some_bits}
use Rattle.word_laws.specs.Numbers.{bit, number, value}
use Rattle.word_laws.proofs.Numbers.{number-lt}
use Rattle.word_laws.proofs.Multiples.{differs_same}
use Rattle.word_laws.proofs.Values.{value_wraps_at}

-- a word of at most 64 bits spells a number below 2 to the 64
number_small : (v : ℕ → Bool) (w : List Lit) → length w ≤ 64 → number v w < 2 ^ 64
number_small v w few =
    let below = number-lt v w in
    let most : 2 ^ length w ≤ 2 ^ 64 = pow-le-pow_right (omega arith) few in
    omega (arith, below, most)

pub spelled_small : (v : ℕ → Bool) (l : Lit) (rest : List Lit) → length (l ∷ rest) ≤ 64 → bit (literal_true v l) + 2 * number v rest < 2 ^ 64
spelled_small v l rest few = number_small v (l ∷ rest) few

-- read as one of a type, it is that number wrapped to the type
pub spelled_wrapped : (v : ℕ → Bool) (t : Elementary) (w : List Lit) → length w ≡ width_of t → value (is_signed t) v w ≡ wrap_to t (pos (number v w))
spelled_wrapped v t w e = value_wraps_at (is_signed t) v w (width_of t) (pos (number v w)) e (some_bits t) (differs_same (pos (2 ^ width_of t)) (pos (number v w)))
