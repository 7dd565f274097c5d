-- Words by their numbers: those that are there stay where more follow.
use Rattle.std.proofs.Common.{◌≡◌, ℕ, zero, suc, ◌-◌, ◌<◌, Bool, false, refl, sym, ◌∙◌, ap, List, [], ◌∷◌, ◌++◌, length, min, take, replicate, arith, append_assoc, Some, None}
use Rattle.std.specs.Prelude.{Option, slice_get, unwrap_or, ℤ}
use Rattle.std.specs.Option.{option_map}
use Rattle.std.proofs.lemmas.Option.{slice_get-map, slice_get_within}
use Rattle.std.proofs.lemmas.List.{take_all, append-nil, length-map}
use Rattle.clause_core.specs.declared.literal.Lit.{Lit}
use Rattle.plc_types.specs.declared.elementary.Elementary.{Elementary}
use Rattle.plc_types.specs.declared.elementary.Elementary.TheVariants as types
use Rattle.plc_types.specs.Types.{width_of, is_signed}
use Rattle.node_core.specs.declared.node.Node.{Node}
use Rattle.node_core.specs.NodeTypes.{IsWordOf}
use Rattle.gates.specs.Literals.{false_lit}
use Rattle.gates.specs.Netlists.{Netlist}
use Rattle.word_circuits.specs.Conversions.{kept_below, resized}
use Rattle.word_laws.specs.Numbers.{value}
use Rattle.node_circuits.specs.NodeWords.{Words, word_in, operand_of, node_of, words_of_nodes}
use Rattle.node_circuit_laws.specs.WordValues.{HaveWidths, value_at}

-- ---- what stands at a number

pub get_front : {A : Type 0} (xs ys : List A) (i : ℕ) → i < length xs → slice_get (xs ++ ys) i ≡ slice_get xs i
get_front [] ys i h = absurd (omega arith)
get_front (x ∷ xs) ys zero h = refl
get_front (x ∷ xs) ys (suc i) h = get_front xs ys i (omega arith)

pub get_seam : {A : Type 0} (xs : List A) (y : A) (ys : List A) → slice_get (xs ++ y ∷ ys) (length xs) ≡ Some y
get_seam [] y ys = refl
get_seam (x ∷ xs) y ys = get_seam xs y ys

pub word_in-front : (words more : Words) (i : ℕ) → i < length words → word_in (words ++ more) i ≡ word_in words i
word_in-front words more i h = ap (λ (o : Option (List Lit)). unwrap_or o []) (get_front words more i h)

-- ---- widths

pub same_length : (ts : List Elementary) (words : Words) → HaveWidths ts words → length ts ≡ length words
same_length ts words h = sym (length-map ts width_of) ∙ sym (ap (λ (ks : List ℕ). length ks) h) ∙ length-map words (λ w. length w)

width_found : (o : Option (List Lit)) (k : ℕ) → option_map (λ (w : List Lit). length w) o ≡ Some k → length (unwrap_or o []) ≡ k
width_found (Some w) k e = cc
width_found None k e = absurd (cc)

pub width_at : (ts : List Elementary) (words : Words) (t : Elementary) (i : ℕ) → HaveWidths ts words → IsWordOf ts t i → length (word_in words i) ≡ width_of t
width_at ts words t i h is =
    width_found (slice_get words i) (width_of t)
    (sym (slice_get-map (λ (w : List Lit). length w) words i) ∙ ap (λ (ks : List ℕ). slice_get ks i) h ∙ slice_get-map width_of ts i ∙ ap (option_map width_of) is)

-- ---- operands

kept_same : (k w : ℕ) (fill : Lit) (a : List Lit) → k ≡ length a → w ≡ k → kept_below k w fill a ≡ a
kept_same k w fill a e f =
    let none : w - k ≡ 0 = omega arith in
    ap (λ (j : ℕ). take k a ++ replicate j fill) none ∙ append-nil (take k a) ∙ take_all k a (omega arith)

pub resized_same : (w : ℕ) (a : List Lit) → length a ≡ w → resized false w a ≡ a
resized_same w a e = kept_same (min w (length a)) w false_lit a (omega arith) (omega arith)

-- an operand of its type is its word
pub operand_same : (ts : List Elementary) (words : Words) (t : Elementary) (i : ℕ) → HaveWidths ts words → IsWordOf ts t i → operand_of words t i ≡ word_in words i
operand_same ts words t i h is = resized_same (width_of t) (word_in words i) (width_at ts words t i h is)

-- ---- the words before stay

pub record BeginsWith (words all : Words) : Type 0 where
  pub more : Words
  pub is : all ≡ words ++ more

pub begins_nodes : (xs : List Node) (words : Words) (n : Netlist) → BeginsWith words (words_of_nodes xs words n).words
begins_nodes [] words n = record { more = []; is = sym (append-nil words) }
begins_nodes (x ∷ xs) words n =
    let m = node_of words x n in
    let r = begins_nodes xs (words ++ m.word ∷ []) m.net in
    record { more = m.word ∷ r.more; is = r.is ∙ append_assoc words (m.word ∷ []) r.more }

-- ---- values

-- each word of a type has its value
pub record HasValues (v : ℕ → Bool) (val : ℕ → ℤ) (ts : List Elementary) (words : Words) : Type 0 where
  pub at : (i : ℕ) (t : Elementary) → IsWordOf ts t i → val i ≡ value (is_signed t) v (word_in words i)

pub HasValues-all : (v : ℕ → Bool) (ts : List Elementary) (words : Words) → HasValues v (value_at v ts words) ts words
HasValues-all v ts words = record { at = λ i t is. ap (λ (o : Option Elementary). value (is_signed (unwrap_or o types.Bool)) v (word_in words i)) is }

pub HasValues-front : (v : ℕ → Bool) (val : ℕ → ℤ) (ts more_ts : List Elementary) (words all : Words) → length ts ≡ length words → BeginsWith words all → HasValues v val (ts ++ more_ts) all → HasValues v val ts words
HasValues-front v val ts more_ts words all e b h = record {
  at = λ i t is.
      let inside : i < length ts = slice_get_within ts i t is in
      h.at i t (get_front ts more_ts i inside ∙ is)
      ∙ ap (λ (w : List Lit). value (is_signed t) v w) (ap (λ (ws : Words). word_in ws i) b.is ∙ word_in-front words b.more i (omega arith));
}
