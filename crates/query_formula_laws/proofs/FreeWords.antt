-- Free words: each list of values of their types is given by some setting of the variables.
use Rattle.std.proofs.Common.{◌≡◌, ℕ, zero, suc, ◌+◌, ◌*◌, Bool, true, false, refl, sym, ◌∙◌, ap, subst, List, [], ◌∷◌, ◌++◌, length, map, arith, append_assoc, length-append, ℤ, pos, ◌+ℤ◌, ◌-ℤ◌}
use Rattle.std.specs.Prelude.{slice_index_or}
use Rattle.std.proofs.lemmas.List.{length-map}
use Rattle.clause_core.specs.declared.literal.Lit.{Lit}
use Rattle.clause_core.specs.Satisfaction.{literal_true, assigned}
use Rattle.plc_types.specs.declared.elementary.Elementary.{Elementary}
use Rattle.plc_types.specs.DataTypes.{carrier}
use Rattle.plc_types.specs.Types.{width_of, is_signed, range_of, in_range}
use Rattle.meaning.specs.Values.{State}
use Rattle.program_tree.specs.Tree.{CellData}
use Rattle.word_circuits.specs.Words.{constant_of}
use Rattle.word_laws.specs.Numbers.{bit, number, signed_number, value}
use Rattle.word_laws.proofs.BitLaws.{length-constant}
use Rattle.node_core.specs.NodeLaws.{kinds_of}
use Rattle.node_circuit_laws.specs.WordValues.{HaveWidths, values_of}
use Rattle.node_circuit_laws.proofs.RowValues.{row-constant}
use Rattle.query_formulas.specs.CellShapes.{bits_of, shapes_of}
use Rattle.query_formulas.specs.PairWords.{free_word, free_words, initial_words}
use Rattle.scan_model.specs.Scans.{initial}
use Rattle.query_formulas.specs.Decoded.{types_of}
use Rattle.query_formulas.proofs.Widths.{widths-cons, widths-free as wide}
use Rattle.query_formula_laws.proofs.TypedValues.{AreOfTypes}
use Rattle.query_formula_laws.proofs.FreeBits.{value_bits, joined}

-- ---- what a word is depends on its bits alone

number_by_bits : (v u : ℕ → Bool) (a b : List Lit) → map (literal_true v) a ≡ map (literal_true u) b → number v a ≡ number u b
number_by_bits v u [] [] e = refl
number_by_bits v u [] (m ∷ ms) e = absurd (cc)
number_by_bits v u (l ∷ ls) [] e = absurd (cc)
number_by_bits v u (l ∷ ls) (m ∷ ms) e =
    let here : literal_true v l ≡ literal_true u m = cc in
    let rest = number_by_bits v u ls ms (cc) in
    ap (λ (c : Bool). bit c + 2 * number v ls) here ∙ ap (λ (j : ℕ). bit (literal_true u m) + 2 * j) rest

signed_by_bits : (v u : ℕ → Bool) (a b : List Lit) → map (literal_true v) a ≡ map (literal_true u) b → signed_number v a ≡ signed_number u b
signed_by_bits v u [] [] e = refl
signed_by_bits v u [] (m ∷ ms) e = absurd (cc)
signed_by_bits v u (l ∷ ls) [] e = absurd (cc)
signed_by_bits v u (l ∷ []) (m ∷ []) e = let here : literal_true v l ≡ literal_true u m = cc in ap (λ (c : Bool). pos 0 -ℤ pos (bit c)) here
signed_by_bits v u (l ∷ []) (m ∷ n ∷ ns) e = absurd (cc)
signed_by_bits v u (l ∷ k ∷ ks) (m ∷ []) e = absurd (cc)
signed_by_bits v u (l ∷ k ∷ ks) (m ∷ n ∷ ns) e =
    let here : literal_true v l ≡ literal_true u m = cc in
    let rest = signed_by_bits v u (k ∷ ks) (n ∷ ns) (cc) in
    ap (λ (c : Bool). (pos (bit c) +ℤ signed_number v (k ∷ ks)) +ℤ signed_number v (k ∷ ks)) here
    ∙ ap (λ (x : ℤ). (pos (bit (literal_true u m)) +ℤ x) +ℤ x) rest

pub value_by_bits : (s : Bool) (v u : ℕ → Bool) (a b : List Lit) → map (literal_true v) a ≡ map (literal_true u) b → value s v a ≡ value s u b
value_by_bits true v u a b e = signed_by_bits v u a b e
value_by_bits false v u a b e = ap pos (number_by_bits v u a b e)

-- ---- the bits of free words are those of the list that is assigned

at_seam : (front : List Bool) (b : Bool) (back : List Bool) → slice_index_or (front ++ b ∷ back) (length front) false ≡ b
at_seam [] b back = refl
at_seam (a ∷ front) b back = at_seam front b back

-- a list with its next element in front
pushed : {A : Type 0} (front : List A) (b : A) (bits back : List A) → front ++ (b ∷ bits) ++ back ≡ (front ++ b ∷ []) ++ bits ++ back
pushed {A} front b bits back = ap (λ (xs : List A). xs ++ back) (sym (append_assoc front (b ∷ []) bits))

length-pushed : {A : Type 0} (front : List A) (b : A) → length (front ++ b ∷ []) ≡ length front + 1
length-pushed front b = length-append front (b ∷ [])

free_bits : (bits front back : List Bool) (values : List Bool) (k : ℕ) → values ≡ front ++ bits ++ back → k ≡ length front → map (literal_true (assigned values)) (free_word k (length bits)) ≡ bits
free_bits [] front back values k e f = refl
free_bits (b ∷ bits) front back values k e f =
    let here : assigned values k ≡ b = ap (λ (xs : List Bool). slice_index_or xs k false) (e ∙ append_assoc front (b ∷ bits) back) ∙ ap (λ (j : ℕ). slice_index_or (front ++ b ∷ (bits ++ back)) j false) f ∙ at_seam front b (bits ++ back) in
    let rest = free_bits bits (front ++ b ∷ []) back values (k + 1) (e ∙ pushed front b bits back) (omega (arith, length-pushed front b)) in
    ap (λ (c : Bool). c ∷ map (literal_true (assigned values)) (free_word (k + 1) (length bits))) here ∙ ap (λ (cs : List Bool). b ∷ cs) rest

-- ---- and so are their values

pub length-bits : (cells : List CellData) (s : State) → AreOfTypes (kinds_of cells) s → length (joined (value_bits (kinds_of cells) s)) ≡ bits_of (shapes_of cells)
length-bits [] [] h = refl
length-bits [] (x ∷ s) h = refl
length-bits (c ∷ cells) [] h = absurd h
length-bits (c ∷ cells) (x ∷ s) h =
    let t = carrier c.kind in
    let ts = kinds_of cells in
    let word = constant_of (width_of t) x in
    let long : length (map (literal_true (λ y. true)) word) ≡ width_of t = length-map word (literal_true (λ y. true)) ∙ length-constant (width_of t) x in
    length-append (map (literal_true (λ y. true)) word) (joined (value_bits ts s)) ∙ ap (λ (j : ℕ). j + length (joined (value_bits ts s))) long ∙ ap (λ (j : ℕ). width_of t + j) (length-bits cells s h.1)

free_value : (t : Elementary) (x : ℤ) (front back values : List Bool) (k : ℕ) → in_range x (range_of t) ≡ true → values ≡ front ++ map (literal_true (λ y. true)) (constant_of (width_of t) x) ++ back → k ≡ length front
    → value (is_signed t) (assigned values) (free_word k (width_of t)) ≡ x
free_value t x front back values k typed e f =
    let word = constant_of (width_of t) x in
    let bits = map (literal_true (λ y. true)) word in
    let long : length bits ≡ width_of t = length-map word (literal_true (λ y. true)) ∙ length-constant (width_of t) x in
    ap (λ (w : ℕ). value (is_signed t) (assigned values) (free_word k w)) (sym long)
    ∙ value_by_bits (is_signed t) (assigned values) (λ y. true) (free_word k (length bits)) word (free_bits bits front back values k e f)
    ∙ row-constant t x (λ y. true) typed refl

pub free_values : (cells : List CellData) (s : State) (front back values : List Bool) (k : ℕ) → AreOfTypes (kinds_of cells) s → values ≡ front ++ joined (value_bits (kinds_of cells) s) ++ back → k ≡ length front
    → values_of (assigned values) (kinds_of cells) (free_words k (shapes_of cells)) ≡ s
free_values [] [] front back values k h e f = refl
free_values [] (x ∷ s) front back values k h e f = absurd h
free_values (c ∷ cells) [] front back values k h e f = absurd h
free_values (c ∷ cells) (x ∷ s) front back values k h e f =
    let t = carrier c.kind in
    let ts = kinds_of cells in
    let word = constant_of (width_of t) x in
    let bits = map (literal_true (λ y. true)) word in
    let long : length bits ≡ width_of t = length-map word (literal_true (λ y. true)) ∙ length-constant (width_of t) x in
    let next : values ≡ (front ++ bits) ++ joined (value_bits ts s) ++ back = e ∙ ap (λ (bs : List Bool). bs ++ back) (sym (append_assoc front bits (joined (value_bits ts s)))) in
    let first : values ≡ front ++ bits ++ (joined (value_bits ts s) ++ back) = next ∙ append_assoc (front ++ bits) (joined (value_bits ts s)) back in
    let here = free_value t x front (joined (value_bits ts s) ++ back) values k h.0 first f in
    let rest = free_values cells s (front ++ bits) back values (k + width_of t) h.1 next (omega (arith, length-append front bits)) in
    ap (λ (y : ℤ). y ∷ values_of (assigned values) ts (free_words (k + width_of t) (shapes_of cells))) here ∙ ap (λ (ys : State). x ∷ ys) rest

-- ---- widths

-- the types of shapes are those of their cells
pub types_same : (cells : List CellData) → types_of (shapes_of cells) ≡ kinds_of cells
types_same [] = refl
types_same (c ∷ cells) = ap (λ (ts : List Elementary). carrier c.kind ∷ ts) (types_same cells)

pub widths-free : (k : ℕ) (cells : List CellData) → HaveWidths (kinds_of cells) (free_words k (shapes_of cells))
widths-free k cells = subst (λ (ts : List Elementary). HaveWidths ts (free_words k (shapes_of cells))) (types_same cells) (wide k (shapes_of cells))

-- ---- first values

pub widths-initial : (cells : List CellData) → HaveWidths (kinds_of cells) (initial_words (shapes_of cells))
widths-initial [] = refl
widths-initial (c ∷ cells) = widths-cons _ (kinds_of cells) _ (initial_words (shapes_of cells)) (length-constant _ c.initial) (widths-initial cells)

pub values-initial : (v : ℕ → Bool) (cells : List CellData) → v 1 ≡ true → AreOfTypes (kinds_of cells) (initial cells) → values_of v (kinds_of cells) (initial_words (shapes_of cells)) ≡ initial cells
values-initial v [] one h = refl
values-initial v (c ∷ cells) one h =
    ap (λ (y : ℤ). y ∷ values_of v (kinds_of cells) (initial_words (shapes_of cells))) (row-constant _ c.initial v h.0 one) ∙ ap (λ (ys : State). c.initial ∷ ys) (values-initial v cells one h.1)
