-- Words read as numbers of their types.
use Rattle.std.proofs.Common.{◌≡◌, ℕ, zero, suc, ◌+◌, ◌^◌, ◌<◌, Bool, true, refl, sym, ◌∙◌, ap, subst, List, [], ◌∷◌, ◌++◌, length, map, arith, ℤ, pos}
use Rattle.std.specs.Prelude.{slice_set}
use Rattle.std.proofs.lemmas.List.{map-append}
use Rattle.num_core.specs.Wrapping.{DiffersByMultiple}
use Rattle.clause_core.specs.declared.literal.Lit.{Lit}
use Rattle.plc_types.specs.declared.elementary.Elementary.{Elementary}
use Rattle.plc_types.specs.Types.{width_of, is_signed, range_of, in_range, wrap_to}
use Rattle.plc_types.proofs.Widths.{some_bits}
use Rattle.plc_types.proofs.TypeRanges.{wrapped_in}
use Rattle.meaning.specs.Values.{State}
use Rattle.node_core.specs.Nodes.{WordsAre}
use Rattle.node_core.specs.NodeTypes.{IsWordOf}
use Rattle.word_laws.specs.Numbers.{number, value}
use Rattle.word_laws.proofs.Values.{value_wraps_at, value_differs}
use Rattle.node_circuits.specs.NodeWords.{Words}
use Rattle.node_circuit_laws.specs.WordValues.{HaveWidths, value_at, values_of}
use Rattle.query_formulas.proofs.Widths.{widths-cons}
use Rattle.query_formula_laws.proofs.TypedValues.{AreOfTypes}

-- ---- widths

pub widths-head : (t : Elementary) (ts : List Elementary) (w : List Lit) (ws : Words) → HaveWidths (t ∷ ts) (w ∷ ws) → length w ≡ width_of t
widths-head t ts w ws h = cc

pub widths-tail : (t : Elementary) (ts : List Elementary) (w : List Lit) (ws : Words) → HaveWidths (t ∷ ts) (w ∷ ws) → HaveWidths ts ws
widths-tail t ts w ws h = cc

pub widths-none : {P : Type 0} → (t : Elementary) (ts : List Elementary) → HaveWidths (t ∷ ts) [] → P
widths-none t ts h = absurd (cc)

pub widths-more : {P : Type 0} → (w : List Lit) (ws : Words) → HaveWidths [] (w ∷ ws) → P
widths-more w ws h = absurd (cc)

pub widths-append : (ts us : List Elementary) (ws xs : Words) → HaveWidths ts ws → HaveWidths us xs → HaveWidths (ts ++ us) (ws ++ xs)
widths-append ts us ws xs h k = map-append (λ (w : List Lit). length w) ws xs ∙ ap (λ (js : List ℕ). js ++ map (λ (w : List Lit). length w) xs) h ∙ ap (λ (js : List ℕ). map width_of ts ++ js) k ∙ sym (map-append width_of ts us)

-- ---- values

pub values-append : (v : ℕ → Bool) (ts us : List Elementary) (ws xs : Words) → HaveWidths ts ws → values_of v (ts ++ us) (ws ++ xs) ≡ values_of v ts ws ++ values_of v us xs
values-append v [] us [] xs h = refl
values-append v [] us (w ∷ ws) xs h = widths-more w ws h
values-append v (t ∷ ts) us [] xs h = widths-none t ts h
values-append v (t ∷ ts) us (w ∷ ws) xs h = ap (λ (s : State). value (is_signed t) v w ∷ s) (values-append v ts us ws xs (widths-tail t ts w ws h))

pub length-values : (v : ℕ → Bool) (ts : List Elementary) (ws : Words) → HaveWidths ts ws → length (values_of v ts ws) ≡ length ts
length-values v [] [] h = refl
length-values v [] (w ∷ ws) h = refl
length-values v (t ∷ ts) [] h = widths-none t ts h
length-values v (t ∷ ts) (w ∷ ws) h = ap suc (length-values v ts ws (widths-tail t ts w ws h))

-- a word's value is one of its type
pub value_typed : (v : ℕ → Bool) (t : Elementary) (w : List Lit) → length w ≡ width_of t → in_range (value (is_signed t) v w) (range_of t) ≡ true
value_typed v t w e =
    let x = value (is_signed t) v w in
    let differs : DiffersByMultiple (pos (2 ^ width_of t)) x (pos (number v w)) = subst (λ (k : ℕ). DiffersByMultiple (pos (2 ^ k)) x (pos (number v w))) e (value_differs (is_signed t) v w) in
    let is : x ≡ wrap_to t x = value_wraps_at (is_signed t) v w (width_of t) x e (some_bits t) differs in
    subst (λ (y : ℤ). in_range y (range_of t) ≡ true) (sym is) (wrapped_in t x)

pub values_typed : (v : ℕ → Bool) (ts : List Elementary) (ws : Words) → HaveWidths ts ws → AreOfTypes ts (values_of v ts ws)
values_typed v [] ws h = tt
values_typed v (t ∷ ts) [] h = widths-none t ts h
values_typed v (t ∷ ts) (w ∷ ws) h = (value_typed v t w (widths-head t ts w ws h), values_typed v ts ws (widths-tail t ts w ws h))

-- the words from a number on have the values of the list, where each has its own
pub words_are : (v : ℕ → Bool) (val : ℕ → ℤ) (k : ℕ) (ts : List Elementary) (ws : Words) → HaveWidths ts ws → ((i j : ℕ) → j ≡ k + i → i < length ws → val j ≡ value_at v ts ws i) → WordsAre val k (values_of v ts ws)
words_are v val k [] ws h is = tt
words_are v val k (t ∷ ts) [] h is = tt
words_are v val k (t ∷ ts) (w ∷ ws) h is = (is 0 k (omega arith) (omega arith), words_are v val (k + 1) ts ws (widths-tail t ts w ws h) (λ i j e lt. is (suc i) j (omega arith) (omega arith)))

pub same_place : (val : ℕ → ℤ) (i j : ℕ) → j ≡ 0 + i → val j ≡ val i
same_place val i j e = ap val (is i j e)
  where
    is : (i j : ℕ) → j ≡ 0 + i → j ≡ i
    is i j e = omega arith

-- ---- a word put at a place

pub values-set : (v : ℕ → Bool) (ts : List Elementary) (ws : Words) (p : ℕ) (t : Elementary) (w : List Lit) → HaveWidths ts ws → IsWordOf ts t p → values_of v ts (slice_set ws p w) ≡ slice_set (values_of v ts ws) p (value (is_signed t) v w)
values-set v [] ws p t w h is = refl
values-set v (u ∷ ts) [] p t w h is = widths-none u ts h
values-set v (u ∷ ts) (x ∷ ws) zero t w h is = let e : u ≡ t = cc in ap (λ (k : Elementary). value (is_signed k) v w ∷ values_of v ts ws) e
values-set v (u ∷ ts) (x ∷ ws) (suc p) t w h is = ap (λ (s : State). value (is_signed u) v x ∷ s) (values-set v ts ws p t w (widths-tail u ts x ws h) is)

pub widths-set : (ts : List Elementary) (ws : Words) (p : ℕ) (t : Elementary) (w : List Lit) → HaveWidths ts ws → IsWordOf ts t p → length w ≡ width_of t → HaveWidths ts (slice_set ws p w)
widths-set [] [] p t w h is e = refl
widths-set [] (x ∷ ws) p t w h is e = widths-more x ws h
widths-set (u ∷ ts) [] p t w h is e = widths-none u ts h
widths-set (u ∷ ts) (x ∷ ws) zero t w h is e = let f : u ≡ t = cc in widths-cons u ts w ws (e ∙ ap width_of (sym f)) (widths-tail u ts x ws h)
widths-set (u ∷ ts) (x ∷ ws) (suc p) t w h is e = widths-cons u ts x (slice_set ws p w) (widths-head u ts x ws h) (widths-set ts ws p t w (widths-tail u ts x ws h) is e)
