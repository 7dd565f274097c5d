-- The values of words, one after the other, as a state.
use Rattle.std.proofs.Common.{◌≡◌, ℕ, suc, ◌+◌, ◌<◌, Bool, refl, sym, ◌∙◌, ap, List, [], ◌∷◌, length, map, arith, ℤ}
use Rattle.clause_core.specs.declared.literal.Lit.{Lit}
use Rattle.plc_types.specs.declared.elementary.Elementary.{Elementary}
use Rattle.plc_types.specs.Types.{is_signed}
use Rattle.node_core.specs.declared.node.Node.{Node}
use Rattle.node_core.specs.Nodes.{WordsAre}
use Rattle.node_core.specs.NodeTypes.{all_kinds}
use Rattle.node_core.specs.NodeLaws.{AreWordsOf}
use Rattle.gates.specs.Netlists.{Netlist}
use Rattle.word_laws.specs.Numbers.{value}
use Rattle.node_circuits.specs.NodeWords.{Words, word_in, words_of_nodes}
use Rattle.node_circuit_laws.specs.WordValues.{HaveWidths, value_at, values_of}
use Rattle.node_circuit_laws.proofs.Words.{same_length, HasValues, HasValues-all}
use Rattle.node_circuit_laws.proofs.NodeValues.{start_values}

-- words from a number on that have the values of a list's words
words_are : (v : ℕ → Bool) (val : ℕ → ℤ) (k : ℕ) (ts : List Elementary) (words : Words) → length ts ≡ length words → ((i : ℕ) → i < length words → val (k + i) ≡ value_at v ts words i) → WordsAre val k (values_of v ts words)
words_are v val k [] words e h = tt
words_are v val k (t ∷ ts) [] e h = tt
words_are v val k (t ∷ ts) (w ∷ ws) e h =
    let here : k + 0 ≡ k = omega arith in
    (ap val (sym here) ∙ h 0 (omega arith), words_are v val (k + 1) ts ws (omega arith) (λ i q. ap val (next k i) ∙ h (suc i) (omega arith)))
  where
    next : (k i : ℕ) → k + 1 + i ≡ k + suc i
    next k i = omega arith

pub start_state : (ts : List Elementary) (xs : List Node) (words : Words) (n : Netlist) (v : ℕ → Bool) → HaveWidths ts words → WordsAre (value_at v (all_kinds ts xs) (words_of_nodes xs words n).words) 0 (values_of v ts words)
start_state ts xs words n v e =
    let val : ℕ → ℤ = value_at v (all_kinds ts xs) (words_of_nodes xs words n).words in
    words_are v val 0 ts words (same_length ts words e) (λ i q. ap val (plain i) ∙ start_values ts xs words n v i e q)
  where
    plain : (i : ℕ) → 0 + i ≡ i
    plain i = omega arith

last_values : (v : ℕ → Bool) (val : ℕ → ℤ) (all_ts : List Elementary) (all : Words) → HasValues v val all_ts all → (kinds : List Elementary) (last : List ℕ) → AreWordsOf all_ts kinds last → map val last ≡ values_of v kinds (map (word_in all) last)
last_values v val all_ts all h [] [] z = refl
last_values v val all_ts all h [] (i ∷ is) z = absurd z
last_values v val all_ts all h (t ∷ ts) [] z = absurd z
last_values v val all_ts all h (t ∷ ts) (i ∷ is) z =
    ap (λ (y : ℤ). y ∷ map val is) (h.at i t z.0) ∙ ap (λ (ys : List ℤ). value (is_signed t) v (word_in all i) ∷ ys) (last_values v val all_ts all h ts is z.1)

pub last_state : (ts kinds : List Elementary) (xs : List Node) (words : Words) (n : Netlist) (v : ℕ → Bool) (last : List ℕ) → AreWordsOf (all_kinds ts xs) kinds last
    → map (value_at v (all_kinds ts xs) (words_of_nodes xs words n).words) last ≡ values_of v kinds (map (word_in (words_of_nodes xs words n).words) last)
last_state ts kinds xs words n v last z =
    let all = (words_of_nodes xs words n).words in
    last_values v (value_at v (all_kinds ts xs) all) (all_kinds ts xs) all (HasValues-all v (all_kinds ts xs) all) kinds last z
