-- The literal of a clause is true exactly where the clause holds.
use Rattle.std.proofs.Common.{◌≡◌, ℕ, ◌+◌, ◌*◌, ◌<◌, Bool, true, false, not, ◌&&◌, refl, sym, ◌∙◌, ap, subst, List, [], ◌∷◌, ◌++◌, length, map, arith, length-append, pos}
use Rattle.std.specs.Prelude.{All}
use Rattle.clause_core.specs.declared.literal.Lit.{Lit}
use Rattle.clause_core.specs.Satisfaction.{literal_true, signed}
use Rattle.clause_core.specs.Values.{negation}
use Rattle.plc_types.specs.declared.elementary.Elementary.{Elementary}
use Rattle.plc_types.specs.declared.elementary.Elementary.TheVariants as types
use Rattle.program_tree.specs.Tree.{Expression, CellData}
use Rattle.meaning.specs.Values.{State, number_of, is_truth, no_callees, value_of, faults}
use Rattle.scan_model.specs.Scans.{ranges_of}
use Rattle.scan_model.specs.InRange.{IsInRange}
use Rattle.flat_core.specs.FlatRules.{Reads}
use Rattle.gates.specs.Literals.{false_lit}
use Rattle.gates.specs.Netlists.{Netlist}
use Rattle.gates.specs.Models.{IsModel}
use Rattle.gates.proofs.Booleans.{literal_true-not}
use Rattle.gates.proofs.NetLaws.{Means-and}
use Rattle.word_circuits.specs.Words.{top_of}
use Rattle.program_tree.specs.Places.{of_cell, IsTypedPlace}
use Rattle.word_laws.specs.Numbers.{bit, value}
use Rattle.node_core.specs.Nodes.{WordsAre, NodesHold}
use Rattle.node_core.specs.NodeTypes.{IsWordOf, all_kinds}
use Rattle.node_core.specs.NodeLaws.{kinds_of}
use Rattle.node_core.specs.Scans.{clause_of}
use Rattle.node_core.specs.TypedFlats.{IsTypedClause}
use Rattle.node_laws.proofs.MeantScans.{meant_clauses}
use Rattle.node_laws.proofs.TypedScans.{typed_clauses}
use Rattle.node_circuits.specs.NodeWords.{Words, operand_of, words_of_nodes}
use Rattle.node_circuit_laws.specs.WordValues.{HaveWidths, value_at, values_of}
use Rattle.node_circuit_laws.proofs.Widths.{length-operand, widths_of_nodes}
use Rattle.node_circuit_laws.proofs.Words.{operand_same, HasValues-all}
use Rattle.node_circuit_laws.proofs.NodeValues.{values_of_nodes, start_values}
use Rattle.query_formulas.specs.Literals.{bit_of, clause_literal}
use Rattle.query_formula_laws.proofs.Values.{widths-append, values-append, words_are, same_place}
use Rattle.query_formula_laws.proofs.Spelled.{Spells, length-spelled}

-- ---- a word of one bit

bit_truth : (b : Bool) → b ≡ is_truth (pos (bit b + 2 * 0))
bit_truth true = refl
bit_truth false = refl

top_truth : (v : ℕ → Bool) (c : List Lit) → length c ≡ 1 → literal_true v (top_of c) ≡ is_truth (value false v c)
top_truth v [] e = absurd (omega arith)
top_truth v (l ∷ []) e = bit_truth (literal_true v l)
top_truth v (l ∷ k ∷ ls) e = absurd (omega arith)

truth_number : (b : Bool) → is_truth (number_of b) ≡ b
truth_number true = refl
truth_number false = refl

-- the bit of a word of BOOL tells whether its value is TRUE
bit_at : (v : ℕ → Bool) (ts : List Elementary) (words : Words) (i : ℕ) → HaveWidths ts words → IsWordOf ts types.Bool i → literal_true v (bit_of words i) ≡ is_truth (value_at v ts words i)
bit_at v ts words i h is =
    let all = HasValues-all v ts words in
    top_truth v (operand_of words types.Bool i) (length-operand words types.Bool i)
    ∙ ap (λ (w : List Lit). is_truth (value false v w)) (operand_same ts words types.Bool i h is) ∙ ap is_truth (sym (all.at i types.Bool is))

-- ---- one clause over cells

-- what a clause starts with behind the words of cells
abbrev pub starts_of : Words → Words
starts_of words = words ++ (false_lit ∷ []) ∷ []

false_word : (v : ℕ → Bool) → v 1 ≡ true → values_of v (types.Bool ∷ []) ((false_lit ∷ []) ∷ []) ≡ pos 0 ∷ []
false_word v one = ap (λ (b : Bool). pos (bit (signed true b) + 2 * 0) ∷ []) one

pub literal_holds : (v : ℕ → Bool) (cells : List CellData) (words : Words) (s : State) (e : Expression) (n : Netlist) → All IsTypedPlace (map of_cell cells) → IsTypedClause (map of_cell cells) e → Reads (λ place. place < length cells) e
    → Spells v cells words s → IsInRange (ranges_of cells) s → IsModel v (clause_literal (starts_of words) (clause_of (length cells) e) n).net
    → literal_true v (clause_literal (starts_of words) (clause_of (length cells) e) n).lit ≡ (is_truth (value_of no_callees 0 e s) && not (faults no_callees 0 e s))
literal_holds v cells words s e n places clause reads h inside model =
    let c = clause_of (length cells) e in
    let ts = kinds_of cells ++ types.Bool ∷ [] in
    let starts = words ++ (false_lit ∷ []) ∷ [] in
    let m = words_of_nodes c.nodes starts n in
    let typed = typed_clauses cells e clause reads in
    let wide : HaveWidths ts starts = widths-append (kinds_of cells) (types.Bool ∷ []) words ((false_lit ∷ []) ∷ []) h.widths refl in
    let means = Means-and v (bit_of m.words c.value) (negation (bit_of m.words c.fault)) m.net model in
    let val = value_at v (all_kinds ts c.nodes) m.words in
    let hold = values_of_nodes ts c.nodes starts n v typed.0 wide means.model in
    let are : WordsAre val 0 (values_of v ts starts) = words_are v val 0 ts starts wide (λ i j f lt. same_place val i j f ∙ start_values ts c.nodes starts n v i wide lt) in
    let state : values_of v ts starts ≡ s ++ pos 0 ∷ [] =
    values-append v (kinds_of cells) (types.Bool ∷ []) words ((false_lit ∷ []) ∷ []) h.widths
    ∙ ap (λ (y : State). y ++ values_of v (types.Bool ∷ []) ((false_lit ∷ []) ∷ [])) h.values ∙ ap (λ (y : State). s ++ y) (false_word v means.model.one) in
    let long : length starts ≡ length cells + 1 = omega (arith, length-append words ((false_lit ∷ []) ∷ []), length-spelled v cells words s h) in
    let meant = meant_clauses cells e places clause reads s inside val (subst (λ (y : State). WordsAre val 0 y) state are) (subst (λ (k : ℕ). NodesHold val k c.nodes) long hold) in
    let all = widths_of_nodes ts c.nodes starts n wide in
    let yes : literal_true v (bit_of m.words c.value) ≡ is_truth (value_of no_callees 0 e s) = bit_at v (all_kinds ts c.nodes) m.words c.value all typed.1 ∙ ap is_truth meant.0 in
    let sound : literal_true v (negation (bit_of m.words c.fault)) ≡ not (faults no_callees 0 e s) =
    literal_true-not v (bit_of m.words c.fault) ∙ ap not (bit_at v (all_kinds ts c.nodes) m.words c.fault all typed.2 ∙ ap is_truth meant.1 ∙ truth_number (faults no_callees 0 e s)) in
    means.value ∙ ap (λ (b : Bool). b && literal_true v (negation (bit_of m.words c.fault))) yes ∙ ap (λ (b : Bool). is_truth (value_of no_callees 0 e s) && b) sound
