-- What one turn of a loop makes is a front of what is made of all that is left.
use Rattle.std.proofs.Common.{◌≡◌, ℕ, zero, suc, ◌+◌, ◌<◌, ◌≤◌, arith, refl, sym, ◌∙◌, ap, subst, List, [], ◌∷◌, length, drop, get_or}
use Rattle.std.specs.Prelude.{Vec, min}
use Rattle.std.specs.declared.alloc.Global.{Global}
use Rattle.std.proofs.lemmas.List.{at_drop_more, at_drop_all}
use Rattle.clause_core.specs.declared.literal.Lit.{Lit}
use Rattle.gates.specs.Netlists.{Netlist, IsExtensionOf}
use Rattle.node_core.specs.declared.scan.ClauseNodes.{ClauseNodes}
use Rattle.node_core.specs.Scans.{clause_view}
use Rattle.node_circuits.specs.NodeWords.{Words, words_view}
use Rattle.scan_model.specs.declared.relation.InputLine.{InputLine}
use Rattle.query_formulas.specs.declared.shapes.CellShape.{CellShape}
use Rattle.query_formulas.specs.PairWords.{PairWords, loaded_words}
use Rattle.query_formulas.specs.Literals.{none_made, outside_one, outside_cells, clause_literal, clause_literals}
use Rattle.query_formulas.proofs.Growth.{extends_outside_cells, extends_clauses}
use Rattle.pair_circuits.specs.Views.{clauses_view}

-- one turn of the loop over clauses
pub clauses_turn : (cs : List ClauseNodes) (i : ℕ) (c : ClauseNodes) (given starts : Words) (n all : Netlist) → i < length cs → c ≡ get_or cs i c → given ≡ starts → (clause_literals starts (clauses_view (drop i cs)) n).net ≡ all
    → IsExtensionOf (clause_literal given (clause_view c) n).net all
clauses_turn cs i c given starts n all h is same e =
    let m = clause_literal given (clause_view c) n in
    subst (λ (k : Netlist). IsExtensionOf m.net k)
    (ap (λ (x : ClauseNodes). (clause_literals given (clauses_view (x ∷ drop (i + 1) cs)) n).net) is ∙ sym (at_drop_more (λ (ys : List ClauseNodes). (clause_literals given (clauses_view ys) n).net) cs i c h) ∙ ap (λ (s : Words). (clause_literals s (clauses_view (drop i cs)) n).net) same ∙ e)
    (extends_clauses given (clauses_view (drop (i + 1) cs)) m.net)

-- one turn of the loop over cells
pub outside_turn : (cs : List CellShape) (ws : List (Vec Lit Global)) (i : ℕ) (d : CellShape) (w : Vec Lit Global) (given : List Lit) (n all : Netlist) → i < length cs → i < length ws → w ≡ get_or ws i w → given ≡ w.items
    → (outside_cells (drop i cs) (words_view (drop i ws)) n).net ≡ all → IsExtensionOf (outside_one (get_or cs i d) given n).net all
outside_turn cs ws i d w given n all h k ew same e =
    let c = get_or cs i d in
    let o = outside_one c given n in
    let is : given ≡ (get_or ws i w).items = same ∙ ap (λ (x : Vec Lit Global). x.items) ew in
    subst (λ (m : Netlist). IsExtensionOf o.net m)
    (ap (λ (x : List Lit). (outside_cells (c ∷ drop (i + 1) cs) (x ∷ words_view (drop (i + 1) ws)) n).net) is
    ∙ sym (at_drop_more (λ (ys : List CellShape). (outside_cells ys (words_view (drop i ws)) n).net) cs i d h ∙ at_drop_more (λ (ys : List (Vec Lit Global)). (outside_cells (c ∷ drop (i + 1) cs) (words_view ys) n).net) ws i w k) ∙ e)
    (extends_outside_cells (drop (i + 1) cs) (words_view (drop (i + 1) ws)) o.net)

outside_none : (cs : List CellShape) (n : Netlist) → outside_cells cs [] n ≡ none_made n
outside_none [] n = refl
outside_none (c ∷ cs) n = refl

-- where the cells or the words end
pub outside_end : (i : ℕ) (cs : List CellShape) (ws : List (Vec Lit Global)) (n : Netlist) → min (length cs) (length ws) ≤ i → outside_cells (drop i cs) (words_view (drop i ws)) n ≡ none_made n
outside_end zero [] ws n h = refl
outside_end zero (c ∷ cs) [] n h = refl
outside_end zero (c ∷ cs) (w ∷ ws) n h = absurd (omega (arith, h))
outside_end (suc i) [] ws n h = refl
outside_end (suc i) (c ∷ cs) [] n h = outside_none (drop i cs) n
outside_end (suc i) (c ∷ cs) (w ∷ ws) n h = outside_end i cs ws n (omega (arith, h))

loaded_none : (ls : List InputLine) (pair : PairWords) → loaded_words ls [] pair ≡ pair
loaded_none [] pair = refl
loaded_none (l ∷ ls) pair = refl

-- where the words end
pub loaded_end : (i : ℕ) (ls : List InputLine) (ws : List (Vec Lit Global)) (pair : PairWords) → length ws ≤ i → loaded_words ls (words_view (drop i ws)) pair ≡ pair
loaded_end i ls ws pair h = at_drop_all (λ (ys : List (Vec Lit Global)). loaded_words ls (words_view ys) pair) ws i h ∙ loaded_none ls pair
