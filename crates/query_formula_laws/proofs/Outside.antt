-- The literals of ranges: one is true exactly where a value lies outside of its cell's range.
use Rattle.std.proofs.Common.{◌≡◌, ℕ, Bool, true, false, not, ◌&&◌, ◌||◌, refl, sym, ◌∙◌, ap, subst, List, [], ◌∷◌, ◌++◌, length, ℤ}
use Rattle.std.specs.Prelude.{All, int_lt, if◌then◌else◌}
use Rattle.std.specs.List.{list_any}
use Rattle.std.proofs.lemmas.List.Elements.{All-head, All-tail}
use Rattle.std.proofs.lemmas.List.Folds.{list_any-append}
use Rattle.num_core.specs.Wrapping.{wrap}
use Rattle.clause_core.specs.declared.literal.Lit.{Lit}
use Rattle.clause_core.specs.Satisfaction.{literal_true}
use Rattle.plc_types.specs.declared.elementary.Elementary.{Elementary}
use Rattle.plc_types.specs.declared.range.Range.{Range}
use Rattle.plc_types.specs.DataTypes.{carrier}
use Rattle.plc_types.specs.Types.{width_of, is_signed, range_of, in_range}
use Rattle.plc_types.proofs.InRange.{not_between}
use Rattle.plc_types.proofs.TypeRanges.{wrapped_same}
use Rattle.program_tree.specs.Tree.{CellData}
use Rattle.scan_model.specs.Scans.{ranges_of}
use Rattle.queries.specs.Ranges.{are_in_range}
use Rattle.gates.specs.Netlists.{Netlist}
use Rattle.gates.specs.Models.{IsModel}
use Rattle.gates.proofs.Growth.{IsModel-front}
use Rattle.word_laws.specs.Numbers.{value}
use Rattle.word_laws.proofs.ChoiceLaws.{value-outside}
use Rattle.node_core.specs.NodeLaws.{kinds_of}
use Rattle.node_circuits.specs.NodeWords.{Words}
use Rattle.node_circuit_laws.specs.WordValues.{HaveWidths, values_of}
use Rattle.node_circuit_laws.proofs.RowValues.{some_of}
use Rattle.query_formulas.specs.CellShapes.{is_bounded, shape_of, shapes_of}
use Rattle.query_formulas.specs.Literals.{MadeLiterals, none_made, outside_cell, outside_one, outside_cells}
use Rattle.query_formulas.proofs.Growth.{extends_outside_cells}
use Rattle.query_formula_laws.specs.TypedComparisons.{IsTypedCell}
use Rattle.query_formula_laws.proofs.Values.{widths-head, widths-tail, widths-none, value_typed}

outside_of_type : (t : Elementary) (r : Range) (v : ℕ → Bool) (a : List Lit) (lit : Bool) → in_range r.low (range_of t) ≡ true → in_range r.high (range_of t) ≡ true → length a ≡ width_of t
    → lit ≡ (int_lt (value (is_signed t) v a) (wrap (length a) (is_signed t) r.low) || int_lt (wrap (length a) (is_signed t) r.high) (value (is_signed t) v a))
    → lit ≡ not (in_range (value (is_signed t) v a) r)
outside_of_type t r v a lit low high e h =
    let x = value (is_signed t) v a in
    let least : wrap (length a) (is_signed t) r.low ≡ r.low = ap (λ (w : ℕ). wrap w (is_signed t) r.low) e ∙ wrapped_same t r.low low in
    let greatest : wrap (length a) (is_signed t) r.high ≡ r.high = ap (λ (w : ℕ). wrap w (is_signed t) r.high) e ∙ wrapped_same t r.high high in
    h ∙ ap (λ (y : ℤ). int_lt x y || int_lt (wrap (length a) (is_signed t) r.high) x) least ∙ ap (λ (y : ℤ). int_lt x r.low || int_lt y x) greatest ∙ not_between x r.low r.high

-- true exactly where the value lies outside
outside_cell-value : (v : ℕ → Bool) (c : CellData) (w : List Lit) (n : Netlist) → IsTypedCell c → length w ≡ width_of (carrier c.kind) → IsModel v (outside_cell (shape_of c) w n).net
    → literal_true v (outside_cell (shape_of c) w n).lit ≡ not (in_range (value (is_signed (carrier c.kind)) v w) c.range)
outside_cell-value v c w n typed e m =
    let t = carrier c.kind in
    outside_of_type t c.range v w _ typed.place.0 typed.place.1 e (value-outside (is_signed t) v w c.range.low c.range.high n (some_of t w e) m)

-- what has no bounds lies in its range
whole_in : (v : ℕ → Bool) (c : CellData) (w : List Lit) → IsTypedCell c → is_bounded c ≡ false → length w ≡ width_of (carrier c.kind) → in_range (value (is_signed (carrier c.kind)) v w) c.range ≡ true
whole_in v c w typed free e =
    let t = carrier c.kind in
    subst (λ (r : Range). in_range (value (is_signed t) v w) r ≡ true) (sym (typed.whole free)) (value_typed v t w e)

no_more : (a : Bool) → (a || false) ≡ a
no_more true = refl
no_more false = refl

is_none : (p : Bool) → p ≡ true → false ≡ not p
is_none true e = refl
is_none false e = absurd (cc)

outside_by : (v : ℕ → Bool) (b : Bool) (c : CellData) (w : List Lit) (n : Netlist) → IsTypedCell c → is_bounded c ≡ b → length w ≡ width_of (carrier c.kind)
    → (let o : MadeLiterals = (if b then (let m = outside_cell (shape_of c) w n in let r : MadeLiterals = record { lits = m.lit ∷ []; net = m.net } in r) else none_made n) in
    IsModel v o.net → list_any (literal_true v) o.lits ≡ not (in_range (value (is_signed (carrier c.kind)) v w) c.range))
outside_by v true c w n typed is e m = no_more (literal_true v (outside_cell (shape_of c) w n).lit) ∙ outside_cell-value v c w n typed e m
outside_by v false c w n typed is e m = is_none _ (whole_in v c w typed is e)

outside_one-any : (v : ℕ → Bool) (c : CellData) (w : List Lit) (n : Netlist) → IsTypedCell c → length w ≡ width_of (carrier c.kind) → IsModel v (outside_one (shape_of c) w n).net
    → list_any (literal_true v) (outside_one (shape_of c) w n).lits ≡ not (in_range (value (is_signed (carrier c.kind)) v w) c.range)
outside_one-any v c w n typed e m = outside_by v (is_bounded c) c w n typed refl e m

-- ---- all cells

none_or : (a b p q : Bool) → a ≡ not p → b ≡ not q → (a || b) ≡ not (p && q)
none_or true b true q e f = absurd (cc)
none_or true b false q e f = refl
none_or false b true q e f = f
none_or false b false q e f = absurd (cc)

-- one of two lists is true exactly where one of two tests fails
pub either-any : (v : ℕ → Bool) (ls ms : List Lit) (p q : Bool) → list_any (literal_true v) ls ≡ not p → list_any (literal_true v) ms ≡ not q → list_any (literal_true v) (ls ++ ms) ≡ not (p && q)
either-any v ls ms p q e f = list_any-append (literal_true v) ls ms ∙ none_or (list_any (literal_true v) ls) (list_any (literal_true v) ms) p q e f

-- one is true exactly where some value lies outside of its range
pub outside_cells-any : (v : ℕ → Bool) (cs : List CellData) (ws : Words) (n : Netlist) → All IsTypedCell cs → HaveWidths (kinds_of cs) ws → IsModel v (outside_cells (shapes_of cs) ws n).net
    → list_any (literal_true v) (outside_cells (shapes_of cs) ws n).lits ≡ not (are_in_range (ranges_of cs) (values_of v (kinds_of cs) ws))
outside_cells-any v [] [] n typed h m = refl
outside_cells-any v [] (w ∷ ws) n typed h m = refl
outside_cells-any v (c ∷ cs) [] n typed h m = widths-none _ _ h
outside_cells-any v (c ∷ cs) (w ∷ ws) n typed h m =
    let o = outside_one (shape_of c) w n in
    let r = outside_cells (shapes_of cs) ws o.net in
    either-any v o.lits r.lits _ _
    (outside_one-any v c w n (All-head IsTypedCell c cs typed) (widths-head _ _ w ws h) (IsModel-front v o.net r.net (extends_outside_cells (shapes_of cs) ws o.net) m))
    (outside_cells-any v cs ws o.net (All-tail IsTypedCell c cs typed) (widths-tail _ _ w ws h) m)
