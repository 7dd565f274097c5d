-- A clause that breaks no rule is typed over OLD's cells and then NEW's, and names no other cell.
use Rattle.std.proofs.Common.{◌≡◌, ◌<◌, ℕ, List, [], ◌++◌, length, None, subst, arith}
use Rattle.std.proofs.lemmas.List.{length-map}
use Rattle.plc_types.specs.declared.elementary.Elementary.{Elementary}
use Rattle.plc_types.specs.declared.elementary.Elementary.TheVariants as types
use Rattle.plc_types.specs.declared.data_type.DataType.{DataType}
use Rattle.plc_types.specs.DataTypes.{is_same_type}
use Rattle.plc_types.proofs.SameTypes.{same_type}
use Rattle.rules.specs.declared.rule.Rule.TheVariants.{NotBool}
use Rattle.source_tree.specs.Syntax.{Tree}
use Rattle.source_tree.specs.Levels.{IsLevelled}
use Rattle.program_tree.specs.Tree.{Expression, number, cell, unary, chain, call_standard, call_function, Operands, no_operands, operand, Expressions, no_expressions, expression}
use Rattle.program_tree.specs.declared.scratch.Scratch.{Scratch}
use Rattle.program_tree.specs.OperandTypes.{first_operand_kind, first_kind}
use Rattle.program_tree.specs.Places.{of_cell}
use Rattle.meaning.specs.Values.{result_type}
use Rattle.queries.specs.Comparisons.{Comparison}
use Rattle.typing.specs.Typing.{bool_type, type_of, place_of}
use Rattle.typing.specs.Judged.{judged, judged_clause}
use Rattle.typing.specs.Typed.{typed}
use Rattle.typing.specs.Programs.{pair_scope}
use Rattle.flat_core.specs.FlatRules.{Reads, AllRead, EachReads}
use Rattle.node_core.specs.TypedFlats as flats
use Rattle.typed_programs.specs.Expressions.{IsOf, Join, AreOf}
use Rattle.stated_cells.specs.typed_scopes.Types.{IsOfType}
use Rattle.stated_cells.proofs.typed_scopes.Expressions.{value_is}
use Rattle.stated_cells.proofs.typed_scopes.TypedValues.{of_type}
use Rattle.stated_cells.proofs.typed_scopes.Wholes.{whole_require}
use Rattle.stated_cells.proofs.whole_files.KnownTypes.{type_known}
use Rattle.stated_cells.proofs.whole_files.ToldTrees.{condition_told}
use Rattle.query_formula_laws.specs.TypedComparisons.{IsClauseOf}
use Rattle.stated_cells.specs.StatedCells.{HasStatedCells}
use Rattle.relation_file.specs.Clauses.{broken_names}
use Rattle.typed_relations.proofs.Sides.{over}
use Rattle.typed_relations.proofs.PairScopes.{no_pous, pair_places, pair_last, pair_uses, pair_fits, pair_whole}
use Rattle.typed_relations.proofs.Within.{tree_within}

-- ---- typed expressions that call nothing

module _ (ps : List Scratch) where
  abbrev IsTypedOver : Elementary → Expression → Type 0
  IsTypedOver t e = IsOf no_pous (over ps) t e

  mutual
    value_of : (t : Elementary) (e : Expression) → IsTypedOver t e → flats.IsOf ps t e
    value_of t (number v) h = h
    value_of t (cell place) h = h.1
    value_of t (unary o k e) h = (h.0, value_of k e h.1)
    value_of t (chain e os) h = (value_of (first_kind t os) e h.0, operands_of (first_kind t os) t os h.1)
    value_of t (call_standard f k es) h = (h.0, h.1, values_of (first_operand_kind f k) k es h.2)
    value_of t (call_function f es) h = let low = h.0 in absurd (omega (arith, low))

    operands_of : (left t : Elementary) (os : Operands) → Join no_pous (over ps) left t os → flats.Join ps left t os
    operands_of left t no_operands h = h
    operands_of left t (operand o k e os) h = (h.0, h.1, value_of k e h.2, operands_of (result_type o k) t os h.3)

    values_of : (first others : Elementary) (es : Expressions) → AreOf no_pous (over ps) first others es → flats.AreOf ps first others es
    values_of first others no_expressions h = tt
    values_of first others (expression e es) h = (value_of first e h.0, values_of others others es h.1)

  mutual
    reads_of : (t : Elementary) (e : Expression) → IsTypedOver t e → Reads (λ place. place < length ps) e
    reads_of t (number v) h = tt
    reads_of t (cell place) h = h.0.1
    reads_of t (unary o k e) h = reads_of k e h.1
    reads_of t (chain e os) h = (reads_of (first_kind t os) e h.0, operands_read (first_kind t os) t os h.1)
    reads_of t (call_standard f k es) h = values_read (first_operand_kind f k) k es h.2
    reads_of t (call_function f es) h = let low = h.0 in absurd (omega (arith, low))

    operands_read : (left t : Elementary) (os : Operands) → Join no_pous (over ps) left t os → AllRead (λ place. place < length ps) os
    operands_read left t no_operands h = tt
    operands_read left t (operand o k e os) h = (reads_of k e h.2, operands_read (result_type o k) t os h.3)

    values_read : (first others : Elementary) (es : Expressions) → AreOf no_pous (over ps) first others es → EachReads (λ place. place < length ps) es
    values_read first others no_expressions h = tt
    values_read first others (expression e es) h = (reads_of first e h.0, values_read others others es h.1)

-- ---- clauses

module _ (c : Comparison) (of_old : HasStatedCells c.old) (of_new : HasStatedCells c.new) where
  bool_typed : (e : Tree) → IsLevelled e → broken_names (pair_scope c.old c.new) e ≡ [] → (judged_clause (pair_scope c.old c.new) e).broken ≡ []
      → IsOf no_pous (over (pair_places c.old c.new)) types.Bool (typed (pair_scope c.old c.new) None e)
  bool_typed e levels names none =
      let scope = pair_scope c.old c.new in
      let uses = pair_uses c.old c.new in
      let fits = pair_fits c.old c.new of_old of_new in
      let whole = pair_whole c.old c.new of_old of_new in
      let within = tree_within c.old c.new e names in
      let parts = whole_require (judged scope None e) (is_same_type (type_of scope None e) bool_type) NotBool (place_of e) (condition_told scope uses whole NotBool e within none) in
      let known = type_known scope uses whole None tt e within in
      let own = of_type no_pous (over (pair_places c.old c.new)) (pair_last c.old c.new) _ _
      (value_is no_pous (over (pair_places c.old c.new)) (pair_last c.old c.new) scope uses fits None e within levels parts.0 known) in
      subst (λ (t : DataType). IsOfType no_pous (over (pair_places c.old c.new)) (pair_last c.old c.new) t (typed scope None e)) (same_type (type_of scope None e) bool_type parts.1) own

  pub clause_typed : (e : Tree) → IsLevelled e → broken_names (pair_scope c.old c.new) e ≡ [] → (judged_clause (pair_scope c.old c.new) e).broken ≡ [] → IsClauseOf c (typed (pair_scope c.old c.new) None e)
  clause_typed e levels names none =
      let ps = pair_places c.old c.new in
      let x = typed (pair_scope c.old c.new) None e in
      let own = bool_typed e levels names none in
      record {
        typed = value_of ps types.Bool x own;
        reads = subst (λ (n : ℕ). Reads (λ place. place < n) x) (length-map (c.old.cells ++ c.new.cells) of_cell) (reads_of ps types.Bool x own);
      }
