-- What was read is typed.
use Rattle.std.proofs.Common.{◌≡◌, ◌<◌, ℕ, Bool, true, false, List, [], ◌∷◌, ◌++◌, length, map, refl, sym, ap, ◌∙◌, subst, arith}
use Rattle.std.specs.Prelude.{All}
use Rattle.std.proofs.lemmas.List.{length-map}
use Rattle.std.proofs.lemmas.List.Elements.{All-append, All-nil, All-cons}
use Rattle.plc_types.specs.declared.elementary.Elementary.TheVariants as types
use Rattle.plc_types.specs.DataTypes.{carrier}
use Rattle.program_tree.specs.Tree.{Expression, CellData}
use Rattle.scan_model.specs.InRange.{BeginsWithFault}
use Rattle.scan_model.specs.Pairs.{RelationData}
use Rattle.queries.specs.Comparisons.{Comparison}
use Rattle.query_formula_laws.specs.TypedComparisons.{IsClauseOf, HasTypedClauses, IsTypedComparison}
use Rattle.query_formula_laws.proofs.TypedCandidates.{candidates_are_typed}
use Rattle.relation_lines.specs.declared.line.Condition.{Condition}
use Rattle.relation_lines.specs.declared.line.Condition.TheVariants as conditions
use Rattle.source_tree.specs.declared.token.Tok.{Tok}
use Rattle.program_tree.specs.declared.scratch.Scratch.{Scratch}
use Rattle.program_tree.specs.Places.{of_cell, place_at}
use Rattle.relation_file.specs.Stated.{IsRelation}
use Rattle.relation_file.specs.Relations.{faults_are_equal, equal_faults, faults_clause, clauses_in}
use Rattle.stated_cells.proofs.typed_cells.Occurrences.{Occurs, occurs_first, occurs_within}
use Rattle.typed_relations.specs.Readings.{IsStated, by_tokens, AreRead, IsRead}
use Rattle.typed_relations.proofs.PairScopes.{pair_places, old_at, new_at}
use Rattle.typed_relations.proofs.Lines.{lines_typed}
use Rattle.typed_relations.proofs.Programs.{cells_typed, charts_typed}
use Rattle.typed_relations.proofs.Compared.{is_comparison, all_alike}

-- ---- FAULT of both programs

record IsBool (places : List Scratch) (place : ℕ) : Type 0 where
  below : place < length places
  kind : (place_at places place).kind ≡ types.Bool

fault_at : (cells : List CellData) (places : List Scratch) (start : ℕ) → BeginsWithFault cells → Occurs (map of_cell cells) places start → IsBool places start
fault_at [] places start begins at = absurd begins
fault_at (c ∷ cs) places start begins at =
    let bound = occurs_within (map of_cell (c ∷ cs)) places start at in
    record {
      below = omega (arith, bound);
      kind = ap (λ (s : Scratch). s.kind) (occurs_first (of_cell c) (map of_cell cs) places start at) ∙ ap carrier begins.1;
    }

module _ (c : Comparison) (r : AreRead c) where
  abbrev AreTyped : List Expression → Type 0
  AreTyped es = All (IsClauseOf c) es

  faults_typed : IsClauseOf c (equal_faults (length c.old.cells))
  faults_typed =
      let ps = pair_places c.old c.new in
      let a = fault_at c.old.cells ps 0 r.old.is_program.begins_with_fault (old_at c.old c.new) in
      let b = fault_at c.new.cells ps (length c.old.cells) r.new.is_program.begins_with_fault (new_at c.old c.new) in
      let long = length-map (c.old.cells ++ c.new.cells) of_cell in
      let low = a.below in
      let high = b.below in
      record { typed = (a.kind, (refl, refl, b.kind, refl)); reads = (omega (arith, low, long), (omega (arith, high, long), tt)) }

  clause_if : (b : Bool) → AreTyped (faults_clause b (length c.old.cells))
  clause_if true = All-cons (IsClauseOf c) (equal_faults (length c.old.cells)) [] faults_typed (All-nil (IsClauseOf c))
  clause_if false = All-nil (IsClauseOf c)

  module _ (end : ℕ) (toks : List Tok) (is : IsRelation c.old c.new end toks c.relation) where
    clauses : (wanted : Condition) → AreTyped (clauses_in c.old c.new wanted is.lines)
    clauses wanted = lines_typed c r.old.cells r.new.cells wanted end [] is.lines is.sound is.typing is.read.levelled

    relates : AreTyped (clauses_in c.old c.new conditions.Relate is.lines ++ faults_clause (faults_are_equal is.lines) (length c.old.cells))
    relates =
        All-append (IsClauseOf c) (clauses_in c.old c.new conditions.Relate is.lines) (faults_clause (faults_are_equal is.lines) (length c.old.cells)) (clauses conditions.Relate) (clause_if (faults_are_equal is.lines))

    clauses_typed : HasTypedClauses c
    clauses_typed = record {
      comparison = is_comparison c r;
      old_cells = cells_typed c.old.cells r.old.typed.cells;
      new_cells = cells_typed c.new.cells r.new.typed.cells;
      alike = all_alike c r;
      environment = subst (λ (rel : RelationData). AreTyped rel.environment) (sym is.stated) (clauses conditions.Environment);
      relates = subst (λ (rel : RelationData). AreTyped rel.relates) (sym is.stated) relates;
      invariants = subst (λ (rel : RelationData). AreTyped rel.invariants) (sym is.stated) (clauses conditions.Invariant);
      old_charts = charts_typed (c.old.cells ++ c.new.cells) c.old.cells 0 (old_at c.old c.new) c.old.charts r.old.cells.charts;
      new_charts = charts_typed (c.old.cells ++ c.new.cells) c.new.cells (length c.old.cells) (new_at c.old c.new) c.new.charts r.new.cells.charts;
    }

  has_typed_clauses : IsStated c.old c.new c.relation → HasTypedClauses c
  has_typed_clauses (by_tokens end toks is) = clauses_typed end toks is

pub read_typed : (c : Comparison) → AreRead c → IsTypedComparison c
read_typed c r = candidates_are_typed c (has_typed_clauses c r r.stated)

pub is_read : (c : Comparison) → AreRead c → IsRead c
is_read c r = record {
  old_is_program = r.old.is_program;
  new_is_program = r.new.is_program;
  belongs = r.belongs;
  well_formed = r.well_formed;
  few = r.few;
  typed = read_typed c r;
}
