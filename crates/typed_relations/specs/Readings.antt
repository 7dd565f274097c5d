-- What is known of two programs and a relation that were read from texts.
use Rattle.std.specs.Prelude.{◌≡◌, ℕ, List, true}
use Rattle.source_tree.specs.declared.token.Tok.{Tok}
use Rattle.program_tree.specs.Tree.{ProgramData}
use Rattle.scan_model.specs.InRange.{IsFitToRun}
use Rattle.scan_model.specs.Pairs.{BelongsTo, RelationData}
use Rattle.queries.specs.Comparisons.{Comparison}
use Rattle.query_formula_laws.specs.TypedComparisons.{IsTypedComparison}
use Rattle.relation_file.specs.Stated.{IsRelation, has_few_candidates}
use Rattle.relation_file.specs.WellFormed.{IsWellFormed}
use Rattle.typed_programs.specs.Programs.{IsTypedProgram}
use Rattle.stated_cells.specs.StatedCells.{HasStatedCells}

-- scans can be run of a program, it is typed, and its cells are those of its types
pub record IsReadProgram (p : ProgramData) : Type 0 where
  pub is_program : IsFitToRun p
  pub typed : IsTypedProgram p
  pub cells : HasStatedCells p

-- some tokens state a relation
pub data IsStated (old new : ProgramData) (rel : RelationData) : Type 0 where
  by_tokens : (end : ℕ) (toks : List Tok) → IsRelation old new end toks rel → IsStated old new rel

-- both programs were read, and the relation is one that a text states between them, with at most 4,096 candidates
pub record AreRead (c : Comparison) : Type 0 where
  pub old : IsReadProgram c.old
  pub new : IsReadProgram c.new
  pub stated : IsStated c.old c.new c.relation
  pub belongs : BelongsTo c.old c.new c.relation
  pub well_formed : IsWellFormed c.old c.new c.relation
  pub few : has_few_candidates c.relation ≡ true

-- what circuits, a judge and a search need of that: they are typed, and each INPUT line names cells
pub record IsRead (c : Comparison) : Type 0 where
  pub old_is_program : IsFitToRun c.old
  pub new_is_program : IsFitToRun c.new
  pub belongs : BelongsTo c.old c.new c.relation
  pub well_formed : IsWellFormed c.old c.new c.relation
  pub few : has_few_candidates c.relation ≡ true
  pub typed : IsTypedComparison c
