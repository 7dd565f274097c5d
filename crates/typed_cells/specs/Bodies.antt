-- When the body of a POU is typed over the POU's cells, and what it owes for that: it breaks no rule on types, no EXIT of it stands outside a FOR, and it
-- uses only what it may.
use Rattle.std.specs.Prelude.{◌≡◌, ℕ, Bool, true, List, [], All}
use Rattle.source_tree.specs.Syntax.{Stmts, PartData, BodyData, statements, chart, PouData, FileData}
use Rattle.source_tree.specs.Levels.{AreStmtsLevelled, ArePartsLevelled}
use Rattle.program_tree.specs.Leaving.{LeavesNothing}
use Rattle.sfc_shape.specs.Shapes.{transitions_of, actions_of}
use Rattle.typing.specs.Typing.{Scope}
use Rattle.typing.specs.JudgedStatements.{judged_stmts}
use Rattle.typing.specs.JudgedExits.{judged_exits}
use Rattle.typing.specs.JudgedCharts.{judged_parts}
use Rattle.typing.specs.Places.{sizes_of}
use Rattle.typing.specs.Members.{scope_of}
use Rattle.typing.specs.TypedPrograms.{typed_body}
use Rattle.typed_programs.specs.Statements.{AreTypedParts}
use Rattle.typed_scopes.specs.Uses.{Usable, AreStmtsWithin, ArePartsWithin}
use Rattle.typed_scopes.specs.Charts.{NamesSteps, IsNamedBySteps}
use Rattle.typed_cells.specs.Places.{scope_over, pous}

-- no EXIT and no RETURN leaves the body
abbrev pub IsTypedIn : FileData → (ℕ → Bool) → ℕ → PouData → Type 0
IsTypedIn f runs k p =
    AreTypedParts (pous f runs) (scope_over f k p) (typed_body (scope_of f (sizes_of f) k) p.body) × LeavesNothing (typed_body (scope_of f (sizes_of f) k) p.body)

pub record AreStmtsSound (scope : Scope) (uses : Usable) (ss : Stmts) : Type 0 where
  pub within : AreStmtsWithin uses ss
  pub levelled : AreStmtsLevelled ss
  pub whole : (judged_stmts scope [] ss).whole ≡ true
  pub exits : (judged_exits ss).whole ≡ true

-- a chart also names its steps
pub record ArePartsSound (scope : Scope) (uses : Usable) (ps : List PartData) : Type 0 where
  pub within : ArePartsWithin uses ps
  pub levelled : ArePartsLevelled ps
  pub whole : (judged_parts scope ps).whole ≡ true
  pub transitions : All (NamesSteps ps) (transitions_of ps)
  pub actions : All (IsNamedBySteps scope ps) (actions_of ps)

abbrev pub IsBodySound : Scope → Usable → BodyData → Type 0
IsBodySound scope uses (statements ss) = AreStmtsSound scope uses ss
IsBodySound scope uses (chart ps) = ArePartsSound scope uses ps
