-- A body that breaks no rule and uses only what it may is typed over the cells of its POU, and no EXIT and no RETURN leaves it.
use Rattle.std.proofs.Common.{◌≡◌, ℕ, Bool, true, false, List, [], refl}
use Rattle.call_order.specs.Marks.{is_marked}
use Rattle.source_tree.specs.Syntax.{PartData, BodyData, statements, chart, PouTypeData, function, function_block, program, PouData, FileData}
use Rattle.std.specs.Prelude.{Some}
use Rattle.source_tree.specs.Levels.{MayDo}
use Rattle.program_tree.specs.Leaving.{LeavesNothing}
use Rattle.naming.specs.Broken.{variables_twice}
use Rattle.naming.specs.FileScope.{pou_at, is_program}
use Rattle.naming.specs.Scopes.{variables_in_pou}
use Rattle.typing.specs.Reached.{reached}
use Rattle.typing.specs.TypedStatements.{typed_list}
use Rattle.typing.specs.TypedPrograms.{typed_body}
use Rattle.typing.specs.Places.{sizes_of}
use Rattle.typing.specs.Members.{scope_of, is_function}
use Rattle.typing.proofs.Exits.{leaves_nothing}
use Rattle.typed_programs.specs.Statements.{AreTypedParts}
use Rattle.typed_programs.proofs.TypedItems.{typed_parts}
use Rattle.typed_scopes.specs.Charts.{ChartFits}
use Rattle.typed_scopes.proofs.Statements.{list_is}
use Rattle.typed_scopes.proofs.Charts.{chart_is, chart_leaves_nothing}
use Rattle.typed_cells.specs.Uses.{uses_of_pou}
use Rattle.typed_cells.specs.Places.{last, scope_over, pous}
use Rattle.typed_cells.specs.Premises.{UsesItsBlocks, IsOrdered}
use Rattle.typed_cells.specs.Bodies.{IsTypedIn, ArePartsSound, IsBodySound}
use Rattle.typed_cells.proofs.Scopes.{scope_fits}
use Rattle.typed_cells.proofs.ChartCells.{chart_flags, chart_rising}

no_function : (pou_type : PouTypeData) (ps : List PartData) → MayDo pou_type (chart ps) → is_function pou_type ≡ false
no_function (function t) ps may = absurd may
no_function function_block ps may = refl
no_function program ps may = refl

module _ (f : FileData) (runs : ℕ → Bool) (used : UsesItsBlocks f) (ordered : IsOrdered f) (k : ℕ) (p : PouData) (there : pou_at f k ≡ Some p) (is : is_marked (reached f) k ≡ true) (unique : (variables_twice (is_program p.pou_type) [] (variables_in_pou p)).whole ≡ true) where
  chart_fits : (ps : List PartData) → p.body ≡ chart ps → is_function p.pou_type ≡ false → ArePartsSound (scope_of f (sizes_of f) k) (uses_of_pou f k) ps → ChartFits (scope_over f k p) (scope_of f (sizes_of f) k) ps
  chart_fits ps body plain sound = record {
    flags = chart_flags f used ordered k p there ps body (is_program p.pou_type) unique plain;
    rising = chart_rising f used ordered k p there ps body (is_program p.pou_type) unique plain;
    transitions = sound.transitions;
    actions = sound.actions;
  }

  body_as : (b : BodyData) → p.body ≡ b → MayDo p.pou_type b → IsBodySound (scope_of f (sizes_of f) k) (uses_of_pou f k) b → AreTypedParts (pous f runs) (scope_over f k p) (typed_body (scope_of f (sizes_of f) k) b)
  body_as (statements ss) body may sound =
      typed_parts (pous f runs) (scope_over f k p) (typed_list (scope_of f (sizes_of f) k) ss)
      (list_is (pous f runs) (scope_over f k p) (last f) (scope_of f (sizes_of f) k) (uses_of_pou f k) (scope_fits f runs used ordered k p there is) ss sound.within sound.levelled sound.whole)
  body_as (chart ps) body may sound = (
    chart_is (pous f runs) (scope_over f k p) (last f) (scope_of f (sizes_of f) k) (uses_of_pou f k) (scope_fits f runs used ordered k p there is) ps (chart_fits ps body (no_function p.pou_type ps may) sound) sound.within sound.levelled sound.whole,
    tt,
  )

  leaves_as : (b : BodyData) → IsBodySound (scope_of f (sizes_of f) k) (uses_of_pou f k) b → LeavesNothing (typed_body (scope_of f (sizes_of f) k) b)
  leaves_as (statements ss) sound = leaves_nothing (scope_of f (sizes_of f) k) ss sound.exits
  leaves_as (chart ps) sound = chart_leaves_nothing (scope_of f (sizes_of f) k) ps sound.whole

  pub body_is_typed : MayDo p.pou_type p.body → IsBodySound (scope_of f (sizes_of f) k) (uses_of_pou f k) p.body → IsTypedIn f runs k p
  body_is_typed may sound = (body_as p.body refl may sound, leaves_as p.body sound)
