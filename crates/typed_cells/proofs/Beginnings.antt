-- A body begins with assignments that its places take; they leave nothing.
use Rattle.std.proofs.Common.{◌≡◌, ℕ, ℤ, ◌+◌, ◌≤◌, Bool, true, false, if◌then◌else◌, List, [], ◌∷◌, ◌++◌, Some, None, refl, sym, ◌∙◌, arith, subst}
use Rattle.std.specs.List.{AllByRecursion}
use Rattle.std.proofs.lemmas.Bool.{both_ways, or_right}
use Rattle.plc_types.specs.DataTypes.{carrier}
use Rattle.plc_types.specs.Types.{range_of, in_range}
use Rattle.plc_types.proofs.InRange.{covers_in}
use Rattle.source_tree.specs.Syntax.{PouData, FileData}
use Rattle.program_tree.specs.Tree.{number, assign, Statements, statement}
use Rattle.program_tree.specs.Leaving.{LeavesNothing}
use Rattle.program_tree.specs.declared.scratch.Scratch.{Scratch}
use Rattle.program_tree.specs.Places.{place_at}
use Rattle.naming.specs.FileScope.{pou_at}
use Rattle.naming.specs.Scopes.{Variable, block_of, names_in_body, variables_in_pou}
use Rattle.typing.specs.declared.next.Next.{Next}
use Rattle.typing.specs.Variables.{domain_of_variable, judged_variable, initial_of}
use Rattle.typing.specs.Places.{is_front, cells_taken, sizes_of, variables_at, first_places, first_place, places_behind}
use Rattle.typing.specs.TypedPrograms.{is_temporary, begun}
use Rattle.typed_programs.specs.Scopes.{Pous, BodyScope}
use Rattle.typed_programs.specs.Expressions.{Takes}
use Rattle.typed_programs.specs.Statements.{AreTypedParts}
use Rattle.typed_scopes.specs.Types.{range_of_type}
use Rattle.typed_cells.specs.Places.{last, declared_names, scope_over, pous}
use Rattle.typed_cells.specs.Variables.{place_for, variable_places}
use Rattle.typed_cells.specs.Premises.{UsesItsBlocks, IsOrdered, AreWhole}
use Rattle.typed_cells.proofs.Lists.{all-left}
use Rattle.typed_cells.proofs.Occurrences.{Occurs}
use Rattle.typed_cells.proofs.Lengths.{HasSize}
use Rattle.typed_cells.proofs.Walks.{IsNext, pass}
use Rattle.typed_cells.proofs.Names.{IsPlain, IsOfChart, declared_plain, body_of_chart}
use Rattle.typed_cells.proofs.Bounds.{IsAbove, above_behind, above_here, above_first, IsBelow, below_by, below_of}
use Rattle.typed_cells.proofs.Domains.{variable_sound, initial_in}
use Rattle.typed_cells.proofs.Cells.{first_cell}
use Rattle.typed_scopes.proofs.TypedValues.{carrier-covers}
use Rattle.typed_cells.proofs.TypedCells.{kind_known, each_whole}
use Rattle.typed_cells.proofs.Owners.{same_variables, sizes_known, begins}
use Rattle.typed_cells.proofs.Roles.{chart_lasts, temporary_cell, temporary_not_local}

begun_first : (f : FileData) (next : Next) (v : Variable) (vs : List Variable) (ss : Statements) → is_temporary v.role ≡ true
    → begun f next (v ∷ vs) ss ≡ statement (assign (first_place next v) (number (initial_of f v))) (begun f (places_behind f (sizes_of f) next v) vs ss)
begun_first f next v vs ss is = rw is refl

begun_none : (f : FileData) (next : Next) (v : Variable) (vs : List Variable) (ss : Statements) → is_temporary v.role ≡ false → begun f next (v ∷ vs) ss ≡ begun f (places_behind f (sizes_of f) next v) vs ss
begun_none f next v vs ss is = rw is refl

-- the names of a chart are not assigned
chart_begun : (f : FileData) (next : Next) (ns : List Variable) (ss : Statements) → AllByRecursion IsOfChart ns → begun f next ns ss ≡ ss
chart_begun f next [] ss chart = refl
chart_begun f next (n ∷ ns) ss chart =
    begun_none f next n ns ss (chart_lasts n.role chart.0.role) ∙ chart_begun f (places_behind f (sizes_of f) next n) ns ss chart.1

module _ (f : FileData) (ps : Pous) (b : BodyScope) where
  -- what a variable begins with fits its place
  takes_initial : (v : Variable) (place : Scratch) → place ≡ place_for (domain_of_variable f v) → block_of f v ≡ None → (judged_variable f v).whole ≡ true → Takes ps b place (number (initial_of f v))
  takes_initial v place is none whole =
      let d = domain_of_variable f v in
      let sound = (variable_sound f v).place (kind_known f v none whole) in
      let inside = initial_in f v in
      let in_type = covers_in (range_of_type (last f) d.kind) d.range (initial_of f v) sound.within inside in
      subst (λ (q : Scratch). Takes ps b q (number (initial_of f v))) (sym is)
      (covers_in (range_of (carrier d.kind)) (range_of_type (last f) d.kind) (initial_of f v) (carrier-covers (last f) d.kind sound.known) in_type, or_right d.is_subrange (in_range (initial_of f v) d.range) inside)

  module _ (ns : List Variable) (chart : AllByRecursion IsOfChart ns) (ss : Statements) (typed : AreTypedParts ps b ss) where
    begun_by : (t : Bool) (next : Next) (v : Variable) (ds : List Variable) → is_temporary v.role ≡ t → HasSize f v → IsPlain v → (judged_variable f v).whole ≡ true → Occurs (variable_places f v) b.places (first_place next v)
        → b.first ≤ first_place next v → first_place next v + cells_taken f (sizes_of f) v ≤ b.settable → AreTypedParts ps b (begun f (places_behind f (sizes_of f) next v) (ds ++ ns) ss) → AreTypedParts ps b (begun f next (v ∷ (ds ++ ns)) ss)
    begun_by true next v ds is size plain whole at low high rest =
        let none : block_of f v ≡ None = let other = temporary_not_local v.role is in rw other refl in
        let cell = first_cell f v b.places (first_place next v) (temporary_cell v.role is) none (λ of_chart. absurd (both_ways _ plain of_chart)) at in
        let some = cell.some in
        subst (λ (ts : Statements). AreTypedParts ps b ts) (sym (begun_first f next v (ds ++ ns) ss is))
        (((low, omega (arith, high, some, size)), takes_initial v (place_at b.places (first_place next v)) cell.takes none whole), rest)
    begun_by false next v ds is size plain whole at low high rest = subst (λ (ts : Statements). AreTypedParts ps b ts) (sym (begun_none f next v (ds ++ ns) ss is)) rest

    pub begun_typed : (ds : List Variable) (next : Next) → AllByRecursion (HasSize f) ds → AllByRecursion IsPlain ds → AllByRecursion (λ v. (judged_variable f v).whole ≡ true) ds → IsNext f b.places next (ds ++ ns) → IsAbove b.first next
        → IsBelow f b.settable next ds → AreTypedParts ps b (begun f next (ds ++ ns) ss)
    begun_typed [] next sizes plain whole now above below = subst (λ (ts : Statements). AreTypedParts ps b ts) (sym (chart_begun f next ns ss chart)) typed
    begun_typed (v ∷ ds) next sizes plain whole now above below =
        let p = pass f b.places next v (ds ++ ns) sizes.0 now in
        let low = below_by f b.settable next v ds (is_front next.of_function v.role) refl below in
        let rest = begun_typed ds (places_behind f (sizes_of f) next v) sizes.1 plain.1 whole.1 p.behind (above_behind f b.first next v (is_front next.of_function v.role) refl above) low.behind in
        begun_by (is_temporary v.role) next v ds refl sizes.0 plain.0 whole.0 p.here (above_here b.first next v (is_front next.of_function v.role) refl above) low.here rest

-- behind assignments
assigned_leaves : (temporary : Bool) (target : ℕ) (value : ℤ) (ss : Statements) → LeavesNothing ss → LeavesNothing (if temporary then statement (assign target (number value)) ss else ss)
assigned_leaves true target value ss leaves = leaves
assigned_leaves false target value ss leaves = leaves

pub begun_leaves : (f : FileData) (next : Next) (vs : List Variable) (ss : Statements) → LeavesNothing ss → LeavesNothing (begun f next vs ss)
begun_leaves f next [] ss leaves = leaves
begun_leaves f next (v ∷ vs) ss leaves =
    assigned_leaves (is_temporary v.role) (first_place next v) (initial_of f v) (begun f (places_behind f (sizes_of f) next v) vs ss) (begun_leaves f (places_behind f (sizes_of f) next v) vs ss leaves)

-- the body of a POU, behind the values that its VAR_TEMP variables begin with
pub begun_is : (f : FileData) (runs : ℕ → Bool) → UsesItsBlocks f → IsOrdered f → AreWhole f → (k : ℕ) (p : PouData) → pou_at f k ≡ Some p → (ss : Statements) → AreTypedParts (pous f runs) (scope_over f k p) ss
    → AreTypedParts (pous f runs) (scope_over f k p) (begun f (first_places f (sizes_of f) p.pou_type (variables_in_pou p)) (variables_in_pou p) ss)
begun_is f runs used ordered whole k p there ss typed =
    let whole_p : AllByRecursion (λ v. (judged_variable f v).whole ≡ true) (variables_in_pou p) =
    subst (λ (vs : List Variable). AllByRecursion (λ v. (judged_variable f v).whole ≡ true) vs) (same_variables f used ordered k p there) (each_whole f (variables_at f k) (whole k)) in
    begun_typed f (pous f runs) (scope_over f k p) (names_in_body p.body) (body_of_chart p.body) ss typed (declared_names p) (first_places f (sizes_of f) p.pou_type (variables_in_pou p))
    (all-left (HasSize f) (declared_names p) (names_in_body p.body) (sizes_known f used ordered k p there)) (declared_plain p)
    (all-left (λ v. (judged_variable f v).whole ≡ true) (declared_names p) (names_in_body p.body) whole_p) (begins f used ordered k p there) (above_first f p.pou_type (variables_in_pou p))
    (below_of f p.pou_type (declared_names p) (names_in_body p.body) (declared_plain p) (body_of_chart p.body))
