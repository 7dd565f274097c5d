-- Each cell of a POU whose variables break no rule is one of its type.
use Rattle.std.proofs.Common.{◌≡◌, ℕ, ℤ, Bool, true, false, List, [], ◌∷◌, Option, Some, None, refl, subst, ap}
use Rattle.std.specs.List.{AllByRecursion}
use Rattle.source_tree.specs.Syntax.{Named, PouData, FileData}
use Rattle.naming.specs.FileScope.{types_of, pou_at}
use Rattle.naming.specs.Scopes.{Variable, variables_in_pou, block_of}
use Rattle.typing.specs.Variables.{domain_of_variable, judged_variable}
use Rattle.typing.specs.Places.{variables_in}
use Rattle.typing.specs.TypedPrograms.{cell_for, fault_cell, flag_cell, cells_in, type_texts}
use Rattle.typed_files.specs.typed_scopes.Types.{IsPlaceOf}
use Rattle.typed_files.specs.typed_cells.Variables.{place_for}
use Rattle.typed_files.specs.typed_cells.Premises.{AreWhole}
use Rattle.typed_files.proofs.typed_cells.Domains.{variable_sound}
use Rattle.typed_files.proofs.typed_cells.TypedCells.{kind_known}
use Rattle.stated_cells.specs.StatedCells.{IsStatedCell}
use Rattle.stated_cells.proofs.Lasts.{same_last}
use Rattle.stated_cells.proofs.OwnTypes.{kind_of_types}
use Rattle.stated_cells.proofs.Walks.{of_pou}

-- a whole BOOL
flag_stated : (types : List (List (List ℕ))) (before : Option (List ℕ)) (n : Named) (text : List ℕ) (v : ℤ) → IsStatedCell types (flag_cell before n text v)
flag_stated types before n text v = record { place = record { known = tt; kind = refl; within = refl; whole = λ all. refl }; among = tt }

fault_stated : (types : List (List (List ℕ))) → IsStatedCell types fault_cell
fault_stated types = record { place = record { known = tt; kind = refl; within = refl; whole = λ all. refl }; among = tt }

module _ (f : FileData) where
  abbrev types : List (List (List ℕ))
  types = type_texts (types_of f)

  cell_stated : (inside : Bool) (before : Option (List ℕ)) (v : Variable) → block_of f v ≡ None → (judged_variable f v).whole ≡ true → IsStatedCell types (cell_for f inside before v)
  cell_stated inside before v none whole =
      let known = kind_known f v none whole in
      record {
        place = subst (λ (l : ℕ → ℤ). IsPlaceOf l (domain_of_variable f v).kind (place_for (domain_of_variable f v))) (same_last f) ((variable_sound f v).place known);
        among = kind_of_types f v known;
      }

  pub program_cells : AreWhole f → (k : ℕ) (p : PouData) → pou_at f k ≡ Some p → AllByRecursion (IsStatedCell types) (fault_cell ∷ cells_in f (Some []) false (variables_in_pou p))
  program_cells whole k p there = (
    fault_stated types,
    subst (λ (vs : List Variable). AllByRecursion (IsStatedCell types) (cells_in f (Some []) false vs)) (ap variables_in there)
        (of_pou f (IsStatedCell types) (flag_stated types) cell_stated whole k (Some []) false),
  )
