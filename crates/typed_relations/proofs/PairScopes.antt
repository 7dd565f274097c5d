-- What names stand for in a clause over a pair fits the cells of the pair, and is whole.
use Rattle.std.proofs.Common.{◌≡◌, ℕ, ℤ, Bool, true, false, List, [], ◌++◌, length, map, Option, Some, None, refl, sym, ap, ◌∙◌, if◌then◌else◌}
use Rattle.std.specs.Prelude.{codes, is_some}
use Rattle.std.specs.Str.{bytes_eq}
use Rattle.std.proofs.lemmas.Bool.{false≢true}
use Rattle.std.proofs.lemmas.List.{length-map, append-nil, map-append}
use Rattle.plc_types.specs.Enumerations.{paired_type}
use Rattle.source_tree.specs.Syntax.{PathData}
use Rattle.program_tree.specs.Tree.{ProgramData}
use Rattle.program_tree.specs.declared.scratch.Scratch.{Scratch}
use Rattle.program_tree.specs.Places.{of_cell}
use Rattle.typing.specs.declared.scope.Meaning.{Meaning}
use Rattle.typing.specs.Typing.{Reference, by_path, by_value}
use Rattle.typing.specs.Programs.{own_type, member_of, pair_means, pair_scope}
use Rattle.typed_programs.specs.Scopes.{Pous}
use Rattle.stated_cells.specs.typed_scopes.Uses.{Usable}
use Rattle.stated_cells.specs.typed_scopes.Fitting.{ScopeFits}
use Rattle.stated_cells.proofs.typed_cells.Occurrences.{Occurs}
use Rattle.stated_cells.specs.whole_files.WholeScopes.{is_whole_meaning, IsWholeScope}
use Rattle.stated_cells.specs.StatedCells.{last_of, HasStatedCells}
use Rattle.typed_relations.proofs.PairTypes.{old_paired, new_paired}
use Rattle.typed_relations.proofs.Sides.{over, Fits, side_fits}

-- nothing is called
abbrev pub no_pous : Pous
no_pous = record { frames = λ n. record { types = []; ranges = []; start = [] }; instances = λ n. [] }

abbrev pub pair_places : ProgramData → ProgramData → List Scratch
pair_places old new = map of_cell (old.cells ++ new.cells)

abbrev pub pair_last : ProgramData → ProgramData → ℕ → ℤ
pair_last old new = last_of (old.types ++ new.types)

-- all names that stand for something may be used
abbrev pub pair_uses : ProgramData → ProgramData → Usable
pair_uses old new = record { names = λ r. is_some (pair_means old new r); functions = λ text. false }

-- where the cells of both programs stand
pub old_at : (old new : ProgramData) → Occurs (map of_cell old.cells) (pair_places old new) 0
old_at old new = record { before = []; behind = map of_cell new.cells; is = map-append of_cell old.cells new.cells; long = refl }

pub new_at : (old new : ProgramData) → Occurs (map of_cell new.cells) (pair_places old new) (length old.cells)
new_at old new = record {
  before = map of_cell old.cells;
  behind = [];
  is = map-append of_cell old.cells new.cells ∙ ap (λ (l : List Scratch). map of_cell old.cells ++ l) (sym (append-nil (map of_cell new.cells)));
  long = length-map old.cells of_cell;
}

by_side : (P : Type 0) (a b : Bool) (x y : Option Meaning) (m : Meaning) → (if a then x else (if b then y else None)) ≡ Some m → (x ≡ Some m → P) → (y ≡ Some m → P) → P
by_side P true b x y m h first second = first h
by_side P false true x y m h first second = second h
by_side P false false x y m h first second = absurd (let n : ⊥ = cc in n)

module _ (old new : ProgramData) (of_old : HasStatedCells old) (of_new : HasStatedCells new) where
  path_fits : (p : PathData) (m : Meaning) → pair_means old new (by_path p) ≡ Some m → Fits (pair_places old new) (pair_last old new) m
  path_fits p m h =
      by_side (Fits (pair_places old new) (pair_last old new) m) (bytes_eq p.first.text (codes "OLD")) (bytes_eq p.first.text (codes "NEW")) (member_of own_type 0 old p.members)
      (member_of (paired_type old.types new.types) (length old.cells) new p.members) m h
      (side_fits (pair_places old new) (pair_last old new) own_type old of_old (old_paired old.types new.types) 0 (old_at old new) p.members m)
      (side_fits (pair_places old new) (pair_last old new) (paired_type old.types new.types) new of_new (new_paired old.types new.types) (length old.cells) (new_at old new) p.members m)

  means_fit : (r : Reference) (m : Meaning) → pair_means old new r ≡ Some m → Fits (pair_places old new) (pair_last old new) m
  means_fit (by_path p) m h = path_fits p m h
  means_fit (by_value n) m h = absurd (let e : ⊥ = cc in e)

  pub pair_fits : ScopeFits no_pous (over (pair_places old new)) (pair_last old new) (pair_scope old new) (pair_uses old new)
  pair_fits = record {
    names = λ r usable m is. (means_fit r m is).fits;
    functions = λ text usable s is. absurd (false≢true usable);
    instances = λ text i is. absurd (let n : ⊥ = cc in n);
  }

  whole_by : (r : Reference) (o : Option Meaning) → pair_means old new r ≡ o → is_some o ≡ true → is_whole_meaning o ≡ true
  whole_by r None is some = absurd (false≢true some)
  whole_by r (Some m) is some = (means_fit r m is).whole

  pub pair_whole : IsWholeScope (pair_scope old new) (pair_uses old new)
  pair_whole = record { names = λ r usable. whole_by r (pair_means old new r) refl usable; functions = λ text usable. absurd (false≢true usable) }
