-- The cells at the names of a POU.
use Rattle.std.proofs.Common.{◌≡◌, ℕ, ◌<◌, Bool, true, false, List, [], ◌∷◌, ◌++◌, length, map, Option, Some, None, option_and_then, refl, sym, ap, ◌∙◌, arith, subst, append_assoc}
use Rattle.std.specs.List.{AllByRecursion}
use Rattle.std.proofs.lemmas.List.{length-append, append-nil}
use Rattle.std.proofs.lemmas.Option.{slice_get_within}
use Rattle.plc_types.specs.declared.elementary.Elementary.TheVariants as types
use Rattle.source_tree.specs.Syntax.{PouTypeData, function, function_block, program, PouData, FileData}
use Rattle.program_tree.specs.declared.scratch.Scratch.{Scratch}
use Rattle.program_tree.specs.Places.{whole_cell, of_cell}
use Rattle.naming.specs.FileScope.{pous_of, pou_at}
use Rattle.naming.specs.Scopes.{Variable, variables_in_pou}
use Rattle.typing.specs.declared.member.Member.{Member}
use Rattle.typing.specs.Places.{is_front, in_front, behind_front, in_order, sizes_of, variables_in, variables_at, places_from, first_places}
use Rattle.typing.specs.Members.{member_in, member_among, member_at, is_function}
use Rattle.typing.specs.TypedPrograms.{cells_in}
use Rattle.typed_cells.specs.Places.{pou_places, first_of}
use Rattle.typed_cells.specs.Variables.{variable_places, variables_places}
use Rattle.typed_cells.specs.Premises.{UsesItsBlocks, IsOrdered}
use Rattle.typed_cells.proofs.Lists.{all-filter}
use Rattle.typed_cells.proofs.BlockPlaces.{block_takes, cells_in_take}
use Rattle.typed_cells.proofs.Lengths.{HasSize, length_all, have_sizes}
use Rattle.typed_cells.proofs.Walks.{IsNext, IsAtName, find}

-- what stands before the cells of the names of a POU: FAULT
abbrev pub head_of : PouTypeData → List Scratch
head_of (function t) = whole_cell types.Bool ∷ []
head_of function_block = []
head_of program = whole_cell types.Bool ∷ []

pub length_head : (pou_type : PouTypeData) → length (head_of pou_type) ≡ first_of pou_type
length_head (function t) = refl
length_head function_block = refl
length_head program = refl

pub places_append : (f : FileData) (vs ws : List Variable) → variables_places f (vs ++ ws) ≡ variables_places f vs ++ variables_places f ws
places_append f [] ws = refl
places_append f (v ∷ vs) ws = ap (λ (l : List Scratch). variable_places f v ++ l) (places_append f vs ws) ∙ sym (append_assoc (variable_places f v) (variables_places f vs) (variables_places f ws))

-- the names of an owner, before any is passed
begin_next : (f : FileData) (o : Bool) (head : List Scratch) (first : ℕ) (vs : List Variable) → length head ≡ first → AllByRecursion (HasSize f) vs
    → IsNext f (head ++ variables_places f (in_order o vs)) (places_from f (sizes_of f) o first vs) vs
begin_next f o head first vs long sizes =
    let fronts = variables_places f (in_front o vs) in
    let others = variables_places f (behind_front o vs) in
    let split : variables_places f (in_order o vs) ≡ fronts ++ others = places_append f (in_front o vs) (behind_front o vs) in
    let counted = length_all f (in_front o vs) (all-filter (HasSize f) (λ v. is_front o v.role) vs sizes) in
    record {
      front = record { before = head; behind = others; is = ap (λ (l : List Scratch). head ++ l) split; long = long };
      rest = record {
        before = head ++ fronts;
        behind = [];
        is = ap (λ (l : List Scratch). head ++ l) (split ∙ ap (λ (l : List Scratch). fronts ++ l) (sym (append-nil others))) ∙ sym (append_assoc head fronts (others ++ []));
        long = length-append head fronts ∙ omega (arith, long, counted);
      };
    }

begin_as : (f : FileData) (pou_type : PouTypeData) (vs : List Variable) → AllByRecursion (HasSize f) vs → IsNext f (head_of pou_type ++ variables_places f (in_order (is_function pou_type) vs)) (first_places f (sizes_of f) pou_type vs) vs
begin_as f (function t) vs sizes = begin_next f true (head_of (function t)) 1 vs refl sizes
begin_as f function_block vs sizes = begin_next f false (head_of function_block) 0 vs refl sizes
begin_as f program vs sizes = begin_next f false (head_of program) 1 vs refl sizes

module _ (f : FileData) (used : UsesItsBlocks f) (ordered : IsOrdered f) (k : ℕ) (p : PouData) (there : pou_at f k ≡ Some p) where
  pub low : k < length (pous_of f)
  low = slice_get_within (pous_of f) k p there

  pub same_variables : variables_at f k ≡ variables_in_pou p
  same_variables = ap variables_in there

  pub sizes_known : AllByRecursion (HasSize f) (variables_in_pou p)
  sizes_known = subst (λ (vs : List Variable). AllByRecursion (HasSize f) vs) same_variables (have_sizes f used ordered k low)

  cells_take : (before : Option (List ℕ)) (o : Bool) → map of_cell (cells_in f before o (variables_in_pou p)) ≡ variables_places f (in_order o (variables_in_pou p))
  cells_take before o = subst (λ (vs : List Variable). map of_cell (cells_in f before o vs) ≡ variables_places f (in_order o vs)) same_variables (cells_in_take f used ordered k low before o)

  pub places_are : (pou_type : PouTypeData) → pou_places f k pou_type p ≡ head_of pou_type ++ variables_places f (in_order (is_function pou_type) (variables_in_pou p))
  places_are (function t) = ap (λ (l : List Scratch). whole_cell types.Bool ∷ l) (cells_take None true)
  places_are function_block = block_takes f used ordered k low ∙ ap (λ (vs : List Variable). variables_places f (in_order false vs)) same_variables
  places_are program = ap (λ (l : List Scratch). whole_cell types.Bool ∷ l) (cells_take (Some []) false)

  pub begins : IsNext f (pou_places f k p.pou_type p) (first_places f (sizes_of f) p.pou_type (variables_in_pou p)) (variables_in_pou p)
  begins = subst (λ (l : List Scratch). IsNext f l (first_places f (sizes_of f) p.pou_type (variables_in_pou p)) (variables_in_pou p)) (sym (places_are p.pou_type)) (begin_as f p.pou_type (variables_in_pou p) sizes_known)

  -- the variable of a name is found among those of the POU
  pub member_is : (sizes text : List ℕ) → member_at f sizes k text ≡ member_among f sizes text (first_places f sizes p.pou_type (variables_in_pou p)) (variables_in_pou p)
  member_is sizes text = ap (λ (o : Option PouData). option_and_then (member_in f sizes text) o) there

  -- the cells at the place of a name are the variable's
  pub at_name : (text : List ℕ) (m : Member) → member_at f (sizes_of f) k text ≡ Some m → IsAtName f (pou_places f k p.pou_type p) text (variables_in_pou p) m
  at_name text m is =
      find f (pou_places f k p.pou_type p) text (first_places f (sizes_of f) p.pou_type (variables_in_pou p)) (variables_in_pou p) sizes_known begins m (sym (member_is (sizes_of f) text) ∙ is)
