-- Each cell of a POU whose variables break no rule has a range of its type, and begins in it.
use Rattle.std.proofs.Common.{◌≡◌, ℕ, ℤ, pos, zero, suc, ◌==◌, Bool, true, false, if◌then◌else◌, List, [], ◌∷◌, ◌++◌, length, Option, Some, None, refl, subst, arith}
use Rattle.std.specs.Prelude.{codes}
use Rattle.std.specs.List.{AllByRecursion}
use Rattle.std.proofs.lemmas.Int.{ints}
use Rattle.std.proofs.lemmas.Bool.{false≢true}
use Rattle.plc_types.specs.declared.elementary.Elementary.TheVariants as types
use Rattle.plc_types.specs.declared.data_type.DataType.{DataType}
use Rattle.plc_types.specs.declared.data_type.DataType.TheVariants as kinds
use Rattle.plc_types.specs.declared.range.Range.{Range}
use Rattle.plc_types.specs.DataTypes.{carrier}
use Rattle.plc_types.specs.Types.{range_of, in_range}
use Rattle.plc_types.proofs.InRange.{bounds, in_range_from, covers_in}
use Rattle.source_tree.specs.Syntax.{Named, FileData}
use Rattle.program_tree.specs.Tree.{CellData}
use Rattle.program_tree.specs.Places.{of_cell, IsTypedPlace}
use Rattle.naming.specs.declared.role.Role.{Role}
use Rattle.naming.specs.declared.role.Role.TheVariants as roles
use Rattle.naming.specs.FileScope.{pous_of}
use Rattle.naming.specs.Scopes.{Variable, is_step, block_of}
use Rattle.meaning.specs.StaysIn.{covers}
use Rattle.typing.specs.declared.domain.Domain.{Domain}
use Rattle.typing.specs.Typing.{is_unknown}
use Rattle.typing.specs.Variables.{domain_of_variable, judged_type_if, judged_value, judged_by_block, judged_variable, judged_variables}
use Rattle.typing.specs.Places.{has_cell, is_stored_action, is_front, in_front, in_order, size_among, sizes_of, variables_at}
use Rattle.typing.specs.TypedPrograms.{path_behind, cell_for, fault_cell, flag_cell, active_first, cells_for, cells_of_variable, cells_of, block_cells, cells_in}
use Rattle.typed_programs.specs.Programs.{HasWholeRange, IsTypedCell}
use Rattle.typed_scopes.specs.Types.{range_of_type, IsPlaceOf}
use Rattle.typed_scopes.proofs.TypedValues.{carrier-covers}
use Rattle.typed_scopes.proofs.Wholes.{whole_and}
use Rattle.typed_cells.specs.Places.{last}
use Rattle.typed_cells.specs.Variables.{place_for}
use Rattle.typed_cells.specs.Premises.{AreWhole}
use Rattle.typed_cells.proofs.Lists.{all-filter, all-in_order}
use Rattle.typed_cells.proofs.Domains.{IsOpen, IsSoundDomain, variable_sound, initial_in}

-- a cell of a range of its type, which begins in its range
pub record IsReadyCell (c : CellData) : Type 0 where
  pub typed : IsTypedCell c
  pub starts : in_range c.initial c.range ≡ true

-- ---- a cell of a variable

whole_by : (last : ℕ → ℤ) (c : CellData) (t : DataType) → IsPlaceOf last t (of_cell c) → IsOpen t c.is_subrange → HasWholeRange c t
whole_by last c (kinds.Elementary k) place open_range = place.whole
whole_by last c (kinds.Enumeration n) place open_range = open_range
whole_by last c kinds.Unknown place open_range = absurd place.known

low_in : (s : Range) (v : ℤ) → in_range v s ≡ true → in_range s.low s ≡ true
low_in s v inside = let b = bounds v s inside in in_range_from s.low s (omega (arith, ints)) (omega (arith, ints))

high_in : (s : Range) (v : ℤ) → in_range v s ≡ true → in_range s.high s ≡ true
high_in s v inside = let b = bounds v s inside in in_range_from s.high s (omega (arith, ints)) (omega (arith, ints))

-- the ends of a range that is not empty
ends_in : (r s : Range) (v : ℤ) → covers r s ≡ true → in_range v s ≡ true → (in_range s.low r ≡ true) × (in_range s.high r ≡ true)
ends_in r s v covered inside = (covers_in r s s.low covered (low_in s v inside), covers_in r s s.high covered (high_in s v inside))

place_typed : (f : FileData) (d : Domain) → IsSoundDomain f d → is_unknown d.kind ≡ false → IsTypedPlace (place_for d)
place_typed f d sound known =
    let place = sound.place known in
    let ends = ends_in (range_of_type (last f) d.kind) d.range d.start place.within sound.start in
    let outer = carrier-covers (last f) d.kind place.known in (
      covers_in (range_of (carrier d.kind)) (range_of_type (last f) d.kind) d.range.low outer ends.0,
      covers_in (range_of (carrier d.kind)) (range_of_type (last f) d.kind) d.range.high outer ends.1,
    )

-- of a variable that breaks no rule and is no instance
whole_domain : (b : Bool) (f : FileData) (v : Variable) → (domain_of_variable f v).whole ≡ b → (judged_value f (domain_of_variable f v) v.name.at v.initial).whole ≡ true → b ≡ true
whole_domain true f v is whole = refl
whole_domain false f v is whole = absurd (let h : false ≡ true = rw is at whole in false≢true h)

pub kind_known : (f : FileData) (v : Variable) → block_of f v ≡ None → (judged_variable f v).whole ≡ true → is_unknown (domain_of_variable f v).kind ≡ false
kind_known f v none whole =
    let plain : (judged_by_block f v None).whole ≡ true = subst (λ (o : Option ℕ). (judged_by_block f v o).whole ≡ true) none whole in
    let parts = whole_and (judged_type_if f v.kind) (judged_value f (domain_of_variable f v) v.name.at v.initial) plain in
    let d : (domain_of_variable f v).whole ≡ true = whole_domain (domain_of_variable f v).whole f v refl parts.1 in
    (variable_sound f v).known d

cell_ready : (f : FileData) (inside : Bool) (before : Option (List ℕ)) (v : Variable) → block_of f v ≡ None → (judged_variable f v).whole ≡ true → IsReadyCell (cell_for f inside before v)
cell_ready f inside before v none whole =
    let known = kind_known f v none whole in
    let sound = variable_sound f v in
    let place = sound.place known in
    record {
      typed = record { place = place_typed f (domain_of_variable f v) sound known; whole = whole_by (last f) (cell_for f inside before v) (domain_of_variable f v).kind place sound.whole };
      starts = initial_in f v;
    }

-- ---- the cells of a chart, and FAULT

active_in : (r : Role) → in_range (active_first r) (range_of types.Bool) ≡ true
active_in roles.Input = refl
active_in _ = refl

flag_ready : (before : Option (List ℕ)) (n : Named) (text : List ℕ) (v : ℤ) → in_range v (range_of types.Bool) ≡ true → IsReadyCell (flag_cell before n text v)
flag_ready before n text v inside = record { typed = record { place = (refl, refl); whole = λ all. refl }; starts = inside }

pub fault_ready : IsReadyCell fault_cell
fault_ready = record { typed = record { place = (refl, refl); whole = λ all. refl }; starts = refl }

-- ---- the cells of names

AreReady : List CellData → Type 0
AreReady cs = AllByRecursion IsReadyCell cs

append_ready : (cs ds : List CellData) → AreReady cs → AreReady ds → AreReady (cs ++ ds)
unfolding AreReady
append_ready [] ds a b = b
append_ready (c ∷ cs) ds a b = (a.0, append_ready cs ds a.1 b)

else_ready : (b : Bool) (cs ds : List CellData) → AreReady cs → AreReady ds → AreReady (if b then cs else ds)
unfolding AreReady
else_ready true cs ds all others = all
else_ready false cs ds all others = others

BlocksReady : (Option (List ℕ) → ℕ → List CellData) → Type 0
BlocksReady of_block = (before : Option (List ℕ)) (b : ℕ) → AreReady (of_block before b)

cells_for_ready : (f : FileData) (inside : Bool) (before : Option (List ℕ)) (v : Variable) → block_of f v ≡ None → (judged_variable f v).whole ≡ true → AreReady (cells_for f inside before v)
unfolding AreReady
cells_for_ready f inside before v none whole =
    let active = flag_cell before v.name (codes "X") (active_first v.role) in
    let latest = flag_cell before v.name (codes "L") (pos 0) in
    let stored = flag_cell before v.name (codes "S") (pos 0) in
    else_ready (is_step v.role) (active ∷ latest ∷ []) (if is_stored_action v.role then stored ∷ [] else cell_for f inside before v ∷ [])
    (flag_ready before v.name (codes "X") (active_first v.role) (active_in v.role), (flag_ready before v.name (codes "L") (pos 0) refl, tt))
    (else_ready (is_stored_action v.role) (stored ∷ []) (cell_for f inside before v ∷ []) (flag_ready before v.name (codes "S") (pos 0) refl, tt) (cell_ready f inside before v none whole, tt))

variable_ready : (f : FileData) (of_block : Option (List ℕ) → ℕ → List CellData) (inside : Bool) (before : Option (List ℕ)) (v : Variable) (block : Option ℕ) → block_of f v ≡ block → (judged_variable f v).whole ≡ true
    → BlocksReady of_block → AreReady (cells_of_variable f of_block inside before v block)
unfolding AreReady BlocksReady
variable_ready f of_block inside before v None is whole blocks = cells_for_ready f inside before v is whole
variable_ready f of_block inside before v (Some b) is whole blocks =
    else_ready (size_among (sizes_of f) (Some b) == 0) [] (of_block (path_behind before v.name) b) tt (blocks (path_behind before v.name) b)

all_ready : (f : FileData) (of_block : Option (List ℕ) → ℕ → List CellData) (inside : Bool) (before : Option (List ℕ)) (vs : List Variable) → AllByRecursion (λ v. (judged_variable f v).whole ≡ true) vs
    → BlocksReady of_block → AreReady (cells_of f of_block inside before vs)
unfolding AreReady
all_ready f of_block inside before [] whole blocks = tt
all_ready f of_block inside before (v ∷ vs) whole blocks =
    append_ready (if has_cell v.role then cells_of_variable f of_block inside before v (block_of f v) else []) (cells_of f of_block inside before vs)
    (else_ready (has_cell v.role) (cells_of_variable f of_block inside before v (block_of f v)) [] (variable_ready f of_block inside before v (block_of f v) refl whole.0 blocks) tt)
    (all_ready f of_block inside before vs whole.1 blocks)

pub each_whole : (f : FileData) (vs : List Variable) → (judged_variables f vs).whole ≡ true → AllByRecursion (λ v. (judged_variable f v).whole ≡ true) vs
each_whole f [] whole = tt
each_whole f (v ∷ vs) whole = let two = whole_and (judged_variable f v) (judged_variables f vs) whole in (two.0, each_whole f vs two.1)

module _ (f : FileData) (whole : AreWhole f) where
  wholes : (k : ℕ) (o : Bool) → AllByRecursion (λ v. (judged_variable f v).whole ≡ true) (in_order o (variables_at f k))
  wholes k o = all-in_order (λ v. (judged_variable f v).whole ≡ true) o (variables_at f k) (each_whole f (variables_at f k) (whole k))

  blocks_ready : (depth : ℕ) → BlocksReady (block_cells f depth)
  unfolding AreReady BlocksReady
  blocks_ready zero before b = tt
  blocks_ready (suc depth) before b = all_ready f (block_cells f depth) true before (in_order false (variables_at f b)) (wholes b false) (blocks_ready depth)

  pub block_ready : (b : ℕ) → AllByRecursion IsReadyCell (block_cells f (length (pous_of f)) None b)
  unfolding AreReady BlocksReady
  block_ready b = blocks_ready (length (pous_of f)) None b

  pub cells_ready : (k : ℕ) (before : Option (List ℕ)) (o : Bool) → AllByRecursion IsReadyCell (cells_in f before o (variables_at f k))
  unfolding AreReady
  cells_ready k before o = all_ready f (block_cells f (length (pous_of f))) false before (in_order o (variables_at f k)) (wholes k o) (blocks_ready (length (pous_of f)))

  -- those of a FUNCTION's answer and its inputs
  pub fronts_ready : (k : ℕ) → AllByRecursion IsReadyCell (cells_of f (block_cells f (length (pous_of f))) false None (in_front true (variables_at f k)))
  unfolding AreReady
  fronts_ready k =
      all_ready f (block_cells f (length (pous_of f))) false None (in_front true (variables_at f k))
      (all-filter (λ v. (judged_variable f v).whole ≡ true) (λ v. is_front true v.role) (variables_at f k) (each_whole f (variables_at f k) (whole k))) (blocks_ready (length (pous_of f)))
