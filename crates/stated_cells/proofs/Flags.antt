-- The steps of each chart of a PROGRAM and of its instances have flags.
use Rattle.std.proofs.Common.{◌≡◌, ℕ, zero, suc, ◌+◌, ◌<◌, ◌==◌, Bool, true, false, if◌then◌else◌, List, [], ◌∷◌, ◌++◌, length, Option, Some, None, refl, sym, ap, ◌∙◌, arith, subst}
use Rattle.std.specs.Prelude.{cond}
use Rattle.std.specs.List.{AllByRecursion}
use Rattle.std.proofs.lemmas.Bool.{false≢true}
use Rattle.std.proofs.lemmas.List.{append-nil}
use Rattle.std.proofs.lemmas.List.Sums.{sum_by-cons}
use Rattle.plc_types.specs.declared.elementary.Elementary.TheVariants as types
use Rattle.program_tree.specs.declared.typed.ChartCells.{ChartCells}
use Rattle.source_tree.specs.Syntax.{program, PouData, FileData}
use Rattle.program_tree.specs.declared.scratch.Scratch.{Scratch}
use Rattle.program_tree.specs.Places.{whole_cell}
use Rattle.naming.specs.FileScope.{pous_of, pou_at}
use Rattle.naming.specs.Scopes.{Variable, variables_in_pou, is_step, block_of}
use Rattle.typing.specs.Places.{has_cell, in_order, size_among, sizes_of, cells_taken, variables_in, variables_at}
use Rattle.typing.specs.ChartPlaces.{steps_among, charts_of_variable, charts_of, block_charts, charts_in}
use Rattle.typed_files.specs.typed_cells.Places.{block_places, pou_places}
use Rattle.typed_files.specs.typed_cells.Variables.{variable_places, variables_places}
use Rattle.typed_files.specs.typed_cells.Premises.{IsUsedBlock, UsesItsBlocks, IsOrdered}
use Rattle.typed_files.proofs.typed_cells.Lists.{all-in_order}
use Rattle.typed_files.proofs.typed_cells.Occurrences.{Occurs, occurs_first, occurs_left, occurs_right, occurs_within, occurs_same, occurs_at}
use Rattle.typed_files.proofs.typed_cells.Roles.{step_cell, step_not_local, local_cell}
use Rattle.typed_files.proofs.typed_cells.BlockPlaces.{block_takes}
use Rattle.typed_files.proofs.typed_cells.Lengths.{instance_local, used_below, has_size}
use Rattle.typed_files.proofs.typed_cells.Owners.{low, same_variables, places_are}
use Rattle.stated_cells.specs.StatedCells.{AreFlags, HasFlags}
use Rattle.stated_cells.proofs.ChartNames.{AreStepsFirst, IsChartLast, chart_last}

abbrev flag : Scratch
flag = whole_cell types.Bool

-- ---- what names take

step_places : (f : FileData) (v : Variable) → is_step v.role ≡ true → variable_places f v ≡ flag ∷ flag ∷ []
step_places f v is =
    let has = step_cell v.role is in
    let other = step_not_local v.role is in
    let none : block_of f v ≡ None = rw other refl in
    rw (has, none, is) refl

no_places : (f : FileData) (v : Variable) → has_cell v.role ≡ false → variable_places f v ≡ []
no_places f v none = rw none refl

abbrev counted : Variable → ℕ
counted v = cond (is_step v.role) 1 0

one_step : (v : Variable) (vs : List Variable) → is_step v.role ≡ true → steps_among (v ∷ vs) ≡ suc (steps_among vs)
one_step v vs is =
    let all = sum_by-cons counted v vs in
    let one : counted v ≡ 1 = rw is refl in
    omega (arith, all, one)

no_step : (v : Variable) (vs : List Variable) → is_step v.role ≡ false → steps_among (v ∷ vs) ≡ steps_among vs
no_step v vs plain =
    let all = sum_by-cons counted v vs in
    let none : counted v ≡ 0 = rw plain refl in
    omega (arith, all, none)

append_all : (owner : List Scratch) (cs ds : List ChartCells) → AllByRecursion (HasFlags owner) cs → AllByRecursion (HasFlags owner) ds → AllByRecursion (HasFlags owner) (cs ++ ds)
append_all owner [] ds a b = b
append_all owner (c ∷ cs) ds a b = (a.0, append_all owner cs ds a.1 b)

either_all : (owner : List Scratch) (b : Bool) (cs ds : List ChartCells) → (b ≡ true → AllByRecursion (HasFlags owner) cs) → (b ≡ false → AllByRecursion (HasFlags owner) ds) → AllByRecursion (HasFlags owner) (if b then cs else ds)
either_all owner true cs ds all others = all refl
either_all owner false cs ds all others = others refl

module _ (f : FileData) (owner : List Scratch) where
  -- ---- the flags of steps

  as_many : (place n m : ℕ) → n ≡ m → AreFlags owner place m → AreFlags owner place n
  as_many place n m same h = subst (λ (k : ℕ). AreFlags owner place k) (sym same) h

  two_flags : (rest : List Scratch) (place steps : ℕ) → Occurs (flag ∷ flag ∷ rest) owner place → AreFlags owner (place + 2) steps → AreFlags owner place (suc steps)
  two_flags rest place steps at h =
      let bound = occurs_within (flag ∷ flag ∷ rest) owner place at in (omega (arith, bound), occurs_first flag (flag ∷ rest) owner place at, h)

  behind : (v : Variable) (vs : List Variable) (xs : List Scratch) (place n : ℕ) → variable_places f v ≡ xs → length xs ≡ n → Occurs (variables_places f (v ∷ vs)) owner place → Occurs (variables_places f vs) owner (place + n)
  behind v vs xs place n is long at =
      occurs_at (variables_places f vs) owner (place + length (variable_places f v)) (place + n) (ap (λ (m : ℕ). place + m) (ap (λ (l : List Scratch). length l) is ∙ long))
      (occurs_right (variable_places f v) (variables_places f vs) owner place at)

  flags_by : (v : Variable) (vs : List Variable) → AreStepsFirst (v ∷ vs) → (place : ℕ) → Occurs (variables_places f (v ∷ vs)) owner place
      → ((next : ℕ) → Occurs (variables_places f vs) owner next → AreFlags owner next (steps_among vs)) → (step has : Bool) → is_step v.role ≡ step → has_cell v.role ≡ has → AreFlags owner place (steps_among (v ∷ vs))
  flags_by v vs first place at rest true has is told =
      let two = step_places f v is in
      let here : Occurs (flag ∷ flag ∷ variables_places f vs) owner place = occurs_same (variables_places f (v ∷ vs)) _ owner place (ap (λ (l : List Scratch). l ++ variables_places f vs) two) at in
      as_many place (steps_among (v ∷ vs)) (suc (steps_among vs)) (one_step v vs is)
      (two_flags (variables_places f vs) place (steps_among vs) here (rest (place + 2) (behind v vs (flag ∷ flag ∷ []) place 2 two refl at)))
  flags_by v vs first place at rest false true is told = as_many place (steps_among (v ∷ vs)) 0 (no_step v vs is ∙ first.0 is told) tt
  flags_by v vs first place at rest false false is told =
      as_many place (steps_among (v ∷ vs)) (steps_among vs) (no_step v vs is)
      (rest place (occurs_same (variables_places f (v ∷ vs)) (variables_places f vs) owner place (ap (λ (l : List Scratch). l ++ variables_places f vs) (no_places f v told)) at))

  flags_of : (vs : List Variable) → AreStepsFirst vs → (place : ℕ) → Occurs (variables_places f vs) owner place → AreFlags owner place (steps_among vs)
  flags_of [] first place at = tt
  flags_of (v ∷ vs) first place at = flags_by v vs first place at (λ next behind. flags_of vs first.1 next behind) (is_step v.role) (has_cell v.role) refl refl

  -- ---- the charts of a POU and of its instances

  module _ (used : UsesItsBlocks f) (ordered : IsOrdered f) where
    abbrev OfBlocks : (ℕ → ℕ → List ChartCells) → Type 0
    OfBlocks of_block = (place b : ℕ) → b < length (pous_of f) → Occurs (block_places f b) owner place → AllByRecursion (HasFlags owner) (of_block place b)

    instance_places : (v : Variable) (b : ℕ) → block_of f v ≡ Some b → (size_among (sizes_of f) (Some b) == 0) ≡ false → variable_places f v ≡ block_places f b
    instance_places v b block some = let has = local_cell v.role (instance_local f v b block) in rw (has, block, some) refl

    variable_charts : (of_block : ℕ → ℕ → List ChartCells) → OfBlocks of_block → (k : ℕ) → k < length (pous_of f) → (v : Variable) → IsUsedBlock f k v → (vs : List Variable) (place : ℕ) → Occurs (variables_places f (v ∷ vs)) owner place
        → (o : Option ℕ) → block_of f v ≡ o → AllByRecursion (HasFlags owner) (charts_of_variable f of_block place o)
    variable_charts of_block blocks k there v uses vs place at None is = tt
    variable_charts of_block blocks k there v uses vs place at (Some b) is = by (size_among (sizes_of f) (Some b) == 0) refl
      where
        by : (none : Bool) → (size_among (sizes_of f) (Some b) == 0) ≡ none → AllByRecursion (HasFlags owner) (if none then [] else of_block place b)
        by true e = tt
        by false e =
            blocks place b (used_below f used ordered k b there (uses b is)).1
            (occurs_same (variable_places f v) (block_places f b) owner place (instance_places v b is e) (occurs_left (variable_places f v) (variables_places f vs) owner place at))

    names_charts : (of_block : ℕ → ℕ → List ChartCells) → OfBlocks of_block → (k : ℕ) → k < length (pous_of f) → (vs : List Variable) → AllByRecursion (IsUsedBlock f k) vs → IsChartLast vs → (place : ℕ)
        → Occurs (variables_places f vs) owner place → AllByRecursion (HasFlags owner) (charts_of f of_block place vs)
    names_charts of_block blocks k there [] uses last place at = tt
    names_charts of_block blocks k there (v ∷ vs) uses last place at =
        let next = place + cells_taken f (sizes_of f) v in
        let behind_it = behind v vs (variable_places f v) place (cells_taken f (sizes_of f) v) refl (has_size f used ordered k there v uses.0) at in
        either_all owner (is_step v.role) (record { first = place; steps = steps_among (v ∷ vs) } ∷ []) (charts_of_variable f of_block place (block_of f v) ++ charts_of f of_block next vs)
        (λ is. (flags_of (v ∷ vs) ((λ plain has. absurd (false≢true (sym plain ∙ is))), last.0 is) place at, tt))
        (λ plain. append_all owner (charts_of_variable f of_block place (block_of f v)) (charts_of f of_block next vs) (variable_charts of_block blocks k there v uses.0 vs place at (block_of f v) refl)
        (names_charts of_block blocks k there vs uses.1 last.1 next behind_it))

    last_at : (b : ℕ) → IsChartLast (in_order false (variables_at f b))
    last_at b = by (pou_at f b) refl
      where
        by : (o : Option PouData) → pou_at f b ≡ o → IsChartLast (in_order false (variables_in o))
        by None e = tt
        by (Some p) e = chart_last p

    block_flags : (depth : ℕ) → OfBlocks (block_charts f depth)
    block_flags zero place b there at = tt
    block_flags (suc depth) place b there at =
        names_charts (block_charts f depth) (block_flags depth) b there (in_order false (variables_at f b)) (all-in_order (IsUsedBlock f b) false (variables_at f b) (used b)) (last_at b) place
        (occurs_same (block_places f b) (variables_places f (in_order false (variables_at f b))) owner place (block_takes f used ordered b there) at)

-- a PROGRAM's
pub program_charts : (f : FileData) → UsesItsBlocks f → IsOrdered f → (k : ℕ) (p : PouData) → pou_at f k ≡ Some p → AllByRecursion (HasFlags (pou_places f k program p)) (charts_in f (variables_in_pou p))
program_charts f used ordered k p there =
    let owner = pou_places f k program p in
    let vs = variables_in_pou p in
    let cells = variables_places f (in_order false vs) in
    let at : Occurs cells owner 1 = record { before = flag ∷ []; behind = []; is = places_are f used ordered k p there program ∙ ap (λ (l : List Scratch). flag ∷ l) (sym (append-nil cells)); long = refl } in
    let uses = subst (λ (l : List Variable). AllByRecursion (IsUsedBlock f k) l) (same_variables f used ordered k p there) (used k) in
    names_charts f owner used ordered (block_charts f (length (pous_of f))) (block_flags f owner used ordered (length (pous_of f))) k (low f used ordered k p there) (in_order false vs)
    (all-in_order (IsUsedBlock f k) false vs uses) (chart_last p) 1 at
