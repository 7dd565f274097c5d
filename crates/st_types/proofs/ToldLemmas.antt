-- What is told of the variables of a POU has the cells, charts and beginnings of these.
use Rattle.std.proofs.Common.{◌≡◌, ℕ, ◌+◌, ◌-◌, zero, suc, Bool, true, false, not, if◌then◌else◌, List, [], ◌∷◌, ◌++◌, append_assoc, Option, Some, None, map, refl, sym, ap, ◌∙◌, zero-add, add-zero, arith}
use Rattle.std.specs.List.{AllByRecursion}
use Rattle.std.specs.Prelude.{filter, ◌&&◌, Result, Ok, Err, OnOk}
use Rattle.std.proofs.lemmas.List.Sums.{sum_by-append}
use Rattle.naming.proofs.CountLemmas.{count-cons}
use Rattle.program_tree.specs.Tree.{CellData, Statement, number, assign}
use Rattle.program_tree.specs.declared.typed.ChartCells.{ChartCells}
use Rattle.source_tree.specs.Syntax.{FileData}
use Rattle.naming.specs.declared.role.Role.{Role}
use Rattle.naming.specs.declared.role.Role.TheVariants as roles
use Rattle.naming.specs.Scopes.{Variable, is_local, is_step, block_of}
use Rattle.typing.specs.declared.next.Next.{Next}
use Rattle.typing.specs.Places.{has_cell, is_stored_action, is_front, in_front, behind_front, in_order, variables_at, sizes_of, cells_taken, first_place, places_behind}
use Rattle.typing.specs.TypedPrograms.{cells_of_variable, cells_of, block_cells, is_without_cell, names_without_cell, is_temporary}
use Rattle.typing.specs.ChartPlaces.{steps_among, charts_of_variable, charts_of, block_charts}
use Rattle.typing.specs.Beginnings.{beginning, beginnings}
use Rattle.decl_types.specs.Told.{ToldData, told_of, told_in}
use Rattle.pou_cells.specs.Placing.{capped}
use Rattle.pou_cells.specs.ToldPlaces.{told_first_place, told_places_behind}
use Rattle.pou_cells.proofs.SizeLemmas.{IsExact, behind_exact}
use Rattle.st_types.specs.ToldCells.{told_cells_of_variable, told_cells_of, is_told_without_cell, told_without_cell}
use Rattle.st_types.specs.ToldCharts.{told_steps, told_charts_of_variable, told_charts_of}
use Rattle.st_types.specs.ToldBeginnings.{told_beginnings}

-- what follows from what holds where all went well
pub on_done : {A E : Type 0} (r : Result A E) (P Q : Type 0) → (P → Q) → OnOk r P → OnOk r Q
on_done (Ok a) P Q leads is = leads is
on_done (Err e) P Q leads is = is

-- ---- cells

module _ (f : FileData) (of_block : Option (List ℕ) → ℕ → List CellData) (before : Option (List ℕ)) where
  cells_of_one : (inside : Bool) (v : Variable) (o : Option ℕ) → told_cells_of_variable (sizes_of f) of_block inside before (told_of f v) o ≡ cells_of_variable f of_block inside before v o
  cells_of_one inside v None = refl
  cells_of_one inside v (Some b) = refl

  cells_if : (inside : Bool) (v : Variable) (b : Bool)
      → (if b then told_cells_of_variable (sizes_of f) of_block inside before (told_of f v) (block_of f v) else []) ≡ (if b then cells_of_variable f of_block inside before v (block_of f v) else [])
  cells_if inside v true = cells_of_one inside v (block_of f v)
  cells_if inside v false = refl

  -- one name more, which is chosen or not
  one_more : (inside : Bool) (v : Variable) (b : Bool) (us : List Variable) (rest : List CellData) → rest ≡ cells_of f of_block inside before us
      → (if b && has_cell v.role then told_cells_of_variable (sizes_of f) of_block inside before (told_of f v) (block_of f v) else []) ++ rest
      ≡ cells_of f of_block inside before (if b then v ∷ us else us)
  one_more inside v true us rest is =
      ap (λ (cs : List CellData). cs ++ rest) (cells_if inside v (has_cell v.role))
      ∙ ap (λ (cs : List CellData). (if has_cell v.role then cells_of_variable f of_block inside before v (block_of f v) else []) ++ cs) is
  one_more inside v false us rest is = is

  -- of those in front, and of the others
  pub front_cells-told : (of_function inside : Bool) (vs : List Variable)
      → told_cells_of (sizes_of f) of_block (record { of_function = of_function; in_front = true; inside = inside }) before (told_in f vs) ≡ cells_of f of_block inside before (in_front of_function vs)
  front_cells-told of_function inside [] = refl
  front_cells-told of_function inside (v ∷ vs) =
      one_more inside v (is_front of_function v.role) (in_front of_function vs) (told_cells_of (sizes_of f) of_block (record { of_function = of_function; in_front = true; inside = inside }) before (told_in f vs))
      (front_cells-told of_function inside vs)

  pub behind_cells-told : (of_function inside : Bool) (vs : List Variable)
      → told_cells_of (sizes_of f) of_block (record { of_function = of_function; in_front = false; inside = inside }) before (told_in f vs) ≡ cells_of f of_block inside before (behind_front of_function vs)
  behind_cells-told of_function inside [] = refl
  behind_cells-told of_function inside (v ∷ vs) =
      one_more inside v (not (is_front of_function v.role)) (behind_front of_function vs) (told_cells_of (sizes_of f) of_block (record { of_function = of_function; in_front = false; inside = inside }) before (told_in f vs))
      (behind_cells-told of_function inside vs)

  cells_of-append : (inside : Bool) (vs ws : List Variable) → cells_of f of_block inside before vs ++ cells_of f of_block inside before ws ≡ cells_of f of_block inside before (vs ++ ws)
  cells_of-append inside [] ws = refl
  cells_of-append inside (v ∷ vs) ws =
      let own : List CellData = if has_cell v.role then cells_of_variable f of_block inside before v (block_of f v) else [] in
      append_assoc own (cells_of f of_block inside before vs) (cells_of f of_block inside before ws) ∙ ap (λ (cs : List CellData). own ++ cs) (cells_of-append inside vs ws)

  -- the cells of all names of a POU, which are written in two walks
  pub cells_in_order : (of_function inside : Bool) (vs : List Variable) (ts : List ToldData) (old more new : List CellData) → ts ≡ told_in f vs
      → more ≡ old ++ told_cells_of (sizes_of f) of_block (record { of_function = of_function; in_front = true; inside = inside }) before ts
      → new ≡ more ++ told_cells_of (sizes_of f) of_block (record { of_function = of_function; in_front = false; inside = inside }) before ts
      → new ≡ old ++ cells_of f of_block inside before (in_order of_function vs)
  cells_in_order of_function inside vs ts old more new told first second =
      let front = cells_of f of_block inside before (in_front of_function vs) in
      let rest = cells_of f of_block inside before (behind_front of_function vs) in
      let of_front : told_cells_of (sizes_of f) of_block (record { of_function = of_function; in_front = true; inside = inside }) before ts ≡ front =
      ap (told_cells_of (sizes_of f) of_block (record { of_function = of_function; in_front = true; inside = inside }) before) told ∙ front_cells-told of_function inside vs in
      let of_rest : told_cells_of (sizes_of f) of_block (record { of_function = of_function; in_front = false; inside = inside }) before ts ≡ rest =
      ap (told_cells_of (sizes_of f) of_block (record { of_function = of_function; in_front = false; inside = inside }) before) told ∙ behind_cells-told of_function inside vs in
      second ∙ ap (λ (cs : List CellData). more ++ cs) of_rest ∙ ap (λ (cs : List CellData). cs ++ rest) (first ∙ ap (λ (cs : List CellData). old ++ cs) of_front)
      ∙ append_assoc old front rest ∙ ap (λ (cs : List CellData). old ++ cs) (cells_of-append inside (in_front of_function vs) (behind_front of_function vs))

-- the cells of an instance, one level down
pub block_cells-below : (f : FileData) (depth : ℕ) (before : Option (List ℕ)) (b : ℕ) → (depth ≡ 0 → ⊥) → cells_of f (block_cells f (depth - 1)) true before (in_order false (variables_at f b)) ≡ block_cells f depth before b
block_cells-below f zero before b some = absurd (some refl)
block_cells-below f (suc d) before b some =
    let less : suc d - 1 ≡ d = omega arith in
    ap (λ (n : ℕ). cells_of f (block_cells f n) true before (in_order false (variables_at f b))) less

-- ---- names without cells

name_more : (f : FileData) (v : Variable) (b : Bool) (us : List ToldData) (vs : List Variable) → map (λ t. t.name.text) us ≡ map (λ w. w.name.text) vs
    → map (λ t. t.name.text) (if b then told_of f v ∷ us else us) ≡ map (λ w. w.name.text) (if b then v ∷ vs else vs)
name_more f v true us vs is = ap (λ (l : List (List ℕ)). v.name.text ∷ l) is
name_more f v false us vs is = is

pub without_cell-told : (f : FileData) (vs : List Variable) → told_without_cell (told_in f vs) ≡ names_without_cell f vs
without_cell-told f [] = refl
without_cell-told f (v ∷ vs) = name_more f v (is_without_cell f v) (filter is_told_without_cell (told_in f vs)) (filter (is_without_cell f) vs) (without_cell-told f vs)

-- ---- charts

-- a stored action is no step and no instance
stored_no_step : (r : Role) → is_stored_action r ≡ true → is_step r ≡ false
stored_no_step roles.StoredAction is = refl
stored_no_step _ is = absurd (let e : ⊥ = cc in e)

stored_not_local : (r : Role) → is_stored_action r ≡ true → is_local r ≡ false
stored_not_local roles.StoredAction is = refl
stored_not_local _ is = absurd (let e : ⊥ = cc in e)

stored_no_block : (f : FileData) (v : Variable) → is_stored_action v.role ≡ true → block_of f v ≡ None
stored_no_block f v is = rw (stored_not_local v.role is) refl

-- of names, steps are counted in any order
steps_more : (f : FileData) (v : Variable) (vs : List Variable) (b : Bool) → is_stored_action v.role ≡ b → told_steps (told_in f vs) ≡ steps_among (in_front false vs)
    → told_steps (told_in f (v ∷ vs)) ≡ steps_among (if not b then v ∷ in_front false vs else in_front false vs)
steps_more f v vs true stored rest =
    count-cons (λ t. is_step t.role) (told_of f v) (told_in f vs)
    ∙ ap (λ (b : Bool). (if b then 1 else 0) + told_steps (told_in f vs)) (stored_no_step v.role stored) ∙ zero-add (told_steps (told_in f vs)) ∙ rest
steps_more f v vs false stored rest =
    count-cons (λ t. is_step t.role) (told_of f v) (told_in f vs) ∙ ap (λ (n : ℕ). (if is_step v.role then 1 else 0) + n) rest
    ∙ sym (count-cons (λ w. is_step w.role) v (in_front false vs))

steps_told : (f : FileData) (vs : List Variable) → told_steps (told_in f vs) ≡ steps_among (in_front false vs)
steps_told f [] = refl
steps_told f (v ∷ vs) = steps_more f v vs (is_stored_action v.role) refl (steps_told f vs)

no_steps_more : (u : Variable) (us : List Variable) (b : Bool) → is_stored_action u.role ≡ b → steps_among us ≡ 0 → steps_among (if not (not b) then u ∷ us else us) ≡ 0
no_steps_more u us true stored rest =
    count-cons (λ w. is_step w.role) u us ∙ ap (λ (b : Bool). (if b then 1 else 0) + steps_among us) (stored_no_step u.role stored) ∙ ap (λ (n : ℕ). 0 + n) rest
no_steps_more u us false stored rest = rest

no_steps_behind : (us : List Variable) → steps_among (behind_front false us) ≡ 0
no_steps_behind [] = refl
no_steps_behind (u ∷ us) = no_steps_more u (behind_front false us) (is_stored_action u.role) refl (no_steps_behind us)

steps_in_order : (vs us : List Variable) → steps_among (vs ++ behind_front false us) ≡ steps_among vs
steps_in_order vs us =
    sum_by-append (λ (w : Variable). if is_step w.role then 1 else 0) vs (behind_front false us) ∙ ap (λ (n : ℕ). steps_among vs + n) (no_steps_behind us) ∙ add-zero (steps_among vs)

module _ (f : FileData) (of_block : ℕ → ℕ → List ChartCells) where
  charts_of_one : (place : ℕ) (o : Option ℕ) → told_charts_of_variable (sizes_of f) of_block place o ≡ charts_of_variable f of_block place o
  charts_of_one place None = refl
  charts_of_one place (Some b) = refl

  -- behind all others stand stored actions alone, which have no charts
  behind_more : (place : ℕ) (u : Variable) (us : List Variable) (b : Bool) → is_stored_action u.role ≡ b → ((k : ℕ) → charts_of f of_block k us ≡ [])
      → charts_of f of_block place (if not (not b) then u ∷ us else us) ≡ []
  behind_more place u us true stored rest =
      let behind = charts_of f of_block (place + cells_taken f (sizes_of f) u) us in
      let own : List ChartCells = record { first = place; steps = steps_among (u ∷ us) } ∷ [] in
      ap (λ (s : Bool). if s then own else charts_of_variable f of_block place (block_of f u) ++ behind) (stored_no_step u.role stored)
      ∙ ap (λ (o : Option ℕ). charts_of_variable f of_block place o ++ behind) (stored_no_block f u stored)
      ∙ rest (place + cells_taken f (sizes_of f) u)
  behind_more place u us false stored rest = rest place

  behind_charts : (place : ℕ) (us : List Variable) → charts_of f of_block place (behind_front false us) ≡ []
  behind_charts place [] = refl
  behind_charts place (u ∷ us) = behind_more place u (behind_front false us) (is_stored_action u.role) refl (λ k. behind_charts k us)

  charts_more : (us : List Variable) (place : ℕ) (v : Variable) (vs : List Variable) (b : Bool) → is_stored_action v.role ≡ b
      → ((k : ℕ) → told_charts_of (sizes_of f) of_block k (told_in f vs) ≡ charts_of f of_block k (in_front false vs ++ behind_front false us))
      → (if b then told_charts_of (sizes_of f) of_block place (told_in f vs)
      else (if is_step v.role then record { first = place; steps = told_steps (told_in f (v ∷ vs)) } ∷ []
      else told_charts_of_variable (sizes_of f) of_block place (block_of f v) ++ told_charts_of (sizes_of f) of_block (place + cells_taken f (sizes_of f) v) (told_in f vs)))
      ≡ charts_of f of_block place ((if not b then v ∷ in_front false vs else in_front false vs) ++ behind_front false us)
  charts_more us place v vs true stored rest = rest place
  charts_more us place v vs false stored rest =
      let next = place + cells_taken f (sizes_of f) v in
      let told = told_charts_of_variable (sizes_of f) of_block place (block_of f v) ++ told_charts_of (sizes_of f) of_block next (told_in f vs) in
      let counted : told_steps (told_in f (v ∷ vs)) ≡ steps_among (v ∷ in_front false vs ++ behind_front false us) =
      steps_more f v vs false stored (steps_told f vs) ∙ sym (steps_in_order (v ∷ in_front false vs) us) in
      let same : told ≡ charts_of_variable f of_block place (block_of f v) ++ charts_of f of_block next (in_front false vs ++ behind_front false us) =
      ap (λ (l : List ChartCells). l ++ told_charts_of (sizes_of f) of_block next (told_in f vs)) (charts_of_one place (block_of f v))
      ∙ ap (λ (l : List ChartCells). charts_of_variable f of_block place (block_of f v) ++ l) (rest next) in
      ap (λ (n : ℕ). if is_step v.role then record { first = place; steps = n } ∷ [] else told) counted
      ∙ ap (λ (l : List ChartCells). if is_step v.role then record { first = place; steps = steps_among (v ∷ in_front false vs ++ behind_front false us) } ∷ [] else l) same

  charts-told : (us : List Variable) (place : ℕ) (vs : List Variable) → told_charts_of (sizes_of f) of_block place (told_in f vs) ≡ charts_of f of_block place (in_front false vs ++ behind_front false us)
  charts-told us place [] = sym (behind_charts place us)
  charts-told us place (v ∷ vs) = charts_more us place v vs (is_stored_action v.role) refl (λ k. charts-told us k vs)

  -- the charts of the names of a POU, in the order of their cells
  pub charts_in_order : (place : ℕ) (vs : List Variable) (ts : List ToldData) → ts ≡ told_in f vs → told_charts_of (sizes_of f) of_block place ts ≡ charts_of f of_block place (in_order false vs)
  charts_in_order place vs ts is = ap (told_charts_of (sizes_of f) of_block place) is ∙ charts-told vs place vs

-- the charts of an instance, one level down
pub block_charts-below : (f : FileData) (depth place b : ℕ) → (depth ≡ 0 → ⊥) → charts_of f (block_charts f (depth - 1)) place (in_order false (variables_at f b)) ≡ block_charts f depth place b
block_charts-below f zero place b some = absurd (some refl)
block_charts-below f (suc d) place b some =
    let less : suc d - 1 ≡ d = omega arith in
    ap (λ (n : ℕ). charts_of f (block_charts f n) place (in_order false (variables_at f b))) less

-- ---- what a body begins with

beginning_if : (b : Bool) (s : Statement) (us vs : List Statement) → us ≡ vs → (if b then s ∷ us else us) ≡ (if b then s ∷ vs else vs)
beginning_if true s us vs is = ap (λ (l : List Statement). s ∷ l) is
beginning_if false s us vs is = is

pub beginnings-told : (f : FileData) (next : Next) (vs : List Variable) → told_beginnings (sizes_of f) next (told_in f vs) ≡ beginnings f next vs
beginnings-told f next [] = refl
beginnings-told f next (v ∷ vs) =
    let behind = places_behind f (sizes_of f) next v in
    beginning_if (is_temporary v.role) (beginning f (first_place next v) v) (told_beginnings (sizes_of f) behind (told_in f vs)) (beginnings f behind vs) (beginnings-told f behind vs)

-- by capped sizes, where all cells stand for themselves
pub beginnings-exact : (s : List ℕ) (next : Next) (ts : List ToldData) → AllByRecursion (IsExact s) ts → told_beginnings (map capped s) next ts ≡ told_beginnings s next ts
beginnings-exact s next [] all = refl
beginnings-exact s next (t ∷ ts) all =
    beginning_if (is_temporary t.role) (assign (told_first_place next t) (number t.initial)) (told_beginnings (map capped s) (told_places_behind (map capped s) next t) ts)
    (told_beginnings s (told_places_behind s next t) ts)
    (ap (λ (n : Next). told_beginnings (map capped s) n ts) (behind_exact s next t all.0) ∙ beginnings-exact s (told_places_behind s next t) ts all.1)
