-- Loading and scans keep every value in its cell's range.
use Rattle.std.proofs.Common.{◌≡◌, ℕ, zero, suc, Bool, true, false, List, [], ◌∷◌, ℤ, pos, ◌+ℤ◌, ◌≤ℤ◌, refl, ap, subst, sym, length, arith}
use Rattle.std.specs.Prelude.{◌+◌, ◌==◌, Option, None, Some, slice_set, slice_index_or, if◌then◌else◌, All}
use Rattle.std.proofs.lemmas.Int.{ints}
use Rattle.std.proofs.lemmas.Bool.{and_parts}
use Rattle.plc_types.specs.declared.range.Range.{Range}
use Rattle.program_tree.specs.declared.typed.StepCells.{StepCells}
use Rattle.program_tree.specs.declared.typed.Association.{Association}
use Rattle.plc_types.specs.Types.{in_range}
use Rattle.plc_types.proofs.InRange.{bounds}
use Rattle.program_tree.specs.Tree.{Statement, assign, call_block, choice, cases, repeat, chart, exit, return, own_body, Statements, no_statements, statement, Choices, no_choices, choose, Entries, no_entries, entry, Actions, no_actions, action, CellData, CalledData, block, function, ProgramData}
use Rattle.scan_model.specs.declared.relation.InputLine.{InputLine}
use Rattle.scan_model.specs.declared.relation.InputLine.TheVariants.{Both, Old, New}
use Rattle.meaning.specs.Values.{State, Callees, value_of, faults, is_truth}
use Rattle.meaning.specs.Charts.{Marking, runs}
use Rattle.meaning.specs.Effects.{Effect, on, exited, returned, state_of, followed_by, behind_turn, behind_body, range_at, with_fault, stored, is_labelled, effect_of_turns, latched, all_latched, marked, effect_of, effect_of_all, effect_of_choices, effect_of_entries, effect_of_actions}
use Rattle.meaning.specs.Calls.{run_of, nothing, callees_of}
use Rattle.scan_model.specs.Scans.{ranges_of, callees_in, scanned}
use Rattle.scan_model.specs.InRange.{Row, IsInRange, BeginsWithFault, IsFitToRun, fits_places, put_at}
use Rattle.scan_model.specs.Pairs.{RelationData, BelongsTo, is_allowed, after_row, Pair, IsPairInRange, IsCellOf, NamesCells, fits_lines, range_of_line, loaded_one, loaded}

pub IsInRange-length : (rs : List Range) (s : State) → IsInRange rs s → length rs ≡ length s
IsInRange-length [] [] f = refl
IsInRange-length [] (x ∷ s) f = absurd f
IsInRange-length (r ∷ rs) [] f = absurd f
IsInRange-length (r ∷ rs) (x ∷ s) f = ap suc (IsInRange-length rs s f.2)

pub IsInRange-set : (rs : List Range) (s : State) (c : ℕ) (v : ℤ) → IsInRange rs s → in_range v (range_at rs c) ≡ true → IsInRange rs (slice_set s c v)
IsInRange-set [] [] c v f h = tt
IsInRange-set [] (x ∷ s) c v f h = absurd f
IsInRange-set (r ∷ rs) [] c v f h = absurd f
IsInRange-set (r ∷ rs) (x ∷ s) zero v f h = let w = bounds v r h in (w.0, w.1, f.2)
IsInRange-set (r ∷ rs) (x ∷ s) (suc c) v f h = (f.0, f.1, IsInRange-set rs s c v f.2 h)

-- one of two states, where each is in range under its test
pub either : (rs : List Range) (b : Bool) (x y : State) → (b ≡ true → IsInRange rs x) → (b ≡ false → IsInRange rs y) → IsInRange rs (if b then x else y)
either rs true x y p q = p refl
either rs false x y p q = q refl

-- the same of the states that one of two effects leaves
pub either_leaves : (rs : List Range) (b : Bool) (x y : Effect) → (b ≡ true → IsInRange rs (state_of x)) → (b ≡ false → IsInRange rs (state_of y)) → IsInRange rs (state_of (if b then x else y))
either_leaves rs true x y p q = p refl
either_leaves rs false x y p q = q refl

-- what runs behind a statement, a turn or a body of its own keeps what they leave in range, or does not run
kept_by_next : (rs : List Range) (e : Effect) (next : State → Effect) → IsInRange rs (state_of e) → ((s : State) → IsInRange rs s → IsInRange rs (state_of (next s))) → IsInRange rs (state_of (followed_by e next))
kept_by_next rs (on s) next f keeps = keeps s f
kept_by_next rs (exited s) next f keeps = f
kept_by_next rs (returned s) next f keeps = f

kept_behind_turn : (rs : List Range) (e : Effect) (next : State → Effect) → IsInRange rs (state_of e) → ((s : State) → IsInRange rs s → IsInRange rs (state_of (next s))) → IsInRange rs (state_of (behind_turn e next))
kept_behind_turn rs (on s) next f keeps = keeps s f
kept_behind_turn rs (exited s) next f keeps = f
kept_behind_turn rs (returned s) next f keeps = f

kept_behind_body : (rs : List Range) (e : Effect) → IsInRange rs (state_of e) → IsInRange rs (state_of (behind_body e))
kept_behind_body rs (on s) f = f
kept_behind_body rs (exited s) f = f
kept_behind_body rs (returned s) f = f

-- the first range is that of a BOOL
pub HoldsFault : List Range → Type 0
HoldsFault [] = ⊥
HoldsFault (r ∷ rs) = (r.low ≡ pos 0) × (r.high ≡ pos 1)

pub holds_fault : (cells : List CellData) → BeginsWithFault cells → HoldsFault (ranges_of cells)
unfolding HoldsFault
holds_fault [] begins = absurd begins
holds_fault (c ∷ cells) begins = (ap (λ (r : Range). r.low) begins.2, ap (λ (r : Range). r.high) begins.2)

with_first : (rs : List Range) → HoldsFault rs → (v : ℤ) → pos 0 ≤ℤ v → v ≤ℤ pos 1 → (s : State) → IsInRange rs s → IsInRange rs (slice_set s 0 v)
unfolding HoldsFault
with_first [] first v p q s f = absurd first
with_first (r ∷ rs) first v p q [] f = absurd f
with_first (r ∷ rs) first v p q (x ∷ s) f = (omega (arith, ints), omega (arith, ints), f.2)

module _ (rs : List Range) (first : HoldsFault rs) where
  pub cleared : (s : State) → IsInRange rs s → IsInRange rs (slice_set s 0 (pos 0))
  cleared s f = with_first rs first (pos 0) (omega (arith, ints)) (omega (arith, ints)) s f

  pub faulted : (s : State) → IsInRange rs s → IsInRange rs (slice_set s 0 (pos 1))
  faulted s f = with_first rs first (pos 1) (omega (arith, ints)) (omega (arith, ints)) s f

  pub fault_added : (b : Bool) (s : State) → IsInRange rs s → IsInRange rs (with_fault b s)
  fault_added b s f = either rs b _ _ (λ _. faulted s f) (λ _. f)

  pub kept_by_store : (c : ℕ) (v : ℤ) (s : State) → IsInRange rs s → IsInRange rs (stored rs c v s)
  kept_by_store c v s f = either rs (in_range v (range_at rs c)) _ _ (λ h. IsInRange-set rs s c v f h) (λ _. faulted s f)

  pub kept_by_turns : (n c : ℕ) (v step : ℤ) (body : State → Effect) → ((s : State) → IsInRange rs s → IsInRange rs (state_of (body s))) → (s : State) → IsInRange rs s → IsInRange rs (state_of (effect_of_turns rs n c v step body s))
  kept_by_turns zero c v step body keeps s f = kept_by_store c v s f
  kept_by_turns (suc n) c v step body keeps s f =
      kept_behind_turn rs (body (stored rs c v s)) _ (keeps _ (kept_by_store c v s f)) (λ x g. kept_by_turns n c (v +ℤ step) step body keeps x g)

  pub kept_by_latch : (base : ℕ) (x : Marking) (latch : Option ℕ) (associations : List Association) (s : State) → IsInRange rs s → IsInRange rs (latched rs base x latch associations s)
  kept_by_latch base x None associations s f = f
  kept_by_latch base x (Some place) associations s f = kept_by_store (base + place) _ s f

  pub kept_by_latches : (base : ℕ) (x : Marking) (actions : Actions) (s : State) → IsInRange rs s → IsInRange rs (all_latched rs base x actions s)
  kept_by_latches base x no_actions s f = f
  kept_by_latches base x (action latch associations body rest) s f = kept_by_latches base x rest _ (kept_by_latch base x latch associations s f)

  pub kept_by_marks : (base : ℕ) (x : Marking) (next : ℕ → Bool) (i : ℕ) (steps : List StepCells) (s : State) → IsInRange rs s → IsInRange rs (marked rs base x next i steps s)
  kept_by_marks base x next i [] s f = f
  kept_by_marks base x next i (p ∷ rest) s f =
      kept_by_marks base x next (i + 1) rest _ (kept_by_store (base + p.active) _ _ (kept_by_store (base + p.before) _ s f))

  module _ (callees : Callees) (calls : (b base : ℕ) (s : State) → IsInRange rs s → IsInRange rs (callees.runs b rs base s)) where
    mutual
      pub kept_by_statement : (base : ℕ) (a : Statement) (s : State) → IsInRange rs s → IsInRange rs (state_of (effect_of callees rs base a s))
      kept_by_statement base (assign c e) s f = kept_by_store (base + c) _ _ (fault_added (faults callees base e s) s f)
      kept_by_statement base (call_block b offset) s f = calls b (base + offset) s f
      kept_by_statement base (choice arms other) s f = kept_by_choices base arms (effect_of_all callees rs base other) (λ x g. kept_by_all base other x g) s f
      kept_by_statement base (cases kind e es other) s f =
          kept_by_entries base (value_of callees base e s) es (effect_of_all callees rs base other) (λ x g. kept_by_all base other x g) _ (fault_added (faults callees base e s) s f)
      kept_by_statement base (repeat turns body) s f =
          kept_by_turns turns.count (base + turns.control) turns.first turns.step (effect_of_all callees rs base body) (λ x g. kept_by_all base body x g) s f
      kept_by_statement base (chart steps actions ts) s f =
          kept_by_marks base _ _ 0 steps _ (fault_added _ _ (kept_by_actions base _ _ actions _ (kept_by_latches base _ actions s f)))
      kept_by_statement base exit s f = f
      kept_by_statement base return s f = f
      kept_by_statement base (own_body ss) s f = kept_behind_body rs (effect_of_all callees rs base ss s) (kept_by_all base ss s f)

      pub kept_by_all : (base : ℕ) (b : Statements) (s : State) → IsInRange rs s → IsInRange rs (state_of (effect_of_all callees rs base b s))
      kept_by_all base no_statements s f = f
      kept_by_all base (statement a rest) s f =
          kept_by_next rs (effect_of callees rs base a s) (effect_of_all callees rs base rest) (kept_by_statement base a s f) (λ x g. kept_by_all base rest x g)

      pub kept_by_choices : (base : ℕ) (arms : Choices) (other : State → Effect) → ((s : State) → IsInRange rs s → IsInRange rs (state_of (other s))) → (s : State) → IsInRange rs s → IsInRange rs (state_of (effect_of_choices callees rs base arms other s))
      kept_by_choices base no_choices other keeps s f = keeps s f
      kept_by_choices base (choose e b arms) other keeps s f =
          let g = fault_added (faults callees base e s) s f in
          either_leaves rs (is_truth (value_of callees base e s)) _ _ (λ _. kept_by_all base b _ g) (λ _. kept_by_choices base arms other keeps _ g)

      pub kept_by_entries : (base : ℕ) (v : ℤ) (es : Entries) (other : State → Effect) → ((s : State) → IsInRange rs s → IsInRange rs (state_of (other s))) → (s : State) → IsInRange rs s → IsInRange rs (state_of (effect_of_entries callees rs base v es other s))
      kept_by_entries base v no_entries other keeps s f = keeps s f
      kept_by_entries base v (entry labels b es) other keeps s f =
          either_leaves rs (is_labelled v labels) _ _ (λ _. kept_by_all base b s f) (λ _. kept_by_entries base v es other keeps s f)

      pub kept_by_actions : (base : ℕ) (x l : Marking) (actions : Actions) (s : State) → IsInRange rs s → IsInRange rs (effect_of_actions callees rs base x l actions s)
      kept_by_actions base x l no_actions s f = f
      kept_by_actions base x l (action latch associations body rest) s f =
          kept_by_actions base x l rest _ (either rs (runs base x l latch associations s) _ _ (λ _. kept_by_all base body s f) (λ _. f))

  kept_by_call : (callees : Callees) → ((b base : ℕ) (s : State) → IsInRange rs s → IsInRange rs (callees.runs b rs base s)) → (p : CalledData) (base : ℕ) (s : State) → IsInRange rs s → IsInRange rs (run_of callees p rs base s)
  kept_by_call callees calls (block body) base s f = kept_by_all callees calls base body s f
  kept_by_call callees calls (function types own start body) base s f = f

  pub kept_by_calls : (ps : List CalledData) (n b base : ℕ) (s : State) → IsInRange rs s → IsInRange rs ((callees_of ps n).runs b rs base s)
  kept_by_calls ps zero b base s f = f
  kept_by_calls ps (suc n) b base s f =
      either rs (b == n) _ _ (λ _. kept_by_call (callees_of ps n) (kept_by_calls ps n) (slice_index_or ps n nothing) base s f) (λ _. kept_by_calls ps n b base s f)

-- a scan keeps the ranges
pub IsInRange-scanned : (p : ProgramData) → IsFitToRun p → (s : State) → IsInRange (ranges_of p.cells) s → IsInRange (ranges_of p.cells) (scanned p s)
IsInRange-scanned p is s f =
    let first = holds_fault p.cells is.begins_with_fault in
    kept_by_all (ranges_of p.cells) first (callees_in p) (kept_by_calls (ranges_of p.cells) first p.called (length p.called)) 0 p.body _ (cleared (ranges_of p.cells) first s f)

-- and so does loading numbers that fit their places
pub IsInRange-put_at : (rs : List Range) (ps : List ℕ) (vs : Row) (s : State) → fits_places rs ps vs ≡ true → IsInRange rs s → IsInRange rs (put_at ps vs s)
IsInRange-put_at rs [] [] s h f = f
IsInRange-put_at rs [] (v ∷ vs) s h f = f
IsInRange-put_at rs (p ∷ ps) [] s h f = f
IsInRange-put_at rs (p ∷ ps) (v ∷ vs) s h f =
    let fits = and_parts (in_range v (range_at rs p)) (fits_places rs ps vs) h in
    IsInRange-put_at rs ps vs _ fits.1 (IsInRange-set rs s p v f fits.0)

put_in_cell : (p : ProgramData) (place : ℕ) (r : Range) (v : ℤ) (s : State) → IsCellOf p place r → in_range v r ≡ true → IsInRange (ranges_of p.cells) s → IsInRange (ranges_of p.cells) (slice_set s place v)
put_in_cell p place r v s is h f =
    IsInRange-set (ranges_of p.cells) s place v f (subst (λ (x : Range). in_range v x ≡ true) (sym is.1) h)

kept_by_line : (old new : ProgramData) (l : InputLine) (v : ℤ) (pair : Pair) → NamesCells old new l → in_range v (range_of_line l) ≡ true → IsPairInRange old new pair → IsPairInRange old new (loaded_one l v pair)
kept_by_line old new (Both r p q) v pair names h f = (put_in_cell old p r v pair.old names.0 h f.0, put_in_cell new q r v pair.new names.1 h f.1)
kept_by_line old new (Old r p) v pair names h f = (put_in_cell old p r v pair.old names h f.0, f.1)
kept_by_line old new (New r p) v pair names h f = (f.0, put_in_cell new p r v pair.new names h f.1)

-- a row that fits its lines keeps both states in range
pub IsPairInRange-loaded : (old new : ProgramData) (ls : List InputLine) (vs : Row) (pair : Pair) → All (NamesCells old new) ls → fits_lines ls vs ≡ true → IsPairInRange old new pair → IsPairInRange old new (loaded ls vs pair)
IsPairInRange-loaded old new [] vs pair names h f = f
IsPairInRange-loaded old new (l ∷ ls) [] pair names h f = f
IsPairInRange-loaded old new (l ∷ ls) (v ∷ vs) pair names h f =
    let fits = and_parts (in_range v (range_of_line l)) (fits_lines ls vs) h in
    IsPairInRange-loaded old new ls vs _ (λ k d below. names (suc k) d (omega arith)) fits.1 (kept_by_line old new l v pair (names 0 l (omega arith)) fits.0 f)

-- so an allowed row leads from a pair in range to a pair in range
pub IsPairInRange-after_row : (old new : ProgramData) (rel : RelationData) → IsFitToRun old → IsFitToRun new → BelongsTo old new rel → (row : Row) (pair : Pair) → is_allowed rel row pair ≡ true → IsPairInRange old new pair → IsPairInRange old new (after_row old new rel row pair)
IsPairInRange-after_row old new rel is_old is_new belongs row pair h f =
    let fits = and_parts (fits_lines rel.inputs row) _ h in
    let kept = IsPairInRange-loaded old new rel.inputs row pair belongs fits.0 f in
    (IsInRange-scanned old is_old _ kept.0, IsInRange-scanned new is_new _ kept.1)
