-- The places of a chart's cells rise, those of its steps first.
use Rattle.std.proofs.Common.{◌≡◌, ℕ, ◌+◌, ◌≤◌, Bool, true, false, if◌then◌else◌, List, [], ◌∷◌, ◌++◌, Option, Some, None, refl, ap, ◌∙◌, arith}
use Rattle.std.specs.List.{AllByRecursion}
use Rattle.source_tree.specs.Syntax.{Named, PouTypeData, function, function_block, program, PartData, step_part, transition_part, action_part, FileData}
use Rattle.program_tree.specs.declared.typed.StepCells.{StepCells}
use Rattle.program_tree.specs.Tree.{Actions}
use Rattle.program_tree.specs.ChartPlaces.{latch_places, chart_places, AreRisingFrom}
use Rattle.naming.specs.Scopes.{Variable, of_chart, step_role, action_role, transition_named, declared_by_parts}
use Rattle.typing.specs.declared.next.Next.{Next}
use Rattle.typing.specs.Places.{count_of_cells, in_front, sizes_of, places_from, first_places, places_behind}
use Rattle.typing.specs.Members.{is_function}
use Rattle.typed_cells.specs.Places.{first_of}
use Rattle.typed_cells.proofs.Walks.{front_first}
use Rattle.typed_cells.proofs.Names.{IsPlain}
use Rattle.typed_cells.proofs.Roles.{plain_front}
use Rattle.typed_cells.proofs.ChartNames.{after, step_width, IsMoved, moved_at_front}

-- the places of steps from one on, and those of stored actions
abbrev pub steps_from : ℕ → List PartData → List ℕ
steps_from front [] = []
steps_from front (step_part s ∷ qs) = front ∷ (front + 1) ∷ steps_from (front + 2) qs
steps_from front (transition_part t ∷ qs) = steps_from front qs
steps_from front (action_part a ∷ qs) = steps_from front qs

abbrev pub latches_from : (List ℕ → Bool) → ℕ → List PartData → List ℕ
latches_from stored rest [] = []
latches_from stored rest (step_part s ∷ qs) = latches_from stored rest qs
latches_from stored rest (transition_part t ∷ qs) = latches_from stored rest qs
latches_from stored rest (action_part a ∷ qs) = if stored a.name.text then rest ∷ latches_from stored (rest + 1) qs else latches_from stored rest qs

-- how many cells the steps have
abbrev pub widths : List PartData → ℕ
widths [] = 0
widths (q ∷ qs) = step_width q + widths qs

-- the cells of steps, one after the other
abbrev pub pairs : List StepCells → List ℕ
pairs [] = []
pairs (c ∷ cs) = c.active ∷ c.before ∷ pairs cs

pub chart_split : (cs : List StepCells) (as_list : Actions) → chart_places cs as_list ≡ pairs cs ++ latch_places as_list
chart_split [] as_list = refl
chart_split (c ∷ cs) as_list = ap (λ (l : List ℕ). c.active ∷ c.before ∷ l) (chart_split cs as_list)

-- ---- they rise

latch_by : (b : Bool) (low rest : ℕ) (more others : List ℕ) → low ≤ rest → AreRisingFrom (rest + 1) more → AreRisingFrom low others → AreRisingFrom low (if b then rest ∷ more else others)
latch_by true low rest more others small rising same = (small, rising)
latch_by false low rest more others small rising same = same

pub rising_latches : (stored : List ℕ → Bool) (qs : List PartData) (low rest : ℕ) → low ≤ rest → AreRisingFrom low (latches_from stored rest qs)
rising_latches stored [] low rest small = tt
rising_latches stored (step_part s ∷ qs) low rest small = rising_latches stored qs low rest small
rising_latches stored (transition_part t ∷ qs) low rest small = rising_latches stored qs low rest small
rising_latches stored (action_part a ∷ qs) low rest small =
    latch_by (stored a.name.text) low rest (latches_from stored (rest + 1) qs) (latches_from stored rest qs) small (rising_latches stored qs (rest + 1) (rest + 1) (omega arith)) (rising_latches stored qs low rest small)

pub rising_steps : (qs : List PartData) (low front : ℕ) (tail : List ℕ) → low ≤ front → ((m : ℕ) → m ≤ front + widths qs → AreRisingFrom m tail) → AreRisingFrom low (steps_from front qs ++ tail)
rising_steps [] low front tail small rest = rest low (omega (arith, small))
rising_steps (step_part s ∷ qs) low front tail small rest =
    (small, (omega arith, rising_steps qs (front + 1 + 1) (front + 2) tail (omega arith) (λ m most. rest m (omega (arith, most)))))
rising_steps (transition_part t ∷ qs) low front tail small rest = rising_steps qs low front tail small (λ m most. rest m (omega (arith, most)))
rising_steps (action_part a ∷ qs) low front tail small rest = rising_steps qs low front tail small (λ m most. rest m (omega (arith, most)))

-- ---- where they begin

count_plain : (f : FileData) (ds ns : List Variable) → AllByRecursion IsPlain ds → count_of_cells f (sizes_of f) (in_front false (ds ++ ns)) ≡ count_of_cells f (sizes_of f) ds + count_of_cells f (sizes_of f) (in_front false ns)
count_plain f [] ns plain = omega arith
count_plain f (v ∷ ds) ns plain =
    let here = ap (count_of_cells f (sizes_of f)) (front_first false v (ds ++ ns) (plain_front v.role plain.0)) in
    let rest = count_plain f ds ns plain.1 in
    here ∙ omega (arith, rest)

count_step : (f : FileData) (initial : Bool) (n : Named) (vs : List Variable) → count_of_cells f (sizes_of f) (in_front false (of_chart (step_role initial) n ∷ vs)) ≡ 2 + count_of_cells f (sizes_of f) (in_front false vs)
count_step f true n vs = refl
count_step f false n vs = refl

count_transition : (f : FileData) (n : Option Named) (vs : List Variable) → count_of_cells f (sizes_of f) (in_front false (transition_named n ++ vs)) ≡ count_of_cells f (sizes_of f) (in_front false vs)
count_transition f None vs = refl
count_transition f (Some n) vs = omega arith

count_action : (f : FileData) (stored : Bool) (n : Named) (vs : List Variable) → count_of_cells f (sizes_of f) (in_front false (of_chart (action_role stored) n ∷ vs)) ≡ count_of_cells f (sizes_of f) (in_front false vs)
count_action f true n vs = refl
count_action f false n vs = omega arith

count_parts : (f : FileData) (stored : List ℕ → Bool) (qs : List PartData) → count_of_cells f (sizes_of f) (in_front false (declared_by_parts stored qs)) ≡ widths qs
count_parts f stored [] = refl
count_parts f stored (step_part s ∷ qs) = let rest = count_parts f stored qs in count_step f s.is_initial s.name (declared_by_parts stored qs) ∙ omega (arith, rest)
count_parts f stored (transition_part t ∷ qs) = let rest = count_parts f stored qs in count_transition f t.name (declared_by_parts stored qs) ∙ omega (arith, rest)
count_parts f stored (action_part a ∷ qs) = let rest = count_parts f stored qs in count_action f (stored a.name.text) a.name (declared_by_parts stored qs) ∙ omega (arith, rest)

plain_after : (f : FileData) (ds : List Variable) (n : Next) → n.of_function ≡ false → AllByRecursion IsPlain ds → IsMoved n (after f n ds) (count_of_cells f (sizes_of f) ds) 0
plain_after f [] n no_function plain = record { no_function = no_function; front = omega arith; rest = omega arith }
plain_after f (v ∷ ds) n no_function plain =
    let one = moved_at_front f n v no_function (plain_front v.role plain.0) in
    let more = plain_after f ds (places_behind f (sizes_of f) n v) one.no_function plain.1 in
    let front = one.front in
    let rest = one.rest in
    let more_front = more.front in
    let more_rest = more.rest in
    record { no_function = more.no_function; front = omega (arith, front, more_front); rest = omega (arith, rest, more_rest) }

-- behind the names that are declared stands the chart
pub record IsChartNext (f : FileData) (pou_type : PouTypeData) (n : Next) (ds : List Variable) (qs : List PartData) : Type 0 where
  pub of_chart : n.of_function ≡ false
  pub front : n.front ≡ first_of pou_type + count_of_cells f (sizes_of f) ds
  pub rest : n.rest ≡ n.front + widths qs

next_from : (f : FileData) (pou_type : PouTypeData) (first : ℕ) → first ≡ first_of pou_type → (ds : List Variable) (stored : List ℕ → Bool) (qs : List PartData) → AllByRecursion IsPlain ds
    → IsChartNext f pou_type (after f (places_from f (sizes_of f) false first (ds ++ declared_by_parts stored qs)) ds) ds qs
next_from f pou_type first is ds stored qs plain =
    let moved = plain_after f ds (places_from f (sizes_of f) false first (ds ++ declared_by_parts stored qs)) refl plain in
    let front = moved.front in
    let rest = moved.rest in
    let all = count_plain f ds (declared_by_parts stored qs) plain in
    let parts = count_parts f stored qs in
    record { of_chart = moved.no_function; front = omega (arith, front, is); rest = omega (arith, rest, front, all, parts) }

pub chart_next : (f : FileData) (pou_type : PouTypeData) → is_function pou_type ≡ false → (ds : List Variable) (stored : List ℕ → Bool) (qs : List PartData) → AllByRecursion IsPlain ds
    → IsChartNext f pou_type (after f (first_places f (sizes_of f) pou_type (ds ++ declared_by_parts stored qs)) ds) ds qs
chart_next f (function t) none ds stored qs plain = absurd (let h : ⊥ = cc in h)
chart_next f function_block none ds stored qs plain = next_from f function_block 0 refl ds stored qs plain
chart_next f program none ds stored qs plain = next_from f program 1 refl ds stored qs plain
