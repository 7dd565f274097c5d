-- The candidates of a comparison are typed where its clauses and cells are.
use Rattle.std.proofs.Common.{◌≡◌, ℕ, zero, suc, ◌+◌, ◌<◌, Bool, true, false, refl, sym, ◌∙◌, ap, subst, List, [], ◌∷◌, ◌++◌, length, map, arith, rules, append_assoc, length-append}
use Rattle.std.specs.Prelude.{All, codes, nat_le, ◌&&◌, if◌then◌else◌}
use Rattle.std.specs.Str.{bytes_eq}
use Rattle.std.proofs.lemmas.Bool.{false≢true}
use Rattle.std.proofs.lemmas.List.{append-nil}
use Rattle.std.proofs.lemmas.List.Elements.{All-head, All-tail, All-append, All-nil, All-cons}
use denote.Enum.Bare.{same_true}
use Rattle.plc_types.specs.contracts.elementary.Elementary.{the_type}
use Rattle.plc_types.specs.declared.elementary.Elementary.TheVariants as types
use Rattle.plc_types.specs.declared.data_type.DataType.{DataType}
use Rattle.plc_types.specs.declared.data_type.DataType.TheVariants as kinds
use Rattle.plc_types.specs.DataTypes.{carrier, is_same_type}
use Rattle.plc_types.specs.Enumerations.{paired_number, paired_type, names_at}
use Rattle.plc_types.specs.Types.{range_of, in_range}
use Rattle.program_tree.specs.Tree.{Expression, number, cell, CellData}
use Rattle.program_tree.specs.declared.typed.ChartCells.{ChartCells}
use Rattle.program_tree.specs.Places.{of_cell, place_at}
use Rattle.scan_model.specs.Scans.{initial}
use Rattle.scan_model.specs.Pairs.{CandidateData}
use Rattle.scan_model.specs.Candidates.{is_equal, same_if, same_as, same_cells, numbered, relate_clauses, initial_values, not_both, not_both_with, not_both_among, stands_among, exclusive_steps, paths_of, candidates_of}
use Rattle.queries.specs.Comparisons.{Comparison}
use Rattle.node_core.specs.NodeLaws.{kinds_of}
use Rattle.query_formula_laws.specs.TypedComparisons.{IsClauseOf, IsBoolPlace, AreSteps, HasTypedClauses, IsTypedComparison}
use Rattle.query_formula_laws.proofs.TypedValues.{AreOfTypes}
use Rattle.query_formula_laws.proofs.Given.{of_types}

-- ---- one data type in a pair

same_carrier : (old new : List (List (List ℕ))) (a b : DataType) → is_same_type a (paired_type old new b) ≡ true → carrier a ≡ carrier b
same_carrier old new (kinds.Elementary k) (kinds.Elementary l) h = same_true the_type (search rules) k l h
same_carrier old new (kinds.Elementary k) (kinds.Enumeration n) h = by (names_at new n) h
  where
    by : (names : List (List ℕ)) → is_same_type (kinds.Elementary k) (paired_number old n names) ≡ true → k ≡ types.Usint
    by [] h = absurd (false≢true h)
    by (m ∷ ms) h = absurd (false≢true h)
same_carrier old new (kinds.Elementary k) kinds.Unknown h = absurd (false≢true h)
same_carrier old new (kinds.Enumeration m) (kinds.Elementary l) h = absurd (false≢true h)
same_carrier old new (kinds.Enumeration m) (kinds.Enumeration n) h = refl
same_carrier old new (kinds.Enumeration m) kinds.Unknown h = refl
same_carrier old new kinds.Unknown (kinds.Elementary l) h = absurd (false≢true h)
same_carrier old new kinds.Unknown (kinds.Enumeration n) h = refl
same_carrier old new kinds.Unknown kinds.Unknown h = refl

-- ---- where cells stand

-- cells stand among others from a place on
abbrev StandAt : List CellData → ℕ → List CellData → Type 0
StandAt all place [] = Unit {0}
StandAt all place (c ∷ cs) = (place < length all) × ((place_at (map of_cell all) place).kind ≡ carrier c.kind) × StandAt all (place + 1) cs

kind_behind : (before : List CellData) (c : CellData) (rest : List CellData) → (place_at (map of_cell (before ++ c ∷ rest)) (length before)).kind ≡ carrier c.kind
kind_behind [] c rest = refl
kind_behind (d ∷ before) c rest = kind_behind before c rest

stand_behind : (before cells more all : List CellData) (place : ℕ) → all ≡ before ++ (cells ++ more) → place ≡ length before → StandAt all place cells
stand_behind before [] more all place e f = tt
stand_behind before (c ∷ cells) more all place e f = (
  low place (length before) (length (cells ++ more)) (length all) f (ap length e ∙ length-append before (c ∷ (cells ++ more))),
  ap (λ (cs : List CellData). (place_at (map of_cell cs) place).kind) e ∙ ap (λ (p : ℕ). (place_at (map of_cell (before ++ c ∷ (cells ++ more))) p).kind) f ∙ kind_behind before c (cells ++ more),
  stand_behind (before ++ c ∷ []) cells more all (place + 1) (e ∙ sym (append_assoc before (c ∷ []) (cells ++ more))) (omega (arith, length-append before (c ∷ []))),
)
  where
    low : (place before rest all : ℕ) → place ≡ before → all ≡ before + suc rest → place < all
    low place before rest all e f = omega arith

-- ---- clauses

module _ (c : Comparison) where
  abbrev all : List CellData
  all = c.old.cells ++ c.new.cells

  abbrev Typed : List CandidateData → Type 0
  Typed cs = All (λ (k : CandidateData). IsClauseOf c k.clause) cs

  none : Typed []
  none = All-nil (λ (k : CandidateData). IsClauseOf c k.clause)

  one_more : (k : CandidateData) (cs : List CandidateData) → IsClauseOf c k.clause → Typed cs → Typed (k ∷ cs)
  one_more k cs h rest = All-cons (λ (x : CandidateData). IsClauseOf c x.clause) k cs h rest

  both : (cs ds : List CandidateData) → Typed cs → Typed ds → Typed (cs ++ ds)
  both cs ds h k = All-append (λ (x : CandidateData). IsClauseOf c x.clause) cs ds h k

  numbered-typed : (word : List ℕ) (n : ℕ) (es : List Expression) → All (IsClauseOf c) es → Typed (numbered word n es)
  numbered-typed word n [] h = none
  numbered-typed word n (e ∷ es) h = one_more _ (numbered word (n + 1) es) (All-head (IsClauseOf c) e es h) (numbered-typed word (n + 1) es (All-tail (IsClauseOf c) e es h))

  relates-typed : (added : Bool) (n : ℕ) (es : List Expression) → All (IsClauseOf c) es → Typed (relate_clauses added n es)
  relates-typed added n [] h = none
  relates-typed added n (e ∷ []) h = one_more _ [] (All-head (IsClauseOf c) e [] h) none
  relates-typed added n (e ∷ f ∷ es) h = one_more _ (relate_clauses added (n + 1) (f ∷ es)) (All-head (IsClauseOf c) e (f ∷ es) h) (relates-typed added (n + 1) (f ∷ es) (All-tail (IsClauseOf c) e (f ∷ es) h))

  cells_equal : (place other : ℕ) (kind : DataType) → place < length all → other < length all → (place_at (map of_cell all) place).kind ≡ carrier kind → (place_at (map of_cell all) other).kind ≡ carrier kind → IsClauseOf c (is_equal place kind (cell other))
  cells_equal place other kind low below is same = record { typed = (is, (refl, refl, same, refl)); reads = (low, (below, tt)) }

  number_equal : (place : ℕ) (kind : DataType) (x : _) → place < length all → (place_at (map of_cell all) place).kind ≡ carrier kind → in_range x (range_of (carrier kind)) ≡ true → IsClauseOf c (is_equal place kind (number x))
  number_equal place kind x low is inside = record { typed = (is, (refl, refl, inside, refl)); reads = (low, (tt, tt)) }

  same_if-typed : (k : CellData) (place other : ℕ) (alike : Bool) → (alike ≡ true → IsClauseOf c (is_equal place k.kind (cell other))) → Typed (same_if k place other alike)
  same_if-typed k place other true h = one_more _ [] (h refl) none
  same_if-typed k place other false h = none

  typed_by : (b : Bool) (cs ds : List CandidateData) → Typed cs → Typed ds → Typed (if b then cs else ds)
  typed_by true cs ds h k = h
  typed_by false cs ds h k = k

  abbrev paired : DataType → DataType
  paired = paired_type c.old.types c.new.types

  same_as-typed : (k : CellData) (place behind : ℕ) (ds : List CellData) → place < length all → (place_at (map of_cell all) place).kind ≡ carrier k.kind → StandAt all behind ds → Typed (same_as paired k place behind ds)
  same_as-typed k place behind [] low is at = none
  same_as-typed k place behind (d ∷ ds) low is at =
      typed_by (bytes_eq d.path k.path) (same_if k place behind (is_same_type k.kind (paired d.kind))) (same_as paired k place (behind + 1) ds)
      (same_if-typed k place behind (is_same_type k.kind (paired d.kind)) (λ e. cells_equal place behind k.kind low at.0 is (at.1 ∙ sym (same_carrier c.old.types c.new.types k.kind d.kind e))))
      (same_as-typed k place (behind + 1) ds low is at.2)

  same_cells-typed : (place behind : ℕ) (new cells : List CellData) → StandAt all place cells → StandAt all behind new → Typed (same_cells paired place behind new cells)
  same_cells-typed place behind new [] at new_at = none
  same_cells-typed place behind new (k ∷ cells) at new_at =
      both (same_as paired k place behind new) (same_cells paired (place + 1) behind new cells) (same_as-typed k place behind new at.0 at.1 new_at) (same_cells-typed (place + 1) behind new cells at.2 new_at)

  initial-typed : (program : List ℕ) (place : ℕ) (cells : List CellData) → StandAt all place cells → AreOfTypes (kinds_of cells) (initial cells) → Typed (initial_values program place cells)
  initial-typed program place [] at h = none
  initial-typed program place (k ∷ cells) at h = one_more _ (initial_values program (place + 1) cells) (number_equal place k.kind k.initial at.0 at.1 h.0) (initial-typed program (place + 1) cells at.2 h.1)

  not_both-typed : (program : List ℕ) (start : ℕ) (paths : List (List ℕ)) (first second : ℕ) → IsBoolPlace all (start + first) → IsBoolPlace all (start + second) → IsClauseOf c (not_both program start paths first second).clause
  not_both-typed program start paths first second h k = record { typed = (refl, (h.kind, (refl, refl, k.kind, refl))); reads = (h.below, (k.below, tt)) }

  with-typed : (program : List ℕ) (start : ℕ) (paths : List (List ℕ)) (first place steps : ℕ) → IsBoolPlace all (start + first) → AreSteps all start place steps → Typed (not_both_with program start paths first place steps)
  with-typed program start paths first place zero h are = none
  with-typed program start paths first place (suc steps) h are =
      one_more _ (not_both_with program start paths first (place + 2) steps) (not_both-typed program start paths first place h are.0) (with-typed program start paths first (place + 2) steps h are.1)

  among-typed : (program : List ℕ) (start : ℕ) (paths : List (List ℕ)) (place steps : ℕ) → AreSteps all start place steps → Typed (not_both_among program start paths place steps)
  among-typed program start paths place zero are = none
  among-typed program start paths place (suc steps) are =
      both (not_both_with program start paths place (place + 2) steps) (not_both_among program start paths (place + 2) steps) (with-typed program start paths place (place + 2) steps are.0 are.1)
      (among-typed program start paths (place + 2) steps are.1)

  steps-typed : (program : List ℕ) (start : ℕ) (paths : List (List ℕ)) (charts : List ChartCells) → All (λ (k : ChartCells). AreSteps all start k.first k.steps) charts → Typed (exclusive_steps program start paths charts)
  steps-typed program start paths [] h = none
  steps-typed program start paths (k ∷ charts) h =
      both (if nat_le k.steps 16 && stands_among paths k then not_both_among program start paths k.first k.steps else []) (exclusive_steps program start paths charts)
      (typed_by (nat_le k.steps 16 && stands_among paths k) (not_both_among program start paths k.first k.steps) [] (among-typed program start paths k.first k.steps (All-head (λ (x : ChartCells). AreSteps all start x.first x.steps) k charts h)) none)
      (steps-typed program start paths charts (All-tail (λ (x : ChartCells). AreSteps all start x.first x.steps) k charts h))

  pub candidates_are_typed : HasTypedClauses c → IsTypedComparison c
  candidates_are_typed h =
      let old_at : StandAt all 0 c.old.cells = stand_behind [] c.old.cells c.new.cells all 0 refl refl in
      let new_at : StandAt all (length c.old.cells) c.new.cells = stand_behind c.old.cells c.new.cells [] all (length c.old.cells) (ap (λ (cs : List CellData). c.old.cells ++ cs) (sym (append-nil c.new.cells))) refl in
      let old_is = h.comparison.relatable.old_is_program in
      let new_is = h.comparison.relatable.new_is_program in
      let first_old = of_types c.old.cells (initial c.old.cells) h.old_cells old_is.start_in_range in
      let first_new = of_types c.new.cells (initial c.new.cells) h.new_cells new_is.start_in_range in
      let made = both _ _ (numbered-typed (codes "INVARIANT ") 1 c.relation.invariants h.invariants) (same_cells-typed 0 (length c.old.cells) c.new.cells c.old.cells old_at new_at) in
      let related = both _ _ made (relates-typed c.relation.equal_faults 1 c.relation.relates h.relates) in
      let begun = both _ _ (both _ _ related (initial-typed (codes "OLD") 0 c.old.cells old_at first_old)) (initial-typed (codes "NEW") (length c.old.cells) c.new.cells new_at first_new) in
      let stepped = both _ _ begun (steps-typed (codes "OLD") 0 (paths_of c.old.cells) c.old.charts h.old_charts) in
      let typed : Typed (candidates_of c.old c.new c.relation) = both _ _ stepped (steps-typed (codes "NEW") (length c.old.cells) (paths_of c.new.cells) c.new.charts h.new_charts) in
      record {
        comparison = h.comparison;
        old_cells = h.old_cells;
        new_cells = h.new_cells;
        alike = h.alike;
        environment = h.environment;
        relates = h.relates;
        candidates = subst Typed (sym h.comparison.listed) typed;
      }
