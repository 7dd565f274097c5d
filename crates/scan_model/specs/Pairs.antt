-- A pair of programs under a relation: rows of inputs, and what must hold after a scan.
use Rattle.std.specs.Prelude.{◌≡◌, ◌<◌, ℕ, List, [], ◌∷◌, ◌++◌, length, map, string_bytes, All, Bool, true, false, not, ◌&&◌, slice_set, ℤ}
use Rattle.plc_types.specs.declared.range.Range.{Range}
use Rattle.plc_types.specs.Types.{in_range}
use Rattle.program_tree.specs.Tree.{Expression, ProgramData}
use Rattle.program_tree.specs.View.{expr_view, exprs_view}
use Rattle.scan_model.specs.declared.relation.Candidate.{Candidate}
use Rattle.scan_model.specs.declared.relation.Relation.{Relation}
use Rattle.scan_model.specs.declared.relation.InputLine.{InputLine}
use Rattle.scan_model.specs.declared.relation.InputLine.TheVariants.{Both, Old, New}
use Rattle.meaning.specs.Values.{State, no_callees, value_of, faults, is_truth}
use Rattle.meaning.specs.Effects.{range_at}
use Rattle.scan_model.specs.Among.{among}
use Rattle.scan_model.specs.Scans.{ranges_of, initial, scanned}
use Rattle.scan_model.specs.InRange.{Row, IsInRange}

-- a clause that may hold after every scan, and its printed name
pub record CandidateData : Type 0 where
  pub name : List ℕ
  pub clause : Expression

-- a relation: its numbers, its INPUT lines, its ENV, RELATE and INVARIANT clauses over OLD's cells and then NEW's, and its
-- candidates; where faults have to agree the last RELATE clause says so
pub record RelationData : Type 0 where
  pub depth : ℕ
  pub conflicts : ℕ
  pub inputs : List InputLine
  pub environment : List Expression
  pub equal_faults : Bool
  pub relates : List Expression
  pub invariants : List Expression
  pub candidates : List CandidateData

abbrev pub candidate_view : Candidate → CandidateData
candidate_view c = record { name = string_bytes c.name; clause = expr_view c.clause }

abbrev pub candidates_view : List Candidate → List CandidateData
candidates_view cs = map candidate_view cs

-- the clauses of candidates
abbrev pub clauses_among : List Candidate → List Expression
clauses_among cs = map (λ c. expr_view c.clause) cs

abbrev pub relation_view : Relation → RelationData
relation_view r = record {
  depth = r.depth;
  conflicts = r.conflicts;
  inputs = r.inputs.items;
  environment = exprs_view r.environment.items;
  equal_faults = r.equal_faults;
  relates = clauses_among (among r.first_relate r.relates r.candidates.items);
  invariants = clauses_among (among 0 r.invariants r.candidates.items);
  candidates = candidates_view r.candidates.items;
}

-- the two states
pub record Pair : Type 0 where
  pub old : State
  pub new : State

abbrev pub start : ProgramData → ProgramData → Pair
start old new = record { old = initial old.cells; new = initial new.cells }

-- both states are in range
abbrev pub IsPairInRange : ProgramData → ProgramData → Pair → Type 0
IsPairInRange old new pair = IsInRange (ranges_of old.cells) pair.old × IsInRange (ranges_of new.cells) pair.new

-- the range of an INPUT line's number
abbrev pub range_of_line : InputLine → Range
range_of_line (Both range old new) = range
range_of_line (Old range place) = range
range_of_line (New range place) = range

-- a row has one number for each INPUT line, in its line's range
abbrev pub fits_lines : List InputLine → Row → Bool
fits_lines [] [] = true
fits_lines [] (v ∷ vs) = false
fits_lines (l ∷ ls) [] = false
fits_lines (l ∷ ls) (v ∷ vs) = in_range v (range_of_line l) && fits_lines ls vs

-- a number put into the cells that its line names
abbrev pub loaded_one : InputLine → ℤ → Pair → Pair
loaded_one (Both range old new) v pair = record { old = slice_set pair.old old v; new = slice_set pair.new new v }
loaded_one (Old range place) v pair = record { old = slice_set pair.old place v; new = pair.new }
loaded_one (New range place) v pair = record { old = pair.old; new = slice_set pair.new place v }

abbrev pub loaded : List InputLine → Row → Pair → Pair
loaded [] vs pair = pair
loaded (l ∷ ls) [] pair = pair
loaded (l ∷ ls) (v ∷ vs) pair = loaded ls vs (loaded_one l v pair)

-- a clause calls no POU, and holds where its value is TRUE and its evaluation meets no fault
abbrev pub holds : Expression → Pair → Bool
holds e pair = is_truth (value_of no_callees 0 e (pair.old ++ pair.new)) && not (faults no_callees 0 e (pair.old ++ pair.new))

abbrev pub all_hold : List Expression → Pair → Bool
all_hold [] pair = true
all_hold (e ∷ es) pair = holds e pair && all_hold es pair

-- a row is allowed on a pair where its numbers fit, and every ENV clause holds once they are loaded
abbrev pub is_allowed : RelationData → Row → Pair → Bool
is_allowed rel row pair = fits_lines rel.inputs row && all_hold rel.environment (loaded rel.inputs row pair)

abbrev pub scanned_both : ProgramData → ProgramData → Pair → Pair
scanned_both old new pair = record { old = scanned old pair.old; new = scanned new pair.new }

-- the pair after a row: its numbers are loaded, then both programs run one scan
abbrev pub after_row : ProgramData → ProgramData → RelationData → Row → Pair → Pair
after_row old new rel row pair = scanned_both old new (loaded rel.inputs row pair)

-- a pair is related where every RELATE clause holds
abbrev pub is_related : RelationData → Pair → Bool
is_related rel pair = all_hold rel.relates pair

-- a place is a cell of a program, of that range
abbrev pub IsCellOf : ProgramData → ℕ → Range → Type 0
IsCellOf p place range = (place < length p.cells) × (range_at (ranges_of p.cells) place ≡ range)

-- an INPUT line names cells of the programs that have its range
abbrev pub NamesCells : ProgramData → ProgramData → InputLine → Type 0
NamesCells old new (Both range p q) = IsCellOf old p range × IsCellOf new q range
NamesCells old new (Old range p) = IsCellOf old p range
NamesCells old new (New range q) = IsCellOf new q range

-- what scans of a pair ask of a relation
abbrev pub BelongsTo : ProgramData → ProgramData → RelationData → Type 0
BelongsTo old new rel = All (NamesCells old new) rel.inputs
