-- The candidates of a relation between two programs: clauses that may hold after every scan, each with its printed name.
use Rattle.std.specs.Prelude.{ℕ, zero, suc, ◌+◌, ◌*◌, nat_le, List, [], ◌∷◌, ◌++◌, length, codes, decimal, map, Bool, ◌&&◌, pos, if◌then◌else◌, slice_index_or}
use Rattle.std.specs.Fmt.{signed_decimal}
use Rattle.std.specs.Str.{bytes_eq}
use Rattle.plc_types.specs.declared.data_type.DataType.{DataType}
use Rattle.plc_types.specs.DataTypes.{carrier, is_same_type}
use Rattle.plc_types.specs.Enumerations.{paired_type}
use Rattle.plc_types.specs.declared.elementary.Elementary.TheVariants as types
use Rattle.plc_types.specs.declared.operator.UnaryOperator.TheVariants.{Not}
use Rattle.plc_types.specs.declared.operator.Operator.TheVariants.{And, Equal}
use Rattle.program_tree.specs.declared.typed.ChartCells.{ChartCells}
use Rattle.program_tree.specs.Tree.{Expression, number, cell, unary, chain, no_operands, operand, CellData, ProgramData}
use Rattle.scan_model.specs.Pairs.{CandidateData, RelationData, Pair, holds}

-- a cell of the pair has the value of an expression of its type
abbrev pub is_equal : ℕ → DataType → Expression → Expression
is_equal place kind e = chain (cell place) (operand Equal (carrier kind) e no_operands)

-- `SAME P`: the cells of one path in OLD, at a place, and in NEW, whose cells stand from `behind` on, where they are of one
-- type; a type of NEW is taken as that of the pair. Bounds are left aside.
abbrev pub same_if : CellData → ℕ → ℕ → Bool → List CandidateData
same_if c place other alike = if alike then record { name = codes "SAME " ++ c.path; clause = is_equal place c.kind (cell other) } ∷ [] else []

abbrev pub same_as : (DataType → DataType) → CellData → ℕ → ℕ → List CellData → List CandidateData
same_as paired c place behind [] = []
same_as paired c place behind (d ∷ ds) =
    if bytes_eq d.path c.path then same_if c place behind (is_same_type c.kind (paired d.kind)) else same_as paired c place (behind + 1) ds

abbrev pub same_cells : (DataType → DataType) → ℕ → ℕ → List CellData → List CellData → List CandidateData
same_cells paired place behind new [] = []
same_cells paired place behind new (c ∷ cs) = same_as paired c place behind new ++ same_cells paired (place + 1) behind new cs

-- clauses as candidates: their names are a word and their numbers, from a number on
abbrev pub numbered : List ℕ → ℕ → List Expression → List CandidateData
numbered word n [] = []
numbered word n (e ∷ es) = record { name = word ++ decimal n; clause = e } ∷ numbered word (n + 1) es

abbrev pub relate_name : ℕ → List ℕ
relate_name n = codes "RELATE " ++ decimal n

-- `RELATE n`: the RELATE clauses as written; the last is `RELATE FAULTS` where it was added
abbrev pub relate_clauses : Bool → ℕ → List Expression → List CandidateData
relate_clauses added n [] = []
relate_clauses added n (e ∷ []) = record { name = (if added then codes "RELATE FAULTS" else relate_name n); clause = e } ∷ []
relate_clauses added n (e ∷ f ∷ es) = record { name = relate_name n; clause = e } ∷ relate_clauses added (n + 1) (f ∷ es)

-- `OLD P = v` and `NEW P = v`: each cell has its initial value
abbrev pub initial_values : List ℕ → ℕ → List CellData → List CandidateData
initial_values program place [] = []
initial_values program place (c ∷ cs) =
    record { name = program ++ codes " " ++ c.path ++ codes " = " ++ signed_decimal c.initial; clause = is_equal place c.kind (number c.initial) }
    ∷ initial_values program (place + 1) cs

-- the path of the cell at a place
abbrev pub path_at : List (List ℕ) → ℕ → List ℕ
path_at paths place = slice_index_or paths place []

-- `OLD NOT path.S.X AND path.T.X` or `NEW ..`: not both of two steps of a chart are active, whose cells stand at these places of a
-- program that begins at a place
abbrev pub not_both : List ℕ → ℕ → List (List ℕ) → ℕ → ℕ → CandidateData
not_both program start paths first second = record {
  name = program ++ codes " NOT " ++ path_at paths first ++ codes " AND " ++ path_at paths second;
  clause = unary Not types.Bool (chain (cell (start + first)) (operand And types.Bool (cell (start + second)) no_operands));
}

-- a step, with each of so many steps that stand from a place on
abbrev pub not_both_with : List ℕ → ℕ → List (List ℕ) → ℕ → ℕ → ℕ → List CandidateData
not_both_with program start paths first place zero = []
not_both_with program start paths first place (suc steps) = not_both program start paths first place ∷ not_both_with program start paths first (place + 2) steps

-- each two of so many steps that stand from a place on, the earlier of the two first
abbrev pub not_both_among : List ℕ → ℕ → List (List ℕ) → ℕ → ℕ → List CandidateData
not_both_among program start paths place zero = []
not_both_among program start paths place (suc steps) =
    not_both_with program start paths place (place + 2) steps ++ not_both_among program start paths (place + 2) steps

-- The cells of a chart's steps stand among the cells of its program. Each step has two cells, of which the first says whether it is active. A chart
-- of a program that a text states always stands so; one of a program made by hand might not.
abbrev pub stands_among : List (List ℕ) → ChartCells → Bool
stands_among paths c = nat_le (c.first + 2 * c.steps) (length paths)

-- each two steps of each chart that has at most 16 steps and stands among the cells of its program
abbrev pub exclusive_steps : List ℕ → ℕ → List (List ℕ) → List ChartCells → List CandidateData
exclusive_steps program start paths [] = []
exclusive_steps program start paths (c ∷ cs) =
    (if nat_le c.steps 16 && stands_among paths c then not_both_among program start paths c.first c.steps else []) ++ exclusive_steps program start paths cs

abbrev pub paths_of : List CellData → List (List ℕ)
paths_of cells = map (λ c. c.path) cells

-- the candidates in their order; the INVARIANT clauses, `INVARIANT n`, come first
abbrev pub candidates_of : ProgramData → ProgramData → RelationData → List CandidateData
candidates_of old new rel =
    numbered (codes "INVARIANT ") 1 rel.invariants ++ same_cells (paired_type old.types new.types) 0 (length old.cells) new.cells old.cells ++ relate_clauses rel.equal_faults 1 rel.relates
    ++ initial_values (codes "OLD") 0 old.cells ++ initial_values (codes "NEW") (length old.cells) new.cells
    ++ exclusive_steps (codes "OLD") 0 (paths_of old.cells) old.charts ++ exclusive_steps (codes "NEW") (length old.cells) (paths_of new.cells) new.charts

-- the clause of a candidate by its number, from 0; where there is no candidate, one that never holds
abbrev pub clause_at : List CandidateData → ℕ → Expression
clause_at cs n = (slice_index_or cs n (record { name = []; clause = number (pos 0) })).clause

-- the candidate of a number, from 0, holds on a pair
abbrev pub candidate_holds : List CandidateData → ℕ → Pair → Bool
candidate_holds cs n pair = holds (clause_at cs n) pair
