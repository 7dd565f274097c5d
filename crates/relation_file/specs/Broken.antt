-- The rules on the lines of a relation file. A line one of whose parts breaks a rule breaks none itself; the file
-- as a whole is no such construct.
use Rattle.std.specs.Prelude.{ℕ, List, [], ◌∷◌, ◌++◌, not, ◌&&◌}
use Rattle.rules.specs.declared.rule.Rule.TheVariants.{LineOrder, NumberLimits, InputsDiffer, InputCount}
use Rattle.rules.specs.declared.rule.Refusal.{Refusal}
use Rattle.source_tree.specs.Syntax.{Named}
use Rattle.plc_types.specs.Enumerations.{paired_type}
use Rattle.program_tree.specs.Tree.{ProgramData}
use Rattle.scan_model.specs.declared.side.Side.{Side}
use Rattle.scan_model.specs.declared.side.Side.TheVariants as sides
use Rattle.typing.specs.Judged.{judged_clause}
use Rattle.typing.specs.Programs.{pair_scope}
use Rattle.relation_lines.specs.Lines.{ContentData, setting, faults, paired, single, clause, LineData}
use Rattle.relation_file.specs.Refusals.{unless, or_own}
use Rattle.relation_file.specs.Order.{is_out_of_order, has_needed, in_limits}
use Rattle.candidates.specs.ByPath.{cell_named, is_among}
use Rattle.relation_file.specs.Inputs.{names_in, broken_input, are_alike, all_listed}
use Rattle.relation_file.specs.Clauses.{broken_names}

module _ (old new : ProgramData) where
  abbrev pub program_at : Side → ProgramData
  program_at sides.Old = old
  program_at sides.New = new

  -- what a name of an INPUT line breaks, behind the lines before
  abbrev pub broken_name : Side → List LineData → Named → List Refusal
  broken_name side before n = broken_input (names_in side before) (program_at side) n

  -- P1, at the first name, where two inputs that break nothing are not alike
  abbrev pub broken_pair : List LineData → Named → Named → List Refusal
  broken_pair before a b =
      or_own (broken_name sides.Old before a ++ broken_name sides.New before b) (unless (are_alike (paired_type old.types new.types) (cell_named a.text old.cells) (cell_named b.text new.cells)) InputsDiffer a.at)

  -- what the parts of a line break: R2 its number, N2, N4, P2 and P1 its inputs, R3 and N2 the names of its clause
  abbrev pub broken_parts : List LineData → ContentData → List Refusal
  broken_parts before (setting s value at) = unless (in_limits s value) NumberLimits at
  broken_parts before (faults equal at) = []
  broken_parts before (paired a at b) = broken_pair before a b
  broken_parts before (single side at a) = broken_name side before a
  broken_parts before (clause c e) = broken_names (pair_scope old new) e

  -- R1, at the line's first word, where a line whose parts break nothing stands out of order
  abbrev pub broken_line : List LineData → LineData → List Refusal
  broken_line before l = or_own (broken_parts before l.content) (unless (not (is_out_of_order l.content before)) LineOrder l.at)

  -- at the file's end: R1 where a line is missing, and P2 where an input is
  abbrev pub missing_ranks : ℕ → List LineData → List Refusal
  missing_ranks end ls = unless (has_needed ls) LineOrder end

  abbrev pub missing_inputs : ℕ → List LineData → List Refusal
  missing_inputs end ls =
      unless (all_listed (is_among (names_in sides.Old ls)) old.cells && all_listed (is_among (names_in sides.New ls)) new.cells) InputCount end

  -- what lines break behind those before, which stand nearest first, and then what is missing
  abbrev pub broken_behind : ℕ → List LineData → List LineData → List Refusal
  broken_behind end before [] = missing_ranks end before ++ missing_inputs end before
  broken_behind end before (l ∷ ls) = broken_line before l ++ broken_behind end (l ∷ before) ls

  -- all that the lines of a file of `end` bytes break of the rules on lines and names
  abbrev pub broken_lines : ℕ → List LineData → List Refusal
  broken_lines end ls = broken_behind end [] ls

  -- all that the clauses break of the rules on types
  abbrev pub broken_content : ContentData → List Refusal
  broken_content (setting s value at) = []
  broken_content (faults equal at) = []
  broken_content (paired a at b) = []
  broken_content (single s at a) = []
  broken_content (clause c e) = (judged_clause (pair_scope old new) e).broken

  abbrev pub broken_clauses : List LineData → List Refusal
  broken_clauses [] = []
  broken_clauses (l ∷ ls) = broken_content l.content ++ broken_clauses ls
