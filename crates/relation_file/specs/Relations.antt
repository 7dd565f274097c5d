-- The relation that lines state between two programs.
use Rattle.std.specs.Prelude.{ℕ, List, [], ◌∷◌, ◌++◌, length, Bool, true, false, Option, Some, None, unwrap_or, if◌then◌else◌}
use Rattle.std.specs.List.{list_any}
use Rattle.plc_types.specs.declared.elementary.Elementary.TheVariants.{Bool as BoolType}
use Rattle.plc_types.specs.declared.operator.Operator.TheVariants.{Equal}
use Rattle.program_tree.specs.Tree.{Expression, cell, chain, no_operands, operand, CellData, ProgramData}
use Rattle.typing.specs.Typed.{typed}
use Rattle.typing.specs.Programs.{pair_scope}
use Rattle.scan_model.specs.declared.side.Side.{Side}
use Rattle.scan_model.specs.declared.side.Side.TheVariants as sides
use Rattle.scan_model.specs.declared.relation.InputLine.{InputLine}
use Rattle.scan_model.specs.declared.relation.InputLine.TheVariants as inputs_of
use Rattle.scan_model.specs.Pairs.{RelationData}
use Rattle.scan_model.specs.Candidates.{candidates_of}
use Rattle.relation_lines.specs.declared.line.Setting.{Setting}
use Rattle.relation_lines.specs.declared.line.Setting.TheVariants as settings
use Rattle.relation_lines.specs.declared.line.Condition.{Condition}
use Rattle.relation_lines.specs.declared.line.Condition.TheVariants as conditions
use Rattle.relation_lines.specs.Lines.{ContentData, setting, faults, paired, single, clause, LineData}
use Rattle.candidates.specs.ByPath.{cell_named}
use Rattle.candidates.specs.Candidates.{before}

abbrev pub is_setting : Setting → Setting → Bool
is_setting settings.Version settings.Version = true
is_setting settings.Depth settings.Depth = true
is_setting settings.Conflicts settings.Conflicts = true
is_setting _ _ = false

abbrev pub is_condition : Condition → Condition → Bool
is_condition conditions.Environment conditions.Environment = true
is_condition conditions.Relate conditions.Relate = true
is_condition conditions.Invariant conditions.Invariant = true
is_condition _ _ = false

-- the number of a line of this rank
abbrev pub number_of : Setting → ContentData → Option ℕ
number_of wanted (setting s value at) = if is_setting wanted s then Some value else None
number_of wanted (faults equal at) = None
number_of wanted (paired a at b) = None
number_of wanted (single s at a) = None
number_of wanted (clause c e) = None

-- the number of the first line of this rank; where no rule is broken there is one such line
abbrev pub setting_in : Setting → List LineData → ℕ
setting_in wanted [] = 0
setting_in wanted (l ∷ ls) = unwrap_or (number_of wanted l.content) (setting_in wanted ls)

-- FAULTS EQUAL
abbrev pub asks_equal_faults : ContentData → Bool
asks_equal_faults (setting s value at) = false
asks_equal_faults (faults equal at) = equal
asks_equal_faults (paired a at b) = false
asks_equal_faults (single s at a) = false
asks_equal_faults (clause c e) = false

abbrev pub faults_are_equal : List LineData → Bool
faults_are_equal ls = list_any (λ l. asks_equal_faults l.content) ls

-- the number of an INPUT line goes into the cells that it names, and has their range
abbrev pub both_line : Option (ℕ × CellData) → Option (ℕ × CellData) → Option InputLine
both_line (Some (p, a)) (Some (q, b)) = Some (inputs_of.Both a.range p q)
both_line _ _ = None

abbrev pub single_line : Side → Option (ℕ × CellData) → Option InputLine
single_line side None = None
single_line sides.Old (Some (place, c)) = Some (inputs_of.Old c.range place)
single_line sides.New (Some (place, c)) = Some (inputs_of.New c.range place)

-- `old.FAULT = new.FAULT`; FAULT is the first cell of each program, and NEW's stand behind the cells of OLD
abbrev pub equal_faults : ℕ → Expression
equal_faults old_cells = chain (cell 0) (operand Equal BoolType (cell old_cells) no_operands)

-- the clause on FAULT, where faults have to agree
abbrev pub faults_clause : Bool → ℕ → List Expression
faults_clause agree old_cells = if agree then equal_faults old_cells ∷ [] else []

module _ (old new : ProgramData) where
  abbrev pub input_of : ContentData → Option InputLine
  input_of (setting s value at) = None
  input_of (faults equal at) = None
  input_of (paired a at b) = both_line (cell_named a.text old.cells) (cell_named b.text new.cells)
  input_of (single sides.Old at a) = single_line sides.Old (cell_named a.text old.cells)
  input_of (single sides.New at a) = single_line sides.New (cell_named a.text new.cells)
  input_of (clause c e) = None

  abbrev pub inputs_in : List LineData → List InputLine
  inputs_in [] = []
  inputs_in (l ∷ ls) = before (input_of l.content) (inputs_in ls)

  abbrev pub clause_of : Condition → ContentData → Option Expression
  clause_of wanted (setting s value at) = None
  clause_of wanted (faults equal at) = None
  clause_of wanted (paired a at b) = None
  clause_of wanted (single s at a) = None
  clause_of wanted (clause c e) = if is_condition wanted c then Some (typed (pair_scope old new) None e) else None

  abbrev pub clauses_in : Condition → List LineData → List Expression
  clauses_in wanted [] = []
  clauses_in wanted (l ∷ ls) = before (clause_of wanted l.content) (clauses_in wanted ls)

  -- the relation but for its candidates: its numbers, its inputs, and its clauses, the RELATE clauses with that on FAULT last
  abbrev pub clauses_of : List LineData → RelationData
  clauses_of ls = record {
    depth = setting_in settings.Depth ls;
    conflicts = setting_in settings.Conflicts ls;
    inputs = inputs_in ls;
    environment = clauses_in conditions.Environment ls;
    equal_faults = faults_are_equal ls;
    relates = clauses_in conditions.Relate ls ++ faults_clause (faults_are_equal ls) (length old.cells);
    invariants = clauses_in conditions.Invariant ls;
    candidates = [];
  }

  -- the relation that lines state
  abbrev pub relation_of : List LineData → RelationData
  relation_of ls = record (clauses_of ls) { candidates = candidates_of old new (clauses_of ls) }
