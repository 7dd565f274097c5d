-- Programs as plain data. Paths and names are in upper case, and a variable is the place of its cell.
use Rattle.std.specs.Prelude.{ℕ, ℤ, List, Bool, Option}
use Rattle.plc_types.specs.declared.elementary.Elementary.{Elementary}
use Rattle.plc_types.specs.declared.data_type.DataType.{DataType}
use Rattle.plc_types.specs.declared.operator.Operator.{Operator}
use Rattle.plc_types.specs.declared.operator.UnaryOperator.{UnaryOperator}
use Rattle.plc_types.specs.declared.function.Function.{Function}
use Rattle.program_tree.specs.declared.typed.Part.{Part}
use Rattle.plc_types.specs.declared.range.Range.{Range}
use Rattle.program_tree.specs.declared.typed.TypedLabel.{TypedLabel}
use Rattle.program_tree.specs.declared.typed.CellType.{CellType}
use Rattle.program_tree.specs.declared.typed.ChartCells.{ChartCells}
use Rattle.program_tree.specs.declared.typed.Turns.{Turns}
use Rattle.program_tree.specs.declared.typed.StepCells.{StepCells}
use Rattle.program_tree.specs.declared.typed.Association.{Association}

-- expressions, operands of one level that are joined from left to right, and the operands of a standard function; a call of a
-- FUNCTION names it by its number among the POUs that may be called, and has the values of its inputs in declared order
mutual
  pub data Expression : Type 0 where
    number : ℤ → Expression
    cell : ℕ → Expression
    unary : UnaryOperator → Elementary → Expression → Expression
    chain : Expression → Operands → Expression
    call_standard : Function → Elementary → Expressions → Expression
    call_function : ℕ → Expressions → Expression

  pub data Operands : Type 0 where
    no_operands : Operands
    operand : Operator → Elementary → Expression → Operands → Operands

  pub data Expressions : Type 0 where
    no_expressions : Expressions
    expression : Expression → Expressions → Expressions

-- a transition of a chart: the steps before and behind it, by their numbers, and its condition
pub record TransitionData : Type 0 where
  pub from : List ℕ
  pub to : List ℕ
  pub condition : Expression

-- statements: an assignment, a call of a block, which runs the body of a FUNCTION_BLOCK, by its number, over the cells of an instance, which begin at a place,
-- an IF with its conditions and what runs where none is TRUE, a CASE with the type of its selector, its entries and what runs where none fits, a FOR by its
-- turns, and a chart, with its steps and actions in the order of the text and its transitions in the order in which they fire. An
-- action has the cell of its latch, where it has one, its associations with steps, and its statements. EXIT leaves the innermost FOR, and RETURN
-- the innermost body of its own, which has the statements of a POU or of an action.
mutual
  pub data Statement : Type 0 where
    assign : ℕ → Expression → Statement
    call_block : ℕ → ℕ → Statement
    choice : Choices → Statements → Statement
    cases : Elementary → Expression → Entries → Statements → Statement
    repeat : Turns → Statements → Statement
    chart : List StepCells → Actions → List TransitionData → Statement
    exit : Statement
    return : Statement
    own_body : Statements → Statement

  pub data Statements : Type 0 where
    no_statements : Statements
    statement : Statement → Statements → Statements

  pub data Choices : Type 0 where
    no_choices : Choices
    choose : Expression → Statements → Choices → Choices

  pub data Entries : Type 0 where
    no_entries : Entries
    entry : List TypedLabel → Statements → Entries → Entries

  pub data Actions : Type 0 where
    no_actions : Actions
    action : Option ℕ → List Association → Statements → Actions → Actions

-- a cell: its path, its part, its type, its range, whether its type is a subrange, and the value that it begins with
pub record CellData : Type 0 where
  pub path : List ℕ
  pub part : Part
  pub kind : DataType
  pub range : Range
  pub is_subrange : Bool
  pub initial : ℤ

-- A POU that may be called: the body of a FUNCTION_BLOCK, over the cells of an instance, from place 0 on; or the cells of a
-- FUNCTION, which each call has anew, by their types, their ranges and the values that they begin with, and its body. Those cells
-- are FAULT, what the FUNCTION answers, its inputs in declared order, and its other variables.
pub data CalledData : Type 0 where
  block : Statements → CalledData
  function : List CellType → List Range → List ℤ → Statements → CalledData

-- a PROGRAM: its name, its cells, FAULT first, its charts and those of its instances, in the order of their cells, the names of its
-- constants and instances, which are no cells, the names of the values of each type that its file declares, which only an enumeration
-- has, the POUs that it may call, and its body
pub record ProgramData : Type 0 where
  pub name : List ℕ
  pub cells : List CellData
  pub charts : List ChartCells
  pub without_cell : List (List ℕ)
  pub types : List (List (List ℕ))
  pub called : List CalledData
  pub body : Statements
