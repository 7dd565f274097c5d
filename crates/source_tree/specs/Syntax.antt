-- Trees of a text as plain data. A number beside a part is its place in the text.
use Rattle.std.specs.Prelude.{ℕ, Bool, List, Option}
use Rattle.plc_types.specs.declared.elementary.Elementary.{Elementary}
use Rattle.plc_types.specs.declared.operator.Operator.{Operator}
use Rattle.source_tree.specs.declared.token.Mark.{Mark}
use Rattle.source_tree.specs.declared.token.PartWord.{PartWord}
use Rattle.source_tree.specs.declared.syntax.Literal.{Literal}
use Rattle.plc_types.specs.declared.operator.UnaryOperator.{UnaryOperator}
use Rattle.source_tree.specs.declared.syntax.Section.{Section}

-- A token as the grammar sees it: a name in upper case, a number by its value, and the place where a tree keeps it.
pub data Symbol : Type 0 where
  name : List ℕ → ℕ → Symbol
  number : ℕ → ℕ → Symbol
  truth : Bool → ℕ → Symbol
  elementary : Elementary → ℕ → Symbol
  negation : ℕ → Symbol
  operator : Operator → ℕ → Symbol
  opening : ℕ → Symbol
  iteration : ℕ → Symbol
  exit_word : ℕ → Symbol
  part : PartWord → ℕ → Symbol
  mark : Mark → Symbol
  left_out : ℕ → Symbol

-- a name in upper case
pub record Named : Type 0 where
  pub text : List ℕ
  pub at : ℕ

-- a name, and the names behind points
pub record PathData : Type 0 where
  pub first : Named
  pub members : List Named

-- expressions, what joins operands of one level from left to right, and the arguments of a call, each by place or by name
mutual
  pub data Tree : Type 0 where
    literal : Literal → Tree
    path : PathData → Tree
    enumerator : Named → Named → Tree
    paren : ℕ → Tree → Tree
    unary : UnaryOperator → ℕ → Tree → Tree
    chain : Tree → Links → Tree
    call : Named → ℕ → Arguments → Tree

  pub data Links : Type 0 where
    no_links : Links
    link : Operator → ℕ → Tree → Links → Links

  pub data Arguments : Type 0 where
    no_arguments : Arguments
    argument : Option Named → Tree → Arguments → Arguments

-- what stands in the parentheses of a block's call: the value of an input, or the target that an output is copied to
pub data ConnectionData : Type 0 where
  input : Named → Tree → ConnectionData
  output : Named → PathData → ConnectionData

-- a label of a CASE: a constant, or a range from one to another
pub record LabelData : Type 0 where
  pub low : Tree
  pub high : Option Tree

-- what stands between FOR and DO, and the place of FOR
pub record IterationData : Type 0 where
  pub at : ℕ
  pub control : Named
  pub first : Tree
  pub last : Tree
  pub step : Option Tree

-- Statements. A call of a block has the name of an instance and the place of its parenthesis; an IF has an arm for IF and for
-- each ELSIF, and then what stands behind ELSE; a CASE has entries, each with its labels; an EXIT has its place.
mutual
  pub data Stmt : Type 0 where
    empty : Stmt
    assign : PathData → Tree → Stmt
    invoke : Named → ℕ → List ConnectionData → Stmt
    branch : Arms → Otherwise → Stmt
    cases : Tree → Entries → Otherwise → Stmt
    iterate : IterationData → Stmts → Stmt
    exit : ℕ → Stmt
    return : Stmt

  pub data Stmts : Type 0 where
    no_stmts : Stmts
    stmt : Stmt → Stmts → Stmts

  pub data Arms : Type 0 where
    no_arms : Arms
    arm : Tree → Stmts → Arms → Arms

  pub data Entries : Type 0 where
    no_entries : Entries
    entry : List LabelData → Stmts → Entries → Entries

  pub data Otherwise : Type 0 where
    no_else : Otherwise
    else_stmts : Stmts → Otherwise

-- the bounds of a subrange, and the place of the parenthesis before them
pub record BoundsData : Type 0 where
  pub at : ℕ
  pub low : Tree
  pub high : Tree

-- the type of a declared variable
pub data TypeData : Type 0 where
  of_elementary : Elementary → ℕ → TypeData
  of_subrange : Elementary → ℕ → BoundsData → TypeData
  of_name : Named → TypeData

-- what a declared type is: a type as that of a variable, or an enumeration, with the place of its parenthesis, its first value
-- and the others
pub data SpecificationData : Type 0 where
  of_type : TypeData → SpecificationData
  of_values : ℕ → Named → List Named → SpecificationData

pub record TypeDeclarationData : Type 0 where
  pub name : Named
  pub specification : SpecificationData

-- variables of one type, and the value that they begin with
pub record DeclarationData : Type 0 where
  pub first : Named
  pub others : List Named
  pub kind : TypeData
  pub initial : Option Tree

-- from VAR or another such word to END_VAR
pub record VariablesData : Type 0 where
  pub section : Section
  pub declarations : List DeclarationData

-- parentheses behind the name of an action in a step, by the place of the first, and the word in them, where there is one
pub record BracketsData : Type 0 where
  pub at : ℕ
  pub word : Option Named

-- an action that is associated with a step
pub record StepActionData : Type 0 where
  pub action : Named
  pub brackets : Option BracketsData

-- a step, and the place of the word that begins it
pub record ChartStepData : Type 0 where
  pub at : ℕ
  pub is_initial : Bool
  pub name : Named
  pub actions : List StepActionData

-- the steps before or behind a transition: one; or in parentheses, by the place of the first, a first and others
pub data StepsData : Type 0 where
  one_step : Named → StepsData
  several_steps : ℕ → Named → List Named → StepsData

-- a priority: the places of the parenthesis and of the word, and the number with its place
pub record PriorityData : Type 0 where
  pub at : ℕ
  pub word_at : ℕ
  pub value : ℕ
  pub value_at : ℕ

-- a transition, and the place of TRANSITION
pub record ChartTransitionData : Type 0 where
  pub at : ℕ
  pub name : Option Named
  pub priority : Option PriorityData
  pub from : StepsData
  pub to : StepsData
  pub condition : Tree

-- an action, and the place of ACTION
pub record ChartActionData : Type 0 where
  pub at : ℕ
  pub name : Named
  pub body : Stmts

-- a part of a chart
pub data PartData : Type 0 where
  step_part : ChartStepData → PartData
  transition_part : ChartTransitionData → PartData
  action_part : ChartActionData → PartData

-- what a POU does: statements, or a chart, by its parts in the order of the text
pub data BodyData : Type 0 where
  statements : Stmts → BodyData
  chart : List PartData → BodyData

-- what a POU is: a FUNCTION, with the type of its result, a FUNCTION_BLOCK, or a PROGRAM
pub data PouTypeData : Type 0 where
  function : TypeData → PouTypeData
  function_block : PouTypeData
  program : PouTypeData

pub record PouData : Type 0 where
  pub pou_type : PouTypeData
  pub name : Named
  pub variables : List VariablesData
  pub body : BodyData

-- what a file declares in one place: types, or a POU
pub data ItemData : Type 0 where
  types : List TypeDeclarationData → ItemData
  pou : PouData → ItemData

-- all that a text declares, in its order
abbrev pub FileData : Type 0
FileData = List ItemData
