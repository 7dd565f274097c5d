-- Which trees are levelled: operators of one level stand in one chain, and tighter ones inside it.
use Rattle.std.specs.Prelude.{◌≡◌, ◌<◌, ℕ, Bool, true, false, List, [], ◌∷◌, Option, Some, None, is_some}
use Rattle.plc_types.specs.declared.operator.Operator.{Operator}
use Rattle.plc_types.specs.declared.operator.Operator.TheVariants as ops
use Rattle.plc_types.specs.declared.operator.UnaryOperator.TheVariants as signs
use Rattle.source_tree.specs.declared.syntax.Literal.TheVariants as literals
use Rattle.source_tree.specs.declared.syntax.Section.{Section}
use Rattle.source_tree.specs.declared.syntax.Section.TheVariants as sections
use Rattle.source_tree.specs.Syntax.{Tree, literal, path, enumerator, paren, unary, chain, call, Links, no_links, link, Arguments, no_arguments, argument, ConnectionData, input, output, Stmt, empty, assign, invoke, branch, cases, iterate, exit, return, Stmts, no_stmts, stmt, Arms, no_arms, arm, Entries, no_entries, entry, Otherwise, no_else, else_stmts, LabelData, IterationData, TypeData, of_elementary, of_subrange, of_name, SpecificationData, of_type, of_values, TypeDeclarationData, DeclarationData, VariablesData, PartData, step_part, transition_part, action_part, BodyData, statements, chart as chart_body, PouTypeData, function, function_block, program, PouData, ItemData, types, pou, FileData}

-- how loosely an operator binds
abbrev pub level_of : Operator → ℕ
level_of ops.Or = 7
level_of ops.Xor = 6
level_of ops.And = 5
level_of ops.Equal = 4
level_of ops.NotEqual = 4
level_of ops.Less = 3
level_of ops.Greater = 3
level_of ops.LessEqual = 3
level_of ops.GreaterEqual = 3
level_of ops.Plus = 2
level_of ops.Minus = 2
level_of ops.Times = 1
level_of ops.Divide = 1
level_of ops.Mod = 1

-- the level of a tree's loosest operator outside parentheses, 0 where it has none
abbrev pub links_level : Links → ℕ
links_level no_links = 0
links_level (link o at e ls) = level_of o

abbrev pub level : Tree → ℕ
level (literal l) = 0
level (path p) = 0
level (enumerator t v) = 0
level (paren at e) = 0
level (unary o at e) = 0
level (chain e ls) = links_level ls
level (call n at args) = 0

abbrev pub IsPrimary : Tree → Type 0
IsPrimary (literal l) = Unit {0}
IsPrimary (path p) = Unit {0}
IsPrimary (enumerator t v) = Unit {0}
IsPrimary (paren at e) = Unit {0}
IsPrimary (unary o at e) = ⊥
IsPrimary (chain e ls) = ⊥
IsPrimary (call n at args) = Unit {0}

-- whether the first argument is by name; it decides for all
abbrev pub are_named : Arguments → Bool
are_named no_arguments = false
are_named (argument n e args) = is_some n

-- A chain has at least one operator, all of its operators are of one level, and its operands are tighter; the
-- operand of a unary operator is a primary; the arguments of a call are all by place or all by name.
abbrev mutual
  pub IsLevelled : Tree → Type 0
  IsLevelled (literal l) = Unit {0}
  IsLevelled (path p) = Unit {0}
  IsLevelled (enumerator t v) = Unit {0}
  IsLevelled (paren at e) = IsLevelled e
  IsLevelled (unary o at e) = IsPrimary e × IsLevelled e
  IsLevelled (chain e no_links) = ⊥
  IsLevelled (chain e (link o at f ls)) = (level e < level_of o) × IsLevelled e × (level f < level_of o) × IsLevelled f × AreOfLevel (level_of o) ls
  IsLevelled (call n at args) = AreOfForm (are_named args) args

  pub AreOfLevel : ℕ → Links → Type 0
  AreOfLevel k no_links = Unit {0}
  AreOfLevel k (link o at e ls) = (level_of o ≡ k) × (level e < k) × IsLevelled e × AreOfLevel k ls

  pub AreOfForm : Bool → Arguments → Type 0
  AreOfForm named no_arguments = Unit {0}
  AreOfForm named (argument n e args) = (is_some n ≡ named) × IsLevelled e × AreOfForm named args

abbrev pub AreConnectionsLevelled : List ConnectionData → Type 0
AreConnectionsLevelled [] = Unit {0}
AreConnectionsLevelled (input n e ∷ cs) = IsLevelled e × AreConnectionsLevelled cs
AreConnectionsLevelled (output n p ∷ cs) = AreConnectionsLevelled cs

-- what may be an initial value or a label: a literal, `-` and a literal, a name, or `type#value`
abbrev pub IsConstant : Tree → Type 0
IsConstant (literal l) = Unit {0}
IsConstant (path p) = p.members ≡ []
IsConstant (enumerator t v) = Unit {0}
IsConstant (paren at e) = ⊥
IsConstant (unary signs.Minus at (literal l)) = Unit {0}
IsConstant (unary o at e) = ⊥
IsConstant (chain e ls) = ⊥
IsConstant (call n at args) = ⊥

abbrev pub IsInitialFormed : Option Tree → Type 0
IsInitialFormed None = Unit {0}
IsInitialFormed (Some e) = IsConstant e

-- a label's bounds are constants, and an entry of a CASE has at least one label
abbrev pub IsLabelFormed : LabelData → Type 0
IsLabelFormed l = IsConstant l.low × IsInitialFormed l.high

abbrev pub AreLabelsFormed : List LabelData → Type 0
AreLabelsFormed [] = Unit {0}
AreLabelsFormed (l ∷ ls) = IsLabelFormed l × AreLabelsFormed ls

abbrev pub AreLabels : List LabelData → Type 0
AreLabels [] = ⊥
AreLabels (l ∷ ls) = IsLabelFormed l × AreLabelsFormed ls

abbrev pub IsStepLevelled : Option Tree → Type 0
IsStepLevelled None = Unit {0}
IsStepLevelled (Some e) = IsLevelled e

abbrev pub IsIterationLevelled : IterationData → Type 0
IsIterationLevelled i = IsLevelled i.first × IsLevelled i.last × IsStepLevelled i.step

-- statements of levelled expressions, each IF with at least one arm, and each CASE with at least one entry
abbrev mutual
  pub IsStmtLevelled : Stmt → Type 0
  IsStmtLevelled empty = Unit {0}
  IsStmtLevelled (assign p e) = IsLevelled e
  IsStmtLevelled (invoke n at cs) = AreConnectionsLevelled cs
  IsStmtLevelled (branch no_arms other) = ⊥
  IsStmtLevelled (branch (arm e ss arms) other) = IsLevelled e × AreStmtsLevelled ss × AreArmsLevelled arms × IsElseLevelled other
  IsStmtLevelled (cases e no_entries other) = ⊥
  IsStmtLevelled (cases e (entry ls ss es) other) = IsLevelled e × AreLabels ls × AreStmtsLevelled ss × AreEntriesLevelled es × IsElseLevelled other
  IsStmtLevelled (iterate i ss) = IsIterationLevelled i × AreStmtsLevelled ss
  IsStmtLevelled (exit at) = Unit {0}
  IsStmtLevelled return = Unit {0}

  pub AreStmtsLevelled : Stmts → Type 0
  AreStmtsLevelled no_stmts = Unit {0}
  AreStmtsLevelled (stmt s ss) = IsStmtLevelled s × AreStmtsLevelled ss

  pub AreArmsLevelled : Arms → Type 0
  AreArmsLevelled no_arms = Unit {0}
  AreArmsLevelled (arm e ss arms) = IsLevelled e × AreStmtsLevelled ss × AreArmsLevelled arms

  pub AreEntriesLevelled : Entries → Type 0
  AreEntriesLevelled no_entries = Unit {0}
  AreEntriesLevelled (entry ls ss es) = AreLabels ls × AreStmtsLevelled ss × AreEntriesLevelled es

  pub IsElseLevelled : Otherwise → Type 0
  IsElseLevelled no_else = Unit {0}
  IsElseLevelled (else_stmts ss) = AreStmtsLevelled ss

-- the bounds of a subrange are constants
abbrev pub IsTypeFormed : TypeData → Type 0
IsTypeFormed (of_elementary kind at) = Unit {0}
IsTypeFormed (of_subrange kind at b) = IsConstant b.low × IsConstant b.high
IsTypeFormed (of_name n) = Unit {0}

abbrev pub AreDeclarationsFormed : List DeclarationData → Type 0
AreDeclarationsFormed [] = Unit {0}
AreDeclarationsFormed (d ∷ ds) = IsTypeFormed d.kind × IsInitialFormed d.initial × AreDeclarationsFormed ds

abbrev pub IsSpecificationFormed : SpecificationData → Type 0
IsSpecificationFormed (of_type t) = IsTypeFormed t
IsSpecificationFormed (of_values at first others) = Unit {0}

abbrev pub AreTypesFormed : List TypeDeclarationData → Type 0
AreTypesFormed [] = Unit {0}
AreTypesFormed (d ∷ ds) = IsSpecificationFormed d.specification × AreTypesFormed ds

abbrev pub AreVariablesFormed : List VariablesData → Type 0
AreVariablesFormed [] = Unit {0}
AreVariablesFormed (v ∷ vs) = AreDeclarationsFormed v.declarations × AreVariablesFormed vs

-- a FUNCTION's result is no subrange that is spelled out
abbrev pub IsResultFormed : PouTypeData → Type 0
IsResultFormed (function (of_elementary kind at)) = Unit {0}
IsResultFormed (function (of_subrange kind at b)) = ⊥
IsResultFormed (function (of_name n)) = Unit {0}
IsResultFormed function_block = Unit {0}
IsResultFormed program = Unit {0}

-- a FUNCTION has VAR_INPUT, VAR and VAR CONSTANT alone
abbrev pub is_section_of_function : Section → Bool
is_section_of_function sections.Input = true
is_section_of_function sections.Output = false
is_section_of_function sections.Local = true
is_section_of_function sections.Temporary = false
is_section_of_function sections.Constant = true

abbrev pub AreSectionsOfFunction : List VariablesData → Type 0
AreSectionsOfFunction [] = Unit {0}
AreSectionsOfFunction (v ∷ vs) = (is_section_of_function v.section ≡ true) × AreSectionsOfFunction vs

abbrev pub HasSections : PouTypeData → List VariablesData → Type 0
HasSections (function t) vs = AreSectionsOfFunction vs
HasSections function_block vs = Unit {0}
HasSections program vs = Unit {0}

-- the conditions of transitions and the statements of actions are levelled
abbrev pub IsPartLevelled : PartData → Type 0
IsPartLevelled (step_part s) = Unit {0}
IsPartLevelled (transition_part t) = IsLevelled t.condition
IsPartLevelled (action_part a) = AreStmtsLevelled a.body

abbrev pub ArePartsLevelled : List PartData → Type 0
ArePartsLevelled [] = Unit {0}
ArePartsLevelled (p ∷ ps) = IsPartLevelled p × ArePartsLevelled ps

-- a chart has at least one part
abbrev pub IsBodyLevelled : BodyData → Type 0
IsBodyLevelled (statements ss) = AreStmtsLevelled ss
IsBodyLevelled (chart_body []) = ⊥
IsBodyLevelled (chart_body (p ∷ ps)) = IsPartLevelled p × ArePartsLevelled ps

-- what a FUNCTION does is no chart
abbrev pub MayDo : PouTypeData → BodyData → Type 0
MayDo k (statements ss) = Unit {0}
MayDo (function t) (chart_body ps) = ⊥
MayDo function_block (chart_body ps) = Unit {0}
MayDo program (chart_body ps) = Unit {0}

abbrev pub IsItemLevelled : ItemData → Type 0
IsItemLevelled (types ds) = AreTypesFormed ds
IsItemLevelled (pou p) = IsResultFormed p.pou_type × HasSections p.pou_type p.variables × AreVariablesFormed p.variables × MayDo p.pou_type p.body × IsBodyLevelled p.body

abbrev pub IsFileLevelled : FileData → Type 0
IsFileLevelled [] = Unit {0}
IsFileLevelled (i ∷ is) = IsItemLevelled i × IsFileLevelled is
