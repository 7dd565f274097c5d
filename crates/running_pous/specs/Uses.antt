-- The POUs that expressions and statements use: the FUNCTIONs that they call, and the FUNCTION_BLOCKs whose bodies they run, by their numbers.
use Rattle.std.specs.Prelude.{ℕ, ◌==◌, List, [], ◌∷◌, ◌++◌, Option, Some, None, if◌then◌else◌}
use Rattle.program_tree.specs.declared.typed.Association.{Association}
use Rattle.program_tree.specs.Tree.{Expression, number, cell, unary, chain, call_standard, call_function, Operands, no_operands, operand, Expressions, no_expressions, expression, TransitionData, Statement, assign, call_block, choice, cases, repeat, chart, exit, return, own_body, Statements, no_statements, statement, Choices, no_choices, choose, Entries, no_entries, entry, Actions, no_actions, action, CalledData, block, function}

abbrev mutual
  pub uses_in : Expression → List ℕ
  uses_in (number v) = []
  uses_in (cell place) = []
  uses_in (unary o t e) = uses_in e
  uses_in (chain e os) = uses_in e ++ uses_in_operands os
  uses_in (call_standard f t es) = uses_in_all es
  uses_in (call_function f es) = f ∷ uses_in_all es

  pub uses_in_operands : Operands → List ℕ
  uses_in_operands no_operands = []
  uses_in_operands (operand o t e os) = uses_in e ++ uses_in_operands os

  pub uses_in_all : Expressions → List ℕ
  uses_in_all no_expressions = []
  uses_in_all (expression e es) = uses_in e ++ uses_in_all es

abbrev pub uses_of_transitions : List TransitionData → List ℕ
uses_of_transitions [] = []
uses_of_transitions (t ∷ ts) = uses_in t.condition ++ uses_of_transitions ts

-- what an action uses whose statements use so much: nothing where no step names it and it has no latch, as it never runs
abbrev pub uses_of_action : Option ℕ → List Association → List ℕ → List ℕ
uses_of_action None [] used = []
uses_of_action None (a ∷ more) used = used
uses_of_action (Some place) associations used = used

-- A FOR without turns uses nothing, as none of its statements ever runs.
abbrev mutual
  pub uses_of : Statement → List ℕ
  uses_of (assign target e) = uses_in e
  uses_of (call_block b offset) = b ∷ []
  uses_of (choice arms other) = uses_of_choices arms ++ uses_of_all other
  uses_of (cases kind e es other) = uses_in e ++ (uses_of_entries es ++ uses_of_all other)
  uses_of (repeat turns body) = if turns.count == 0 then [] else uses_of_all body
  uses_of (chart steps actions ts) = uses_of_actions actions ++ uses_of_transitions ts
  uses_of exit = []
  uses_of return = []
  uses_of (own_body ss) = uses_of_all ss

  pub uses_of_all : Statements → List ℕ
  uses_of_all no_statements = []
  uses_of_all (statement t ts) = uses_of t ++ uses_of_all ts

  pub uses_of_choices : Choices → List ℕ
  uses_of_choices no_choices = []
  uses_of_choices (choose e ss arms) = uses_in e ++ (uses_of_all ss ++ uses_of_choices arms)

  pub uses_of_entries : Entries → List ℕ
  uses_of_entries no_entries = []
  uses_of_entries (entry labels ss es) = uses_of_all ss ++ uses_of_entries es

  pub uses_of_actions : Actions → List ℕ
  uses_of_actions no_actions = []
  uses_of_actions (action latch associations ss rest) = uses_of_action latch associations (uses_of_all ss) ++ uses_of_actions rest

-- what the body of a POU uses
abbrev pub uses_of_called : CalledData → List ℕ
uses_of_called (block body) = uses_of_all body
uses_of_called (function types ranges start body) = uses_of_all body
