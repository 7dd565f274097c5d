-- The measure of a run: what is left of the tree, and all that the POUs may do that it may call.
use Rattle.std.proofs.Common.{ℕ, zero, suc, ◌+◌, ◌*◌, List, [], ◌∷◌, slice_index_or}
use Rattle.program_tree.specs.Tree.{Expression, number, cell, unary, chain, call_standard, call_function, Operands, no_operands, operand, Expressions, no_expressions, expression, TransitionData, Statement, assign, call_block, choice, cases, repeat, chart, exit, return, own_body, Statements, no_statements, statement, Choices, no_choices, choose, Entries, no_entries, entry, Actions, no_actions, action, CalledData, block, function}
use Rattle.meaning.specs.Calls.{nothing}

abbrev mutual
  pub nodes : Expression → ℕ
  nodes (number v) = 1
  nodes (cell place) = 1
  nodes (unary o t e) = nodes e + 1
  nodes (chain e os) = nodes e + operand_nodes os + 1
  nodes (call_standard f t es) = all_nodes es + 1
  nodes (call_function f es) = all_nodes es + 2

  pub operand_nodes : Operands → ℕ
  operand_nodes no_operands = 0
  operand_nodes (operand o t e os) = nodes e + operand_nodes os + 1

  pub all_nodes : Expressions → ℕ
  all_nodes no_expressions = 0
  all_nodes (expression e es) = nodes e + all_nodes es + 1

abbrev pub transition_nodes : List TransitionData → ℕ
transition_nodes [] = 0
transition_nodes (t ∷ ts) = nodes t.condition + transition_nodes ts + 2

abbrev mutual
  pub statement_nodes : Statement → ℕ
  statement_nodes (assign target e) = nodes e + 1
  statement_nodes (call_block b offset) = 1
  statement_nodes (choice arms other) = choice_nodes arms + body_nodes other + 1
  statement_nodes (cases kind e es other) = nodes e + entry_nodes es + body_nodes other + 1
  statement_nodes (repeat turns body) = body_nodes body + 1
  statement_nodes (chart steps actions ts) = action_nodes actions + transition_nodes ts + 1
  statement_nodes exit = 1
  statement_nodes return = 1
  statement_nodes (own_body ss) = body_nodes ss + 1

  pub body_nodes : Statements → ℕ
  body_nodes no_statements = 0
  body_nodes (statement t ts) = statement_nodes t + body_nodes ts + 1

  pub choice_nodes : Choices → ℕ
  choice_nodes no_choices = 0
  choice_nodes (choose e ss arms) = nodes e + body_nodes ss + choice_nodes arms + 1

  pub entry_nodes : Entries → ℕ
  entry_nodes no_entries = 0
  entry_nodes (entry labels ss es) = body_nodes ss + entry_nodes es + 1

  pub action_nodes : Actions → ℕ
  action_nodes no_actions = 0
  action_nodes (action latch associations ss rest) = body_nodes ss + action_nodes rest + 1

abbrev pub called_nodes : CalledData → ℕ
called_nodes (block body) = body_nodes body
called_nodes (function types rs start body) = body_nodes body

abbrev pub weight : List CalledData → ℕ → ℕ
weight ps zero = 0
weight ps (suc n) = weight ps n + 2 * called_nodes (slice_index_or ps n nothing) + 1
