-- Which statements may leave the list in which they stand: by an EXIT, which the innermost FOR around it ends, or by a RETURN, which the innermost
-- body of its own ends (IEC 61131-3, 3.3.2.1 and 3.3.2.4).
use Rattle.std.specs.Prelude.{◌≡◌, Bool, true, false, ◌||◌, if◌then◌else◌}
use Rattle.program_tree.specs.Tree.{Statement, assign, call_block, choice, cases, repeat, chart, exit, return, own_body, Statements, no_statements, statement, Choices, no_choices, choose, Entries, no_entries, entry, Actions, no_actions, action}

abbrev mutual
  pub can_exit : Statement → Bool
  can_exit (assign target e) = false
  can_exit (call_block b offset) = false
  can_exit (choice arms other) = can_exit_choices arms || can_exit_all other
  can_exit (cases kind e es other) = can_exit_entries es || can_exit_all other
  can_exit (repeat turns body) = false
  can_exit (chart steps actions ts) = can_exit_actions actions
  can_exit exit = true
  can_exit return = false
  can_exit (own_body ss) = can_exit_all ss

  pub can_exit_all : Statements → Bool
  can_exit_all no_statements = false
  can_exit_all (statement t ts) = can_exit t || can_exit_all ts

  pub can_exit_choices : Choices → Bool
  can_exit_choices no_choices = false
  can_exit_choices (choose e ss arms) = can_exit_all ss || can_exit_choices arms

  pub can_exit_entries : Entries → Bool
  can_exit_entries no_entries = false
  can_exit_entries (entry labels ss es) = can_exit_all ss || can_exit_entries es

  pub can_exit_actions : Actions → Bool
  can_exit_actions no_actions = false
  can_exit_actions (action latch associations ss rest) = can_exit_all ss || can_exit_actions rest

abbrev mutual
  pub can_return : Statement → Bool
  can_return (assign target e) = false
  can_return (call_block b offset) = false
  can_return (choice arms other) = can_return_choices arms || can_return_all other
  can_return (cases kind e es other) = can_return_entries es || can_return_all other
  can_return (repeat turns body) = can_return_all body
  can_return (chart steps actions ts) = can_return_actions actions
  can_return exit = false
  can_return return = true
  can_return (own_body ss) = false

  pub can_return_all : Statements → Bool
  can_return_all no_statements = false
  can_return_all (statement t ts) = can_return t || can_return_all ts

  pub can_return_choices : Choices → Bool
  can_return_choices no_choices = false
  can_return_choices (choose e ss arms) = can_return_all ss || can_return_choices arms

  pub can_return_entries : Entries → Bool
  can_return_entries no_entries = false
  can_return_entries (entry labels ss es) = can_return_all ss || can_return_entries es

  pub can_return_actions : Actions → Bool
  can_return_actions no_actions = false
  can_return_actions (action latch associations ss rest) = can_return_all ss || can_return_actions rest

-- neither an EXIT nor a RETURN leaves a list
abbrev pub LeavesNothing : Statements → Type 0
LeavesNothing ss = (can_exit_all ss ≡ false) × (can_return_all ss ≡ false)

-- The statements of a POU or of an action. A RETURN ends them, and what stands around them goes on; without one they stand for themselves.
abbrev pub in_own_body : Statements → Statements
in_own_body ss = if can_return_all ss then statement (own_body ss) no_statements else ss
