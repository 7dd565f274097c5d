-- How many cells calls and charts take at once.
use Rattle.std.specs.Prelude.{ℕ, zero, suc, ◌+◌, ◌*◌, List, length, slice_index_or}
use Rattle.program_tree.specs.Tree.{Statement, assign, call_block, choice, cases, repeat, chart, exit, return, own_body, Statements, no_statements, statement, Choices, no_choices, choose, Entries, no_entries, entry, Actions, no_actions, action, CalledData, block, function}
use Rattle.meaning.specs.Calls.{nothing}

-- a chart keeps four markings while it runs
abbrev mutual
  pub markings_in : Statement → ℕ
  markings_in (assign target e) = 0
  markings_in (call_block b offset) = 0
  markings_in (choice arms other) = markings_in_choices arms + markings_in_all other
  markings_in (cases kind e es other) = markings_in_entries es + markings_in_all other
  markings_in (repeat turns body) = markings_in_all body
  markings_in (chart steps actions ts) = 4 * length steps + markings_in_actions actions
  markings_in exit = 0
  markings_in return = 0
  markings_in (own_body ss) = markings_in_all ss

  pub markings_in_all : Statements → ℕ
  markings_in_all no_statements = 0
  markings_in_all (statement t ts) = markings_in t + markings_in_all ts

  pub markings_in_choices : Choices → ℕ
  markings_in_choices no_choices = 0
  markings_in_choices (choose e ss arms) = markings_in_all ss + markings_in_choices arms

  pub markings_in_entries : Entries → ℕ
  markings_in_entries no_entries = 0
  markings_in_entries (entry labels ss es) = markings_in_all ss + markings_in_entries es

  pub markings_in_actions : Actions → ℕ
  markings_in_actions no_actions = 0
  markings_in_actions (action latch associations ss rest) = markings_in_all ss + markings_in_actions rest

-- a call of a FUNCTION has cells of its own
abbrev pub room_of : CalledData → ℕ
room_of (block body) = markings_in_all body
room_of (function types rs start body) = length start + markings_in_all body

-- the room for a call of each of the first so many POUs
abbrev pub room_for : List CalledData → ℕ → ℕ
room_for ps zero = 0
room_for ps (suc n) = room_for ps n + room_of (slice_index_or ps n nothing)
