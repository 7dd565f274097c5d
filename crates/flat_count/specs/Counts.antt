-- How many flat statements a statement becomes, without its flat list, where the bodies of POUs become so many.
use Rattle.std.specs.Prelude.{ℕ, zero, suc, ◌+◌, ◌*◌, ◌==◌, ◌≡◌, ◌||◌, Bool, true, false, min, List, [], ◌∷◌, length, Option, None, Some, slice_index_or, if◌then◌else◌}
use Rattle.program_tree.specs.declared.typed.Association.{Association}
use Rattle.program_tree.specs.Tree.{Expression, number, cell, unary, chain, call_standard, call_function, Operands, no_operands, operand, Expressions, no_expressions, expression, Statement, assign, call_block, choice, cases, repeat, chart, exit, return, own_body, Statements, no_statements, statement, Choices, no_choices, choose, Entries, no_entries, entry, TransitionData, Actions, no_actions, action, CalledData}
use Rattle.meaning.specs.Calls.{nothing}
use Rattle.program_tree.specs.Leaving.{can_exit, can_exit_all, can_return, can_return_all}
use Rattle.program_tree.specs.View.{all_called_view}
use Rattle.program_tree.specs.OperandTypes.{arity}
use Rattle.meaning.specs.Frames.{FrameData, frames_of, function_body, type_at}
use Rattle.flat_count.specs.declared.counts.Counts.{Counts}
use Rattle.flat_form.specs.Frames.{others_behind}
use Rattle.flat_form.specs.Pous.{block_body}

-- by the number of a POU: its frame, and how many statements the run of a FUNCTION_BLOCK becomes, and the body of a FUNCTION
pub record Counting : Type 0 where
  pub frame : ℕ → FrameData
  pub runs : ℕ → ℕ
  pub bodies : ℕ → ℕ

-- an input of a subrange is started
abbrev pub count_of_start : FrameData → ℕ → ℕ
count_of_start frame place = if (type_at frame.types place).is_subrange then 1 else 0

-- the statements that an expression's calls become: a call starts its other variables and its answer, and runs its body
abbrev mutual
  pub count_in : Counting → Expression → ℕ
  count_in c (number v) = 0
  count_in c (cell place) = 0
  count_in c (unary o t e) = count_in c e
  count_in c (chain e os) = count_in c e + count_in_operands c os
  count_in c (call_standard f t es) = count_in_all c es
  count_in c (call_function f es) = count_in_inputs c (c.frame f) 2 es + (others_behind (c.frame f) (arity es) + (1 + c.bodies f))

  pub count_in_operands : Counting → Operands → ℕ
  count_in_operands c no_operands = 0
  count_in_operands c (operand o t e os) = count_in c e + count_in_operands c os

  pub count_in_all : Counting → Expressions → ℕ
  count_in_all c no_expressions = 0
  count_in_all c (expression e es) = count_in c e + count_in_all c es

  pub count_in_inputs : Counting → FrameData → ℕ → Expressions → ℕ
  count_in_inputs c frame place no_expressions = 0
  count_in_inputs c frame place (expression e es) = count_in c e + (count_of_start frame place + 1) + count_in_inputs c frame (place + 1) es

-- A chart sets each latch. It tries each transition, whose condition runs behind another test, and sets a flag of each step that it
-- leaves or enters.
abbrev pub count_of_latch : Option ℕ → ℕ
count_of_latch None = 0
count_of_latch (Some place) = 1

abbrev pub count_of_latches : Actions → ℕ
count_of_latches no_actions = 0
count_of_latches (action latch associations ss rest) = count_of_latch latch + count_of_latches rest

abbrev pub count_of_transition : Counting → TransitionData → ℕ
count_of_transition c t = 2 + count_in c t.condition + (length t.from + length t.to)

abbrev pub count_of_transitions : Counting → List TransitionData → ℕ
count_of_transitions c [] = 0
count_of_transitions c (t ∷ ts) = count_of_transition c t + count_of_transitions c ts

-- an action with associations is a test and its statements
abbrev pub count_of_associated : List Association → ℕ → ℕ
count_of_associated [] n = 0
count_of_associated (a ∷ more) n = 1 + n

-- a FOR with an EXIT of its own, and a body with a RETURN of its own, clear a flag
abbrev pub count_of_flag : Bool → ℕ
count_of_flag true = 1
count_of_flag false = 0

-- statements behind one that may leave are asked for where there are any
abbrev pub count_unless : Bool → ℕ → ℕ
count_unless true zero = 0
count_unless true (suc n) = 1 + suc n
count_unless false n = n

abbrev mutual
  pub count_of : Counting → Statement → ℕ
  count_of c (assign target e) = count_in c e + 1
  count_of c (call_block b offset) = c.runs b
  count_of c (choice arms other) = count_of_choices c arms + count_of_all c other
  count_of c (cases kind e es other) = count_in c e + 1 + count_of_entries c es + count_of_all c other
  -- each turn, and the statement behind the last, are asked for where the body may leave
  count_of c (repeat turns body) =
      count_of_flag (can_exit_all body)
      + (turns.count * count_unless (can_exit_all body || can_return_all body) (1 + count_of_all c body) + count_unless (can_exit_all body || can_return_all body) 1)
  -- each step has two flags that are cleared, and two cells that are marked
  count_of c (chart steps actions ts) = count_of_latches actions + (count_of_actions c actions + (4 * length steps + count_of_transitions c ts))
  count_of c exit = 1
  count_of c return = 1
  count_of c (own_body ss) = count_of_flag (can_return_all ss) + count_of_all c ss

  pub count_of_all : Counting → Statements → ℕ
  count_of_all c no_statements = 0
  count_of_all c (statement t ts) = count_of c t + count_unless (can_exit t || can_return t) (count_of_all c ts)

  pub count_of_choices : Counting → Choices → ℕ
  count_of_choices c no_choices = 0
  count_of_choices c (choose e ss arms) = count_in c e + (1 + count_of_all c ss) + count_of_choices c arms

  pub count_of_entries : Counting → Entries → ℕ
  count_of_entries c no_entries = 0
  count_of_entries c (entry labels ss es) = 1 + count_of_all c ss + count_of_entries c es

  pub count_of_actions : Counting → Actions → ℕ
  count_of_actions c no_actions = 0
  count_of_actions c (action latch associations ss rest) = count_of_associated associations (count_of_all c ss) + count_of_actions c rest

-- the first so many POUs
abbrev pub counting_of : List CalledData → ℕ → Counting
counting_of ps zero = record { frame = frames_of ps; runs = λ b. 0; bodies = λ f. 0 }
counting_of ps (suc n) = record {
  frame = frames_of ps;
  runs = λ b. if b == n then count_of_all (counting_of ps n) (block_body (slice_index_or ps n nothing)) else (counting_of ps n).runs b;
  bodies = λ f. if f == n then count_of_all (counting_of ps n) (function_body (slice_index_or ps n nothing)) else (counting_of ps n).bodies f;
}

-- counts in a list, by the number of the POU; none where there is none
abbrev pub counted : List ℕ → ℕ → ℕ
counted ns b = slice_index_or ns b 0

-- counts in lists
abbrev pub counting : List CalledData → List ℕ → List ℕ → Counting
counting ps runs bodies = record { frame = frames_of ps; runs = counted runs; bodies = counted bodies }

abbrev pub counting_here : Counts → Counting
counting_here c = counting (all_called_view c.called.now) c.runs.now c.bodies.now

-- a count that stands still above 200,000
abbrev pub capped : ℕ → ℕ
capped n = min n 200001

-- numbers that count the runs and the bodies of POUs, one each
abbrev pub AreCounts : List ℕ → List ℕ → List CalledData → Type 0
AreCounts runs bodies ps =
    (n : ℕ) → (capped (counted runs n) ≡ capped ((counting_of ps (length ps)).runs n)) × (capped (counted bodies n) ≡ capped ((counting_of ps (length ps)).bodies n))
