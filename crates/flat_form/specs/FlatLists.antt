-- The flat list of statements. Scratch cells are numbered from a place on, in the order of the text.
use Rattle.std.specs.Prelude.{ℕ, zero, suc, ◌+◌, List, [], ◌∷◌, ◌++◌, map, length, ℤ, pos, ◌+ℤ◌}
use Rattle.plc_types.specs.declared.elementary.Elementary.{Elementary}
use Rattle.plc_types.specs.declared.elementary.Elementary.TheVariants.{Bool}
use Rattle.plc_types.specs.declared.operator.Operator.TheVariants.{Or, And, Equal, LessEqual}
use Rattle.program_tree.specs.declared.typed.TypedLabel.{TypedLabel}
use Rattle.program_tree.specs.declared.typed.TypedLabel.TheVariants.{Single, Span}
use Rattle.program_tree.specs.declared.typed.StepCells.{StepCells}
use Rattle.program_tree.specs.Tree.{Expression, number, cell, chain, no_operands, operand, Statement, assign, call_block, choice, cases, repeat, chart, exit, return, own_body, Statements, no_statements, statement, Choices, no_choices, choose, Entries, no_entries, entry, Actions, no_actions, action}
use Rattle.program_tree.specs.View.{OperandData, operands_of, ChoiceData, ActionData}
use Rattle.program_tree.specs.declared.scratch.Scratch.{Scratch}
use Rattle.program_tree.specs.Places.{whole_cell}
use Rattle.flat_core.specs.FlatTree.{FlatStatement, set, branch, no_flats}
use Rattle.flat_core.specs.FlatView.{FlatArmData, nested, flats_of}
use Rattle.flat_form.specs.Owners.{OwnerData}
use Rattle.flat_form.specs.Bodies.{Bodies}
use Rattle.flat_form.specs.Calls.{scratch_in, before, moved}
use Rattle.program_tree.specs.Leaving.{can_exit, can_exit_all, can_return, can_return_all}
use Rattle.flat_form.specs.Unless.{Flags, without_flags, unless_left, flag_scratch, flag_start, turn_flags, body_flags}
use Rattle.flat_form.specs.FlatCharts.{latch_list, runs_test, of_associated, scratch_of_moves, flat_moves}

abbrev pub repeated : ℕ → List Scratch → List Scratch
repeated zero cs = []
repeated (suc n) cs = cs ++ repeated n cs

-- The scratch cells that statements make: those of the calls in their expressions, one for each CASE, in each turn of the FORs around
-- it, those of the blocks that they run, two for each step of a chart, one for a FOR with an EXIT of its own, and one for a body with a RETURN of its own.
abbrev mutual
  pub scratch_of : Bodies → Statement → List Scratch
  scratch_of bodies (assign target e) = scratch_in bodies e
  scratch_of bodies (call_block b offset) = bodies.run_scratch b
  scratch_of bodies (choice arms other) = scratch_of_choices bodies arms ++ scratch_of_all bodies other
  scratch_of bodies (cases kind e es other) =
      scratch_in bodies e ++ whole_cell kind ∷ (scratch_of_entries bodies es ++ scratch_of_all bodies other)
  scratch_of bodies (repeat turns body) = flag_scratch (can_exit_all body) ++ repeated turns.count (scratch_of_all bodies body)
  scratch_of bodies (chart steps actions ts) = scratch_of_actions bodies actions ++ scratch_of_moves bodies steps ts
  scratch_of bodies exit = []
  scratch_of bodies return = []
  scratch_of bodies (own_body ss) = flag_scratch (can_return_all ss) ++ scratch_of_all bodies ss

  pub scratch_of_all : Bodies → Statements → List Scratch
  scratch_of_all bodies no_statements = []
  scratch_of_all bodies (statement t ts) = scratch_of bodies t ++ scratch_of_all bodies ts

  pub scratch_of_choices : Bodies → Choices → List Scratch
  scratch_of_choices bodies no_choices = []
  scratch_of_choices bodies (choose e ss arms) = scratch_in bodies e ++ (scratch_of_all bodies ss ++ scratch_of_choices bodies arms)

  pub scratch_of_entries : Bodies → Entries → List Scratch
  scratch_of_entries bodies no_entries = []
  scratch_of_entries bodies (entry labels ss es) = scratch_of_all bodies ss ++ scratch_of_entries bodies es

  pub scratch_of_actions : Bodies → Actions → List Scratch
  scratch_of_actions bodies no_actions = []
  scratch_of_actions bodies (action latch associations ss rest) =
      of_associated associations (scratch_of_all bodies ss) ++ scratch_of_actions bodies rest

-- a label's test of the selector's scratch cell t: `t = k` for a value, and `low <= t AND t <= high` for a range
abbrev pub label_test : Elementary → ℕ → TypedLabel → Expression
label_test kind t (Single k) = chain (cell t) (operand Equal kind (number k) no_operands)
label_test kind t (Span r) =
    chain (chain (number r.low) (operand LessEqual kind (cell t) no_operands)) (operand And Bool (chain (cell t) (operand LessEqual kind (number r.high) no_operands)) no_operands)

abbrev pub or_test : Elementary → ℕ → TypedLabel → OperandData
or_test kind t l = (Or, Bool, label_test kind t l)

-- the tests of labels, joined by OR from the left
abbrev pub labels_test : Elementary → ℕ → List TypedLabel → Expression
labels_test kind t [] = number (pos 0)
labels_test kind t (l ∷ []) = label_test kind t l
labels_test kind t (l ∷ more ∷ ls) = chain (label_test kind t l) (operands_of (map (or_test kind t) (more ∷ ls)))

-- So many turns: the control variable is set to the value of each, and the body follows; last it is set to the value that ends
-- the FOR. Where the body may leave, each turn and the last statement ask whether it did. A turn's body has m scratch cells.
abbrev pub unrolled : (List FlatStatement → List FlatStatement) → ℕ → ℕ → ℤ → ℤ → ℕ → (ℕ → List FlatStatement) → ℕ → List FlatStatement
unrolled unless zero control v step m body k = unless (set control (number v) ∷ [])
unrolled unless (suc n) control v step m body k = unless (set control (number v) ∷ body k) ++ unrolled unless n control (v +ℤ step) step m body (k + m)

-- The calls of an expression run before it is asked for. An IF is nested ones, an ELSIF being an IF in the rest. A CASE sets a scratch
-- cell to the selector's value and goes on as an IF. A run of a block is the list of its body. A chart sets its latches, runs its
-- actions, tries its transitions, and marks its steps. EXIT and RETURN set their cells, and what stands behind a statement that may leave the list runs
-- where it did not.
abbrev mutual
  pub flat_of : Bodies → OwnerData → ℕ → Flags → Statement → ℕ → List FlatStatement
  flat_of bodies owner base flags (assign target e) k = before bodies owner base e k ++ set (owner (base + target)) (moved bodies owner base e k) ∷ []
  flat_of bodies owner base flags (call_block b offset) k = bodies.run_list owner b (base + offset) k
  flat_of bodies owner base flags (choice arms other) k =
      nested (flat_choices bodies owner base flags arms k) (flat_of_all bodies owner base flags other (k + length (scratch_of_choices bodies arms)))
  flat_of bodies owner base flags (cases kind e es other) k =
      before bodies owner base e k ++ set (k + length (scratch_in bodies e)) (moved bodies owner base e k)
      ∷ nested (flat_entries bodies owner base flags kind (k + length (scratch_in bodies e)) es (k + length (scratch_in bodies e) + 1))
      (flat_of_all bodies owner base flags other (k + length (scratch_in bodies e) + 1 + length (scratch_of_entries bodies es)))
  flat_of bodies owner base flags (repeat turns body) k =
      flag_start (can_exit_all body) k
      ++ unrolled (unless_left (can_exit_all body) (can_return_all body) (turn_flags (can_exit_all body) flags k)) turns.count (owner (base + turns.control)) turns.first turns.step (length (scratch_of_all bodies body))
      (flat_of_all bodies owner base (turn_flags (can_exit_all body) flags k) body) (k + length (flag_scratch (can_exit_all body)))
  flat_of bodies owner base flags (chart steps actions ts) k =
      latch_list owner base steps actions
      ++ (flat_actions bodies owner base steps actions k ++ flat_moves bodies owner base steps ts (k + length (scratch_of_actions bodies actions)))
  flat_of bodies owner base flags exit k = set flags.exit (number (pos 1)) ∷ []
  flat_of bodies owner base flags return k = set flags.returning (number (pos 1)) ∷ []
  flat_of bodies owner base flags (own_body ss) k =
      flag_start (can_return_all ss) k ++ flat_of_all bodies owner base (body_flags (can_return_all ss) flags k) ss (k + length (flag_scratch (can_return_all ss)))

  pub flat_of_all : Bodies → OwnerData → ℕ → Flags → Statements → ℕ → List FlatStatement
  flat_of_all bodies owner base flags no_statements k = []
  flat_of_all bodies owner base flags (statement t ts) k = flat_of bodies owner base flags t k ++ unless_left (can_exit t) (can_return t) flags (flat_of_all bodies owner base flags ts (k + length (scratch_of bodies t)))

  -- what runs before each condition, the condition and its statements
  pub flat_choices : Bodies → OwnerData → ℕ → Flags → Choices → ℕ → List FlatArmData
  flat_choices bodies owner base flags no_choices k = []
  flat_choices bodies owner base flags (choose e ss arms) k =
      (before bodies owner base e k, moved bodies owner base e k, flat_of_all bodies owner base flags ss (k + length (scratch_in bodies e)))
      ∷ flat_choices bodies owner base flags arms (k + length (scratch_in bodies e) + length (scratch_of_all bodies ss))

  -- the test of each entry's labels with its statements; t is the selector's scratch cell, and kind its type
  pub flat_entries : Bodies → OwnerData → ℕ → Flags → Elementary → ℕ → Entries → ℕ → List FlatArmData
  flat_entries bodies owner base flags kind t no_entries k = []
  flat_entries bodies owner base flags kind t (entry labels ss es) k =
      ([], labels_test kind t labels, flat_of_all bodies owner base flags ss k) ∷ flat_entries bodies owner base flags kind t es (k + length (scratch_of_all bodies ss))

  -- the actions of a chart, in the order of the text
  pub flat_actions : Bodies → OwnerData → ℕ → List StepCells → Actions → ℕ → List FlatStatement
  flat_actions bodies owner base steps no_actions k = []
  flat_actions bodies owner base steps (action latch associations ss rest) k =
      of_associated associations (branch (runs_test owner base steps latch associations) (flats_of (flat_of_all bodies owner base without_flags ss k)) no_flats ∷ [])
      ++ flat_actions bodies owner base steps rest (k + length (of_associated associations (scratch_of_all bodies ss)))

-- one condition with its statements
abbrev pub scratch_of_choice : Bodies → ChoiceData → List Scratch
scratch_of_choice bodies c = scratch_in bodies c.0 ++ scratch_of_all bodies c.1

abbrev pub flat_choice : Bodies → OwnerData → ℕ → Flags → ChoiceData → ℕ → FlatArmData
flat_choice bodies owner base flags c k = (before bodies owner base c.0 k, moved bodies owner base c.0 k, flat_of_all bodies owner base flags c.1 (k + length (scratch_in bodies c.0)))

-- one action
abbrev pub scratch_of_action : Bodies → ActionData → List Scratch
scratch_of_action bodies a = of_associated a.1 (scratch_of_all bodies a.2)

abbrev pub flat_action : Bodies → OwnerData → ℕ → List StepCells → ActionData → ℕ → List FlatStatement
flat_action bodies owner base steps a k = of_associated a.1 (branch (runs_test owner base steps a.0 a.1) (flats_of (flat_of_all bodies owner base without_flags a.2 k)) no_flats ∷ [])
