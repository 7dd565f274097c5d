-- One view of statements: what stands in a statement itself, its items, and what is made of the items of all statements inside of it.
use Rattle.std.specs.Prelude.{ℕ, ◌⊎◌, List, [], ◌∷◌, ◌++◌, Option}
use Rattle.plc_types.specs.declared.elementary.Elementary.{Elementary}
use Rattle.program_tree.specs.declared.typed.TypedLabel.{TypedLabel}
use Rattle.program_tree.specs.declared.typed.Turns.{Turns}
use Rattle.program_tree.specs.declared.typed.StepCells.{StepCells}
use Rattle.program_tree.specs.declared.typed.Association.{Association}
use Rattle.program_tree.specs.Tree.{Expression, TransitionData, Statement, assign, call_block, choice, cases, repeat, chart, exit, return, own_body, Statements, no_statements, statement, Choices, no_choices, choose, Entries, no_entries, entry, Actions, no_actions, action, CalledData, block, function}

-- A cell with the value that is put into it; a call of a block, over the cells from a place on; a condition of an IF; the selector of a CASE and the labels of
-- an entry, with its type; the turns of a FOR; and of a chart its steps, the latch of an action with the action's associations, and a transition; and that a list is a body of its own.
pub data StatementItem : Type 0 where
  assignment : ℕ → Expression → StatementItem
  invocation : ℕ → ℕ → StatementItem
  condition : Expression → StatementItem
  selector : Elementary → Expression → StatementItem
  labels : Elementary → List TypedLabel → StatementItem
  iteration : Turns → StatementItem
  steps : List StepCells → StatementItem
  associated : Option ℕ → List Association → StatementItem
  transition : TransitionData → StatementItem
  enclosed : Statements → StatementItem

-- How something is made of items: of none, of items and others behind them, and of one that stands inside of some FORs, the innermost first.
pub record Fold {ℓ} (A : Type ℓ) : Type ℓ where
  pub none : A
  pub both : A → A → A
  pub own : List Turns → StatementItem → A

abbrev pub folded_transitions {ℓ} : {A : Type ℓ} → Fold A → List Turns → List TransitionData → A
folded_transitions j around [] = j.none
folded_transitions j around (t ∷ ts) = j.both (j.own around (transition t)) (folded_transitions j around ts)

abbrev mutual
  pub folded {ℓ} : {A : Type ℓ} → Fold A → List Turns → Statement → A
  folded j around (assign target e) = j.own around (assignment target e)
  folded j around (call_block b offset) = j.own around (invocation b offset)
  folded j around (choice arms other) = j.both (folded_choices j around arms) (folded_all j around other)
  folded j around (cases kind e es other) = j.both (j.own around (selector kind e)) (j.both (folded_entries j around kind es) (folded_all j around other))
  folded j around (repeat turns body) = j.both (j.own around (iteration turns)) (folded_all j (turns ∷ around) body)
  folded j around (chart cells actions ts) = j.both (j.own around (steps cells)) (j.both (folded_actions j around actions) (folded_transitions j around ts))
  folded j around exit = j.none
  folded j around return = j.none
  folded j around (own_body ss) = j.both (j.own around (enclosed ss)) (folded_all j around ss)

  pub folded_all {ℓ} : {A : Type ℓ} → Fold A → List Turns → Statements → A
  folded_all j around no_statements = j.none
  folded_all j around (statement t ts) = j.both (folded j around t) (folded_all j around ts)

  pub folded_choices {ℓ} : {A : Type ℓ} → Fold A → List Turns → Choices → A
  folded_choices j around no_choices = j.none
  folded_choices j around (choose e ss arms) = j.both (j.own around (condition e)) (j.both (folded_all j around ss) (folded_choices j around arms))

  pub folded_entries {ℓ} : {A : Type ℓ} → Fold A → List Turns → Elementary → Entries → A
  folded_entries j around kind no_entries = j.none
  folded_entries j around kind (entry ls ss es) = j.both (j.own around (labels kind ls)) (j.both (folded_all j around ss) (folded_entries j around kind es))

  pub folded_actions {ℓ} : {A : Type ℓ} → Fold A → List Turns → Actions → A
  folded_actions j around no_actions = j.none
  folded_actions j around (action latch associations ss rest) = j.both (j.own around (associated latch associations)) (j.both (folded_all j around ss) (folded_actions j around rest))

abbrev pub folded_called {ℓ} : {A : Type ℓ} → Fold A → CalledData → A
folded_called j (block body) = folded_all j [] body
folded_called j (function types ranges start body) = folded_all j [] body

-- every item has a property
abbrev pub every : (List Turns → StatementItem → Type 0) → Fold (Type 0)
every P = record { none = Unit {0}; both = λ A B. A × B; own = P }

-- some item has a property
abbrev pub some : (List Turns → StatementItem → Type 0) → Fold (Type 0)
some P = record { none = ⊥; both = λ A B. A ⊎ B; own = P }

-- the list of all that items give
abbrev pub listed {ℓ} : {A : Type ℓ} → (List Turns → StatementItem → List A) → Fold (List A)
listed given = record { none = []; both = λ xs ys. xs ++ ys; own = given }
