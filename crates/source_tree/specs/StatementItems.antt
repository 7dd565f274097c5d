-- One view of statements: what stands in a statement itself, its items, and what is made of the items of all statements inside of it.
use Rattle.std.specs.Prelude.{ℕ, ◌⊎◌, List, [], ◌∷◌, ◌++◌}
use Rattle.source_tree.specs.Syntax.{Named, PathData, Tree, ConnectionData, LabelData, IterationData, Stmt, empty, assign, invoke, branch, cases, iterate, exit, return, Stmts, no_stmts, stmt, Arms, no_arms, arm, Entries, no_entries, entry, Otherwise, no_else, else_stmts, PartData, step_part, transition_part, action_part, BodyData, statements, chart}

-- A target with the value that it takes; a call of an instance, by its name, the place of its parenthesis and what is connected; a condition of an IF or
-- of a transition; the selector of a CASE; the labels of an entry of a CASE, with its selector and the labels of the entries before it, the last one first;
-- and what stands between FOR and DO.
pub data StatementItem : Type 0 where
  assignment : PathData → Tree → StatementItem
  invocation : Named → ℕ → List ConnectionData → StatementItem
  condition : Tree → StatementItem
  selector : Tree → StatementItem
  labels : Tree → List (List LabelData) → List LabelData → StatementItem
  iteration : IterationData → StatementItem

-- How something is made of items: of none, of items and others behind them, and of one that stands inside of some FORs, the innermost first.
pub record Fold {ℓ} (A : Type ℓ) : Type ℓ where
  pub none : A
  pub both : A → A → A
  pub own : List IterationData → StatementItem → A

abbrev mutual
  pub folded {ℓ} : {A : Type ℓ} → Fold A → List IterationData → Stmt → A
  folded j around empty = j.none
  folded j around (assign p e) = j.own around (assignment p e)
  folded j around (invoke n at cs) = j.own around (invocation n at cs)
  folded j around (branch arms other) = j.both (folded_arms j around arms) (folded_else j around other)
  folded j around (cases e es other) = j.both (j.own around (selector e)) (j.both (folded_entries j around e [] es) (folded_else j around other))
  folded j around (iterate i ss) = j.both (j.own around (iteration i)) (folded_stmts j (i ∷ around) ss)
  folded j around (exit at) = j.none
  folded j around return = j.none

  pub folded_stmts {ℓ} : {A : Type ℓ} → Fold A → List IterationData → Stmts → A
  folded_stmts j around no_stmts = j.none
  folded_stmts j around (stmt s ss) = j.both (folded j around s) (folded_stmts j around ss)

  pub folded_arms {ℓ} : {A : Type ℓ} → Fold A → List IterationData → Arms → A
  folded_arms j around no_arms = j.none
  folded_arms j around (arm e ss arms) = j.both (j.own around (condition e)) (j.both (folded_stmts j around ss) (folded_arms j around arms))

  pub folded_entries {ℓ} : {A : Type ℓ} → Fold A → List IterationData → Tree → List (List LabelData) → Entries → A
  folded_entries j around e before no_entries = j.none
  folded_entries j around e before (entry ls ss es) =
      j.both (j.own around (labels e before ls)) (j.both (folded_stmts j around ss) (folded_entries j around e (ls ∷ before) es))

  pub folded_else {ℓ} : {A : Type ℓ} → Fold A → List IterationData → Otherwise → A
  folded_else j around no_else = j.none
  folded_else j around (else_stmts ss) = folded_stmts j around ss

-- in a chart items stand in conditions and in actions
abbrev pub folded_parts {ℓ} : {A : Type ℓ} → Fold A → List PartData → A
folded_parts j [] = j.none
folded_parts j (step_part s ∷ ps) = folded_parts j ps
folded_parts j (transition_part t ∷ ps) = j.both (j.own [] (condition t.condition)) (folded_parts j ps)
folded_parts j (action_part a ∷ ps) = j.both (folded_stmts j [] a.body) (folded_parts j ps)

abbrev pub folded_body {ℓ} : {A : Type ℓ} → Fold A → BodyData → A
folded_body j (statements ss) = folded_stmts j [] ss
folded_body j (chart ps) = folded_parts j ps

-- every item has a property
abbrev pub every : (List IterationData → StatementItem → Type 0) → Fold (Type 0)
every P = record { none = Unit {0}; both = λ A B. A × B; own = P }

-- some item has a property
abbrev pub some : (List IterationData → StatementItem → Type 0) → Fold (Type 0)
some P = record { none = ⊥; both = λ A B. A ⊎ B; own = P }

-- the list of all that items give
abbrev pub listed {ℓ} : {A : Type ℓ} → (List IterationData → StatementItem → List A) → Fold (List A)
listed given = record { none = []; both = λ xs ys. xs ++ ys; own = given }
