-- What folds make of statements and of what these are typed to is related where it is so item by item.
use Rattle.std.proofs.Common.{ℕ, List, [], ◌∷◌, map, None}
use Rattle.plc_types.specs.DataTypes.{carrier}
use Rattle.program_tree.specs.declared.typed.Turns.{Turns}
use Rattle.program_tree.specs.Tree.{Statements}
use Rattle.program_tree.specs.StatementItems.{Fold as TypedFold, assignment as typed_assignment, condition as typed_condition, selector as typed_selector, labels as typed_labels, iteration as typed_iteration, folded_all, folded_choices, folded_entries as folded_typed_entries}
use Rattle.source_tree.specs.Syntax.{Named, PathData, Tree, ConnectionData, LabelData, IterationData, Stmt, empty, assign, invoke, branch, cases, iterate, exit, return, Stmts, no_stmts, stmt, Arms, no_arms, arm, Entries, no_entries, entry, Otherwise, no_else, else_stmts}
use Rattle.source_tree.specs.StatementItems.{Fold, assignment, invocation, condition, selector, labels, iteration, folded_stmts, folded_arms, folded_entries, folded_else}
use Rattle.typing.specs.Typing.{Scope, by_path, kind_at, type_of}
use Rattle.typing.specs.Typed.{typed}
use Rattle.typing.specs.Labels.{typed_label}
use Rattle.typing.specs.TypedStatements.{cell_of, turns_of, typed_invoke, and_then, typed_stmts, typed_arms, typed_entries, typed_else}

-- the turns of the FORs around
abbrev pub turns_in : Scope → List IterationData → List Turns
turns_in scope around = map (turns_of scope) around

-- Each item and what it is typed to. An empty statement leaves nothing, and a call of an instance leaves statements before others.
pub record AreTypedAlike {ℓ κ ν} {A : Type ℓ} {B : Type κ} (scope : Scope) (a : Fold A) (b : TypedFold B) (R : List IterationData → A → B → Type ν) : Type (ℓ ⊔ κ ⊔ ν) where
  pub none : (around : List IterationData) → R around a.none b.none
  pub both : (around : List IterationData) (x x' : A) (y y' : B) → R around x y → R around x' y' → R around (a.both x x') (b.both y y')
  pub left_out : (around : List IterationData) (x : A) (y : B) → R around x y → R around (a.both a.none x) y
  pub assigned : (around : List IterationData) (p : PathData) (e : Tree)
      → R around (a.own around (assignment p e)) (b.own (turns_in scope around) (typed_assignment (cell_of (scope.means (by_path p))) (typed scope (kind_at (scope.means (by_path p))) e)))
  pub invoked : (around : List IterationData) (n : Named) (at : ℕ) (cs : List ConnectionData) (x : A) (rest : Statements) → R around x (folded_all b (turns_in scope around) rest)
      → R around (a.both (a.own around (invocation n at cs)) x) (folded_all b (turns_in scope around) (and_then (typed_invoke scope n cs) rest))
  pub tested : (around : List IterationData) (e : Tree) → R around (a.own around (condition e)) (b.own (turns_in scope around) (typed_condition (typed scope None e)))
  pub selected : (around : List IterationData) (e : Tree) → R around (a.own around (selector e)) (b.own (turns_in scope around) (typed_selector (carrier (type_of scope None e)) (typed scope None e)))
  pub labelled : (around : List IterationData) (e : Tree) (before : List (List LabelData)) (ls : List LabelData)
      → R around (a.own around (labels e before ls)) (b.own (turns_in scope around) (typed_labels (carrier (type_of scope None e)) (map (typed_label scope (type_of scope None e)) ls)))
  pub inside : (around : List IterationData) (i : IterationData) (x : A) (y : B) → R (i ∷ around) x y
      → R around (a.both (a.own around (iteration i)) x) (b.both (b.own (turns_in scope around) (typed_iteration (turns_of scope i))) y)

module _ {ℓ κ ν} {A : Type ℓ} {B : Type κ} (scope : Scope) (a : Fold A) (b : TypedFold B) (R : List IterationData → A → B → Type ν) (alike : AreTypedAlike scope a b R) where
  mutual
    pub typed_alike : (around : List IterationData) (ss : Stmts) → R around (folded_stmts a around ss) (folded_all b (turns_in scope around) (typed_stmts scope ss))
    typed_alike around no_stmts = alike.none around
    typed_alike around (stmt empty ss) = alike.left_out around _ _ (typed_alike around ss)
    typed_alike around (stmt (assign p e) ss) = alike.both around _ _ _ _ (alike.assigned around p e) (typed_alike around ss)
    typed_alike around (stmt (invoke n at cs) ss) = alike.invoked around n at cs _ (typed_stmts scope ss) (typed_alike around ss)
    typed_alike around (stmt (branch arms other) ss) =
        alike.both around _ _ _ _ (alike.both around _ _ _ _ (typed_arms_alike around arms) (typed_else_alike around other)) (typed_alike around ss)
    typed_alike around (stmt (cases e es other) ss) =
        alike.both around _ _ _ _ (alike.both around _ _ _ _ (alike.selected around e) (alike.both around _ _ _ _ (typed_entries_alike around e [] es) (typed_else_alike around other))) (typed_alike around ss)
    typed_alike around (stmt (iterate i body) ss) = alike.both around _ _ _ _ (alike.inside around i _ _ (typed_alike (i ∷ around) body)) (typed_alike around ss)
    typed_alike around (stmt (exit at) ss) = alike.both around _ _ _ _ (alike.none around) (typed_alike around ss)
    typed_alike around (stmt return ss) = alike.both around _ _ _ _ (alike.none around) (typed_alike around ss)

    typed_arms_alike : (around : List IterationData) (arms : Arms) → R around (folded_arms a around arms) (folded_choices b (turns_in scope around) (typed_arms scope arms))
    typed_arms_alike around no_arms = alike.none around
    typed_arms_alike around (arm e ss arms) = alike.both around _ _ _ _ (alike.tested around e) (alike.both around _ _ _ _ (typed_alike around ss) (typed_arms_alike around arms))

    typed_entries_alike : (around : List IterationData) (e : Tree) (before : List (List LabelData)) (es : Entries)
        → R around (folded_entries a around e before es) (folded_typed_entries b (turns_in scope around) (carrier (type_of scope None e)) (typed_entries scope (type_of scope None e) es))
    typed_entries_alike around e before no_entries = alike.none around
    typed_entries_alike around e before (entry ls ss es) =
        alike.both around _ _ _ _ (alike.labelled around e before ls) (alike.both around _ _ _ _ (typed_alike around ss) (typed_entries_alike around e (ls ∷ before) es))

    typed_else_alike : (around : List IterationData) (other : Otherwise) → R around (folded_else a around other) (folded_all b (turns_in scope around) (typed_else scope other))
    typed_else_alike around no_else = alike.none around
    typed_else_alike around (else_stmts ss) = typed_alike around ss
