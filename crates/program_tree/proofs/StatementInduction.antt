-- The one induction over statements: where what folds make of each item is related, so is what they make of a body.
use Rattle.std.proofs.Common.{List, [], ◌∷◌}
use Rattle.plc_types.specs.declared.elementary.Elementary.{Elementary}
use Rattle.program_tree.specs.declared.typed.Turns.{Turns}
use Rattle.program_tree.specs.Tree.{TransitionData, Statement, assign, call_block, choice, cases, repeat, chart, exit, return, own_body, Statements, no_statements, statement, Choices, no_choices, choose, Entries, no_entries, entry, Actions, no_actions, action}
use Rattle.program_tree.specs.StatementItems.{StatementItem, assignment, invocation, condition, selector, labels, iteration, steps, associated, transition, enclosed, Fold, folded, folded_all, folded_choices, folded_entries, folded_actions, folded_transitions}

-- What three folds make is related: what they make of nothing, of one item, and of parts that are related; and what they make of a FOR where that of its
-- statements is related inside of it, so that a relation may take from the item of a FOR what it asks of the statements in it.
pub record AreRelated {ℓ κ μ ν} {A : Type ℓ} {B : Type κ} {C : Type μ} (a : Fold A) (b : Fold B) (c : Fold C) (R : List Turns → A → B → C → Type ν) : Type (ℓ ⊔ κ ⊔ μ ⊔ ν) where
  pub none : (around : List Turns) → R around a.none b.none c.none
  pub both : (around : List Turns) (x x' : A) (y y' : B) (z z' : C) → R around x y z → R around x' y' z' → R around (a.both x x') (b.both y y') (c.both z z')
  pub own : (around : List Turns) (i : StatementItem) → R around (a.own around i) (b.own around i) (c.own around i)
  pub inside : (around : List Turns) (t : Turns) (x : A) (y : B) (z : C) → R (t ∷ around) x y z
      → R around (a.both (a.own around (iteration t)) x) (b.both (b.own around (iteration t)) y) (c.both (c.own around (iteration t)) z)

pub related_transitions {ℓ κ μ ν} : {A : Type ℓ} {B : Type κ} {C : Type μ} (a : Fold A) (b : Fold B) (c : Fold C) (R : List Turns → A → B → C → Type ν) → AreRelated a b c R
    → (around : List Turns) (ts : List TransitionData) → R around (folded_transitions a around ts) (folded_transitions b around ts) (folded_transitions c around ts)
related_transitions a b c R r around [] = r.none around
related_transitions a b c R r around (t ∷ ts) = r.both around _ _ _ _ _ _ (r.own around (transition t)) (related_transitions a b c R r around ts)

mutual
  pub related {ℓ κ μ ν} : {A : Type ℓ} {B : Type κ} {C : Type μ} (a : Fold A) (b : Fold B) (c : Fold C) (R : List Turns → A → B → C → Type ν) → AreRelated a b c R
      → (around : List Turns) (t : Statement) → R around (folded a around t) (folded b around t) (folded c around t)
  related a b c R r around (assign target e) = r.own around (assignment target e)
  related a b c R r around (call_block n offset) = r.own around (invocation n offset)
  related a b c R r around (choice arms other) = r.both around _ _ _ _ _ _ (related_choices a b c R r around arms) (related_all a b c R r around other)
  related a b c R r around (cases kind e es other) = r.both around _ _ _ _ _ _ (r.own around (selector kind e)) (r.both around _ _ _ _ _ _ (related_entries a b c R r around kind es) (related_all a b c R r around other))
  related a b c R r around (repeat turns body) = r.inside around turns _ _ _ (related_all a b c R r (turns ∷ around) body)
  related a b c R r around (chart cells actions ts) = r.both around _ _ _ _ _ _ (r.own around (steps cells)) (r.both around _ _ _ _ _ _ (related_actions a b c R r around actions) (related_transitions a b c R r around ts))
  related a b c R r around exit = r.none around
  related a b c R r around return = r.none around
  related a b c R r around (own_body ss) = r.both around _ _ _ _ _ _ (r.own around (enclosed ss)) (related_all a b c R r around ss)

  pub related_all {ℓ κ μ ν} : {A : Type ℓ} {B : Type κ} {C : Type μ} (a : Fold A) (b : Fold B) (c : Fold C) (R : List Turns → A → B → C → Type ν) → AreRelated a b c R
      → (around : List Turns) (ts : Statements) → R around (folded_all a around ts) (folded_all b around ts) (folded_all c around ts)
  related_all a b c R r around no_statements = r.none around
  related_all a b c R r around (statement t ts) = r.both around _ _ _ _ _ _ (related a b c R r around t) (related_all a b c R r around ts)

  pub related_choices {ℓ κ μ ν} : {A : Type ℓ} {B : Type κ} {C : Type μ} (a : Fold A) (b : Fold B) (c : Fold C) (R : List Turns → A → B → C → Type ν) → AreRelated a b c R
      → (around : List Turns) (arms : Choices) → R around (folded_choices a around arms) (folded_choices b around arms) (folded_choices c around arms)
  related_choices a b c R r around no_choices = r.none around
  related_choices a b c R r around (choose e ss arms) = r.both around _ _ _ _ _ _ (r.own around (condition e)) (r.both around _ _ _ _ _ _ (related_all a b c R r around ss) (related_choices a b c R r around arms))

  pub related_entries {ℓ κ μ ν} : {A : Type ℓ} {B : Type κ} {C : Type μ} (a : Fold A) (b : Fold B) (c : Fold C) (R : List Turns → A → B → C → Type ν) → AreRelated a b c R
      → (around : List Turns) (kind : Elementary) (es : Entries) → R around (folded_entries a around kind es) (folded_entries b around kind es) (folded_entries c around kind es)
  related_entries a b c R r around kind no_entries = r.none around
  related_entries a b c R r around kind (entry ls ss es) = r.both around _ _ _ _ _ _ (r.own around (labels kind ls)) (r.both around _ _ _ _ _ _ (related_all a b c R r around ss) (related_entries a b c R r around kind es))

  pub related_actions {ℓ κ μ ν} : {A : Type ℓ} {B : Type κ} {C : Type μ} (a : Fold A) (b : Fold B) (c : Fold C) (R : List Turns → A → B → C → Type ν) → AreRelated a b c R
      → (around : List Turns) (actions : Actions) → R around (folded_actions a around actions) (folded_actions b around actions) (folded_actions c around actions)
  related_actions a b c R r around no_actions = r.none around
  related_actions a b c R r around (action latch associations ss rest) = r.both around _ _ _ _ _ _ (r.own around (associated latch associations)) (r.both around _ _ _ _ _ _ (related_all a b c R r around ss) (related_actions a b c R r around rest))
