-- The one induction over statements: where what folds make of each item is related, so is what they make of a body.
use Rattle.std.proofs.Common.{List, [], ◌∷◌}
use Rattle.source_tree.specs.Syntax.{IterationData, Tree, LabelData, Stmt, empty, assign, invoke, branch, cases, iterate, exit, return, Stmts, no_stmts, stmt, Arms, no_arms, arm, Entries, no_entries, entry, Otherwise, no_else, else_stmts, PartData, step_part, transition_part, action_part, BodyData, statements, chart}
use Rattle.source_tree.specs.StatementItems.{StatementItem, assignment, invocation, condition, selector, labels, iteration, Fold, folded, folded_stmts, folded_arms, folded_entries, folded_else, folded_parts, folded_body}

-- What three folds make is related: what they make of nothing, of one item, and of parts that are related; and what they make of a FOR where that of its
-- statements is related inside of it, so that a relation may take from the item of a FOR what it asks of the statements in it.
pub record AreRelated {ℓ κ μ ν} {A : Type ℓ} {B : Type κ} {C : Type μ} (a : Fold A) (b : Fold B) (c : Fold C) (R : List IterationData → A → B → C → Type ν) : Type (ℓ ⊔ κ ⊔ μ ⊔ ν) where
  pub none : (around : List IterationData) → R around a.none b.none c.none
  pub both : (around : List IterationData) (x x' : A) (y y' : B) (z z' : C) → R around x y z → R around x' y' z' → R around (a.both x x') (b.both y y') (c.both z z')
  pub own : (around : List IterationData) (i : StatementItem) → R around (a.own around i) (b.own around i) (c.own around i)
  pub inside : (around : List IterationData) (i : IterationData) (x : A) (y : B) (z : C) → R (i ∷ around) x y z
      → R around (a.both (a.own around (iteration i)) x) (b.both (b.own around (iteration i)) y) (c.both (c.own around (iteration i)) z)

mutual
  pub related {ℓ κ μ ν} : {A : Type ℓ} {B : Type κ} {C : Type μ} (a : Fold A) (b : Fold B) (c : Fold C) (R : List IterationData → A → B → C → Type ν) → AreRelated a b c R
      → (around : List IterationData) (s : Stmt) → R around (folded a around s) (folded b around s) (folded c around s)
  related a b c R r around empty = r.none around
  related a b c R r around (assign p e) = r.own around (assignment p e)
  related a b c R r around (invoke n at cs) = r.own around (invocation n at cs)
  related a b c R r around (branch arms other) = r.both around _ _ _ _ _ _ (related_arms a b c R r around arms) (related_else a b c R r around other)
  related a b c R r around (cases e es other) =
      r.both around _ _ _ _ _ _ (r.own around (selector e)) (r.both around _ _ _ _ _ _ (related_entries a b c R r around e [] es) (related_else a b c R r around other))
  related a b c R r around (iterate i ss) = r.inside around i _ _ _ (related_stmts a b c R r (i ∷ around) ss)
  related a b c R r around (exit at) = r.none around
  related a b c R r around return = r.none around

  pub related_stmts {ℓ κ μ ν} : {A : Type ℓ} {B : Type κ} {C : Type μ} (a : Fold A) (b : Fold B) (c : Fold C) (R : List IterationData → A → B → C → Type ν) → AreRelated a b c R
      → (around : List IterationData) (ss : Stmts) → R around (folded_stmts a around ss) (folded_stmts b around ss) (folded_stmts c around ss)
  related_stmts a b c R r around no_stmts = r.none around
  related_stmts a b c R r around (stmt s ss) = r.both around _ _ _ _ _ _ (related a b c R r around s) (related_stmts a b c R r around ss)

  pub related_arms {ℓ κ μ ν} : {A : Type ℓ} {B : Type κ} {C : Type μ} (a : Fold A) (b : Fold B) (c : Fold C) (R : List IterationData → A → B → C → Type ν) → AreRelated a b c R
      → (around : List IterationData) (arms : Arms) → R around (folded_arms a around arms) (folded_arms b around arms) (folded_arms c around arms)
  related_arms a b c R r around no_arms = r.none around
  related_arms a b c R r around (arm e ss arms) =
      r.both around _ _ _ _ _ _ (r.own around (condition e)) (r.both around _ _ _ _ _ _ (related_stmts a b c R r around ss) (related_arms a b c R r around arms))

  pub related_entries {ℓ κ μ ν} : {A : Type ℓ} {B : Type κ} {C : Type μ} (a : Fold A) (b : Fold B) (c : Fold C) (R : List IterationData → A → B → C → Type ν) → AreRelated a b c R
      → (around : List IterationData) (e : Tree) (before : List (List LabelData)) (es : Entries)
      → R around (folded_entries a around e before es) (folded_entries b around e before es) (folded_entries c around e before es)
  related_entries a b c R r around e before no_entries = r.none around
  related_entries a b c R r around e before (entry ls ss es) =
      r.both around _ _ _ _ _ _ (r.own around (labels e before ls)) (r.both around _ _ _ _ _ _ (related_stmts a b c R r around ss) (related_entries a b c R r around e (ls ∷ before) es))

  pub related_else {ℓ κ μ ν} : {A : Type ℓ} {B : Type κ} {C : Type μ} (a : Fold A) (b : Fold B) (c : Fold C) (R : List IterationData → A → B → C → Type ν) → AreRelated a b c R
      → (around : List IterationData) (other : Otherwise) → R around (folded_else a around other) (folded_else b around other) (folded_else c around other)
  related_else a b c R r around no_else = r.none around
  related_else a b c R r around (else_stmts ss) = related_stmts a b c R r around ss

pub related_parts {ℓ κ μ ν} : {A : Type ℓ} {B : Type κ} {C : Type μ} (a : Fold A) (b : Fold B) (c : Fold C) (R : List IterationData → A → B → C → Type ν) → AreRelated a b c R
    → (ps : List PartData) → R [] (folded_parts a ps) (folded_parts b ps) (folded_parts c ps)
related_parts a b c R r [] = r.none []
related_parts a b c R r (step_part s ∷ ps) = related_parts a b c R r ps
related_parts a b c R r (transition_part t ∷ ps) = r.both [] _ _ _ _ _ _ (r.own [] (condition t.condition)) (related_parts a b c R r ps)
related_parts a b c R r (action_part x ∷ ps) = r.both [] _ _ _ _ _ _ (related_stmts a b c R r [] x.body) (related_parts a b c R r ps)

pub related_body {ℓ κ μ ν} : {A : Type ℓ} {B : Type κ} {C : Type μ} (a : Fold A) (b : Fold B) (c : Fold C) (R : List IterationData → A → B → C → Type ν) → AreRelated a b c R
    → (x : BodyData) → R [] (folded_body a x) (folded_body b x) (folded_body c x)
related_body a b c R r (statements ss) = related_stmts a b c R r [] ss
related_body a b c R r (chart ps) = related_parts a b c R r ps
