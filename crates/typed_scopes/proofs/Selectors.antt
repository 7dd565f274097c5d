-- The labels of a CASE and its selector: what holds of every item holds of labels and their selector together.
use Rattle.std.proofs.Common.{List, [], ◌∷◌}
use Rattle.source_tree.specs.Syntax.{IterationData, Tree, LabelData, Stmt, empty, assign, invoke, branch, cases, iterate, exit, return, Stmts, no_stmts, stmt, Arms, no_arms, arm, Entries, no_entries, entry, Otherwise, no_else, else_stmts, PartData, step_part, transition_part, action_part, BodyData, statements, chart}
use Rattle.source_tree.specs.StatementItems.{StatementItem, assignment, invocation, condition, selector, labels, iteration, every, folded, folded_stmts, folded_arms, folded_entries, folded_else, folded_parts, folded_body}

module _ (P : List IterationData → StatementItem → Type 0) where
  abbrev pub WithSelector : List IterationData → StatementItem → Type 0
  WithSelector around (assignment p e) = P around (assignment p e)
  WithSelector around (invocation n at cs) = P around (invocation n at cs)
  WithSelector around (condition e) = P around (condition e)
  WithSelector around (selector e) = P around (selector e)
  WithSelector around (labels e before ls) = P around (selector e) × P around (labels e before ls)
  WithSelector around (iteration i) = P around (iteration i)

  mutual
    with_selector : (around : List IterationData) (s : Stmt) → folded (every P) around s → folded (every WithSelector) around s
    with_selector around empty h = tt
    with_selector around (assign p e) h = h
    with_selector around (invoke n at cs) h = h
    with_selector around (branch arms other) h = (with_arms around arms h.0, with_else around other h.1)
    with_selector around (cases e es other) h = (h.0, (with_entries around e h.0 [] es h.1.0, with_else around other h.1.1))
    with_selector around (iterate i ss) h = (h.0, with_selectors (i ∷ around) ss h.1)
    with_selector around (exit at) h = tt
    with_selector around return h = tt

    pub with_selectors : (around : List IterationData) (ss : Stmts) → folded_stmts (every P) around ss → folded_stmts (every WithSelector) around ss
    with_selectors around no_stmts h = tt
    with_selectors around (stmt s ss) h = (with_selector around s h.0, with_selectors around ss h.1)

    with_arms : (around : List IterationData) (arms : Arms) → folded_arms (every P) around arms → folded_arms (every WithSelector) around arms
    with_arms around no_arms h = tt
    with_arms around (arm e ss arms) h = (h.0, (with_selectors around ss h.1.0, with_arms around arms h.1.1))

    with_entries : (around : List IterationData) (e : Tree) → P around (selector e) → (before : List (List LabelData)) (es : Entries) → folded_entries (every P) around e before es
        → folded_entries (every WithSelector) around e before es
    with_entries around e one before no_entries h = tt
    with_entries around e one before (entry ls ss es) h = ((one, h.0), (with_selectors around ss h.1.0, with_entries around e one (ls ∷ before) es h.1.1))

    with_else : (around : List IterationData) (other : Otherwise) → folded_else (every P) around other → folded_else (every WithSelector) around other
    with_else around no_else h = tt
    with_else around (else_stmts ss) h = with_selectors around ss h

  pub parts_with_selectors : (ps : List PartData) → folded_parts (every P) ps → folded_parts (every WithSelector) ps
  parts_with_selectors [] h = tt
  parts_with_selectors (step_part s ∷ ps) h = parts_with_selectors ps h
  parts_with_selectors (transition_part t ∷ ps) h = (h.0, parts_with_selectors ps h.1)
  parts_with_selectors (action_part a ∷ ps) h = (with_selectors [] a.body h.0, parts_with_selectors ps h.1)

  pub body_with_selectors : (b : BodyData) → folded_body (every P) b → folded_body (every WithSelector) b
  body_with_selectors (statements ss) h = with_selectors [] ss h
  body_with_selectors (chart ps) h = parts_with_selectors ps h
