-- Each item of levelled statements is levelled.
use Rattle.std.proofs.Common.{List, [], ◌∷◌}
use Rattle.source_tree.specs.Syntax.{IterationData, Tree, LabelData, Stmt, empty, assign, invoke, branch, cases, iterate, exit, return, Stmts, no_stmts, stmt, Arms, no_arms, arm, Entries, no_entries, entry, Otherwise, no_else, else_stmts, PartData, step_part, transition_part, action_part, BodyData, statements, chart}
use Rattle.source_tree.specs.Levels.{IsStmtLevelled, AreStmtsLevelled, AreArmsLevelled, AreEntriesLevelled, IsElseLevelled, ArePartsLevelled, IsBodyLevelled}
use Rattle.source_tree.specs.StatementItems.{every, folded, folded_stmts, folded_arms, folded_entries, folded_else, folded_parts, folded_body}
use Rattle.source_tree.specs.LevelledItems.{IsLevelledItem}

mutual
  levelled_item : (around : List IterationData) (s : Stmt) → IsStmtLevelled s → folded (every IsLevelledItem) around s
  levelled_item around empty h = tt
  levelled_item around (assign p e) h = h
  levelled_item around (invoke n at cs) h = h
  levelled_item around (branch no_arms other) h = absurd h
  levelled_item around (branch (arm e ss arms) other) h = ((h.0, (levelled_items around ss h.1, levelled_arms around arms h.2)), levelled_else around other h.3)
  levelled_item around (cases e no_entries other) h = absurd h
  levelled_item around (cases e (entry ls ss es) other) h = (h.0, ((h.1, (levelled_items around ss h.2, levelled_entries around e (ls ∷ []) es h.3)), levelled_else around other h.4))
  levelled_item around (iterate i ss) h = (h.0, levelled_items (i ∷ around) ss h.1)
  levelled_item around (exit at) h = tt
  levelled_item around return h = tt

  pub levelled_items : (around : List IterationData) (ss : Stmts) → AreStmtsLevelled ss → folded_stmts (every IsLevelledItem) around ss
  levelled_items around no_stmts h = tt
  levelled_items around (stmt s ss) h = (levelled_item around s h.0, levelled_items around ss h.1)

  levelled_arms : (around : List IterationData) (arms : Arms) → AreArmsLevelled arms → folded_arms (every IsLevelledItem) around arms
  levelled_arms around no_arms h = tt
  levelled_arms around (arm e ss arms) h = (h.0, (levelled_items around ss h.1, levelled_arms around arms h.2))

  levelled_entries : (around : List IterationData) (e : Tree) (before : List (List LabelData)) (es : Entries) → AreEntriesLevelled es → folded_entries (every IsLevelledItem) around e before es
  levelled_entries around e before no_entries h = tt
  levelled_entries around e before (entry ls ss es) h = (h.0, (levelled_items around ss h.1, levelled_entries around e (ls ∷ before) es h.2))

  levelled_else : (around : List IterationData) (other : Otherwise) → IsElseLevelled other → folded_else (every IsLevelledItem) around other
  levelled_else around no_else h = tt
  levelled_else around (else_stmts ss) h = levelled_items around ss h

pub levelled_parts : (ps : List PartData) → ArePartsLevelled ps → folded_parts (every IsLevelledItem) ps
levelled_parts [] h = tt
levelled_parts (step_part s ∷ ps) h = levelled_parts ps h.1
levelled_parts (transition_part t ∷ ps) h = (h.0, levelled_parts ps h.1)
levelled_parts (action_part a ∷ ps) h = (levelled_items [] a.body h.0, levelled_parts ps h.1)

pub levelled_body : (b : BodyData) → IsBodyLevelled b → folded_body (every IsLevelledItem) b
levelled_body (statements ss) h = levelled_items [] ss h
levelled_body (chart []) h = absurd h
levelled_body (chart (p ∷ ps)) h = levelled_parts (p ∷ ps) h
