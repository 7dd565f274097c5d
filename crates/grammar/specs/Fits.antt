-- Levelled trees that nest within a depth.
use Rattle.std.specs.Prelude.{◌≡◌, ◌<◌, ℕ, zero, suc, List, [], ◌∷◌, Option, Some, None, Bool, is_some}
use Rattle.source_tree.specs.Syntax.{Tree, literal, path, enumerator, paren, unary, chain, call, Links, no_links, link, Arguments, no_arguments, argument, ConnectionData, input, output, Stmt, empty, assign, invoke, branch, cases, iterate, exit, return, Stmts, no_stmts, stmt, Arms, no_arms, arm, Entries, no_entries, entry, Otherwise, no_else, else_stmts, IterationData}
use Rattle.source_tree.specs.Levels.{level_of, level, IsPrimary, AreLabels, are_named}

-- a levelled tree in which no expression stands inside more parentheses than the number, those of calls among them
abbrev mutual
  pub Fits : Tree → ℕ → Type 0
  Fits (literal l) d = Unit {0}
  Fits (path p) d = Unit {0}
  Fits (enumerator t v) d = Unit {0}
  Fits (paren at e) zero = ⊥
  Fits (paren at e) (suc d) = Fits e d
  Fits (unary o at e) d = IsPrimary e × Fits e d
  Fits (chain e no_links) d = ⊥
  Fits (chain e (link o at f ls)) d = (level e < level_of o) × Fits e d × (level f < level_of o) × Fits f d × LinksFit ls (level_of o) d
  Fits (call n at args) d = ArgumentsFit (are_named args) args d

  -- operators of the first number, and operands that nest no deeper than the second
  pub LinksFit : Links → ℕ → ℕ → Type 0
  LinksFit no_links k d = Unit {0}
  LinksFit (link o at e ls) k d = (level_of o ≡ k) × (level e < k) × Fits e d × LinksFit ls k d

  -- arguments that are all by name or all by place, inside parentheses
  pub ArgumentsFit : Bool → Arguments → ℕ → Type 0
  ArgumentsFit named no_arguments d = Unit {0}
  ArgumentsFit named (argument n e args) zero = ⊥
  ArgumentsFit named (argument n e args) (suc d) = (is_some n ≡ named) × Fits e d × ArgumentsFit named args (suc d)

abbrev pub StepFits : Option Tree → ℕ → Type 0
StepFits None d = Unit {0}
StepFits (Some e) d = Fits e d

abbrev pub IterationFits : IterationData → ℕ → Type 0
IterationFits i d = Fits i.first d × Fits i.last d × StepFits i.step d

-- a connection inside the parentheses of a call
abbrev pub ConnectionFits : ConnectionData → ℕ → Type 0
ConnectionFits (input n e) zero = ⊥
ConnectionFits (input n e) (suc d) = Fits e d
ConnectionFits (output n p) d = Unit {0}

abbrev pub ConnectionsFit : List ConnectionData → ℕ → Type 0
ConnectionsFit [] d = Unit {0}
ConnectionsFit (c ∷ cs) d = ConnectionFits c d × ConnectionsFit cs d

-- statements of fitting expressions, in which parentheses and statements nest no deeper than the number
abbrev mutual
  pub StmtFits : Stmt → ℕ → Type 0
  StmtFits empty d = Unit {0}
  StmtFits (assign p e) d = Fits e d
  StmtFits (invoke n at cs) d = ConnectionsFit cs d
  StmtFits (branch no_arms other) d = ⊥
  StmtFits (branch (arm e ss arms) other) zero = ⊥
  StmtFits (branch (arm e ss arms) other) (suc d) = Fits e d × StmtsFit ss d × ArmsFit arms d × ElseFits other d
  StmtFits (cases e no_entries other) d = ⊥
  StmtFits (cases e (entry ls ss es) other) zero = ⊥
  StmtFits (cases e (entry ls ss es) other) (suc d) = Fits e d × AreLabels ls × StmtsFit ss d × EntriesFit es d × ElseFits other d
  StmtFits (iterate i ss) zero = ⊥
  StmtFits (iterate i ss) (suc d) = IterationFits i d × StmtsFit ss d
  StmtFits (exit at) d = Unit {0}
  StmtFits return d = Unit {0}

  pub StmtsFit : Stmts → ℕ → Type 0
  StmtsFit no_stmts d = Unit {0}
  StmtsFit (stmt s ss) d = StmtFits s d × StmtsFit ss d

  pub ArmsFit : Arms → ℕ → Type 0
  ArmsFit no_arms d = Unit {0}
  ArmsFit (arm e ss arms) d = Fits e d × StmtsFit ss d × ArmsFit arms d

  pub EntriesFit : Entries → ℕ → Type 0
  EntriesFit no_entries d = Unit {0}
  EntriesFit (entry ls ss es) d = AreLabels ls × StmtsFit ss d × EntriesFit es d

  pub ElseFits : Otherwise → ℕ → Type 0
  ElseFits no_else d = Unit {0}
  ElseFits (else_stmts ss) d = StmtsFit ss d
