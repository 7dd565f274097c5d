-- Which POUs use which, and N3 of a POU that is declared in terms of itself (IEC 61131-3, 2.5.1.1): by instances of blocks and calls of
-- FUNCTIONs, also through others.
use Rattle.std.specs.Prelude.{◌≡◌, ◌⊎◌, ℕ, List, [], ◌∷◌, ◌++◌, Option, Some, None, map, IsTrue, if◌then◌else◌}
use Rattle.call_order.specs.Uses.{Reaches}
use Rattle.rules.specs.declared.rule.Refusal.{Refusal}
use Rattle.rules.specs.declared.rule.Rule.TheVariants.{InTermsOfItself}
use Rattle.rules.specs.Rules.{IsAmong}
use Rattle.source_tree.specs.Syntax.{Tree, literal, path, enumerator, paren, unary, chain, call, Links, no_links, link, Arguments, no_arguments, argument, ConnectionData, input, output, Stmt, empty, assign, invoke, branch, cases, iterate, exit, return, Stmts, no_stmts, stmt, Arms, no_arms, arm, Entries, no_entries, entry, Otherwise, no_else, else_stmts, IterationData, PartData, step_part, transition_part, action_part, BodyData, statements, chart as chart_body, PouData, FileData}
use Rattle.naming.specs.declared.callee.Callee.{Callee}
use Rattle.naming.specs.declared.callee.Callee.TheVariants as callees
use Rattle.naming.specs.FileScope.{pous_of, pou_at}
use Rattle.naming.specs.DeclarationUses.{numbers_in}
use Rattle.naming.specs.Scopes.{Variable, PouScope, scope_of, is_whole, block_of}
use Rattle.naming.specs.Broken.{callee_of, in_pou, broken_names}

-- the block of an instance whose declaration breaks no rule
abbrev pub block_used : FileData → PouScope → Variable → Option ℕ
block_used f p v = if is_whole f p v then block_of f v else None

-- the blocks of all such instances
abbrev pub blocks_used : FileData → PouScope → List Variable → List ℕ
blocks_used f p [] = []
blocks_used f p (v ∷ vs) = numbers_in (block_used f p v) ++ blocks_used f p vs

abbrev pub called : Callee → List ℕ
called callees.Standard = []
called (callees.Function number) = number ∷ []
called callees.Unknown = []

-- the FUNCTIONs that expressions and statements call
abbrev mutual
  pub calls_in : FileData → Tree → List ℕ
  calls_in f (literal l) = []
  calls_in f (path q) = []
  calls_in f (enumerator t v) = []
  calls_in f (paren at e) = calls_in f e
  calls_in f (unary o at e) = calls_in f e
  calls_in f (chain e ls) = calls_in f e ++ calls_in_links f ls
  calls_in f (call n at args) = called (callee_of f n.text) ++ calls_in_arguments f args

  pub calls_in_links : FileData → Links → List ℕ
  calls_in_links f no_links = []
  calls_in_links f (link o at e ls) = calls_in f e ++ calls_in_links f ls

  pub calls_in_arguments : FileData → Arguments → List ℕ
  calls_in_arguments f no_arguments = []
  calls_in_arguments f (argument n e args) = calls_in f e ++ calls_in_arguments f args

abbrev pub calls_in_step : FileData → Option Tree → List ℕ
calls_in_step f None = []
calls_in_step f (Some e) = calls_in f e

abbrev pub calls_in_iteration : FileData → IterationData → List ℕ
calls_in_iteration f i = calls_in f i.first ++ calls_in f i.last ++ calls_in_step f i.step

abbrev pub calls_in_connection : FileData → ConnectionData → List ℕ
calls_in_connection f (input n e) = calls_in f e
calls_in_connection f (output n q) = []

abbrev pub calls_in_connections : FileData → List ConnectionData → List ℕ
calls_in_connections f [] = []
calls_in_connections f (c ∷ cs) = calls_in_connection f c ++ calls_in_connections f cs

abbrev mutual
  pub calls_in_stmt : FileData → Stmt → List ℕ
  calls_in_stmt f empty = []
  calls_in_stmt f (assign q e) = calls_in f e
  calls_in_stmt f (invoke n at cs) = calls_in_connections f cs
  calls_in_stmt f (branch arms other) = calls_in_arms f arms ++ calls_in_else f other
  calls_in_stmt f (cases e es other) = calls_in f e ++ calls_in_entries f es ++ calls_in_else f other
  calls_in_stmt f (iterate i ss) = calls_in_iteration f i ++ calls_in_stmts f ss
  calls_in_stmt f (exit at) = []
  calls_in_stmt f return = []

  pub calls_in_stmts : FileData → Stmts → List ℕ
  calls_in_stmts f no_stmts = []
  calls_in_stmts f (stmt s ss) = calls_in_stmt f s ++ calls_in_stmts f ss

  pub calls_in_arms : FileData → Arms → List ℕ
  calls_in_arms f no_arms = []
  calls_in_arms f (arm e ss arms) = calls_in f e ++ calls_in_stmts f ss ++ calls_in_arms f arms

  pub calls_in_entries : FileData → Entries → List ℕ
  calls_in_entries f no_entries = []
  calls_in_entries f (entry ls ss es) = calls_in_stmts f ss ++ calls_in_entries f es

  pub calls_in_else : FileData → Otherwise → List ℕ
  calls_in_else f no_else = []
  calls_in_else f (else_stmts ss) = calls_in_stmts f ss

-- those that the conditions of transitions and the statements of actions call
abbrev pub calls_in_part : FileData → PartData → List ℕ
calls_in_part f (step_part s) = []
calls_in_part f (transition_part t) = calls_in f t.condition
calls_in_part f (action_part a) = calls_in_stmts f a.body

abbrev pub calls_in_parts : FileData → List PartData → List ℕ
calls_in_parts f [] = []
calls_in_parts f (p ∷ ps) = calls_in_part f p ++ calls_in_parts f ps

abbrev pub calls_in_body : FileData → BodyData → List ℕ
calls_in_body f (statements ss) = calls_in_stmts f ss
calls_in_body f (chart_body ps) = calls_in_parts f ps

-- the POUs that a POU uses, by their numbers, in the order of its text: the blocks of its instances, and the FUNCTIONs that it calls
unfoldable pub uses_in : FileData → PouData → List ℕ
uses_in f p = blocks_used f (scope_of p) (scope_of p).variables ++ calls_in_body f p.body

-- for each POU of a file the POUs that it uses
abbrev pub uses_of : FileData → List (List ℕ)
uses_of f = map (uses_in f) (pous_of f)

-- N3 at a POU that uses itself, also through others, and is whole otherwise
pub record IsInCircle (f : FileData) (r : Refusal) : Type 0 where
  pub number : ℕ
  pub pou : PouData
  pub there : pou_at f number ≡ Some pou
  pub whole : IsTrue (in_pou f pou).whole
  pub reaches : Reaches (uses_of f) number number
  pub is : r ≡ record { rule = InTermsOfItself; at = pou.name.at }

-- what a file breaks of the rules on names
abbrev pub IsBroken : FileData → Refusal → Type 0
IsBroken f r = IsAmong r (broken_names f) ⊎ IsInCircle f r
