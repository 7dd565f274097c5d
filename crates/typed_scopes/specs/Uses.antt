-- Trees, statements and charts whose names may all be used. A scope says more than its body may use: of a block's members those that are not
-- seen from outside, and FUNCTIONs that stand behind their caller.
use Rattle.std.specs.Prelude.{◌≡◌, ℕ, Bool, true, List, [], ◌∷◌, Option, Some, None}
use Rattle.source_tree.specs.Syntax.{Tree, literal, path, enumerator, paren, unary, chain, call, Links, no_links, link, Arguments, no_arguments, argument, Named, ConnectionData, input, output, Stmts, LabelData, IterationData, PartData}
use Rattle.source_tree.specs.StatementItems.{StatementItem, assignment, invocation, condition, selector, labels, iteration, every, folded_stmts, folded_parts}
use Rattle.naming.specs.Broken.{alone}
use Rattle.naming.specs.Library.{standard_function}
use Rattle.typing.specs.Typing.{Reference, by_path, by_value}
use Rattle.typing.specs.JudgedStatements.{member}

-- what may be used: references, and the names of FUNCTIONs that may be called
pub record Usable : Type 0 where
  pub names : Reference → Bool
  pub functions : List ℕ → Bool

module _ (uses : Usable) where
  abbrev mutual
    pub IsWithin : Tree → Type 0
    IsWithin (literal l) = Unit {0}
    IsWithin (path p) = uses.names (by_path p) ≡ true
    IsWithin (enumerator t v) = uses.names (by_value v) ≡ true
    IsWithin (paren at e) = IsWithin e
    IsWithin (unary o at e) = IsWithin e
    IsWithin (chain e ls) = IsWithin e × AreLinksWithin ls
    IsWithin (call n at args) = (standard_function n.text ≡ None → uses.functions n.text ≡ true) × AreArgumentsWithin args

    pub AreLinksWithin : Links → Type 0
    AreLinksWithin no_links = Unit {0}
    AreLinksWithin (link o at e ls) = IsWithin e × AreLinksWithin ls

    pub AreArgumentsWithin : Arguments → Type 0
    AreArgumentsWithin no_arguments = Unit {0}
    AreArgumentsWithin (argument n e args) = IsWithin e × AreArgumentsWithin args

  abbrev pub IsOptionWithin : Option Tree → Type 0
  IsOptionWithin None = Unit {0}
  IsOptionWithin (Some e) = IsWithin e

  -- the connections of an instance
  abbrev pub AreConnectionsWithin : Named → List ConnectionData → Type 0
  AreConnectionsWithin n [] = Unit {0}
  AreConnectionsWithin n (input x e ∷ cs) = (uses.names (by_path (member n x)) ≡ true) × IsWithin e × AreConnectionsWithin n cs
  AreConnectionsWithin n (output y p ∷ cs) = (uses.names (by_path (member n y)) ≡ true) × (uses.names (by_path p) ≡ true) × AreConnectionsWithin n cs

  abbrev pub AreLabelsWithin : List LabelData → Type 0
  AreLabelsWithin [] = Unit {0}
  AreLabelsWithin (l ∷ ls) = IsWithin l.low × IsOptionWithin l.high × AreLabelsWithin ls

  abbrev pub IsIterationWithin : IterationData → Type 0
  IsIterationWithin i = (uses.names (by_path (alone i.control)) ≡ true) × IsWithin i.first × IsWithin i.last × IsOptionWithin i.step

  -- an item of statements
  abbrev pub IsItemWithin : List IterationData → StatementItem → Type 0
  IsItemWithin around (assignment p e) = (uses.names (by_path p) ≡ true) × IsWithin e
  IsItemWithin around (invocation n at cs) = AreConnectionsWithin n cs
  IsItemWithin around (condition e) = IsWithin e
  IsItemWithin around (selector e) = IsWithin e
  IsItemWithin around (labels e before ls) = AreLabelsWithin ls
  IsItemWithin around (iteration i) = IsIterationWithin i

  abbrev pub AreStmtsWithin : Stmts → Type 0
  AreStmtsWithin ss = folded_stmts (every IsItemWithin) [] ss

  abbrev pub ArePartsWithin : List PartData → Type 0
  ArePartsWithin ps = folded_parts (every IsItemWithin) ps
