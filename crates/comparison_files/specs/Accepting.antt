-- The three texts of a comparison: which are accepted, and which rule or limit is the first that is broken. The files come in their order;
-- with a program all that is made of it comes, and with REL the circuits.
use Rattle.std.specs.Prelude.{◌≡◌, ℕ, List, length, true, IsTrue}
use Rattle.source_tree.specs.declared.token.Tok.{Tok}
use Rattle.rules.specs.declared.rule.Refusal.{Refusal}
use Rattle.program_tree.specs.Tree.{ProgramData}
use Rattle.scan_model.specs.Pairs.{RelationData}
use Rattle.queries.specs.Comparisons.{Comparison}
use Rattle.command_files.specs.front_end.Texts.{StatesProgram, HasTokens, HasNoTokens}
use Rattle.flat_form.specs.FlatPrograms.{flat_program, is_short}
use Rattle.node_end.specs.FlatTexts.{HasNoFlatForm}
use Rattle.node_core.specs.Scans.{ScanData, scan_of, is_small}
use Rattle.node_end.specs.NodeTexts.{HasManyNodes}
use Rattle.relation_file.specs.Stated.{IsRelation, IsNoSmallRelation, has_few_candidates}
use Rattle.product_build.specs.Limits.{HasFewGates, HasManyGates}
use Rattle.command_answers.specs.declared.source.Source.{Source}
use Rattle.command_answers.specs.declared.source.Source.TheVariants.{Old, New, Relation}
use Rattle.rules.specs.declared.rule.Rule.{Rule}
use Rattle.rules.specs.declared.rule.Rule.TheVariants.{TooManyNodes, TooManyGates}
use Rattle.command_files.specs.Texts.{Texts}

-- the nodes of a program's scan
abbrev pub nodes_of : ProgramData → ScanData
nodes_of p = scan_of (flat_program p)

-- a text states a program with few flat statements and few nodes
pub record StatesSmallProgram (text : List ℕ) (p : ProgramData) : Type 0 where
  pub is : StatesProgram text p
  pub short : IsTrue (is_short p)
  pub small : IsTrue (is_small (flat_program p))

-- a text states a relation between two programs, with few candidates
pub record StatesSmallRelation (old new : ProgramData) (text : List ℕ) (rel : RelationData) : Type 0 where
  pub toks : List Tok
  pub tokens : HasTokens text toks
  pub is : IsRelation old new (length text) toks rel
  pub few : has_few_candidates rel ≡ true

-- a text states none, and this is the first rule that it breaks
pub data StatesNoSmallRelation (old new : ProgramData) (text : List ℕ) (r : Refusal) : Type 0 where
  by_tokens : HasNoTokens text r → StatesNoSmallRelation old new text r
  by_lines : (toks : List Tok) → HasTokens text toks → IsNoSmallRelation old new (length text) toks r → StatesNoSmallRelation old new text r

-- three texts state what is compared
pub record AreStated (t : Texts) (c : Comparison) : Type 0 where
  pub old_is : StatesSmallProgram t.old c.old
  pub new_is : StatesSmallProgram t.new c.new
  pub rel_is : StatesSmallRelation c.old c.new t.rel c.relation

-- and its circuits have few gates
pub record AreAccepted (t : Texts) (c : Comparison) : Type 0 where
  pub stated : AreStated t c
  pub gates : HasFewGates c (nodes_of c.old) (nodes_of c.new)

-- a file is the first that breaks a rule on texts, and this is the first rule that it breaks
pub data IsRefused (t : Texts) (file : Source) (r : Refusal) : Type 0 where
  old_refused : HasNoFlatForm t.old r → file ≡ Old → IsRefused t file r
  new_refused : (old : ProgramData) → StatesSmallProgram t.old old → HasNoFlatForm t.new r → file ≡ New → IsRefused t file r
  rel_refused : (old new : ProgramData) → StatesSmallProgram t.old old → StatesSmallProgram t.new new → StatesNoSmallRelation old new t.rel r → file ≡ Relation → IsRefused t file r

-- a file is the first of which too many nodes or gates would be made
pub data IsTooLarge (t : Texts) (file : Source) (limit : Rule) : Type 0 where
  old_nodes : HasManyNodes t.old → file ≡ Old → limit ≡ TooManyNodes → IsTooLarge t file limit
  new_nodes : (old : ProgramData) → StatesSmallProgram t.old old → HasManyNodes t.new → file ≡ New → limit ≡ TooManyNodes → IsTooLarge t file limit
  gates : (c : Comparison) → AreStated t c → HasManyGates c (nodes_of c.old) (nodes_of c.new) → file ≡ Relation → limit ≡ TooManyGates → IsTooLarge t file limit
