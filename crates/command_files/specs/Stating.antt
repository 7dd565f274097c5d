-- The relation that a text states.
use Rattle.std.specs.Prelude.{ℕ, List, length}
use Rattle.source_tree.specs.declared.token.Tok.{Tok}
use Rattle.rules.specs.declared.rule.Refusal.{Refusal}
use Rattle.program_tree.specs.Tree.{ProgramData}
use Rattle.front_end.specs.Texts.{HasTokens, HasNoTokens}
use Rattle.scan_model.specs.Pairs.{RelationData}
use Rattle.relation_file.specs.Stated.{IsRelation, IsNoRelation}

-- a text states a relation between two programs: its tokens do
pub record StatesRelation (old new : ProgramData) (text : List ℕ) (rel : RelationData) : Type 0 where
  pub toks : List Tok
  pub tokens : HasTokens text toks
  pub is : IsRelation old new (length text) toks rel

-- A text states no relation between two programs: it has no tokens, or its tokens state none, and this is the first
-- rule that they break.
pub data StatesNoRelation (old new : ProgramData) (text : List ℕ) (r : Refusal) : Type 0 where
  by_tokens : HasNoTokens text r → StatesNoRelation old new text r
  by_lines : (toks : List Tok) → HasTokens text toks → IsNoRelation old new (length text) toks r → StatesNoRelation old new text r
