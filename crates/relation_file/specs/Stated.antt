-- Which relation the tokens of a relation file state, and which rule other tokens break first. The passes come one
-- after the other: left-out words and nesting, grammar, lines and names, types.
use Rattle.std.specs.Prelude.{◌≡◌, ◌⊎◌, ℕ, List, [], length, nat_le, Bool, false}
use Rattle.source_tree.specs.declared.token.Tok.{Tok}
use Rattle.rules.specs.declared.rule.Rule.TheVariants.{TooManyCandidates}
use Rattle.rules.specs.declared.rule.Refusal.{Refusal}
use Rattle.rules.specs.Rules.{IsAmong, IsFirst}
use Rattle.program_tree.specs.Tree.{ProgramData}
use Rattle.scan_model.specs.Pairs.{RelationData}
use Rattle.relation_lines.specs.Lines.{LineData}
use Rattle.relation_lines.specs.Whole.{AreLines, IsLinesRefusal}
use Rattle.relation_file.specs.Broken.{broken_lines, broken_clauses}
use Rattle.relation_file.specs.Relations.{relation_of}

-- Tokens of a text of `end` bytes state a relation between two programs: they are lines that break no rule, and it is theirs.
pub record IsRelation (old new : ProgramData) (end : ℕ) (toks : List Tok) (rel : RelationData) : Type 0 where
  pub lines : List LineData
  pub read : AreLines toks lines
  pub sound : broken_lines old new end lines ≡ []
  pub typing : broken_clauses old new lines ≡ []
  pub stated : rel ≡ relation_of old new lines

-- lines state none, and this is the first rule that they break
abbrev pub IsFirstOf : ProgramData → ProgramData → ℕ → List LineData → Refusal → Type 0
IsFirstOf old new end lines r =
    IsFirst (λ x. IsAmong x (broken_lines old new end lines)) r
    ⊎ ((broken_lines old new end lines ≡ []) × IsFirst (λ x. IsAmong x (broken_clauses old new lines)) r)

-- they state none, and this is the first rule that they break
pub data IsNoRelation (old new : ProgramData) (end : ℕ) (toks : List Tok) (r : Refusal) : Type 0 where
  by_grammar : IsLinesRefusal toks r → IsNoRelation old new end toks r
  by_lines : (lines : List LineData) → AreLines toks lines → IsFirst (λ x. IsAmong x (broken_lines old new end lines)) r → IsNoRelation old new end toks r
  by_types : (lines : List LineData) → AreLines toks lines → broken_lines old new end lines ≡ []
      → IsFirst (λ x. IsAmong x (broken_clauses old new lines)) r → IsNoRelation old new end toks r

-- M4: at most 4,096 candidates
abbrev pub has_few_candidates : RelationData → Bool
has_few_candidates rel = nat_le (length rel.candidates) 4096

-- Tokens state no relation, or one with too many candidates, and this is the first rule that they break.
pub data IsNoSmallRelation (old new : ProgramData) (end : ℕ) (toks : List Tok) (r : Refusal) : Type 0 where
  by_relation : IsNoRelation old new end toks r → IsNoSmallRelation old new end toks r
  by_count : (rel : RelationData) → IsRelation old new end toks rel → has_few_candidates rel ≡ false → r ≡ record { rule = TooManyCandidates; at = 0 }
      → IsNoSmallRelation old new end toks r
