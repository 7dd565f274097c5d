-- What tokens are the lines of a relation file, and why others are none.
use Rattle.std.specs.Prelude.{◌≡◌, ◌⊎◌, List}
use Rattle.source_tree.specs.declared.token.Tok.{Tok}
use Rattle.rules.specs.declared.rule.Rule.TheVariants.{NoTree}
use Rattle.rules.specs.declared.rule.Refusal.{Refusal}
use Rattle.rules.specs.declared.fault.Fault.{Fault}
use Rattle.rules.specs.declared.fault.Fault.TheVariants.{Refused, Memory}
use Rattle.source_tree.specs.SyntaxView.{symbols}
use Rattle.grammar.specs.FirstFault.{AreSoundTokens, IsFirstFault}
use Rattle.relation_lines.specs.Lines.{LineData}
use Rattle.relation_lines.specs.Prints.{print_lines}
use Rattle.relation_lines.specs.Levels.{AreLinesLevelled}

-- Tokens are these lines: they break neither X1 nor G2, and the lines, which are levelled, print them.
pub record AreLines (toks : List Tok) (ls : List LineData) : Type 0 where
  pub sound : AreSoundTokens toks
  pub printed : symbols toks ≡ print_lines ls
  pub levelled : AreLinesLevelled ls

-- Tokens break neither X1 nor G2, and no levelled lines print them: G1.
pub record HasNoLines (toks : List Tok) (r : Refusal) : Type 0 where
  pub sound : AreSoundTokens toks
  pub rule : r.rule ≡ NoTree
  pub none : (ls : List LineData) → AreLinesLevelled ls → symbols toks ≡ print_lines ls → ⊥

-- why tokens are no relation file, by this rule first
abbrev pub IsLinesRefusal : List Tok → Refusal → Type 0
IsLinesRefusal toks r = IsFirstFault toks r ⊎ HasNoLines toks r

abbrev pub IsLinesFault : List Tok → Fault → Type 0
IsLinesFault toks (Refused r) = IsLinesRefusal toks r
IsLinesFault toks Memory = Unit {0}
