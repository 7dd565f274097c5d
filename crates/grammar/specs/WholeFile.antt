-- What tokens are a file, and why others are none.
use Rattle.std.specs.Prelude.{◌≡◌, ◌⊎◌, List}
use Rattle.source_tree.specs.declared.token.Tok.{Tok}
use Rattle.rules.specs.declared.rule.Rule.TheVariants.{NoTree}
use Rattle.rules.specs.declared.rule.Refusal.{Refusal}
use Rattle.rules.specs.declared.fault.Fault.{Fault}
use Rattle.rules.specs.declared.fault.Fault.TheVariants.{Refused, Memory}
use Rattle.source_tree.specs.Syntax.{FileData}
use Rattle.source_tree.specs.SyntaxView.{symbols}
use Rattle.source_tree.specs.Prints.{print_file}
use Rattle.source_tree.specs.Levels.{IsFileLevelled}
use Rattle.grammar.specs.FirstFault.{AreSoundTokens, IsFirstFault}

-- Tokens are a file: they break neither X1 nor G2, and a levelled tree prints them.
pub record IsFile (toks : List Tok) (f : FileData) : Type 0 where
  pub sound : AreSoundTokens toks
  pub printed : symbols toks ≡ print_file f
  pub levelled : IsFileLevelled f

-- Tokens break neither X1 nor G2, and no levelled tree prints them: G1.
pub record HasNoTree (toks : List Tok) (r : Refusal) : Type 0 where
  pub sound : AreSoundTokens toks
  pub rule : r.rule ≡ NoTree
  pub none : (f : FileData) → IsFileLevelled f → symbols toks ≡ print_file f → ⊥

-- Why tokens are no file: the first that breaks X1 or G2, or G1 where none does; or memory ran out.
abbrev pub IsFileFault : List Tok → Fault → Type 0
IsFileFault toks (Refused r) = IsFirstFault toks r ⊎ HasNoTree toks r
IsFileFault toks Memory = Unit {0}
