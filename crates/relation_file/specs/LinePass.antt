-- The lines of a file, each gone through as soon as it is read.
use Rattle.std.specs.Prelude.{◌≡◌, ◌≢◌, ℕ, List, length, Option, Some, None, Result, Ok, Err}
use Rattle.source_tree.specs.declared.token.Tok.{Tok}
use Rattle.source_tree.specs.Syntax.{Symbol}
use Rattle.program_tree.specs.Tree.{ProgramData}
use Rattle.grammar.specs.declared.fault.Stop.{Stop}
use Rattle.grammar.specs.declared.fault.Stop.TheVariants.{Memory}
use Rattle.grammar.specs.Reading.{◌>>=◌, ahead}
use Rattle.relation_lines.specs.Lines.{LineData}
use Rattle.relation_lines.specs.Reading.{lines as lines_behind, ended, file}
use Rattle.relation_lines.specs.Whole.{AreLines}
use Rattle.relation_file.specs.declared.line_pass.LinePass.{LinePass}
use Rattle.relation_file.specs.FirstBroken.{IsFirstBroken}
use Rattle.relation_file.specs.Gathered.{IsGathered}

-- what is kept of lines, whatever lines follow
pub record HasPassed (old new : ProgramData) (end : ℕ) (ls : List LineData) (pass : LinePass) : Type 0 where
  pub broken : IsFirstBroken old new end ls pass.broken
  pub gathered : IsGathered old new ls pass.gathered

-- what is read of lines and those behind them, up to the end
abbrev pub lines_on : ℕ → ℕ → ℕ → List LineData → List Symbol → Option (List LineData)
lines_on turns depth n before ts = lines_behind turns depth n before ts >>= λ read. ended turns depth read.0 read.1

-- symbols are lines, of which this is kept
pub record HasRead (old new : ProgramData) (end : ℕ) (toks : List Tok) (pass : LinePass) : Type 0 where
  pub lines : List LineData
  pub read : file (length toks) 64 (ahead toks 0) ≡ Some lines
  pub passed : HasPassed old new end lines pass

-- what a function that reads a whole file answers
abbrev pub GivesPass : ProgramData → ProgramData → ℕ → List Tok → Result LinePass Stop → Type 0
GivesPass old new end toks (Ok pass) = HasRead old new end toks pass
GivesPass old new end toks (Err e) = e ≢ Memory → file (length toks) 64 (ahead toks 0) ≡ None

-- tokens are the lines of a relation file, of which this is kept
pub record IsPass (old new : ProgramData) (end : ℕ) (toks : List Tok) (pass : LinePass) : Type 0 where
  pub lines : List LineData
  pub read : AreLines toks lines
  pub passed : HasPassed old new end lines pass
