-- How far a finding was read.
use Rattle.std.specs.Prelude.{◌≡◌, ℕ, List, length}
use Rattle.clause_core.specs.Formula.{Formula}
use Rattle.finding_lines.specs.declared.line.Line.{Line}
use Rattle.finding_file.specs.Reading.{Reading, rest_of}
use Rattle.finding_file.specs.Writing.{all_written}
use Rattle.queries.specs.Settings.{Setting}
use Rattle.queries.specs.Questions.{QueryData}
use Rattle.judgement.specs.Places.{Place}
use Rattle.judgement.specs.Findings.{Stands}

-- so many lines that all pass stand before the reader, and lead to the place
pub record IsReadTo (s : Setting) (formula : QueryData → Formula) (limit : ℕ) (file : List ℕ) (reader : Reading) (before : ℕ) (place : Place) : Type 0 where
  pub lines : List Line
  pub stands : Stands s formula limit file lines place (rest_of reader file)
  pub at : reader.at ≡ length (all_written lines)
  pub counted : before ≡ length lines
