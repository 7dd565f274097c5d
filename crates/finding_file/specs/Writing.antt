-- What a writer of a finding has written.
use Rattle.std.specs.Prelude.{ℕ, List, [], ◌∷◌, ◌++◌}
use Rattle.finding_lines.specs.declared.line.Line.{Line}
use Rattle.finding_lines.specs.Spelling.{written}

pub record Writing : Type 0 where
  -- the file, and how many bytes it may have
  pub name : List ℕ
  pub limit : ℕ
  -- how many bytes the lines have that were written
  pub size : ℕ

-- lines as they stand in a file
abbrev pub all_written : List Line → List ℕ
all_written [] = []
all_written (l ∷ ls) = written l ++ all_written ls
