-- Where a reader of a finding stands.
use Rattle.std.specs.Prelude.{◌≡◌, ℕ, ◌+◌, List, [], ◌++◌, drop, length}
use Rattle.finding_lines.specs.declared.line.Line.{Line}
use Rattle.finding_lines.specs.Spelling.{written}

pub record Reading : Type 0 where
  -- the file, and how many bytes it may have
  pub name : List ℕ
  pub limit : ℕ
  -- how many bytes stand before the next line, and its number, from 1
  pub at : ℕ
  pub number : ℕ
  -- what was read ahead of it
  pub held : List ℕ

-- a reader that has read nothing
abbrev pub reading_at_start : List ℕ → ℕ → Reading
reading_at_start name limit = record { name = name; limit = limit; at = 0; number = 1; held = [] }

-- the bytes of the file from the next line on
abbrev pub rest_of : Reading → List ℕ → List ℕ
rest_of r bytes = drop r.at bytes

-- what was read ahead stands in the file
abbrev pub Agrees : Reading → List ℕ → Type 0
Agrees r bytes = (more : List ℕ) × (rest_of r bytes ≡ r.held ++ more)

-- the reader stands before the same line
pub record IsSamePlace (old new : Reading) : Type 0 where
  pub name : new.name ≡ old.name
  pub limit : new.limit ≡ old.limit
  pub at : new.at ≡ old.at
  pub number : new.number ≡ old.number

-- the reader stands behind this line
pub record IsPast (old new : Reading) (line : Line) : Type 0 where
  pub name : new.name ≡ old.name
  pub limit : new.limit ≡ old.limit
  pub at : new.at ≡ old.at + length (written line)
  pub number : new.number ≡ old.number + 1
