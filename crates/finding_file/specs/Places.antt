-- What the parts of a reader do.
use Rattle.std.specs.Prelude.{◌≡◌, ℕ, ◌+◌, ◌<◌, ◌≤◌, List, ◌++◌, length}
use Rattle.finding_lines.specs.declared.line.Line.{Line}
use Rattle.finding_lines.specs.Spelling.{written}
use Rattle.finding_file.specs.declared.reader.Piece.{Piece}
use Rattle.finding_file.specs.declared.reader.Piece.TheVariants.{Added, End, Past}
use Rattle.finding_file.specs.declared.reader.Found.{Found}
use Rattle.finding_file.specs.declared.reader.Found.TheVariants.{Feed, End as FoundEnd, Past as FoundPast}
use Rattle.finding_file.specs.Reading.{Reading, rest_of, IsPast}
use Rattle.finding_lines.specs.Reading.{LacksFeed}
use Rattle.finding_file.specs.Searching.{IsFirstFeed}

-- what is held lies within the limit, and each line before has a byte or more
pub record IsInPlace (limit at number : ℕ) (held : List ℕ) (piece : ℕ) : Type 0 where
  pub within : at + length held ≤ limit
  pub few : number ≤ at + 1
  pub some : 0 < piece

-- the piece that was read: more is held; or nothing more; or nothing more, and the limit is reached
abbrev pub IsPiece : Reading → Reading → Piece → Type 0
IsPiece old new Added = length old.held < length new.held
IsPiece old new End = new ≡ old
IsPiece old new Past = (new ≡ old) × (new.at + length new.held ≡ new.limit)

-- and where the file is told: it ends with what is held, or goes on past the limit
abbrev pub MeetsPiece : Reading → List ℕ → Piece → Type 0
MeetsPiece new bytes Added = Unit {0}
MeetsPiece new bytes End = rest_of new bytes ≡ new.held
MeetsPiece new bytes Past = length new.held < length (rest_of new bytes)

-- what is held begins with a line; or holds no line feed; or none either, and the limit is reached
abbrev pub IsFound : Reading → Found → Type 0
IsFound new (Feed place) = IsFirstFeed new.held place
IsFound new FoundEnd = LacksFeed new.held
IsFound new FoundPast = LacksFeed new.held × (new.at + length new.held ≡ new.limit)

-- and where the file is told
abbrev pub MeetsFound : Reading → List ℕ → Found → Type 0
MeetsFound new bytes (Feed place) = Unit {0}
MeetsFound new bytes FoundEnd = rest_of new bytes ≡ new.held
MeetsFound new bytes FoundPast = length new.held < length (rest_of new bytes)

-- the reader went behind this line, which was held
pub record IsSkipped (old new : Reading) (line : Line) : Type 0 where
  pub past : IsPast old new line
  pub held : old.held ≡ written line ++ new.held
