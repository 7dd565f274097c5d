-- What it is to read some bytes: the line, the number or the part that is spelled so, or none where nothing is.
use Rattle.std.specs.Prelude.{◌≡◌, ◌≢◌, ℕ, ℤ, pos, List, [], ◌∷◌, ◌++◌, Option, All, MatchOption}
use Rattle.finding_lines.specs.declared.line.Line.{Line}
use Rattle.finding_lines.specs.declared.line.Line.TheVariants.{Header, Seen, Walk, Dropping, Pair, Scan, Log, Query, Derived, Deleted, End}
use Rattle.finding_lines.specs.Spelling.{spelled}
use Rattle.finding_lines.specs.Numbers.{AreNumbers}
use Rattle.finding_lines.specs.Form.{IsLine}

-- the good value that is spelled so, or none where no good value is
abbrev pub Reads : {T : Type 0} → (T → Type 0) → (T → List ℕ) → List ℕ → Option T → Type 0
Reads {T} IsGood spell bytes answer = MatchOption answer ((x : T) → IsGood x → bytes ≢ spell x) (λ x. IsGood x × (bytes ≡ spell x))

-- the line that is spelled so, or none where no line is
abbrev pub ReadsLine : List ℕ → Option Line → Type 0
ReadsLine bytes answer = Reads IsLine spelled bytes answer

-- no byte is a space
abbrev pub LacksSpace : List ℕ → Type 0
LacksSpace bytes = All (λ b. b ≢ 32) bytes

-- nothing, or a space first
abbrev pub Opens : List ℕ → Type 0
Opens [] = Unit {0}
Opens (b ∷ bs) = b ≡ 32

-- a space first
abbrev pub IsLabel : List ℕ → Type 0
IsLabel [] = ⊥
IsLabel (b ∷ bs) = b ≡ 32

-- a good value is spelled at the front, before a space or the end
pub record IsTaken {T : Type 0} (IsGood : T → Type 0) (spell : T → List ℕ) (bytes : List ℕ) (x : T) (more : List ℕ) : Type 0 where
  pub good : IsGood x
  pub opens : Opens more
  pub whole : bytes ≡ spell x ++ more

-- none is
abbrev pub NoneTaken : {T : Type 0} → (T → Type 0) → (T → List ℕ) → List ℕ → Type 0
NoneTaken {T} IsGood spell bytes = (x : T) (more : List ℕ) → IsGood x → Opens more → bytes ≢ spell x ++ more

-- numbers of a finding, none of them 0
pub record AreNonzero (ns : List ℤ) : Type 0 where
  pub numbers : AreNumbers ns
  pub nonzero : All (λ n. n ≢ pos 0) ns

-- the line is one that has no row of numbers
abbrev pub HasNoRow : Line → Type 0
HasNoRow (Header version) = Unit {0}
HasNoRow (Seen inputs) = ⊥
HasNoRow (Walk inputs) = ⊥
HasNoRow (Dropping numbers) = ⊥
HasNoRow (Pair numbers) = ⊥
HasNoRow (Scan inputs) = ⊥
HasNoRow (Log q) = Unit {0}
HasNoRow (Query q) = Unit {0}
HasNoRow (Derived literals hints) = ⊥
HasNoRow (Deleted ids) = ⊥
HasNoRow (End v) = Unit {0}

-- no byte is a line feed
abbrev pub LacksFeed : List ℕ → Type 0
LacksFeed bytes = All (λ b. b ≢ 10) bytes
