-- What stands ahead of a place in a file. A line ends with its line feed.
use Rattle.std.specs.Prelude.{ℕ, ◌+◌, ◌==◌, List, [], ◌∷◌, length, if◌then◌else◌}

pub data Ahead : Type 0 where
  -- the file ends here
  nothing : Ahead
  -- a line's text, without its line feed, and what follows it
  ended : List ℕ → List ℕ → Ahead
  -- a line that the file's end cuts off before its line feed
  unended : List ℕ → Ahead

-- one more byte, no line feed, in front
abbrev pub with_byte : ℕ → Ahead → Ahead
with_byte b nothing = unended (b ∷ [])
with_byte b (ended text rest) = ended (b ∷ text) rest
with_byte b (unended text) = unended (b ∷ text)

-- what stands ahead of the first of these bytes
abbrev pub ahead : List ℕ → Ahead
ahead [] = nothing
ahead (b ∷ bs) = if b == 10 then ended [] bs else with_byte b (ahead bs)

-- how many bytes the next line has, with its line feed if it has one
abbrev pub size : Ahead → ℕ
size nothing = 0
size (ended text rest) = length text + 1
size (unended text) = length text
