-- What is seen of files and of output from outside the program.
use Rattle.std.specs.Prelude.{ℕ, Bool, false, List, Option}

-- a shelf: the bytes of each file, where they are told; how often reads of it have failed, and how often creates and appends have; whether a
-- read has failed, on a shelf of which nothing is read behind one that failed; and how many bytes from its start its reads have asked for at
-- most, on a shelf that tells
pub record ShelfState : Type 0 where
  pub file : List ℕ → Option (List ℕ)
  pub read_faults : List ℕ → ℕ
  pub write_faults : List ℕ → ℕ
  pub read_failed : Bool
  pub reach : List ℕ → ℕ

-- a sink: the bytes that were taken, where they are told; how often a put has failed; and whether one has, on a sink that takes nothing behind
-- one that failed
pub record SinkState : Type 0 where
  pub taken : Option (List ℕ)
  pub faults : ℕ
  pub put_failed : Bool

-- a shelf before and after
pub record Change : Type 0 where
  pub before : ShelfState
  pub after : ShelfState

abbrev pub change : ShelfState → ShelfState → Change
change before after = record { before = before; after = after }

-- a shelf that counts the failures of all files together, and may be read from and written to after one
abbrev pub shelf_state : (List ℕ → Option (List ℕ)) → ℕ → ℕ → ShelfState
shelf_state file read_faults write_faults = record {
  file = file;
  read_faults = λ name. read_faults;
  write_faults = λ name. write_faults;
  read_failed = false;
  reach = λ name. 0;
}

-- a sink that takes bytes behind a put that failed
abbrev pub sink_state : Option (List ℕ) → ℕ → SinkState
sink_state taken faults = record { taken = taken; faults = faults; put_failed = false }
