-- What a part of a text on the sink is.
use Rattle.std.specs.Prelude.{◌≡◌, ℕ, List, ◌++◌, Option}
use Rattle.outside.specs.Contents.{extended}

-- what was put is a front of a text
pub record PutsPart (old new : Option (List ℕ)) (text : List ℕ) : Type 0 where
  pub kept : List ℕ
  pub rest : List ℕ
  pub whole : text ≡ kept ++ rest
  pub put : new ≡ extended old kept
