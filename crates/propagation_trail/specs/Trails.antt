-- The trail: the literals that are true, in the order in which they became so.
use Rattle.std.specs.Prelude.{◌≡◌, ℕ, ◌+◌, ◌*◌, ◌/◌, ◌<◌, ◌≤◌, List, [], ◌∷◌, ◌++◌, length, take, replicate, slice_index_or, Contains}
use Rattle.clause_core.specs.declared.truth.Truth.{Truth}
use Rattle.clause_core.specs.declared.truth.Truth.TheVariants.{Open, True}
use Rattle.propagation_trail.specs.Codes.{truth, put}

-- the ranks of the true literals, how many of them were propagated, how many were true when each
-- decision was made, and the values of the variables
pub record TrailState : Type 0 where
  pub literals : List ℕ
  pub head : ℕ
  pub starts : List ℕ
  pub values : List Truth

-- nothing is true
abbrev pub empty_trail : ℕ → TrailState
empty_trail n = record { literals = []; head = 0; starts = []; values = replicate n Open }

-- one more literal is true
abbrev pub assigned : TrailState → ℕ → TrailState
assigned t c = record { literals = t.literals ++ c ∷ []; head = t.head; starts = t.starts; values = put t.values c True }

-- one more decision stands, whose literal comes next
abbrev pub with_level : TrailState → TrailState
with_level t = record { literals = t.literals; head = t.head; starts = t.starts ++ length t.literals ∷ []; values = t.values }

-- so many literals were propagated
abbrev pub with_head : TrailState → ℕ → TrailState
with_head t n = record { literals = t.literals; head = n; starts = t.starts; values = t.values }

-- the decisions above a level are taken back, and what they led to
pub record IsBack (t : TrailState) (level : ℕ) (s : TrailState) : Type 0 where
  pub literals : s.literals ≡ take (slice_index_or t.starts level 0) t.literals
  pub head : s.head ≡ slice_index_or t.starts level 0
  pub starts : s.starts ≡ take level t.starts
  pub size : length s.values ≡ length t.values

-- more literals are true, and all else stays
pub record Grown (t s : TrailState) : Type 0 where
  pub more : List ℕ
  pub literals : s.literals ≡ t.literals ++ more
  pub head : s.head ≡ t.head
  pub starts : s.starts ≡ t.starts
  pub size : length s.values ≡ length t.values

-- exactly the literals of the trail are true, and no variable stands twice in it
pub record IsConsistent (literals : List ℕ) (values : List Truth) : Type 0 where
  pub holds : (c : ℕ) → Contains literals c → truth values c ≡ True
  pub known : (c : ℕ) → truth values c ≡ True → Contains literals c
  pub apart : (i j : ℕ) → i < length literals → j < length literals → slice_index_or literals i 0 / 2 ≡ slice_index_or literals j 0 / 2 → i ≡ j

-- the places where the levels begin rise, up to `n`
pub record IsRising (starts : List ℕ) (n : ℕ) : Type 0 where
  pub within : (j : ℕ) → j < length starts → slice_index_or starts j 0 ≤ n
  pub rises : (i j : ℕ) → i < j → j < length starts → slice_index_or starts i 0 ≤ slice_index_or starts j 0

-- a table by ranks has the value of each literal
pub record IsTabled (truths values : List Truth) : Type 0 where
  pub size : length truths ≡ 2 * length values
  pub each : (r : ℕ) → slice_index_or truths r Open ≡ truth values r

-- how a trail is kept
pub record IsTrail (truths values : List Truth) (literals : List ℕ) (head : ℕ) (starts : List ℕ) : Type 0 where
  pub tabled : IsTabled truths values
  pub consistent : IsConsistent literals values
  pub propagated : head ≤ length literals
  pub rising : IsRising starts (length literals)
