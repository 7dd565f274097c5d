-- The labels that were seen, by their lows.
use Rattle.std.specs.Prelude.{◌≡◌, List, [], ◌∷◌, false, Option, Some, None, if◌then◌else◌, ℤ, ◌≤ℤ◌}
use Rattle.std.specs.Ordering.{int_cmp, int_eq}
use Rattle.std.specs.BTreeMap.{BTreeMap, get}
use Rattle.plc_types.specs.declared.range.Range.{Range}
use Rattle.typing.specs.Labels.{overlaps}

-- the high of the range with a low, where there is one
abbrev pub high_at : ℤ → List Range → Option ℤ
high_at low [] = None
high_at low (r ∷ rs) = if int_eq r.low low then Some r.high else high_at low rs

-- bounds are in order, and no two ranges meet
abbrev pub AreApart : List Range → Type 0
AreApart [] = Unit {0}
AreApart (r ∷ rs) = (r.low ≤ℤ r.high) × (overlaps rs r ≡ false) × AreApart rs

-- a map has the high of each range at its low
abbrev pub Keeps : BTreeMap ℤ ℤ → List Range → Type 0
Keeps m rs = ((low : ℤ) → get int_cmp m low ≡ high_at low rs) × AreApart rs
