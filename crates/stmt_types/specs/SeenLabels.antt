-- The labels that were seen, and the greatest of their values.
use Rattle.std.specs.Prelude.{List, [], ◌∷◌, Bool, true, Option, Some, None, if◌then◌else◌, ℤ, ◌≤ℤ◌, int_lt}
use Rattle.plc_types.specs.declared.range.Range.{Range}
use Rattle.typing.specs.Seen.{Keeps}
use Rattle.stmt_types.specs.declared.seen_labels.Seen.{Seen}

-- a value is above the greatest one, where there is one
abbrev pub is_above : Option ℤ → ℤ → Bool
is_above None value = true
is_above (Some top) value = int_lt top value

abbrev pub greater : Option ℤ → ℤ → ℤ
greater None value = value
greater (Some top) value = if int_lt top value then value else top

-- a value is at most the greatest one
abbrev pub IsWithin : Option ℤ → ℤ → Type 0
IsWithin None value = ⊥
IsWithin (Some top) value = value ≤ℤ top

abbrev pub AreWithin : Option ℤ → List Range → Type 0
AreWithin top [] = Unit {0}
AreWithin top (r ∷ rs) = IsWithin top r.high × AreWithin top rs

-- what was seen is a list of ranges
abbrev pub Sees : Seen → List Range → Type 0
Sees seen rs = Keeps seen.highs rs × AreWithin seen.greatest rs
