-- Steps of a FOR that stay in a range.
use Rattle.std.specs.Prelude.{ℕ, if◌then◌else◌, ℤ, pos, ◌-ℤ◌, ◌/◌, int_lt, unsigned_abs}
use Rattle.plc_types.specs.declared.range.Range.{Range}

-- the end of a range in the direction of a step
abbrev pub end_towards : ℤ → Range → ℤ
end_towards step r = if int_lt (pos 0) step then r.high else r.low

-- how many steps lead from a value of a range no further than its end in their direction
abbrev pub steps_within : ℤ → ℤ → Range → ℕ
steps_within first step r = unsigned_abs (end_towards step r -ℤ first) / unsigned_abs step
