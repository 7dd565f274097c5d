-- The value of a FOR's control variable as it runs on, kept in numbers of 128 bits.
use Rattle.std.specs.Prelude.{◌≡◌, ℕ, zero, suc, ◌^◌, ℤ, pos, neg_ℤ, ◌+ℤ◌, ◌<ℤ◌, ◌≤ℤ◌, ◌⊎◌, Option, Some, None}

-- the value after so many turns
abbrev pub value_after : ℤ → ℤ → ℕ → ℤ
value_after first step zero = first
value_after first step (suc turns) = value_after first step turns +ℤ step

-- a number that 128 bits do not hold, and that goes on in its direction: it lies in no range
abbrev pub IsBeyond : ℤ → ℤ → Type 0
IsBeyond step v = ((pos 0 ≤ℤ step) × (pos (2 ^ 127) ≤ℤ v)) ⊎ ((step <ℤ pos 0) × (v <ℤ neg_ℤ (pos (2 ^ 127))))

-- what stands for a value: itself, or nothing where it is beyond
abbrev pub StandsFor : Option ℤ → ℤ → ℤ → Type 0
StandsFor (Some w) step v = w ≡ v
StandsFor None step v = IsBeyond step v
