-- What the number of a FOR's turns says (IEC 61131-3, 3.3.2.4).
use Rattle.std.specs.Prelude.{◌≡◌, ◌<◌, ℕ, true, false, ℤ, pos, ◌+ℤ◌, ◌*ℤ◌}
use Rattle.typing.specs.Constants.{goes_on}

-- the value of the control variable behind so many turns
abbrev pub value_behind : ℤ → ℤ → ℕ → ℤ
value_behind first step k = first +ℤ pos k *ℤ step

-- So many turns end a FOR: each begins with a value that does not pass the last one, and the value behind them passes it.
pub record AreAllTurns (count : ℕ) (first last step : ℤ) : Type 0 where
  pub each : (k : ℕ) → k < count → goes_on (value_behind first step k) last step ≡ true
  pub ends : goes_on (value_behind first step count) last step ≡ false

-- more than 4,096 turns begin with a value that does not pass the last one
abbrev pub AreTooMany : ℤ → ℤ → ℤ → Type 0
AreTooMany first last step = (k : ℕ) → k < 4097 → goes_on (value_behind first step k) last step ≡ true
