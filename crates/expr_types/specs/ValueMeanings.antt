-- What a name stands for that is a value of an enumeration.
use Rattle.std.specs.Prelude.{ℕ, Bool, false, ℤ}
use Rattle.plc_types.specs.declared.data_type.DataType.TheVariants.{Enumeration}
use Rattle.typing.specs.declared.scope.Place.TheVariants as places
use Rattle.typing.specs.declared.scope.Meaning.{Meaning}

-- what a value of the type of a number stands for
abbrev pub valued : ℕ → ℤ → Bool → Meaning
valued t v whole = record { place = places.Value v; kind = Enumeration t; range = record { low = v; high = v }; whole = whole; assignable = false; control = false }
