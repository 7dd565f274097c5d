-- Values and places of data types, where it is known of each enumeration which number is that of its last value.
use Rattle.std.specs.Prelude.{◌≡◌, ℕ, ℤ, pos, true, false}
use Rattle.plc_types.specs.declared.elementary.Elementary.TheVariants as types
use Rattle.plc_types.specs.declared.data_type.DataType.{DataType}
use Rattle.plc_types.specs.declared.data_type.DataType.TheVariants as kinds
use Rattle.plc_types.specs.declared.range.Range.{Range}
use Rattle.plc_types.specs.DataTypes.{carrier}
use Rattle.plc_types.specs.Types.{range_of, in_range}
use Rattle.program_tree.specs.Tree.{Expression}
use Rattle.program_tree.specs.declared.scratch.Scratch.{Scratch}
use Rattle.meaning.specs.StaysIn.{covers}
use Rattle.typed_programs.specs.Scopes.{Pous, BodyScope}
use Rattle.typed_programs.specs.Expressions.{IsOf, stays_in}

-- all values of a data type
abbrev pub range_of_type : (ℕ → ℤ) → DataType → Range
range_of_type last (kinds.Elementary k) = range_of k
range_of_type last (kinds.Enumeration n) = record { low = pos 0; high = last n }
range_of_type last kinds.Unknown = record { low = pos 1; high = pos 0 }

-- a data type that is known; an enumeration has at most 256 values
abbrev pub IsKnown : (ℕ → ℤ) → DataType → Type 0
IsKnown last (kinds.Elementary k) = Unit {0}
IsKnown last (kinds.Enumeration n) = in_range (last n) (range_of types.Usint) ≡ true
IsKnown last kinds.Unknown = ⊥

-- An expression of a data type; where that is an enumeration, all its values are the enumeration's.
abbrev pub IsOfType : Pous → BodyScope → (ℕ → ℤ) → DataType → Expression → Type 0
IsOfType pous b last (kinds.Elementary k) e = IsOf pous b k e
IsOfType pous b last (kinds.Enumeration n) e = IsOf pous b types.Usint e × (stays_in pous b.places e (range_of_type last (kinds.Enumeration n)) ≡ true)
IsOfType pous b last kinds.Unknown e = ⊥

-- What a place takes that is of a data type: numbers of a range of that type, and all of the type's where it is no subrange.
pub record IsPlaceOf (last : ℕ → ℤ) (t : DataType) (p : Scratch) : Type 0 where
  pub known : IsKnown last t
  pub kind : p.kind ≡ carrier t
  pub within : covers (range_of_type last t) p.range ≡ true
  pub whole : p.is_subrange ≡ false → p.range ≡ range_of_type last t
