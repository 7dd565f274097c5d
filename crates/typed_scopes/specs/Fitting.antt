-- When what names stand for fits the places that a body is typed over. Of names whose declaration breaks a rule, and of those whose type is
-- unknown, as that of an instance, nothing is said.
use Rattle.std.specs.Prelude.{◌≡◌, ◌≤◌, ◌<◌, ◌+◌, ℕ, ℤ, List, length, true, false, Some}
use Rattle.plc_types.specs.Types.{in_range}
use Rattle.program_tree.specs.Places.{place_at}
use Rattle.meaning.specs.Frames.{scratch_at}
use Rattle.typing.specs.declared.scope.Place.{Place}
use Rattle.typing.specs.declared.scope.Place.TheVariants as places
use Rattle.typing.specs.declared.scope.Meaning.{Meaning}
use Rattle.typing.specs.declared.scope.Port.{Port}
use Rattle.typing.specs.declared.scope.Signature.{Signature}
use Rattle.typing.specs.declared.scope.Instance.{Instance}
use Rattle.typing.specs.Typing.{Scope, Reference, is_unknown}
use Rattle.typed_programs.specs.Scopes.{Pous, BodyScope, IsNamed}
use Rattle.typed_programs.specs.Statements.{StandAt}
use Rattle.typed_scopes.specs.Uses.{Usable}
use Rattle.typed_scopes.specs.Types.{range_of_type, IsKnown, IsPlaceOf}

-- a name stands for a cell of its type and range, which may be set where the name may be assigned; or for a value of its type, and may then
-- not be assigned
abbrev pub IsAt : BodyScope → (ℕ → ℤ) → Meaning → Place → Type 0
IsAt b last m (places.Cell c) =
    IsNamed b c × IsPlaceOf last m.kind (place_at b.places c) × ((place_at b.places c).range ≡ m.range) × (m.assignable ≡ true → c < b.settable)
IsAt b last m (places.Value v) = IsKnown last m.kind × (in_range v (range_of_type last m.kind) ≡ true) × (m.assignable ≡ false)

abbrev pub MeaningFits : BodyScope → (ℕ → ℤ) → Meaning → Type 0
MeaningFits b last m = m.whole ≡ true → is_unknown m.kind ≡ false → IsAt b last m m.place

-- an input of a FUNCTION is there, and stands at a place of its frame
pub record InputFits (pous : Pous) (last : ℕ → ℤ) (scope : Scope) (s : Signature) (n : ℕ) : Type 0 where
  pub port : Port
  pub there : scope.port s.function n ≡ Some port
  pub place : port.whole ≡ true → is_unknown port.kind ≡ false → IsPlaceOf last port.kind (scratch_at (pous.frames s.number) (2 + n))

-- A FUNCTION stands before its caller; its answer and its inputs stand at their places of its frame.
pub record SignatureFits (pous : Pous) (b : BodyScope) (last : ℕ → ℤ) (scope : Scope) (s : Signature) : Type 0 where
  pub before : s.number < b.pous
  pub room : 2 + s.count ≤ length (pous.frames s.number).types
  pub answer : s.result.whole ≡ true → is_unknown s.result.kind ≡ false → IsPlaceOf last s.result.kind (scratch_at (pous.frames s.number) 1)
  pub inputs : (n : ℕ) → n < s.count → InputFits pous last scope s n

-- a block stands before its owner, and the cells of its instance among those that may be set
pub record InstanceFits (pous : Pous) (b : BodyScope) (i : Instance) : Type 0 where
  pub before : i.block < b.pous
  pub named : b.first ≤ i.offset
  pub within : i.offset + length (pous.instances i.block) ≤ b.settable
  pub stands : StandAt (pous.instances i.block) b.places i.offset

-- what may be used of a scope fits
pub record ScopeFits (pous : Pous) (b : BodyScope) (last : ℕ → ℤ) (scope : Scope) (uses : Usable) : Type 0 where
  pub names : (r : Reference) → uses.names r ≡ true → (m : Meaning) → scope.means r ≡ Some m → MeaningFits b last m
  pub functions : (text : List ℕ) → uses.functions text ≡ true → (s : Signature) → scope.signature text ≡ Some s → SignatureFits pous b last scope s
  pub instances : (text : List ℕ) (i : Instance) → scope.instance text ≡ Some i → InstanceFits pous b i
