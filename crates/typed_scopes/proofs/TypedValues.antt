-- Expressions all of whose values are of a data type, and the places that take them.
use Rattle.std.proofs.Common.{◌≡◌, ℕ, ℤ, Bool, true, false, ◌||◌, refl, sym, subst}
use Rattle.std.proofs.lemmas.Bool.{or_left, or_right}
use Rattle.plc_types.specs.declared.elementary.Elementary.{Elementary}
use Rattle.plc_types.specs.declared.data_type.DataType.{DataType}
use Rattle.plc_types.specs.declared.data_type.DataType.TheVariants as kinds
use Rattle.plc_types.specs.DataTypes.{carrier, is_same_type}
use Rattle.plc_types.specs.Types.{range_of, in_range}
use Rattle.plc_types.proofs.InRange.{covers_in, covers_self}
use Rattle.plc_types.proofs.TypeRanges.{usint_covers, zero_in}
use Rattle.plc_types.proofs.SameTypes.{same_type}
use Rattle.program_tree.specs.Tree.{Expression, number, cell, unary, chain, call_standard, call_function}
use Rattle.program_tree.specs.declared.scratch.Scratch.{Scratch}
use Rattle.program_tree.specs.Places.{place_at}
use Rattle.meaning.specs.StaysIn.{covers}
use Rattle.typing.specs.Typing.{is_unknown}
use Rattle.typing.specs.Typed.{value_of_number}
use Rattle.typed_programs.specs.Scopes.{Pous, BodyScope, IsNamed}
use Rattle.typed_programs.specs.Expressions.{IsOf, stays_in, Takes}
use Rattle.typed_scopes.specs.Types.{range_of_type, IsKnown, IsOfType, IsPlaceOf}
use Rattle.typed_scopes.proofs.SameTypes.{same_known, IsElementary}

pub record IsValueOf (pous : Pous) (b : BodyScope) (last : ℕ → ℤ) (t : DataType) (e : Expression) : Type 0 where
  pub known : IsKnown last t
  pub typed : IsOf pous b (carrier t) e
  pub stays : stays_in pous b.places e (range_of_type last t) ≡ true

-- where the type is known
abbrev pub IsValueIf : Pous → BodyScope → (ℕ → ℤ) → DataType → Expression → Type 0
IsValueIf pous b last t e = is_unknown t ≡ false → IsValueOf pous b last t e

pub known_type : (last : ℕ → ℤ) (t : DataType) → IsKnown last t → is_unknown t ≡ false
known_type last (kinds.Elementary k) known = refl
known_type last (kinds.Enumeration n) known = refl
known_type last kinds.Unknown known = absurd known

pub carrier-covers : (last : ℕ → ℤ) (t : DataType) → IsKnown last t → covers (range_of (carrier t)) (range_of_type last t) ≡ true
carrier-covers last (kinds.Elementary k) known = covers_self (range_of k)
carrier-covers last (kinds.Enumeration n) known = usint_covers (last n) known
carrier-covers last kinds.Unknown known = absurd known

module _ (pous : Pous) (b : BodyScope) (last : ℕ → ℤ) where
  pub of_type : (t : DataType) (e : Expression) → IsValueOf pous b last t e → IsOfType pous b last t e
  of_type (kinds.Elementary k) e v = v.typed
  of_type (kinds.Enumeration n) e v = (v.typed, v.stays)
  of_type kinds.Unknown e v = v.known

  -- a value of an equal type
  pub fitted : (u t : DataType) (e : Expression) → is_same_type u t ≡ true → IsValueIf pous b last u e → IsValueOf pous b last t e
  fitted u t e same v = subst (λ (x : DataType). IsValueIf pous b last x e) (same_type u t same) v (same_known u t same)

  -- a place of a type takes the type's values
  pub taken : (t : DataType) (p : Scratch) (e : Expression) → IsPlaceOf last t p → IsValueOf pous b last t e → Takes pous b p e
  taken t p e place v = (subst (λ (k : Elementary). IsOf pous b k e) (sym place.kind) v.typed, by p.is_subrange refl)
    where
      by : (l : Bool) → p.is_subrange ≡ l → (p.is_subrange || stays_in pous b.places e p.range) ≡ true
      by true is_subrange = or_left p.is_subrange _ is_subrange
      by false whole = or_right p.is_subrange _ (subst (λ r. stays_in pous b.places e r ≡ true) (sym (place.whole whole)) v.stays)

  pub number_value : (t : DataType) (v : ℤ) → IsKnown last t → in_range v (range_of_type last t) ≡ true → IsValueOf pous b last t (number v)
  number_value t v known h = record { known = known; typed = covers_in (range_of (carrier t)) (range_of_type last t) v (carrier-covers last t known) h; stays = h }

  pub cell_value : (t : DataType) (place : ℕ) → IsNamed b place → IsPlaceOf last t (place_at b.places place) → IsValueOf pous b last t (cell place)
  cell_value t place named p = record { known = p.known; typed = (named, p.kind); stays = p.within }

  pub elementary_value : (t : DataType) (e : Expression) → IsElementary t → IsOf pous b (carrier t) e → stays_in pous b.places e (range_of (carrier t)) ≡ true → IsValueOf pous b last t e
  elementary_value (kinds.Elementary k) e h is stays = record { known = tt; typed = is; stays = stays }
  elementary_value (kinds.Enumeration n) e h is stays = absurd h
  elementary_value kinds.Unknown e h is stays = absurd h

  -- the number of a constant lies in the range of its type
  pub number_in : (k : Elementary) (e : Expression) → IsOf pous b k e → in_range (value_of_number e) (range_of k) ≡ true
  number_in k (number v) is = is
  number_in k (cell place) is = zero_in k
  number_in k (unary o t e) is = zero_in k
  number_in k (chain e os) is = zero_in k
  number_in k (call_standard f t es) is = zero_in k
  number_in k (call_function f es) is = zero_in k
