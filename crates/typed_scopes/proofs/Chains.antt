-- Operators of one level.
use Rattle.std.proofs.Common.{◌≡◌, ℕ, ℤ, ◌==◌, Bool, true, false, ◌||◌, if◌then◌else◌, Option, Some, None, refl, sym, ap, ◌∙◌, subst}
use Rattle.plc_types.specs.declared.elementary.Elementary.{Elementary}
use Rattle.plc_types.specs.declared.data_type.DataType.{DataType}
use Rattle.plc_types.specs.DataTypes.{carrier}
use Rattle.plc_types.specs.Types.{range_of}
use Rattle.plc_types.specs.declared.operator.Operator.{Operator}
use Rattle.plc_types.specs.declared.operator.Operator.TheVariants as ops
use Rattle.plc_types.proofs.InRange.{covers_self}
use Rattle.source_tree.specs.Syntax.{Tree, chain, Links, no_links, link}
use Rattle.source_tree.specs.Levels.{level_of, AreOfLevel}
use Rattle.program_tree.specs.Tree.{chain as typed_chain, Operands, no_operands, operand}
use Rattle.program_tree.specs.OperandTypes.{is_for}
use Rattle.meaning.specs.Values.{result_type}
use Rattle.meaning.specs.StaysIn.{covers, last_stays}
use Rattle.typing.specs.Typing.{Scope, synthesized, synthesized_of_links, synthesized_of_first, bool_type, type_of, or_else, or_dint, is_comparison, operand_type, next_type, takes}
use Rattle.typing.specs.Typed.{typed, typed_links}
use Rattle.typed_programs.specs.Scopes.{Pous, BodyScope}
use Rattle.typed_programs.specs.Expressions.{Join}
use Rattle.typed_scopes.proofs.SameTypes.{IsElementary, of_integers, of_bits, bits_unsigned}
use Rattle.typed_scopes.proofs.TypedValues.{IsValueOf, IsValueIf, known_type, elementary_value}

-- ---- one operator

carrier_next : (o : Operator) (t : DataType) → carrier (next_type o t) ≡ result_type o (carrier t)
carrier_next ops.Or t = refl
carrier_next ops.Xor t = refl
carrier_next ops.And t = refl
carrier_next ops.Equal t = refl
carrier_next ops.NotEqual t = refl
carrier_next ops.Less t = refl
carrier_next ops.Greater t = refl
carrier_next ops.LessEqual t = refl
carrier_next ops.GreaterEqual t = refl
carrier_next ops.Plus t = refl
carrier_next ops.Minus t = refl
carrier_next ops.Times t = refl
carrier_next ops.Divide t = refl
carrier_next ops.Mod t = refl

taken_for : (o : Operator) (t : DataType) → takes o t ≡ true → is_for o (carrier t) ≡ true
taken_for ops.Or t h = bits_unsigned t h
taken_for ops.Xor t h = bits_unsigned t h
taken_for ops.And t h = bits_unsigned t h
taken_for ops.Equal t h = refl
taken_for ops.NotEqual t h = refl
taken_for ops.Less t h = refl
taken_for ops.Greater t h = refl
taken_for ops.LessEqual t h = refl
taken_for ops.GreaterEqual t h = refl
taken_for ops.Plus t h = refl
taken_for ops.Minus t h = refl
taken_for ops.Times t h = refl
taken_for ops.Divide t h = refl
taken_for ops.Mod t h = refl

-- what an operator gives is of an elementary type
elementary_next : (o : Operator) (t : DataType) → takes o t ≡ true → IsElementary (next_type o t)
elementary_next ops.Or t h = of_bits t h
elementary_next ops.Xor t h = of_bits t h
elementary_next ops.And t h = of_bits t h
elementary_next ops.Equal t h = tt
elementary_next ops.NotEqual t h = tt
elementary_next ops.Less t h = tt
elementary_next ops.Greater t h = tt
elementary_next ops.LessEqual t h = tt
elementary_next ops.GreaterEqual t h = tt
elementary_next ops.Plus t h = of_integers t h
elementary_next ops.Minus t h = of_integers t h
elementary_next ops.Times t h = of_integers t h
elementary_next ops.Divide t h = of_integers t h
elementary_next ops.Mod t h = of_integers t h

-- ---- operators of one level compare all, or none

by_level : (o : Operator) → is_comparison o ≡ (level_of o == 3 || level_of o == 4)
by_level ops.Or = refl
by_level ops.Xor = refl
by_level ops.And = refl
by_level ops.Equal = refl
by_level ops.NotEqual = refl
by_level ops.Less = refl
by_level ops.Greater = refl
by_level ops.LessEqual = refl
by_level ops.GreaterEqual = refl
by_level ops.Plus = refl
by_level ops.Minus = refl
by_level ops.Times = refl
by_level ops.Divide = refl
by_level ops.Mod = refl

same_comparison : (o p : Operator) → level_of p ≡ level_of o → is_comparison p ≡ is_comparison o
same_comparison o p e = by_level p ∙ ap (λ (n : ℕ). n == 3 || n == 4) e ∙ sym (by_level o)

-- the type behind all operators
abbrev pub last_type : DataType → Links → DataType
last_type t no_links = t
last_type t (link o at e ls) = last_type (next_type o t) ls

once : (c : Bool) (t : DataType) → (if c then bool_type else (if c then bool_type else t)) ≡ (if c then bool_type else t)
once true t = refl
once false t = refl

settled : (o : Operator) (t : DataType) (ls : Links) → AreOfLevel (level_of o) ls → last_type (next_type o t) ls ≡ next_type o t
settled o t no_links levels = refl
settled o t (link p at e ls) levels =
    let again : next_type p (next_type o t) ≡ next_type o t = ap (λ (c : Bool). if c then bool_type else next_type o t) (same_comparison o p levels.0) ∙ once (is_comparison o) t in
    ap (λ (u : DataType). last_type u ls) again ∙ settled o t ls levels.3

-- ---- the types of a chain and of its first operand

chain_type : (c : Bool) (mine first links expected : Option DataType)
    → or_dint (or_else (if c then Some bool_type else or_else mine links) expected) ≡ (if c then bool_type else (if c then or_dint (or_else mine first) else or_dint (or_else (or_else mine links) expected)))
chain_type true mine first links expected = refl
chain_type false mine first links expected = refl

first_type : (c : Bool) (mine first links expected : Option DataType)
    → or_dint (or_else mine (Some (if c then or_dint (or_else mine first) else or_dint (or_else (or_else mine links) expected)))) ≡ (if c then or_dint (or_else mine first) else or_dint (or_else (or_else mine links) expected))
first_type true (Some t) first links expected = refl
first_type true None first links expected = refl
first_type false (Some t) first links expected = refl
first_type false None first links expected = refl

module _ (pous : Pous) (b : BodyScope) where
  -- the last operator tells the range
  join_stays : (left t : Elementary) (os : Operands) → Join pous b left t os → last_stays (covers (range_of t) (range_of left)) os (range_of t) ≡ true
  join_stays left t no_operands j = subst (λ (k : Elementary). covers (range_of t) (range_of k) ≡ true) (sym j) (covers_self (range_of t))
  join_stays left t (operand o k e os) j = join_stays (result_type o k) t os j.3

module _ (pous : Pous) (b : BodyScope) (last : ℕ → ℤ) (scope : Scope) where
  -- operands behind a value of a type, each of which its operator takes
  abbrev pub AreLinkValues : DataType → Links → Type 0
  AreLinkValues t no_links = Unit {0}
  AreLinkValues t (link o at e ls) = (takes o t ≡ true) × IsValueOf pous b last t (typed scope (Some t) e) × AreLinkValues (next_type o t) ls

  joined : (t : DataType) (ls : Links) → AreLinkValues t ls → Join pous b (carrier t) (carrier (last_type t ls)) (typed_links scope t ls)
  joined t no_links values = refl
  joined t (link o at e ls) values = (
    refl,
    taken_for o t values.0,
    values.1.typed,
    subst (λ (k : Elementary). Join pous b k (carrier (last_type (next_type o t) ls)) (typed_links scope (next_type o t) ls)) (carrier_next o t) (joined (next_type o t) ls values.2),
  )

  pub chain_is : (expected : Option DataType) (e : Tree) (o : Operator) (at : ℕ) (f : Tree) (ls : Links) → AreOfLevel (level_of o) ls
      → IsValueIf pous b last (type_of scope (Some (operand_type scope expected e (link o at f ls))) e) (typed scope (Some (operand_type scope expected e (link o at f ls))) e)
      → AreLinkValues (operand_type scope expected e (link o at f ls)) (link o at f ls)
      → IsValueOf pous b last (type_of scope expected (chain e (link o at f ls))) (typed scope expected (chain e (link o at f ls)))
  chain_is expected e o at f ls levels value values =
      let t = operand_type scope expected e (link o at f ls) in
      let c = is_comparison o in
      let first = synthesized_of_first scope (link o at f ls) in
      let links = synthesized_of_links scope (link o at f ls) in
      let left = subst (λ (x : DataType). IsValueIf pous b last x (typed scope (Some t) e)) (first_type c (synthesized scope e) first links expected) value (known_type last t values.1.known) in
      let os = typed_links scope t (link o at f ls) in
      let join = subst (λ (x : DataType). Join pous b (carrier t) (carrier x) os) (settled o t ls levels) (joined t (link o at f ls) values) in
      subst (λ (x : DataType). IsValueOf pous b last x (typed_chain (typed scope (Some t) e) os)) (sym (chain_type c (synthesized scope e) first links expected))
      (elementary_value pous b last (next_type o t) (typed_chain (typed scope (Some t) e) os) (elementary_next o t values.0) (left.typed, join)
      (join_stays pous b (carrier t) (carrier (next_type o t)) os join))
