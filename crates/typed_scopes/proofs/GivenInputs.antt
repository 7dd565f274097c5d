-- Arguments of a FUNCTION fit the inputs that they are for.
use Rattle.std.proofs.Common.{◌≡◌, ◌+◌, ℕ, ℤ, Bool, true, if◌then◌else◌, ◌∷◌, List, map, Option, Some, None, refl, ap, subst}
use Rattle.std.specs.Prelude.{All}
use Rattle.std.proofs.lemmas.Bool.{and_parts}
use Rattle.std.proofs.lemmas.List.Elements.{All-nil, All-cons}
use Rattle.plc_types.specs.declared.data_type.DataType.{DataType}
use Rattle.plc_types.specs.declared.data_type.DataType.TheVariants as kinds
use Rattle.source_tree.specs.Syntax.{Named, Tree, Arguments, no_arguments, argument}
use Rattle.program_tree.specs.Tree.{Expression}
use Rattle.rules.specs.declared.rule.Rule.TheVariants.{ValueType}
use Rattle.rules.specs.Judgements.{Judgement, and}
use Rattle.typing.specs.declared.scope.Port.{Port}
use Rattle.typing.specs.declared.scope.Signature.{Signature}
use Rattle.typing.specs.Typing.{Scope, port_type, type_of}
use Rattle.typing.specs.Judged.{judged, place_for, places_for, expected_by, judged_port, fits_port, judged_named, fits_placed, fit_placed, judged_given}
use Rattle.typing.specs.Typed.{PlacedData, typed, typed_given}
use Rattle.typed_programs.specs.Scopes.{Pous, BodyScope}
use Rattle.typed_scopes.proofs.Wholes.{whole_require, whole_and, whole_said}
use Rattle.typed_scopes.proofs.TypedValues.{IsValueOf, IsValueIf, fitted}

-- a whole input has its type
pub whole_port : (p : Port) → p.whole ≡ true → port_type p ≡ p.kind
whole_port p whole = ap (λ (w : Bool). if w then p.kind else kinds.Unknown) whole

module _ (pous : Pous) (b : BodyScope) (last : ℕ → ℤ) (scope : Scope) (s : Signature) where
  -- arguments from a place on, each where the type of its input is expected
  abbrev pub AreGivenValues : ℕ → Arguments → Type 0
  AreGivenValues place no_arguments = Unit {0}
  AreGivenValues place (argument n e args) =
      IsValueIf pous b last (type_of scope (expected_by (scope.port s.function (place_for scope s place n))) e) (typed scope (expected_by (scope.port s.function (place_for scope s place n))) e)
      × AreGivenValues (place + 1) args

  -- an input of which there is one is whole, and the expression is a value of its type
  abbrev pub FitsInput : Option Port → Expression → Type 0
  FitsInput found e = (p : Port) → found ≡ Some p → (p.whole ≡ true) × IsValueOf pous b last p.kind e

  abbrev pub FitsItsInput : PlacedData → Type 0
  FitsItsInput g = FitsInput (scope.port s.function g.0) g.1

  same_port : (p q : Port) → Some p ≡ Some q → p ≡ q
  same_port p q e = cc

  fits_input : (found : Option Port) (e : Tree) → IsValueIf pous b last (type_of scope (expected_by found) e) (typed scope (expected_by found) e) → fits_port scope found e ≡ true
      → (judged_port found).whole ≡ true → FitsInput found (typed scope (expected_by found) e)
  fits_input None e value fits whole q is = absurd (let z : ⊥ = cc in z)
  fits_input (Some p) e value fits whole q is =
      let w = whole_said p.whole whole in
      let v = fitted pous b last (type_of scope (Some (port_type p)) e) (port_type p) (typed scope (Some (port_type p)) e) fits value in
      let u = subst (λ (t : DataType). IsValueOf pous b last t (typed scope (Some (port_type p)) e)) (whole_port p w) v in
      subst (λ (r : Port). (r.whole ≡ true) × IsValueOf pous b last r.kind (typed scope (Some (port_type p)) e)) (same_port p q is) (w, u)

  -- the test of an argument by name stands in its judgement, that of one by place beside it
  argument_fits : (place : ℕ) (n : Option Named) (e : Tree) (j : Judgement) → fits_placed scope s place n e ≡ true
      → (judged_named n (fits_port scope (scope.port s.function (place_for scope s place n)) e) j).whole ≡ true
      → (j.whole ≡ true) × (fits_port scope (scope.port s.function (place_for scope s place n)) e ≡ true)
  argument_fits place None e j fits whole = (whole, fits)
  argument_fits place (Some n) e j fits whole = whole_require j _ ValueType n.at whole

  -- what judging an argument tells
  pub judged_parts_of : (place : ℕ) (n : Option Named) (e : Tree) (j : Judgement) (fits : Bool) → (judged_named n fits j).whole ≡ true → j.whole ≡ true
  judged_parts_of place None e j fits whole = whole
  judged_parts_of place (Some n) e j fits whole = (whole_require j fits ValueType n.at whole).0

  pub all_fit : (place : ℕ) (args : Arguments) → AreGivenValues place args → (judged_given scope s place args).whole ≡ true → fit_placed scope s place args ≡ true
      → All FitsItsInput (typed_given scope s place args)
  all_fit place no_arguments values whole fits = All-nil FitsItsInput
  all_fit place (argument n e args) values whole fits =
      let found = scope.port s.function (place_for scope s place n) in
      let inner = and (judged scope (expected_by found) e) (judged_port found) in
      let parts = whole_and (judged_named n (fits_port scope found e) inner) (judged_given scope s (place + 1) args) whole in
      let tests = and_parts (fits_placed scope s place n e) (fit_placed scope s (place + 1) args) fits in
      let one = argument_fits place n e inner tests.0 parts.0 in
      let port = (whole_and (judged scope (expected_by found) e) (judged_port found) one.0).1 in
      All-cons FitsItsInput _ _ (fits_input found e values.0 one.1 port) (all_fit (place + 1) args values.1 parts.1 tests.1)

  -- the places of arguments
  pub places_given : (place : ℕ) (args : Arguments) → map (λ (g : PlacedData). g.0) (typed_given scope s place args) ≡ places_for scope s place args
  places_given place no_arguments = refl
  places_given place (argument n e args) = ap (λ (l : List ℕ). place_for scope s place n ∷ l) (places_given (place + 1) args)
