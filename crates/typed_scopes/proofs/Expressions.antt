-- An expression that breaks no rule is a value of its type: by induction over its tree.
use Rattle.std.proofs.Common.{◌≡◌, ◌+◌, ℕ, ℤ, Bool, true, ◌&&◌, Option, Some, refl}
use Rattle.std.proofs.lemmas.Bool.{and_parts}
use Rattle.plc_types.specs.declared.data_type.DataType.{DataType}
use Rattle.plc_types.specs.DataTypes.{is_same_type}
use Rattle.plc_types.specs.declared.function.StandardFunction.{StandardFunction}
use Rattle.naming.specs.Library.{standard_function}
use Rattle.source_tree.specs.Syntax.{Tree, literal, path, enumerator, paren, unary, chain, call, Links, no_links, link, Arguments, no_arguments, argument}
use Rattle.source_tree.specs.Levels.{level_of, are_named, IsLevelled, AreOfLevel, AreOfForm}
use Rattle.rules.specs.declared.rule.Rule.TheVariants.{OperandType, OutsideType}
use Rattle.rules.specs.Judgements.{Judgement, and, require}
use Rattle.typing.specs.declared.scope.Signature.{Signature}
use Rattle.typing.specs.Typing.{Scope, by_path, by_value, place_of_literal, place_of, type_of, operand_type, next_type, takes, Parameter, fixed, common, amount, parameter_of, is_amount}
use Rattle.typing.specs.Judged.{expected_at, expected_by, place_for, judged_amount, judged_port, judged_named, fits_port, judged, judged_links, judged_arguments, judged_given}
use Rattle.typing.specs.Typed.{typed}
use Rattle.typed_programs.specs.Scopes.{Pous, BodyScope}
use Rattle.typed_scopes.specs.Uses.{Usable, IsWithin, AreLinksWithin, AreArgumentsWithin}
use Rattle.typed_scopes.specs.Fitting.{ScopeFits}
use Rattle.typed_scopes.proofs.Wholes.{whole_require, whole_and}
use Rattle.typed_scopes.proofs.TypedValues.{IsValueIf, fitted}
use Rattle.typed_scopes.proofs.Literals.{literal_is}
use Rattle.typed_scopes.proofs.Names.{name_is}
use Rattle.typed_scopes.proofs.Signs.{unary_is}
use Rattle.typed_scopes.proofs.Chains.{AreLinkValues, chain_is}
use Rattle.typed_scopes.proofs.StandardCalls.{AreOperandValues}
use Rattle.typed_scopes.proofs.GivenInputs.{AreGivenValues, judged_parts_of}
use Rattle.typed_scopes.proofs.Calls.{call_is}

-- what stands to the left of whole operators is whole
left_whole : (scope : Scope) (t : DataType) (left : Judgement) (ls : Links) → (judged_links scope t left ls).whole ≡ true → left.whole ≡ true
left_whole scope t left no_links whole = whole
left_whole scope t left (link o at e ls) whole =
    let both = and left (judged scope (Some t) e) in
    let holds = takes o t && is_same_type (type_of scope (Some t) e) t in
    (whole_and left (judged scope (Some t) e) (whole_require both holds OperandType at (left_whole scope (next_type o t) (require both holds OperandType at) ls whole)).0).0

-- the value of an argument
amount_whole : (scope : Scope) (p : Parameter) (e : Tree) (j : Judgement) → (judged_amount scope p e j).whole ≡ true → j.whole ≡ true
amount_whole scope (fixed k) e j whole = whole
amount_whole scope common e j whole = whole
amount_whole scope amount e j whole = (whole_require j (is_amount scope e) OutsideType (place_of e) whole).0

module _ (pous : Pous) (b : BodyScope) (last : ℕ → ℤ) (scope : Scope) (uses : Usable) (fits : ScopeFits pous b last scope uses) where
  mutual
    pub value_is : (expected : Option DataType) (e : Tree) → IsWithin uses e → IsLevelled e → (judged scope expected e).whole ≡ true → IsValueIf pous b last (type_of scope expected e) (typed scope expected e)
    value_is expected (literal l) within levels whole = λ known. literal_is pous b last scope expected (place_of_literal l) l whole
    value_is expected (path p) within levels whole = name_is pous b last expected (scope.means (by_path p)) (fits.names (by_path p) within) whole
    value_is expected (enumerator t v) within levels whole = name_is pous b last expected (scope.means (by_value v)) (fits.names (by_value v) within) whole
    value_is expected (paren at e) within levels whole = value_is expected e within levels whole
    value_is expected (unary o at e) within levels whole = unary_is pous b last scope expected o at e (λ w. value_is (Some (type_of scope expected e)) e within levels.1 w) whole
    value_is expected (chain e no_links) within levels whole = absurd levels
    value_is expected (chain e (link o at f ls)) within levels whole =
        let t = operand_type scope expected e (link o at f ls) in
        λ known. chain_is pous b last scope expected e o at f ls levels.4
        (value_is (Some t) e within.0 levels.1 (left_whole scope t (judged scope (Some t) e) (link o at f ls) whole))
        (links_are (level_of o) t (judged scope (Some t) e) (link o at f ls) within.1 (refl, levels.2, levels.3, levels.4) whole)
    value_is expected (call n at args) within levels whole =
        call_is pous b last scope expected n.at (standard_function n.text) (scope.signature n.text) args (λ none. fits.functions n.text (within.0 none)) (λ f t w. operands_are f t 0 (are_named args) args within.1 levels w)
        (λ s w. given_are s 0 (are_named args) args within.1 levels w) whole

    links_are : (n : ℕ) (t : DataType) (left : Judgement) (ls : Links) → AreLinksWithin uses ls → AreOfLevel n ls → (judged_links scope t left ls).whole ≡ true → AreLinkValues pous b last scope t ls
    links_are n t left no_links within levels whole = tt
    links_are n t left (link o at f ls) within levels whole =
        let both = and left (judged scope (Some t) f) in
        let holds = takes o t && is_same_type (type_of scope (Some t) f) t in
        let parts = whole_require both holds OperandType at (left_whole scope (next_type o t) (require both holds OperandType at) ls whole) in
        let tests = and_parts (takes o t) (is_same_type (type_of scope (Some t) f) t) parts.1 in
        let value = value_is (Some t) f within.0 levels.2 (whole_and left (judged scope (Some t) f) parts.0).1 in
        (tests.0, fitted pous b last (type_of scope (Some t) f) t (typed scope (Some t) f) tests.1 value, links_are n (next_type o t) (require both holds OperandType at) ls within.1 levels.3 whole)

    operands_are : (f : StandardFunction) (t : DataType) (place : ℕ) (named : Bool) (args : Arguments) → AreArgumentsWithin uses args → AreOfForm named args → (judged_arguments scope f t place args).whole ≡ true → AreOperandValues pous b last scope f t place args
    operands_are f t place named no_arguments within levels whole = tt
    operands_are f t place named (argument n e args) within levels whole =
        let p = parameter_of f place in
        let j = judged scope (expected_at p t) e in
        let parts = whole_and (judged_amount scope p e j) (judged_arguments scope f t (place + 1) args) whole in
        (value_is (expected_at p t) e within.0 levels.1 (amount_whole scope p e j parts.0), operands_are f t (place + 1) named args within.1 levels.2 parts.1)

    given_are : (s : Signature) (place : ℕ) (named : Bool) (args : Arguments) → AreArgumentsWithin uses args → AreOfForm named args → (judged_given scope s place args).whole ≡ true → AreGivenValues pous b last scope s place args
    given_are s place named no_arguments within levels whole = tt
    given_are s place named (argument n e args) within levels whole =
        let found = scope.port s.function (place_for scope s place n) in
        let inner = and (judged scope (expected_by found) e) (judged_port found) in
        let parts = whole_and (judged_named n (fits_port scope found e) inner) (judged_given scope s (place + 1) args) whole in
        let own = whole_and (judged scope (expected_by found) e) (judged_port found) (judged_parts_of pous b last scope s place n e inner (fits_port scope found e) parts.0) in
        (value_is (expected_by found) e within.0 levels.1 own.0, given_are s (place + 1) named args within.1 levels.2 parts.1)
