-- Whether arguments are of the types that are expected, where their synthesized types are known.
use Rattle.std.proofs.Common.{◌≡◌, ◌&&◌, ◌+◌, ◌<◌, List, length, get_or, drop, ℕ, Bool, Option, Some, None, refl, sym, ap, ◌∙◌}
use Rattle.std.proofs.Math.Bool.{and_assoc}
use Rattle.std.proofs.lemmas.List.{drop_more}
use Rattle.plc_types.specs.declared.data_type.DataType.{DataType}
use Rattle.rules.specs.declared.outcome.Outcome.{Outcome}
use Rattle.rules.specs.Outcomes.{outcome_of, both}
use Rattle.source_tree.specs.declared.syntax.Argument.{Argument}
use Rattle.source_tree.specs.Syntax.{Named, Tree, Arguments, argument}
use Rattle.source_tree.specs.SyntaxView.{argument_view, arguments_view}
use Rattle.typing.specs.declared.scope.Port.{Port}
use Rattle.typing.specs.declared.scope.Signature.{Signature}
use Rattle.typing.specs.Typing.{Scope, synthesized, Parameter, fixed, common, amount}
use Rattle.typing.specs.Judged.{judged, judged_port, expected_by, fits_at, fits_port, fits_placed, place_for}
use Rattle.typing.specs.Outcomes.{named_outcome, given_outcome}
use Rattle.expr_types.specs.Fits.{synthesized_fits, synthesized_fits_port, fits_unless_named}

synthesized_fits-at : (scope : Scope) (p : Parameter) (t : DataType) (e : Tree) → synthesized_fits p t (synthesized scope e) ≡ fits_at scope p t e
synthesized_fits-at scope (fixed k) t e = refl
synthesized_fits-at scope common t e = refl
synthesized_fits-at scope amount t e = refl

pub fits_at-synthesized : (scope : Scope) (p : Parameter) (t : DataType) (e : Tree) (o : Option DataType) → o ≡ synthesized scope e → synthesized_fits p t o ≡ fits_at scope p t e
fits_at-synthesized scope p t e o is = ap (synthesized_fits p t) is ∙ synthesized_fits-at scope p t e

synthesized_fits_port-is : (scope : Scope) (p : Option Port) (e : Tree) → synthesized_fits_port p (synthesized scope e) ≡ fits_port scope p e
synthesized_fits_port-is scope None e = refl
synthesized_fits_port-is scope (Some p) e = refl

pub fits_port-synthesized : (scope : Scope) (p : Option Port) (e : Tree) (o : Option DataType) → o ≡ synthesized scope e → synthesized_fits_port p o ≡ fits_port scope p e
fits_port-synthesized scope p e o is = ap (synthesized_fits_port p) is ∙ synthesized_fits_port-is scope p e

pub fits_placed-unless : (scope : Scope) (s : Signature) (place : ℕ) (n : Option Named) (e : Tree) → fits_unless_named n (fits_port scope (scope.port s.function (place_for scope s place n)) e) ≡ fits_placed scope s place n e
fits_placed-unless scope s place None e = refl
fits_placed-unless scope s place (Some n) e = refl

-- one more argument
pub one_more_fits : (fit placed rest all new : Bool) → new ≡ (fit && placed) → (fit && (placed && rest)) ≡ all → (new && rest) ≡ all
one_more_fits fit placed rest all new is h = ap (λ (b : Bool). b && rest) is ∙ and_assoc fit placed rest ∙ h

pub arguments_from : (xs : List Argument) (place : ℕ) (a : Argument) → place < length xs → a ≡ get_or xs place a
    → arguments_view (drop place xs) ≡ argument (argument_view a).0 (argument_view a).1 (arguments_view (drop (place + 1) xs))
arguments_from xs place a within is =
    ap arguments_view (drop_more xs place a within) ∙ ap (λ (x : Argument). argument (argument_view x).0 (argument_view x).1 (arguments_view (drop (place + 1) xs))) (sym is)

-- one more argument of a FUNCTION
pub given_on : (scope : Scope) (s : Signature) (place : ℕ) (n : Option Named) (e : Tree) (rest : Arguments) (so_far value of_port parts named next all : Outcome) (p : Option Port) (w : Option DataType) (to : ℕ) (fits : Bool)
    → to ≡ place_for scope s place n → p ≡ scope.port s.function to → w ≡ expected_by p → value ≡ outcome_of (judged scope w e) → fits ≡ fits_port scope p e → of_port ≡ outcome_of (judged_port p)
    → parts ≡ both value of_port → named ≡ named_outcome n fits parts → next ≡ both so_far named → given_outcome scope s place so_far (argument n e rest) ≡ all → given_outcome scope s (place + 1) next rest ≡ all
given_on scope s place n e rest so_far value of_port parts named next all p w to fits to_is p_is w_is value_is fits_is of_port_is parts_is named_is next_is before =
    let stands : p ≡ scope.port s.function (place_for scope s place n) = p_is ∙ ap (scope.port s.function) to_is in
    let parts_told : parts ≡ both (outcome_of (judged scope (expected_by p) e)) (outcome_of (judged_port p)) =
    parts_is ∙ ap (λ (x : Outcome). both x of_port) (value_is ∙ ap (λ (x : Option DataType). outcome_of (judged scope x e)) w_is) ∙ ap (both (outcome_of (judged scope (expected_by p) e))) of_port_is in
    let named_told : named ≡ named_outcome n (fits_port scope p e) (both (outcome_of (judged scope (expected_by p) e)) (outcome_of (judged_port p))) =
    named_is ∙ ap (λ (b : Bool). named_outcome n b parts) fits_is ∙ ap (named_outcome n (fits_port scope p e)) parts_told in
    let whole : next ≡ both so_far (named_outcome n (fits_port scope p e) (both (outcome_of (judged scope (expected_by p) e)) (outcome_of (judged_port p)))) = next_is ∙ ap (both so_far) named_told in
    ap (λ (x : Outcome). given_outcome scope s (place + 1) x rest)
    (whole ∙ ap (λ (r : Option Port). both so_far (named_outcome n (fits_port scope r e) (both (outcome_of (judged scope (expected_by r) e)) (outcome_of (judged_port r))))) stands)
    ∙ before
