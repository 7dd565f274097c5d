-- The types of expressions over names of known types are known.
use Rattle.std.proofs.Common.{◌≡◌, ℕ, ◌+◌, Bool, true, false, not, ◌&&◌, Option, Some, None, if◌then◌else◌, refl, sym, subst}
use Rattle.std.proofs.lemmas.Bool.{not-false}
use Rattle.plc_types.specs.declared.data_type.DataType.{DataType}
use Rattle.plc_types.specs.declared.data_type.DataType.TheVariants.{Unknown}
use Rattle.plc_types.specs.declared.operator.Operator.{Operator}
use Rattle.plc_types.specs.declared.function.StandardFunction.{StandardFunction}
use Rattle.plc_types.specs.declared.function.StandardFunction.TheVariants as functions
use Rattle.source_tree.specs.declared.syntax.Literal.{Literal}
use Rattle.source_tree.specs.declared.syntax.Literal.TheVariants as literals
use Rattle.source_tree.specs.Syntax.{Tree, literal, path, enumerator, paren, unary, chain, call, Links, no_links, link, Arguments, no_arguments, argument}
use Rattle.naming.specs.Library.{standard_function}
use Rattle.typing.specs.declared.scope.Meaning.{Meaning}
use Rattle.typing.specs.declared.scope.Port.{Port}
use Rattle.typing.specs.declared.scope.Signature.{Signature}
use Rattle.typing.specs.Typing.{Scope, by_path, by_value, bool_type, kind_at, port_type, or_else, or_dint, synthesized_of_literal, is_comparison, compares, Parameter, fixed, common, amount, parameter_of, result_of, synthesized_if_common, synthesized_of_answer, synthesized_of_call, synthesized, synthesized_of_links, synthesized_of_arguments, synthesized_of_first, type_of, common_type, operand_type, next_type, is_unknown}
use Rattle.typing.specs.Judged.{expected_at}
use Rattle.alike_scopes.specs.typed_scopes.Uses.{Usable, IsWithin, AreLinksWithin, AreArgumentsWithin}
use Rattle.whole_files.specs.WholeScopes.{is_whole_meaning, is_whole_port, IsWholeScope}

-- a type that is known, where there is one
abbrev pub IsKnownIf : Option DataType → Type 0
IsKnownIf None = Unit {0}
IsKnownIf (Some t) = is_unknown t ≡ false

pub or_known : (a b : Option DataType) → IsKnownIf a → IsKnownIf b → IsKnownIf (or_else a b)
or_known None b x y = y
or_known (Some t) b x y = x

pub dint_known : (a : Option DataType) → IsKnownIf a → is_unknown (or_dint a) ≡ false
dint_known None x = refl
dint_known (Some t) x = x

either_known : (b : Bool) (s t : DataType) → is_unknown s ≡ false → is_unknown t ≡ false → is_unknown (if b then s else t) ≡ false
either_known true s t x y = x
either_known false s t x y = y

either_known_if : (b : Bool) (s t : Option DataType) → IsKnownIf s → IsKnownIf t → IsKnownIf (if b then s else t)
either_known_if true s t x y = x
either_known_if false s t x y = y

if_whole : (w : Bool) (t : DataType) → (w && not (is_unknown t)) ≡ true → is_unknown (if w then t else Unknown) ≡ false
if_whole true t h = let n = not-false (not (is_unknown t)) in by (is_unknown t) h
  where
    by : (u : Bool) → not u ≡ true → u ≡ false
    by true k = absurd (let e : ⊥ = cc in e)
    by false k = refl
if_whole false t h = absurd (let e : ⊥ = cc in e)

pub kind_known : (o : Option Meaning) → is_whole_meaning o ≡ true → IsKnownIf (kind_at o)
kind_known None h = tt
kind_known (Some m) h = if_whole m.whole m.kind h

pub port_known : (p : Port) → is_whole_port p ≡ true → is_unknown (port_type p) ≡ false
port_known p h = if_whole p.whole p.kind h

literal_known : (l : Literal) → IsKnownIf (synthesized_of_literal l)
literal_known (literals.Number value at) = tt
literal_known (literals.Truth value at) = refl
literal_known (literals.TypedNumber kind at minus value value_at) = refl
literal_known (literals.TypedTruth kind at value value_at) = refl

result_known : (f : StandardFunction) → IsKnownIf (result_of f)
result_known (functions.Conversion from to) = refl
result_known functions.Absolute = tt
result_known functions.Minimum = tt
result_known functions.Maximum = tt
result_known functions.Limit = tt
result_known functions.Select = tt
result_known (functions.Shift s) = tt

common_known_if : (p : Parameter) (o : Option DataType) → IsKnownIf o → IsKnownIf (synthesized_if_common p o)
common_known_if (fixed t) o x = tt
common_known_if common o x = x
common_known_if amount o x = tt

pub expected_known : (p : Parameter) (t : DataType) → is_unknown t ≡ false → IsKnownIf (expected_at p t)
expected_known (fixed k) t x = refl
expected_known common t x = x
expected_known amount t x = tt

pub next_known : (o : Operator) (t : DataType) → is_unknown t ≡ false → is_unknown (next_type o t) ≡ false
next_known o t x = either_known (is_comparison o) bool_type t refl x

module _ (scope : Scope) (uses : Usable) (whole : IsWholeScope scope uses) where
  answer_known : (s : Option Signature) (t : Signature) → s ≡ Some t → is_whole_port t.result ≡ true → IsKnownIf (synthesized_of_answer s)
  answer_known s t there h = subst (λ (o : Option Signature). IsKnownIf (synthesized_of_answer o)) (sym there) (port_known t.result h)

  call_known : (n : Option StandardFunction) (s : Option Signature) (of_operands : StandardFunction → Option DataType)
      → (n ≡ None → IsKnownIf (synthesized_of_answer s)) → ((g : StandardFunction) → IsKnownIf (of_operands g)) → IsKnownIf (synthesized_of_call n s of_operands)
  call_known None s of_operands answered given = answered refl
  call_known (Some g) s of_operands answered given = or_known (result_of g) (of_operands g) (result_known g) (given g)

  mutual
    pub synthesized_known : (e : Tree) → IsWithin uses e → IsKnownIf (synthesized scope e)
    synthesized_known (literal l) within = literal_known l
    synthesized_known (path p) within = kind_known (scope.means (by_path p)) (whole.names (by_path p) within)
    synthesized_known (enumerator t v) within = kind_known (scope.means (by_value v)) (whole.names (by_value v) within)
    synthesized_known (paren at e) within = synthesized_known e within
    synthesized_known (unary o at e) within = synthesized_known e within
    synthesized_known (chain e ls) within =
        either_known_if (compares ls) (Some bool_type) (or_else (synthesized scope e) (synthesized_of_links scope ls)) refl (or_known (synthesized scope e) (synthesized_of_links scope ls) (synthesized_known e within.0) (links_known ls within.1))
    synthesized_known (call n at args) within =
        call_known (standard_function n.text) (scope.signature n.text) (λ f. synthesized_of_arguments scope f 0 args)
        (λ none. let r = whole.functions n.text (within.0 none) in answer_known (scope.signature n.text) r.signature r.there r.answer)
        (λ g. arguments_known g 0 args within.1)

    pub links_known : (ls : Links) → AreLinksWithin uses ls → IsKnownIf (synthesized_of_links scope ls)
    links_known no_links within = tt
    links_known (link o at e ls) within = or_known (synthesized scope e) (synthesized_of_links scope ls) (synthesized_known e within.0) (links_known ls within.1)

    pub arguments_known : (f : StandardFunction) (place : ℕ) (args : Arguments) → AreArgumentsWithin uses args → IsKnownIf (synthesized_of_arguments scope f place args)
    arguments_known f place no_arguments within = tt
    arguments_known f place (argument n e args) within =
        or_known (synthesized_if_common (parameter_of f place) (synthesized scope e)) (synthesized_of_arguments scope f (place + 1) args)
        (common_known_if (parameter_of f place) (synthesized scope e) (synthesized_known e within.0)) (arguments_known f (place + 1) args within.1)

  pub type_known : (expected : Option DataType) → IsKnownIf expected → (e : Tree) → IsWithin uses e → is_unknown (type_of scope expected e) ≡ false
  type_known expected known e within = dint_known (or_else (synthesized scope e) expected) (or_known (synthesized scope e) expected (synthesized_known e within) known)

  pub common_known : (expected : Option DataType) → IsKnownIf expected → (f : StandardFunction) (args : Arguments) → AreArgumentsWithin uses args → is_unknown (common_type scope expected f args) ≡ false
  common_known expected known f args within =
      dint_known (or_else (synthesized_of_arguments scope f 0 args) expected) (or_known (synthesized_of_arguments scope f 0 args) expected (arguments_known f 0 args within) known)

  first_known : (ls : Links) → AreLinksWithin uses ls → IsKnownIf (synthesized_of_first scope ls)
  first_known no_links within = tt
  first_known (link o at e ls) within = synthesized_known e within.0

  pub operand_known : (expected : Option DataType) → IsKnownIf expected → (e : Tree) (ls : Links) → IsWithin uses e → AreLinksWithin uses ls → is_unknown (operand_type scope expected e ls) ≡ false
  operand_known expected known e ls w v =
      let two = or_else (synthesized scope e) (synthesized_of_first scope ls) in
      let all = or_else (synthesized scope e) (synthesized_of_links scope ls) in
      either_known (compares ls) (or_dint two) (or_dint (or_else all expected))
      (dint_known two (or_known (synthesized scope e) (synthesized_of_first scope ls) (synthesized_known e w) (first_known ls v)))
      (dint_known (or_else all expected) (or_known all expected (or_known (synthesized scope e) (synthesized_of_links scope ls) (synthesized_known e w) (links_known ls v)) known))
