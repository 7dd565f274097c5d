-- An expression over whole names that breaks nothing is whole.
use Rattle.std.proofs.Common.{◌≡◌, ℕ, ◌+◌, List, Bool, true, false, true≢false, not, ◌&&◌, Option, Some, None, if◌then◌else◌, refl, sym, subst}
use Rattle.std.proofs.lemmas.Bool.{and_parts}
use Rattle.plc_types.specs.declared.data_type.DataType.{DataType}
use Rattle.plc_types.specs.DataTypes.{is_same_type}
use Rattle.plc_types.specs.declared.operator.UnaryOperator.{UnaryOperator}
use Rattle.plc_types.specs.declared.function.StandardFunction.{StandardFunction}
use Rattle.rules.specs.declared.rule.Rule.{Rule}
use Rattle.rules.specs.declared.rule.Rule.TheVariants.{OperandType, ValueType, ArgumentCount, OutsideType}
use Rattle.rules.specs.Judgements.{Judgement, ok, suppressed, and, breaks, require}
use Rattle.source_tree.specs.declared.syntax.Literal.{Literal}
use Rattle.source_tree.specs.Syntax.{Named, Tree, literal, path, enumerator, paren, unary, chain, call, Links, no_links, link, Arguments, no_arguments, argument}
use Rattle.naming.specs.Library.{standard_function}
use Rattle.typing.specs.declared.scope.Meaning.{Meaning}
use Rattle.typing.specs.declared.scope.Port.{Port}
use Rattle.typing.specs.declared.scope.Signature.{Signature}
use Rattle.typing.specs.Typing.{Scope, by_path, by_value, bool_type, type_of, operand_type, next_type, takes, Parameter, fixed, common, amount, parameter_of, common_type, takes_operands, takes_count, count_of, is_amount, is_literal_of, is_unknown, place_of_literal, place_of}
use Rattle.typing.specs.Judged.{judged_literal, judged_meaning, takes_sign, negative_literal, judged_unary, expected_at, fit_from, judged_amount, place_for, gives_all, expected_by, judged_port, fits_port, judged_named, fit_placed, judged_answer, judged_user_call, judged_call, judged, judged_links, judged_arguments, judged_given, judged_alone, judged_condition}
use Rattle.alike_scopes.specs.typed_scopes.Uses.{Usable, IsWithin, AreLinksWithin, AreArgumentsWithin}
use Rattle.whole_files.specs.WholeScopes.{is_whole_meaning, is_whole_port, IsWholeScope, IsWholeFunction}
use Rattle.whole_files.proofs.Told.{IsTold, told_ok, told_breaks, told_and, told_if, told_said, told_require}
use Rattle.whole_files.proofs.KnownTypes.{IsKnownIf, port_known, expected_known, next_known, type_known, common_known, operand_known}

literal_by : (u h : Bool) (at : ℕ) → u ≡ false → IsTold (if u then suppressed else (if h then ok else breaks OutsideType at))
literal_by true h at e = absurd (true≢false e)
literal_by false true at e = told_ok
literal_by false false at e = told_breaks OutsideType at

literal_told : (t : DataType) (minus : Bool) (at : ℕ) (l : Literal) → is_unknown t ≡ false → IsTold (judged_literal t minus at l)
literal_told t minus at l known = literal_by (is_unknown t) (is_literal_of t minus l) at known

pub meaning_told : (o : Option Meaning) → is_whole_meaning o ≡ true → IsTold (judged_meaning o)
meaning_told None h = absurd (true≢false (sym h))
meaning_told (Some m) h = told_said m.whole ok (and_parts m.whole (not (is_unknown m.kind)) h).0 told_ok

unary_told : (t : DataType) (o : UnaryOperator) (at : ℕ) (l : Option Literal) (operand : Judgement) → is_unknown t ≡ false → IsTold operand → IsTold (judged_unary t o at l operand)
unary_told t o at None operand known told = told_require operand (takes_sign o t) OperandType at told
unary_told t o at (Some l) operand known told = literal_told t true at l known

amount_told : (scope : Scope) (p : Parameter) (e : Tree) (j : Judgement) → IsTold j → IsTold (judged_amount scope p e j)
amount_told scope (fixed k) e j told = told
amount_told scope common e j told = told
amount_told scope amount e j told = told_require j (is_amount scope e) OutsideType (place_of e) told

IsWholePort : Option Port → Type 0
IsWholePort o = (p : Port) → o ≡ Some p → is_whole_port p ≡ true

pub port_told : (o : Option Port) → ((p : Port) → o ≡ Some p → is_whole_port p ≡ true) → IsTold (judged_port o)
port_told None each = told_ok
port_told (Some p) each = told_said p.whole ok (and_parts p.whole (not (is_unknown p.kind)) (each p refl)).0 told_ok

input_known : (o : Option Port) → ((p : Port) → o ≡ Some p → is_whole_port p ≡ true) → IsKnownIf (expected_by o)
input_known None each = tt
input_known (Some p) each = port_known p (each p refl)

named_told : (n : Option Named) (fits : Bool) (j : Judgement) → IsTold j → IsTold (judged_named n fits j)
named_told None fits j told = told
named_told (Some n) fits j told = told_require j fits ValueType n.at told

answer_told : (scope : Scope) (at : ℕ) (s : Signature) (args : Arguments) (parts : Judgement) → is_whole_port s.result ≡ true → IsTold parts → IsTold (judged_answer scope at s args parts)
answer_told scope at s args parts whole told =
    let counted = require parts (gives_all scope s args) ArgumentCount at in
    told_and (require counted (fit_placed scope s 0 args) OperandType at) (judged_port (Some s.result))
    (told_require counted (fit_placed scope s 0 args) OperandType at (told_require parts (gives_all scope s args) ArgumentCount at told))
    (told_said s.result.whole ok (and_parts s.result.whole (not (is_unknown s.result.kind)) whole).0 told_ok)

user_call_told : (scope : Scope) (text : List ℕ) (at : ℕ) (s : Option Signature) (args : Arguments) (of_inputs : Signature → Judgement) (r : IsWholeFunction scope text) → s ≡ Some r.signature
    → IsTold (of_inputs r.signature) → IsTold (judged_user_call scope at s args of_inputs)
user_call_told scope text at s args of_inputs r there told =
    subst (λ (o : Option Signature). IsTold (judged_user_call scope at o args of_inputs)) (sym there) (answer_told scope at r.signature args (of_inputs r.signature) r.answer told)

call_told : (scope : Scope) (expected : Option DataType) (at : ℕ) (f : Option StandardFunction) (s : Option Signature) (args : Arguments) (alone : Judgement) (of_operands : StandardFunction → DataType → Judgement) (of_inputs : Signature → Judgement)
    → (f ≡ None → IsTold (judged_user_call scope at s args of_inputs)) → IsTold alone → ((g : StandardFunction) → IsTold (of_operands g (common_type scope expected g args))) → IsTold (judged_call scope expected at f s args alone of_operands of_inputs)
call_told scope expected at None s args alone of_operands of_inputs user told given = user refl
call_told scope expected at (Some g) s args alone of_operands of_inputs user told given =
    let t = common_type scope expected g args in
    let fits = takes_operands g t && fit_from scope g t 0 args in
    told_if (takes_count g (count_of args)) (require (of_operands g t) fits OperandType at) (require alone false ArgumentCount at)
    (told_require (of_operands g t) fits OperandType at (given g)) (told_require alone false ArgumentCount at told)

module _ (scope : Scope) (uses : Usable) (whole : IsWholeScope scope uses) where
  mutual
    pub tree_told : (expected : Option DataType) → IsKnownIf expected → (e : Tree) → IsWithin uses e → IsTold (judged scope expected e)
    tree_told expected known (literal l) within = literal_told (type_of scope expected (literal l)) false (place_of_literal l) l (type_known scope uses whole expected known (literal l) within)
    tree_told expected known (path p) within = meaning_told (scope.means (by_path p)) (whole.names (by_path p) within)
    tree_told expected known (enumerator t v) within = meaning_told (scope.means (by_value v)) (whole.names (by_value v) within)
    tree_told expected known (paren at e) within = tree_told expected known e within
    tree_told expected known (unary o at e) within =
        let t = type_of scope expected e in
        let k = type_known scope uses whole expected known e within in
        unary_told t o at (negative_literal o e) (judged scope (Some t) e) k (tree_told (Some t) k e within)
    tree_told expected known (chain e ls) within =
        let t = operand_type scope expected e ls in
        let k = operand_known scope uses whole expected known e ls within.0 within.1 in
        links_told t k (judged scope (Some t) e) (tree_told (Some t) k e within.0) ls within.1
    tree_told expected known (call n at args) within =
        call_told scope expected n.at (standard_function n.text) (scope.signature n.text) args (judged_alone scope args) (λ f t. judged_arguments scope f t 0 args) (λ s. judged_given scope s 0 args)
        (λ none. let r = whole.functions n.text (within.0 none) in user_call_told scope n.text n.at (scope.signature n.text) args (λ s. judged_given scope s 0 args) r r.there (given_told n.text r 0 args within.1))
        (alone_told args within.1) (λ g. arguments_told g (common_type scope expected g args) (common_known scope uses whole expected known g args within.1) 0 args within.1)

    links_told : (t : DataType) → is_unknown t ≡ false → (left : Judgement) → IsTold left → (ls : Links) → AreLinksWithin uses ls → IsTold (judged_links scope t left ls)
    links_told t known left told no_links within = told
    links_told t known left told (link o at e ls) within =
        let right = judged scope (Some t) e in
        let fits = takes o t && is_same_type (type_of scope (Some t) e) t in
        links_told (next_type o t) (next_known o t known) (require (and left right) fits OperandType at) (told_require (and left right) fits OperandType at (told_and left right told (tree_told (Some t) known e within.0))) ls within.1

    arguments_told : (f : StandardFunction) (t : DataType) → is_unknown t ≡ false → (place : ℕ) (args : Arguments) → AreArgumentsWithin uses args → IsTold (judged_arguments scope f t place args)
    arguments_told f t known place no_arguments within = told_ok
    arguments_told f t known place (argument n e args) within =
        let p = parameter_of f place in
        let value = judged scope (expected_at p t) e in
        told_and (judged_amount scope p e value) (judged_arguments scope f t (place + 1) args) (amount_told scope p e value (tree_told (expected_at p t) (expected_known p t known) e within.0)) (arguments_told f t known (place + 1) args within.1)

    given_told : (text : List ℕ) (r : IsWholeFunction scope text) (place : ℕ) (args : Arguments) → AreArgumentsWithin uses args → IsTold (judged_given scope r.signature place args)
    given_told text r place no_arguments within = told_ok
    given_told text r place (argument n e args) within =
        let at = place_for scope r.signature place n in
        let p = scope.port r.signature.function at in
        let value = judged scope (expected_by p) e in
        told_and (judged_named n (fits_port scope p e) (and value (judged_port p))) (judged_given scope r.signature (place + 1) args)
        (named_told n (fits_port scope p e) (and value (judged_port p)) (told_and value (judged_port p) (tree_told (expected_by p) (input_known p (r.inputs at)) e within.0) (port_told p (r.inputs at))))
        (given_told text r (place + 1) args within.1)

    alone_told : (args : Arguments) → AreArgumentsWithin uses args → IsTold (judged_alone scope args)
    alone_told no_arguments within = told_ok
    alone_told (argument n e args) within = told_and (judged scope None e) (judged_alone scope args) (tree_told None tt e within.0) (alone_told args within.1)

  pub condition_told : (rule : Rule) (e : Tree) → IsWithin uses e → IsTold (judged_condition scope rule e)
  condition_told rule e within = told_require (judged scope None e) (is_same_type (type_of scope None e) bool_type) rule (place_of e) (tree_told None tt e within)
