-- Expressions are judged alike over scopes that differ in the places of cells alone.
use Rattle.std.proofs.Common.{◌≡◌, ℕ, ◌+◌, ◌==◌, List, ◌∷◌, Bool, false, ◌&&◌, Option, Some, None, if◌then◌else◌, refl, ap, ◌∙◌}
use Rattle.std.specs.Option.{unwrap_or}
use Rattle.plc_types.specs.declared.data_type.DataType.{DataType}
use Rattle.plc_types.specs.DataTypes.{is_same_type}
use Rattle.plc_types.specs.declared.function.StandardFunction.{StandardFunction}
use Rattle.rules.specs.declared.rule.Rule.{Rule}
use Rattle.rules.specs.declared.rule.Rule.TheVariants.{OperandType, ArgumentCount, OutsideType}
use Rattle.rules.specs.Judgements.{Judgement, and, require}
use Rattle.source_tree.specs.Syntax.{Named, Tree, literal, path, enumerator, paren, unary, chain, call, Links, no_links, link, Arguments, no_arguments, argument}
use Rattle.naming.specs.Library.{standard_function}
use Rattle.typing.specs.declared.scope.Port.{Port}
use Rattle.typing.specs.declared.scope.Signature.{Signature}
use Rattle.typing.specs.Typing.{Scope, by_path, by_value, bool_type, compares, or_else, or_dint, Parameter, fixed, common, amount, parameter_of, synthesized_if_common, synthesized_of_call, synthesized, synthesized_of_links, synthesized_of_arguments, synthesized_of_first, type_of, common_type, operand_type, next_type, takes, takes_operands, takes_count, count_of, is_amount, is_amount_value, number_in, is_bool, place_of, port_type}
use Rattle.typing.specs.Judged.{negative_literal, judged_unary, expected_at, fits_at, fit_from, judged_amount, place_for, places_for, has_all_below, gives_all, expected_by, judged_port, fits_port, judged_named, fits_placed, fit_placed, judged_answer, judged_user_call, judged_call, judged, judged_links, judged_arguments, judged_given, judged_alone, judged_condition}
use Rattle.std.specs.Prelude.{not}
use Rattle.alike_scopes.specs.AlikeScopes.{AreAlike}
use Rattle.alike_scopes.proofs.AlikeNames.{kind_alike, meaning_alike}

module _ (s t : Scope) (alike : AreAlike s t) where
  -- ---- types

  mutual
    pub synthesized_alike : (e : Tree) → synthesized s e ≡ synthesized t e
    synthesized_alike (literal l) = refl
    synthesized_alike (path p) = kind_alike (s.means (by_path p)) (t.means (by_path p)) (alike.means (by_path p))
    synthesized_alike (enumerator n v) = kind_alike (s.means (by_value v)) (t.means (by_value v)) (alike.means (by_value v))
    synthesized_alike (paren at e) = synthesized_alike e
    synthesized_alike (unary o at e) = synthesized_alike e
    synthesized_alike (chain e ls) = λ i. if compares ls then Some bool_type else or_else (synthesized_alike e i) (synthesized_of_links_alike ls i)
    synthesized_alike (call n at args) = λ i. synthesized_of_call (standard_function n.text) (alike.signature n.text i) (λ f. synthesized_of_arguments_alike f 0 args i)

    pub synthesized_of_links_alike : (ls : Links) → synthesized_of_links s ls ≡ synthesized_of_links t ls
    synthesized_of_links_alike no_links = refl
    synthesized_of_links_alike (link o at e ls) = λ i. or_else (synthesized_alike e i) (synthesized_of_links_alike ls i)

    pub synthesized_of_arguments_alike : (f : StandardFunction) (place : ℕ) (args : Arguments) → synthesized_of_arguments s f place args ≡ synthesized_of_arguments t f place args
    synthesized_of_arguments_alike f place no_arguments = refl
    synthesized_of_arguments_alike f place (argument n e args) = λ i. or_else (synthesized_if_common (parameter_of f place) (synthesized_alike e i)) (synthesized_of_arguments_alike f (place + 1) args i)

  pub type_alike : (expected : Option DataType) (e : Tree) → type_of s expected e ≡ type_of t expected e
  type_alike expected e = λ i. or_dint (or_else (synthesized_alike e i) expected)

  pub common_alike : (expected : Option DataType) (f : StandardFunction) (args : Arguments) → common_type s expected f args ≡ common_type t expected f args
  common_alike expected f args = λ i. or_dint (or_else (synthesized_of_arguments_alike f 0 args i) expected)

  first_alike : (ls : Links) → synthesized_of_first s ls ≡ synthesized_of_first t ls
  first_alike no_links = refl
  first_alike (link o at e ls) = synthesized_alike e

  pub operand_alike : (expected : Option DataType) (e : Tree) (ls : Links) → operand_type s expected e ls ≡ operand_type t expected e ls
  operand_alike expected e ls = λ i. if compares ls then or_dint (or_else (synthesized_alike e i) (first_alike ls i)) else or_dint (or_else (or_else (synthesized_alike e i) (synthesized_of_links_alike ls i)) expected)

  -- an expression of a type
  pub same_alike : (k : DataType) (e : Tree) → is_same_type (type_of s (Some k) e) k ≡ is_same_type (type_of t (Some k) e) k
  same_alike k e = ap (λ (x : DataType). is_same_type x k) (type_alike (Some k) e)

  -- ---- arguments

  fits_at_alike : (p : Parameter) (k : DataType) (e : Tree) → fits_at s p k e ≡ fits_at t p k e
  fits_at_alike (fixed x) k e = ap (λ (y : DataType). is_same_type y (or_dint (expected_at (fixed x) k))) (type_alike (expected_at (fixed x) k) e)
  fits_at_alike common k e = same_alike k e
  fits_at_alike amount k e = refl

  fit_from_alike : (f : StandardFunction) (k : DataType) (place : ℕ) (args : Arguments) → fit_from s f k place args ≡ fit_from t f k place args
  fit_from_alike f k place no_arguments = refl
  fit_from_alike f k place (argument n e args) = λ i. fits_at_alike (parameter_of f place) k e i && fit_from_alike f k (place + 1) args i

  is_amount_alike : (e : Tree) → is_amount s e ≡ is_amount t e
  is_amount_alike e = ap (λ (x : DataType). is_amount_value (number_in e) && not (is_bool x)) (type_alike None e)

  amount_alike : (p : Parameter) (e : Tree) (j k : Judgement) → j ≡ k → judged_amount s p e j ≡ judged_amount t p e k
  amount_alike (fixed x) e j k same = same
  amount_alike common e j k same = same
  amount_alike amount e j k same = λ i. require (same i) (is_amount_alike e i) OutsideType (place_of e)

  -- ---- inputs of a FUNCTION

  module _ (g : Signature) (inputs : (name : List ℕ) → s.input g.function name ≡ t.input g.function name) where
    place_alike : (place : ℕ) (n : Option Named) → place_for s g place n ≡ place_for t g place n
    place_alike place None = refl
    place_alike place (Some n) = ap (λ (o : Option ℕ). unwrap_or o g.count) (inputs n.text)

    places_alike : (place : ℕ) (args : Arguments) → places_for s g place args ≡ places_for t g place args
    places_alike place no_arguments = refl
    places_alike place (argument n e args) = λ i. place_alike place n i ∷ places_alike (place + 1) args i

    gives_alike : (args : Arguments) → gives_all s g args ≡ gives_all t g args
    gives_alike args = ap (λ (ns : List ℕ). count_of args == g.count && has_all_below g.count ns) (places_alike 0 args)

  fits_port_alike : (p : Option Port) (e : Tree) → fits_port s p e ≡ fits_port t p e
  fits_port_alike None e = refl
  fits_port_alike (Some p) e = same_alike (port_type p) e

  fit_placed_alike : (g : Signature) (place : ℕ) (args : Arguments) → fit_placed s g place args ≡ fit_placed t g place args
  fit_placed_alike g place no_arguments = refl
  fit_placed_alike g place (argument n e args) = λ i. by n i && fit_placed_alike g (place + 1) args i
    where
      by : (n : Option Named) → fits_placed s g place n e ≡ fits_placed t g place n e
      by None = fits_port_alike (s.port g.function place) e ∙ ap (λ (p : Option Port). fits_port t p e) (alike.port g.function place)
      by (Some m) = refl

  answer_alike : (at : ℕ) (g : Signature) (inputs : (name : List ℕ) → s.input g.function name ≡ t.input g.function name) (args : Arguments) (j k : Judgement) → j ≡ k → judged_answer s at g args j ≡ judged_answer t at g args k
  answer_alike at g inputs args j k same =
      λ i. and (require (require (same i) (gives_alike g inputs args i) ArgumentCount at) (fit_placed_alike g 0 args i) OperandType at) (judged_port (Some g.result))

  user_call_by : (at : ℕ) (o : Option Signature) (args : Arguments) (f g : Signature → Judgement) → ((x : Signature) → o ≡ Some x → judged_answer s at x args (f x) ≡ judged_answer t at x args (g x)) → judged_user_call s at o args f ≡ judged_user_call t at o args g
  user_call_by at None args f g each = refl
  user_call_by at (Some x) args f g each = each x refl

  call_by : (expected : Option DataType) (at : ℕ) (f : Option StandardFunction) (args : Arguments) (o p : Option Signature) (a b : Judgement) (os ps : StandardFunction → DataType → Judgement) (is js : Signature → Judgement)
      → judged_user_call s at o args is ≡ judged_user_call t at p args js → a ≡ b → ((x : StandardFunction) (k : DataType) → os x k ≡ ps x k) → judged_call s expected at f o args a os is ≡ judged_call t expected at f p args b ps js
  call_by expected at None args o p a b os ps is js user same each = user
  call_by expected at (Some f) args o p a b os ps is js user same each =
      let k = common_type s expected f args in
      (λ i. if takes_count f (count_of args) then require (each f k i) (takes_operands f k && fit_from_alike f k 0 args i) OperandType at else require (same i) false ArgumentCount at)
      ∙ ap (λ (x : DataType). if takes_count f (count_of args) then require (ps f x) (takes_operands f x && fit_from t f x 0 args) OperandType at else require b false ArgumentCount at) (common_alike expected f args)

  mutual
    pub judged_alike : (expected : Option DataType) (e : Tree) → judged s expected e ≡ judged t expected e
    judged_alike expected (literal l) = refl
    judged_alike expected (path p) = meaning_alike (s.means (by_path p)) (t.means (by_path p)) (alike.means (by_path p))
    judged_alike expected (enumerator n v) = meaning_alike (s.means (by_value v)) (t.means (by_value v)) (alike.means (by_value v))
    judged_alike expected (paren at e) = judged_alike expected e
    judged_alike expected (unary o at e) =
        let k = type_of s expected e in
        (λ i. judged_unary k o at (negative_literal o e) (judged_alike (Some k) e i)) ∙ ap (λ (x : DataType). judged_unary x o at (negative_literal o e) (judged t (Some x) e)) (type_alike expected e)
    judged_alike expected (chain e ls) =
        let k = operand_type s expected e ls in
        judged_links_alike k (judged s (Some k) e) ls
        ∙ ap (λ (j : Judgement). judged_links t k j ls) (judged_alike (Some k) e)
        ∙ ap (λ (x : DataType). judged_links t x (judged t (Some x) e) ls) (operand_alike expected e ls)
    judged_alike expected (call n at args) =
        let own_s = λ (x : Signature). judged_given s x 0 args in
        let own_t = λ (x : Signature). judged_given t x 0 args in
        let user = user_call_by n.at (s.signature n.text) args own_s own_t (λ x is. let inputs = alike.input x.function in answer_alike n.at x inputs args (own_s x) (own_t x) (judged_given_alike x inputs 0 args)) in
        call_by expected n.at (standard_function n.text) args (s.signature n.text) (t.signature n.text) (judged_alone s args) (judged_alone t args) (λ f k. judged_arguments s f k 0 args) (λ f k. judged_arguments t f k 0 args) own_s own_t
        (user ∙ ap (λ (o : Option Signature). judged_user_call t n.at o args own_t) (alike.signature n.text)) (judged_alone_alike args) (λ f k. judged_arguments_alike f k 0 args)

    judged_links_alike : (k : DataType) (left : Judgement) (ls : Links) → judged_links s k left ls ≡ judged_links t k left ls
    judged_links_alike k left no_links = refl
    judged_links_alike k left (link o at e ls) =
        let fits = λ (b : Bool). takes o k && b in
        let one = require (and left (judged s (Some k) e)) (takes o k && is_same_type (type_of s (Some k) e) k) OperandType at in
        judged_links_alike (next_type o k) one ls
        ∙ ap (λ (j : Judgement). judged_links t (next_type o k) j ls) (λ i. require (and left (judged_alike (Some k) e i)) (takes o k && same_alike k e i) OperandType at)

    judged_arguments_alike : (f : StandardFunction) (k : DataType) (place : ℕ) (args : Arguments) → judged_arguments s f k place args ≡ judged_arguments t f k place args
    judged_arguments_alike f k place no_arguments = refl
    judged_arguments_alike f k place (argument n e args) =
        let p = parameter_of f place in
        let w = expected_at p k in
        λ i. and (amount_alike p e (judged s w e) (judged t w e) (judged_alike w e) i) (judged_arguments_alike f k (place + 1) args i)

    judged_given_alike : (g : Signature) → ((name : List ℕ) → s.input g.function name ≡ t.input g.function name) → (place : ℕ) (args : Arguments) → judged_given s g place args ≡ judged_given t g place args
    judged_given_alike g inputs place no_arguments = refl
    judged_given_alike g inputs place (argument n e args) =
        let p = s.port g.function (place_for s g place n) in
        let q = t.port g.function (place_for t g place n) in
        let port : p ≡ q = alike.port g.function (place_for s g place n) ∙ ap (t.port g.function) (place_alike g inputs place n) in
        let own : judged_named n (fits_port s p e) (and (judged s (expected_by p) e) (judged_port p)) ≡ judged_named n (fits_port t q e) (and (judged t (expected_by q) e) (judged_port q)) =
        (λ i. judged_named n (fits_port_alike p e i) (and (judged_alike (expected_by p) e i) (judged_port p)))
        ∙ ap (λ (x : Option Port). judged_named n (fits_port t x e) (and (judged t (expected_by x) e) (judged_port x))) port in
        λ i. and (own i) (judged_given_alike g inputs (place + 1) args i)

    judged_alone_alike : (args : Arguments) → judged_alone s args ≡ judged_alone t args
    judged_alone_alike no_arguments = refl
    judged_alone_alike (argument n e args) = λ i. and (judged_alike None e i) (judged_alone_alike args i)

  pub condition_alike : (rule : Rule) (e : Tree) → judged_condition s rule e ≡ judged_condition t rule e
  condition_alike rule e = λ i. require (judged_alike None e i) (is_same_type (type_alike None e i) bool_type) rule (place_of e)
