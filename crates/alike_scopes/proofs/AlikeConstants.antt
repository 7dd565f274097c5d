-- Constants have the same values over scopes that differ in the places of cells alone.
use Rattle.std.proofs.Common.{◌≡◌, List, [], Bool, true, false, true≢false, not, ◌&&◌, Option, Some, None, if◌then◌else◌, refl, sym, ap, ◌∙◌}
use Rattle.std.specs.Prelude.{ℤ, pos}
use Rattle.std.proofs.lemmas.Bool.{and_parts}
use Rattle.plc_types.specs.declared.data_type.DataType.{DataType}
use Rattle.plc_types.specs.DataTypes.{carrier}
use Rattle.plc_types.specs.declared.operator.UnaryOperator.{UnaryOperator}
use Rattle.plc_types.specs.declared.function.StandardFunction.{StandardFunction}
use Rattle.program_tree.specs.Tree.{Expression, operand, chain as typed_chain, Expressions}
use Rattle.source_tree.specs.declared.syntax.Literal.{Literal}
use Rattle.source_tree.specs.Syntax.{Tree, literal, path, enumerator, paren, unary, chain, call, Links, no_links, link, Arguments}
use Rattle.naming.specs.Library.{standard_function}
use Rattle.meaning.specs.Values.{value_of, faults, no_callees}
use Rattle.typing.specs.declared.scope.Signature.{Signature}
use Rattle.typing.specs.Typing.{Scope, by_path, by_value, type_of, operand_type, next_type}
use Rattle.typing.specs.Judged.{negative_literal}
use Rattle.typing.specs.Typed.{PlacedData, number_of, typed_signed, typed_answer, typed_result, typed_operands, typed_given, typed, typed_links, value_of_number, constant_of}
use Rattle.typing.specs.Constants.{is_constant, are_constant, constant_value}
use Rattle.alike_scopes.specs.AlikeScopes.{AreAlike}
use Rattle.alike_scopes.proofs.AlikeNames.{value_alike, number_alike, read_alike}
use Rattle.alike_scopes.proofs.AlikeTrees.{type_alike, operand_alike}

-- a call has no value that is written
no_answer : (o : Option Signature) (given : Signature → List PlacedData) → value_of_number (typed_answer o given) ≡ pos 0
no_answer None given = refl
no_answer (Some g) given = refl

no_result : (s : Scope) (expected : Option DataType) (f : Option StandardFunction) (o : Option Signature) (args : Arguments) (operands : StandardFunction → DataType → Expressions) (given : Signature → List PlacedData)
    → value_of_number (typed_result s expected f o args operands given) ≡ pos 0
no_result s expected None o args operands given = no_answer o given
no_result s expected (Some f) o args operands given = refl

signed_by : (k l : DataType) (o : UnaryOperator) (m : Option Literal) (d e : Expression) → k ≡ l → value_of_number (typed_signed k o m d) ≡ value_of_number (typed_signed l o m e)
signed_by k l o None d e same = refl
signed_by k l o (Some m) d e same = ap (λ (x : DataType). value_of_number (number_of x true m)) same

module _ (s t : Scope) (alike : AreAlike s t) where
  mutual
    is_constant_alike : (e : Tree) → is_constant s e ≡ is_constant t e
    is_constant_alike (literal l) = refl
    is_constant_alike (path p) = value_alike (s.means (by_path p)) (t.means (by_path p)) (alike.means (by_path p))
    is_constant_alike (enumerator n v) = value_alike (s.means (by_value v)) (t.means (by_value v)) (alike.means (by_value v))
    is_constant_alike (paren at e) = is_constant_alike e
    is_constant_alike (unary o at e) = is_constant_alike e
    is_constant_alike (chain e ls) = λ i. is_constant_alike e i && are_constant_alike ls i
    is_constant_alike (call n at args) = refl

    are_constant_alike : (ls : Links) → are_constant s ls ≡ are_constant t ls
    are_constant_alike no_links = refl
    are_constant_alike (link o at e ls) = λ i. is_constant_alike e i && are_constant_alike ls i

  mutual
    typed_alike : (expected : Option DataType) (e : Tree) → is_constant s e ≡ true → typed s expected e ≡ typed t expected e
    typed_alike expected (literal l) h = refl
    typed_alike expected (path p) h = read_alike (s.means (by_path p)) (t.means (by_path p)) (alike.means (by_path p)) h
    typed_alike expected (enumerator n v) h = read_alike (s.means (by_value v)) (t.means (by_value v)) (alike.means (by_value v)) h
    typed_alike expected (paren at e) h = typed_alike expected e h
    typed_alike expected (unary o at e) h =
        let k = type_of s expected e in
        (λ i. typed_signed k o (negative_literal o e) (typed_alike (Some k) e h i)) ∙ ap (λ (x : DataType). typed_signed x o (negative_literal o e) (typed t (Some x) e)) (type_alike s t alike expected e)
    typed_alike expected (chain e ls) h =
        let two = and_parts (is_constant s e) (are_constant s ls) h in
        let k = operand_type s expected e ls in
        (λ i. typed_chain (typed_alike (Some k) e two.0 i) (typed_links_alike k ls two.1 i)) ∙ ap (λ (x : DataType). typed_chain (typed t (Some x) e) (typed_links t x ls)) (operand_alike s t alike expected e ls)
    typed_alike expected (call n at args) h = absurd (true≢false (sym h))

    typed_links_alike : (k : DataType) (ls : Links) → are_constant s ls ≡ true → typed_links s k ls ≡ typed_links t k ls
    typed_links_alike k no_links h = refl
    typed_links_alike k (link o at e ls) h =
        let two = and_parts (is_constant s e) (are_constant s ls) h in
        λ i. operand o (carrier k) (typed_alike (Some k) e two.0 i) (typed_links_alike (next_type o k) ls two.1 i)

  pub value_of_alike : (expected : Option DataType) (e : Tree) → constant_value s expected e ≡ constant_value t expected e
  value_of_alike expected e = by (is_constant s e) refl
    where
      of : Bool → Expression → Option ℤ
      of b x = if b && not (faults no_callees 0 x []) then Some (value_of no_callees 0 x []) else None

      by : (b : Bool) → is_constant s e ≡ b → constant_value s expected e ≡ constant_value t expected e
      by true h = (λ i. of (is_constant_alike e i) (typed_alike expected e h i))
      by false h = ap (λ (b : Bool). of b (typed s expected e)) h ∙ sym (ap (λ (b : Bool). of b (typed t expected e)) (sym (is_constant_alike e) ∙ h))

  -- the value of a label
  number_by : (expected : Option DataType) (e : Tree) → value_of_number (typed s expected e) ≡ value_of_number (typed t expected e)
  number_by expected (literal l) = refl
  number_by expected (path p) = number_alike (s.means (by_path p)) (t.means (by_path p)) (alike.means (by_path p))
  number_by expected (enumerator n v) = number_alike (s.means (by_value v)) (t.means (by_value v)) (alike.means (by_value v))
  number_by expected (paren at e) = number_by expected e
  number_by expected (unary o at e) =
      let k = type_of s expected e in
      let l = type_of t expected e in
      signed_by k l o (negative_literal o e) (typed s (Some k) e) (typed t (Some l) e) (type_alike s t alike expected e)
  number_by expected (chain e ls) = refl
  number_by expected (call n at args) =
      no_result s expected (standard_function n.text) (s.signature n.text) args (λ f k. typed_operands s f k 0 args) (λ g. typed_given s g 0 args)
      ∙ sym (no_result t expected (standard_function n.text) (t.signature n.text) args (λ f k. typed_operands t f k 0 args) (λ g. typed_given t g 0 args))

  pub constant_alike : (k : DataType) (e : Tree) → constant_of s k e ≡ constant_of t k e
  constant_alike k e = number_by (Some k) e
