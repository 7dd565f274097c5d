-- A constant of an elementary type is a number of its range.
use Rattle.std.proofs.Common.{◌≡◌, ℕ, Bool, true, false, if◌then◌else◌, Option, Some, None}
use Rattle.std.proofs.lemmas.Bool.{false≢true}
use Rattle.plc_types.specs.declared.elementary.Elementary.{Elementary}
use Rattle.plc_types.specs.declared.data_type.DataType.{DataType}
use Rattle.plc_types.specs.declared.data_type.DataType.TheVariants as kinds
use Rattle.plc_types.specs.declared.function.StandardFunction.{StandardFunction}
use Rattle.plc_types.specs.declared.operator.UnaryOperator.{UnaryOperator}
use Rattle.plc_types.specs.DataTypes.{is_same_type}
use Rattle.plc_types.specs.Types.{range_of, in_range}
use Rattle.plc_types.proofs.TypeRanges.{zero_in}
use Rattle.plc_types.proofs.SameTypes.{wrapped_to}
use Rattle.source_tree.specs.declared.syntax.Literal.{Literal}
use Rattle.source_tree.specs.Syntax.{Tree, literal, path, enumerator, paren, unary, chain, call, Arguments, FileData}
use Rattle.program_tree.specs.Tree.{Expression, Expressions}
use Rattle.naming.specs.Library.{standard_function}
use Rattle.naming.specs.declared.standing.Standing.{Standing}
use Rattle.naming.specs.declared.standing.Standing.TheVariants as standings
use Rattle.naming.specs.FileScope.{standing}
use Rattle.naming.specs.Types.{specification_at}
use Rattle.typing.specs.declared.scope.Signature.{Signature}
use Rattle.typing.specs.Typing.{kind_at, or_else, or_dint, type_of, literal_value, negated}
use Rattle.typing.specs.Judged.{negative_literal}
use Rattle.typing.specs.Typed.{typed, typed_signed, typed_result, meaning_read, PlacedData, value_of_number, constant_of}
use Rattle.typing.specs.Domains.{is_few, value_at, values_scope}
use Rattle.std.specs.Prelude.{List}

-- the value of an enumeration is of no elementary type
no_value : (w : Bool) (t : ℕ) (k : Elementary) → is_same_type (if w then kinds.Enumeration t else kinds.Unknown) (kinds.Elementary k) ≡ true → ⊥
no_value true t k same = false≢true same
no_value false t k same = false≢true same

named_in : (f : FileData) (k : Elementary) (s : Option Standing) → is_same_type (or_dint (or_else (kind_at (value_at f s)) (Some (kinds.Elementary k)))) (kinds.Elementary k) ≡ true
    → in_range (value_of_number (meaning_read (value_at f s))) (range_of k) ≡ true
named_in f k None same = zero_in k
named_in f k (Some (standings.Type t)) same = zero_in k
named_in f k (Some (standings.Value t n)) same = absurd (no_value (is_few (specification_at f t)) t k same)
named_in f k (Some (standings.Pou p)) same = zero_in k

signed_in : (t : DataType) (k : Elementary) (o : UnaryOperator) (l : Option Literal) (e : Expression) → is_same_type t (kinds.Elementary k) ≡ true → in_range (value_of_number (typed_signed t o l e)) (range_of k) ≡ true
signed_in t k o None e same = zero_in k
signed_in t k o (Some l) e same = wrapped_to t k (negated true (literal_value l)) same

called_in : (f : FileData) (k : Elementary) (s : Option StandardFunction) (args : Arguments) (operands : StandardFunction → DataType → Expressions) (given : Signature → List PlacedData)
    → in_range (value_of_number (typed_result (values_scope f) (Some (kinds.Elementary k)) s None args operands given)) (range_of k) ≡ true
called_in f k None args operands given = zero_in k
called_in f k (Some s) args operands given = zero_in k

pub constant_in : (f : FileData) (k : Elementary) (e : Tree) → is_same_type (type_of (values_scope f) (Some (kinds.Elementary k)) e) (kinds.Elementary k) ≡ true
    → in_range (constant_of (values_scope f) (kinds.Elementary k) e) (range_of k) ≡ true
constant_in f k (literal l) same = wrapped_to (type_of (values_scope f) (Some (kinds.Elementary k)) (literal l)) k (negated false (literal_value l)) same
constant_in f k (path p) same = named_in f k (standing f p.first.text) same
constant_in f k (enumerator t v) same = named_in f k (standing f v.text) same
constant_in f k (paren at e) same = constant_in f k e same
constant_in f k (unary o at e) same =
    let t = type_of (values_scope f) (Some (kinds.Elementary k)) (unary o at e) in
    signed_in t k o (negative_literal o e) (typed (values_scope f) (Some t) e) same
constant_in f k (chain e ls) same = zero_in k
constant_in f k (call n at args) same = called_in f k (standard_function n.text) args _ _
