-- The variables of POUs with their types, and the rules that their declarations break.
use Rattle.std.specs.Prelude.{ℕ, List, [], ◌∷◌, false, Option, Some, None, if◌then◌else◌, ℤ}
use Rattle.rules.specs.declared.rule.Rule.TheVariants.{ValueType, OutsideType}
use Rattle.plc_types.specs.declared.elementary.Elementary.TheVariants as types
use Rattle.plc_types.specs.DataTypes.{is_same_type}
use Rattle.plc_types.specs.Types.{in_range}
use Rattle.source_tree.specs.Syntax.{Tree, TypeData, FileData}
use Rattle.naming.specs.Scopes.{Variable, block_of}
use Rattle.typing.specs.Typing.{type_of, place_of}
use Rattle.rules.specs.Judgements.{Judgement, ok, suppressed, require, and}
use Rattle.typing.specs.Judged.{judged}
use Rattle.typing.specs.Typed.{constant_of}
use Rattle.typing.specs.declared.domain.Domain.{Domain}
use Rattle.typing.specs.Domains.{values_scope, elementary_domain, domain_of, judged_type}

-- the values that a variable's type allows; a name of a chart has no type, and is a BOOL
abbrev pub domain_if : FileData → Option TypeData → Domain
domain_if f None = elementary_domain types.Bool
domain_if f (Some t) = domain_of f t

abbrev pub domain_of_variable : FileData → Variable → Domain
domain_of_variable f v = domain_if f v.kind

abbrev pub judged_type_if : FileData → Option TypeData → Judgement
judged_type_if f None = ok
judged_type_if f (Some t) = judged_type f t

-- an initial value is of its variable's type, and in its range
abbrev pub judged_initial : FileData → Domain → ℕ → Option Tree → Judgement
judged_initial f d at None = ok
judged_initial f d at (Some e) =
    require
    (require (judged (values_scope f) (Some d.kind) e) (is_same_type (type_of (values_scope f) (Some d.kind) e) d.kind) ValueType at)
    (in_range (constant_of (values_scope f) d.kind e) d.range) OutsideType (place_of e)

-- an initial value of a type that breaks a rule is not looked at
abbrev pub judged_value : FileData → Domain → ℕ → Option Tree → Judgement
judged_value f d at initial = if d.whole then judged_initial f d at initial else suppressed

-- an instance has no initial value
abbrev pub judged_instance : FileData → ℕ → Option Tree → Judgement
judged_instance f at None = ok
judged_instance f at (Some e) = require (judged (values_scope f) None e) false ValueType at

-- a variable, of which it is known whether it is an instance of a block
abbrev pub judged_by_block : FileData → Variable → Option ℕ → Judgement
judged_by_block f v None = and (judged_type_if f v.kind) (judged_value f (domain_of_variable f v) v.name.at v.initial)
judged_by_block f v (Some b) = judged_instance f v.name.at v.initial

abbrev pub judged_variable : FileData → Variable → Judgement
judged_variable f v = judged_by_block f v (block_of f v)

abbrev pub judged_variables : FileData → List Variable → Judgement
judged_variables f [] = ok
judged_variables f (v ∷ vs) = and (judged_variable f v) (judged_variables f vs)

-- the initial value that is written, or that of the type
abbrev pub given_value : FileData → Domain → Option Tree → ℤ
given_value f d None = d.start
given_value f d (Some e) = constant_of (values_scope f) d.kind e

-- a variable begins with its initial value; with that of its type where none is written, or where it breaks a rule
abbrev pub start_of : FileData → Domain → ℕ → Option Tree → ℤ
start_of f d at initial = if (judged_initial f d at initial).whole then given_value f d initial else d.start

abbrev pub initial_of : FileData → Variable → ℤ
initial_of f v = start_of f (domain_of_variable f v) v.name.at v.initial
