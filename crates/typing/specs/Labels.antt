-- The labels of a CASE: the values that they have, and the rules that they break.
use Rattle.std.specs.Prelude.{List, [], ◌∷◌, Bool, true, not, ◌&&◌, Option, Some, None, if◌then◌else◌, ℤ, int_le}
use Rattle.std.specs.List.{list_any}
use Rattle.plc_types.specs.declared.data_type.DataType.{DataType}
use Rattle.plc_types.specs.DataTypes.{is_same_type}
use Rattle.rules.specs.declared.rule.Rule.TheVariants.{OperandType, OutsideType, Overlap}
use Rattle.plc_types.specs.declared.range.Range.{Range}
use Rattle.program_tree.specs.declared.typed.TypedLabel.{TypedLabel}
use Rattle.program_tree.specs.declared.typed.TypedLabel.TheVariants.{Single, Span}
use Rattle.source_tree.specs.Syntax.{Tree, LabelData}
use Rattle.typing.specs.Typing.{Scope, type_of, place_of}
use Rattle.rules.specs.Judgements.{Judgement, ok, and, require}
use Rattle.typing.specs.Judged.{judged}
use Rattle.typing.specs.Typed.{constant_of}

abbrev pub high_value : Scope → DataType → Tree → Option Tree → ℤ
high_value scope t low None = constant_of scope t low
high_value scope t low (Some e) = constant_of scope t e

-- the values of a label: one, or all from one to another
abbrev pub label_range : Scope → DataType → LabelData → Range
label_range scope t l = record { low = constant_of scope t l.low; high = high_value scope t l.low l.high }

-- a label as typed programs have it: its value, or its range where the text writes one
abbrev pub labelled_by : Range → Option Tree → TypedLabel
labelled_by r None = Single r.low
labelled_by r (Some e) = Span r

abbrev pub typed_label : Scope → DataType → LabelData → TypedLabel
typed_label scope t l = labelled_by (label_range scope t l) l.high

abbrev pub judged_high : Scope → DataType → Option Tree → Judgement
judged_high scope t None = ok
judged_high scope t (Some e) = judged scope (Some t) e

abbrev pub is_of_type : Scope → DataType → Tree → Bool
is_of_type scope t e = is_same_type (type_of scope (Some t) e) t

abbrev pub high_is_of_type : Scope → DataType → Option Tree → Bool
high_is_of_type scope t None = true
high_is_of_type scope t (Some e) = is_of_type scope t e

abbrev pub meets : Range → Range → Bool
meets r s = int_le r.low s.high && int_le s.low r.high

abbrev pub overlaps : List Range → Range → Bool
overlaps seen r = list_any (meets r) seen

-- A label is of the selector's type, its bounds are in order, and it has no value of the labels seen before.
abbrev pub judged_label : Scope → DataType → List Range → LabelData → Judgement
judged_label scope t seen l =
    require
    (require
    (require (and (judged scope (Some t) l.low) (judged_high scope t l.high)) (is_of_type scope t l.low && high_is_of_type scope t l.high) OperandType (place_of l.low))
    (int_le (label_range scope t l).low (label_range scope t l).high) OutsideType (place_of l.low))
    (not (overlaps seen (label_range scope t l))) Overlap (place_of l.low)

-- a label that breaks a rule is not among those that later ones may overlap
abbrev pub seen_with : Scope → DataType → List Range → LabelData → List Range
seen_with scope t seen l = if (judged_label scope t seen l).whole then label_range scope t l ∷ seen else seen

abbrev pub seen_behind : Scope → DataType → List Range → List LabelData → List Range
seen_behind scope t seen [] = seen
seen_behind scope t seen (l ∷ ls) = seen_behind scope t (seen_with scope t seen l) ls

abbrev pub judged_labels : Scope → DataType → List Range → List LabelData → Judgement
judged_labels scope t seen [] = ok
judged_labels scope t seen (l ∷ ls) = and (judged_label scope t seen l) (judged_labels scope t (seen_with scope t seen l) ls)
