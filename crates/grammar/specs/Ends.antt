-- Which symbols go on with an expression, and which begin a statement or a part of a chart.
use Rattle.std.specs.Prelude.{ℕ, Bool, true, false, List, ◌∷◌, nat_le, ◌||◌, ◌&&◌, not}
use Rattle.source_tree.specs.declared.token.Mark.TheVariants.{Comma, Semicolon, Colon, Range, If, Else, Case, EndCase, Return, Point, Hash}
use Rattle.source_tree.specs.Syntax.{Symbol, name, operator, opening, iteration, exit_word, part, mark}
use Rattle.source_tree.specs.Levels.{level_of}
use Rattle.grammar.specs.Marks.{same_mark}

-- the next symbol may go on with an expression whose operators are of this level or tighter: an operator, `(`, `.` or `#`
abbrev pub goes_on : ℕ → List Symbol → Bool
goes_on k (operator o at ∷ ts) = nat_le (level_of o) k
goes_on k (opening at ∷ ts) = true
goes_on k (mark m ∷ ts) = same_mark m Point || same_mark m Hash
goes_on k ts = false

-- behind a name, the next symbol makes the name a label of a CASE: `:`, `,`, `..` or `#`
abbrev pub is_label : List Symbol → Bool
is_label (mark m ∷ ts) = same_mark m Colon || same_mark m Comma || same_mark m Range || same_mark m Hash
is_label ts = false

-- the next symbol begins a statement: a name, `;`, IF, CASE, FOR, EXIT or RETURN; but no name that is a label, where labels may follow
abbrev pub begins_where : Bool → List Symbol → Bool
begins_where labelled (name t at ∷ ts) = not (labelled && is_label ts)
begins_where labelled (iteration at ∷ ts) = true
begins_where labelled (exit_word at ∷ ts) = true
begins_where labelled (mark m ∷ ts) = same_mark m Semicolon || same_mark m If || same_mark m Case || same_mark m Return
begins_where labelled ts = false

-- the same where no label may follow
abbrev pub begins : List Symbol → Bool
begins ts = begins_where false ts

-- the next symbol ends the entries of a CASE: ELSE or END_CASE
abbrev pub ends_entries : List Symbol → Bool
ends_entries (mark m ∷ ts) = same_mark m Else || same_mark m EndCase
ends_entries ts = false

-- the next symbol begins a part of a chart
abbrev pub begins_part : List Symbol → Bool
begins_part (part w at ∷ ts) = true
begins_part ts = false
