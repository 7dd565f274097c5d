-- Which words a text in upper case is.
use Rattle.std.specs.Prelude.{ℕ, List, codes, bytes_eq, Bool, true, false, Option, Some, None, if◌then◌else◌}
use Rattle.scan_model.specs.declared.side.Side.{Side}
use Rattle.scan_model.specs.declared.side.Side.TheVariants as sides
use Rattle.relation_lines.specs.declared.line.Setting.TheVariants as settings
use Rattle.relation_lines.specs.declared.line.Condition.TheVariants as conditions
use Rattle.relation_lines.specs.declared.word.FirstWord.{FirstWord}
use Rattle.relation_lines.specs.declared.word.FirstWord.TheVariants as words

-- the first word of a line
unfoldable pub first_word_of : List ℕ → Option FirstWord
first_word_of text =
    if bytes_eq text (codes "RELATION") then Some (words.Setting settings.Version)
    else (if bytes_eq text (codes "FAULTS") then Some words.Faults
    else (if bytes_eq text (codes "DEPTH") then Some (words.Setting settings.Depth)
    else (if bytes_eq text (codes "CONFLICTS") then Some (words.Setting settings.Conflicts)
    else (if bytes_eq text (codes "INPUT") then Some words.Input
    else (if bytes_eq text (codes "ENV") then Some (words.Clause conditions.Environment)
    else (if bytes_eq text (codes "RELATE") then Some (words.Clause conditions.Relate)
    else (if bytes_eq text (codes "INVARIANT") then Some (words.Clause conditions.Invariant)
    else None)))))))

-- the word behind FAULTS: whether faults are equal
unfoldable pub agreement_of : List ℕ → Option Bool
agreement_of text = if bytes_eq text (codes "EQUAL") then Some true else (if bytes_eq text (codes "FREE") then Some false else None)

-- the word of a program
unfoldable pub side_of : List ℕ → Option Side
side_of text = if bytes_eq text (codes "OLD") then Some sides.Old else (if bytes_eq text (codes "NEW") then Some sides.New else None)
