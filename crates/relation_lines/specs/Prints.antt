-- What the lines of a relation file print.
use Rattle.std.specs.Prelude.{ℕ, List, [], ◌∷◌, ◌++◌, codes, Bool, if◌then◌else◌}
use Rattle.plc_types.specs.declared.operator.Operator.TheVariants.{Equal}
use Rattle.source_tree.specs.declared.token.Mark.TheVariants.{Semicolon}
use Rattle.source_tree.specs.Syntax.{Symbol, name, number, operator, mark}
use Rattle.source_tree.specs.Prints.{name_symbol, print}
use Rattle.relation_lines.specs.declared.line.Setting.{Setting}
use Rattle.relation_lines.specs.declared.line.Setting.TheVariants as settings
use Rattle.scan_model.specs.declared.side.Side.{Side}
use Rattle.scan_model.specs.declared.side.Side.TheVariants as sides
use Rattle.relation_lines.specs.declared.line.Condition.{Condition}
use Rattle.relation_lines.specs.declared.line.Condition.TheVariants as conditions
use Rattle.relation_lines.specs.Lines.{ContentData, setting, faults, paired, single, clause, LineData}

abbrev pub setting_word : Setting → List ℕ
setting_word settings.Version = codes "RELATION"
setting_word settings.Depth = codes "DEPTH"
setting_word settings.Conflicts = codes "CONFLICTS"

abbrev pub condition_word : Condition → List ℕ
condition_word conditions.Environment = codes "ENV"
condition_word conditions.Relate = codes "RELATE"
condition_word conditions.Invariant = codes "INVARIANT"

abbrev pub side_word : Side → List ℕ
side_word sides.Old = codes "OLD"
side_word sides.New = codes "NEW"

abbrev pub faults_word : Bool → List ℕ
faults_word equal = if equal then codes "EQUAL" else codes "FREE"

-- the first word of a line
abbrev pub word_of : ContentData → List ℕ
word_of (setting s value at) = setting_word s
word_of (faults equal at) = codes "FAULTS"
word_of (paired a at b) = codes "INPUT"
word_of (single s at a) = codes "INPUT"
word_of (clause c e) = condition_word c

-- what stands between the first word and the semicolon
abbrev pub print_content : ContentData → List Symbol
print_content (setting s value at) = number value at ∷ []
print_content (faults equal at) = name (faults_word equal) at ∷ []
print_content (paired a at b) = name_symbol a ∷ operator Equal at ∷ name_symbol b ∷ []
print_content (single s at a) = name (side_word s) at ∷ name_symbol a ∷ []
print_content (clause c e) = print e

abbrev pub print_line : LineData → List Symbol
print_line l = name (word_of l.content) l.at ∷ (print_content l.content ++ mark Semicolon ∷ [])

abbrev pub print_lines : List LineData → List Symbol
print_lines [] = []
print_lines (l ∷ ls) = print_line l ++ print_lines ls
