-- Lines that are written one after another.
use Rattle.std.proofs.Common.{◌≡◌, ℕ, ◌+◌, List, [], ◌∷◌, ◌++◌, length, sym, ap, ◌∙◌, append_assoc, append-nil, length-append}
use Rattle.std.specs.Prelude.{codes}
use Rattle.finding_lines.specs.declared.line.Line.{Line}
use Rattle.finding_lines.specs.Form.{IsLine}
use Rattle.finding_lines.specs.Spelling.{spelled, written}
use Rattle.finding_lines.proofs.LineLemmas.{one_spelling}
use Rattle.finding_lines.proofs.FeedLemmas.{spelled-lacks_feed}
use Rattle.finding_file.specs.Ahead.{ended, ahead}
use Rattle.finding_file.specs.Writing.{all_written}
use Rattle.finding_file.proofs.AheadLemmas.{ahead-ended}

-- each line has a byte or more
pub length-written : (line : Line) → length (written line) ≡ length (spelled line) + 1
length-written line = length-append (spelled line) (codes "\n")

pub all_written-append : (lines : List Line) (line : Line) → all_written (lines ++ line ∷ []) ≡ all_written lines ++ written line
all_written-append [] line = append-nil (written line)
all_written-append (l ∷ ls) line = ap (λ bytes. written l ++ bytes) (all_written-append ls line) ∙ sym (append_assoc (written l) (all_written ls) (written line))

-- where a written line stands ahead, it is the next line
pub ahead-written : (line : Line) (more : List ℕ) → IsLine line → ahead (written line ++ more) ≡ ended (spelled line) more
ahead-written line more form = ap ahead (append_assoc (spelled line) (10 ∷ []) more) ∙ ahead-ended (spelled line) more (spelled-lacks_feed line form)

-- two lines with which bytes go on are one
pub first_line : (l m : Line) (x y : List ℕ) → IsLine l → IsLine m → written l ++ x ≡ written m ++ y → (l ≡ m) × (x ≡ y)
first_line l m x y f g e =
    let same : ended (spelled l) x ≡ ended (spelled m) y = sym (ahead-written l x f) ∙ ap ahead e ∙ ahead-written m y g in
    let text : spelled l ≡ spelled m = cc in
    let rest : x ≡ y = cc in
    (one_spelling l m f g text, rest)
