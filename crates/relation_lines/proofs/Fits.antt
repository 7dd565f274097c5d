-- Lines whose clauses nest within a depth.
use Rattle.std.proofs.Common.{◌≡◌, ℕ, ◌-◌, List, [], ◌∷◌, ◌++◌, ap, subst, arith, append_assoc}
use Rattle.source_tree.specs.declared.token.Mark.TheVariants.{Semicolon}
use Rattle.source_tree.specs.Syntax.{Symbol, name, mark}
use Rattle.grammar.specs.Fits.{Fits}
use Rattle.grammar.specs.Nesting.{nothing_open, NestsWithin}
use Rattle.grammar_laws.proofs.Nests.{nests-behind}
use Rattle.grammar_laws.proofs.Nested.{nested, fits_levelled}
use Rattle.relation_lines.specs.Lines.{ContentData, setting, faults, paired, single, clause, LineData}
use Rattle.relation_lines.specs.Prints.{word_of, print_content, print_line, print_lines}
use Rattle.relation_lines.specs.Levels.{IsContentLevelled, AreLinesLevelled}

abbrev pub ContentFits : ContentData → ℕ → Type 0
ContentFits (setting s value at) d = Unit {0}
ContentFits (faults equal at) d = Unit {0}
ContentFits (paired a at b) d = Unit {0}
ContentFits (single s at a) d = Unit {0}
ContentFits (clause c e) d = Fits e d

abbrev pub LinesFit : List LineData → ℕ → Type 0
LinesFit [] d = Unit {0}
LinesFit (l ∷ ls) d = ContentFits l.content d × LinesFit ls d

-- how a line's symbols stand before others
pub line_shape : (l : LineData) (rest : List Symbol) → print_line l ++ rest ≡ name (word_of l.content) l.at ∷ (print_content l.content ++ mark Semicolon ∷ rest)
line_shape l rest = ap (λ (x : List Symbol). name (word_of l.content) l.at ∷ x) (append_assoc (print_content l.content) (mark Semicolon ∷ []) rest)

-- ---- levelled lines fit what their symbols nest within

content_fits : (limit : ℕ) (c : ContentData) (rest : List Symbol) → IsContentLevelled c → NestsWithin limit nothing_open (print_content c ++ rest) → ContentFits c limit
content_fits limit (setting s value at) rest levelled h = tt
content_fits limit (faults equal at) rest levelled h = tt
content_fits limit (paired a at b) rest levelled h = tt
content_fits limit (single s at a) rest levelled h = tt
content_fits limit (clause c e) rest levelled h =
    let all : limit - 0 ≡ limit = omega arith in
    subst (Fits e) all (nested limit e nothing_open rest levelled h).0

pub lines_fit : (limit : ℕ) (ls : List LineData) → AreLinesLevelled ls → NestsWithin limit nothing_open (print_lines ls) → LinesFit ls limit
lines_fit limit [] levelled h = tt
lines_fit limit (l ∷ ls) levelled h =
    let behind : List Symbol = mark Semicolon ∷ print_lines ls in
    let first : List Symbol = name (word_of l.content) l.at ∷ [] in
    let inner = nests-behind limit first (print_content l.content ++ behind) nothing_open (subst (NestsWithin limit nothing_open) (line_shape l (print_lines ls)) h) in
    let last = nests-behind limit (mark Semicolon ∷ []) (print_lines ls) nothing_open (nests-behind limit (print_content l.content) behind nothing_open inner) in
    (content_fits limit l.content behind levelled.0 inner, lines_fit limit ls levelled.1 last)

-- ---- fitting lines are levelled

content_levelled : (c : ContentData) (d : ℕ) → ContentFits c d → IsContentLevelled c
content_levelled (setting s value at) d fits = tt
content_levelled (faults equal at) d fits = tt
content_levelled (paired a at b) d fits = tt
content_levelled (single s at a) d fits = tt
content_levelled (clause c e) d fits = fits_levelled e d fits

pub lines_levelled : (ls : List LineData) (d : ℕ) → LinesFit ls d → AreLinesLevelled ls
lines_levelled [] d fits = tt
lines_levelled (l ∷ ls) d fits = (content_levelled l.content d fits.0, lines_levelled ls d fits.1)
