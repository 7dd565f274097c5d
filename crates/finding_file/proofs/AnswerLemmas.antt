-- What the reader answers, from what it holds and what it met.
use Rattle.std.proofs.Common.{◌≡◌, ℕ, ◌+◌, ◌<◌, ◌≤◌, List, [], ◌∷◌, ◌++◌, length, take, drop, Some, None, Ok, Err, refl, ap, sym, ◌∙◌, arith, append_assoc, length-append}
use Rattle.std.proofs.lemmas.List.{drop-drop, drop_at, nil_from_length, length-take-le}
use Rattle.finding_lines.specs.declared.line.Line.{Line}
use Rattle.finding_lines.specs.Spelling.{spelled, written}
use Rattle.finding_lines.specs.Form.{IsLine}
use Rattle.finding_file.specs.declared.errors.ReadErr.TheVariants.{M8, Spelling, Unended}
use Rattle.finding_file.specs.Ahead.{nothing, ended, unended, ahead, size}
use Rattle.finding_file.specs.Reading.{Reading, rest_of, Agrees, IsSamePlace}
use Rattle.finding_lines.specs.Reading.{LacksFeed}
use Rattle.finding_file.specs.Searching.{IsFirstFeed}
use Rattle.finding_file.specs.Answering.{EndsWithin, IsNoSpelling, IsAnswer}
use Rattle.finding_file.specs.Places.{IsSkipped}
use Rattle.finding_file.proofs.AheadLemmas.{ahead-ended, ahead-some, size-beyond, feed-split}

-- the same place has the same bytes before it
pub rest-same : (old mid : Reading) (bytes : List ℕ) → IsSamePlace old mid → rest_of old bytes ≡ rest_of mid bytes
rest-same old mid bytes same = ap (λ n. drop n bytes) (sym same.at)

pub answer-past : (old mid : Reading) (bytes : List ℕ) → IsSamePlace old mid → Agrees mid bytes → LacksFeed mid.held → mid.at + length mid.held ≡ mid.limit → length mid.held < length (rest_of mid bytes) → IsAnswer old (ahead (rest_of old bytes)) (Err M8)
answer-past old mid bytes same agrees lacks full more =
    let rest : rest_of old bytes ≡ mid.held ++ agrees.0 = rest-same old mid bytes same ∙ agrees.1 in
    let lengths = ap length agrees.1 in
    let parts = length-append mid.held agrees.0 in
    let some : 0 < length agrees.0 = omega (arith, lengths, parts) in
    let beyond = size-beyond mid.held agrees.0 lacks some in
    let sized = ap (λ r. size (ahead r)) rest in
    let at = same.at in
    let limit = same.limit in
    omega (arith, beyond, sized, at, limit)

pub answer-end : (old mid : Reading) (bytes : List ℕ) → IsSamePlace old mid → rest_of mid bytes ≡ mid.held → mid.at + length mid.held ≤ mid.limit → length mid.held ≡ 0 → IsAnswer old (ahead (rest_of old bytes)) (Ok None)
answer-end old mid bytes same all within none =
    let rest : rest_of old bytes ≡ [] = rest-same old mid bytes same ∙ all ∙ nil_from_length mid.held none in
    let is : ahead (rest_of old bytes) ≡ nothing = ap ahead rest in
    let sized = ap size is in
    let at = same.at in
    let limit = same.limit in
    (omega (arith, sized, at, limit), is)

pub answer-unended : (old mid : Reading) (bytes : List ℕ) → IsSamePlace old mid → rest_of mid bytes ≡ mid.held → mid.at + length mid.held ≤ mid.limit → LacksFeed mid.held → 0 < length mid.held → IsAnswer old (ahead (rest_of old bytes)) (Err (Unended mid.number))
answer-unended old mid bytes same all within lacks some =
    let is : ahead (rest_of old bytes) ≡ unended mid.held = ap ahead (rest-same old mid bytes same ∙ all) ∙ ahead-some mid.held lacks some in
    let sized = ap size is in
    let at = same.at in
    let limit = same.limit in
    (omega (arith, sized, at, limit), same.number, (mid.held, is))

-- what stands ahead where a line is held
held-line : (old mid : Reading) (bytes : List ℕ) (place : ℕ) → IsSamePlace old mid → (agrees : Agrees mid bytes) → IsFirstFeed mid.held place → ahead (rest_of old bytes) ≡ ended (take place mid.held) (drop (place + 1) mid.held ++ agrees.0)
held-line old mid bytes place same agrees first =
    let rest : rest_of old bytes ≡ take place mid.held ++ 10 ∷ (drop (place + 1) mid.held ++ agrees.0) =
    rest-same old mid bytes same ∙ agrees.1 ∙ ap (λ h. h ++ agrees.0) (feed-split mid.held place first) ∙ append_assoc (take place mid.held) (10 ∷ drop (place + 1) mid.held) agrees.0 in
    ap ahead rest ∙ ahead-ended (take place mid.held) (drop (place + 1) mid.held ++ agrees.0) first.before

held-within : (old mid : Reading) (bytes : List ℕ) (place : ℕ) → IsSamePlace old mid → (agrees : Agrees mid bytes) → IsFirstFeed mid.held place → mid.at + length mid.held ≤ mid.limit → EndsWithin old (ahead (rest_of old bytes))
held-within old mid bytes place same agrees first within =
    let sized = ap size (held-line old mid bytes place same agrees first) in
    let inside = first.inside in
    let few : place ≤ length mid.held = omega (arith, inside) in
    let text = length-take-le place mid.held few in
    let at = same.at in
    let limit = same.limit in
    omega (arith, sized, text, inside, at, limit)

pub answer-misspelled : (old mid : Reading) (bytes : List ℕ) (place : ℕ) → IsSamePlace old mid → Agrees mid bytes → IsFirstFeed mid.held place → mid.at + length mid.held ≤ mid.limit → IsNoSpelling (take place mid.held) → IsAnswer old (ahead (rest_of old bytes)) (Err (Spelling mid.number))
answer-misspelled old mid bytes place same agrees first within none =
    (held-within old mid bytes place same agrees first within, same.number, (take place mid.held, drop (place + 1) mid.held ++ agrees.0, held-line old mid bytes place same agrees first, none))

pub answer-line : (old mid : Reading) (bytes : List ℕ) (place : ℕ) (line : Line) → IsSamePlace old mid → Agrees mid bytes → IsFirstFeed mid.held place → mid.at + length mid.held ≤ mid.limit → IsLine line → take place mid.held ≡ spelled line → IsAnswer old (ahead (rest_of old bytes)) (Ok (Some line))
answer-line old mid bytes place line same agrees first within good e =
    (held-within old mid bytes place same agrees first within, good, (drop (place + 1) mid.held ++ agrees.0, held-line old mid bytes place same agrees first ∙ ap (λ t. ended t (drop (place + 1) mid.held ++ agrees.0)) e))

-- behind the line stands what followed it
past-rest : (mid new : Reading) (bytes : List ℕ) (line : Line) → (agrees : Agrees mid bytes) → IsSkipped mid new line → rest_of new bytes ≡ new.held ++ agrees.0
past-rest mid new bytes line agrees skipped =
    let whole : rest_of mid bytes ≡ written line ++ (new.held ++ agrees.0) =
    agrees.1 ∙ ap (λ h. h ++ agrees.0) skipped.held ∙ append_assoc (written line) new.held agrees.0 in
    ap (λ n. drop n bytes) skipped.past.at ∙ sym (drop-drop (length (written line)) mid.at bytes) ∙ ap (drop (length (written line))) whole ∙ drop_at (written line) (new.held ++ agrees.0) (length (written line)) refl

pub agrees-past : (mid new : Reading) (bytes : List ℕ) (line : Line) → Agrees mid bytes → IsSkipped mid new line → Agrees new bytes
agrees-past mid new bytes line agrees skipped = (agrees.0, past-rest mid new bytes line agrees skipped)

pub rest-past : (old mid new : Reading) (bytes : List ℕ) (line : Line) → IsSamePlace old mid → Agrees mid bytes → IsSkipped mid new line → rest_of old bytes ≡ written line ++ rest_of new bytes
rest-past old mid new bytes line same agrees skipped =
    rest-same old mid bytes same ∙ agrees.1 ∙ ap (λ h. h ++ agrees.0) skipped.held ∙ append_assoc (written line) new.held agrees.0 ∙ ap (λ r. written line ++ r) (sym (past-rest mid new bytes line agrees skipped))
