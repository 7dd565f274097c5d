-- What the parts of a reader leave, joined.
use Rattle.std.proofs.Common.{◌≡◌, ℕ, ◌+◌, ◌<◌, List, [], ◌∷◌, ◌++◌, length, take, drop, Option, Some, None, ap, sym, ◌∙◌, arith, append_assoc, length-append}
use Rattle.std.specs.Prelude.{IfSome}
use Rattle.std.proofs.lemmas.List.{length-take-le}
use Rattle.finding_lines.specs.declared.line.Version.TheVariants.{One, Two}
use Rattle.finding_lines.specs.declared.line.Line.{Line}
use Rattle.finding_lines.specs.declared.line.Line.TheVariants.{Header, Seen, Walk, Dropping, Pair, Scan, Log, Query, Derived, Deleted, End}
use Rattle.finding_lines.specs.Spelling.{spelled, written}
use Rattle.finding_file.specs.Reading.{Reading, IsSamePlace, IsPast}
use Rattle.finding_file.specs.Searching.{IsFirstFeed}
use Rattle.finding_file.specs.Places.{IsSkipped}
use Rattle.finding_file.proofs.AheadLemmas.{feed-split}

-- facts on the bytes that are told, if they are
pub told-one : (o : Option (List ℕ)) (P R : List ℕ → Type 0) → IfSome o P → ((b : List ℕ) → P b → R b) → IfSome o R
told-one None P R p f = tt
told-one (Some b) P R p f = f b p

pub told-both : (o : Option (List ℕ)) (P Q R : List ℕ → Type 0) → IfSome o P → IfSome o Q → ((b : List ℕ) → P b → Q b → R b) → IfSome o R
told-both None P Q R p q f = tt
told-both (Some b) P Q R p q f = f b p q

-- a line has a byte or more
pub spelled-some : (l : Line) → 0 < length (spelled l)
spelled-some (Header One) = omega arith
spelled-some (Header Two) = omega arith
spelled-some (Seen ns) = omega arith
spelled-some (Walk ns) = omega arith
spelled-some (Dropping ns) = omega arith
spelled-some (Pair ns) = omega arith
spelled-some (Scan ns) = omega arith
spelled-some (Log q) = omega arith
spelled-some (Query q) = omega arith
spelled-some (Derived ls hs) = omega arith
spelled-some (Deleted ids) = omega arith
spelled-some (End v) = omega arith

-- how many bytes a line has that was held
pub line-length : (held : List ℕ) (place : ℕ) (line : Line) → IsFirstFeed held place → take place held ≡ spelled line → length (written line) ≡ place + 1
line-length held place line first e =
    let inside = first.inside in
    let text = length-take-le place held (omega (arith, inside)) in
    let spelling = ap length e in
    let all = length-append (spelled line) (10 ∷ []) in
    omega (arith, text, spelling, all)

pub line-some : (held : List ℕ) (place : ℕ) (line : Line) → IsFirstFeed held place → take place held ≡ spelled line → 0 < place
line-some held place line first e =
    let inside = first.inside in
    let text = length-take-le place held (omega (arith, inside)) in
    let spelling = ap length e in
    let some = spelled-some line in
    omega (arith, text, spelling, some)

pub skipped-from : (old new : Reading) (line : Line) (place : ℕ) → IsFirstFeed old.held place → take place old.held ≡ spelled line → new.name ≡ old.name → new.limit ≡ old.limit → new.at ≡ old.at + (place + 1) → new.number ≡ old.number + 1 → new.held ≡ drop (place + 1) old.held → IsSkipped old new line
skipped-from old new line place first e name limit at number held =
    let count = line-length old.held place line first e in
    record {
      past = record { name = name; limit = limit; at = omega (arith, at, count); number = number };
      held = feed-split old.held place first ∙ ap (λ t. t ++ 10 ∷ drop (place + 1) old.held) e ∙ sym (append_assoc (spelled line) (10 ∷ []) (drop (place + 1) old.held)) ∙ ap (λ h. written line ++ h) (sym held);
    }

pub past-from : (old mid new : Reading) (line : Line) → IsSamePlace old mid → IsSkipped mid new line → IsPast old new line
past-from old mid new line same skipped =
    let at = same.at in
    let number = same.number in
    let past = skipped.past in
    record {
      name = past.name ∙ same.name;
      limit = past.limit ∙ same.limit;
      at = past.at ∙ ap (λ n. n + length (written line)) at;
      number = past.number ∙ ap (λ n. n + 1) number;
    }
