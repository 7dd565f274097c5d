-- Lines that are read once more, and what is noted of them.
use Rattle.std.proofs.Common.{◌≡◌, ℕ, ◌+◌, ◌<◌, ◌≤◌, List, [], ◌∷◌, ◌++◌, length, drop, refl, sym, ap, ◌∙◌, subst, arith, append-nil, length-append}
use Rattle.std.specs.Prelude.{Option, Some, None, Result, Ok, Err, IfSome, IfOk}
use Rattle.std.specs.Option.{option_or}
use Rattle.finding_lines.specs.declared.line.Line.{Line}
use Rattle.finding_lines.specs.Form.{IsLine}
use Rattle.finding_lines.specs.Spelling.{spelled, written}
use Rattle.finding_file.specs.Ahead.{nothing, ended, unended, ahead, size}
use Rattle.finding_file.specs.Answering.{IsAnswer, IsNoSpelling}
use Rattle.finding_file.specs.Reading.{Reading, rest_of}
use Rattle.finding_file.specs.Writing.{all_written}
use Rattle.finding_file.specs.declared.errors.ReadErr.{ReadErr}
use Rattle.finding_file.specs.declared.errors.ReadErr.TheVariants.{Fault, Memory, M8, Spelling, Unended}
use Rattle.finding_file.proofs.WritingLemmas.{length-written, ahead-written, first_line}
use Rattle.queries.specs.Settings.{Setting}
use Rattle.queries.specs.Sets.{members}
use Rattle.finding_report.specs.declared.notes.Notes.{Notes}
use Rattle.finding_report.specs.Noted.{left_behind, kept_set, pair_numbers, scan_rows}
use Rattle.finding_explain.specs.Notable.{HasScan, AreNotable, IsFileOf, IsNoted, IsCollected, IsNotedTo}

or_none : {A : Type 0} (o : Option A) → option_or o None ≡ o
or_none None = refl
or_none (Some x) = refl

-- what a line changes in the notes
pub record NotesLine (s : Setting) (line : Line) (old new : Notes) : Type 0 where
  pub set : HasScan s line → (rest : List Line) → left_behind s (members new.set) rest ≡ left_behind s (members old.set) (line ∷ rest)
  pub pair : (rest : List Line) → option_or new.pair (pair_numbers rest) ≡ option_or old.pair (pair_numbers (line ∷ rest))
  pub scans : (rest : List Line) → new.scans.items ++ scan_rows rest ≡ old.scans.items ++ scan_rows (line ∷ rest)

module _ (s : Setting) (limit : ℕ) (file : List ℕ) (ls : List Line) where
  -- before the first line
  pub noted_none : (reader : Reading) (notes : Notes) → IsFileOf s limit file ls → reader.at ≡ 0 → left_behind s (members notes.set) ls ≡ kept_set s ls → notes.pair ≡ None → notes.scans.items ≡ []
      → IsNotedTo s limit file ls reader 0 notes
  noted_none reader notes f at set pair scans = record {
    rest = ls;
    ahead = ap (λ n. drop n file) at ∙ f.whole;
    within = (let within = f.within in omega (arith, within, at));
    notable = f.notable;
    many = omega arith;
    set = set;
    pair = ap (λ o. option_or o (pair_numbers ls)) pair;
    scans = ap (λ rows. rows ++ scan_rows ls) scans;
  }

  -- behind one more line
  noted_line : (old new : Reading) (before : ℕ) (line : Line) (notes next : Notes) (rest : List Line) → rest_of old file ≡ all_written rest
      → old.at + length (all_written rest) ≤ limit → AreNotable s rest → before ≤ old.at → left_behind s (members notes.set) rest ≡ kept_set s ls
      → option_or notes.pair (pair_numbers rest) ≡ pair_numbers ls → notes.scans.items ++ scan_rows rest ≡ scan_rows ls → IsLine line
      → rest_of old file ≡ written line ++ rest_of new file → new.at ≡ old.at + length (written line) → NotesLine s line notes next
      → IsNotedTo s limit file ls new (before + 1) next
  noted_line old new before line notes next [] stands within notable many set pair scans form is at noted =
      absurd (let long : length (written line ++ rest_of new file) ≡ 0 = ap length (sym is ∙ stands) in
      omega (arith, long, length-written line, length-append (written line) (rest_of new file)))
  noted_line old new before line notes next (l ∷ rest) stands within notable many set pair scans form is at noted =
      let both = first_line l line (all_written rest) (rest_of new file) notable.0 form (sym stands ∙ is) in
      let long : length (written l) ≡ length (written line) = ap (λ x. length (written x)) both.0 in
      record {
        rest = rest;
        ahead = sym both.1;
        within = omega (arith, within, at, long, length-append (written l) (all_written rest));
        notable = notable.2;
        many = omega (arith, many, at, length-written line);
        set = noted.set (subst (HasScan s) both.0 notable.1) rest ∙ ap (λ x. left_behind s (members notes.set) (x ∷ rest)) (sym both.0) ∙ set;
        pair = noted.pair rest ∙ ap (λ x. option_or notes.pair (pair_numbers (x ∷ rest))) (sym both.0) ∙ pair;
        scans = noted.scans rest ∙ ap (λ x. notes.scans.items ++ scan_rows (x ∷ rest)) (sym both.0) ∙ scans;
      }

  noted_on : (old new : Reading) (before : ℕ) (line : Line) (notes next : Notes) → IsNotedTo s limit file ls old before notes
      → IsAnswer old (ahead (rest_of old file)) (Ok (Some line)) → rest_of old file ≡ written line ++ rest_of new file → new.at ≡ old.at + length (written line)
      → NotesLine s line notes next → IsNotedTo s limit file ls new (before + 1) next
  noted_on old new before line notes next r answer is at noted =
      noted_line old new before line notes next r.rest r.ahead r.within r.notable r.many r.set r.pair r.scans answer.1 is at noted

  -- behind the last line
  ended_with : (notes : Notes) (rest : List Line) → AreNotable s rest → ahead (all_written rest) ≡ nothing → left_behind s (members notes.set) rest ≡ kept_set s ls
      → option_or notes.pair (pair_numbers rest) ≡ pair_numbers ls → notes.scans.items ++ scan_rows rest ≡ scan_rows ls → IsNoted s ls notes
  ended_with notes [] notable e set pair scans = record {
    set = set;
    pair = sym (or_none notes.pair) ∙ pair;
    scans = sym (append-nil notes.scans.items) ∙ scans;
  }
  ended_with notes (l ∷ rest) notable e set pair scans = absurd (let wrong : ended (spelled l) (all_written rest) ≡ nothing = sym (ahead-written l (all_written rest) notable.0) ∙ e in cc)

  noted_end : (reader : Reading) (before : ℕ) (notes : Notes) → IsNotedTo s limit file ls reader before notes → IsAnswer reader (ahead (rest_of reader file)) (Ok None) → IsNoted s ls notes
  noted_end reader before notes r answer = ended_with notes r.rest r.notable (ap ahead (sym r.ahead) ∙ answer.1) r.set r.pair r.scans

  -- no line is too long, broken or cut off
  short : (reader : Reading) (rest : List Line) → AreNotable s rest → reader.at + length (all_written rest) ≤ limit → limit < reader.at + size (ahead (all_written rest)) → ⊥
  short reader [] notable within long = omega (arith, within, long)
  short reader (l ∷ rest) notable within long =
      let there : limit < reader.at + size (ended (spelled l) (all_written rest)) = subst (λ a. limit < reader.at + size a) (ahead-written l (all_written rest) notable.0) long in
      omega (arith, within, there, length-written l, length-append (written l) (all_written rest))

  spelled_well : (rest : List Line) (text more : List ℕ) → AreNotable s rest → ahead (all_written rest) ≡ ended text more → IsNoSpelling text → ⊥
  spelled_well [] text more notable e lacks = cc
  spelled_well (l ∷ rest) text more notable e lacks =
      let same : ended (spelled l) (all_written rest) ≡ ended text more = sym (ahead-written l (all_written rest) notable.0) ∙ e in
      lacks l notable.0 (cc)

  ended_well : (rest : List Line) (text : List ℕ) → AreNotable s rest → ahead (all_written rest) ≡ unended text → ⊥
  ended_well [] text notable e = cc
  ended_well (l ∷ rest) text notable e = let wrong : ended (spelled l) (all_written rest) ≡ unended text = sym (ahead-written l (all_written rest) notable.0) ∙ e in cc

  noted_stopped : (reader : Reading) (before : ℕ) (notes : Notes) (error : ReadErr) → IsNotedTo s limit file ls reader before notes → reader.limit ≡ limit
      → IsAnswer reader (ahead (rest_of reader file)) (Err error) → IsCollected s ls (Err error)
  noted_stopped reader before notes Fault r same answer = tt
  noted_stopped reader before notes Memory r same answer = tt
  noted_stopped reader before notes M8 r same answer =
      short reader r.rest r.notable r.within
      (subst (λ n. n < reader.at + size (ahead (all_written r.rest))) same (subst (λ bytes. reader.limit < reader.at + size (ahead bytes)) r.ahead answer))
  noted_stopped reader before notes (Spelling n) r same answer =
      spelled_well r.rest answer.2.0 answer.2.1 r.notable (ap ahead (sym r.ahead) ∙ answer.2.2) answer.2.3
  noted_stopped reader before notes (Unended n) r same answer = ended_well r.rest answer.2.0 r.notable (ap ahead (sym r.ahead) ∙ answer.2.1)

  -- no more lines stand in a file than bytes within the limit
  noted_never : (reader : Reading) (before : ℕ) (notes : Notes) → IsNotedTo s limit file ls reader before notes → limit < before → ⊥
  noted_never reader before notes r more = omega (arith, r.within, r.many, more)

IfSome-both : {A : Type 0} {P Q R : A → Type 0} → (o : Option A) → ((x : A) → P x → Q x → R x) → IfSome o P → IfSome o Q → IfSome o R
IfSome-both None h p q = tt
IfSome-both (Some x) h p q = h x p q

-- what is told of a file, where it is told
module _ (s : Setting) (limit : ℕ) (told : Option (List ℕ)) (reader : Reading) (before : ℕ) (notes : Notes) (result : Result (Option Line) ReadErr) where
  abbrev pub NotedTo : Type 0
  NotedTo = IfSome told (λ file. (ls : List Line) → IsFileOf s limit file ls → IsNotedTo s limit file ls reader before notes)

  abbrev pub Answered : Type 0
  Answered = IfSome told (λ file. IsAnswer reader (ahead (rest_of reader file)) result)

  abbrev pub Collected : Result Notes ReadErr → Type 0
  Collected answer = IfSome told (λ file. (ls : List Line) → IsFileOf s limit file ls → IsCollected s ls answer)

  pub told_end : NotedTo → Answered → result ≡ Ok None → Collected (Ok notes)
  told_end r a e =
      IfSome-both told (λ file noted answer ls f. noted_end s limit file ls reader before notes (noted ls f) (subst (λ x. IsAnswer reader (ahead (rest_of reader file)) x) e answer)) r a

  pub told_stopped : (error : ReadErr) → NotedTo → reader.limit ≡ limit → Answered → result ≡ Err error → Collected (Err error)
  told_stopped error r same a e =
      IfSome-both told
      (λ file noted answer ls f. noted_stopped s limit file ls reader before notes error (noted ls f) same (subst (λ x. IsAnswer reader (ahead (rest_of reader file)) x) e answer)) r a

  pub told_never : NotedTo → limit < before → Collected (Err M8)
  told_never r many = IfSome-both told (λ file noted same ls f. noted_never s limit file ls reader before notes (noted ls f) many) r r

  pub told_on : (new : Reading) (line : Line) (next : Notes) → NotedTo → Answered → result ≡ Ok (Some line)
      → IfSome told (λ file. IfOk result (λ answer. IfSome answer (λ more. rest_of reader file ≡ written more ++ rest_of new file)))
      → new.at ≡ reader.at + length (written line) → NotesLine s line notes next
      → IfSome told (λ file. (ls : List Line) → IsFileOf s limit file ls → IsNotedTo s limit file ls new (before + 1) next)
  told_on new line next r a e rest at noted = every told r a rest where
    one : (file : List ℕ) → ((ls : List Line) → IsFileOf s limit file ls → IsNotedTo s limit file ls reader before notes) → IsAnswer reader (ahead (rest_of reader file)) result
        → IfOk result (λ answer. IfSome answer (λ more. rest_of reader file ≡ written more ++ rest_of new file))
        → (ls : List Line) → IsFileOf s limit file ls → IsNotedTo s limit file ls new (before + 1) next
    one file read found more ls f =
        noted_on s limit file ls reader new before line notes next (read ls f) (subst (λ x. IsAnswer reader (ahead (rest_of reader file)) x) e found)
        (subst (λ x. IfOk x (λ y. IfSome y (λ m. rest_of reader file ≡ written m ++ rest_of new file))) e more) at noted

    every : (o : Option (List ℕ)) → IfSome o (λ file. (ls : List Line) → IsFileOf s limit file ls → IsNotedTo s limit file ls reader before notes)
        → IfSome o (λ file. IsAnswer reader (ahead (rest_of reader file)) result)
        → IfSome o (λ file. IfOk result (λ answer. IfSome answer (λ more. rest_of reader file ≡ written more ++ rest_of new file)))
        → IfSome o (λ file. (ls : List Line) → IsFileOf s limit file ls → IsNotedTo s limit file ls new (before + 1) next)
    every None read found more = tt
    every (Some file) read found more = one file read found more
