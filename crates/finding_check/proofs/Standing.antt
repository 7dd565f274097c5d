-- Lines that were read, and what is said where one fails or none follows.
use Rattle.std.proofs.Common.{◌≡◌, ◌≢◌, ℕ, ◌+◌, ◌<◌, ◌≤◌, List, [], ◌∷◌, ◌++◌, length, drop, refl, sym, ap, ◌∙◌, subst, arith, inl, inr, append_assoc, length-append, true, false, Bool}
use Rattle.std.specs.Prelude.{Option, Some, None, Result, Ok, Err, IfSome, IfOk, OnOk, if◌then◌else◌, ◌==◌, min, ◌^◌, ◌-◌}
use Rattle.clause_core.specs.Formula.{Formula}
use Rattle.outside.specs.Causes.{Rose}
use Rattle.finding_lines.specs.declared.line.Line.{Line}
use Rattle.finding_lines.specs.Form.{IsLine}
use Rattle.finding_lines.specs.Spelling.{spelled, written}
use Rattle.finding_file.specs.Ahead.{Ahead, nothing, ended, unended, ahead, with_byte, size}
use Rattle.finding_file.specs.Answering.{IsAnswer}
use Rattle.finding_file.specs.Reading.{Reading, rest_of}
use Rattle.finding_file.specs.Writing.{all_written}
use Rattle.finding_file.specs.declared.errors.ReadErr.{ReadErr}
use Rattle.finding_file.specs.declared.errors.ReadErr.TheVariants as read
use Rattle.queries.specs.Comparisons.{Comparison}
use Rattle.finding_file.proofs.WritingLemmas.{all_written-append, length-written}
use Rattle.queries.specs.Settings.{Setting}
use Rattle.queries.specs.Questions.{QueryData}
use Rattle.judgement.specs.Places.{Place, at_top, finished, goes, fails}
use Rattle.judgement.specs.Tests.{Moves}
use Rattle.judgement.specs.Findings.{nowhere, on, Stands, Fails, FailsAhead, IsTooLong, IsJudged}
use Rattle.judgement.specs.Shown.{ShowsVerdict}
use Rattle.judgement.specs.Known.{Known}
use Rattle.judgement.specs.declared.answers.Reason.{Reason}
use Rattle.judgement.specs.declared.answers.Reason.TheVariants.{B1, B12, B13}
use Rattle.judgement.specs.declared.answers.Judged.TheVariants.{Bad}
use Rattle.judgement.specs.declared.answers.JudgeErr.TheVariants as faults
use Rattle.finding_check.specs.Endings.{reason_at, end_of_file, stopped}
use Rattle.finding_check.specs.Readings.{IsReadTo}

pub IfSome-both : {A : Type 0} {P Q R : A → Type 0} → (o : Option A) → ((x : A) → P x → Q x → R x) → IfSome o P → IfSome o Q → IfSome o R
IfSome-both None h p q = tt
IfSome-both (Some x) h p q = h x p q

few_lines : (lines : List Line) → length lines ≤ length (all_written lines)
few_lines [] = omega arith
few_lines (l ∷ ls) = let more = few_lines ls in omega (arith, more, length-written l, length-append (written l) (all_written ls))

nothing-ahead : (bytes : List ℕ) → ahead bytes ≡ nothing → bytes ≡ []
nothing-ahead [] e = refl
nothing-ahead (b ∷ bs) e = absurd (cases (b == 10) (ahead bs) e) where
  cases : (feed : Bool) (rest : Ahead) → (if feed then ended [] bs else with_byte b rest) ≡ nothing → ⊥
  cases true rest h = cc
  cases false nothing h = cc
  cases false (ended text more) h = cc
  cases false (unended text) h = cc

some-ahead : (bytes text : List ℕ) (rest : List ℕ) → ahead bytes ≡ ended text rest → bytes ≢ []
some-ahead [] text rest e none = cc
some-ahead (b ∷ bs) text rest e none = cc

some-unended : (bytes text : List ℕ) → ahead bytes ≡ unended text → bytes ≢ []
some-unended [] text e none = cc
some-unended (b ∷ bs) text e none = cc

module _ (s : Setting) (formula : QueryData → Formula) (limit : ℕ) (file : List ℕ) where
  -- behind a line that passes
  pub read_on : (old new : Reading) (before : ℕ) (place after : Place) (line : Line) → IsReadTo s formula limit file old before place → IsLine line
      → Moves s formula place line (goes after) → rest_of old file ≡ written line ++ rest_of new file → old.at + length (written line) ≤ limit
      → new.at ≡ old.at + length (written line) → IsReadTo s formula limit file new (before + 1) after
  read_on old new before place after line r form moves rest within at = record {
    lines = r.lines ++ line ∷ [];
    stands = record {
      leads = on r.lines line place after r.stands.leads form moves;
      whole = r.stands.whole ∙ ap (λ bytes. all_written r.lines ++ bytes) rest ∙ sym (append_assoc (all_written r.lines) (written line) (rest_of new file))
          ∙ ap (λ bytes. bytes ++ rest_of new file) (sym (all_written-append r.lines line));
      within = (let long : length (all_written (r.lines ++ line ∷ [])) ≡ length (all_written r.lines) + length (written line) =
          ap length (all_written-append r.lines line) ∙ length-append (all_written r.lines) (written line) in omega (arith, long, r.at, within));
    };
    at = (let long : length (all_written (r.lines ++ line ∷ [])) ≡ length (all_written r.lines) + length (written line) =
        ap length (all_written-append r.lines line) ∙ length-append (all_written r.lines) (written line) in omega (arith, long, r.at, at));
    counted = omega (arith, r.counted, length-append r.lines (line ∷ []));
  }

  -- a line fails by its tests
  fails_by : (place : Place) (rest more : List ℕ) (line : Line) (reason : Reason) → ahead rest ≡ ended (spelled line) more → IsLine line
      → Moves s formula place line (fails reason) → Fails s formula place rest reason
  fails_by (finished reach verdict) rest more line reason e form moves = (some-ahead rest (spelled line) more e, (let same : fails reason ≡ fails B12 = moves.2 in cc))
  fails_by place rest more line reason e form moves =
      subst (λ a. FailsAhead s formula place a reason) (sym e) (inr (line, form, refl, moves))

  pub judged_fails : (reader : Reading) (before : ℕ) (place : Place) (line : Line) (reason : Reason) → IsReadTo s formula limit file reader before place → reader.limit ≡ limit
      → IsAnswer reader (ahead (rest_of reader file)) (Ok (Some line)) → Moves s formula place line (fails reason)
      → IsJudged s formula limit file (Ok (Bad (before + 1) reason))
  judged_fails reader before place line reason r same answer moves = (
    r.lines,
    place,
    rest_of reader file,
    r.stands,
    ap (λ n. n + 1) r.counted,
    (λ long. let within = answer.0 in absurd (omega (arith, long, within, same, r.at))),
    fails_by place (rest_of reader file) answer.2.0 line reason answer.2.1 answer.1 moves,
  )

  ends_by : (place : Place) (lines : List Line) (before : ℕ) (rest : List ℕ) → Stands s formula limit file lines place rest → before ≡ length lines → rest ≡ []
      → ¬ IsTooLong s formula limit lines rest → IsJudged s formula limit file (Ok (end_of_file place (before + 1)))
  ends_by (finished reach verdict) lines before rest stands counted none short = (lines, subst (Stands s formula limit file lines (finished reach verdict)) none stands)
  ends_by place lines before rest stands counted none short =
      (lines, place, rest, stands, ap (λ n. n + 1) counted, short, subst (λ bytes. Fails s formula place bytes B13) (sym none) refl)

  pub judged_end : (reader : Reading) (before : ℕ) (place : Place) → IsReadTo s formula limit file reader before place → reader.limit ≡ limit
      → IsAnswer reader (ahead (rest_of reader file)) (Ok None) → IsJudged s formula limit file (Ok (end_of_file place (before + 1)))
  judged_end reader before place r same answer =
      ends_by place r.lines before (rest_of reader file) r.stands r.counted (nothing-ahead _ answer.1) (λ long. let within = answer.0 in absurd (omega (arith, long, within, same, r.at)))

  broken_by : (place : Place) (rest : List ℕ) (reason : Reason) → rest ≢ [] → FailsAhead s formula place (ahead rest) reason → Fails s formula place rest (reason_at place reason)
  broken_by (finished reach verdict) rest reason some h = (some, refl)
  broken_by place rest reason some h = h

  pub judged_stopped : (reader : Reading) (before : ℕ) (place : Place) (error : ReadErr) → IsReadTo s formula limit file reader before place → reader.limit ≡ limit
      → IsAnswer reader (ahead (rest_of reader file)) (Err error) → IsJudged s formula limit file (stopped place (before + 1) error)
  judged_stopped reader before place read.Fault r same answer = tt
  judged_stopped reader before place read.Memory r same answer = tt
  judged_stopped reader before place read.M8 r same answer = (r.lines, place, rest_of reader file, r.stands, (omega (arith, answer, same, r.at)))
  judged_stopped reader before place (read.Spelling n) r same answer = (
    r.lines,
    place,
    rest_of reader file,
    r.stands,
    ap (λ k. k + 1) r.counted,
    (λ long. let within = answer.0 in absurd (omega (arith, long, within, same, r.at))),
    broken_by place (rest_of reader file) B1 (some-ahead _ answer.2.0 answer.2.1 answer.2.2)
        (subst (λ a. FailsAhead s formula place a B1) (sym answer.2.2) (inl (answer.2.3, refl))),
  )
  judged_stopped reader before place (read.Unended n) r same answer = (
    r.lines,
    place,
    rest_of reader file,
    r.stands,
    ap (λ k. k + 1) r.counted,
    (λ long. let within = answer.0 in absurd (omega (arith, long, within, same, r.at))),
    broken_by place (rest_of reader file) B13 (some-unended _ answer.2.0 answer.2.1) (subst (λ a. FailsAhead s formula place a B13) (sym answer.2.1) refl),
  )

  -- no more lines stand in a file than bytes within the limit
  pub too_many : (reader : Reading) (before : ℕ) (place : Place) → IsReadTo s formula limit file reader before place → limit < before → ⊥
  too_many reader before place r more = let few = few_lines r.lines in omega (arith, few, r.stands.within, r.counted, more)

module _ (c : Comparison) (formula : QueryData → Formula) where
  pub shows_end : (place : Place) (line : ℕ) → Known c formula place → ShowsVerdict c formula (Ok (end_of_file place line))
  shows_end (finished reach verdict) line k = k
  shows_end place line k = tt

  pub shows_stopped : (place : Place) (line : ℕ) (error : ReadErr) → ShowsVerdict c formula (stopped place line error)
  shows_stopped place line read.Fault = tt
  shows_stopped place line read.Memory = tt
  shows_stopped place line read.M8 = tt
  shows_stopped place line (read.Spelling n) = tt
  shows_stopped place line (read.Unended n) = tt

-- only a fault of the file is answered by a fault
pub stopped-fault : (place : Place) (line : ℕ) (error : ReadErr) → stopped place line error ≡ Err faults.Fault → error ≡ read.Fault
stopped-fault place line read.Fault e = refl
stopped-fault place line read.Memory e = cc
stopped-fault place line read.M8 e = cc
stopped-fault place line (read.Spelling n) e = cc
stopped-fault place line (read.Unended n) e = cc

-- and only a read that failed is answered by an error, or a file that is too long
pub stopped-unfailed : {Unfailed : Type 0} (place : Place) (line : ℕ) (error : ReadErr) → (error ≢ read.Fault → error ≢ read.Memory → Unfailed) → OnOk (stopped place line error) Unfailed
stopped-unfailed place line read.Fault h = tt
stopped-unfailed place line read.Memory h = tt
stopped-unfailed place line read.M8 h = tt
stopped-unfailed place line (read.Spelling n) h = h (λ e. cc) (λ e. cc)
stopped-unfailed place line (read.Unended n) h = h (λ e. cc) (λ e. cc)

-- what is told of a file, where it is told
module _ (s : Setting) (formula : QueryData → Formula) (limit : ℕ) (told : Option (List ℕ)) (reader : Reading) (before : ℕ) (place : Place) (result : Result (Option Line) ReadErr) where
  abbrev pub ReadTo : Type 0
  ReadTo = IfSome told (λ file. IsReadTo s formula limit file reader before place)

  abbrev pub Answered : Type 0
  Answered = IfSome told (λ file. IsAnswer reader (ahead (rest_of reader file)) result)

  pub told_end : ReadTo → reader.limit ≡ limit → Answered → result ≡ Ok None → IfSome told (λ file. IsJudged s formula limit file (Ok (end_of_file place (before + 1))))
  told_end r same a e =
      IfSome-both told (λ file read answer. judged_end s formula limit file reader before place read same (subst (λ x. IsAnswer reader (ahead (rest_of reader file)) x) e answer)) r a

  pub told_stopped : (error : ReadErr) → ReadTo → reader.limit ≡ limit → Answered → result ≡ Err error → IfSome told (λ file. IsJudged s formula limit file (stopped place (before + 1) error))
  told_stopped error r same a e =
      IfSome-both told (λ file read answer. judged_stopped s formula limit file reader before place error read same (subst (λ x. IsAnswer reader (ahead (rest_of reader file)) x) e answer)) r a

  pub told_fails : (line : Line) (reason : Reason) → ReadTo → reader.limit ≡ limit → Answered → result ≡ Ok (Some line) → Moves s formula place line (fails reason)
      → IfSome told (λ file. IsJudged s formula limit file (Ok (Bad (before + 1) reason)))
  told_fails line reason r same a e moves =
      IfSome-both told (λ file read answer. judged_fails s formula limit file reader before place line reason read same (subst (λ x. IsAnswer reader (ahead (rest_of reader file)) x) e answer) moves) r a

  ends_within : (file : List ℕ) (line : Line) → IsAnswer reader (ahead (rest_of reader file)) (Ok (Some line)) → reader.at + length (written line) ≤ reader.limit
  ends_within file line answer =
      let within : reader.at + size (ended (spelled line) answer.2.0) ≤ reader.limit = subst (λ a. reader.at + size a ≤ reader.limit) answer.2.1 answer.0 in
      omega (arith, within, length-written line)

  pub told_on : (new : Reading) (after : Place) (line : Line) → ReadTo → reader.limit ≡ limit → Answered → result ≡ Ok (Some line)
      → IfSome told (λ file. IfOk result (λ answer. IfSome answer (λ next. rest_of reader file ≡ written next ++ rest_of new file)))
      → new.at ≡ reader.at + length (written line) → Moves s formula place line (goes after) → IfSome told (λ file. IsReadTo s formula limit file new (before + 1) after)
  told_on new after line r same a e rest at moves = every told r a rest where
    one : (file : List ℕ) → IsReadTo s formula limit file reader before place → IsAnswer reader (ahead (rest_of reader file)) result
        → IfOk result (λ answer. IfSome answer (λ next. rest_of reader file ≡ written next ++ rest_of new file)) → IsReadTo s formula limit file new (before + 1) after
    one file read found more =
        let answer : IsAnswer reader (ahead (rest_of reader file)) (Ok (Some line)) = subst (λ x. IsAnswer reader (ahead (rest_of reader file)) x) e found in
        let within : reader.at + length (written line) ≤ reader.limit = ends_within file line answer in
        read_on s formula limit file reader new before place after line read answer.1 moves
        (subst (λ x. IfOk x (λ y. IfSome y (λ next. rest_of reader file ≡ written next ++ rest_of new file))) e more) (omega (arith, within, same)) at

    every : (o : Option (List ℕ)) → IfSome o (λ file. IsReadTo s formula limit file reader before place) → IfSome o (λ file. IsAnswer reader (ahead (rest_of reader file)) result)
        → IfSome o (λ file. IfOk result (λ answer. IfSome answer (λ next. rest_of reader file ≡ written next ++ rest_of new file))) → IfSome o (λ file. IsReadTo s formula limit file new (before + 1) after)
    every None read found more = tt
    every (Some file) read found more = one file read found more

  pub told_never : ReadTo → limit < before → (P : List ℕ → Type 0) → IfSome told P
  told_never r many P = IfSome-both told (λ file read same. absurd (too_many s formula limit file reader before place read many)) r r

pub IfSome-all : {A : Type 0} {P : A → Type 0} → (o : Option A) → ((x : A) → P x) → IfSome o P
IfSome-all None h = tt
IfSome-all (Some x) h = h x

-- before the first line
pub read_none : (s : Setting) (formula : QueryData → Formula) (limit : ℕ) (file : List ℕ) (reader : Reading) → reader.at ≡ 0 → IsReadTo s formula limit file reader 0 at_top
read_none s formula limit file reader at = record {
  lines = [];
  stands = record { leads = nowhere; whole = ap (λ n. drop n file) (sym at); within = omega arith };
  at = at;
  counted = refl;
}

-- a count that rose from a later value rose from an earlier one
pub Rose-before : (first before after : ℕ) → first ≤ before → Rose before after → Rose first after
Rose-before first before after le rose = capped (2 ^ 64 - 1) rose where
  capped : (most : ℕ) → min (before + 1) most ≤ after → min (first + 1) most ≤ after
  capped most h = omega (arith, le, h)
