-- What is left of a finding is one, or lacks the end of a line, or is too long.
use Rattle.std.proofs.Common.{◌≡◌, ◌≢◌, ◌⊎◌, inl, inr, ⊎_elim, ℕ, ◌+◌, ◌<◌, ◌≤◌, List, [], ◌∷◌, ◌++◌, length, take, refl, sym, ap, ◌∙◌, subst, arith, append_assoc, append-nil, length-append}
use Rattle.std.specs.Prelude.{Ok, Err, codes}
use Rattle.std.proofs.lemmas.Bool.{cases_lt}
use Rattle.std.proofs.lemmas.List.{take_all, take-append-le}
use Rattle.std.proofs.lemmas.List.Elements.{All-nil, All-take}
use Rattle.clause_core.specs.Formula.{Formula}
use Rattle.finding_lines.specs.declared.line.Line.{Line}
use Rattle.finding_lines.specs.declared.line.Conclusion.{Conclusion}
use Rattle.finding_lines.specs.Form.{IsLine}
use Rattle.finding_lines.specs.Reading.{LacksFeed}
use Rattle.finding_lines.specs.Spelling.{spelled, written}
use Rattle.finding_lines.proofs.FeedLemmas.{spelled-lacks_feed}
use Rattle.finding_file.specs.Ahead.{ahead, size}
use Rattle.finding_file.specs.Writing.{all_written}
use Rattle.finding_file.proofs.AheadLemmas.{ahead-unended}
use Rattle.finding_file.proofs.WritingLemmas.{all_written-append, ahead-written, length-written}
use Rattle.queries.specs.Settings.{Setting}
use Rattle.queries.specs.Questions.{QueryData}
use Rattle.judgement.specs.Places.{Place, at_top, finished, goes}
use Rattle.judgement.specs.Tests.{Moves}
use Rattle.judgement.specs.Findings.{Leads, nowhere, on, FailsAhead, IsJudged}
use Rattle.judgement.specs.declared.answers.Reach.{Reach}
use Rattle.judgement.specs.declared.answers.Reason.TheVariants.{B13}
use Rattle.judgement.specs.declared.answers.Judged.TheVariants.{Valid, Bad}
use Rattle.judgement.specs.declared.answers.JudgeErr.TheVariants.{M8}
use Rattle.judgement_laws.proofs.MoveLemmas.{nothing_behind}
use Rattle.finding_search.specs.Passing.{IsPartOfFinding}
use Rattle.prefix_laws.specs.Laws.{IsValidOrCutOff, PartIsValidOrCutOff, LongPartIsTooLong}

-- what has no line feed is no line
size_of_part : (part : List ℕ) → LacksFeed part → size (ahead part) ≡ length part
size_of_part [] lacks = refl
size_of_part (b ∷ bs) lacks = ap size (ahead-unended b bs lacks)

module _ (s : Setting) (formula : QueryData → Formula) where
  fails_ahead : (place : Place) (part : List ℕ) → LacksFeed part → FailsAhead s formula place (ahead part) B13
  fails_ahead place [] lacks = refl
  fails_ahead place (b ∷ bs) lacks = subst (λ a. FailsAhead s formula place a B13) (sym (ahead-unended b bs lacks)) refl

  -- lines that all pass, and no line feed behind them: nothing, or bytes where a line may stand
  pub record Part (file : List ℕ) : Type 0 where
    pub lines : List Line
    pub place : Place
    pub part : List ℕ
    pub leads : Leads s formula lines place
    pub whole : file ≡ all_written lines ++ part
    pub lacks : LacksFeed part
    pub more : (part ≡ []) ⊎ ((reach : Reach) (verdict : Conclusion) → place ≡ finished reach verdict → ⊥)

  part_of_lines : (file : List ℕ) (all : List Line) (place : Place) → Leads s formula all place → file ≡ all_written all → Part file
  part_of_lines file all place leads whole = record {
    lines = all;
    place = place;
    part = [];
    leads = leads;
    whole = whole ∙ sym (append-nil (all_written all));
    lacks = All-nil _;
    more = inl refl;
  }

  -- a prefix of a line has no line feed, or is the line
  part_of_prefix : (file : List ℕ) (all : List Line) (place : Place) → Leads s formula all place → (line : Line) (then : Place) → IsLine line → Moves s formula place line (goes then)
      → (count : ℕ) → file ≡ all_written all ++ take count (written line) → Part file
  part_of_prefix file all place leads line then form moves count whole =
      ⊎_elim
      (λ beyond. part_of_lines file (all ++ line ∷ []) then (on all line place then leads form moves)
      (whole ∙ ap (λ bytes. all_written all ++ bytes) (take_all count (written line) (let long = length-written line in omega (arith, long, beyond))) ∙ sym (all_written-append all line)))
      (λ within. record {
        lines = all;
        place = place;
        part = take count (spelled line);
        leads = leads;
        whole = whole ∙ ap (λ bytes. all_written all ++ bytes) (take-append-le count (spelled line) (codes "\n") within);
        lacks = All-take (λ b. b ≢ 10) count (spelled line) (spelled-lacks_feed line form);
        more = inr (λ reach verdict ends. nothing_behind s formula place then verdict line ends moves);
      })
      (cases_lt (length (spelled line)) count)

  pub part_of : (file : List ℕ) → IsPartOfFinding s formula file → Part file
  part_of file (inl (all, place, leads, whole)) = part_of_lines file all place leads whole
  part_of file (inr (all, place, leads, line, then, form, moves, count, whole)) = part_of_prefix file all place leads line then form moves count whole

  length_of_part : (file : List ℕ) (p : Part file) → length file ≡ length (all_written p.lines) + size (ahead p.part)
  length_of_part file p =
      ap (λ (l : List ℕ). length l) p.whole ∙ length-append (all_written p.lines) p.part ∙ ap (λ n. length (all_written p.lines) + n) (sym (size_of_part p.part p.lacks))

  judged_at : (limit : ℕ) (file : List ℕ) (lines : List Line) (place : Place) (part : List ℕ) → Leads s formula lines place → file ≡ all_written lines ++ part → LacksFeed part
      → (part ≡ []) ⊎ ((reach : Reach) (verdict : Conclusion) → place ≡ finished reach verdict → ⊥) → length file ≡ length (all_written lines) + size (ahead part) → length file ≤ limit
      → IsValidOrCutOff s formula limit file
  judged_at limit file lines (finished reach verdict) part leads whole lacks (inl none) long within =
      let found : IsJudged s formula limit file (Ok (Valid verdict reach)) =
      (lines, record { leads = leads; whole = whole ∙ ap (λ bytes. all_written lines ++ bytes) none; within = omega (arith, long, within) }) in
      inl (verdict, reach, found)
  judged_at limit file lines (finished reach verdict) part leads whole lacks (inr more) long within = absurd (more reach verdict refl)
  judged_at limit file lines place part leads whole lacks more long within =
      let test : IsJudged s formula limit file (Ok (Bad (length lines + 1) B13)) = (
        lines,
        place,
        part,
        record { leads = leads; whole = whole; within = omega (arith, long, within) },
        refl,
        (λ too_long. omega (arith, too_long, long, within)),
        fails_ahead place part lacks,
      ) in
      inr (length lines + 1, test)

  -- where more bytes stand than may be judged, one of the lines is the first that goes past them
  too_long_at : (limit : ℕ) (file : List ℕ) (lines : List Line) (place : Place) (rest : List ℕ) → Leads s formula lines place → file ≡ all_written lines ++ rest
      → limit < length (all_written lines) + size (ahead rest) → IsJudged s formula limit file (Err M8)
  too_long_at limit file lines place rest nowhere whole long = ([], at_top, rest, record { leads = nowhere; whole = whole; within = omega arith }, long)
  too_long_at limit file lines place rest (on some line before after leads form moves) whole long =
      let bytes = all_written-append some line in
      let ahead_size = ap size (ahead-written line rest form) in
      let total = ap (λ (l : List ℕ). length l) bytes ∙ length-append (all_written some) (written line) in
      let line_size = length-written line in
      ⊎_elim
      (λ past. too_long_at limit file some before (written line ++ rest) leads
      (whole ∙ ap (λ front. front ++ rest) bytes ∙ append_assoc (all_written some) (written line) rest)
      (omega (arith, ahead_size, total, line_size, past)))
      (λ short. (some ++ line ∷ [], after, rest, record { leads = on some line before after leads form moves; whole = whole; within = short }, long))
      (cases_lt limit (length (all_written (some ++ line ∷ []))))

pub part_is_valid_or_cut_off : PartIsValidOrCutOff
part_is_valid_or_cut_off s formula limit file left within =
    let p = part_of s formula file left in
    judged_at s formula limit file p.lines p.place p.part p.leads p.whole p.lacks p.more (length_of_part s formula file p) within

pub long_part_is_too_long : LongPartIsTooLong
long_part_is_too_long s formula limit file left past =
    let p = part_of s formula file left in
    let long = length_of_part s formula file p in
    too_long_at s formula limit file p.lines p.place p.part p.leads p.whole (omega (arith, long, past))
