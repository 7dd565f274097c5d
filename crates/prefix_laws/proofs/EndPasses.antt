-- A part of a finding that holds an END line is valid.
use Rattle.std.proofs.Common.{◌≡◌, ◌⊎◌, inl, inr, ℕ, ◌≤◌, ◌==◌, pos, Bool, true, false, List, [], ◌∷◌, ◌++◌, length, refl, sym, ap, ◌∙◌, subst, arith, append_assoc, append-nil}
use Rattle.std.specs.Prelude.{Ok}
use Rattle.std.specs.List.{All}
use Rattle.std.proofs.lemmas.List.Elements.{All-head, All-tail}
use Rattle.clause_core.specs.Formula.{Formula}
use Rattle.finding_lines.specs.declared.line.Conclusion.{Conclusion}
use Rattle.finding_lines.specs.declared.line.Conclusion.TheVariants.{Spent}
use Rattle.finding_lines.specs.declared.line.Line.{Line}
use Rattle.finding_lines.specs.declared.line.Line.TheVariants as lines
use Rattle.finding_lines.specs.Form.{IsLine}
use Rattle.finding_lines.specs.Reading.{LacksFeed}
use Rattle.finding_lines.specs.Spelling.{spelled, written}
use Rattle.finding_file.specs.Ahead.{ended, unended, ahead}
use Rattle.finding_file.specs.Writing.{all_written}
use Rattle.finding_file.proofs.AheadLemmas.{ahead-unended}
use Rattle.finding_file.proofs.WritingLemmas.{ahead-written, first_line}
use Rattle.queries.specs.Settings.{Setting}
use Rattle.queries.specs.Questions.{QueryData}
use Rattle.judgement.specs.Places.{Place, at_top, at_header, at_walks, in_walk, at_drops, at_kept, at_deep, at_scans, at_end, finished, in_log, in_query, Moved, goes, fails}
use Rattle.judgement.specs.Tests.{when, has_form_at, next_by, Moves}
use Rattle.judgement.specs.Findings.{Leads, IsJudged}
use Rattle.judgement.specs.declared.answers.Reach.{Reach}
use Rattle.judgement.specs.declared.answers.Reason.{Reason}
use Rattle.judgement.specs.declared.answers.Reason.TheVariants.{B1, B7, B9, B12}
use Rattle.judgement.specs.declared.answers.Judged.TheVariants.{Valid}
use Rattle.judgement_laws.proofs.MoveLemmas.{nothing_behind}
use Rattle.judgement_laws.proofs.RunLemmas.{Runs, Leads-Runs}
use Rattle.prefix_laws.specs.Laws.{PartWithEndIsValid}
use Rattle.prefix_laws.proofs.PartLemmas.{Part, part_of}

-- bytes without a line feed hold no line
no_line : (part : List ℕ) (line : Line) (behind : List ℕ) → LacksFeed part → IsLine line → part ≡ written line ++ behind → ⊥
no_line [] line behind lacks form same = let wrong = ap ahead same ∙ ahead-written line behind form in cc
no_line (b ∷ bs) line behind lacks form same = let wrong : unended (b ∷ bs) ≡ ended (spelled line) behind = sym (ahead-unended b bs lacks) ∙ ap ahead same ∙ ahead-written line behind form in cc

passed : (b : Bool) (r : Reason) (m : Moved) (place : Place) → goes place ≡ when b r m → (b ≡ true) × (goes place ≡ m)
passed true r m place e = (refl, e)
passed false r m place e = absurd (let wrong : goes place ≡ fails r = e in cc)

module _ (s : Setting) (formula : QueryData → Formula) where
  -- what is found behind the END line of a verdict
  abbrev Ended : Place → Conclusion → Type 0
  Ended place verdict = (reach : Reach) × (place ≡ finished reach verdict)

  no_place : (place after : Place) (verdict : Conclusion) (r : Reason) (m : Moved) → goes after ≡ when (has_form_at s formula place (lines.End verdict)) B1 m → m ≡ fails r → ⊥
  no_place place after verdict r m e same = let wrong : goes after ≡ fails r = (passed (has_form_at s formula place (lines.End verdict)) B1 m after e).1 ∙ same in cc

  -- where an END line passes, its verdict is found
  end_goes : (place after : Place) (verdict : Conclusion) → Moves s formula place (lines.End verdict) (goes after) → Ended after verdict
  end_goes (at_end reach v) after verdict (told, is_told, e) =
      let has = passed (has_form_at s formula (at_end reach v) (lines.End verdict)) _ _ after e in
      let p = passed told _ _ after has.1 in
      let same : verdict ≡ v = (is_told tt).0 p.0 in
      let there : goes after ≡ goes (finished reach v) = p.1 in
      (reach, let is : after ≡ finished reach verdict = cc in is)
  end_goes (in_query reach asked d left) after verdict (told, is_told, e) =
      let has = passed (has_form_at s formula (in_query reach asked d left) (lines.End verdict)) _ _ after e in
      let none = passed (left == 0) _ _ after has.1 in
      let p = passed told _ _ after none.1 in
      let same : verdict ≡ Spent asked (pos s.conflicts) = (is_told tt).0 p.0 in
      let there : goes after ≡ goes (finished reach (Spent asked (pos s.conflicts))) = p.1 in
      (reach, let is : after ≡ finished reach verdict = cc in is)
  end_goes at_top after verdict (told, is_told, e) = absurd (no_place at_top after verdict B9 (next_by s formula at_top told (lines.End verdict)) e refl)
  end_goes (at_header reach) after verdict (told, is_told, e) = absurd (no_place (at_header reach) after verdict B9 (next_by s formula (at_header reach) told (lines.End verdict)) e refl)
  end_goes (at_walks count pair) after verdict (told, is_told, e) =
      absurd (no_place (at_walks count pair) after verdict B9 (next_by s formula (at_walks count pair) told (lines.End verdict)) e refl)
  end_goes (in_walk count d left) after verdict (told, is_told, e) =
      absurd (no_place (in_walk count d left) after verdict B9 (next_by s formula (in_walk count d left) told (lines.End verdict)) e refl)
  end_goes (at_drops reach set) after verdict (told, is_told, e) =
      absurd (no_place (at_drops reach set) after verdict B9 (next_by s formula (at_drops reach set) told (lines.End verdict)) e refl)
  end_goes (at_kept reach set) after verdict (told, is_told, e) =
      absurd (no_place (at_kept reach set) after verdict B9 (next_by s formula (at_kept reach set) told (lines.End verdict)) e refl)
  end_goes (at_deep reach set none) after verdict (told, is_told, e) =
      absurd (no_place (at_deep reach set none) after verdict B9 (next_by s formula (at_deep reach set none) told (lines.End verdict)) e refl)
  end_goes (at_scans reach scans more pair) after verdict (told, is_told, e) =
      absurd (no_place (at_scans reach scans more pair) after verdict B9 (next_by s formula (at_scans reach scans more pair) told (lines.End verdict)) e refl)
  end_goes (finished reach v) after verdict (told, is_told, e) =
      absurd (no_place (finished reach v) after verdict B12 (next_by s formula (finished reach v) told (lines.End verdict)) e refl)
  end_goes (in_log d behind) after verdict (told, is_told, e) = absurd (no_place (in_log d behind) after verdict B7 (next_by s formula (in_log d behind) told (lines.End verdict)) e refl)

  stays : (place after : Place) (reach : Reach) (verdict : Conclusion) (some : List Line) → place ≡ finished reach verdict → Runs s formula place some after → after ≡ finished reach verdict
  stays place after reach verdict [] same runs = sym runs ∙ same
  stays place after reach verdict (line ∷ some) same runs = absurd (nothing_behind s formula place runs.0 verdict line same runs.2)

  -- lines that run over an END line end there
  stops : (verdict : Conclusion) (behind part : List ℕ) → IsLine (lines.End verdict) → LacksFeed part → (from after : Place) (some front : List Line) → Runs s formula from some after → All IsLine front
      → all_written some ++ part ≡ all_written front ++ (written (lines.End verdict) ++ behind) → Ended after verdict
  stops verdict behind part form lacks from after [] [] runs forms same = absurd (no_line part (lines.End verdict) behind lacks form same)
  stops verdict behind part form lacks from after [] (f ∷ front) runs forms same =
      absurd (no_line part f (all_written front ++ (written (lines.End verdict) ++ behind)) lacks (All-head IsLine f front forms)
      (same ∙ append_assoc (written f) (all_written front) (written (lines.End verdict) ++ behind)))
  stops verdict behind part form lacks from after (l ∷ some) [] runs forms same =
      let both = first_line l (lines.End verdict) (all_written some ++ part) behind runs.1 form (sym (append_assoc (written l) (all_written some) part) ∙ same) in
      let found = end_goes from runs.0 verdict (subst (λ x. Moves s formula from x (goes runs.0)) both.0 runs.2) in
      (found.0, stays runs.0 after found.0 verdict some found.1 runs.3)
  stops verdict behind part form lacks from after (l ∷ some) (f ∷ front) runs forms same =
      let both = first_line l f (all_written some ++ part) (all_written front ++ (written (lines.End verdict) ++ behind)) runs.1 (All-head IsLine f front forms)
      (sym (append_assoc (written l) (all_written some) part) ∙ same ∙ append_assoc (written f) (all_written front) (written (lines.End verdict) ++ behind)) in
      stops verdict behind part form lacks runs.0 after some front runs.3 (All-tail IsLine f front forms) both.1

  found_valid : (limit : ℕ) (file : List ℕ) (reach : Reach) (verdict : Conclusion) (p : Part s formula file) → p.place ≡ finished reach verdict → length file ≤ limit
      → (p.part ≡ []) ⊎ ((r : Reach) (v : Conclusion) → p.place ≡ finished r v → ⊥) → IsJudged s formula limit file (Ok (Valid verdict reach))
  found_valid limit file reach verdict p found within (inr more) = absurd (more reach verdict found)
  found_valid limit file reach verdict p found within (inl none) =
      let whole = p.whole ∙ ap (λ bytes. all_written p.lines ++ bytes) none in
      let long = ap (λ (l : List ℕ). length l) (whole ∙ append-nil (all_written p.lines)) in
      (p.lines, record { leads = subst (λ x. Leads s formula p.lines x) found p.leads; whole = whole; within = omega (arith, long, within) })

pub part_with_end_is_valid : PartWithEndIsValid
part_with_end_is_valid s formula limit file left within front verdict behind forms form same =
    let p = part_of s formula file left in
    let found = stops s formula verdict behind p.part form p.lacks at_top p.place p.lines front (Leads-Runs s formula p.lines p.place p.leads) forms (sym p.whole ∙ same) in
    (found.0, found_valid s formula limit file found.0 verdict p found.1 within p.more)
