-- A report has no float.
use Rattle.std.proofs.Common.{◌≡◌, ℕ, ℤ, pos, negsuc, Bool, true, false, List, [], ◌∷◌, map, Option, Some, None, Ordering, Less, Equal, Greater, nat_cmp, refl}
use Rattle.std.specs.Prelude.{◌||◌}
use Rattle.std.specs.Ordering.{match_ordering}
use Rattle.std.specs.Cmp.Lexicographic.{slice_cmp}
use Rattle.serde_json.specs.Data.{Data, number, string, Members, no_members, member, put}
use Rattle.serde_json.specs.Find.{of_integer, is_float}
use Rattle.serde_json.specs.View.{items_of}
use Rattle.serde_json.specs.Written.{has_float, items_have_float, members_have_float}
use Rattle.finding_lines.specs.declared.line.Conclusion.{Conclusion}
use Rattle.finding_lines.specs.declared.line.Conclusion.TheVariants.{Vacuous, Related, Different, Open, Spent}
use Rattle.scan_model.specs.InRange.{Row}
use Rattle.scan_model.specs.Verdicts.{CandidateSet}
use Rattle.queries.specs.Comparisons.{Comparison}
use Rattle.queries.specs.Settings.{setting_of}
use Rattle.judgement.specs.Steps.{pair_in, row_in}
use Rattle.finding_report.specs.Names.{input_names, old_names, new_names}
use Rattle.finding_report.specs.Reports.{with_numbers, inputs_of, break_of, kept_of, scans_of, names_among, report_with}

either_false : (a b : Bool) → a ≡ false → b ≡ false → a || b ≡ false
either_false true b p q = p
either_false false b p q = q

parts_false : (a b : Bool) → a || b ≡ false → (a ≡ false) × (b ≡ false)
parts_false true b e = (e, (let wrong : true ≡ false = e in cc))
parts_false false b e = (refl, e)

integer : (z : ℤ) → is_float (of_integer z) ≡ false
integer (pos n) = refl
integer (negsuc n) = refl

put_at : (o : Ordering) (k l : List ℕ) (d e : Data) (ms rest : Members) → has_float d ≡ false → has_float e || members_have_float ms ≡ false → members_have_float rest ≡ false
    → members_have_float (match_ordering o (member k d (member l e ms)) (member l d ms) (member l e rest)) ≡ false
put_at Less k l d e ms rest p q r = either_false (has_float d) _ p q
put_at Equal k l d e ms rest p q r = either_false (has_float d) _ p (parts_false (has_float e) _ q).1
put_at Greater k l d e ms rest p q r = either_false (has_float e) _ (parts_false (has_float e) _ q).0 r

put_none : (k : List ℕ) (d : Data) (ms : Members) → has_float d ≡ false → members_have_float ms ≡ false → members_have_float (put k d ms) ≡ false
put_none k d no_members p q = either_false (has_float d) _ p refl
put_none k d (member l e ms) p q = put_at (slice_cmp nat_cmp k l) k l d e ms (put k d ms) p q (put_none k d ms p (parts_false (has_float e) _ q).1)

numbers_none : (names : List (List ℕ)) (values : List ℤ) (ms : Members) → members_have_float ms ≡ false → members_have_float (with_numbers names values ms) ≡ false
numbers_none [] values ms p = p
numbers_none (n ∷ ns) [] ms p = p
numbers_none (n ∷ ns) (v ∷ vs) ms p = numbers_none ns vs (put n (number (of_integer v)) ms) (put_none n (number (of_integer v)) ms (integer v) p)

strings_none : (names : List (List ℕ)) → items_have_float (items_of (map string names)) ≡ false
strings_none [] = refl
strings_none (n ∷ ns) = strings_none ns

module _ (c : Comparison) where
  inputs_none : (row : Row) → has_float (inputs_of c row) ≡ false
  inputs_none row = numbers_none (input_names c) row no_members refl

  break_none : (pair : Option (List ℤ)) → has_float (break_of c pair) ≡ false
  break_none None = refl
  break_none (Some numbers) =
      either_false (has_float (inputs_of c (row_in (setting_of c) numbers))) _ (inputs_none (row_in (setting_of c) numbers))
      (either_false _ _ (numbers_none (new_names c) (pair_in (setting_of c) numbers).new no_members refl)
      (either_false _ _ (numbers_none (old_names c) (pair_in (setting_of c) numbers).old no_members refl) refl))

  kept_none : (set : CandidateSet) (verdict : Conclusion) → has_float (kept_of c set verdict) ≡ false
  kept_none set Vacuous = refl
  kept_none set (Related kept candidates) = strings_none (names_among set 0 c.relation.candidates)
  kept_none set (Different scans) = strings_none (names_among set 0 c.relation.candidates)
  kept_none set (Open kept candidates depth) = strings_none (names_among set 0 c.relation.candidates)
  kept_none set (Spent asked conflicts) = refl

  scans_none : (rows : List Row) → has_float (scans_of c rows) ≡ false
  scans_none [] = refl
  scans_none (row ∷ rows) = either_false (has_float (inputs_of c row)) _ (inputs_none row) (scans_none rows)

  pub report_none : (set : CandidateSet) (pair : Option (List ℤ)) (rows : List Row) (verdict : Conclusion) → has_float (report_with c set pair rows verdict) ≡ false
  report_none set pair rows verdict =
      either_false (has_float (break_of c pair)) _ (break_none pair)
      (either_false (has_float (kept_of c set verdict)) _ (kept_none set verdict) (either_false (has_float (scans_of c rows)) _ (scans_none rows) refl))
