-- What the test of a proposed pair and row says in the words of the model.
use Rattle.std.proofs.Common.{◌≡◌, ◌∙◌, sym, ap, subst, Bool, true, not, List, [], ◌∷◌, length, get_or}
use Rattle.std.specs.Prelude.{◌↔◌, IsTrue}
use Rattle.std.proofs.lemmas.Bool.{and_parts, and_from, not-true}
use Rattle.scan_model.specs.InRange.{Row}
use Rattle.scan_model.specs.Pairs.{Pair, is_allowed}
use Rattle.scan_model.specs.Verdicts.{CandidateSet}
use Rattle.verdict_laws.specs.Evidence.{LeavesSet, FailsOn}
use Rattle.scan_replay.specs.Duos.{Compared}
use Rattle.queries.specs.declared.decoded.Decoded.{Decoded}
use Rattle.queries.specs.Comparisons.{Comparison, IsComparison}
use Rattle.queries.specs.Settings.{setting_of, meets}
use Rattle.queries.specs.Questions.{step}
use Rattle.queries.specs.Meaning.{Answers}
use Rattle.queries.proofs.SettingLemmas.{IsPairInRange-test, test-IsPairInRange, Meets-test, test-Meets, FailsOn-test}
use Rattle.pair_trial.specs.Trials.{comparison_of, setting_in}
use Rattle.invariant_prune.specs.Answers.{pair_of}
use Rattle.finding_search.specs.Guesses.{leads_out}
use Rattle.finding_search.proofs.RowPasses.{allowed-setting, after-setting, fails_after, read_row, same_pair}

allowed-test : (c : Comparison) (row : Row) (pair : Pair) → (setting_of c).allowed row pair ≡ true → is_allowed c.relation row pair ≡ true
unfolding setting_of
allowed-test c row pair h = h

module _ (c : Comparison) (is : IsComparison c) (set : CandidateSet) (pair : Pair) where
  leaves-test : (row : Row) → leads_out (setting_of c) set pair row ≡ true → LeavesSet c.old c.new c.relation set pair row
  leaves-test row h =
      let after = (setting_of c).after row pair in
      let first = and_parts ((setting_of c).in_range pair) _ h in
      let second = and_parts ((setting_of c).allowed row pair) _ first.1 in
      let third = and_parts (meets (setting_of c) set pair) _ second.1 in
      record {
        in_range = IsPairInRange-test c pair first.0;
        meets = Meets-test c is set pair third.0;
        allowed = allowed-test c row pair second.0;
        fails = subst (λ (p : Pair). FailsOn c.old c.new c.relation set p) (sym (after-setting c row pair)) (FailsOn-test c is set after (not-true (meets (setting_of c) set after) third.1));
      }

  test-leaves : (row : Row) → LeavesSet c.old c.new c.relation set pair row → leads_out (setting_of c) set pair row ≡ true
  test-leaves row leaves =
      and_from ((setting_of c).in_range pair) _ (test-IsPairInRange c pair leaves.in_range)
      (and_from ((setting_of c).allowed row pair) _ (allowed-setting c row pair leaves.allowed)
      (and_from (meets (setting_of c) set pair) _ (test-Meets c is set pair leaves.meets) (ap not (fails_after c is set pair row leaves))))

  -- the only row leads out of the set where the pair and the rows are an answer, and only there
  answers-test : (rows : List Row) (row : Row) → length rows ≡ 1 → row ≡ get_or rows 0 row → leads_out (setting_of c) set pair row ≡ true → Answers c (step set) pair rows
  answers-test rows row one read h = (row, read_row rows row one read, leaves-test row h)

  test-answers : (rows : List Row) (row : Row) → length rows ≡ 1 → row ≡ get_or rows 0 row → Answers c (step set) pair rows → leads_out (setting_of c) set pair row ≡ true
  test-answers rows row one read a = let same : a.0 ∷ [] ≡ row ∷ [] = sym a.1 ∙ read_row rows row one read in let e : a.0 ≡ row = cc in test-leaves row (subst (λ (r : Row). LeavesSet c.old c.new c.relation set pair r) e a.2)

-- what the test of the only row tells
module _ (trial : Compared) (is : IsComparison (comparison_of trial)) (set : CandidateSet) (guess : Decoded) (row : Row) (one : length guess.rows.items ≡ 1) (read : row ≡ get_or guess.rows.items 0 row) where
  pub tells_answer : (there : Pair) (run : Row) (result : Bool) → there.old ≡ guess.old.items → there.new ≡ guess.new.items → run ≡ row
      → result ≡ leads_out (setting_in trial) set there run → IsTrue result ↔ Answers (comparison_of trial) (step set) (pair_of guess) guess.rows.items
  tells_answer there run result old new runs tested =
      let here : result ≡ leads_out (setting_in trial) set (pair_of guess) row =
      tested ∙ ap (λ (p : Pair). leads_out (setting_in trial) set p run) (same_pair there (pair_of guess) old new)
      ∙ ap (λ (r : Row). leads_out (setting_in trial) set (pair_of guess) r) runs
      in (
        (λ e. answers-test (comparison_of trial) is set (pair_of guess) guess.rows.items row one read (sym here ∙ e)),
        (λ a. here ∙ test-answers (comparison_of trial) is set (pair_of guess) guess.rows.items row one read a),
      )
