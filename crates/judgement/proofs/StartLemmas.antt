-- Tests in a row, and logs that begin.
use Rattle.std.proofs.Common.{◌≡◌, Bool, true, false, [], refl, sym, ◌∙◌, subst, append-nil, arith}
use Rattle.std.proofs.lemmas.Bool.{false≢true}
use Rattle.std.specs.List.{list_all}
use Rattle.clause_core.specs.Clauses.{is_set}
use Rattle.clause_core.specs.Deletions.{Thinned, whole}
use Rattle.clause_core.specs.Formula.{Formula}
use Rattle.clause_core.specs.Satisfaction.{Satisfies, HasNoSolution}
use Rattle.finding_lines.specs.declared.line.Asked.{Asked}
use Rattle.queries.specs.Comparisons.{Comparison}
use Rattle.queries.specs.Settings.{setting_of}
use Rattle.queries.specs.Questions.{QueryData, IsQueryOf}
use Rattle.queries.specs.Meaning.{HasAnswer, Means}
use Rattle.judgement.specs.declared.answers.Reach.{Reach}
use Rattle.judgement.specs.declared.answers.Reason.{Reason}
use Rattle.judgement.specs.Steps.{opened}
use Rattle.judgement.specs.Places.{Place, Moved}
use Rattle.judgement.specs.Tests.{when, open_log, open_query}
use Rattle.judgement.specs.Shown.{asked_of, IsReachShown}
use Rattle.judgement.specs.Known.{KnownInQuery, Known, KnownAfter}

module _ (c : Comparison) (formula : QueryData → Formula) where
  -- what is known where a test passes
  pub known_when : (b : Bool) (r : Reason) (m : Moved) → (b ≡ true → KnownAfter c formula m) → KnownAfter c formula (when b r m)
  known_when true r m h = h refl
  known_when false r m h = tt

  -- where a formula has no solution its query has no answer
  pub no_answer : (query : QueryData) → Means c query (formula query) → HasNoSolution (formula query).clauses → ¬ HasAnswer c query
  no_answer query means none a = let v = means.asked a in false≢true (sym (none v.0) ∙ v.1)

  pub known_open_log : (query : QueryData) (behind : Place) → Means c query (formula query) → (¬ HasAnswer c query → Known c formula behind)
      → KnownAfter c formula (open_log (formula query) behind)
  known_open_log query behind means h = (
    λ v sat. subst (Satisfies v) (sym (append-nil (formula query).clauses)) sat,
    λ none. h (no_answer query means none),
  )

  -- no step of the log of a query
  pub no_step : (query : QueryData) → IsQueryOf c query → list_all is_set (formula query).clauses ≡ true
      → KnownInQuery c formula query (opened (formula query)) (setting_of c).conflicts []
  unfolding setting_of
  no_step query is_query sets = record {
    is_query = is_query;
    opened = refl;
    held = subst (Thinned (formula query).clauses) (sym (append-nil (formula query).clauses)) (whole (formula query).clauses);
    sets = sets;
    accepted = tt;
    fresh = tt;
    counted = omega arith;
  }

  pub known_open_query : (reach : Reach) (asked : Asked) (query : QueryData) → asked ≡ asked_of query → IsQueryOf c query → list_all is_set (formula query).clauses ≡ true
      → IsReachShown c formula reach → KnownAfter c formula (open_query (setting_of c) reach asked (formula query))
  known_open_query reach asked query named is_query sets shown = ((query, named, ([], no_step query is_query sets)), shown)
