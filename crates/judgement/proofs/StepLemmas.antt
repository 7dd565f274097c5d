-- Steps of logs.
use Rattle.std.proofs.Common.{◌≡◌, ℕ, suc, ◌-◌, ◌<◌, Bool, true, false, not, ◌&&◌, List, [], ◌∷◌, ◌++◌, refl, sym, ap, subst, arith, ℤ, pos, length-append}
use Rattle.std.specs.Prelude.{◌==◌, ◌↔◌, nat_lt, if◌then◌else◌}
use Rattle.std.proofs.lemmas.Bool.{and_parts, not-true, ltb-true}
use Rattle.clause_core.specs.Formula.{Formula}
use Rattle.std.specs.List.{list_all}
use Rattle.clause_core.specs.Clauses.{is_set, rises}
use Rattle.clause_core.specs.Deletions.{Thinned, derived}
use Rattle.clause_core.proofs.Ranges.{list_all-push}
use Rattle.clause_core.proofs.Sets.{is_set-rises}
use Rattle.clause_core.specs.Freshness.{IsFresh}
use Rattle.clause_core.specs.Logs.{with_steps}
use Rattle.clause_core.specs.declared.step.Step.{Step}
use Rattle.finding_lines.specs.declared.line.Asked.{Asked}
use Rattle.finding_lines.specs.declared.line.Conclusion.{Conclusion}
use Rattle.finding_lines.specs.declared.line.Conclusion.TheVariants.{Spent}
use Rattle.finding_lines.specs.declared.line.Line.TheVariants as lines
use Rattle.derivation_check.specs.Checks.{Derivation, held_of}
use Rattle.derivation_check.specs.Deletions.{may_delete, without, may_delete_all, without_all}
use Rattle.freshness_laws.proofs.Hinted.{accepted_over_all}
use Rattle.freshness_laws.proofs.Thinnings.{fresh_over_all}
use Rattle.queries.specs.Comparisons.{Comparison}
use Rattle.queries.specs.Settings.{setting_of}
use Rattle.queries.specs.Questions.{QueryData, walk}
use Rattle.judgement.specs.declared.answers.Reach.{Reach}
use Rattle.judgement.specs.declared.answers.Reach.TheVariants.{AtLeast}
use Rattle.judgement.specs.declared.answers.Reason.TheVariants.{B2, B6, B10}
use Rattle.judgement.specs.Steps.{clause_of, hints_of, step_of, with_derived, accepts, is_empty}
use Rattle.judgement.specs.Places.{Place, in_log, in_query, in_walk, Moved, goes, fails}
use Rattle.judgement.specs.Tests.{when, in_log_next, in_query_next, in_walk_next, when_spent, IsTold}
use Rattle.judgement.specs.Shown.{Spends, IsReachShown}
use Rattle.judgement.specs.Known.{KnownInQuery, KnownInWalk, Known, KnownAfter}
use Rattle.judgement.proofs.LogLemmas.{is_accepted-true, held_of-with_derived, Implies-with_derived, HasNoSolution-empty, not_empty, with_steps-append, AreAccepted-append, AreFresh-append}
use Rattle.judgement.proofs.ThinLemmas.{thinned-without, Implies-without}
use Rattle.judgement.proofs.StartLemmas.{known_when}

module _ (c : Comparison) (formula : QueryData → Formula) where
  known_either : (b : Bool) (p q : Place) → (b ≡ true → Known c formula p) → (b ≡ false → Known c formula q) → Known c formula (if b then p else q)
  known_either true p q f g = f refl
  known_either false p q f g = g refl

  pub known_log_step : (d : Derivation) (behind : Place) (literals hints : List ℤ) → Known c formula (in_log d behind)
      → KnownAfter c formula (in_log_next d behind (lines.Derived literals hints))
  known_log_step d behind literals hints k =
      let step = step_of literals hints in
      known_when c formula (rises d.formula.variables (clause_of literals)) _ _ (λ ordered. known_when c formula (accepts d step) _ _ (λ ok.
      known_either (is_empty (clause_of literals)) behind (in_log (with_derived d (clause_of literals)) behind)
      (λ empty. k.1 (HasNoSolution-empty d step k.0 ok empty))
      (λ some. (Implies-with_derived d step k.0 ok, k.1))))

  -- clauses are held no more
  known_log_left : (d : Derivation) (behind : Place) (ids : List ℕ) → Known c formula (in_log d behind) → Known c formula (in_log (without_all d ids) behind)
  known_log_left d behind [] k = k
  known_log_left d behind (n ∷ ns) k = known_log_left (without d n) behind ns (Implies-without d n d.formula.clauses k.0, k.1)

  pub known_log_deleted : (d : Derivation) (behind : Place) (ids : List ℤ) → Known c formula (in_log d behind) → KnownAfter c formula (in_log_next d behind (lines.Deleted ids))
  known_log_deleted d behind ids k = known_when c formula (may_delete_all d (hints_of ids)) _ _ (λ may. known_log_left d behind (hints_of ids) k)

  pub step_more : (query : QueryData) (d : Derivation) (left : ℕ) (log : List Step) (step : Step) → KnownInQuery c formula query d left log → is_set step.clause ≡ true
      → accepts d step ≡ true → is_empty step.clause ≡ false → IsFresh (held_of d) step.clause → 0 < left
      → KnownInQuery c formula query (with_derived d step.clause) (left - 1) (log ++ step ∷ [])
  step_more query d left log step k in_order ok some fresh more =
      let all = with_steps d.formula.clauses log in
      let after : with_steps d.formula.clauses (log ++ step ∷ []) ≡ all ++ step.clause ∷ [] = with_steps-append d.formula.clauses log step in
      record {
        is_query = k.is_query;
        opened = k.opened;
        held = subst (Thinned (with_steps d.formula.clauses (log ++ step ∷ []))) (held_of-with_derived d step.clause)
            (subst (λ a. Thinned a (held_of d ++ step.clause ∷ [])) (sym after) (derived all (held_of d) step.clause k.held));
        sets = subst (λ a. list_all is_set a ≡ true) (sym after) (list_all-push is_set all step.clause k.sets in_order);
        accepted = AreAccepted-append d.formula.variables d.formula.clauses log step k.accepted
            (accepted_over_all d.formula.variables all (held_of d) step.clause step.hints k.held (is_accepted-true _ ok));
        fresh = AreFresh-append d.formula.clauses log step k.fresh ((fresh_over_all all (held_of d) step.clause k.sets k.held).0 fresh) (not_empty step.clause some);
        counted = omega (arith, k.counted, length-append log (step ∷ []));
      }

  pub left_more : (query : QueryData) (d : Derivation) (left : ℕ) (log : List Step) (ids : List ℕ) → KnownInQuery c formula query d left log → may_delete_all d ids ≡ true
      → KnownInQuery c formula query (without_all d ids) left log
  left_more query d left log [] k may = k
  left_more query d left log (n ∷ ns) k may =
      let both = and_parts (may_delete d n) (may_delete_all (without d n) ns) may in
      left_more query (without d n) left log ns
      (record {
        is_query = k.is_query;
        opened = k.opened;
        held = thinned-without (with_steps d.formula.clauses log) d n k.held both.0;
        sets = k.sets;
        accepted = k.accepted;
        fresh = k.fresh;
        counted = k.counted;
      })
      both.1

  -- a step of the log of a query, and what is known behind it
  known_step : (query : QueryData) (d : Derivation) (left : ℕ) (log : List Step) (literals hints : List ℤ) (told : Bool) (place : Place)
      → (rises d.formula.variables (clause_of literals) ≡ true → (told ≡ true) ↔ IsFresh (held_of d) (clause_of literals)) → KnownInQuery c formula query d left log
      → (KnownInQuery c formula query (with_derived d (clause_of literals)) (left - 1) (log ++ step_of literals hints ∷ []) → Known c formula place)
      → KnownAfter c formula (when (rises d.formula.variables (clause_of literals)) B2 (when (accepts d (step_of literals hints)) B6
      (when (not (is_empty (clause_of literals)) && (told && nat_lt 0 left)) B10 (goes place))))
  known_step query d left log literals hints told place is_told k onward =
      known_when c formula (rises d.formula.variables (clause_of literals)) _ _ (λ ordered. known_when c formula (accepts d (step_of literals hints)) _ _ (λ ok.
      known_when c formula (not (is_empty (clause_of literals)) && (told && nat_lt 0 left)) _ _ (λ more.
      let first = and_parts (not (is_empty (clause_of literals))) (told && nat_lt 0 left) more in
      let second = and_parts told (nat_lt 0 left) first.1 in
      onward (step_more query d left log (step_of literals hints) k (is_set-rises d.formula.variables (clause_of literals) ordered) ok (not-true _ first.0)
      ((is_told ordered).0 second.0) (ltb-true 0 left second.1)))))

  pub known_query_step : (reach : Reach) (asked : Asked) (d : Derivation) (left : ℕ) (literals hints : List ℤ) (told : Bool)
      → IsTold (setting_of c) (in_query reach asked d left) (lines.Derived literals hints) told → Known c formula (in_query reach asked d left)
      → KnownAfter c formula (in_query_next (setting_of c) reach asked d left told (lines.Derived literals hints))
  known_query_step reach asked d left literals hints told is_told k =
      known_step k.0.0 d left k.0.2.0 literals hints told (in_query reach asked (with_derived d (clause_of literals)) (left - 1)) is_told k.0.2.1
      (λ known. ((k.0.0, k.0.1, (k.0.2.0 ++ step_of literals hints ∷ [], known)), k.1))

  pub known_query_deleted : (reach : Reach) (asked : Asked) (d : Derivation) (left : ℕ) (ids : List ℤ) (told : Bool) → Known c formula (in_query reach asked d left)
      → KnownAfter c formula (in_query_next (setting_of c) reach asked d left told (lines.Deleted ids))
  known_query_deleted reach asked d left ids told k =
      known_when c formula (may_delete_all d (hints_of ids)) _ _ (λ may. ((k.0.0, k.0.1, (k.0.2.0, left_more k.0.0 d left k.0.2.0 (hints_of ids) k.0.2.1 may)), k.1))

  pub known_walk_step : (count : ℕ) (d : Derivation) (left : ℕ) (literals hints : List ℤ) (told : Bool)
      → IsTold (setting_of c) (in_walk count d left) (lines.Derived literals hints) told → KnownInWalk c formula count d left
      → KnownAfter c formula (in_walk_next (setting_of c) formula count d left told (lines.Derived literals hints))
  known_walk_step count d left literals hints told is_told k =
      known_step (walk (suc count)) d left k.log literals hints told (in_walk count (with_derived d (clause_of literals)) (left - 1)) is_told k.known
      (λ known. record { first = k.first; walk_of_rows = k.walk_of_rows; log = k.log ++ step_of literals hints ∷ []; known = known })

  pub known_walk_deleted : (count : ℕ) (d : Derivation) (left : ℕ) (ids : List ℤ) (told : Bool) → KnownInWalk c formula count d left
      → KnownAfter c formula (in_walk_next (setting_of c) formula count d left told (lines.Deleted ids))
  known_walk_deleted count d left ids told k =
      known_when c formula (may_delete_all d (hints_of ids)) _ _
      (λ may. record { first = k.first; walk_of_rows = k.walk_of_rows; log = k.log; known = left_more (walk (suc count)) d left k.log (hints_of ids) k.known may })

  -- a log without steps to come spends its query
  pub spends : (query : QueryData) (d : Derivation) (left : ℕ) (log : List Step) (k : KnownInQuery c formula query d left log) → (left == 0) ≡ true
      → Spends (formula query) c.relation.conflicts log
  spends query d left log k all =
      let none : left ≡ 0 = grind (arith, all) in
      subst (λ f. Spends f c.relation.conflicts log) k.opened (record { all = omega (arith, k.counted); accepted = k.accepted; fresh = k.fresh })

  pub known_query_end : (reach : Reach) (asked : Asked) (d : Derivation) (left : ℕ) (conclusion : Conclusion) (told : Bool) → Known c formula (in_query reach asked d left)
      → KnownAfter c formula (in_query_next (setting_of c) reach asked d left told (lines.End conclusion))
  unfolding setting_of
  known_query_end reach asked d left conclusion told k =
      known_when c formula (left == 0) _ _ (λ all. known_when c formula told _ _ (λ same. (
        (k.0.0, k.0.2.0, k.0.2.1.is_query, spends k.0.0 d left k.0.2.0 k.0.2.1 all, ap (λ a. Spent a (pos c.relation.conflicts)) k.0.1),
        k.1,
      )))

  -- behind the log for allowed rows
  pub known_when_spent : (left : ℕ) (m : Moved) → ((left == 0) ≡ true → KnownAfter c formula m) → KnownAfter c formula (when_spent left m)
  known_when_spent left (goes place) h = known_when c formula (left == 0) B10 (goes place) h
  known_when_spent left (fails reason) h = tt

  pub walk_spent : (count : ℕ) (d : Derivation) (left : ℕ) → KnownInWalk c formula count d left → (left == 0) ≡ true → IsReachShown c formula (AtLeast count)
  walk_spent count d left k all = (k.walk_of_rows, k.known.is_query.1, (k.log, spends (walk (suc count)) d left k.log k.known all))
