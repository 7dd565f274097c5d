-- The logs of a decider pass as they are written.
use Rattle.std.proofs.Common.{◌≡◌, ◌≢◌, ℕ, suc, ◌-◌, Bool, true, false, not, ◌&&◌, List, [], ◌∷◌, ◌++◌, map, length, refl, sym, ap, ◌∙◌, subst, arith, pos, append-nil}
use Rattle.std.specs.Prelude.{nat_lt, int_lt, if◌then◌else◌}
use Rattle.std.proofs.lemmas.Bool.{false≢true, and_from, lt-ltb}
use Rattle.clause_core.specs.declared.literal.Lit.{Lit}
use Rattle.clause_core.specs.declared.log.Entry.{Entry}
use Rattle.clause_core.specs.declared.log.Entry.TheVariants.{Derived, Deleted}
use Rattle.clause_core.specs.declared.step.Step.{Step}
use Rattle.clause_core.specs.declared.check.Outcome.TheVariants.{NoConflict}
use Rattle.clause_core.specs.Formula.{Formula}
use Rattle.clause_core.specs.Clauses.{rises}
use Rattle.clause_core.specs.Steps.{outcome}
use Rattle.clause_core.specs.Freshness.{IsFresh}
use Rattle.clause_core.specs.Deletions.{IsDeletion}
use Rattle.clause_core.specs.Logs.{steps_of, LastDecides, IsGoodStep, IsGoodLog, IsFreshLog}
use Rattle.clause_core.specs.Decisions.{IsRefutation, IsSpent}
use Rattle.finding_lines.specs.Form.{are_ids}
use Rattle.finding_lines.specs.declared.line.Asked.{Asked}
use Rattle.derivation_check.specs.Checks.{Derivation, held_of}
use Rattle.derivation_check.specs.Deletions.{may_delete, without}
use Rattle.queries.specs.Settings.{Setting}
use Rattle.queries.specs.Questions.{QueryData}
use Rattle.judgement.specs.Steps.{clause_of, hints_of, step_of, opened, with_derived, is_accepted, accepts, is_empty}
use Rattle.judgement.specs.Places.{Place, in_log, in_query, in_walk, reach_at, Moved, goes}
use Rattle.judgement.specs.Tests.{when, is_first_version}
use Rattle.judgement.specs.declared.answers.Reach.{Reach}
use Rattle.judgement.specs.declared.answers.Reach.TheVariants.{Untold, Unwalked, Greatest, AtLeast}
use Rattle.judgement.specs.declared.answers.Reason.{Reason}
use Rattle.judgement.specs.declared.answers.Reason.TheVariants.{B1, B2, B6, B10, B14}
use Rattle.judgement.proofs.LogLemmas.{held_of-with_derived}
use Rattle.judgement.proofs.ThinLemmas.{may-deletion, held_of-deletion}
use Rattle.finding_search.specs.Passing.{Passes, Runs}
use Rattle.finding_search.specs.Shown.{number_of, line_of, lines_of}
use Rattle.finding_search.specs.Places.{after_all}
use Rattle.finding_search.proofs.StepLines.{clause_back, rises_back, hints_back, hints_positive}

-- a test that passes
pub when-true : (b : Bool) (r : Reason) (m n : Moved) → b ≡ true → m ≡ n → m ≡ when b r n
when-true true r m n e same = same
when-true false r m n e same = absurd (false≢true e)

-- a line that both versions have a form for
pub either_version : (is_first : Bool) → not (is_first && false) ≡ true
either_version true = refl
either_version false = refl

-- a finding that may tell of reach is of the version that has deletions
is_second : (reach : Reach) → reach ≢ Untold → is_first_version reach ≡ false
is_second Untold told = absurd (told refl)
is_second Unwalked told = refl
is_second (Greatest rows) told = refl
is_second (AtLeast rows) told = refl

pub unwalked_told : Unwalked ≢ Untold
unwalked_told e = absurd cc

pub greatest_told : (rows : ℕ) → Greatest rows ≢ Untold
greatest_told rows e = absurd cc

-- and has a form for their lines
has_deletions : (reach : Reach) → reach ≢ Untold → not (is_first_version reach && true) ≡ true
has_deletions reach told = ap (λ b. not (b && true)) (is_second reach told)

is_empty-nil : (c : List Lit) → c ≡ [] → is_empty c ≡ true
is_empty-nil c e = ap is_empty e

is_empty-some : (c : List Lit) → c ≢ [] → is_empty c ≡ false
is_empty-some [] some = absurd (some refl)
is_empty-some (l ∷ ls) some = refl

module _ (s : Setting) (formula : QueryData → Formula) where
  module _ (d : Derivation) (step : Step) (good : IsGoodStep d.formula.variables (held_of d) step) where
    same_clause : clause_of (map number_of step.clause) ≡ step.clause
    same_clause = clause_back d.formula.variables 0 step.clause good.rises

    same_hints : hints_of (map pos step.hints) ≡ step.hints
    same_hints = hints_back step.hints

    ordered : rises d.formula.variables (clause_of (map number_of step.clause)) ≡ true
    ordered = ap (rises d.formula.variables) same_clause ∙ good.rises

    taken : accepts d (step_of (map number_of step.clause) (map pos step.hints)) ≡ true
    taken =
        ap (λ c. is_accepted (outcome d.formula.variables (held_of d) c (hints_of (map pos step.hints)))) same_clause
        ∙ ap (λ h. is_accepted (outcome d.formula.variables (held_of d) step.clause h)) same_hints ∙ ap is_accepted good.accepted

    tight : LastDecides d.formula.variables (held_of d) (step_of (map number_of step.clause) (map pos step.hints))
    tight = (
      good.last.0,
      good.last.1,
      same_hints ∙ good.last.2,
      subst (λ c. outcome d.formula.variables (held_of d) c good.last.0 ≡ NoConflict) (sym same_clause) good.last.3,
    )

    -- in a log that is to refute its formula
    step_leads : (behind : Place) (b : Bool) → is_empty step.clause ≡ b
        → Passes s formula (in_log d behind) (line_of (Derived step)) (if b then behind else in_log (with_derived d step.clause) behind)
    step_leads behind b e = record {
      form = (rises_back d.formula.variables 0 step.clause good.rises, hints_positive d.formula.variables (held_of d) step good);
      moves = (
        true,
        (λ _. (λ _. tt, λ _. refl)),
        when-true _ B1 _ _ (either_version (is_first_version (reach_at behind))) (when-true _ B2 _ _ ordered (when-true _ B6 _ _ taken
            (ap (λ t. goes (if t then behind else in_log (with_derived d step.clause) behind)) (sym e)
            ∙ ap (λ c. goes (if is_empty c then behind else in_log (with_derived d c) behind)) (sym same_clause)))),
      );
      tight = tight;
    }

    more : (b : Bool) (left : ℕ) → b ≡ false → (not b && (true && nat_lt 0 (suc left))) ≡ true
    more true left e = absurd (false≢true (sym e))
    more false left e = lt-ltb 0 (suc left) (omega arith)

    -- in a log that is to spend its query one step fewer is to come
    one_fewer : (at : Derivation → ℕ → Place) (left : ℕ) → step.clause ≢ [] → goes (at (with_derived d step.clause) left) ≡
        when (rises d.formula.variables (clause_of (map number_of step.clause))) B2 (when (accepts d (step_of (map number_of step.clause) (map pos step.hints))) B6
        (when (not (is_empty (clause_of (map number_of step.clause))) && (true && nat_lt 0 (suc left))) B10
        (goes (at (with_derived d (clause_of (map number_of step.clause))) (suc left - 1)))))
    one_fewer at left some =
        when-true _ B2 _ _ ordered (when-true _ B6 _ _ taken (when-true _ B10 _ _ (more (is_empty (clause_of (map number_of step.clause))) left
        (ap is_empty same_clause ∙ is_empty-some step.clause some)) (ap (λ n. goes (at (with_derived d step.clause) n)) (let e : left ≡ suc left - 1 = omega arith in e)
        ∙ ap (λ c. goes (at (with_derived d c) (suc left - 1))) (sym same_clause))))

    step_spends : (reach : Reach) (asked : Asked) (left : ℕ) → step.clause ≢ [] → IsFresh (held_of d) step.clause
        → Passes s formula (in_query reach asked d (suc left)) (line_of (Derived step)) (in_query reach asked (with_derived d step.clause) left)
    step_spends reach asked left some fresh = record {
      form = (rises_back d.formula.variables 0 step.clause good.rises, hints_positive d.formula.variables (held_of d) step good);
      moves = (
        true,
        (λ _. (λ _. subst (IsFresh (held_of d)) (sym same_clause) fresh, λ _. refl)),
        when-true _ B1 _ _ (either_version (is_first_version reach)) (one_fewer (λ e n. in_query reach asked e n) left some),
      );
      tight = tight;
    }

    -- and so for allowed rows
    step_spends_walk : (rows left : ℕ) → step.clause ≢ [] → IsFresh (held_of d) step.clause
        → Passes s formula (in_walk rows d (suc left)) (line_of (Derived step)) (in_walk rows (with_derived d step.clause) left)
    step_spends_walk rows left some fresh = record {
      form = (rises_back d.formula.variables 0 step.clause good.rises, hints_positive d.formula.variables (held_of d) step good);
      moves = (true, (λ _. (λ _. subst (IsFresh (held_of d)) (sym same_clause) fresh, λ _. refl)), one_fewer (λ e n. in_walk rows e n) left some);
      tight = tight;
    }

  module _ (d : Derivation) (number : ℕ) (deletion : IsDeletion d.formula.variables (length d.formula.clauses) (held_of d) number) where
    -- the number is above 0
    one_id : are_ids (pos number ∷ []) ≡ true
    one_id = let behind = deletion.derived in and_from (int_lt (pos 0) (pos number)) true (lt-ltb 0 number (omega (arith, behind))) refl

    -- a clause is held no more
    one_left : (at : Derivation → Place) → goes (at (without d number)) ≡ when (may_delete d number && true) B14 (goes (at (without d number)))
    one_left at = when-true _ B14 _ _ (and_from (may_delete d number) true (may-deletion d number deletion) refl) refl

    deletion_leads : (behind : Place) → reach_at behind ≢ Untold → Passes s formula (in_log d behind) (line_of (Deleted number)) (in_log (without d number) behind)
    deletion_leads behind told = record {
      form = one_id;
      moves = (true, (λ _. (λ _. tt, λ _. refl)), when-true _ B1 _ _ (has_deletions (reach_at behind) told) (one_left (λ e. in_log e behind)));
      tight = tt;
    }

    -- as many steps are to come as before
    deletion_spends : (reach : Reach) (asked : Asked) (left : ℕ) → reach ≢ Untold
        → Passes s formula (in_query reach asked d left) (line_of (Deleted number)) (in_query reach asked (without d number) left)
    deletion_spends reach asked left told = record {
      form = one_id;
      moves = (true, (λ _. (λ _. tt, λ _. refl)), when-true _ B1 _ _ (has_deletions reach told) (one_left (λ e. in_query reach asked e left)));
      tight = tt;
    }

    deletion_spends_walk : (rows left : ℕ) → Passes s formula (in_walk rows d left) (line_of (Deleted number)) (in_walk rows (without d number) left)
    deletion_spends_walk rows left = record {
      form = one_id;
      moves = (true, (λ _. (λ _. tt, λ _. refl)), one_left (λ e. in_walk rows e left));
      tight = tt;
    }

  log_runs : (d : Derivation) (behind : Place) (front : List Entry) (last : Step) → reach_at behind ≢ Untold
      → IsGoodLog d.formula.variables (length d.formula.clauses) (held_of d) (front ++ Derived last ∷ []) → last.clause ≡ [] → IsFreshLog (held_of d) front
      → Runs s formula (in_log d behind) (lines_of (front ++ Derived last ∷ [])) behind
  log_runs d behind [] last told good empty fresh = (behind, step_leads d last good.0 behind true (is_empty-nil last.clause empty), refl)
  log_runs d behind (Derived step ∷ more) last told good empty fresh = (
    in_log (with_derived d step.clause) behind,
    step_leads d step good.0 behind false (is_empty-some step.clause fresh.0.1),
    log_runs (with_derived d step.clause) behind more last told
        (subst (λ held. IsGoodLog d.formula.variables (length d.formula.clauses) held (more ++ Derived last ∷ [])) (held_of-with_derived d step.clause) good.1) empty
        (subst (λ held. IsFreshLog held more) (held_of-with_derived d step.clause) fresh.1),
  )
  log_runs d behind (Deleted number ∷ more) last told good empty fresh = (
    in_log (without d number) behind,
    deletion_leads d number good.0 behind told,
    log_runs (without d number) behind more last told
        (subst (λ held. IsGoodLog d.formula.variables (length d.formula.clauses) held (more ++ Derived last ∷ [])) (held_of-deletion d number good.0) good.1) empty
        (subst (λ held. IsFreshLog held more) (held_of-deletion d number good.0) fresh),
  )

  -- a log that refutes a formula leads behind it
  pub refutation_runs : (f : Formula) (limit : ℕ) (log : List Entry) (behind : Place) → reach_at behind ≢ Untold → IsRefutation f limit log
      → Runs s formula (in_log (opened f) behind) (lines_of log) behind
  refutation_runs f limit log behind told r =
      let front = r.ends.0 in
      let last = r.ends.1 in
      subst (λ l. Runs s formula (in_log (opened f) behind) (lines_of l) behind) (sym r.ends.2)
      (log_runs (opened f) behind front last told
      (subst (λ held. IsGoodLog f.variables (length f.clauses) held (front ++ Derived last ∷ [])) (sym (append-nil f.clauses))
      (subst (IsGoodLog f.variables (length f.clauses) f.clauses) r.ends.2 r.good)) r.ends.3
      (subst (λ held. IsFreshLog held front) (sym (append-nil f.clauses)) r.ends.4))

  -- a step leads on in a log that is to spend its query
  abbrev IsSpending : (Derivation → ℕ → Place) → Type 0
  IsSpending at =
      (d : Derivation) (step : Step) → IsGoodStep d.formula.variables (held_of d) step → (left : ℕ) → step.clause ≢ [] → IsFresh (held_of d) step.clause
      → Passes s formula (at d (suc left)) (line_of (Derived step)) (at (with_derived d step.clause) left)

  -- and a deletion
  abbrev IsLessening : (Derivation → ℕ → Place) → Type 0
  IsLessening at =
      (d : Derivation) (number : ℕ) → IsDeletion d.formula.variables (length d.formula.clauses) (held_of d) number → (left : ℕ)
      → Passes s formula (at d left) (line_of (Deleted number)) (at (without d number) left)

  spending_runs : (at : Derivation → ℕ → Place) → IsSpending at → IsLessening at → (d : Derivation) (log : List Entry)
      → IsGoodLog d.formula.variables (length d.formula.clauses) (held_of d) log → IsFreshLog (held_of d) log
      → Runs s formula (at d (length (steps_of log))) (lines_of log) (at (after_all d log) 0)
  spending_runs at steps deletions d [] good fresh = refl
  spending_runs at steps deletions d (Derived step ∷ more) good fresh = (
    at (with_derived d step.clause) (length (steps_of more)),
    steps d step good.0 (length (steps_of more)) fresh.0.1 fresh.0.0,
    spending_runs at steps deletions (with_derived d step.clause) more
        (subst (λ held. IsGoodLog d.formula.variables (length d.formula.clauses) held more) (held_of-with_derived d step.clause) good.1)
        (subst (λ held. IsFreshLog held more) (held_of-with_derived d step.clause) fresh.1),
  )
  spending_runs at steps deletions d (Deleted number ∷ more) good fresh = (
    at (without d number) (length (steps_of more)),
    deletions d number good.0 (length (steps_of more)),
    spending_runs at steps deletions (without d number) more
        (subst (λ held. IsGoodLog d.formula.variables (length d.formula.clauses) held more) (held_of-deletion d number good.0) good.1)
        (subst (λ held. IsFreshLog held more) (held_of-deletion d number good.0) fresh),
  )

  all_spent : (at : Derivation → ℕ → Place) → IsSpending at → IsLessening at → (f : Formula) (limit : ℕ) (log : List Entry) → IsSpent f limit log
      → Runs s formula (at (opened f) limit) (lines_of log) (at (after_all (opened f) log) 0)
  all_spent at steps deletions f limit log p =
      subst (λ n. Runs s formula (at (opened f) n) (lines_of log) (at (after_all (opened f) log) 0)) p.all
      (spending_runs at steps deletions (opened f) log (subst (λ held. IsGoodLog f.variables (length f.clauses) held log) (sym (append-nil f.clauses)) p.good)
      (subst (λ held. IsFreshLog held log) (sym (append-nil f.clauses)) p.fresh))

  -- a log that spends a formula leads to where no step is to come
  pub spent_runs : (f : Formula) (limit : ℕ) (log : List Entry) (reach : Reach) (asked : Asked) → reach ≢ Untold → IsSpent f limit log
      → Runs s formula (in_query reach asked (opened f) limit) (lines_of log) (in_query reach asked (after_all (opened f) log) 0)
  spent_runs f limit log reach asked told p =
      all_spent (λ d n. in_query reach asked d n) (λ d step good left some fresh. step_spends d step good reach asked left some fresh)
      (λ d number deletion left. deletion_spends d number deletion reach asked left told) f limit log p

  pub walk_spent_runs : (f : Formula) (limit : ℕ) (log : List Entry) (rows : ℕ) → IsSpent f limit log
      → Runs s formula (in_walk rows (opened f) limit) (lines_of log) (in_walk rows (after_all (opened f) log) 0)
  walk_spent_runs f limit log rows p =
      all_spent (λ d n. in_walk rows d n) (λ d step good left some fresh. step_spends_walk d step good rows left some fresh)
      (λ d number deletion left. deletion_spends_walk d number deletion rows left) f limit log p
