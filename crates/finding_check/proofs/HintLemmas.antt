-- Hints that are cut short name the same clauses, and literals whose variables are too large do not rise.
use Rattle.std.proofs.Common.{◌≡◌, ℕ, zero, suc, ◌-◌, ◌^◌, ◌<◌, ◌≤◌, Bool, true, false, not, ◌&&◌, List, [], ◌∷◌, length, refl, sym, ap, ◌∙◌, arith, ℤ, pos, inl, inr, get_or}
use Rattle.std.specs.Prelude.{nat_lt, nat_le, if◌then◌else◌, Option, Some, None, Result, Ok, Err, IfOk}
use Rattle.std.specs.Int.RustNames.{unsigned_abs}
use Rattle.std.proofs.lemmas.Bool.{false≢true, cases_lt, lt-ltb, leb-true, false_from_ne_true, and_right, and_left}
use Rattle.std.proofs.lemmas.Option.{slice_get_past}
use Rattle.clause_core.specs.declared.literal.Lit.{Lit}
use Rattle.clause_core.specs.declared.truth.Truth.{Truth}
use Rattle.clause_core.specs.declared.check.Outcome.{Outcome}
use Rattle.clause_core.specs.declared.status.Status.{Status}
use Rattle.clause_core.specs.declared.status.Status.TheVariants.{Falsified, Unit as UnitLiteral, Neither}
use Rattle.clause_core.specs.Clauses.{fits_in, rises}
use Rattle.clause_core.specs.Steps.{clause_at, clause_status, after_status, at_hint, follow_hints, outcome}
use Rattle.clause_core.specs.Values.{put_true}
use Rattle.clause_core.specs.declared.step.Step.{Step}
use Rattle.finding_lines.specs.declared.line.Line.TheVariants as lines
use Rattle.derivation_check.specs.Checks.{Derivation, held_of}
use Rattle.judgement.specs.Steps.{clause_of, hint_of, hints_of, step_of, with_derived, is_accepted, is_empty}
use Rattle.judgement.specs.Places.{Place, in_log, goes, fails}
use Rattle.judgement.specs.Tests.{when, in_log_next}
use Rattle.judgement.specs.declared.answers.Reason.TheVariants.{B2, B6, B10}
use Rattle.finding_check.specs.StepMoves.{log_moved, spent_moved, spent_next}
use Rattle.finding_check.specs.Numbers.{short_hint, short_hints}

-- past what is held there is no clause
clause_at-past : (held : List (List Lit)) (n : ℕ) → length held < n → clause_at held n ≡ None
clause_at-past held zero past = refl
clause_at-past held (suc i) past = slice_get_past held i (omega arith)

same_clause : (held : List (List Lit)) (n : ℤ) → length held < 2 ^ 32 → clause_at held (short_hint n) ≡ clause_at held (hint_of n)
same_clause held n few = at (nat_lt (hint_of n) (2 ^ 32)) refl where
  at : (b : Bool) → nat_lt (hint_of n) (2 ^ 32) ≡ b → clause_at held (if b then hint_of n else 0) ≡ clause_at held (hint_of n)
  at true e = refl
  at false e =
      elim (cases_lt (hint_of n) (2 ^ 32)) [
        | inl less ↦ absurd (false≢true (sym e ∙ lt-ltb (hint_of n) (2 ^ 32) less))
        | inr more ↦ sym (clause_at-past held (hint_of n) (omega arith))
      ]

after_same : (h k : ℕ) (status : Status) (vs : List Truth) (go on : List Truth → Outcome) → ((ws : List Truth) → is_accepted (go ws) ≡ is_accepted (on ws))
    → is_accepted (after_status h status vs go) ≡ is_accepted (after_status k status vs on)
after_same h k Falsified vs go on same = refl
after_same h k (UnitLiteral l) vs go on same = same (put_true vs l)
after_same h k Neither vs go on same = refl

at_same : (h k : ℕ) (clause : Option (List Lit)) (vs : List Truth) (go on : List Truth → Outcome) → ((ws : List Truth) → is_accepted (go ws) ≡ is_accepted (on ws))
    → is_accepted (at_hint h clause vs go) ≡ is_accepted (at_hint k clause vs on)
at_same h k None vs go on same = refl
at_same h k (Some clause) vs go on same = after_same h k (clause_status vs clause) vs go on same

follow_same : (held : List (List Lit)) (hints : List ℤ) (vs : List Truth) → length held < 2 ^ 32
    → is_accepted (follow_hints held vs (short_hints hints)) ≡ is_accepted (follow_hints held vs (hints_of hints))
follow_same held [] vs few = refl
follow_same held (n ∷ ns) vs few =
    ap (λ clause. is_accepted (at_hint (short_hint n) clause vs (λ next. follow_hints held next (short_hints ns)))) (same_clause held n few)
    ∙ at_same (short_hint n) (hint_of n) (clause_at held (hint_of n)) vs (λ next. follow_hints held next (short_hints ns)) (λ next. follow_hints held next (hints_of ns))
    (λ ws. follow_same held ns ws few)

-- a step with its hints cut short is accepted exactly where it is with its own
pub accepted_same : (variables : ℕ) (held : List (List Lit)) (clause : List Lit) (hints : List ℤ) → length held < 2 ^ 32
    → is_accepted (outcome variables held clause (short_hints hints)) ≡ is_accepted (outcome variables held clause (hints_of hints))
accepted_same variables held clause hints few = follow_same held hints _ few

too_large : (variables low : ℕ) (numbers : List ℤ) (i : ℕ) → i < length numbers → variables < unsigned_abs (get_or numbers i (pos 0))
    → fits_in variables low (clause_of numbers) ≡ false
too_large variables low [] i inside large = absurd (omega (arith, inside))
too_large variables low (n ∷ ns) zero inside large =
    and_right (nat_lt low (unsigned_abs n)) _ (and_left (nat_le (unsigned_abs n) variables) (fits_in variables (unsigned_abs n) (clause_of ns))
    (false_from_ne_true (nat_le (unsigned_abs n) variables) (λ le. let below : unsigned_abs n ≤ variables = leb-true (unsigned_abs n) variables le in omega arith)))
too_large variables low (n ∷ ns) (suc i) inside large =
    and_right (nat_lt low (unsigned_abs n)) _ (and_right (nat_le (unsigned_abs n) variables) (fits_in variables (unsigned_abs n) (clause_of ns))
    (too_large variables (unsigned_abs n) ns i (omega arith) large))

-- numbers rise to no more than a bound only where none is above it
pub rises-too_large : (variables : ℕ) (numbers : List ℤ) (i : ℕ) → i < length numbers → variables < unsigned_abs (get_or numbers i (pos 0)) → rises variables (clause_of numbers) ≡ false
rises-too_large variables numbers i inside large = too_large variables 0 numbers i inside large

same_step : (step : Step) (clause : List Lit) (hints : List ℕ) → step.clause ≡ clause → step.hints ≡ hints → step ≡ record { clause = clause; hints = hints }
same_step step clause hints c h = ap (λ (k : List Lit). let st : Step = record { clause = k; hints = step.hints } in st) c ∙ ap (λ (k : List ℕ). let st : Step = record { clause = clause; hints = k } in st) h

-- what comes of a step is the same with its hints cut short
pub log_moved-short : (d : Derivation) (behind : Place) (literals hints : List ℤ) (step : Step) → length (held_of d) < 2 ^ 32 → step.clause ≡ clause_of literals → step.hints ≡ short_hints hints
    → rises d.formula.variables (clause_of literals) ≡ true → log_moved d behind step ≡ in_log_next d behind (lines.Derived literals hints)
log_moved-short d behind literals hints step few clause short ordered =
    let is : step ≡ record { clause = clause_of literals; hints = short_hints hints } = same_step step (clause_of literals) (short_hints hints) clause short in
    ap (log_moved d behind) is
    ∙ ap (λ b. when b B6 (goes (if is_empty (clause_of literals) then behind else in_log (with_derived d (clause_of literals)) behind)))
    (accepted_same d.formula.variables (held_of d) (clause_of literals) hints few)
    ∙ ap (λ b. when b B2 (log_moved d behind (step_of literals hints))) (sym ordered)

pub spent_moved-short : (place : Derivation → ℕ → Place) (d : Derivation) (left : ℕ) (fresh : Bool) (literals hints : List ℤ) (step : Step) → length (held_of d) < 2 ^ 32
    → step.clause ≡ clause_of literals → step.hints ≡ short_hints hints → rises d.formula.variables (clause_of literals) ≡ true
    → spent_moved place d left fresh step ≡ spent_next place d left fresh literals hints
spent_moved-short place d left fresh literals hints step few clause short ordered =
    let is : step ≡ record { clause = clause_of literals; hints = short_hints hints } = same_step step (clause_of literals) (short_hints hints) clause short in
    ap (spent_moved place d left fresh) is
    ∙ ap (λ b. when b B6 (when (not (is_empty (clause_of literals)) && (fresh && nat_lt 0 left)) B10 (goes (place (with_derived d (clause_of literals)) (left - 1)))))
    (accepted_same d.formula.variables (held_of d) (clause_of literals) hints few)
    ∙ ap (λ b. when b B2 (spent_moved place d left fresh (step_of literals hints))) (sym ordered)

-- a step whose variables are not the formula's
pub in_log-unordered : (d : Derivation) (behind : Place) (literals hints : List ℤ) → rises d.formula.variables (clause_of literals) ≡ false
    → fails B2 ≡ in_log_next d behind (lines.Derived literals hints)
in_log-unordered d behind literals hints e =
    ap (λ b. when b B2 (log_moved d behind (step_of literals hints))) (sym e)

pub spent-unordered : (place : Derivation → ℕ → Place) (d : Derivation) (left : ℕ) (told : Bool) (literals hints : List ℤ) → rises d.formula.variables (clause_of literals) ≡ false
    → fails B2 ≡ spent_next place d left told literals hints
spent-unordered place d left told literals hints e =
    ap (λ b. when b B2 (spent_moved place d left told (step_of literals hints))) (sym e)

pub IfOk-map : {A E : Type 0} {P Q : A → Type 0} → (r : Result A E) → ((x : A) → P x → Q x) → IfOk r P → IfOk r Q
IfOk-map (Ok x) h p = h x p
IfOk-map (Err e) h p = tt
