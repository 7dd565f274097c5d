-- The clause that a hint names is held as it was, or is always true, and then the hint is refused.
use Rattle.std.proofs.Common.{◌≡◌, ℕ, zero, suc, ◌+◌, inl, inr, ◌⊎◌, List, [], ◌∷◌, ◌++◌, Option, Some, None, set, replicate, refl, ap, subst}
use Rattle.std.specs.Prelude.{slice_get}
use Rattle.clause_core.specs.declared.literal.Lit.{Lit}
use Rattle.clause_core.specs.declared.truth.Truth.{Truth}
use Rattle.clause_core.specs.declared.truth.Truth.TheVariants.{Open}
use Rattle.clause_core.specs.declared.status.Status.{Status}
use Rattle.clause_core.specs.declared.status.Status.TheVariants.{Falsified, Unit as UnitLiteral, Neither}
use Rattle.clause_core.specs.declared.check.Outcome.{Outcome}
use Rattle.clause_core.specs.declared.check.Outcome.TheVariants.{Accepted}
use Rattle.clause_core.specs.Deletions.{always, Thinned, whole, derived, deleted}
use Rattle.clause_core.specs.Steps.{clause_status, clause_at, after_status, at_hint, follow_hints, assume_false}
use Rattle.clause_core.specs.Values.{put_true}
use Rattle.clause_core.proofs.Always.{clause_status-always}
use Rattle.freshness_laws.specs.Deletions.{AcceptedOverAll}

-- each clause that is held is that of all at its place, or always true
abbrev Stands : List (List Lit) → List (List Lit) → Type 0
Stands [] [] = Unit {0}
Stands [] (d ∷ ds) = ⊥
Stands (c ∷ cs) [] = ⊥
Stands (c ∷ cs) (d ∷ ds) = ((d ≡ c) ⊎ (d ≡ always)) × Stands cs ds

stands-same : (cs : List (List Lit)) → Stands cs cs
stands-same [] = tt
stands-same (c ∷ cs) = (inl refl, stands-same cs)

stands-push : (cs ds : List (List Lit)) (c : List Lit) → Stands cs ds → Stands (cs ++ c ∷ []) (ds ++ c ∷ [])
stands-push [] [] c s = (inl refl, tt)
stands-push [] (d ∷ ds) c s = absurd s
stands-push (e ∷ cs) [] c s = absurd s
stands-push (e ∷ cs) (d ∷ ds) c s = (s.0, stands-push cs ds c s.1)

stands-set : (cs ds : List (List Lit)) (i : ℕ) → Stands cs ds → Stands cs (set ds i always)
stands-set [] [] i s = s
stands-set [] (d ∷ ds) i s = absurd s
stands-set (c ∷ cs) [] i s = absurd s
stands-set (c ∷ cs) (d ∷ ds) zero s = (inr refl, s.1)
stands-set (c ∷ cs) (d ∷ ds) (suc i) s = (s.0, stands-set cs ds i s.1)

stands : (all held : List (List Lit)) → Thinned all held → Stands all held
stands all held (whole cs) = stands-same cs
stands all held (derived cs ds c t) = stands-push cs ds c (stands cs ds t)
stands all held (deleted cs ds i j c part t apart at_i at_j within) = stands-set cs ds i (stands cs ds t)

stands-at : (cs ds : List (List Lit)) (i : ℕ) → Stands cs ds → (slice_get ds i ≡ slice_get cs i) ⊎ (slice_get ds i ≡ Some always)
stands-at [] [] i s = inl refl
stands-at [] (d ∷ ds) i s = absurd s
stands-at (c ∷ cs) [] i s = absurd s
stands-at (c ∷ cs) (d ∷ ds) zero s = elim s.0 [
  | inl same ↦ inl (ap Some same)
  | inr gone ↦ inr (ap Some gone)
]
stands-at (c ∷ cs) (d ∷ ds) (suc i) s = stands-at cs ds i s.1

stands-numbered : (cs ds : List (List Lit)) (h : ℕ) → Stands cs ds → (clause_at ds h ≡ clause_at cs h) ⊎ (clause_at ds h ≡ Some always)
stands-numbered cs ds zero s = inl refl
stands-numbered cs ds (suc i) s = stands-at cs ds i s

by_status : (h : ℕ) (vs : List Truth) (s : Status) (go further : List Truth → Outcome) → ((w : List Truth) → go w ≡ Accepted → further w ≡ Accepted)
    → after_status h s vs go ≡ Accepted → after_status h s vs further ≡ Accepted
by_status h vs Falsified go further goes is = refl
by_status h vs (UnitLiteral l) go further goes is = goes (put_true vs l) is
by_status h vs Neither go further goes is = cc

by_clause : (h : ℕ) (vs : List Truth) (o : Option (List Lit)) (go further : List Truth → Outcome) → ((w : List Truth) → go w ≡ Accepted → further w ≡ Accepted)
    → at_hint h o vs go ≡ Accepted → at_hint h o vs further ≡ Accepted
by_clause h vs None go further goes is = cc
by_clause h vs (Some c) go further goes is = by_status h vs (clause_status vs c) go further goes is

gone : (h : ℕ) (vs : List Truth) (s : Status) (go : List Truth → Outcome) → s ≡ Neither → after_status h s vs go ≡ Accepted → ⊥
gone h vs Falsified go e is = cc
gone h vs (UnitLiteral l) go e is = cc
gone h vs Neither go e is = cc

by_hint : (h : ℕ) (vs : List Truth) (before now : Option (List Lit)) (go further : List Truth → Outcome) → (now ≡ before) ⊎ (now ≡ Some always)
    → ((w : List Truth) → go w ≡ Accepted → further w ≡ Accepted) → at_hint h now vs go ≡ Accepted → at_hint h before vs further ≡ Accepted
by_hint h vs before now go further (inl same) goes is = by_clause h vs before go further goes (subst (λ o. at_hint h o vs go ≡ Accepted) same is)
by_hint h vs before now go further (inr is_gone) goes is =
    absurd (gone h vs (clause_status vs always) go (clause_status-always vs) (subst (λ o. at_hint h o vs go ≡ Accepted) is_gone is))

follow : (all held : List (List Lit)) → Stands all held → (hints : List ℕ) (vs : List Truth) → follow_hints held vs hints ≡ Accepted → follow_hints all vs hints ≡ Accepted
follow all held s [] vs is = is
follow all held s (h ∷ hs) vs is =
    by_hint h vs (clause_at all h) (clause_at held h) (λ next. follow_hints held next hs) (λ next. follow_hints all next hs) (stands-numbered all held h s)
    (λ w more. follow all held s hs w more) is

pub accepted_over_all : AcceptedOverAll
accepted_over_all variables all held clause hints t is = follow all held (stands all held t) hints (assume_false (replicate (variables + 1) Open) clause) is
