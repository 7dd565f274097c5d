-- Hints that are followed in two parts.
use Rattle.std.proofs.Common.{◌≡◌, ℕ, List, [], ◌∷◌, ◌++◌, Option, Some, None, refl}
use Rattle.clause_core.specs.declared.literal.Lit.{Lit}
use Rattle.clause_core.specs.declared.truth.Truth.{Truth}
use Rattle.clause_core.specs.declared.status.Status.{Status}
use Rattle.clause_core.specs.declared.status.Status.TheVariants.{Falsified, Unit as UnitLiteral, Neither}
use Rattle.clause_core.specs.declared.check.Outcome.{Outcome}
use Rattle.clause_core.specs.declared.check.Outcome.TheVariants.{NoConflict}
use Rattle.clause_core.specs.Values.{put_true}
use Rattle.clause_core.specs.Steps.{clause_status, clause_at, after_status, at_hint, follow_hints}
use Rattle.clause_core.specs.Undoing.{values_after_status, values_after_hint, after_hints}

behind-status : (h : ℕ) (s : Status) (vs : List Truth) (front whole rest : List Truth → Outcome) (to : List Truth → List Truth) → ((next : List Truth) → front next ≡ NoConflict → whole next ≡ rest (to next)) → after_status h s vs front ≡ NoConflict → after_status h s vs whole ≡ rest (values_after_status s vs to)
behind-status h Falsified vs front whole rest to step e = cc
behind-status h (UnitLiteral l) vs front whole rest to step e = step (put_true vs l) e
behind-status h Neither vs front whole rest to step e = cc

behind-hint : (h : ℕ) (o : Option (List Lit)) (vs : List Truth) (front whole rest : List Truth → Outcome) (to : List Truth → List Truth) → ((next : List Truth) → front next ≡ NoConflict → whole next ≡ rest (to next)) → at_hint h o vs front ≡ NoConflict → at_hint h o vs whole ≡ rest (values_after_hint o vs to)
behind-hint h None vs front whole rest to step e = cc
behind-hint h (Some c) vs front whole rest to step e = behind-status h (clause_status vs c) vs front whole rest to step e

-- where the front ends without a conflict, the rest is followed from the values that it leaves
pub follow_hints-append : (held : List (List Lit)) (front rest : List ℕ) (vs : List Truth) → follow_hints held vs front ≡ NoConflict → follow_hints held vs (front ++ rest) ≡ follow_hints held (after_hints held vs front) rest
follow_hints-append held [] rest vs e = refl
follow_hints-append held (h ∷ hs) rest vs e =
    behind-hint h (clause_at held h) vs (λ next. follow_hints held next hs) (λ next. follow_hints held next (hs ++ rest)) (λ end. follow_hints held end rest) (λ next. after_hints held next hs)
    (λ next ends. follow_hints-append held hs rest next ends) e
