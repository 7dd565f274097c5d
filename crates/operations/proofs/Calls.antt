-- What functions make of values that are not one and not three.
use Rattle.std.proofs.Common.{◌≡◌, ◌≢◌, ℕ, suc, ◌∷◌, [], List, length, refl, sym, ◌∙◌, ap, ℤ, pos}
use Rattle.plc_types.specs.declared.elementary.Elementary.{Elementary}
use Rattle.plc_types.specs.declared.function.Function.{Function}
use Rattle.plc_types.specs.declared.function.Function.TheVariants as functions
use Rattle.plc_types.specs.Types.{wrap_to}
use Rattle.program_tree.specs.View.{arguments_view}
use Rattle.program_tree.specs.declared.typed.TypedExpr.{TypedExpr}
use Rattle.meaning.specs.Values.{State, Callees, values_of, function_result, called, least, greatest, lesser, greater}
use Rattle.operations.specs.Joined.{joined, joined_on, all_joined}

least_joined : (v : ℤ) (ws : List ℤ) → least v ws ≡ joined_on functions.Minimum v ws
least_joined v [] = refl
least_joined v (w ∷ ws) = least_joined (lesser v w) ws

greatest_joined : (v : ℤ) (ws : List ℤ) → greatest v ws ≡ joined_on functions.Maximum v ws
greatest_joined v [] = refl
greatest_joined v (w ∷ ws) = greatest_joined (greater v w) ws

-- a function of which 0 is made by each step
none_joined : (f : Function) → ((v w : ℤ) → joined f v w ≡ pos 0) → (ws : List ℤ) → joined_on f (pos 0) ws ≡ pos 0
none_joined f e [] = refl
none_joined f e (w ∷ ws) = rw (e (pos 0) w) (none_joined f e ws)

last_joined : (f : Function) → ((v w : ℤ) → joined f v w ≡ pos 0) → (v : ℤ) (ws : List ℤ) → length ws ≢ 0 → pos 0 ≡ joined_on f v ws
last_joined f e v [] some = absurd (some refl)
last_joined f e v (w ∷ ws) some = rw (e v w, none_joined f e ws) refl

result_joined : (f : Function) (t : Elementary) (v : ℤ) (ws : List ℤ) → length ws ≢ 0 → length ws ≢ 2 → function_result f t (v ∷ ws) ≡ joined_on f v ws
result_joined (functions.Convert from) t v [] some other = absurd (some refl)
result_joined (functions.Convert from) t v (w ∷ ws) some other = last_joined (functions.Convert from) (λ x y. refl) v (w ∷ ws) some
result_joined functions.Absolute t v [] some other = absurd (some refl)
result_joined functions.Absolute t v (w ∷ ws) some other = last_joined functions.Absolute (λ x y. refl) v (w ∷ ws) some
result_joined functions.Minimum t v ws some other = least_joined v ws
result_joined functions.Maximum t v ws some other = greatest_joined v ws
result_joined functions.Limit t v [] some other = absurd (some refl)
result_joined functions.Limit t v (w ∷ []) some other = last_joined functions.Limit (λ x y. refl) v (w ∷ []) some
result_joined functions.Limit t v (w ∷ x ∷ []) some other = absurd (other refl)
result_joined functions.Limit t v (w ∷ x ∷ y ∷ ws) some other = last_joined functions.Limit (λ x y. refl) v (w ∷ x ∷ y ∷ ws) some
result_joined functions.Select t v [] some other = absurd (some refl)
result_joined functions.Select t v (w ∷ []) some other = last_joined functions.Select (λ x y. refl) v (w ∷ []) some
result_joined functions.Select t v (w ∷ x ∷ []) some other = absurd (other refl)
result_joined functions.Select t v (w ∷ x ∷ y ∷ ws) some other = last_joined functions.Select (λ x y. refl) v (w ∷ x ∷ y ∷ ws) some
result_joined (functions.Shift s n) t v [] some other = absurd (some refl)
result_joined (functions.Shift s n) t v (w ∷ ws) some other = last_joined (functions.Shift s n) (λ x y. refl) v (w ∷ ws) some

called_joined : (f : Function) (t : Elementary) (v : ℤ) (ws : List ℤ) → length ws ≢ 0 → length ws ≢ 2 → called f t (v ∷ ws) ≡ wrap_to t (joined_on f v ws)
called_joined f t v ws some other = ap (λ (x : ℤ). wrap_to t x) (result_joined f t v ws some other)

called_none : (f : Function) (t : Elementary) → called f t [] ≡ wrap_to t (pos 0)
called_none (functions.Convert from) t = refl
called_none functions.Absolute t = refl
called_none functions.Minimum t = refl
called_none functions.Maximum t = refl
called_none functions.Limit t = refl
called_none functions.Select t = refl
called_none (functions.Shift s n) t = refl

-- MIN and MAX are joined from left to right; the other functions make 0 of so many values
pub called_all_joined : (f : Function) (t : Elementary) (vs : List ℤ) → length vs ≢ 1 → length vs ≢ 3 → called f t vs ≡ wrap_to t (all_joined f vs)
called_all_joined f t [] some other = called_none f t
called_all_joined f t (v ∷ vs) some other = called_joined f t v vs (λ e. some (ap suc e)) (λ e. other (ap suc e))

pub values_length : (callees : Callees) (base : ℕ) (es : List TypedExpr) (s : State) → length (values_of callees base (arguments_view es) s) ≡ length es
values_length callees base [] s = refl
values_length callees base (e ∷ es) s = ap suc (values_length callees base es s)

pub called_is : (callees : Callees) (base : ℕ) (f : Function) (t : Elementary) (es : List TypedExpr) (s : State) (whole given : ℤ) → length es ≢ 1 → length es ≢ 3
    → whole ≡ all_joined f (values_of callees base (arguments_view es) s) → given ≡ wrap_to t whole → given ≡ called f t (values_of callees base (arguments_view es) s)
called_is callees base f t es s whole given some other is made =
    let e = values_length callees base es s in
    made ∙ ap (λ (x : ℤ). wrap_to t x) is ∙ sym (called_all_joined f t _ (λ h. some (sym e ∙ h)) (λ h. other (sym e ∙ h)))
