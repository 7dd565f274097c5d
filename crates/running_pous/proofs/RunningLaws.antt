-- A POU may run exactly where the PROGRAM reaches it, and what a POU uses that may run may run too.
use Rattle.std.proofs.Common.{◌≡◌, ℕ, ◌<◌, ◌≤◌, true, ◌||◌, List, [], ◌∷◌, length, get_or, ◌↔◌, ◌⊎◌, inl, inr, ⊎_elim, sym, ap, subst, ◌∙◌}
use Rattle.std.specs.Prelude.{◌==◌}
use Rattle.std.proofs.lemmas.Bool.{cases_lt, eqb-true, eq-eqb, or_cases, or_left, or_right}
use Rattle.std.proofs.lemmas.List.{length-map, get_or-map, get_or_past}
use Rattle.call_order.specs.Uses.{Graph, uses_at, is_among, Reaches, directly, leads_to}
use Rattle.call_order.specs.Parts.{IsReached}
use Rattle.call_order.proofs.Circles.{reaches-step}
use Rattle.call_order.proofs.Members.{is_among-head, is_among-tail, is_among-cases}
use Rattle.call_order.proofs.Ways.{leads_reaches}
use Rattle.program_tree.specs.Tree.{Statements, CalledData}
use Rattle.meaning.specs.Calls.{nothing}
use Rattle.running_pous.specs.Uses.{uses_of_all, uses_of_called}
use Rattle.running_pous.specs.Running.{uses_by, is_led_to, may_run}

module _ (g : Graph) where
  led_by : (s n : ℕ) → (n ≡ s) ⊎ Reaches g s n → (s == n || leads_to g s n) ≡ true
  led_by s n (inl same) = or_left _ _ (eq-eqb s n (sym same))
  led_by s n (inr way) = or_right _ _ ((leads_reaches g s n).1 way)

  led_first : (first : List ℕ) (n : ℕ) → is_among n first ≡ true → is_led_to g first n ≡ true
  led_first [] n there = absurd (let h : ⊥ = cc in h)
  led_first (s ∷ ss) n there = ⊎_elim (λ (same : n ≡ s). or_left _ _ (led_by s n (inl same))) (λ more. or_right _ _ (led_first ss n more)) (is_among-cases n s ss there)

  led_further : (first : List ℕ) (start n : ℕ) → is_among start first ≡ true → Reaches g start n → is_led_to g first n ≡ true
  led_further [] start n there way = absurd (let h : ⊥ = cc in h)
  led_further (s ∷ ss) start n there way =
      ⊎_elim (λ (same : start ≡ s). or_left _ _ (led_by s n (inr (subst (λ (m : ℕ). Reaches g m n) same way)))) (λ more. or_right _ _ (led_further ss start n more way)) (is_among-cases start s ss there)

  -- a way from one of some numbers is one from one of more
  more_starts : (s : ℕ) (ss : List ℕ) (n : ℕ) → IsReached g ss n → IsReached g (s ∷ ss) n
  more_starts s ss n (inl there) = inl (is_among-tail n s ss there)
  more_starts s ss n (inr way) = inr (way.0, is_among-tail way.0 s ss way.1, way.2)

  reached_by : (s : ℕ) (ss : List ℕ) (n : ℕ) → (s == n || leads_to g s n) ≡ true → IsReached g (s ∷ ss) n
  reached_by s ss n h =
      ⊎_elim (λ same. inl (subst (λ (m : ℕ). is_among m (s ∷ ss) ≡ true) (eqb-true s n same) (is_among-head s ss)))
      (λ leads. inr (s, is_among-head s ss, (leads_reaches g s n).0 leads)) (or_cases _ _ h)

  reached_from : (first : List ℕ) (n : ℕ) → is_led_to g first n ≡ true → IsReached g first n
  reached_from [] n h = absurd (let none : ⊥ = cc in none)
  reached_from (s ∷ ss) n h = ⊎_elim (λ here. reached_by s ss n here) (λ more. more_starts s ss n (reached_from ss n more)) (or_cases _ _ h)

  led_reached : (first : List ℕ) (n : ℕ) → IsReached g first n → is_led_to g first n ≡ true
  led_reached first n (inl there) = led_first first n there
  led_reached first n (inr way) = led_further first way.0 n way.1 way.2

  -- `is_led_to` is the test of `IsReached`
  pub led_exact : (first : List ℕ) (n : ℕ) → (is_led_to g first n ≡ true) ↔ IsReached g first n
  led_exact first n = (reached_from first n, led_reached first n)

  -- what is used by a number that is reached is reached
  further : (first : List ℕ) (n u : ℕ) → IsReached g first n → is_among u (uses_at g n) ≡ true → IsReached g first u
  further first n u (inl there) used = inr (n, there, directly n u used)
  further first n u (inr way) used = inr (way.0, way.1, reaches-step g way.0 n u way.2 used)

  led_used : (first : List ℕ) (n u : ℕ) → is_led_to g first n ≡ true → is_among u (uses_at g n) ≡ true → is_led_to g first u ≡ true
  led_used first n u is used = led_reached first u (further first n u (reached_from first n is) used)

-- what the POU of a number uses stands in the graph
uses_are : (cs : List CalledData) (n : ℕ) → uses_at (uses_by cs) n ≡ uses_of_called (get_or cs n nothing)
uses_are cs n = ⊎_elim within past (cases_lt n (length cs))
  where
    within : n < length cs → uses_at (uses_by cs) n ≡ uses_of_called (get_or cs n nothing)
    within low = get_or-map uses_of_called cs n nothing [] low

    past : length cs ≤ n → uses_at (uses_by cs) n ≡ uses_of_called (get_or cs n nothing)
    past high =
        let long = length-map cs uses_of_called in
        get_or_past (uses_by cs) n [] (subst (λ (m : ℕ). m ≤ n) (sym long) high) ∙ ap uses_of_called (sym (get_or_past cs n nothing high))

-- what the PROGRAM uses may run
pub first_runs : (cs : List CalledData) (body : Statements) (u : ℕ) → is_among u (uses_of_all body) ≡ true → may_run cs body u ≡ true
first_runs cs body u there = led_first (uses_by cs) (uses_of_all body) u there

-- what a POU uses that may run may run
pub used_runs : (cs : List CalledData) (body : Statements) (n u : ℕ) → may_run cs body n ≡ true → is_among u (uses_of_called (get_or cs n nothing)) ≡ true → may_run cs body u ≡ true
used_runs cs body n u is used = led_used (uses_by cs) (uses_of_all body) n u is (subst (λ (l : List ℕ). is_among u l ≡ true) (sym (uses_are cs n)) used)
