-- Where the types of a file lead to, step by step.
use Rattle.std.proofs.Common.{◌≡◌, ◌⊎◌, inl, inr, ℕ, ◌+◌, ◌<◌, ◌≤◌, List, length, map, get_or, Option, Some, None, option_map, refl, sym, ap, ◌∙◌, arith, add-one}
use Rattle.std.specs.List.{slice_get}
use Rattle.std.specs.Option.{option_and_then, unwrap_or}
use Rattle.std.proofs.lemmas.Option.{slice_get-map, slice_get_cases, slice_get_past, unwrap_or-slice_get}
use Rattle.source_tree.specs.Syntax.{FileData}
use Rattle.naming.specs.Ends.{Leads}
use Rattle.naming.specs.FileScope.{types_of}
use Rattle.naming.specs.Types.{named_type, specification_at, step_from, steps, doublings, end_of}

-- behind the last type no step leads anywhere
pub no_type : (f : FileData) (t : ℕ) → length (types_of f) ≤ t → specification_at f t ≡ None
no_type f t h = ap (option_map (λ d. d.specification)) (slice_get_past (types_of f) t h)

pub no_step : (f : FileData) (t : ℕ) → length (types_of f) ≤ t → step_from f t ≡ t
no_step f t h = ap (λ s. unwrap_or (option_and_then (named_type f) s) t) (no_type f t h)

past : (es : List ℕ) (t : ℕ) → length es ≤ t → get_or es t t ≡ t
past es t h = sym (unwrap_or-slice_get es t t) ∙ ap (λ o. unwrap_or o t) (slice_get_past es t h)

-- the first steps, where all types are known
pub all_steps : (f : FileData) (es : List ℕ) → length es ≡ length (types_of f) → ((t : ℕ) → t < length es → get_or es t t ≡ step_from f t) → Leads es (step_from f)
all_steps f es len below t = by (slice_get_cases es t)
  where
    by : (slice_get es t ≡ slice_get es t) × (((x : ℕ) × (t < length es) × (slice_get es t ≡ Some x) × (get_or es t x ≡ x)) ⊎ ((length es ≤ t) × (slice_get es t ≡ None))) → get_or es t t ≡ step_from f t
    by h = elim h.1 as (λ _. get_or es t t ≡ step_from f t) [ inl k ↦ below t k.1 | inr k ↦ past es t k.0 ∙ sym (no_step f t (omega arith)) ]

-- the way on from the ends of ways
pub lead_twice : (es : List ℕ) (step : ℕ → ℕ) → Leads es step → Leads (map (λ e. get_or es e e) es) (λ t. step (step t))
lead_twice es step led t = sym (unwrap_or-slice_get (map (λ e. get_or es e e) es) t t) ∙ ap (λ o. unwrap_or o t) (slice_get-map (λ e. get_or es e e) es t) ∙ by (slice_get es t) refl
  where
    here : (o : Option ℕ) → slice_get es t ≡ o → unwrap_or o t ≡ step t
    here o e = ap (λ p. unwrap_or p t) (sym e) ∙ unwrap_or-slice_get es t t ∙ led t

    by : (o : Option ℕ) → slice_get es t ≡ o → unwrap_or (option_map (λ e. get_or es e e) o) t ≡ step (step t)
    by None e = here None e ∙ ap step (here None e)
    by (Some x) e = led x ∙ ap step (here (Some x) e)

pub lead_on : (f : FileData) (es ds : List ℕ) (k : ℕ) → Leads es (steps k (step_from f)) → ds ≡ map (λ e. get_or es e e) es → Leads ds (steps (k + 1) (step_from f))
lead_on f es ds k led is t = ap (λ xs. get_or xs t t) is ∙ lead_twice es (steps k (step_from f)) led t ∙ ap (λ n. steps n (step_from f) t) (sym (add-one k))

doublings-is : doublings ≡ 20
unfolding doublings
doublings-is = refl

pub lead_to_ends : (f : FileData) (es : List ℕ) (k : ℕ) → k ≡ 20 → Leads es (steps k (step_from f)) → Leads es (end_of f)
unfolding end_of
lead_to_ends f es k e led t = led t ∙ ap (λ n. steps n (step_from f) t) (e ∙ sym doublings-is)
