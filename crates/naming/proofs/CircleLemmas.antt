-- The first of what is broken, N3 of POUs among it.
use Rattle.std.proofs.Common.{◌≡◌, ◌⊎◌, inl, inr, ℕ, ◌+◌, ◌<◌, ◌≤◌, List, [], ◌∷◌, ◌++◌, length, map, Bool, false, Option, Some, None, option_map, IsTrue, refl, sym, ap, ◌∙◌, subst, arith, append_assoc}
use Rattle.std.proofs.lemmas.Bool.{cases_lt}
use Rattle.std.proofs.lemmas.List.{append-nil}
use Rattle.std.specs.List.{slice_get}
use Rattle.std.specs.Option.{unwrap_or}
use Rattle.std.proofs.lemmas.Option.{slice_get-map, slice_get_within}
use Rattle.call_order.specs.Uses.{Reaches}
use Rattle.rules.specs.declared.rule.Refusal.{Refusal}
use Rattle.rules.specs.declared.rule.Rule.TheVariants.{InTermsOfItself}
use Rattle.rules.specs.Rules.{earlier, first_in, IsAmong}
use Rattle.source_tree.specs.Syntax.{PouData, FileData}
use Rattle.rules.proofs.Refusals.{first_in-append, first_in-IsFirst, none_is_left}
use Rattle.naming.specs.Broken.{in_pou, broken_names}
use Rattle.naming.specs.Circles.{uses_of, IsInCircle, IsBroken}
use Rattle.naming.specs.FileScope.{pous_of, pou_at}
use Rattle.naming.specs.FirstOf.{IsFirstOf}

pub among_left : (r : Refusal) (xs ys : List Refusal) → IsAmong r xs → IsAmong r (xs ++ ys)
among_left r [] ys h = absurd h
among_left r (x ∷ xs) ys (inl e) = inl e
among_left r (x ∷ xs) ys (inr k) = inr (among_left r xs ys k)

pub among_right : (r : Refusal) (xs ys : List Refusal) → IsAmong r ys → IsAmong r (xs ++ ys)
among_right r [] ys h = h
among_right r (x ∷ xs) ys h = inr (among_right r xs ys h)

among_split : (r : Refusal) (xs ys : List Refusal) → IsAmong r (xs ++ ys) → IsAmong r xs ⊎ IsAmong r ys
among_split r [] ys h = inr h
among_split r (x ∷ xs) ys (inl e) = inl (inl e)
among_split r (x ∷ xs) ys (inr k) = elim (among_split r xs ys k) as (λ _. IsAmong r (x ∷ xs) ⊎ IsAmong r ys) [ inl l ↦ inl (inr l) | inr s ↦ inr s ]

none_among : (r : Refusal) (xs : List Refusal) → xs ≡ [] → ¬ (IsAmong r xs)
none_among r [] h k = k
none_among r (x ∷ xs) h k = let e : ⊥ = cc in e

pub nothing_left : (xs : List Refusal) → ((r : Refusal) → ¬ (IsAmong r xs)) → xs ≡ []
nothing_left [] h = refl
nothing_left (x ∷ xs) h = absurd (h x (inl refl))

-- the first of a list, where that has what is broken
pub first_of_list : (broken : Refusal → Type 0) (xs : List Refusal) (o : Option Refusal) → o ≡ first_in xs → ((r : Refusal) → IsAmong r xs → broken r) → ((r : Refusal) → broken r → IsAmong r xs) → IsFirstOf broken o
first_of_list broken xs None is told known = λ r b. none_among r xs (none_is_left xs (sym is)) (known r b)
first_of_list broken xs (Some r) is told known =
    let first = first_in-IsFirst xs r (sym is) in
    record { is_broken = told r first.is_broken; before = λ other b. first.before other (known other b) }

next_cases : (k n : ℕ) → k < n + 1 → (k < n) ⊎ (k ≡ n)
next_cases k n below = elim (cases_lt k n) as (λ _. (k < n) ⊎ (k ≡ n)) [ inl less ↦ inl less | inr more ↦ inr (omega arith) ]

-- what is known of a file's circles where POUs below a number were looked at
pub record AreCircles (f : FileData) (number : ℕ) (o : Option Refusal) : Type 0 where
  pub list : List Refusal
  pub first : o ≡ first_in (broken_names f ++ list)
  pub told : (r : Refusal) → IsAmong r list → IsInCircle f r
  pub known : (r : Refusal) (c : IsInCircle f r) → c.number < number → IsAmong r list

pub no_circles : (f : FileData) (o : Option Refusal) → o ≡ first_in (broken_names f) → AreCircles f 0 o
no_circles f o is = record {
  list = [];
  first = is ∙ ap first_in (sym (append-nil (broken_names f)));
  told = λ r h. absurd h;
  known = λ r c below. absurd (omega arith);
}

same_circle : (f : FileData) (number : ℕ) (p : PouData) (r : Refusal) → pou_at f number ≡ Some p → (c : IsInCircle f r) → c.number ≡ number → r ≡ record { rule = InTermsOfItself; at = p.name.at }
same_circle f number p r there c is =
    let e : Some c.pou ≡ Some p = sym c.there ∙ ap (pou_at f) is ∙ there in
    let same : c.pou ≡ p = cc in
    c.is ∙ ap (λ (q : PouData). record { rule = InTermsOfItself; at = q.name.at }) same

pub more_circles : (f : FileData) (number : ℕ) (p : PouData) (o b : Option Refusal) → AreCircles f number o → pou_at f number ≡ Some p → IsTrue (in_pou f p).whole → Reaches (uses_of f) number number
    → b ≡ earlier o (Some (record { rule = InTermsOfItself; at = p.name.at })) → AreCircles f (number + 1) b
more_circles f number p o b before there whole reaches new =
    let own : Refusal = record { rule = InTermsOfItself; at = p.name.at } in
    record {
      list = before.list ++ own ∷ [];
      first = new ∙ ap (λ x. earlier x (Some own)) before.first ∙ sym (first_in-append (broken_names f ++ before.list) (own ∷ [])) ∙ ap first_in (append_assoc (broken_names f) before.list (own ∷ []));
      told = λ r h. elim (among_split r before.list (own ∷ []) h) as (λ _. IsInCircle f r) [
        | inl k ↦ before.told r k
        | inr k ↦ elim k as (λ _. IsInCircle f r) [
          | inl e ↦ record { number = number; pou = p; there = there; whole = whole; reaches = reaches; is = e }
          | inr n ↦ absurd n
        ]
      ];
      known = λ r c below. elim (next_cases c.number number below) as (λ _. IsAmong r (before.list ++ own ∷ [])) [
        | inl less ↦ among_left r before.list (own ∷ []) (before.known r c less)
        | inr is ↦ among_right r before.list (own ∷ []) (inl (same_circle f number p r there c is))
      ];
    }

pub same_circles : (f : FileData) (number : ℕ) (p : PouData) (o : Option Refusal) → AreCircles f number o → pou_at f number ≡ Some p → ¬ (IsTrue (in_pou f p).whole × Reaches (uses_of f) number number) → AreCircles f (number + 1) o
same_circles f number p o before there none = record {
  list = before.list;
  first = before.first;
  told = before.told;
  known = λ r c below. elim (next_cases c.number number below) as (λ _. IsAmong r before.list) [
    | inl less ↦ before.known r c less
    | inr is ↦ absurd (none (here r c is))
  ];
}
  where
    here : (r : Refusal) (c : IsInCircle f r) → c.number ≡ number → IsTrue (in_pou f p).whole × Reaches (uses_of f) number number
    here r c is =
        let e : Some c.pou ≡ Some p = sym c.there ∙ ap (pou_at f) is ∙ there in
        let same : c.pou ≡ p = cc in
        (subst (λ (q : PouData). IsTrue (in_pou f q).whole) same c.whole, subst (λ k. Reaches (uses_of f) k k) is c.reaches)

-- what is broken, once all POUs were looked at
pub all_circles : (f : FileData) (number : ℕ) (o : Option Refusal) → AreCircles f number o → length (pous_of f) ≤ number → IsFirstOf (IsBroken f) o
all_circles f number o are all =
    first_of_list (IsBroken f) (broken_names f ++ are.list) o are.first
    (λ r h. elim (among_split r (broken_names f) are.list h) as (λ _. IsBroken f r) [ inl k ↦ inl k | inr k ↦ inr (are.told r k) ])
    (λ r b. elim b as (λ _. IsAmong r (broken_names f ++ are.list)) [
      | inl k ↦ among_left r (broken_names f) are.list k
      | inr c ↦ let below : c.number < length (pous_of f) = slice_get_within (pous_of f) c.number c.pou c.there in among_right r (broken_names f) are.list (are.known r c (omega arith))
    ])

-- and where no POU uses itself
pub without_circles : (f : FileData) (o : Option Refusal) → o ≡ first_in (broken_names f) → ((k : ℕ) → ¬ (Reaches (uses_of f) k k)) → IsFirstOf (IsBroken f) o
without_circles f o is none =
    first_of_list (IsBroken f) (broken_names f) o is (λ r h. inl h)
    (λ r b. elim b as (λ _. IsAmong r (broken_names f)) [ inl k ↦ k | inr c ↦ absurd (none c.number c.reaches) ])

-- the mark of a POU
pub mark_of : (f : FileData) (number : ℕ) (p : PouData) (marks : List Bool) → marks ≡ map (λ q. (in_pou f q).whole) (pous_of f) → pou_at f number ≡ Some p → unwrap_or (slice_get marks number) false ≡ (in_pou f p).whole
mark_of f number p marks is there =
    ap (λ ms. unwrap_or (slice_get ms number) false) is ∙ ap (λ o. unwrap_or o false) (slice_get-map (λ q. (in_pou f q).whole) (pous_of f) number ∙ ap (option_map (λ q. (in_pou f q).whole)) there)
