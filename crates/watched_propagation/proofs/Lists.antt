-- Lists of watches, when a watch or a clause's pair changes.
use Rattle.std.proofs.Common.{Bool, ◌≡◌, ◌≢◌, ◌⊎◌, ℕ, zero, suc, ◌<◌, ◌≤◌, ◌-◌, List, [], ◌∷◌, ◌++◌, length, get_or, set, refl, sym, ◌∙◌, ap, subst, inl, inr, ⊎_elim, arith}
use Rattle.std.specs.List.{Contains, swap_remove}
use Rattle.std.proofs.lemmas.Bool.{cases_lt}
use Rattle.std.proofs.lemmas.List.{get_or_append_left, get_or_at, get_or_past, get_or-take, get_or-set_same, get_or-set_other, length-append, length-set, length-take}
use Rattle.watched_propagation.specs.declared.watch.Pair.{Pair}
use Rattle.watched_propagation.specs.declared.watch.Watch.{Watch}
use Rattle.watched_propagation.specs.Watching.{no_pair, no_watch, clause_in, pair_in, list_in, watch_in, IsWatch, IsListed, AreBlockers, IsListing, KeepsWatched}
use Rattle.propagation_trail.proofs.Tables.{cases_eq}

-- what stands at a place of a list in which one place was written
pub set_cases : {X : Type 0} (xs : List X) (i j : ℕ) (y d : X) (P : X → Type 0) → (j ≡ i → i < length xs → P y) → ((j ≡ i → length xs ≤ i) → P (get_or xs j d)) → P (get_or (set xs i y) j d)
set_cases [] i j y d P f g = g (λ _. omega arith)
set_cases (x ∷ xs) zero zero y d P f g = f refl (omega arith)
set_cases (x ∷ xs) zero (suc j) y d P f g = g (λ e. absurd (omega arith))
set_cases (x ∷ xs) (suc i) zero y d P f g = g (λ e. absurd (omega arith))
set_cases (x ∷ xs) (suc i) (suc j) y d P f g = set_cases xs i j y d P (λ e l. f (ap suc e) (omega arith)) (λ n. g (λ e. let k : j ≡ i = omega arith in let le = n k in omega arith))

-- the pair at a place, where one was written
pub IsWatch-set : (pairs : List Pair) (k : ℕ) (p : Pair) (j w : ℕ) (R : Type 0) → (j ≡ k → IsWatch p w → R) → ((j ≡ k → length pairs ≤ k) → IsWatch (pair_in pairs j) w → R) → IsWatch (pair_in (set pairs k p) j) w → R
IsWatch-set pairs k p j w R f g = set_cases pairs k j p no_pair (λ z. IsWatch z w → R) (λ e _. f e) g

-- where no pair is, nothing is watched
pub IsWatch-past : (pairs : List Pair) (k w : ℕ) → length pairs ≤ k → IsWatch (pair_in pairs k) w → ⊥
IsWatch-past pairs k w le h = (subst (λ p. IsWatch p w) (get_or_past pairs k no_pair le) h).two refl

IsListed-append : (list : List Watch) (e : Watch) (start k : ℕ) → IsListed list start k → IsListed (list ++ e ∷ []) start k
IsListed-append list e start k h = record {
  place = h.place;
  after = h.after;
  within = let s = length-append list (e ∷ []) in omega (arith, h.within);
  clause = ap (λ (w : Watch). w.clause) (get_or_append_left list (e ∷ []) no_watch h.place h.within) ∙ h.clause;
}

pub IsListed-end : (list : List Watch) (e : Watch) → IsListed (list ++ e ∷ []) 0 e.clause
IsListed-end list e = record {
  place = length list;
  after = omega arith;
  within = let s = length-append list (e ∷ []) in omega arith;
  clause = ap (λ (w : Watch). w.clause) (get_or_at list e [] no_watch (length list) refl);
}

pub IsListed-set : (list : List Watch) (place start k : ℕ) (e : Watch) → e.clause ≡ (watch_in list place).clause → IsListed list start k → IsListed (set list place e) start k
IsListed-set list place start k e same h = record {
  place = h.place;
  after = h.after;
  within = let s = length-set list place e in omega (arith, h.within);
  clause = set_cases list place h.place e no_watch (λ z. z.clause ≡ k) (λ p _. same ∙ ap (λ i. (watch_in list i).clause) (sym p) ∙ h.clause) (λ _. h.clause);
}

-- the list without one watch, place by place
remove-last : (list : List Watch) (place n : ℕ) → n ≡ length list - 1 → place < n → watch_in (swap_remove list place no_watch) place ≡ watch_in list n
remove-last list place n e lt =
    let last = watch_in list (length list - 1) in
    let less : place < length list - 1 = omega arith in
    let long : place < length list = omega arith in
    get_or-take (length list - 1) (set list place last) place no_watch less ∙ get_or-set_same list place last no_watch long ∙ ap (watch_in list) (sym e)

remove-other : (list : List Watch) (place i : ℕ) → i < length list - 1 → (i ≡ place → ⊥) → watch_in (swap_remove list place no_watch) i ≡ watch_in list i
remove-other list place i lt n =
    let last = watch_in list (length list - 1) in
    get_or-take (length list - 1) (set list place last) i no_watch lt ∙ get_or-set_other list place i last no_watch n

pub length-remove : (list : List Watch) (place : ℕ) → length (swap_remove list place no_watch) ≡ length list - 1
length-remove list place =
    let last = watch_in list (length list - 1) in
    let t = length-take (length list - 1) (set list place last) in
    let s = length-set list place last in
    omega arith

pub IsListed-remove : (list : List Watch) (place start k : ℕ) → start ≤ place → place < length list → (watch_in list place).clause ≢ k → IsListed list start k → IsListed (swap_remove list place no_watch) start k
IsListed-remove list place start k le lt ne h =
    let size = length-remove list place in
    let inside = h.within in
    let apart : h.place ≡ place → ⊥ = λ e. ne (ap (λ i. (watch_in list i).clause) (sym e) ∙ h.clause) in
    ⊎_elim
    (λ (e : h.place ≡ length list - 1). record {
      place = place;
      after = le;
      within = omega arith;
      clause = ap (λ (w : Watch). w.clause) (remove-last list place h.place e (below place h.place lt inside e apart)) ∙ h.clause;
    })
    (λ (n : h.place ≡ length list - 1 → ⊥). record {
      place = h.place;
      after = h.after;
      within = omega arith;
      clause = ap (λ (w : Watch). w.clause) (remove-other list place h.place (omega arith) apart) ∙ h.clause;
    })
    (cases_eq h.place (length list - 1))
  where
    below : (p q : ℕ) → p < length list → q < length list → q ≡ length list - 1 → (q ≡ p → ⊥) → p < q
    below p q a b e n = omega arith

AreBlockers-append : (clauses : List (List ℕ)) (list : List Watch) (e : Watch) → Contains (clause_in clauses e.clause) e.blocker → AreBlockers clauses list → AreBlockers clauses (list ++ e ∷ [])
AreBlockers-append clauses list e b h i lt = by_cases (cases_lt i (length list))
  where
    by_cases : (i < length list) ⊎ (length list ≤ i) → Contains (clause_in clauses (watch_in (list ++ e ∷ []) i).clause) (watch_in (list ++ e ∷ []) i).blocker
    by_cases (inl l) = subst (λ (w : Watch). Contains (clause_in clauses w.clause) w.blocker) (sym (get_or_append_left list (e ∷ []) no_watch i l)) (h i l)
    by_cases (inr l) =
        let s = length-append list (e ∷ []) in
        subst (λ (w : Watch). Contains (clause_in clauses w.clause) w.blocker) (sym (get_or_at list e [] no_watch i (omega arith))) b

pub AreBlockers-set : (clauses : List (List ℕ)) (list : List Watch) (place : ℕ) (e : Watch) → Contains (clause_in clauses e.clause) e.blocker → AreBlockers clauses list → AreBlockers clauses (set list place e)
AreBlockers-set clauses list place e b h i lt =
    let s = length-set list place e in
    let less : i < length list = omega arith in
    set_cases list place i e no_watch (λ (w : Watch). Contains (clause_in clauses w.clause) w.blocker) (λ _ _. b) (λ _. h i less)

pub AreBlockers-remove : (clauses : List (List ℕ)) (list : List Watch) (place : ℕ) → place < length list → AreBlockers clauses list → AreBlockers clauses (swap_remove list place no_watch)
AreBlockers-remove clauses list place lt h i li =
    let size = length-remove list place in
    let less : i < length list - 1 = omega arith in
    let long : length list - 1 < length list = omega arith in
    let wide : i < length list = omega arith in
    ⊎_elim
    (λ e. subst (λ (w : Watch). Contains (clause_in clauses w.clause) w.blocker) (sym (ap (watch_in (swap_remove list place no_watch)) e ∙ remove-last list place (length list - 1) refl (subst (λ z. z < length list - 1) e less))) (h (length list - 1) long))
    (λ e. subst (λ (w : Watch). Contains (clause_in clauses w.clause) w.blocker) (sym (remove-other list place i less e)) (h i wide))
    (cases_eq i place)

abbrev pub paired : ℕ → ℕ → ℕ → Pair
paired a b n = record { first = a; second = b; next = n }

abbrev pub watched : ℕ → ℕ → Bool → Watch
watched k b short = record { clause = k; blocker = b; is_short = short }

-- the lists with one more watch
abbrev pub pushed : List (List Watch) → ℕ → Watch → List (List Watch)
pushed lists x e = set lists x (list_in lists x ++ e ∷ [])

pub IsListed-pushed : (lists : List (List Watch)) (x : ℕ) (e : Watch) (w k : ℕ) → IsListed (list_in lists w) 0 k → IsListed (list_in (pushed lists x e) w) 0 k
IsListed-pushed lists x e w k h =
    set_cases lists x w (list_in lists x ++ e ∷ []) [] (λ l. IsListed l 0 k) (λ s _. IsListed-append (list_in lists x) e 0 k (subst (λ i. IsListed (list_in lists i) 0 k) s h)) (λ _. h)

pub IsListed-new : (lists : List (List Watch)) (x : ℕ) (e : Watch) → x < length lists → IsListed (list_in (pushed lists x e) x) 0 e.clause
IsListed-new lists x e lt = subst (λ l. IsListed l 0 e.clause) (sym (get_or-set_same lists x (list_in lists x ++ e ∷ []) [] lt)) (IsListed-end (list_in lists x) e)

pub IsListing-pushed : (clauses : List (List ℕ)) (pairs : List Pair) (lists : List (List Watch)) (x : ℕ) (e : Watch) → Contains (clause_in clauses e.clause) e.blocker → IsListing clauses pairs lists → IsListing clauses pairs (pushed lists x e)
IsListing-pushed clauses pairs lists x e b h = record {
  inside = h.inside;
  listed = λ k w i. IsListed-pushed lists x e w k (h.listed k w i);
  blockers = λ w. set_cases lists x w (list_in lists x ++ e ∷ []) [] (AreBlockers clauses) (λ s _. AreBlockers-append clauses (list_in lists x) e b (h.blockers x)) (λ _. h.blockers w);
}

-- a clause watches other literals, in whose lists it stands
pub IsListing-pair : (clauses : List (List ℕ)) (pairs : List Pair) (lists : List (List Watch)) (k : ℕ) (p : Pair) → ((w : ℕ) → IsWatch p w → Contains (clause_in clauses k) w × IsListed (list_in lists w) 0 k) → IsListing clauses pairs lists → IsListing clauses (set pairs k p) lists
IsListing-pair clauses pairs lists k p f h = record {
  inside = λ j w. IsWatch-set pairs k p j w (Contains (clause_in clauses j) w) (λ e i. subst (λ z. Contains (clause_in clauses z) w) (sym e) (f w i).0) (λ _. h.inside j w);
  listed = λ j w. IsWatch-set pairs k p j w (IsListed (list_in lists w) 0 j) (λ e i. subst (λ z. IsListed (list_in lists w) 0 z) (sym e) (f w i).1) (λ _. h.listed j w);
  blockers = h.blockers;
}

pub IsListing-set : (clauses : List (List ℕ)) (pairs : List Pair) (lists : List (List Watch)) (f place : ℕ) (e : Watch) → e.clause ≡ (watch_in (list_in lists f) place).clause → Contains (clause_in clauses e.clause) e.blocker → IsListing clauses pairs lists → IsListing clauses pairs (set lists f (set (list_in lists f) place e))
IsListing-set clauses pairs lists f place e same b h = record {
  inside = h.inside;
  listed = λ k w i. set_cases lists f w (set (list_in lists f) place e) [] (λ l. IsListed l 0 k) (λ s _. IsListed-set (list_in lists f) place 0 k e same (subst (λ z. IsListed (list_in lists z) 0 k) s (h.listed k w i))) (λ _. h.listed k w i);
  blockers = λ w. set_cases lists f w (set (list_in lists f) place e) [] (AreBlockers clauses) (λ s _. AreBlockers-set clauses (list_in lists f) place e b (h.blockers f)) (λ _. h.blockers w);
}

pub IsListing-remove : (clauses : List (List ℕ)) (pairs : List Pair) (lists : List (List Watch)) (f place : ℕ) → place < length (list_in lists f) → (IsWatch (pair_in pairs (watch_in (list_in lists f) place).clause) f → ⊥) → IsListing clauses pairs lists → IsListing clauses pairs (set lists f (swap_remove (list_in lists f) place no_watch))
IsListing-remove clauses pairs lists f place lt n h = record {
  inside = h.inside;
  listed = λ k w i. set_cases lists f w (swap_remove (list_in lists f) place no_watch) [] (λ l. IsListed l 0 k)
      (λ s _. IsListed-remove (list_in lists f) place 0 k (omega arith) lt (λ e. n (subst (λ z. IsWatch (pair_in pairs z) f) (sym e) (subst (IsWatch (pair_in pairs k)) s i))) (subst (λ z. IsListed (list_in lists z) 0 k) s (h.listed k w i)))
      (λ _. h.listed k w i);
  blockers = λ w. set_cases lists f w (swap_remove (list_in lists f) place no_watch) [] (AreBlockers clauses) (λ s _. AreBlockers-remove clauses (list_in lists f) place lt (h.blockers f)) (λ _. h.blockers w);
}

-- a pair of two literals keeps what is watched
pub KeepsWatched-set : (pairs : List Pair) (k : ℕ) (p : Pair) → p.first ≢ p.second → KeepsWatched pairs (set pairs k p)
KeepsWatched-set pairs k p n j = set_cases pairs k j p no_pair (λ z. z.first ≡ z.second → (pair_in pairs j).first ≡ (pair_in pairs j).second) (λ _ _ e. absurd (n e)) (λ _ e. e)
