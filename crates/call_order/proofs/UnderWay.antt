-- What is missing and ready while numbers are taken.
use Rattle.std.proofs.Common.{◌≡◌, ℕ, suc, ◌<◌, ◌≤◌, true, false, not, ◌&&◌, eqb, ltb, List, [], ◌∷◌, ◌++◌, length, Some, None, refl, arith, ◌∙◌, sym, ap, subst, ⊎_elim}
use Rattle.std.specs.List.{All, list_all}
use Rattle.std.specs.Ordering.{nat_cmp}
use Rattle.std.specs.BTreeMap.Range.{IsLtBy}
use Rattle.std.proofs.lemmas.Bool.{cases_Bool, false_from_ne_true, or_cases, or_left, or_right, and_parts, and_from, eqb-true, eq-eqb, not-true, not_from_false, both_ways, lt-ltb, ltb-true}
use Rattle.call_order.specs.Uses.{Graph, uses_at, is_among, is_ready, first_ready, ordered, order_of}
use Rattle.call_order.specs.Users.{times, missing_at, HasUsers, MissesLess, GetReady, IsReadyAtFirst}
use Rattle.call_order.proofs.Firsts.{first_from-first, first_from-empty}
use Rattle.call_order.proofs.Members.{is_among-left, is_among-right, is_among-head, is_among-tail, is_among-cases, is_among-either, below-from_use}
use Rattle.call_order.proofs.Orders.{ordered-none, ordered-some, ordered-zero}
use Rattle.call_order.proofs.Counts.{same_test, times-none, times-some, among-from_times, untaken, untaken-none, untaken-zero, zero-untaken, untaken-more, above}

pub record IsUnderWay (g users : Graph) (missing ready taken : List ℕ) (count : ℕ) : Type 0 where
  pub has : HasUsers g users
  pub lacks : (k : ℕ) → missing_at missing k ≡ untaken taken (uses_at g k)
  pub now : (k : ℕ) → is_among k ready ≡ (ltb k (length g) && is_ready g taken k)
  pub done : (k : ℕ) → is_among k taken ≡ true → missing_at missing k ≡ 0
  pub rest : ordered g count taken ≡ order_of g

-- what may be taken is there, not taken yet, and misses nothing
ready_parts : (g : Graph) (taken : List ℕ) (k : ℕ) → (ltb k (length g) && is_ready g taken k) ≡ true → (k < length g) × (is_among k taken ≡ false) × (untaken taken (uses_at g k) ≡ 0)
ready_parts g taken k h =
    let p = and_parts (ltb k (length g)) (is_ready g taken k) h in
    let q = and_parts (not (is_among k taken)) (list_all (λ u. is_among u taken) (uses_at g k)) p.1 in
    (ltb-true k (length g) p.0, not-true _ q.0, zero-untaken taken (uses_at g k) q.1)

ready_from : (g : Graph) (taken : List ℕ) (k : ℕ) → k < length g → is_among k taken ≡ false → untaken taken (uses_at g k) ≡ 0 → (ltb k (length g) && is_ready g taken k) ≡ true
ready_from g taken k below out none =
    and_from _ _ (lt-ltb k (length g) below) (and_from _ _ (not_from_false _ out) (untaken-zero taken (uses_at g k) none))

-- before any number is taken
pub under_way-begun : (g users : Graph) (missing ready : List ℕ) → HasUsers g users → ((k : ℕ) → missing_at missing k ≡ length (uses_at g k)) → IsReadyAtFirst g ready → IsUnderWay g users missing ready [] (length g)
unfolding order_of
under_way-begun g users missing ready has long first =
    record {
      has = has;
      lacks = λ k. long k ∙ sym (untaken-none (uses_at g k));
      now = λ k. same_test _ _
          (λ h. let p = and_parts (ltb k (length g)) (eqb (length (uses_at g k)) 0) (sym (first k) ∙ h) in
          ready_from g [] k (ltb-true k (length g) p.0) refl (untaken-none (uses_at g k) ∙ eqb-true _ _ p.1))
          (λ h. let p = ready_parts g [] k h in
          first k ∙ and_from _ _ (lt-ltb k (length g) p.0) (eq-eqb _ _ (sym (untaken-none (uses_at g k)) ∙ p.2)));
      done = λ k h. cc;
      rest = refl;
    }

-- the first that is ready is the first that may be taken
module _ (g users : Graph) (missing ready taken : List ℕ) (count : ℕ) (is : IsUnderWay g users missing ready taken count) where
  pub none_left : ready ≡ [] → taken ≡ order_of g
  none_left e =
      let none : first_ready g taken ≡ None = first_from-empty (is_ready g taken) 0 (length g)
      (λ j l h. false_from_ne_true _ (λ r.
      let there : is_among j ready ≡ true = is.now j ∙ and_from _ _ (lt-ltb j (length g) (omega arith)) r in
      both_ways _ (ap (is_among j) e) there)) in
      sym (ordered-none g count taken none) ∙ is.rest

  module _ (k : ℕ) (others : List ℕ) (e : ready ≡ k ∷ others) (higher : All (IsLtBy nat_cmp k) others) where
    taken_parts : (k < length g) × (is_among k taken ≡ false) × (untaken taken (uses_at g k) ≡ 0)
    taken_parts = ready_parts g taken k (sym (is.now k) ∙ ap (is_among k) e ∙ is_among-head k others)

    pub is_below : k < length g
    is_below = taken_parts.0

    pub is_first : first_ready g taken ≡ Some k
    is_first =
        let p = and_parts (ltb k (length g)) (is_ready g taken k) (sym (is.now k) ∙ ap (is_among k) e ∙ is_among-head k others) in
        let below = is_below in
        first_from-first (is_ready g taken) 0 (length g) k (omega arith) (omega arith) p.1
        (λ j l h. false_from_ne_true _ (λ r.
        let there : is_among j (k ∷ others) ≡ true = sym (ap (is_among j) e) ∙ is.now j ∙ and_from _ _ (lt-ltb j (length g) (omega arith)) r in
        ⊎_elim (λ (same : j ≡ k). omega arith) (λ m. let up = above k j others higher m in omega arith) (is_among-cases j k others there)))

    -- how often another uses the one that is taken
    used_by : (j : ℕ) → times j (uses_at users k) ≡ times k (uses_at g j)
    used_by j = is.has k j is_below

    pub enough : (j : ℕ) → times j (uses_at users k) ≤ missing_at missing j
    enough j =
        let u = used_by j in
        let m = untaken-more taken k (uses_at g j) taken_parts.1 in
        let l = is.lacks j in
        omega arith

    module _ (less ready_now : List ℕ) (misses : MissesLess (uses_at users k) missing less) (got : GetReady (uses_at users k) less others ready_now) where
      lacks_now : (j : ℕ) → missing_at less j ≡ untaken (taken ++ k ∷ []) (uses_at g j)
      lacks_now j =
          let u = used_by j in
          let m = untaken-more taken k (uses_at g j) taken_parts.1 in
          let l = is.lacks j in
          let s = misses j in
          omega arith

      done_now : (j : ℕ) → is_among j (taken ++ k ∷ []) ≡ true → missing_at less j ≡ 0
      done_now j h =
          let s = misses j in
          ⊎_elim (λ t. let d = is.done j t in omega arith)
          (λ last. ⊎_elim (λ (same : j ≡ k). let z : missing_at missing j ≡ 0 = is.lacks j ∙ ap (λ (n : ℕ). untaken taken (uses_at g n)) same ∙ taken_parts.2 in omega arith) (λ none. cc) (is_among-cases j k [] last))
          (is_among-either j taken (k ∷ []) h)

      -- what is not among the taken ones with the last
      out_now : (j : ℕ) → is_among j taken ≡ false → (j ≡ k → ⊥) → is_among j (taken ++ k ∷ []) ≡ false
      out_now j out apart = false_from_ne_true _ (λ h. ⊎_elim (λ t. both_ways _ out t) (λ last. ⊎_elim apart (λ none. cc) (is_among-cases j k [] last)) (is_among-either j taken (k ∷ []) h))

      ready_to : (j : ℕ) → is_among j ready_now ≡ true → (ltb j (length g) && is_ready g (taken ++ k ∷ []) j) ≡ true
      ready_to j h =
          let s = misses j in
          let lacks = lacks_now j in
          ⊎_elim (λ among.
          let p = ready_parts g taken j (sym (is.now j) ∙ ap (is_among j) e ∙ is_among-tail j k others among) in
          let l = is.lacks j in
          let none = p.2 in
          ready_from g (taken ++ k ∷ []) j p.0 (out_now j p.1 (λ same. let up = above k j others higher among in omega arith)) (omega arith))
          (λ released.
          let p = and_parts (is_among j (uses_at users k)) (eqb (missing_at less j) 0) released in
          let some = times-some j (uses_at users k) p.0 in
          let u = used_by j in
          let below : j < length g = below-from_use g j k (among-from_times k (uses_at g j) (omega arith)) in
          let zero_now = eqb-true (missing_at less j) 0 p.1 in
          let out : is_among j taken ≡ false = false_from_ne_true _ (λ t. let d = is.done j t in omega arith) in
          let apart : j ≡ k → ⊥ = λ same. let z : missing_at missing j ≡ 0 = is.lacks j ∙ ap (λ (n : ℕ). untaken taken (uses_at g n)) same ∙ taken_parts.2 in omega arith in
          ready_from g (taken ++ k ∷ []) j below (out_now j out apart) (omega arith))
          (or_cases _ _ (sym (got j) ∙ h))

      ready_back : (j : ℕ) → (ltb j (length g) && is_ready g (taken ++ k ∷ []) j) ≡ true → is_among j ready_now ≡ true
      ready_back j h =
          let p = ready_parts g (taken ++ k ∷ []) j h in
          let s = misses j in
          let lacks = lacks_now j in
          let none_now = p.2 in
          got j ∙
          ⊎_elim (λ released. or_right _ _ (and_from _ _ released (eq-eqb (missing_at less j) 0 (omega arith))))
          (λ other.
          let t = times-none j (uses_at users k) other in
          let l = is.lacks j in
          let out : is_among j taken ≡ false = false_from_ne_true _ (λ x. both_ways _ p.1 (is_among-left j taken (k ∷ []) x)) in
          let there : is_among j (k ∷ others) ≡ true = sym (ap (is_among j) e) ∙ is.now j ∙ ready_from g taken j p.0 out (omega arith) in
          ⊎_elim (λ (same : j ≡ k). absurd (both_ways _ p.1 (is_among-right j taken (k ∷ []) (subst (λ (n : ℕ). is_among j (n ∷ []) ≡ true) same (is_among-head j [])))))
          (λ m. or_left _ _ m)
          (is_among-cases j k others there))
          (cases_Bool (is_among j (uses_at users k)))

      pub under_way-more : (fewer : ℕ) → count ≡ suc fewer → IsUnderWay g users less ready_now (taken ++ k ∷ []) fewer
      under_way-more fewer c =
          record {
            has = is.has;
            lacks = lacks_now;
            now = λ j. same_test _ _ (ready_to j) (ready_back j);
            done = done_now;
            rest = sym (ordered-some g fewer taken k is_first) ∙ ap (λ (n : ℕ). ordered g n taken) (sym c) ∙ is.rest;
          }

pub under_way-all : (g users : Graph) (missing ready taken : List ℕ) (count : ℕ) → IsUnderWay g users missing ready taken count → count ≡ 0 → taken ≡ order_of g
under_way-all g users missing ready taken count is e = sym (ordered-zero g taken) ∙ ap (λ (n : ℕ). ordered g n taken) (sym e) ∙ is.rest
