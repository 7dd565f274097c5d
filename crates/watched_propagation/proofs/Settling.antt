-- Nothing is left to propagate: how this goes on when the trail, the clauses or the pairs change.
use Rattle.std.proofs.Common.{◌≡◌, ◌⊎◌, ℕ, ◌<◌, ◌≤◌, ◌+◌, ◌*◌, ◌/◌, ◌%◌, eqb, false, List, [], ◌∷◌, ◌++◌, length, get_or, set, take, drop, refl, sym, ◌∙◌, ap, subst, inl, inr, ⊎_elim, arith}
use Rattle.std.specs.List.{Contains, swap_remove}
use Rattle.std.proofs.lemmas.Bool.{cases_lt}
use Rattle.std.proofs.lemmas.List.{append-nil, append_assoc, get_or_append_left, get_or_at, get_or_past, get_or-take, length-append, length-set, length-take, take_all, take-take, take-append-le, take-append-drop, take_more}
use Rattle.std.proofs.lemmas.List.Elements.{Contains-append_left, Contains-push_cases}
use Rattle.clause_core.specs.declared.truth.Truth.TheVariants.{True}
use Rattle.clause_core.specs.Values.{signed_truth}
use Rattle.watched_propagation.specs.declared.watch.Pair.{Pair}
use Rattle.watched_propagation.specs.declared.watch.Watch.{Watch}
use Rattle.propagation_trail.specs.Codes.{negated}
use Rattle.propagation_trail.specs.Trails.{TrailState, assigned, with_level, with_head, IsBack, IsRising, Grown}
use Rattle.watched_propagation.specs.Watching.{no_watch, clause_in, pair_in, list_in, watch_in, IsWatch, IsListed, Meets, IsSettled, below_level, IsWatching}
use Rattle.watched_propagation.specs.Visits.{IsOther, IsReplacement}
use Rattle.watched_propagation.specs.Propagations.{IsWatchable}
use Rattle.propagation_trail.proofs.Signs.{negated-negated}
use Rattle.propagation_trail.proofs.Tables.{cases_eq}
use Rattle.watched_propagation.proofs.Lists.{paired, watched, IsWatch-set, IsWatch-past, pushed, IsListed-pushed, IsListed-new, IsListing-pushed, IsListing-pair, IsListing-set, IsListing-remove}

pub Contains-take : (n : ℕ) (xs : List ℕ) (x : ℕ) → Contains (take n xs) x → Contains xs x
Contains-take n xs x m = subst (λ z. Contains z x) (take-append-drop n xs) (Contains-append_left (take n xs) (drop n xs) x m)

pub Meets-more : (c xs ys : List ℕ) → Meets c xs → Meets c (xs ++ ys)
Meets-more c xs ys m = record { literal = m.literal; inside = m.inside; among = Contains-append_left xs ys m.literal m.among }

pub IsSettled-more : (clauses : List (List ℕ)) (pairs : List Pair) (first xs ys : List ℕ) → IsSettled clauses pairs first xs → IsSettled clauses pairs first (xs ++ ys)
IsSettled-more clauses pairs first xs ys h = record { meets = λ k w i m. Meets-more (clause_in clauses k) xs ys (h.meets k w i m) }

pub IsSettled-pair : (clauses : List (List ℕ)) (pairs : List Pair) (first others : List ℕ) (k : ℕ) (p : Pair) → ((w : ℕ) → IsWatch p w → Contains first (negated w) → Meets (clause_in clauses k) others) → IsSettled clauses pairs first others → IsSettled clauses (set pairs k p) first others
IsSettled-pair clauses pairs first others k p f h = record {
  meets = λ j w i m. IsWatch-set pairs k p j w (Meets (clause_in clauses j) others) (λ e v. subst (λ z. Meets (clause_in clauses z) others) (sym e) (f w v m)) (λ _ v. h.meets j w v m) i;
}

-- more literals are true
pub IsWatching-grown : (clauses : List (List ℕ)) (pairs : List Pair) (lists : List (List Watch)) (t s : TrailState) → Grown t s → t.head ≤ length t.literals → IsRising t.starts (length t.literals) → IsWatching clauses pairs lists t → IsWatching clauses pairs lists s
IsWatching-grown clauses pairs lists t s g le r h = record {
  listing = h.listing;
  levels = λ j l.
      let lt : j < length t.starts = subst (λ z. j < length z) g.starts l in
      subst (λ z. IsSettled clauses pairs z z) (sym (same j lt)) (h.levels j lt);
  front = subst (λ z. IsSettled clauses pairs z s.literals) (sym front_same) (subst (λ z. IsSettled clauses pairs (take t.head t.literals) z) (sym g.literals) (IsSettled-more clauses pairs (take t.head t.literals) t.literals g.more h.front));
  size = h.size ∙ ap (λ n. 2 * n) (sym g.size);
}
  where
    same : (j : ℕ) → j < length t.starts → below_level s j ≡ below_level t j
    same j lt =
        ap (λ z. take (get_or z j 0) s.literals) g.starts
        ∙ ap (take (get_or t.starts j 0)) g.literals
        ∙ take-append-le (get_or t.starts j 0) t.literals g.more (r.within j lt)

    front_same : take s.head s.literals ≡ take t.head t.literals
    front_same = ap (λ n. take n s.literals) g.head ∙ ap (take t.head) g.literals ∙ take-append-le t.head t.literals g.more le

pub Grown-refl : (t : TrailState) → Grown t t
Grown-refl t = record { more = []; literals = sym (append-nil t.literals); head = refl; starts = refl; size = refl }

pub Grown-trans : (t s u : TrailState) → Grown t s → Grown s u → Grown t u
Grown-trans t s u g h = record {
  more = g.more ++ h.more;
  literals = h.literals ∙ ap (λ z. z ++ h.more) g.literals ∙ append_assoc t.literals g.more h.more;
  head = h.head ∙ g.head;
  starts = h.starts ∙ g.starts;
  size = h.size ∙ g.size;
}

pub Grown-assigned : (t s : TrailState) (c : ℕ) → s ≡ assigned t c → Grown t s
Grown-assigned t s c e = subst (Grown t) (sym e) (record { more = c ∷ []; literals = refl; head = refl; starts = refl; size = length-set t.values (c / 2) (signed_truth (eqb (c % 2) 1) True) })

pub Contains-grown : (t s : TrailState) (x : ℕ) → Grown t s → Contains t.literals x → Contains s.literals x
Contains-grown t s x g m = subst (λ z. Contains z x) (sym g.literals) (Contains-append_left t.literals g.more x m)

pub IsWatching-assigned : (clauses : List (List ℕ)) (pairs : List Pair) (lists : List (List Watch)) (t s : TrailState) (c : ℕ) → s ≡ assigned t c → t.head ≤ length t.literals → IsRising t.starts (length t.literals) → IsWatching clauses pairs lists t → IsWatching clauses pairs lists s
IsWatching-assigned clauses pairs lists t s c e le r h = IsWatching-grown clauses pairs lists t s (Grown-assigned t s c e) le r h

-- a decision may be made where all was propagated
pub IsWatching-level : (clauses : List (List ℕ)) (pairs : List Pair) (lists : List (List Watch)) (t s : TrailState) → s ≡ with_level t → t.head ≡ length t.literals → IsWatching clauses pairs lists t → IsWatching clauses pairs lists s
IsWatching-level clauses pairs lists t s e done h = subst (IsWatching clauses pairs lists) (sym e) (record {
  listing = h.listing;
  levels = λ j l. ⊎_elim (λ lt. old j lt) (λ eq. new j eq) (place j l);
  front = h.front;
  size = h.size;
})
  where
    place : (j : ℕ) → j < length (t.starts ++ length t.literals ∷ []) → (j < length t.starts) ⊎ (j ≡ length t.starts)
    place j l = let e = length-append t.starts (length t.literals ∷ []) in ⊎_elim (λ a. inl a) (λ b. inr (omega arith)) (cases_lt j (length t.starts))

    old : (j : ℕ) → j < length t.starts → IsSettled clauses pairs (below_level (with_level t) j) (below_level (with_level t) j)
    old j lt = subst (λ n. IsSettled clauses pairs (take n t.literals) (take n t.literals)) (sym (get_or_append_left t.starts (length t.literals ∷ []) 0 j lt)) (h.levels j lt)

    whole : take (length t.literals) t.literals ≡ t.literals
    whole = take_all (length t.literals) t.literals (omega arith)

    settled : IsSettled clauses pairs (take (length t.literals) t.literals) (take (length t.literals) t.literals)
    settled = subst (λ z. IsSettled clauses pairs (take (length t.literals) t.literals) z) (sym whole) (subst (λ n. IsSettled clauses pairs (take n t.literals) t.literals) done h.front)

    new : (j : ℕ) → j ≡ length t.starts → IsSettled clauses pairs (below_level (with_level t) j) (below_level (with_level t) j)
    new j eq = subst (λ n. IsSettled clauses pairs (take n t.literals) (take n t.literals)) (sym (get_or_at t.starts (length t.literals) [] 0 j (sym eq))) settled

-- decisions are taken back
pub IsWatching-back : (clauses : List (List ℕ)) (pairs : List Pair) (lists : List (List Watch)) (t s : TrailState) (level : ℕ) → level < length t.starts → IsBack t level s → IsRising t.starts (length t.literals) → IsWatching clauses pairs lists t → IsWatching clauses pairs lists s
IsWatching-back clauses pairs lists t s level lt b r h = record {
  listing = h.listing;
  levels = λ j l. let less = below j l in let long : j < length t.starts = omega arith in subst (λ z. IsSettled clauses pairs z z) (sym (same j less)) (h.levels j long);
  front = subst (λ z. IsSettled clauses pairs z s.literals) (sym front_same) (subst (λ z. IsSettled clauses pairs (below_level t level) z) (sym b.literals) (h.levels level lt));
  size = h.size ∙ ap (λ n. 2 * n) (sym b.size);
}
  where
    below : (j : ℕ) → j < length s.starts → j < level
    below j l = let e : length s.starts ≡ length (take level t.starts) = ap length b.starts in let q = length-take level t.starts in omega arith

    same : (j : ℕ) → j < level → below_level s j ≡ below_level t j
    same j less =
        ap (λ z. take (get_or z j 0) s.literals) b.starts
        ∙ ap (λ i. take i s.literals) (get_or-take level t.starts j 0 less)
        ∙ ap (take (get_or t.starts j 0)) b.literals
        ∙ take-take (get_or t.starts j 0) (get_or t.starts level 0) t.literals (r.rises j level less lt)

    front_same : take s.head s.literals ≡ below_level t level
    front_same = ap (λ i. take i s.literals) b.head ∙ ap (take (get_or t.starts level 0)) b.literals ∙ take-take (get_or t.starts level 0) (get_or t.starts level 0) t.literals (omega arith)

-- the watched literal beside one
pub IsOther-beside : (p : Pair) (w o : ℕ) → IsWatch p w → (p.first ≡ w → o ≡ p.second) → ((p.first ≡ w → ⊥) → o ≡ p.first) → IsOther p w o
IsOther-beside p w o i f s = ⊎_elim
    (λ (e : p.first ≡ w). let is : o ≡ p.second = f e in record { this = i; other = record { two = i.two; one = inr (sym is) }; apart = λ same. i.two (e ∙ sym same ∙ is) })
    (λ (n : p.first ≡ w → ⊥). let is : o ≡ p.first = s n in record { this = i; other = record { two = i.two; one = inl (sym is) }; apart = λ same. n (sym is ∙ same) })
    (cases_eq p.first w)

-- a watch moves from a false literal to one that is not
pub IsWatching-moved : (clauses : List (List ℕ)) (pairs : List Pair) (lists : List (List Watch)) (t : TrailState) (k f o x n : ℕ) → IsOther (pair_in pairs k) f o → IsReplacement (clause_in clauses k) t.literals o (length lists) x → IsWatching clauses pairs lists t → IsWatching clauses (set pairs k (paired x o n)) (pushed lists x (watched k o false)) t
IsWatching-moved clauses pairs lists t k f o x n p q h = record {
  listing = IsListing-pair clauses pairs (pushed lists x (watched k o false)) k (paired x o n) (λ w i. elim i.one [ inl e ↦ subst (λ z. Contains (clause_in clauses k) z × IsListed (list_in (pushed lists x (watched k o false)) z) 0 k) e (q.inside, IsListed-new lists x (watched k o false) q.within) | inr e ↦ subst (λ z. Contains (clause_in clauses k) z × IsListed (list_in (pushed lists x (watched k o false)) z) 0 k) e (h.listing.inside k o p.other, IsListed-pushed lists x (watched k o false) o k (h.listing.listed k o p.other)) ])
      (IsListing-pushed clauses pairs lists x (watched k o false) (h.listing.inside k o p.other) h.listing);
  levels = λ j l. IsSettled-pair clauses pairs (below_level t j) (below_level t j) k (paired x o n) (λ w i m. settled (below_level t j) (below_level t j) (h.levels j l) (λ c n. Contains-take (get_or t.starts j 0) t.literals c n) w i m) (h.levels j l);
  front = IsSettled-pair clauses pairs (take t.head t.literals) t.literals k (paired x o n) (λ w i m. settled (take t.head t.literals) t.literals h.front (λ c n. Contains-take t.head t.literals c n) w i m) h.front;
  size = length-set lists x (list_in lists x ++ watched k o false ∷ []) ∙ h.size;
}
  where
    settled : (first others : List ℕ) → IsSettled clauses pairs first others → ((c : ℕ) → Contains first c → Contains t.literals c) → (w : ℕ) → IsWatch (paired x o n) w → Contains first (negated w) → Meets (clause_in clauses k) others
    settled first others s wider w i m = elim i.one [ inl e ↦ absurd (q.free (subst (λ z. Contains t.literals (negated z)) (sym e) (wider (negated w) m))) | inr e ↦ s.meets k o p.other (subst (λ z. Contains first (negated z)) (sym e) m) ]

pub moved_away : (pairs : List Pair) (literals codes : List ℕ) (k f o x n limit : ℕ) → IsOther (pair_in pairs k) f o → IsReplacement codes literals o limit x → Contains literals (negated f) → IsWatch (pair_in (set pairs k (paired x o n)) k) f → ⊥
moved_away pairs literals codes k f o x n limit p q m =
    IsWatch-set pairs k (paired x o n) k f ⊥
    (λ _ i. elim i.one [ inl e ↦ q.free (subst (λ z. Contains literals (negated z)) (sym e) m) | inr e ↦ p.apart e ])
    (λ past i. IsWatch-past pairs k f (past refl) i)

-- a watch is changed, or taken out where its clause does not watch the literal
pub IsWatching-set : (clauses : List (List ℕ)) (pairs : List Pair) (lists : List (List Watch)) (t : TrailState) (f place : ℕ) (e : Watch) → e.clause ≡ (watch_in (list_in lists f) place).clause → Contains (clause_in clauses e.clause) e.blocker → IsWatching clauses pairs lists t → IsWatching clauses pairs (set lists f (set (list_in lists f) place e)) t
IsWatching-set clauses pairs lists t f place e same b h = record {
  listing = IsListing-set clauses pairs lists f place e same b h.listing;
  levels = h.levels;
  front = h.front;
  size = length-set lists f (set (list_in lists f) place e) ∙ h.size;
}

pub IsWatching-remove : (clauses : List (List ℕ)) (pairs : List Pair) (lists : List (List Watch)) (t : TrailState) (f place : ℕ) → place < length (list_in lists f) → (IsWatch (pair_in pairs (watch_in (list_in lists f) place).clause) f → ⊥) → IsWatching clauses pairs lists t → IsWatching clauses pairs (set lists f (swap_remove (list_in lists f) place no_watch)) t
IsWatching-remove clauses pairs lists t f place lt n h = record {
  listing = IsListing-remove clauses pairs lists f place lt n h.listing;
  levels = h.levels;
  front = h.front;
  size = length-set lists f (swap_remove (list_in lists f) place no_watch) ∙ h.size;
}

pub IsWatching-pushed : (clauses : List (List ℕ)) (pairs : List Pair) (lists : List (List Watch)) (t : TrailState) (x : ℕ) (e : Watch) → Contains (clause_in clauses e.clause) e.blocker → IsWatching clauses pairs lists t → IsWatching clauses pairs (pushed lists x e) t
IsWatching-pushed clauses pairs lists t x e b h = record {
  listing = IsListing-pushed clauses pairs lists x e b h.listing;
  levels = h.levels;
  front = h.front;
  size = length-set lists x (list_in lists x ++ e ∷ []) ∙ h.size;
}

-- a clause comes to watch two of its literals, in whose lists it stands
pub IsWatching-both : (clauses : List (List ℕ)) (pairs : List Pair) (lists : List (List Watch)) (t : TrailState) (k one other n : ℕ) → Contains (clause_in clauses k) one → Contains (clause_in clauses k) other → IsListed (list_in lists one) 0 k → IsListed (list_in lists other) 0 k → IsWatchable t one one → IsWatchable t one other → IsWatching clauses pairs lists t → IsWatching clauses (set pairs k (paired one other n)) lists t
IsWatching-both clauses pairs lists t k one other n a b la lb p q h = record {
  listing = IsListing-pair clauses pairs lists k (paired one other n) (λ w i. elim i.one [ inl e ↦ subst (λ z. Contains (clause_in clauses k) z × IsListed (list_in lists z) 0 k) e (a, la) | inr e ↦ subst (λ z. Contains (clause_in clauses k) z × IsListed (list_in lists z) 0 k) e (b, lb) ]) h.listing;
  levels = λ j l. IsSettled-pair clauses pairs (below_level t j) (below_level t j) k (paired one other n) (λ w i m. absurd ((watchable w i).levels j l m)) (h.levels j l);
  front = IsSettled-pair clauses pairs (take t.head t.literals) t.literals k (paired one other n) (λ w i m. record { literal = one; inside = a; among = (watchable w i).front m }) h.front;
  size = h.size;
}
  where
    watchable : (w : ℕ) → IsWatch (paired one other n) w → IsWatchable t one w
    watchable w i = elim i.one [ inl e ↦ subst (IsWatchable t one) e p | inr e ↦ subst (IsWatchable t one) e q ]

-- more clauses are there
pub IsWatching-clauses : (clauses others : List (List ℕ)) (pairs : List Pair) (lists : List (List Watch)) (t : TrailState) → ((k x : ℕ) → Contains (clause_in clauses k) x → Contains (clause_in others k) x) → IsWatching clauses pairs lists t → IsWatching others pairs lists t
IsWatching-clauses clauses others pairs lists t f h = record {
  listing = record {
    inside = λ k w i. f k w (h.listing.inside k w i);
    listed = h.listing.listed;
    blockers = λ w i lt. f (watch_in (list_in lists w) i).clause (watch_in (list_in lists w) i).blocker (h.listing.blockers w i lt);
  };
  levels = λ j l. more (below_level t j) (below_level t j) (h.levels j l);
  front = more (take t.head t.literals) t.literals h.front;
  size = h.size;
}
  where
    more : (first second : List ℕ) → IsSettled clauses pairs first second → IsSettled others pairs first second
    more first second s = record { meets = λ k w i m. let z = s.meets k w i m in record { literal = z.literal; inside = f k z.literal z.inside; among = z.among } }

pub Contains-clause : (clauses : List (List ℕ)) (c : List ℕ) (k x : ℕ) → Contains (clause_in clauses k) x → Contains (clause_in (clauses ++ c ∷ []) k) x
Contains-clause clauses c k x m = ⊎_elim
    (λ lt. subst (λ z. Contains z x) (sym (get_or_append_left clauses (c ∷ []) [] k lt)) m)
    (λ le. let none : Contains [] x = subst (λ z. Contains z x) (get_or_past clauses k [] le) m in let lt = none.1 in absurd (omega arith))
    (cases_lt k (length clauses))

-- the next literal was propagated
pub IsWatching-advance : (clauses : List (List ℕ)) (pairs : List Pair) (lists : List (List Watch)) (t s : TrailState) (c : ℕ) → s ≡ with_head t (t.head + 1) → t.head < length t.literals → get_or t.literals t.head 0 ≡ c → ((k : ℕ) → IsWatch (pair_in pairs k) (negated c) → Meets (clause_in clauses k) t.literals) → IsWatching clauses pairs lists t → IsWatching clauses pairs lists s
IsWatching-advance clauses pairs lists t s c e lt here f h = subst (IsWatching clauses pairs lists) (sym e) (record {
  listing = h.listing;
  levels = h.levels;
  front = record { meets = λ k w i m. ⊎_elim (λ l. h.front.meets k w i l) (λ r. f k (subst (IsWatch (pair_in pairs k)) (named w r) i)) (Contains-push_cases (take t.head t.literals) (get_or t.literals t.head 0) (negated w) (subst (λ z. Contains z (negated w)) (take_more t.literals t.head 0 lt) m)) };
  size = h.size;
})
  where
    named : (w : ℕ) → get_or t.literals t.head 0 ≡ negated w → w ≡ negated c
    named w r = sym (negated-negated w) ∙ ap negated (sym r ∙ here)
