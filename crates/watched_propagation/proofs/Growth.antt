-- A propagator, when a clause is added, when a clause comes to watch, and when the trail changes.
use Rattle.std.proofs.Common.{◌≡◌, ◌≢◌, ℕ, zero, suc, ◌<◌, ◌≤◌, ◌+◌, ◌-◌, List, [], ◌∷◌, ◌++◌, length, get_or, take, refl, sym, ◌∙◌, ap, subst, ◌⊎◌, inl, inr, ⊎_elim, IsTrue, set, arith}
use Rattle.std.specs.List.{Contains}
use Rattle.std.proofs.lemmas.Bool.{cases_lt}
use Rattle.std.proofs.lemmas.List.{get_or_append_left, get_or_past, get_or-set_same, get_or-set_other, length-append, length-set, take_at, take-append-le}
use Rattle.std.proofs.lemmas.List.Elements.{Contains-append_left, Contains-push, Contains-push_cases}
use Rattle.watched_propagation.specs.declared.watch.Pair.{Pair}
use Rattle.watched_propagation.specs.declared.watch.Watch.{Watch}
use Rattle.propagation_trail.specs.Codes.{negated}
use Rattle.propagation_trail.specs.Trails.{TrailState, assigned}
use Rattle.watched_propagation.specs.Watching.{no_pair, clause_in, pair_in, is_part, IsCovered, IsWatch, IsSettled, below_level, IsDone, IsWatching, KeepsWatched, KeepsLasting, KeepsWatching}
use Rattle.watched_propagation.specs.Propagations.{IsPropagator, IsWatchable, IsLearnable}
use Rattle.propagation_trail.proofs.Tables.{cases_eq}
use Rattle.watched_propagation.proofs.Settling.{Contains-take, Contains-clause, IsWatching-clauses}
use Rattle.watched_propagation.proofs.Lasting.{IsDone-kept, IsDone-clause}

-- pairs of which each watches no more than before
IsWatching-less : (clauses : List (List ℕ)) (pairs others : List Pair) (lists : List (List Watch)) (t : TrailState) → ((k w : ℕ) → IsWatch (pair_in others k) w → IsWatch (pair_in pairs k) w) → IsWatching clauses pairs lists t → IsWatching clauses others lists t
IsWatching-less clauses pairs others lists t back h = record {
  listing = record {
    inside = λ k w i. h.listing.inside k w (back k w i);
    listed = λ k w i. h.listing.listed k w (back k w i);
    blockers = h.listing.blockers;
  };
  levels = λ j l. settled (below_level t j) (below_level t j) (h.levels j l);
  front = settled (take t.head t.literals) t.literals h.front;
  size = h.size;
}
  where
    settled : (first second : List ℕ) → IsSettled clauses pairs first second → IsSettled clauses others first second
    settled first second s = record { meets = λ k w i m. s.meets k w (back k w i) m }

-- pairs that are the same at each place
IsWatching-pairs : (clauses : List (List ℕ)) (pairs others : List Pair) (lists : List (List Watch)) (t : TrailState) → ((k : ℕ) → pair_in others k ≡ pair_in pairs k) → IsWatching clauses pairs lists t → IsWatching clauses others lists t
IsWatching-pairs clauses pairs others lists t same h = IsWatching-less clauses pairs others lists t (λ k w i. subst (λ z. IsWatch z w) (same k) i) h

push-none : (pairs : List Pair) (k : ℕ) → pair_in (pairs ++ no_pair ∷ []) k ≡ pair_in pairs k
push-none [] zero = refl
push-none [] (suc k) = refl
push-none (p ∷ ps) zero = refl
push-none (p ∷ ps) (suc k) = push-none ps k

pub add_loose : (clauses : List (List ℕ)) (pairs : List Pair) (lists : List (List Watch)) (t : TrailState) (loose : List ℕ) (k : ℕ) → IsPropagator clauses pairs lists t loose → IsPropagator clauses pairs lists t (loose ++ k ∷ [])
add_loose clauses pairs lists t loose k h = record {
  watching = h.watching;
  unwatched = λ j lt e n. ⊎_elim (λ m. inl (Contains-append_left loose (k ∷ []) j m)) (λ d. inr d) (h.unwatched j lt e n);
  paired = h.paired;
  few = h.few;
}

pub add_pair : (clauses : List (List ℕ)) (pairs : List Pair) (lists : List (List Watch)) (t : TrailState) (loose : List ℕ) → IsPropagator clauses pairs lists t loose → IsPropagator clauses (pairs ++ no_pair ∷ []) lists t loose
add_pair clauses pairs lists t loose h = record {
  watching = IsWatching-pairs clauses pairs (pairs ++ no_pair ∷ []) lists t (push-none pairs) h.watching;
  unwatched = λ j lt e n. h.unwatched j lt (ap (λ (p : Pair). p.first) (sym (push-none pairs j)) ∙ e ∙ ap (λ (p : Pair). p.second) (push-none pairs j)) n;
  paired = let s = length-append pairs (no_pair ∷ []) in let le = h.paired in omega arith;
  few = h.few;
}

-- what a later clause is a part of stays so
IsCovered-more : (clauses : List (List ℕ)) (c : List ℕ) (k : ℕ) → k < length clauses → IsCovered clauses k → IsCovered (clauses ++ c ∷ []) k
IsCovered-more clauses c k lt h = record {
  by = h.by;
  later = h.later;
  within = let s = length-append clauses (c ∷ []) in let i = h.within in omega arith;
  part = subst (λ z. IsTrue (is_part z (clause_in (clauses ++ c ∷ []) k))) (sym (get_or_append_left clauses (c ∷ []) [] h.by h.within))
      (subst (λ z. IsTrue (is_part (clause_in clauses h.by) z)) (sym (get_or_append_left clauses (c ∷ []) [] k lt)) h.part);
}

pub add_clause : (clauses : List (List ℕ)) (pairs : List Pair) (lists : List (List Watch)) (t : TrailState) (loose : List ℕ) (c : List ℕ) → length clauses < length pairs → IsPropagator clauses pairs lists t (loose ++ length clauses ∷ []) → IsPropagator (clauses ++ c ∷ []) pairs lists t (loose ++ length clauses ∷ [])
add_clause clauses pairs lists t loose c lt h = record {
  watching = IsWatching-clauses clauses (clauses ++ c ∷ []) pairs lists t (Contains-clause clauses c) h.watching;
  unwatched = λ j l e n. ⊎_elim
      (λ less. ⊎_elim (λ m. inl m) (λ d. inr (IsDone-clause t clauses c j d)) (h.unwatched j less e (λ by. n (IsCovered-more clauses c j less by))))
      (λ le. let same : length clauses ≡ j = omega (arith, length-append clauses (c ∷ []), l) in inl (subst (Contains (loose ++ length clauses ∷ [])) same (Contains-push loose (length clauses))))
      (cases_lt j (length clauses));
  paired = let s = length-append clauses (c ∷ []) in omega arith;
  few = h.few;
}

-- the watches or the trail go on
pub go_on : (clauses : List (List ℕ)) (pairs others : List Pair) (lists next : List (List Watch)) (t s : TrailState) (loose : List ℕ) → IsWatching clauses others next s → KeepsWatched pairs others → length pairs ≤ length others → KeepsLasting t s → length s.values ≡ length t.values → IsPropagator clauses pairs lists t loose → IsPropagator clauses others next s loose
go_on clauses pairs others lists next t s loose w k le lasting size h = record {
  watching = w;
  unwatched = λ j lt e n. ⊎_elim (λ m. inl m) (λ d. inr (IsDone-kept t s (clause_in clauses j) lasting d)) (h.unwatched j lt (k j e) n);
  paired = let p = h.paired in omega arith;
  few = let f = h.few in omega arith;
}

pub go_on_trail : (clauses : List (List ℕ)) (pairs : List Pair) (lists : List (List Watch)) (t s : TrailState) (loose : List ℕ) → KeepsWatching t s → KeepsLasting t s → length s.values ≡ length t.values → IsPropagator clauses pairs lists t loose → IsPropagator clauses pairs lists s loose
go_on_trail clauses pairs lists t s loose k lasting size h = go_on clauses pairs pairs lists lists t s loose (k clauses pairs lists h.watching) (λ _ e. e) (omega arith) lasting size h

-- a clause that watches, or of which a literal stays true, is loose no more
pub take_loose : (clauses : List (List ℕ)) (pairs : List Pair) (lists : List (List Watch)) (t : TrailState) (loose front rest : List ℕ) (k : ℕ) → loose ≡ front ++ k ∷ [] → rest ≡ take (length loose - 1) loose → ((pair_in pairs k).first ≢ (pair_in pairs k).second) ⊎ IsDone t (clause_in clauses k) → IsPropagator clauses pairs lists t loose → IsPropagator clauses pairs lists t rest
take_loose clauses pairs lists t loose front rest k is left n h = record {
  watching = h.watching;
  unwatched = λ j lt e no. ⊎_elim (λ m. among j e (Contains-push_cases front k j (subst (λ z. Contains z j) is m))) (λ d. inr d) (h.unwatched j lt e no);
  paired = h.paired;
  few = h.few;
}
  where
    size : length loose ≡ length front + 1
    size = ap length is ∙ length-append front (k ∷ [])

    same : rest ≡ front
    same = left ∙ ap (take (length loose - 1)) is ∙ take_at front (k ∷ []) (length loose - 1) (let e = size in omega arith)

    among : (j : ℕ) → (pair_in pairs j).first ≡ (pair_in pairs j).second → Contains front j ⊎ (k ≡ j) → Contains rest j ⊎ IsDone t (clause_in clauses j)
    among j e (inl m) = inl (subst (λ z. Contains z j) (sym same) m)
    among j e (inr r) = ⊎_elim
        (λ two. absurd (two (subst (λ z. (pair_in pairs z).first ≡ (pair_in pairs z).second) (sym r) e)))
        (λ d. inr (subst (λ z. IsDone t (clause_in clauses z)) r d))
        n

-- where no decision stands, what is true stays so
pub done_bottom : (t : TrailState) (clause : List ℕ) (one : ℕ) → t.starts ≡ [] → Contains clause one → Contains t.literals one → IsDone t clause
done_bottom t clause one starts m on = record {
  literal = one;
  inside = m;
  lasting = record {
    true_now = on;
    true_before = λ j l. let e : length t.starts ≡ 0 = ap length starts in absurd (omega arith);
  };
}

-- where no decision stands, what is not false may be watched, and anything beside a literal that is true
pub watchable_bottom : (t : TrailState) (one w : ℕ) → t.starts ≡ [] → (Contains t.literals (negated w) → Contains t.literals one) → IsWatchable t one w
watchable_bottom t one w starts f = record {
  levels = λ j l m. let e : length t.starts ≡ 0 = ap length starts in absurd (omega arith);
  front = λ m. f (Contains-take t.head t.literals (negated w) m);
}

-- what a learned clause may watch once its first literal is true
pub watchable_learned : (t s : TrailState) (one other : ℕ) → IsLearnable t one other → s ≡ assigned t one → IsWatchable s one one × IsWatchable s one other
watchable_learned t s one other h e = subst (λ z. IsWatchable z one one × IsWatchable z one other) (sym e) (
  record {
    levels = λ j l m. h.first (Contains-take (get_or t.starts j 0) t.literals (negated one) (below j l (negated one) m));
    front = λ _. Contains-push t.literals one;
  },
  record {
    levels = λ j l m. h.second j l (below j l (negated other) m);
    front = λ _. Contains-push t.literals one;
  },
)
  where
    below : (j : ℕ) → j < length t.starts → (x : ℕ) → Contains (below_level (assigned t one) j) x → Contains (below_level t j) x
    below j l x m = subst (λ z. Contains z x) (take-append-le (get_or t.starts j 0) t.literals (one ∷ []) (h.rising.within j l)) m

-- a clause that a later one is a part of watches nothing any more
none-watches : (w : ℕ) → IsWatch no_pair w → ⊥
none-watches w i = i.two refl

let-go-back : (pairs : List Pair) (k j w : ℕ) → IsWatch (pair_in (set pairs k no_pair) j) w → IsWatch (pair_in pairs j) w
let-go-back pairs k j w i = ⊎_elim
    (λ e. ⊎_elim
    (λ lt. absurd (none-watches w (subst (λ z. IsWatch z w) (ap (λ z. pair_in (set pairs k no_pair) z) e ∙ get_or-set_same pairs k no_pair no_pair lt) i)))
    (λ le. absurd (none-watches w (subst (λ z. IsWatch z w) (get_or_past (set pairs k no_pair) j no_pair (let s = length-set pairs k no_pair in omega arith)) i)))
    (cases_lt k (length pairs)))
    (λ n. subst (λ z. IsWatch z w) (get_or-set_other pairs k j no_pair no_pair n) i)
    (cases_eq j k)

pub let_go : (clauses : List (List ℕ)) (pairs : List Pair) (lists : List (List Watch)) (t : TrailState) (loose : List ℕ) (k : ℕ) → IsCovered clauses k → IsPropagator clauses pairs lists t loose → IsPropagator clauses (set pairs k no_pair) lists t loose
let_go clauses pairs lists t loose k covered h = record {
  watching = IsWatching-less clauses pairs (set pairs k no_pair) lists t (let-go-back pairs k) h.watching;
  unwatched = λ j lt e no. ⊎_elim
      (λ is. absurd (no (subst (IsCovered clauses) (sym is) covered)))
      (λ n. h.unwatched j lt (subst (λ (z : Pair). z.first ≡ z.second) (get_or-set_other pairs k j no_pair no_pair n) e) no)
      (cases_eq j k);
  paired = let s = length-set pairs k no_pair in let p = h.paired in omega arith;
  few = h.few;
}
