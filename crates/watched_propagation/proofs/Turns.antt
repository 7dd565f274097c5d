-- A visit of the clauses that watch a false literal, turn by turn.
use Rattle.std.proofs.Common.{◌≡◌, ℕ, ◌<◌, ◌≤◌, ◌+◌, ◌-◌, List, [], length, set, refl, sym, ◌∙◌, ap, subst, inl, inr, ⊎_elim, arith, Bool, false, Option, Some, None}
use Rattle.std.specs.List.{Contains, swap_remove}
use Rattle.std.specs.Option.{is_some}
use Rattle.std.proofs.lemmas.Bool.{cases_lt, true≢false}
use Rattle.std.proofs.lemmas.List.{get_or_past, get_or-set_same, length-set}
use Rattle.watched_propagation.specs.declared.watch.Pair.{Pair}
use Rattle.watched_propagation.specs.declared.watch.Watch.{Watch}
use Rattle.propagation_trail.specs.Trails.{TrailState, Grown}
use Rattle.watched_propagation.specs.Watching.{no_watch, clause_in, pair_in, list_in, watch_in, IsWatch, IsListed, AreBlockers, IsListing, Meets, IsWatching}
use Rattle.propagation_trail.specs.Codes.{negated}
use Rattle.watched_propagation.specs.Visits.{IsCovered, IsVisited, IsVisiting, IsVisitedUnless}
use Rattle.propagation_trail.proofs.Tables.{cases_eq}
use Rattle.watched_propagation.proofs.Lists.{watched, IsListed-set, IsListed-remove, length-remove}
use Rattle.watched_propagation.proofs.Settling.{Contains-grown, IsWatching-set, IsWatching-remove}

pub IsCovered-start : (clauses : List (List ℕ)) (pairs : List Pair) (lists : List (List Watch)) (literals : List ℕ) (f : ℕ) → IsListing clauses pairs lists → IsCovered clauses pairs literals (list_in lists f) f 0
IsCovered-start clauses pairs lists literals f h = record { each = λ k i. inr (h.listed k f i) }

later : (list : List Watch) (start place k : ℕ) (h : IsListed list start k) → place ≤ h.place → IsListed list place k
later list start place k h le = record { place = h.place; after = le; within = h.within; clause = h.clause }

-- watches whose blocker is true are passed over
pub IsCovered-passed : (clauses : List (List ℕ)) (pairs : List Pair) (literals : List ℕ) (list : List Watch) (f start place : ℕ) → AreBlockers clauses list → ((i : ℕ) → start ≤ i → i < place → Contains literals (watch_in list i).blocker) → IsCovered clauses pairs literals list f start → IsCovered clauses pairs literals list f place
IsCovered-passed clauses pairs literals list f start place b p h = record {
  each = λ k i. ⊎_elim (λ m. inl m) (λ l. ⊎_elim
      (λ lt. inl (record {
        literal = (watch_in list l.place).blocker;
        inside = subst (λ z. Contains (clause_in clauses z) (watch_in list l.place).blocker) l.clause (b l.place l.within);
        among = p l.place l.after lt;
      }))
      (λ le. inr (later list start place k l le))
      (cases_lt l.place place)) (h.each k i);
}

-- nothing is left of the list
pub IsVisited-end : (clauses : List (List ℕ)) (pairs : List Pair) (literals : List ℕ) (list : List Watch) (f place : ℕ) → length list ≤ place → IsCovered clauses pairs literals list f place → IsVisited clauses pairs literals f
IsVisited-end clauses pairs literals list f place le h = record {
  each = λ k i. ⊎_elim (λ m. m) (λ l. let a = l.after in let b = l.within in absurd (omega arith)) (h.each k i);
}

meets : (clauses : List (List ℕ)) (k : ℕ) (t s : TrailState) → Grown t s → Meets (clause_in clauses k) t.literals → Meets (clause_in clauses k) s.literals
meets clauses k t s g m = record { literal = m.literal; inside = m.inside; among = Contains-grown t s m.literal g m.among }

-- the clause at the place is settled: others stay as they were
pub IsCovered-removed : (clauses : List (List ℕ)) (pairs others : List Pair) (t s : TrailState) (list : List Watch) (f place : ℕ) → Grown t s → place < length list → ((k : ℕ) → (k ≡ (watch_in list place).clause → ⊥) → pair_in others k ≡ pair_in pairs k) → (IsWatch (pair_in others (watch_in list place).clause) f → ⊥) → IsCovered clauses pairs t.literals list f place → IsCovered clauses others s.literals (swap_remove list place no_watch) f place
IsCovered-removed clauses pairs others t s list f place g lt same n h = record {
  each = λ k i.
      let ne : k ≡ (watch_in list place).clause → ⊥ = λ e. n (subst (λ z. IsWatch (pair_in others z) f) e i) in
      ⊎_elim
      (λ m. inl (meets clauses k t s g m))
      (λ l. inr (IsListed-remove list place place k (omega arith) lt (λ e. ne (sym e)) l))
      (h.each k (subst (λ z. IsWatch z f) (same k ne) i));
}

pub IsCovered-kept : (clauses : List (List ℕ)) (pairs others : List Pair) (t s : TrailState) (list : List Watch) (f place b : ℕ) (short : Bool) → Grown t s → place < length list → ((k : ℕ) → (k ≡ (watch_in list place).clause → ⊥) → pair_in others k ≡ pair_in pairs k) → Contains (clause_in clauses (watch_in list place).clause) b → Contains s.literals b → IsCovered clauses pairs t.literals list f place → IsCovered clauses others s.literals (set list place (watched (watch_in list place).clause b short)) f (place + 1)
IsCovered-kept clauses pairs others t s list f place b short g lt same inside among h = record {
  each = λ k i. ⊎_elim
      (λ e. inl (record { literal = b; inside = subst (λ z. Contains (clause_in clauses z) b) (sym e) inside; among = among }))
      (λ ne. ⊎_elim
      (λ m. inl (meets clauses k t s g m))
      (λ l. inr (IsListed-set list place (place + 1) k (watched (watch_in list place).clause b short) refl (later list place (place + 1) k l (next k ne l))))
      (h.each k (subst (λ z. IsWatch z f) (same k ne) i)))
      (cases_eq k (watch_in list place).clause);
}
  where
    next : (k : ℕ) → (k ≡ (watch_in list place).clause → ⊥) → (l : IsListed list place k) → place + 1 ≤ l.place
    next k ne l =
        let apart : place ≡ l.place → ⊥ = λ e. ne (sym l.clause ∙ ap (λ i. (watch_in list i).clause) (sym e)) in
        let a = l.after in
        omega arith

-- what is known once the clause of the watch at a place was settled
pub record Turned (clauses : List (List ℕ)) (pairs others : List Pair) (lists next : List (List Watch)) (t s : TrailState) (f start place : ℕ) : Type 0 where
  pub watching : IsWatching clauses others next s
  pub grown : Grown t s
  pub inside : f < length next
  pub falsified : Contains t.literals (negated f)
  pub list : list_in next f ≡ list_in lists f
  pub passed : start ≤ place
  pub within : place < length (list_in lists f)
  pub same : (k : ℕ) → (k ≡ (watch_in (list_in lists f) place).clause → ⊥) → pair_in others k ≡ pair_in pairs k
  pub covered : IsCovered clauses pairs t.literals (list_in lists f) f place

pub visiting_removed : (clauses : List (List ℕ)) (pairs others : List Pair) (lists next : List (List Watch)) (t s : TrailState) (f start place : ℕ) → Turned clauses pairs others lists next t s f start place → (IsWatch (pair_in others (watch_in (list_in lists f) place).clause) f → ⊥) → IsVisiting clauses others (set next f (swap_remove (list_in next f) place no_watch)) s f place × (length (list_in (set next f (swap_remove (list_in next f) place no_watch)) f) - place < length (list_in lists f) - start)
visiting_removed clauses pairs others lists next t s f start place h n =
    let new = swap_remove (list_in next f) place no_watch in
    let here : list_in (set next f new) f ≡ swap_remove (list_in lists f) place no_watch = get_or-set_same next f new [] h.inside ∙ ap (λ z. swap_remove z place no_watch) h.list in
    let size = length-remove (list_in lists f) place in
    let count : length (list_in (set next f new) f) ≡ length (list_in lists f) - 1 = ap length here ∙ size in
    let long : place < length (list_in next f) = subst (λ z. place < length z) (sym h.list) h.within in
    let away : IsWatch (pair_in others (watch_in (list_in next f) place).clause) f → ⊥ = subst (λ z. IsWatch (pair_in others (watch_in z place).clause) f → ⊥) (sym h.list) n in
    let wide = length-set next f new in
    let lt = h.within in
    let le = h.passed in
    let inside = h.inside in (
      record {
        watching = IsWatching-remove clauses others next s f place long away h.watching;
        within = omega arith;
        falsified = Contains-grown t s (negated f) h.grown h.falsified;
        covered = subst (λ z. IsCovered clauses others s.literals z f place) (sym here) (IsCovered-removed clauses pairs others t s (list_in lists f) f place h.grown h.within h.same n h.covered);
      },
      omega arith,
    )

pub visiting_kept : (clauses : List (List ℕ)) (pairs others : List Pair) (lists next : List (List Watch)) (t s : TrailState) (f start place k b : ℕ) (short : Bool) → Turned clauses pairs others lists next t s f start place → k ≡ (watch_in (list_in lists f) place).clause → Contains (clause_in clauses k) b → Contains s.literals b → IsVisiting clauses others (set next f (set (list_in next f) place (watched k b short))) s f (place + 1) × (length (list_in (set next f (set (list_in next f) place (watched k b short))) f) - (place + 1) < length (list_in lists f) - start)
visiting_kept clauses pairs others lists next t s f start place k b short h is inside_clause among =
    let e : Watch = watched k b short in
    let new = set (list_in next f) place e in
    let here : list_in (set next f new) f ≡ set (list_in lists f) place e = get_or-set_same next f new [] h.inside ∙ ap (λ z. set z place e) h.list in
    let size = length-set (list_in lists f) place e in
    let count : length (list_in (set next f new) f) ≡ length (list_in lists f) = ap length here ∙ size in
    let wide = length-set next f new in
    let lt = h.within in
    let le = h.passed in
    let inside = h.inside in
    let kept = IsCovered-kept clauses pairs others t s (list_in lists f) f place b short h.grown h.within h.same (subst (λ z. Contains (clause_in clauses z) b) is inside_clause) among h.covered in (
      record {
        watching = IsWatching-set clauses others next s f place e (is ∙ ap (λ z. (watch_in z place).clause) (sym h.list)) inside_clause h.watching;
        within = omega arith;
        falsified = Contains-grown t s (negated f) h.grown h.falsified;
        covered = subst (λ z. IsCovered clauses others s.literals z f (place + 1)) (sym here) (subst (λ z. IsCovered clauses others s.literals (set (list_in lists f) place (watched z b short)) f (place + 1)) (sym is) kept);
      },
      omega arith,
    )

pub within_listed : (lists : List (List Watch)) (w k : ℕ) → IsListed (list_in lists w) 0 k → w < length lists
within_listed lists w k h = ⊎_elim (λ lt. lt) (λ le. let none : list_in lists w ≡ [] = get_or_past lists w [] le in let e : length (list_in lists w) ≡ 0 = ap length none in let i = h.within in absurd (omega arith)) (cases_lt w (length lists))

-- the list as it was read
pub turned : (clauses : List (List ℕ)) (pairs others : List Pair) (lists next : List (List Watch)) (t s : TrailState) (f start place : ℕ) (list : List Watch) → list ≡ list_in lists f → IsVisiting clauses pairs lists t f start → start ≤ place → ((i : ℕ) → start ≤ i → i < place → Contains t.literals (watch_in list i).blocker) → place < length list → IsWatching clauses others next s → Grown t s → list_in next f ≡ list_in lists f → ((k : ℕ) → (k ≡ (watch_in list place).clause → ⊥) → pair_in others k ≡ pair_in pairs k) → Turned clauses pairs others lists next t s f start place
turned clauses pairs others lists next t s f start place list is v le passed lt w g same others_same = record {
  watching = w;
  grown = g;
  inside = let b = v.within in let a = w.size in let d = v.watching.size in let e = g.size in omega arith;
  falsified = v.falsified;
  list = same;
  passed = le;
  within = subst (λ z. place < length z) is lt;
  same = subst (λ z. (k : ℕ) → (k ≡ (watch_in z place).clause → ⊥) → pair_in others k ≡ pair_in pairs k) is others_same;
  covered = IsCovered-passed clauses pairs t.literals (list_in lists f) f start place (v.watching.listing.blockers f) (subst (λ z. (i : ℕ) → start ≤ i → i < place → Contains t.literals (watch_in z i).blocker) is passed) v.covered;
}

pub visited_all : (clauses : List (List ℕ)) (pairs : List Pair) (lists : List (List Watch)) (t : TrailState) (f start place : ℕ) (list : List Watch) → list ≡ list_in lists f → IsVisiting clauses pairs lists t f start → ((i : ℕ) → start ≤ i → i < place → Contains t.literals (watch_in list i).blocker) → length list ≤ place → IsVisited clauses pairs t.literals f
visited_all clauses pairs lists t f start place list is v passed le =
    IsVisited-end clauses pairs t.literals (list_in lists f) f place (subst (λ z. length z ≤ place) is le)
    (IsCovered-passed clauses pairs t.literals (list_in lists f) f start place (v.watching.listing.blockers f) (subst (λ z. (i : ℕ) → start ≤ i → i < place → Contains t.literals (watch_in z i).blocker) is passed) v.covered)

pub visited_unless : (clauses : List (List ℕ)) (pairs : List Pair) (literals : List ℕ) (f : ℕ) (o : Option ℕ) → is_some o ≡ false → IsVisitedUnless clauses pairs literals f o → IsVisited clauses pairs literals f
visited_unless clauses pairs literals f None e h = h
visited_unless clauses pairs literals f (Some k) e h = absurd (true≢false e)
