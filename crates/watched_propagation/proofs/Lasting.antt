-- Literals that stay true, and clauses that have one: how this goes on when the trail or the clauses change.
use Rattle.std.proofs.Common.{◌≡◌, ◌⊎◌, ℕ, ◌<◌, ◌≤◌, ◌+◌, ◌-◌, List, [], ◌∷◌, ◌++◌, length, get_or, take, refl, sym, ◌∙◌, ap, subst, inl, inr, ⊎_elim, arith}
use Rattle.std.specs.List.{Contains}
use Rattle.std.proofs.Math.Seq.{take-append-add}
use Rattle.std.proofs.lemmas.Bool.{cases_lt}
use Rattle.std.proofs.lemmas.List.{get_or_append_left, get_or_at, get_or-take, length-append, length-take, take_all, take-take, take-append-le}
use Rattle.std.proofs.lemmas.List.Elements.{Contains-append_left}
use Rattle.propagation_trail.specs.Trails.{TrailState, with_level, with_head, IsBack, IsRising, Grown}
use Rattle.watched_propagation.specs.Watching.{clause_in, below_level, IsLasting, IsDone, KeepsLasting}
use Rattle.watched_propagation.proofs.Settling.{Contains-take, Contains-clause, Contains-grown}

pub IsDone-kept : (t s : TrailState) (clause : List ℕ) → KeepsLasting t s → IsDone t clause → IsDone s clause
IsDone-kept t s clause k d = record { literal = d.literal; inside = d.inside; lasting = k d.literal d.lasting }

pub IsDone-clause : (t : TrailState) (clauses : List (List ℕ)) (c : List ℕ) (k : ℕ) → IsDone t (clause_in clauses k) → IsDone t (clause_in (clauses ++ c ∷ []) k)
IsDone-clause t clauses c k d = record { literal = d.literal; inside = Contains-clause clauses c k d.literal d.inside; lasting = d.lasting }

-- the first elements stay so when more come behind
Contains-take_more : (n : ℕ) (xs ys : List ℕ) (x : ℕ) → Contains (take n xs) x → Contains (take n (xs ++ ys)) x
Contains-take_more n xs ys x m = ⊎_elim
    (λ lt. let le : n ≤ length xs = omega arith in subst (λ z. Contains z x) (sym (take-append-le n xs ys le)) m)
    (λ le.
    let split : length xs + (n - length xs) ≡ n = omega arith in
    let e : take n (xs ++ ys) ≡ xs ++ take (n - length xs) ys = ap (λ i. take i (xs ++ ys)) (sym split) ∙ take-append-add xs ys (n - length xs) in
    subst (λ z. Contains z x) (sym e) (Contains-append_left xs (take (n - length xs) ys) x (Contains-take n xs x m)))
    (cases_lt n (length xs))

-- more literals are true
pub KeepsLasting-grown : (t s : TrailState) → Grown t s → KeepsLasting t s
KeepsLasting-grown t s g c h = record {
  true_now = Contains-grown t s c g h.true_now;
  true_before = λ j l.
      let lt : j < length t.starts = subst (λ z. j < length z) g.starts l in
      let e : below_level s j ≡ take (get_or t.starts j 0) (t.literals ++ g.more) = ap (λ z. take (get_or z j 0) s.literals) g.starts ∙ ap (take (get_or t.starts j 0)) g.literals in
      subst (λ z. Contains z c) (sym e) (Contains-take_more (get_or t.starts j 0) t.literals g.more c (h.true_before j lt));
}

-- one more decision stands
pub KeepsLasting-level : (t s : TrailState) → s ≡ with_level t → KeepsLasting t s
KeepsLasting-level t s e c h = subst (λ z. IsLasting z c) (sym e) (record {
  true_now = h.true_now;
  true_before = λ j l. ⊎_elim
      (λ lt. subst (λ n. Contains (take n t.literals) c) (sym (get_or_append_left t.starts (length t.literals ∷ []) 0 j lt)) (h.true_before j lt))
      (λ le.
      let size = length-append t.starts (length t.literals ∷ []) in
      let last : length t.starts ≡ j = omega arith in
      let n : get_or (t.starts ++ length t.literals ∷ []) j 0 ≡ length t.literals = get_or_at t.starts (length t.literals) [] 0 j last in
      subst (λ z. Contains z c) (sym (ap (λ i. take i t.literals) n ∙ take_all (length t.literals) t.literals (omega arith))) h.true_now)
      (cases_lt j (length t.starts));
})

-- literals were propagated
pub KeepsLasting-head : (t s : TrailState) (n : ℕ) → s ≡ with_head t n → KeepsLasting t s
KeepsLasting-head t s n e c h = subst (λ z. IsLasting z c) (sym e) (record { true_now = h.true_now; true_before = h.true_before })

-- decisions are taken back
pub KeepsLasting-back : (t s : TrailState) (level : ℕ) → level < length t.starts → IsBack t level s → IsRising t.starts (length t.literals) → KeepsLasting t s
KeepsLasting-back t s level lt b r c h = record {
  true_now = subst (λ z. Contains z c) (sym b.literals) (h.true_before level lt);
  true_before = λ j l. let less = below j l in let long : j < length t.starts = omega arith in subst (λ z. Contains z c) (sym (same j less)) (h.true_before j long);
}
  where
    below : (j : ℕ) → j < length s.starts → j < level
    below j l = let e : length s.starts ≡ length (take level t.starts) = ap length b.starts in let q = length-take level t.starts in omega arith

    same : (j : ℕ) → j < level → below_level s j ≡ below_level t j
    same j less =
        ap (λ z. take (get_or z j 0) s.literals) b.starts
        ∙ ap (λ i. take i s.literals) (get_or-take level t.starts j 0 less)
        ∙ ap (take (get_or t.starts j 0)) b.literals
        ∙ take-take (get_or t.starts j 0) (get_or t.starts level 0) t.literals (r.rises j level less lt)
