-- Where nothing is left to propagate, no clause is false or unit.
use Rattle.std.proofs.Common.{◌≡◌, ◌≢◌, ◌⊎◌, ℕ, zero, suc, ◌<◌, ◌≤◌, ◌+◌, Bool, true, false, nat_eq, not, cond, List, [], ◌∷◌, map, length, get_or, take, refl, sym, ◌∙◌, ap, subst, inl, inr, ⊎_elim, arith}
use Rattle.std.specs.List.{Contains}
use Rattle.std.proofs.lemmas.Bool.{cases_lt, eqb-true, false≢true}
use Rattle.std.proofs.lemmas.List.{get_or-map, get_or_default, take_all, length-map}
use Rattle.clause_core.specs.declared.literal.Lit.{Lit}
use Rattle.clause_core.specs.declared.truth.Truth.{Truth}
use Rattle.clause_core.specs.declared.truth.Truth.TheVariants.{Open, True, False}
use Rattle.clause_core.specs.declared.status.Status.TheVariants.{Neither}
use Rattle.clause_core.specs.Values.{value, is_false, opposite}
use Rattle.clause_core.specs.Steps.{left_of, status_of_one, status_of_left, clause_status}
use Rattle.clause_core.specs.Propagation.{IsClosed}
use Rattle.watched_propagation.specs.declared.watch.Pair.{Pair}
use Rattle.watched_propagation.specs.declared.watch.Watch.{Watch}
use Rattle.propagation_trail.specs.Codes.{literal_of, negated, truth}
use Rattle.propagation_trail.specs.Trails.{TrailState, IsConsistent}
use Rattle.watched_propagation.specs.Watching.{clause_in, pair_in, is_part, IsCovered, IsWatch, Meets}
use Rattle.watched_propagation.specs.Propagations.{literals_of, IsPropagator}
use Rattle.propagation_trail.proofs.Signs.{truth-negated}
use Rattle.propagation_trail.proofs.Tables.{cases_eq}

-- what a literal of this value adds: with 2 or more a clause is neither false nor unit
abbrev weight : Truth → ℕ
weight False = 0
weight Open = 1
weight True = 2

abbrev clause_weight : List Truth → List Lit → ℕ
clause_weight vs [] = 0
clause_weight vs (l ∷ ls) = weight (value vs l) + clause_weight vs ls

left_step : (vs : List Truth) (l : Lit) (rest : List Lit) (t : Truth) → weight (value vs l) ≡ weight t → clause_weight vs (cond (not (is_false t)) (l ∷ rest) rest) ≡ weight t + clause_weight vs rest
left_step vs l rest False e = omega arith
left_step vs l rest Open e = ap (λ n. n + clause_weight vs rest) e
left_step vs l rest True e = ap (λ n. n + clause_weight vs rest) e

-- what is false weighs nothing
clause_weight-left : (vs : List Truth) (c : List Lit) → clause_weight vs (left_of vs c) ≡ clause_weight vs c
clause_weight-left vs [] = refl
clause_weight-left vs (l ∷ ls) = left_step vs l (left_of vs ls) (value vs l) refl ∙ ap (λ n. weight (value vs l) + n) (clause_weight-left vs ls)

heavy-one : (t : Truth) (l : Lit) → 2 ≤ weight t + 0 → status_of_one t l ≡ Neither
heavy-one Open l h = absurd (omega arith)
heavy-one True l h = refl
heavy-one False l h = refl

heavy-left : (vs : List Truth) (ls : List Lit) → 2 ≤ clause_weight vs ls → status_of_left vs ls ≡ Neither
heavy-left vs [] h = absurd (omega arith)
heavy-left vs (l ∷ []) h = heavy-one (value vs l) l h
heavy-left vs (l ∷ (m ∷ ms)) h = refl

clause_status-heavy : (vs : List Truth) (c : List Lit) → 2 ≤ clause_weight vs c → clause_status vs c ≡ Neither
clause_status-heavy vs c h = heavy-left vs (left_of vs c) (subst (λ n. 2 ≤ n) (sym (clause_weight-left vs c)) h)

-- a literal weighs no more than its clause, and two at different places no more together
one-weight : (vs : List Truth) (c : List ℕ) (i : ℕ) → i < length c → weight (truth vs (get_or c i 0)) ≤ clause_weight vs (map literal_of c)
one-weight vs [] i lt = absurd (omega arith)
one-weight vs (r ∷ rs) zero lt = omega arith
one-weight vs (r ∷ rs) (suc i) lt = let rest = one-weight vs rs i (omega arith) in omega arith

two-weight : (vs : List Truth) (c : List ℕ) (i j : ℕ) → i < j → j < length c → weight (truth vs (get_or c i 0)) + weight (truth vs (get_or c j 0)) ≤ clause_weight vs (map literal_of c)
two-weight vs [] i j lt l = absurd (omega arith)
two-weight vs (r ∷ rs) i zero lt l = absurd (omega arith)
two-weight vs (r ∷ rs) zero (suc j) lt l = let rest = one-weight vs rs j (omega arith) in omega arith
two-weight vs (r ∷ rs) (suc i) (suc j) lt l = let rest = two-weight vs rs i j (omega arith) (omega arith) in omega arith

-- what is neither false nor unit weighs 2 or more
left-false : (vs : List Truth) (l : Lit) (ls : List Lit) → value vs l ≡ False → left_of vs (l ∷ ls) ≡ left_of vs ls
left-false vs l ls e = ap (λ z. cond (not (is_false z)) (l ∷ left_of vs ls) (left_of vs ls)) e

left-open : (vs : List Truth) (l : Lit) (ls : List Lit) → value vs l ≡ Open → left_of vs (l ∷ ls) ≡ l ∷ left_of vs ls
left-open vs l ls e = ap (λ z. cond (not (is_false z)) (l ∷ left_of vs ls) (left_of vs ls)) e

no-weight : (t : Truth) → weight t ≤ 0 → t ≡ False
no-weight False h = refl
no-weight Open h = absurd (omega arith)
no-weight True h = absurd (omega arith)

nothing-left : (vs : List Truth) (c : List Lit) → clause_weight vs c ≤ 0 → left_of vs c ≡ []
nothing-left vs [] h = refl
nothing-left vs (l ∷ ls) h = left-false vs l ls (no-weight (value vs l) (omega arith)) ∙ nothing-left vs ls (omega arith)

open-alone : (vs : List Truth) (l : Lit) (ls : List Lit) → value vs l ≡ Open → clause_weight vs ls ≤ 0 → clause_status vs (l ∷ ls) ≡ Neither → ⊥
open-alone vs l ls e h n =
    let left : left_of vs (l ∷ ls) ≡ l ∷ [] = left-open vs l ls e ∙ ap (λ z. l ∷ z) (nothing-left vs ls h) in
    let status : status_of_one (value vs l) l ≡ Neither = sym (ap (status_of_left vs) left) ∙ n in
    let unit : status_of_one Open l ≡ Neither = sym (ap (λ z. status_of_one z l) e) ∙ status in
    absurd (cc unit)

heavy-by : (vs : List Truth) (l : Lit) (ls : List Lit) (t : Truth) → value vs l ≡ t → (clause_status vs ls ≡ Neither → 2 ≤ clause_weight vs ls) → clause_status vs (l ∷ ls) ≡ Neither → 2 ≤ clause_weight vs (l ∷ ls)
heavy-by vs l ls False e rest h = let more = rest (sym (ap (status_of_left vs) (left-false vs l ls e)) ∙ h) in omega arith
heavy-by vs l ls True e rest h = let w : weight (value vs l) ≡ 2 = ap weight e in omega arith
heavy-by vs l ls Open e rest h = ⊎_elim
    (λ lt. absurd (open-alone vs l ls e (omega arith) h))
    (λ le. let w : weight (value vs l) ≡ 1 = ap weight e in omega arith)
    (cases_lt (clause_weight vs ls) 1)

Neither-heavy : (vs : List Truth) (c : List Lit) → clause_status vs c ≡ Neither → 2 ≤ clause_weight vs c
Neither-heavy vs [] h = absurd (cc h)
Neither-heavy vs (l ∷ ls) h = heavy-by vs l ls (value vs l) refl (λ n. Neither-heavy vs ls n) h

-- a part weighs no more than the whole
part-by : (vs : List Truth) (p w : ℕ) (ps ws : List ℕ) (b : Bool) → nat_eq p w ≡ b → (is_part ps ws ≡ true → clause_weight vs (map literal_of ps) ≤ clause_weight vs (map literal_of ws))
    → (is_part (p ∷ ps) ws ≡ true → clause_weight vs (map literal_of (p ∷ ps)) ≤ clause_weight vs (map literal_of ws)) → is_part (p ∷ ps) (w ∷ ws) ≡ true → clause_weight vs (map literal_of (p ∷ ps)) ≤ clause_weight vs (map literal_of (w ∷ ws))
part-by vs p w ps ws true e same later h =
    let rest = same (sym (ap (λ z. cond z (is_part ps ws) (is_part (p ∷ ps) ws)) e) ∙ h) in
    let equal : weight (truth vs p) ≡ weight (truth vs w) = ap (λ z. weight (truth vs z)) (eqb-true p w e) in
    omega arith
part-by vs p w ps ws false e same later h =
    let rest = later (sym (ap (λ z. cond z (is_part ps ws) (is_part (p ∷ ps) ws)) e) ∙ h) in
    omega arith

part-weight : (vs : List Truth) (p w : List ℕ) → is_part p w ≡ true → clause_weight vs (map literal_of p) ≤ clause_weight vs (map literal_of w)
part-weight vs [] w h = omega arith
part-weight vs (p ∷ ps) [] h = absurd (false≢true h)
part-weight vs (p ∷ ps) (w ∷ ws) h = part-by vs p w ps ws (nat_eq p w) refl (λ e. part-weight vs ps ws e) (λ e. part-weight vs (p ∷ ps) ws e) h

pub Neither-part : (vs : List Truth) (p w : List ℕ) → is_part p w ≡ true → clause_status vs (map literal_of p) ≡ Neither → clause_status vs (map literal_of w) ≡ Neither
Neither-part vs p w h n =
    let two = Neither-heavy vs (map literal_of p) n in
    let more = part-weight vs p w h in
    clause_status-heavy vs (map literal_of w) (omega arith)

some : (t : Truth) → (t ≡ False → ⊥) → 1 ≤ weight t
some False n = absurd (n refl)
some Open n = omega arith
some True n = omega arith

found : (c : List ℕ) (x : ℕ) (m : Contains c x) → get_or c m.0 0 ≡ x
found c x m = get_or_default c m.0 0 x m.1 ∙ m.2

pub Neither-true : (vs : List Truth) (c : List ℕ) (x : ℕ) → Contains c x → truth vs x ≡ True → clause_status vs (map literal_of c) ≡ Neither
Neither-true vs c x m h =
    let w = one-weight vs c m.0 m.1 in
    let e : weight (truth vs (get_or c m.0 0)) ≡ 2 = ap (λ z. weight (truth vs z)) (found c x m) ∙ ap weight h in
    clause_status-heavy vs (map literal_of c) (omega arith)

pub Neither-two : (vs : List Truth) (c : List ℕ) (x y : ℕ) → x ≢ y → Contains c x → Contains c y → (truth vs x ≡ False → ⊥) → (truth vs y ≡ False → ⊥) → clause_status vs (map literal_of c) ≡ Neither
Neither-two vs c x y ne a b h k = clause_status-heavy vs (map literal_of c) (⊎_elim (λ lt. first lt) (λ le. second le) (cases_lt a.0 b.0))
  where
    light : (z : ℕ) (m : Contains c z) → (truth vs z ≡ False → ⊥) → 1 ≤ weight (truth vs (get_or c m.0 0))
    light z m n = some (truth vs (get_or c m.0 0)) (λ e. n (ap (truth vs) (sym (found c z m)) ∙ e))

    first : a.0 < b.0 → 2 ≤ clause_weight vs (map literal_of c)
    first lt = let w = two-weight vs c a.0 b.0 lt b.1 in let p = light x a h in let q = light y b k in omega arith

    apart : a.0 ≡ b.0 → ⊥
    apart e = ne (sym (found c x a) ∙ ap (λ i. get_or c i 0) e ∙ found c y b)

    second : b.0 ≤ a.0 → 2 ≤ clause_weight vs (map literal_of c)
    second le =
        let different = apart in
        let lt : b.0 < a.0 = omega arith in
        let w = two-weight vs c b.0 a.0 lt a.1 in let p = light x a h in let q = light y b k in omega arith

false-negated : (vs : List Truth) (w : ℕ) → truth vs w ≡ False → truth vs (negated w) ≡ True
false-negated vs w e = truth-negated vs w ∙ ap opposite e

false_or_not : (t : Truth) → (t ≡ False) ⊎ (t ≡ False → ⊥)
false_or_not False = inl refl
false_or_not True = inr (λ e. absurd (cc e))
false_or_not Open = inr (λ e. absurd (cc e))

-- whether a later clause is a part of one is found among so many
covered_below : (clauses : List (List ℕ)) (k n : ℕ) → n ≤ length clauses → IsCovered clauses k ⊎ ((by : ℕ) → k < by → by < n → is_part (clause_in clauses by) (clause_in clauses k) ≡ true → ⊥)
covered_below clauses k zero le = inr (λ by later lt part. absurd (omega arith))
covered_below clauses k (suc n) le = covered_next clauses k n (omega arith) (is_part (clause_in clauses n) (clause_in clauses k)) refl (covered_below clauses k n (omega arith))
  where
    covered_next : (clauses : List (List ℕ)) (k n : ℕ) → n < length clauses → (b : Bool) → is_part (clause_in clauses n) (clause_in clauses k) ≡ b
        → IsCovered clauses k ⊎ ((by : ℕ) → k < by → by < n → is_part (clause_in clauses by) (clause_in clauses k) ≡ true → ⊥)
        → IsCovered clauses k ⊎ ((by : ℕ) → k < by → by < suc n → is_part (clause_in clauses by) (clause_in clauses k) ≡ true → ⊥)
    covered_next clauses k n lt b e (inl c) = inl c
    covered_next clauses k n lt b e (inr none) = ⊎_elim
        (λ later. covered_at b e later)
        (λ le. inr (λ by later inside part. ⊎_elim (λ less. none by later less part) (λ most. absurd (omega arith)) (cases_lt by n)))
        (cases_lt k n)
      where
        covered_at : (b : Bool) → is_part (clause_in clauses n) (clause_in clauses k) ≡ b → k < n → IsCovered clauses k ⊎ ((by : ℕ) → k < by → by < suc n → is_part (clause_in clauses by) (clause_in clauses k) ≡ true → ⊥)
        covered_at true e later = inl (record { by = n; later = later; within = lt; part = e })
        covered_at false e later = inr (λ by after inside part. ⊎_elim
            (λ less. none by after less part)
            (λ most. let same : by ≡ n = omega arith in false≢true (sym e ∙ subst (λ z. is_part (clause_in clauses z) (clause_in clauses k) ≡ true) same part))
            (cases_lt by n))

covered_or_not : (clauses : List (List ℕ)) (k : ℕ) → IsCovered clauses k ⊎ (IsCovered clauses k → ⊥)
covered_or_not clauses k = ⊎_elim (λ c. inl c) (λ none. inr (λ (c : IsCovered clauses k). none c.by c.later c.within c.part)) (covered_below clauses k (length clauses) (omega arith))

-- where all was propagated and each clause that watches nothing is true, no clause is false or unit
pub IsClosed-watching : (clauses : List (List ℕ)) (pairs : List Pair) (lists : List (List Watch)) (t : TrailState) (loose : List ℕ) → IsPropagator clauses pairs lists t loose → t.head ≡ length t.literals → IsConsistent t.literals t.values → ((k : ℕ) → Contains loose k → Meets (clause_in clauses k) t.literals) → IsClosed (literals_of clauses) t.values
IsClosed-watching clauses pairs lists t loose h done c l k d lt =
    let size : length (literals_of clauses) ≡ length clauses = length-map clauses (map literal_of) in
    let inside : k < length clauses = omega arith in
    subst (λ z. clause_status t.values z ≡ Neither) (sym (get_or-map (map literal_of) clauses k [] d inside)) (each k inside)
  where
    true_one : (k : ℕ) → Meets (clause_in clauses k) t.literals → clause_status t.values (map literal_of (clause_in clauses k)) ≡ Neither
    true_one k m = Neither-true t.values (clause_in clauses k) m.literal m.inside (c.holds m.literal m.among)

    all : take t.head t.literals ≡ t.literals
    all = take_all t.head t.literals (omega arith)

    settled : (k w : ℕ) → IsWatch (pair_in pairs k) w → truth t.values w ≡ False → Meets (clause_in clauses k) t.literals
    settled k w i e = h.watching.front.meets k w i (subst (λ z. Contains z (negated w)) (sym all) (c.known (negated w) (false-negated t.values w e)))

    watched : (k : ℕ) → (pair_in pairs k).first ≢ (pair_in pairs k).second → clause_status t.values (map literal_of (clause_in clauses k)) ≡ Neither
    watched k n =
        let p = pair_in pairs k in
        let a : IsWatch p p.first = record { two = n; one = inl refl } in
        let b : IsWatch p p.second = record { two = n; one = inr refl } in
        ⊎_elim
        (λ e. true_one k (settled k p.first a e))
        (λ f. ⊎_elim
        (λ e. true_one k (settled k p.second b e))
        (λ s. Neither-two t.values (clause_in clauses k) p.first p.second n (h.watching.listing.inside k p.first a) (h.watching.listing.inside k p.second b) f s)
        (false_or_not (truth t.values p.second)))
        (false_or_not (truth t.values p.first))

    -- the clause of a number that is at most so many before the last
    each_from : (left k : ℕ) → k < length clauses → length clauses ≤ k + left → clause_status t.values (map literal_of (clause_in clauses k)) ≡ Neither
    each_from zero k inside le = absurd (omega arith)
    each_from (suc left) k inside le = ⊎_elim
        (λ e. ⊎_elim
        (λ (c : IsCovered clauses k). Neither-part t.values (clause_in clauses c.by) (clause_in clauses k) c.part (each_from left c.by c.within (let later = c.later in omega arith)))
        (λ no. ⊎_elim (λ m. true_one k (l k m)) (λ d. true_one k (record { literal = d.literal; inside = d.inside; among = d.lasting.true_now })) (h.unwatched k inside e no))
        (covered_or_not clauses k))
        (λ n. watched k n)
        (cases_eq (pair_in pairs k).first (pair_in pairs k).second)

    each : (k : ℕ) → k < length clauses → clause_status t.values (map literal_of (clause_in clauses k)) ≡ Neither
    each k inside = each_from (length clauses) k inside (omega arith)
