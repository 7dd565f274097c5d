-- When the clauses of a formula are true.
use Rattle.std.proofs.Common.{◌≡◌, ℕ, zero, suc, ◌+◌, ◌<◌, Bool, true, false, not, ◌&&◌, ◌||◌, refl, sym, ◌∙◌, ap, List, [], ◌∷◌, ◌++◌, length, map, take, arith, subst}
use Rattle.std.specs.Prelude.{if◌then◌else◌}
use Rattle.std.specs.List.{list_any}
use Rattle.std.proofs.lemmas.Bool.{false≢true, and_parts, and_from}
use Rattle.std.proofs.lemmas.List.{take-append-le, take_all}
use Rattle.std.proofs.lemmas.List.Folds.{list_all-append}
use Rattle.clause_core.specs.declared.literal.Lit.{Lit}
use Rattle.clause_core.specs.Satisfaction.{literal_true, clause_true, formula_true, Satisfies}
use Rattle.clause_core.proofs.Sets.{list_any-set_of}
use Rattle.clause_core.specs.declared.gate.Gate.{Gate}
use Rattle.gates.specs.Netlists.{Netlist, IsExtensionOf}
use Rattle.gates.specs.Models.{IsModel}
use Rattle.gates.specs.Clauses.{formula_of as gates_clauses}
use Rattle.gates.proofs.Booleans.{literal_true-not}
use Rattle.gates.proofs.ClauseLaws.{formula_IsModel, IsModel_formula}
use Rattle.scan_model.specs.Pairs.{CandidateData, Pair, holds}
use Rattle.scan_model.specs.Candidates.{clause_at}
use Rattle.scan_model.specs.Verdicts.{CandidateSet}
use Rattle.query_formulas.specs.QueryClauses.{negations, units, some_fails, members_from, members_of, with_gates}

-- ---- literals and their truth values

abbrev pub all_of : List Bool → Bool
all_of [] = true
all_of (b ∷ bs) = b && all_of bs

abbrev pub truths : (ℕ → Bool) → List Lit → List Bool
truths v ls = map (literal_true v) ls

pub all_of-append : (bs cs : List Bool) → all_of (bs ++ cs) ≡ (all_of bs && all_of cs)
all_of-append [] cs = refl
all_of-append (true ∷ bs) cs = all_of-append bs cs
all_of-append (false ∷ bs) cs = refl

no_more : (b : Bool) → (b || false) ≡ b
no_more true = refl
no_more false = refl

-- clauses of one literal
pub units-true : (v : ℕ → Bool) (ls : List Lit) → formula_true v (units ls) ≡ all_of (truths v ls)
units-true v [] = refl
units-true v (l ∷ ls) = ap (λ (b : Bool). b && formula_true v (units ls)) (no_more (literal_true v l)) ∙ ap (λ (b : Bool). literal_true v l && b) (units-true v ls)

pub twice : (b : Bool) → not (not b) ≡ b
twice true = refl
twice false = refl

not_or : (p q : Bool) → (not p && not q) ≡ not (p || q)
not_or true q = refl
not_or false q = refl

not_and : (p q : Bool) → (not p || not q) ≡ not (p && q)
not_and true q = refl
not_and false q = refl

-- none of the literals is true
pub negations-true : (v : ℕ → Bool) (ls : List Lit) → all_of (truths v (negations ls)) ≡ not (list_any (literal_true v) ls)
negations-true v [] = refl
negations-true v (l ∷ ls) =
    ap (λ (b : Bool). b && all_of (truths v (negations ls))) (literal_true-not v l) ∙ ap (λ (b : Bool). not (literal_true v l) && b) (negations-true v ls)
    ∙ not_or (literal_true v l) (list_any (literal_true v) ls)

some_negation : (v : ℕ → Bool) (ls : List Lit) → list_any (literal_true v) (negations ls) ≡ not (all_of (truths v ls))
some_negation v [] = refl
some_negation v (l ∷ ls) =
    ap (λ (b : Bool). b || list_any (literal_true v) (negations ls)) (literal_true-not v l) ∙ ap (λ (b : Bool). not (literal_true v l) || b) (some_negation v ls)
    ∙ not_and (literal_true v l) (all_of (truths v ls))

-- a last clause
pub some_fails-true : (v : ℕ → Bool) (ls : List Lit) → formula_true v (some_fails ls ∷ []) ≡ not (all_of (truths v ls))
some_fails-true v ls = alone (clause_true v (some_fails ls)) ∙ list_any-set_of (literal_true v) (negations ls) ∙ some_negation v ls
  where
    alone : (b : Bool) → (b && true) ≡ b
    alone true = refl
    alone false = refl

-- ---- a formula with the clauses of a circuit

-- the first gates of a circuit, so many
abbrev front_of : Netlist → ℕ → Netlist
front_of n count = record { first = n.first; limit = n.limit; gates = take count n.gates }

abbrev net_with : ℕ → ℕ → List Gate → Netlist
net_with first limit gates = record { first = first; limit = limit; gates = gates }

-- those of a circuit are the first of a later one
front_same : (n later : Netlist) → IsExtensionOf n later → front_of later (length n.gates) ≡ n
front_same n later h =
    ap (λ (x : ℕ). net_with x later.limit (take (length n.gates) later.gates)) h.first
    ∙ ap (λ (x : ℕ). net_with n.first x (take (length n.gates) later.gates)) h.limit
    ∙ ap (net_with n.first n.limit) (ap (λ (gs : List Gate). take (length n.gates) gs) h.gates ∙ take-append-le (length n.gates) n.gates h.more (omega arith) ∙ take_all (length n.gates) n.gates (omega arith))

-- the clauses of the gates up to a count, which are those of a circuit, and more
pub gates-model : (v : ℕ → Bool) (n later : Netlist) (count : ℕ) (more : List (List Lit)) → IsExtensionOf n later → count ≡ length n.gates → Satisfies v (with_gates later count more).clauses → IsModel v n × (formula_true v more ≡ true)
gates-model v n later count more e k h =
    let front = front_of later count in
    let parts = and_parts (formula_true v (gates_clauses front)) (formula_true v more) (sym (list_all-append (clause_true v) (gates_clauses front) more) ∙ h) in
    let same : front ≡ n = ap (front_of later) k ∙ front_same n later e in
    (subst (λ (x : Netlist). IsModel v x) same (formula_IsModel v front parts.0), parts.1)

pub model-gates : (v : ℕ → Bool) (n later : Netlist) (count : ℕ) (more : List (List Lit)) → IsExtensionOf n later → count ≡ length n.gates → IsModel v n → formula_true v more ≡ true → Satisfies v (with_gates later count more).clauses
model-gates v n later count more e k m h =
    let front = front_of later count in
    let same : front ≡ n = ap (front_of later) k ∙ front_same n later e in
    list_all-append (clause_true v) (gates_clauses front) more ∙ and_from (formula_true v (gates_clauses front)) (formula_true v more) (IsModel_formula v front (subst (λ (x : Netlist). IsModel v x) (sym same) m)) h

pub formula-append : (v : ℕ → Bool) (f g : List (List Lit)) → formula_true v (f ++ g) ≡ (formula_true v f && formula_true v g)
formula-append v f g = list_all-append (clause_true v) f g

-- ---- members of a set

abbrev pub chosen : ℕ → CandidateSet → List Bool → List Bool
chosen k set [] = []
chosen k set (b ∷ bs) = if set k then b ∷ chosen (k + 1) set bs else chosen (k + 1) set bs

members_by : (v : ℕ → Bool) (t : Bool) (l : Lit) (ls : List Lit) (bs : List Bool) → truths v ls ≡ bs → truths v ((if t then l ∷ [] else []) ++ ls) ≡ (if t then literal_true v l ∷ bs else bs)
members_by v true l ls bs e = ap (λ (cs : List Bool). literal_true v l ∷ cs) e
members_by v false l ls bs e = e

members-truths : (v : ℕ → Bool) (k : ℕ) (set : CandidateSet) (ls : List Lit) → truths v (members_from k set ls) ≡ chosen k set (truths v ls)
members-truths v k set [] = refl
members-truths v k set (l ∷ ls) = members_by v (set k) l (members_from (k + 1) set ls) (chosen (k + 1) set (truths v ls)) (members-truths v (k + 1) set ls)

abbrev pub holding : List CandidateData → Pair → List Bool
holding cs pair = map (λ k. holds k.clause pair) cs

pub members-all : (v : ℕ → Bool) (set : CandidateSet) (ls : List Lit) (bs : List Bool) → truths v ls ≡ bs → all_of (truths v (members_of set ls)) ≡ all_of (chosen 0 set bs)
members-all v set ls bs e = ap all_of (members-truths v 0 set ls) ∙ ap (λ (cs : List Bool). all_of (chosen 0 set cs)) e

module _ (set : CandidateSet) (pair : Pair) where
  first_in : (t b : Bool) (bs : List Bool) → all_of (if t then b ∷ bs else bs) ≡ true → (t ≡ true → b ≡ true) × (all_of bs ≡ true)
  first_in true b bs h = let p = and_parts b (all_of bs) h in (λ e. p.0, p.1)
  first_in false b bs h = (λ e. absurd (false≢true e), h)

  first_from : (t b : Bool) (bs : List Bool) → (t ≡ true → b ≡ true) → all_of bs ≡ true → all_of (if t then b ∷ bs else bs) ≡ true
  first_from true b bs h k = and_from b (all_of bs) (h refl) k
  first_from false b bs h k = k

  -- each member holds
  pub chosen-each : (k : ℕ) (cs : List CandidateData) → all_of (chosen k set (holding cs pair)) ≡ true → (n j : ℕ) → j ≡ k + n → n < length cs → set j ≡ true → holds (clause_at cs n) pair ≡ true
  chosen-each k [] h n j e lt is = absurd (omega arith)
  chosen-each k (c ∷ cs) h zero j e lt is =
      let same : j ≡ k = omega arith in
      let p = first_in (set k) (holds c.clause pair) (chosen (k + 1) set (holding cs pair)) h in
      p.0 (ap set (sym same) ∙ is)
  chosen-each k (c ∷ cs) h (suc n) j e lt is =
      let p = first_in (set k) (holds c.clause pair) (chosen (k + 1) set (holding cs pair)) h in
      chosen-each (k + 1) cs p.1 n j (omega arith) (omega arith) is

  pub chosen-from : (k : ℕ) (cs : List CandidateData) → ((n j : ℕ) → j ≡ k + n → n < length cs → set j ≡ true → holds (clause_at cs n) pair ≡ true) → all_of (chosen k set (holding cs pair)) ≡ true
  chosen-from k [] h = refl
  chosen-from k (c ∷ cs) h =
      first_from (set k) (holds c.clause pair) (chosen (k + 1) set (holding cs pair)) (λ e. h 0 k (omega arith) (omega arith) e)
      (chosen-from (k + 1) cs (λ n j e lt is. h (suc n) j (omega arith) (omega arith) is))

  -- a member that does not hold
  pub record Fails (k : ℕ) (cs : List CandidateData) : Type 0 where
    pub number : ℕ
    pub below : number < length cs
    pub member : set (k + number) ≡ true
    pub fails : holds (clause_at cs number) pair ≡ false

  fails_by : (t b : Bool) (k : ℕ) (c : CandidateData) (cs : List CandidateData) (bs : List Bool) → set k ≡ t → holds c.clause pair ≡ b → (all_of bs ≡ false → Fails (k + 1) cs) → all_of (if t then b ∷ bs else bs) ≡ false → Fails k (c ∷ cs)
  fails_by true false k c cs bs e f later h = record { number = 0; below = omega arith; member = ap set (same k) ∙ e; fails = f }
    where
      same : (k : ℕ) → k + 0 ≡ k
      same k = omega arith
  fails_by true true k c cs bs e f later h =
      let r = later h in
      record { number = suc r.number; below = omega (arith, r.below); member = ap set (further k r.number) ∙ r.member; fails = r.fails }
    where
      further : (k n : ℕ) → k + suc n ≡ k + 1 + n
      further k n = omega arith
  fails_by false b k c cs bs e f later h =
      let r = later h in
      record { number = suc r.number; below = omega (arith, r.below); member = ap set (further k r.number) ∙ r.member; fails = r.fails }
    where
      further : (k n : ℕ) → k + suc n ≡ k + 1 + n
      further k n = omega arith

  pub chosen-fails : (k : ℕ) (cs : List CandidateData) → all_of (chosen k set (holding cs pair)) ≡ false → Fails k cs
  chosen-fails k [] h = absurd (false≢true (sym h))
  chosen-fails k (c ∷ cs) h = fails_by (set k) (holds c.clause pair) k c cs (chosen (k + 1) set (holding cs pair)) refl refl (λ g. chosen-fails (k + 1) cs g) h

  pub fails-chosen : (cs : List CandidateData) (n : ℕ) → n < length cs → set n ≡ true → holds (clause_at cs n) pair ≡ false → all_of (chosen 0 set (holding cs pair)) ≡ false
  fails-chosen cs n lt is h = by (all_of (chosen 0 set (holding cs pair))) refl
    where
      by : (b : Bool) → all_of (chosen 0 set (holding cs pair)) ≡ b → b ≡ false
      by true e = absurd (false≢true (sym h ∙ chosen-each 0 cs e n n (omega arith) lt is))
      by false e = refl
