-- Clauses of literals, and of their ranks.
use Rattle.std.proofs.Common.{◌≡◌, ℕ, ◌<◌, ◌≤◌, ◌+◌, ◌*◌, ◌/◌, ◌%◌, ◌^◌, Bool, true, false, cond, eqb, List, [], ◌∷◌, ◌++◌, map, get_or, refl, ◌∙◌, ap, arith}
use Rattle.std.specs.List.{All}
use Rattle.std.proofs.lemmas.Bool.{eq-eqb, ne_eqb}
use Rattle.std.proofs.lemmas.List.{map_push}
use Rattle.clause_core.specs.declared.literal.Lit.{Lit}
use Rattle.clause_core.specs.Clauses.{rank}
use Rattle.propagation_trail.specs.Codes.{literal_of}
use Rattle.watched_propagation.specs.Propagations.{literals_of, AreSmall}

half : (v : ℕ) (b : Bool) → (2 * v + cond b 1 0) / 2 ≡ v
half v true = omega arith
half v false = omega arith

sign : (v : ℕ) (b : Bool) → eqb ((2 * v + cond b 1 0) % 2) 1 ≡ b
sign v true = eq-eqb ((2 * v + 1) % 2) 1 (omega arith)
sign v false = ne_eqb ((2 * v + 0) % 2) 1 (λ e. absurd (omega arith))

literal_of-rank : (l : Lit) → literal_of (rank l) ≡ l
literal_of-rank l =
    let made : ℕ → Bool → Lit = λ v b. record { variable = v; negative = b } in
    ap (λ v. made v (eqb (rank l % 2) 1)) (half l.variable l.negative) ∙ ap (λ b. made l.variable b) (sign l.variable l.negative)

pub literals-ranks : (c : List Lit) → map literal_of (map rank c) ≡ c
literals-ranks [] = refl
literals-ranks (l ∷ ls) = ap (λ z. z ∷ map literal_of (map rank ls)) (literal_of-rank l) ∙ ap (λ z. l ∷ z) (literals-ranks ls)

pub literals_of-push : (clauses : List (List ℕ)) (c : List Lit) → literals_of (clauses ++ map rank c ∷ []) ≡ literals_of clauses ++ c ∷ []
literals_of-push clauses c = map_push (map literal_of) clauses (map rank c) ∙ ap (λ z. literals_of clauses ++ z ∷ []) (literals-ranks c)

pub small-below : (n : ℕ) (c : List Lit) → All (λ l. l.variable < n) c → n ≤ 2 ^ 31 → AreSmall c
small-below n c h le k d lt = let b : (get_or c k d).variable < n = h k d lt in omega arith
