-- A held clause that is a part of a fresh clause would be forced.
use Rattle.std.proofs.Common.{◌≡◌, ◌≢◌, ℕ, suc, ◌≤◌, ◌+◌, ◌||◌, nat_le, Bool, true, false, List, [], ◌∷◌, refl, sym, ◌∙◌, ap, subst, arith, cond}
use Rattle.std.specs.List.{list_any, All, Contains}
use Rattle.std.proofs.lemmas.Bool.{false≢true, and_parts}
use Rattle.std.proofs.lemmas.Bool.Decides.{nat_tests}
use Rattle.clause_core.specs.declared.literal.Lit.{Lit}
use Rattle.clause_core.specs.declared.truth.Truth.{Truth}
use Rattle.clause_core.specs.declared.truth.Truth.TheVariants.{Open, True, False}
use Rattle.clause_core.specs.Values.{how_many, value, is_true, is_open}
use Rattle.clause_core.specs.Clauses.{rank, ascends, is_set}
use Rattle.clause_core.specs.Freshness.{unforced, ShowsFresh, IsFresh}

not_true : (t : Truth) → t ≢ True → is_true t ≡ false
not_true Open isnt = refl
not_true True isnt = absurd (isnt refl)
not_true False isnt = refl

not_open : (t : Truth) → t ≢ Open → is_open t ≡ false
not_open Open isnt = absurd (isnt refl)
not_open True isnt = refl
not_open False isnt = refl

abbrev weight_of : Bool → ℕ
weight_of b = cond b 1 0

at_most_one : (t : Truth) (rest : ℕ) → rest ≤ 1 → (t ≡ Open → rest ≡ 0) → cond (is_open t) 1 0 + rest ≤ 1
at_most_one Open rest few none = let zero_more : rest ≡ 0 = none refl in omega (arith, zero_more)
at_most_one True rest few none = omega (arith, few)
at_most_one False rest few none = omega (arith, few)

rank-above : (low : ℕ) (l m : Lit) → rank l + 1 ≤ rank m → l ≢ m
rank-above low l m above same = let ranks : rank l ≡ rank m = ap rank same in omega (arith, above, ranks)

le_of : (a b : ℕ) → nat_le a b ≡ true → a ≤ b
le_of a b h = grind (arith, nat_tests)

tail-contained : (clause : List Lit) (l : Lit) (ls : List Lit) → All (λ m. Contains clause m) (l ∷ ls) → All (λ m. Contains clause m) ls
tail-contained clause l ls all k d lt = all (suc k) d (omega arith)

module _ (held : List (List Lit)) (clause : List Lit) (p : Lit) (vs : List Truth) (shows : ShowsFresh held clause p vs) where
  others : (l : Lit) → Contains clause l → l ≢ p → value vs l ≡ False
  others l inside isnt =
      subst (λ m. value vs m ≡ False) inside.2 (shows.others inside.0 l inside.1 (subst (λ m. m ≢ p) (sym inside.2) isnt))

  none_true : (l : Lit) → Contains clause l → value vs l ≢ True
  none_true l inside is =
      let isnt : l ≢ p = λ same. shows.itself (subst (λ m. value vs m ≡ True) same is) in
      let false_one : value vs l ≡ False = others l inside isnt in
      cc

  one_open : (l m : Lit) → Contains clause l → Contains clause m → l ≢ m → value vs l ≡ Open → value vs m ≢ Open
  one_open l m inside also apart is too =
      let first : l ≢ p = λ same.
      (let second : m ≢ p = λ it. apart (same ∙ sym it) in
      let false_one : value vs m ≡ False = others m also second in
      let isnt : ⊥ = cc in isnt) in
      let false_one : value vs l ≡ False = others l inside first in
      cc

  any-true : (part : List Lit) → All (λ l. Contains clause l) part → list_any (λ l. is_true (value vs l)) part ≡ false
  any-true [] all = refl
  any-true (l ∷ ls) all =
      let here : is_true (value vs l) ≡ false = not_true (value vs l) (none_true l (all 0 l (omega arith))) in
      ap (λ b. b || list_any (λ m. is_true (value vs m)) ls) here ∙ any-true ls (tail-contained clause l ls all)

  none_open : (l : Lit) (part : List Lit) (low : ℕ) → Contains clause l → value vs l ≡ Open → rank l + 1 ≤ low → ascends low part ≡ true → All (λ m. Contains clause m) part
      → how_many (λ m. is_open (value vs m)) part ≡ 0
  none_open l [] low inside is above rises all = refl
  none_open l (m ∷ ms) low inside is above rises all =
      let parts = and_parts (nat_le low (rank m)) (ascends (rank m + 1) ms) rises in
      let high : low ≤ rank m = le_of low (rank m) parts.0 in
      let apart : l ≢ m = rank-above low l m (omega (arith, above, high)) in
      let here : is_open (value vs m) ≡ false = not_open (value vs m) (one_open l m inside (all 0 m (omega arith)) apart is) in
      let rest : how_many (λ x. is_open (value vs x)) ms ≡ 0 = none_open l ms (rank m + 1) inside is (omega (arith, above, high)) parts.1 (tail-contained clause m ms all) in
      let weight : weight_of (is_open (value vs m)) ≡ 0 = ap weight_of here in
      omega (arith, weight, rest)

  few_open : (part : List Lit) (low : ℕ) → ascends low part ≡ true → All (λ m. Contains clause m) part → how_many (λ m. is_open (value vs m)) part ≤ 1
  few_open [] low rises all = omega arith
  few_open (l ∷ ls) low rises all =
      let parts = and_parts (nat_le low (rank l)) (ascends (rank l + 1) ls) rises in
      at_most_one (value vs l) (how_many (λ m. is_open (value vs m)) ls) (few_open ls (rank l + 1) parts.1 (tail-contained clause l ls all))
      (λ is. none_open l ls (rank l + 1) (all 0 l (omega arith)) is (omega arith) parts.1 (tail-contained clause l ls all))

  forced : (part : List Lit) → is_set part ≡ true → All (λ l. Contains clause l) part → unforced vs part ≡ true → ⊥
  forced part set all is =
      let few = few_open part 0 set all in
      let small : nat_le 2 (how_many (λ m. is_open (value vs m)) part) ≡ false = grind (arith, nat_tests) in
      let isnt : unforced vs part ≡ false = ap (λ b. b || nat_le 2 (how_many (λ m. is_open (value vs m)) part)) (any-true part all) ∙ small in
      false≢true (sym isnt ∙ is)

pub no_held_part : (held : List (List Lit)) (clause part : List Lit) → IsFresh held clause → Contains held part → is_set part ≡ true → All (λ l. Contains clause l) part → ⊥
no_held_part held clause part fresh inside set all =
    forced held clause fresh.0 fresh.1 fresh.2 part set all (subst (λ c. unforced fresh.1 c ≡ true) inside.2 (fresh.2.unforced inside.0 part inside.1))
