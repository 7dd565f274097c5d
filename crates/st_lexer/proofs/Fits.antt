-- Longest fronts: how far bytes of one class go on, and where a comment closes.
use Rattle.std.proofs.Common.{◌≡◌, ℕ, zero, suc, ◌+◌, ◌<◌, ◌≤◌, List, [], ◌∷◌, ◌++◌, length, take, Bool, true, false, ◌==◌, Option, Some, None, option_map, cond, refl, ap, subst, arith, add-one, add_comm}
use Rattle.std.specs.List.{list_all, prefix_len}
use Rattle.std.proofs.lemmas.Bool.Decides.{nat_tests}
use Rattle.std.proofs.lemmas.Bool.{and_parts}
use Rattle.source_tree.specs.Tokens.{is_closing, ends_closed}
use Rattle.st_lexer.specs.Fronts.{closed_len}

-- bytes of a class go on at least as far as a front that has no other bytes
pub prefix_fits : (p : ℕ → Bool) (s rest : List ℕ) → list_all p s ≡ true → length s ≤ prefix_len p (s ++ rest)
prefix_fits p [] rest h = omega arith
prefix_fits p (b ∷ bs) rest h =
    let k = and_parts (p b) (list_all p bs) h in
    let more : length bs ≤ prefix_len p (bs ++ rest) = prefix_fits p bs rest k.1 in
    rw k.0 (omega arith)

pub prefix_all : (p : ℕ → Bool) (xs : List ℕ) → list_all p (take (prefix_len p xs) xs) ≡ true
prefix_all p [] = refl
prefix_all p (x ∷ xs) =
    elim (p x) as (λ b. p x ≡ b → list_all p (take (cond b (1 + prefix_len p xs) 0) (x ∷ xs)) ≡ true) [
      | true ↦ λ e. rw (add_comm 1 (prefix_len p xs), add-one, e) (prefix_all p xs)
      | false ↦ λ e. refl
    ] refl

no_closing : (b : ℕ) → is_closing b 0 ≡ false
no_closing b = grind (arith, nat_tests)

-- a comment that is closed at its end is closed there, whatever follows
pub closed_here : (s rest : List ℕ) → ends_closed s ≡ true → closed_len (s ++ rest) ≡ Some (length s)
closed_here [] rest h = absurd cc
closed_here (b ∷ []) rest h = absurd (let e : ends_closed (b ∷ []) ≡ false = rw (no_closing b) refl in cc)
closed_here (b ∷ c ∷ bs) rest h =
    elim (is_closing b c) as (λ x. cond x (suc (length bs) == 1) (ends_closed (c ∷ bs)) ≡ true → cond x (Some 2) (option_map (λ n. n + 1) (closed_len (c ∷ bs ++ rest))) ≡ Some (suc (suc (length bs)))) [
      | true ↦ λ e. let z : 0 ≡ length bs = grind (arith, nat_tests) in ap (λ k. Some (suc (suc k))) z
      | false ↦ λ e. rw (closed_here (c ∷ bs) rest e) (ap Some (omega arith))
    ] h

-- a size within which a comment closes, and not before
pub record IsClosed (bs : List ℕ) (n : ℕ) : Type 0 where
  pub some : 0 < n
  pub within : n ≤ length bs
  pub closed : ends_closed (take n bs) ≡ true

one_more : (b c : ℕ) (bs : List ℕ) (o : Option ℕ) (n : ℕ) → ((m : ℕ) → o ≡ Some m → IsClosed (c ∷ bs) m) → is_closing b c ≡ false → option_map (λ k. k + 1) o ≡ Some n → IsClosed (b ∷ c ∷ bs) n
one_more b c bs None n below f h = absurd cc
one_more b c bs (Some zero) n below f h = absurd (let i = below 0 refl in omega (arith, i.some))
one_more b c bs (Some (suc m)) n below f h =
    let e : suc m + 1 ≡ n = cc in
    let size : suc (suc m) ≡ n = omega arith in
    let i = below (suc m) refl in
    subst (IsClosed (b ∷ c ∷ bs)) size (record { some = omega arith; within = omega (arith, i.within); closed = rw f i.closed })

-- where a comment closes, it is closed there and not before
pub closed_is : (bs : List ℕ) (n : ℕ) → closed_len bs ≡ Some n → IsClosed bs n
closed_is [] n h = absurd cc
closed_is (b ∷ []) n h = absurd (let e : closed_len (b ∷ []) ≡ None = rw (no_closing b) refl in cc)
closed_is (b ∷ c ∷ bs) n h =
    elim (is_closing b c) as (λ x. is_closing b c ≡ x → cond x (Some 2) (option_map (λ k. k + 1) (closed_len (c ∷ bs))) ≡ Some n → IsClosed (b ∷ c ∷ bs) n) [
      | true ↦ λ e k. let two : 2 ≡ n = cc in subst (IsClosed (b ∷ c ∷ bs)) two (record { some = omega arith; within = omega arith; closed = rw e refl })
      | false ↦ λ e k. one_more b c bs (closed_len (c ∷ bs)) n (λ m. closed_is (c ∷ bs) m) e k
    ] refl h
