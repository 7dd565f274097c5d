-- Marks at the places that are among some numbers.
use Rattle.std.proofs.Common.{◌≡◌, ◌≢◌, ℕ, zero, suc, ◌<◌, ◌≤◌, ◌==◌, Bool, true, false, ◌&&◌, ◌||◌, List, [], ◌∷◌, length, take, set, get_or, replicate, refl, sym, ap, ◌∙◌, arith}
use Rattle.std.specs.List.{list_any, list_all}
use Rattle.std.proofs.Math.Seq.{take-suc, take-length}
use Rattle.std.proofs.lemmas.List.{length-set, length-replicate, get_or-set_same, get_or-set_other, get_or-replicate}
use Rattle.std.proofs.lemmas.List.Folds.{list_all-append}
use Rattle.std.proofs.lemmas.Bool.{eqb-true, eqb-false}
use Rattle.std.proofs.Math.Bool.{or-false, or-true, and-true}
use Rattle.typing.specs.Judged.{has_all_below}

-- marks, with those at these places too
abbrev pub marked : List Bool → List ℕ → List Bool
marked ms [] = ms
marked ms (n ∷ ns) = marked (set ms n true) ns

pub marked-length : (ms : List Bool) (ns : List ℕ) → length (marked ms ns) ≡ length ms
marked-length ms [] = refl
marked-length ms (n ∷ ns) = marked-length (set ms n true) ns ∙ length-set ms n true

one_more : (t : Bool) (ms : List Bool) (n k : ℕ) (rest : Bool) → (n == k) ≡ t → k < length ms → (get_or (set ms n true) k false || rest) ≡ (get_or ms k false || (t || rest))
one_more true ms n k rest is fits =
    let same : n ≡ k = eqb-true n k is in
    let here : get_or (set ms n true) k false ≡ true = ap (λ j. get_or (set ms j true) k false) same ∙ get_or-set_same ms k true false fits in
    ap (λ (b : Bool). b || rest) here ∙ sym (or-true (get_or ms k false))
one_more false ms n k rest is fits =
    let other : k ≢ n = λ e. eqb-false n k is (sym e) in
    ap (λ (b : Bool). b || rest) (get_or-set_other ms n k true false other)

marked-at : (ms : List Bool) (ns : List ℕ) (k : ℕ) → k < length ms → get_or (marked ms ns) k false ≡ (get_or ms k false || list_any (λ n. n == k) ns)
marked-at ms [] k fits = sym (or-false (get_or ms k false))
marked-at ms (n ∷ ns) k fits =
    let still : k < length (set ms n true) = omega (arith, length-set ms n true) in
    marked-at (set ms n true) ns k still ∙ one_more (n == k) ms n k (list_any (λ m. m == k) ns) refl fits

abbrev pub itself : Bool → Bool
itself b = b

all_taken : (ms : List Bool) (ns : List ℕ) (k : ℕ) → k ≤ length ms → ((j : ℕ) → j < length ms → get_or ms j false ≡ list_any (λ n. n == j) ns) → list_all itself (take k ms) ≡ has_all_below k ns
all_taken ms ns zero fits each = refl
all_taken ms ns (suc k) fits each =
    let below : k < length ms = omega arith in
    ap (list_all itself) (take-suc ms k false below) ∙ list_all-append itself (take k ms) (get_or ms k false ∷ [])
    ∙ ap (λ (b : Bool). b && (get_or ms k false && true)) (all_taken ms ns k (omega arith) each)
    ∙ ap (λ (b : Bool). has_all_below k ns && b) (and-true (get_or ms k false) ∙ each k below)

pub all_marked : (count : ℕ) (ns : List ℕ) (ms : List Bool) → ms ≡ marked (replicate count false) ns → list_all itself ms ≡ has_all_below count ns
all_marked count ns ms is =
    let fresh = replicate count false in
    let long : length (marked fresh ns) ≡ count = marked-length fresh ns ∙ length-replicate count false in
    let each : (j : ℕ) → j < length (marked fresh ns) → get_or (marked fresh ns) j false ≡ list_any (λ n. n == j) ns = λ j below.
    let within : j < length fresh = omega (arith, marked-length fresh ns) in
    let counted : j < count = omega (arith, length-replicate count false) in
    marked-at fresh ns j within ∙ ap (λ (b : Bool). b || list_any (λ n. n == j) ns) (get_or-replicate count j false false counted) in
    ap (list_all itself) is ∙ ap (list_all itself) (sym (take-length (marked fresh ns))) ∙ all_taken (marked fresh ns) ns (length (marked fresh ns)) (omega arith) each
    ∙ ap (λ k. has_all_below k ns) long
