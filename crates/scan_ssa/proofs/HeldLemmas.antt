-- Start words.
use Rattle.std.proofs.Common.{◌≡◌, ℕ, zero, suc, ◌+◌, ◌-◌, ◌<◌, ◌≤◌, refl, sym, ◌∙◌, ap, Option, Some, None, arith, List, [], ◌∷◌, ◌++◌, append_assoc, length, map, drop}
use Rattle.program_tree.specs.declared.scratch.Scratch.{Scratch}
use Rattle.node_core.specs.Words.{word_at}
use Rattle.node_core.specs.Scans.{start_words}

start_at : (word n place : ℕ) → place < n → word_at (start_words word n) place ≡ word + place
start_at word zero place h = absurd (omega arith)
start_at word (suc n) zero h = omega arith
start_at word (suc n) (suc place) h = start_at (word + 1) n place (omega arith) ∙ omega arith

pub start_below : (n place : ℕ) → place < n → word_at (start_words 0 n) place ≡ place
start_below n place h = start_at 0 n place h ∙ omega arith

past : (word n place : ℕ) → n ≤ place → word_at (start_words word n) place ≡ 0
past word zero place h = refl
past word (suc n) zero h = absurd (omega arith)
past word (suc n) (suc place) h = past (word + 1) n place (omega arith)

pub start_past : (n place : ℕ) → n ≤ place → word_at (start_words 0 n) place ≡ 0
start_past n place h = past 0 n place h

start_more : (word cells : ℕ) → word < cells → start_words word (cells - word) ≡ Some word ∷ start_words (word + 1) (cells - (word + 1))
start_more word cells h = let e : cells - word ≡ suc (cells - (word + 1)) = omega arith in ap (start_words word) e

-- one start word more
pub start_turns : (store store' : List (Option ℕ)) (word cells : ℕ) (whole : List (Option ℕ)) → word < cells → store' ≡ store ++ Some word ∷ [] → store ++ start_words word (cells - word) ≡ whole
    → store' ++ start_words (word + 1) (cells - (word + 1)) ≡ whole
start_turns store store' word cells whole h is e =
    rw is (append_assoc store (Some word ∷ []) (start_words (word + 1) (cells - (word + 1))) ∙ ap (λ (l : List (Option ℕ)). store ++ l) (sym (start_more word cells h)) ∙ e)

abbrev pub no_word : Scratch → Option ℕ
no_word c = None

none_more : (cs : List Scratch) (i : ℕ) → i < length cs → map no_word (drop i cs) ≡ None ∷ map no_word (drop (i + 1) cs)
none_more [] i h = absurd (omega arith)
none_more (c ∷ cs) zero h = refl
none_more (c ∷ cs) (suc i) h = let e : suc i + 1 ≡ suc (i + 1) = omega arith in rw e (none_more cs i (omega arith))

-- one scratch cell more
pub none_turns : (store store' : List (Option ℕ)) (cs : List Scratch) (i : ℕ) (whole : List (Option ℕ)) → i < length cs → store' ≡ store ++ None ∷ [] → store ++ map no_word (drop i cs) ≡ whole
    → store' ++ map no_word (drop (i + 1) cs) ≡ whole
none_turns store store' cs i whole h is e =
    rw is (append_assoc store (None ∷ []) (map no_word (drop (i + 1) cs)) ∙ ap (λ (l : List (Option ℕ)). store ++ l) (sym (none_more cs i h)) ∙ e)
