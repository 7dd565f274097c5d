-- MIN and MAX of words, from left to right.
use Rattle.std.proofs.Common.{◌≡◌, ℕ, zero, suc, ◌<◌, refl, subst, List, [], ◌∷◌, length, drop, arith}
use Rattle.std.specs.Prelude.{slice_index_or}
use Rattle.plc_types.specs.declared.elementary.Elementary.{Elementary}
use Rattle.node_core.specs.declared.node.Node.{Node}
use Rattle.node_core.specs.Words.{NodeList, Made, taken, made, folded, of_many}
use Rattle.node_core.proofs.Growth.{Grows, grows_folded}

-- the first word, and the others behind it
pub fold_begins : (x : ℕ → ℕ → Node) (t : Elementary) (ws : List ℕ) (n : NodeList) → 0 < length ws → folded x (slice_index_or ws 0 0) (drop 1 ws) n ≡ of_many x t ws n
fold_begins x t [] n h = absurd (omega arith)
fold_begins x t (w ∷ ws) n h = refl

-- one word more
pub fold_turns : (x : ℕ → ℕ → Node) (a : ℕ) (ws : List ℕ) (i : ℕ) (n : NodeList) → i < length ws
    → folded x (made (x a (slice_index_or ws i 0)) n).word (drop (suc i) ws) (made (x a (slice_index_or ws i 0)) n).list ≡ folded x a (drop i ws) n
fold_turns x a [] i n h = absurd (omega arith)
fold_turns x a (w ∷ ws) zero n h = refl
fold_turns x a (w ∷ ws) (suc i) n h = fold_turns x a ws i n (omega arith)

pub fold_ends : (x : ℕ → ℕ → Node) (a : ℕ) (ws : List ℕ) (n : NodeList) → folded x a (drop (length ws) ws) n ≡ taken a n
fold_ends x a [] n = refl
fold_ends x a (w ∷ ws) n = fold_ends x a ws n

pub fold_grows : (x : ℕ → ℕ → Node) (a : ℕ) (ws : List ℕ) (i : ℕ) (n : NodeList) → i < length ws → Grows (made (x a (slice_index_or ws i 0)) n).list (folded x a (drop i ws) n).list
fold_grows x a ws i n h = subst (λ (m : Made). Grows (made (x a (slice_index_or ws i 0)) n).list m.list) (fold_turns x a ws i n h) (grows_folded x _ (drop (suc i) ws) _)

pub fold_step : (x : ℕ → ℕ → Node) (a : ℕ) (ws : List ℕ) (i : ℕ) (n : NodeList) (node : Node) (whole : Made) → i < length ws → node ≡ x a (slice_index_or ws i 0) → folded x a (drop i ws) n ≡ whole → Grows (made node n).list whole.list
fold_step x a ws i n node whole h e f = rw (e, ← f) (fold_grows x a ws i n h)
