-- Cells by their paths.
use Rattle.std.proofs.Common.{◌≡◌, ◌↔◌, ℕ, ◌+◌, ◌-◌, ◌<◌, ◌≤◌, Bool, true, false, IsTrue, List, [], ◌∷◌, ◌++◌, length, get_or, take, drop, Option, Some, None, MatchOption, refl, sym, ap, ◌∙◌, arith, suc, drop-cons, append-nil, Bor}
use Rattle.std.specs.Str.{bytes_eq}
use Rattle.std.specs.Bool.{one_answer}
use Rattle.std.proofs.lemmas.Slice.Eq.{bytes_eq-Decides}
use Rattle.std.proofs.lemmas.List.{append_cancel_left, take-append-drop}
use Rattle.std.proofs.Math.Seq.{take-append_seam}
use Rattle.source_tree.specs.Syntax.{Named}
use Rattle.program_tree.specs.Tree.{CellData}
use Rattle.typing.specs.Programs.{joined, own_type, cell_meaning, cell_among}

pub last_one : {A : Type 0} → (cs : List A) (place : ℕ) (d : A) → 0 < place → place ≤ length cs → drop (place - 1) cs ≡ get_or cs (place - 1) d ∷ drop place cs
last_one cs place d some within =
    let e : suc (place - 1) ≡ place = omega arith in
    let s : place - 1 < length cs = omega arith in
    drop-cons cs (place - 1) d s ∙ ap (λ n. get_or cs (place - 1) d ∷ drop n cs) e

-- ---- names joined by points

-- names, each behind a point
abbrev pub behind_points : List Named → List ℕ
behind_points [] = []
behind_points (n ∷ ns) = 46 ∷ (n.text ++ behind_points ns)

pub joined-cons : (n : Named) (ns : List Named) → joined (n ∷ ns) ≡ n.text ++ behind_points ns
joined-cons n [] = sym (append-nil n.text)
joined-cons n (m ∷ ns) = ap (λ (t : List ℕ). n.text ++ 46 ∷ t) (joined-cons m ns)

-- what is left behind a front is what is left of the whole
pub one_behind : {P : Type 0} (text front rest all : List ℕ) → text ≡ front ++ rest → P ↔ (text ≡ front ++ all) → P ↔ (rest ≡ all)
one_behind text front rest all is same =
    (λ p. append_cancel_left front rest all (sym is ∙ same.0 p), λ e. same.1 (is ∙ ap (λ (t : List ℕ). front ++ t) e))

pub test_is : (b : Bool) (x y : List ℕ) → IsTrue b ↔ (x ≡ y) → b ≡ bytes_eq x y
test_is b x y same = one_answer b (bytes_eq x y) same (bytes_eq-Decides x y)

pub same_text : (text a b : List ℕ) → a ≡ b → (text ≡ a) ↔ (text ≡ b)
same_text text a b e = (λ p. p ∙ e, λ q. q ∙ sym e)

pub same_as : {P : Type 0} (text a b : List ℕ) → P ↔ (text ≡ a) → a ≡ b → P ↔ (text ≡ b)
same_as text a b same e = (λ p. same.0 p ∙ e, λ q. same.1 (q ∙ sym e))

-- the cell is the one, or it is among those behind
pub among_here : (text : List ℕ) (place : ℕ) (c : CellData) (cs : List CellData) (b : Bool) → IsTrue b ↔ (c.path ≡ text) → b ≡ true → Some (cell_meaning own_type place c) ≡ cell_among own_type text place (c ∷ cs)
among_here text place c cs b same e = rw (← test_is b c.path text same, e) refl

pub among_next : (text : List ℕ) (place : ℕ) (c : CellData) (cs : List CellData) (b : Bool) → IsTrue b ↔ (c.path ≡ text) → b ≡ false → cell_among own_type text place (c ∷ cs) ≡ cell_among own_type text (place + 1) cs
among_next text place c cs b same e = rw (← test_is b c.path text same, e) refl

-- what stands behind a front
pub after_front : (text front : List ℕ) (r : Option (Bor (List ℕ))) → MatchOption r (bytes_eq (take (length front) text) front ≡ false) (λ x. (bytes_eq (take (length front) text) front ≡ true) × (x.now ≡ drop (length front) text) × (length x.now + length front ≡ length text))
    → MatchOption r ((rest : List ℕ) → text ≡ front ++ rest → ⊥) (λ x. text ≡ front ++ x.now)
after_front text front None h = λ rest e.
    let same : bytes_eq (take (length front) text) front ≡ true = (bytes_eq-Decides (take (length front) text) front).1 (ap (take (length front)) e ∙ take-append_seam front rest) in
    let none : ⊥ = cc in none
after_front text front (Some x) h =
    sym (take-append-drop (length front) text) ∙ ap (λ (t : List ℕ). t ++ drop (length front) text) ((bytes_eq-Decides (take (length front) text) front).0 h.0) ∙ ap (λ (t : List ℕ). front ++ t) (sym h.1)
