-- The POUs that are stated, from their bodies and from marks on those that may run.
use Rattle.std.proofs.Common.{◌≡◌, ℕ, zero, suc, ◌+◌, ◌<◌, Bool, true, false, List, [], ◌∷◌, ◌++◌, length, map, drop, get_or, set, replicate, reverse, Option, Some, None, refl, arith, sym, ap, ◌∙◌, append_assoc, Vec, Global}
use Rattle.std.proofs.lemmas.List.{length-map, length-reverse, reverse-append, drop_more}
use Rattle.call_order.specs.Uses.{uses_at}
use Rattle.source_tree.specs.Syntax.{PouTypeData, function, function_block, program, PouData, FileData}
use Rattle.program_tree.specs.declared.typed.TypedStmt.{TypedStmt}
use Rattle.program_tree.specs.Tree.{Statements, no_statements, CalledData}
use Rattle.program_tree.specs.View.{stmts_view}
use Rattle.naming.specs.FileScope.{pou_at}
use Rattle.typing.specs.Members.{called_order}
use Rattle.typing.specs.TypedPrograms.{pou_body, called_of, called_if, called_by}
use Rattle.running_pous.specs.Uses.{uses_of_all, uses_of_called}
use Rattle.running_pous.specs.Running.{uses_by}
use Rattle.running_pous.specs.Bodies.{bodies_view, body_if, running_body, bodies_from}
use Rattle.running_pous.specs.Stated.{stated_if, stated_from}

-- a POU uses what its body uses
uses-of_type : (f : FileData) (k : ℕ) (pou_type : PouTypeData) (p : PouData) → uses_of_called (called_of f k pou_type p) ≡ uses_of_all (pou_body f k p)
uses-of_type f k (function t) p = refl
uses-of_type f k function_block p = refl
uses-of_type f k program p = refl

uses-if : (f : FileData) (k : ℕ) (p : Option PouData) → uses_of_called (called_if f k p) ≡ uses_of_all (body_if f k p)
uses-if f k None = refl
uses-if f k (Some p) = uses-of_type f k p.pou_type p

uses-at : (f : FileData) (ks : List ℕ) (n : ℕ) → n < length ks → uses_at (uses_by (map (λ k. called_if f k (pou_at f k)) ks)) n ≡ uses_of_all (body_if f (get_or ks n 0) (pou_at f (get_or ks n 0)))
uses-at f [] n low = absurd (omega (arith, low))
uses-at f (k ∷ ks) zero low = uses-if f k (pou_at f k)
uses-at f (k ∷ ks) (suc n) low = uses-at f ks n (omega (arith, low))

-- the POU of a number uses what its body uses
pub body-uses : (f : FileData) (n : ℕ) → n < length (called_order f) → uses_at (uses_by (called_by f)) n ≡ uses_of_all (body_if f (get_or (called_order f) n 0) (pou_at f (get_or (called_order f) n 0)))
body-uses f n low = uses-at f (called_order f) n low

pub length-uses : (f : FileData) → length (uses_by (called_by f)) ≡ length (called_order f)
length-uses f = length-map (called_by f) uses_of_called ∙ length-map (called_order f) (λ k. called_if f k (pou_at f k))

-- POUs of which the same run
pub stated-same : (f : FileData) (r s : ℕ → Bool) (n : ℕ) (ks : List ℕ) → ((k : ℕ) → k < n + length ks → r k ≡ s k) → stated_from f r n ks ≡ stated_from f s n ks
stated-same f r s n [] same = refl
stated-same f r s n (k ∷ ks) same =
    ap (λ (b : Bool). stated_if f k b ∷ stated_from f r (n + 1) ks) (same n (omega arith))
    ∙ ap (λ (cs : List CalledData). stated_if f k (s n) ∷ cs) (stated-same f r s (n + 1) ks (λ i below. same i (omega arith)))

-- ---- the bodies of those that run

-- none runs
pub no-bodies : (f : FileData) (runs : ℕ → Bool) (n : ℕ) (ks : List ℕ) → ((k : ℕ) → runs k ≡ false) → replicate (length ks) no_statements ≡ bodies_from f runs n ks
no-bodies f runs n [] none = refl
no-bodies f runs n (k ∷ ks) none =
    ap (λ (ss : List Statements). no_statements ∷ ss) (no-bodies f runs (n + 1) ks none)
    ∙ ap (λ (b : Bool). running_body f k b ∷ bodies_from f runs (n + 1) ks) (sym (none n))

bodies-same : (f : FileData) (r s : ℕ → Bool) (n : ℕ) (ks : List ℕ) → ((k : ℕ) → k < length ks → r (n + k) ≡ s (n + k)) → bodies_from f r n ks ≡ bodies_from f s n ks
bodies-same f r s n [] same = refl
bodies-same f r s n (k ∷ ks) same =
    let here : n + 0 ≡ n = omega arith in
    ap (λ (b : Bool). running_body f k b ∷ bodies_from f r (n + 1) ks) (sym (ap r here) ∙ same 0 (omega arith) ∙ ap s here)
    ∙ ap (λ (ss : List Statements). running_body f k (s n) ∷ ss)
    (bodies-same f r s (n + 1) ks (λ i below. let there : n + 1 + i ≡ n + suc i = omega arith in ap r there ∙ same (suc i) (omega arith) ∙ sym (ap s there)))

-- one more runs, and no other changes
pub one-body : (f : FileData) (r s : ℕ → Bool) (n : ℕ) (ks : List ℕ) (i : ℕ) → i < length ks → s (n + i) ≡ true → ((k : ℕ) → (k ≡ i → ⊥) → r (n + k) ≡ s (n + k))
    → set (bodies_from f r n ks) i (body_if f (get_or ks i 0) (pou_at f (get_or ks i 0))) ≡ bodies_from f s n ks
one-body f r s n [] i low runs same = absurd (omega (arith, low))
one-body f r s n (k ∷ ks) zero low runs same =
    let here : n + 0 ≡ n = omega arith in
    ap (λ (ss : List Statements). body_if f k (pou_at f k) ∷ ss)
    (bodies-same f r s (n + 1) ks (λ j below. let there : n + 1 + j ≡ n + suc j = omega arith in ap r there ∙ same (suc j) (λ e. let h : ⊥ = omega (arith, e) in h) ∙ sym (ap s there)))
    ∙ ap (λ (b : Bool). running_body f k b ∷ bodies_from f s (n + 1) ks) (sym runs ∙ ap s here)
one-body f r s n (k ∷ ks) (suc i) low runs same =
    let here : n + 0 ≡ n = omega arith in
    let there : n + suc i ≡ n + 1 + i = omega arith in
    ap (λ (b : Bool). running_body f k b ∷ set (bodies_from f r (n + 1) ks) i (body_if f (get_or ks i 0) (pou_at f (get_or ks i 0))))
    (sym (ap r here) ∙ same 0 (λ e. let h : ⊥ = omega (arith, e) in h) ∙ ap s here)
    ∙ ap (λ (ss : List Statements). running_body f k (s n) ∷ ss)
    (one-body f r s (n + 1) ks i (omega (arith, low)) (sym (ap s there) ∙ runs)
    (λ j other. let so : n + 1 + j ≡ n + suc j = omega arith in ap r so ∙ same (suc j) (λ e. other (omega (arith, e))) ∙ sym (ap s so)))

length-bodies : (f : FileData) (runs : ℕ → Bool) (n : ℕ) (ks : List ℕ) → length (bodies_from f runs n ks) ≡ length ks
length-bodies f runs n [] = refl
length-bodies f runs n (k ∷ ks) = ap (λ (m : ℕ). suc m) (length-bodies f runs (n + 1) ks)

-- ---- one POU more, where the bodies that are left are held backwards

pub next-body : (f : FileData) (runs : ℕ → Bool) (ks : List ℕ) (n : ℕ) (left rest : List (Vec TypedStmt Global)) (body : Vec TypedStmt Global)
    → left ≡ rest ++ body ∷ [] → bodies_view (reverse left) ≡ bodies_from f runs n (drop n ks) → n < length ks
    → (stmts_view body.items ≡ running_body f (get_or ks n 0) (runs n)) × (bodies_view (reverse rest) ≡ bodies_from f runs (n + 1) (drop (n + 1) ks))
next-body f runs ks n left rest body parts is below =
    let turned : reverse left ≡ body ∷ reverse rest = ap reverse parts ∙ reverse-append rest (body ∷ []) in
    let all : stmts_view body.items ∷ bodies_view (reverse rest) ≡ running_body f (get_or ks n 0) (runs n) ∷ bodies_from f runs (n + 1) (drop (n + 1) ks) =
    ap bodies_view (sym turned) ∙ is ∙ ap (bodies_from f runs n) (drop_more ks n 0 below) in
    let here : stmts_view body.items ≡ running_body f (get_or ks n 0) (runs n) = cc in
    let behind : bodies_view (reverse rest) ≡ bodies_from f runs (n + 1) (drop (n + 1) ks) = cc in
    (here, behind)

-- some body is left
pub some-body : (f : FileData) (runs : ℕ → Bool) (ks : List ℕ) (n : ℕ) (left : List (Vec TypedStmt Global)) → bodies_view (reverse left) ≡ bodies_from f runs n (drop n ks) → n < length ks → length left ≡ 0 → ⊥
some-body f runs ks n left is below none =
    let same : length (bodies_view (reverse left)) ≡ length (bodies_from f runs n (drop n ks)) = ap length is in
    let a : length (bodies_view (reverse left)) ≡ length left = length-map (reverse left) (λ body. stmts_view body.items) ∙ length-reverse left in
    let b : length (bodies_from f runs n (drop n ks)) ≡ length (drop n ks) = length-bodies f runs n (drop n ks) in
    let c : length (drop n ks) ≡ length (get_or ks n 0 ∷ drop (n + 1) ks) = ap length (drop_more ks n 0 below) in
    omega arith

pub stated-next : (f : FileData) (runs : ℕ → Bool) (ks : List ℕ) (n : ℕ) (done now : List CalledData) (c : CalledData) → n < length ks → now ≡ done ++ c ∷ [] → c ≡ stated_if f (get_or ks n 0) (runs n)
    → now ++ stated_from f runs (n + 1) (drop (n + 1) ks) ≡ done ++ stated_from f runs n (drop n ks)
stated-next f runs ks n done now c below more is =
    ap (λ (cs : List CalledData). cs ++ stated_from f runs (n + 1) (drop (n + 1) ks)) more
    ∙ append_assoc done (c ∷ []) (stated_from f runs (n + 1) (drop (n + 1) ks))
    ∙ ap (λ (x : CalledData). done ++ x ∷ stated_from f runs (n + 1) (drop (n + 1) ks)) is
    ∙ ap (λ (xs : List ℕ). done ++ stated_from f runs n xs) (sym (drop_more ks n 0 below))
