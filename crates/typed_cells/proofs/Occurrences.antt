-- Lists that stand in a list from a place on.
use Rattle.std.proofs.Common.{◌≡◌, ℕ, ◌+◌, ◌≤◌, List, ◌∷◌, ◌++◌, length, sym, ap, ◌∙◌, arith, append_assoc, subst}
use Rattle.std.proofs.lemmas.List.{length-append, get_or_append_left, get_or-append-add}
use Rattle.program_tree.specs.declared.scratch.Scratch.{Scratch}
use Rattle.program_tree.specs.Places.{place_at}
use Rattle.typed_programs.specs.Statements.{StandAt}

pub record Occurs (xs owner : List Scratch) (place : ℕ) : Type 0 where
  pub before : List Scratch
  pub behind : List Scratch
  pub is : owner ≡ before ++ (xs ++ behind)
  pub long : length before ≡ place

pub occurs_left : (xs ys owner : List Scratch) (place : ℕ) → Occurs (xs ++ ys) owner place → Occurs xs owner place
occurs_left xs ys owner place o =
    record { before = o.before; behind = ys ++ o.behind; is = o.is ∙ ap (λ (l : List Scratch). o.before ++ l) (append_assoc xs ys o.behind); long = o.long }

pub occurs_right : (xs ys owner : List Scratch) (place : ℕ) → Occurs (xs ++ ys) owner place → Occurs ys owner (place + length xs)
occurs_right xs ys owner place o = record {
  before = o.before ++ xs;
  behind = o.behind;
  is = o.is ∙ ap (λ (l : List Scratch). o.before ++ l) (append_assoc xs ys o.behind) ∙ sym (append_assoc o.before xs (ys ++ o.behind));
  long = length-append o.before xs ∙ ap (λ (n : ℕ). n + length xs) o.long;
}

-- what stands in a part stands in the whole
pub occurs_in : (xs ys owner : List Scratch) (place offset : ℕ) → Occurs ys owner place → Occurs xs ys offset → Occurs xs owner (place + offset)
occurs_in xs ys owner place offset outer inner =
    let parts : owner ≡ outer.before ++ (inner.before ++ (xs ++ (inner.behind ++ outer.behind))) =
    outer.is
    ∙ ap (λ (l : List Scratch). outer.before ++ (l ++ outer.behind)) inner.is
    ∙ ap (λ (l : List Scratch). outer.before ++ l) (append_assoc inner.before (xs ++ inner.behind) outer.behind ∙ ap (λ (l : List Scratch). inner.before ++ l) (append_assoc xs inner.behind outer.behind)) in
    record {
      before = outer.before ++ inner.before;
      behind = inner.behind ++ outer.behind;
      is = parts ∙ sym (append_assoc outer.before inner.before (xs ++ (inner.behind ++ outer.behind)));
      long = length-append outer.before inner.before ∙ ap (λ (n : ℕ). n + length inner.before) outer.long ∙ ap (λ (n : ℕ). place + n) inner.long;
    }

pub occurs_within : (xs owner : List Scratch) (place : ℕ) → Occurs xs owner place → place + length xs ≤ length owner
occurs_within xs owner place o =
    let all : length owner ≡ length o.before + (length xs + length o.behind) =
    ap (λ (l : List Scratch). length l) o.is ∙ length-append o.before (xs ++ o.behind) ∙ ap (λ (n : ℕ). length o.before + n) (length-append xs o.behind) in
    let same = o.long in
    omega (arith, all, same)

pub occurs_stands : (xs owner : List Scratch) (place : ℕ) → Occurs xs owner place → StandAt xs owner place
occurs_stands xs owner place o n low =
    ap (λ (l : List Scratch). place_at l (place + n)) o.is
    ∙ ap (λ (m : ℕ). place_at (o.before ++ (xs ++ o.behind)) (m + n)) (sym o.long)
    ∙ get_or-append-add o.before (xs ++ o.behind) n _
    ∙ get_or_append_left xs o.behind _ n low

-- the first of some that stand there
pub occurs_first : (x : Scratch) (xs owner : List Scratch) (place : ℕ) → Occurs (x ∷ xs) owner place → place_at owner place ≡ x
occurs_first x xs owner place o =
    let here : place + 0 ≡ place = omega arith in
    ap (λ (n : ℕ). place_at owner n) (sym here) ∙ occurs_stands (x ∷ xs) owner place o 0 (omega arith)

pub occurs_same : (xs ys owner : List Scratch) (place : ℕ) → xs ≡ ys → Occurs xs owner place → Occurs ys owner place
occurs_same xs ys owner place same o = subst (λ (l : List Scratch). Occurs l owner place) same o

pub occurs_at : (xs owner : List Scratch) (place other : ℕ) → place ≡ other → Occurs xs owner place → Occurs xs owner other
occurs_at xs owner place other same o = subst (λ (n : ℕ). Occurs xs owner n) same o
