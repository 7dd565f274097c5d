-- Cells that stand among others from a place on.
use Rattle.std.proofs.Common.{◌≡◌, ℕ, zero, suc, ◌+◌, ◌<◌, List, [], ◌∷◌, ◌++◌, length, refl, sym, ap, ◌∙◌, arith, append_assoc, subst}
use Rattle.std.specs.List.{slice_get}
use Rattle.std.proofs.lemmas.List.{length-append}
use Rattle.program_tree.specs.Tree.{CellData}
use Rattle.cell_paths.specs.Paths.{StandAmong}

pub record Stands (xs owner : List CellData) (place : ℕ) : Type 0 where
  pub before : List CellData
  pub behind : List CellData
  pub is : owner ≡ before ++ (xs ++ behind)
  pub long : length before ≡ place

pub stands_left : (xs ys owner : List CellData) (place : ℕ) → Stands (xs ++ ys) owner place → Stands xs owner place
stands_left xs ys owner place o =
    record { before = o.before; behind = ys ++ o.behind; is = o.is ∙ ap (λ (l : List CellData). o.before ++ l) (append_assoc xs ys o.behind); long = o.long }

pub stands_right : (xs ys owner : List CellData) (place : ℕ) → Stands (xs ++ ys) owner place → Stands ys owner (place + length xs)
stands_right xs ys owner place o = record {
  before = o.before ++ xs;
  behind = o.behind;
  is = o.is ∙ ap (λ (l : List CellData). o.before ++ l) (append_assoc xs ys o.behind) ∙ sym (append_assoc o.before xs (ys ++ o.behind));
  long = length-append o.before xs ∙ ap (λ (n : ℕ). n + length xs) o.long;
}

-- what stands in a part stands in the whole
pub stands_in : (xs ys owner : List CellData) (place offset : ℕ) → Stands ys owner place → Stands xs ys offset → Stands xs owner (place + offset)
stands_in xs ys owner place offset outer inner =
    let parts : owner ≡ outer.before ++ (inner.before ++ (xs ++ (inner.behind ++ outer.behind))) =
    outer.is
    ∙ ap (λ (l : List CellData). outer.before ++ (l ++ outer.behind)) inner.is
    ∙ ap (λ (l : List CellData). outer.before ++ l) (append_assoc inner.before (xs ++ inner.behind) outer.behind ∙ ap (λ (l : List CellData). inner.before ++ l) (append_assoc xs inner.behind outer.behind)) in
    record {
      before = outer.before ++ inner.before;
      behind = inner.behind ++ outer.behind;
      is = parts ∙ sym (append_assoc outer.before inner.before (xs ++ (inner.behind ++ outer.behind)));
      long = length-append outer.before inner.before ∙ ap (λ (n : ℕ). n + length inner.before) outer.long ∙ ap (λ (n : ℕ). place + n) inner.long;
    }

pub stands_same : (xs ys owner : List CellData) (place : ℕ) → xs ≡ ys → Stands xs owner place → Stands ys owner place
stands_same xs ys owner place same o = subst (λ (l : List CellData). Stands l owner place) same o

pub stands_at : (xs owner : List CellData) (place other : ℕ) → place ≡ other → Stands xs owner place → Stands xs owner other
stands_at xs owner place other same o = subst (λ (n : ℕ). Stands xs owner n) same o

-- ---- by places

get_behind : (xs ys : List CellData) (n : ℕ) → slice_get (xs ++ ys) (length xs + n) ≡ slice_get ys n
get_behind [] ys n = let same : 0 + n ≡ n = omega arith in ap (slice_get ys) same
get_behind (x ∷ xs) ys n = let same : length (x ∷ xs) + n ≡ suc (length xs + n) = omega arith in ap (slice_get (x ∷ (xs ++ ys))) same ∙ get_behind xs ys n

get_front : (xs ys : List CellData) (n : ℕ) → n < length xs → slice_get (xs ++ ys) n ≡ slice_get xs n
get_front [] ys n low = absurd (omega (arith, low))
get_front (x ∷ xs) ys zero low = refl
get_front (x ∷ xs) ys (suc n) low = get_front xs ys n (omega (arith, low))

pub stands_among : (xs owner : List CellData) (place : ℕ) → Stands xs owner place → StandAmong xs owner place
stands_among xs owner place o n low =
    ap (λ (l : List CellData). slice_get l (place + n)) o.is
    ∙ ap (λ (m : ℕ). slice_get (o.before ++ (xs ++ o.behind)) (m + n)) (sym o.long)
    ∙ get_behind o.before (xs ++ o.behind) n
    ∙ get_front xs o.behind n low
