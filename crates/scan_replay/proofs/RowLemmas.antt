-- Rows that are too long or too short.
use Rattle.std.proofs.Common.{◌≡◌, ◌≢◌, ◌≤◌, ℕ, suc, false, List, [], ◌∷◌, ◌++◌, take, drop, length, refl, sym, ap, ◌∙◌, arith, subst}
use Rattle.std.proofs.lemmas.List.{length-map}
use Rattle.std.proofs.lemmas.Grind.{common_steps}
use Rattle.std.proofs.lemmas.Bool.{and_right}
use Rattle.plc_types.specs.declared.range.Range.{Range}
use Rattle.program_tree.specs.declared.typed.Cell.{Cell}
use Rattle.plc_types.specs.Types.{in_range}
use Rattle.program_tree.specs.View.{cells_view}
use Rattle.scan_model.specs.declared.relation.InputLine.{InputLine}
use Rattle.scan_model.specs.Pairs.{Pair, range_of_line, fits_lines, loaded}
use Rattle.meaning.specs.Values.{State}
use Rattle.scan_model.specs.Scans.{ranges_of}
use Rattle.scan_model.specs.InRange.{Row, IsInRange, put_at}

nothing_left : (i : ℕ) (vs : Row) → length vs ≤ i → drop i vs ≡ []
nothing_left i vs over = grind (arith, common_steps)

put_nothing : (ps : List ℕ) (s : State) → put_at ps [] s ≡ s
put_nothing [] s = refl
put_nothing (p ∷ ps) s = refl

-- past the row's end nothing is put
pub put_at-end : (i : ℕ) (ps : List ℕ) (vs : Row) (s : State) → length vs ≤ i → put_at ps (drop i vs) s ≡ s
put_at-end i ps vs s over = ap (λ (r : Row). put_at ps r s) (nothing_left i vs over) ∙ put_nothing ps s

pub length-ranges : (cells : List Cell) → length (ranges_of (cells_view cells)) ≡ length cells
length-ranges cells = simp length-map

-- a state in range, as it is written back into the vector that held the one before
pub written_back : (rs : List Range) (n : ℕ) (old new wanted : State) → length new ≡ n → new ≡ wanted → IsInRange rs wanted → IsInRange rs (take n (new ++ drop (length new) old))
written_back rs n old new wanted long is f =
    let e : take n (new ++ drop (length new) old) ≡ wanted = rw (← long) (front new (drop (length new) old) ∙ is) in
    subst (λ (s : State). IsInRange rs s) (sym e) f
  where
    front : (xs ys : State) → take (length xs) (xs ++ ys) ≡ xs
    front xs ys = grind (arith, common_steps)

-- a stack, as it is written back, has as much room as before
pub room_kept : (room n : ℕ) (old new : State) → length new ≡ n → room ≤ n → room ≤ length (take n (new ++ drop (length new) old))
room_kept room n old new long h =
    let e : take n (new ++ drop (length new) old) ≡ new = rw (← long) (front new (drop (length new) old)) in
    rw (e, long) h
  where
    front : (xs ys : State) → take (length xs) (xs ++ ys) ≡ xs
    front xs ys = grind (arith, common_steps)

-- the same for the lines of a relation
pub unequal_lines : (ls : List InputLine) (vs : Row) → length ls ≢ length vs → fits_lines ls vs ≡ false
unequal_lines [] [] other = absurd (other refl)
unequal_lines [] (v ∷ vs) other = refl
unequal_lines (l ∷ ls) [] other = refl
unequal_lines (l ∷ ls) (v ∷ vs) other = and_right (in_range v (range_of_line l)) _ (unequal_lines ls vs (λ e. other (ap suc e)))

load_nothing : (ls : List InputLine) (pair : Pair) → loaded ls [] pair ≡ pair
load_nothing [] pair = refl
load_nothing (l ∷ ls) pair = refl

pub loaded-end : (i : ℕ) (ls : List InputLine) (vs : Row) (pair : Pair) → length vs ≤ i → loaded ls (drop i vs) pair ≡ pair
loaded-end i ls vs pair over = ap (λ (r : Row). loaded ls r pair) (nothing_left i vs over) ∙ load_nothing ls pair
