-- What holds of nesting: behind fewer open ones no more are open, so what stands last nests no deeper than all.
use Rattle.std.proofs.Common.{◌≡◌, ℕ, ◌+◌, ◌-◌, ◌≤◌, Bool, true, false, cond, List, [], ◌∷◌, ◌++◌, length, refl, sym, subst, arith}
use Rattle.source_tree.specs.declared.token.Mark.{Mark}
use Rattle.source_tree.specs.declared.token.Mark.TheVariants.{Close, If, EndIf, Case, EndCase, EndFor}
use Rattle.source_tree.specs.Syntax.{Symbol, opening, iteration, mark}
use Rattle.grammar.specs.Marks.{same_mark}
use Rattle.grammar.specs.declared.open.Open.{Open}
use Rattle.grammar.specs.Nesting.{open_parentheses, open_ifs, open_cases, open_iterations, nothing_open, total, behind, NestsWithin, Shallow}
use Rattle.grammar_laws.proofs.Steps.{same_mark-is}

closes-le : (b c : ℕ) (x : Bool) → b ≤ c → cond x (b - 1) b ≤ cond x (c - 1) c
closes-le b c true le = omega arith
closes-le b c false le = omega arith

open_parentheses-le : (b c : ℕ) (s : Symbol) → b ≤ c → open_parentheses b s ≤ open_parentheses c s
unfolding open_parentheses
open_parentheses-le b c (opening at) le = omega arith
open_parentheses-le b c (mark m) le = closes-le b c (same_mark m Close) le
open_parentheses-le b c s le = le

opens-le : (i j : ℕ) (x y : Bool) → i ≤ j → cond x (i + 1) (cond y (i - 1) i) ≤ cond x (j + 1) (cond y (j - 1) j)
opens-le i j true y le = omega arith
opens-le i j false y le = closes-le i j y le

open_ifs-le : (i j : ℕ) (s : Symbol) → i ≤ j → open_ifs i s ≤ open_ifs j s
unfolding open_ifs
open_ifs-le i j (mark m) le = opens-le i j (same_mark m If) (same_mark m EndIf) le
open_ifs-le i j s le = le

open_cases-le : (i j : ℕ) (s : Symbol) → i ≤ j → open_cases i s ≤ open_cases j s
unfolding open_cases
open_cases-le i j (mark m) le = opens-le i j (same_mark m Case) (same_mark m EndCase) le
open_cases-le i j s le = le

open_iterations-le : (b c : ℕ) (s : Symbol) → b ≤ c → open_iterations b s ≤ open_iterations c s
unfolding open_iterations
open_iterations-le b c (iteration at) le = omega arith
open_iterations-le b c (mark m) le = closes-le b c (same_mark m EndFor) le
open_iterations-le b c s le = le

-- no more of any is open
abbrev Fewer : Open → Open → Type 0
Fewer o p = (o.parentheses ≤ p.parentheses) × (o.ifs ≤ p.ifs) × (o.cases ≤ p.cases) × (o.iterations ≤ p.iterations)

fewer-behind : (o p : Open) (s : Symbol) → Fewer o p → Fewer (behind o s) (behind p s)
fewer-behind o p s f = (
  open_parentheses-le o.parentheses p.parentheses s f.0,
  open_ifs-le o.ifs p.ifs s f.1,
  open_cases-le o.cases p.cases s f.2,
  open_iterations-le o.iterations p.iterations s f.3,
)

total-le : (o p : Open) → Fewer o p → total o ≤ total p
total-le o p f = omega (arith, f.0, f.1, f.2, f.3)

pub nests-fewer : (limit : ℕ) (ts : List Symbol) (o p : Open) → Fewer o p → NestsWithin limit p ts → NestsWithin limit o ts
nests-fewer limit [] o p f h = tt
nests-fewer limit (s ∷ ts) o p f h =
    let g = fewer-behind o p s f in
    let le : total (behind o s) ≤ total (behind p s) = total-le (behind o s) (behind p s) g in
    (omega (arith, h.0), nests-fewer limit ts (behind o s) (behind p s) g h.1)

none-fewer : (o : Open) → Fewer nothing_open o
none-fewer o = (omega arith, omega arith, omega arith, omega arith)

pub nests-behind : (limit : ℕ) (front ts : List Symbol) (o : Open) → NestsWithin limit o (front ++ ts) → NestsWithin limit nothing_open ts
nests-behind limit [] ts o h = nests-fewer limit ts nothing_open o (none-fewer o) h
nests-behind limit (s ∷ front) ts o h = nests-behind limit front ts (behind o s) h.1

closes-below : (b : ℕ) (x : Bool) → cond x (b - 1) b ≤ b
closes-below b true = omega arith
closes-below b false = omega arith

if_more : (o : Open) → total (behind o (mark If)) ≤ total o + 1
unfolding open_parentheses open_ifs open_cases open_iterations same_mark
if_more o = omega arith

case_more : (o : Open) → total (behind o (mark Case)) ≤ total o + 1
unfolding open_parentheses open_ifs open_cases open_iterations same_mark
case_more o = omega arith

mark_more : (o : Open) (m : Mark) (is_if is_case : Bool) → same_mark m If ≡ is_if → same_mark m Case ≡ is_case → total (behind o (mark m)) ≤ total o + 1
unfolding open_parentheses open_ifs open_cases open_iterations
mark_more o m true is_case p q = subst (λ (k : Mark). total (behind o (mark k)) ≤ total o + 1) (sym (same_mark-is m If p)) (if_more o)
mark_more o m false true p q = subst (λ (k : Mark). total (behind o (mark k)) ≤ total o + 1) (sym (same_mark-is m Case q)) (case_more o)
mark_more o m false false p q =
    rw (p, q) (omega (arith, closes-below o.parentheses (same_mark m Close), closes-below o.ifs (same_mark m EndIf), closes-below o.cases (same_mark m EndCase), closes-below o.iterations (same_mark m EndFor)))

one_more_open : (o : Open) (s : Symbol) → total (behind o s) ≤ total o + 1
unfolding open_parentheses open_ifs open_cases open_iterations
one_more_open o (opening at) = omega arith
one_more_open o (iteration at) = omega arith
one_more_open o (mark m) = mark_more o m (same_mark m If) (same_mark m Case) refl refl
one_more_open o s = omega arith

-- symbols nest no deeper than they are many
pub nests-length : (limit : ℕ) (ts : List Symbol) (o : Open) → total o + length ts ≤ limit → NestsWithin limit o ts
nests-length limit [] o h = tt
nests-length limit (s ∷ ts) o h =
    let one : total (behind o s) ≤ total o + 1 = one_more_open o s in
    (omega arith, nests-length limit ts (behind o s) (omega arith))
