-- What stands in front of symbols that do not go on with an expression.
use Rattle.std.proofs.Common.{◌≡◌, ℕ, ◌<◌, ◌≤◌, Bool, true, false, cond, eqb, leb, List, ◌∷◌, Some, None, refl, ap, arith, eq-eqb}
use Rattle.std.proofs.lemmas.Bool.{leb-false, le-leb, lt-leb, ne_eqb, or_parts}
use Rattle.plc_types.specs.declared.operator.Operator.{Operator}
use Rattle.plc_types.specs.declared.operator.Operator.TheVariants as operators
use Rattle.source_tree.specs.declared.token.Mark.{Mark}
use Rattle.source_tree.specs.declared.token.Mark.TheVariants.{Point, Hash}
use Rattle.source_tree.specs.Syntax.{Symbol, operator, opening, mark, Tree, literal, path, enumerator, paren, unary, chain, call, no_links, link}
use Rattle.source_tree.specs.Levels.{level_of, level}
use Rattle.grammar.specs.Marks.{same_mark}
use Rattle.grammar.specs.Reading.{after, opened, operator_of}
use Rattle.grammar.specs.Ends.{goes_on}

-- a mark is no other
pub after_other : (m k : Mark) (ts : List Symbol) → same_mark k m ≡ false → after m (mark k ∷ ts) ≡ None
unfolding after
after_other m k ts h = ap (λ (b : Bool). cond b (Some ts) None) h

pub after_same : (m : Mark) (ts : List Symbol) → same_mark m m ≡ true → after m (mark m ∷ ts) ≡ Some ts
unfolding after
after_same m ts h = ap (λ (b : Bool). cond b (Some ts) None) h

pub no_point : (k : ℕ) (ts : List Symbol) → goes_on k ts ≡ false → after Point ts ≡ None
unfolding after
no_point k (mark m ∷ ts) h = after_other Point m ts (or_parts (same_mark m Point) (same_mark m Hash) h).0
no_point k ts h = refl

pub no_hash : (k : ℕ) (ts : List Symbol) → goes_on k ts ≡ false → after Hash ts ≡ None
unfolding after
no_hash k (mark m ∷ ts) h = after_other Hash m ts (or_parts (same_mark m Point) (same_mark m Hash) h).1
no_hash k ts h = refl

pub not_opened : (k : ℕ) (ts : List Symbol) → goes_on k ts ≡ false → opened ts ≡ None
unfolding opened
not_opened k (opening at ∷ ts) h = absurd cc
not_opened k ts h = refl

pub no_operator : (k j : ℕ) (ts : List Symbol) → j ≤ k → goes_on k ts ≡ false → operator_of j ts ≡ None
unfolding operator_of
no_operator k j (operator o at ∷ ts) le h =
    let above : k < level_of o = leb-false (level_of o) k h in
    let other : eqb (level_of o) j ≡ false = ne_eqb _ _ (λ e. absurd (omega arith)) in
    ap (λ (b : Bool). cond b (Some ((o, at), ts)) None) other
no_operator k j ts le h = refl

-- what does not go on by looser operators does not by tighter ones
pub goes_on-below : (k j : ℕ) (ts : List Symbol) → j ≤ k → goes_on k ts ≡ false → goes_on j ts ≡ false
goes_on-below k j (operator o at ∷ ts) le h =
    let above : k < level_of o = leb-false (level_of o) k h in lt-leb (level_of o) j (omega arith)
goes_on-below k j (opening at ∷ ts) le h = h
goes_on-below k j (mark m ∷ ts) le h = h
goes_on-below k j ts le h = refl

-- the operator in front, at its level
pub operator-here : (j : ℕ) (o : Operator) (at : ℕ) (ts : List Symbol) → level_of o ≡ j → operator_of j (operator o at ∷ ts) ≡ Some ((o, at), ts)
unfolding operator_of
operator-here j o at ts e = ap (λ (b : Bool). cond b (Some ((o, at), ts)) None) (eq-eqb (level_of o) j e)

pub level_of-within : (o : Operator) → (0 < level_of o) × (level_of o ≤ 7)
level_of-within operators.Or = (omega arith, omega arith)
level_of-within operators.Xor = (omega arith, omega arith)
level_of-within operators.And = (omega arith, omega arith)
level_of-within operators.Equal = (omega arith, omega arith)
level_of-within operators.NotEqual = (omega arith, omega arith)
level_of-within operators.Less = (omega arith, omega arith)
level_of-within operators.Greater = (omega arith, omega arith)
level_of-within operators.LessEqual = (omega arith, omega arith)
level_of-within operators.GreaterEqual = (omega arith, omega arith)
level_of-within operators.Plus = (omega arith, omega arith)
level_of-within operators.Minus = (omega arith, omega arith)
level_of-within operators.Times = (omega arith, omega arith)
level_of-within operators.Divide = (omega arith, omega arith)
level_of-within operators.Mod = (omega arith, omega arith)

pub level-le : (t : Tree) → level t ≤ 7
level-le (literal l) = omega arith
level-le (path p) = omega arith
level-le (enumerator n v) = omega arith
level-le (paren at e) = omega arith
level-le (unary o at e) = omega arith
level-le (call n at args) = omega arith
level-le (chain e no_links) = omega arith
level-le (chain e (link o at f ls)) = (level_of-within o).1
