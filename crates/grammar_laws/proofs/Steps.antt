-- What a step over one symbol that did not fail gave.
use Rattle.std.proofs.Common.{◌≡◌, ℕ, Bool, true, false, cond, eqb, List, ◌∷◌, Option, Some, None, refl, sym, ap, ◌∙◌, rules}
use denote.Enum.Bare.{same_true}
use Rattle.std.proofs.lemmas.Bool.{eqb-true}
use Rattle.source_tree.specs.contracts.token.Mark.{the_type}
use Rattle.plc_types.specs.declared.operator.Operator.{Operator}
use Rattle.plc_types.specs.declared.operator.Operator.TheVariants as operators
use Rattle.source_tree.specs.declared.token.Mark.{Mark}
use Rattle.source_tree.specs.declared.token.PartWord.{PartWord}
use Rattle.plc_types.specs.declared.operator.UnaryOperator.{UnaryOperator}
use Rattle.plc_types.specs.declared.operator.UnaryOperator.TheVariants as signs
use Rattle.source_tree.specs.Syntax.{Symbol, name, number, negation, operator, opening, part, mark, Named}
use Rattle.source_tree.specs.Prints.{name_symbol, unary_symbol}
use Rattle.source_tree.specs.Levels.{level_of}
use Rattle.grammar.specs.Marks.{same_mark}
use Rattle.grammar.specs.Reading.{◌>>=◌, after, named, numbered, minus, opened, part_word, operator_of, sign}

pub bind_some : {A B : Type 0} (o : Option A) (f : A → Option B) (y : B) → (o >>= f) ≡ Some y → (x : A) × (o ≡ Some x) × (f x ≡ Some y)
bind_some (Some x) f y e = (x, refl, e)
bind_some None f y e = absurd cc

pub guard_some : {A : Type 0} (b : Bool) (x y : A) → cond b (Some x) None ≡ Some y → (b ≡ true) × (x ≡ y)
guard_some true x y e = (refl, cc)
guard_some false x y e = absurd cc

pub some_is : {A : Type 0} (x y : A) → (let o : Option A = Some x in o) ≡ Some y → x ≡ y
some_is x y e = cc

pub same_mark-is : (a b : Mark) → same_mark a b ≡ true → a ≡ b
unfolding same_mark
same_mark-is a b e = same_true the_type (search rules) a b e

pub after_is : (m : Mark) (ts rest : List Symbol) → after m ts ≡ Some rest → ts ≡ mark m ∷ rest
unfolding after
after_is m (mark k ∷ ts) rest e =
    let g = guard_some (same_mark k m) ts rest e in
    ap (λ (x : Mark). mark x ∷ ts) (same_mark-is k m g.0) ∙ ap (λ (x : List Symbol). mark m ∷ x) g.1
after_is m ts rest e = absurd cc

pub named_is : (ts : List Symbol) (n : Named) (rest : List Symbol) → named ts ≡ Some (n, rest) → ts ≡ name_symbol n ∷ rest
unfolding named
named_is (name t at ∷ ts) n rest e = ap (λ (x : Named × List Symbol). name_symbol x.0 ∷ x.1) (some_is (record { text = t; at = at }, ts) (n, rest) e)
named_is ts n rest e = absurd cc

pub numbered_is : (ts : List Symbol) (value at : ℕ) (rest : List Symbol) → numbered ts ≡ Some ((value, at), rest) → ts ≡ number value at ∷ rest
unfolding numbered
numbered_is (number v p ∷ ts) value at rest e = ap (λ (x : (ℕ × ℕ) × List Symbol). number x.0.0 x.0.1 ∷ x.1) (some_is ((v, p), ts) ((value, at), rest) e)
numbered_is ts value at rest e = absurd cc

pub minus_is : (ts : List Symbol) (at : ℕ) (rest : List Symbol) → minus ts ≡ Some (at, rest) → ts ≡ operator operators.Minus at ∷ rest
unfolding minus
minus_is (operator operators.Minus p ∷ ts) at rest e = ap (λ (x : ℕ × List Symbol). operator operators.Minus x.0 ∷ x.1) (some_is (p, ts) (at, rest) e)
minus_is ts at rest e = absurd cc

pub opened_is : (ts : List Symbol) (at : ℕ) (rest : List Symbol) → opened ts ≡ Some (at, rest) → ts ≡ opening at ∷ rest
unfolding opened
opened_is (opening p ∷ ts) at rest e = ap (λ (x : ℕ × List Symbol). opening x.0 ∷ x.1) (some_is (p, ts) (at, rest) e)
opened_is ts at rest e = absurd cc

pub part_word_is : (ts : List Symbol) (w : PartWord) (at : ℕ) (rest : List Symbol) → part_word ts ≡ Some ((w, at), rest) → ts ≡ part w at ∷ rest
unfolding part_word
part_word_is (part v p ∷ ts) w at rest e = ap (λ (x : (PartWord × ℕ) × List Symbol). part x.0.0 x.0.1 ∷ x.1) (some_is ((v, p), ts) ((w, at), rest) e)
part_word_is ts w at rest e = absurd cc

pub operator_of_is : (k : ℕ) (ts : List Symbol) (o : Operator) (at : ℕ) (rest : List Symbol) → operator_of k ts ≡ Some ((o, at), rest) → (ts ≡ operator o at ∷ rest) × (level_of o ≡ k)
unfolding operator_of
operator_of_is k (operator p place ∷ ts) o at rest e =
    let g = guard_some (eqb (level_of p) k) ((p, place), ts) ((o, at), rest) e in
    (ap (λ (x : (Operator × ℕ) × List Symbol). operator x.0.0 x.0.1 ∷ x.1) g.1, ap (λ (x : (Operator × ℕ) × List Symbol). level_of x.0.0) (sym g.1) ∙ eqb-true _ _ g.0)
operator_of_is k ts o at rest e = absurd cc

pub sign_is : (ts : List Symbol) (o : UnaryOperator) (at : ℕ) (rest : List Symbol) → sign ts ≡ Some ((o, at), rest) → ts ≡ unary_symbol o at ∷ rest
unfolding sign
sign_is (negation p ∷ ts) o at rest e = ap (λ (x : (UnaryOperator × ℕ) × List Symbol). unary_symbol x.0.0 x.0.1 ∷ x.1) (some_is ((signs.Not, p), ts) ((o, at), rest) e)
sign_is (operator operators.Minus p ∷ ts) o at rest e = ap (λ (x : (UnaryOperator × ℕ) × List Symbol). unary_symbol x.0.0 x.0.1 ∷ x.1) (some_is ((signs.Minus, p), ts) ((o, at), rest) e)
sign_is ts o at rest e = absurd cc
