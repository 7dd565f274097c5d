-- Where places rise along tokens, the first that is broken in their order is the first by place.
use Rattle.std.proofs.Common.{◌≡◌, ℕ, ◌+◌, ◌<◌, ◌≤◌, true, List, [], ◌∷◌, ◌++◌, Option, Some, None, refl, sym, ap, subst, ◌∙◌, arith, ◌⊎◌, inl, inr}
use Rattle.std.proofs.lemmas.Bool.{lt-ltb}
use Rattle.source_tree.specs.declared.token.Tok.{Tok}
use Rattle.rules.specs.declared.rule.Rule.{Rule}
use Rattle.rules.specs.declared.rule.Refusal.{Refusal}
use Rattle.rules.specs.Rules.{comes_before, IsFirst}
use Rattle.source_tree.specs.SyntaxView.{symbol, symbols}
use Rattle.grammar.specs.declared.open.Open.{Open}
use Rattle.grammar.specs.Nesting.{nothing_open, behind}
use Rattle.grammar.specs.FirstFault.{behind_all, fault_at, IsBroken, IsFirstFault, AreFrom}
use Rattle.token_rules.proofs.FirstFaults.{head_of, tail_of, no_split, behind_it}

abbrev Later : Refusal → Refusal → Type 0
Later r other = (r ≡ other) ⊎ (comes_before r other ≡ true)

before_is : (r other : Refusal) → r.at < other.at → comes_before r other ≡ true
before_is r other lt = rw (lt-ltb r.at other.at lt) refl

-- a token of a list stands at its first place or behind it
from_is : (ts before : List Tok) (token : Tok) (rest : List Tok) (place : ℕ) → AreFrom place ts → ts ≡ before ++ token ∷ rest → place ≤ token.at
from_is [] before token rest place from split = absurd (no_split before token rest split)
from_is (t ∷ ts) [] token rest place from split = subst (λ (x : Tok). place ≤ x.at) (head_of t token ts rest split) from.0
from_is (t ∷ ts) (b ∷ bs) token rest place from split =
    let h : t.at + 1 ≤ token.at = from_is ts bs token rest (t.at + 1) from.1 (tail_of t b ts (bs ++ token ∷ rest) split) in
    omega (arith, from.0)

-- the first token is broken: each other broken one is that one, or stands behind it
here_go : (o : Open) (t : Tok) (ts : List Tok) (r other : Refusal) (before : List Tok) (token : Tok) (rest : List Tok) → fault_at o (symbol t) ≡ Some r.rule → r.at ≡ t.at → AreFrom (t.at + 1) ts
    → t ∷ ts ≡ before ++ token ∷ rest → fault_at (behind_all o (symbols before)) (symbol token) ≡ Some other.rule → other.at ≡ token.at → Later r other
here_go o t ts r other [] token rest rule place from split other_rule other_place =
    let same : t ≡ token = head_of t token ts rest split in
    let rules : Some r.rule ≡ Some other.rule = sym rule ∙ ap (λ (x : Tok). fault_at o (symbol x)) same ∙ other_rule in
    let one : r.rule ≡ other.rule = cc in
    let at : r.at ≡ other.at = place ∙ ap (λ (x : Tok). x.at) same ∙ sym other_place in
    let both : r ≡ other = ap (λ (x : Rule). let y : Refusal = record { rule = x; at = r.at } in y) one ∙ ap (λ (n : ℕ). let y : Refusal = record { rule = other.rule; at = n } in y) at in
    inl both
here_go o t ts r other (b ∷ bs) token rest rule place from split other_rule other_place =
    let h : t.at + 1 ≤ token.at = from_is ts bs token rest (t.at + 1) from (tail_of t b ts (bs ++ token ∷ rest) split) in
    inr (before_is r other (omega (arith, place, other_place)))

-- what is broken behind a token is broken among all
lifted : (o : Open) (t : Tok) (ts : List Tok) (r : Refusal) → IsBroken (behind o (symbol t)) ts r → IsBroken o (t ∷ ts) r
lifted o t ts r b = record { before = t ∷ b.before; token = b.token; rest = b.rest; split = ap (λ (x : List Tok). t ∷ x) b.split; rule = b.rule; place = b.place }

-- where the first of some tokens is not broken
sound_first : (o : Open) (t : Tok) (ts : List Tok) (f : Option Rule) → fault_at o (symbol t) ≡ f → ((other : Refusal) → IsBroken o (t ∷ ts) other → ⊥) → fault_at o (symbol t) ≡ None
sound_first o t ts None is sound = is
sound_first o t ts (Some rule) is sound = absurd (sound (record { rule = rule; at = t.at }) (record { before = []; token = t; rest = ts; split = refl; rule = is; place = refl }))

by_place : (toks : List Tok) (o : Open) (place : ℕ) (r other : Refusal) (before : List Tok) (token : Tok) (rest : List Tok) → toks ≡ before ++ token ∷ rest → fault_at (behind_all o (symbols before)) (symbol token) ≡ Some r.rule → r.at ≡ token.at
    → ((x : Refusal) → IsBroken o before x → ⊥) → AreFrom place toks → IsBroken o toks other → Later r other
by_place [] o place r other before token rest split rule at sound from b = absurd (no_split before token rest split)
by_place (t ∷ ts) o place r other [] token rest split rule at sound from b =
    let same : token ≡ t = sym (head_of t token ts rest split) in
    let here : fault_at o (symbol t) ≡ Some r.rule = ap (λ (x : Tok). fault_at o (symbol x)) (sym same) ∙ rule in
    here_go o t ts r other b.before b.token b.rest here (at ∙ ap (λ (x : Tok). x.at) same) from.1 b.split b.rule b.place
by_place (t ∷ ts) o place r other (x ∷ xs) token rest split rule at sound from b =
    let same : x ≡ t = sym (head_of t x ts (xs ++ token ∷ rest) split) in
    let none : fault_at o (symbol t) ≡ None = ap (λ (y : Tok). fault_at o (symbol y)) (sym same) ∙ sound_first o x xs (fault_at o (symbol x)) refl sound in
    let rule' = subst (λ (y : Tok). fault_at (behind_all (behind o (symbol y)) (symbols xs)) (symbol token) ≡ Some r.rule) same rule in
    let sound' = subst (λ (y : Tok). (z : Refusal) → IsBroken (behind o (symbol y)) xs z → ⊥) same (λ (z : Refusal) (w : IsBroken (behind o (symbol x)) xs z). sound z (lifted o x xs z w)) in
    by_place ts (behind o (symbol t)) (t.at + 1) r other xs token rest (tail_of t x ts (xs ++ token ∷ rest) split) rule' at sound' from.1
    (behind_it o t ts other b.before b.token b.rest none b.split b.rule b.place)

pub first_by_place : (toks : List Tok) (place : ℕ) (r : Refusal) → AreFrom place toks → IsFirstFault toks r → IsFirst (IsBroken nothing_open toks) r
first_by_place toks place r from f = record {
  is_broken = f.broken;
  before = λ other b. by_place toks nothing_open place r other f.broken.before f.broken.token f.broken.rest f.broken.split f.broken.rule f.broken.place f.first from b;
}
