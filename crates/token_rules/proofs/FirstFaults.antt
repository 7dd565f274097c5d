-- The first token that breaks a rule, by recursion on the tokens.
use Rattle.std.proofs.Common.{Bool, true, false, cond, ◌||◌, nat_lt, ◌-◌, ◌≡◌, ℕ, ◌+◌, ◌<◌, ◌≤◌, List, [], ◌∷◌, ◌++◌, length, get_or, drop, Option, Some, None, refl, sym, ap, subst, ◌∙◌, arith, add-one, drop-cons}
use Rattle.std.proofs.lemmas.List.{drop_all}
use Rattle.std.proofs.lemmas.Bool.{ltb-false}
use Rattle.rules.specs.declared.rule.Rule.TheVariants.{TooDeep}
use Rattle.source_tree.specs.declared.token.Mark.{Mark}
use Rattle.source_tree.specs.declared.token.Mark.TheVariants.{If, EndIf, Case, EndCase, EndFor, Close}
use Rattle.source_tree.specs.Syntax.{Symbol, name, number, truth, elementary, negation, operator, opening, iteration, exit_word, part, mark, left_out}
use Rattle.grammar.specs.Marks.{same_mark}
use Rattle.grammar.specs.Nesting.{open_parentheses, open_ifs, open_cases, open_iterations, nothing_open, total, behind, NestsWithin, Shallow}
use Rattle.source_tree.specs.declared.token.Tok.{Tok}
use Rattle.rules.specs.declared.rule.Rule.{Rule}
use Rattle.rules.specs.declared.rule.Refusal.{Refusal}
use Rattle.source_tree.specs.SyntaxView.{symbol, symbols}
use Rattle.grammar.specs.declared.open.Open.{Open}
use Rattle.grammar.specs.FirstFault.{behind_all, too_deep, fault_at, IsBroken, IsFirstFault}

abbrev pub fault_step : (Open → Option Refusal) → Open → Tok → Option Rule → Option Refusal
fault_step more o t None = more (behind o (symbol t))
fault_step more o t (Some rule) = Some (record { rule = rule; at = t.at })

unfoldable pub fault_from : Open → List Tok → Option Refusal
fault_from o [] = None
fault_from o (t ∷ ts) = fault_step (λ o. fault_from o ts) o t (fault_at o (symbol t))

fault_next : (toks : List Tok) (at : ℕ) (o : Open) (d : Tok) → at < length toks
    → fault_from o (drop at toks) ≡ fault_step (λ o. fault_from o (drop (at + 1) toks)) o (get_or toks at d) (fault_at o (symbol (get_or toks at d)))
unfolding fault_from
fault_next toks at o d lt =
    let cut : drop at toks ≡ get_or toks at d ∷ drop (at + 1) toks = rw add-one (drop-cons toks at d lt) in
    ap (fault_from o) cut

-- the token at a place, as the loop reads it
pub fault_here : (toks : List Tok) (at : ℕ) (o : Open) (d t : Tok) (rule : Rule) → t ≡ get_or toks at d → at < length toks → fault_at o (symbol t) ≡ Some rule
    → fault_from o (drop at toks) ≡ Some (record { rule = rule; at = t.at })
fault_here toks at o d t rule same lt e =
    fault_next toks at o d lt ∙ subst (λ (x : Tok). fault_step (λ o. fault_from o (drop (at + 1) toks)) o x (fault_at o (symbol x)) ≡ Some (record { rule = rule; at = t.at })) same
    (ap (fault_step (λ o. fault_from o (drop (at + 1) toks)) o t) e)

pub none_here : (toks : List Tok) (at : ℕ) (o : Open) (d t : Tok) → t ≡ get_or toks at d → at < length toks → fault_at o (symbol t) ≡ None
    → fault_from o (drop at toks) ≡ fault_from (behind o (symbol t)) (drop (at + 1) toks)
none_here toks at o d t same lt e =
    fault_next toks at o d lt ∙ subst (λ (x : Tok). fault_step (λ o. fault_from o (drop (at + 1) toks)) o x (fault_at o (symbol x)) ≡ fault_from (behind o (symbol t)) (drop (at + 1) toks)) same
    (ap (fault_step (λ o. fault_from o (drop (at + 1) toks)) o t) e)

pub fault_end : (toks : List Tok) (at : ℕ) (o : Open) → length toks ≤ at → fault_from o (drop at toks) ≡ None
unfolding fault_from
fault_end toks at o le = ap (fault_from o) (drop_all at toks le)

-- ---- nothing is broken

pub head_of : (x y : Tok) (xs ys : List Tok) → x ∷ xs ≡ y ∷ ys → x ≡ y
head_of x y xs ys e = cc

pub tail_of : (x y : Tok) (xs ys : List Tok) → x ∷ xs ≡ y ∷ ys → xs ≡ ys
tail_of x y xs ys e = cc

-- where the first token breaks nothing, what is broken stands behind it
pub behind_it : (o : Open) (t : Tok) (ts : List Tok) (r : Refusal) (before : List Tok) (token : Tok) (rest : List Tok) → fault_at o (symbol t) ≡ None → t ∷ ts ≡ before ++ token ∷ rest
    → fault_at (behind_all o (symbols before)) (symbol token) ≡ Some r.rule → r.at ≡ token.at → IsBroken (behind o (symbol t)) ts r
behind_it o t ts r [] token rest none split rule place =
    let same : t ≡ token = head_of t token ts rest split in
    let both : None ≡ Some r.rule = sym none ∙ ap (λ (x : Tok). fault_at o (symbol x)) same ∙ rule in
    absurd cc
behind_it o t ts r (b ∷ bs) token rest none split rule place =
    let same : b ≡ t = sym (head_of t b ts (bs ++ token ∷ rest) split) in
    record {
      before = bs;
      token = token;
      rest = rest;
      split = tail_of t b ts (bs ++ token ∷ rest) split;
      rule = subst (λ (x : Tok). fault_at (behind_all (behind o (symbol x)) (symbols bs)) (symbol token) ≡ Some r.rule) same rule;
      place = place;
    }

none_go : (o : Open) (t : Tok) (ts : List Tok) (f : Option Rule) → fault_at o (symbol t) ≡ f → fault_step (λ o. fault_from o ts) o t f ≡ None
    → (fault_from (behind o (symbol t)) ts ≡ None → (r : Refusal) → IsBroken (behind o (symbol t)) ts r → ⊥) → (r : Refusal) → IsBroken o (t ∷ ts) r → ⊥
none_go o t ts None is e below r b = below e r (behind_it o t ts r b.before b.token b.rest is b.split b.rule b.place)
none_go o t ts (Some rule) is e below r b = absurd cc

pub no_split : (before : List Tok) (token : Tok) (rest : List Tok) → [] ≡ before ++ token ∷ rest → ⊥
no_split [] token rest e = cc
no_split (b ∷ bs) token rest e = cc

pub none_broken : (toks : List Tok) (o : Open) → fault_from o toks ≡ None → (r : Refusal) → IsBroken o toks r → ⊥
unfolding fault_from
none_broken [] o e r b = no_split b.before b.token b.rest b.split
none_broken (t ∷ ts) o e r b = none_go o t ts (fault_at o (symbol t)) refl e (λ e. none_broken ts (behind o (symbol t)) e) r b

-- ---- the first that is broken

-- a token breaks a rule behind what is open, and none before it does
pub record FirstFrom (o : Open) (toks : List Tok) (r : Refusal) : Type 0 where
  pub broken : IsBroken o toks r
  pub first : (other : Refusal) → IsBroken o broken.before other → ⊥

some_go : (o : Open) (t : Tok) (ts : List Tok) (r : Refusal) (f : Option Rule) → fault_at o (symbol t) ≡ f → fault_step (λ o. fault_from o ts) o t f ≡ Some r
    → (fault_from (behind o (symbol t)) ts ≡ Some r → FirstFrom (behind o (symbol t)) ts r) → FirstFrom o (t ∷ ts) r
some_go o t ts r None is e below =
    let f = below e in
    let b = f.broken in
    record {
      broken = record { before = t ∷ b.before; token = b.token; rest = b.rest; split = ap (λ (x : List Tok). t ∷ x) b.split; rule = b.rule; place = b.place };
      first = λ other x. f.first other (behind_it o t b.before other x.before x.token x.rest is x.split x.rule x.place);
    }
some_go o t ts r (Some rule) is e below =
    let same : record { rule = rule; at = t.at } ≡ r = cc in
    record {
      broken = record { before = []; token = t; rest = ts; split = refl; rule = is ∙ ap (λ (x : Refusal). Some x.rule) same; place = sym (ap (λ (x : Refusal). x.at) same) };
      first = λ other x. no_split x.before x.token x.rest x.split;
    }

first_from : (toks : List Tok) (o : Open) (r : Refusal) → fault_from o toks ≡ Some r → FirstFrom o toks r
unfolding fault_from
first_from [] o r e = absurd cc
first_from (t ∷ ts) o r e = some_go o t ts r (fault_at o (symbol t)) refl e (λ e. first_from ts (behind o (symbol t)) r e)

pub first_broken : (toks : List Tok) (r : Refusal) → fault_from nothing_open toks ≡ Some r → IsFirstFault toks r
first_broken toks r e = let f = first_from toks nothing_open r e in record { broken = f.broken; first = f.first }

-- ---- where nothing is broken, no more than 64 are open

not_deep : (o : Open) → too_deep o ≡ None → total o ≤ 64
not_deep o e = by_test (nat_lt 64 (total o)) refl e
  where
    by_test : (b : Bool) → nat_lt 64 (total o) ≡ b → cond b (Some TooDeep) None ≡ None → total o ≤ 64
    by_test true is e = absurd cc
    by_test false is e = ltb-false 64 (total o) is

closes-below : (n : ℕ) (x : Bool) → cond x (n - 1) n ≤ n
closes-below n true = omega arith
closes-below n false = omega arith

-- a mark that opens nothing leaves no more open
no_more_open : (o : Open) (m : Mark) → same_mark m If ≡ false → same_mark m Case ≡ false → total (behind o (mark m)) ≤ total o
unfolding open_parentheses open_ifs open_cases open_iterations
no_more_open o m p q =
    rw (p, q) (omega (arith, closes-below o.parentheses (same_mark m Close), closes-below o.ifs (same_mark m EndIf), closes-below o.cases (same_mark m EndCase), closes-below o.iterations (same_mark m EndFor)))

few_mark : (o : Open) (m : Mark) (is_if is_case : Bool) → same_mark m If ≡ is_if → same_mark m Case ≡ is_case → total o ≤ 64 → cond (is_if || is_case) (too_deep (behind o (mark m))) None ≡ None → total (behind o (mark m)) ≤ 64
few_mark o m true is_case p q few e = not_deep (behind o (mark m)) e
few_mark o m false true p q few e = not_deep (behind o (mark m)) e
few_mark o m false false p q few e = omega (arith, no_more_open o m p q)

few_behind : (s : Symbol) (o : Open) → total o ≤ 64 → fault_at o s ≡ None → total (behind o s) ≤ 64
unfolding open_parentheses open_ifs open_cases open_iterations
few_behind (name t at) o few e = few
few_behind (number n at) o few e = few
few_behind (truth b at) o few e = few
few_behind (elementary k at) o few e = few
few_behind (negation at) o few e = few
few_behind (operator p at) o few e = few
few_behind (opening at) o few e = not_deep (behind o (opening at)) e
few_behind (iteration at) o few e = not_deep (behind o (iteration at)) e
few_behind (exit_word at) o few e = few
few_behind (part w at) o few e = few
few_behind (mark m) o few e = few_mark o m (same_mark m If) (same_mark m Case) refl refl few e
few_behind (left_out at) o few e = absurd cc

shallow_go : (o : Open) (t : Tok) (ts : List Tok) (f : Option Rule) → fault_at o (symbol t) ≡ f → fault_step (λ o. fault_from o ts) o t f ≡ None → total o ≤ 64
    → (total (behind o (symbol t)) ≤ 64 → fault_from (behind o (symbol t)) ts ≡ None → NestsWithin 64 (behind o (symbol t)) (symbols ts))
    → NestsWithin 64 o (symbols (t ∷ ts))
shallow_go o t ts None is e few below = let next = few_behind (symbol t) o few is in (next, below next e)
shallow_go o t ts (Some rule) is e few below = absurd cc

shallow_from : (toks : List Tok) (o : Open) → total o ≤ 64 → fault_from o toks ≡ None → NestsWithin 64 o (symbols toks)
unfolding fault_from
shallow_from [] o few e = tt
shallow_from (t ∷ ts) o few e = shallow_go o t ts (fault_at o (symbol t)) refl e few (λ next e. shallow_from ts (behind o (symbol t)) next e)

pub shallow : (toks : List Tok) → fault_from nothing_open toks ≡ None → Shallow (symbols toks)
shallow toks e = shallow_from toks nothing_open (omega arith) e

-- ---- the first fault is one

-- no token of a list breaks a rule behind what is open
abbrev SoundFrom : Open → List Tok → Type 0
SoundFrom o toks = (r : Refusal) → IsBroken o toks r → ⊥

-- behind one more token
behind_one : (o : Open) (t : Tok) (toks : List Tok) → SoundFrom o (t ∷ toks) → SoundFrom (behind o (symbol t)) toks
behind_one o t toks sound r b = sound r (record { before = t ∷ b.before; token = b.token; rest = b.rest; split = ap (λ (x : List Tok). t ∷ x) b.split; rule = b.rule; place = b.place })

-- a token in front that breaks a rule
front_broken : (o : Open) (t u : Tok) (toks : List Tok) (rule : Rule) → t ≡ u → fault_at o (symbol t) ≡ Some rule → SoundFrom o (u ∷ toks) → ⊥
front_broken o t u toks rule same h sound =
    sound (record { rule = rule; at = u.at }) (record { before = []; token = u; rest = toks; split = refl; rule = subst (λ (x : Tok). fault_at o (symbol x) ≡ Some rule) same h; place = refl })

same_head : (t u : Tok) (ts us : List Tok) → (let l : List Tok = t ∷ ts in l) ≡ u ∷ us → t ≡ u
same_head t u ts us e = cc

same_tail : (t u : Tok) (ts us : List Tok) → (let l : List Tok = t ∷ ts in l) ≡ u ∷ us → ts ≡ us
same_tail t u ts us e = cc

once_from : (o : Open) (b c : List Tok) (t u : Tok) (ts us : List Tok) (p q : Rule) → b ++ t ∷ ts ≡ c ++ u ∷ us
    → fault_at (behind_all o (symbols b)) (symbol t) ≡ Some p → fault_at (behind_all o (symbols c)) (symbol u) ≡ Some q → SoundFrom o b → SoundFrom o c → (p ≡ q) × (t ≡ u)
once_from o [] [] t u ts us p q e f g sb sc =
    let same = same_head t u ts us e in
    let both : Some p ≡ Some q = sym f ∙ ap (λ (x : Tok). fault_at o (symbol x)) same ∙ g in
    (cc, same)
once_from o [] (x ∷ c) t u ts us p q e f g sb sc = absurd (front_broken o t x c p (same_head t x ts (c ++ u ∷ us) e) f sc)
once_from o (x ∷ b) [] t u ts us p q e f g sb sc = absurd (front_broken o u x b q (sym (same_head x u (b ++ t ∷ ts) us e)) g sb)
once_from o (x ∷ b) (y ∷ c) t u ts us p q e f g sb sc =
    let same = same_head x y (b ++ t ∷ ts) (c ++ u ∷ us) e in
    let next = behind o (symbol x) in
    let moved : behind o (symbol y) ≡ behind o (symbol x) = ap (λ (z : Tok). behind o (symbol z)) (sym same) in
    once_from next b c t u ts us p q (same_tail x y (b ++ t ∷ ts) (c ++ u ∷ us) e) f
    (subst (λ (z : Open). fault_at (behind_all z (symbols c)) (symbol u) ≡ Some q) moved g)
    (behind_one o x b sb) (subst (λ (z : Open). SoundFrom z c) moved (behind_one o y c sc))

pub first_fault_once : (toks : List Tok) (r s : Refusal) → IsFirstFault toks r → IsFirstFault toks s → r ≡ s
first_fault_once toks r s h k =
    let one = once_from nothing_open h.broken.before k.broken.before h.broken.token k.broken.token h.broken.rest k.broken.rest r.rule s.rule (sym h.broken.split ∙ k.broken.split) h.broken.rule k.broken.rule h.first k.first in
    let at : r.at ≡ s.at = h.broken.place ∙ ap (λ (t : Tok). t.at) one.1 ∙ sym k.broken.place in
    λ j. record { rule = one.0 j; at = at j }
