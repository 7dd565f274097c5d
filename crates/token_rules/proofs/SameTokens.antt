-- Tokens that spell the same break the same rules first.
use Rattle.std.proofs.Common.{◌≡◌, ℕ, List, [], ◌∷◌, ◌++◌, map, refl, sym, ap, ◌∙◌}
use Rattle.source_tree.specs.declared.token.Tok.{Tok}
use Rattle.rules.specs.declared.rule.Refusal.{Refusal}
use Rattle.source_tree.specs.Syntax.{Symbol}
use Rattle.source_tree.specs.SyntaxView.{symbol, symbols}
use Rattle.grammar.specs.declared.open.Open.{Open}
use Rattle.grammar.specs.Nesting.{nothing_open}
use Rattle.grammar.specs.FirstFault.{behind_all, fault_at, IsBroken, AreSoundTokens, IsFirstFault}
use Rattle.grammar.specs.Same.{placed_symbol, AreSameTokens}
use Rattle.token_rules.proofs.FirstFaults.{first_fault_once}

abbrev Placed : Type 0
Placed = Symbol × ℕ

same_head : (p q : Placed) (ps qs : List Placed) → p ∷ ps ≡ q ∷ qs → p ≡ q
same_head p q ps qs e = cc

same_tail : (p q : Placed) (ps qs : List Placed) → p ∷ ps ≡ q ∷ qs → ps ≡ qs
same_tail p q ps qs e = cc

both : (p q : Placed) (ps qs : List Placed) → p ≡ q → ps ≡ qs → p ∷ ps ≡ q ∷ qs
both p q ps qs e f = cc

-- ---- the same symbols

symbols_of : (ts : List Tok) → symbols ts ≡ map (λ (p : Placed). p.0) (map placed_symbol ts)
symbols_of [] = refl
symbols_of (t ∷ ts) = ap (λ (ss : List Symbol). symbol t ∷ ss) (symbols_of ts)

pub same_symbols : (ts us : List Tok) → AreSameTokens ts us → symbols ts ≡ symbols us
same_symbols ts us e = symbols_of ts ∙ ap (map (λ (p : Placed). p.0)) e ∙ sym (symbols_of us)

-- ---- the same parts

-- tokens are split where others that spell the same are
record IsSplit (before : List Tok) (token : Tok) (us : List Tok) : Type 0 where
  front : List Tok
  it : Tok
  rest : List Tok
  split : us ≡ front ++ it ∷ rest
  same_front : AreSameTokens before front
  same_it : placed_symbol token ≡ placed_symbol it

split_on : (b : Tok) (before : List Tok) (token u : Tok) (us : List Tok) → placed_symbol b ≡ placed_symbol u → IsSplit before token us → IsSplit (b ∷ before) token (u ∷ us)
split_on b before token u us same s = record {
  front = u ∷ s.front;
  it = s.it;
  rest = s.rest;
  split = ap (λ (x : List Tok). u ∷ x) s.split;
  same_front = both (placed_symbol b) (placed_symbol u) (map placed_symbol before) (map placed_symbol s.front) same s.same_front;
  same_it = s.same_it;
}

split_same : (before : List Tok) (token : Tok) (rest us : List Tok) → AreSameTokens (before ++ token ∷ rest) us → IsSplit before token us
split_same [] token rest [] e = absurd cc
split_same [] token rest (u ∷ us) e =
    record { front = []; it = u; rest = us; split = refl; same_front = refl; same_it = same_head (placed_symbol token) (placed_symbol u) (map placed_symbol rest) (map placed_symbol us) e }
split_same (b ∷ before) token rest [] e = absurd cc
split_same (b ∷ before) token rest (u ∷ us) e =
    let more : List Placed = map placed_symbol (before ++ token ∷ rest) in
    split_on b before token u us (same_head (placed_symbol b) (placed_symbol u) more (map placed_symbol us) e)
    (split_same before token rest us (same_tail (placed_symbol b) (placed_symbol u) more (map placed_symbol us) e))

-- ---- the same faults

-- the fault that stands at a split
fault_moved : (o : Open) (ts us : List Tok) (r : Refusal) (b : IsBroken o ts r) → IsSplit b.before b.token us → IsBroken o us r
fault_moved o ts us r b s = record {
  before = s.front;
  token = s.it;
  rest = s.rest;
  split = s.split;
  rule = ap (λ (ss : List Symbol). fault_at (behind_all o ss) (symbol s.it)) (sym (same_symbols b.before s.front s.same_front)) ∙ ap (λ (p : Placed). fault_at (behind_all o (symbols b.before)) p.0) (sym s.same_it) ∙ b.rule;
  place = b.place ∙ ap (λ (p : Placed). p.1) s.same_it;
}

split_of : (o : Open) (ts us : List Tok) (r : Refusal) → AreSameTokens ts us → (b : IsBroken o ts r) → IsSplit b.before b.token us
split_of o ts us r e b = split_same b.before b.token b.rest us (ap (map placed_symbol) (sym b.split) ∙ e)

broken_same : (o : Open) (ts us : List Tok) (r : Refusal) → AreSameTokens ts us → IsBroken o ts r → IsBroken o us r
broken_same o ts us r e b = fault_moved o ts us r b (split_of o ts us r e b)

pub sound_same : (ts us : List Tok) → AreSameTokens ts us → AreSoundTokens ts → AreSoundTokens us
sound_same ts us e sound r b = sound r (broken_same nothing_open us ts r (sym e) b)

first_same : (ts us : List Tok) (r : Refusal) → AreSameTokens ts us → IsFirstFault ts r → IsFirstFault us r
unfolding fault_moved
first_same ts us r e h =
    let s = split_of nothing_open ts us r e h.broken in
    record { broken = fault_moved nothing_open ts us r h.broken s; first = sound_same h.broken.before s.front s.same_front h.first }

-- tokens that break no rule spell none that do
pub sound_or_broken : (ts us : List Tok) (r : Refusal) → AreSameTokens ts us → AreSoundTokens ts → IsFirstFault us r → ⊥
sound_or_broken ts us r e sound h = sound_same ts us e sound r h.broken

pub one_first_fault : (ts us : List Tok) (r s : Refusal) → AreSameTokens ts us → IsFirstFault ts r → IsFirstFault us s → r ≡ s
one_first_fault ts us r s e h k = first_fault_once us r s (first_same ts us r e h) k
