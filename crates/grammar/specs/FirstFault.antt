-- What is tested before any tree is read: words that are left out, and how deep parentheses and statements nest.
use Rattle.std.specs.Prelude.{◌≡◌, ◌≤◌, ℕ, ◌+◌, nat_lt, ◌||◌, if◌then◌else◌, List, [], ◌∷◌, ◌++◌, Option, Some, None}
use Rattle.source_tree.specs.declared.token.Mark.TheVariants.{If, Case}
use Rattle.source_tree.specs.declared.token.Tok.{Tok}
use Rattle.rules.specs.declared.rule.Rule.{Rule}
use Rattle.rules.specs.declared.rule.Rule.TheVariants.{LeftOutWord, TooDeep}
use Rattle.rules.specs.declared.rule.Refusal.{Refusal}
use Rattle.source_tree.specs.Syntax.{Symbol, opening, iteration, mark, left_out}
use Rattle.source_tree.specs.SyntaxView.{symbol, symbols}
use Rattle.grammar.specs.Marks.{same_mark}
use Rattle.grammar.specs.Nesting.{nothing_open, total, behind}
use Rattle.grammar.specs.declared.open.Open.{Open}

abbrev pub behind_all : Open → List Symbol → Open
behind_all o [] = o
behind_all o (s ∷ ss) = behind_all (behind o s) ss

abbrev pub too_deep : Open → Option Rule
too_deep o = if nat_lt 64 (total o) then Some TooDeep else None

-- The rule that a symbol breaks behind what is open: X1 by a word that is left out, G2 by a parenthesis, an IF, a
-- CASE or a FOR with which more than 64 are open.
abbrev pub fault_at : Open → Symbol → Option Rule
fault_at o (left_out at) = Some LeftOutWord
fault_at o (opening at) = too_deep (behind o (opening at))
fault_at o (iteration at) = too_deep (behind o (iteration at))
fault_at o (mark m) = if same_mark m If || same_mark m Case then too_deep (behind o (mark m)) else None
fault_at o s = None

-- among tokens, behind what is open, one breaks a rule at its place
pub record IsBroken (o : Open) (toks : List Tok) (r : Refusal) : Type 0 where
  pub before : List Tok
  pub token : Tok
  pub rest : List Tok
  pub split : toks ≡ before ++ token ∷ rest
  pub rule : fault_at (behind_all o (symbols before)) (symbol token) ≡ Some r.rule
  pub place : r.at ≡ token.at

-- no token breaks a rule
abbrev pub AreSoundTokens : List Tok → Type 0
AreSoundTokens toks = (r : Refusal) → IsBroken nothing_open toks r → ⊥

-- a token breaks a rule, and none before it does
pub record IsFirstFault (toks : List Tok) (r : Refusal) : Type 0 where
  pub broken : IsBroken nothing_open toks r
  pub first : AreSoundTokens broken.before

-- tokens stand one behind the other, from a place on
abbrev pub AreFrom : ℕ → List Tok → Type 0
AreFrom place [] = Unit {0}
AreFrom place (t ∷ ts) = (place ≤ t.at) × AreFrom (t.at + 1) ts
