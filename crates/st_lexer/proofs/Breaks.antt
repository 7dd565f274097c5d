-- Which rules a text breaks, from a place on.
use Rattle.std.proofs.Common.{◌≡◌, ℕ, ◌+◌, ◌<◌, ◌≤◌, List, [], ◌∷◌, ◌++◌, length, take, drop, true, false, ◌⊎◌, inl, inr, Option, Some, None, refl, sym, ap, ◌∙◌, subst, arith}
use Rattle.std.specs.Prelude.{All}
use Rattle.std.proofs.lemmas.List.Elements.{All-same, All-push}
use Rattle.std.proofs.lemmas.List.{length-take-le}
use Rattle.source_tree.specs.declared.token.TokenClass.{TokenClass}
use Rattle.source_tree.specs.Tokens.{Lexeme, token, slice_of, mark_len}
use Rattle.rules.specs.declared.rule.Rule.{Rule}
use Rattle.rules.specs.declared.fault.Fault.{Fault}
use Rattle.rules.specs.declared.fault.Fault.TheVariants.{Refused}
use Rattle.st_lexer.specs.Lexing.{IsRightFault}
use Rattle.st_lexer.specs.declared.front.Front.{Front}
use Rattle.st_lexer.specs.declared.front.Front.TheVariants.{Token}
use Rattle.st_lexer.specs.Fronts.{front_of, size_of, stuck_rule}
use Rattle.st_lexer.specs.Parts.{Part, proper, stray, unclosed, bytes_of, opens_block, Starts, IsCut, piece_rule, broken_rule, KeepsRules, BreaksFrom, IsBroken, IsSoundText, IsFirstInText}
use Rattle.st_lexer.proofs.FrontLemmas.{piece_at}
use Rattle.st_lexer.proofs.Beginnings.{IsFront, slice_at, begins, no_front}
use Rattle.st_lexer.proofs.Cuts.{starts_once, part_some, no_part, cut_of}

breaks_behind : (from : ℕ) (ps : List Part) (rule : Rule) (at : ℕ) → BreaksFrom from ps rule at → from ≤ at
breaks_behind from [] rule at h = absurd h
breaks_behind from (p ∷ ps) rule at (inl h) = omega (arith, h.0)
breaks_behind from (p ∷ ps) rule at (inr h) = let k = breaks_behind (from + length (bytes_of p)) ps rule at h in omega (arith, k)

-- a text from a place on breaks a rule
abbrev pub BrokenFrom : ℕ → List ℕ → Rule → ℕ → Type 0
BrokenFrom from text rule at = (parts : List Part) × IsCut text parts × BreaksFrom from parts rule at

broken_here : (from : ℕ) (text : List ℕ) (p : Part) (r : List ℕ) (rule : Rule) → Starts text p r → broken_rule p ≡ Some rule → BrokenFrom from text rule from
broken_here from text p r rule s h = let more = cut_of r in (p ∷ more.0, (r, s, more.1), inl (refl, h))

broken_on : (from n : ℕ) (text : List ℕ) (p : Part) (r : List ℕ) (rule : Rule) (at : ℕ) → Starts text p r → length (bytes_of p) ≡ n → BrokenFrom (from + n) r rule at → BrokenFrom from text rule at
broken_on from n text p r rule at s size (ps, c, b) = (p ∷ ps, (r, s, c), inr (subst (λ k. BreaksFrom (from + k) ps rule at) (sym size) b))

broken_back : (from : ℕ) (text : List ℕ) (p : Part) (r : List ℕ) (rule : Rule) (at : ℕ) → Starts text p r → BrokenFrom from text rule at
    → ((from ≡ at) × (broken_rule p ≡ Some rule)) ⊎ BrokenFrom (from + length (bytes_of p)) r rule at
broken_back from text p r rule at s ([], c, b) = absurd b
broken_back from text p r rule at s (q ∷ qs, (t, k, c), inl h) = inl (h.0, subst (λ x. broken_rule x ≡ Some rule) (starts_once text q p t r k s).0 h.1)
broken_back from text p r rule at s (q ∷ qs, (t, k, c), inr h) =
    let same = starts_once text q p t r k s in
    inr (qs, subst (λ x. IsCut x qs) same.1 c, subst (λ x. BreaksFrom (from + length (bytes_of x)) qs rule at) same.0 h)

-- What is broken in a text is broken in what is left of it.
pub record IsRead (text : List ℕ) (at : ℕ) (rest : List ℕ) : Type 0 where
  pub on : (rule : Rule) (place : ℕ) → BrokenFrom at rest rule place → IsBroken text rule place
  pub back : (rule : Rule) (place : ℕ) → IsBroken text rule place → BrokenFrom at rest rule place

pub read_start : (text : List ℕ) → IsRead text (mark_len text) (drop (mark_len text) text)
read_start text = record { on = λ rule place b. b; back = λ rule place b. b }

pub read_on : (text : List ℕ) (at n : ℕ) (rest : List ℕ) (p : Part) (r : List ℕ) → Starts rest p r → length (bytes_of p) ≡ n → broken_rule p ≡ None → IsRead text at rest → IsRead text (at + n) r
read_on text at n rest p r s size whole h = record {
  on = λ rule place b. h.on rule place (broken_on at n rest p r rule place s size b);
  back = λ rule place b. elim (broken_back at rest p r rule place s (h.back rule place b)) [
    | inl x ↦ absurd (let e : None ≡ Some rule = sym whole ∙ x.1 in cc)
    | inr y ↦ subst (λ k. BrokenFrom (at + k) r rule place) size y
  ];
}

behind : (at : ℕ) (p : Part) (r : List ℕ) (rule : Rule) (place : ℕ) → 0 < length (bytes_of p) → BrokenFrom (at + length (bytes_of p)) r rule place → at < place
behind at p r rule place some (ps, c, b) = omega (arith, breaks_behind (at + length (bytes_of p)) ps rule place b)

-- the part that stands next, where it breaks a rule, is the first that does
pub read_first : (text : List ℕ) (at : ℕ) (rest : List ℕ) (p : Part) (r : List ℕ) (rule : Rule) → Starts rest p r → broken_rule p ≡ Some rule → IsRead text at rest → IsFirstInText text rule at
read_first text at rest p r rule s broken h = record {
  broken = h.on rule at (broken_here at rest p r rule s broken);
  others = λ other place b. elim (broken_back at rest p r other place s (h.back other place b)) [
    | inl x ↦ (let e : Some rule ≡ Some other = sym broken ∙ x.1 in inr (x.0, cc))
    | inr y ↦ inl (behind at p r other place (part_some rest p r s) y)
  ];
}

-- where nothing is left, no rule is broken
nothing : (at : ℕ) (rest : List ℕ) (rule : Rule) (place : ℕ) → length rest ≡ 0 → BrokenFrom at rest rule place → ⊥
nothing at rest rule place z ([], c, b) = b
nothing at rest rule place z (p ∷ ps, (r, s, c), b) = no_part rest p r s z

pub read_end : (text : List ℕ) (at : ℕ) (rest : List ℕ) → length rest ≡ 0 → IsRead text at rest → IsSoundText text
read_end text at rest z h = λ rule place b. nothing at rest rule place z (h.back rule place b)

-- where no gap and no token stands next, the rule of what is stuck is the first
pub read_stuck : (text : List ℕ) (at : ℕ) (rest : List ℕ) → 0 < length rest → front_of rest ≡ None → IsRead text at rest → IsFirstInText text (stuck_rule rest) at
read_stuck text at [] z f h = absurd (omega arith)
read_stuck text at (b ∷ bs) z f h =
    elim (opens_block (b ∷ bs)) as (λ x. opens_block (b ∷ bs) ≡ x → IsFirstInText text (stuck_rule (b ∷ bs)) at) [
      | true ↦ λ e. read_first text at (b ∷ bs) (unclosed (b ∷ bs)) [] (stuck_rule (b ∷ bs)) (refl, refl, e, λ p r k. no_front (b ∷ bs) p r f k) (rw e refl) h
      | false ↦ λ e. read_first text at (b ∷ bs) (stray b) bs (stuck_rule (b ∷ bs)) (refl, e, λ p r k. no_front (b ∷ bs) p r f k) (rw e refl) h
    ] refl

-- The same, as the code's steps say it.
front_size : (text : List ℕ) (f : Front) → IsFront text f → length (slice_of (piece_at f text)) ≡ size_of f
front_size text f h = ap length (slice_at f text) ∙ length-take-le (size_of f) text h.within

pub read_front : (text : List ℕ) (at : ℕ) (rest : List ℕ) (f : Front) (rest' : List ℕ) → IsFront rest f → rest' ≡ drop (size_of f) rest → broken_rule (proper (piece_at f rest)) ≡ None → IsRead text at rest → IsRead text (at + size_of f) rest'
read_front text at rest f rest' h e whole k =
    subst (IsRead text (at + size_of f)) (sym e) (read_on text at (size_of f) rest (proper (piece_at f rest)) (drop (size_of f) rest) (begins rest f h) (front_size rest f h) whole k)

pub read_broken : (text : List ℕ) (at : ℕ) (rest : List ℕ) (f : Front) (rule : Rule) → IsFront rest f → broken_rule (proper (piece_at f rest)) ≡ Some rule → IsRead text at rest → IsFirstInText text rule at
read_broken text at rest f rule h broken k = read_first text at rest (proper (piece_at f rest)) (drop (size_of f) rest) rule (begins rest f h) broken k

-- the rule of a token, by its slice
pub token_says : (class : TokenClass) (n : ℕ) (rest slice : List ℕ) (o p : Option Rule) → slice ≡ take n rest → o ≡ piece_rule (token class slice) → o ≡ p → broken_rule (proper (piece_at (Token class n) rest)) ≡ p
token_says class n rest slice o p e h k = ap (λ s. piece_rule (token class s)) (sym e) ∙ sym h ∙ k

pub kept_push : (tokens tokens' : List Lexeme) (l : Lexeme) → tokens' ≡ tokens ++ l ∷ [] → piece_rule (token l.class l.slice) ≡ None → All KeepsRules tokens → All KeepsRules tokens'
kept_push tokens tokens' l e k h = All-same KeepsRules tokens' (tokens ++ l ∷ []) e (All-push KeepsRules tokens l h k)

-- a refusal of the first rule is right
pub right_fault : (text : List ℕ) (rule told : Rule) (at : ℕ) (fault : Fault) → fault ≡ Refused (record { rule = told; at = at }) → told ≡ rule → IsFirstInText text rule at → IsRightFault text fault
right_fault text rule told at fault e f h = subst (IsRightFault text) (sym e) (subst (λ r. IsFirstInText text r at) (sym f) h)
