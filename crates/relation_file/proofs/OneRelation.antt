-- Tokens that spell the same state one relation, or break one rule first.
use Rattle.std.proofs.Common.{◌≡◌, ℕ, true, false, List, [], sym, ap, ◌∙◌, subst, inl, inr}
use Rattle.source_tree.specs.declared.token.Tok.{Tok}
use Rattle.rules.specs.declared.rule.Refusal.{Refusal}
use Rattle.rules.specs.Rules.{IsAmong, IsFirst, IsSame}
use Rattle.program_tree.specs.Tree.{ProgramData}
use Rattle.rules.proofs.FirstOnce.{first_once}
use Rattle.grammar.specs.Same.{AreSameTokens}
use Rattle.token_rules.proofs.SameTokens.{same_symbols, sound_or_broken, one_first_fault}
use Rattle.scan_model.specs.Pairs.{RelationData}
use Rattle.relation_lines.specs.Lines.{LineData}
use Rattle.relation_lines.specs.Whole.{AreLines, IsLinesRefusal}
use Rattle.relation_lines.proofs.Whole.{one_lines}
use Rattle.relation_file.specs.Broken.{broken_lines, broken_clauses}
use Rattle.relation_file.specs.Relations.{relation_of}
use Rattle.relation_file.specs.Stated.{IsRelation, IsNoRelation, by_grammar, by_lines, by_types, has_few_candidates, IsNoSmallRelation, by_relation, by_count}

abbrev FirstIn : List Refusal → Refusal → Type 0
FirstIn broken r = IsFirst (λ x. IsAmong x broken) r

-- nothing is the first of none
none_first : (broken : List Refusal) (r : Refusal) → broken ≡ [] → FirstIn broken r → ⊥
none_first broken r e h = subst (IsAmong r) e h.is_broken

-- one first of one list
one_first : (xs ys : List Refusal) (r s : Refusal) → xs ≡ ys → FirstIn xs r → FirstIn ys s → IsSame r s
one_first xs ys r s e h k = inl (first_once (λ x. IsAmong x ys) r s (subst (λ zs. FirstIn zs r) e h) k)

-- ---- lines

lines_once : (ts us : List Tok) (ls ms : List LineData) → AreSameTokens ts us → AreLines ts ls → AreLines us ms → ls ≡ ms
lines_once ts us ls ms e h k = one_lines ls ms h.levelled k.levelled (sym h.printed ∙ same_symbols ts us e ∙ k.printed)

no_lines_too : (ts us : List Tok) (ls : List LineData) (r : Refusal) → AreSameTokens ts us → AreLines ts ls → IsLinesRefusal us r → ⊥
no_lines_too ts us ls r e h (inl first) = sound_or_broken ts us r e h.sound first
no_lines_too ts us ls r e h (inr none) = none.none ls h.levelled (sym (same_symbols ts us e) ∙ h.printed)

one_lines_refusal : (ts us : List Tok) (r s : Refusal) → AreSameTokens ts us → IsLinesRefusal ts r → IsLinesRefusal us s → IsSame r s
one_lines_refusal ts us r s e (inl first) (inl other) = inl (one_first_fault ts us r s e first other)
one_lines_refusal ts us r s e (inl first) (inr none) = absurd (sound_or_broken us ts r (sym e) none.sound first)
one_lines_refusal ts us r s e (inr none) (inl first) = absurd (sound_or_broken ts us s e none.sound first)
one_lines_refusal ts us r s e (inr none) (inr other) = inr (none.rule, other.rule)

-- ---- relations

module _ (old new : ProgramData) (end : ℕ) (ts us : List Tok) (e : AreSameTokens ts us) where
  -- what the same lines break
  lines_of : (ls ms : List LineData) → AreLines ts ls → AreLines us ms → broken_lines old new end ls ≡ broken_lines old new end ms
  lines_of ls ms h k = ap (broken_lines old new end) (lines_once ts us ls ms e h k)

  clauses_of : (ls ms : List LineData) → AreLines ts ls → AreLines us ms → broken_clauses old new ls ≡ broken_clauses old new ms
  clauses_of ls ms h k = ap (broken_clauses old new) (lines_once ts us ls ms e h k)

  pub relation_once : (x y : RelationData) → IsRelation old new end ts x → IsRelation old new end us y → x ≡ y
  relation_once x y h k = h.stated ∙ ap (relation_of old new) (lines_once ts us h.lines k.lines e h.read k.read) ∙ sym k.stated

  pub no_relation_too : (x : RelationData) (r : Refusal) → IsRelation old new end ts x → IsNoRelation old new end us r → ⊥
  no_relation_too x r h (by_grammar none) = no_lines_too ts us h.lines r e h.read none
  no_relation_too x r h (by_lines ms k first) = none_first (broken_lines old new end ms) r (sym (lines_of h.lines ms h.read k) ∙ h.sound) first
  no_relation_too x r h (by_types ms k sound first) = none_first (broken_clauses old new ms) r (sym (clauses_of h.lines ms h.read k) ∙ h.typing) first

  pub relation_refused_once : (r s : Refusal) → IsNoRelation old new end ts r → IsNoRelation old new end us s → IsSame r s
  relation_refused_once r s (by_grammar h) (by_grammar k) = one_lines_refusal ts us r s e h k
  relation_refused_once r s (by_grammar h) (by_lines ms k other) = absurd (no_lines_too us ts ms r (sym e) k h)
  relation_refused_once r s (by_grammar h) (by_types ms k sound other) = absurd (no_lines_too us ts ms r (sym e) k h)
  relation_refused_once r s (by_lines ls h first) (by_grammar k) = absurd (no_lines_too ts us ls s e h k)
  relation_refused_once r s (by_lines ls h first) (by_lines ms k other) = one_first (broken_lines old new end ls) (broken_lines old new end ms) r s (lines_of ls ms h k) first other
  relation_refused_once r s (by_lines ls h first) (by_types ms k sound other) = absurd (none_first (broken_lines old new end ls) r (lines_of ls ms h k ∙ sound) first)
  relation_refused_once r s (by_types ls h sound first) (by_grammar k) = absurd (no_lines_too ts us ls s e h k)
  relation_refused_once r s (by_types ls h sound first) (by_lines ms k other) = absurd (none_first (broken_lines old new end ms) s (sym (lines_of ls ms h k) ∙ sound) other)
  relation_refused_once r s (by_types ls h sound first) (by_types ms k also other) = one_first (broken_clauses old new ls) (broken_clauses old new ms) r s (clauses_of ls ms h k) first other

-- ---- relations of few candidates

module _ (old new : ProgramData) (end : ℕ) (ts us : List Tok) (e : AreSameTokens ts us) where
  pub no_small_relation_too : (x : RelationData) (r : Refusal) → IsRelation old new end ts x → has_few_candidates x ≡ true → IsNoSmallRelation old new end us r → ⊥
  no_small_relation_too x r h few (by_relation none) = no_relation_too old new end ts us e x r h none
  no_small_relation_too x r h few (by_count y k many is) =
      let both : true ≡ false = sym few ∙ ap has_few_candidates (relation_once old new end ts us e x y h k) ∙ many in
      cc

  pub small_refused_once : (r s : Refusal) → IsNoSmallRelation old new end ts r → IsNoSmallRelation old new end us s → IsSame r s
  small_refused_once r s (by_relation h) (by_relation k) = relation_refused_once old new end ts us e r s h k
  small_refused_once r s (by_relation h) (by_count y k many is) = absurd (no_relation_too old new end us ts (sym e) y r k h)
  small_refused_once r s (by_count x h many is) (by_relation k) = absurd (no_relation_too old new end ts us e x s h k)
  small_refused_once r s (by_count x h many is) (by_count y k more also) = inl (is ∙ sym also)
