-- A text states one relation, or breaks one rule first, the place of G1 apart.
use Rattle.std.proofs.Common.{◌≡◌, ℕ, List, length, inl}
use Rattle.rules.specs.declared.rule.Refusal.{Refusal}
use Rattle.rules.specs.Rules.{IsSame}
use Rattle.program_tree.specs.Tree.{ProgramData}
use Rattle.scan_model.specs.Pairs.{RelationData}
use Rattle.front_end.proofs.OneReading.{same_tokens, no_tokens_too, one_no_tokens}
use Rattle.relation_file.proofs.OneRelation.{relation_once, no_relation_too, relation_refused_once}
use Rattle.command_files.specs.Stating.{StatesRelation, StatesNoRelation, by_tokens, by_lines}

pub states_once : (old new : ProgramData) (text : List ℕ) (x y : RelationData) → StatesRelation old new text x → StatesRelation old new text y → x ≡ y
states_once old new text x y h k = relation_once old new (length text) h.toks k.toks (same_tokens text h.toks k.toks h.tokens k.tokens) x y h.is k.is

pub not_stated_too : (old new : ProgramData) (text : List ℕ) (x : RelationData) (r : Refusal) → StatesRelation old new text x → StatesNoRelation old new text r → ⊥
not_stated_too old new text x r h (by_tokens none) = no_tokens_too text h.toks r h.tokens none
not_stated_too old new text x r h (by_lines us k none) = no_relation_too old new (length text) h.toks us (same_tokens text h.toks us h.tokens k) x r h.is none

pub not_stated_once : (old new : ProgramData) (text : List ℕ) (r s : Refusal) → StatesNoRelation old new text r → StatesNoRelation old new text s → IsSame r s
not_stated_once old new text r s (by_tokens h) (by_tokens k) = inl (one_no_tokens text r s h k)
not_stated_once old new text r s (by_tokens h) (by_lines us k none) = absurd (no_tokens_too text us r k h)
not_stated_once old new text r s (by_lines ts h none) (by_tokens k) = absurd (no_tokens_too text ts s h k)
not_stated_once old new text r s (by_lines ts h none) (by_lines us k other) = relation_refused_once old new (length text) ts us (same_tokens text ts us h k) r s none other
