-- Three texts state one comparison, or one rule or limit is the first that is broken, the place of G1 apart.
use Rattle.std.proofs.Common.{◌≡◌, ℕ, List, length, true, false, true≢false, sym, ap, ◌∙◌, subst, arith, inl}
use Rattle.rules.specs.declared.rule.Refusal.{Refusal}
use Rattle.rules.specs.Rules.{IsSame}
use Rattle.program_tree.specs.Tree.{ProgramData}
use Rattle.scan_model.specs.Pairs.{RelationData}
use Rattle.queries.specs.Comparisons.{Comparison}
use Rattle.flat_form.specs.FlatPrograms.{flat_program, is_short}
use Rattle.node_end.specs.FlatTexts.{HasNoFlatForm, by_program, by_size}
use Rattle.node_core.specs.Scans.{is_small}
use Rattle.node_end.specs.NodeTexts.{HasManyNodes}
use Rattle.product_build.specs.Limits.{HasFewGates, HasManyGates, in_product, in_breaks}
use Rattle.command_files.specs.front_end.Texts.{StatesProgram}
use Rattle.command_files.proofs.front_end.OneReading.{same_tokens, no_tokens_too, one_no_tokens}
use Rattle.command_files.proofs.front_end.OneProgram.{one_program, no_program_too, one_refusal}
use Rattle.relation_file.proofs.OneRelation.{relation_once, no_small_relation_too, small_refused_once}
use Rattle.command_answers.specs.declared.source.Source.{Source}
use Rattle.rules.specs.declared.rule.Rule.{Rule}
use Rattle.command_files.specs.Texts.{Texts}
use Rattle.comparison_files.specs.Accepting.{nodes_of, StatesSmallProgram, StatesSmallRelation, StatesNoSmallRelation, by_tokens, by_lines, AreStated, AreAccepted, IsRefused, old_refused, new_refused, rel_refused, IsTooLarge, old_nodes, new_nodes, gates}

-- ---- one program

program_once : (text : List ℕ) (p q : ProgramData) → StatesSmallProgram text p → StatesSmallProgram text q → p ≡ q
program_once text p q h k = one_program text p q h.is k.is

-- what is short is not long
not_long : (p q : ProgramData) → p ≡ q → is_short p ≡ true → is_short q ≡ false → ⊥
not_long p q e short long = true≢false (sym short ∙ ap is_short e ∙ long)

no_flat_too : (text : List ℕ) (p : ProgramData) (r : Refusal) → StatesProgram text p → is_short p ≡ true → HasNoFlatForm text r → ⊥
no_flat_too text p r is short (by_program none) = no_program_too text p r is none
no_flat_too text p r is short (by_size q k long e) = not_long p q (one_program text p q is k) short long

no_nodes_too : (text : List ℕ) (p : ProgramData) → StatesSmallProgram text p → HasManyNodes text → ⊥
no_nodes_too text p h k = true≢false (sym h.small ∙ ap (λ x. is_small (flat_program x)) (one_program text p k.program h.is k.is) ∙ k.many)

no_flat_once : (text : List ℕ) (r s : Refusal) → HasNoFlatForm text r → HasNoFlatForm text s → IsSame r s
no_flat_once text r s (by_program h) (by_program k) = one_refusal text r s h k
no_flat_once text r s (by_program h) (by_size p k long e) = absurd (no_program_too text p r k h)
no_flat_once text r s (by_size p h long e) (by_program k) = absurd (no_program_too text p s h k)
no_flat_once text r s (by_size p h long e) (by_size q k more d) = inl (e ∙ sym d)

-- ---- one relation

small_once : (old new : ProgramData) (text : List ℕ) (x y : RelationData) → StatesSmallRelation old new text x → StatesSmallRelation old new text y → x ≡ y
small_once old new text x y h k = relation_once old new (length text) h.toks k.toks (same_tokens text h.toks k.toks h.tokens k.tokens) x y h.is k.is

no_small_too : (old new : ProgramData) (text : List ℕ) (x : RelationData) (r : Refusal) → StatesSmallRelation old new text x → StatesNoSmallRelation old new text r → ⊥
no_small_too old new text x r h (by_tokens none) = no_tokens_too text h.toks r h.tokens none
no_small_too old new text x r h (by_lines us k none) = no_small_relation_too old new (length text) h.toks us (same_tokens text h.toks us h.tokens k) x r h.is h.few none

no_small_once : (old new : ProgramData) (text : List ℕ) (r s : Refusal) → StatesNoSmallRelation old new text r → StatesNoSmallRelation old new text s → IsSame r s
no_small_once old new text r s (by_tokens h) (by_tokens k) = inl (one_no_tokens text r s h k)
no_small_once old new text r s (by_tokens h) (by_lines us k none) = absurd (no_tokens_too text us r k h)
no_small_once old new text r s (by_lines ts h none) (by_tokens k) = absurd (no_tokens_too text ts s h k)
no_small_once old new text r s (by_lines ts h none) (by_lines us k other) = small_refused_once old new (length text) ts us (same_tokens text ts us h k) r s none other

-- ---- one comparison

-- a fact of two programs at the same ones
moved : (P : ProgramData → ProgramData → Type 0) (o o' n n' : ProgramData) → o ≡ o' → n ≡ n' → P o n → P o' n'
moved P o o' n n' e f h = subst (λ x. P o' x) f (subst (λ x. P x n) e h)

abbrev RelStated : Texts → RelationData → ProgramData → ProgramData → Type 0
RelStated t l o n = StatesSmallRelation o n t.rel l

abbrev RelBroken : Texts → Refusal → ProgramData → ProgramData → Type 0
RelBroken t r o n = StatesNoSmallRelation o n t.rel r

pub stated_once : (t : Texts) (c d : Comparison) → AreStated t c → AreStated t d → c ≡ d
stated_once t c d h k =
    let old = program_once t.old c.old d.old h.old_is k.old_is in
    let new = program_once t.new c.new d.new h.new_is k.new_is in
    let rel = small_once d.old d.new t.rel c.relation d.relation (moved (RelStated t c.relation) c.old d.old c.new d.new old new h.rel_is) k.rel_is in
    (λ i. record { old = old i; new = new i; relation = rel i })

-- few gates are not too many
not_many : (c d : Comparison) → c ≡ d → HasFewGates c (nodes_of c.old) (nodes_of c.new) → HasManyGates d (nodes_of d.old) (nodes_of d.new) → ⊥
not_many c d e few many = few_or_many (subst (λ x. HasFewGates x (nodes_of x.old) (nodes_of x.new)) e few) many
  where
    few_or_many : HasFewGates d (nodes_of d.old) (nodes_of d.new) → HasManyGates d (nodes_of d.old) (nodes_of d.new) → ⊥
    few_or_many h (in_product more) = omega (arith, h.product, more)
    few_or_many h (in_breaks more) = omega (arith, h.breaks, more)

-- ---- never two answers

rel_apart : (t : Texts) (o o' n n' : ProgramData) (l : RelationData) (r : Refusal) → StatesSmallProgram t.old o → StatesSmallProgram t.old o' → StatesSmallProgram t.new n → StatesSmallProgram t.new n'
    → RelStated t l o n → RelBroken t r o' n' → ⊥
rel_apart t o o' n n' l r a b c d h k =
    no_small_too o' n' t.rel l r (moved (RelStated t l) o o' n n' (program_once t.old o o' a b) (program_once t.new n n' c d) h) k

pub refused_too : (t : Texts) (c : Comparison) (file : Source) (r : Refusal) → AreStated t c → IsRefused t file r → ⊥
refused_too t c file r h (old_refused b e) = no_flat_too t.old c.old r h.old_is.is h.old_is.short b
refused_too t c file r h (new_refused o a b e) = no_flat_too t.new c.new r h.new_is.is h.new_is.short b
refused_too t c file r h (rel_refused o n a a' b e) = rel_apart t c.old o c.new n c.relation r h.old_is a h.new_is a' h.rel_is b

pub too_large_too : (t : Texts) (c : Comparison) (file : Source) (l : Rule) → AreAccepted t c → IsTooLarge t file l → ⊥
too_large_too t c file l h (old_nodes b e d) = no_nodes_too t.old c.old h.stated.old_is b
too_large_too t c file l h (new_nodes o a b e d) = no_nodes_too t.new c.new h.stated.new_is b
too_large_too t c file l h (gates d a b e f) = not_many c d (stated_once t c d h.stated a) h.gates b

pub never_both : (t : Texts) (f g : Source) (r : Refusal) (l : Rule) → IsRefused t f r → IsTooLarge t g l → ⊥
never_both t f g r l (old_refused b e) (old_nodes k d h) = no_flat_too t.old k.program r k.is k.short b
never_both t f g r l (old_refused b e) (new_nodes o a k d h) = no_flat_too t.old o r a.is a.short b
never_both t f g r l (old_refused b e) (gates c a k d h) = refused_too t c f r a (old_refused b e)
never_both t f g r l (new_refused o a b e) (old_nodes k d h) = no_nodes_too t.old o a k
never_both t f g r l (new_refused o a b e) (new_nodes o' a' k d h) = no_flat_too t.new k.program r k.is k.short b
never_both t f g r l (new_refused o a b e) (gates c a' k d h) = refused_too t c f r a' (new_refused o a b e)
never_both t f g r l (rel_refused o n a a' b e) (old_nodes k d h) = no_nodes_too t.old o a k
never_both t f g r l (rel_refused o n a a' b e) (new_nodes o' a'' k d h) = no_nodes_too t.new n a' k
never_both t f g r l (rel_refused o n a a' b e) (gates c a'' k d h) = refused_too t c f r a'' (rel_refused o n a a' b e)

pub refused_once : (t : Texts) (f g : Source) (r s : Refusal) → IsRefused t f r → IsRefused t g s → (f ≡ g) × IsSame r s
refused_once t f g r s (old_refused b e) (old_refused b' e') = (e ∙ sym e', no_flat_once t.old r s b b')
refused_once t f g r s (old_refused b e) (new_refused o a b' e') = absurd (no_flat_too t.old o r a.is a.short b)
refused_once t f g r s (old_refused b e) (rel_refused o n a a' b' e') = absurd (no_flat_too t.old o r a.is a.short b)
refused_once t f g r s (new_refused o a b e) (old_refused b' e') = absurd (no_flat_too t.old o s a.is a.short b')
refused_once t f g r s (new_refused o a b e) (new_refused o' a' b' e') = (e ∙ sym e', no_flat_once t.new r s b b')
refused_once t f g r s (new_refused o a b e) (rel_refused o' n' k k' b' e') = absurd (no_flat_too t.new n' r k'.is k'.short b)
refused_once t f g r s (rel_refused o n a a' b e) (old_refused b' e') = absurd (no_flat_too t.old o s a.is a.short b')
refused_once t f g r s (rel_refused o n a a' b e) (new_refused o' k b' e') = absurd (no_flat_too t.new n s a'.is a'.short b')
refused_once t f g r s (rel_refused o n a a' b e) (rel_refused o' n' k k' b' e') =
    (e ∙ sym e', no_small_once o' n' t.rel r s (moved (RelBroken t r) o o' n n' (program_once t.old o o' a k) (program_once t.new n n' a' k') b) b')

pub too_large_once : (t : Texts) (f g : Source) (l m : Rule) → IsTooLarge t f l → IsTooLarge t g m → (f ≡ g) × (l ≡ m)
too_large_once t f g l m (old_nodes k e d) (old_nodes k' e' d') = (e ∙ sym e', d ∙ sym d')
too_large_once t f g l m (old_nodes k e d) (new_nodes o a k' e' d') = absurd (no_nodes_too t.old o a k)
too_large_once t f g l m (old_nodes k e d) (gates c a k' e' d') = absurd (no_nodes_too t.old c.old a.old_is k)
too_large_once t f g l m (new_nodes o a k e d) (old_nodes k' e' d') = absurd (no_nodes_too t.old o a k')
too_large_once t f g l m (new_nodes o a k e d) (new_nodes o' a' k' e' d') = (e ∙ sym e', d ∙ sym d')
too_large_once t f g l m (new_nodes o a k e d) (gates c a' k' e' d') = absurd (no_nodes_too t.new c.new a'.new_is k)
too_large_once t f g l m (gates c a k e d) (old_nodes k' e' d') = absurd (no_nodes_too t.old c.old a.old_is k')
too_large_once t f g l m (gates c a k e d) (new_nodes o a' k' e' d') = absurd (no_nodes_too t.new c.new a.new_is k')
too_large_once t f g l m (gates c a k e d) (gates c' a' k' e' d') = (e ∙ sym e', d ∙ sym d')
