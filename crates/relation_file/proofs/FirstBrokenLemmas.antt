-- The first rules that lines break, line by line.
use Rattle.std.proofs.Common.{◌≡◌, ℕ, List, [], ◌∷◌, ◌++◌, Option, Some, None, inl, inr, sym, ap, subst, ◌∙◌, append_assoc, append-nil}
use Rattle.std.specs.Prelude.{IfSome, IfNone}
use Rattle.std.specs.Option.{option_or}
use Rattle.rules.specs.declared.rule.Refusal.{Refusal}
use Rattle.rules.specs.Rules.{earlier, first_in}
use Rattle.rules.proofs.Refusals.{earlier-none, none_is_left, first_in-IsFirst}
use Rattle.program_tree.specs.Tree.{ProgramData}
use Rattle.relation_lines.specs.Lines.{LineData}
use Rattle.relation_file.specs.declared.broken.FirstBroken.{FirstBroken}
use Rattle.relation_file.specs.Broken.{broken_line, broken_behind, broken_lines, broken_content, broken_clauses}
use Rattle.relation_file.specs.FirstBroken.{IsFirstBroken}
use Rattle.relation_file.specs.Seen.{Recalls}
use Rattle.relation_file.specs.Stated.{IsFirstOf}
use Rattle.relation_file.proofs.Steps.{before_rest}

if_none : {Q : Type 0} (r : Option Refusal) → Q → IfNone r Q
if_none None q = q
if_none (Some x) q = tt

module _ (old new : ProgramData) (end : ℕ) (ls : List LineData) where
  -- one more line
  pub one_more_broken : (l : LineData) (k m : FirstBroken) (w : IsFirstBroken old new end ls k)
      → m.on_lines ≡ earlier k.on_lines (first_in (broken_line old new w.before l)) → Recalls m.seen (l ∷ w.before)
      → m.on_types ≡ earlier k.on_types (first_in (broken_content old new l.content)) → IsFirstBroken old new end (ls ++ l ∷ []) m
  one_more_broken l k m w of_line recalled of_types = record {
    before = l ∷ w.before;
    recalled = recalled;
    on_lines = λ rest.
        before_rest k.on_lines m.on_lines _ (broken_line old new w.before l) (broken_behind old new end (l ∷ w.before) rest) of_line (w.on_lines (l ∷ rest))
        ∙ ap (λ (all : List LineData). first_in (broken_lines old new end all)) (sym (append_assoc ls (l ∷ []) rest));
    on_types = λ rest.
        before_rest k.on_types m.on_types _ (broken_content old new l.content) (broken_clauses old new rest) of_types (w.on_types (l ∷ rest))
        ∙ ap (λ (all : List LineData). first_in (broken_clauses old new all)) (sym (append_assoc ls (l ∷ []) rest));
  }

  -- the first of all lines
  pub first_on_lines : (k : FirstBroken) (w : IsFirstBroken old new end ls k) → earlier k.on_lines (first_in (broken_behind old new end w.before [])) ≡ first_in (broken_lines old new end ls)
  first_on_lines k w = w.on_lines [] ∙ ap (λ (all : List LineData). first_in (broken_lines old new end all)) (append-nil ls)

  pub first_on_types : (k : FirstBroken) → IsFirstBroken old new end ls k → k.on_types ≡ first_in (broken_clauses old new ls)
  first_on_types k w = sym (earlier-none k.on_types) ∙ w.on_types [] ∙ ap (λ (all : List LineData). first_in (broken_clauses old new all)) (append-nil ls)

  -- the first of one pass, or else that of the next
  pub first_some : (r a b : Option Refusal) → r ≡ option_or a b → a ≡ first_in (broken_lines old new end ls) → b ≡ first_in (broken_clauses old new ls) → IfSome r (IsFirstOf old new end ls)
  first_some r (Some x) b e f g = subst (λ (o : Option Refusal). IfSome o (IsFirstOf old new end ls)) (sym e) (inl (first_in-IsFirst (broken_lines old new end ls) x (sym f)))
  first_some r None (Some y) e f g =
      subst (λ (o : Option Refusal). IfSome o (IsFirstOf old new end ls)) (sym e) (inr (none_is_left (broken_lines old new end ls) (sym f), first_in-IsFirst (broken_clauses old new ls) y (sym g)))
  first_some r None None e f g = subst (λ (o : Option Refusal). IfSome o (IsFirstOf old new end ls)) (sym e) tt

  pub none_on_lines : (r a b : Option Refusal) → r ≡ option_or a b → a ≡ first_in (broken_lines old new end ls) → IfNone r (broken_lines old new end ls ≡ [])
  none_on_lines r (Some x) b e f = subst (λ (o : Option Refusal). IfNone o (broken_lines old new end ls ≡ [])) (sym e) tt
  none_on_lines r None b e f = if_none r (none_is_left (broken_lines old new end ls) (sym f))

  pub none_on_types : (r a b : Option Refusal) → r ≡ option_or a b → b ≡ first_in (broken_clauses old new ls) → IfNone r (broken_clauses old new ls ≡ [])
  none_on_types r (Some x) b e g = subst (λ (o : Option Refusal). IfNone o (broken_clauses old new ls ≡ [])) (sym e) tt
  none_on_types r None (Some y) e g = subst (λ (o : Option Refusal). IfNone o (broken_clauses old new ls ≡ [])) (sym e) tt
  none_on_types r None None e g = if_none r (none_is_left (broken_clauses old new ls) (sym g))
