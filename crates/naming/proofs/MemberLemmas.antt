-- What the names behind an instance break, by what is known of the first.
use Rattle.std.proofs.Common.{◌≡◌, ℕ, List, ◌∷◌, Bool, true, false, sym, ap, ◌∙◌, if◌then◌else◌}
use Rattle.source_tree.specs.Syntax.{Named, FileData}
use Rattle.rules.specs.declared.outcome.Outcome.{Outcome}
use Rattle.naming.specs.Broken.{too_deep, in_member, in_members}
use Rattle.rules.specs.Judgements.{Judgement}
use Rattle.rules.specs.Outcomes.{outcome_of}
use Rattle.rules.proofs.Outcomes.{outcome_whole}

is_whole : (j : Judgement) (o : Outcome) (b : Bool) → o ≡ outcome_of j → o.whole ≡ b → j.whole ≡ b
is_whole j o b is whole = sym (outcome_whole j o is) ∙ whole

pub member_whole : (f : FileData) (block : ℕ) (first n : Named) (ns : List Named) (o : Outcome) → o ≡ outcome_of (in_member f block n) → o.whole ≡ true → too_deep ns ≡ in_members f block first (n ∷ ns)
member_whole f block first n ns o is whole = ap (λ b. if b then too_deep ns else in_member f block n) (sym (is_whole (in_member f block n) o true is whole))

pub member_broken : (f : FileData) (block : ℕ) (first n : Named) (ns : List Named) (o : Outcome) → o ≡ outcome_of (in_member f block n) → o.whole ≡ false → in_member f block n ≡ in_members f block first (n ∷ ns)
member_broken f block first n ns o is whole = ap (λ b. if b then too_deep ns else in_member f block n) (sym (is_whole (in_member f block n) o false is whole))
