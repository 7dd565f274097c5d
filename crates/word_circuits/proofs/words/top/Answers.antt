use Rattle.std.proofs.Common.{◌≡◌, sym, ◌∙◌, ap, List, [], ◌∷◌, ◌++◌, refl}
use Rattle.clause_core.specs.declared.literal.Lit.{Lit}
use Rattle.word_circuits.specs.Words.{top_of}
use Rattle.word_circuits.proofs.words.top.Goals as goal

top_of-push : (low : List Lit) (top : Lit) → top_of (low ++ top ∷ []) ≡ top
top_of-push [] top = refl
top_of-push (l ∷ []) top = refl
top_of-push (l ∷ m ∷ ls) top = top_of-push (m ∷ ls) top

pub returns-in-Some : goal.returns-in-Some
returns-in-Some c = sym (ap top_of c.in-Some.ensures.cases.0 ∙ top_of-push c.in-Some.field-0-1.now c.in-Some.top.now)
