use Rattle.std.proofs.Common.{◌≡◌, ◌∙◌, sym, ap, List, [], ◌∷◌, ◌++◌, refl}
use Rattle.clause_core.specs.declared.literal.Lit.{Lit}
use Rattle.clause_core.specs.Values.{negation}
use Rattle.word_circuits.specs.Comparisons.{flip_top}
use Rattle.word_circuits.proofs.comparisons.flipped.Goals as goal

flip_top-push : (low : List Lit) (top : Lit) → flip_top (low ++ top ∷ []) ≡ low ++ negation top ∷ []
flip_top-push [] top = refl
flip_top-push (l ∷ []) top = refl
flip_top-push (l ∷ m ∷ ls) top = ap (λ z. l ∷ z) (flip_top-push (m ∷ ls) top)

pub returns-clause-word : goal.returns-clause-word
returns-clause-word c =
    let low = c.in-Some.low.now in
    let top = c.in-Some.top.now in
    pushed low top c.args.word.now c.extend_from_slice.new.self.items c.new-flipped.result.items c.push.new.self.items c.negated.result
    c.in-Some.ensures.cases.0 c.in_ok-extend_from_slice.ensures.items c.new-flipped.ensures.items c.in_ok-push.ensures.items c.negated.ensures
  where
    pushed : (low : List Lit) (top : Lit) (word mid start out : List Lit) (t : Lit) → word ≡ low ++ top ∷ [] → mid ≡ start ++ low → start ≡ [] → out ≡ mid ++ t ∷ [] → t ≡ negation top → out ≡ flip_top word
    pushed low top word mid start out t w m s o n = rw (o, n, m, s, w) (sym (flip_top-push low top))
