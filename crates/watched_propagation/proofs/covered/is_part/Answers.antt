use Rattle.std.proofs.Common.{◌≡◌, ◌==◌, List, [], ◌∷◌, ℕ, length, refl, sym, ◌∙◌, arith, ⊎_elim}
use Rattle.std.proofs.lemmas.Bool.Decides.{eqb_tells}
use Rattle.std.proofs.lemmas.List.{at_drop_all}
use Rattle.watched_propagation.specs.Watching.{is_part}
use Rattle.watched_propagation.proofs.covered.is_part.Goals as goal

-- only nothing is a part of nothing
part-of-nothing : (rest : List ℕ) → is_part rest [] ≡ (length rest == 0)
part-of-nothing [] = refl
part-of-nothing (r ∷ rs) = ⊎_elim
    (λ is. absurd (let none : length (r ∷ rs) ≡ 0 = is.1 in omega arith))
    (λ isnt. sym isnt.0)
    (eqb_tells (length (r ∷ rs)) 0)

pub returns : goal.returns
returns c =
    let rest = c.loop-code.rest.now in
    c.is_empty.ensures ∙ sym (part-of-nothing rest) ∙ sym (at_drop_all (is_part rest) c.args.whole.now c.loop-code.code-index (omega arith)) ∙ c.loop-code.invariant
