use Rattle.std.proofs.Common.{◌≡◌, ◌∷◌, ◌++◌, [], sym, ◌∙◌, ap}
use Rattle.clause_core.specs.Steps.{follow_hints}
use Rattle.clause_core.specs.declared.check.Outcome.TheVariants.{Accepted, NoConflict}
use Rattle.cdcl_core.proofs.Following.{follow_hints-append}
use Rattle.cdcl_core.proofs.acceptance.last_decides.Goals as goal

pub returns-in-Accepted : goal.returns-in-Accepted
returns-in-Accepted c = λ _.
    let held = c.args.held.now in
    let vs = c.args.values.now in
    let front = c.in-Some.front.now in
    let last = c.in-Some.last.now in
    let whole : c.args.hints.now ≡ front ++ last ∷ [] = c.in-Some.ensures.cases.0 in
    let no : follow_hints held vs front ≡ NoConflict = sym c.follow_hints.ensures.outcome ∙ c.in-NoConflict.is in
    let yes : follow_hints held c.follow_hints.new.values (last ∷ []) ≡ Accepted = sym c.follow_hints-in-NoConflict.ensures.outcome ∙ c.in-Accepted.is in
    record {
      accepted = ap (follow_hints held vs) whole ∙ follow_hints-append held front (last ∷ []) vs no ∙ ap (λ z. follow_hints held z (last ∷ [])) (sym c.follow_hints.ensures.after) ∙ yes;
      last = (front, last, whole, no);
    }
