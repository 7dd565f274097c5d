use Rattle.std.proofs.Common.{◌≡◌, ◌∙◌, true, false, ap, sym, subst, ℕ, to_z, of_z, arith}
use Rattle.std.specs.Int.{w128}
use Rattle.std.proofs.lemmas.Int.{ints}
use Rattle.derivation_check.specs.Deletions.{may_delete, without}
use Rattle.finding_check.specs.Numbers.{short_hint}
use Rattle.finding_check.proofs.DeletionLemmas.{same_deletion, same_number}
use Rattle.finding_check.proofs.logs.delete_by.Goals as goal

pub returns-in-Ok-clause-may : goal.returns-in-Ok-clause-may
returns-in-Ok-clause-may c =
    let d = c.args.checker.now in
    let same : to_z w128 (of_z w128 c.args.id) ≡ c.args.id = omega (arith, ints) in
    let is : c.short_hint.result ≡ short_hint c.args.id = c.short_hint.ensures ∙ ap short_hint same in
    let may = subst (λ (n : ℕ). may_delete d n ≡ true) is c.in-Ok.ensures.deleted.0 in
    sym (sym (same_deletion d c.args.id c.requires) ∙ may)

pub returns-in-Ok-clause-left : goal.returns-in-Ok-clause-left
returns-in-Ok-clause-left c told =
    let d = c.args.checker.now in
    let same : to_z w128 (of_z w128 c.args.id) ≡ c.args.id = omega (arith, ints) in
    let is : c.short_hint.result ≡ short_hint c.args.id = c.short_hint.ensures ∙ ap short_hint same in
    let may = subst (λ (n : ℕ). may_delete d n ≡ true) is c.in-Ok.ensures.deleted.0 in
    c.in-Ok.ensures.deleted.1 ∙ ap (without d) (is ∙ same_number d c.args.id may)

pub returns-in-Err-clause-may : goal.returns-in-Err-clause-may
returns-in-Err-clause-may c =
    let d = c.args.checker.now in
    let same : to_z w128 (of_z w128 c.args.id) ≡ c.args.id = omega (arith, ints) in
    let is : c.short_hint.result ≡ short_hint c.args.id = c.short_hint.ensures ∙ ap short_hint same in
    let refused = subst (λ (n : ℕ). may_delete d n ≡ false) is c.in-Err.ensures.refused in
    sym (sym (same_deletion d c.args.id c.requires) ∙ refused)
