use Rattle.std.proofs.Common.{◌≡◌, ◌+◌, ◌*◌, ◌<◌, ◌≤◌, ◌++◌, ◌∷◌, [], length, take, drop, sym, ◌∙◌, ap, subst, arith}
use Rattle.std.proofs.lemmas.Grind.{common_steps}
use Rattle.std.proofs.lemmas.List.{take_at, length-append}
use Rattle.clause_core.specs.declared.truth.Truth.TheVariants.{Open, True}
use Rattle.propagation_trail.specs.Codes.{truth, put}
use Rattle.propagation_trail.specs.Trails.{TrailState, IsConsistent, IsRising}
use Rattle.propagation_trail.proofs.Tables.{IsConsistent-push, IsRising-more}
use Rattle.propagation_trail.proofs.trail.Trail.assign.Goals as goal

pub invariant_of-self-2 : goal.invariant_of-self-2
invariant_of-self-2 c =
    let i = c.self.inside in
    let lits = i.literals.items in
    let code = c.args.code in
    let inv = c.self.invariant in
    let grown : c.push.new.self.items ≡ lits ++ code ∷ [] = c.in-Ok.ensures.items in
    let more : length c.push.new.self.items ≡ length lits + 1 = ap length grown ∙ length-append lits (code ∷ []) in
    let wrote : c.set_value.new.values ≡ put i.values.items code True = c.set_value.ensures.values ∙ ap (λ z. put z code True) c.as_mut_slice-2.ensures.value in
    let open_value : truth i.values.items code ≡ Open = subst (λ (t : TrailState). truth t.values code ≡ Open) (sym c.self.view_is) c.requires.open in
    let within = subst (λ (t : TrailState). code < 2 * length t.values) (sym c.self.view_is) c.requires.within in
    let one : take i.truths.len (c.set_value.new.truths ++ drop (length c.set_value.new.truths) i.truths.items) ≡ c.set_value.new.truths = take_at c.set_value.new.truths (drop (length c.set_value.new.truths) i.truths.items) i.truths.len (grind (arith, common_steps)) in
    let two : take i.values.len (c.set_value.new.values ++ drop (length c.set_value.new.values) i.values.items) ≡ c.set_value.new.values = take_at c.set_value.new.values (drop (length c.set_value.new.values) i.values.items) i.values.len (grind (arith, common_steps)) in
    rw (one, two) (record {
      tabled = c.set_value.ensures.tabled;
      consistent = subst (λ z. IsConsistent z c.set_value.new.values) (sym grown) (subst (IsConsistent (lits ++ code ∷ [])) (sym wrote) (IsConsistent-push lits i.values.items code inv.consistent open_value within));
      propagated = omega (arith, inv.propagated, more);
      rising = IsRising-more i.starts.items (length lits) (length c.push.new.self.items) (omega (arith, more)) inv.rising;
    })
