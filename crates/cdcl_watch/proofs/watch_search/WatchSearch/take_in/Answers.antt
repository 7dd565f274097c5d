use Rattle.std.proofs.Common.{◌≡◌, ◌++◌, ◌∷◌, [], length, refl, sym, ◌∙◌, ap, subst, arith}
use Rattle.clause_core.specs.Steps.{VariablesBelow}
use Rattle.cdcl_watch.proofs.Taken.{HasTaken-kept, taken-first, taken-few, taken-next, taken-all}
use Rattle.cdcl_watch.proofs.watch_search.WatchSearch.take_in.Goals as goal

pub loop-place-init : goal.loop-place-init
loop-place-init c =
    let t = c.requires.taken in
    record { leaves = taken-first c.args.self.now.propagator c.args.self.now.count t.0 t.1 c.args.held.now t.2 t.3; size = refl }

pub take-requires : goal.take-requires
take-requires c =
    let n = length c.args.self.now.propagator.values in
    let item = c.index-held-place.result in
    subst (λ m. VariablesBelow m c.literals.result.now) (sym c.loop-place.invariant.size)
    (subst (VariablesBelow n) (sym c.literals.ensures) (subst (VariablesBelow n) (sym c.index-held-place.is) (c.requires.within c.loop-place.place item (omega arith))))

pub loop-place-preserved : goal.loop-place-preserved
loop-place-preserved c =
    let i = c.loop-place in
    let item = c.index-held-place.result in
    let grown : c.take.new.self.propagator.held ≡ i.self.propagator.held ++ item ∷ [] = c.in_ok-added.ensures.held ∙ ap (λ z. i.self.propagator.held ++ z ∷ []) c.literals.ensures in
    record {
      leaves = taken-next i.self.propagator c.take.new.self.propagator c.args.held.now i.place item i.invariant.leaves grown (omega arith) c.index-held-place.is;
      size = c.take.ensures.size ∙ i.invariant.size;
    }

pub returns-clause-taken : goal.returns-clause-taken
returns-clause-taken c =
    let t = c.requires.taken in
    let few = taken-few c.args.self.now.propagator c.args.self.now.count t.0 t.1 c.args.held.now t.2 t.3 in
    HasTaken-kept c.loop-place.self.propagator c.leave.new.propagator _ c.args.held.now c.leave.ensures
    (taken-all c.loop-place.self.propagator c.args.held.now c.loop-place.place c.loop-place.invariant.leaves (omega (arith, few)))
