use Rattle.std.proofs.Common.{◌≡◌, true, sym, subst, ◌∙◌}
use Rattle.program_tree.specs.View.{program_view}
use Rattle.scan_model.specs.Pairs.{Pair, IsPairInRange, fits_lines, loaded}
use Rattle.scan_model.proofs.Keeping.{IsPairInRange-loaded}
use Rattle.scan_replay.specs.States.{pair_of}
use Rattle.scan_replay.proofs.DuoLemmas.{equally_long}
use Rattle.scan_replay.proofs.duo.Duo.allowed.Goals as goal

pub copy_both-requires-clause-old : goal.copy_both-requires-clause-old
copy_both-requires-clause-old c = rw c.deref-2.ensures.value (equally_long _ _ _ c.self.invariant.2.0 c.self.invariant.1.0)

pub copy_both-requires-clause-new : goal.copy_both-requires-clause-new
copy_both-requires-clause-new c = rw c.deref-3.ensures.value (equally_long _ _ _ c.self.invariant.2.1 c.self.invariant.1.1)

pub invariant_of-self : goal.invariant_of-self
invariant_of-self c =
    let old = program_view c.self.inside.old_program.now in
    let new = program_view c.self.inside.new_program.now in
    let lines = c.self.inside.relation.now.inputs.items in
    let fits : fits_lines lines c.args.row.now ≡ true = rw c.deref.ensures.value at (sym c.fits_lines.ensures ∙ c.if-not-fits_lines.false) in
    let copied : pair_of c.copy_both.new.states ≡ pair_of c.self.inside.states = rw (c.copy_both.ensures.old, c.copy_both.ensures.new, c.deref-2.ensures.value, c.deref-3.ensures.value) in
    let is : pair_of c.load.new.states ≡ loaded lines c.args.row.now (pair_of c.self.inside.states) = rw (c.load.ensures, c.deref-4.ensures.value, copied) in
    let kept = IsPairInRange-loaded old new lines c.args.row.now (pair_of c.self.inside.states) c.self.invariant.0.belongs fits c.self.invariant.1 in
    (c.self.invariant.0, c.self.invariant.1, subst (λ (p : Pair). IsPairInRange old new p) (sym is) kept, c.self.invariant.3, c.self.invariant.4, c.self.invariant.5, c.self.invariant.6)
