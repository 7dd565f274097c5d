use Rattle.std.proofs.Common.{subst, sym}
use Rattle.program_tree.specs.View.{program_view}
use Rattle.flat_core.specs.FlatTree.{FlatData}
use Rattle.flat_form.specs.FlatLaws.{LeavesTheSame}
use Rattle.node_core.specs.TypedFlats.{IsTypedFlat}
use Rattle.fb_inline.proofs.TypedForms.{form-typed, form-leaves}
use Rattle.fb_inline.proofs.program.flatten.Goals as goal

pub returns-clause-typed : goal.returns-clause-typed
returns-clause-typed c =
    let p = program_view c.args.program.now in
    subst (λ (f : FlatData). IsTypedFlat f) (sym c.in_ok-flat.ensures) (form-typed p c.requires.fit c.requires.typed)

pub returns-clause-meaning : goal.returns-clause-meaning
returns-clause-meaning c =
    let p = program_view c.args.program.now in
    subst (λ (f : FlatData). LeavesTheSame p f) (sym c.in_ok-flat.ensures) (form-leaves p c.requires.fit c.requires.typed)
