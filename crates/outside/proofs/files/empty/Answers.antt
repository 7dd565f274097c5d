use Rattle.std.proofs.Common.{◌∙◌, refl, ap, Some, arith}
use Rattle.outside.proofs.Places.{changed, changed_other}
use Rattle.outside.proofs.files.empty.Goals as goal

pub make-requires : goal.make-requires
make-requires c = rw c.deref.ensures.value at c.place-index.ensures.absent (omega arith)

pub returns-then-index-len-clause-ok : goal.returns-then-index-len-clause-ok
returns-then-index-len-clause-ok c =
    let at = rw c.deref.ensures.value at c.place-index.ensures.at in
    (changed c.args.files.now.items c.args.name.now c.index_mut.result.now _ c.place-index.result at (omega arith) c.index_mut.ensures.value refl).0 ∙ ap Some c.clear.ensures.items

pub returns-then-index-len-clause-others : goal.returns-then-index-len-clause-others
returns-then-index-len-clause-others c = λ other n.
    let at = rw c.deref.ensures.value at c.place-index.ensures.at in
    changed_other c.args.files.now.items c.args.name.now other c.index_mut.result.now _ c.place-index.result at (omega arith) c.index_mut.ensures.value refl n
