use Rattle.std.proofs.Common.{refl, arith}
use Rattle.outside.proofs.Places.{changed, changed_other, grown_on_ok, grown_on_err}
use Rattle.outside.proofs.files.add.Goals as goal

pub make-requires : goal.make-requires
make-requires c = rw c.deref.ensures.value at c.place-index.ensures.absent (omega arith)

pub returns-then-index-len-clause-ok : goal.returns-then-index-len-clause-ok
returns-then-index-len-clause-ok c =
    let at = rw c.deref.ensures.value at c.place-index.ensures.at in
    let is = changed c.args.files.now.items c.args.name.now c.index_mut.result.now (record { name = c.index_mut.result.now.name; bytes = c.extend_from_slice.new.self }) c.place-index.result at (omega arith) c.index_mut.ensures.value refl in
    grown_on_ok c.extend_from_slice.result _ _ _ _ _ is.0 is.1 c.extend_from_slice.ensures.items

pub returns-then-index-len-clause-err : goal.returns-then-index-len-clause-err
returns-then-index-len-clause-err c =
    let at = rw c.deref.ensures.value at c.place-index.ensures.at in
    let is = changed c.args.files.now.items c.args.name.now c.index_mut.result.now (record { name = c.index_mut.result.now.name; bytes = c.extend_from_slice.new.self }) c.place-index.result at (omega arith) c.index_mut.ensures.value refl in
    grown_on_err c.extend_from_slice.result _ _ _ _ _ is.0 is.1 c.extend_from_slice.ensures.items

pub returns-then-index-len-clause-others : goal.returns-then-index-len-clause-others
returns-then-index-len-clause-others c = λ other n.
    let at = rw c.deref.ensures.value at c.place-index.ensures.at in
    changed_other c.args.files.now.items c.args.name.now other c.index_mut.result.now _ c.place-index.result at (omega arith) c.index_mut.ensures.value refl n

pub returns-else-index-len-clause-ok : goal.returns-else-index-len-clause-ok
returns-else-index-len-clause-ok c =
    rw (rw c.deref.ensures.value at c.place-index.ensures.absent (omega arith)) c.make.ensures.ok
