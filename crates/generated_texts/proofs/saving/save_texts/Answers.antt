use Rattle.generated_texts.specs.Files.{HoldTexts, HoldsText}
use Rattle.generated_texts.specs.Names.{relation_name}
use Rattle.generated_texts.specs.Texts.{relation_text}
use Rattle.generated_texts.proofs.ThreeTexts.{after_one, after_two, after_three, all_hold, on_ok}
use Rattle.generated_texts.proofs.saving.save_texts.Goals as goal

pub returns-in_err-save_text-clause-leave : goal.returns-in_err-save_text-clause-leave
returns-in_err-save_text-clause-leave g c =
    let first = (g.S.Shelf.state c.args.shelf.now).file in
    let one = (g.S.Shelf.state c.save_text.new.shelf).file in
    after_one c.args.count first one one one
    (rw (c.as_str.ensures.value, c.requires.names.old, c.deref.ensures.value, c.requires.texts.old) at c.save_text.ensures.leaves)
    (rw (c.as_str.ensures.value, c.requires.names.old) at c.save_text.ensures.others)

pub returns-in_err-save_text-2-clause-leave : goal.returns-in_err-save_text-2-clause-leave
returns-in_err-save_text-2-clause-leave g c =
    let first = (g.S.Shelf.state c.args.shelf.now).file in
    let one = (g.S.Shelf.state c.save_text.new.shelf).file in
    let two = (g.S.Shelf.state c.save_text-2.new.shelf).file in
    after_two c.args.count first one two two
    (rw (c.as_str.ensures.value, c.requires.names.old, c.deref.ensures.value, c.requires.texts.old) at c.in_ok-save_text.ensures.holds)
    (rw (c.as_str.ensures.value, c.requires.names.old) at c.save_text.ensures.others)
    (rw (c.as_str-2.ensures.value, c.requires.names.new, c.deref-2.ensures.value, c.requires.texts.new) at c.save_text-2.ensures.leaves)
    (rw (c.as_str-2.ensures.value, c.requires.names.new) at c.save_text-2.ensures.others)

pub returns-clause-leave : goal.returns-clause-leave
returns-clause-leave g c =
    let first = (g.S.Shelf.state c.args.shelf.now).file in
    let one = (g.S.Shelf.state c.save_text.new.shelf).file in
    let two = (g.S.Shelf.state c.save_text-2.new.shelf).file in
    let three = (g.S.Shelf.state c.save_text-3.new.shelf).file in
    after_three c.args.count first one two three
    (rw (c.as_str.ensures.value, c.requires.names.old, c.deref.ensures.value, c.requires.texts.old) at c.in_ok-save_text.ensures.holds)
    (rw (c.as_str.ensures.value, c.requires.names.old) at c.save_text.ensures.others)
    (rw (c.as_str-2.ensures.value, c.requires.names.new, c.deref-2.ensures.value, c.requires.texts.new) at c.in_ok-save_text-2.ensures.holds)
    (rw (c.as_str-2.ensures.value, c.requires.names.new) at c.save_text-2.ensures.others)
    (rw (c.as_str-3.ensures.value, c.requires.names.relation, c.deref-3.ensures.value, c.requires.texts.relation) at c.save_text-3.ensures.leaves)
    (rw (c.as_str-3.ensures.value, c.requires.names.relation) at c.save_text-3.ensures.others)

pub returns-clause-hold : goal.returns-clause-hold
returns-clause-hold g c =
    let first = (g.S.Shelf.state c.args.shelf.now).file in
    let one = (g.S.Shelf.state c.save_text.new.shelf).file in
    let two = (g.S.Shelf.state c.save_text-2.new.shelf).file in
    let three = (g.S.Shelf.state c.save_text-3.new.shelf).file in
    on_ok c.save_text-3.result (HoldsText (three (relation_name c.args.count)) (relation_text c.args.count)) (HoldTexts c.args.count three)
    (all_hold c.args.count first one two three
    (rw (c.as_str.ensures.value, c.requires.names.old, c.deref.ensures.value, c.requires.texts.old) at c.in_ok-save_text.ensures.holds)
    (rw (c.as_str.ensures.value, c.requires.names.old) at c.save_text.ensures.others)
    (rw (c.as_str-2.ensures.value, c.requires.names.new, c.deref-2.ensures.value, c.requires.texts.new) at c.in_ok-save_text-2.ensures.holds)
    (rw (c.as_str-2.ensures.value, c.requires.names.new) at c.save_text-2.ensures.others)
    (rw (c.as_str-3.ensures.value, c.requires.names.relation) at c.save_text-3.ensures.others))
    (rw (c.as_str-3.ensures.value, c.requires.names.relation, c.deref-3.ensures.value, c.requires.texts.relation) at c.save_text-3.ensures.holds)
