use Rattle.std.proofs.Common.{◌≡◌, false, inl, inr, sym, ◌∙◌, refl}
use Rattle.decl_types.specs.Bodies.{file_in}
use Rattle.typing.specs.Pous.{broken_types, has_room}
use Rattle.rules.proofs.Refusals.{none_is_left, first_in-IsFirst}
use Rattle.st_types.proofs.judged_file.test_pous.Goals as goal

pub returns-in-Some-clause-refused : goal.returns-in-Some-clause-refused
returns-in-Some-clause-refused c =
    inl (first_in-IsFirst (broken_types (file_in c.args.pous.now.domains)) c.in-Some.refusal (sym c.in_ok-refusal.ensures ∙ c.in-Some.is))

pub returns-then-not-room-clause-refused : goal.returns-then-not-room-clause-refused
returns-then-not-room-clause-refused c =
    let f = file_in c.args.pous.now.domains in
    let full : has_room f c.args.number ≡ false = sym c.has_room-room.ensures ∙ c.if-not-room.true in
    inr (none_is_left (broken_types f) (sym c.in_ok-refusal.ensures ∙ c.in_default.is), full, refl)

pub returns-clause-kept : goal.returns-clause-kept
returns-clause-kept c = none_is_left (broken_types (file_in c.args.pous.now.domains)) (sym c.in_ok-refusal.ensures ∙ c.in_default.is)
