use Rattle.relation_file.proofs.read.relation_in.Goals as goal

pub returns-in-Some-clause-refused : goal.returns-in-Some-clause-refused
returns-in-Some-clause-refused c = λ ls w. c.in-Some.ensures.some ls w.broken

pub returns-clause-sound : goal.returns-clause-sound
returns-clause-sound c = λ ls w. c.in_default.ensures.sound ls w.broken

pub returns-clause-typing : goal.returns-clause-typing
returns-clause-typing c = λ ls w. c.in_default.ensures.typing ls w.broken

pub returns-clause-stated : goal.returns-clause-stated
returns-clause-stated c = λ ls w. c.in_ok-relation.ensures ls w.gathered
