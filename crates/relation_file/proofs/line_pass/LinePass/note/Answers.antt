use Rattle.relation_file.proofs.line_pass.LinePass.note.Goals as goal

pub returns : goal.returns
returns c = λ end ls w. record { broken = c.in_ok-note.ensures end ls w.broken; gathered = c.in_ok-note-2.ensures ls w.gathered }
