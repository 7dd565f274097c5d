use Rattle.relation_file.proofs.line_pass.LinePass.new.Goals as goal

pub returns : goal.returns
returns c = λ old new end. record { broken = c.new-broken.ensures old new end; gathered = c.new-gathered.ensures old new }
