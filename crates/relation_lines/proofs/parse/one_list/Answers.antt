use Rattle.relation_lines.proofs.Whole as whole
use Rattle.relation_lines.proofs.parse.one_list.Goals as goal

pub returns : goal.returns
returns c = whole.one_lines
