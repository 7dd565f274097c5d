use Rattle.finding_lines.proofs.ReadLemmas.{label-shut, some-left}
use Rattle.finding_lines.proofs.words.take_label.Goals as goal

pub returns-else-more-eq32 : goal.returns-else-more-eq32
returns-else-more-eq32 c =
    label-shut c.args.bytes.now c.args.label.now c.in_ok-more.more.now c.in_ok-more.ensures (some-left c.in_ok-more.more.now c.is_empty.result c.is_empty.ensures c.if-is_empty.false) c.if-more-eq32.false
