use Rattle.command_answers.proofs.PutLemmas.{adds_part}
use Rattle.command_answers.proofs.put.put_text.Goals as goal

pub returns-clause-part : goal.returns-clause-part
returns-clause-part g c = adds_part c.put.result _ _ _ _ c.as_bytes.ensures.value c.put.ensures.added
