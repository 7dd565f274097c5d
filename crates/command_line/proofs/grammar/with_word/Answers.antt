use Rattle.std.proofs.Common.{rules}
use Rattle.std.proofs.lemmas.Result.{IfOk-weaker}
use Rattle.command_line.proofs.grammar.with_word.Goals as goal

pub returns : goal.returns
returns c = IfOk-weaker c.arg.result _ _ (λ m h. record { word = c.required-word.result; added = h; required = search rules; alone = search rules }) c.arg.ensures
