use Rattle.std.proofs.Common.{◌∷◌, ◌∙◌, ap}
use Rattle.json.specs.Reads.{token_of}
use Rattle.trace_rows.proofs.ReadLemmas.{number_first, no_token, another_token}
use Rattle.trace_rows.proofs.read.read_number.Goals as goal

pub returns-in_default-clause-value : goal.returns-in_default-clause-value
returns-in_default-clause-value c = no_token c.args.reader.now c.in_default.ensures.value.0

pub returns-in_default-token-clause-value : goal.returns-in_default-token-clause-value
returns-in_default-token-clause-value c = another_token c.args.reader.now c.next.new.self c.in-Some.token c.in-Some.ensures.value c.in_default-token.not-Number

pub returns-in-Number-clause-value : goal.returns-in-Number-clause-value
returns-in-Number-clause-value c =
    number_first c.args.reader.now c.next.new.self c.in-Number.text.now c.whole_number.result (c.in-Some.ensures.value ∙ ap (λ t. token_of t ∷ c.next.new.self) c.in-Number.is) c.whole_number.ensures
