use Rattle.std.proofs.Common.{arith}
use Rattle.queries.specs.Sets.{members}
use Rattle.finding_search.proofs.GuessLemmas.{tells_answer}
use Rattle.finding_search.proofs.guesses.drops.Goals as goal

pub returns-clause-answers : goal.returns-clause-answers
returns-clause-answers c =
    tells_answer c.args.trial.now c.requires (members c.args.set.now) c.args.guess.now c.index-row.result.now (omega (arith, c.len.ensures)) c.index-row.ensures
    (record { old = c.deref.result.now; new = c.deref-2.result.now }) c.as_slice.result.now c.leads_out.result c.deref.ensures.value c.deref-2.ensures.value c.as_slice.ensures
    c.leads_out.ensures.tested
