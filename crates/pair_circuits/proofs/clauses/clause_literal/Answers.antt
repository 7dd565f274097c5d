use Rattle.std.proofs.Common.{◌∙◌, ap}
use Rattle.std.proofs.lemmas.Result.{err_from_is_err_and}
use Rattle.node_core.specs.Scans.{clause_view}
use Rattle.node_circuits.specs.NodeWords.{words_view}
use Rattle.word_circuits.proofs.Growth.{handed_on}
use Rattle.pair_circuits.proofs.Front.{starts_back}
use Rattle.query_formulas.proofs.Growth.{after_words}
use Rattle.pair_circuits.proofs.clauses.clause_literal.Goals as goal

pub returns-in_err-words-clause-too_many : goal.returns-in_err-words-clause-too_many
returns-in_err-words-clause-too_many c =
    let p = err_from_is_err_and c.from_residual.result c.from_residual.ensures.1 in
    handed_on c.from_residual.result p.0 _ _ _ p.1 p.2 c.in_err-words.ensures.too_many
    (rw c.as_slice.ensures.value (after_words (words_view c.args.starts.items) (clause_view c.args.clause.now) c.args.circuit.now))

pub returns-clause-starts : goal.returns-clause-starts
returns-clause-starts c =
    ap words_view c.truncate.ensures.items ∙ starts_back c.as_slice.result.now c.args.starts.items _ c.args.circuit.now _ (c.len-count.ensures ∙ c.args.starts.ok.0) c.in_ok-words.ensures.words
