use Rattle.grammar.proofs.Ahead.{ahead_first}
use Rattle.st_reader.proofs.cursor.token.Goals as goal

pub returns-then-at-toks-clause-first : goal.returns-then-at-toks-clause-first
returns-then-at-toks-clause-first c = ahead_first c.args.toks.now c.args.at _ c.if-at-toks.true
