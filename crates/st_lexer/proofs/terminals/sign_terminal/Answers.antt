use Rattle.std.proofs.Common.{sym, arith}
use Rattle.st_lexer.proofs.TableLemmas.{no_sign, long_sign}
use Rattle.st_lexer.proofs.terminals.sign_terminal.Goals as goal

pub returns-in_default : goal.returns-in_default
returns-in_default c = sym (no_sign c.args.slice.now (omega arith))

pub returns-in_default-2 : goal.returns-in_default-2
returns-in_default-2 c = sym (long_sign c.args.slice.now (omega arith))
