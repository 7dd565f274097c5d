use Rattle.meaning.proofs.Leaving.{parts, goes_on, each}
use Rattle.meaning.proofs.laws.lists_do_what_their_parts_do.Goals as goal

pub returns-clause-parts : goal.returns-clause-parts
returns-clause-parts c = parts

pub returns-clause-goes_on : goal.returns-clause-goes_on
returns-clause-goes_on c = goes_on

pub returns-clause-each : goal.returns-clause-each
returns-clause-each c = each
