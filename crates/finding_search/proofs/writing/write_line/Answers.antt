use Rattle.std.proofs.Common.{ap}
use Rattle.finding_search.specs.Desks.{desk}
use Rattle.finding_search.proofs.Going.{Writes-line}
use Rattle.finding_search.proofs.writing.write_line.Goals as goal

pub returns : goal.returns
returns g c s formula from to passes =
    Writes-line s formula (desk (g.S.Shelf.state c.args.shelf.now) c.args.writer.now)
    (desk (g.S.Shelf.state c.line.new.shelf) c.line.new.self) from to c.args.line.now
    c.line.result c.requires passes c.line.ensures.all c.line.ensures.part c.line.ensures.others c.line.ensures.counted c.line.ensures.stays c.line.ensures.within c.line.ensures.past
    (λ e. ap (λ shelf. (g.S.Shelf.state shelf).file) (c.line.ensures.untouched e)) c.line.ensures.cause c.line.ensures.reads
