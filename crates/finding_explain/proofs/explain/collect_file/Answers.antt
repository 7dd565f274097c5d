use Rattle.finding_file.proofs.StartLemmas.{agrees_at_start}
use Rattle.finding_explain.proofs.explain.collect_file.Goals as goal

pub collect-requires-clause-agrees : goal.collect-requires-clause-agrees
collect-requires-clause-agrees g c =
    agrees_at_start ((g.S.Shelf.state c.args.shelf.now).file c.in_ok-reader.reader.name) c.in_ok-reader.reader c.args.finding.now.name.now c.args.finding.now.limit c.in_ok-reader.ensures
