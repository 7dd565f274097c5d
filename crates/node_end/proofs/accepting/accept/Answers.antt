use Rattle.program_tree.specs.View.{program_view}
use Rattle.flat_core.specs.FlatView.{flat_program_view}
use Rattle.node_core.specs.Scans.{scan_view}
use Rattle.node_end.proofs.TypedScans.{scan_typed}
use Rattle.node_end.proofs.accepting.accept.Goals as goal

pub returns-in-Ok-to_nodes-clause-meaning : goal.returns-in-Ok-to_nodes-clause-meaning
returns-in-Ok-to_nodes-clause-meaning c =
    scan_typed (program_view c.in-Ok.accepted.program) (flat_program_view c.in-Ok.accepted.flat) (scan_view c.in-Ok-to_nodes.scan) c.in-Ok.ensures.flat c.in-Ok.ensures.typed_flat
    c.in-Ok.ensures.meaning c.in-Ok-to_nodes.ensures.ok
