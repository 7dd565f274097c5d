use Rattle.std.proofs.Common.{◌++◌, map}
use Rattle.node_core.specs.Scans.{start_words}
use Rattle.scan_ssa.proofs.HeldLemmas.{start_turns, no_word, none_turns}
use Rattle.scan_ssa.proofs.scans.start_store.Goals as goal

pub loop-cell-preserved : goal.loop-cell-preserved
loop-cell-preserved c = start_turns c.loop-cell.store.items c.push.new.self.items c.loop-cell.cell c.args.cells (start_words 0 c.args.cells) c.loop-cell-test.true c.in_ok-push.ensures.items c.loop-cell.invariant

pub loop-preserved : goal.loop-preserved
loop-preserved c =
    none_turns c.loop.store.items c.push-in-loop.new.self.items c.args.scratch.now c.loop.index (start_words 0 c.args.cells ++ map no_word c.args.scratch.now) c.loop-test.true c.in_ok-push-2.ensures.items c.loop.invariant
