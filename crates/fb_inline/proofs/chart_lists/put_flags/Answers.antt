use Rattle.std.proofs.Common.{◌∙◌, arith}
use Rattle.fb_inline.proofs.ChartLemmas.{more-flags, more-cleared, flags-made}
use Rattle.fb_inline.proofs.ViewLemmas.{few-items}
use Rattle.fb_inline.proofs.chart_lists.put_flags.Goals as goal

pub loop-preserved : goal.loop-preserved
loop-preserved c =
    let steps = c.args.steps.now in
    let made = c.loop.scratch.items in
    record {
      list = more-cleared steps c.loop.index c.args.cells c.loop-test.true made _ _ c.in_ok-put_flag.ensures.scratch c.in_ok-put_flag-2.ensures.scratch _ _ _ c.in_ok-put_flag.ensures.list c.in_ok-put_flag-2.ensures.list ∙ c.loop.invariant.list;
      scratch = more-flags steps c.loop.index c.args.cells c.loop-test.true made _ _ c.in_ok-put_flag.ensures.scratch c.in_ok-put_flag-2.ensures.scratch ∙ c.loop.invariant.scratch;
    }

pub returns-clause-room : goal.returns-clause-room
returns-clause-room c =
    let made = flags-made c.args.steps.now c.loop.index c.args.scratch.now.items c.loop.scratch.items c.loop-test.false c.loop.invariant.scratch in
    let few = few-items c.loop.scratch in
    omega (arith, made, few, c.len.ensures, c.args.scratch.now.ok.0)
