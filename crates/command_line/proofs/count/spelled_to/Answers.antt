use Rattle.std.proofs.Common.{rules, ◌≡◌, ◌∙◌, ◌<◌, ◌+◌, false, decimal, bytes_eq}
use Rattle.command_line.proofs.SpelledLemmas.{passed}
use Rattle.command_line.proofs.count.spelled_to.Goals as goal

pub loop-less-preserved : goal.loop-less-preserved
loop-less-preserved c =
    let lt : c.loop-less.less < c.args.most = search rules in
    let other : bytes_eq (decimal (c.loop-less.less + 1)) c.args.word.now ≡ false = search rules in
    passed c.loop-less.less c.args.most c.args.word.now lt other ∙ c.loop-less.invariant
