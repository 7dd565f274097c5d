use Rattle.std.proofs.Common.{◌++◌, string_bytes, to_z, of_z, to_z-of_z}
use Rattle.std.specs.Int.{w128}
use Rattle.std.proofs.lemmas.Result.{IfOk-equal}
use Rattle.finding_lines.specs.Spelling.{spaced}
use Rattle.finding_lines.proofs.ShowLemmas.{three-shown}
use Rattle.finding_lines.proofs.show.show_three.Goals as goal

pub returns : goal.returns
returns c =
    let one = to_z w128 (of_z w128 c.args.one) in
    let two = to_z w128 (of_z w128 c.args.two) in
    let three = to_z w128 (of_z w128 c.args.three) in
    IfOk-equal c.show_two.result (string_bytes c.show_two.new.text)
    (string_bytes c.show_labelled.new.text ++ (c.args.second.now ++ (spaced two ++ (c.args.third.now ++ spaced three))))
    (string_bytes c.args.text.now ++ (c.args.first.now ++ (spaced c.args.one ++ (c.args.second.now ++ (spaced c.args.two ++ (c.args.third.now ++ spaced c.args.three))))))
    c.show_two.ensures
    (three-shown (string_bytes c.show_labelled.new.text) (string_bytes c.args.text.now) c.args.first.now c.args.second.now c.args.third.now c.args.one c.args.two c.args.three one two three
    (to_z-of_z {w = w128} {z = c.args.one} c.ranges.one) (to_z-of_z {w = w128} {z = c.args.two} c.ranges.two) (to_z-of_z {w = w128} {z = c.args.three} c.ranges.three) c.in_ok-show_labelled.ensures)
