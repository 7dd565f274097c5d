use Rattle.std.proofs.Common.{◌≡◌, ◌++◌, ap, rules, string_bytes, to_z, of_z, to_z-of_z, FitsSigned}
use Rattle.std.specs.Int.{w128}
use Rattle.std.proofs.lemmas.Result.{IfOk-equal}
use Rattle.finding_lines.specs.declared.line.Conclusion.{Conclusion}
use Rattle.finding_lines.specs.declared.line.Conclusion.TheVariants.{Related, Open, Spent}
use Rattle.finding_lines.specs.Spelling.{concluded}
use Rattle.finding_lines.proofs.show.show_conclusion.Goals as goal

pub returns-in-Related : goal.returns-in-Related
returns-in-Related c =
    let one = to_z w128 (of_z w128 c.in-Related.kept) in
    let two = to_z w128 (of_z w128 c.in-Related.candidates) in
    let fits_one : FitsSigned w128 c.in-Related.kept = search rules in
    let fits_two : FitsSigned w128 c.in-Related.candidates = search rules in
    let same_one : one ≡ c.in-Related.kept = to_z-of_z {w = w128} {z = c.in-Related.kept} fits_one in
    let same_two : two ≡ c.in-Related.candidates = to_z-of_z {w = w128} {z = c.in-Related.candidates} fits_two in
    let is = c.in-Related.is in
    let all : Related one two ≡ c.args.conclusion = cc (same_one, same_two, is) in
    IfOk-equal c.show_two.result (string_bytes c.show_two.new.text) (string_bytes c.args.text.now ++ concluded (Related one two)) (string_bytes c.args.text.now ++ concluded c.args.conclusion)
    c.show_two.ensures (ap (λ (v : Conclusion). string_bytes c.args.text.now ++ concluded v) all)

pub returns-in-Open : goal.returns-in-Open
returns-in-Open c =
    let one = to_z w128 (of_z w128 c.in-Open.kept) in
    let two = to_z w128 (of_z w128 c.in-Open.candidates) in
    let three = to_z w128 (of_z w128 c.in-Open.depth) in
    let fits_one : FitsSigned w128 c.in-Open.kept = search rules in
    let fits_two : FitsSigned w128 c.in-Open.candidates = search rules in
    let fits_three : FitsSigned w128 c.in-Open.depth = search rules in
    let same_one : one ≡ c.in-Open.kept = to_z-of_z {w = w128} {z = c.in-Open.kept} fits_one in
    let same_two : two ≡ c.in-Open.candidates = to_z-of_z {w = w128} {z = c.in-Open.candidates} fits_two in
    let same_three : three ≡ c.in-Open.depth = to_z-of_z {w = w128} {z = c.in-Open.depth} fits_three in
    let is = c.in-Open.is in
    let all : Open one two three ≡ c.args.conclusion = cc (same_one, same_two, same_three, is) in
    IfOk-equal c.show_three.result (string_bytes c.show_three.new.text) (string_bytes c.args.text.now ++ concluded (Open one two three)) (string_bytes c.args.text.now ++ concluded c.args.conclusion)
    c.show_three.ensures (ap (λ (v : Conclusion). string_bytes c.args.text.now ++ concluded v) all)

pub returns-in-Spent : goal.returns-in-Spent
returns-in-Spent c =
    let one = to_z w128 (of_z w128 c.in-Spent.number) in
    let fits : FitsSigned w128 c.in-Spent.number = search rules in
    let same : one ≡ c.in-Spent.number = to_z-of_z {w = w128} {z = c.in-Spent.number} fits in
    let is = c.in-Spent.is in
    let all : Spent c.in-Spent.query one ≡ c.args.conclusion = cc (same, is) in
    IfOk-equal c.show_spent.result (string_bytes c.show_spent.new.text) (string_bytes c.args.text.now ++ concluded (Spent c.in-Spent.query one)) (string_bytes c.args.text.now ++ concluded c.args.conclusion)
    c.show_spent.ensures (ap (λ (v : Conclusion). string_bytes c.args.text.now ++ concluded v) all)
