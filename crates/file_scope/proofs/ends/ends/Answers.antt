use Rattle.std.proofs.Common.{List, ℕ, length, map, get_or, ap, ◌∙◌, arith}
use Rattle.std.proofs.lemmas.List.{length-map}
use Rattle.source_tree.specs.SyntaxView.{file_view}
use Rattle.naming.proofs.EndLemmas.{lead_on, lead_to_ends}
use Rattle.file_scope.proofs.ends.ends.Goals as goal

pub loop-doubling-preserved : goal.loop-doubling-preserved
loop-doubling-preserved c =
    let es = c.loop-doubling.ends.items in
    let is = c.in_ok-ends-2.ensures ∙ ap (λ (xs : List ℕ). map (λ e. get_or xs e e) xs) c.deref.ensures.value in
    record {
      led = lead_on (file_view c.args.names.now.file.now) es c.in_ok-ends-2.ends.items c.loop-doubling._doubling c.loop-doubling.invariant.led is;
      len = ap length is ∙ length-map es (λ e. get_or es e e) ∙ c.loop-doubling.invariant.len;
    }

pub returns-clause-led : goal.returns-clause-led
returns-clause-led c = lead_to_ends (file_view c.args.names.now.file.now) c.loop-doubling.ends.items c.loop-doubling._doubling (omega arith) c.loop-doubling.invariant.led
