use Rattle.std.proofs.Common.{length, sym, subst}
use Rattle.program_tree.specs.View.{program_view}
use Rattle.scan_model.specs.Pairs.{relation_view}
use Rattle.command_files.specs.front_end.Texts.{HasTokens}
use Rattle.typed_relations.specs.Readings.{by_tokens}
use Rattle.comparison_files.proofs.Refusals.{lines_refused}
use Rattle.comparison_files.proofs.Sizes.{few_lines}
use Rattle.comparison_files.proofs.accept.relation_of.Goals as goal

pub returns-clause-refused : goal.returns-clause-refused
returns-clause-refused c =
    let has : HasTokens c.args.text.now c.deref.result.now = subst (HasTokens c.args.text.now) (sym c.deref.ensures.value) c.in-Ok.ensures.tokens in
    rw c.relation_fault-in-Err-read_relation.ensures (lines_refused (program_view c.args.old.now) (program_view c.args.new.now) c.args.text.now c.deref.result.now c.in-Err-read_relation.fault has c.in-Err-read_relation.ensures.refused)

pub returns-in-Ok-read_relation-clause-lines : goal.returns-in-Ok-read_relation-clause-lines
returns-in-Ok-read_relation-clause-lines c =
    let has : HasTokens c.args.text.now c.deref.result.now = subst (HasTokens c.args.text.now) (sym c.deref.ensures.value) c.in-Ok.ensures.tokens in
    few_lines (program_view c.args.old.now) (program_view c.args.new.now) c.args.text.now c.deref.result.now (relation_view c.in-Ok-read_relation.relation) has c.in-Ok-read_relation.ensures.read

pub returns-in-Ok-read_relation-clause-stated : goal.returns-in-Ok-read_relation-clause-stated
returns-in-Ok-read_relation-clause-stated c = by_tokens (length c.args.text.now) c.deref.result.now c.in-Ok-read_relation.ensures.read
