use Rattle.std.proofs.Common.{List, ap, ◌∙◌, String, Vec, Global}
use Rattle.program_tree.specs.declared.typed.Program.{Program}
use Rattle.program_tree.specs.View.{lists_of_texts, program_view}
use Rattle.clause_types.specs.PairedNumbers.{paired_numbers}
use Rattle.clause_types.proofs.paired_types.PairedTypes.new.Goals as goal

pub invariant_of-result : goal.invariant_of-result
invariant_of-result c = record {
  listed =
      c.in_ok-numbers.ensures ∙ ap (λ (p : Program). paired_numbers (program_view p).types 0 (lists_of_texts c.deref.result.now)) c.new-of_old.ensures
      ∙ ap (λ (ts : List (Vec (String Global) Global)). paired_numbers (program_view c.args.old.now).types 0 (lists_of_texts ts)) c.deref.ensures.value;
}
