use Rattle.std.proofs.Common.{◌≡◌, ◌++◌, drop}
use Rattle.program_tree.specs.View.{lists_of_texts, program_view}
use Rattle.clause_types.specs.PairedNumbers.{paired_numbers}
use Rattle.clause_types.proofs.paired_types.paired_numbers.Given as goal

abbrev pub invariant-loop-number : goal.invariant-loop-number
invariant-loop-number l =
    l.numbers.items ++ paired_numbers (program_view l.old.program.now).types l.number (lists_of_texts (drop l.number l.types)) ≡ paired_numbers (program_view l.old.program.now).types 0 (lists_of_texts l.types)
