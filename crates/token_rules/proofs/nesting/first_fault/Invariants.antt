use Rattle.std.proofs.Common.{◌≡◌, ◌≤◌, drop}
use Rattle.grammar.specs.Nesting.{nothing_open, total}
use Rattle.token_rules.proofs.FirstFaults.{fault_from}
use Rattle.token_rules.proofs.nesting.first_fault.Given as goal

abbrev pub invariant-loop-at : goal.invariant-loop-at
invariant-loop-at l = record {
  few : total l.held ≤ 64;
  same : fault_from nothing_open l.toks ≡ fault_from l.held (drop l.at l.toks);
}
