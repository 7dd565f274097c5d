use Rattle.std.proofs.Common.{◌≡◌, ◌≤◌, ◌^◌, drop, unwrap_or}
use Rattle.source_tree.specs.Numbers.{based}
use Rattle.st_lexer.proofs.Digits.{cut, digits}
use Rattle.st_lexer.proofs.numbers.digits.Given as goal

abbrev pub invariant-loop-b : goal.invariant-loop-b
invariant-loop-b l = record {
  small : unwrap_or l.value (2 ^ 64) ≤ 2 ^ 64;
  same : cut (2 ^ 64) (digits l.base (unwrap_or l.value (2 ^ 64)) l.needed (drop l.b-index l.text)) ≡ cut (2 ^ 64) (based l.base l.text);
}
