use Rattle.std.proofs.Common.{◌≡◌, ◌+◌, drop, option_map}
use Rattle.st_lexer.specs.Fronts.{closed_len}
use Rattle.st_lexer.proofs.classes.closed_len.Given as goal

abbrev pub invariant-loop-place : goal.invariant-loop-place
invariant-loop-place l = closed_len l.bytes ≡ option_map (λ n. n + l.place) (closed_len (drop l.place l.bytes))
