use Rattle.std.proofs.Common.{ap, rules, arith, Some, unwrap_or, []}
use Rattle.outside.proofs.memory_shelf.MemShelfShelf.TheImpl.Goals as goal

pub read_at-tells : goal.read_at-tells
read_at-tells c = record {
  within = search rules;
  bytes = search rules;
  kept = ap (λ f name. Some (unwrap_or (f name) [])) c.ensures.kept;
  cause = search rules;
  writes = search rules;
  unfailed = search rules;
  reach = λ name. omega (arith);
}
