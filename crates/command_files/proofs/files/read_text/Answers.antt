use Rattle.std.proofs.Common.{◌≡◌, ℕ, List, Option, length, drop, arith, rules, ap, subst}
use Rattle.std.proofs.lemmas.Grind.{common_steps}
use Rattle.std.specs.Prelude.{IfSome}
use Rattle.outside.specs.Contents.{IsRead}
use Rattle.command_files.proofs.Keeping.{read_on}
use Rattle.command_files.proofs.Reaching.{reach_on}
use Rattle.command_files.proofs.files.read_text.Goals as goal

pub parts-preserved : goal.parts-preserved
parts-preserved g c =
    let part = c.read_at.new.buf in
    let text = c.parts.text.items in
    let from : c.len-in-parts-2.result ≡ length text = omega arith in
    let read = subst (λ (file : Option (List ℕ)). IfSome file (λ bytes. IsRead bytes c.len-in-parts-2.result part c.in_ok-count.count)) (ap (λ (file : List ℕ → Option (List ℕ)). file c.args.name.now) c.parts.invariant.kept) c.in_ok-count.ensures.bytes in
    record {
      kept = search rules;
      read = read_on _ text part (drop c.min-room.result c.parts.buffer) c.extend_from_slice.new.self.items c.len-in-parts-2.result c.in_ok-count.count from c.in_ok-count.ensures.within c.in_ok-extend_from_slice.ensures.items c.parts.invariant.read read;
      reads = search rules;
      writes = search rules;
      unfailed = search rules;
      reach = reach_on _ _ _ _ _ (grind (arith, common_steps)) c.parts.invariant.reach c.in_ok-count.ensures.reach;
      room = grind (arith, common_steps);
    }
