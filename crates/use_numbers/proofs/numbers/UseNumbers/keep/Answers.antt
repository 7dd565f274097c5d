use Rattle.std.proofs.Common.{rules, ◌≡◌, ℕ, ◌+◌, ◌-◌, ◌<◌, length, ◌/◌, ◌++◌, take, set, Some, None, get_or, ap, ◌∙◌, inr, arith}
use Rattle.std.specs.Prelude.{replicate}
use Rattle.std.proofs.lemmas.List.{take_all}
use Rattle.use_numbers.specs.UseNumbers.{IsKept}
use Rattle.use_numbers.proofs.UseNumbersLemmas.{filled, written}
use Rattle.use_numbers.proofs.numbers.UseNumbers.keep.Goals as goal
use Rattle.use_numbers.proofs.numbers.UseNumbers.keep.Goals.{else-len-place-via-then-len-place+else-is_err, else-len-place-via-else-len-place}

pub returns : goal.returns
returns c =
    let old = c.args.self.now in
    let at = c.args.at in
    let now = c.else-len-place.self-inside.by_place.items in
    let is : c.in-Ok.kept ≡ c.args.number = search rules in
    let kept : ((k : ℕ) → get_or now k None ≡ get_or old k None) → at / 2 < length now → IsKept old at c.args.number (set now (at / 2) (Some c.in-Ok.kept)) = λ same within. rw is (written old now at c.args.number same within) in
    inr
    (elim c.else-len-place.branch [
      | else-len-place-via-then-len-place+else-is_err w ↦
          let all : take (at / 2 + 1) old ≡ old = take_all (at / 2 + 1) old (grind (arith, w.if-len-place.true, c.len.ensures)) in
          let resized : now ≡ take (at / 2 + 1) old ++ replicate (at / 2 + 1 - length old) None = search rules in
          let items : now ≡ old ++ replicate (at / 2 + 1 - length old) None = rw all at resized in
          kept (λ k. ap (λ ns. get_or ns k None) items ∙ filled old (at / 2 + 1 - length old) k) (grind (arith, items))
      | else-len-place-via-else-len-place w ↦
          let same : now ≡ old = search rules in
          kept (λ k. ap (λ ns. get_or ns k None) same) (grind (arith, same, w.if-len-place.false, c.len.ensures))
    ])
