-- The program that a file states is too long exactly where its whole typed program is.
use Rattle.std.proofs.Common.{◌≡◌, ℕ, length, sym, ap, ◌∙◌}
use Rattle.std.specs.Prelude.{nat_lt}
use Rattle.source_tree.specs.Syntax.{PouData, FileData}
use Rattle.flat_form.specs.FlatPrograms.{is_short}
use Rattle.flat_count.specs.Counts.{count_of_all, counting_of, capped}
use Rattle.typing.specs.TypedPrograms.{pou_body, called_by, typed_program}
use Rattle.running_pous.specs.Running.{may_run}
use Rattle.running_pous.specs.Stated.{stated_by, stated_program}
use Rattle.running_pous.proofs.StatedPous.{stated_long, stated_whole}
use Rattle.running_counts.proofs.Shortness.{short_by}
use Rattle.running_counts.proofs.RunningCounts.{counts_same}

pub short_alike : (f : FileData) (k : ℕ) (p : PouData) → is_short (stated_program f k p) ≡ is_short (typed_program f k p)
short_alike f k p =
    let body = pou_body f k p in
    let cs = called_by f in
    let runs = may_run cs body in
    let ds = stated_by f runs in
    let few = stated_long f runs in
    let counts = counts_same cs ds body (stated_whole f runs) (length cs) in
    sym (short_by (stated_program f k p)) ∙ ap (λ (m : ℕ). nat_lt (capped (count_of_all (counting_of ds m) body)) 200000) few ∙ ap (λ (m : ℕ). nat_lt (capped m) 200000) counts
    ∙ short_by (typed_program f k p)
