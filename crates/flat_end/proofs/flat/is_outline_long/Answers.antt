use Rattle.st_types.specs.CheckedFiles.{file_checked}
use Rattle.program_tree.specs.View.{program_view}
use Rattle.flat_form.specs.FlatPrograms.{is_short}
use Rattle.flat_end.proofs.LongOutlines.{outline_long, not_short}
use Rattle.flat_end.proofs.flat.is_outline_long.Goals as goal

pub returns-in_ok-short-in-Some : goal.returns-in_ok-short-in-Some
returns-in_ok-short-in-Some c =
    let o = program_view c.in-Some.program in
    let outline = rw c.in-Some.is at c.in_ok-outline.ensures.outline in
    λ long. outline_long (file_checked c.args.checked.now) o c.requires outline (not_short c.in_ok-short-in-Some.short (is_short o) c.in_ok-short-in-Some.ensures long)
