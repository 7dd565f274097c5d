use Rattle.std.proofs.Common.{◌≡◌, ℕ, List, map, sym, ap, ◌∙◌}
use Rattle.std.specs.List.{list_any}
use Rattle.naming.specs.Broken.{is_program_pou}
use Rattle.naming.specs.FileScope.{pous_of}
use Rattle.decl_types.specs.Bodies.{file_in}
use Rattle.typing.specs.Members.{called_order}
use Rattle.typing.specs.Places.{sizes_of}
use Rattle.typing_laws.proofs.OnlyPou.{position_inside}
use Rattle.pou_cells.specs.Placing.{capped}
use Rattle.st_types.specs.declared.checked.Checked.{Checked}
use Rattle.st_types.specs.CheckedFiles.{file_checked}
use Rattle.st_types.specs.Outlines.{is_long, has_long}
use Rattle.st_types.proofs.LongLemmas.{any_long}
use Rattle.st_types.proofs.checked.Checked.outline.Goals as goal

-- whether a POU is long, by the sizes that are kept
told_long : (c : Checked) (sizes : List ℕ) → sizes ≡ c.sizes.items → list_any (is_long sizes) c.pous.called.items ≡ has_long (file_checked c)
told_long c sizes kept =
    let f = file_checked c in
    ap (λ (s : List ℕ). list_any (is_long s) c.pous.called.items) (kept ∙ c.sized) ∙ ap (list_any (is_long (map capped (sizes_of f)))) c.pous.ordered ∙ any_long (sizes_of f) (called_order f)

pub returns-then-not-has_long-clause-there : goal.returns-then-not-has_long-clause-there
returns-then-not-has_long-clause-there c =
    sym c.if-not-has_long.true ∙ c.has_long.ensures ∙ told_long c.args.self.now c.deref.result.now c.deref.ensures.value

pub returns-clause-there : goal.returns-clause-there
returns-clause-there c =
    sym c.if-not-has_long.false ∙ c.has_long.ensures ∙ told_long c.args.self.now c.deref.result.now c.deref.ensures.value

pub pou-program-requires : goal.pou-program-requires
pou-program-requires c = position_inside is_program_pou c.args.self.now.number (pous_of (file_in c.args.self.now.pous.domains)) c.args.self.now.one
