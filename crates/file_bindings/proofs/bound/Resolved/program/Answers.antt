use Rattle.std.proofs.Common.{◌≡◌, count_by, sym, ◌∙◌, arith}
use Rattle.source_tree.specs.SyntaxView.{file_view}
use Rattle.naming.specs.Broken.{is_program_pou}
use Rattle.naming.specs.FileScope.{pous_of}
use Rattle.file_bindings.proofs.BindingLemmas.{none_passes}
use Rattle.file_bindings.proofs.bound.Resolved.program.Goals as goal

pub unreachable-requires : goal.unreachable-requires
unreachable-requires c =
    let r = c.args.self.now in
    let ps = pous_of (file_view r.file.now) in
    let none : count_by is_program_pou ps ≡ 0 = none_passes is_program_pou 0 ps (sym r.bound.program ∙ c.in-None.is) in
    let one = r.one in
    omega arith
