use Rattle.std.proofs.Common.{◌≡◌, ◌++◌, map, drop}
use Rattle.decl_types.specs.Bodies.{file_in}
use Rattle.decl_types.specs.Told.{told_in}
use Rattle.decl_types.specs.ToldView.{told_view}
use Rattle.naming.specs.FileScope.{pous_of}
use Rattle.naming.specs.Scopes.{variables_in_pou}
use Rattle.pou_cells.specs.ToldMembers.{all_told}
use Rattle.pou_cells.proofs.tables.all_told.Given as goal

abbrev pub invariant-loop-number : goal.invariant-loop-number
invariant-loop-number l =
    let f = file_in l.domains in
    map (λ v. map told_view v.items) l.list.items ++ map (λ p. told_in f (variables_in_pou p)) (drop l.number (pous_of f)) ≡ all_told f
