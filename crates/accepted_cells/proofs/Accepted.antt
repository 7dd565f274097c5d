-- What the laws on cells ask of a file holds of each file that an accepted text states.
use Rattle.std.proofs.Common.{◌≡◌, ℕ, ◌+◌, ◌≤◌, true, List, [], length, Some, refl, sym, ap, ◌∙◌, subst}
use Rattle.std.specs.List.{IsDistinct}
use Rattle.std.specs.Str.{bytes_eq}
use Rattle.std.proofs.lemmas.Bool.{leb-true}
use Rattle.source_tree.specs.Syntax.{PathData, Tree, program, PouData, FileData}
use Rattle.program_tree.specs.Tree.{assign as typed_assign, no_statements, statement, ProgramData}
use Rattle.naming.specs.Broken.{variables_twice, in_declarations, in_body as names_in_body, in_pou_scope, in_pou, broken_names}
use Rattle.naming.specs.FileScope.{is_program}
use Rattle.naming.specs.Scopes.{variables_in_pou, scope_of as names_of}
use Rattle.rules.specs.Judgements.{and}
use Rattle.scan_model.specs.Candidates.{paths_of}
use Rattle.typed_files.proofs.st_names.WholeNames.{pou_whole}
use Rattle.typing.specs.declared.scope.Place.TheVariants as places
use Rattle.typing.specs.declared.scope.Meaning.{Meaning}
use Rattle.typing.specs.Typing.{by_path, kind_at}
use Rattle.typing.specs.Typed.{typed}
use Rattle.typing.specs.TypedStatements.{place_cell, cell_of}
use Rattle.typing.specs.Places.{sizes_of}
use Rattle.typing.specs.Members.{scope_of}
use Rattle.typing.specs.Pous.{cell_count}
use Rattle.typing.specs.TypedPrograms.{typed_program}
use Rattle.typing_laws.proofs.CellCounts.{length-cells}
use Rattle.typed_files.proofs.typed_scopes.Wholes.{whole_and}
use Rattle.typed_files.specs.typed_cells.Premises.{UsesItsBlocks, IsOrdered}
use Rattle.typed_files.proofs.typed_cells.Owners.{low}
use Rattle.typed_files.specs.bound_names.BoundNames.{bound_uses}
use Rattle.typed_files.proofs.bound_names.UsedBlocks.{used_blocks, all_ordered}
use Rattle.typed_files.proofs.whole_files.WholeBodies.{no_names, body_bound}
use Rattle.typed_files.proofs.whole_files.WholeLaw.{whole_pou}
use Rattle.typed_files.proofs.ProgramPlaces.{is_program_there}
use Rattle.front_end.specs.Texts.{StatesProgram}
use Rattle.front_end.proofs.TypedTexts.{file_levelled}
use Rattle.found_cells.specs.cell_paths.Paths.{HasPaths}
use Rattle.found_cells.proofs.cell_paths.Cells.{paths_stand}
use Rattle.found_cells.specs.Names.{AreNamedOnce, HaveNoPoints}
use Rattle.found_cells.specs.Clauses.{IsWholePath}
use Rattle.found_cells.proofs.Paths.{Apart, program_apart, program_distinct, each_once}
use Rattle.found_cells.proofs.ClauseNames.{as_old, as_new}
use Rattle.accepted_cells.specs.OnlyCells.{HasCellsOfNames, StandsForCell}
use Rattle.accepted_cells.specs.Written.{IsWrittenAmong}
use Rattle.accepted_cells.specs.Assignments.{IsAssigned, WritesItsCell}
use Rattle.accepted_cells.proofs.NoPoints.{no_points}
use Rattle.accepted_cells.proofs.OnlyCells.{old_word, only_cell, only_found}
use Rattle.accepted_cells.proofs.Targets.{target_of, target_cell}
use Rattle.accepted_cells.proofs.AssignedStatements.{in_body}
use Rattle.accepted_cells.proofs.WrittenStatements.{body_writes}

-- each name of a POU is declared once
names_once : (f : FileData) (d : PouData) → (in_pou f d).whole ≡ true → (variables_twice (is_program d.pou_type) [] (variables_in_pou d)).whole ≡ true
unfolding in_pou_scope
names_once f d h =
    let p = names_of d in
    let twice = variables_twice p.has_fault [] p.variables in
    let declared = in_declarations f p 0 p.variables in
    (whole_and twice declared (whole_and (and twice declared) (names_in_body f p d.body) h).0).0

module _ (text : List ℕ) (p : ProgramData) (h : StatesProgram text p) where
  abbrev own : ProgramData
  own = typed_program h.file h.number h.pou

  none : broken_names h.file ≡ []
  none = no_names h.file h.names

  used : UsesItsBlocks h.file
  used = used_blocks h.file none

  ordered : IsOrdered h.file
  ordered = all_ordered h.file none h.names

  once : AreNamedOnce h.file
  once k d at = names_once h.file d (pou_whole h.file none k d at)

  points : HaveNoPoints h.file
  points = no_points text h.file h.states

  as_program : h.pou.pou_type ≡ program
  as_program = is_program_there h.file h.number h.pou h.one.is h.one.there

  own_apart : Apart own.cells
  own_apart = program_apart h.file (each_once h.file once) points h.number h.pou h.one.there as_program (once h.number h.pou h.one.there)

  pub apart : Apart p.cells
  apart = subst (λ (x : ProgramData). Apart x.cells) (sym h.program) own_apart

  pub distinct : IsDistinct bytes_eq (paths_of p.cells)
  distinct =
      subst (λ (x : ProgramData). IsDistinct bytes_eq (paths_of x.cells)) (sym h.program)
      (program_distinct h.file (each_once h.file once) points h.number h.pou h.one.there as_program (once h.number h.pou h.one.there))

  pub cells_of_names : HasCellsOfNames h.file h.number p.cells
  cells_of_names path place m leads n q is_q =
      let paths : HasPaths p.cells path place m =
      subst (λ (x : ProgramData). HasPaths x.cells path place m) (sym h.program) (paths_stand h.file used ordered h.number h.pou h.one.there as_program path place m leads) in
      let at = paths n q is_q in
      only_cell p.cells apart (place + n) at.cell q m.meaning.kind m.meaning.range at.there at.named at.typed at.ranged

  pub few : (length p.cells ≡ cell_count h.file h.number) × (length p.cells ≤ 4096)
  few =
      let same : length p.cells ≡ length own.cells = ap (λ (x : ProgramData). length x.cells) h.program in
      let count = length-cells h.file used ordered h.number (low h.file used ordered h.number h.pou h.one.there) h.pou h.one.there in
      let room = leb-true (cell_count h.file h.number) 4096 h.room in
      (same ∙ count, subst (λ (n : ℕ). n ≤ 4096) (sym (same ∙ count)) room)

  -- ---- paths in statements and in clauses

  pub stands_for_cell : (q : PathData) (m : Meaning) (place : ℕ) → IsWholePath h.file h.pou q → (scope_of h.file (sizes_of h.file) h.number).means (by_path q) ≡ Some m → m.place ≡ places.Cell place
      → StandsForCell p q place m
  stands_for_cell q m place is means at =
      subst (λ (x : ProgramData). StandsForCell x q place m) (sym h.program)
      (record {
        only = only_found own own own_apart q m place (as_old h.file used ordered h.number h.pou h.one.there as_program once points q m place is means at own old_word refl);
        as_old = λ new n word. as_old h.file used ordered h.number h.pou h.one.there as_program once points q m place is means at new n word;
        as_new = λ old n word. as_new h.file used ordered h.number h.pou h.one.there as_program once points q m place is means at old n word;
      })

  pub writes_its_cell : (q : PathData) (e : Tree) → IsAssigned q e h.pou.body → WritesItsCell h.file h.number p q e
  writes_its_cell q e is =
      let levels = file_levelled text h.file h.states in
      let scope = scope_of h.file (sizes_of h.file) h.number in
      let uses = bound_uses h.file (names_of h.pou) in
      let whole = whole_pou h.file none levels h.typing h.number h.pou h.one.there in
      let within = body_bound h.file none levels h.number h.pou h.one.there in
      let sound = in_body scope uses q e h.pou.body within whole.body is in
      let target = target_of scope sound.controls q e sound.whole in
      let at = target_cell h.file used ordered h.number h.pou h.one.there as_program q target.meaning target.assignable sound.named target.means in
      let given = typed scope (kind_at (scope.means (by_path q))) e in
      let body : IsWrittenAmong (cell_of (scope.means (by_path q))) given p.body =
      subst (λ (x : ProgramData). IsWrittenAmong (cell_of (scope.means (by_path q))) given x.body) (sym h.program) (body_writes h.file h.number h.pou q e is) in
      let cell : cell_of (scope.means (by_path q)) ≡ at.cell = ap cell_of target.means ∙ ap place_cell at.at in
      record {
        cell = at.cell;
        value = given;
        meaning = target.meaning;
        means = ap (λ (c : ℕ). statement (typed_assign c given) no_statements) cell;
        writes = subst (λ (c : ℕ). IsWrittenAmong c given p.body) cell body;
        stands = stands_for_cell q target.meaning at.cell at.whole target.means at.at;
      }
