use Rattle.std.proofs.Common.{◌≡◌, ◌+◌, Some, None, drop, ap, sym, ◌∙◌, arith}
use Rattle.std.proofs.lemmas.List.{drop-map}
use Rattle.program_tree.specs.View.{cell_view, program_view}
use Rattle.typing.specs.Programs.{own_type, cell_among}
use Rattle.clause_types.specs.PathHashes.{hash_of, first_hashed}
use Rattle.clause_types.specs.PlacesByPath.{place_of}
use Rattle.clause_types.proofs.HashLemmas.{none_hashed, among_from_first}
use Rattle.clause_types.proofs.sides.Side.find_place.Goals as goal

pub returns-in_err-first : goal.returns-in_err-first
returns-in_err-first c =
    let side = c.args.self.now in
    let text = c.args.path.now in
    let cells = (program_view side.program.now).cells in
    let none : first_hashed (hash_of text) 0 cells ≡ None = sym (c.in_err-first.ensures ∙ side.finds (hash_of text)) in
    c.from_residual.ensures ∙ sym (ap place_of (none_hashed text 0 0 cells none))

pub returns : goal.returns
returns c =
    let side = c.args.self.now in
    let text = c.args.path.now in
    let cells = (program_view side.program.now).cells in
    let i = c.in_ok-first.first in
    let first : first_hashed (hash_of text) 0 cells ≡ Some i = sym (c.in_ok-first.ensures ∙ side.finds (hash_of text)) in
    let same : i ≡ 0 + i = omega arith in
    c.search_path.ensures ∙ ap (λ cs. place_of (cell_among own_type text i cs)) (sym (drop-map cell_view i c.cells.result.now) ∙ ap (drop i) c.cells.ensures)
    ∙ ap (λ n. place_of (cell_among own_type text n (drop i cells))) same ∙ sym (ap place_of (among_from_first text 0 cells i first))
