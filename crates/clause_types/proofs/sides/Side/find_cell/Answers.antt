use Rattle.std.proofs.Common.{◌≡◌, ◌+◌, Some, None, length, drop, ap, sym, ◌∙◌, arith}
use Rattle.std.proofs.lemmas.List.{length-map, drop-map}
use Rattle.source_tree.specs.SyntaxView.{names_view}
use Rattle.program_tree.specs.View.{cell_view, program_view}
use Rattle.typing.specs.Programs.{joined, own_type, cell_among}
use Rattle.clause_types.specs.PathHashes.{hash_of, first_hashed}
use Rattle.clause_types.proofs.HashLemmas.{none_hashed, first_within, among_from_first}
use Rattle.clause_types.proofs.sides.Side.find_cell.Goals as goal

pub returns-in_err-first : goal.returns-in_err-first
returns-in_err-first c =
    let side = c.args.self.now in
    let text = joined (names_view c.args.members.now) in
    let none : first_hashed (hash_of text) 0 (program_view side.program.now).cells ≡ None = sym (c.in_err-first.ensures ∙ side.finds (hash_of text)) in
    c.from_residual.ensures ∙ sym (none_hashed text side.start 0 (program_view side.program.now).cells none)

pub search_from-requires : goal.search_from-requires
search_from-requires c =
    let side = c.args.self.now in
    let text = joined (names_view c.args.members.now) in
    let cells = (program_view side.program.now).cells in
    let first : first_hashed (hash_of text) 0 cells ≡ Some c.in_ok-first.first = sym (c.in_ok-first.ensures ∙ side.finds (hash_of text)) in
    let long : length c.cells.result.now ≡ length cells = sym (length-map c.cells.result.now cell_view) ∙ ap length c.cells.ensures in
    record {
      room = omega (arith, long, side.room);
      within = omega (arith, long, first_within text cells c.in_ok-first.first first);
    }

pub returns : goal.returns
returns c =
    let side = c.args.self.now in
    let text = joined (names_view c.args.members.now) in
    let cells = (program_view side.program.now).cells in
    let i = c.in_ok-first.first in
    let first : first_hashed (hash_of text) 0 cells ≡ Some i = sym (c.in_ok-first.ensures ∙ side.finds (hash_of text)) in
    c.search_from.ensures ∙ ap (cell_among own_type text (side.start + i)) (sym (drop-map cell_view i c.cells.result.now) ∙ ap (drop i) c.cells.ensures)
    ∙ sym (among_from_first text side.start cells i first)
