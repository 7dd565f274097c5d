use Rattle.std.proofs.Common.{◌≡◌, ◌++◌, drop}
use Rattle.std.specs.Prelude.{reverse}
use Rattle.call_order.specs.Marks.{is_marked}
use Rattle.program_tree.specs.View.{all_called_view}
use Rattle.decl_types.specs.Bodies.{file_in}
use Rattle.running_pous.specs.Bodies.{bodies_view, bodies_from}
use Rattle.running_pous.specs.Stated.{stated_from}
use Rattle.st_types.proofs.called.stated_from.Given as goal

-- the bodies that are left, of which the last is the next, and the POUs so far with those of the rest
abbrev pub invariant-loop-place : goal.invariant-loop-place
invariant-loop-place l = record {
  left : bodies_view (reverse l.left.items) ≡ bodies_from (file_in l.placed.pous.domains) (is_marked l.marks) l.place (drop l.place l.placed.pous.called.items);
  made : all_called_view l.list.items ++ stated_from (file_in l.placed.pous.domains) (is_marked l.marks) l.place (drop l.place l.placed.pous.called.items)
      ≡ stated_from (file_in l.placed.pous.domains) (is_marked l.marks) 0 l.placed.pous.called.items;
}
