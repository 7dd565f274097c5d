use Rattle.std.proofs.Common.{ap, sym, ◌∙◌}
use Rattle.program_tree.specs.declared.typed.Program.{Program}
use Rattle.plc_types.specs.Enumerations.{paired_type}
use Rattle.program_tree.specs.View.{program_view}
use Rattle.typing.specs.Programs.{pair_scope}
use Rattle.clause_types.specs.PlacesByPath.{places_by_path}
use Rattle.candidates.proofs.pair.Pair.new.Goals as goal

pub invariant_of-result : goal.invariant_of-result
invariant_of-result c = record {
  scoped =
      c.in_ok-new-3.ensures.means ∙ ap (λ (p : Program). pair_scope (program_view p) (program_view c.args.new.now)) (sym c.in_ok-new.ensures)
      ∙ ap (λ (q : Program). pair_scope (program_view c.in_ok-new.field-0.program.now) (program_view q)) (sym c.in_ok-new-2.ensures);
  finds_old = c.in_ok-new-3.ensures.old ∙ ap (λ (p : Program). places_by_path (program_view p)) (sym c.in_ok-new.ensures);
  finds_new = c.in_ok-new-3.ensures.new ∙ ap (λ (p : Program). places_by_path (program_view p)) (sym c.in_ok-new-2.ensures);
  paired =
      c.in_ok-new-3.ensures.types ∙ ap (λ (p : Program). paired_type (program_view p).types (program_view c.args.new.now).types) (sym c.in_ok-new.ensures)
      ∙ ap (λ (q : Program). paired_type (program_view c.in_ok-new.field-0.program.now).types (program_view q).types) (sym c.in_ok-new-2.ensures);
}
