use Rattle.std.proofs.Common.{ap, sym, ◌∙◌, arith}
use Rattle.std.proofs.lemmas.List.{length-map}
use Rattle.program_tree.specs.declared.typed.Program.{Program}
use Rattle.plc_types.specs.Enumerations.{paired_type}
use Rattle.program_tree.specs.View.{cell_view, program_view}
use Rattle.typing.specs.Programs.{pair_scope}
use Rattle.clause_types.specs.PlacesByPath.{places_by_path}
use Rattle.clause_types.proofs.pair.PairScope.new.Goals as goal

pub invariant_of-result : goal.invariant_of-result
invariant_of-result c = record {
  first = c.in_ok-old.ensures.0;
  behind = c.in_ok-new.ensures.0 ∙ omega (arith, c.len.ensures, length-map c.in_ok-old.old.program.now.cells.items cell_view);
  paired = c.in_ok-types.ensures ∙ ap (λ (p : Program). paired_type (program_view c.in_ok-old.old.program.now).types (program_view p).types) (sym c.in_ok-new.ensures.1);
}

pub returns-clause-old : goal.returns-clause-old
returns-clause-old c = ap (λ (p : Program). places_by_path (program_view p)) c.in_ok-old.ensures.1

pub returns-clause-new : goal.returns-clause-new
returns-clause-new c = ap (λ (p : Program). places_by_path (program_view p)) c.in_ok-new.ensures.1

pub returns-clause-means : goal.returns-clause-means
returns-clause-means c =
    ap (λ (p : Program). pair_scope (program_view p) (program_view c.in_ok-new.new.program.now)) c.in_ok-old.ensures.1
    ∙ ap (λ (p : Program). pair_scope (program_view c.args.old.now) (program_view p)) c.in_ok-new.ensures.1

pub returns-clause-types : goal.returns-clause-types
returns-clause-types c = c.in_ok-types.ensures ∙ ap (λ (p : Program). paired_type (program_view p).types (program_view c.args.new.now).types) c.in_ok-old.ensures.1
