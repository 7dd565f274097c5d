use Rattle.std.proofs.Common.{ℕ, Bool, List, ◌∙◌, arith, ap, sym}
use Rattle.call_order.specs.Marks.{is_marked}
use Rattle.program_tree.specs.View.{stmts_view}
use Rattle.decl_types.specs.Bodies.{file_in}
use Rattle.typing.specs.Members.{called_order}
use Rattle.typing.specs.TypedPrograms.{called_by}
use Rattle.running_pous.specs.Running.{may_run}
use Rattle.running_pous.specs.Bodies.{bodies_from}
use Rattle.running_pous.specs.Stated.{stated_from}
use Rattle.running_pous.proofs.StatedLemmas.{stated-same}
use Rattle.st_types.proofs.called.stated_by.Goals as goal

pub stated_from-requires : goal.stated_from-requires
stated_from-requires c =
    let f = file_in c.args.placed.now.pous.domains in
    c.in_ok-running.ensures.bodies ∙ ap (λ (ks : List ℕ). bodies_from f (is_marked c.in_ok-running.running.runs.items) 0 ks) (sym c.args.placed.now.pous.ordered)
    ∙ ap (λ (ms : List Bool). bodies_from f (is_marked ms) 0 c.args.placed.now.pous.called.items) (sym c.deref.ensures.value)

pub returns-clause-list : goal.returns-clause-list
returns-clause-list c =
    let f = file_in c.args.placed.now.pous.domains in
    let runs = may_run (called_by f) (stmts_view c.args.body.now) in
    let marks = c.in_ok-running.running.runs.items in
    c.in_ok-list.ensures ∙ ap (λ (ms : List Bool). stated_from f (is_marked ms) 0 c.args.placed.now.pous.called.items) c.deref.ensures.value
    ∙ ap (λ (ks : List ℕ). stated_from f (is_marked marks) 0 ks) c.args.placed.now.pous.ordered
    ∙ stated-same f (is_marked marks) runs 0 (called_order f) (λ k below. c.in_ok-running.ensures.runs k (omega (arith, below)))
