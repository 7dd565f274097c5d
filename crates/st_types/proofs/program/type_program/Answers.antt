use Rattle.std.proofs.Common.{◌≡◌, Bool, true, false, not, ◌||◌, sym, ap, ap₂, subst, refl, ◌∙◌, rules}
use Rattle.std.proofs.lemmas.Bool.{or_left, or_right}
use Rattle.std.proofs.lemmas.Result.{err_from_is_err_and}
use Rattle.source_tree.specs.SyntaxView.{pou_view}
use Rattle.program_tree.specs.Tree.{Statements}
use Rattle.program_tree.specs.View.{stmts_view, all_called_view}
use Rattle.decl_types.specs.Bodies.{file_in}
use Rattle.typing.specs.Members.{called_order}
use Rattle.typing.specs.TypedPrograms.{pou_body, called_by}
use Rattle.running_pous.specs.Running.{may_run}
use Rattle.running_pous.specs.Stated.{stated_by}
use Rattle.pou_cells.specs.Placing.{is_placed}
use Rattle.rules.specs.declared.fault.Fault.{Fault}
use Rattle.rules.specs.Faults.{IfRefused}
use Rattle.st_types.specs.LargePous.{any_large, runs_large, IsRefusedIf}
use Rattle.st_types.proofs.LargeLemmas.{refused-more}
use Rattle.st_types.proofs.program.type_program.Goals as goal

pub returns-clause-typed : goal.returns-clause-typed
returns-clause-typed c =
    let f = file_in c.args.placed.now.pous.domains in
    let p = pou_view c.args.program.now in
    let called : all_called_view c.in_ok-called.called.items ≡ stated_by f (may_run (called_by f) (pou_body f c.args.number p)) =
    c.in_ok-called.ensures.list ∙ ap (λ (ss : Statements). stated_by f (may_run (called_by f) ss)) (ap stmts_view c.deref.ensures.value ∙ c.in_ok-body.ensures) in
    search rules

pub returns-clause-few : goal.returns-clause-few
returns-clause-few c =
    let f = file_in c.args.placed.now.pous.domains in
    let p = pou_view c.args.program.now in
    let body : stmts_view c.deref.result.now ≡ pou_body f c.args.number p = ap stmts_view c.deref.ensures.value ∙ c.in_ok-body.ensures in
    let called : any_large f (may_run (called_by f) (pou_body f c.args.number p)) 0 (called_order f) ≡ false =
    subst (λ (ss : Statements). any_large f (may_run (called_by f) ss) 0 (called_order f) ≡ false) body c.in_ok-called.ensures.few in
    ap₂ (λ (a b : Bool). not a || b) (sym c.is_placed.ensures ∙ c.if-not-is_placed.false) called

pub returns-then-not-is_placed-clause-refused : goal.returns-then-not-is_placed-clause-refused
returns-then-not-is_placed-clause-refused c =
    let f = file_in c.args.placed.now.pous.domains in
    let p = pou_view c.args.program.now in
    subst (IfRefused (IsRefusedIf (runs_large f c.args.number p))) (sym c.too_large.ensures) (or_left _ _ (ap not (sym c.is_placed.ensures ∙ c.if-not-is_placed.true)), refl)

pub returns-in_err-called-clause-refused : goal.returns-in_err-called-clause-refused
returns-in_err-called-clause-refused c =
    let f = file_in c.args.placed.now.pous.domains in
    let p = pou_view c.args.program.now in
    let e = c.in_err-called.field-0.0 in
    let body : stmts_view c.deref.result.now ≡ pou_body f c.args.number p = ap stmts_view c.deref.ensures.value ∙ c.in_ok-body.ensures in
    let large : IfRefused (IsRefusedIf (any_large f (may_run (called_by f) (pou_body f c.args.number p)) 0 (called_order f))) e =
    subst (λ (ss : Statements). IfRefused (IsRefusedIf (any_large f (may_run (called_by f) ss) 0 (called_order f))) e) body c.in_err-called.ensures.refused in
    let given = err_from_is_err_and c.from_residual-in_err-called.result c.from_residual-in_err-called.ensures.1 in
    rw (given.1, given.2) (refused-more (any_large f (may_run (called_by f) (pou_body f c.args.number p)) 0 (called_order f)) (runs_large f c.args.number p) e (λ any. or_right _ _ any) large)
