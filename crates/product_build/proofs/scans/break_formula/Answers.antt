use Rattle.std.proofs.Common.{◌+◌, ◌-◌, ◌≤◌, ℕ, List, take, map, length, sym, ap, subst, ◌∙◌}
use Rattle.std.specs.Prelude.{All, min}
use Rattle.clause_core.specs.Formula.{Formula}
use Rattle.gates.specs.Clauses.{with_clauses}
use Rattle.pair_circuits.specs.declared.breaks.ScanLits.{ScanLits}
use Rattle.query_formulas.specs.Breaks.{ScanLiterals}
use Rattle.pair_circuits.specs.Views.{breaks_view, scan_lits_view}
use Rattle.query_formulas.specs.QueryClauses.{with_gates, break_units, listed_formula}
use Rattle.product_build.specs.Counts.{AreLitsInside}
use Rattle.product_build.proofs.Turns.{taken_view, ended_within, here_inside, rest_inside}
use Rattle.product_build.proofs.scans.break_formula.Goals as goal

pub gates_formula-requires-clause-inside : goal.gates_formula-requires-clause-inside
gates_formula-requires-clause-inside c =
    let b = breaks_view c.args.breaks.now in
    let s = scan_lits_view c.in-Some.first.now in
    let ss = map scan_lits_view c.in-Some.others.now in
    let xs = c.as_slice.result.now in
    let many = c.min-count.ensures ∙ ap (λ (j : ℕ). min c.args.scans j) (c.len.ensures ∙ sym c.as_slice.ensures.len) in
    let is = ap (λ (ys : List ScanLits). take c.args.scans (map scan_lits_view ys)) (sym c.as_slice.ensures.value) ∙ taken_view xs c.args.scans c.min-count.result c.in-Some.first.now c.in-Some.others.now many c.in-Some.ensures.cases.0 in
    subst (λ (j : ℕ). j ≤ length b.net.gates) (sym c.last_of.ensures.ended) (ended_within c.args.scans b s ss is c.requires)

pub add_break-requires-clause-first : goal.add_break-requires-clause-first
add_break-requires-clause-first c =
    let b = breaks_view c.args.breaks.now in
    let s = scan_lits_view c.in-Some.first.now in
    let ss = map scan_lits_view c.in-Some.others.now in
    let xs = c.as_slice.result.now in
    let many = c.min-count.ensures ∙ ap (λ (j : ℕ). min c.args.scans j) (c.len.ensures ∙ sym c.as_slice.ensures.len) in
    let is = ap (λ (ys : List ScanLits). take c.args.scans (map scan_lits_view ys)) (sym c.as_slice.ensures.value) ∙ taken_view xs c.args.scans c.min-count.result c.in-Some.first.now c.in-Some.others.now many c.in-Some.ensures.cases.0 in
    let variables = ap (λ (f : Formula). f.variables) c.in_ok-formula.ensures ∙ ap (λ (j : ℕ). b.net.first - 1 + j) c.last_of.ensures.ended in
    subst (λ (v : ℕ). AreLitsInside v s) (sym variables) (here_inside c.args.scans b s ss is c.requires)

pub add_break-requires-clause-others : goal.add_break-requires-clause-others
add_break-requires-clause-others c =
    let b = breaks_view c.args.breaks.now in
    let s = scan_lits_view c.in-Some.first.now in
    let ss = map scan_lits_view c.in-Some.others.now in
    let xs = c.as_slice.result.now in
    let many = c.min-count.ensures ∙ ap (λ (j : ℕ). min c.args.scans j) (c.len.ensures ∙ sym c.as_slice.ensures.len) in
    let is = ap (λ (ys : List ScanLits). take c.args.scans (map scan_lits_view ys)) (sym c.as_slice.ensures.value) ∙ taken_view xs c.args.scans c.min-count.result c.in-Some.first.now c.in-Some.others.now many c.in-Some.ensures.cases.0 in
    let variables = ap (λ (f : Formula). f.variables) c.in_ok-formula.ensures ∙ ap (λ (j : ℕ). b.net.first - 1 + j) c.last_of.ensures.ended in
    subst (λ (v : ℕ). All (AreLitsInside v) ss) (sym variables) (rest_inside c.args.scans b s ss is c.requires)

pub returns : goal.returns
returns c =
    let b = breaks_view c.args.breaks.now in
    let s = scan_lits_view c.in-Some.first.now in
    let ss = map scan_lits_view c.in-Some.others.now in
    let xs = c.as_slice.result.now in
    let many = c.min-count.ensures ∙ ap (λ (j : ℕ). min c.args.scans j) (c.len.ensures ∙ sym c.as_slice.ensures.len) in
    let is = ap (λ (ys : List ScanLits). take c.args.scans (map scan_lits_view ys)) (sym c.as_slice.ensures.value) ∙ taken_view xs c.args.scans c.min-count.result c.in-Some.first.now c.in-Some.others.now many c.in-Some.ensures.cases.0 in
    c.in_ok-add_break.ensures ∙ ap (λ (f : Formula). with_clauses f (break_units s ss)) c.in_ok-formula.ensures ∙ ap (λ (j : ℕ). with_gates b.net j (break_units s ss)) c.last_of.ensures.ended
    ∙ sym (ap (λ (ys : List ScanLiterals). listed_formula b.net ys) is)
