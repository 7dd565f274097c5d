use Rattle.std.proofs.Common.{◌+◌, ◌-◌, ◌≤◌, ℕ, List, ◌∷◌, take, map, length, sym, ap, subst, ◌∙◌}
use Rattle.std.specs.Prelude.{All, min}
use Rattle.clause_core.specs.Formula.{Formula}
use Rattle.gates.specs.Clauses.{with_clauses}
use Rattle.pair_circuits.specs.declared.breaks.ScanLits.{ScanLits}
use Rattle.query_formulas.specs.Breaks.{ScanLiterals}
use Rattle.pair_circuits.specs.Views.{breaks_view, scan_lits_view}
use Rattle.query_formulas.specs.QueryClauses.{with_gates, walk_units, walked_formula}
use Rattle.product_build.specs.Counts.{IsRowInside}
use Rattle.product_build.proofs.Turns.{taken_view, begun_within, rows_here}
use Rattle.product_build.proofs.scans.walk_formula.Goals as goal

pub gates_formula-requires-clause-inside : goal.gates_formula-requires-clause-inside
gates_formula-requires-clause-inside c =
    let b = breaks_view c.args.breaks.now in
    let s = scan_lits_view c.in-Some.first.now in
    let ss = map scan_lits_view c.in-Some.others.now in
    let xs = c.as_slice.result.now in
    let many = c.min-count.ensures ∙ ap (λ (j : ℕ). min c.args.rows j) (c.len.ensures ∙ sym c.as_slice.ensures.len) in
    let is = ap (λ (ys : List ScanLits). take c.args.rows (map scan_lits_view ys)) (sym c.as_slice.ensures.value) ∙ taken_view xs c.args.rows c.min-count.result c.in-Some.first.now c.in-Some.others.now many c.in-Some.ensures.cases.0 in
    subst (λ (j : ℕ). j ≤ length b.net.gates) (sym c.last_of.ensures.begun) (begun_within c.args.rows b s ss is c.requires)

pub add_rows-requires : goal.add_rows-requires
add_rows-requires c =
    let b = breaks_view c.args.breaks.now in
    let s = scan_lits_view c.in-Some.first.now in
    let ss = map scan_lits_view c.in-Some.others.now in
    let xs = c.as_slice.result.now in
    let many = c.min-count.ensures ∙ ap (λ (j : ℕ). min c.args.rows j) (c.len.ensures ∙ sym c.as_slice.ensures.len) in
    let is = ap (λ (ys : List ScanLits). take c.args.rows (map scan_lits_view ys)) (sym c.as_slice.ensures.value) ∙ taken_view xs c.args.rows c.min-count.result c.in-Some.first.now c.in-Some.others.now many c.in-Some.ensures.cases.0 in
    let variables = ap (λ (f : Formula). f.variables) c.in_ok-formula.ensures ∙ ap (λ (j : ℕ). b.net.first - 1 + j) c.last_of.ensures.begun in
    subst (λ (ys : List ScanLits). All (IsRowInside c.in_ok-formula.formula.variables) (map scan_lits_view ys)) (sym c.in-Some.ensures.cases.0)
    (subst (λ (v : ℕ). All (IsRowInside v) (s ∷ ss)) (sym variables) (rows_here c.args.rows b s ss is c.requires))

pub returns : goal.returns
returns c =
    let b = breaks_view c.args.breaks.now in
    let s = scan_lits_view c.in-Some.first.now in
    let ss = map scan_lits_view c.in-Some.others.now in
    let xs = c.as_slice.result.now in
    let many = c.min-count.ensures ∙ ap (λ (j : ℕ). min c.args.rows j) (c.len.ensures ∙ sym c.as_slice.ensures.len) in
    let is = ap (λ (ys : List ScanLits). take c.args.rows (map scan_lits_view ys)) (sym c.as_slice.ensures.value) ∙ taken_view xs c.args.rows c.min-count.result c.in-Some.first.now c.in-Some.others.now many c.in-Some.ensures.cases.0 in
    c.in_ok-add_rows.ensures ∙ ap (λ (ys : List ScanLits). with_clauses c.in_ok-formula.formula (walk_units (map scan_lits_view ys))) c.in-Some.ensures.cases.0
    ∙ ap (λ (f : Formula). with_clauses f (walk_units (s ∷ ss))) c.in_ok-formula.ensures ∙ ap (λ (j : ℕ). with_gates b.net j (walk_units (s ∷ ss))) c.last_of.ensures.begun
    ∙ sym (ap (λ (ys : List ScanLiterals). walked_formula b.net ys) is)
