-- Each clause of a query's formula is a set of literals.
use Rattle.std.proofs.Common.{◌≡◌, ℕ, ◌+◌, Bool, true, List, [], ◌∷◌, ◌++◌, length, map, take, refl, ◌∙◌, nat_le, arith}
use Rattle.std.specs.List.{list_all}
use Rattle.std.proofs.lemmas.Bool.{and_from}
use Rattle.std.proofs.lemmas.Bool.Decides.{nat_tests}
use Rattle.std.proofs.lemmas.List.Folds.{list_all-append}
use Rattle.clause_core.specs.declared.literal.Lit.{Lit}
use Rattle.clause_core.specs.declared.gate.Gate.{Gate}
use Rattle.clause_core.specs.Clauses.{rank, is_set, set_of}
use Rattle.clause_core.proofs.Sets.{is_set-with_all}
use Rattle.gates.specs.Literals.{plain, true_lit}
use Rattle.gates.specs.Netlists.{Netlist}
use Rattle.gates.specs.Clauses.{clauses_of, gate_clauses, clauses_from}
use Rattle.scan_model.specs.Verdicts.{CandidateSet}
use Rattle.queries.specs.Questions.{QueryData, first, step, goal, deep, walk}
use Rattle.query_formulas.specs.Products.{ProductLits, Product}
use Rattle.query_formulas.specs.Breaks.{ScanLiterals, Breaks}
use Rattle.query_formulas.specs.QueryClauses.{negations, units, some_fails, members_of, with_gates, premises_of, row_units, begun_formula, break_units, last_count, listed_formula, walk_units, last_begun, walked_formula, formula_by}

both : (a b : List (List Lit)) → list_all is_set a ≡ true → list_all is_set b ≡ true → list_all is_set (a ++ b) ≡ true
both a b h k = list_all-append is_set a b ∙ and_from (list_all is_set a) (list_all is_set b) h k

at_least_none : (a : ℕ) → nat_le 0 a ≡ true
at_least_none a = grind (arith, nat_tests)

one_is_set : (l : Lit) → is_set (l ∷ []) ≡ true
one_is_set l = and_from (nat_le 0 (rank l)) true (at_least_none (rank l)) refl

units_sets : (ls : List Lit) → list_all is_set (units ls) ≡ true
units_sets [] = refl
units_sets (l ∷ ls) = and_from (is_set (l ∷ [])) (list_all is_set (units ls)) (one_is_set l) (units_sets ls)

set_of_sets : (cs : List (List Lit)) → list_all is_set (map set_of cs) ≡ true
set_of_sets [] = refl
set_of_sets (c ∷ cs) = and_from (is_set (set_of c)) (list_all is_set (map set_of cs)) (is_set-with_all [] c refl) (set_of_sets cs)

gates_sets : (x : ℕ) (gs : List Gate) → list_all is_set (clauses_from x gs) ≡ true
gates_sets x [] = refl
gates_sets x (g ∷ gs) = both (gate_clauses x g) (clauses_from (x + 1) gs) (set_of_sets (clauses_of (plain x) g)) (gates_sets (x + 1) gs)

-- the last clause
last_set : (ls : List Lit) → list_all is_set (some_fails ls ∷ []) ≡ true
last_set ls = and_from (is_set (some_fails ls)) true (is_set-with_all [] (negations ls) refl) refl

with_gates_sets : (n : Netlist) (count : ℕ) (more : List (List Lit)) → list_all is_set more ≡ true → list_all is_set (with_gates n count more).clauses ≡ true
with_gates_sets n count more h =
    let gates = clauses_from n.first (take count n.gates) in
    both ((true_lit ∷ []) ∷ gates) more (and_from (is_set (true_lit ∷ [])) (list_all is_set gates) (one_is_set true_lit) (gates_sets n.first (take count n.gates))) h

row_sets : (s : ScanLiterals) → list_all is_set (row_units s) ≡ true
row_sets s = both (units (negations s.outside)) (units s.environment) (units_sets (negations s.outside)) (units_sets s.environment)

break_sets : (s : ScanLiterals) (ss : List ScanLiterals) → list_all is_set (break_units s ss) ≡ true
break_sets s [] = both (row_units s) (some_fails s.relates ∷ []) (row_sets s) (last_set s.relates)
break_sets s (t ∷ ts) =
    both (row_units s ++ units s.relates) (break_units t ts) (both (row_units s) (units s.relates) (row_sets s) (units_sets s.relates)) (break_sets t ts)

walk_sets : (ss : List ScanLiterals) → list_all is_set (walk_units ss) ≡ true
walk_sets [] = refl
walk_sets (s ∷ ss) = both (row_units s) (walk_units ss) (row_sets s) (walk_sets ss)

begun_sets : (n : Netlist) (ss : List ScanLiterals) → list_all is_set (begun_formula n ss).clauses ≡ true
begun_sets n [] = refl
begun_sets n (s ∷ ss) = with_gates_sets n s.begun (row_units s) (row_sets s)

listed_sets : (n : Netlist) (ss : List ScanLiterals) → list_all is_set (listed_formula n ss).clauses ≡ true
listed_sets n [] = refl
listed_sets n (s ∷ ss) = with_gates_sets n (last_count s ss) (break_units s ss) (break_sets s ss)

walked_sets : (n : Netlist) (ss : List ScanLiterals) → list_all is_set (walked_formula n ss).clauses ≡ true
walked_sets n [] = refl
walked_sets n (s ∷ ss) = with_gates_sets n (last_begun s ss) (walk_units (s ∷ ss)) (walk_sets (s ∷ ss))

premises_sets : (p : ProductLits) (set : CandidateSet) → list_all is_set (premises_of p set) ≡ true
premises_sets p set =
    let inside = both (units (negations p.outside)) (units (members_of set p.before)) (units_sets (negations p.outside)) (units_sets (members_of set p.before)) in
    both (units (negations p.outside) ++ units (members_of set p.before)) (units p.environment) inside (units_sets p.environment)

pair_sets : (p : ProductLits) (set : CandidateSet) (ls : List Lit) → list_all is_set (with_gates p.net (length p.net.gates) (premises_of p set ++ some_fails ls ∷ [])).clauses ≡ true
pair_sets p set ls =
    with_gates_sets p.net (length p.net.gates) (premises_of p set ++ some_fails ls ∷ []) (both (premises_of p set) (some_fails ls ∷ []) (premises_sets p set) (last_set ls))

pub formula_sets : (p : Product) (b : Breaks) (q : QueryData) → list_all is_set (formula_by p b q).clauses ≡ true
formula_sets p b first = begun_sets b.net b.scans
formula_sets p b (step set) = pair_sets p.lits set (members_of set p.lits.after)
formula_sets p b (goal set) = pair_sets p.lits set p.lits.relates
formula_sets p b (deep scans) = listed_sets b.net (take scans b.scans)
formula_sets p b (walk rows) = walked_sets b.net (take rows b.scans)
