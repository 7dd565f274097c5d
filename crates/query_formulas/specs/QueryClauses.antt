-- The formula of each query: the clause (1), the clauses of the gates, clauses of one literal each, and a last clause.
use Rattle.std.specs.Prelude.{ℕ, ◌+◌, ◌-◌, List, [], ◌∷◌, ◌++◌, map, length, take, if◌then◌else◌, IsTrue, All}
use Rattle.std.specs.List.{list_all}
use Rattle.clause_core.specs.declared.literal.Lit.{Lit}
use Rattle.clause_core.specs.Values.{negation}
use Rattle.clause_core.specs.Clauses.{set_of, is_inside}
use Rattle.clause_core.specs.Formula.{Formula}
use Rattle.gates.specs.Literals.{true_lit}
use Rattle.gates.specs.Netlists.{Netlist}
use Rattle.gates.specs.Clauses.{clauses_from}
use Rattle.gates.specs.Order.{IsOrdered}
use Rattle.scan_model.specs.Verdicts.{CandidateSet}
use Rattle.queries.specs.Questions.{QueryData, first, step, goal, deep, walk}
use Rattle.query_formulas.specs.Parts.{Parts}
use Rattle.query_formulas.specs.Products.{ProductLits, Product, product_of}
use Rattle.query_formulas.specs.Breaks.{ScanLiterals, Breaks, breaks_of}

abbrev pub negations : List Lit → List Lit
negations ls = map negation ls

abbrev pub units : List Lit → List (List Lit)
units ls = map (λ l. l ∷ []) ls

-- one of the literals is not true
abbrev pub some_fails : List Lit → List Lit
some_fails ls = set_of (negations ls)

-- the literals of the candidates of a set, the first of the list being the candidate of a number
abbrev pub members_from : ℕ → CandidateSet → List Lit → List Lit
members_from n set [] = []
members_from n set (l ∷ ls) = (if set n then l ∷ [] else []) ++ members_from (n + 1) set ls

abbrev pub members_of : CandidateSet → List Lit → List Lit
members_of set ls = members_from 0 set ls

-- Over the variables of a circuit, which are TRUE, its free bits and its gates up to a count: the clause (1), and those gates' clauses.
abbrev pub gates_formula : Netlist → ℕ → Formula
gates_formula n count = record { variables = n.first - 1 + count; clauses = (true_lit ∷ []) ∷ clauses_from n.first (take count n.gates) }

abbrev pub with_gates : Netlist → ℕ → List (List Lit) → Formula
with_gates n count more = record { variables = (gates_formula n count).variables; clauses = (gates_formula n count).clauses ++ more }

-- each literal is one of so many variables
abbrev pub AreInside : ℕ → List Lit → Type 0
AreInside variables ls = IsTrue (list_all (is_inside variables) ls)

-- ---- one scan from any pair

-- the circuit's gates stand after their operands, and the literals are those of its variables
pub record IsProductInOrder (p : ProductLits) : Type 0 where
  pub ordered : IsOrdered p.net
  pub outside : AreInside (p.net.first - 1 + length p.net.gates) p.outside
  pub before : AreInside (p.net.first - 1 + length p.net.gates) p.before
  pub environment : AreInside (p.net.first - 1 + length p.net.gates) p.environment
  pub after : AreInside (p.net.first - 1 + length p.net.gates) p.after
  pub relates : AreInside (p.net.first - 1 + length p.net.gates) p.relates

-- all lies in its range, the set holds before, and the row is allowed
abbrev pub premises_of : ProductLits → CandidateSet → List (List Lit)
premises_of p set = units (negations p.outside) ++ units (members_of set p.before) ++ units p.environment

abbrev pub step_formula : ProductLits → CandidateSet → Formula
step_formula p set = with_gates p.net (length p.net.gates) (premises_of p set ++ some_fails (members_of set p.after) ∷ [])

abbrev pub goal_formula : ProductLits → CandidateSet → Formula
goal_formula p set = with_gates p.net (length p.net.gates) (premises_of p set ++ some_fails p.relates ∷ [])

-- ---- scans from the start

abbrev pub row_units : ScanLiterals → List (List Lit)
row_units s = units (negations s.outside) ++ units s.environment

-- the first of the scans begins
abbrev pub begun_formula : Netlist → List ScanLiterals → Formula
begun_formula n [] = record { variables = 0; clauses = [] }
begun_formula n (s ∷ ss) = with_gates n s.begun (row_units s)

abbrev pub first_formula : Breaks → Formula
first_formula b = begun_formula b.net b.scans

-- rows that are allowed; the pair is related behind each but the last, and not behind that
abbrev pub break_units : ScanLiterals → List ScanLiterals → List (List Lit)
break_units s [] = row_units s ++ some_fails s.relates ∷ []
break_units s (t ∷ ts) = row_units s ++ units s.relates ++ break_units t ts

abbrev pub last_count : ScanLiterals → List ScanLiterals → ℕ
last_count s [] = s.ended
last_count s (t ∷ ts) = last_count t ts

-- a break of the scans that are listed
abbrev pub listed_formula : Netlist → List ScanLiterals → Formula
listed_formula n [] = record { variables = 0; clauses = [] }
listed_formula n (s ∷ ss) = with_gates n (last_count s ss) (break_units s ss)

abbrev pub break_formula : Breaks → ℕ → Formula
break_formula b scans = listed_formula b.net (take scans b.scans)

-- rows that are allowed, and no more
abbrev pub walk_units : List ScanLiterals → List (List Lit)
walk_units [] = []
walk_units (s ∷ ss) = row_units s ++ walk_units ss

-- how many gates there are up to the ENV clauses of the last scan
abbrev pub last_begun : ScanLiterals → List ScanLiterals → ℕ
last_begun s [] = s.begun
last_begun s (t ∷ ts) = last_begun t ts

-- allowed rows of the scans that are listed
abbrev pub walked_formula : Netlist → List ScanLiterals → Formula
walked_formula n [] = record { variables = 0; clauses = [] }
walked_formula n (s ∷ ss) = with_gates n (last_begun s ss) (walk_units (s ∷ ss))

abbrev pub walk_formula : Breaks → ℕ → Formula
walk_formula b rows = walked_formula b.net (take rows b.scans)

-- ---- order

-- a scan's literals are those of the variables up to its counts
pub record IsScanInside (first : ℕ) (s : ScanLiterals) : Type 0 where
  pub outside : AreInside (first - 1 + s.begun) s.outside
  pub environment : AreInside (first - 1 + s.begun) s.environment
  pub relates : AreInside (first - 1 + s.ended) s.relates

-- the circuit's gates stand after their operands, and the literals of each scan are those of its variables
pub record AreBreaksInOrder (b : Breaks) : Type 0 where
  pub ordered : IsOrdered b.net
  pub scans : All (IsScanInside b.net.first) b.scans

-- ---- all queries

abbrev pub formula_by : Product → Breaks → QueryData → Formula
formula_by p b first = first_formula b
formula_by p b (step set) = step_formula p.lits set
formula_by p b (goal set) = goal_formula p.lits set
formula_by p b (deep scans) = break_formula b scans
formula_by p b (walk rows) = walk_formula b rows

-- by the circuits of at most so many gates
abbrev pub formula_of : Parts → ℕ → QueryData → Formula
formula_of parts limit q = formula_by (product_of parts limit) (breaks_of parts limit) q
