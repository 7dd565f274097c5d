-- How many clauses the formulas have.
use Rattle.std.proofs.Common.{◌≡◌, ℕ, zero, suc, ◌+◌, ◌*◌, ◌^◌, ◌<◌, ◌≤◌, Bool, true, false, refl, ◌∙◌, ap, subst, List, [], ◌∷◌, ◌++◌, length, map, take, length-append, arith}
use Rattle.std.specs.Prelude.{All, if◌then◌else◌}
use Rattle.std.proofs.Math.Nat.{suc-mul}
use Rattle.std.proofs.lemmas.List.{length-map, length-take}
use Rattle.std.proofs.lemmas.List.Elements.{All-nil, All-cons, All-head, All-tail, All-take}
use Rattle.std.proofs.lemmas.Nat.{mul-le}
use Rattle.clause_core.specs.declared.literal.Lit.{Lit}
use Rattle.clause_core.specs.declared.gate.Gate.{Gate}
use Rattle.clause_core.specs.declared.gate.Gate.TheVariants.{And, Xor, Mux}
use Rattle.clause_core.specs.Values.{negation}
use Rattle.clause_core.specs.Formula.{Formula}
use Rattle.gates.specs.Netlists.{Netlist}
use Rattle.gates.specs.Clauses.{gate_clauses, clauses_from}
use Rattle.node_core.specs.Scans.{ScanData, ClauseData, clause_of}
use Rattle.node_circuits.specs.NodeWords.{Words}
use Rattle.scan_model.specs.Verdicts.{CandidateSet}
use Rattle.queries.specs.Comparisons.{Comparison, IsComparison}
use Rattle.queries.specs.Questions.{QueryData, first, step, goal, deep, walk}
use Rattle.query_formulas.specs.declared.shapes.CellShape.{CellShape}
use Rattle.query_formulas.specs.CellShapes.{bits_of, shape_of}
use Rattle.query_formulas.specs.Parts.{Parts, parts_of}
use Rattle.query_formulas.specs.PairWords.{PairWords, free_words, loaded_words, clause_words}
use Rattle.query_formulas.specs.Literals.{MadeLiterals, none_made, outside_cell, outside_one, outside_cells, clause_literal, clause_literals, pair_literals}
use Rattle.query_formulas.specs.PairScans.{scanned_pair}
use Rattle.query_formulas.specs.Products.{ProductLits, loaded_row, product_from, product_bits, product_of}
use Rattle.query_formulas.specs.Breaks.{ScanLiterals, scan_from, scans_from, start_words, breaks_bits, breaks_of}
use Rattle.query_formulas.specs.QueryClauses.{negations, units, members_from, members_of, some_fails, gates_formula, with_gates, premises_of, row_units, break_units, walk_units, last_count, last_begun, listed_formula, walked_formula, first_formula, break_formula, walk_formula, formula_of}
use Rattle.query_formula_laws.proofs.FromStart.{walked_one}
use Rattle.product_build.specs.Limits.{most_gates, HasFewGates, HasFewLines}
use Rattle.product_build.proofs.Few.{few_cells, length-lines}

-- ---- gates

length-gate : (x : ℕ) (g : Gate) → length (gate_clauses x g) ≤ 4
length-gate x (And a b) = omega arith
length-gate x (Xor a b) = omega arith
length-gate x (Mux c a b) = omega arith

length-gates : (x : ℕ) (gs : List Gate) → length (clauses_from x gs) ≤ 4 * length gs
length-gates x [] = omega arith
length-gates x (g ∷ gs) =
    let one = length-gate x g in
    let rest = length-gates (x + 1) gs in
    omega (arith, one, rest, length-append (gate_clauses x g) (clauses_from (x + 1) gs))

-- a formula of few gates and few clauses more
with_few : (n : Netlist) (count k : ℕ) (more : List (List Lit)) → length n.gates ≤ most_gates → length more ≤ k → length (with_gates n count more).clauses ≤ 67108865 + k
with_few n count k more gates h =
    let few = length-gates n.first (take count n.gates) in
    omega (arith, few, length-take count n.gates, length-append (gates_formula n count).clauses more)

-- ---- units

length-negative : (ls : List Lit) → length (units (negations ls)) ≡ length ls
length-negative ls = length-map (negations ls) (λ l. l ∷ []) ∙ length-map ls negation

length-units : (ls : List Lit) → length (units ls) ≡ length ls
length-units ls = length-map ls (λ l. l ∷ [])

length-if : (b : Bool) (l : Lit) (ms : List Lit) (k : ℕ) → length ms ≤ k → length ((if b then l ∷ [] else []) ++ ms) ≤ suc k
length-if true l ms k h = omega arith
length-if false l ms k h = omega arith

length-members : (n : ℕ) (set : CandidateSet) (ls : List Lit) → length (members_from n set ls) ≤ length ls
length-members n set [] = omega arith
length-members n set (l ∷ ls) = length-if (set n) l (members_from (n + 1) set ls) (length ls) (length-members (n + 1) set ls)

-- ---- literals

length-outside_one : (c : CellShape) (w : List Lit) (n : Netlist) → length (outside_one c w n).lits ≤ 1
length-outside_one c w n = by_bound c.bounded
  where
    by_bound : (b : Bool) → length (if b then (let m = outside_cell c w n in let r : MadeLiterals = record { lits = m.lit ∷ []; net = m.net } in r) else none_made n).lits ≤ 1
    by_bound true = omega arith
    by_bound false = omega arith

length-outside : (cs : List CellShape) (ws : Words) (n : Netlist) → length (outside_cells cs ws n).lits ≤ length cs
length-outside [] ws n = omega arith
length-outside (c ∷ cs) [] n = omega arith
length-outside (c ∷ cs) (w ∷ ws) n =
    let o = outside_one c w n in
    let one = length-outside_one c w n in
    let rest = length-outside cs ws o.net in
    omega (arith, one, rest, length-append o.lits (outside_cells cs ws o.net).lits)

length-clauses : (starts : Words) (cs : List ClauseData) (n : Netlist) → length (clause_literals starts cs n).lits ≡ length cs
length-clauses starts [] n = refl
length-clauses starts (c ∷ cs) n = ap suc (length-clauses starts cs (clause_literal starts c n).net)

-- ---- one scan from any pair

record IsSmallProduct (parts : Parts) (p : ProductLits) : Type 0 where
  outside : length p.outside ≤ length parts.old + length parts.new + length parts.lines
  before : length p.before ≡ length parts.candidates
  environment : length p.environment ≡ length parts.environment

small_product : (parts : Parts) (pair : PairWords) (inputs : Words) (n : Netlist) → IsSmallProduct parts (product_from parts pair inputs n)
small_product parts pair inputs n =
    let o = outside_cells parts.old pair.old n in
    let w = outside_cells parts.new pair.new o.net in
    let i = outside_cells parts.lines inputs w.net in
    let b = pair_literals pair parts.candidates i.net in
    let a = length-outside parts.old pair.old n in
    let d = length-outside parts.new pair.new o.net in
    let l = length-outside parts.lines inputs w.net in
    record {
      outside = omega (arith, a, d, l, length-append (o.lits ++ w.lits) i.lits, length-append o.lits w.lits);
      before = length-clauses (clause_words pair) parts.candidates i.net;
      environment = length-clauses (clause_words (loaded_words parts.inputs inputs pair)) parts.environment b.net;
    }

length-premises : (p : ProductLits) (set : CandidateSet) → length (premises_of p set) ≤ length p.outside + length p.before + length p.environment
length-premises p set =
    let a = length-append (units (negations p.outside) ++ units (members_of set p.before)) (units p.environment) in
    let b = length-append (units (negations p.outside)) (units (members_of set p.before)) in
    omega (arith, a, b, length-negative p.outside, length-units (members_of set p.before), length-members 0 set p.before, length-units p.environment)

-- ---- scans from the start

record IsSmallScan (parts : Parts) (s : ScanLiterals) : Type 0 where
  outside : length s.outside ≤ length parts.lines
  environment : length s.environment ≡ length parts.environment
  relates : length s.relates ≡ length parts.relates

small_scans : (parts : Parts) (k v : ℕ) (pair : PairWords) (n : Netlist) → All (IsSmallScan parts) (scans_from parts k v pair n).scans
small_scans parts zero v pair n = All-nil (IsSmallScan parts)
small_scans parts (suc k) v pair n =
    let inputs = free_words v parts.lines in
    let s = scan_from parts inputs pair n in
    let o = outside_cells parts.lines inputs n in
    let e = loaded_row parts inputs pair o.net in
    let behind = scanned_pair parts.old_scan parts.new_scan e.pair e.net in
    let next : ℕ = v + bits_of parts.lines in
    All-cons (IsSmallScan parts) s.lits (scans_from parts k next s.pair s.net).scans
    (record {
      outside = length-outside parts.lines inputs n;
      environment = length-clauses (clause_words e.pair) parts.environment o.net;
      relates = length-clauses (clause_words behind.pair) parts.relates behind.net;
    })
    (small_scans parts k next s.pair s.net)

length-scans : (parts : Parts) (k v : ℕ) (pair : PairWords) (n : Netlist) → length (scans_from parts k v pair n).scans ≡ k
length-scans parts zero v pair n = refl
length-scans parts (suc k) v pair n =
    let s = scan_from parts (free_words v parts.lines) pair n in
    ap suc (length-scans parts k (v + bits_of parts.lines) s.pair s.net)

-- how many clauses a scan has at most
abbrev each : Parts → ℕ
each parts = length parts.lines + length parts.environment + length parts.relates + 1

length-row : (parts : Parts) (s : ScanLiterals) → IsSmallScan parts s → length (row_units s) ≤ length parts.lines + length parts.environment
length-row parts s h =
    omega (arith, h.outside, h.environment, length-append (units (negations s.outside)) (units s.environment), length-negative s.outside, length-units s.environment)

length-break : (parts : Parts) (s : ScanLiterals) (ss : List ScanLiterals) → IsSmallScan parts s → All (IsSmallScan parts) ss → length (break_units s ss) ≤ suc (length ss) * each parts
length-break parts s [] h hs =
    let row = length-row parts s h in
    let one : 1 * each parts ≡ each parts = omega arith in
    omega (arith, row, one, length-append (row_units s) (some_fails s.relates ∷ []))
length-break parts s (t ∷ ts) h hs =
    let row = length-row parts s h in
    let rest = length-break parts t ts (All-head (IsSmallScan parts) t ts hs) (All-tail (IsSmallScan parts) t ts hs) in
    omega (arith, row, rest, h.relates, suc-mul (suc (length ts)) (each parts), length-append (row_units s ++ units s.relates) (break_units t ts), length-append (row_units s) (units s.relates), length-units s.relates)

length-listed : (parts : Parts) (n : Netlist) (ss : List ScanLiterals) → length n.gates ≤ most_gates → All (IsSmallScan parts) ss → length ss ≤ 64 → length (listed_formula n ss).clauses ≤ 67108865 + 64 * each parts
length-listed parts n [] gates h few = omega arith
length-listed parts n (s ∷ ss) gates h few =
    let one = length-break parts s ss (All-head (IsSmallScan parts) s ss h) (All-tail (IsSmallScan parts) s ss h) in
    let all = mul-le (suc (length ss)) (each parts) 64 (each parts) (omega (arith, few)) (omega arith) in
    with_few n (last_count s ss) (64 * each parts) (break_units s ss) gates (omega (arith, one, all))

length-walk : (parts : Parts) (ss : List ScanLiterals) → All (IsSmallScan parts) ss → length (walk_units ss) ≤ length ss * each parts
length-walk parts [] h = omega arith
length-walk parts (s ∷ ss) h =
    let row = length-row parts s (All-head (IsSmallScan parts) s ss h) in
    let rest = length-walk parts ss (All-tail (IsSmallScan parts) s ss h) in
    omega (arith, row, rest, suc-mul (length ss) (each parts), length-append (row_units s) (walk_units ss))

length-walked : (parts : Parts) (n : Netlist) (ss : List ScanLiterals) → length n.gates ≤ most_gates → All (IsSmallScan parts) ss → length ss ≤ 64 → length (walked_formula n ss).clauses ≤ 67108865 + 64 * each parts
length-walked parts n [] gates h few = omega arith
length-walked parts n (s ∷ ss) gates h few =
    let one = length-walk parts (s ∷ ss) h in
    let all = mul-le (suc (length ss)) (each parts) 64 (each parts) (omega (arith, few)) (omega arith) in
    with_few n (last_begun s ss) (64 * each parts) (walk_units (s ∷ ss)) gates (omega (arith, one, all))

-- ---- of a comparison

length-parts : (c : Comparison) (old new : ScanData) → IsComparison c → HasFewLines c → each (parts_of c old new) ≤ 1052673
length-parts c old new is lines =
    let cells = few_cells c is in
    let count : ℕ = length c.old.cells + length c.new.cells in
    omega (arith, cells, lines.inputs, lines.environment, length-lines c, length-map c.relation.environment (clause_of count), length-map c.relation.relates (clause_of count))

module _ (c : Comparison) (old new : ScanData) (is : IsComparison c) (lines : HasFewLines c) (gates : HasFewGates c old new) where
  length-given : (set : CandidateSet) → length (premises_of (product_of (parts_of c old new) most_gates).lits set) ≤ 1100000
  length-given set =
      let parts = parts_of c old new in
      let p = product_of parts most_gates in
      let small = small_product parts p.pair p.inputs (record { first = product_bits parts + 2; limit = most_gates; gates = [] }) in
      let count : ℕ = length c.old.cells + length c.new.cells in
      let cells = few_cells c is in
      let given = length-premises p.lits set in
      omega (
        arith,
        cells,
        given,
        small.outside,
        small.before,
        small.environment,
        is.few,
        lines.inputs,
        lines.environment,
        length-map c.old.cells shape_of,
        length-map c.new.cells shape_of,
        length-lines c,
        length-map c.relation.environment (clause_of count),
        length-map (map (λ k. k.clause) c.relation.candidates) (clause_of count),
        length-map c.relation.candidates (λ k. k.clause),
      )

  product_few : (set : CandidateSet) (last : List Lit) → length (with_gates (product_of (parts_of c old new) most_gates).lits.net (length (product_of (parts_of c old new) most_gates).lits.net.gates) (premises_of (product_of (parts_of c old new) most_gates).lits set ++ last ∷ [])).clauses < 2 ^ 31
  product_few set last =
      let p = (product_of (parts_of c old new) most_gates).lits in
      let given = length-given set in
      let all = with_few p.net (length p.net.gates) 1100001 (premises_of p set ++ last ∷ []) gates.product (omega (arith, given, length-append (premises_of p set) (last ∷ []))) in
      omega (arith, all)

  small_of : All (IsSmallScan (parts_of c old new)) (breaks_of (parts_of c old new) most_gates).scans
  small_of =
      let parts = parts_of c old new in
      small_scans parts parts.depth 2 (start_words parts) (record { first = breaks_bits parts + 2; limit = most_gates; gates = [] })

  few_scans : (k : ℕ) → length (take k (breaks_of (parts_of c old new) most_gates).scans) ≤ 64
  few_scans k =
      let parts = parts_of c old new in
      let ss = (breaks_of parts most_gates).scans in
      let long : length ss ≡ c.relation.depth = length-scans parts parts.depth 2 (start_words parts) (record { first = breaks_bits parts + 2; limit = most_gates; gates = [] }) in
      omega (arith, long, length-take k ss, is.depth)

  break_few : (scans : ℕ) → length (break_formula (breaks_of (parts_of c old new) most_gates) scans).clauses < 2 ^ 31
  break_few scans =
      let parts = parts_of c old new in
      let b = breaks_of parts most_gates in
      let all = length-listed parts b.net (take scans b.scans) gates.breaks (All-take (IsSmallScan parts) scans b.scans small_of) (few_scans scans) in
      let few = length-parts c old new is lines in
      omega (arith, all, few)

  walk_few : (rows : ℕ) → length (walk_formula (breaks_of (parts_of c old new) most_gates) rows).clauses < 2 ^ 31
  walk_few rows =
      let parts = parts_of c old new in
      let b = breaks_of parts most_gates in
      let all = length-walked parts b.net (take rows b.scans) gates.breaks (All-take (IsSmallScan parts) rows b.scans small_of) (few_scans rows) in
      let few = length-parts c old new is lines in
      omega (arith, all, few)

  -- a walk of one row
  first_few : length (first_formula (breaks_of (parts_of c old new) most_gates)).clauses < 2 ^ 31
  first_few =
      let b = breaks_of (parts_of c old new) most_gates in
      subst (λ (f : Formula). length f.clauses < 2 ^ 31) (walked_one b.net b.scans) (walk_few 1)

  pub query_few : (q : QueryData) → length (formula_of (parts_of c old new) most_gates q).clauses < 2 ^ 31
  query_few first = first_few
  query_few (step set) = let p = (product_of (parts_of c old new) most_gates).lits in product_few set (some_fails (members_of set p.after))
  query_few (goal set) = let p = (product_of (parts_of c old new) most_gates).lits in product_few set (some_fails p.relates)
  query_few (deep scans) = break_few scans
  query_few (walk rows) = walk_few rows
