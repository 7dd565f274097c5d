-- How many cells, bits and literals there are at most.
use Rattle.std.proofs.Common.{◌≡◌, ℕ, suc, ◌+◌, ◌-◌, ◌*◌, ◌^◌, ◌<◌, ◌≤◌, refl, ◌∙◌, ap, List, [], ◌∷◌, ◌++◌, length, length-append, arith, Bool}
use Rattle.std.specs.Prelude.{codes}
use Rattle.std.proofs.lemmas.List.{length-map}
use Rattle.std.proofs.lemmas.Nat.{mul-le}
use Rattle.plc_types.specs.declared.elementary.Elementary.{Elementary}
use Rattle.plc_types.specs.declared.elementary.Elementary.TheVariants as types
use Rattle.plc_types.specs.Types.{width_of}
use Rattle.plc_types.specs.Enumerations.{paired_type}
use Rattle.plc_types.proofs.Widths.{at_most_64_bits}
use Rattle.program_tree.specs.Tree.{Expression, CellData}
use Rattle.scan_model.specs.Pairs.{CandidateData}
use Rattle.scan_model.specs.Candidates.{numbered, same_cells, relate_clauses, initial_values, exclusive_steps, paths_of, candidates_of}
use Rattle.queries.specs.Comparisons.{Comparison, IsComparison}
use Rattle.node_core.specs.Scans.{ScanData}
use Rattle.query_formulas.specs.declared.shapes.CellShape.{CellShape}
use Rattle.query_formulas.specs.CellShapes.{bits_of, shape_of, shapes_of, cell_of_line}
use Rattle.query_formulas.specs.Parts.{lines_cells, parts_of}
use Rattle.query_formulas.specs.Products.{product_bits}
use Rattle.query_formulas.specs.Breaks.{breaks_bits}
use Rattle.product_build.specs.Limits.{most_gates, HasFewLines}

-- ---- cells and RELATE clauses

length-relates : (b : Bool) (n : ℕ) (es : List Expression) → length (relate_clauses b n es) ≡ length es
length-relates b n [] = refl
length-relates b n (e ∷ []) = refl
length-relates b n (e ∷ f ∷ es) = ap suc (length-relates b (n + 1) (f ∷ es))

length-initial : (word : List ℕ) (place : ℕ) (cells : List CellData) → length (initial_values word place cells) ≡ length cells
length-initial word place [] = refl
length-initial word place (c ∷ cs) = ap suc (length-initial word (place + 1) cs)

length-seven : {X : Type 0} (a b r o n c d : List X) → length r + length o + length n ≤ length (a ++ b ++ r ++ o ++ n ++ c ++ d)
length-seven a b r o n c d = simp length-append (omega arith)

-- there is a candidate for each RELATE clause and for each cell
pub few_cells : (c : Comparison) → IsComparison c → length c.relation.relates + length c.old.cells + length c.new.cells ≤ 4096
few_cells c is =
    let inv : List CandidateData = numbered (codes "INVARIANT ") 1 c.relation.invariants in
    let same : List CandidateData = same_cells (paired_type c.old.types c.new.types) 0 (length c.old.cells) c.new.cells c.old.cells in
    let rel : List CandidateData = relate_clauses c.relation.equal_faults 1 c.relation.relates in
    let olds : List CandidateData = initial_values (codes "OLD") 0 c.old.cells in
    let news : List CandidateData = initial_values (codes "NEW") (length c.old.cells) c.new.cells in
    let e : length c.relation.candidates ≡ length (candidates_of c.old c.new c.relation) = ap length is.listed in
    let all = length-seven inv same rel olds news (exclusive_steps (codes "OLD") 0 (paths_of c.old.cells) c.old.charts) (exclusive_steps (codes "NEW") (length c.old.cells) (paths_of c.new.cells) c.new.charts) in
    let r : length rel ≡ length c.relation.relates = length-relates c.relation.equal_faults 1 c.relation.relates in
    let o : length olds ≡ length c.old.cells = length-initial (codes "OLD") 0 c.old.cells in
    let n : length news ≡ length c.new.cells = length-initial (codes "NEW") (length c.old.cells) c.new.cells in
    omega (arith, e, all, r, o, n, is.few)

-- ---- bits

pub narrow_cell : (c : CellShape) → width_of c.kind ≤ 64
narrow_cell c = at_most_64_bits c.kind

bits_few : (cs : List CellShape) → bits_of cs ≤ 64 * length cs
bits_few [] = omega arith
bits_few (c ∷ cs) = let w = at_most_64_bits c.kind in let rest = bits_few cs in omega (arith, w, rest)

-- there is a shape for each INPUT line
pub length-lines : (c : Comparison) → length (shapes_of (lines_cells c)) ≡ length c.relation.inputs
length-lines c = length-map (lines_cells c) shape_of ∙ length-map c.relation.inputs (cell_of_line c.old c.new)

pub product_few : (c : Comparison) (old new : ScanData) → IsComparison c → HasFewLines c → product_bits (parts_of c old new) + most_gates < 2 ^ 31 - 1
product_few c old new is lines =
    let cells = few_cells c is in
    let a = bits_few (shapes_of c.old.cells) in
    let b = bits_few (shapes_of c.new.cells) in
    let l = bits_few (shapes_of (lines_cells c)) in
    let la : length (shapes_of c.old.cells) ≡ length c.old.cells = length-map c.old.cells shape_of in
    let lb : length (shapes_of c.new.cells) ≡ length c.new.cells = length-map c.new.cells shape_of in
    let ll = length-lines c in
    omega (arith, cells, a, b, l, la, lb, ll, lines.inputs)

pub breaks_few : (c : Comparison) (old new : ScanData) → IsComparison c → HasFewLines c → breaks_bits (parts_of c old new) + most_gates < 2 ^ 31 - 1
breaks_few c old new is lines =
    let shapes : List CellShape = shapes_of (lines_cells c) in
    let l = bits_few shapes in
    let ll = length-lines c in
    let some : bits_of shapes ≤ 16777216 = omega (arith, l, ll, lines.inputs) in
    let all = mul-le c.relation.depth (bits_of shapes) 64 16777216 is.depth some in
    omega (arith, all)

pub few_words : (c : Comparison) → IsComparison c → length c.old.cells + length c.new.cells < 2 ^ 63
few_words c is = let cells = few_cells c is in omega (arith, cells)
