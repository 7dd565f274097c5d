-- Parts of a pair that have the same fields.
use Rattle.std.proofs.Common.{◌≡◌, ℕ, List, [], ◌∷◌, map, refl, ap, ◌∙◌}
use Rattle.program_tree.specs.View.{expr_view}
use Rattle.scan_model.specs.declared.relation.Candidate.{Candidate}
use Rattle.scan_model.specs.declared.relation.InputLine.{InputLine}
use Rattle.scan_model.specs.Pairs.{clauses_among, candidates_view}
use Rattle.node_core.specs.Scans.{ScanData, ClauseData}
use Rattle.query_formulas.specs.declared.shapes.CellShape.{CellShape}
use Rattle.query_formulas.specs.Parts.{Parts}

abbrev pub parts_with : List CellShape → List CellShape → List CellShape → List InputLine → ScanData → ScanData → List ClauseData → List ClauseData → List ClauseData → ℕ → Parts
parts_with a b l i s t c e r d = record { old = a; new = b; lines = l; inputs = i; old_scan = s; new_scan = t; candidates = c; environment = e; relates = r; depth = d }

pub same_parts : (a x b y l m : List CellShape) (i j : List InputLine) (s t : ScanData) (c g e h r k : List ClauseData) (d : ℕ)
    → a ≡ x → b ≡ y → l ≡ m → i ≡ j → c ≡ g → e ≡ h → r ≡ k → parts_with a b l i s t c e r d ≡ parts_with x y m j s t g h k d
same_parts a x b y l m i j s t c g e h r k d ea eb el ei ec ee er =
    ap (λ z. parts_with z b l i s t c e r d) ea
    ∙ (ap (λ z. parts_with x z l i s t c e r d) eb
    ∙ (ap (λ z. parts_with x y z i s t c e r d) el
    ∙ (ap (λ z. parts_with x y m z s t c e r d) ei
    ∙ (ap (λ z. parts_with x y m j s t z e r d) ec
    ∙ (ap (λ z. parts_with x y m j s t g z r d) ee ∙ ap (λ z. parts_with x y m j s t g h z d) er)))))

-- the clauses of candidates
pub clauses_fused : (cs : List Candidate) → clauses_among cs ≡ map (λ k. k.clause) (candidates_view cs)
clauses_fused [] = refl
clauses_fused (c ∷ cs) = ap (λ es. expr_view c.clause ∷ es) (clauses_fused cs)
