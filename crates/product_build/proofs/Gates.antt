-- Whether the circuits that are made have more gates than they may have.
use Rattle.std.proofs.Common.{◌≡◌, ℕ, ◌+◌, ◌<◌, ◌≤◌, ◌∙◌, ap, subst, [], length, arith}
use Rattle.std.specs.Prelude.{Result, Err, IfErr}
use Rattle.gates.specs.declared.circuit.GateFault.{GateFault}
use Rattle.gates.specs.declared.circuit.GateFault.TheVariants.{TooMany}
use Rattle.gates.specs.Netlists.{Netlist, IsOverfull, IsWithinLimit}
use Rattle.node_core.specs.Scans.{ScanData}
use Rattle.queries.specs.Comparisons.{Comparison}
use Rattle.query_formulas.specs.Parts.{Parts, parts_of}
use Rattle.query_formulas.specs.Products.{Product, product_of}
use Rattle.query_formulas.specs.Breaks.{Breaks, start_words, breaks_bits, breaks_of}
use Rattle.query_formulas.proofs.Growth.{extends_scans_from}
use Rattle.query_formula_laws.proofs.Orders.{extends_product}
use Rattle.product_build.specs.Limits.{most_gates, HasFewGates, HasManyGates, in_product, in_breaks}

-- ---- the limit stays

product_limit : (parts : Parts) (limit : ℕ) → (product_of parts limit).lits.net.limit ≡ limit
product_limit parts limit = (extends_product parts limit).limit

breaks_limit : (parts : Parts) (limit : ℕ) → (breaks_of parts limit).net.limit ≡ limit
breaks_limit parts limit = (extends_scans_from parts parts.depth 2 (start_words parts) (record { first = breaks_bits parts + 2; limit = limit; gates = [] })).limit

-- ---- both circuits

-- a fault that is handed on, and what it says
pub handed : {T : Type 0} (A B : Type 0) (result : Result T GateFault) (given fault : GateFault) → result ≡ Err given → given ≡ fault → (fault ≡ TooMany → A) → (A → B) → IfErr result (λ f. f ≡ TooMany → B)
handed A B result given fault e f says more = rw (e, f) (λ many. more (says many))

few : (n : Netlist) → n.limit ≡ most_gates → IsWithinLimit n → length n.gates ≤ most_gates
few n e h = omega (arith, e, h)

many : (n : Netlist) → n.limit ≡ most_gates → IsOverfull n → most_gates < length n.gates
many n e h = omega (arith, e, h.over)

module _ (c : Comparison) (old new : ScanData) (parts : Parts) (same : parts ≡ parts_of c old new) where
  pub few_gates : (p : Product) (b : Breaks) → p ≡ product_of parts most_gates → b ≡ breaks_of parts most_gates → IsWithinLimit p.lits.net → IsWithinLimit b.net → HasFewGates c old new
  few_gates p b e f h k =
      let meant = parts_of c old new in
      let product : p ≡ product_of meant most_gates = e ∙ ap (λ (x : Parts). product_of x most_gates) same in
      let breaks : b ≡ breaks_of meant most_gates = f ∙ ap (λ (x : Parts). breaks_of x most_gates) same in
      record {
        product = few (product_of meant most_gates).lits.net (product_limit meant most_gates) (subst (λ (x : Product). IsWithinLimit x.lits.net) product h);
        breaks = few (breaks_of meant most_gates).net (breaks_limit meant most_gates) (subst (λ (x : Breaks). IsWithinLimit x.net) breaks k);
      }

  pub many_in_product : IsOverfull (product_of parts most_gates).lits.net → HasManyGates c old new
  many_in_product h =
      let meant = parts_of c old new in
      in_product (many (product_of meant most_gates).lits.net (product_limit meant most_gates) (subst (λ (x : Parts). IsOverfull (product_of x most_gates).lits.net) same h))

  pub many_in_breaks : IsOverfull (breaks_of parts most_gates).net → HasManyGates c old new
  many_in_breaks h =
      let meant = parts_of c old new in
      in_breaks (many (breaks_of meant most_gates).net (breaks_limit meant most_gates) (subst (λ (x : Parts). IsOverfull (breaks_of x most_gates).net) same h))
