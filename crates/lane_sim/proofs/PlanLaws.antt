-- What the steps of a layout are for runs.
use Rattle.std.proofs.Common.{◌≡◌, ℕ, ◌+◌, ◌-◌, ◌<◌, ◌≤◌, Bool, true, false, Some, None, refl, sym, ◌∙◌, ap, inl, inr, List, length, arith}
use Rattle.std.specs.Prelude.{nat_lt, nat_le, slice_index, if◌then◌else◌}
use Rattle.std.proofs.lemmas.Bool.{and_parts, ltb-true, leb-true, cases_eq}
use Rattle.clause_core.specs.declared.literal.Lit.{Lit}
use Rattle.clause_core.specs.Satisfaction.{literal_true}
use Rattle.gates.specs.Models.{IsModel}
use Rattle.gates.specs.Netlists.{Netlist}
use Rattle.gates.specs.Order.{end_of}
use Rattle.lane_sim.specs.declared.step.Step.{Step}
use Rattle.lane_sim.specs.Lanes.{assignment_of, IsRunOf}
use Rattle.lane_sim.specs.Steps.{stepped}
use Rattle.lane_sim.specs.Layouts.{place_in, literal_in, StartsAs}
use Rattle.lane_sim.specs.PlannedRuns.{PlannedRun, AreStepsOf, ReadsAs, is_kept}
use Rattle.lane_sim.proofs.LayoutLaws.{literal_in-true}

-- the words before the steps have TRUE and the free bits
pub starts_as : (n : Netlist) (free words : List (List ℕ)) (j : ℕ) (v : ℕ → Bool) → length free + 2 ≡ n.first → IsRunOf n free j v → assignment_of j words 1 ≡ true
    → ((i : ℕ) → i < length free → assignment_of j words (i + 2) ≡ assignment_of j free i) → StartsAs n.first (assignment_of j words) v
starts_as n free words j v len run one bits x positive below =
    elim (cases_eq x 1) [
      | inl e ↦ ap (assignment_of j words) e ∙ one ∙ sym run.model.one ∙ sym (ap v e)
      | inr ne ↦
          let back : x - 2 + 2 ≡ x = omega arith in
          let inside : x - 2 < length free = omega arith in
          ap (assignment_of j words) (sym back) ∙ bits (x - 2) inside ∙ sym (run.bits (x - 2) inside) ∙ ap v back
    ]

kept_reads : (p : PlannedRun) (w v : ℕ → Bool) (l q : Lit) (b : Bool) → is_kept p l ≡ b
    → ((y : ℕ) → 0 < y → end_of p.net ≤ slice_index p.last y → literal_true w (place_in p.places y) ≡ v y)
    → (if b then Some (literal_in p.places l) else None) ≡ Some q → literal_true w q ≡ literal_true v l
kept_reads p w v l q true kept right e =
    let (positive, late) = and_parts (nat_lt 0 l.variable) (nat_le (end_of p.net) (slice_index p.last l.variable)) kept in
    let is : literal_in p.places l ≡ q = cc in
    ap (literal_true w) (sym is) ∙ literal_in-true w v p.places l (right l.variable (ltb-true 0 l.variable positive) (leb-true (end_of p.net) (slice_index p.last l.variable) late))
kept_reads p w v l q false kept right e = absurd (cc)

-- behind the steps each literal that is kept has its value
pub reads_as : (p : PlannedRun) (steps : List Step) (w v : ℕ → Bool) → AreStepsOf p steps → IsModel v p.net → StartsAs p.net.first w v → ReadsAs p (stepped steps w) v
reads_as p steps w v h model starts l q e = kept_reads p (stepped steps w) v l q (is_kept p l) refl (h.right v w model starts) e
