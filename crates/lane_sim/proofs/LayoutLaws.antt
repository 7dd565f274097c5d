-- A gate's word, put where none is lost that is still read.
use Rattle.std.proofs.Common.{◌≡◌, ◌≢◌, ℕ, zero, suc, ◌+◌, ◌<◌, ◌≤◌, Bool, true, false, not, refl, sym, ◌∙◌, ap, subst, inl, inr, List, [], ◌∷◌, ◌++◌, length, get_or, get_or-set_same, get_or-set_other, arith}
use Rattle.std.specs.Prelude.{nat_eq, slice_index, slice_set, if◌then◌else◌}
use Rattle.std.specs.List.{All}
use Rattle.std.specs.Bool.{beq}
use Rattle.std.proofs.lemmas.Bool.{eq-eqb, ne_eqb, cond-true, cond-false, cases_eq}
use Rattle.std.proofs.lemmas.List.{length-set}
use Rattle.std.proofs.lemmas.List.Elements.{All-append}
use Rattle.clause_core.specs.declared.literal.Lit.{Lit}
use Rattle.clause_core.specs.declared.gate.Gate.{Gate}
use Rattle.clause_core.specs.Satisfaction.{literal_true, signed}
use Rattle.gates.specs.Literals.{plain}
use Rattle.gates.specs.Meaning.{gate_true}
use Rattle.gates.specs.Models.{IsModel, put}
use Rattle.gates.specs.Netlists.{Netlist}
use Rattle.gates.specs.Order.{IsOrdered}
use Rattle.lane_sim.specs.declared.choice.Choice.{Choice}
use Rattle.lane_sim.specs.declared.layout.Layout.{Layout}
use Rattle.lane_sim.specs.declared.step.Step.{Step}
use Rattle.lane_sim.specs.Choices.{EachOf, IsChoiceBelow, choice_of, choice_true}
use Rattle.lane_sim.specs.Steps.{IsStepWithin, target_of, step_true, stepped}
use Rattle.lane_sim.specs.Uses.{IsAlive, IsReadUntil, AreReadFrom}
use Rattle.lane_sim.specs.Layouts.{place_in, literal_in, choice_in, IsTaken, IsHeld, IsRight, StartsAs, IsLaidOut}
use Rattle.lane_sim.proofs.ChoiceLaws.{choice_true-gate, choice_below-at, holds-at}
use Rattle.lane_sim.proofs.StepLaws.{stepped-push}

signs_added : (p s x : Bool) → signed (not (beq p s)) x ≡ signed s (signed p x)
signs_added true true true = refl
signs_added true true false = refl
signs_added true false x = refl
signs_added false true x = refl
signs_added false false x = refl

-- a literal is true where the one over words is
pub literal_in-true : (w v : ℕ → Bool) (places : List Lit) (l : Lit) → literal_true w (place_in places l.variable) ≡ v l.variable → literal_true w (literal_in places l) ≡ literal_true v l
literal_in-true w v places l h =
    let place : Lit = place_in places l.variable in
    signs_added place.negative l.negative (w place.variable) ∙ ap (signed l.negative) h

three_choose : (c d a e b f : Bool) → c ≡ d → a ≡ e → b ≡ f → (if c then a else b) ≡ (if d then e else f)
three_choose c d a e b f p q r = ap (λ z. if z then a else b) p ∙ ap (λ z. if d then z else b) q ∙ ap (λ z. if d then e else z) r

choice_in-true : (w v : ℕ → Bool) (places : List Lit) (c : Choice) → EachOf (λ l. literal_true w (place_in places l.variable) ≡ v l.variable) c → choice_true w (choice_in places c) ≡ choice_true v c
choice_in-true w v places c h =
    three_choose _ _ _ _ _ _ (literal_in-true w v places c.condition h.condition) (literal_in-true w v places c.yes h.yes) (literal_in-true w v places c.no h.no)

-- what a gate changes in the layout
pub record IsAdded (n : Netlist) (last : List ℕ) (k word : ℕ) (negative : Bool) (g : Gate) (step : Step) (p q : Layout) : Type 0 where
  pub taken : IsTaken last (n.first + k) p.holders.items q.holders.items word
  pub value : (w : ℕ → Bool) → signed negative (step_true w step) ≡ choice_true w (choice_in p.places.items (choice_of g))
  pub target : target_of step ≡ word
  pub within : IsStepWithin (length q.holders.items) step
  pub steps : q.steps.items ≡ p.steps.items ++ step ∷ []
  pub places : q.places.items ≡ slice_set p.places.items (n.first + k) (record { variable = word; negative = negative })

-- the gate at a place of an ordered circuit, whose operands are all there
pub record IsNext (n : Netlist) (last : List ℕ) (k : ℕ) (g : Gate) (p : Layout) : Type 0 where
  pub ordered : IsOrdered n
  pub place : k < length n.gates
  pub gate : (d : Gate) → g ≡ get_or n.gates k d
  pub uses : AreReadFrom 0 n last
  pub read : 0 < slice_index last (n.first + k)
  pub laid : IsLaidOut n last (n.first + k) p

step_wider : (m k : ℕ) (s : Step) → m ≤ k → IsStepWithin m s → IsStepWithin k s
step_wider m k s le h = record { condition = omega arith; yes = omega arith; no = omega arith; target = omega arith }

pub steps_wider : (m k : ℕ) (ss : List Step) → m ≤ k → All (IsStepWithin m) ss → All (IsStepWithin k) ss
steps_wider m k ss le h = λ i d lt. step_wider m k (get_or ss i d) le (h i d lt)

one_step : (P : Step → Type 0) (s : Step) → P s → All P (s ∷ [])
one_step P s h zero d lt = h
one_step P s h (suc i) d lt = absurd (omega arith)

-- operands stand before their gate
pub operands_below : (n : Netlist) (k : ℕ) (g : Gate) → IsOrdered n → k < length n.gates → ((d : Gate) → g ≡ get_or n.gates k d) → IsChoiceBelow (n.first + k) (choice_of g)
operands_below n k g ordered place gate =
    subst (λ (z : Gate). IsChoiceBelow (n.first + k) (choice_of z)) (sym (gate g)) (choice_below-at n.first k n.gates g ordered.one ordered.ordered place)

literal_wider : (x m : ℕ) (l : Lit) → x ≤ m → (0 < l.variable) × (l.variable < x) → (0 < l.variable) × (l.variable < m)
literal_wider x m l le (one, below) = (one, omega arith)

pub choice_wider : (x m : ℕ) (c : Choice) → x ≤ m → IsChoiceBelow x c → IsChoiceBelow m c
choice_wider x m c le h = record {
  condition = literal_wider x m c.condition le h.condition;
  yes = literal_wider x m c.yes le h.yes;
  no = literal_wider x m c.no le h.no;
}

-- operands are read by their gate
operands_alive : (n : Netlist) (last : List ℕ) (k : ℕ) (g : Gate) (p : Layout) → IsNext n last k g p → EachOf (λ l. IsAlive last (n.first + k) l.variable) (choice_of g)
operands_alive n last k g p h =
    let below : IsChoiceBelow (n.first + k) (choice_of g) = operands_below n k g h.ordered h.place h.gate in
    let read : IsReadUntil (n.first + k) last (choice_of g) =
    subst (λ (z : Gate). IsReadUntil (n.first + k) last (choice_of z)) (sym (h.gate g)) (h.uses k g (omega arith) h.place h.read) in
    record {
      condition = record { one = below.condition.0; before = below.condition.1; later = read.condition };
      yes = record { one = below.yes.0; before = below.yes.1; later = read.yes };
      no = record { one = below.no.0; before = below.no.1; later = read.no };
    }

literal_inside : (last : List ℕ) (x m : ℕ) (p : Layout) (l : Lit) → length p.holders.items ≤ m → ((y : ℕ) → IsAlive last x y → IsHeld p y) → IsAlive last x l.variable → (literal_in p.places.items l).variable < m
literal_inside last x m p l le held alive =
    let inside : (place_in p.places.items l.variable).variable < length p.holders.items = (held l.variable alive).inside in
    omega arith

-- the words of operands are there
pub choice_inside : (n : Netlist) (last : List ℕ) (k m : ℕ) (g : Gate) (p : Layout) → IsNext n last k g p → length p.holders.items ≤ m → EachOf (λ l. l.variable < m) (choice_in p.places.items (choice_of g))
choice_inside n last k m g p h le =
    let alive = operands_alive n last k g p h in
    record {
      condition = literal_inside last (n.first + k) m p (choice_of g).condition le h.laid.held alive.condition;
      yes = literal_inside last (n.first + k) m p (choice_of g).yes le h.laid.held alive.yes;
      no = literal_inside last (n.first + k) m p (choice_of g).no le h.laid.held alive.no;
    }

-- the step's word is the gate's variable
value_right : (n : Netlist) (last : List ℕ) (k word : ℕ) (negative : Bool) (g : Gate) (step : Step) (p q : Layout) → IsNext n last k g p → IsAdded n last k word negative g step p q
    → (v w : ℕ → Bool) → IsModel v n → StartsAs n.first w v → signed negative (step_true (stepped p.steps.items w) step) ≡ v (n.first + k)
value_right n last k word negative g step p q h a v w model starts =
    let alive = operands_alive n last k g p h in
    let before : ℕ → Bool = stepped p.steps.items w in
    a.value before
    ∙ choice_in-true before v p.places.items (choice_of g) (record {
      condition = h.laid.right (choice_of g).condition.variable alive.condition v w model starts;
      yes = h.laid.right (choice_of g).yes.variable alive.yes v w model starts;
      no = h.laid.right (choice_of g).no.variable alive.no v w model starts;
    })
    ∙ choice_true-gate v g model.one
    ∙ ap (gate_true v) (h.gate g)
    ∙ sym (holds-at v n.first k n.gates g h.place model.holds)

put_here : (v : ℕ → Bool) (x y : ℕ) (b : Bool) → y ≡ x → put v x b y ≡ b
put_here v x y b e = cond-true (nat_eq y x) b (v y) (eq-eqb y x e)

put_elsewhere : (v : ℕ → Bool) (x y : ℕ) (b : Bool) → y ≢ x → put v x b y ≡ v y
put_elsewhere v x y b h = cond-false (nat_eq y x) b (v y) (ne_eqb y x h)

-- a variable before the gate that is read later
earlier : (last : List ℕ) (x y : ℕ) → IsAlive last (x + 1) y → y ≢ x → IsAlive last x y
earlier last x y h ne =
    let h1 = h.one in
    let h2 = h.before in
    let h3 = h.later in
    record { one = h1; before = elim (cases_eq y x) [ inl e ↦ absurd (ne e) | inr _ ↦ omega arith ]; later = omega arith }

place_here : (places : List Lit) (x y : ℕ) (l : Lit) → x < length places → y ≡ x → place_in (slice_set places x l) y ≡ l
place_here places x y l h e = ap (λ z. place_in (slice_set places x l) z) e ∙ get_or-set_same places x l (plain 0) h

place_elsewhere : (places : List Lit) (x y : ℕ) (l : Lit) → y ≢ x → place_in (slice_set places x l) y ≡ place_in places y
place_elsewhere places x y l ne = get_or-set_other places x y l (plain 0) ne

-- what IsLaidOut says of a variable, behind the gate
held_next : (n : Netlist) (last : List ℕ) (k word : ℕ) (negative : Bool) (g : Gate) (step : Step) (p q : Layout) → IsNext n last k g p → IsAdded n last k word negative g step p q
    → (y : ℕ) → IsAlive last (n.first + k + 1) y → IsHeld q y
held_next n last k word negative g step p q h a y alive =
    let x : ℕ = n.first + k in
    let new : Lit = record { variable = word; negative = negative } in
    let room : x < length p.places.items = omega (arith, h.place, h.laid.len) in
    elim (cases_eq y x) [
      | inl e ↦
          let at : place_in q.places.items y ≡ new = ap (λ (ps : List Lit). place_in ps y) a.places ∙ place_here p.places.items x y new room e in
          record {
            inside = subst (λ (l : Lit). l.variable < length q.holders.items) (sym at) a.taken.inside;
            holder = ap (λ (l : Lit). slice_index q.holders.items l.variable) at ∙ a.taken.here ∙ sym e;
          }
      | inr ne ↦
          let was : IsAlive last x y = earlier last x y alive ne in
          let held : IsHeld p y = h.laid.held y was in
          let place : ℕ = (place_in p.places.items y).variable in
          let at : place_in q.places.items y ≡ place_in p.places.items y = ap (λ (ps : List Lit). place_in ps y) a.places ∙ place_elsewhere p.places.items x y new ne in
          let read : x < slice_index last y = omega (arith, alive.later) in
          let other : place ≢ word = a.taken.kept place held.inside (subst (λ (z : ℕ). x < slice_index last z) (sym held.holder) read) in
          let inside : place < length q.holders.items = omega (arith, held.inside, a.taken.more) in
          record {
            inside = subst (λ (l : Lit). l.variable < length q.holders.items) (sym at) inside;
            holder = ap (λ (l : Lit). slice_index q.holders.items l.variable) at ∙ a.taken.others place held.inside other ∙ held.holder;
          }
    ]

right_next : (n : Netlist) (last : List ℕ) (k word : ℕ) (negative : Bool) (g : Gate) (step : Step) (p q : Layout) → IsNext n last k g p → IsAdded n last k word negative g step p q
    → (y : ℕ) → IsAlive last (n.first + k + 1) y → IsRight n q y
right_next n last k word negative g step p q h a y alive v w model starts =
    let x : ℕ = n.first + k in
    let new : Lit = record { variable = word; negative = negative } in
    let room : x < length p.places.items = omega (arith, h.place, h.laid.len) in
    let before : ℕ → Bool = stepped p.steps.items w in
    let written : Bool = step_true before step in
    let after : stepped q.steps.items w ≡ put before word written =
    ap (λ (ss : List Step). stepped ss w) a.steps ∙ stepped-push p.steps.items step w ∙ ap (λ (t : ℕ). put before t written) a.target in
    elim (cases_eq y x) [
      | inl e ↦
          let at : place_in q.places.items y ≡ new = ap (λ (ps : List Lit). place_in ps y) a.places ∙ place_here p.places.items x y new room e in
          ap (λ (u : ℕ → Bool). literal_true u (place_in q.places.items y)) after
          ∙ ap (λ (l : Lit). literal_true (put before word written) l) at
          ∙ ap (signed negative) (put_here before word word written refl)
          ∙ value_right n last k word negative g step p q h a v w model starts
          ∙ sym (ap v e)
      | inr ne ↦
          let was : IsAlive last x y = earlier last x y alive ne in
          let held : IsHeld p y = h.laid.held y was in
          let place : Lit = place_in p.places.items y in
          let at : place_in q.places.items y ≡ place = ap (λ (ps : List Lit). place_in ps y) a.places ∙ place_elsewhere p.places.items x y new ne in
          let read : x < slice_index last y = omega (arith, alive.later) in
          let other : place.variable ≢ word = a.taken.kept place.variable held.inside (subst (λ (z : ℕ). x < slice_index last z) (sym held.holder) read) in
          ap (λ (u : ℕ → Bool). literal_true u (place_in q.places.items y)) after
          ∙ ap (λ (l : Lit). literal_true (put before word written) l) at
          ∙ ap (signed place.negative) (put_elsewhere before word place.variable written other)
          ∙ h.laid.right y was v w model starts
    ]

pub laid_out-next : (n : Netlist) (last : List ℕ) (k word : ℕ) (negative : Bool) (g : Gate) (step : Step) (p q : Layout) → IsNext n last k g p → IsAdded n last k word negative g step p q → IsLaidOut n last (n.first + k + 1) q
laid_out-next n last k word negative g step p q h a =
    let few : length q.holders.items ≤ n.first + k + 1 = omega (arith, a.taken.most, h.laid.few) in
    let enough : n.first ≤ length q.holders.items = omega (arith, a.taken.more, h.laid.enough) in
    record {
      len = ap length a.places ∙ length-set p.places.items (n.first + k) (record { variable = word; negative = negative }) ∙ h.laid.len;
      enough = enough;
      few = few;
      within = subst (All (IsStepWithin (length q.holders.items))) (sym a.steps)
          (All-append (IsStepWithin (length q.holders.items)) p.steps.items (step ∷ []) (steps_wider (length p.holders.items) (length q.holders.items) p.steps.items a.taken.more h.laid.within) (one_step (IsStepWithin (length q.holders.items)) step a.within));
      held = held_next n last k word negative g step p q h a;
      right = right_next n last k word negative g step p q h a;
    }
