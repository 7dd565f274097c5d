-- What a loop over variables keeps of their slots.
use Rattle.std.proofs.Common.{◌≡◌, ℕ, ◌+◌, List, [], ◌∷◌, ◌++◌, length, Bool, true, false, ◌||◌, Option, Some, None, option_map, is_some, refl, sym, ap, ◌∙◌, if◌then◌else◌, String}
use Rattle.std.specs.HashMap.{HashMap, get_by_text, UpdatesBy}
use Rattle.std.specs.String.{string_bytes, string_eq}
use Rattle.std.specs.List.{list_any}
use Rattle.std.proofs.lemmas.Map.Text.{hash_map_updates_text}
use Rattle.naming.specs.declared.slot.Slot.{Slot}
use Rattle.rules.specs.declared.outcome.Outcome.{Outcome}
use Rattle.naming.specs.Broken.{twice, variables_twice}
use Rattle.rules.specs.Judgements.{Judgement, ok}
use Rattle.rules.specs.Outcomes.{outcome_of, both}
use Rattle.naming.specs.Scopes.{Variable, is_of_name, is_fault}
use Rattle.naming.specs.Slots.{found, slot_among, entered}
use Rattle.naming.specs.Table.{Holds}
use Rattle.rules.proofs.Outcomes.{both_on}
use Rattle.naming.proofs.SlotLemmas.{same_name, found-any, slot_among-push}

entered_at : (fault : Bool) (q : List ℕ) (xs : List Variable) (v : Variable) (b : Bool) (rest : Option Slot) → is_of_name q v ≡ b
    → (if b then Some (entered fault (length xs + 1) v (slot_among fault xs v.name.text)) else rest) ≡ (if b then Some (entered fault (length xs + 1) v (slot_among fault xs q)) else rest)
entered_at fault q xs v true rest h = ap (λ t. Some (entered fault (length xs + 1) v (slot_among fault xs t))) (same_name v q h)
entered_at fault q xs v false rest h = refl

module _ {Y S : Type 0} (fault : Bool) (m n : HashMap (String Y) Slot S) (key : String Y) (xs : List Variable) (v : Variable) (slot : Slot) (known : Option Slot) (number : ℕ) where
  pub held_push : Holds m (slot_among fault xs) → UpdatesBy string_eq (string_eq key) m n (Some slot) → string_bytes key ≡ v.name.text
      → known ≡ get_by_text m v.name.text → number ≡ length xs + 1 → slot ≡ entered fault number v known → Holds n (slot_among fault (xs ++ v ∷ []))
  held_push held updates named know place new q =
      let is : slot ≡ entered fault (length xs + 1) v (slot_among fault xs v.name.text) = new ∙ ap (λ k. entered fault k v known) place ∙ ap (entered fault (length xs + 1) v) (know ∙ held v.name.text) in
      hash_map_updates_text (string_bytes key) m n (Some slot) updates q
      ∙ rw (named, is, held q) (entered_at fault q xs v (is_of_name q v) (slot_among fault xs q) refl)
      ∙ sym (slot_among-push fault q xs v)

is_some-map : {A B : Type 0} (f : A → B) (o : Option A) → is_some (option_map f o) ≡ is_some o
is_some-map f None = refl
is_some-map f (Some a) = refl

known-any : (fault : Bool) (q : List ℕ) (xs : List Variable) → is_some (slot_among fault xs q) ≡ list_any (is_of_name q) xs
known-any fault q xs = is_some-map _ (found q 1 xs) ∙ found-any q 1 xs

abbrev own : Bool → Variable → Bool → Judgement
own fault v known = if is_fault fault v.name.text || known then twice v.name else ok

pub twice_push : (fault : Bool) (a b d : Outcome) (before rest : List Variable) (v : Variable) (known : Option Slot) → known ≡ slot_among fault before v.name.text
    → d ≡ outcome_of (own fault v (is_some known)) → b ≡ both a d
    → both b (outcome_of (variables_twice fault (before ++ v ∷ []) rest)) ≡ both a (outcome_of (variables_twice fault before (v ∷ rest)))
twice_push fault a b d before rest v known know told new =
    let any : is_some known ≡ list_any (is_of_name v.name.text) before = ap is_some know ∙ known-any fault v.name.text before in
    rw (new, told ∙ ap (λ t. outcome_of (own fault v t)) any) (both_on a (own fault v (list_any (is_of_name v.name.text) before)) (variables_twice fault (before ++ v ∷ []) rest))
