-- What is kept of a file.
use Rattle.std.proofs.Common.{◌≡◌, ◌<◌, ◌+◌, ℕ, zero, suc, List, [], ◌∷◌, length, map, Bool, true, false, Option, Some, None, option_map, count_by, get_or, if◌then◌else◌, refl, sym, ap, ◌∙◌, arith, Vec, Global}
use Rattle.std.specs.HashMap.{get_by_text}
use Rattle.std.specs.List.{slice_get, position_from}
use Rattle.std.specs.Option.{option_and_then, unwrap_or}
use Rattle.std.proofs.lemmas.List.{length-map}
use Rattle.std.proofs.lemmas.Simd.{map-map}
use Rattle.std.proofs.lemmas.Option.{slice_get-map, slice_get_read, slice_get_within, slice_get-get_or}
use Rattle.call_order.specs.Uses.{graph_of, uses_at}
use Rattle.source_tree.specs.declared.syntax.Item.{Item}
use Rattle.source_tree.specs.SyntaxView.{item_view, items_view}
use Rattle.source_tree.specs.Syntax.{PouData, ItemData, types, pou, FileData}
use Rattle.pou_scope.specs.declared.pou_names.NamesOfPou.{NamesOfPou}
use Rattle.pou_scope.specs.AllSeen.{seen_in}
use Rattle.file_bindings.specs.Bindings.{variables_kept, HaveBlocks}
use Rattle.file_bindings.specs.Bound.{bound_of, bound_named, places_from, variables_at}
use Rattle.naming.specs.declared.slot.Slot.{Slot}
use Rattle.naming.specs.declared.variable.Declared.{Declared}
use Rattle.naming.specs.FileScope.{pous_of, pou_at, is_program}
use Rattle.pou_scope.specs.NamesView.{scope_named, scopes_named, known_in, seens_named}
use Rattle.naming.specs.Scopes.{Variable, PouScope, scope_of, variables_in_pou, is_doubled_among, seen}
use Rattle.naming.specs.ScopeView.{variables_view, seen_view}
use Rattle.naming.specs.Seen.{Seen}
use Rattle.naming.specs.Slots.{found, slot_of, slot_named}
use Rattle.naming.proofs.CountLemmas.{count-cons}

abbrev pub pou_item : PouData → ItemData
pou_item p = pou p

pub count_places : (from : ℕ) (f : FileData) → length (places_from from f) ≡ length (pous_of f)
count_places from [] = refl
count_places from (types ds ∷ is) = count_places (from + 1) is
count_places from (pou p ∷ is) = ap suc (count_places (from + 1) is)

-- where no element passes a test, none is counted
pub none_passes : {A : Type 0} (test : A → Bool) (from : ℕ) (xs : List A) → position_from test from xs ≡ None → count_by test xs ≡ 0
none_passes test from [] h = refl
none_passes test from (x ∷ xs) h = by (test x) refl h (none_passes test (from + 1) xs)
  where
    by : (b : Bool) → test x ≡ b → (if b then Some from else position_from test (from + 1) xs) ≡ None → (position_from test (from + 1) xs ≡ None → count_by test xs ≡ 0) → count_by test (x ∷ xs) ≡ 0
    by true e k rest = absurd (let n : ⊥ = cc in n)
    by false e k rest = count-cons test x xs ∙ ap (λ b. (if b then 1 else 0) + count_by test xs) e ∙ ap (λ n. 0 + n) (rest k)

held_at : (o : Option NamesOfPou) (text : List ℕ) → option_and_then (λ (n : NamesOfPou). get_by_text n.slots text) o ≡ option_and_then (λ p. slot_named p text) (option_map scope_named o)
held_at None text = refl
held_at (Some n) text = n.held text

through : {A B C : Type 0} (g : A → B) (h : B → Option C) (o : Option A) → option_and_then h (option_map g o) ≡ option_and_then (λ a. h (g a)) o
through g h None = refl
through g h (Some a) = refl

pub slots_of : (f : FileData) (ns : List NamesOfPou) → scopes_named ns ≡ map scope_of (pous_of f)
    → (number : ℕ) → (text : List ℕ) → option_and_then (λ (n : NamesOfPou). get_by_text n.slots text) (slice_get ns number) ≡ option_and_then (λ p. slot_named (scope_of p) text) (pou_at f number)
slots_of f ns scopes number text =
    held_at (slice_get ns number) text
    ∙ ap (option_and_then (λ p. slot_named p text)) (sym (slice_get-map scope_named ns number))
    ∙ ap (λ xs. option_and_then (λ p. slot_named p text) (slice_get xs number)) scopes
    ∙ ap (option_and_then (λ p. slot_named p text)) (slice_get-map scope_of (pous_of f) number)
    ∙ through scope_of (λ p. slot_named p text) (pou_at f number)

-- the variables of the names of a number are those of the POU
pub variables_of : (f : FileData) (ns : List NamesOfPou) → scopes_named ns ≡ map scope_of (pous_of f) → (number : ℕ) → variables_view (variables_kept ns number) ≡ variables_at f number
variables_of f ns scopes number = by (slice_get ns number) (pou_at f number) (sym (slice_get-map scope_named ns number) ∙ ap (λ ss. slice_get ss number) scopes ∙ slice_get-map scope_of (pous_of f) number)
  where
    by : (o : Option NamesOfPou) (q : Option PouData) → option_map scope_named o ≡ option_map scope_of q
        → variables_view (unwrap_or (option_map (λ (n : NamesOfPou). n.variables.items) o) []) ≡ unwrap_or (option_map variables_in_pou q) []
    by None None h = refl
    by None (Some p) h = absurd (let e : ⊥ = cc in e)
    by (Some n) None h = absurd (let e : ⊥ = cc in e)
    by (Some n) (Some p) h = let same : scope_named n ≡ scope_of p = cc in ap (λ (s : PouScope). s.variables) same

-- what is known of declarations says which blocks they have
known_blocks : (f : FileData) (p : PouScope) (ds : List Declared) → map seen_view ds ≡ map (seen f p) (variables_view ds) → HaveBlocks f ds
known_blocks f p ds is = sym (map-map (λ (s : Seen). s.block) seen_view ds) ∙ ap (map (λ (s : Seen). s.block)) is ∙ map-map (λ (s : Seen). s.block) (seen f p) (variables_view ds)

-- the blocks of the instances among the names of a number are those that the file says
pub blocks_of : (f : FileData) (ns : List NamesOfPou) → scopes_named ns ≡ map scope_of (pous_of f) → seens_named ns ≡ map (seen_in f) (pous_of f) → (number : ℕ) → HaveBlocks f (variables_kept ns number)
blocks_of f ns scopes seens number =
    by (slice_get ns number) (pou_at f number)
    (sym (slice_get-map scope_named ns number) ∙ ap (λ ss. slice_get ss number) scopes ∙ slice_get-map scope_of (pous_of f) number)
    (sym (slice_get-map known_in ns number) ∙ ap (λ ss. slice_get ss number) seens ∙ slice_get-map (seen_in f) (pous_of f) number)
  where
    by : (o : Option NamesOfPou) (q : Option PouData) → option_map scope_named o ≡ option_map scope_of q → option_map known_in o ≡ option_map (seen_in f) q
        → HaveBlocks f (unwrap_or (option_map (λ (n : NamesOfPou). n.variables.items) o) [])
    by None q h k = refl
    by (Some n) None h k = absurd (let e : ⊥ = cc in e)
    by (Some n) (Some p) h k =
        let same : scope_named n ≡ scope_of p = cc in
        let is : known_in n ≡ seen_in f p = cc in
        known_blocks f (scope_of p) n.variables.items (is ∙ ap (λ (s : PouScope). map (seen f (scope_of p)) s.variables) (sym same))

-- a place leads to the POU of its number
pub record IsPlace (f : FileData) (from number place : ℕ) : Type 0 where
  pub item : ℕ
  pub is : place ≡ from + item
  pub pou : PouData
  pub there : slice_get f item ≡ Some (pou_item pou)
  pub at : pou_at f number ≡ Some pou

pub place_at : (from : ℕ) (f : FileData) (number place : ℕ) → slice_get (places_from from f) number ≡ Some place → IsPlace f from number place
place_at from [] number place h = absurd (let e : ⊥ = cc in e)
place_at from (types ds ∷ is) number place h = let r = place_at (from + 1) is number place h in let before = r.is in record { item = suc r.item; is = omega arith; pou = r.pou; there = r.there; at = r.at }
place_at from (pou p ∷ is) zero place h = let e : from ≡ place = cc in record { item = 0; is = omega arith; pou = p; there = refl; at = refl }
place_at from (pou p ∷ is) (suc k) place h = let r = place_at (from + 1) is k place h in let before = r.is in record { item = suc r.item; is = omega arith; pou = r.pou; there = r.there; at = r.at }

-- a name is bound as its slot says
pub bound_slot : (text : List ℕ) (o : Option PouData) → option_map (λ s. s.number) (option_and_then (λ p. slot_named (scope_of p) text) o) ≡ option_and_then (λ p. bound_named (variables_in_pou p) text) o
bound_slot text None = refl
bound_slot text (Some p) = by (is_doubled_among (is_program p.pou_type) (variables_in_pou p) text) (found text 1 (variables_in_pou p))
  where
    by : (d : Bool) (o : Option (ℕ × Variable)) → option_map (λ (s : Slot). s.number) (option_map (slot_of d) o) ≡ option_map bound_of o
    by d None = refl
    by d (Some g) = refl

-- the item that is read at the place of a POU
pub record ReadsPou (f : FileData) (its : List Item) (ps : List ℕ) (number : ℕ) : Type 0 where
  pub listed : number < length ps
  pub within : get_or ps number 0 < length its
  pub pou : PouData
  pub at : pou_at f number ≡ Some pou
  pub is : (x : Item) → x ≡ get_or its (get_or ps number 0) x → item_view x ≡ pou_item pou

some_is : {A : Type 0} (a b : A) → Some a ≡ Some b → a ≡ b
some_is a b h = cc

pub reads_pou : (f : FileData) (its : List Item) (ps : List ℕ) (number : ℕ) → items_view its ≡ f → ps ≡ places_from 0 f → number < length (pous_of f) → ReadsPou f its ps number
reads_pou f its ps number view places below =
    let listed : number < length ps = let same : length ps ≡ length (pous_of f) = ap length places ∙ count_places 0 f in omega arith in
    let place = get_or ps number 0 in
    let r = place_at 0 f number place (ap (λ xs. slice_get xs number) (sym places) ∙ slice_get-get_or ps number 0 listed) in
    let item : r.item ≡ place = let e = r.is in omega arith in
    let there : slice_get f place ≡ Some (pou_item r.pou) = ap (slice_get f) (sym item) ∙ r.there in
    let inside : place < length f = slice_get_within f place (pou_item r.pou) there in
    let within : place < length its = let same : length its ≡ length f = sym (length-map its item_view) ∙ ap length view in omega arith in
    record {
      listed = listed;
      within = within;
      pou = r.pou;
      at = r.at;
      is = λ x at. some_is (item_view x) (pou_item r.pou)
          (sym (slice_get-map item_view its place ∙ ap (option_map item_view) (slice_get_read its (length its) place x refl within at)) ∙ ap (λ is. slice_get is place) view ∙ there);
    }

-- what the POU of a number uses
pub uses_there : (us : List (Vec ℕ Global)) (k : ℕ) (v : Vec ℕ Global) → slice_get us k ≡ Some v → uses_at (graph_of us) k ≡ v.items
uses_there [] k v e = absurd (let h : ⊥ = cc in h)
uses_there (u ∷ us) zero v e = let same : u ≡ v = cc in ap (λ (w : Vec ℕ Global). w.items) same
uses_there (u ∷ us) (suc k) v e = uses_there us k v e

pub uses_past : (us : List (Vec ℕ Global)) (k : ℕ) → slice_get us k ≡ None → uses_at (graph_of us) k ≡ []
uses_past [] k e = refl
uses_past (u ∷ us) zero e = absurd (let h : ⊥ = cc in h)
uses_past (u ∷ us) (suc k) e = uses_past us k e
