-- The scopes of a POU where blocks have some sizes or others differ in the places of cells alone.
use Rattle.std.proofs.Common.{◌≡◌, ℕ, ◌-◌, List, [], ◌∷◌, Bool, true, false, Option, Some, None, option_map, option_and_then, if◌then◌else◌, refl, ap}
use Rattle.std.specs.List.{slice_get}
use Rattle.source_tree.specs.Syntax.{Named, function, PouData, FileData}
use Rattle.naming.specs.FileScope.{pou_at}
use Rattle.naming.specs.Scopes.{Variable, variables_in_pou, is_step, is_of_name, block_of}
use Rattle.typing.specs.declared.scope.Place.{Place}
use Rattle.typing.specs.declared.scope.Place.TheVariants as places
use Rattle.typing.specs.declared.scope.Meaning.{Meaning}
use Rattle.typing.specs.declared.scope.Port.{Port}
use Rattle.typing.specs.declared.scope.Instance.{Instance}
use Rattle.typing.specs.declared.next.Next.{Next}
use Rattle.typing.specs.declared.member.Member.{Member}
use Rattle.typing.specs.Typing.{Reference, by_path, by_value}
use Rattle.typing.specs.Variables.{domain_of_variable, judged_variable, initial_of}
use Rattle.typing.specs.Places.{has_cell, first_places, first_place, places_behind}
use Rattle.typing.specs.Members.{may_be_assigned, may_control, place_at, meaning_of, member_of, member_among, member_in, member_at, seen_from, in_instance, meant_by, variable_or_value, named_in, called_number, instance_of, scope_of}
use Rattle.typing_laws.proofs.FunctionLemmas.{ports_alike, signature_alike}
use Rattle.alike_scopes.specs.AlikeScopes.{unplaced, cleared, AreAlike}

module _ (f : FileData) (a b : List ℕ) where
  -- ---- names

  both_among : (text : List ℕ) (P : Option Member → Option Member → Type 0) → P None None → ((v : Variable) (c d : ℕ) → P (Some (member_of f c v)) (Some (member_of f d v)))
      → (m n : Next) (vs : List Variable) → P (member_among f a text m vs) (member_among f b text n vs)
  both_among text P none some m n [] = none
  both_among text P none some m n (v ∷ vs) = by (is_of_name text v) (both_among text P none some (places_behind f a m v) (places_behind f b n v) vs)
    where
      by : (h : Bool) → P (member_among f a text (places_behind f a m v) vs) (member_among f b text (places_behind f b n v) vs)
          → P (if h then Some (member_of f (first_place m v) v) else member_among f a text (places_behind f a m v) vs) (if h then Some (member_of f (first_place n v) v) else member_among f b text (places_behind f b n v) vs)
      by true rest = some v (first_place m v) (first_place n v)
      by false rest = rest

  both_at : (k : ℕ) (text : List ℕ) (P : Option Member → Option Member → Type 0) → P None None → ((v : Variable) (c d : ℕ) → P (Some (member_of f c v)) (Some (member_of f d v))) → P (member_at f a k text) (member_at f b k text)
  both_at k text P none some = by (pou_at f k)
    where
      by : (o : Option PouData) → P (option_and_then (member_in f a text) o) (option_and_then (member_in f b text) o)
      by None = none
      by (Some x) = let vs = variables_in_pou x in both_among text P none some (first_places f a x.pou_type vs) (first_places f b x.pou_type vs) vs

  place_alike : (v : Variable) (c d : ℕ) → unplaced (place_at f c v) ≡ unplaced (place_at f d v)
  place_alike v c d = by (has_cell v.role)
    where
      by : (h : Bool) → unplaced (if h then places.Cell c else places.Value (initial_of f v)) ≡ unplaced (if h then places.Cell d else places.Value (initial_of f v))
      by true = refl
      by false = refl

  own_alike : (v : Variable) (c d : ℕ) → (let o : Option Meaning = Some (cleared (meaning_of f c v)) in o) ≡ Some (cleared (meaning_of f d v))
  own_alike v c d =
      ap (λ (p : Place). Some (record {
        place = p;
        kind = (domain_of_variable f v).kind;
        range = (domain_of_variable f v).range;
        whole = (judged_variable f v).whole;
        assignable = may_be_assigned v.role;
        control = may_control v.role;
      })) (place_alike v c d)

  instance_alike : (c d : ℕ) (n : Named) (o : Option ℕ) → option_map cleared (in_instance f a c n o) ≡ option_map cleared (in_instance f b d n o)
  instance_alike c d n None = refl
  instance_alike c d n (Some k) = both_at k n.text (λ x y. option_map cleared (option_map (seen_from c) x) ≡ option_map cleared (option_map (seen_from d) y)) refl (λ v i j. refl)

  meant_alike : (v : Variable) (c d : ℕ) (ns : List Named) → option_map cleared (meant_by f a ns (member_of f c v)) ≡ option_map cleared (meant_by f b ns (member_of f d v))
  meant_alike v c d [] = own_alike v c d
  meant_alike v c d (n ∷ ns) = by (is_step v.role)
    where
      by : (h : Bool) → option_map cleared (if h then Some (meaning_of f c v) else in_instance f a c n (block_of f v)) ≡ option_map cleared (if h then Some (meaning_of f d v) else in_instance f b d n (block_of f v))
      by true = own_alike v c d
      by false = instance_alike c d n (block_of f v)

  means_alike : (k : ℕ) (r : Reference) → option_map cleared (named_in f a k r) ≡ option_map cleared (named_in f b k r)
  means_alike k (by_path p) =
      both_at k p.first.text (λ x y. option_map cleared (variable_or_value f a p.first.text p.members x) ≡ option_map cleared (variable_or_value f b p.first.text p.members y)) refl (λ v c d. meant_alike v c d p.members)
  means_alike k (by_value n) = refl

  pub scopes_alike : (k : ℕ) → AreAlike (scope_of f a k) (scope_of f b k)
  scopes_alike k = record {
    means = means_alike k;
    signature = signature_alike f a b;
    port = λ number place. ap (λ (l : List Port). slice_get l place) (ports_alike f a b number);
    input = λ function name. refl;
  }

  -- ---- instances

  block_alike : (c d : ℕ) (o : Option ℕ) → (let by = λ (cell : ℕ). option_map (λ (b : ℕ). let i : Instance = record { block = called_number f b; offset = cell } in i) o in option_map (λ (i : Instance). i.block) (by c) ≡ option_map (λ (i : Instance). i.block) (by d))
  block_alike c d None = refl
  block_alike c d (Some b) = refl

  -- an instance is one of the same block
  pub blocks_alike : (k : ℕ) (text : List ℕ) → option_map (λ (i : Instance). i.block) ((scope_of f a k).instance text) ≡ option_map (λ (i : Instance). i.block) ((scope_of f b k).instance text)
  blocks_alike k text =
      both_at k text (λ x y. option_map (λ (i : Instance). i.block) (option_and_then (instance_of f) x) ≡ option_map (λ (i : Instance). i.block) (option_and_then (instance_of f) y)) refl (λ v c d. block_alike c d (block_of f v))
