-- What FUNCTIONs answer and take does not depend on the sizes of blocks.
use Rattle.std.proofs.Common.{◌≡◌, ℕ, List, [], ◌∷◌, length, map, filter, Bool, true, false, Option, Some, None, option_map, if◌then◌else◌, refl, ap}
use Rattle.source_tree.specs.Syntax.{PouData, FileData}
use Rattle.naming.specs.FileScope.{pou_at, standing}
use Rattle.naming.specs.Scopes.{Variable, variables_in_pou, is_input}
use Rattle.typing.specs.declared.scope.Port.{Port}
use Rattle.typing.specs.declared.next.Next.{Next}
use Rattle.typing.specs.declared.member.Member.{Member}
use Rattle.typing.specs.Places.{first_places, first_place, places_behind}
use Rattle.typing.specs.Members.{member_of, members_of, members_if, members_at, called_number, port_of, ports_of, result_of, signature_of, function_number, signature_at}

module _ (f : FileData) (a b : List ℕ) where
  ports_of_alike : (m n : Next) (vs : List Variable) → ports_of (members_of f a m vs) ≡ ports_of (members_of f b n vs)
  ports_of_alike m n [] = refl
  ports_of_alike m n (v ∷ vs) = by (is_input v.role) (ports_of_alike (places_behind f a m v) (places_behind f b n v) vs)
    where
      left : List Member
      left = filter (λ x. is_input x.role) (members_of f a (places_behind f a m v) vs)

      right : List Member
      right = filter (λ x. is_input x.role) (members_of f b (places_behind f b n v) vs)

      by : (h : Bool) → map port_of left ≡ map port_of right → map port_of (if h then member_of f (first_place m v) v ∷ left else left) ≡ map port_of (if h then member_of f (first_place n v) v ∷ right else right)
      by true rest = ap (λ (l : List Port). port_of (member_of f (first_place m v) v) ∷ l) rest
      by false rest = rest

  pub ports_alike : (number : ℕ) → ports_of (members_at f a number) ≡ ports_of (members_at f b number)
  ports_alike number = by (pou_at f number)
    where
      by : (o : Option PouData) → ports_of (members_if f a o) ≡ ports_of (members_if f b o)
      by None = refl
      by (Some x) = let vs = variables_in_pou x in ports_of_alike (first_places f a x.pou_type vs) (first_places f b x.pou_type vs) vs

  result_by : (m n : Next) (vs : List Variable) → result_of (members_of f a m vs) ≡ result_of (members_of f b n vs)
  result_by m n [] = refl
  result_by m n (v ∷ vs) = refl

  pub result_alike : (number : ℕ) → result_of (members_at f a number) ≡ result_of (members_at f b number)
  result_alike number = by (pou_at f number)
    where
      by : (o : Option PouData) → result_of (members_if f a o) ≡ result_of (members_if f b o)
      by None = refl
      by (Some x) = let vs = variables_in_pou x in result_by (first_places f a x.pou_type vs) (first_places f b x.pou_type vs) vs

  pub signature_alike : (text : List ℕ) → signature_at f a text ≡ signature_at f b text
  signature_alike text = by (function_number f (standing f text))
    where
      by : (o : Option ℕ) → option_map (signature_of f a) o ≡ option_map (signature_of f b) o
      by None = refl
      by (Some number) = λ i. Some (record { function = number; number = called_number f number; result = result_alike number i; count = length (ports_alike number i) })
