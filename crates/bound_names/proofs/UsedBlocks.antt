-- In a file that breaks no rule on names each POU uses the blocks of its instances, and the order has all POUs.
use Rattle.std.proofs.Common.{◌≡◌, ℕ, List, [], ◌∷◌, ◌++◌, length, Bool, true, Option, Some, None, if◌then◌else◌, refl, sym, ap, ◌∙◌, append_assoc, inr}
use Rattle.std.specs.List.{slice_get, AllByRecursion}
use Rattle.call_order.specs.Uses.{uses_at, is_among, order_of}
use Rattle.call_order.proofs.Members.{is_among-left, is_among-right, is_among-head}
use Rattle.rules.specs.declared.rule.Refusal.{Refusal}
use Rattle.source_tree.specs.Syntax.{PouData, FileData}
use Rattle.naming.specs.DeclarationUses.{numbers_in}
use Rattle.naming.specs.FileScope.{pous_of, pou_at}
use Rattle.naming.specs.Scopes.{Variable, PouScope, variables_in_pou, is_whole, block_of, scope_of as names_of}
use Rattle.naming.specs.Broken.{broken_names}
use Rattle.naming.specs.Circles.{block_used, blocks_used, calls_in_body, uses_in, uses_of, IsBroken}
use Rattle.st_names.proofs.WholeDeclarations.{read_map}
use Rattle.st_names.proofs.PouUses.{ordered}
use Rattle.typing.specs.Places.{variables_in, variables_at}
use Rattle.st_names.proofs.WholeNames.{single_at, variable_whole}
use Rattle.bound_names.proofs.SingleNames.{at_length, single_named}

block_here : (f : FileData) (p : PouScope) (before rest : List Variable) (v : Variable) (b : ℕ) → is_whole f p v ≡ true → block_of f v ≡ Some b → is_among b (blocks_used f p (before ++ v ∷ rest)) ≡ true
block_here f p [] rest v b whole is =
    let used : block_used f p v ≡ Some b = ap (λ (w : Bool). if w then block_of f v else None) whole ∙ is in
    is_among-left b (numbers_in (block_used f p v)) (blocks_used f p rest) (ap (λ (o : Option ℕ). is_among b (numbers_in o)) used ∙ is_among-head b [])
block_here f p (x ∷ before) rest v b whole is = is_among-right b (numbers_in (block_used f p x)) (blocks_used f p (before ++ v ∷ rest)) (block_here f p before rest v b whole is)

pub uses-pou : (f : FileData) (k : ℕ) (d : PouData) → pou_at f k ≡ Some d → uses_at (uses_of f) k ≡ uses_in f d
uses-pou f k d at = read_map (uses_in f) (pous_of f) k d at

block_in : (f : FileData) (d : PouData) (b : ℕ) → is_among b (blocks_used f (names_of d) (variables_in_pou d)) ≡ true → is_among b (uses_in f d) ≡ true
unfolding uses_in
block_in f d b h = is_among-left b (blocks_used f (names_of d) (names_of d).variables) (calls_in_body f d.body) h

pub call_in : (f : FileData) (d : PouData) (u : ℕ) → is_among u (calls_in_body f d.body) ≡ true → is_among u (uses_in f d) ≡ true
unfolding uses_in
call_in f d u h = is_among-right u (blocks_used f (names_of d) (names_of d).variables) (calls_in_body f d.body) h

module _ (f : FileData) (none : broken_names f ≡ []) where
  abbrev IsUsed : ℕ → Variable → Type 0
  IsUsed k v = (b : ℕ) → block_of f v ≡ Some b → is_among b (uses_at (uses_of f) k) ≡ true

  all_used : (k : ℕ) (d : PouData) → pou_at f k ≡ Some d → (before vs : List Variable) → variables_in_pou d ≡ before ++ vs → AllByRecursion (IsUsed k) vs
  all_used k d at before [] is = tt
  all_used k d at before (v ∷ vs) is =
      let there : slice_get (variables_in_pou d) (length before) ≡ Some v = ap (λ (l : List Variable). slice_get l (length before)) is ∙ at_length before vs v in
      let named = single_named (names_of d) before vs v is (single_at f none k d at (length before) v there) in
      let whole = variable_whole f none k d at v.name.text v named in
      let used : IsUsed k v = λ b block.
      ap (is_among b) (uses-pou f k d at) ∙ block_in f d b (ap (λ (l : List Variable). is_among b (blocks_used f (names_of d) l)) is ∙ block_here f (names_of d) before vs v b whole block) in
      (used, all_used k d at (before ++ v ∷ []) vs (is ∙ sym (append_assoc before (v ∷ []) vs)))

  pub used_blocks : (k : ℕ) → AllByRecursion (λ v. (b : ℕ) → block_of f v ≡ Some b → is_among b (uses_at (uses_of f) k) ≡ true) (variables_at f k)
  used_blocks k = by (pou_at f k) refl
    where
      by : (o : Option PouData) → pou_at f k ≡ o → AllByRecursion (λ v. (b : ℕ) → block_of f v ≡ Some b → is_among b (uses_at (uses_of f) k) ≡ true) (variables_in o)
      by None e = tt
      by (Some d) e = all_used k d e [] (variables_in_pou d) refl

  pub all_ordered : ((r : Refusal) → IsBroken f r → ⊥) → length (order_of (uses_of f)) ≡ length (pous_of f)
  all_ordered names = ordered f none (λ r circle. names r (inr circle))
