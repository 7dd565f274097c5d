-- Names that are connected twice.
use Rattle.std.proofs.Common.{◌≡◌, ℕ, Bool, true, false, cond, ◌||◌, List, ◌∷◌, Option, Some, refl, sym, ap, ◌∙◌, Bor}
use Rattle.std.specs.Prelude.{is_some}
use Rattle.std.specs.List.{list_any}
use Rattle.std.specs.Str.{bytes_eq}
use Rattle.std.proofs.lemmas.Map.Text.{hash_map_updates_str}
use Rattle.source_tree.specs.Syntax.{ConnectionData}
use Rattle.typing.specs.JudgedStatements.{connected, connects_twice}
use Rattle.indexmap.specs.IndexMap.{IndexMap, get_by, Updates}

-- a map has these names
abbrev pub HasNames : {A S : Type 0} → IndexMap (Bor (List ℕ)) A S → List (List ℕ) → Type 0
HasNames seen names = (text : List ℕ) → is_some (get_by (λ n. bytes_eq text n.now) seen) ≡ list_any (λ n. bytes_eq n text) names

some_cond : {A : Type 0} → (b : Bool) (a : A) (o : Option A) (rest : Bool) → is_some o ≡ rest → is_some (cond b (Some a) o) ≡ (b || rest)
some_cond true a o rest e = refl
some_cond false a o rest e = e

pub one_name_more : {A S : Type 0} (name : Bor (List ℕ)) (a : A) (old new : IndexMap (Bor (List ℕ)) A S) (names : List (List ℕ)) → Updates (λ x y. bytes_eq x.now y.now) old new name (Some a) → HasNames old names
    → HasNames new (name.now ∷ names)
one_name_more name a old new names updates has text =
    ap is_some (hash_map_updates_str name.now old new (Some a) updates text)
    ∙ some_cond (bytes_eq name.now text) a (get_by (λ n. bytes_eq text n.now) old) (list_any (λ n. bytes_eq n text) names) (has text)

-- a name that was seen is connected twice, and behind one that was not what is left decides
pub twice_here : (names : List (List ℕ)) (c : ConnectionData) (rest : List ConnectionData) (text : List ℕ) (b all : Bool) → text ≡ (connected c).text → b ≡ list_any (λ t. bytes_eq t text) names
    → connects_twice names (c ∷ rest) ≡ all → b ≡ true → true ≡ all
twice_here names c rest text b all named seen known is =
    let any : list_any (λ t. bytes_eq t (connected c).text) names ≡ true = ap (λ (u : List ℕ). list_any (λ t. bytes_eq t u) names) (sym named) ∙ sym seen ∙ is in
    ap (λ (x : Bool). x || connects_twice ((connected c).text ∷ names) rest) (sym any) ∙ known

pub twice_later : (names : List (List ℕ)) (c : ConnectionData) (rest : List ConnectionData) (text : List ℕ) (b all : Bool) → text ≡ (connected c).text → b ≡ list_any (λ t. bytes_eq t text) names
    → connects_twice names (c ∷ rest) ≡ all → b ≡ false → connects_twice (text ∷ names) rest ≡ all
twice_later names c rest text b all named seen known is =
    let any : list_any (λ t. bytes_eq t (connected c).text) names ≡ false = ap (λ (u : List ℕ). list_any (λ t. bytes_eq t u) names) (sym named) ∙ sym seen ∙ is in
    ap (λ (u : List ℕ). connects_twice (u ∷ names) rest) named ∙ ap (λ (x : Bool). x || connects_twice ((connected c).text ∷ names) rest) (sym any) ∙ known
