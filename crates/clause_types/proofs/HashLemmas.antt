-- Hashes of paths, and the first cell of each hash.
use Rattle.std.proofs.Common.{◌≡◌, ℕ, suc, ◌+◌, ◌-◌, ◌<◌, ◌≤◌, Bool, true, false, cond, List, [], ◌∷◌, ◌++◌, length, get_or, drop, Some, None, refl, sym, ap, ◌∙◌, arith}
use Rattle.std.specs.Prelude.{nat_eq}
use Rattle.std.specs.Str.{bytes_eq}
use Rattle.std.proofs.lemmas.Bool.Decides.{Decides-eqb}
use Rattle.std.proofs.lemmas.Slice.Eq.{bytes_eq-Decides}
use Rattle.indexmap.specs.IndexMap.{IndexMap, get_by, Updates}
use Rattle.program_tree.specs.declared.typed.Cell.{Cell}
use Rattle.program_tree.specs.Tree.{CellData}
use Rattle.program_tree.specs.View.{cell_view, cells_view}
use Rattle.source_tree.specs.Syntax.{Named}
use Rattle.typing.specs.Programs.{joined, own_type, cell_among}
use Rattle.clause_types.specs.PathHashes.{with_byte, with_bytes, hash_of, first_hashed, FindsHashes}
use Rattle.clause_types.proofs.SideLemmas.{last_one, behind_points, joined-cons}

pub with_bytes-append : (hash : ℕ) (a b : List ℕ) → with_bytes hash (a ++ b) ≡ with_bytes (with_bytes hash a) b
with_bytes-append hash [] b = refl
with_bytes-append hash (x ∷ a) b = with_bytes-append (with_byte hash x) a b

-- the hash of the first name, and then of the others behind points
pub joined_from_first : (n : Named) (ns : List Named) → with_bytes (hash_of n.text) (behind_points ns) ≡ hash_of (joined (n ∷ ns))
joined_from_first n ns = sym (ap hash_of (joined-cons n ns) ∙ with_bytes-append _ n.text (behind_points ns))

pub joined_one_more : (hash : ℕ) (n : Named) (ns : List Named) → with_bytes (with_bytes (with_byte hash 46) n.text) (behind_points ns) ≡ with_bytes hash (behind_points (n ∷ ns))
joined_one_more hash n ns = sym (with_bytes-append (with_byte hash 46) n.text (behind_points ns))

-- one more cell, before those that are found
pub hash_one_more : {S : Type 0} (cs : List Cell) (place : ℕ) (cell : Cell) (hash : ℕ) (old new : IndexMap ℕ ℕ S)
    → 0 < place → place ≤ length cs → cell ≡ get_or cs (place - 1) cell → hash ≡ hash_of (cell_view cell).path
    → Updates nat_eq old new hash (Some (place - 1)) → FindsHashes old place (cells_view (drop place cs)) → FindsHashes new (place - 1) (cells_view (drop (place - 1) cs))
hash_one_more cs place cell hash old new some within same hashed updates finds asked =
    let c : CellData = cell_view cell in
    let rest : List CellData = cells_view (drop place cs) in
    let next : place ≡ place - 1 + 1 = omega arith in
    let listed : cells_view (drop (place - 1) cs) ≡ c ∷ rest = ap cells_view (last_one cs place cell some within) ∙ ap (λ x. cell_view x ∷ rest) (sym same) in
    let one : get_by (nat_eq asked) new ≡ cond (nat_eq hash asked) (Some (place - 1)) (get_by (nat_eq asked) old) = updates.0 asked in
    let two : get_by (nat_eq asked) old ≡ first_hashed asked (place - 1 + 1) rest = finds asked ∙ ap (λ n. first_hashed asked n rest) next in
    one ∙ ap (λ o. cond (nat_eq hash asked) (Some (place - 1)) o) two
    ∙ ap (λ h. cond (nat_eq h asked) (Some (place - 1)) (first_hashed asked (place - 1 + 1) rest)) hashed
    ∙ ap (first_hashed asked (place - 1)) (sym listed)

-- paths of two hashes are two paths
other_path : (a b : List ℕ) → nat_eq (hash_of a) (hash_of b) ≡ false → bytes_eq a b ≡ false
other_path a b e = by (bytes_eq a b) refl
  where
    by : (same : Bool) → bytes_eq a b ≡ same → bytes_eq a b ≡ false
    by false is = is
    by true is =
        let equal : a ≡ b = (bytes_eq-Decides a b).0 is in
        let hashed : nat_eq (hash_of a) (hash_of b) ≡ true = (Decides-eqb (hash_of a) (hash_of b)).1 (ap hash_of equal) in
        absurd (let none : ⊥ = cc in none)

among_later : (text : List ℕ) (start : ℕ) (c : CellData) (cs : List CellData) → nat_eq (hash_of c.path) (hash_of text) ≡ false → cell_among own_type text start (c ∷ cs) ≡ cell_among own_type text (start + 1) cs
among_later text start c cs e = rw (other_path c.path text e) refl

-- where no path has its hash, no cell has the path
pub none_hashed : (text : List ℕ) (start place : ℕ) (cs : List CellData) → first_hashed (hash_of text) place cs ≡ None → cell_among own_type text start cs ≡ None
none_hashed text start place [] e = refl
none_hashed text start place (c ∷ cs) e = by (nat_eq (hash_of c.path) (hash_of text)) refl (none_hashed text (start + 1) (place + 1) cs)
  where
    by : (b : Bool) → nat_eq (hash_of c.path) (hash_of text) ≡ b → (first_hashed (hash_of text) (place + 1) cs ≡ None → cell_among own_type text (start + 1) cs ≡ None) → cell_among own_type text start (c ∷ cs) ≡ None
    by true is rest = absurd (let f : Some place ≡ None = rw is at e in let none : ⊥ = cc in none)
    by false is rest = among_later text start c cs is ∙ rest (let f : first_hashed (hash_of text) (place + 1) cs ≡ None = rw is at e in f)

-- the first cell of a path is the first from the first of its hash on
pub record IsFrom (text : List ℕ) (start place : ℕ) (cs : List CellData) (first : ℕ) : Type 0 where
  pub index : ℕ
  pub at : first ≡ place + index
  pub within : index < length cs
  pub same : cell_among own_type text start cs ≡ cell_among own_type text (start + index) (drop index cs)

from_here : (text : List ℕ) (start place : ℕ) (c : CellData) (cs : List CellData) (first : ℕ) → place ≡ first → IsFrom text start place (c ∷ cs) first
from_here text start place c cs first e = record {
  index = 0;
  at = sym e ∙ omega arith;
  within = omega arith;
  same = ap (λ n. cell_among own_type text n (c ∷ cs)) (let h : start ≡ start + 0 = omega arith in h);
}

from_later : (text : List ℕ) (start place : ℕ) (c : CellData) (cs : List CellData) (first : ℕ) → cell_among own_type text start (c ∷ cs) ≡ cell_among own_type text (start + 1) cs → IsFrom text (start + 1) (place + 1) cs first → IsFrom text start place (c ∷ cs) first
from_later text start place c cs first e h = record {
  index = suc h.index;
  at = h.at ∙ omega arith;
  within = omega (arith, h.within);
  same = e ∙ h.same ∙ ap (λ n. cell_among own_type text n (drop h.index cs)) (let s : start + 1 + h.index ≡ start + suc h.index = omega arith in s);
}

from_first : (text : List ℕ) (start place : ℕ) (cs : List CellData) (first : ℕ) → first_hashed (hash_of text) place cs ≡ Some first → IsFrom text start place cs first
from_first text start place [] first e = absurd (let none : ⊥ = cc in none)
from_first text start place (c ∷ cs) first e = by (nat_eq (hash_of c.path) (hash_of text)) refl (from_first text (start + 1) (place + 1) cs first)
  where
    by : (b : Bool) → nat_eq (hash_of c.path) (hash_of text) ≡ b → (first_hashed (hash_of text) (place + 1) cs ≡ Some first → IsFrom text (start + 1) (place + 1) cs first) → IsFrom text start place (c ∷ cs) first
    by true is rest = from_here text start place c cs first (let f : Some place ≡ Some first = rw is at e in cc)
    by false is rest = from_later text start place c cs first (among_later text start c cs is) (rest (let f : first_hashed (hash_of text) (place + 1) cs ≡ Some first = rw is at e in f))

-- the same of all cells, which begin at a place of the pair
pub first_within : (text : List ℕ) (cs : List CellData) (first : ℕ) → first_hashed (hash_of text) 0 cs ≡ Some first → first < length cs
first_within text cs first e =
    let h = from_first text 0 0 cs first e in
    omega (arith, h.at, h.within)

pub among_from_first : (text : List ℕ) (start : ℕ) (cs : List CellData) (first : ℕ) → first_hashed (hash_of text) 0 cs ≡ Some first
    → cell_among own_type text start cs ≡ cell_among own_type text (start + first) (drop first cs)
among_from_first text start cs first e =
    let h = from_first text start 0 cs first e in
    let same : h.index ≡ first = sym (h.at ∙ omega arith) in
    h.same ∙ ap (λ i. cell_among own_type text (start + i) (drop i cs)) same
