-- Names as a set.
use Rattle.std.proofs.Common.{◌≡◌, ℕ, ◌-◌, ◌<◌, ◌≤◌, Bool, cond, true, false, ◌||◌, refl, String, List, ◌∷◌, length, get_or, drop, sym, ap, ◌∙◌, arith, suc, drop-cons, Bor}
use Rattle.std.specs.Str.{bytes_eq}
use Rattle.indexmap.specs.IndexSet.{IndexSet, contains_by, Updates as SetUpdates}
use Rattle.std.specs.declared.alloc.Global.{Global}
use Rattle.program_tree.specs.View.{text_view, texts_view}
use Rattle.candidates.specs.ByPath.{is_among}
use Rattle.candidates.specs.Places.{HasNames}

pub or_is : (b x : Bool) → cond b true x ≡ (b || x)
or_is true x = refl
or_is false x = refl

last_one : {A : Type 0} (cs : List A) (place : ℕ) (d : A) → 0 < place → place ≤ length cs → drop (place - 1) cs ≡ get_or cs (place - 1) d ∷ drop place cs
last_one cs place d some within =
    let e : suc (place - 1) ≡ place = omega arith in
    let s : place - 1 < length cs = omega arith in
    drop-cons cs (place - 1) d s ∙ ap (λ n. get_or cs (place - 1) d ∷ drop n cs) e

-- one more name, before those that are known
pub has_one_more : {S : Type 0} (names : List (String Global)) (place : ℕ) (key : Bor (List ℕ)) (name : String Global) (old new : IndexSet (Bor (List ℕ)) S)
    → 0 < place → place ≤ length names → name ≡ get_or names (place - 1) name → key.now ≡ text_view name
    → SetUpdates (λ x y. bytes_eq x.now y.now) old new key true → HasNames old (texts_view (drop place names)) → HasNames new (texts_view (drop (place - 1) names))
has_one_more names place key name old new some within same named updates has text =
    let rest : List (List ℕ) = texts_view (drop place names) in
    let listed : texts_view (drop (place - 1) names) ≡ text_view name ∷ rest = ap texts_view (last_one names place name some within) ∙ ap (λ x. text_view x ∷ rest) (sym same) in
    let one : contains_by (λ k. bytes_eq text k.now) new ≡ cond (bytes_eq key.now text) true (contains_by (λ k. bytes_eq text k.now) old) = updates.0 (record key { now = text }) in
    one ∙ ap (λ b. cond (bytes_eq key.now text) true b) (has text)
    ∙ ap (λ (t : List ℕ). cond (bytes_eq t text) true (is_among rest text)) named
    ∙ or_is (bytes_eq (text_view name) text) (is_among rest text)
    ∙ ap (λ ns. is_among ns text) (sym listed)
