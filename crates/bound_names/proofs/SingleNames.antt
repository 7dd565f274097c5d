-- A name that a POU declares once is that of the variable that declares it.
use Rattle.std.proofs.Common.{◌≡◌, ◌+◌, List, [], ◌∷◌, ◌++◌, length, Bool, true, false, ◌||◌, nat_lt, Some, if◌then◌else◌, count_by, refl, sym, ap, ◌∙◌, arith}
use Rattle.std.specs.List.{list_any, slice_get}
use Rattle.std.specs.Cmp.Lexicographic.{bytes_decides}
use Rattle.std.proofs.Math.Bool.{or-true}
use Rattle.std.proofs.lemmas.Bool.{or_parts}
use Rattle.std.proofs.lemmas.Bool.Decides.{nat_tests}
use Rattle.std.proofs.lemmas.List.Folds.{list_any-append}
use Rattle.naming.specs.Scopes.{Variable, PouScope, is_of_name, variable_named, is_fault, is_doubled}
use Rattle.naming.proofs.CountLemmas.{count-cons, any-count}

pub own_name : (v : Variable) → is_of_name v.name.text v ≡ true
own_name v = (bytes_decides v.name.text v.name.text).1 refl

pub any_here : (test : Variable → Bool) (before rest : List Variable) (v : Variable) → test v ≡ true → list_any test (before ++ v ∷ rest) ≡ true
any_here test before rest v h = list_any-append test before (v ∷ rest) ∙ ap (λ b. list_any test before || (b || list_any test rest)) h ∙ or-true (list_any test before)

-- the variable before and behind which others stand
pub single_found : (before rest : List Variable) (v : Variable) → nat_lt 1 (count_by (is_of_name v.name.text) (before ++ v ∷ rest)) ≡ false → variable_named v.name.text (before ++ v ∷ rest) ≡ Some v
single_found [] rest v once = ap (λ b. if b then Some v else variable_named v.name.text rest) (own_name v)
single_found (x ∷ before) rest v once =
    by (is_of_name v.name.text x) refl (ap (nat_lt 1) (sym (count-cons (is_of_name v.name.text) x (before ++ v ∷ rest))) ∙ once) (single_found before rest v)
  where
    test : Variable → Bool
    test y = is_of_name v.name.text y

    some : nat_lt 0 (count_by (is_of_name v.name.text) (before ++ v ∷ rest)) ≡ true
    some = sym (any-count (is_of_name v.name.text) (before ++ v ∷ rest)) ∙ any_here (is_of_name v.name.text) before rest v (own_name v)

    by : (b : Bool) → is_of_name v.name.text x ≡ b → nat_lt 1 ((if is_of_name v.name.text x then 1 else 0) + count_by (is_of_name v.name.text) (before ++ v ∷ rest)) ≡ false
        → (nat_lt 1 (count_by (is_of_name v.name.text) (before ++ v ∷ rest)) ≡ false → variable_named v.name.text (before ++ v ∷ rest) ≡ Some v)
        → (if b then Some x else variable_named v.name.text (before ++ v ∷ rest)) ≡ Some v
    by true e h more = absurd (let k = rw e at h in let s = some in let z : ⊥ = grind (arith, nat_tests) in z)
    by false e h more = more (let k = rw e at h in let z : nat_lt 1 (count_by (is_of_name v.name.text) (before ++ v ∷ rest)) ≡ false = grind (arith, nat_tests) in z)

pub at_length : (before rest : List Variable) (v : Variable) → slice_get (before ++ v ∷ rest) (length before) ≡ Some v
at_length [] rest v = refl
at_length (x ∷ before) rest v = at_length before rest v

pub single_named : (p : PouScope) (before rest : List Variable) (v : Variable) → p.variables ≡ before ++ v ∷ rest → is_doubled p v.name.text ≡ false → variable_named v.name.text p.variables ≡ Some v
single_named p before rest v is once =
    let count = (or_parts (is_fault p.has_fault v.name.text) (nat_lt 1 (count_by (is_of_name v.name.text) p.variables)) once).1 in
    ap (variable_named v.name.text) is ∙ single_found before rest v (ap (λ (vs : List Variable). nat_lt 1 (count_by (is_of_name v.name.text) vs)) (sym is) ∙ count)
