-- A file is put in the place of the one with its name, or behind all others.
use Rattle.std.proofs.Common.{◌≡◌, ◌≢◌, ℕ, ◌+◌, ◌<◌, List, [], ◌∷◌, ◌++◌, length, set, get_or, string_bytes, true, false, cond, Option, Some, None, unwrap_or, Result, Ok, Err, is_ok, OnOk, OnErr, arith, refl, ap, sym, ◌∙◌, add-one}
use Rattle.std.specs.Str.{bytes_eq}
use Rattle.std.proofs.lemmas.Slice.Eq.{bytes_eq-Decides}
use Rattle.outside.specs.declared.files.MemFile.{MemFile}
use Rattle.outside.specs.Files.{file_at, place_of}

-- where the test of the first file is known
place-hit : (x : MemFile) (xs : List MemFile) (name : List ℕ) → bytes_eq (string_bytes x.name) name ≡ true → place_of (x ∷ xs) name ≡ 0
place-hit x xs name e = ap (λ b. cond b 0 (place_of xs name + 1)) e

place-miss : (x : MemFile) (xs : List MemFile) (name : List ℕ) → bytes_eq (string_bytes x.name) name ≡ false → place_of (x ∷ xs) name ≡ place_of xs name + 1
place-miss x xs name e = ap (λ b. cond b 0 (place_of xs name + 1)) e

file-hit : (x : MemFile) (xs : List MemFile) (name : List ℕ) → bytes_eq (string_bytes x.name) name ≡ true → file_at (x ∷ xs) name ≡ Some x.bytes.items
file-hit x xs name e = ap (λ b. cond b (Some x.bytes.items) (file_at xs name)) e

file-miss : (x : MemFile) (xs : List MemFile) (name : List ℕ) → bytes_eq (string_bytes x.name) name ≡ false → file_at (x ∷ xs) name ≡ file_at xs name
file-miss x xs name e = ap (λ b. cond b (Some x.bytes.items) (file_at xs name)) e

-- two names that differ fail the test
apart : (a b : List ℕ) → a ≢ b → bytes_eq a b ≡ false
apart a b n =
    elim (bytes_eq a b) as (λ r. bytes_eq a b ≡ r → r ≡ false) [
      | true ↦ λ q. absurd (n ((bytes_eq-Decides a b).0 q))
      | false ↦ λ q. refl
    ] refl

-- the file at its place
pub file_at-place : (fs : List MemFile) (name : List ℕ) (f : MemFile) → place_of fs name < length fs → f ≡ get_or fs (place_of fs name) f → (file_at fs name ≡ Some f.bytes.items) × (string_bytes f.name ≡ name)
file_at-place [] name f h e = absurd (omega arith)
file_at-place (x ∷ xs) name f h e =
    elim (bytes_eq (string_bytes x.name) name) as (λ b. bytes_eq (string_bytes x.name) name ≡ b → (file_at (x ∷ xs) name ≡ Some f.bytes.items) × (string_bytes f.name ≡ name)) [
      | true ↦ λ q.
          let at : f ≡ x = e ∙ ap (λ k. get_or (x ∷ xs) k f) (place-hit x xs name q) in
          (file-hit x xs name q ∙ sym (ap (λ y. Some y.bytes.items) at), ap (λ y. string_bytes y.name) at ∙ (bytes_eq-Decides _ _).0 q)
      | false ↦ λ q.
          let s = place-miss x xs name q in
          let at : f ≡ get_or xs (place_of xs name) f = e ∙ ap (λ k. get_or (x ∷ xs) k f) (s ∙ add-one (place_of xs name)) in
          let r = file_at-place xs name f (omega arith) at in
          (file-miss x xs name q ∙ r.0, r.1)
    ] refl

-- the file of that name is the one put at its place
file_at-put : (fs : List MemFile) (name : List ℕ) (f : MemFile) → place_of fs name < length fs → string_bytes f.name ≡ name → file_at (set fs (place_of fs name) f) name ≡ Some f.bytes.items
file_at-put [] name f h e = absurd (omega arith)
file_at-put (x ∷ xs) name f h e =
    elim (bytes_eq (string_bytes x.name) name) as (λ b. bytes_eq (string_bytes x.name) name ≡ b → file_at (set (x ∷ xs) (place_of (x ∷ xs) name) f) name ≡ Some f.bytes.items) [
      | true ↦ λ q. rw (place-hit x xs name q) (file-hit f xs name ((bytes_eq-Decides _ _).1 e))
      | false ↦ λ q. rw (place-miss x xs name q, add-one) (file-miss x (set xs (place_of xs name) f) name q ∙ file_at-put xs name f (let s = place-miss x xs name q in omega arith) e)
    ] refl

-- the others stay
file_at-put_other : (fs : List MemFile) (name other : List ℕ) (f : MemFile) → other ≢ name → string_bytes f.name ≡ name → file_at (set fs (place_of fs name) f) other ≡ file_at fs other
file_at-put_other [] name other f n e = refl
file_at-put_other (x ∷ xs) name other f n e =
    elim (bytes_eq (string_bytes x.name) name) as (λ b. bytes_eq (string_bytes x.name) name ≡ b → file_at (set (x ∷ xs) (place_of (x ∷ xs) name) f) other ≡ file_at (x ∷ xs) other) [
      | true ↦ λ q.
          let same = (bytes_eq-Decides (string_bytes x.name) name).0 q in
          rw (place-hit x xs name q) (file-miss f xs other (apart _ _ (λ h. n (sym h ∙ e))) ∙ sym (file-miss x xs other (apart _ _ (λ h. n (sym h ∙ same)))))
      | false ↦ λ q. rw (place-miss x xs name q, add-one) (
          ap (λ l. cond (bytes_eq (string_bytes x.name) other) (Some x.bytes.items) l) (file_at-put_other xs name other f n e))
    ] refl

-- a new file behind all others
pub file_at-push : (fs : List MemFile) (f : MemFile) (name : List ℕ) → string_bytes f.name ≡ name → file_at fs name ≡ None → file_at (fs ++ f ∷ []) name ≡ Some f.bytes.items
file_at-push [] f name e h = file-hit f [] name ((bytes_eq-Decides _ _).1 e)
file_at-push (x ∷ xs) f name e h =
    elim (bytes_eq (string_bytes x.name) name) as (λ b. bytes_eq (string_bytes x.name) name ≡ b → file_at ((x ∷ xs) ++ f ∷ []) name ≡ Some f.bytes.items) [
      | true ↦ λ q. let hit = file-hit x xs name q in let no : ⊥ = cc in absurd no
      | false ↦ λ q. file-miss x (xs ++ f ∷ []) name q ∙ file_at-push xs f name e (sym (file-miss x xs name q) ∙ h)
    ] refl

pub file_at-push_other : (fs : List MemFile) (f : MemFile) (name other : List ℕ) → string_bytes f.name ≡ name → other ≢ name → file_at (fs ++ f ∷ []) other ≡ file_at fs other
file_at-push_other [] f name other e n = file-miss f [] other (apart _ _ (λ h. n (sym h ∙ e)))
file_at-push_other (x ∷ xs) f name other e n = ap (λ l. cond (bytes_eq (string_bytes x.name) other) (Some x.bytes.items) l) (file_at-push_other xs f name other e n)

-- a file in its place with other bytes
pub changed : (fs : List MemFile) (name : List ℕ) (old new : MemFile) (index : ℕ) → index ≡ place_of fs name → index < length fs → old ≡ get_or fs index old → new.name ≡ old.name → (file_at (set fs index new) name ≡ Some new.bytes.items) × (file_at fs name ≡ Some old.bytes.items)
changed fs name old new index at within e same =
    let found = file_at-place fs name old (omega arith) (e ∙ ap (λ k. get_or fs k old) at) in
    (ap (λ k. file_at (set fs k new) name) at ∙ file_at-put fs name new (omega arith) (ap string_bytes same ∙ found.1), found.0)

pub changed_other : (fs : List MemFile) (name other : List ℕ) (old new : MemFile) (index : ℕ) → index ≡ place_of fs name → index < length fs → old ≡ get_or fs index old → new.name ≡ old.name → other ≢ name → file_at (set fs index new) other ≡ file_at fs other
changed_other fs name other old new index at within e same n =
    let found = file_at-place fs name old (omega arith) (e ∙ ap (λ k. get_or fs k old) at) in
    ap (λ k. file_at (set fs k new) other) at ∙ file_at-put_other fs name other new n (ap string_bytes same ∙ found.1)

-- what an extension left of a file, by its result
pub grown_on_ok : {T E : Type 0} (r : Result T E) (now before : Option (List ℕ)) (bytes old more : List ℕ) → now ≡ Some bytes → before ≡ Some old → bytes ≡ cond (is_ok r) (old ++ more) old → OnOk r (now ≡ Some (unwrap_or before [] ++ more))
grown_on_ok (Ok t) now before bytes old more e h g = rw h (e ∙ ap Some g)
grown_on_ok (Err t) now before bytes old more e h g = tt

pub grown_on_err : {T E : Type 0} (r : Result T E) (now before : Option (List ℕ)) (bytes old more : List ℕ) → now ≡ Some bytes → before ≡ Some old → bytes ≡ cond (is_ok r) (old ++ more) old → OnErr r (now ≡ before)
grown_on_err (Ok t) now before bytes old more e h g = tt
grown_on_err (Err t) now before bytes old more e h g = e ∙ ap Some g ∙ sym h
