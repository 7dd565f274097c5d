-- One more name in the table of a file, and what the table says of a name.
use Rattle.std.proofs.Common.{◌≡◌, ℕ, ◌+◌, List, [], ◌∷◌, ◌++◌, Bool, true, false, ◌||◌, nat_lt, Option, Some, None, option_map, is_some, refl, sym, ap, ◌∙◌, if◌then◌else◌, count_by, String, arith, add-zero}
use Rattle.std.specs.HashMap.{HashMap, get_by_text, UpdatesBy}
use Rattle.std.specs.String.{string_bytes, string_eq}
use Rattle.std.specs.List.{list_any}
use Rattle.std.specs.Cmp.Lexicographic.{bytes_decides}
use Rattle.std.proofs.lemmas.Bool.Decides.{nat_tests}
use Rattle.std.proofs.lemmas.Map.Text.{hash_map_updates_text}
use Rattle.rules.specs.declared.rule.Refusal.{Refusal}
use Rattle.rules.specs.Rules.{earlier, first_in}
use Rattle.source_tree.specs.Syntax.{Named, FileData}
use Rattle.naming.specs.declared.standing.Standing.{Standing}
use Rattle.naming.specs.declared.entry.Entry.{Entry}
use Rattle.rules.specs.Judgements.{ok}
use Rattle.naming.specs.Broken.{twice, names_twice, in_file}
use Rattle.naming.specs.FileScope.{is_declared_twice, DeclaredName, names_of, is_declared_as, is_doubled_in_file, first_standing, standing}
use Rattle.naming.specs.Library.{is_library}
use Rattle.naming.specs.Table.{entry_of, entry_named, is_doubled_by, entered, standing_by, used, Holds}
use Rattle.naming.proofs.CountLemmas.{count-push, any-count}
use Rattle.rules.proofs.Outcomes.{earlier_on}

pub same_declared : (d : DeclaredName) (q : List ℕ) → is_declared_as q d ≡ true → d.0.text ≡ q
same_declared d q h = (bytes_decides d.0.text q).0 h

-- what is found once a name is declared behind others
abbrev pushed : List ℕ → DeclaredName → Option Standing → Option Standing
pushed q d (Some s) = Some s
pushed q d None = if is_declared_as q d then Some d.1 else None

first-push : (q : List ℕ) (xs : List DeclaredName) (d : DeclaredName) → first_standing q (xs ++ d ∷ []) ≡ pushed q d (first_standing q xs)
first-push q [] d = refl
first-push q (x ∷ xs) d = by (is_declared_as q x) (first-push q xs d)
  where
    by : (b : Bool) → first_standing q (xs ++ d ∷ []) ≡ pushed q d (first_standing q xs)
        → (if b then Some x.1 else first_standing q (xs ++ d ∷ [])) ≡ pushed q d (if b then Some x.1 else first_standing q xs)
    by true rest = refl
    by false rest = rest

pub first-any : (q : List ℕ) (xs : List DeclaredName) → is_some (first_standing q xs) ≡ list_any (is_declared_as q) xs
first-any q [] = refl
first-any q (x ∷ xs) = by (is_declared_as q x) (first-any q xs)
  where
    by : (b : Bool) → is_some (first_standing q xs) ≡ list_any (is_declared_as q) xs → is_some (if b then Some x.1 else first_standing q xs) ≡ (b || list_any (is_declared_as q) xs)
    by true rest = refl
    by false rest = rest

none-count : (q : List ℕ) (xs : List DeclaredName) → first_standing q xs ≡ None → count_by (is_declared_as q) xs ≡ 0
none-count q xs h = let e : nat_lt 0 (count_by (is_declared_as q) xs) ≡ false = sym (any-count (is_declared_as q) xs) ∙ sym (first-any q xs) ∙ ap is_some h in grind (arith, nat_tests)

some-count : (q : List ℕ) (xs : List DeclaredName) (s : Standing) → first_standing q xs ≡ Some s → nat_lt 0 (count_by (is_declared_as q) xs) ≡ true
some-count q xs s h = sym (any-count (is_declared_as q) xs) ∙ sym (first-any q xs) ∙ ap is_some h

-- one more of the name that others have makes two
twice_more : (n l : ℕ) → nat_lt 0 n ≡ true → nat_lt 1 (n + 1 + l) ≡ true
twice_more n l h = grind (arith, nat_tests)

once_more : (n : ℕ) (b : Bool) → n ≡ 0 → nat_lt 1 (n + 1 + (if b then 1 else 0)) ≡ b
once_more n true h = grind (arith, nat_tests)
once_more n false h = grind (arith, nat_tests)

-- whether a name is declared twice once one of that name stands behind others, or another
doubled-own : (q : List ℕ) (xs : List DeclaredName) (d : DeclaredName) → is_declared_as q d ≡ true → is_declared_twice (xs ++ d ∷ []) q ≡ nat_lt 1 (count_by (is_declared_as q) xs + 1 + (if is_library q then 1 else 0))
doubled-own q xs d h = ap (λ n. nat_lt 1 (n + (if is_library q then 1 else 0))) (count-push (is_declared_as q) xs d ∙ ap (λ b. count_by (is_declared_as q) xs + (if b then 1 else 0)) h)

doubled-other : (q : List ℕ) (xs : List DeclaredName) (d : DeclaredName) → is_declared_as q d ≡ false → is_declared_twice (xs ++ d ∷ []) q ≡ is_declared_twice xs q
doubled-other q xs d h =
    ap (λ n. nat_lt 1 (n + (if is_library q then 1 else 0))) (count-push (is_declared_as q) xs d ∙ ap (λ b. count_by (is_declared_as q) xs + (if b then 1 else 0)) h ∙ add-zero (count_by (is_declared_as q) xs))

entry-push : (q : List ℕ) (xs : List DeclaredName) (d : DeclaredName) (o : Option Standing) (b : Bool) → first_standing q xs ≡ o → is_declared_as q d ≡ b
    → option_map (entry_of (is_declared_twice (xs ++ d ∷ []) q)) (pushed q d o)
    ≡ (if b then Some (entered (is_library q) d.1 (option_map (entry_of (is_declared_twice xs q)) o)) else option_map (entry_of (is_declared_twice xs q)) o)
entry-push q xs d (Some s) true e h = ap (λ t. Some (entry_of t s)) (doubled-own q xs d h ∙ twice_more (count_by (is_declared_as q) xs) (if is_library q then 1 else 0) (some-count q xs s e))
entry-push q xs d (Some s) false e h = ap (λ t. Some (entry_of t s)) (doubled-other q xs d h)
entry-push q xs d None true e h = rw h (ap (λ t. Some (entry_of t d.1)) (doubled-own q xs d h ∙ once_more (count_by (is_declared_as q) xs) (is_library q) (none-count q xs e)))
entry-push q xs d None false e h = rw h refl

pub entry_named-push : (q : List ℕ) (xs : List DeclaredName) (d : DeclaredName) → entry_named (xs ++ d ∷ []) q ≡ (if is_declared_as q d then Some (entered (is_library q) d.1 (entry_named xs q)) else entry_named xs q)
entry_named-push q xs d = ap (option_map (entry_of (is_declared_twice (xs ++ d ∷ []) q))) (first-push q xs d) ∙ entry-push q xs d (first_standing q xs) (is_declared_as q d) refl refl

entered_at : (q : List ℕ) (xs : List DeclaredName) (d : DeclaredName) (b : Bool) (rest : Option Entry) → is_declared_as q d ≡ b
    → (if b then Some (entered (is_library d.0.text) d.1 (entry_named xs d.0.text)) else rest) ≡ (if b then Some (entered (is_library q) d.1 (entry_named xs q)) else rest)
entered_at q xs d true rest h = ap (λ t. Some (entered (is_library t) d.1 (entry_named xs t))) (same_declared d q h)
entered_at q xs d false rest h = refl

module _ {Y S : Type 0} (m n : HashMap (String Y) Entry S) (key : String Y) (xs : List DeclaredName) (d : DeclaredName) (entry : Entry) (known : Option Entry) where
  pub table_push : Holds m (entry_named xs) → UpdatesBy string_eq (string_eq key) m n (Some entry) → string_bytes key ≡ d.0.text
      → known ≡ get_by_text m d.0.text → entry ≡ entered (is_library d.0.text) d.1 known → Holds n (entry_named (xs ++ d ∷ []))
  table_push held updates named know new q =
      let is : entry ≡ entered (is_library d.0.text) d.1 (entry_named xs d.0.text) = new ∙ ap (entered (is_library d.0.text) d.1) (know ∙ held d.0.text) in
      hash_map_updates_text (string_bytes key) m n (Some entry) updates q
      ∙ rw (named, is, held q) (entered_at q xs d (is_declared_as q d) (entry_named xs q) refl)
      ∙ sym (entry_named-push q xs d)

is_some-map : {A B : Type 0} (f : A → B) (o : Option A) → is_some (option_map f o) ≡ is_some o
is_some-map f None = refl
is_some-map f (Some a) = refl

pub entry-any : (q : List ℕ) (xs : List DeclaredName) → is_some (entry_named xs q) ≡ list_any (is_declared_as q) xs
entry-any q xs = is_some-map (entry_of (is_declared_twice xs q)) (first_standing q xs) ∙ first-any q xs

abbrev own : DeclaredName → Bool → List Refusal
own d known = (if is_library d.0.text || known then twice d.0 else ok).broken

pub names_push : (a b r : Option Refusal) (before rest : List DeclaredName) (d : DeclaredName) (known : Option Entry) → known ≡ entry_named before d.0.text
    → r ≡ first_in (own d (is_some known)) → b ≡ earlier a r
    → earlier b (first_in (names_twice (before ++ d ∷ []) rest)) ≡ earlier a (first_in (names_twice before (d ∷ rest)))
names_push a b r before rest d known know told new =
    let any : is_some known ≡ list_any (is_declared_as d.0.text) before = ap is_some know ∙ entry-any d.0.text before in
    rw (new, told ∙ ap (λ t. first_in (own d t)) any) (earlier_on a (own d (list_any (is_declared_as d.0.text) before)) (names_twice (before ++ d ∷ []) rest))

-- ---- what the table says

-- a name that is not declared is not declared twice
none_doubled : (q : List ℕ) (xs : List DeclaredName) → first_standing q xs ≡ None → is_declared_twice xs q ≡ false
none_doubled q xs h = by (is_library q)
  where
    none : count_by (is_declared_as q) xs ≡ 0
    none = none-count q xs h

    by : (l : Bool) → nat_lt 1 (count_by (is_declared_as q) xs + (if l then 1 else 0)) ≡ false
    by true = grind (arith, nat_tests, none)
    by false = grind (arith, nat_tests, none)

pub twice-named : (f : FileData) (q : List ℕ) → is_doubled_by (entry_named (names_of f) q) ≡ is_doubled_in_file f q
twice-named f q = by (first_standing q (names_of f)) refl
  where
    by : (o : Option Standing) → first_standing q (names_of f) ≡ o → is_doubled_by (option_map (entry_of (is_declared_twice (names_of f) q)) o) ≡ is_declared_twice (names_of f) q
    by None e = sym (none_doubled q (names_of f) e)
    by (Some s) e = refl

abbrev nothing : Option Standing
nothing = None

pub standing-named : (f : FileData) (q : List ℕ) → standing_by (entry_named (names_of f) q) ≡ standing f q
unfolding standing
standing-named f q = by (first_standing q (names_of f)) (is_declared_twice (names_of f) q)
  where
    same : (b : Bool) → nothing ≡ (if b then nothing else nothing)
    same true = refl
    same false = refl

    by : (o : Option Standing) (b : Bool) → standing_by (option_map (entry_of b) o) ≡ (if b then None else o)
    by None b = same b
    by (Some s) b = refl

pub first-named : (f : FileData) (q : List ℕ) → option_map (λ (e : Entry). e.standing) (entry_named (names_of f) q) ≡ first_standing q (names_of f)
first-named f q = by (first_standing q (names_of f))
  where
    by : (o : Option Standing) → option_map (λ (e : Entry). e.standing) (option_map (entry_of (is_declared_twice (names_of f) q)) o) ≡ o
    by None = refl
    by (Some s) = refl

pub used-named : (f : FileData) (n : Named) → used (is_library n.text) (entry_named (names_of f) n.text) n ≡ in_file f n
used-named f n = by (first_standing n.text (names_of f)) refl (is_library n.text) refl
  where
    q : List ℕ
    q = n.text

    found : (o : Option Standing) → first_standing q (names_of f) ≡ o → list_any (is_declared_as q) (names_of f) ≡ is_some o
    found o e = sym (first-any q (names_of f)) ∙ ap is_some e

    known : (l : Bool) → (l || true) ≡ true
    known true = refl
    known false = refl

    by : (o : Option Standing) → first_standing q (names_of f) ≡ o → (l : Bool) → is_library q ≡ l → used l (option_map (entry_of (is_declared_twice (names_of f) q)) o) n ≡ in_file f n
    by None e true h = rw (none_doubled q (names_of f) e, h) refl
    by None e false h = rw (h, found None e) refl
    by (Some s) e l h = rw (h, found (Some s) e, known l) refl
