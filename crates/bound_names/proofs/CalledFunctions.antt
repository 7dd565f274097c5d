-- A name that may be called is that of a FUNCTION of the file.
use Rattle.std.proofs.Common.{◌≡◌, ℕ, Bool, true, false, true≢false, not, ◌&&◌, List, Option, Some, None, option_map, option_and_then, if◌then◌else◌, refl, sym, ap, ◌∙◌, subst}
use Rattle.std.specs.Option.{unwrap_or}
use Rattle.source_tree.specs.Syntax.{PouTypeData, function, function_block, program, PouData, FileData}
use Rattle.naming.specs.declared.callee.Callee.{Callee}
use Rattle.naming.specs.declared.callee.Callee.TheVariants as callees
use Rattle.naming.specs.Library.{is_library}
use Rattle.naming.specs.FileScope.{pou_at, number_if, pou_number, standing, is_doubled_in_file}
use Rattle.naming.specs.Broken.{is_callable, function_or_unknown, callee_of}
use Rattle.typing.specs.Members.{is_function, function_number}
use Rattle.bound_names.specs.BoundNames.{is_function_called}

module _ (f : FileData) where
  -- the FUNCTION of a number has this name
  pub record IsFunctionOf (text : List ℕ) (number : ℕ) : Type 0 where
    pub pou : PouData
    pub there : pou_at f number ≡ Some pou
    pub is : is_function pou.pou_type ≡ true
    pub named : pou_number (standing f text) ≡ Some number

  callable : (k : PouTypeData) → is_callable f k ≡ true → is_function k ≡ true
  callable (function t) h = refl
  callable function_block h = absurd (true≢false (sym h))
  callable program h = absurd (true≢false (sym h))

  number_by : (text : List ℕ) (j number : ℕ) → pou_number (standing f text) ≡ Some j → (o : Option PouData) → pou_at f j ≡ o
      → (if unwrap_or (option_map (is_callable f) (option_map (λ p. p.pou_type) o)) false then Some j else None) ≡ Some number → IsFunctionOf text number
  number_by text j number named None e h = absurd (let z : ⊥ = cc in z)
  number_by text j number named (Some x) e h = on (is_callable f x.pou_type) refl h
    where
      on : (b : Bool) → is_callable f x.pou_type ≡ b → (if b then Some j else None) ≡ Some number → IsFunctionOf text number
      on true c i =
          let same : j ≡ number = cc in
          let own : IsFunctionOf text j = record { pou = x; there = e; is = callable x.pou_type c; named = named } in
          subst (IsFunctionOf text) same own
      on false c i = absurd (let z : ⊥ = cc in z)

  found_by : (text : List ℕ) (number : ℕ) (o : Option ℕ) → pou_number (standing f text) ≡ o → option_and_then (number_if f (is_callable f)) o ≡ Some number → IsFunctionOf text number
  found_by text number None e h = absurd (let z : ⊥ = cc in z)
  found_by text number (Some j) e h = number_by text j number e (pou_at f j) refl h

  known_by : (text : List ℕ) (number : ℕ) (o : Option ℕ) → option_and_then (number_if f (is_callable f)) (pou_number (standing f text)) ≡ o → function_or_unknown o ≡ callees.Function number → IsFunctionOf text number
  known_by text number None e h = absurd (let z : ⊥ = cc in z)
  known_by text number (Some m) e h =
      let same : m ≡ number = cc in
      found_by text number (pou_number (standing f text)) refl (e ∙ ap (λ (n : ℕ). Some n) same)

  called_by : (text : List ℕ) (number : ℕ) (b : Bool) → (if b then callees.Standard else function_or_unknown (option_and_then (number_if f (is_callable f)) (pou_number (standing f text)))) ≡ callees.Function number → IsFunctionOf text number
  called_by text number true h = absurd (let z : ⊥ = cc in z)
  called_by text number false h = known_by text number (option_and_then (number_if f (is_callable f)) (pou_number (standing f text))) refl h

  pub function_of : (text : List ℕ) (number : ℕ) → callee_of f text ≡ callees.Function number → IsFunctionOf text number
  function_of text number h = called_by text number (is_library text && not (is_doubled_in_file f text)) h

  pub function_is : (text : List ℕ) (number : ℕ) → IsFunctionOf text number → function_number f (standing f text) ≡ Some number
  function_is text number r =
      ap (option_and_then (number_if f is_function)) r.named
      ∙ ap (λ (o : Option PouData). if unwrap_or (option_map is_function (option_map (λ p. p.pou_type) o)) false then Some number else None) r.there
      ∙ ap (λ (b : Bool). if b then Some number else None) r.is

pub callee_some : (c : Callee) → is_function_called c ≡ true → (number : ℕ) × (c ≡ callees.Function number)
callee_some callees.Standard h = absurd (true≢false (sym h))
callee_some (callees.Function number) h = (number, refl)
callee_some callees.Unknown h = absurd (true≢false (sym h))
