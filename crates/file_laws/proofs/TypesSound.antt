-- What is read of types prints the symbols that were taken.
use Rattle.std.proofs.Common.{◌≡◌, ℕ, zero, suc, List, [], ◌∷◌, ◌++◌, Option, Some, None, refl, sym, ap, subst, ◌∙◌, append_assoc}
use Rattle.std.proofs.lemmas.List.{append-nil}
use Rattle.source_tree.specs.declared.token.Mark.TheVariants.{Close, Colon, Semicolon, EndType}
use Rattle.source_tree.specs.Syntax.{Symbol, opening, mark, Named, TypeData, SpecificationData, of_type, of_values, TypeDeclarationData}
use Rattle.source_tree.specs.Prints.{name_symbol, print_others, print_specification, print_types}
use Rattle.source_tree.specs.Levels.{IsSpecificationFormed, AreTypesFormed}
use Rattle.grammar.specs.Reading.{after, named, opened}
use Rattle.grammar.specs.Declarations.{type_of, others}
use Rattle.grammar.specs.Types.{values, specification_or, specification, type_declaration, types_step, types}
use Rattle.grammar_laws.proofs.Steps.{bind_some, some_is, after_is, named_is, opened_is}
use Rattle.grammar_laws.proofs.DeclarationSound.{type_is, others_are}

-- ---- what a declared type is

abbrev SpecificationIs : List Symbol → SpecificationData × List Symbol → Type 0
SpecificationIs ts y = (ts ≡ print_specification y.0 ++ y.1) × IsSpecificationFormed y.0

-- how the symbols of an enumeration stand before others
pub values_shape : (at : ℕ) (n : Named) (ns : List Named) (rest : List Symbol) → print_specification (of_values at n ns) ++ rest ≡ opening at ∷ name_symbol n ∷ (print_others ns ++ mark Close ∷ rest)
values_shape at n ns rest = ap (λ (x : List Symbol). opening at ∷ name_symbol n ∷ x) (append_assoc (print_others ns) (mark Close ∷ []) rest)

-- the symbols of a declaration before others
abbrev pub declared_before : TypeDeclarationData → List Symbol → List Symbol
declared_before d rest = name_symbol d.name ∷ mark Colon ∷ (print_specification d.specification ++ mark Semicolon ∷ rest)

pub types_shape : (d : TypeDeclarationData) (ds : List TypeDeclarationData) (rest : List Symbol) → print_types (d ∷ ds) ++ rest ≡ declared_before d (print_types ds ++ rest)
types_shape d ds rest = ap (λ (x : List Symbol). name_symbol d.name ∷ mark Colon ∷ x) (append_assoc (print_specification d.specification) (mark Semicolon ∷ print_types ds) rest)

module _ (turns : ℕ) where
  values_are : (at : ℕ) (ts : List Symbol) (y : SpecificationData × List Symbol) → values turns at ts ≡ Some y → SpecificationIs (opening at ∷ ts) y
  unfolding values
  values_are at ts y e =
      let a = bind_some (named ts) _ y e in
      let b = bind_some (others turns [] a.0.1) _ y a.2 in
      let c = bind_some (after Close b.0.1) _ y b.2 in
      let o = others_are turns [] a.0.1 b.0 b.1 in
      let names : a.0.1 ≡ print_others b.0.0 ++ mark Close ∷ c.0 =
      o.2 ∙ ap (λ (x : List Named). print_others x ++ b.0.1) (sym o.1) ∙ ap (λ (x : List Symbol). print_others b.0.0 ++ x) (after_is Close b.0.1 c.0 c.1) in
      let printed : opening at ∷ ts ≡ opening at ∷ name_symbol a.0.0 ∷ (print_others b.0.0 ++ mark Close ∷ c.0) =
      ap (λ (x : List Symbol). opening at ∷ x) (named_is ts a.0.0 a.0.1 a.1 ∙ ap (λ (x : List Symbol). name_symbol a.0.0 ∷ x) names) in
      let whole : SpecificationIs (opening at ∷ ts) (of_values at a.0.0 b.0.0, c.0) = (printed ∙ sym (values_shape at a.0.0 b.0.0 c.0), tt) in
      subst (SpecificationIs (opening at ∷ ts)) (some_is (of_values at a.0.0 b.0.0, c.0) y c.2) whole

  specification_go : (ts : List Symbol) (y : SpecificationData × List Symbol) (o : Option (ℕ × List Symbol)) → opened ts ≡ o → specification_or turns ts o ≡ Some y → SpecificationIs ts y
  specification_go ts y (Some o) is e = subst (λ (x : List Symbol). SpecificationIs x y) (sym (opened_is ts o.0 o.1 is)) (values_are o.0 o.1 y e)
  specification_go ts y None is e =
      let a = bind_some (type_of ts) (λ (t : TypeData × List Symbol). Some (of_type t.0, t.1)) y e in
      let whole : SpecificationIs ts (of_type a.0.0, a.0.1) = type_is ts a.0 a.1 in
      subst (SpecificationIs ts) (some_is (of_type a.0.0, a.0.1) y a.2) whole

  specification_is : (ts : List Symbol) (y : SpecificationData × List Symbol) → specification turns ts ≡ Some y → SpecificationIs ts y
  unfolding specification
  specification_is ts y e = specification_go ts y (opened ts) refl e

  -- ---- declarations

  abbrev TypeDeclarationIs : List Symbol → TypeDeclarationData × List Symbol → Type 0
  TypeDeclarationIs ts y = (ts ≡ declared_before y.0 y.1) × IsSpecificationFormed y.0.specification

  type_declaration_is : (ts : List Symbol) (y : TypeDeclarationData × List Symbol) → type_declaration turns ts ≡ Some y → TypeDeclarationIs ts y
  unfolding type_declaration
  type_declaration_is ts y e =
      let a = bind_some (named ts) _ y e in
      let b = bind_some (after Colon a.0.1) _ y a.2 in
      let c = bind_some (specification turns b.0) _ y b.2 in
      let d = bind_some (after Semicolon c.0.1) _ y c.2 in
      let s = specification_is b.0 c.0 c.1 in
      let found : TypeDeclarationData = record { name = a.0.0; specification = c.0.0 } in
      let last : b.0 ≡ print_specification c.0.0 ++ mark Semicolon ∷ d.0 = s.0 ∙ ap (λ (x : List Symbol). print_specification c.0.0 ++ x) (after_is Semicolon c.0.1 d.0 d.1) in
      let printed : ts ≡ declared_before found d.0 =
      named_is ts a.0.0 a.0.1 a.1 ∙ ap (λ (x : List Symbol). name_symbol a.0.0 ∷ x) (after_is Colon a.0.1 b.0 b.1 ∙ ap (λ (x : List Symbol). mark Colon ∷ x) last) in
      let whole : TypeDeclarationIs ts (found, d.0) = (printed, s.1) in
      subst (TypeDeclarationIs ts) (some_is (found, d.0) y d.2) whole

  abbrev pub TypesAre : List TypeDeclarationData → List Symbol → List TypeDeclarationData × List Symbol → Type 0
  TypesAre before ts y = (extra : List TypeDeclarationData) × (y.0 ≡ before ++ extra) × (ts ≡ print_types extra ++ mark EndType ∷ y.1) × AreTypesFormed extra

  types_go : (n : ℕ) (before : List TypeDeclarationData) (ts : List Symbol) (y : List TypeDeclarationData × List Symbol) (o : Option (List Symbol)) → after EndType ts ≡ o → types_step turns (types turns n) before ts o ≡ Some y
      → ((before : List TypeDeclarationData) (ts : List Symbol) → types turns n before ts ≡ Some y → TypesAre before ts y) → TypesAre before ts y
  types_go n before ts y (Some r) is e below =
      let whole : TypesAre before ts (before, r) = ([], sym (append-nil before), after_is EndType ts r is, tt) in
      subst (TypesAre before ts) (some_is (before, r) y e) whole
  types_go n before ts y None is e below =
      let a = bind_some (type_declaration turns ts) (λ (d : TypeDeclarationData × List Symbol). types turns n (before ++ d.0 ∷ []) d.1) y e in
      let d = type_declaration_is ts a.0 a.1 in
      let b = below (before ++ a.0.0 ∷ []) a.0.1 a.2 in (
        a.0.0 ∷ b.0,
        b.1 ∙ append_assoc before (a.0.0 ∷ []) b.0,
        d.0 ∙ ap (declared_before a.0.0) b.2 ∙ sym (types_shape a.0.0 b.0 (mark EndType ∷ y.1)),
        (d.1, b.3),
      )

  pub types_are : (n : ℕ) (before : List TypeDeclarationData) (ts : List Symbol) (y : List TypeDeclarationData × List Symbol) → types turns n before ts ≡ Some y → TypesAre before ts y
  unfolding types
  types_are zero before ts y e = absurd cc
  types_are (suc n) before ts y e = types_go n before ts y (after EndType ts) refl e (λ before ts e. types_are n before ts y e)
