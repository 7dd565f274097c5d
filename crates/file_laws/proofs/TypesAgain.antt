-- What types print is read as those types.
use Rattle.std.proofs.Common.{◌≡◌, ℕ, zero, suc, ◌<◌, ◌≤◌, List, [], ◌∷◌, ◌++◌, length, Some, None, refl, sym, ap, ◌∙◌, append_assoc, arith, length-append}
use Rattle.std.proofs.lemmas.List.{append-nil}
use Rattle.source_tree.specs.declared.token.Mark.TheVariants.{Close, Comma, Colon, Semicolon, EndType}
use Rattle.source_tree.specs.Syntax.{Symbol, mark, Named, TypeData, of_elementary, of_subrange, of_name, SpecificationData, of_type, of_values, TypeDeclarationData}
use Rattle.source_tree.specs.Prints.{name_symbol, print_others, print_type, print_specification, print_types}
use Rattle.source_tree.specs.Levels.{IsTypeFormed, IsSpecificationFormed, AreTypesFormed}
use Rattle.grammar.specs.Marks.{same_mark}
use Rattle.grammar.specs.Reading.{after, opened}
use Rattle.grammar.specs.Types.{values, specification, type_declaration, types}
use Rattle.grammar_laws.proofs.DeclarationAgain.{type_again, others_again, after_close, after_colon, after_semicolon, step_named}
use Rattle.file_laws.proofs.TypesSound.{values_shape, declared_before, types_shape}

no_comma : (rest : List Symbol) → after Comma (mark Close ∷ rest) ≡ None
unfolding after same_mark
no_comma rest = refl

not_opened : (rest : List Symbol) → opened (mark Semicolon ∷ rest) ≡ None
unfolding opened
not_opened rest = refl

type_not_opened : (t : TypeData) (rest : List Symbol) → opened (print_type t ++ rest) ≡ None
unfolding opened
type_not_opened (of_elementary kind at) rest = refl
type_not_opened (of_subrange kind at b) rest = refl
type_not_opened (of_name n) rest = refl

after_end : (rest : List Symbol) → after EndType (mark EndType ∷ rest) ≡ Some rest
unfolding after same_mark
after_end rest = refl

no_end : (d : TypeDeclarationData) (rest : List Symbol) → after EndType (declared_before d rest) ≡ None
unfolding after
no_end d rest = refl

module _ (turns : ℕ) where
  values_again : (at : ℕ) (n : Named) (ns : List Named) (rest : List Symbol) → length (print_others ns ++ mark Close ∷ rest) ≤ turns → values turns at (name_symbol n ∷ (print_others ns ++ mark Close ∷ rest)) ≡ Some (of_values at n ns, rest)
  unfolding values
  values_again at n ns rest len = rw (step_named n (print_others ns ++ mark Close ∷ rest), others_again turns [] ns (mark Close ∷ rest) (no_comma rest) len, after_close rest) refl

  enumeration_again : (at : ℕ) (n : Named) (ns : List Named) (rest : List Symbol) → length (print_specification (of_values at n ns) ++ rest) ≤ turns
      → specification turns (print_specification (of_values at n ns) ++ rest) ≡ Some (of_values at n ns, rest)
  unfolding specification opened
  enumeration_again at n ns rest len =
      let shape = values_shape at n ns rest in
      let enough : length (print_others ns ++ mark Close ∷ rest) ≤ turns = omega (arith, ap length shape) in
      ap (specification turns) shape ∙ values_again at n ns rest enough

  spelled_again : (t : TypeData) (rest : List Symbol) → IsTypeFormed t → specification turns (print_type t ++ mark Semicolon ∷ rest) ≡ Some (of_type t, mark Semicolon ∷ rest)
  unfolding specification
  spelled_again t rest is = rw (type_not_opened t (mark Semicolon ∷ rest), type_again t (mark Semicolon ∷ rest) is (not_opened rest)) refl

  specification_again : (s : SpecificationData) (rest : List Symbol) → IsSpecificationFormed s → length (print_specification s ++ mark Semicolon ∷ rest) ≤ turns
      → specification turns (print_specification s ++ mark Semicolon ∷ rest) ≡ Some (s, mark Semicolon ∷ rest)
  specification_again (of_type t) rest is len = spelled_again t rest is
  specification_again (of_values at n ns) rest is len = enumeration_again at n ns (mark Semicolon ∷ rest) len

  type_declaration_again : (d : TypeDeclarationData) (rest : List Symbol) → IsSpecificationFormed d.specification → length (declared_before d rest) ≤ turns → type_declaration turns (declared_before d rest) ≡ Some (d, rest)
  unfolding type_declaration
  type_declaration_again d rest is len =
      let tail : List Symbol = print_specification d.specification ++ mark Semicolon ∷ rest in
      let enough : length tail ≤ turns = omega arith in
      rw (step_named d.name (mark Colon ∷ tail), after_colon tail, specification_again d.specification rest is enough, after_semicolon rest) refl

  before_length : (d : TypeDeclarationData) (rest : List Symbol) → length rest < length (declared_before d rest)
  before_length d rest = omega (arith, length-append (print_specification d.specification) (mark Semicolon ∷ rest))

  pub types_again : (n : ℕ) (before ds : List TypeDeclarationData) (rest : List Symbol) → AreTypesFormed ds → length (print_types ds ++ mark EndType ∷ rest) ≤ n → length (print_types ds ++ mark EndType ∷ rest) ≤ turns
      → types turns n before (print_types ds ++ mark EndType ∷ rest) ≡ Some (before ++ ds, rest)
  unfolding types
  types_again zero before ds rest is le len = absurd (omega (arith, length-append (print_types ds) (mark EndType ∷ rest)))
  types_again (suc n) before [] rest is le len = rw (after_end rest) (ap (λ (ds : List TypeDeclarationData). Some (ds, rest)) (sym (append-nil before)))
  types_again (suc n) before (d ∷ ds) rest is le len =
      let tail : List Symbol = print_types ds ++ mark EndType ∷ rest in
      let shape : print_types (d ∷ ds) ++ mark EndType ∷ rest ≡ declared_before d tail = types_shape d ds (mark EndType ∷ rest) in
      let whole : length (declared_before d tail) ≤ turns = omega (arith, ap length shape) in
      let less : length tail ≤ n = omega (arith, ap length shape, before_length d tail) in
      let fewer : length tail ≤ turns = omega (arith, before_length d tail) in
      ap (types turns (suc n) before) shape ∙ rw (no_end d tail, type_declaration_again d tail is.0 whole)
      (types_again n (before ++ d ∷ []) ds rest is.1 less fewer ∙ ap (λ (x : List TypeDeclarationData). Some (x, rest)) (append_assoc before (d ∷ []) ds))
