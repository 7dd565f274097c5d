-- What declarations print is read as those declarations.
use Rattle.std.proofs.Common.{◌≡◌, ℕ, zero, suc, ◌<◌, ◌≤◌, Bool, true, false, List, [], ◌∷◌, ◌++◌, map, length, Option, Some, None, refl, sym, ap, ◌∙◌, append_assoc, arith, length-append}
use Rattle.std.proofs.lemmas.List.{append-nil, length-map}
use Rattle.plc_types.specs.declared.elementary.Elementary.{Elementary}
use Rattle.source_tree.specs.declared.token.Mark.TheVariants.{Close, Comma, Colon, Semicolon, Range, Hash, Constant, EndVar}
use Rattle.plc_types.specs.declared.operator.UnaryOperator.TheVariants as signs
use Rattle.source_tree.specs.declared.syntax.Literal.{Literal}
use Rattle.source_tree.specs.declared.syntax.Literal.TheVariants as literals
use Rattle.source_tree.specs.declared.syntax.Section.{Section}
use Rattle.source_tree.specs.declared.syntax.Section.TheVariants as sections
use Rattle.source_tree.specs.Syntax.{Symbol, mark, Named, Tree, literal, path, enumerator, paren, unary, chain, call, BoundsData, TypeData, of_elementary, of_subrange, of_name, DeclarationData, VariablesData}
use Rattle.source_tree.specs.Prints.{name_symbol, print_members, print_literal, print, print_others, print_bounds, print_type, print_initial, print_declaration, print_declarations, section_marks, print_variables}
use Rattle.source_tree.specs.Levels.{IsConstant, IsInitialFormed, IsTypeFormed, AreDeclarationsFormed, AreVariablesFormed}
use Rattle.grammar.specs.Marks.{same_mark}
use Rattle.grammar.specs.Reading.{after, named, minus, opened}
use Rattle.grammar.specs.Declarations.{named_value, literal_value, initial_value, initial, bounds, ranged, type_of, others, local, section_of, section_where, declared, declaration, declarations, variables}
use Rattle.grammar_laws.proofs.Again.{constant_again}
use Rattle.grammar_laws.proofs.DeclarationSound.{bounds_shape, declaration_shape, IsSectionWhere, AreSectionsWhere}

-- ---- initial values

literal_value_again : (l : Literal) (rest : List Symbol) → initial_value (print_literal l ++ rest) ≡ Some (literal l, rest)
unfolding initial_value literal_value minus
literal_value_again (literals.Number value at) rest = rw (constant_again (literals.Number value at) rest) refl
literal_value_again (literals.Truth value at) rest = rw (constant_again (literals.Truth value at) rest) refl
literal_value_again (literals.TypedNumber kind at m value value_at) rest = rw (constant_again (literals.TypedNumber kind at m value value_at) rest) refl
literal_value_again (literals.TypedTruth kind at value value_at) rest = rw (constant_again (literals.TypedTruth kind at value value_at) rest) refl

path_value_again : (n : Named) (ns : List Named) (rest : List Symbol) → ns ≡ [] → after Hash rest ≡ None → initial_value (name_symbol n ∷ (print_members ns ++ rest)) ≡ Some (path (record { first = n; members = ns }), rest)
unfolding initial_value named_value
path_value_again n [] rest none hash = rw hash refl
path_value_again n (m ∷ ns) rest none hash = absurd cc

enumerator_value_again : (n v : Named) (rest : List Symbol) → initial_value (print (enumerator n v) ++ rest) ≡ Some (enumerator n v, rest)
unfolding initial_value named_value after named same_mark
enumerator_value_again n v rest = refl

minus_value_again : (at : ℕ) (l : Literal) (rest : List Symbol) → initial_value (print (unary signs.Minus at (literal l)) ++ rest) ≡ Some (unary signs.Minus at (literal l), rest)
unfolding initial_value literal_value minus
minus_value_again at l rest = rw (constant_again l rest) refl

-- a constant is read up to what does not go on with it
pub value_again : (e : Tree) (rest : List Symbol) → IsConstant e → after Hash rest ≡ None → initial_value (print e ++ rest) ≡ Some (e, rest)
value_again (literal l) rest is hash = literal_value_again l rest
value_again (path p) rest is hash = path_value_again p.first p.members rest is hash
value_again (enumerator n v) rest is hash = enumerator_value_again n v rest
value_again (paren at e) rest is hash = absurd is
value_again (unary signs.Minus at (literal l)) rest is hash = minus_value_again at l rest
value_again (unary signs.Minus at (path p)) rest is hash = absurd is
value_again (unary signs.Minus at (enumerator n v)) rest is hash = absurd is
value_again (unary signs.Minus at (paren place e)) rest is hash = absurd is
value_again (unary signs.Minus at (unary o place e)) rest is hash = absurd is
value_again (unary signs.Minus at (chain e ls)) rest is hash = absurd is
value_again (unary signs.Minus at (call n place args)) rest is hash = absurd is
value_again (unary signs.Not at e) rest is hash = absurd is
value_again (chain e ls) rest is hash = absurd is
value_again (call n at args) rest is hash = absurd is

no_hash : (rest : List Symbol) → after Hash (mark Semicolon ∷ rest) ≡ None
unfolding after same_mark
no_hash rest = refl

initial_again : (i : Option Tree) (rest : List Symbol) → IsInitialFormed i → initial (print_initial i ++ mark Semicolon ∷ rest) ≡ Some (i, mark Semicolon ∷ rest)
unfolding initial after same_mark
initial_again None rest is = refl
initial_again (Some e) rest is = rw (value_again e (mark Semicolon ∷ rest) is (no_hash rest)) refl

-- ---- a type

no_hash_range : (rest : List Symbol) → after Hash (mark Range ∷ rest) ≡ None
unfolding after same_mark
no_hash_range rest = refl

no_hash_close : (rest : List Symbol) → after Hash (mark Close ∷ rest) ≡ None
unfolding after same_mark
no_hash_close rest = refl

pub after_range : (rest : List Symbol) → after Range (mark Range ∷ rest) ≡ Some rest
unfolding after same_mark
after_range rest = refl

pub after_close : (rest : List Symbol) → after Close (mark Close ∷ rest) ≡ Some rest
unfolding after same_mark
after_close rest = refl

bounds_again : (b : BoundsData) (rest : List Symbol) → IsConstant b.low → IsConstant b.high → bounds b.at (print b.low ++ mark Range ∷ (print b.high ++ mark Close ∷ rest)) ≡ Some (b, rest)
unfolding bounds
bounds_again b rest low high =
    let last : List Symbol = print b.high ++ mark Close ∷ rest in
    rw (value_again b.low (mark Range ∷ last) low (no_hash_range last), after_range last, value_again b.high (mark Close ∷ rest) high (no_hash_close rest), after_close rest) refl

subrange_again : (kind : Elementary) (at : ℕ) (b : BoundsData) (rest : List Symbol) → IsConstant b.low → IsConstant b.high → ranged kind at (print_bounds b ++ rest) ≡ Some (of_subrange kind at b, rest)
unfolding ranged opened
subrange_again kind at b rest low high = ap (ranged kind at) (bounds_shape b rest) ∙ rw (bounds_again b rest low high) refl

elementary_again : (kind : Elementary) (at : ℕ) (rest : List Symbol) → opened rest ≡ None → ranged kind at rest ≡ Some (of_elementary kind at, rest)
unfolding ranged
elementary_again kind at rest none = rw none refl

-- a type is read up to what is no parenthesis
pub type_again : (k : TypeData) (rest : List Symbol) → IsTypeFormed k → opened rest ≡ None → type_of (print_type k ++ rest) ≡ Some (k, rest)
unfolding type_of
type_again (of_elementary kind at) rest is none = elementary_again kind at rest none
type_again (of_subrange kind at b) rest is none = subrange_again kind at b rest is.0 is.1
type_again (of_name n) rest is none = refl

-- ---- a declaration

pub others_again : (n : ℕ) (before ns : List Named) (rest : List Symbol) → after Comma rest ≡ None → length (print_others ns ++ rest) ≤ n → others n before (print_others ns ++ rest) ≡ Some (before ++ ns, rest)
unfolding others after named same_mark
others_again zero before [] rest none le = ap (λ (ns : List Named). Some (ns, rest)) (sym (append-nil before))
others_again zero before (x ∷ ns) rest none le = absurd (omega arith)
others_again (suc n) before [] rest none le = rw none (ap (λ (ns : List Named). Some (ns, rest)) (sym (append-nil before)))
others_again (suc n) before (x ∷ ns) rest none le =
    others_again n (before ++ x ∷ []) ns rest none (omega arith) ∙ ap (λ (ms : List Named). Some (ms, rest)) (append_assoc before (x ∷ []) ns)

no_comma : (rest : List Symbol) → after Comma (mark Colon ∷ rest) ≡ None
unfolding after same_mark
no_comma rest = refl

not_opened : (i : Option Tree) (rest : List Symbol) → opened (print_initial i ++ mark Semicolon ∷ rest) ≡ None
unfolding opened
not_opened None rest = refl
not_opened (Some e) rest = refl

pub after_colon : (rest : List Symbol) → after Colon (mark Colon ∷ rest) ≡ Some rest
unfolding after same_mark
after_colon rest = refl

pub after_semicolon : (rest : List Symbol) → after Semicolon (mark Semicolon ∷ rest) ≡ Some rest
unfolding after same_mark
after_semicolon rest = refl

pub step_named : (n : Named) (ts : List Symbol) → named (name_symbol n ∷ ts) ≡ Some (n, ts)
unfolding named
step_named n ts = refl

module _ (turns : ℕ) where
  declared_again : (d : DeclarationData) (rest : List Symbol) → IsTypeFormed d.kind → IsInitialFormed d.initial
      → declared turns d.first d.others (mark Colon ∷ (print_type d.kind ++ (print_initial d.initial ++ mark Semicolon ∷ rest))) ≡ Some (d, rest)
  unfolding declared
  declared_again d rest formed is =
      let last : List Symbol = print_initial d.initial ++ mark Semicolon ∷ rest in
      rw (after_colon (print_type d.kind ++ last), type_again d.kind last formed (not_opened d.initial rest), initial_again d.initial rest is, after_semicolon rest) refl

  pub declaration_again : (d : DeclarationData) (rest : List Symbol) → IsTypeFormed d.kind → IsInitialFormed d.initial → length (print_declaration d ++ rest) ≤ turns → declaration turns (print_declaration d ++ rest) ≡ Some (d, rest)
  unfolding declaration
  declaration_again d rest formed is len =
      let tail : List Symbol = print_type d.kind ++ (print_initial d.initial ++ mark Semicolon ∷ rest) in
      let shape : print_declaration d ++ rest ≡ name_symbol d.first ∷ (print_others d.others ++ mark Colon ∷ tail) = declaration_shape d rest in
      let enough : length (print_others d.others ++ mark Colon ∷ tail) ≤ turns = omega (arith, ap length shape) in
      ap (declaration turns) shape ∙ rw (step_named d.first (print_others d.others ++ mark Colon ∷ tail), others_again turns [] d.others (mark Colon ∷ tail) (no_comma tail) enough) (declared_again d rest formed is)

  -- ---- the declarations of a section

  no_end : (d : DeclarationData) (rest : List Symbol) → after EndVar (print_declaration d ++ rest) ≡ None
  unfolding after
  no_end d rest = refl

  after_end : (rest : List Symbol) → after EndVar (mark EndVar ∷ rest) ≡ Some rest
  unfolding after same_mark
  after_end rest = refl

  some_symbols : (d : DeclarationData) → 1 ≤ length (print_declaration d)
  some_symbols d = omega arith

  declarations_again : (n : ℕ) (before ds : List DeclarationData) (rest : List Symbol) → AreDeclarationsFormed ds → length (print_declarations ds ++ mark EndVar ∷ rest) ≤ n → length (print_declarations ds ++ mark EndVar ∷ rest) ≤ turns
      → declarations turns n before (print_declarations ds ++ mark EndVar ∷ rest) ≡ Some (before ++ ds, rest)
  unfolding declarations
  declarations_again zero before ds rest is le len = absurd (omega (arith, length-append (print_declarations ds) (mark EndVar ∷ rest)))
  declarations_again (suc n) before [] rest is le len = rw (after_end rest) (ap (λ (ds : List DeclarationData). Some (ds, rest)) (sym (append-nil before)))
  declarations_again (suc n) before (d ∷ ds) rest is le len =
      let tail : List Symbol = print_declarations ds ++ mark EndVar ∷ rest in
      let shape : print_declarations (d ∷ ds) ++ mark EndVar ∷ rest ≡ print_declaration d ++ tail = append_assoc (print_declaration d) (print_declarations ds) (mark EndVar ∷ rest) in
      let whole : length (print_declaration d ++ tail) ≤ turns = omega (arith, ap length shape) in
      let less : length tail ≤ n = omega (arith, ap length shape, length-append (print_declaration d) tail, some_symbols d) in
      let fewer : length tail ≤ turns = omega (arith, length-append (print_declaration d) tail) in
      rw (shape, no_end d tail, declaration_again d tail is.0 is.1 whole)
      (declarations_again n (before ++ d ∷ []) ds rest is.2 less fewer ∙ ap (λ (x : List DeclarationData). Some (x, rest)) (append_assoc before (d ∷ []) ds))

  -- ---- sections

  no_constant : (ds : List DeclarationData) (rest : List Symbol) → after Constant (print_declarations ds ++ mark EndVar ∷ rest) ≡ None
  unfolding after same_mark
  no_constant [] rest = refl
  no_constant (d ∷ ds) rest = refl

  section_again : (s : Section) (rest : List Symbol) → after Constant rest ≡ None → section_of (map mark (section_marks s) ++ rest) ≡ Some (s, rest)
  unfolding section_of local after same_mark
  section_again sections.Input rest none = refl
  section_again sections.Output rest none = refl
  section_again sections.Local rest none = rw none refl
  section_again sections.Temporary rest none = refl
  section_again sections.Constant rest none = refl

  section_where_again : (of_function : Bool) (s : Section) (rest : List Symbol) → IsSectionWhere of_function s → after Constant rest ≡ None → section_where of_function (map mark (section_marks s) ++ rest) ≡ Some (s, rest)
  unfolding section_where
  section_where_again true s rest is none = rw (section_again s rest none, is) refl
  section_where_again false s rest is none = rw (section_again s rest none) refl

  no_section_where : (of_function : Bool) (rest : List Symbol) → section_of rest ≡ None → section_where of_function rest ≡ None
  unfolding section_where
  no_section_where of_function rest none = rw none refl

  first_section : (of_function : Bool) (v : VariablesData) (vs : List VariablesData) → AreSectionsWhere of_function (v ∷ vs) → IsSectionWhere of_function v.section
  first_section true v vs are = are.0
  first_section false v vs are = tt

  other_sections : (of_function : Bool) (v : VariablesData) (vs : List VariablesData) → AreSectionsWhere of_function (v ∷ vs) → AreSectionsWhere of_function vs
  other_sections true v vs are = are.1
  other_sections false v vs are = tt

  some_marks : (s : Section) → 1 ≤ length (section_marks s)
  some_marks sections.Input = omega arith
  some_marks sections.Output = omega arith
  some_marks sections.Local = omega arith
  some_marks sections.Temporary = omega arith
  some_marks sections.Constant = omega arith

  variables_shape : (v : VariablesData) (vs : List VariablesData) (rest : List Symbol) → print_variables (v ∷ vs) ++ rest ≡ map mark (section_marks v.section) ++ (print_declarations v.declarations ++ mark EndVar ∷ (print_variables vs ++ rest))
  variables_shape v vs rest =
      append_assoc (map mark (section_marks v.section)) (print_declarations v.declarations ++ mark EndVar ∷ print_variables vs) rest
      ∙ ap (λ (x : List Symbol). map mark (section_marks v.section) ++ x) (append_assoc (print_declarations v.declarations) (mark EndVar ∷ print_variables vs) rest)

  -- a section's word or words stand before its declarations
  variables_length : (v : VariablesData) (vs : List VariablesData) (rest : List Symbol) → length (print_declarations v.declarations ++ mark EndVar ∷ (print_variables vs ++ rest)) < length (print_variables (v ∷ vs) ++ rest)
  variables_length v vs rest =
      let inner : List Symbol = print_declarations v.declarations ++ mark EndVar ∷ (print_variables vs ++ rest) in
      omega (arith, ap length (variables_shape v vs rest), length-append (map mark (section_marks v.section)) inner, length-map (section_marks v.section) mark, some_marks v.section)

  pub variables_again : (of_function : Bool) (n : ℕ) (before vs : List VariablesData) (rest : List Symbol) → AreVariablesFormed vs → AreSectionsWhere of_function vs → section_of rest ≡ None → length (print_variables vs ++ rest) ≤ n → length (print_variables vs ++ rest) ≤ turns
      → variables turns of_function n before (print_variables vs ++ rest) ≡ Some (before ++ vs, rest)
  unfolding variables
  variables_again of_function zero before [] rest is are ends le len = ap (λ (vs : List VariablesData). Some (vs, rest)) (sym (append-nil before))
  variables_again of_function zero before (v ∷ vs) rest is are ends le len = absurd (omega (arith, variables_length v vs rest))
  variables_again of_function (suc n) before [] rest is are ends le len = rw (no_section_where of_function rest ends) (ap (λ (vs : List VariablesData). Some (vs, rest)) (sym (append-nil before)))
  variables_again of_function (suc n) before (v ∷ vs) rest is are ends le len =
      let tail : List Symbol = print_variables vs ++ rest in
      let inner : List Symbol = print_declarations v.declarations ++ mark EndVar ∷ tail in
      let shape : print_variables (v ∷ vs) ++ rest ≡ map mark (section_marks v.section) ++ inner = variables_shape v vs rest in
      let whole : length inner ≤ turns = omega (arith, variables_length v vs rest) in
      let less : length tail ≤ n = omega (arith, variables_length v vs rest, length-append (print_declarations v.declarations) (mark EndVar ∷ tail)) in
      let fewer : length tail ≤ turns = omega (arith, length-append (print_declarations v.declarations) (mark EndVar ∷ tail)) in
      rw (shape, section_where_again of_function v.section inner (first_section of_function v vs are) (no_constant v.declarations tail), declarations_again turns [] v.declarations tail is.0 whole whole)
      (variables_again of_function n (before ++ v ∷ []) vs rest is.1 (other_sections of_function v vs are) ends less fewer ∙ ap (λ (x : List VariablesData). Some (x, rest)) (append_assoc before (v ∷ []) vs))
