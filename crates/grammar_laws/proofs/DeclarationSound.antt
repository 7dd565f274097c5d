-- What is read of declarations prints the symbols that were taken.
use Rattle.std.proofs.Common.{◌≡◌, ℕ, zero, suc, Bool, true, false, cond, ◌&&◌, not, List, [], ◌∷◌, ◌++◌, map, Option, Some, None, refl, sym, ap, subst, ◌∙◌, append_assoc}
use Rattle.std.proofs.lemmas.List.{append-nil}
use Rattle.plc_types.specs.declared.elementary.Elementary.{Elementary}
use Rattle.source_tree.specs.declared.token.Mark.{Mark}
use Rattle.source_tree.specs.declared.token.Mark.TheVariants.{Close, Comma, Colon, Semicolon, Assign, Range, Hash, Var, VarInput, VarOutput, VarTemp, Constant, EndVar}
use Rattle.plc_types.specs.declared.operator.Operator.TheVariants as ops
use Rattle.plc_types.specs.declared.operator.UnaryOperator.TheVariants as signs
use Rattle.source_tree.specs.declared.syntax.Literal.{Literal}
use Rattle.source_tree.specs.declared.syntax.Section.{Section}
use Rattle.source_tree.specs.declared.syntax.Section.TheVariants as sections
use Rattle.source_tree.specs.Syntax.{Symbol, name, elementary, operator, opening, mark, Named, Tree, literal, path, enumerator, unary, BoundsData, TypeData, of_elementary, of_subrange, of_name, DeclarationData, VariablesData}
use Rattle.source_tree.specs.Prints.{name_symbol, print, print_others, print_bounds, print_type, print_initial, print_declaration, print_declarations, section_marks, print_variables}
use Rattle.source_tree.specs.Levels.{IsConstant, IsInitialFormed, IsTypeFormed, AreDeclarationsFormed, AreVariablesFormed, is_section_of_function, AreSectionsOfFunction}
use Rattle.grammar.specs.Marks.{same_mark}
use Rattle.grammar.specs.Reading.{after, named, minus, opened}
use Rattle.grammar.specs.Expressions.{constant}
use Rattle.grammar.specs.Declarations.{named_or, named_value, literal_or, literal_value, initial_value, initial_or, initial, bounds, ranged_or, ranged, type_of, others_step, others, local_or, local, section_of, section_or, section_where, declared, declaration, declarations_step, declarations, variables_step, variables}
use Rattle.grammar_laws.proofs.Steps.{bind_some, some_is, same_mark-is, after_is, named_is, minus_is, opened_is}
use Rattle.grammar_laws.proofs.Sound.{constant_is}

-- ---- initial values

abbrev ConstantIs : List Symbol → Tree × List Symbol → Type 0
ConstantIs ts y = (ts ≡ print y.0 ++ y.1) × IsConstant y.0

named_go : (n : Named) (ts : List Symbol) (y : Tree × List Symbol) (o : Option (List Symbol)) → after Hash ts ≡ o → named_or n ts o ≡ Some y → ConstantIs (name_symbol n ∷ ts) y
named_go n ts y None is e =
    let whole : ConstantIs (name_symbol n ∷ ts) (path (record { first = n; members = [] }), ts) = (refl, refl) in
    subst (ConstantIs (name_symbol n ∷ ts)) (some_is (path (record { first = n; members = [] }), ts) y e) whole
named_go n ts y (Some r) is e =
    let a = bind_some (named r) (λ (v : Named × List Symbol). Some (enumerator n v.0, v.1)) y e in
    let printed = after_is Hash ts r is ∙ ap (λ (x : List Symbol). mark Hash ∷ x) (named_is r a.0.0 a.0.1 a.1) in
    let whole : ConstantIs (name_symbol n ∷ ts) (enumerator n a.0.0, a.0.1) = (ap (λ (x : List Symbol). name_symbol n ∷ x) printed, tt) in
    subst (ConstantIs (name_symbol n ∷ ts)) (some_is (enumerator n a.0.0, a.0.1) y a.2) whole

named_value_is : (n : Named) (ts : List Symbol) (y : Tree × List Symbol) → named_value n ts ≡ Some y → ConstantIs (name_symbol n ∷ ts) y
unfolding named_value
named_value_is n ts y e = named_go n ts y (after Hash ts) refl e

literal_go : (ts : List Symbol) (y : Tree × List Symbol) (o : Option (ℕ × List Symbol)) → minus ts ≡ o → literal_or ts o ≡ Some y → ConstantIs ts y
literal_go ts y (Some m) is e =
    let a = bind_some (constant m.1) (λ (l : Literal × List Symbol). Some (unary signs.Minus m.0 (literal l.0), l.1)) y e in
    let printed = minus_is ts m.0 m.1 is ∙ ap (λ (x : List Symbol). operator ops.Minus m.0 ∷ x) (constant_is m.1 a.0 a.1) in
    let whole : ConstantIs ts (unary signs.Minus m.0 (literal a.0.0), a.0.1) = (printed, tt) in
    subst (ConstantIs ts) (some_is (unary signs.Minus m.0 (literal a.0.0), a.0.1) y a.2) whole
literal_go ts y None is e =
    let a = bind_some (constant ts) (λ (l : Literal × List Symbol). Some (literal l.0, l.1)) y e in
    let whole : ConstantIs ts (literal a.0.0, a.0.1) = (constant_is ts a.0 a.1, tt) in
    subst (ConstantIs ts) (some_is (literal a.0.0, a.0.1) y a.2) whole

literal_value_is : (ts : List Symbol) (y : Tree × List Symbol) → literal_value ts ≡ Some y → ConstantIs ts y
unfolding literal_value
literal_value_is ts y e = literal_go ts y (minus ts) refl e

pub initial_value_is : (ts : List Symbol) (y : Tree × List Symbol) → initial_value ts ≡ Some y → ConstantIs ts y
unfolding initial_value
initial_value_is (name t at ∷ ts) y e = named_value_is (record { text = t; at = at }) ts y e
initial_value_is ts y e = literal_value_is ts y e

abbrev InitialIs : List Symbol → Option Tree × List Symbol → Type 0
InitialIs ts y = (ts ≡ print_initial y.0 ++ y.1) × IsInitialFormed y.0

initial_go : (ts : List Symbol) (y : Option Tree × List Symbol) (o : Option (List Symbol)) → after Assign ts ≡ o → initial_or ts o ≡ Some y → InitialIs ts y
initial_go ts y None is e =
    let whole : InitialIs ts (None, ts) = (refl, tt) in
    subst (InitialIs ts) (some_is (None, ts) y e) whole
initial_go ts y (Some r) is e =
    let a = bind_some (initial_value r) (λ (v : Tree × List Symbol). Some (Some v.0, v.1)) y e in
    let c = initial_value_is r a.0 a.1 in
    let whole : InitialIs ts (Some a.0.0, a.0.1) = (after_is Assign ts r is ∙ ap (λ (x : List Symbol). mark Assign ∷ x) c.0, c.1) in
    subst (InitialIs ts) (some_is (Some a.0.0, a.0.1) y a.2) whole

initial_is : (ts : List Symbol) (y : Option Tree × List Symbol) → initial ts ≡ Some y → InitialIs ts y
unfolding initial
initial_is ts y e = initial_go ts y (after Assign ts) refl e

-- ---- a type

abbrev BoundsAre : ℕ → List Symbol → BoundsData × List Symbol → Type 0
BoundsAre at ts y = (opening at ∷ ts ≡ print_bounds y.0 ++ y.1) × IsConstant y.0.low × IsConstant y.0.high

-- how the symbols of bounds stand before others
pub bounds_shape : (b : BoundsData) (rest : List Symbol) → print_bounds b ++ rest ≡ opening b.at ∷ (print b.low ++ mark Range ∷ (print b.high ++ mark Close ∷ rest))
bounds_shape b rest =
    ap (λ (x : List Symbol). opening b.at ∷ x) (
    append_assoc (print b.low) (mark Range ∷ (print b.high ++ mark Close ∷ [])) rest
    ∙ ap (λ (x : List Symbol). print b.low ++ mark Range ∷ x) (append_assoc (print b.high) (mark Close ∷ []) rest))

bounds_are : (at : ℕ) (ts : List Symbol) (y : BoundsData × List Symbol) → bounds at ts ≡ Some y → BoundsAre at ts y
unfolding bounds
bounds_are at ts y e =
    let a = bind_some (initial_value ts) _ y e in
    let b = bind_some (after Range a.0.1) _ y a.2 in
    let c = bind_some (initial_value b.0) _ y b.2 in
    let d = bind_some (after Close c.0.1) _ y c.2 in
    let low = initial_value_is ts a.0 a.1 in
    let high = initial_value_is b.0 c.0 c.1 in
    let found : BoundsData = record { at = at; low = a.0.0; high = c.0.0 } in
    let last : b.0 ≡ print c.0.0 ++ mark Close ∷ d.0 = high.0 ∙ ap (λ (x : List Symbol). print c.0.0 ++ x) (after_is Close c.0.1 d.0 d.1) in
    let printed : ts ≡ print a.0.0 ++ mark Range ∷ (print c.0.0 ++ mark Close ∷ d.0) =
    low.0 ∙ ap (λ (x : List Symbol). print a.0.0 ++ x) (after_is Range a.0.1 b.0 b.1 ∙ ap (λ (x : List Symbol). mark Range ∷ x) last) in
    let whole : BoundsAre at ts (found, d.0) = (ap (λ (x : List Symbol). opening at ∷ x) printed ∙ sym (bounds_shape found d.0), low.1, high.1) in
    subst (BoundsAre at ts) (some_is (found, d.0) y d.2) whole

abbrev pub TypeIs : List Symbol → TypeData × List Symbol → Type 0
TypeIs ts y = (ts ≡ print_type y.0 ++ y.1) × IsTypeFormed y.0

ranged_go : (kind : Elementary) (at : ℕ) (ts : List Symbol) (y : TypeData × List Symbol) (o : Option (ℕ × List Symbol)) → opened ts ≡ o → ranged_or kind at ts o ≡ Some y → TypeIs (elementary kind at ∷ ts) y
ranged_go kind at ts y None is e =
    let whole : TypeIs (elementary kind at ∷ ts) (of_elementary kind at, ts) = (refl, tt) in
    subst (TypeIs (elementary kind at ∷ ts)) (some_is (of_elementary kind at, ts) y e) whole
ranged_go kind at ts y (Some o) is e =
    let a = bind_some (bounds o.0 o.1) (λ (b : BoundsData × List Symbol). Some (of_subrange kind at b.0, b.1)) y e in
    let b = bounds_are o.0 o.1 a.0 a.1 in
    let printed : elementary kind at ∷ ts ≡ elementary kind at ∷ (print_bounds a.0.0 ++ a.0.1) = ap (λ (x : List Symbol). elementary kind at ∷ x) (opened_is ts o.0 o.1 is ∙ b.0) in
    let whole : TypeIs (elementary kind at ∷ ts) (of_subrange kind at a.0.0, a.0.1) = (printed, (b.1, b.2)) in
    subst (TypeIs (elementary kind at ∷ ts)) (some_is (of_subrange kind at a.0.0, a.0.1) y a.2) whole

ranged_is : (kind : Elementary) (at : ℕ) (ts : List Symbol) (y : TypeData × List Symbol) → ranged kind at ts ≡ Some y → TypeIs (elementary kind at ∷ ts) y
unfolding ranged
ranged_is kind at ts y e = ranged_go kind at ts y (opened ts) refl e

pub type_is : (ts : List Symbol) (y : TypeData × List Symbol) → type_of ts ≡ Some y → TypeIs ts y
unfolding type_of
type_is (elementary kind at ∷ ts) y e = ranged_is kind at ts y e
type_is (name t at ∷ ts) y e =
    let whole : TypeIs (name t at ∷ ts) (of_name (record { text = t; at = at }), ts) = (refl, tt) in
    subst (TypeIs (name t at ∷ ts)) (some_is (of_name (record { text = t; at = at }), ts) y e) whole
type_is ts y e = absurd cc

-- ---- a declaration

abbrev pub OthersAre : List Named → List Symbol → List Named × List Symbol → Type 0
OthersAre before ts y = (extra : List Named) × (y.0 ≡ before ++ extra) × (ts ≡ print_others extra ++ y.1)

others_stop : (before : List Named) (ts : List Symbol) (y : List Named × List Symbol) → (let o : Option (List Named × List Symbol) = Some (before, ts) in o) ≡ Some y → OthersAre before ts y
others_stop before ts y e =
    let whole : OthersAre before ts (before, ts) = ([], sym (append-nil before), refl) in
    subst (OthersAre before ts) (some_is (before, ts) y e) whole

others_go : (n : ℕ) (before : List Named) (ts : List Symbol) (y : List Named × List Symbol) (o : Option (List Symbol)) → after Comma ts ≡ o → others_step (others n) before ts o ≡ Some y
    → ((before : List Named) (ts : List Symbol) → others n before ts ≡ Some y → OthersAre before ts y) → OthersAre before ts y
others_go n before ts y None is e below = others_stop before ts y e
others_go n before ts y (Some r) is e below =
    let a = bind_some (named r) (λ (m : Named × List Symbol). others n (before ++ m.0 ∷ []) m.1) y e in
    let b = below (before ++ a.0.0 ∷ []) a.0.1 a.2 in (
      a.0.0 ∷ b.0,
      b.1 ∙ append_assoc before (a.0.0 ∷ []) b.0,
      after_is Comma ts r is ∙ ap (λ (x : List Symbol). mark Comma ∷ x) (named_is r a.0.0 a.0.1 a.1 ∙ ap (λ (x : List Symbol). name_symbol a.0.0 ∷ x) b.2),
    )

pub others_are : (n : ℕ) (before : List Named) (ts : List Symbol) (y : List Named × List Symbol) → others n before ts ≡ Some y → OthersAre before ts y
unfolding others
others_are zero before ts y e = others_stop before ts y e
others_are (suc n) before ts y e = others_go n before ts y (after Comma ts) refl e (λ before ts e. others_are n before ts y e)

abbrev DeclarationIs : List Symbol → DeclarationData × List Symbol → Type 0
DeclarationIs ts y = (ts ≡ print_declaration y.0 ++ y.1) × IsTypeFormed y.0.kind × IsInitialFormed y.0.initial

-- how a declaration's symbols stand before others
pub declaration_shape : (d : DeclarationData) (rest : List Symbol)
    → print_declaration d ++ rest ≡ name_symbol d.first ∷ (print_others d.others ++ mark Colon ∷ (print_type d.kind ++ (print_initial d.initial ++ mark Semicolon ∷ rest)))
declaration_shape d rest =
    let kind : List Symbol = print_type d.kind in
    let value : List Symbol = print_initial d.initial in
    ap (λ (x : List Symbol). name_symbol d.first ∷ x) (
    append_assoc (print_others d.others) (mark Colon ∷ (kind ++ value ++ mark Semicolon ∷ [])) rest
    ∙ ap (λ (x : List Symbol). print_others d.others ++ mark Colon ∷ x) (append_assoc (kind ++ value) (mark Semicolon ∷ []) rest ∙ append_assoc kind value (mark Semicolon ∷ rest)))

-- a section that a FUNCTION may have, and such sections, where they are of one
abbrev pub IsSectionWhere : Bool → Section → Type 0
IsSectionWhere true s = is_section_of_function s ≡ true
IsSectionWhere false s = Unit {0}

abbrev pub AreSectionsWhere : Bool → List VariablesData → Type 0
AreSectionsWhere true vs = AreSectionsOfFunction vs
AreSectionsWhere false vs = Unit {0}

no_sections : (of_function : Bool) → AreSectionsWhere of_function []
no_sections true = tt
no_sections false = tt

more_sections : (of_function : Bool) (v : VariablesData) (vs : List VariablesData) → IsSectionWhere of_function v.section → AreSectionsWhere of_function vs → AreSectionsWhere of_function (v ∷ vs)
more_sections true v vs is are = (is, are)
more_sections false v vs is are = tt

module _ (turns : ℕ) where
  declared_is : (n : Named) (ns : List Named) (ts : List Symbol) (y : DeclarationData × List Symbol) → declared turns n ns ts ≡ Some y → DeclarationIs (name_symbol n ∷ (print_others ns ++ ts)) y
  unfolding declared
  declared_is n ns ts y e =
      let a = bind_some (after Colon ts) _ y e in
      let b = bind_some (type_of a.0) _ y a.2 in
      let c = bind_some (initial b.0.1) _ y b.2 in
      let d = bind_some (after Semicolon c.0.1) _ y c.2 in
      let i = initial_is b.0.1 c.0 c.1 in
      let found : DeclarationData = record { first = n; others = ns; kind = b.0.0; initial = c.0.0 } in
      let k = type_is a.0 b.0 b.1 in
      let printed = after_is Colon ts a.0 a.1 ∙ ap (λ (x : List Symbol). mark Colon ∷ x) (k.0 ∙ ap (λ (x : List Symbol). print_type b.0.0 ++ x) (i.0 ∙ ap (λ (x : List Symbol). print_initial c.0.0 ++ x) (after_is Semicolon c.0.1 d.0 d.1))) in
      let whole : DeclarationIs (name_symbol n ∷ (print_others ns ++ ts)) (found, d.0) =
      (ap (λ (x : List Symbol). name_symbol n ∷ (print_others ns ++ x)) printed ∙ sym (declaration_shape found d.0), k.1, i.1) in
      subst (DeclarationIs (name_symbol n ∷ (print_others ns ++ ts))) (some_is (found, d.0) y d.2) whole

  declaration_is : (ts : List Symbol) (y : DeclarationData × List Symbol) → declaration turns ts ≡ Some y → DeclarationIs ts y
  unfolding declaration
  declaration_is ts y e =
      let a = bind_some (named ts) _ y e in
      let b = bind_some (others turns [] a.0.1) _ y a.2 in
      let o = others_are turns [] a.0.1 b.0 b.1 in
      let d = declared_is a.0.0 b.0.0 b.0.1 y b.2 in
      let same : ts ≡ name_symbol a.0.0 ∷ (print_others b.0.0 ++ b.0.1) =
      named_is ts a.0.0 a.0.1 a.1 ∙ ap (λ (x : List Symbol). name_symbol a.0.0 ∷ x) (o.2 ∙ ap (λ (x : List Named). print_others x ++ b.0.1) (sym o.1)) in
      (same ∙ d.0, d.1, d.2)

  -- ---- the declarations of a section

  abbrev DeclarationsAre : List DeclarationData → List Symbol → List DeclarationData × List Symbol → Type 0
  DeclarationsAre before ts y = (extra : List DeclarationData) × (y.0 ≡ before ++ extra) × (ts ≡ print_declarations extra ++ mark EndVar ∷ y.1) × AreDeclarationsFormed extra

  declarations_go : (n : ℕ) (before : List DeclarationData) (ts : List Symbol) (y : List DeclarationData × List Symbol) (o : Option (List Symbol)) → after EndVar ts ≡ o → declarations_step turns (declarations turns n) before ts o ≡ Some y
      → ((before : List DeclarationData) (ts : List Symbol) → declarations turns n before ts ≡ Some y → DeclarationsAre before ts y) → DeclarationsAre before ts y
  declarations_go n before ts y (Some r) is e below =
      let whole : DeclarationsAre before ts (before, r) = ([], sym (append-nil before), after_is EndVar ts r is, tt) in
      subst (DeclarationsAre before ts) (some_is (before, r) y e) whole
  declarations_go n before ts y None is e below =
      let a = bind_some (declaration turns ts) (λ (d : DeclarationData × List Symbol). declarations turns n (before ++ d.0 ∷ []) d.1) y e in
      let d = declaration_is ts a.0 a.1 in
      let b = below (before ++ a.0.0 ∷ []) a.0.1 a.2 in (
        a.0.0 ∷ b.0,
        b.1 ∙ append_assoc before (a.0.0 ∷ []) b.0,
        d.0 ∙ ap (λ (x : List Symbol). print_declaration a.0.0 ++ x) b.2 ∙ sym (append_assoc (print_declaration a.0.0) (print_declarations b.0) (mark EndVar ∷ y.1)),
        (d.1, d.2, b.3),
      )

  declarations_are : (n : ℕ) (before : List DeclarationData) (ts : List Symbol) (y : List DeclarationData × List Symbol) → declarations turns n before ts ≡ Some y → DeclarationsAre before ts y
  unfolding declarations
  declarations_are zero before ts y e = absurd cc
  declarations_are (suc n) before ts y e = declarations_go n before ts y (after EndVar ts) refl e (λ before ts e. declarations_are n before ts y e)

  -- ---- sections

  abbrev SectionIs : List Symbol → Section × List Symbol → Type 0
  SectionIs ts y = ts ≡ map mark (section_marks y.0) ++ y.1

  local_go : (ts : List Symbol) (o : Option (List Symbol)) → after Constant ts ≡ o → SectionIs (mark Var ∷ ts) (local_or ts o)
  local_go ts (Some rest) is = ap (λ (x : List Symbol). mark Var ∷ x) (after_is Constant ts rest is)
  local_go ts None is = refl

  local_is : (ts : List Symbol) → SectionIs (mark Var ∷ ts) (local ts)
  unfolding local
  local_is ts = local_go ts (after Constant ts) refl

  section_found : (m k : Mark) (ts : List Symbol) (found y : Section × List Symbol) → same_mark m k ≡ true → SectionIs (mark k ∷ ts) found → (let o : Option (Section × List Symbol) = Some found in o) ≡ Some y → SectionIs (mark m ∷ ts) y
  section_found m k ts found y same is e = ap (λ (x : Mark). mark x ∷ ts) (same_mark-is m k same) ∙ subst (SectionIs (mark k ∷ ts)) (some_is found y e) is

  section_go : (m : Mark) (ts : List Symbol) (y : Section × List Symbol) (a b c d : Bool) → same_mark m VarInput ≡ a → same_mark m VarOutput ≡ b → same_mark m VarTemp ≡ c → same_mark m Var ≡ d
      → cond a (Some (sections.Input, ts)) (cond b (Some (sections.Output, ts)) (cond c (Some (sections.Temporary, ts)) (cond d (Some (local ts)) None))) ≡ Some y → SectionIs (mark m ∷ ts) y
  section_go m ts y true b c d ea eb ec ed e = section_found m VarInput ts (sections.Input, ts) y ea refl e
  section_go m ts y false true c d ea eb ec ed e = section_found m VarOutput ts (sections.Output, ts) y eb refl e
  section_go m ts y false false true d ea eb ec ed e = section_found m VarTemp ts (sections.Temporary, ts) y ec refl e
  section_go m ts y false false false true ea eb ec ed e = section_found m Var ts (local ts) y ed (local_is ts) e
  section_go m ts y false false false false ea eb ec ed e = absurd cc

  section_is : (ts : List Symbol) (y : Section × List Symbol) → section_of ts ≡ Some y → SectionIs ts y
  unfolding section_of
  section_is (mark m ∷ ts) y e = section_go m ts y (same_mark m VarInput) (same_mark m VarOutput) (same_mark m VarTemp) (same_mark m Var) refl refl refl refl e
  section_is ts y e = absurd cc

  abbrev FoundWhere : Bool → Option (Section × List Symbol) → Section × List Symbol → Type 0
  FoundWhere of_function o s = (o ≡ Some s) × IsSectionWhere of_function s.0

  section_kept : (of_function allowed : Bool) (x s : Section × List Symbol) → is_section_of_function x.0 ≡ allowed → cond (of_function && not allowed) None (Some x) ≡ Some s → FoundWhere of_function (Some x) s
  section_kept true true x s is e =
      let p = some_is x s e in (ap (λ (y : Section × List Symbol). Some y) p, subst (λ (y : Section × List Symbol). is_section_of_function y.0 ≡ true) p is)
  section_kept true false x s is e = absurd cc
  section_kept false allowed x s is e = (ap (λ (y : Section × List Symbol). Some y) (some_is x s e), tt)

  section_where_go : (of_function : Bool) (o : Option (Section × List Symbol)) (s : Section × List Symbol) → section_or of_function o ≡ Some s → FoundWhere of_function o s
  section_where_go of_function None s e = absurd cc
  section_where_go of_function (Some x) s e = section_kept of_function (is_section_of_function x.0) x s refl e

  section_where_is : (of_function : Bool) (ts : List Symbol) (s : Section × List Symbol) → section_where of_function ts ≡ Some s → FoundWhere of_function (section_of ts) s
  unfolding section_where
  section_where_is of_function ts s e = section_where_go of_function (section_of ts) s e

  abbrev pub VariablesAre : Bool → List VariablesData → List Symbol → List VariablesData × List Symbol → Type 0
  VariablesAre of_function before ts y = (extra : List VariablesData) × (y.0 ≡ before ++ extra) × (ts ≡ print_variables extra ++ y.1) × AreVariablesFormed extra × AreSectionsWhere of_function extra

  variables_stop : (of_function : Bool) (before : List VariablesData) (ts : List Symbol) (y : List VariablesData × List Symbol) → (let o : Option (List VariablesData × List Symbol) = Some (before, ts) in o) ≡ Some y → VariablesAre of_function before ts y
  variables_stop of_function before ts y e =
      let whole : VariablesAre of_function before ts (before, ts) = ([], sym (append-nil before), refl, tt, no_sections of_function) in
      subst (VariablesAre of_function before ts) (some_is (before, ts) y e) whole

  variables_go : (of_function : Bool) (n : ℕ) (before : List VariablesData) (ts : List Symbol) (y : List VariablesData × List Symbol) (o : Option (Section × List Symbol)) → section_where of_function ts ≡ o → variables_step turns (variables turns of_function n) before ts o ≡ Some y
      → ((before : List VariablesData) (ts : List Symbol) → variables turns of_function n before ts ≡ Some y → VariablesAre of_function before ts y) → VariablesAre of_function before ts y
  variables_go of_function n before ts y None is e below = variables_stop of_function before ts y e
  variables_go of_function n before ts y (Some s) is e below =
      let a = bind_some (declarations turns turns [] s.1) (λ (ds : List DeclarationData × List Symbol). variables turns of_function n (before ++ record { section = s.0; declarations = ds.0 } ∷ []) ds.1) y e in
      let v : VariablesData = record { section = s.0; declarations = a.0.0 } in
      let d = declarations_are turns [] s.1 a.0 a.1 in
      let found = section_where_is of_function ts s is in
      let b = below (before ++ v ∷ []) a.0.1 a.2 in
      let formed : AreDeclarationsFormed a.0.0 = subst AreDeclarationsFormed (sym d.1) d.3 in
      let printed : s.1 ≡ print_declarations a.0.0 ++ mark EndVar ∷ a.0.1 = d.2 ∙ ap (λ (x : List DeclarationData). print_declarations x ++ mark EndVar ∷ a.0.1) (sym d.1) in (
        v ∷ b.0,
        b.1 ∙ append_assoc before (v ∷ []) b.0,
        section_is ts s found.0 ∙ ap (λ (x : List Symbol). map mark (section_marks s.0) ++ x) (
            printed ∙ ap (λ (x : List Symbol). print_declarations a.0.0 ++ mark EndVar ∷ x) b.2
            ∙ sym (append_assoc (print_declarations a.0.0) (mark EndVar ∷ print_variables b.0) y.1))
            ∙ sym (append_assoc (map mark (section_marks s.0)) (print_declarations a.0.0 ++ mark EndVar ∷ print_variables b.0) y.1),
        (formed, b.3),
        more_sections of_function v b.0 found.1 b.4,
      )

  pub variables_are : (of_function : Bool) (n : ℕ) (before : List VariablesData) (ts : List Symbol) (y : List VariablesData × List Symbol) → variables turns of_function n before ts ≡ Some y → VariablesAre of_function before ts y
  unfolding variables
  variables_are of_function zero before ts y e = variables_stop of_function before ts y e
  variables_are of_function (suc n) before ts y e = variables_go of_function n before ts y (section_where of_function ts) refl e (λ before ts e. variables_are of_function n before ts y e)
