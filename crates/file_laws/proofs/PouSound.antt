-- POUs that are read print the symbols that were taken.
use Rattle.std.proofs.Common.{◌≡◌, ℕ, Bool, true, false, ◌&&◌, not, List, [], ◌∷◌, ◌++◌, Option, Some, None, refl, sym, ap, subst, ◌∙◌, append_assoc}
use Rattle.source_tree.specs.declared.token.Mark.TheVariants.{Colon, Function, FunctionBlock, Program}
use Rattle.source_tree.specs.Syntax.{Symbol, name, elementary, mark, Named, Stmts, TypeData, of_elementary, of_name, VariablesData, PartData, BodyData, statements as statement_body, chart as chart_body, PouTypeData, function, function_block, program, PouData}
use Rattle.source_tree.specs.Prints.{name_symbol, print_type, print_variables, print_body, beginning_of, end_of, print_result, print_pou}
use Rattle.source_tree.specs.Levels.{AreVariablesFormed, IsResultFormed, HasSections, MayDo}
use Rattle.grammar.specs.Ends.{begins_part}
use Rattle.grammar.specs.Reading.{after, named}
use Rattle.grammar.specs.Fits.{StmtsFit}
use Rattle.grammar.specs.Statements.{statements}
use Rattle.grammar.specs.Declarations.{variables}
use Rattle.grammar.specs.Charts.{chart}
use Rattle.grammar.specs.Pous.{answered, is_function, body_or, body, pou_of, function_pou, other_pou, pou_or, pou_begun}
use Rattle.grammar_laws.proofs.Steps.{bind_some, some_is, after_is, named_is}
use Rattle.grammar_laws.proofs.StatementSound.{statements_are}
use Rattle.grammar_laws.proofs.DeclarationSound.{AreSectionsWhere, variables_are}
use Rattle.file_laws.proofs.ChartSound.{ChartFits, chart_is}

-- ---- POUs whose statements nest within a depth

abbrev pub BodyFits : BodyData → ℕ → Type 0
BodyFits (statement_body ss) d = StmtsFit ss d
BodyFits (chart_body ps) d = ChartFits ps d

abbrev pub PouFits : PouData → ℕ → Type 0
PouFits p d = IsResultFormed p.pou_type × HasSections p.pou_type p.variables × AreVariablesFormed p.variables × MayDo p.pou_type p.body × BodyFits p.body d

-- how a POU's symbols stand before others
pub pou_shape : (p : PouData) (rest : List Symbol)
    → print_pou p ++ rest ≡ mark (beginning_of p.pou_type) ∷ name_symbol p.name ∷ (print_result p.pou_type ++ (print_variables p.variables ++ (print_body p.body ++ mark (end_of p.pou_type) ∷ rest)))
pou_shape p rest =
    let last : List Symbol = print_body p.body ++ mark (end_of p.pou_type) ∷ [] in
    ap (λ (x : List Symbol). mark (beginning_of p.pou_type) ∷ name_symbol p.name ∷ x) (
    append_assoc (print_result p.pou_type) (print_variables p.variables ++ last) rest
    ∙ ap (λ (x : List Symbol). print_result p.pou_type ++ x) (
    append_assoc (print_variables p.variables) last rest
    ∙ ap (λ (x : List Symbol). print_variables p.variables ++ x) (append_assoc (print_body p.body) (mark (end_of p.pou_type) ∷ []) rest)))

has_sections : (k : PouTypeData) (vs : List VariablesData) → AreSectionsWhere (is_function k) vs → HasSections k vs
has_sections (function t) vs h = h
has_sections function_block vs h = tt
has_sections program vs h = tt

abbrev AnswerIs : List Symbol → TypeData × List Symbol → Type 0
AnswerIs ts y = (ts ≡ print_type y.0 ++ y.1) × IsResultFormed (function y.0)

answered_is : (ts : List Symbol) (y : TypeData × List Symbol) → answered ts ≡ Some y → AnswerIs ts y
unfolding answered
answered_is (elementary kind at ∷ ts) y e =
    let whole : AnswerIs (elementary kind at ∷ ts) (of_elementary kind at, ts) = (refl, tt) in
    subst (AnswerIs (elementary kind at ∷ ts)) (some_is (of_elementary kind at, ts) y e) whole
answered_is (name t at ∷ ts) y e =
    let n : Named = record { text = t; at = at } in
    let whole : AnswerIs (name t at ∷ ts) (of_name n, ts) = (refl, tt) in
    subst (AnswerIs (name t at ∷ ts)) (some_is (of_name n, ts) y e) whole
answered_is ts y e = absurd cc

module _ (turns depth : ℕ) where
  abbrev BodyIs : PouTypeData → List Symbol → BodyData × List Symbol → Type 0
  BodyIs k ts y = (ts ≡ print_body y.0 ++ y.1) × MayDo k y.0 × BodyFits y.0 depth

  statements_allowed : (k : PouTypeData) (ss : Stmts) → MayDo k (statement_body ss)
  statements_allowed (function t) ss = tt
  statements_allowed function_block ss = tt
  statements_allowed program ss = tt

  chart_allowed : (k : PouTypeData) (ps : List PartData) (begun : Bool) → (not (is_function k) && begun) ≡ true → MayDo k (chart_body ps)
  chart_allowed (function t) ps begun is = absurd cc
  chart_allowed function_block ps begun is = tt
  chart_allowed program ps begun is = tt

  body_go : (k : PouTypeData) (ts : List Symbol) (y : BodyData × List Symbol) (b : Bool) → (not (is_function k) && begins_part ts) ≡ b → body_or turns depth ts b ≡ Some y → BodyIs k ts y
  body_go k ts y true is e =
      let a = bind_some (chart turns depth ts) (λ (ps : List PartData × List Symbol). Some (chart_body ps.0, ps.1)) y e in
      let c = chart_is turns depth ts a.0 a.1 in
      let whole : BodyIs k ts (chart_body a.0.0, a.0.1) = (c.0, chart_allowed k a.0.0 (begins_part ts) is, c.1) in
      subst (BodyIs k ts) (some_is (chart_body a.0.0, a.0.1) y a.2) whole
  body_go k ts y false is e =
      let a = bind_some (statements turns depth false ts) (λ (ss : Stmts × List Symbol). Some (statement_body ss.0, ss.1)) y e in
      let c = statements_are turns depth false ts a.0.0 a.0.1 a.1 in
      let whole : BodyIs k ts (statement_body a.0.0, a.0.1) = (c.0, statements_allowed k a.0.0, c.1) in
      subst (BodyIs k ts) (some_is (statement_body a.0.0, a.0.1) y a.2) whole

  body_is : (k : PouTypeData) (ts : List Symbol) (y : BodyData × List Symbol) → body turns depth (is_function k) ts ≡ Some y → BodyIs k ts y
  unfolding body
  body_is k ts y e = body_go k ts y (not (is_function k) && begins_part ts) refl e

  abbrev pub PouIs : List Symbol → PouData × List Symbol → Type 0
  PouIs ts y = (ts ≡ print_pou y.0 ++ y.1) × PouFits y.0 depth

  pou_of_is : (k : PouTypeData) (n : Named) (ts : List Symbol) (y : PouData × List Symbol) → IsResultFormed k → pou_of turns depth k n ts ≡ Some y → PouIs (mark (beginning_of k) ∷ name_symbol n ∷ (print_result k ++ ts)) y
  unfolding pou_of
  pou_of_is k n ts y result e =
      let v = bind_some (variables turns (is_function k) turns [] ts) _ y e in
      let b = bind_some (body turns depth (is_function k) v.0.1) _ y v.2 in
      let c = bind_some (after (end_of k) b.0.1) _ y b.2 in
      let vs = variables_are turns (is_function k) turns [] ts v.0 v.1 in
      let bs = body_is k v.0.1 b.0 b.1 in
      let found : PouData = record { pou_type = k; name = n; variables = v.0.0; body = b.0.0 } in
      let sections : ts ≡ print_variables v.0.0 ++ v.0.1 = vs.2 ∙ ap (λ (x : List VariablesData). print_variables x ++ v.0.1) (sym vs.1) in
      let formed : AreVariablesFormed v.0.0 = subst AreVariablesFormed (sym vs.1) vs.3 in
      let has : HasSections k v.0.0 = has_sections k v.0.0 (subst (AreSectionsWhere (is_function k)) (sym vs.1) vs.4) in
      let parts : ts ≡ print_variables v.0.0 ++ (print_body b.0.0 ++ mark (end_of k) ∷ c.0) =
      sections ∙ ap (λ (x : List Symbol). print_variables v.0.0 ++ x) (bs.0 ∙ ap (λ (x : List Symbol). print_body b.0.0 ++ x) (after_is (end_of k) b.0.1 c.0 c.1)) in
      let whole : PouIs (mark (beginning_of k) ∷ name_symbol n ∷ (print_result k ++ ts)) (found, c.0) =
      (ap (λ (x : List Symbol). mark (beginning_of k) ∷ name_symbol n ∷ (print_result k ++ x)) parts ∙ sym (pou_shape found c.0), (result, has, formed, bs.1, bs.2)) in
      subst (PouIs (mark (beginning_of k) ∷ name_symbol n ∷ (print_result k ++ ts))) (some_is (found, c.0) y c.2) whole

  function_pou_is : (ts : List Symbol) (y : PouData × List Symbol) → function_pou turns depth ts ≡ Some y → PouIs (mark Function ∷ ts) y
  unfolding function_pou
  function_pou_is ts y e =
      let a = bind_some (named ts) _ y e in
      let b = bind_some (after Colon a.0.1) _ y a.2 in
      let t = bind_some (answered b.0) _ y b.2 in
      let r = answered_is b.0 t.0 t.1 in
      let p = pou_of_is (function t.0.0) a.0.0 t.0.1 y r.1 t.2 in
      let parts = named_is ts a.0.0 a.0.1 a.1 ∙ ap (λ (x : List Symbol). name_symbol a.0.0 ∷ x) (after_is Colon a.0.1 b.0 b.1 ∙ ap (λ (x : List Symbol). mark Colon ∷ x) r.0) in
      (ap (λ (x : List Symbol). mark Function ∷ x) parts ∙ p.0, p.1)

  other_pou_is : (k : PouTypeData) (ts : List Symbol) (y : PouData × List Symbol) → IsResultFormed k → print_result k ≡ [] → other_pou turns depth k ts ≡ Some y → PouIs (mark (beginning_of k) ∷ ts) y
  unfolding other_pou
  other_pou_is k ts y result none e =
      let a = bind_some (named ts) _ y e in
      let p = pou_of_is k a.0.0 a.0.1 y result a.2 in
      let parts = named_is ts a.0.0 a.0.1 a.1 ∙ ap (λ (x : List Symbol). name_symbol a.0.0 ∷ (x ++ a.0.1)) (sym none) in
      (ap (λ (x : List Symbol). mark (beginning_of k) ∷ x) parts ∙ p.0, p.1)

  pou_go : (ts : List Symbol) (found : Option (PouData × List Symbol)) (y : PouData × List Symbol) (f b p : Option (List Symbol)) → after Function ts ≡ f → after FunctionBlock ts ≡ b → after Program ts ≡ p
      → pou_or turns depth f b p ≡ Some found → found ≡ Some y → PouIs ts y
  pou_go ts found y (Some r) b p is_function is_block is_program e same =
      subst (λ (x : List Symbol). PouIs x y) (sym (after_is Function ts r is_function)) (function_pou_is r y (some_is (function_pou turns depth r) found e ∙ same))
  pou_go ts found y None (Some r) p is_function is_block is_program e same =
      subst (λ (x : List Symbol). PouIs x y) (sym (after_is FunctionBlock ts r is_block)) (other_pou_is function_block r y tt refl (some_is (other_pou turns depth function_block r) found e ∙ same))
  pou_go ts found y None None (Some r) is_function is_block is_program e same =
      subst (λ (x : List Symbol). PouIs x y) (sym (after_is Program ts r is_program)) (other_pou_is program r y tt refl (some_is (other_pou turns depth program r) found e ∙ same))
  pou_go ts found y None None None is_function is_block is_program e same = absurd cc

  pub pou_begun_is : (ts : List Symbol) (found : Option (PouData × List Symbol)) (y : PouData × List Symbol) → pou_begun turns depth ts ≡ Some found → found ≡ Some y → PouIs ts y
  unfolding pou_begun
  pou_begun_is ts found y e same = pou_go ts found y (after Function ts) (after FunctionBlock ts) (after Program ts) refl refl refl e same
