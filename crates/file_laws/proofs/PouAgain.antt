-- What POUs print is read as those POUs.
use Rattle.std.proofs.Common.{◌≡◌, ℕ, ◌≤◌, false, not, List, [], ◌∷◌, ◌++◌, length, Some, None, refl, ap, ◌∙◌, arith, length-append}
use Rattle.std.proofs.Math.Bool.{and-false}
use Rattle.source_tree.specs.declared.token.Mark.TheVariants as marks
use Rattle.source_tree.specs.Syntax.{Symbol, mark, Named, empty, assign, invoke, branch, cases, iterate, exit, return, Stmts, no_stmts, stmt, no_arms, arm, no_else, else_stmts, TypeData, of_elementary, of_subrange, of_name, VariablesData, step_part, transition_part, action_part, PartData, BodyData, statements as statement_body, chart as chart_body, PouTypeData, function, function_block, program, PouData}
use Rattle.source_tree.specs.Prints.{name_symbol, print_stmts, print_type, print_variables, print_parts, print_body, beginning_of, end_of, print_result, print_pou}
use Rattle.source_tree.specs.Levels.{IsResultFormed, HasSections, MayDo}
use Rattle.grammar.specs.Marks.{same_mark}
use Rattle.grammar.specs.Ends.{begins, begins_part}
use Rattle.grammar.specs.Reading.{after, named}
use Rattle.grammar.specs.Declarations.{section_of}
use Rattle.grammar.specs.Pous.{answered, is_function, body, pou_of, function_pou, other_pou, pou_begun}
use Rattle.grammar_laws.proofs.StatementAgain.{statements_again}
use Rattle.grammar_laws.proofs.DeclarationSound.{AreSectionsWhere}
use Rattle.grammar_laws.proofs.DeclarationAgain.{variables_again}
use Rattle.file_laws.proofs.ChartSound.{ChartFits}
use Rattle.file_laws.proofs.ChartAgain.{chart_again, chart_begins}
use Rattle.file_laws.proofs.PouSound.{BodyFits, PouFits, pou_shape}

-- ---- the word that closes

end_is_no_section : (k : PouTypeData) (rest : List Symbol) → section_of (mark (end_of k) ∷ rest) ≡ None
unfolding section_of same_mark
end_is_no_section (function t) rest = refl
end_is_no_section function_block rest = refl
end_is_no_section program rest = refl

no_begin : (k : PouTypeData) (rest : List Symbol) → begins (mark (end_of k) ∷ rest) ≡ false
unfolding same_mark
no_begin (function t) rest = refl
no_begin function_block rest = refl
no_begin program rest = refl

after_end : (k : PouTypeData) (rest : List Symbol) → after (end_of k) (mark (end_of k) ∷ rest) ≡ Some rest
unfolding after same_mark
after_end (function t) rest = refl
after_end function_block rest = refl
after_end program rest = refl

-- the symbols of a body begin no section
no_section : (ss : Stmts) (k : PouTypeData) (rest : List Symbol) → section_of (print_stmts ss ++ mark (end_of k) ∷ rest) ≡ None
unfolding section_of same_mark
no_section no_stmts k rest = end_is_no_section k rest
no_section (stmt empty ss) k rest = refl
no_section (stmt (assign p e) ss) k rest = refl
no_section (stmt (invoke n at cs) ss) k rest = refl
no_section (stmt (branch no_arms no_else) ss) k rest = refl
no_section (stmt (branch no_arms (else_stmts others)) ss) k rest = refl
no_section (stmt (branch (arm e others arms) other) ss) k rest = refl
no_section (stmt (cases e es other) ss) k rest = refl
no_section (stmt (iterate i others) ss) k rest = refl
no_section (stmt (exit at) ss) k rest = refl
no_section (stmt return ss) k rest = refl

no_part_section : (ps : List PartData) (k : PouTypeData) (rest : List Symbol) → section_of (print_parts ps ++ mark (end_of k) ∷ rest) ≡ None
unfolding section_of same_mark
no_part_section [] k rest = end_is_no_section k rest
no_part_section (step_part s ∷ ps) k rest = refl
no_part_section (transition_part t ∷ ps) k rest = refl
no_part_section (action_part a ∷ ps) k rest = refl

no_body_section : (b : BodyData) (k : PouTypeData) (rest : List Symbol) → section_of (print_body b ++ mark (end_of k) ∷ rest) ≡ None
no_body_section (statement_body ss) k rest = no_section ss k rest
no_body_section (chart_body ps) k rest = no_part_section ps k rest

-- the symbols of statements begin no part of a chart
no_part : (ss : Stmts) (k : PouTypeData) (rest : List Symbol) → begins_part (print_stmts ss ++ mark (end_of k) ∷ rest) ≡ false
no_part no_stmts k rest = refl
no_part (stmt empty ss) k rest = refl
no_part (stmt (assign p e) ss) k rest = refl
no_part (stmt (invoke n at cs) ss) k rest = refl
no_part (stmt (branch no_arms no_else) ss) k rest = refl
no_part (stmt (branch no_arms (else_stmts others)) ss) k rest = refl
no_part (stmt (branch (arm e others arms) other) ss) k rest = refl
no_part (stmt (cases e es other) ss) k rest = refl
no_part (stmt (iterate i others) ss) k rest = refl
no_part (stmt (exit at) ss) k rest = refl
no_part (stmt return ss) k rest = refl

-- only what is no FUNCTION does what a chart says
chart_is_allowed : (k : PouTypeData) (ps : List PartData) → MayDo k (chart_body ps) → is_function k ≡ false
chart_is_allowed (function t) ps may = absurd may
chart_is_allowed function_block ps may = refl
chart_is_allowed program ps may = refl

-- ---- types of POUs

sections_where : (k : PouTypeData) (vs : List VariablesData) → HasSections k vs → AreSectionsWhere (is_function k) vs
sections_where (function t) vs h = h
sections_where function_block vs h = tt
sections_where program vs h = tt

answered_again : (t : TypeData) (rest : List Symbol) → IsResultFormed (function t) → answered (print_type t ++ rest) ≡ Some (t, rest)
unfolding answered
answered_again (of_elementary kind at) rest is = refl
answered_again (of_subrange kind at b) rest is = absurd is
answered_again (of_name n) rest is = refl

-- a POU's word is not TYPE
pub no_type : (k : PouTypeData) (rest : List Symbol) → after marks.Type (mark (beginning_of k) ∷ rest) ≡ None
unfolding after same_mark
no_type (function t) rest = refl
no_type function_block rest = refl
no_type program rest = refl

module _ (turns depth : ℕ) where
  statement_body_again : (ss : Stmts) (k : PouTypeData) (rest : List Symbol) → BodyFits (statement_body ss) depth → length (print_stmts ss ++ mark (end_of k) ∷ rest) ≤ turns
      → body turns depth (is_function k) (print_stmts ss ++ mark (end_of k) ∷ rest) ≡ Some (statement_body ss, mark (end_of k) ∷ rest)
  unfolding body
  statement_body_again ss k rest fits len =
      rw (no_part ss k rest, and-false (not (is_function k)), statements_again turns ss depth false (mark (end_of k) ∷ rest) fits (no_begin k rest) len) refl

  chart_body_again : (ps : List PartData) (k : PouTypeData) (rest : List Symbol) → MayDo k (chart_body ps) → ChartFits ps depth → length (print_parts ps ++ mark (end_of k) ∷ rest) ≤ turns
      → body turns depth (is_function k) (print_parts ps ++ mark (end_of k) ∷ rest) ≡ Some (chart_body ps, mark (end_of k) ∷ rest)
  unfolding body
  chart_body_again ps k rest may fits len =
      rw (chart_is_allowed k ps may, chart_begins turns depth ps (mark (end_of k) ∷ rest) fits, chart_again turns depth ps (mark (end_of k) ∷ rest) fits refl len) refl

  body_again : (b : BodyData) (k : PouTypeData) (rest : List Symbol) → MayDo k b → BodyFits b depth → length (print_body b ++ mark (end_of k) ∷ rest) ≤ turns
      → body turns depth (is_function k) (print_body b ++ mark (end_of k) ∷ rest) ≡ Some (b, mark (end_of k) ∷ rest)
  body_again (statement_body ss) k rest may fits len = statement_body_again ss k rest fits len
  body_again (chart_body ps) k rest may fits len = chart_body_again ps k rest may fits len

  pou_of_again : (p : PouData) (rest : List Symbol) → PouFits p depth → length (print_variables p.variables ++ (print_body p.body ++ mark (end_of p.pou_type) ∷ rest)) ≤ turns
      → pou_of turns depth p.pou_type p.name (print_variables p.variables ++ (print_body p.body ++ mark (end_of p.pou_type) ∷ rest)) ≡ Some (p, rest)
  unfolding pou_of
  pou_of_again p rest fits len =
      let inner : List Symbol = print_body p.body ++ mark (end_of p.pou_type) ∷ rest in
      let fewer : length inner ≤ turns = omega (arith, length-append (print_variables p.variables) inner) in
      rw (
        variables_again turns (is_function p.pou_type) turns [] p.variables inner fits.2 (sections_where p.pou_type p.variables fits.1) (no_body_section p.body p.pou_type rest) len len,
        body_again p.body p.pou_type rest fits.3 fits.4 fewer,
        after_end p.pou_type rest,
      ) refl

  function_again : (t : TypeData) (n : Named) (ts : List Symbol) → IsResultFormed (function t) → pou_begun turns depth (mark marks.Function ∷ name_symbol n ∷ mark marks.Colon ∷ (print_type t ++ ts)) ≡ Some (pou_of turns depth (function t) n ts)
  unfolding pou_begun function_pou after named same_mark
  function_again t n ts is = rw (answered_again t ts is) refl

  -- the word, the name and the result's type of a POU are read, up to what is behind them
  heading_again : (k : PouTypeData) (n : Named) (ts : List Symbol) → IsResultFormed k → pou_begun turns depth (mark (beginning_of k) ∷ name_symbol n ∷ (print_result k ++ ts)) ≡ Some (pou_of turns depth k n ts)
  unfolding pou_begun other_pou after named same_mark
  heading_again (function t) n ts is = function_again t n ts is
  heading_again function_block n ts is = refl
  heading_again program n ts is = refl

  pub pou_again : (p : PouData) (rest : List Symbol) → PouFits p depth → length (print_pou p ++ rest) ≤ turns → pou_begun turns depth (print_pou p ++ rest) ≡ Some (Some (p, rest))
  pou_again p rest fits len =
      let inner : List Symbol = print_variables p.variables ++ (print_body p.body ++ mark (end_of p.pou_type) ∷ rest) in
      let shape = pou_shape p rest in
      let shorter : length inner ≤ turns = omega (arith, ap length shape, length-append (print_result p.pou_type) inner) in
      ap (pou_begun turns depth) shape ∙ heading_again p.pou_type p.name inner fits.0 ∙ ap (λ (x : _). Some x) (pou_of_again p rest fits shorter)
