-- A levelled chart fits what its symbols nest within, and what fits is levelled.
use Rattle.std.proofs.Common.{◌≡◌, ℕ, ◌-◌, List, [], ◌∷◌, ◌++◌, subst, append_assoc, arith}
use Rattle.source_tree.specs.declared.token.Mark.TheVariants.{Colon, Semicolon, Assign, From, To, EndTransition, EndAction}
use Rattle.source_tree.specs.declared.token.PartWord.TheVariants as words
use Rattle.source_tree.specs.Syntax.{Symbol, part, mark, ChartTransitionData, ChartActionData, PartData, step_part, transition_part, action_part, chart as chart_body}
use Rattle.source_tree.specs.Prints.{name_symbol, print, print_stmts, print_name, print_steps, print_priority, print_transition, print_chart_action, print_part, print_parts}
use Rattle.source_tree.specs.Levels.{IsLevelled, AreStmtsLevelled, IsPartLevelled, ArePartsLevelled, IsBodyLevelled}
use Rattle.grammar.specs.Fits.{Fits, StmtsFit}
use Rattle.grammar.specs.Nesting.{nothing_open, NestsWithin}
use Rattle.grammar_laws.proofs.Nests.{nests-behind}
use Rattle.grammar_laws.proofs.Nested.{nested, stmts_nested, fits_levelled, stmts_levelled}
use Rattle.file_laws.proofs.ChartSound.{PartFits, PartsFit, ChartFits, condition_before, transition_shape, chart_action_shape}

transition_fits : (limit : ℕ) (t : ChartTransitionData) (rest : List Symbol) → IsLevelled t.condition → NestsWithin limit nothing_open (print_transition t ++ rest) → Fits t.condition limit
transition_fits limit t rest levelled h =
    let all : limit - 0 ≡ limit = omega arith in
    let last : List Symbol = mark Semicolon ∷ mark EndTransition ∷ rest in
    let behind_to : List Symbol = print_steps t.to ++ mark Assign ∷ (print t.condition ++ last) in
    let behind_from : List Symbol = print_steps t.from ++ mark To ∷ behind_to in
    let name = nests-behind limit (part words.Transition t.at ∷ print_name t.name) (print_priority t.priority ++ mark From ∷ behind_from) nothing_open (subst (NestsWithin limit nothing_open) (transition_shape t rest) h) in
    let priority = nests-behind limit (print_priority t.priority) (mark From ∷ behind_from) nothing_open name in
    let from = nests-behind limit (mark From ∷ print_steps t.from) (mark To ∷ behind_to) nothing_open priority in
    let to = nests-behind limit (mark To ∷ print_steps t.to) (mark Assign ∷ (print t.condition ++ last)) nothing_open from in
    let inner = nests-behind limit (mark Assign ∷ []) (print t.condition ++ last) nothing_open to in
    subst (Fits t.condition) all (nested limit t.condition nothing_open last levelled inner).0

action_fits : (limit : ℕ) (a : ChartActionData) (rest : List Symbol) → AreStmtsLevelled a.body → NestsWithin limit nothing_open (print_chart_action a ++ rest) → StmtsFit a.body limit
action_fits limit a rest levelled h =
    let all : limit - 0 ≡ limit = omega arith in
    let inner =
    nests-behind limit (part words.Action a.at ∷ name_symbol a.name ∷ mark Colon ∷ []) (print_stmts a.body ++ mark EndAction ∷ rest) nothing_open (subst (NestsWithin limit nothing_open) (chart_action_shape a rest) h)
    in
    subst (StmtsFit a.body) all (stmts_nested limit a.body nothing_open (mark EndAction ∷ rest) levelled inner).0

part_fits : (limit : ℕ) (p : PartData) (rest : List Symbol) → IsPartLevelled p → NestsWithin limit nothing_open (print_part p ++ rest) → PartFits p limit
part_fits limit (step_part s) rest levelled h = tt
part_fits limit (transition_part t) rest levelled h = transition_fits limit t rest levelled h
part_fits limit (action_part a) rest levelled h = action_fits limit a rest levelled h

parts_fit : (limit : ℕ) (ps : List PartData) (rest : List Symbol) → ArePartsLevelled ps → NestsWithin limit nothing_open (print_parts ps ++ rest) → PartsFit ps limit
parts_fit limit [] rest levelled h = tt
parts_fit limit (p ∷ ps) rest levelled h =
    let parts = subst (NestsWithin limit nothing_open) (append_assoc (print_part p) (print_parts ps) rest) h in
    (part_fits limit p (print_parts ps ++ rest) levelled.0 parts, parts_fit limit ps rest levelled.1 (nests-behind limit (print_part p) (print_parts ps ++ rest) nothing_open parts))

pub chart_fits : (limit : ℕ) (ps : List PartData) (rest : List Symbol) → IsBodyLevelled (chart_body ps) → NestsWithin limit nothing_open (print_parts ps ++ rest) → ChartFits ps limit
chart_fits limit [] rest levelled h = absurd levelled
chart_fits limit (p ∷ ps) rest levelled h = parts_fit limit (p ∷ ps) rest levelled h

part_levelled : (p : PartData) (d : ℕ) → PartFits p d → IsPartLevelled p
part_levelled (step_part s) d fits = tt
part_levelled (transition_part t) d fits = fits_levelled t.condition d fits
part_levelled (action_part a) d fits = stmts_levelled a.body d fits

parts_levelled : (ps : List PartData) (d : ℕ) → PartsFit ps d → ArePartsLevelled ps
parts_levelled [] d fits = tt
parts_levelled (p ∷ ps) d fits = (part_levelled p d fits.0, parts_levelled ps d fits.1)

pub chart_levelled : (ps : List PartData) (d : ℕ) → ChartFits ps d → IsBodyLevelled (chart_body ps)
chart_levelled [] d fits = absurd fits
chart_levelled (p ∷ ps) d fits = parts_levelled (p ∷ ps) d fits
