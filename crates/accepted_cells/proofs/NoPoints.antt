-- The names that the POUs of a file declare are printed by it, and so have no points where a text states the file.
use Rattle.std.proofs.Common.{ℕ, zero, suc, List, [], ◌∷◌, ◌++◌, map, Bool, Option, Some, None, sym, subst}
use Rattle.std.specs.List.{AllByRecursion, slice_get}
use Rattle.source_tree.specs.declared.token.Mark.TheVariants as marks
use Rattle.source_tree.specs.Syntax.{Symbol, mark, Named, DeclarationData, VariablesData, PartData, step_part, transition_part, action_part, BodyData, statements, chart as chart_body, PouTypeData, function, function_block, program, PouData, ItemData, types, pou, FileData}
use Rattle.source_tree.specs.Prints.{name_symbol, print, print_others, print_type, print_initial, print_declaration, print_declarations, section_marks, print_variables, print_name, print_steps, print_priority, print_part, print_parts, print_body, beginning_of, end_of, print_result, print_pou, print_item, print_file}
use Rattle.naming.specs.declared.role.Role.{Role}
use Rattle.naming.specs.ChartWords.{is_stored}
use Rattle.naming.specs.FileScope.{pous_of}
use Rattle.naming.specs.Scopes.{Variable, role_of, declared_by, declared_in, variables_of, result_of, transition_named, declared_by_part, declared_by_parts, names_in_body, variables_in_pou}
use Rattle.typing.specs.Places.{variables_in}
use Rattle.typed_files.proofs.typed_cells.Lists.{all-append}
use Rattle.front_end.specs.StandardBlocks.{prelude_text}
use Rattle.front_end.specs.Texts.{HasTree, HasFile}
use Rattle.found_cells.specs.Names.{HasNoPoint, HaveNoPoints}
use Rattle.accepted_cells.proofs.PlainSymbols.{IsPlain, symbols_plain}

abbrev IsNamed : Variable → Type 0
IsNamed v = HasNoPoint v.name.text

both : (xs ys : List Symbol) → AllByRecursion IsPlain (xs ++ ys) → (AllByRecursion IsPlain xs) × (AllByRecursion IsPlain ys)
both [] ys all = (tt, all)
both (x ∷ xs) ys all = let rest = both xs ys all.1 in ((all.0, rest.0), rest.1)

-- ---- variables

abbrev as_declared : Role → DeclarationData → Named → Variable
as_declared role d n = record { name = n; role = role; kind = Some d.kind; initial = d.initial }

others_plain : (role : Role) (d : DeclarationData) (ns : List Named) → AllByRecursion IsPlain (print_others ns) → AllByRecursion IsNamed (map (as_declared role d) ns)
others_plain role d [] all = tt
others_plain role d (n ∷ ns) all = (all.1.0, others_plain role d ns all.1.1)

declaration_plain : (role : Role) (d : DeclarationData) → AllByRecursion IsPlain (print_declaration d) → AllByRecursion IsNamed (declared_by role d)
declaration_plain role d all =
    let behind : List Symbol = mark marks.Colon ∷ (print_type d.kind ++ print_initial d.initial ++ mark marks.Semicolon ∷ []) in
    (all.0, others_plain role d d.others (both (print_others d.others) behind all.1).0)

declarations_plain : (role : Role) (ds : List DeclarationData) → AllByRecursion IsPlain (print_declarations ds) → AllByRecursion IsNamed (declared_in role ds)
declarations_plain role [] all = tt
declarations_plain role (d ∷ ds) all =
    let parts = both (print_declaration d) (print_declarations ds) all in
    all-append IsNamed (declared_by role d) (declared_in role ds) (declaration_plain role d parts.0) (declarations_plain role ds parts.1)

variables_plain : (vs : List VariablesData) → AllByRecursion IsPlain (print_variables vs) → AllByRecursion IsNamed (variables_of vs)
variables_plain [] all = tt
variables_plain (v ∷ vs) all =
    let behind : List Symbol = mark marks.EndVar ∷ print_variables vs in
    let first = both (map mark (section_marks v.section)) (print_declarations v.declarations ++ behind) all in
    let parts = both (print_declarations v.declarations) behind first.1 in
    all-append IsNamed (declared_in (role_of v.section) v.declarations) (variables_of vs) (declarations_plain (role_of v.section) v.declarations parts.0) (variables_plain vs parts.1.1)

-- ---- names of charts

transition_plain : (o : Option Named) → AllByRecursion IsPlain (print_name o) → AllByRecursion IsNamed (transition_named o)
transition_plain None all = tt
transition_plain (Some n) all = (all.0, tt)

part_plain : (stored : List ℕ → Bool) (p : PartData) → AllByRecursion IsPlain (print_part p) → AllByRecursion IsNamed (declared_by_part stored p)
part_plain stored (step_part s) all = (all.1.0, tt)
part_plain stored (transition_part t) all =
    let behind : List Symbol = print_priority t.priority ++ mark marks.From
    ∷ (print_steps t.from ++ mark marks.To ∷ (print_steps t.to ++ mark marks.Assign ∷ (print t.condition ++ mark marks.Semicolon ∷ mark marks.EndTransition ∷ []))) in
    transition_plain t.name (both (print_name t.name) behind all.1).0
part_plain stored (action_part a) all = (all.1.0, tt)

parts_plain : (stored : List ℕ → Bool) (ps : List PartData) → AllByRecursion IsPlain (print_parts ps) → AllByRecursion IsNamed (declared_by_parts stored ps)
parts_plain stored [] all = tt
parts_plain stored (p ∷ ps) all =
    let parts = both (print_part p) (print_parts ps) all in
    all-append IsNamed (declared_by_part stored p) (declared_by_parts stored ps) (part_plain stored p parts.0) (parts_plain stored ps parts.1)

body_plain : (b : BodyData) → AllByRecursion IsPlain (print_body b) → AllByRecursion IsNamed (names_in_body b)
body_plain (statements ss) all = tt
body_plain (chart_body ps) all = parts_plain (is_stored ps) ps all

-- ---- POUs

result_plain : (k : PouTypeData) (n : Named) → HasNoPoint n.text → AllByRecursion IsNamed (result_of k n)
result_plain (function t) n is = (is, tt)
result_plain function_block n is = tt
result_plain program n is = tt

abbrev IsPlainPou : PouData → Type 0
IsPlainPou p = AllByRecursion IsNamed (variables_in_pou p)

pou_plain : (p : PouData) → AllByRecursion IsPlain (print_pou p) → IsPlainPou p
pou_plain p all =
    let last : List Symbol = mark (end_of p.pou_type) ∷ [] in
    let more : List Symbol = print_body p.body ++ last in
    let behind : List Symbol = print_variables p.variables ++ more in
    let whole : AllByRecursion IsPlain (mark (beginning_of p.pou_type) ∷ name_symbol p.name ∷ (print_result p.pou_type ++ behind)) = all in
    let rest = both (print_result p.pou_type) behind whole.1.1 in
    let vars = both (print_variables p.variables) more rest.1 in
    let body = both (print_body p.body) last vars.1 in
    all-append IsNamed (result_of p.pou_type p.name ++ variables_of p.variables) (names_in_body p.body)
    (all-append IsNamed (result_of p.pou_type p.name) (variables_of p.variables) (result_plain p.pou_type p.name whole.1.0) (variables_plain p.variables vars.0)) (body_plain p.body body.0)

abbrev IsPlainItem : ItemData → Type 0
IsPlainItem (types ds) = Unit {0}
IsPlainItem (pou p) = IsPlainPou p

item_plain : (i : ItemData) → AllByRecursion IsPlain (print_item i) → IsPlainItem i
item_plain (types ds) all = tt
item_plain (pou p) all = pou_plain p all

items_plain : (f : FileData) → AllByRecursion IsPlain (print_file f) → AllByRecursion IsPlainItem f
items_plain [] all = tt
items_plain (i ∷ is) all = let parts = both (print_item i) (print_file is) all in (item_plain i parts.0, items_plain is parts.1)

items_append : (f g : FileData) → AllByRecursion IsPlainItem f → AllByRecursion IsPlainItem g → AllByRecursion IsPlainItem (f ++ g)
items_append [] g one other = other
items_append (i ∷ is) g one other = (one.0, items_append is g one.1 other)

tree_plain : (text : List ℕ) (f : FileData) → HasTree text f → AllByRecursion IsPlainItem f
tree_plain text f h = items_plain f (subst (λ (ss : List Symbol). AllByRecursion IsPlain ss) h.printed (symbols_plain text h.toks h.tokens))

file_plain : (text : List ℕ) (f : FileData) → HasFile text f → AllByRecursion IsPlainItem f
file_plain text f h =
    subst (λ (g : FileData). AllByRecursion IsPlainItem g) (sym h.joined) (items_append h.blocks h.own (tree_plain prelude_text h.blocks h.prelude) (tree_plain text h.own h.tree))

pous_plain : (f : FileData) → AllByRecursion IsPlainItem f → AllByRecursion IsPlainPou (pous_of f)
pous_plain [] all = tt
pous_plain (types ds ∷ is) all = pous_plain is all.1
pous_plain (pou p ∷ is) all = (all.0, pous_plain is all.1)

at_number : (ps : List PouData) (k : ℕ) → AllByRecursion IsPlainPou ps → AllByRecursion IsNamed (variables_in (slice_get ps k))
at_number [] k all = tt
at_number (p ∷ ps) zero all = all.0
at_number (p ∷ ps) (suc k) all = at_number ps k all.1

pub no_points : (text : List ℕ) (f : FileData) → HasFile text f → HaveNoPoints f
no_points text f h k = at_number (pous_of f) k (pous_plain f (file_plain text f h))
