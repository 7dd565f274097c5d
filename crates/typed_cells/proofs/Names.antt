-- The names of a POU: those that are declared, and behind them those of a chart.
use Rattle.std.proofs.Common.{◌≡◌, ℕ, Bool, true, false, List, [], ◌∷◌, ◌++◌, map, Option, Some, None, refl}
use Rattle.std.specs.List.{AllByRecursion}
use Rattle.source_tree.specs.declared.syntax.Section.{Section}
use Rattle.source_tree.specs.declared.syntax.Section.TheVariants as sections
use Rattle.source_tree.specs.Syntax.{Named, Tree, TypeData, DeclarationData, VariablesData, PartData, step_part, transition_part, action_part, BodyData, statements, chart, PouTypeData, function, function_block, program, PouData}
use Rattle.naming.specs.declared.role.Role.{Role}
use Rattle.naming.specs.ChartWords.{is_stored}
use Rattle.naming.specs.Scopes.{Variable, role_of, declared_by, declared_in, variables_of, result_of, step_role, action_role, transition_named, declared_by_part, declared_by_parts, names_in_body, variables_in_pou, is_result}
use Rattle.std.proofs.lemmas.Bool.{both_ways}
use Rattle.typed_cells.specs.Places.{declared_names}
use Rattle.typed_cells.proofs.Lists.{all-append, all-each}
use Rattle.typed_cells.proofs.Roles.{is_of_chart, chart_no_result}

-- ---- names

abbrev pub IsPlain : Variable → Type 0
IsPlain v = is_of_chart v.role ≡ false

-- a name of a chart has no type and no initial value
pub record IsOfChart (v : Variable) : Type 0 where
  pub role : is_of_chart v.role ≡ true
  pub kind : v.kind ≡ None
  pub initial : v.initial ≡ None

section_plain : (s : Section) → is_of_chart (role_of s) ≡ false
section_plain sections.Input = refl
section_plain _ = refl

section_other : (s : Section) → is_result (role_of s) ≡ false
section_other sections.Input = refl
section_other _ = refl

module _ (P : Role → Type 0) where
  all_named : (r : Role) (k : Option TypeData) (e : Option Tree) (ns : List Named) → P r → AllByRecursion (λ v. P v.role) (map (λ n. let v : Variable = record { name = n; role = r; kind = k; initial = e } in v) ns)
  all_named r k e [] is = tt
  all_named r k e (n ∷ ns) is = (is, all_named r k e ns is)

  all_declared : (r : Role) (ds : List DeclarationData) → P r → AllByRecursion (λ v. P v.role) (declared_in r ds)
  all_declared r [] is = tt
  all_declared r (d ∷ ds) is = all-append (λ v. P v.role) (declared_by r d) (declared_in r ds) (all_named r (Some d.kind) d.initial (d.first ∷ d.others) is) (all_declared r ds is)

  all_variables : ((s : Section) → P (role_of s)) → (vs : List VariablesData) → AllByRecursion (λ v. P v.role) (variables_of vs)
  all_variables each [] = tt
  all_variables each (v ∷ vs) =
      all-append (λ w. P w.role) (declared_in (role_of v.section) v.declarations) (variables_of vs) (all_declared (role_of v.section) v.declarations (each v.section)) (all_variables each vs)

result_plain : (pou_type : PouTypeData) (n : Named) → AllByRecursion IsPlain (result_of pou_type n)
result_plain (function t) n = (refl, tt)
result_plain function_block n = tt
result_plain program n = tt

pub declared_plain : (p : PouData) → AllByRecursion IsPlain (declared_names p)
declared_plain p = all-append IsPlain (result_of p.pou_type p.name) (variables_of p.variables) (result_plain p.pou_type p.name) (all_variables (λ r. is_of_chart r ≡ false) section_plain p.variables)

step_of_chart : (b : Bool) → is_of_chart (step_role b) ≡ true
step_of_chart true = refl
step_of_chart false = refl

action_of_chart : (b : Bool) → is_of_chart (action_role b) ≡ true
action_of_chart true = refl
action_of_chart false = refl

transition_of_chart : (n : Option Named) → AllByRecursion IsOfChart (transition_named n)
transition_of_chart None = tt
transition_of_chart (Some n) = (record { role = refl; kind = refl; initial = refl }, tt)

part_of_chart : (stored : List ℕ → Bool) (p : PartData) → AllByRecursion IsOfChart (declared_by_part stored p)
part_of_chart stored (step_part s) = (record { role = step_of_chart s.is_initial; kind = refl; initial = refl }, tt)
part_of_chart stored (transition_part t) = transition_of_chart t.name
part_of_chart stored (action_part a) = (record { role = action_of_chart (stored a.name.text); kind = refl; initial = refl }, tt)

pub parts_of_chart : (stored : List ℕ → Bool) (ps : List PartData) → AllByRecursion IsOfChart (declared_by_parts stored ps)
parts_of_chart stored [] = tt
parts_of_chart stored (p ∷ ps) = all-append IsOfChart (declared_by_part stored p) (declared_by_parts stored ps) (part_of_chart stored p) (parts_of_chart stored ps)

pub body_of_chart : (b : BodyData) → AllByRecursion IsOfChart (names_in_body b)
body_of_chart (statements ss) = tt
body_of_chart (chart ps) = parts_of_chart (is_stored ps) ps

-- ---- names of a chart have no type

abbrev pub HasKind : Variable → Type 0
HasKind v = is_of_chart v.role ≡ true → v.kind ≡ None

pub kinds_known : (p : PouData) → AllByRecursion HasKind (variables_in_pou p)
kinds_known p =
    all-append HasKind (declared_names p) (names_in_body p.body) (all-each IsPlain HasKind (λ v plain is. absurd (both_ways _ plain is)) (declared_names p) (declared_plain p))
    (all-each IsOfChart HasKind (λ v chart is. chart.kind) (names_in_body p.body) (body_of_chart p.body))

-- ---- a FUNCTION's own name is the only one of its role

abbrev pub IsOther : Variable → Type 0
IsOther v = is_result v.role ≡ false

pub others_known : (p : PouData) → AllByRecursion IsOther (variables_of p.variables ++ names_in_body p.body)
others_known p =
    all-append IsOther (variables_of p.variables) (names_in_body p.body) (all_variables (λ r. is_result r ≡ false) section_other p.variables)
    (all-each IsOfChart IsOther (λ v chart. chart_no_result v.role chart.role) (names_in_body p.body) (body_of_chart p.body))
