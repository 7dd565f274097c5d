-- Of a file that is levelled, each type and each variable is spelled as the grammar has it.
use Rattle.std.proofs.Common.{◌≡◌, ℕ, zero, suc, List, [], ◌∷◌, ◌++◌, map, Bool, Option, Some, None, subst}
use Rattle.std.specs.List.{slice_get}
use Rattle.source_tree.specs.Syntax.{Named, TypeData, of_elementary, of_subrange, of_name, TypeDeclarationData, DeclarationData, VariablesData, PartData, step_part, transition_part, action_part, BodyData, statements, chart as chart_body, PouTypeData, function, function_block, program, PouData, types, pou, FileData}
use Rattle.source_tree.specs.Levels.{IsInitialFormed, IsTypeFormed, IsSpecificationFormed, AreDeclarationsFormed, AreTypesFormed, AreVariablesFormed, IsResultFormed, IsItemLevelled, IsFileLevelled}
use Rattle.naming.specs.declared.role.Role.{Role}
use Rattle.naming.specs.ChartWords.{is_stored}
use Rattle.naming.specs.FileScope.{types_of, pous_of}
use Rattle.naming.specs.Scopes.{Variable, role_of, declared_by, declared_in, variables_of, result_of, transition_named, declared_by_part, declared_by_parts, names_in_body, variables_in_pou}

-- ---- types

types_append : (ds es : List TypeDeclarationData) → AreTypesFormed ds → AreTypesFormed es → AreTypesFormed (ds ++ es)
types_append [] es a b = b
types_append (d ∷ ds) es a b = (a.0, types_append ds es a.1 b)

pub types_formed : (f : FileData) → IsFileLevelled f → AreTypesFormed (types_of f)
types_formed [] levels = tt
types_formed (types ds ∷ is) levels = types_append ds (types_of is) levels.0 (types_formed is levels.1)
types_formed (pou p ∷ is) levels = types_formed is levels.1

pub type_formed : (ds : List TypeDeclarationData) (i : ℕ) (d : TypeDeclarationData) → AreTypesFormed ds → slice_get ds i ≡ Some d → IsSpecificationFormed d.specification
type_formed [] i d all at = absurd (let e : ⊥ = cc in e)
type_formed (x ∷ ds) zero d all at = let same : x ≡ d = cc in subst (λ (y : TypeDeclarationData). IsSpecificationFormed y.specification) same all.0
type_formed (x ∷ ds) (suc i) d all at = type_formed ds i d all.1 at

-- ---- POUs

pub pou_levelled : (f : FileData) (i : ℕ) (p : PouData) → IsFileLevelled f → slice_get (pous_of f) i ≡ Some p → IsItemLevelled (pou p)
pou_levelled [] i p levels at = absurd (let e : ⊥ = cc in e)
pou_levelled (types ds ∷ is) i p levels at = pou_levelled is i p levels.1 at
pou_levelled (pou x ∷ is) zero p levels at = let same : x ≡ p = cc in subst (λ (y : PouData). IsItemLevelled (pou y)) same levels.0
pou_levelled (pou x ∷ is) (suc i) p levels at = pou_levelled is i p levels.1 at

-- ---- variables

abbrev pub IsKindFormed : Option TypeData → Type 0
IsKindFormed None = Unit {0}
IsKindFormed (Some t) = IsTypeFormed t

-- the bounds of a variable's type and its initial value are constants
abbrev pub AreFormed : List Variable → Type 0
AreFormed [] = Unit {0}
AreFormed (v ∷ vs) = IsKindFormed v.kind × IsInitialFormed v.initial × AreFormed vs

append : (vs ws : List Variable) → AreFormed vs → AreFormed ws → AreFormed (vs ++ ws)
append [] ws a b = b
append (v ∷ vs) ws a b = (a.0, a.1, append vs ws a.2 b)

by_names : (role : Role) (d : DeclarationData) (ns : List Named) → IsTypeFormed d.kind → IsInitialFormed d.initial → AreFormed (map (λ n. record { name = n; role = role; kind = Some d.kind; initial = d.initial }) ns)
by_names role d [] kind initial = tt
by_names role d (n ∷ ns) kind initial = (kind, initial, by_names role d ns kind initial)

in_declarations : (role : Role) (ds : List DeclarationData) → AreDeclarationsFormed ds → AreFormed (declared_in role ds)
in_declarations role [] all = tt
in_declarations role (d ∷ ds) all = append (declared_by role d) (declared_in role ds) (by_names role d (d.first ∷ d.others) all.0 all.1) (in_declarations role ds all.2)

in_sections : (vs : List VariablesData) → AreVariablesFormed vs → AreFormed (variables_of vs)
in_sections [] all = tt
in_sections (v ∷ vs) all = append (declared_in (role_of v.section) v.declarations) (variables_of vs) (in_declarations (role_of v.section) v.declarations all.0) (in_sections vs all.1)

of_result : (k : PouTypeData) (n : Named) → IsResultFormed k → AreFormed (result_of k n)
of_result (function (of_elementary kind at)) n h = (tt, tt, tt)
of_result (function (of_subrange kind at b)) n h = absurd h
of_result (function (of_name m)) n h = (tt, tt, tt)
of_result function_block n h = tt
of_result program n h = tt

of_transition : (n : Option Named) → AreFormed (transition_named n)
of_transition None = tt
of_transition (Some n) = (tt, tt, tt)

of_part : (stored : List ℕ → Bool) (q : PartData) → AreFormed (declared_by_part stored q)
of_part stored (step_part s) = (tt, tt, tt)
of_part stored (transition_part t) = of_transition t.name
of_part stored (action_part a) = (tt, tt, tt)

of_parts : (stored : List ℕ → Bool) (qs : List PartData) → AreFormed (declared_by_parts stored qs)
of_parts stored [] = tt
of_parts stored (q ∷ qs) = append (declared_by_part stored q) (declared_by_parts stored qs) (of_part stored q) (of_parts stored qs)

of_body : (b : BodyData) → AreFormed (names_in_body b)
of_body (statements ss) = tt
of_body (chart_body qs) = of_parts (is_stored qs) qs

pub variables_formed : (p : PouData) → IsItemLevelled (pou p) → AreFormed (variables_in_pou p)
variables_formed p levels =
    append (result_of p.pou_type p.name ++ variables_of p.variables) (names_in_body p.body) (append (result_of p.pou_type p.name) (variables_of p.variables) (of_result p.pou_type p.name levels.0) (in_sections p.variables levels.2)) (of_body p.body)
