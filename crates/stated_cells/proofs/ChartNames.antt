-- Among the names of a POU, in the order of their cells, nothing but steps has cells between the first and the last step.
use Rattle.std.proofs.Common.{◌≡◌, Bool, true, false, not, List, [], ◌∷◌, ◌++◌, refl, sym, ◌∙◌, subst, append_assoc}
use Rattle.std.specs.Prelude.{filter}
use Rattle.std.specs.List.{AllByRecursion}
use Rattle.std.proofs.lemmas.Bool.{false≢true}
use Rattle.std.proofs.lemmas.List.Elements.{filter-append}
use Rattle.source_tree.specs.Syntax.{PouData}
use Rattle.naming.specs.declared.role.Role.{Role}
use Rattle.naming.specs.declared.role.Role.TheVariants as roles
use Rattle.naming.specs.Scopes.{Variable, is_step, names_in_body, variables_in_pou}
use Rattle.typing.specs.Places.{has_cell, is_front, in_front, behind_front, in_order}
use Rattle.typing.specs.ChartPlaces.{steps_among}
use Rattle.typed_files.specs.typed_cells.Places.{declared_names}
use Rattle.typed_files.proofs.typed_cells.Lists.{all-filter, all-each}
use Rattle.typed_files.proofs.typed_cells.Roles.{is_of_chart}
use Rattle.typed_files.proofs.typed_cells.Names.{IsPlain, IsOfChart, declared_plain, body_of_chart}

-- behind a name with cells that is no step there is no step
abbrev pub AreStepsFirst : List Variable → Type 0
AreStepsFirst [] = Unit {0}
AreStepsFirst (v ∷ vs) = (is_step v.role ≡ false → has_cell v.role ≡ true → steps_among vs ≡ 0) × AreStepsFirst vs

-- so it is behind the first step
abbrev pub IsChartLast : List Variable → Type 0
IsChartLast [] = Unit {0}
IsChartLast (v ∷ vs) = (is_step v.role ≡ true → AreStepsFirst vs) × IsChartLast vs

abbrev IsNoStep : Variable → Type 0
IsNoStep v = is_step v.role ≡ false

-- ---- lists

no_steps : (vs : List Variable) → AllByRecursion IsNoStep vs → steps_among vs ≡ 0
no_steps [] all = refl
no_steps (v ∷ vs) all = rw all.0 (no_steps vs all.1)

others_first : (vs : List Variable) → AllByRecursion IsNoStep vs → AreStepsFirst vs
others_first [] all = tt
others_first (v ∷ vs) all = ((λ plain has. no_steps vs all.1), others_first vs all.1)

-- a name of a chart that stands in front is a step, or has no cells
abbrev IsFrontName : Variable → Type 0
IsFrontName v = is_step v.role ≡ false → has_cell v.role ≡ false

front_first : (vs ws : List Variable) → AllByRecursion IsFrontName vs → AreStepsFirst ws → AreStepsFirst (vs ++ ws)
front_first [] ws all rest = rest
front_first (v ∷ vs) ws all rest = ((λ plain has. absurd (false≢true (sym (all.0 plain) ∙ has))), front_first vs ws all.1 rest)

first_last : (vs : List Variable) → AreStepsFirst vs → IsChartLast vs
first_last [] h = tt
first_last (v ∷ vs) h = ((λ step. h.1), first_last vs h.1)

plain_last : (vs ws : List Variable) → AllByRecursion IsNoStep vs → IsChartLast ws → IsChartLast (vs ++ ws)
plain_last [] ws all rest = rest
plain_last (v ∷ vs) ws all rest = ((λ step. absurd (false≢true (sym all.0 ∙ step))), plain_last vs ws all.1 rest)

-- ---- what names are for

plain_step : (r : Role) → is_of_chart r ≡ false → is_step r ≡ false
plain_step roles.Step out = absurd (false≢true (sym out))
plain_step roles.InitialStep out = absurd (false≢true (sym out))
plain_step _ out = refl

chart_name : (r : Role) → is_of_chart r ≡ true → is_front false r ≡ true → is_step r ≡ false → has_cell r ≡ false
chart_name roles.Action is front plain = refl
chart_name roles.Transition is front plain = refl
chart_name roles.StoredAction is front plain = absurd (false≢true front)
chart_name roles.Step is front plain = absurd (false≢true (sym plain))
chart_name roles.InitialStep is front plain = absurd (false≢true (sym plain))
chart_name _ is front plain = absurd (false≢true is)

behind_step : (r : Role) → not (is_front false r) ≡ true → is_step r ≡ false
behind_step roles.Step out = absurd (false≢true out)
behind_step roles.InitialStep out = absurd (false≢true out)
behind_step _ out = refl

-- ---- names that pass a test

kept : (test : Variable → Bool) (P : Variable → Type 0) (v : Variable) (vs : List Variable) (b : Bool) → test v ≡ b → (b ≡ true → P v) → AllByRecursion P (filter test vs) → AllByRecursion P (filter test (v ∷ vs))
kept test P v vs true e one rest = rw e (one refl, rest)
kept test P v vs false e one rest = rw e rest

passed : (test : Variable → Bool) (P : Variable → Type 0) → ((v : Variable) → test v ≡ true → P v) → (vs : List Variable) → AllByRecursion P (filter test vs)
passed test P each [] = tt
passed test P each (v ∷ vs) = kept test P v vs (test v) refl (each v) (passed test P each vs)

passed_too : (test : Variable → Bool) (P Q : Variable → Type 0) → ((v : Variable) → P v → test v ≡ true → Q v) → (vs : List Variable) → AllByRecursion P vs → AllByRecursion Q (filter test vs)
passed_too test P Q each [] all = tt
passed_too test P Q each (v ∷ vs) all = kept test Q v vs (test v) refl (each v all.0) (passed_too test P Q each vs all.1)

abbrev stands_front : Variable → Bool
stands_front v = is_front false v.role

pub chart_last : (p : PouData) → IsChartLast (in_order false (variables_in_pou p))
chart_last p =
    let declared = declared_names p in
    let names = names_in_body p.body in
    let vs = variables_in_pou p in
    let fronts = filter stands_front declared in
    let charts = filter stands_front names in
    let behind = behind_front false vs in
    let plain : AllByRecursion IsNoStep fronts = all-filter IsNoStep stands_front declared (all-each IsPlain IsNoStep (λ v is. plain_step v.role is) declared (declared_plain p)) in
    let steps : AllByRecursion IsFrontName charts = passed_too stands_front IsOfChart IsFrontName (λ v is front plain. chart_name v.role is.role front plain) names (body_of_chart p.body) in
    let others : AllByRecursion IsNoStep behind = passed (λ v. not (is_front false v.role)) IsNoStep (λ v out. behind_step v.role out) vs in
    let split : in_front false vs ≡ fronts ++ charts = filter-append stands_front declared names in
    subst (λ (l : List Variable). IsChartLast (l ++ behind)) (sym split)
    (subst (λ (l : List Variable). IsChartLast l) (sym (append_assoc fronts charts behind))
    (plain_last fronts (charts ++ behind) plain (first_last (charts ++ behind) (front_first charts behind steps (others_first behind others)))))
