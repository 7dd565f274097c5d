-- What names are for, and what follows of their cells.
use Rattle.std.proofs.Common.{◌≡◌, Bool, true, false, ◌||◌, refl}
use Rattle.std.proofs.lemmas.Bool.{false≢true}
use Rattle.naming.specs.declared.role.Role.{Role}
use Rattle.naming.specs.declared.role.Role.TheVariants as roles
use Rattle.naming.specs.Scopes.{is_local, is_input, is_result, is_seen, is_step, is_action, is_transition}
use Rattle.typing.specs.Places.{has_cell, is_stored_action, is_front}
use Rattle.typing.specs.Members.{may_be_assigned}
use Rattle.typing.specs.TypedPrograms.{is_temporary}

true≢false : {P : Type 0} → true ≡ false → P
true≢false h = absurd (let e : ⊥ = cc in e)

abbrev pub is_of_chart : Role → Bool
is_of_chart r = is_step r || (is_action r || is_transition r)

-- ---- names of a chart, and others

pub plain_front : (r : Role) → is_of_chart r ≡ false → is_front false r ≡ true
plain_front roles.StoredAction out = true≢false out
plain_front _ out = refl

pub chart_not_front : (r : Role) → is_of_chart r ≡ true → is_front true r ≡ false
chart_not_front roles.Input is = absurd (false≢true is)
chart_not_front roles.Result is = absurd (false≢true is)
chart_not_front _ is = refl

pub chart_no_result : (r : Role) → is_of_chart r ≡ true → is_result r ≡ false
chart_no_result roles.Result is = absurd (false≢true is)
chart_no_result _ is = refl

pub chart_lasts : (r : Role) → is_of_chart r ≡ true → is_temporary r ≡ false
chart_lasts roles.Temporary is = absurd (false≢true is)
chart_lasts _ is = refl

pub assigned_plain : (r : Role) → may_be_assigned r ≡ true → is_of_chart r ≡ false
assigned_plain roles.Output is = refl
assigned_plain roles.Local is = refl
assigned_plain roles.Temporary is = refl
assigned_plain roles.Result is = refl
assigned_plain _ is = absurd (false≢true is)

pub no_cell_kept : (r : Role) → has_cell r ≡ false → may_be_assigned r ≡ false
no_cell_kept roles.Output none = true≢false none
no_cell_kept roles.Local none = true≢false none
no_cell_kept roles.Temporary none = true≢false none
no_cell_kept roles.Result none = true≢false none
no_cell_kept _ none = refl

pub seen_cell : (r : Role) → is_seen r ≡ true → has_cell r ≡ true
seen_cell roles.Input is = refl
seen_cell roles.Output is = refl
seen_cell _ is = absurd (false≢true is)

-- ---- local variables, among which instances are

pub local_plain : (r : Role) → is_local r ≡ true → is_of_chart r ≡ false
local_plain roles.Local is = refl
local_plain _ is = absurd (false≢true is)

pub local_cell : (r : Role) → is_local r ≡ true → has_cell r ≡ true
local_cell roles.Local is = refl
local_cell _ is = absurd (false≢true is)

pub local_no_step : (r : Role) → is_local r ≡ true → is_step r ≡ false
local_no_step roles.Local is = refl
local_no_step _ is = absurd (false≢true is)

-- ---- inputs, and VAR_TEMP variables

pub input_cell : (r : Role) → is_input r ≡ true → has_cell r ≡ true
input_cell roles.Input is = refl
input_cell _ is = absurd (false≢true is)

pub input_front : (r : Role) → is_input r ≡ true → is_front true r ≡ true
input_front roles.Input is = refl
input_front _ is = absurd (false≢true is)

pub input_plain : (r : Role) → is_input r ≡ true → is_of_chart r ≡ false
input_plain roles.Input is = refl
input_plain _ is = absurd (false≢true is)

pub input_not_local : (r : Role) → is_input r ≡ true → is_local r ≡ false
input_not_local roles.Input is = refl
input_not_local _ is = absurd (false≢true is)

pub input_no_step : (r : Role) → is_input r ≡ true → is_step r ≡ false
input_no_step roles.Input is = refl
input_no_step _ is = absurd (false≢true is)

pub input_not_stored : (r : Role) → is_input r ≡ true → is_stored_action r ≡ false
input_not_stored roles.Input is = refl
input_not_stored _ is = absurd (false≢true is)

pub other_front : (r : Role) → is_input r ≡ false → is_result r ≡ false → is_front true r ≡ false
other_front roles.Input input none = true≢false input
other_front roles.Result input none = true≢false none
other_front _ input none = refl

pub temporary_cell : (r : Role) → is_temporary r ≡ true → has_cell r ≡ true
temporary_cell roles.Temporary is = refl
temporary_cell _ is = absurd (false≢true is)

pub temporary_not_local : (r : Role) → is_temporary r ≡ true → is_local r ≡ false
temporary_not_local roles.Temporary is = refl
temporary_not_local _ is = absurd (false≢true is)

-- ---- steps and stored actions

pub step_chart : (r : Role) → is_step r ≡ true → is_of_chart r ≡ true
step_chart roles.Step is = refl
step_chart roles.InitialStep is = refl
step_chart _ is = absurd (false≢true is)

pub step_cell : (r : Role) → is_step r ≡ true → has_cell r ≡ true
step_cell roles.Step is = refl
step_cell roles.InitialStep is = refl
step_cell _ is = absurd (false≢true is)

pub step_not_local : (r : Role) → is_step r ≡ true → is_local r ≡ false
step_not_local roles.Local is = absurd (false≢true is)
step_not_local _ is = refl

pub stored_chart : (r : Role) → is_stored_action r ≡ true → is_of_chart r ≡ true
stored_chart roles.StoredAction is = refl
stored_chart _ is = absurd (false≢true is)

pub stored_cell : (r : Role) → is_stored_action r ≡ true → has_cell r ≡ true
stored_cell roles.StoredAction is = refl
stored_cell _ is = absurd (false≢true is)

pub stored_not_local : (r : Role) → is_stored_action r ≡ true → is_local r ≡ false
stored_not_local roles.StoredAction is = refl
stored_not_local _ is = absurd (false≢true is)

pub stored_no_step : (r : Role) → is_stored_action r ≡ true → is_step r ≡ false
stored_no_step roles.StoredAction is = refl
stored_no_step _ is = absurd (false≢true is)
