-- What follows from the roles of variables: what is seen from outside, a step or an input is no instance.
use Rattle.std.proofs.Common.{◌≡◌, Bool, true, false, true≢false, ◌||◌, None, option_and_then, if◌then◌else◌, refl, sym, ap}
use Rattle.source_tree.specs.Syntax.{FileData}
use Rattle.naming.specs.declared.role.Role.{Role}
use Rattle.naming.specs.declared.role.Role.TheVariants as roles
use Rattle.naming.specs.Scopes.{Variable, is_local, is_input, is_seen, is_step, is_action, is_transition, block_of_type, block_of}
use Rattle.typing.specs.Places.{has_cell}
use Rattle.typing.specs.Members.{may_control}

pub seen_only : (r : Role) → is_seen r ≡ true → is_local r ≡ false
seen_only roles.Input h = refl
seen_only roles.Output h = refl
seen_only roles.Local h = absurd (true≢false (sym h))
seen_only roles.Temporary h = refl
seen_only roles.Constant h = refl
seen_only roles.Result h = refl
seen_only roles.Step h = refl
seen_only roles.InitialStep h = refl
seen_only roles.Action h = refl
seen_only roles.StoredAction h = refl
seen_only roles.Transition h = refl

pub step_only : (r : Role) → is_step r ≡ true → is_local r ≡ false
step_only roles.Input h = refl
step_only roles.Output h = refl
step_only roles.Local h = absurd (true≢false (sym h))
step_only roles.Temporary h = refl
step_only roles.Constant h = refl
step_only roles.Result h = refl
step_only roles.Step h = refl
step_only roles.InitialStep h = refl
step_only roles.Action h = refl
step_only roles.StoredAction h = refl
step_only roles.Transition h = refl

pub input_only : (r : Role) → is_input r ≡ true → is_local r ≡ false
input_only roles.Input h = refl
input_only roles.Output h = refl
input_only roles.Local h = absurd (true≢false (sym h))
input_only roles.Temporary h = refl
input_only roles.Constant h = refl
input_only roles.Result h = refl
input_only roles.Step h = refl
input_only roles.InitialStep h = refl
input_only roles.Action h = refl
input_only roles.StoredAction h = refl
input_only roles.Transition h = refl

pub no_block : (f : FileData) (v : Variable) → is_local v.role ≡ false → block_of f v ≡ None
no_block f v h = ap (λ (b : Bool). if b then option_and_then (block_of_type f) v.kind else None) h

-- what may control a FOR has a cell, and is no name of a chart
pub control_role : (r : Role) → may_control r ≡ true → (has_cell r ≡ true) × (is_step r ≡ false) × ((is_action r || is_transition r) ≡ false)
control_role roles.Input h = absurd (true≢false (sym h))
control_role roles.Output h = (refl, refl, refl)
control_role roles.Local h = (refl, refl, refl)
control_role roles.Temporary h = (refl, refl, refl)
control_role roles.Constant h = absurd (true≢false (sym h))
control_role roles.Result h = absurd (true≢false (sym h))
control_role roles.Step h = absurd (true≢false (sym h))
control_role roles.InitialStep h = absurd (true≢false (sym h))
control_role roles.Action h = absurd (true≢false (sym h))
control_role roles.StoredAction h = absurd (true≢false (sym h))
control_role roles.Transition h = absurd (true≢false (sym h))

pub step_no_control : (r : Role) → is_step r ≡ true → may_control r ≡ false
step_no_control roles.Input h = refl
step_no_control roles.Output h = absurd (true≢false (sym h))
step_no_control roles.Local h = absurd (true≢false (sym h))
step_no_control roles.Temporary h = absurd (true≢false (sym h))
step_no_control roles.Constant h = refl
step_no_control roles.Result h = refl
step_no_control roles.Step h = refl
step_no_control roles.InitialStep h = refl
step_no_control roles.Action h = refl
step_no_control roles.StoredAction h = refl
step_no_control roles.Transition h = refl
