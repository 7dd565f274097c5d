-- The places of the code, as the definitions see them.
use Rattle.std.specs.Prelude.{ℕ}
use Rattle.derivation_check.specs.Checks.{Derivation}
use Rattle.scan_model.specs.Pairs.{Pair}
use Rattle.queries.specs.Sets.{members}
use Rattle.judgement.specs.Places.{Place, at_top, at_header, at_walks, in_walk, at_drops, at_kept, at_deep, at_scans, at_end, finished, in_log, in_query, Moved as MovedTo, goes, fails}
use Rattle.finding_check.specs.declared.stage.Behind.{Behind}
use Rattle.finding_check.specs.declared.stage.Behind.TheVariants as behinds
use Rattle.finding_check.specs.declared.stage.Spending.{Spending}
use Rattle.finding_check.specs.declared.stage.Spending.TheVariants as spendings
use Rattle.finding_check.specs.declared.stage.Stage.{Stage}
use Rattle.finding_check.specs.declared.stage.Stage.TheVariants as stages
use Rattle.finding_check.specs.declared.stage.Moved.{Moved}
use Rattle.finding_check.specs.declared.stage.Moved.TheVariants as moves

abbrev pub place_behind : Behind → Place
place_behind (behinds.Drops reach set) = at_drops reach (members set)
place_behind (behinds.Kept reach set) = at_kept reach (members set)
place_behind (behinds.Deep reach set none) = at_deep reach (members set) none
place_behind (behinds.End reach verdict) = at_end reach verdict

-- in a log that is to spend a query: what is held, and how many steps are to come
abbrev pub place_in : Spending → Derivation → ℕ → Place
place_in (spendings.Query reach asked) d left = in_query reach asked d left
place_in (spendings.Walk rows) d left = in_walk rows d left

-- the pair of a list of rows so far is that on trial
abbrev pub place_of : Stage → Pair → Place
place_of stages.Top pair = at_top
place_of (stages.Header reach) pair = at_header reach
place_of (stages.Walks rows) pair = at_walks rows pair
place_of (stages.InWalk rows checker left) pair = in_walk rows checker left
place_of (stages.Drops reach set) pair = at_drops reach (members set)
place_of (stages.Kept reach set) pair = at_kept reach (members set)
place_of (stages.Deep reach set none) pair = at_deep reach (members set) none
place_of (stages.Scans reach scans more) pair = at_scans reach scans more pair
place_of (stages.End reach verdict) pair = at_end reach verdict
place_of (stages.Finished reach verdict) pair = finished reach verdict
place_of (stages.InLog checker behind) pair = in_log checker (place_behind behind)
place_of (stages.InQuery reach asked checker left) pair = in_query reach asked checker left

abbrev pub moved_of : Moved → Pair → MovedTo
moved_of (moves.Goes stage) pair = goes (place_of stage pair)
moved_of (moves.Fails reason) pair = fails reason
