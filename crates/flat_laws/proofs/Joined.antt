-- The parts of the law on meaning together.
use Rattle.std.proofs.Common.{◌≡◌, ◌<◌, List, length}
use Rattle.plc_types.specs.declared.range.Range.{Range}
use Rattle.program_tree.specs.Tree.{ProgramData}
use Rattle.program_tree.specs.declared.scratch.Scratch.{Scratch}
use Rattle.meaning.specs.Values.{State}
use Rattle.scan_model.specs.Scans.{ranges_of, scanned}
use Rattle.scan_model.specs.InRange.{IsInRange, IsFitToRun}
use Rattle.flat_core.specs.FlatScans.{flat_scanned}
use Rattle.flat_form.specs.FlatPrograms.{flat_program}
use Rattle.flat_form.specs.WellTyped.{IsWellTyped}
use Rattle.flat_laws.proofs.Claims.{EachChartRuns, EachExpressionRuns, EachExpressionStays}
use Rattle.flat_laws.proofs.RunningCharts.{charts_run}
use Rattle.flat_laws.proofs.Evaluating.{evaluated, stays, answers-in}
use Rattle.flat_laws.proofs.KeptMeaning.{flat_program-keeps}

joined_evaluated : (rs : List Range) (cs : List Scratch) → 0 < length rs → EachExpressionRuns rs cs
joined_evaluated rs cs some bodies callees MayCall own tested owner first filled each base e k f s x typed o sh r low room st = evaluated rs cs bodies callees MayCall each own tested owner base e k f s x typed o sh r low some room st

joined_stays : (rs : List Range) (cs : List Scratch) → 0 < length rs → EachExpressionStays rs cs
joined_stays rs cs some bodies callees MayCall own each base e r s h typed range = stays bodies.frame callees MayCall own base s range (answers-in rs cs some bodies callees MayCall each) e r h typed

joined_charts : (rs : List Range) (cs : List Scratch) → 0 < length rs → EachChartRuns rs cs
joined_charts rs cs some = charts_run rs cs some

pub keeps_meaning : (p : ProgramData) → IsFitToRun p → IsWellTyped p → (s : State) → IsInRange (ranges_of p.cells) s → flat_scanned (flat_program p) s ≡ scanned p s
keeps_meaning p is typed s range = flat_program-keeps joined_evaluated joined_stays joined_charts p is typed s range
