-- The sides of IFs that were run and taken back, one behind the other.
use Rattle.std.specs.Prelude.{◌≤◌, ℕ, List, [], ◌∷◌, map}
use Rattle.plc_types.specs.declared.elementary.Elementary.TheVariants as types
use Rattle.program_tree.specs.declared.scratch.Scratch.{Scratch}
use Rattle.flat_core.specs.FlatView.{FlatArmData, flats_of}
use Rattle.node_core.specs.Words.{NodeList, Store, word_of}
use Rattle.node_core.specs.Stores.{MadeStore, with_fault_of, with_word, merged, store_of_all}
use Rattle.scan_ssa.specs.declared.merging.OpenArm.{OpenArm}
use Rattle.scan_ssa.specs.declared.trail.Trail.{Trail}
use Rattle.scan_ssa.specs.Trails.{with_changes, store_at}

-- the word of a condition, the store behind the statements that it chose, and the one that these began with
pub record OpenData : Type 0 where
  pub condition : ℕ
  pub on : Store
  pub begun : Store

pub record Opened : Type 0 where
  pub arm : OpenData
  pub list : NodeList

-- what an arm of an IF opens: what runs before its condition, the condition, and its statements
abbrev pub opened : List Scratch → FlatArmData → Store → NodeList → Opened
opened ps a store n =
    let before = store_of_all ps (flats_of a.0) store n in
    let m = word_of before.store types.Bool a.1 (with_fault_of before.store before.list) in
    let begun = with_word 0 m.list.fault before.store in
    let on = store_of_all ps (flats_of a.2) begun m.list in
    record { arm = record { condition = m.word; on = on.store; begun = begun }; list = on.list }

-- the sides that are open are closed behind the other side, the last of them first
abbrev pub closed : List Scratch → List OpenData → MadeStore → MadeStore
closed ps [] r = r
closed ps (o ∷ os) r =
    let inner = closed ps os r in
    merged ps o.condition o.on inner.store 0 o.begun inner.list

-- an open side, as the code keeps it
abbrev pub open_view : Trail → OpenArm → OpenData
open_view trail o = record { condition = o.condition; on = with_changes o.changes.items (store_at trail o.mark); begun = store_at trail o.mark }

abbrev pub open_views : Trail → List OpenArm → List OpenData
open_views trail os = map (open_view trail) os

-- the marks of open sides rise from one number to another
abbrev pub AreMarks : ℕ → List OpenArm → ℕ → Type 0
AreMarks low [] high = low ≤ high
AreMarks low (o ∷ os) high = (low ≤ o.mark) × AreMarks o.mark os high
