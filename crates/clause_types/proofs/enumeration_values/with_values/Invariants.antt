use Rattle.std.proofs.Common.{◌≡◌, ℕ, List, drop}
use Rattle.std.specs.Str.{bytes_eq}
use Rattle.indexmap.specs.IndexMap.{get_by}
use Rattle.plc_types.specs.Enumerations.{place_of_name}
use Rattle.program_tree.specs.View.{texts_view}
use Rattle.clause_types.specs.Sides.{kept_or}
use Rattle.clause_types.proofs.enumeration_values.with_values.Given as goal

abbrev pub invariant-loop-index : goal.invariant-loop-index
invariant-loop-index l =
    (text : List ℕ) → get_by (λ name. bytes_eq text name.now) l.more ≡ kept_or (place_of_name text l.index (texts_view (drop l.index l.names))) l.kind (get_by (λ name. bytes_eq text name.now) l.fn.found)
