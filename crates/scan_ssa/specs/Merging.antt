-- The words of the places that one side of an IF changed.
use Rattle.std.specs.Prelude.{ℕ, List, [], ◌∷◌, map, drop, nat_eq, None, slice_set, slice_index_or, if◌then◌else◌}
use Rattle.plc_types.specs.declared.elementary.Elementary.{Elementary}
use Rattle.program_tree.specs.declared.scratch.Scratch.{Scratch}
use Rattle.program_tree.specs.Places.{place_at}
use Rattle.node_core.specs.declared.node.Node.TheVariants.{Mux}
use Rattle.node_core.specs.Words.{NodeList, Made, Store, taken, made}
use Rattle.node_core.specs.Stores.{MadeStore, merged_word}
use Rattle.scan_ssa.specs.declared.trail.Change.{Change}

abbrev pub places_in : List Change → List ℕ
places_in cs = map (λ c. c.place) cs

-- one word of two
abbrev pub one_word : Elementary → ℕ → ℕ → ℕ → NodeList → Made
one_word t c a b n = if nat_eq a b then taken a n else made (Mux t c a b) n

-- at places, one after the other, given the two words of each
abbrev pub merge_all : List Scratch → ℕ → List ℕ → List ℕ → List ℕ → Store → NodeList → MadeStore
merge_all ps c [] on off store n = record { store = store; list = n }
merge_all ps c (p ∷ touched) on off store n =
    let m = merged_word (place_at ps p) c (slice_index_or store p None) (slice_index_or on 0 0) (slice_index_or off 0 0) n in
    merge_all ps c touched (drop 1 on) (drop 1 off) (slice_set store p m.0) m.1
