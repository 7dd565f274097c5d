-- The words of a chart's associations (IEC 61131-3, table 45), and which of its actions are stored.
use Rattle.std.specs.Prelude.{ℕ, List, [], ◌∷◌, codes, Bool, true, false, ◌&&◌, ◌||◌, Option, Some, None, if◌then◌else◌}
use Rattle.std.specs.List.{list_any}
use Rattle.std.specs.Str.{bytes_eq}
use Rattle.program_tree.specs.declared.typed.Qualifier.{Qualifier}
use Rattle.program_tree.specs.declared.typed.Qualifier.TheVariants.{NonStored, Set, Reset, Pulse, FallingPulse}
use Rattle.source_tree.specs.Syntax.{Named, BracketsData, StepActionData, PartData, step_part, transition_part, action_part}

-- the words, and what each says of an association
abbrev pub qualifiers : List (List ℕ × Qualifier)
qualifiers =
    (codes "N", NonStored)
    ∷ (codes "S", Set)
    ∷ (codes "R", Reset)
    ∷ (codes "P", Pulse)
    ∷ (codes "P1", Pulse)
    ∷ (codes "P0", FallingPulse)
    ∷ []

abbrev pub qualifier_in : List (List ℕ × Qualifier) → List ℕ → Option Qualifier
qualifier_in [] text = None
qualifier_in (q ∷ qs) text = if bytes_eq q.0 text then Some q.1 else qualifier_in qs text

-- what a word says, where it is one of them
unfoldable pub qualifier_named : List ℕ → Option Qualifier
qualifier_named text = qualifier_in qualifiers text

-- the word of an association
abbrev pub word_of : Option BracketsData → Option Named
word_of None = None
word_of (Some b) = b.word

-- without a word it is as with N
abbrev pub qualifier_by : Option Named → Option Qualifier
qualifier_by None = Some NonStored
qualifier_by (Some n) = qualifier_named n.text

abbrev pub qualifier_of : StepActionData → Option Qualifier
qualifier_of a = qualifier_by (word_of a.brackets)

-- S and R store an action
abbrev pub is_storing : Option Qualifier → Bool
is_storing None = false
is_storing (Some NonStored) = false
is_storing (Some Set) = true
is_storing (Some Reset) = true
is_storing (Some Pulse) = false
is_storing (Some FallingPulse) = false

abbrev pub stores : List ℕ → StepActionData → Bool
stores text a = bytes_eq a.action.text text && is_storing (qualifier_of a)

-- a part of a chart sets or resets an action of this name
abbrev pub is_stored_in : PartData → List ℕ → Bool
is_stored_in (step_part s) text = list_any (stores text) s.actions
is_stored_in (transition_part t) text = false
is_stored_in (action_part a) text = false

-- an action of this name is set or reset by some step of a chart
abbrev pub is_stored : List PartData → List ℕ → Bool
is_stored [] text = false
is_stored (p ∷ ps) text = is_stored_in p text || is_stored ps text
