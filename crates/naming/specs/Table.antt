-- What is known of a name of a file, in one place: what it stands for first, and whether it is declared twice.
use Rattle.std.specs.Prelude.{◌≡◌, ℕ, List, Bool, true, false, Option, Some, None, option_map, if◌then◌else◌, String}
use Rattle.std.specs.HashMap.{HashMap, get_by_text}
use Rattle.source_tree.specs.Syntax.{Named}
use Rattle.naming.specs.declared.standing.Standing.{Standing}
use Rattle.naming.specs.declared.entry.Entry.{Entry}
use Rattle.rules.specs.Judgements.{Judgement, suppressed}
use Rattle.naming.specs.Broken.{unknown, misused}
use Rattle.naming.specs.FileScope.{DeclaredName, is_declared_twice, first_standing}

abbrev pub entry_of : Bool → Standing → Entry
entry_of doubled s = record { standing = s; is_doubled = doubled }

abbrev pub entry_named : List DeclaredName → List ℕ → Option Entry
entry_named ds text = option_map (entry_of (is_declared_twice ds text)) (first_standing text ds)

-- the entry of a name, which may be one of the library, once it is declared, again or for the first time
abbrev pub entered : Bool → Standing → Option Entry → Entry
entered library s None = entry_of library s
entered library s (Some e) = entry_of true e.standing

abbrev pub is_doubled_by : Option Entry → Bool
is_doubled_by None = false
is_doubled_by (Some e) = e.is_doubled

abbrev pub standing_by : Option Entry → Option Standing
standing_by None = None
standing_by (Some e) = if e.is_doubled then None else Some e.standing

-- the use of a name, which may be one of the library, where none is that fits
abbrev pub used : Bool → Option Entry → Named → Judgement
used library None n = if library then misused n else unknown n
used library (Some e) n = if e.is_doubled then suppressed else misused n

-- a map holds what a look-up finds
abbrev pub Holds : {Y X S : Type 0} → HashMap (String Y) X S → (List ℕ → Option X) → Type 0
Holds m look_up = (text : List ℕ) → get_by_text m text ≡ look_up text
