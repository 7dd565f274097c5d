-- What the words of the command line ask for.
use Rattle.std.specs.Prelude.{ℕ, List, [], ◌∷◌, Option, Some, None, codes, option_map, string_bytes, if◌then◌else◌}
use Rattle.std.specs.Option.{option_map_or}
use Rattle.std.specs.Str.{bytes_eq}
use Rattle.clap.specs.Words.{Row, Text, first_of, subcommand_of, takes}
use Rattle.command_line.specs.Subcommands.{Subcommand, checks, explains, generates, replays, verifies}
use Rattle.command_line.specs.Grammar.{grammar}
use Rattle.command_line.specs.declared.FourWords.{FourWords}
use Rattle.command_line.specs.declared.Command.{Command}
use Rattle.command_line.specs.declared.Command.TheVariants.{Check, Explain, Gen, Replay, Verify}

-- a command, by the bytes of its words, or a line that says how the program is used
pub data Asked : Type 0 where
  check : (old new relation finding : List ℕ) → Asked
  explain : (old new relation finding : List ℕ) → Asked
  gen : (count : List ℕ) → Asked
  replay : (old new relation trace : List ℕ) → Asked
  verify : (old new relation finding : List ℕ) → Asked
  usage : Asked

-- what a subcommand asks for by its words: four, or one
abbrev pub asked_of : Subcommand → List Text → Asked
asked_of checks (old ∷ new ∷ relation ∷ last ∷ []) = check old new relation last
asked_of explains (old ∷ new ∷ relation ∷ last ∷ []) = explain old new relation last
asked_of generates (count ∷ []) = gen count
asked_of replays (old ∷ new ∷ relation ∷ last ∷ []) = replay old new relation last
asked_of verifies (old ∷ new ∷ relation ∷ last ∷ []) = verify old new relation last
asked_of _ _ = usage

-- what it asks for, where its words were given
abbrev pub asked_by : Subcommand → Option (List Text) → Asked
asked_by s words = option_map_or (asked_of s) words usage

abbrev pub words_given : Option Text → Option Text → Option Text → Option Text → Option (List Text)
words_given (Some old) (Some new) (Some relation) (Some last) = Some (old ∷ new ∷ relation ∷ last ∷ [])
words_given _ _ _ _ = None

-- the words that name four files
abbrev pub words_in : List Row → Option (List Text)
words_in rows = words_given (first_of (codes "OLD") rows) (first_of (codes "NEW") rows) (first_of (codes "REL") rows) (first_of (codes "LAST") rows)

-- the word for a number
abbrev pub count_in : List Row → Option (List Text)
count_in rows = option_map (λ count. count ∷ []) (first_of (codes "N") rows)

-- what a subcommand asks for, by its name and its words
abbrev pub subcommand_asked : Text × List Row → Asked
subcommand_asked p =
    if bytes_eq p.0 (codes "check") then asked_by checks (words_in p.1)
    else (if bytes_eq p.0 (codes "explain") then asked_by explains (words_in p.1)
    else (if bytes_eq p.0 (codes "gen") then asked_by generates (count_in p.1)
    else (if bytes_eq p.0 (codes "replay") then asked_by replays (words_in p.1)
    else (if bytes_eq p.0 (codes "verify") then asked_by verifies (words_in p.1) else usage))))

-- what the words ask for: what clap reads from them where it takes them
unfoldable pub asked : List Text → Asked
asked words = if takes grammar words then option_map_or subcommand_asked (subcommand_of grammar words) usage else usage

abbrev pub words_of : FourWords → List Text
words_of w = string_bytes w.old ∷ string_bytes w.new ∷ string_bytes w.relation ∷ string_bytes w.last ∷ []

-- what a command that was read asks for
abbrev pub read_as : Option Command → Asked
read_as None = usage
read_as (Some (Check words)) = asked_of checks (words_of words)
read_as (Some (Explain words)) = asked_of explains (words_of words)
read_as (Some (Gen count)) = gen (string_bytes count)
read_as (Some (Replay words)) = asked_of replays (words_of words)
read_as (Some (Verify words)) = asked_of verifies (words_of words)
