-- The same in plain words, with none of clap's definitions.
use Rattle.std.specs.Prelude.{ℕ, ◌==◌, Bool, false, List, [], ◌∷◌, Option, Some, None, option_map, codes, drop, if◌then◌else◌}
use Rattle.std.specs.Str.{bytes_eq}
use Rattle.std.specs.Option.{option_map_or}
use Rattle.command_line.specs.Subcommands.{named}
use Rattle.command_line.specs.Asked.{Asked, asked_by, usage}

-- it begins with a dash (45) and is longer than that
abbrev pub is_flag : List ℕ → Bool
is_flag (first ∷ second ∷ rest) = first == 45
is_flag _ = false

-- The words by place. A flag is refused, since there is none; the first `--` ends the flags and has no place.
abbrev pub by_place : List (List ℕ) → Option (List (List ℕ))
by_place [] = Some []
by_place (word ∷ rest) = if bytes_eq word (codes "--") then Some rest else (if is_flag word then None else option_map (λ words. word ∷ words) (by_place rest))

-- what the words after the program's name ask for
abbrev pub command_asked : List (List ℕ) → Asked
command_asked [] = usage
command_asked (name ∷ rest) = option_map_or (λ s. asked_by s (by_place rest)) (named name) usage

unfoldable pub plainly_asked : List (List ℕ) → Asked
plainly_asked words = command_asked (drop 1 words)
