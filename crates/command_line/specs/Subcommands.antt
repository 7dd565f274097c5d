-- The subcommands: those on four files, which are OLD, NEW, REL, and a last one, a trace or a finding; and the one that takes a number.
use Rattle.std.specs.Prelude.{Option, Some, None, codes, if◌then◌else◌}
use Rattle.std.specs.Str.{bytes_eq}
use Rattle.clap.specs.Words.{Text}

pub data Subcommand : Type 0 where
  checks : Subcommand
  explains : Subcommand
  generates : Subcommand
  replays : Subcommand
  verifies : Subcommand

abbrev pub name_of : Subcommand → Text
name_of checks = codes "check"
name_of explains = codes "explain"
name_of generates = codes "gen"
name_of replays = codes "replay"
name_of verifies = codes "verify"

-- the subcommand of a name
abbrev pub named : Text → Option Subcommand
named word =
    if bytes_eq (codes "check") word then Some checks
    else (if bytes_eq (codes "explain") word then Some explains
    else (if bytes_eq (codes "gen") word then Some generates
    else (if bytes_eq (codes "replay") word then Some replays
    else (if bytes_eq (codes "verify") word then Some verifies else None))))
