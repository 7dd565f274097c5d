-- The command lines that there are, as clap sees them.
use Rattle.std.specs.Prelude.{◌≡◌, [], true, false, codes}
use Rattle.clap.specs.Words.{AddsArg, App, Rule, Shape, Text, new_app, new_rule, rule_of, with_rule, with_subcommand}
use Rattle.clap.specs.declared.builder.command.Command.{Command}
use Rattle.clap.specs.declared.builder.arg.Arg.{Arg}
use Rattle.command_line.specs.Subcommands.{Subcommand, checks, explains, generates, replays, verifies, name_of}

-- a word that is required, by its place
abbrev pub required_word : Text → Rule
required_word name = record (new_rule name) { required = true }

-- one more word that is required, of this command alone
pub record AddsWord (old : Command) (name : Text) (new : Command) : Type 0 where
  pub word : Arg
  pub added : AddsArg old word new
  pub required : rule_of word ≡ required_word name
  pub alone : word.global ≡ false

-- a subcommand with OLD, NEW, REL and a last file
abbrev pub files_app : Text → App
files_app name = with_rule (with_rule (with_rule (with_rule (new_app name) (required_word (codes "OLD"))) (required_word (codes "NEW"))) (required_word (codes "REL"))) (required_word (codes "LAST"))

-- the subcommand with a number
abbrev pub count_app : App
count_app = with_rule (new_app (name_of generates)) (required_word (codes "N"))

-- one of the subcommands is required, and there is no help and no version
abbrev pub bare_shape : Shape
bare_shape = record (new_app (codes "regver")).top { disable_help_flag = true; disable_help_subcommand = true; subcommand_required = true }

-- and this subcommand more
abbrev pub with_files : Subcommand → App → App
with_files s app = with_subcommand app (files_app (name_of s)).top

abbrev pub with_count : App → App
with_count app = with_subcommand app count_app.top

abbrev pub grammar : App
grammar = with_files verifies (with_files replays (with_count (with_files explains (with_files checks (record { top = bare_shape; subs = [] })))))
