-- One more required word, as clap sees it.
use Rattle.std.proofs.Common.{◌≡◌, ◌∙◌, ap₂}
use Rattle.clap.specs.Words.{App, Text, app_of, with_rule}
use Rattle.clap.specs.declared.builder.command.Command.{Command}
use Rattle.command_line.specs.Grammar.{AddsWord, required_word}

pub word_added : (old new : Command) (name : Text) (app : App) → AddsWord old name new → app_of old ≡ app → app_of new ≡ with_rule app (required_word name)
word_added old new name app h is = h.added.shape h.alone ∙ ap₂ with_rule is h.required
