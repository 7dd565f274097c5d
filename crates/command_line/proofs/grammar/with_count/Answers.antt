use Rattle.std.proofs.Common.{rules, ◌≡◌, ◌∙◌, ap}
use Rattle.std.proofs.lemmas.Result.{IfOk-weaker}
use Rattle.clap.specs.Words.{App, app_of, with_subcommand}
use Rattle.command_line.specs.Grammar.{count_app}
use Rattle.command_line.proofs.Words.{word_added}
use Rattle.command_line.proofs.grammar.with_count.Goals as goal

pub returns : goal.returns
returns c =
    let one_is : app_of c.in_ok-one.one ≡ count_app = word_added _ _ _ _ c.in_ok-one.ensures c.new.ensures.app in
    IfOk-weaker c.subcommand.result _ _ (λ m h. h.shape (search rules) ∙ ap (λ (a : App). with_subcommand (app_of c.args.program) a.top) one_is) c.subcommand.ensures
