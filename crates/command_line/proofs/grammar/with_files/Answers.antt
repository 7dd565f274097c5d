use Rattle.std.proofs.Common.{rules, ◌≡◌, ◌∙◌, ap}
use Rattle.std.proofs.lemmas.Result.{IfOk-weaker}
use Rattle.clap.specs.Words.{App, app_of, with_subcommand}
use Rattle.command_line.specs.Grammar.{files_app}
use Rattle.command_line.proofs.Words.{word_added}
use Rattle.command_line.proofs.grammar.with_files.Goals as goal

pub returns : goal.returns
returns c =
    let old_is = word_added _ _ _ _ c.in_ok-files.ensures c.new-files.ensures.app in
    let new_is = word_added _ _ _ _ c.in_ok-files-2.ensures old_is in
    let relation_is = word_added _ _ _ _ c.in_ok-files-3.ensures new_is in
    let files_is : app_of c.in_ok-files-4.files ≡ files_app c.args.name.now = word_added _ _ _ _ c.in_ok-files-4.ensures relation_is in
    IfOk-weaker c.subcommand.result _ _ (λ m h. h.shape (search rules) ∙ ap (λ (a : App). with_subcommand (app_of c.args.program) a.top) files_is) c.subcommand.ensures
