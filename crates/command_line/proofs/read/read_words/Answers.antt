use Rattle.std.proofs.Common.{◌≡◌, ◌∙◌, sym, ap, ap₂, map, string_bytes, List, [], true, IsErr}
use Rattle.std.proofs.lemmas.Result.{IfOk-weaker}
use Rattle.clap.specs.Words.{Text, app_of, fault_of, is_simple, is_simple_and_free, subcommand_of, subcommand_rows_of, takes}
use Rattle.command_line.specs.Grammar.{grammar}
use Rattle.command_line.proofs.Readings.{asked_plainly, ok_asked, ok_taken, refused_asked, refused_taken}
use Rattle.command_line.proofs.Plainly.{texts_utf8}
use Rattle.command_line.proofs.Tops.{grammar_free, grammar_simple}
use Rattle.command_line.proofs.read.read_words.Goals as goal

pub returns-in-Ok-clause-taken : goal.returns-in-Ok-clause-taken
returns-in-Ok-clause-taken c =
    let app_is : app_of c.in_ok-program_command.field-0 ≡ grammar = c.in_ok-program_command.ensures in
    let words : List Text = map string_bytes c.args.words.items in
    let words_are : map string_bytes c.as_slice.result.now ≡ words = ap (map string_bytes) c.as_slice.ensures.value in
    let clean : fault_of grammar words ≡ [] = sym (ap₂ fault_of app_is words_are) ∙ c.in-Ok.ensures.kinds (ap is_simple_and_free app_is ∙ grammar_free) in
    let same : subcommand_rows_of c.in-Ok.matches ≡ subcommand_of grammar words = (c.in-Ok.ensures.matches (ap is_simple app_is ∙ grammar_simple)).1 ∙ ap₂ subcommand_of app_is words_are in
    IfOk-weaker c.command_of.result _ _ (λ command is. ok_taken words command (subcommand_rows_of c.in-Ok.matches) clean same is) c.command_of.ensures

pub returns-in-Ok-clause-asked : goal.returns-in-Ok-clause-asked
returns-in-Ok-clause-asked c =
    let app_is : app_of c.in_ok-program_command.field-0 ≡ grammar = c.in_ok-program_command.ensures in
    let words : List Text = map string_bytes c.args.words.items in
    let words_are : map string_bytes c.as_slice.result.now ≡ words = ap (map string_bytes) c.as_slice.ensures.value in
    let clean : fault_of grammar words ≡ [] = sym (ap₂ fault_of app_is words_are) ∙ c.in-Ok.ensures.kinds (ap is_simple_and_free app_is ∙ grammar_free) in
    let same : subcommand_rows_of c.in-Ok.matches ≡ subcommand_of grammar words = (c.in-Ok.ensures.matches (ap is_simple app_is ∙ grammar_simple)).1 ∙ ap₂ subcommand_of app_is words_are in
    IfOk-weaker c.command_of.result _ _ (λ command is. is ∙ ok_asked words (subcommand_rows_of c.in-Ok.matches) clean same) c.command_of.ensures

pub returns-in-Ok-clause-plain : goal.returns-in-Ok-clause-plain
returns-in-Ok-clause-plain c =
    let app_is : app_of c.in_ok-program_command.field-0 ≡ grammar = c.in_ok-program_command.ensures in
    let words : List Text = map string_bytes c.args.words.items in
    let words_are : map string_bytes c.as_slice.result.now ≡ words = ap (map string_bytes) c.as_slice.ensures.value in
    let clean : fault_of grammar words ≡ [] = sym (ap₂ fault_of app_is words_are) ∙ c.in-Ok.ensures.kinds (ap is_simple_and_free app_is ∙ grammar_free) in
    let same : subcommand_rows_of c.in-Ok.matches ≡ subcommand_of grammar words = (c.in-Ok.ensures.matches (ap is_simple app_is ∙ grammar_simple)).1 ∙ ap₂ subcommand_of app_is words_are in
    IfOk-weaker c.command_of.result _ _ (λ command is. is ∙ ok_asked words (subcommand_rows_of c.in-Ok.matches) clean same ∙ asked_plainly words (texts_utf8 c.args.words.items)) c.command_of.ensures

pub returns-clause-taken : goal.returns-clause-taken
returns-clause-taken c =
    let app_is : app_of c.in_ok-program_command.field-0 ≡ grammar = c.in_ok-program_command.ensures in
    let words : List Text = map string_bytes c.args.words.items in
    let words_are : map string_bytes c.as_slice.result.now ≡ words = ap (map string_bytes) c.as_slice.ensures.value in
    let memory : takes grammar words ≡ true → IsErr c.refused.result = λ t. c.refused.ensures.memory.1 (c.in-Err.ensures.passes (ap₂ takes app_is words_are ∙ t)) in
    refused_taken words c.refused.result memory c.refused.ensures.none

pub returns-clause-asked : goal.returns-clause-asked
returns-clause-asked c =
    let app_is : app_of c.in_ok-program_command.field-0 ≡ grammar = c.in_ok-program_command.ensures in
    let words : List Text = map string_bytes c.args.words.items in
    let words_are : map string_bytes c.as_slice.result.now ≡ words = ap (map string_bytes) c.as_slice.ensures.value in
    let memory : takes grammar words ≡ true → IsErr c.refused.result = λ t. c.refused.ensures.memory.1 (c.in-Err.ensures.passes (ap₂ takes app_is words_are ∙ t)) in
    refused_asked words c.refused.result memory c.refused.ensures.none

pub returns-clause-plain : goal.returns-clause-plain
returns-clause-plain c =
    let app_is : app_of c.in_ok-program_command.field-0 ≡ grammar = c.in_ok-program_command.ensures in
    let words : List Text = map string_bytes c.args.words.items in
    let words_are : map string_bytes c.as_slice.result.now ≡ words = ap (map string_bytes) c.as_slice.ensures.value in
    let memory : takes grammar words ≡ true → IsErr c.refused.result = λ t. c.refused.ensures.memory.1 (c.in-Err.ensures.passes (ap₂ takes app_is words_are ∙ t)) in
    IfOk-weaker c.refused.result _ _ (λ command is. is ∙ asked_plainly words (texts_utf8 c.args.words.items)) (refused_asked words c.refused.result memory c.refused.ensures.none)
