use Rattle.std.proofs.Common.{ap, ◌∙◌, sym}
use Rattle.source_tree.specs.declared.token.Terminal.TheVariants.{Name}
use Rattle.source_tree.specs.SyntaxView.{upper}
use Rattle.source_tree.specs.Terminals.{entry_or, fixed_words, type_words, words}
use Rattle.st_lexer.specs.Tables.{beginning_with, entries_of}
use Rattle.st_lexer.proofs.TableLemmas.{entry_or-beginning_with, entry_or-all_words}
use Rattle.st_lexer.proofs.words.word_terminal.Goals as goal

pub returns : goal.returns
returns c =
    let text = upper c.args.text.now in
    let other = entry_or Name type_words text in
    c.entry_or.ensures
    ∙ ap (λ o. entry_or o (entries_of c.words_with.result.now) text) c.elementary_or_name-other.ensures
    ∙ ap (λ es. entry_or other es text) (c.words_with.ensures ∙ ap (λ b. beginning_with b fixed_words) c.first_letter.ensures)
    ∙ entry_or-beginning_with other fixed_words text
    ∙ sym (entry_or-all_words Name text)
