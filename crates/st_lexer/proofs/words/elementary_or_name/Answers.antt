use Rattle.std.proofs.Common.{◌≡◌, ◌∙◌, ap, refl}
use Rattle.plc_types.specs.Types.{elementary_types}
use Rattle.source_tree.specs.declared.token.Terminal.TheVariants.{Name}
use Rattle.source_tree.specs.SyntaxView.{upper}
use Rattle.source_tree.specs.Terminals.{entry_or, type_words}
use Rattle.st_lexer.specs.Tables.{entries_of_types}
use Rattle.st_lexer.proofs.words.elementary_or_name.Goals as goal

pub returns : goal.returns
unfolding type_words
returns c =
    let same : entries_of_types elementary_types ≡ type_words = refl in
    c.type_or_name.ensures ∙ ap (λ ts. entry_or Name (entries_of_types ts) (upper c.args.text.now)) c.all.ensures ∙ ap (λ es. entry_or Name es (upper c.args.text.now)) same
