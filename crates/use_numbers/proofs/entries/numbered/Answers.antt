use Rattle.std.proofs.Common.{◌≡◌, Some, ap, sym, ◌∙◌}
use Rattle.std.specs.String.{string_bytes}
use Rattle.std.proofs.lemmas.Map.Made.{lookup_key_passes}
use Rattle.std.proofs.lemmas.Slice.Eq.{bytes_eq-Decides}
use Rattle.use_numbers.proofs.EntryLemmas.{text_of}
use Rattle.use_numbers.proofs.entries.numbered.Goals as goal

pub returns-clause-number : goal.returns-clause-number
returns-clause-number g c =
    let m = c.args.table.now in
    let key = c.in_ok-number.field-0-1.now in
    let text = c.args.text.now in
    let same : text ≡ string_bytes key = (bytes_eq-Decides text (string_bytes key)).0 (lookup_key_passes _ m.entries key (sym c.in_ok-number.ensures.key)) in
    text_of m c.in_ok-number.number key _ c.in_ok-number.ensures.entry ∙ ap Some (sym same)
