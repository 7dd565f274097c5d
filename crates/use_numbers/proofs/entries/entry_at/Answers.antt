use Rattle.std.proofs.Common.{◌≡◌, Some, sym, ap, ◌∙◌}
use Rattle.std.specs.String.{string_bytes}
use Rattle.std.proofs.lemmas.Slice.Eq.{bytes_eq-Decides}
use Rattle.use_numbers.proofs.EntryLemmas.{text_of}
use Rattle.use_numbers.proofs.entries.entry_at.Goals as goal

pub returns-then-eq-clause-number : goal.returns-then-eq-clause-number
returns-then-eq-clause-number g c = λ is.
    let key = c.in_ok-own.own.now in
    let at = text_of c.args.table.now c.args.number key c.in_ok-own.value.now (sym c.in_ok-own.ensures.entry) in
    let same : string_bytes key ≡ c.args.text.now = sym c.as_str.ensures.value ∙ (bytes_eq-Decides c.as_str.result.now c.args.text.now).0 (sym c.eq.ensures ∙ c.if-eq.true) in
    at ∙ ap Some same
