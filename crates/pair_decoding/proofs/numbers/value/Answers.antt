use Rattle.std.proofs.Common.{rules, ◌≡◌, ◌∙◌, ap, sym, ℤ, pos, to_z, of_z}
use Rattle.std.specs.Int.{w128}
use Rattle.std.proofs.lemmas.Int.{ints}
use Rattle.clause_core.specs.Satisfaction.{assigned}
use Rattle.plc_types.specs.Types.{wrap_to}
use Rattle.pair_decoding.proofs.Spelled.{spelled_wrapped}
use Rattle.pair_decoding.proofs.numbers.value.Goals as goal

pub returns : goal.returns
returns c =
    let first : to_z w128 (of_z w128 c.from.result) ≡ c.from.result = search (rules, ints) in
    let last : to_z w128 (of_z w128 c.wrap_value.result) ≡ c.wrap_value.result = search (rules, ints) in
    last ∙ c.wrap_value.ensures ∙ ap (λ (x : ℤ). wrap_to c.args.kind x) (first ∙ c.from.ensures ∙ ap pos c.number.ensures)
    ∙ sym (spelled_wrapped (assigned c.args.found.now) c.args.kind c.args.word.now c.requires)
