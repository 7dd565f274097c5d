use Rattle.std.proofs.Common.{◌≡◌, ℕ, List, [], ◌∷◌, option_map, ap, sym, ◌∙◌}
use Rattle.std.specs.String.{string_bytes}
use Rattle.source_tree.specs.declared.syntax.Name.{Name}
use Rattle.plc_types.specs.Enumerations.{value_named}
use Rattle.source_tree.specs.SyntaxView.{names_view}
use Rattle.program_tree.specs.View.{program_view}
use Rattle.typing.specs.Programs.{own_type, value_member, value_among}
use Rattle.clause_types.specs.Sides.{whole_value}
use Rattle.clause_types.proofs.ValueLemmas.{whole_member, none_left}
use Rattle.clause_types.proofs.sides.Side.find_value.Goals as goal

pub returns : goal.returns
returns c =
    let types = (program_view c.args.self.now.program.now).types in
    let name = c.in_ok-name.name.now in
    let text = c.as_str.result.now in
    let none : c.in_ok-name.others.now ≡ [] = none_left c.in_ok-name.others.now (sym c.is_empty.ensures ∙ c.if-not-is_empty.false) in
    let one : value_among own_type (names_view c.args.members.now) types ≡ option_map (value_member own_type) (value_named (string_bytes name.text) 0 types) =
    ap (λ (ms : List Name). value_among own_type (names_view ms) types) (c.in_ok-name.ensures.cases.0 ∙ ap (λ (ns : List Name). name ∷ ns) none) in
    c.find_meaning.ensures ∙ ap (option_map whole_value) (c.args.self.now.finds_values text) ∙ whole_member (value_named text 0 types)
    ∙ ap (λ (t : List ℕ). option_map (value_member own_type) (value_named t 0 types)) c.as_str.ensures.value ∙ sym one
