use Rattle.std.proofs.Common.{◌≡◌, ◌&&◌, true, false, option_map, refl, sym, ap, ◌∙◌}
use Rattle.source_tree.specs.SyntaxView.{name_view, file_view}
use Rattle.naming.specs.Ends.{shape_of, is_sound, is_value_of}
use Rattle.naming.specs.FileScope.{names_of, first_standing}
use Rattle.naming.specs.Types.{specification_at}
use Rattle.naming.proofs.ValueLemmas.{has_value-by}
use Rattle.file_scope.proofs.file_types.FileTypes.has_value.Goals as goal

pub returns-then-is_sound : goal.returns-then-is_sound
returns-then-is_sound c =
    let f = file_view c.args.self.now.names.file.now in
    let text = (name_view c.args.name.now).text in
    let number = c.args.number in
    let single : true ≡ is_sound (option_map (shape_of f number) (specification_at f number)) = sym c.if-is_sound.true ∙ c.is_sound.ensures ∙ ap is_sound c.shape_at.ensures in
    c.is_value_of.ensures ∙ ap (is_value_of number) c.first_standing.ensures ∙ ap (λ b. b && is_value_of number (first_standing text (names_of f))) single ∙ has_value-by f number text (specification_at f number) refl

pub returns-else-is_sound : goal.returns-else-is_sound
returns-else-is_sound c =
    let f = file_view c.args.self.now.names.file.now in
    let text = (name_view c.args.name.now).text in
    let number = c.args.number in
    let single : false ≡ is_sound (option_map (shape_of f number) (specification_at f number)) = sym c.if-is_sound.false ∙ c.is_sound.ensures ∙ ap is_sound c.shape_at.ensures in
    c.if-is_sound.false ∙ ap (λ b. b && is_value_of number (first_standing text (names_of f))) single ∙ has_value-by f number text (specification_at f number) refl
