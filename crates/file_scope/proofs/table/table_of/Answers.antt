use Rattle.std.proofs.Common.{◌≡◌, ◌+◌, ◌||◌, is_some, if◌then◌else◌, take, drop, ap, ◌∙◌, arith}
use Rattle.std.proofs.lemmas.Grind.{common_steps}
use Rattle.std.specs.String.{string_bytes}
use Rattle.std.specs.HashMap.{get_by_text}
use Rattle.file_scope.specs.FileView.{file_name_view, file_names_view}
use Rattle.naming.specs.Broken.{twice}
use Rattle.naming.specs.Library.{is_library}
use Rattle.naming.specs.Table.{entered}
use Rattle.rules.specs.Judgements.{ok}
use Rattle.rules.specs.Rules.{first_in}
use Rattle.source_tree.specs.SyntaxView.{name_view}
use Rattle.naming.proofs.Steps.{view-take, view-drop}
use Rattle.naming.proofs.TableLemmas.{table_push, names_push}
use Rattle.file_scope.proofs.table.table_of.Goals as goal

pub loop-declared-preserved : goal.loop-declared-preserved
loop-declared-preserved c =
    let x = c.declared-item.result in
    let i = c.loop-declared.declared-index in
    let more = view-take file_name_view c.args.names.now i x (omega arith) c.declared-item.is in
    let left = view-drop file_name_view c.args.names.now i x (omega arith) c.declared-item.is in
    let key : string_bytes c.in_ok-clone.field-0 ≡ string_bytes x.name.now.text = grind (arith, common_steps) in
    let known = c.entry_at-known.ensures ∙ ap (get_by_text c.loop-declared.table) c.as_str-text.ensures.value in
    let library = c.is_library-is_library.ensures ∙ ap is_library c.as_str-text.ensures.value in
    let entry = c.entered-entry.ensures ∙ ap (λ l. entered l x.standing c.entry_at-known.result) library in
    let told = c.declared_twice.ensures ∙ ap (λ l. first_in (if l || is_some c.entry_at-known.result then twice (name_view x.name.now) else ok).broken) library in
    let before = file_names_view (take i c.args.names.now) in
    let rest = file_names_view (drop (i + 1) c.args.names.now) in
    let held = c.loop-declared.invariant.held in
    record {
      held = rw more (table_push c.loop-declared.table c.insert.new.self c.in_ok-clone.field-0 before (file_name_view x) c.entered-entry.result c.entry_at-known.result held c.in_ok-insert.ensures.updates key known entry);
      twice = rw more (names_push c.loop-declared.first c.earlier.result c.declared_twice.result before rest (file_name_view x) c.entry_at-known.result (known ∙ held (string_bytes x.name.now.text)) told c.earlier.ensures) ∙ rw left at c.loop-declared.invariant.twice;
    }
