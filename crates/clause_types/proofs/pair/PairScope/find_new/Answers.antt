use Rattle.std.proofs.Common.{◌≡◌, Some, option_map, ap, sym, ◌∙◌}
use Rattle.plc_types.specs.declared.data_type.DataType.{DataType}
use Rattle.plc_types.specs.Enumerations.{paired_type}
use Rattle.source_tree.specs.SyntaxView.{names_view}
use Rattle.program_tree.specs.View.{program_view}
use Rattle.typing.specs.declared.scope.Meaning.{Meaning}
use Rattle.typing.proofs.PairLemmas.{repaired, member_of-paired}
use Rattle.clause_types.proofs.pair.PairScope.find_new.Goals as goal

pub returns-in_err-meaning : goal.returns-in_err-meaning
returns-in_err-meaning c =
    let s = c.args.self.now in
    let paired = paired_type (program_view s.old.program.now).types (program_view s.new.program.now).types in
    c.from_residual.ensures ∙ ap (option_map (repaired paired)) c.in_err-meaning.ensures ∙ sym (member_of-paired paired s.new.start (program_view s.new.program.now) (names_view c.args.members.now))

pub returns : goal.returns
returns c =
    let s = c.args.self.now in
    let m = c.in_ok-meaning.meaning in
    let paired = paired_type (program_view s.old.program.now).types (program_view s.new.program.now).types in
    let kind : c.paired.result ≡ paired m.kind = c.paired.ensures ∙ ap (λ (g : DataType → DataType). g m.kind) s.paired in
    let found : c.of_kind.result ≡ repaired paired m = c.of_kind.ensures ∙ ap (λ (k : DataType). record m { kind = k }) kind in
    ap (λ (x : Meaning). Some x) found ∙ ap (option_map (repaired paired)) c.in_ok-meaning.ensures ∙ sym (member_of-paired paired s.new.start (program_view s.new.program.now) (names_view c.args.members.now))
