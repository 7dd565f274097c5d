use Rattle.std.proofs.Common.{◌≡◌, ℕ, Ok, [], true, subst}
use Rattle.source_tree.specs.Syntax.{FileData}
use Rattle.source_tree.specs.SyntaxView.{file_view}
use Rattle.file_bindings.specs.Bound.{program_number}
use Rattle.typing.specs.Pous.{broken_types, has_room}
use Rattle.typing_laws.proofs.OnlyPou.{ok_each}
use Rattle.st_types.proofs.judged_file.check.Goals as goal

pub returns-clause-kept : goal.returns-clause-kept
returns-clause-kept c = subst (λ (f : FileData). broken_types f ≡ []) c.in_ok-pous.ensures c.in_ok-sizes.ensures.kept

pub returns-clause-room : goal.returns-clause-room
returns-clause-room c =
    let f = file_view c.args.names.now.file.now in
    let k = c.program-number.result in
    let room : has_room f k ≡ true = subst (λ (g : FileData). has_room g k ≡ true) c.in_ok-pous.ensures c.in_ok-sizes.ensures.room in
    ok_each {A = ℕ} {E = ℕ} (Ok k) (λ n. has_room f n ≡ true) (program_number f) k c.program-number.ensures room
