use Rattle.std.proofs.Common.{ℕ, List, ◌++◌, OnOk, subst}
use Rattle.relation_file.specs.Seen.{Lists}
use Rattle.relation_file.proofs.seen.list_line.Goals as goal

pub returns-in-Some : goal.returns-in-Some
returns-in-Some c =
    subst (λ (names : List (List ℕ)). OnOk c.list.result ((before : List (List ℕ)) → Lists c.args.names.now before → Lists c.list.new.names (names ++ before))) c.in-Some.ensures c.list.ensures
