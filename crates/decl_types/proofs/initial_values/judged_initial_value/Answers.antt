use Rattle.std.proofs.Common.{◌≡◌, Bool, true, false, not, refl, rules}
use Rattle.std.specs.Prelude.{option_map}
use Rattle.std.proofs.lemmas.Bool.{false≢true}
use Rattle.source_tree.specs.SyntaxView.{tree_view}
use Rattle.decl_types.specs.Bodies.{file_of}
use Rattle.decl_types.proofs.UnknownKinds.{unknown_start}
use Rattle.decl_types.proofs.initial_values.judged_initial_value.Goals as goal

is_not : (b : Bool) → not b ≡ true → b ≡ false
is_not true h = absurd (false≢true h)
is_not false h = refl

pub returns-then-not-domain-clause-start : goal.returns-then-not-domain-clause-start
returns-then-not-domain-clause-start c =
    let start = unknown_start (file_of c.args.file.now) c.args.domain c.args.at (option_map (λ e. tree_view e.now) c.args.initial) (c.requires (is_not c.args.domain.whole c.if-not-domain.true)) in
    rw (← start) (search rules)
