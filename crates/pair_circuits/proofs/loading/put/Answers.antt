use Rattle.std.proofs.Common.{◌∙◌, ap, List}
use Rattle.std.specs.Prelude.{Vec, slice_set}
use Rattle.std.specs.declared.alloc.Global.{Global}
use Rattle.std.proofs.lemmas.List.{map-set}
use Rattle.clause_core.specs.declared.literal.Lit.{Lit}
use Rattle.node_circuits.specs.NodeWords.{words_view}
use Rattle.pair_circuits.proofs.loading.put.Goals as goal

pub returns-then-place-len : goal.returns-then-place-len
returns-then-place-len c =
    map-set (λ (w : Vec Lit Global). w.items) c.args.words.now.items c.args.place c.in_ok-copy.copy
    ∙ ap (λ (w : List Lit). slice_set (words_view c.args.words.now.items) c.args.place w) c.in_ok-copy.ensures
