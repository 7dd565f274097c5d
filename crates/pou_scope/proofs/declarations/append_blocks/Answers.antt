use Rattle.std.proofs.Common.{◌≡◌, ◌++◌, ℕ, List, map, OnOk, ap, ◌∙◌, subst}
use Rattle.naming.specs.ScopeView.{seen_view}
use Rattle.pou_scope.specs.AllSeen.{blocks_seen}
use Rattle.pou_scope.specs.NamesView.{file_in, pou_in}
use Rattle.pou_scope.proofs.SeenLemmas.{same_blocks}
use Rattle.pou_scope.proofs.declarations.append_blocks.Goals as goal

pub returns : goal.returns
returns c =
    let names = c.args.names.now in
    let p = pou_in names in
    let same = ap blocks_seen (ap (map seen_view) c.deref.ensures.value ∙ names.known) ∙ same_blocks (file_in names) p p.variables in
    subst (λ (bs : List ℕ). OnOk c.append_seen.result (c.append_seen.new.blocks.items ≡ c.args.blocks.now.items ++ bs)) same c.append_seen.ensures
