use Rattle.std.proofs.Common.{◌≡◌, ◌+◌, Bool, List, [], ◌∷◌, ◌++◌, map, drop, ap, sym, ◌∙◌, append_assoc}
use Rattle.source_tree.specs.SyntaxView.{pou_view, file_view}
use Rattle.naming.specs.Broken.{is_program_pou}
use Rattle.naming.specs.FileScope.{pous_of}
use Rattle.pou_cells.proofs.TableLemmas.{drop_at}
use Rattle.pou_cells.proofs.reached.programs.Goals as goal

pub loop-number-preserved : goal.loop-number-preserved
loop-number-preserved c =
    let ps = pous_of (file_view c.args.names.now.file.now) in
    let k = c.loop-number.number in
    let marks = c.loop-number.marks.items in
    let items : c.push.new.self.items ≡ marks ++ c.is_program.result ∷ [] = c.in_ok-push.ensures.items in
    ap (λ (l : List Bool). l ++ map is_program_pou (drop (k + 1) ps)) items
    ∙ append_assoc marks (c.is_program.result ∷ []) (map is_program_pou (drop (k + 1) ps))
    ∙ ap (λ (b : Bool). marks ++ b ∷ map is_program_pou (drop (k + 1) ps)) c.is_program.ensures
    ∙ ap (λ l. marks ++ map is_program_pou l) (sym (drop_at ps k (pou_view c.pou.result.now) c.pou.ensures)) ∙ c.loop-number.invariant
