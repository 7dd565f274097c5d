-- The end of an IF, as the code comes to it.
use Rattle.std.proofs.Common.{◌≡◌, ℕ, refl, ◌∙◌, ap, List, ◌++◌, length, map, Result}
use Rattle.std.specs.Prelude.{OnOk, Contains}
use Rattle.std.specs.List.Sorted.{IsStrictlyIncreasing}
use Rattle.std.proofs.lemmas.Result.{on_ok_weaker}
use Rattle.program_tree.specs.declared.scratch.Scratch.{Scratch}
use Rattle.node_core.specs.Words.{NodeList, Store, word_at}
use Rattle.node_core.specs.Stores.{merged}
use Rattle.scan_ssa.specs.declared.trail.Change.{Change}
use Rattle.scan_ssa.specs.declared.trail.Trail.{Trail}
use Rattle.scan_ssa.specs.Trails.{with_changes, Keeps}
use Rattle.scan_ssa.specs.Merging.{places_in, merge_all}
use Rattle.scan_ssa.proofs.TrailLemmas.{keeps_both}
use Rattle.scan_ssa.proofs.MergeLemmas.{merge_ends}

-- the lists that were made, each read as a slice
pub sides_end : (ps : List Scratch) (c : ℕ) (one other : List Change) (s s2 s3 : Store) (touched t1 t2 t3 on on' offs offs' : List ℕ) (n : NodeList) → IsStrictlyIncreasing touched → ((p : ℕ) → Contains (places_in one ++ places_in other) p → Contains touched p)
    → t1 ≡ touched → on ≡ map (word_at (with_changes one s)) t1 → s2 ≡ s → t2 ≡ touched → offs ≡ map (word_at (with_changes other s2)) t2 → s3 ≡ s2 → t3 ≡ touched → on' ≡ on → offs' ≡ offs
    → merge_all ps c t3 on' offs' s3 n ≡ merged ps c (with_changes one s) (with_changes other s) 0 s n
sides_end ps c one other s s2 s3 touched t1 t2 t3 on on' offs offs' n rising named e1 is_on e2 f2 is_offs e3 f3 g h =
    ap (λ l. merge_all ps c l on' offs' s3 n) f3
    ∙ merge_ends ps c one other s (with_changes other s) s s2 s3 touched on' offs' n rising named refl
    (g ∙ is_on ∙ ap (map (word_at (with_changes one s))) e1) e2 (h ∙ is_offs ∙ ap (map (word_at (with_changes other s2))) f2) e3 refl

pub keeps_three : (T E : Type 0) (r : Result T E) (a b c d : Trail) → Keeps (length a.log.items) a b → Keeps (length b.log.items) b c → OnOk r (Keeps (length c.log.items) c d) → OnOk r (Keeps (length a.log.items) a d)
keeps_three T E r a b c d p q k =
    let both = keeps_both (length a.log.items) (length b.log.items) a b c p.longer p q in
    on_ok_weaker r (λ h. keeps_both (length a.log.items) (length c.log.items) a c d both.longer both h) k
