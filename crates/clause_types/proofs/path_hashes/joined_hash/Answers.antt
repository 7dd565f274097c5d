use Rattle.std.proofs.Common.{◌≡◌, ◌+◌, ◌∷◌, drop, ap, sym, ◌∙◌, arith}
use Rattle.std.proofs.lemmas.Grind.{common_steps}
use Rattle.source_tree.specs.SyntaxView.{name_view, names_view}
use Rattle.typing.specs.Programs.{joined}
use Rattle.clause_types.specs.PathHashes.{with_byte, with_bytes, hash_of}
use Rattle.clause_types.proofs.SideLemmas.{behind_points}
use Rattle.clause_types.proofs.HashLemmas.{joined_from_first, joined_one_more}
use Rattle.clause_types.proofs.path_hashes.joined_hash.Goals as goal

pub loop-member-init : goal.loop-member-init
loop-member-init c =
    let others = names_view c.in-Some.others.now in
    ap (λ h. with_bytes h (behind_points others)) (c.with_bytes-hash.ensures ∙ ap hash_of c.as_bytes.ensures.value)
    ∙ joined_from_first (name_view c.in-Some.first.now) others ∙ ap (λ ms. hash_of (joined (names_view ms))) (sym c.in-Some.ensures.cases.0)

pub loop-member-preserved : goal.loop-member-preserved
loop-member-preserved c =
    let i = c.loop-member.member-index in
    let n = name_view c.member-item.result in
    let rest = names_view (drop (i + 1) c.in-Some.others.now) in
    let left : names_view (drop i c.in-Some.others.now) ≡ n ∷ rest = grind (arith, common_steps) in
    let hashed : c.with_bytes-hash-in-loop-member.result ≡ with_bytes (with_byte c.loop-member.hash 46) n.text =
    c.with_bytes-hash-in-loop-member.ensures ∙ ap (λ h. with_bytes h c.as_bytes-in-loop-member.result.now) c.with_byte.ensures
    ∙ ap (with_bytes (with_byte c.loop-member.hash 46)) c.as_bytes-in-loop-member.ensures.value in
    ap (λ h. with_bytes h (behind_points rest)) hashed ∙ joined_one_more c.loop-member.hash n rest
    ∙ ap (λ ns. with_bytes c.loop-member.hash (behind_points ns)) (sym left) ∙ c.loop-member.invariant
