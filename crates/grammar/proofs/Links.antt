-- Links that the code holds, beside links that are read.
use Rattle.std.proofs.Common.{◌≡◌, ℕ, zero, suc, ◌+◌, ◌-◌, ◌<◌, ◌≤◌, false, List, [], ◌∷◌, ◌++◌, map, length, Some, None, is_some, refl, sym, ap, subst, ◌∙◌, arith}
use Rattle.std.proofs.lemmas.List.{map_push}
use Rattle.source_tree.specs.Syntax.{Symbol, Tree, chain, Links, no_links, link}
use Rattle.std.specs.Prelude.{Box, Vec}
use Rattle.std.specs.declared.alloc.Global.{Global}
use Rattle.plc_types.specs.declared.operator.Operator.{Operator}
use Rattle.source_tree.specs.declared.syntax.Expr.{Expr, the_lemmas}
use Rattle.source_tree.specs.declared.syntax.Expr.TheVariants.{Chain}
use Rattle.source_tree.specs.declared.syntax.Link.{Link, the_lemmas as link_lemmas}
use Rattle.source_tree.specs.SyntaxView.{LinkData, links_of, link_view, links_view, tree_view}
use Rattle.grammar.specs.Reading.{Read, operator_of}
use Rattle.grammar.specs.Expressions.{add_link, joined, links_step, links, signed, levelled, inside}

links_of-push : (ls : List LinkData) (l : LinkData) → links_of (ls ++ l ∷ []) ≡ add_link (links_of ls) l.0 l.1 l.2
links_of-push [] l = refl
links_of-push (x ∷ ls) l = ap (link x.0 x.1 x.2) (links_of-push ls l)

link_seen : (o : Operator) (at : ℕ) (right : Expr) → link_view (record { operator = o; at = at; right = right }) ≡ (o, at, tree_view right)
link_seen o at right = simp link_lemmas

pub links-push : (ls : List Link) (o : Operator) (at : ℕ) (right : Expr) → links_view (ls ++ record { operator = o; at = at; right = right } ∷ []) ≡ add_link (links_view ls) o at (tree_view right)
links-push ls o at right =
    let l : Link = record { operator = o; at = at; right = right } in
    ap links_of (map_push link_view ls l) ∙ links_of-push (map link_view ls) (link_view l) ∙ ap (λ (x : LinkData). add_link (links_view ls) x.0 x.1 x.2) (link_seen o at right)

-- a chain of some links
pub joined_some : (e : Tree) (ls : List Link) → 0 < length ls → joined e (links_view ls) ≡ chain e (links_view ls)
joined_some e [] some = absurd (omega arith)
joined_some e (l ∷ ls) some = refl

tree_chain : (first : Box Expr Global) (ls : Vec Link Global) → tree_view (Chain first ls) ≡ chain (tree_view first.value) (links_view ls.items)
tree_chain first ls = simp the_lemmas

pub tree_joined : (first : Box Expr Global) (e : Expr) (ls : Vec Link Global) → first.value ≡ e → 0 < length ls.items → tree_view (Chain first ls) ≡ joined (tree_view e) (links_view ls.items)
tree_joined first e ls same some = tree_chain first ls ∙ ap (λ (x : Expr). chain (tree_view x) (links_view ls.items)) same ∙ sym (joined_some (tree_view e) ls.items some)

-- where an operand is not read, neither is an expression that begins with it
levelled_none : (turns : ℕ) (inner : Read Tree) (j d : ℕ) (ts : List Symbol) → levelled turns inner j ts ≡ None → levelled turns inner (d + j) ts ≡ None
unfolding levelled
levelled_none turns inner j zero ts none = let e : 0 + j ≡ j = omega arith in rw e none
levelled_none turns inner j (suc d) ts none = let e : suc d + j ≡ suc (d + j) = omega arith in rw e (rw (levelled_none turns inner j d ts none) refl)

pub looser_none : (turns : ℕ) (inner : Read Tree) (j k : ℕ) (ts : List Symbol) → j ≤ k → levelled turns inner j ts ≡ None → levelled turns inner k ts ≡ None
looser_none turns inner j k ts le none = let e : (k - j) + j ≡ k = omega arith in subst (λ n. levelled turns inner n ts ≡ None) e (levelled_none turns inner j (k - j) ts none)

pub operand_none : (turns : ℕ) (inner : Read Tree) (k : ℕ) (ts : List Symbol) → signed turns inner ts ≡ None → levelled turns inner k ts ≡ None
unfolding levelled
operand_none turns inner k ts none = looser_none turns inner 0 k ts (omega arith) none

-- where no operator of a level stands, nothing is linked
links_here : (operand : Read Tree) (k n : ℕ) (ls : Links) (ts : List Symbol) → is_some (operator_of k ts) ≡ false → links operand k n ls ts ≡ Some (ls, ts)
unfolding links
links_here operand k zero ls ts none = refl
links_here operand k (suc n) ls ts none =
    elim (operator_of k ts) as (λ o. is_some o ≡ false → links_step operand (links operand k n) ls ts o ≡ Some (ls, ts)) [ None ↦ λ h. refl | Some o ↦ λ h. absurd cc ] none

-- one level more, where nothing is linked there
pub unlinked : (turns : ℕ) (inner : Read Tree) (k : ℕ) (ts rest : List Symbol) (e : Tree) → levelled turns inner k ts ≡ Some (e, rest) → is_some (operator_of (k + 1) rest) ≡ false → levelled turns inner (k + 1) ts ≡ Some (e, rest)
unfolding levelled
unlinked turns inner k ts rest e read none =
    let one : k + 1 ≡ suc k = omega arith in
    let here = links_here (levelled turns inner k) (suc k) turns no_links rest (subst (λ n. is_some (operator_of n rest) ≡ false) one none) in
    rw one (rw read (rw here refl))

-- one level more, with what is linked there
pub linked : (turns : ℕ) (inner : Read Tree) (k : ℕ) (ts rest behind : List Symbol) (e : Tree) (ls : Links) → levelled turns inner k ts ≡ Some (e, rest)
    → links (levelled turns inner (k + 1 - 1)) (k + 1) turns no_links rest ≡ Some (ls, behind) → levelled turns inner (k + 1) ts ≡ Some (joined e ls, behind)
unfolding levelled
linked turns inner k ts rest behind e ls read more =
    let one : k + 1 ≡ suc k = omega arith in
    let before : suc k - 1 ≡ k = omega arith in
    let at_one = subst (λ n. links (levelled turns inner (n - 1)) n turns no_links rest ≡ Some (ls, behind)) one more in
    let here = subst (λ n. links (levelled turns inner n) (suc k) turns no_links rest ≡ Some (ls, behind)) before at_one in
    rw one (rw read (rw here refl))

-- one level more, where what is linked there is not read
pub links_none : (turns : ℕ) (inner : Read Tree) (k level : ℕ) (ts rest : List Symbol) (e : Tree) → k < level → levelled turns inner k ts ≡ Some (e, rest)
    → links (levelled turns inner (k + 1 - 1)) (k + 1) turns no_links rest ≡ None → levelled turns inner level ts ≡ None
unfolding levelled
links_none turns inner k level ts rest e below read none =
    let one : k + 1 ≡ suc k = omega arith in
    let before : suc k - 1 ≡ k = omega arith in
    let at_one = subst (λ n. links (levelled turns inner (n - 1)) n turns no_links rest ≡ None) one none in
    let here = subst (λ n. links (levelled turns inner n) (suc k) turns no_links rest ≡ None) before at_one in
    let next : levelled turns inner (suc k) ts ≡ None = rw read (rw here refl) in
    looser_none turns inner (suc k) level ts (omega arith) next

pub inside_step : (turns depth : ℕ) (ts : List Symbol) → 0 < depth → inside turns depth ts ≡ levelled turns (inside turns (depth - 1)) 7 ts
unfolding inside
inside_step turns zero ts some = absurd (omega arith)
inside_step turns (suc k) ts some = let e : suc k - 1 ≡ k = omega arith in rw e refl
