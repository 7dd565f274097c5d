-- A clause whose names break no rule uses only what it may.
use Rattle.std.proofs.Common.{◌≡◌, ℕ, Bool, true, false, List, [], ◌∷◌, ◌++◌, Option, Some, None, refl, sym, ap, ◌∙◌, if◌then◌else◌}
use Rattle.std.specs.Prelude.{is_some}
use Rattle.std.proofs.lemmas.Bool.{false≢true}
use Rattle.rules.specs.declared.rule.Rule.TheVariants.{UnknownName}
use Rattle.source_tree.specs.Syntax.{Named, PathData, Tree, literal, path, enumerator, paren, unary, chain, call, Links, no_links, link, Arguments, no_arguments, argument}
use Rattle.program_tree.specs.Tree.{ProgramData}
use Rattle.naming.specs.Library.{is_library}
use Rattle.typing.specs.declared.scope.Meaning.{Meaning}
use Rattle.typing.specs.Typing.{by_path}
use Rattle.typing.specs.Programs.{pair_means, pair_scope}
use Rattle.stated_cells.specs.typed_scopes.Uses.{IsWithin, AreLinksWithin, AreArgumentsWithin}
use Rattle.stated_cells.proofs.whole_files.Told.{nil_front, nil_behind}
use Rattle.relation_file.specs.Refusals.{breaks}
use Rattle.relation_file.specs.Clauses.{is_side, no_side, unknown_unless, broken_members, broken_called, broken_argument, broken_names, broken_links, broken_arguments}
use Rattle.typed_relations.proofs.PairScopes.{pair_uses}

side_known : (b : Bool) (own : ℕ) (at : ℕ) (o : Option Meaning) → (if b then unknown_unless at o else no_side own) ≡ [] → is_some o ≡ true
side_known true own at None none = absurd (let e : ⊥ = cc in e)
side_known true own at (Some m) none = refl
side_known false own at o none = absurd (let e : ⊥ = cc in e)

library_by : (b : Bool) (at : ℕ) → (if b then [] else breaks UnknownName at) ≡ [] → b ≡ true
library_by true at none = refl
library_by false at none = absurd (let e : ⊥ = cc in e)

module _ (old new : ProgramData) where
  members_within : (p : PathData) (ns : List Named) → broken_members (pair_scope old new) p ns ≡ [] → is_some (pair_means old new (by_path p)) ≡ true
  members_within p [] none = absurd (let e : ⊥ = cc in e)
  members_within p (n ∷ ns) none = side_known (is_side p.first.text) p.first.at n.at (pair_means old new (by_path p)) none

  mutual
    pub tree_within : (e : Tree) → broken_names (pair_scope old new) e ≡ [] → IsWithin (pair_uses old new) e
    tree_within (literal l) none = tt
    tree_within (path p) none = members_within p p.members none
    tree_within (enumerator t v) none = absurd (let e : ⊥ = cc in e)
    tree_within (paren at e) none = tree_within e none
    tree_within (unary o at e) none = tree_within e none
    tree_within (chain e ls) none =
        let scope = pair_scope old new in
        (tree_within e (nil_front (broken_names scope e) (broken_links scope ls) none), links_within ls (nil_behind (broken_names scope e) (broken_links scope ls) none))
    tree_within (call n at args) none =
        let scope = pair_scope old new in
        let arguments = broken_arguments scope (is_library n.text) args in
        let known = library_by (is_library n.text) n.at (nil_front (broken_called n) arguments none) in
        ((λ missing. absurd (false≢true (sym (ap is_some missing) ∙ known))), arguments_within (is_library n.text) args (nil_behind (broken_called n) arguments none))

    links_within : (ls : Links) → broken_links (pair_scope old new) ls ≡ [] → AreLinksWithin (pair_uses old new) ls
    links_within no_links none = tt
    links_within (link o at e ls) none =
        let scope = pair_scope old new in
        (tree_within e (nil_front (broken_names scope e) (broken_links scope ls) none), links_within ls (nil_behind (broken_names scope e) (broken_links scope ls) none))

    arguments_within : (known : Bool) (args : Arguments) → broken_arguments (pair_scope old new) known args ≡ [] → AreArgumentsWithin (pair_uses old new) args
    arguments_within known no_arguments none = tt
    arguments_within known (argument n e args) none =
        let scope = pair_scope old new in
        let own = broken_argument known n in
        let here = broken_names scope e in
        let others = broken_arguments scope known args in
        (tree_within e (nil_behind own here (nil_front (own ++ here) others none)), arguments_within known args (nil_behind (own ++ here) others none))
