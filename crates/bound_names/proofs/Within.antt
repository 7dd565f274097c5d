-- A body whose names are whole uses nothing but what these let it use, item by item.
use Rattle.std.proofs.Common.{◌≡◌, ℕ, List, [], ◌∷◌, ◌++◌, true, false, Option, Some, None, refl, ap, subst, ◌∙◌}
use Rattle.plc_types.specs.declared.operator.UnaryOperator.TheVariants as signs
use Rattle.call_order.specs.Uses.{is_among}
use Rattle.call_order.proofs.Members.{is_among-left, is_among-right, is_among-head}
use Rattle.rules.specs.Judgements.{and}
use Rattle.source_tree.specs.Syntax.{Named, Tree, literal, path, enumerator, paren, unary, chain, call, Links, no_links, link, Arguments, no_arguments, argument, ConnectionData, input, output, LabelData, IterationData, BodyData, FileData}
use Rattle.source_tree.specs.StatementItems.{StatementItem, assignment, invocation, condition, selector, labels, iteration, every, listed}
use Rattle.source_tree.specs.LevelledItems.{IsLevelledItem}
use Rattle.source_tree.specs.Levels.{IsConstant, IsInitialFormed, AreLabelsFormed, AreLabels, IsBodyLevelled}
use Rattle.source_tree.proofs.StatementInduction.{related_body}
use Rattle.source_tree.proofs.EveryItem.{from_lists}
use Rattle.source_tree.proofs.LevelledItems.{levelled_body}
use Rattle.naming.specs.declared.callee.Callee.{Callee}
use Rattle.naming.specs.declared.callee.Callee.TheVariants as callees
use Rattle.naming.specs.Library.{standard_function}
use Rattle.naming.specs.FileScope.{is_doubled_in_file}
use Rattle.naming.specs.Scopes.{PouScope, seen_named}
use Rattle.naming.specs.Broken.{in_called, in_argument_name, callee_of, in_tree, in_links, in_arguments, in_target, in_constant, in_constant_if, in_label, in_labels, alone, in_step, in_iteration, in_instance, instance_of, in_connected, in_connection, in_connections, in_body}
use Rattle.naming.specs.Circles.{called, calls_in, calls_in_links, calls_in_arguments, calls_in_step, calls_in_iteration, calls_in_connections, calls_in_body}
use Rattle.naming.specs.NamedItems.{calls_in_item}
use Rattle.naming.proofs.NamedItems.{IsNamedItem, named_body, given_calls, calls_of_body}
use Rattle.typing.specs.Typing.{Reference, by_path, by_value}
use Rattle.typing.specs.JudgedStatements.{member}
use Rattle.typed_scopes.specs.Uses.{Usable, IsWithin, AreLinksWithin, AreArgumentsWithin, IsOptionWithin, AreConnectionsWithin, AreLabelsWithin, IsIterationWithin, IsItemWithin}
use Rattle.typed_scopes.proofs.Wholes.{whole_and}
use Rattle.typed_scopes.proofs.EveryItem.{both_body}
use Rattle.bound_names.specs.BoundNames.{is_bound, IsBodyWithin}
use Rattle.bound_names.proofs.NameParts.{enumerator_value, target_bound, label_bound, IsInstance, instance_is, member_bound, called_is}

-- all that are called of a list pass a test
abbrev pub AreCalled : (ℕ → Type 0) → List ℕ → Type 0
AreCalled Called calls = (u : ℕ) → is_among u calls ≡ true → Called u

labels_formed : (ls : List LabelData) → AreLabels ls → AreLabelsFormed ls
labels_formed [] h = absurd h
labels_formed (l ∷ ls) h = h

module _ (f : FileData) (once : (q : List ℕ) → is_doubled_in_file f q ≡ false) (p : PouScope) (uses : Usable) (Called : ℕ → Type 0)
    (names : (r : Reference) → is_bound f p r ≡ true → uses.names r ≡ true)
    (functions : (text : List ℕ) (number : ℕ) → standard_function text ≡ None → callee_of f text ≡ callees.Function number → Called number → uses.functions text ≡ true) where
  front : (xs ys : List ℕ) → AreCalled Called (xs ++ ys) → AreCalled Called xs
  front xs ys all u m = all u (is_among-left u xs ys m)

  behind : (xs ys : List ℕ) → AreCalled Called (xs ++ ys) → AreCalled Called ys
  behind xs ys all u m = all u (is_among-right u xs ys m)

  call_within : (n : Named) (calls : List ℕ) → (in_called f (callee_of f n.text) n).whole ≡ true → AreCalled Called (called (callee_of f n.text) ++ calls) → standard_function n.text ≡ None → uses.functions n.text ≡ true
  call_within n calls h all none =
      let c = called_is f n h none in
      let own = front (called (callee_of f n.text)) calls all in
      let among : is_among c.number (called (callee_of f n.text)) ≡ true = ap (λ (x : Callee). is_among c.number (called x)) c.is ∙ is_among-head c.number [] in
      functions n.text c.number none c.is (own c.number among)

  mutual
    pub tree_within : (e : Tree) → (in_tree f p e).whole ≡ true → AreCalled Called (calls_in f e) → IsWithin uses e
    tree_within (literal l) h all = tt
    tree_within (path q) h all = names (by_path q) h
    tree_within (enumerator t v) h all = names (by_value v) (enumerator_value f once t v h)
    tree_within (paren at e) h all = tree_within e h all
    tree_within (unary o at e) h all = tree_within e h all
    tree_within (chain e ls) h all =
        let two = whole_and (in_tree f p e) (in_links f p ls) h in
        (tree_within e two.0 (front (calls_in f e) (calls_in_links f ls) all), links_within ls two.1 (behind (calls_in f e) (calls_in_links f ls) all))
    tree_within (call n at args) h all =
        let c = callee_of f n.text in
        let two = whole_and (in_called f c n) (in_arguments f p c args) h in
        (call_within n (calls_in_arguments f args) two.0 all, arguments_within c args two.1 (behind (called c) (calls_in_arguments f args) all))

    links_within : (ls : Links) → (in_links f p ls).whole ≡ true → AreCalled Called (calls_in_links f ls) → AreLinksWithin uses ls
    links_within no_links h all = tt
    links_within (link o at e ls) h all =
        let two = whole_and (in_tree f p e) (in_links f p ls) h in
        (tree_within e two.0 (front (calls_in f e) (calls_in_links f ls) all), links_within ls two.1 (behind (calls_in f e) (calls_in_links f ls) all))

    arguments_within : (c : Callee) (args : Arguments) → (in_arguments f p c args).whole ≡ true → AreCalled Called (calls_in_arguments f args) → AreArgumentsWithin uses args
    arguments_within c no_arguments h all = tt
    arguments_within c (argument n e args) h all =
        let two = whole_and (and (in_argument_name f c n) (in_tree f p e)) (in_arguments f p c args) h in
        let own = whole_and (in_argument_name f c n) (in_tree f p e) two.0 in
        (tree_within e own.1 (front (calls_in f e) (calls_in_arguments f args) all), arguments_within c args two.1 (behind (calls_in f e) (calls_in_arguments f args) all))

  option_within : (e : Option Tree) → (in_step f p e).whole ≡ true → AreCalled Called (calls_in_step f e) → IsOptionWithin uses e
  option_within None h all = tt
  option_within (Some e) h all = tree_within e h all

  -- ---- labels

  constant_within : (e : Tree) → IsConstant e → (in_constant f p e).whole ≡ true → IsWithin uses e
  constant_within (literal l) formed h = tt
  constant_within (path q) formed h = names (by_path q) (label_bound f p q formed h)
  constant_within (enumerator t v) formed h = names (by_value v) (enumerator_value f once t v h)
  constant_within (paren at e) formed h = absurd formed
  constant_within (unary signs.Minus at (literal l)) formed h = tt
  constant_within (unary o at e) formed h = absurd formed
  constant_within (chain e ls) formed h = absurd formed
  constant_within (call n at args) formed h = absurd formed

  constant_if_within : (e : Option Tree) → IsInitialFormed e → (in_constant_if f p e).whole ≡ true → IsOptionWithin uses e
  constant_if_within None formed h = tt
  constant_if_within (Some e) formed h = constant_within e formed h

  labels_within : (ls : List LabelData) → AreLabelsFormed ls → (in_labels f p ls).whole ≡ true → AreLabelsWithin uses ls
  labels_within [] formed h = tt
  labels_within (l ∷ ls) formed h =
      let two = whole_and (in_label f p l) (in_labels f p ls) h in
      let own = whole_and (in_constant f p l.low) (in_constant_if f p l.high) two.0 in
      (constant_within l.low formed.0.0 own.0, constant_if_within l.high formed.0.1 own.1, labels_within ls formed.1 two.1)

  -- ---- statements

  connections_within : (n : Named) → IsInstance f p n → (cs : List ConnectionData) → (in_connections f p (instance_of (seen_named f p n.text)) cs).whole ≡ true → AreCalled Called (calls_in_connections f cs) → AreConnectionsWithin uses n cs
  connections_within n i [] h all = tt
  connections_within n i (input x e ∷ cs) h all =
      let b = instance_of (seen_named f p n.text) in
      let two = whole_and (in_connection f p b (input x e)) (in_connections f p b cs) h in
      let own = whole_and (in_connected f b x) (in_tree f p e) two.0 in (
        names (by_path (member n x)) (member_bound f p n i x own.0),
        tree_within e own.1 (front (calls_in f e) (calls_in_connections f cs) all),
        connections_within n i cs two.1 (behind (calls_in f e) (calls_in_connections f cs) all),
      )
  connections_within n i (output y q ∷ cs) h all =
      let b = instance_of (seen_named f p n.text) in
      let two = whole_and (in_connection f p b (output y q)) (in_connections f p b cs) h in
      let own = whole_and (in_connected f b y) (in_target f p (seen_named f p q.first.text) q) two.0 in
      (names (by_path (member n y)) (member_bound f p n i y own.0), names (by_path q) (target_bound f p q own.1), connections_within n i cs two.1 all)

  iteration_within : (i : IterationData) → (in_iteration f p i).whole ≡ true → AreCalled Called (calls_in_iteration f i) → IsIterationWithin uses i
  iteration_within i h all =
      let control = in_target f p (seen_named f p i.control.text) (alone i.control) in
      let three = whole_and (and (and control (in_tree f p i.first)) (in_tree f p i.last)) (in_step f p i.step) h in
      let two = whole_and (and control (in_tree f p i.first)) (in_tree f p i.last) three.0 in
      let one = whole_and control (in_tree f p i.first) two.0 in
      let bounds = front (calls_in f i.first ++ calls_in f i.last) (calls_in_step f i.step) all in (
        names (by_path (alone i.control)) (target_bound f p (alone i.control) one.0),
        tree_within i.first one.1 (front (calls_in f i.first) (calls_in f i.last) bounds),
        tree_within i.last two.1 (behind (calls_in f i.first) (calls_in f i.last) bounds),
        option_within i.step three.1 (behind (calls_in f i.first ++ calls_in f i.last) (calls_in_step f i.step) all),
      )

  -- an item whose names are whole and which is levelled
  abbrev IsBoundItem : List IterationData → StatementItem → Type 0
  IsBoundItem around i = IsNamedItem f p around i × IsLevelledItem around i

  item_within : (around : List IterationData) (i : StatementItem) → IsBoundItem around i → AreCalled Called (calls_in_item f i) → IsItemWithin uses around i
  item_within around (assignment q e) h all =
      let two = whole_and (in_target f p (seen_named f p q.first.text) q) (in_tree f p e) h.0 in
      (names (by_path q) (target_bound f p q two.0), tree_within e two.1 all)
  item_within around (invocation n at cs) h all =
      let s = seen_named f p n.text in
      let two = whole_and (in_instance f p s n) (in_connections f p (instance_of s) cs) h.0 in
      connections_within n (instance_is f p n two.0) cs two.1 all
  item_within around (condition e) h all = tree_within e h.0 all
  item_within around (selector e) h all = tree_within e h.0 all
  item_within around (labels e before ls) h all = labels_within ls (labels_formed ls h.1) h.0
  item_within around (iteration i) h all = iteration_within i h.0 all

  pub body_within : (b : BodyData) → IsBodyLevelled b → (in_body f p b).whole ≡ true → AreCalled Called (calls_in_body f b) → IsBodyWithin uses b
  body_within b levels h all =
      related_body (every IsBoundItem) (listed (given_calls f)) (every (IsItemWithin uses)) (λ around A xs C. A → AreCalled Called xs → C)
      (from_lists (AreCalled Called) (λ xs ys calls. (front xs ys calls, behind xs ys calls)) IsBoundItem (IsItemWithin uses) (given_calls f) item_within) b
      (both_body (IsNamedItem f p) IsLevelledItem b (named_body f p b h) (levelled_body b levels)) (subst (AreCalled Called) (calls_of_body f b) all)
