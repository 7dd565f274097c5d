-- Each POU that a POU of a file uses is one of the file, and where nothing is broken, the order has all of them.
use Rattle.std.proofs.Common.{◌≡◌, ⊎_elim, ℕ, zero, suc, ◌<◌, List, [], ◌∷◌, ◌++◌, length, Bool, true, false, Option, Some, None, refl, sym, ap, ◌∙◌, subst, if◌then◌else◌, arith}
use Rattle.std.specs.List.{slice_get}
use Rattle.std.proofs.lemmas.List.{length-map}
use Rattle.std.proofs.lemmas.Option.{slice_get_within}
use Rattle.call_order.specs.Uses.{uses_at, is_among, Reaches, order_of}
use Rattle.call_order.proofs.Members.{below-from_use, is_among-cases, is_among-either}
use Rattle.call_order.proofs.Orders.{begins}
use Rattle.rules.specs.declared.rule.Refusal.{Refusal}
use Rattle.rules.specs.declared.rule.Rule.TheVariants.{InTermsOfItself}
use Rattle.source_tree.specs.Syntax.{Tree, literal, path, enumerator, paren, unary, chain, call, Links, no_links, link, Arguments, no_arguments, argument, ConnectionData, input, output, IterationData, BodyData, PouData, FileData}
use Rattle.source_tree.specs.StatementItems.{StatementItem, assignment, invocation, condition, selector, labels, iteration, listed}
use Rattle.source_tree.proofs.StatementInduction.{AreRelated, related_body}
use Rattle.naming.specs.declared.callee.Callee.{Callee}
use Rattle.naming.specs.declared.callee.Callee.TheVariants as callees
use Rattle.naming.specs.Broken.{callee_of, broken_names}
use Rattle.naming.specs.Circles.{block_used, blocks_used, called, calls_in, calls_in_links, calls_in_arguments, calls_in_step, calls_in_iteration, calls_in_connections, calls_in_body, uses_in, uses_of, IsInCircle}
use Rattle.naming.specs.NamedItems.{calls_in_item}
use Rattle.naming.proofs.NamedItems.{given_calls, calls_of_body}
use Rattle.naming.specs.DeclarationUses.{numbers_in}
use Rattle.naming.specs.FileScope.{pous_of, pou_at}
use Rattle.naming.specs.Scopes.{Variable, PouScope, scope_of, is_whole, block_of}
use Rattle.st_names.proofs.WholeNames.{pou_whole}
use Rattle.st_names.proofs.WholeDeclarations.{complete, read_map}
use Rattle.st_names.proofs.WholePous.{block_there, callee_there}

-- ---- what is used is there

module _ (f : FileData) (u : ℕ) where
  there : (d : PouData) → pou_at f u ≡ Some d → u < length (pous_of f)
  there d at = slice_get_within (pous_of f) u d at

  -- of two lists
  either : (xs ys : List ℕ) → (is_among u xs ≡ true → u < length (pous_of f)) → (is_among u ys ≡ true → u < length (pous_of f)) → is_among u (xs ++ ys) ≡ true → u < length (pous_of f)
  either xs ys a b m = ⊎_elim a b (is_among-either u xs ys m)

  nowhere : is_among u [] ≡ true → u < length (pous_of f)
  nowhere m = absurd (let e : ⊥ = cc in e)

  block_below : (p : PouScope) (v : Variable) → is_among u (numbers_in (block_used f p v)) ≡ true → u < length (pous_of f)
  block_below p v m = by (is_whole f p v) (block_of f v) refl m
    where
      by : (b : Bool) (o : Option ℕ) → block_of f v ≡ o → is_among u (numbers_in (if b then o else None)) ≡ true → u < length (pous_of f)
      by false o e k = nowhere k
      by true None e k = nowhere k
      by true (Some number) e k = ⊎_elim (λ (same : u ≡ number). let d = block_there f v number e in there d.0 (ap (pou_at f) same ∙ d.1)) nowhere (is_among-cases u number [] k)

  blocks_below : (p : PouScope) (vs : List Variable) → is_among u (blocks_used f p vs) ≡ true → u < length (pous_of f)
  blocks_below p [] m = nowhere m
  blocks_below p (v ∷ vs) m = either (numbers_in (block_used f p v)) (blocks_used f p vs) (block_below p v) (blocks_below p vs) m

  called_below : (text : List ℕ) (callee : Callee) → callee_of f text ≡ callee → is_among u (called callee) ≡ true → u < length (pous_of f)
  called_below text callees.Standard e m = nowhere m
  called_below text callees.Unknown e m = nowhere m
  called_below text (callees.Function number) e m = ⊎_elim (λ (same : u ≡ number). let d = callee_there f text number e in there d.0 (ap (pou_at f) same ∙ d.1)) nowhere (is_among-cases u number [] m)

  mutual
    tree_below : (e : Tree) → is_among u (calls_in f e) ≡ true → u < length (pous_of f)
    tree_below (literal l) m = nowhere m
    tree_below (path q) m = nowhere m
    tree_below (enumerator t v) m = nowhere m
    tree_below (paren at e) m = tree_below e m
    tree_below (unary o at e) m = tree_below e m
    tree_below (chain e ls) m = either (calls_in f e) (calls_in_links f ls) (tree_below e) (links_below ls) m
    tree_below (call n at args) m = either (called (callee_of f n.text)) (calls_in_arguments f args) (called_below n.text (callee_of f n.text) refl) (arguments_below args) m

    links_below : (ls : Links) → is_among u (calls_in_links f ls) ≡ true → u < length (pous_of f)
    links_below no_links m = nowhere m
    links_below (link o at e ls) m = either (calls_in f e) (calls_in_links f ls) (tree_below e) (links_below ls) m

    arguments_below : (args : Arguments) → is_among u (calls_in_arguments f args) ≡ true → u < length (pous_of f)
    arguments_below no_arguments m = nowhere m
    arguments_below (argument n e args) m = either (calls_in f e) (calls_in_arguments f args) (tree_below e) (arguments_below args) m

  step_below : (e : Option Tree) → is_among u (calls_in_step f e) ≡ true → u < length (pous_of f)
  step_below None m = nowhere m
  step_below (Some e) m = tree_below e m

  connections_below : (cs : List ConnectionData) → is_among u (calls_in_connections f cs) ≡ true → u < length (pous_of f)
  connections_below [] m = nowhere m
  connections_below (input n e ∷ cs) m = either (calls_in f e) (calls_in_connections f cs) (tree_below e) (connections_below cs) m
  connections_below (output n q ∷ cs) m = connections_below cs m

  iteration_below : (i : IterationData) → is_among u (calls_in_iteration f i) ≡ true → u < length (pous_of f)
  iteration_below i m =
      either (calls_in f i.first ++ calls_in f i.last) (calls_in_step f i.step) (either (calls_in f i.first) (calls_in f i.last) (tree_below i.first) (tree_below i.last)) (step_below i.step) m

  item_below : (i : StatementItem) → is_among u (calls_in_item f i) ≡ true → u < length (pous_of f)
  item_below (assignment q e) m = tree_below e m
  item_below (invocation n at cs) m = connections_below cs m
  item_below (condition e) m = tree_below e m
  item_below (selector e) m = tree_below e m
  item_below (labels e before ls) m = nowhere m
  item_below (iteration i) m = iteration_below i m

  -- what items call is there, so what all of them call is
  abbrev IsThere : List IterationData → List ℕ → List ℕ → List ℕ → Type 0
  IsThere around xs ys zs = is_among u xs ≡ true → u < length (pous_of f)

  items_below : AreRelated (listed (given_calls f)) (listed (given_calls f)) (listed (given_calls f)) IsThere
  items_below = record {
    none = λ around m. nowhere m;
    both = λ around xs xs' ys ys' zs zs' one more m. either xs xs' one more m;
    own = λ around i m. item_below i m;
    inside = λ around i xs ys zs more m. either (calls_in_iteration f i) xs (iteration_below i) more m;
  }

  body_below : (b : BodyData) → is_among u (calls_in_body f b) ≡ true → u < length (pous_of f)
  body_below b m =
      let calls = listed (given_calls f) in
      related_body calls calls calls IsThere items_below b (ap (is_among u) (sym (calls_of_body f b)) ∙ m)

  pou_below : (d : PouData) → is_among u (uses_in f d) ≡ true → u < length (pous_of f)
  unfolding uses_in
  pou_below d m = either (blocks_used f (scope_of d) (scope_of d).variables) (calls_in_body f d.body) (blocks_below (scope_of d) (scope_of d).variables) (body_below d.body) m

-- ---- where no POU is in a circle, the order has all

module _ (f : FileData) (none : broken_names f ≡ []) where
  uses-pou : (k : ℕ) (d : PouData) → pou_at f k ≡ Some d → uses_at (uses_of f) k ≡ uses_in f d
  uses-pou k d at = read_map (uses_in f) (pous_of f) k d at

  there_at : (k : ℕ) → k < length (uses_of f) → (d : PouData) × (pou_at f k ≡ Some d)
  there_at k below = let l = length-map (pous_of f) (uses_in f) in got (pous_of f) k (omega arith)
    where
      got : (ps : List PouData) (i : ℕ) → i < length ps → (d : PouData) × (slice_get ps i ≡ Some d)
      got [] i b = absurd (omega arith)
      got (x ∷ ps) zero b = (x, refl)
      got (x ∷ ps) (suc i) b = got ps i (omega arith)

  use_below : (k u : ℕ) → is_among u (uses_at (uses_of f) k) ≡ true → u < length (uses_of f)
  use_below k u m =
      let d = there_at k (below-from_use (uses_of f) k u m) in
      let l = length-map (pous_of f) (uses_in f) in
      let low = pou_below f u d.0 (subst (λ (us : List ℕ). is_among u us ≡ true) (uses-pou k d.0 d.1) m) in
      omega arith

  none_round : ((r : Refusal) → ¬ (IsInCircle f r)) → (k : ℕ) → ¬ Reaches (uses_of f) k k
  none_round free k r =
      let d = there_at k (begins (uses_of f) k k r) in
      free (record { rule = InTermsOfItself; at = d.0.name.at }) (record { number = k; pou = d.0; there = d.1; whole = pou_whole f none k d.0 d.1; reaches = r; is = refl })

  -- where nothing is broken, the order has each POU
  pub ordered : ((r : Refusal) → ¬ (IsInCircle f r)) → length (order_of (uses_of f)) ≡ length (pous_of f)
  ordered free = complete (uses_of f) use_below (none_round free) ∙ length-map (pous_of f) (uses_in f)
