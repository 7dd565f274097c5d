-- The words of expressions are of the types that their places ask for, and each operand of a node is an earlier word of the type that the node asks for.
use Rattle.std.proofs.Common.{◌≡◌, ℕ, zero, suc, ◌+◌, Bool, true, false, not, refl, sym, ◌∙◌, ap, subst, List, [], ◌∷◌, ◌++◌, length, map, pos, length-append, append_assoc}
use Rattle.std.specs.Prelude.{if◌then◌else◌}
use Rattle.std.proofs.lemmas.List.{length-map, append-nil, map-append}
use Rattle.plc_types.specs.declared.elementary.Elementary.{Elementary}
use Rattle.plc_types.specs.declared.elementary.Elementary.TheVariants as types
use Rattle.plc_types.specs.declared.function.Function.{Function}
use Rattle.plc_types.specs.declared.function.Function.TheVariants as functions
use Rattle.plc_types.specs.declared.operator.Operator.{Operator}
use Rattle.plc_types.specs.declared.operator.Operator.TheVariants as ops
use Rattle.plc_types.specs.Types.{is_signed}
use Rattle.plc_types.proofs.TypeRanges.{zero_in}
use Rattle.program_tree.specs.Tree.{Expression, number, cell, unary, chain, call_standard, call_function, Operands, no_operands, operand, Expressions, no_expressions, expression}
use Rattle.program_tree.specs.declared.scratch.Scratch.{Scratch}
use Rattle.program_tree.specs.OperandTypes.{is_for, source_of, first_operand_kind, first_kind, is_function_for}
use Rattle.program_tree.specs.Places.{place_at}
use Rattle.meaning.specs.Values.{divides, result_type}
use Rattle.flat_core.specs.FlatRules.{Reads, AllRead, EachReads}
use Rattle.node_core.specs.declared.node.Node.{Node}
use Rattle.node_core.specs.declared.node.Node.TheVariants.{Constant, Unary, Binary, Convert, Absolute, Minimum, Maximum, Shift, IsZero, Mux}
use Rattle.node_core.specs.NodeTypes.{kind_of, IsWordOf, IsTypedNode, AreTypedNodes, all_kinds}
use Rattle.node_core.specs.Words.{NodeList, Made, Store, word_at, taken, made, faulted, joined, folded, nothing, of_one, of_many, limited_word, selected_word, called_word, word_of, word_on, words_of}
use Rattle.node_core.specs.TypedFlats.{IsOf, Join, AreOf}
use Rattle.node_laws.proofs.Held.{fault_made}
use Rattle.node_core.proofs.Growth.{Grows, grows_both, grows_made, grows_joined, grows_word, grows_words}

-- ---- words

pub IsWordOf-more : (ts more : List Elementary) (t : Elementary) (w : ℕ) → IsWordOf ts t w → IsWordOf (ts ++ more) t w
IsWordOf-more [] more t w h = cc
IsWordOf-more (k ∷ ts) more t zero h = h
IsWordOf-more (k ∷ ts) more t (suc w) h = IsWordOf-more ts more t w h

pub IsWordOf-last : (ts : List Elementary) (t : Elementary) → IsWordOf (ts ++ t ∷ []) t (length ts)
IsWordOf-last [] t = refl
IsWordOf-last (k ∷ ts) t = IsWordOf-last ts t

AreTypedNodes-last : (ts : List Elementary) (xs : List Node) (x : Node) → AreTypedNodes ts xs → IsTypedNode (all_kinds ts xs) x → AreTypedNodes ts (xs ++ x ∷ [])
AreTypedNodes-last ts [] x are is = (subst (λ ks. IsTypedNode ks x) (append-nil ts) is, tt)
AreTypedNodes-last ts (y ∷ ys) x are is = (are.0, AreTypedNodes-last (ts ++ kind_of y ∷ []) ys x are.1 (subst (λ ks. IsTypedNode ks x) (sym (append_assoc ts (kind_of y ∷ []) (map kind_of ys))) is))

-- the types of all words so far
pub kinds : List Elementary → NodeList → List Elementary
kinds ts n = all_kinds ts n.nodes

-- typed nodes, over start words of these types
pub record Typed (ts : List Elementary) (n : NodeList) : Type 0 where
  pub starts : n.starts ≡ length ts
  pub each : AreTypedNodes ts n.nodes

-- a word of a type behind typed nodes
pub record Adds (ts : List Elementary) (m : Made) (t : Elementary) : Type 0 where
  pub typed : Typed ts m.list
  pub word : IsWordOf (all_kinds ts m.list.nodes) t m.word

-- the same where FAULT's word is a BOOL
pub record Makes (ts : List Elementary) (m : Made) (t : Elementary) : Type 0 where
  pub typed : Typed ts m.list
  pub word : IsWordOf (all_kinds ts m.list.nodes) t m.word
  pub fault : IsWordOf (all_kinds ts m.list.nodes) types.Bool m.list.fault

module _ (ts : List Elementary) where
  pub later : (n m : NodeList) (t : Elementary) (w : ℕ) → Grows n m → IsWordOf (all_kinds ts n.nodes) t w → IsWordOf (all_kinds ts m.nodes) t w
  later n m t w g h =
      subst (λ xs. IsWordOf (all_kinds ts xs) t w) (sym g.nodes)
      (subst (λ ks. IsWordOf ks t w) (append_assoc ts (map kind_of n.nodes) (map kind_of g.more) ∙ ap (λ ks. ts ++ ks) (sym (map-append kind_of n.nodes g.more))) (IsWordOf-more (all_kinds ts n.nodes) (map kind_of g.more) t w h))

  -- one typed node more
  pub adds_made : (x : Node) (n : NodeList) (t : Elementary) → kind_of x ≡ t → Typed ts n → IsTypedNode (all_kinds ts n.nodes) x → Adds ts (made x n) t
  unfolding made
  adds_made x n t is typed node = record {
    typed = record { starts = typed.starts; each = AreTypedNodes-last ts n.nodes x typed.each node };
    word = subst (λ k. IsWordOf (all_kinds ts (n.nodes ++ x ∷ [])) k (n.starts + length n.nodes)) is
        (subst (λ ks. IsWordOf ks (kind_of x) (n.starts + length n.nodes)) spelled (subst (λ w. IsWordOf (all_kinds ts n.nodes ++ kind_of x ∷ []) (kind_of x) w) count (IsWordOf-last (all_kinds ts n.nodes) (kind_of x))));
  }
    where
      spelled : all_kinds ts n.nodes ++ kind_of x ∷ [] ≡ all_kinds ts (n.nodes ++ x ∷ [])
      spelled = append_assoc ts (map kind_of n.nodes) (kind_of x ∷ []) ∙ ap (λ ks. ts ++ ks) (sym (map-append kind_of n.nodes (x ∷ [])))

      count : length (all_kinds ts n.nodes) ≡ n.starts + length n.nodes
      count = length-append ts (map kind_of n.nodes) ∙ ap (λ k. length ts + k) (length-map n.nodes kind_of) ∙ ap (λ k. k + length n.nodes) (sym typed.starts)

  pub makes_made : (x : Node) (n : NodeList) (t : Elementary) → kind_of x ≡ t → Typed ts n → IsWordOf (all_kinds ts n.nodes) types.Bool n.fault → IsTypedNode (all_kinds ts n.nodes) x → Makes ts (made x n) t
  makes_made x n t is typed fault node =
      let one = adds_made x n t is typed node in
      record { typed = one.typed; word = one.word; fault = later n (made x n).list types.Bool _ (grows_made x n) (same_fault fault) }
    where
      same_fault : IsWordOf (all_kinds ts n.nodes) types.Bool n.fault → IsWordOf (all_kinds ts n.nodes) types.Bool (made x n).list.fault
      same_fault h = subst (λ w. IsWordOf (all_kinds ts n.nodes) types.Bool w) (sym (fault_made (λ w. pos 0) x n)) h

  -- the same word, of a type that is the same
  as_kind : (m : Made) (t u : Elementary) → t ≡ u → Makes ts m t → Makes ts m u
  as_kind m t u is h = subst (λ k. Makes ts m k) is h

  -- a word more is added to FAULT
  pub record Faulted (n : NodeList) : Type 0 where
    pub typed : Typed ts n
    pub fault : IsWordOf (all_kinds ts n.nodes) types.Bool n.fault

  pub makes_faulted : (m : Made) → Makes ts m types.Bool → Faulted (faulted m)
  unfolding faulted
  makes_faulted m h =
      let f = makes_made (Binary ops.Or types.Bool m.list.fault m.word) m.list types.Bool refl h.typed h.fault (refl, h.fault, h.word) in
      record { typed = record { starts = f.typed.starts; each = f.typed.each }; fault = f.word }

  pub grows_fault : (m : Made) → Grows m.list (faulted m)
  unfolding faulted
  grows_fault m =
      let g = grows_made (Binary ops.Or types.Bool m.list.fault m.word) m.list in
      record { starts = g.starts; more = g.more; nodes = g.nodes }

  makes_joined : (o : Operator) (t : Elementary) (a b : ℕ) (n : NodeList) → is_for o t ≡ true → Typed ts n → IsWordOf (all_kinds ts n.nodes) types.Bool n.fault → IsWordOf (all_kinds ts n.nodes) t a → IsWordOf (all_kinds ts n.nodes) t b
      → Makes ts (joined o t a b n) (result_type o t)
  unfolding joined
  makes_joined o t a b n for typed fault of_a of_b = by_test (divides o)
    where
      m : Made
      m = made (Binary o t a b) n

      z : Made
      z = made (IsZero t b) m.list

      m_makes : Makes ts m (result_type o t)
      m_makes = makes_made (Binary o t a b) n (result_type o t) refl typed fault (for, of_a, of_b)

      z_makes : Makes ts z types.Bool
      z_makes = makes_made (IsZero t b) m.list types.Bool refl m_makes.typed m_makes.fault (later n m.list t b (grows_made (Binary o t a b) n) of_b)

      by_test : (test : Bool) → Makes ts (if test then taken m.word (faulted z) else m) (result_type o t)
      by_test true =
          let f = makes_faulted z z_makes in
          record { typed = f.typed; word = later m.list (faulted z) (result_type o t) m.word (grows_both m.list z.list (faulted z) (grows_made (IsZero t b) m.list) (grows_fault z)) m_makes.word; fault = f.fault }
      by_test false = m_makes

  -- ---- standard functions

  -- the first word is of one type, and the others are of another
  EachOf : List Elementary → Elementary → Elementary → List ℕ → Type 0
  EachOf ks first others [] = Unit {0}
  EachOf ks first others (w ∷ ws) = IsWordOf ks first w × EachOf ks others others ws

  EachOf-later : (n m : NodeList) (first others : Elementary) (ws : List ℕ) → Grows n m → EachOf (all_kinds ts n.nodes) first others ws → EachOf (all_kinds ts m.nodes) first others ws
  unfolding EachOf
  EachOf-later n m first others [] g h = tt
  EachOf-later n m first others (w ∷ ws) g h = (later n m first w g h.0, EachOf-later n m others others ws g h.1)

  module _ (t : Elementary) where
    makes_nothing : (n : NodeList) → Typed ts n → IsWordOf (all_kinds ts n.nodes) types.Bool n.fault → Makes ts (nothing t n) t
    makes_nothing n typed fault = makes_made (Constant t (pos 0)) n t refl typed fault (zero_in t)

    makes_one : (x : ℕ → Node) (first : Elementary) (ws : List ℕ) (n : NodeList) → ((a : ℕ) → kind_of (x a) ≡ t) → ((a : ℕ) (ks : List Elementary) → IsWordOf ks first a → IsTypedNode ks (x a))
        → Typed ts n → IsWordOf (all_kinds ts n.nodes) types.Bool n.fault → EachOf (all_kinds ts n.nodes) first t ws → Makes ts (of_one x t ws n) t
    unfolding EachOf
    makes_one x first [] n kind node typed fault each = makes_nothing n typed fault
    makes_one x first (a ∷ []) n kind node typed fault each = makes_made (x a) n t (kind a) typed fault (node a _ each.0)
    makes_one x first (a ∷ b ∷ ws) n kind node typed fault each = makes_nothing n typed fault

    makes_folded : (x : ℕ → ℕ → Node) → ((a b : ℕ) → kind_of (x a b) ≡ t) → ((a b : ℕ) (ks : List Elementary) → IsWordOf ks t a → IsWordOf ks t b → IsTypedNode ks (x a b))
        → (ws : List ℕ) (a : ℕ) (n : NodeList) → Typed ts n → IsWordOf (all_kinds ts n.nodes) types.Bool n.fault → IsWordOf (all_kinds ts n.nodes) t a → EachOf (all_kinds ts n.nodes) t t ws → Makes ts (folded x a ws n) t
    unfolding EachOf
    makes_folded x kind node [] a n typed fault of_a each = record { typed = typed; word = of_a; fault = fault }
    makes_folded x kind node (b ∷ ws) a n typed fault of_a each =
        let one = makes_made (x a b) n t (kind a b) typed fault (node a b _ of_a each.0) in
        makes_folded x kind node ws (made (x a b) n).word (made (x a b) n).list one.typed one.fault one.word (EachOf-later n (made (x a b) n).list t t ws (grows_made (x a b) n) each.1)

    makes_many : (x : ℕ → ℕ → Node) → ((a b : ℕ) → kind_of (x a b) ≡ t) → ((a b : ℕ) (ks : List Elementary) → IsWordOf ks t a → IsWordOf ks t b → IsTypedNode ks (x a b))
        → (ws : List ℕ) (n : NodeList) → Typed ts n → IsWordOf (all_kinds ts n.nodes) types.Bool n.fault → EachOf (all_kinds ts n.nodes) t t ws → Makes ts (of_many x t ws n) t
    unfolding EachOf
    makes_many x kind node [] n typed fault each = makes_nothing n typed fault
    makes_many x kind node (a ∷ ws) n typed fault each = makes_folded x kind node ws a n typed fault each.0 each.1

    makes_limited : (ws : List ℕ) (n : NodeList) → Typed ts n → IsWordOf (all_kinds ts n.nodes) types.Bool n.fault → EachOf (all_kinds ts n.nodes) t t ws → Makes ts (limited_word t ws n) t
    unfolding EachOf
    makes_limited [] n typed fault each = makes_nothing n typed fault
    makes_limited (a ∷ []) n typed fault each = makes_nothing n typed fault
    makes_limited (a ∷ b ∷ []) n typed fault each = makes_nothing n typed fault
    makes_limited (low ∷ a ∷ high ∷ []) n typed fault each =
        let m = made (Maximum t a low) n in
        let one = makes_made (Maximum t a low) n t refl typed fault (each.1.0, each.0) in
        makes_made (Minimum t m.word high) m.list t refl one.typed one.fault (one.word, later n m.list t high (grows_made (Maximum t a low) n) each.1.1.0)
    makes_limited (a ∷ b ∷ c ∷ d ∷ ws) n typed fault each = makes_nothing n typed fault

    makes_selected : (ws : List ℕ) (n : NodeList) → Typed ts n → IsWordOf (all_kinds ts n.nodes) types.Bool n.fault → EachOf (all_kinds ts n.nodes) types.Bool t ws → Makes ts (selected_word t ws n) t
    unfolding EachOf
    makes_selected [] n typed fault each = makes_nothing n typed fault
    makes_selected (a ∷ []) n typed fault each = makes_nothing n typed fault
    makes_selected (a ∷ b ∷ []) n typed fault each = makes_nothing n typed fault
    makes_selected (g ∷ a ∷ b ∷ []) n typed fault each = makes_made (Mux t g b a) n t refl typed fault (each.0, each.1.1.0, each.1.0)
    makes_selected (a ∷ b ∷ c ∷ d ∷ ws) n typed fault each = makes_nothing n typed fault

    makes_called : (f : Function) (ws : List ℕ) (n : NodeList) → is_function_for f t ≡ true → Typed ts n → IsWordOf (all_kinds ts n.nodes) types.Bool n.fault → EachOf (all_kinds ts n.nodes) (first_operand_kind f t) t ws → Makes ts (called_word f t ws n) t
    unfolding called_word
    makes_called (functions.Convert from) ws n for typed fault each = makes_one (Convert (source_of (functions.Convert from) t) t) (source_of (functions.Convert from) t) ws n (λ a. refl) (λ a ks h. h) typed fault each
    makes_called functions.Absolute ws n for typed fault each = makes_one (Absolute t) t ws n (λ a. refl) (λ a ks h. h) typed fault each
    makes_called functions.Minimum ws n for typed fault each = makes_many (Minimum t) (λ a b. refl) (λ a b ks p q. (p, q)) ws n typed fault each
    makes_called functions.Maximum ws n for typed fault each = makes_many (Maximum t) (λ a b. refl) (λ a b ks p q. (p, q)) ws n typed fault each
    makes_called functions.Limit ws n for typed fault each = makes_limited ws n typed fault each
    makes_called functions.Select ws n for typed fault each = makes_selected ws n typed fault each
    makes_called (functions.Shift s k) ws n for typed fault each = makes_one (Shift s k t) t ws n (λ a. refl) (λ a ks h. (unsigned (is_signed t) for, h)) typed fault each
      where
        unsigned : (b : Bool) → not b ≡ true → b ≡ false
        unsigned true h = sym h
        unsigned false h = refl

  -- ---- expressions

  module _ (ps : List Scratch) (store : Store) (P : ℕ → Type 0) where
    -- a place that may be read holds a word of its type
    unfoldable pub Reading : NodeList → Type 0
    Reading n = (p : ℕ) → P p → IsWordOf (all_kinds ts n.nodes) (place_at ps p).kind (word_at store p)

    pub reading_later : (n m : NodeList) → Grows n m → Reading n → Reading m
    unfolding Reading
    reading_later n m g reading p h = later n m (place_at ps p).kind (word_at store p) g (reading p h)

    record MakesAll (ws : List ℕ) (n : NodeList) (first others : Elementary) : Type 0 where
      typed : Typed ts n
      fault : IsWordOf (all_kinds ts n.nodes) types.Bool n.fault
      words : EachOf (all_kinds ts n.nodes) first others ws

    mutual
      unfolding Reading EachOf

      pub makes : (e : Expression) (t : Elementary) (n : NodeList) → IsOf ps t e → Reads P e → Reading n → Typed ts n → IsWordOf (all_kinds ts n.nodes) types.Bool n.fault → Makes ts (word_of store t e n) t
      makes (number v) t n is reads reading typed fault = makes_made (Constant t v) n t refl typed fault is
      makes (cell place) t n is reads reading typed fault = record { typed = typed; word = subst (λ k. IsWordOf (all_kinds ts n.nodes) k (word_at store place)) is (reading place reads); fault = fault }
      makes (unary o k e) t n is reads reading typed fault =
          let m = word_of store k e n in
          let one = makes e k n is.1 reads reading typed fault in
          makes_made (Unary o k m.word) m.list t is.0 one.typed one.fault one.word
      makes (chain e os) t n is reads reading typed fault =
          let m = word_of store (first_kind t os) e n in
          let one = makes e (first_kind t os) n is.0 reads.0 reading typed fault in
          makes_on os (first_kind t os) t m.word m.list is.1 reads.1 (reading_later n m.list (grows_word store (first_kind t os) e n) reading) one.typed one.fault one.word
      makes (call_standard f k es) t n is reads reading typed fault =
          let m = words_of store (first_operand_kind f k) k es n in
          let all = makes_all es (first_operand_kind f k) k n is.2 reads reading typed fault in
          as_kind _ k t is.0 (makes_called k f m.words m.list is.1 all.typed all.fault all.words)
      makes (call_function f es) t n is reads reading typed fault = absurd reads

      makes_on : (os : Operands) (left t : Elementary) (a : ℕ) (n : NodeList) → Join ps left t os → AllRead P os → Reading n → Typed ts n → IsWordOf (all_kinds ts n.nodes) types.Bool n.fault → IsWordOf (all_kinds ts n.nodes) left a → Makes ts (word_on store a os n) t
      makes_on no_operands left t a n join reads reading typed fault of_a = record { typed = typed; word = subst (λ k. IsWordOf (all_kinds ts n.nodes) k a) join of_a; fault = fault }
      makes_on (operand o k e os) left t a n join reads reading typed fault of_a =
          let m = word_of store k e n in
          let j = joined o k a m.word m.list in
          let right = makes e k n join.2 reads.0 reading typed fault in
          let left_word = later n m.list k a (grows_word store k e n) (subst (λ u. IsWordOf (all_kinds ts n.nodes) u a) (sym join.0) of_a) in
          let both = makes_joined o k a m.word m.list join.1 right.typed right.fault left_word right.word in
          makes_on os (result_type o k) t j.word j.list join.3 reads.1
          (reading_later n j.list (grows_both n m.list j.list (grows_word store k e n) (grows_joined o k a m.word m.list)) reading) both.typed both.fault both.word

      makes_all : (es : Expressions) (first others : Elementary) (n : NodeList) → AreOf ps first others es → EachReads P es → Reading n → Typed ts n → IsWordOf (all_kinds ts n.nodes) types.Bool n.fault
          → MakesAll (words_of store first others es n).words (words_of store first others es n).list first others
      makes_all no_expressions first others n are reads reading typed fault = record { typed = typed; fault = fault; words = tt }
      makes_all (expression e es) first others n are reads reading typed fault =
          let m = word_of store first e n in
          let one = makes e first n are.0 reads.0 reading typed fault in
          let rest = makes_all es others others m.list are.1 reads.1 (reading_later n m.list (grows_word store first e n) reading) one.typed one.fault in
          record { typed = rest.typed; fault = rest.fault; words = (later m.list (words_of store others others es m.list).list first m.word (grows_words store others others es m.list) one.word, rest.words) }
