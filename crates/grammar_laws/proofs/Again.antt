-- What a fitting tree prints is read as that tree, where it does not go on.
use Rattle.std.proofs.Common.{◌≡◌, ℕ, zero, suc, ◌-◌, ◌≤◌, false, List, [], ◌∷◌, ◌++◌, length, Some, None, refl, sym, ap, subst, ◌∙◌, append_assoc, arith, length-append, inl, inr}
use Rattle.std.proofs.lemmas.Bool.{cases_lt, lt-leb}
use Rattle.std.proofs.lemmas.List.{append-nil}
use Rattle.plc_types.specs.declared.operator.Operator.{Operator}
use Rattle.source_tree.specs.declared.token.Mark.TheVariants.{Close, Point, Hash}
use Rattle.plc_types.specs.declared.operator.UnaryOperator.{UnaryOperator}
use Rattle.plc_types.specs.declared.operator.UnaryOperator.TheVariants as signs
use Rattle.source_tree.specs.declared.syntax.Literal.{Literal}
use Rattle.source_tree.specs.declared.syntax.Literal.TheVariants as literals
use Rattle.source_tree.specs.Syntax.{Symbol, operator, mark, Named, PathData, Tree, literal, path, enumerator, paren, unary, chain, call, Links, no_links, link, Arguments, no_arguments, argument}
use Rattle.source_tree.specs.Prints.{name_symbol, unary_symbol, print_members, print_path, print_literal, print, print_links, print_arguments}
use Rattle.source_tree.specs.Levels.{level_of, level, IsPrimary}
use Rattle.grammar.specs.Marks.{same_mark}
use Rattle.grammar.specs.Reading.{Read, ◌>>=◌, after, named, numbered, minus, opened, operator_of, sign}
use Rattle.grammar.specs.Ends.{goes_on}
use Rattle.grammar.specs.Fits.{Fits, LinksFit}
use Rattle.grammar.specs.Expressions.{typed_value, typed, constant, members, path_from, called, referred, primary, signed, add_link, links, joined, levelled, inside, expression}
use Rattle.grammar_laws.proofs.Fronts.{no_point, no_hash, not_opened, no_operator, goes_on-below, operator-here, level_of-within, level-le}
use Rattle.grammar_laws.proofs.Sound.{join, join-none, join-add}
use Rattle.grammar_laws.proofs.ArgumentsAgain.{step_close, InsideAgain, ArgumentsAgain, CallAgain, arguments_none, arguments_more, call_none, call_some}

-- ---- paths

pub step_named : (n : Named) (ts : List Symbol) → named (name_symbol n ∷ ts) ≡ Some (n, ts)
unfolding named
step_named n ts = refl

pub step_point : (ts : List Symbol) → after Point (mark Point ∷ ts) ≡ Some ts
unfolding after same_mark
step_point ts = refl

ends_closed : (k : ℕ) (ts : List Symbol) → goes_on k (mark Close ∷ ts) ≡ false
unfolding same_mark
ends_closed k ts = refl

members_again : (fuel : ℕ) (before ns : List Named) (rest : List Symbol) → length ns ≤ fuel → after Point rest ≡ None → members fuel before (print_members ns ++ rest) ≡ Some (before ++ ns, rest)
unfolding members
members_again zero before [] rest le h = ap (λ (ns : List Named). Some (ns, rest)) (sym (append-nil before))
members_again (suc n) before [] rest le h = rw h (ap (λ (ns : List Named). Some (ns, rest)) (sym (append-nil before)))
members_again zero before (x ∷ ns) rest le h = absurd (omega arith)
members_again (suc n) before (x ∷ ns) rest le h =
    rw (step_point, step_named) (members_again n (before ++ x ∷ []) ns rest (omega arith) h ∙ ap (λ (ms : List Named). Some (ms, rest)) (append_assoc before (x ∷ []) ns))

length_members : (ns : List Named) → length ns ≤ length (print_members ns)
length_members [] = omega arith
length_members (n ∷ ns) = let h = length_members ns in omega arith

pub path_again : (turns : ℕ) (p : PathData) (rest : List Symbol) → after Point rest ≡ None → length (print_path p ++ rest) ≤ turns → path_from turns p.first (print_members p.members ++ rest) ≡ Some (p, rest)
unfolding path_from
path_again turns p rest h len =
    let enough : length p.members ≤ turns = omega (arith, length_members p.members, length-append (print_members p.members) rest) in
    rw (members_again turns [] p.members rest enough h) refl

not_hash : (ns : List Named) (rest : List Symbol) → after Hash rest ≡ None → after Hash (print_members ns ++ rest) ≡ None
unfolding after same_mark
not_hash [] rest h = h
not_hash (n ∷ ns) rest h = refl

members_unopened : (ns : List Named) (rest : List Symbol) → opened rest ≡ None → opened (print_members ns ++ rest) ≡ None
unfolding opened
members_unopened [] rest h = h
members_unopened (n ∷ ns) rest h = refl

-- ---- literals

pub constant_again : (l : Literal) (rest : List Symbol) → constant (print_literal l ++ rest) ≡ Some (l, rest)
unfolding constant typed typed_value minus numbered after same_mark
constant_again (literals.Number value at) rest = refl
constant_again (literals.Truth value at) rest = refl
constant_again (literals.TypedNumber kind at None value value_at) rest = refl
constant_again (literals.TypedNumber kind at (Some minus_at) value value_at) rest = refl
constant_again (literals.TypedTruth kind at value value_at) rest = refl

literal_again : (turns : ℕ) (inner : Read Tree) (l : Literal) (rest : List Symbol) → primary turns inner (print_literal l ++ rest) ≡ Some (literal l, rest)
unfolding primary
literal_again turns inner (literals.Number value at) rest = rw (constant_again (literals.Number value at) rest) refl
literal_again turns inner (literals.Truth value at) rest = rw (constant_again (literals.Truth value at) rest) refl
literal_again turns inner (literals.TypedNumber kind at m value value_at) rest = rw (constant_again (literals.TypedNumber kind at m value value_at) rest) refl
literal_again turns inner (literals.TypedTruth kind at value value_at) rest = rw (constant_again (literals.TypedTruth kind at value value_at) rest) refl

-- ---- levels

module _ (turns : ℕ) where
  levelled-suc : (inner : Read Tree) (k : ℕ) (ts : List Symbol)
      → levelled turns inner (suc k) ts ≡ (levelled turns inner k ts >>= λ e. links (levelled turns inner k) (suc k) turns no_links e.1 >>= λ ls. Some (joined e.0 ls.0, ls.1))
  unfolding levelled
  levelled-suc inner k ts = refl

  -- links end where no operator of their level follows
  links-end : (operand : Read Tree) (k n : ℕ) (before : Links) (rest : List Symbol) → operator_of k rest ≡ None → links operand k n before rest ≡ Some (before, rest)
  unfolding links
  links-end operand k zero before rest h = refl
  links-end operand k (suc n) before rest h = rw h refl

  -- what is read at a level is read at a looser one
  lift : (inner : Read Tree) (j k : ℕ) (ts rest : List Symbol) (t : Tree) → j ≤ k → goes_on k rest ≡ false → levelled turns inner j ts ≡ Some (t, rest) → levelled turns inner k ts ≡ Some (t, rest)
  lift inner j zero ts rest t le h e = let same : j ≡ 0 = omega arith in subst (λ (i : ℕ). levelled turns inner i ts ≡ Some (t, rest)) same e
  lift inner j (suc k) ts rest t le h e =
      elim (cases_lt k j) [
        | inl lt ↦ (let same : j ≡ suc k = omega arith in subst (λ (i : ℕ). levelled turns inner i ts ≡ Some (t, rest)) same e)
        | inr below ↦ levelled-suc inner k ts ∙ rw (lift inner j k ts rest t below (goes_on-below (suc k) k rest (omega arith) h) e, links-end (levelled turns inner k) (suc k) turns no_links rest (no_operator (suc k) (suc k) rest (omega arith) h)) refl
      ]

abbrev count : Links → ℕ
count no_links = 0
count (link o at e ls) = suc (count ls)

count-le : (ls : Links) → count ls ≤ length (print_links ls)
count-le no_links = omega arith
count-le (link o at e ls) = let h = count-le ls in omega (arith, length-append (print e) (print_links ls))

-- operands of a level end before the next operator of the level above
operand_ends : (ls : Links) (k d : ℕ) (rest : List Symbol) → LinksFit ls (suc k) d → goes_on (suc k) rest ≡ false → goes_on k (print_links ls ++ rest) ≡ false
operand_ends no_links k d rest fits h = goes_on-below (suc k) k rest (omega arith) h
operand_ends (link o at e ls) k d rest fits h = lt-leb (level_of o) k (omega (arith, fits.0))

-- ---- the round trip

module _ (turns : ℕ) where
  abbrev inner : ℕ → Read Tree
  inner d = inside turns d

  abbrev First : Tree → Type 0
  First t = (d : ℕ) (rest : List Symbol) → Fits t d → goes_on 0 rest ≡ false → length (print t ++ rest) ≤ turns → primary turns (inner d) (print t ++ rest) ≡ Some (t, rest)

  abbrev Whole : Tree → Type 0
  Whole t = (d k : ℕ) (rest : List Symbol) → Fits t d → level t ≤ k → goes_on k rest ≡ false → length (print t ++ rest) ≤ turns → levelled turns (inner d) k (print t ++ rest) ≡ Some (t, rest)

  pub record Again (t : Tree) : Type 0 where
    -- as the operand of a unary operator
    pub first : (d : ℕ) (rest : List Symbol) → IsPrimary t → Fits t d → goes_on 0 rest ≡ false → length (print t ++ rest) ≤ turns → primary turns (inner d) (print t ++ rest) ≡ Some (t, rest)
    -- at each level that is loose enough
    pub whole : (d k : ℕ) (rest : List Symbol) → Fits t d → level t ≤ k → goes_on k rest ≡ false → length (print t ++ rest) ≤ turns → levelled turns (inner d) k (print t ++ rest) ≡ Some (t, rest)

  LinksAgain : Links → Type 0
  LinksAgain ls = (d k n : ℕ) (before : Links) (rest : List Symbol) → LinksFit ls (suc k) d → goes_on (suc k) rest ≡ false → count ls ≤ n → length (print_links ls ++ rest) ≤ turns
      → links (levelled turns (inner d) k) (suc k) n before (print_links ls ++ rest) ≡ Some (join before ls, rest)

  -- a primary is one at level 0, and at each other level
  level-signed : (d : ℕ) (ts : List Symbol) → sign ts ≡ None → levelled turns (inner d) zero ts ≡ primary turns (inner d) ts
  unfolding levelled signed
  level-signed d ts h = rw h refl

  alone : (t : Tree) → level t ≡ 0 → ((rest : List Symbol) → sign (print t ++ rest) ≡ None) → First t → Again t
  alone t low unsigned first = record {
    first = λ d rest is fits h len. first d rest fits h len;
    whole = λ d k rest fits le h len.
        lift turns (inner d) 0 k (print t ++ rest) rest t (omega arith) h (level-signed d (print t ++ rest) (unsigned rest) ∙ first d rest fits (goes_on-below k 0 rest (omega arith) h) len);
  }

  again_path : (p : PathData) → First (path p)
  unfolding primary referred called
  again_path p d rest fits h len = rw (not_hash p.members rest (no_hash 0 rest h), members_unopened p.members rest (not_opened 0 rest h), path_again turns p rest (no_point 0 rest h) len) refl

  again_enumerator : (n v : Named) → First (enumerator n v)
  unfolding primary referred named after same_mark
  again_enumerator n v d rest fits h len = refl

  inside-suc : (d : ℕ) (ts : List Symbol) → inside turns (suc d) ts ≡ levelled turns (inside turns d) 7 ts
  unfolding inside
  inside-suc d ts = refl

  again_paren : (at : ℕ) (e : Tree) → Again e → First (paren at e)
  unfolding primary
  again_paren at e a zero rest fits h len = absurd fits
  again_paren at e a (suc d) rest fits h len =
      let shape : (print e ++ mark Close ∷ []) ++ rest ≡ print e ++ mark Close ∷ rest = append_assoc (print e) (mark Close ∷ []) rest in
      let shorter : length (print e ++ mark Close ∷ rest) ≤ turns = omega (arith, ap length shape) in
      rw (shape, inside-suc, a.whole d 7 (mark Close ∷ rest) fits (level-le e) (ends_closed 7 rest) shorter, step_close) refl

  inside_again : (e : Tree) → Again e → InsideAgain turns e
  inside_again e a d rest fits h len = inside-suc d (print e ++ rest) ∙ a.whole d 7 rest fits (level-le e) h len

  call_first : (n : Named) (at : ℕ) (args : Arguments) → CallAgain turns args → First (call n at args)
  unfolding primary referred called after opened CallAgain
  call_first n at args a d rest fits h len =
      let shape : (print_arguments args ++ mark Close ∷ []) ++ rest ≡ print_arguments args ++ mark Close ∷ rest = append_assoc (print_arguments args) (mark Close ∷ []) rest in
      let shorter : length (print_arguments args ++ mark Close ∷ rest) ≤ turns = omega (arith, ap length shape) in
      rw (shape, a d rest fits shorter) refl

  signed_again : (o : UnaryOperator) (at : ℕ) (e : Tree) (d : ℕ) (rest : List Symbol) → Again e → IsPrimary e → Fits e d → goes_on 0 rest ≡ false → length (print e ++ rest) ≤ turns
      → levelled turns (inner d) zero (unary_symbol o at ∷ (print e ++ rest)) ≡ Some (unary o at e, rest)
  unfolding levelled signed sign
  signed_again signs.Minus at e d rest a is fits h len = rw (a.first d rest is fits h len) refl
  signed_again signs.Not at e d rest a is fits h len = rw (a.first d rest is fits h len) refl

  again_unary : (o : UnaryOperator) (at : ℕ) (e : Tree) → Again e → Again (unary o at e)
  again_unary o at e a = record {
    first = λ d rest is fits h len. absurd is;
    whole = λ d k rest fits le h len.
        lift turns (inner d) 0 k (print (unary o at e) ++ rest) rest (unary o at e) (omega arith) h (signed_again o at e d rest a fits.0 fits.1 (goes_on-below k 0 rest (omega arith) h) (omega arith));
  }

  links_none : LinksAgain no_links
  unfolding LinksAgain
  links_none d k n before rest fits h le len =
      links-end turns (levelled turns (inner d) k) (suc k) n before rest (no_operator (suc k) (suc k) rest (omega arith) h) ∙ ap (λ (ls : Links). Some (ls, rest)) (sym (join-none before))

  links_more : (o : Operator) (at : ℕ) (e : Tree) (ls : Links) → Again e → LinksAgain ls → LinksAgain (link o at e ls)
  unfolding links LinksAgain
  links_more o at e ls a als d k zero before rest fits h le len = absurd (omega arith)
  links_more o at e ls a als d k (suc n) before rest fits h le len =
      let behind : List Symbol = print_links ls ++ rest in
      let shape : print_links (link o at e ls) ++ rest ≡ operator o at ∷ (print e ++ behind) = ap (λ (ts : List Symbol). operator o at ∷ ts) (append_assoc (print e) (print_links ls) rest) in
      let longer : length (print e ++ behind) ≤ turns = omega (arith, ap length shape) in
      let shorter : length behind ≤ turns = omega (arith, length-append (print e) behind) in
      let operand : levelled turns (inner d) k (print e ++ behind) ≡ Some (e, behind) = a.whole d k behind fits.2 (omega (arith, fits.1)) (operand_ends ls k d rest fits.3 h) longer in
      rw (shape, operator-here (suc k) o at (print e ++ behind) fits.0, operand)
      (als d k n (add_link before o at e) rest fits.3 h (omega arith) shorter ∙ ap (λ (x : Links). Some (x, rest)) (join-add before o at e ls))

  chain_again : (e : Tree) (o : Operator) (at : ℕ) (f : Tree) (ls : Links) → Again e → LinksAgain (link o at f ls) → Whole (chain e (link o at f ls))
  unfolding LinksAgain
  chain_again e o at f ls a b d k rest fits le h len =
      let all : Links = link o at f ls in
      let j : ℕ = level_of o - 1 in
      let is : level_of o ≡ suc (level_of o - 1) = omega (arith, level_of-within o) in
      let behind : List Symbol = print_links (link o at f ls) ++ rest in
      let shape : print (chain e (link o at f ls)) ++ rest ≡ print e ++ (print_links (link o at f ls) ++ rest) = append_assoc (print e) (print_links (link o at f ls)) rest in
      let longer : length (print e ++ (print_links (link o at f ls) ++ rest)) ≤ turns = omega (arith, ap length shape) in
      let shorter : length (print_links (link o at f ls) ++ rest) ≤ turns = omega (arith, length-append (print e) (print_links (link o at f ls) ++ rest)) in
      let enough : count (link o at f ls) ≤ turns = omega (arith, count-le (link o at f ls), length-append (print_links (link o at f ls)) rest) in
      let here : goes_on (level_of o - 1) (print_links (link o at f ls) ++ rest) ≡ false = lt-leb (level_of o) (level_of o - 1) (omega arith) in
      let low : goes_on (suc (level_of o - 1)) rest ≡ false = goes_on-below k (suc (level_of o - 1)) rest (omega arith) h in
      let fit : LinksFit (link o at f ls) (suc (level_of o - 1)) d = (is, omega (arith, fits.2), fits.3, subst (λ (i : ℕ). LinksFit ls i d) is fits.4) in
      let first : levelled turns (inner d) (level_of o - 1) (print e ++ (print_links (link o at f ls) ++ rest)) ≡ Some (e, print_links (link o at f ls) ++ rest) =
      a.whole d (level_of o - 1) (print_links (link o at f ls) ++ rest) fits.1 (omega (arith, fits.0)) here longer in
      let others : links (levelled turns (inner d) (level_of o - 1)) (suc (level_of o - 1)) turns no_links (print_links (link o at f ls) ++ rest) ≡ Some (link o at f ls, rest) =
      b d (level_of o - 1) turns no_links rest fit low enough shorter in
      let own : levelled turns (inner d) (suc (level_of o - 1)) (print (chain e (link o at f ls)) ++ rest) ≡ Some (chain e (link o at f ls), rest) =
      ap (levelled turns (inner d) (suc (level_of o - 1))) shape ∙ levelled-suc turns (inner d) (level_of o - 1) (print e ++ (print_links (link o at f ls) ++ rest)) ∙ rw (first, others) refl in
      lift turns (inner d) (suc (level_of o - 1)) k (print (chain e (link o at f ls)) ++ rest) rest (chain e (link o at f ls)) (omega arith) h own

  again_chain : (e : Tree) (ls : Links) → Again e → LinksAgain ls → Again (chain e ls)
  again_chain e no_links a b = record {
    first = λ d rest is fits h len. absurd is;
    whole = λ d k rest fits le h len. absurd fits;
  }
  again_chain e (link o at f ls) a b = record {
    first = λ d rest is fits h len. absurd is;
    whole = chain_again e o at f ls a b;
  }

  literal_unsigned : (l : Literal) (rest : List Symbol) → sign (print_literal l ++ rest) ≡ None
  unfolding sign
  literal_unsigned (literals.Number value at) rest = refl
  literal_unsigned (literals.Truth value at) rest = refl
  literal_unsigned (literals.TypedNumber kind at m value value_at) rest = refl
  literal_unsigned (literals.TypedTruth kind at value value_at) rest = refl

  path_unsigned : (p : PathData) (rest : List Symbol) → sign (print_path p ++ rest) ≡ None
  unfolding sign
  path_unsigned p rest = refl

  enumerator_unsigned : (n v : Named) (rest : List Symbol) → sign (print (enumerator n v) ++ rest) ≡ None
  unfolding sign
  enumerator_unsigned n v rest = refl

  paren_unsigned : (at : ℕ) (e : Tree) (rest : List Symbol) → sign (print (paren at e) ++ rest) ≡ None
  unfolding sign
  paren_unsigned at e rest = refl

  call_unsigned : (n : Named) (at : ℕ) (args : Arguments) (rest : List Symbol) → sign (print (call n at args) ++ rest) ≡ None
  unfolding sign
  call_unsigned n at args rest = refl

  again_call : (n : Named) (at : ℕ) (args : Arguments) → CallAgain turns args → Again (call n at args)
  again_call n at args a = alone (call n at args) refl (call_unsigned n at args) (call_first n at args a)

  mutual
    pub again : (t : Tree) → Again t
    again (literal l) = alone (literal l) refl (literal_unsigned l) (λ d rest fits h len. literal_again turns (inner d) l rest)
    again (path p) = alone (path p) refl (path_unsigned p) (again_path p)
    again (enumerator n v) = alone (enumerator n v) refl (enumerator_unsigned n v) (again_enumerator n v)
    again (paren at e) = alone (paren at e) refl (paren_unsigned at e) (again_paren at e (again e))
    again (unary o at e) = again_unary o at e (again e)
    again (chain e ls) = again_chain e ls (again e) (again_links ls)
    again (call n at no_arguments) = again_call n at no_arguments (call_none turns)
    again (call n at (argument m e args)) = again_call n at (argument m e args) (call_some turns m e args (inside_again e (again e)) (again_arguments args))

    again_links : (ls : Links) → LinksAgain ls
    again_links no_links = links_none
    again_links (link o at e ls) = links_more o at e ls (again e) (again_links ls)

    again_arguments : (args : Arguments) → ArgumentsAgain turns args
    again_arguments no_arguments = arguments_none turns
    again_arguments (argument n e args) = arguments_more turns n e args (inside_again e (again e)) (again_arguments args)

-- a fitting tree's print is read as that tree
pub expression_again : (turns : ℕ) (t : Tree) (d : ℕ) (rest : List Symbol) → Fits t d → goes_on 7 rest ≡ false → length (print t ++ rest) ≤ turns → expression turns d (print t ++ rest) ≡ Some (t, rest)
unfolding expression
expression_again turns t d rest fits h len = (again turns t).whole d 7 rest fits (level-le t) h len
