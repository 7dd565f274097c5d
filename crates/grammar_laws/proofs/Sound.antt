-- What is read is a fitting tree that prints the symbols that were taken.
use Rattle.std.proofs.Common.{◌≡◌, ℕ, zero, suc, ◌≤◌, List, [], ◌∷◌, ◌++◌, Option, Some, None, refl, sym, ap, subst, ◌∙◌, append_assoc, arith}
use Rattle.std.proofs.lemmas.List.{append-nil}
use Rattle.plc_types.specs.declared.elementary.Elementary.{Elementary}
use Rattle.plc_types.specs.declared.operator.Operator.{Operator}
use Rattle.plc_types.specs.declared.operator.Operator.TheVariants.{Minus}
use Rattle.source_tree.specs.declared.token.Mark.TheVariants.{Close, Point, Hash}
use Rattle.plc_types.specs.declared.operator.UnaryOperator.{UnaryOperator}
use Rattle.source_tree.specs.declared.syntax.Literal.{Literal}
use Rattle.source_tree.specs.declared.syntax.Literal.TheVariants as literals
use Rattle.source_tree.specs.Syntax.{Symbol, name, number, truth, elementary, operator, opening, mark, Named, PathData, Tree, literal, path, enumerator, paren, unary, chain, call, Links, no_links, link, Arguments}
use Rattle.source_tree.specs.Prints.{name_symbol, unary_symbol, print_members, print_path, print_literal, print, print_links, print_arguments}
use Rattle.source_tree.specs.Levels.{level, IsPrimary}
use Rattle.grammar.specs.Reading.{Read, ◌>>=◌, after, named, numbered, minus, opened, operator_of, sign}
use Rattle.grammar.specs.Fits.{Fits, LinksFit}
use Rattle.grammar.specs.Expressions.{typed_value, typed_or, typed, constant, members_step, members, path_from, arguments, called_or, called, referred_or, referred, primary, signed_or, signed, add_link, links_step, links, joined, levelled, inside, expression}
use Rattle.grammar_laws.proofs.Steps.{bind_some, some_is, after_is, named_is, numbered_is, minus_is, opened_is, operator_of_is, sign_is}
use Rattle.grammar_laws.proofs.ArgumentsSound.{InsideIs, printed, fits_paren, arguments_are}

-- ---- literals

abbrev LiteralIs : List Symbol → Literal × List Symbol → Type 0
LiteralIs ts found = ts ≡ print_literal found.0 ++ found.1

abbrev TypedIs : Elementary → ℕ → List Symbol → Literal × List Symbol → Type 0
TypedIs kind at ts found = elementary kind at ∷ mark Hash ∷ ts ≡ print_literal found.0 ++ found.1

typed_value_is : (kind : Elementary) (at : ℕ) (ts : List Symbol) (found : Literal × List Symbol) → typed_value kind at ts ≡ Some found → TypedIs kind at ts found
unfolding typed_value
typed_value_is kind at (number v p ∷ ts) found e = subst (TypedIs kind at (number v p ∷ ts)) (some_is (literals.TypedNumber kind at None v p, ts) found e) refl
typed_value_is kind at (truth v p ∷ ts) found e = subst (TypedIs kind at (truth v p ∷ ts)) (some_is (literals.TypedTruth kind at v p, ts) found e) refl
typed_value_is kind at ts found e = absurd cc

typed_go : (kind : Elementary) (at : ℕ) (ts : List Symbol) (found : Literal × List Symbol) (o : Option (ℕ × List Symbol)) → minus ts ≡ o → typed_or kind at ts o ≡ Some found → TypedIs kind at ts found
typed_go kind at ts found None is e = typed_value_is kind at ts found e
typed_go kind at ts found (Some (place, next)) is e =
    let a = bind_some (numbered next) (λ (n : (ℕ × ℕ) × List Symbol). Some (literals.TypedNumber kind at (Some place) n.0.0 n.0.1, n.1)) found e in
    let all : ts ≡ operator Minus place ∷ number a.0.0.0 a.0.0.1 ∷ a.0.1 = minus_is ts place next is ∙ ap (λ (r : List Symbol). operator Minus place ∷ r) (numbered_is next a.0.0.0 a.0.0.1 a.0.1 a.1) in
    subst (TypedIs kind at ts) (some_is (literals.TypedNumber kind at (Some place) a.0.0.0 a.0.0.1, a.0.1) found a.2) (ap (λ (r : List Symbol). elementary kind at ∷ mark Hash ∷ r) all)

typed_is : (kind : Elementary) (at : ℕ) (ts : List Symbol) (found : Literal × List Symbol) → typed kind at ts ≡ Some found → LiteralIs (elementary kind at ∷ ts) found
unfolding typed
typed_is kind at ts found e =
    let a = bind_some (after Hash ts) (λ (rest : List Symbol). typed_or kind at rest (minus rest)) found e in
    ap (λ (r : List Symbol). elementary kind at ∷ r) (after_is Hash ts a.0 a.1) ∙ typed_go kind at a.0 found (minus a.0) refl a.2

pub constant_is : (ts : List Symbol) (found : Literal × List Symbol) → constant ts ≡ Some found → LiteralIs ts found
unfolding constant
constant_is (number v at ∷ ts) found e = subst (LiteralIs (number v at ∷ ts)) (some_is (literals.Number v at, ts) found e) refl
constant_is (truth v at ∷ ts) found e = subst (LiteralIs (truth v at ∷ ts)) (some_is (literals.Truth v at, ts) found e) refl
constant_is (elementary kind at ∷ ts) found e = typed_is kind at ts found e
constant_is ts found e = absurd cc

-- ---- paths

abbrev MembersAre : List Named → List Symbol → List Named → List Symbol → Type 0
MembersAre before ts ns rest = (extra : List Named) × (ns ≡ before ++ extra) × (ts ≡ print_members extra ++ rest)

members_stop : (before : List Named) (ts : List Symbol) (ns : List Named) (rest : List Symbol) → (let o : Option (List Named × List Symbol) = Some (before, ts) in o) ≡ Some (ns, rest) → MembersAre before ts ns rest
members_stop before ts ns rest e =
    let p = some_is (before, ts) (ns, rest) e in ([], sym (ap (λ (x : List Named × List Symbol). x.0) p) ∙ sym (append-nil before), ap (λ (x : List Named × List Symbol). x.1) p)

members_go : (n : ℕ) (before : List Named) (ts : List Symbol) (ns : List Named) (rest : List Symbol) (o : Option (List Symbol)) → after Point ts ≡ o → members_step (members n) before ts o ≡ Some (ns, rest)
    → ((before : List Named) (ts : List Symbol) → members n before ts ≡ Some (ns, rest) → MembersAre before ts ns rest) → MembersAre before ts ns rest
members_go n before ts ns rest None is e below = members_stop before ts ns rest e
members_go n before ts ns rest (Some next) is e below =
    let a = bind_some (named next) (λ (m : Named × List Symbol). members n (before ++ m.0 ∷ []) m.1) (ns, rest) e in
    let b = below (before ++ a.0.0 ∷ []) a.0.1 a.2 in
    (a.0.0 ∷ b.0, b.1 ∙ append_assoc before (a.0.0 ∷ []) b.0, after_is Point ts next is ∙ ap (λ (x : List Symbol). mark Point ∷ x) (named_is next a.0.0 a.0.1 a.1 ∙ ap (λ (x : List Symbol). name_symbol a.0.0 ∷ x) b.2))

members_are : (n : ℕ) (before : List Named) (ts : List Symbol) (ns : List Named) (rest : List Symbol) → members n before ts ≡ Some (ns, rest) → MembersAre before ts ns rest
unfolding members
members_are zero before ts ns rest e = members_stop before ts ns rest e
members_are (suc n) before ts ns rest e = members_go n before ts ns rest (after Point ts) refl e (λ before ts e. members_are n before ts ns rest e)

pub path_from_is : (turns : ℕ) (n : Named) (ts : List Symbol) (found : PathData × List Symbol) → path_from turns n ts ≡ Some found → name_symbol n ∷ ts ≡ print_path found.0 ++ found.1
unfolding path_from
path_from_is turns n ts found e =
    let a = bind_some (members turns [] ts) (λ (ns : List Named × List Symbol). Some (record { first = n; members = ns.0 }, ns.1)) found e in
    let m = members_are turns [] ts a.0.0 a.0.1 a.1 in
    let here : name_symbol n ∷ ts ≡ name_symbol n ∷ (print_members a.0.0 ++ a.0.1) = ap (λ (r : List Symbol). name_symbol n ∷ r) (m.2 ∙ ap (λ (ns : List Named). print_members ns ++ a.0.1) (sym m.1)) in
    subst (λ (x : PathData × List Symbol). name_symbol n ∷ ts ≡ print_path x.0 ++ x.1) (some_is (record { first = n; members = a.0.0 }, a.0.1) found a.2) here

-- ---- links

abbrev pub join : Links → Links → Links
join no_links ys = ys
join (link o at e xs) ys = link o at e (join xs ys)

pub join-none : (xs : Links) → join xs no_links ≡ xs
join-none no_links = refl
join-none (link o at e xs) = ap (link o at e) (join-none xs)

pub join-add : (xs : Links) (o : Operator) (at : ℕ) (e : Tree) (ys : Links) → join (add_link xs o at e) ys ≡ join xs (link o at e ys)
join-add no_links o at e ys = refl
join-add (link p place f xs) o at e ys = ap (link p place f) (join-add xs o at e ys)

module _ (turns d : ℕ) (inner : Read Tree) (sound : (ts : List Symbol) (t : Tree) (rest : List Symbol) → inner ts ≡ Some (t, rest) → InsideIs d ts t rest) where
  -- ---- primaries

  record PrimaryIs (ts : List Symbol) (t : Tree) (rest : List Symbol) : Type 0 where
    parts : ts ≡ print t ++ rest
    fits : Fits t d
    is : IsPrimary t

  moved : (ts : List Symbol) (x y : Tree × List Symbol) → x ≡ y → PrimaryIs ts x.0 x.1 → PrimaryIs ts y.0 y.1
  moved ts x y e p = subst (λ (z : Tree × List Symbol). PrimaryIs ts z.0 z.1) e p

  called_go : (n : Named) (ts : List Symbol) (t : Tree) (rest : List Symbol) (o : Option (ℕ × List Symbol)) → opened ts ≡ o → called_or turns inner n ts o ≡ Some (t, rest) → PrimaryIs (name_symbol n ∷ ts) t rest
  called_go n ts t rest None is e =
      let a = bind_some (path_from turns n ts) (λ (p : PathData × List Symbol). Some (path p.0, p.1)) (t, rest) e in
      moved (name_symbol n ∷ ts) (path a.0.0, a.0.1) (t, rest) (some_is (path a.0.0, a.0.1) (t, rest) a.2) (record { parts = path_from_is turns n ts a.0 a.1; fits = tt; is = tt })
  called_go n ts t rest (Some (at, next)) is e =
      let a = bind_some (arguments turns inner next) (λ (args : Arguments × List Symbol). Some (call n at args.0, args.1)) (t, rest) e in
      let f = arguments_are turns d inner sound next a.0 a.1 in
      let all : ts ≡ opening at ∷ ((print_arguments a.0.0 ++ mark Close ∷ []) ++ a.0.1) = opened_is ts at next is ∙ ap (λ (r : List Symbol). opening at ∷ r) (f.0 ∙ sym (append_assoc (print_arguments a.0.0) (mark Close ∷ []) a.0.1)) in
      moved (name_symbol n ∷ ts) (call n at a.0.0, a.0.1) (t, rest) (some_is (call n at a.0.0, a.0.1) (t, rest) a.2) (record { parts = ap (λ (r : List Symbol). name_symbol n ∷ r) all; fits = f.1; is = tt })

  called_is : (n : Named) (ts : List Symbol) (t : Tree) (rest : List Symbol) → called turns inner n ts ≡ Some (t, rest) → PrimaryIs (name_symbol n ∷ ts) t rest
  unfolding called
  called_is n ts t rest e = called_go n ts t rest (opened ts) refl e

  referred_go : (n : Named) (ts : List Symbol) (t : Tree) (rest : List Symbol) (o : Option (List Symbol)) → after Hash ts ≡ o → referred_or turns inner n ts o ≡ Some (t, rest) → PrimaryIs (name_symbol n ∷ ts) t rest
  referred_go n ts t rest None is e = called_is n ts t rest e
  referred_go n ts t rest (Some next) is e =
      let a = bind_some (named next) (λ (v : Named × List Symbol). Some (enumerator n v.0, v.1)) (t, rest) e in
      let all : ts ≡ mark Hash ∷ name_symbol a.0.0 ∷ a.0.1 = after_is Hash ts next is ∙ ap (λ (r : List Symbol). mark Hash ∷ r) (named_is next a.0.0 a.0.1 a.1) in
      moved (name_symbol n ∷ ts) (enumerator n a.0.0, a.0.1) (t, rest) (some_is (enumerator n a.0.0, a.0.1) (t, rest) a.2) (record { parts = ap (λ (r : List Symbol). name_symbol n ∷ r) all; fits = tt; is = tt })

  referred_is : (n : Named) (ts : List Symbol) (t : Tree) (rest : List Symbol) → referred turns inner n ts ≡ Some (t, rest) → PrimaryIs (name_symbol n ∷ ts) t rest
  unfolding referred
  referred_is n ts t rest e = referred_go n ts t rest (after Hash ts) refl e

  literal_is : (ts : List Symbol) (t : Tree) (rest : List Symbol) → ◌>>=◌ {B = Tree × List Symbol} (constant ts) (λ l. Some (literal l.0, l.1)) ≡ Some (t, rest) → PrimaryIs ts t rest
  literal_is ts t rest e =
      let a = bind_some (constant ts) (λ (l : Literal × List Symbol). Some (literal l.0, l.1)) (t, rest) e in
      moved ts (literal a.0.0, a.0.1) (t, rest) (some_is (literal a.0.0, a.0.1) (t, rest) a.2) (record { parts = constant_is ts a.0 a.1; fits = tt; is = tt })

  primary_is : (ts : List Symbol) (t : Tree) (rest : List Symbol) → primary turns inner ts ≡ Some (t, rest) → PrimaryIs ts t rest
  unfolding primary
  primary_is (name x at ∷ ts) t rest e = referred_is (record { text = x; at = at }) ts t rest e
  primary_is (opening at ∷ ts) t rest e =
      let a = bind_some (inner ts) (λ (x : Tree × List Symbol). after Close x.1 >>= λ (r : List Symbol). Some (paren at x.0, r)) (t, rest) e in
      let b = bind_some (after Close a.0.1) (λ (r : List Symbol). Some (paren at a.0.0, r)) (t, rest) a.2 in
      let i = sound ts a.0.0 a.0.1 a.1 in
      moved (opening at ∷ ts) (paren at a.0.0, b.0) (t, rest) (some_is (paren at a.0.0, b.0) (t, rest) b.2) (record {
        parts = ap (λ (r : List Symbol). opening at ∷ r) (printed d ts a.0.0 a.0.1 i ∙ ap (λ (r : List Symbol). print a.0.0 ++ r) (after_is Close a.0.1 b.0 b.1) ∙ sym (append_assoc (print a.0.0) (mark Close ∷ []) b.0));
        fits = fits_paren d at ts a.0.0 a.0.1 i;
        is = tt;
      })
  primary_is ts t rest e = literal_is ts t rest e

  -- ---- levels

  record LevelIs (k : ℕ) (ts : List Symbol) (t : Tree) (rest : List Symbol) : Type 0 where
    parts : ts ≡ print t ++ rest
    fits : Fits t d
    low : level t ≤ k

  primary_low : (t : Tree) → IsPrimary t → level t ≤ 0
  primary_low (literal l) is = omega arith
  primary_low (path p) is = omega arith
  primary_low (enumerator n v) is = omega arith
  primary_low (paren at e) is = omega arith
  primary_low (unary o at e) is = absurd is
  primary_low (chain e ls) is = absurd is
  primary_low (call n at args) is = omega arith

  signed_go : (ts : List Symbol) (t : Tree) (rest : List Symbol) (o : Option ((UnaryOperator × ℕ) × List Symbol)) → sign ts ≡ o → signed_or turns inner ts o ≡ Some (t, rest) → LevelIs 0 ts t rest
  signed_go ts t rest None is e = let p = primary_is ts t rest e in record { parts = p.parts; fits = p.fits; low = primary_low t p.is }
  signed_go ts t rest (Some ((o, at), next)) is e =
      let a = bind_some (primary turns inner next) (λ (x : Tree × List Symbol). Some (unary o at x.0, x.1)) (t, rest) e in
      let p = primary_is next a.0.0 a.0.1 a.1 in
      subst (λ (z : Tree × List Symbol). LevelIs 0 ts z.0 z.1) (some_is (unary o at a.0.0, a.0.1) (t, rest) a.2)
      (record { parts = sign_is ts o at next is ∙ ap (λ (r : List Symbol). unary_symbol o at ∷ r) p.parts; fits = (p.is, p.fits); low = omega arith })

  -- operands of this level or tighter
  abbrev IsSoundLevel : ℕ → Read Tree → Type 0
  IsSoundLevel k operand = (ts : List Symbol) (t : Tree) (rest : List Symbol) → operand ts ≡ Some (t, rest) → LevelIs k ts t rest

  record LinksAre (k : ℕ) (before : Links) (ts : List Symbol) (ls : Links) (rest : List Symbol) : Type 0 where
    extra : Links
    all : ls ≡ join before extra
    parts : ts ≡ print_links extra ++ rest
    fits : LinksFit extra k d

  links_stop : (k : ℕ) (before : Links) (ts : List Symbol) (ls : Links) (rest : List Symbol) → (let o : Option (Links × List Symbol) = Some (before, ts) in o) ≡ Some (ls, rest) → LinksAre k before ts ls rest
  links_stop k before ts ls rest e =
      let p = some_is (before, ts) (ls, rest) e in
      record { extra = no_links; all = sym (ap (λ (x : Links × List Symbol). x.0) p) ∙ sym (join-none before); parts = ap (λ (x : Links × List Symbol). x.1) p; fits = tt }

  links_go : (operand : Read Tree) (k n : ℕ) (before : Links) (ts : List Symbol) (ls : Links) (rest : List Symbol) (o : Option ((Operator × ℕ) × List Symbol))
      → IsSoundLevel k operand → operator_of (suc k) ts ≡ o → links_step operand (links operand (suc k) n) before ts o ≡ Some (ls, rest)
      → ((before : Links) (ts : List Symbol) → links operand (suc k) n before ts ≡ Some (ls, rest) → LinksAre (suc k) before ts ls rest)
      → LinksAre (suc k) before ts ls rest
  links_go operand k n before ts ls rest None sound_operand is e below = links_stop (suc k) before ts ls rest e
  links_go operand k n before ts ls rest (Some ((o, at), next)) sound_operand is e below =
      let a = bind_some (operand next) (λ (x : Tree × List Symbol). links operand (suc k) n (add_link before o at x.0) x.1) (ls, rest) e in
      let r = sound_operand next a.0.0 a.0.1 a.1 in
      let w = operator_of_is (suc k) ts o at next is in
      let b = below (add_link before o at a.0.0) a.0.1 a.2 in
      let all : operator o at ∷ next ≡ operator o at ∷ ((print a.0.0 ++ print_links b.extra) ++ rest) =
      ap (λ (x : List Symbol). operator o at ∷ x) (r.parts ∙ ap (λ (x : List Symbol). print a.0.0 ++ x) b.parts ∙ sym (append_assoc (print a.0.0) (print_links b.extra) rest)) in
      record {
        extra = link o at a.0.0 b.extra;
        all = b.all ∙ join-add before o at a.0.0 b.extra;
        parts = w.0 ∙ all;
        fits = (w.1, omega (arith, r.low), r.fits, b.fits);
      }

  links_are : (operand : Read Tree) (k n : ℕ) (before : Links) (ts : List Symbol) (ls : Links) (rest : List Symbol) → IsSoundLevel k operand → links operand (suc k) n before ts ≡ Some (ls, rest) → LinksAre (suc k) before ts ls rest
  unfolding links
  links_are operand k zero before ts ls rest sound_operand e = links_stop (suc k) before ts ls rest e
  links_are operand k (suc n) before ts ls rest sound_operand e =
      links_go operand k n before ts ls rest (operator_of (suc k) ts) sound_operand refl e (λ before ts e. links_are operand k n before ts ls rest sound_operand e)

  joined_is : (k : ℕ) (ts next : List Symbol) (e : Tree) (ls : Links) (rest : List Symbol) → LevelIs k ts e next → next ≡ print_links ls ++ rest → LinksFit ls (suc k) d → LevelIs (suc k) ts (joined e ls) rest
  joined_is k ts next e no_links rest l parts fits = record { parts = l.parts ∙ ap (λ (x : List Symbol). print e ++ x) parts; fits = l.fits; low = omega (arith, l.low) }
  joined_is k ts next e (link o at f ls) rest l parts fits =
      record {
        parts = l.parts ∙ ap (λ (x : List Symbol). print e ++ x) parts ∙ sym (append_assoc (print e) (print_links (link o at f ls)) rest);
        fits = (omega (arith, l.low, fits.0), l.fits, omega (arith, fits.0, fits.1), fits.2, subst (λ (j : ℕ). LinksFit ls j d) (sym fits.0) fits.3);
        low = omega (arith, fits.0);
      }

  levelled_is : (k : ℕ) → IsSoundLevel k (levelled turns inner k)
  unfolding levelled signed
  levelled_is zero ts t rest e = signed_go ts t rest (sign ts) refl e
  levelled_is (suc k) ts t rest e =
      let a = bind_some (levelled turns inner k ts) (λ (x : Tree × List Symbol). links (levelled turns inner k) (suc k) turns no_links x.1 >>= λ (ls : Links × List Symbol). Some (joined x.0 ls.0, ls.1)) (t, rest) e in
      let b = bind_some (links (levelled turns inner k) (suc k) turns no_links a.0.1) (λ (ls : Links × List Symbol). Some (joined a.0.0 ls.0, ls.1)) (t, rest) a.2 in
      let g = links_are (levelled turns inner k) k turns no_links a.0.1 b.0.0 b.0.1 (levelled_is k) b.1 in
      let found = joined_is k ts a.0.1 a.0.0 g.extra b.0.1 (levelled_is k ts a.0.0 a.0.1 a.1) g.parts g.fits in
      subst (λ (z : Tree × List Symbol). LevelIs (suc k) ts z.0 z.1) (ap (λ (ls : Links). (joined a.0.0 ls, b.0.1)) (sym g.all) ∙ some_is (joined a.0.0 b.0.0, b.0.1) (t, rest) b.2) found

  pub level_found : (k : ℕ) (ts : List Symbol) (t : Tree) (rest : List Symbol) → levelled turns inner k ts ≡ Some (t, rest) → (ts ≡ print t ++ rest) × Fits t d
  level_found k ts t rest e = let l = levelled_is k ts t rest e in (l.parts, l.fits)

pub inside_is : (turns d : ℕ) (ts : List Symbol) (t : Tree) (rest : List Symbol) → inside turns d ts ≡ Some (t, rest) → InsideIs d ts t rest
unfolding inside
inside_is turns zero ts t rest e = absurd cc
inside_is turns (suc d) ts t rest e = level_found turns d (inside turns d) (inside_is turns d) 7 ts t rest e

-- an expression that is read
pub expression_is : (turns d : ℕ) (ts : List Symbol) (t : Tree) (rest : List Symbol) → expression turns d ts ≡ Some (t, rest) → (ts ≡ print t ++ rest) × Fits t d
unfolding expression
expression_is turns d ts t rest e = level_found turns d (inside turns d) (inside_is turns d) 7 ts t rest e
