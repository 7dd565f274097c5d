-- What is read of files prints the symbols that were taken.
use Rattle.std.proofs.Common.{◌≡◌, ℕ, zero, suc, List, [], ◌∷◌, ◌++◌, Option, Some, None, refl, sym, ap, subst, ◌∙◌, append_assoc}
use Rattle.std.proofs.lemmas.List.{append-nil}
use Rattle.source_tree.specs.declared.token.Mark.TheVariants as marks
use Rattle.source_tree.specs.declared.token.Mark.TheVariants.{EndType}
use Rattle.source_tree.specs.Syntax.{Symbol, mark, TypeDeclarationData, PouData, ItemData, types as types_item, pou as pou_item, FileData}
use Rattle.source_tree.specs.Prints.{print_types, print_item, print_file}
use Rattle.source_tree.specs.Levels.{AreTypesFormed}
use Rattle.grammar.specs.Reading.{◌>>=◌, after}
use Rattle.grammar.specs.Types.{types}
use Rattle.grammar.specs.Pous.{pou_begun}
use Rattle.grammar.specs.Files.{item_or, item, items_step, items, ended, file}
use Rattle.grammar_laws.proofs.Steps.{bind_some, some_is, after_is}
use Rattle.file_laws.proofs.TypesSound.{types_are}
use Rattle.file_laws.proofs.PouSound.{PouFits, pou_begun_is}

-- ---- files whose statements nest within a depth

abbrev pub ItemFits : ItemData → ℕ → Type 0
ItemFits (types_item ds) d = AreTypesFormed ds
ItemFits (pou_item p) d = PouFits p d

abbrev pub FileFits : FileData → ℕ → Type 0
FileFits [] d = Unit {0}
FileFits (i ∷ is) d = ItemFits i d × FileFits is d

-- how a block of types stands before others
pub types_item_shape : (ds : List TypeDeclarationData) (rest : List Symbol) → print_item (types_item ds) ++ rest ≡ mark marks.Type ∷ (print_types ds ++ mark EndType ∷ rest)
types_item_shape ds rest = ap (λ (x : List Symbol). mark marks.Type ∷ x) (append_assoc (print_types ds) (mark EndType ∷ []) rest)

module _ (turns depth : ℕ) where
  abbrev ItemIs : List Symbol → ItemData × List Symbol → Type 0
  ItemIs ts y = (ts ≡ print_item y.0 ++ y.1) × ItemFits y.0 depth

  types_item_is : (ts : List Symbol) (y : ItemData × List Symbol) → (types turns turns [] ts >>= λ ds. Some (types_item ds.0, ds.1)) ≡ Some y → ItemIs (mark marks.Type ∷ ts) y
  types_item_is ts y e =
      let a = bind_some (types turns turns [] ts) (λ (ds : List TypeDeclarationData × List Symbol). Some (types_item ds.0, ds.1)) y e in
      let d = types_are turns turns [] ts a.0 a.1 in
      let printed : ts ≡ print_types a.0.0 ++ mark EndType ∷ a.0.1 = d.2 ∙ ap (λ (x : List TypeDeclarationData). print_types x ++ mark EndType ∷ a.0.1) (sym d.1) in
      let formed : AreTypesFormed a.0.0 = subst AreTypesFormed (sym d.1) d.3 in
      let whole : ItemIs (mark marks.Type ∷ ts) (types_item a.0.0, a.0.1) = (ap (λ (x : List Symbol). mark marks.Type ∷ x) printed ∙ sym (types_item_shape a.0.0 a.0.1), formed) in
      subst (ItemIs (mark marks.Type ∷ ts)) (some_is (types_item a.0.0, a.0.1) y a.2) whole

  pou_item_is : (ts : List Symbol) (q : Option (PouData × List Symbol)) (y : ItemData × List Symbol) → pou_begun turns depth ts ≡ Some q → (q >>= λ p. Some (pou_item p.0, p.1)) ≡ Some y → ItemIs ts y
  pou_item_is ts q y is e =
      let a = bind_some q (λ (p : PouData × List Symbol). Some (pou_item p.0, p.1)) y e in
      let whole : ItemIs ts (pou_item a.0.0, a.0.1) = pou_begun_is turns depth ts q a.0 is a.1 in
      subst (ItemIs ts) (some_is (pou_item a.0.0, a.0.1) y a.2) whole

  item_go : (ts : List Symbol) (found : Option (ItemData × List Symbol)) (y : ItemData × List Symbol) (t : Option (List Symbol)) (p : Option (Option (PouData × List Symbol))) → after marks.Type ts ≡ t → pou_begun turns depth ts ≡ p
      → item_or turns depth t p ≡ Some found → found ≡ Some y → ItemIs ts y
  item_go ts found y (Some r) p type_is pou_is e f =
      subst (λ (x : List Symbol). ItemIs x y) (sym (after_is marks.Type ts r type_is)) (types_item_is r y (some_is (types turns turns [] r >>= λ ds. Some (types_item ds.0, ds.1)) found e ∙ f))
  item_go ts found y None (Some q) type_is pou_is e f = pou_item_is ts q y pou_is (some_is (q >>= λ p. Some (pou_item p.0, p.1)) found e ∙ f)
  item_go ts found y None None type_is pou_is e f = absurd cc

  item_is : (ts : List Symbol) (found : Option (ItemData × List Symbol)) (y : ItemData × List Symbol) → item turns depth ts ≡ Some found → found ≡ Some y → ItemIs ts y
  unfolding item
  item_is ts found y e f = item_go ts found y (after marks.Type ts) (pou_begun turns depth ts) refl refl e f

  abbrev ItemsAre : FileData → List Symbol → FileData × List Symbol → Type 0
  ItemsAre before ts y = (extra : FileData) × (y.0 ≡ before ++ extra) × (ts ≡ print_file extra ++ y.1) × FileFits extra depth

  items_stop : (before : FileData) (ts : List Symbol) (y : FileData × List Symbol) → (let o : Option (FileData × List Symbol) = Some (before, ts) in o) ≡ Some y → ItemsAre before ts y
  items_stop before ts y e =
      let whole : ItemsAre before ts (before, ts) = ([], sym (append-nil before), refl, tt) in
      subst (ItemsAre before ts) (some_is (before, ts) y e) whole

  items_go : (n : ℕ) (before : FileData) (ts : List Symbol) (y : FileData × List Symbol) (o : Option (Option (ItemData × List Symbol))) → item turns depth ts ≡ o → items_step turns depth (items turns depth n) before ts o ≡ Some y
      → ((before : FileData) (ts : List Symbol) → items turns depth n before ts ≡ Some y → ItemsAre before ts y) → ItemsAre before ts y
  items_go n before ts y None is e below = items_stop before ts y e
  items_go n before ts y (Some found) is e below =
      let a = bind_some found (λ (i : ItemData × List Symbol). items turns depth n (before ++ i.0 ∷ []) i.1) y e in
      let i = item_is ts found a.0 is a.1 in
      let b = below (before ++ a.0.0 ∷ []) a.0.1 a.2 in (
        a.0.0 ∷ b.0,
        b.1 ∙ append_assoc before (a.0.0 ∷ []) b.0,
        i.0 ∙ ap (λ (x : List Symbol). print_item a.0.0 ++ x) b.2 ∙ sym (append_assoc (print_item a.0.0) (print_file b.0) y.1),
        (i.1, b.3),
      )

  items_are : (n : ℕ) (before : FileData) (ts : List Symbol) (y : FileData × List Symbol) → items turns depth n before ts ≡ Some y → ItemsAre before ts y
  unfolding items
  items_are zero before ts y e = items_stop before ts y e
  items_are (suc n) before ts y e = items_go n before ts y (item turns depth ts) refl e (λ before ts e. items_are n before ts y e)

  ended_is : (found : FileData) (ts : List Symbol) (f : FileData) → ended turns depth found ts ≡ Some f → (ts ≡ []) × (found ≡ f)
  ended_is found [] f e = (refl, some_is found f e)
  ended_is found (s ∷ ts) f e = absurd cc

  pub file_is : (ts : List Symbol) (f : FileData) → file turns depth ts ≡ Some f → (ts ≡ print_file f) × FileFits f depth
  unfolding file
  file_is ts f e =
      let a = bind_some (items turns depth turns [] ts) (λ (found : FileData × List Symbol). ended turns depth found.0 found.1) f e in
      let p = items_are turns [] ts a.0 a.1 in
      let end = ended_is a.0.0 a.0.1 f a.2 in
      let same : p.0 ≡ f = sym p.1 ∙ end.1 in
      (p.2 ∙ ap (λ (x : List Symbol). print_file p.0 ++ x) end.0 ∙ append-nil (print_file p.0) ∙ ap print_file same, subst (λ (x : FileData). FileFits x depth) same p.3)
