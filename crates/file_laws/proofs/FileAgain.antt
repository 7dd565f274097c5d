-- What files print is read as those files.
use Rattle.std.proofs.Common.{◌≡◌, ℕ, zero, suc, ◌≤◌, List, [], ◌∷◌, ◌++◌, length, Some, None, refl, sym, ap, ◌∙◌, append_assoc, arith, length-append}
use Rattle.std.proofs.lemmas.List.{append-nil}
use Rattle.source_tree.specs.declared.token.Mark.TheVariants as marks
use Rattle.source_tree.specs.declared.token.Mark.TheVariants.{EndType}
use Rattle.source_tree.specs.Syntax.{Symbol, mark, TypeDeclarationData, PouData, ItemData, types as types_item, pou as pou_item, FileData}
use Rattle.source_tree.specs.Prints.{name_symbol, print_types, print_variables, print_body, end_of, print_result, print_pou, print_item, print_file}
use Rattle.grammar.specs.Marks.{same_mark}
use Rattle.grammar.specs.Reading.{after}
use Rattle.grammar.specs.Pous.{pou_begun}
use Rattle.grammar.specs.Files.{item, items, file}
use Rattle.file_laws.proofs.TypesAgain.{types_again}
use Rattle.file_laws.proofs.PouSound.{PouFits, pou_shape}
use Rattle.file_laws.proofs.PouAgain.{no_type, pou_again}
use Rattle.file_laws.proofs.FileSound.{ItemFits, FileFits, types_item_shape}

after_type : (rest : List Symbol) → after marks.Type (mark marks.Type ∷ rest) ≡ Some rest
unfolding after same_mark
after_type rest = refl

module _ (turns depth : ℕ) where
  no_item : item turns depth [] ≡ None
  unfolding item pou_begun after
  no_item = refl

  types_item_again : (ds : List TypeDeclarationData) (rest : List Symbol) → ItemFits (types_item ds) depth → length (print_types ds ++ mark EndType ∷ rest) ≤ turns
      → item turns depth (mark marks.Type ∷ (print_types ds ++ mark EndType ∷ rest)) ≡ Some (Some (types_item ds, rest))
  unfolding item
  types_item_again ds rest fits len =
      rw (after_type (print_types ds ++ mark EndType ∷ rest), types_again turns turns [] ds rest fits len len) refl

  no_types : (p : PouData) (rest : List Symbol) → after marks.Type (print_pou p ++ rest) ≡ None
  no_types p rest = ap (after marks.Type) (pou_shape p rest) ∙ no_type p.pou_type (name_symbol p.name ∷ (print_result p.pou_type ++ (print_variables p.variables ++ (print_body p.body ++ mark (end_of p.pou_type) ∷ rest))))

  pou_item_again : (p : PouData) (rest : List Symbol) → PouFits p depth → length (print_pou p ++ rest) ≤ turns → item turns depth (print_pou p ++ rest) ≡ Some (Some (pou_item p, rest))
  unfolding item
  pou_item_again p rest fits len = rw (no_types p rest, pou_again turns depth p rest fits len) refl

  item_again : (i : ItemData) (rest : List Symbol) → ItemFits i depth → length (print_item i ++ rest) ≤ turns → item turns depth (print_item i ++ rest) ≡ Some (Some (i, rest))
  item_again (types_item ds) rest fits len =
      let shape = types_item_shape ds rest in
      ap (item turns depth) shape ∙ types_item_again ds rest fits (omega (arith, ap length shape))
  item_again (pou_item p) rest fits len = pou_item_again p rest fits len

  some_symbols : (i : ItemData) → 1 ≤ length (print_item i)
  some_symbols (types_item ds) = omega arith
  some_symbols (pou_item p) = omega arith

  items_again : (n : ℕ) (before is : FileData) → FileFits is depth → length (print_file is) ≤ n → length (print_file is) ≤ turns → items turns depth n before (print_file is) ≡ Some (before ++ is, [])
  unfolding items
  items_again zero before [] fits le len = ap (λ (x : FileData). Some (x, [])) (sym (append-nil before))
  items_again zero before (i ∷ is) fits le len = absurd (omega (arith, length-append (print_item i) (print_file is), some_symbols i))
  items_again (suc n) before [] fits le len = rw no_item (ap (λ (x : FileData). Some (x, [])) (sym (append-nil before)))
  items_again (suc n) before (i ∷ is) fits le len =
      let parts = length-append (print_item i) (print_file is) in
      let less : length (print_file is) ≤ n = omega (arith, parts, some_symbols i) in
      let fewer : length (print_file is) ≤ turns = omega (arith, parts) in
      rw (item_again i (print_file is) fits.0 len)
      (items_again n (before ++ i ∷ []) is fits.1 less fewer ∙ ap (λ (x : FileData). Some (x, [])) (append_assoc before (i ∷ []) is))

  pub file_again : (f : FileData) → FileFits f depth → length (print_file f) ≤ turns → file turns depth (print_file f) ≡ Some f
  unfolding file
  file_again f fits len = rw (items_again turns [] f fits len len) refl
