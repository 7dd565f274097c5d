-- Three texts, one after the other.
use Rattle.std.proofs.Common.{◌≡◌, ◌≢◌, ◌∙◌, ℕ, List, Option, Result, Ok, Err, OnOk, sym, subst}
use Rattle.outside.specs.Contents.{OthersStay}
use Rattle.generated_texts.specs.Names.{old_name, new_name, relation_name}
use Rattle.generated_texts.specs.Texts.{old_text, new_text, relation_text}
use Rattle.generated_texts.specs.Files.{HoldsText, LeavesText, as_before, a_front, HoldTexts, LeaveTexts}
use Rattle.generated_texts.proofs.NameLemmas.{old_is_not_new, old_is_not_relation, new_is_not_relation}
use Rattle.generated_texts.proofs.SaveLemmas.{left_held}

-- a file that was as before at first
left_since : (first before after : Option (List ℕ)) (text : List ℕ) → before ≡ first → LeavesText before after text → LeavesText first after text
left_since first before after text e (as_before h) = as_before (h ∙ e)
left_since first before after text e (a_front h) = a_front h

pub on_ok : {T E : Type 0} (result : Result T E) (A B : Type 0) → (A → B) → OnOk result A → OnOk result B
on_ok (Ok v) A B f h = f h
on_ok (Err e) A B f h = tt

module _ (count : ℕ) (first one two three : List ℕ → Option (List ℕ)) where
  abbrev old : List ℕ
  old = old_name count

  abbrev new : List ℕ
  new = new_name count

  abbrev rel : List ℕ
  rel = relation_name count

  old_stays : (before after : List ℕ → Option (List ℕ)) → OthersStay before after new → after old ≡ before old
  old_stays before after h = h old (old_is_not_new count)

  old_stays_too : (before after : List ℕ → Option (List ℕ)) → OthersStay before after rel → after old ≡ before old
  old_stays_too before after h = h old (old_is_not_relation count)

  new_stays : (before after : List ℕ → Option (List ℕ)) → OthersStay before after old → after new ≡ before new
  new_stays before after h = h new (λ e. old_is_not_new count (sym e))

  new_stays_too : (before after : List ℕ → Option (List ℕ)) → OthersStay before after rel → after new ≡ before new
  new_stays_too before after h = h new (new_is_not_relation count)

  rel_stays : (before after : List ℕ → Option (List ℕ)) → OthersStay before after old → after rel ≡ before rel
  rel_stays before after h = h rel (λ e. old_is_not_relation count (sym e))

  rel_stays_too : (before after : List ℕ → Option (List ℕ)) → OthersStay before after new → after rel ≡ before rel
  rel_stays_too before after h = h rel (λ e. new_is_not_relation count (sym e))

  held_still : (a b : Option (List ℕ)) (text : List ℕ) → b ≡ a → HoldsText a text → HoldsText b text
  held_still a b text e h = subst (λ o. HoldsText o text) (sym e) h

  -- the first of them was tried
  pub after_one : LeavesText (first old) (one old) (old_text count) → OthersStay first one old → LeaveTexts count first one
  after_one l o = record { old = l; new = as_before (new_stays first one o); relation = as_before (rel_stays first one o) }

  -- the first is saved, and the second was tried
  pub after_two : HoldsText (one old) (old_text count) → OthersStay first one old → LeavesText (one new) (two new) (new_text count) → OthersStay one two new → LeaveTexts count first two
  after_two h o l p = record {
    old = left_held (first old) (two old) (old_text count) (held_still (one old) (two old) (old_text count) (old_stays one two p) h);
    new = left_since (first new) (one new) (two new) (new_text count) (new_stays first one o) l;
    relation = as_before (rel_stays_too one two p ∙ rel_stays first one o);
  }

  -- both are saved, and the third was tried
  pub after_three : HoldsText (one old) (old_text count) → OthersStay first one old → HoldsText (two new) (new_text count) → OthersStay one two new
      → LeavesText (two rel) (three rel) (relation_text count) → OthersStay two three rel → LeaveTexts count first three
  after_three h o k p l q = record {
    old = left_held (first old) (three old) (old_text count) (held_still (one old) (three old) (old_text count) (old_stays_too two three q ∙ old_stays one two p) h);
    new = left_held (first new) (three new) (new_text count) (held_still (two new) (three new) (new_text count) (new_stays_too two three q) k);
    relation = left_since (first rel) (two rel) (three rel) (relation_text count) (rel_stays_too one two p ∙ rel_stays first one o) l;
  }

  -- all are saved
  pub all_hold : HoldsText (one old) (old_text count) → OthersStay first one old → HoldsText (two new) (new_text count) → OthersStay one two new
      → OthersStay two three rel → HoldsText (three rel) (relation_text count) → HoldTexts count three
  all_hold h o k p q l = record {
    old = held_still (one old) (three old) (old_text count) (old_stays_too two three q ∙ old_stays one two p) h;
    new = held_still (two new) (three new) (new_text count) (new_stays_too two three q) k;
    relation = l;
  }
