-- A text states one program, or breaks one rule first.
use Rattle.std.proofs.Common.{◌≡◌, ℕ, List, [], Some, sym, ap, ◌∙◌, subst, inl}
use Rattle.std.proofs.lemmas.Bool.{both_ways}
use Rattle.rules.specs.declared.rule.Refusal.{Refusal}
use Rattle.rules.specs.Rules.{IsAmong, IsFirst, IsSame}
use Rattle.source_tree.specs.Syntax.{PouData, FileData}
use Rattle.program_tree.specs.Tree.{ProgramData}
use Rattle.rules.proofs.FirstOnce.{first_once}
use Rattle.st_names.specs.Bound.{program_number}
use Rattle.naming.specs.FileScope.{pou_at}
use Rattle.naming.specs.Circles.{IsBroken}
use Rattle.typing.specs.Pous.{broken_types, has_room}
use Rattle.running_pous.specs.Stated.{stated_program}
use Rattle.st_types.specs.LargePous.{runs_large}
use Rattle.front_end.specs.Texts.{HasFile, HasNoFile, by_text, by_prelude, AreNamesSound, HasProgram, StatesProgram, StatesNoProgram, by_file, by_names, by_types, by_room, by_large}
use Rattle.front_end.proofs.OneReading.{one_tree, no_tree_too, one_no_tree}

abbrev FirstIn : List Refusal → Refusal → Type 0
FirstIn broken r = IsFirst (λ x. IsAmong x broken) r

-- nothing is the first of none
none_first : (broken : List Refusal) (r : Refusal) → broken ≡ [] → FirstIn broken r → ⊥
none_first broken r e h = subst (IsAmong r) e h.is_broken

-- a text has one file
one_file : (text : List ℕ) (f g : FileData) → HasFile text f → HasFile text g → f ≡ g
one_file text f g h k =
    let blocks = one_tree _ h.blocks k.blocks h.prelude k.prelude in
    let own = one_tree _ h.own k.own h.tree k.tree in
    let first = h.joined in
    let second = k.joined in
    cc

same_number : (m n : ℕ) → Some m ≡ Some n → m ≡ n
same_number m n e = cc

same_pou : (p q : PouData) → Some p ≡ Some q → p ≡ q
same_pou p q e = cc

-- a file has one PROGRAM
one_number : (f g : FileData) (m n : ℕ) → f ≡ g → program_number f ≡ Some m → program_number g ≡ Some n → m ≡ n
one_number f g m n e h k = same_number m n (sym h ∙ ap program_number e ∙ k)

one_pou : (f g : FileData) (m n : ℕ) (p q : PouData) → f ≡ g → HasProgram f m p → HasProgram g n q → p ≡ q
one_pou f g m n p q e h k =
    same_pou p q (sym h.there ∙ ap (λ (x : FileData). pou_at x m) e ∙ ap (pou_at g) (one_number f g m n e h.is k.is) ∙ k.there)

pub one_program : (text : List ℕ) (p q : ProgramData) → StatesProgram text p → StatesProgram text q → p ≡ q
one_program text p q h k =
    let file = one_file text h.file k.file h.states k.states in
    let number = one_number h.file k.file h.number k.number file h.one.is k.one.is in
    let pou = one_pou h.file k.file h.number k.number h.pou k.pou file h.one k.one in
    h.program ∙ ap (λ (x : FileData). stated_program x h.number h.pou) file ∙ ap (λ n. stated_program k.file n h.pou) number ∙ ap (stated_program k.file k.number) pou ∙ sym k.program

-- names break no rule in the file of another reading
names_sound : (text : List ℕ) (f g : FileData) (r : Refusal) → HasFile text f → HasFile text g → AreNamesSound g → IsFirst (IsBroken f) r → ⊥
names_sound text f g r h k sound first = sound r (subst (λ (x : FileData). IsBroken x r) (one_file text f g h k) first.is_broken)

types_sound : (text : List ℕ) (f g : FileData) (r : Refusal) → HasFile text f → HasFile text g → broken_types g ≡ [] → FirstIn (broken_types f) r → ⊥
types_sound text f g r h k e first = none_first (broken_types f) r (ap broken_types (one_file text f g h k) ∙ e) first

room_of : (text : List ℕ) (f g : FileData) (m n : ℕ) → HasFile text f → HasFile text g → program_number f ≡ Some m → program_number g ≡ Some n → has_room f m ≡ has_room g n
room_of text f g m n h k one other =
    let file = one_file text f g h k in
    ap (λ (x : FileData). has_room x m) file ∙ ap (has_room g) (one_number f g m n file one other)

large_of : (text : List ℕ) (f g : FileData) (m n : ℕ) (p q : PouData) → HasFile text f → HasFile text g → HasProgram f m p → HasProgram g n q → runs_large f m p ≡ runs_large g n q
large_of text f g m n p q h k one other =
    let file = one_file text f g h k in
    ap (λ (x : FileData). runs_large x m p) file ∙ ap (λ (i : ℕ). runs_large g i p) (one_number f g m n file one.is other.is) ∙ ap (runs_large g n) (one_pou f g m n p q file one other)

-- the file of a text is there where its own tree and the prelude's are
no_file_too : (text : List ℕ) (f : FileData) (r : Refusal) → HasFile text f → HasNoFile text r → ⊥
no_file_too text f r h (by_text none) = no_tree_too text h.own r h.tree none
no_file_too text f r h (by_prelude own tree none) = no_tree_too _ h.blocks r h.prelude none

one_no_file : (text : List ℕ) (r s : Refusal) → HasNoFile text r → HasNoFile text s → IsSame r s
one_no_file text r s (by_text h) (by_text k) = one_no_tree text r s h k
one_no_file text r s (by_text h) (by_prelude own tree k) = absurd (no_tree_too text own r tree h)
one_no_file text r s (by_prelude own tree h) (by_text k) = absurd (no_tree_too text own s tree k)
one_no_file text r s (by_prelude own tree h) (by_prelude other more k) = one_no_tree _ r s h k

pub no_program_too : (text : List ℕ) (p : ProgramData) (r : Refusal) → StatesProgram text p → StatesNoProgram text r → ⊥
no_program_too text p r h (by_file none) = no_file_too text h.file r h.states none
no_program_too text p r h (by_names f k first) = names_sound text f h.file r k h.states h.names first
no_program_too text p r h (by_types f k names first) = types_sound text f h.file r k h.states h.typing first
no_program_too text p r h (by_room f n k names one typing room e) =
    both_ways (has_room f n) room (room_of text f h.file n h.number k h.states one h.one.is ∙ h.room)
no_program_too text p r h (by_large f n q k names one typing room large e) =
    both_ways (runs_large f n q) (large_of text f h.file n h.number q h.pou k h.states one h.one ∙ h.few) large

first_names : (text : List ℕ) (f g : FileData) (r s : Refusal) → HasFile text f → HasFile text g → IsFirst (IsBroken f) r → IsFirst (IsBroken g) s → IsSame r s
first_names text f g r s h k first other =
    inl (first_once (IsBroken g) r s (subst (λ (x : FileData). IsFirst (IsBroken x) r) (one_file text f g h k) first) other)

first_types : (text : List ℕ) (f g : FileData) (r s : Refusal) → HasFile text f → HasFile text g → FirstIn (broken_types f) r → FirstIn (broken_types g) s → IsSame r s
first_types text f g r s h k first other =
    inl (first_once (λ x. IsAmong x (broken_types g)) r s (subst (λ (x : FileData). FirstIn (broken_types x) r) (one_file text f g h k) first) other)

pub one_refusal : (text : List ℕ) (r s : Refusal) → StatesNoProgram text r → StatesNoProgram text s → IsSame r s
one_refusal text r s (by_file h) (by_file k) = one_no_file text r s h k
one_refusal text r s (by_file h) (by_names g k other) = absurd (no_file_too text g r k h)
one_refusal text r s (by_file h) (by_types g k names other) = absurd (no_file_too text g r k h)
one_refusal text r s (by_file h) (by_room g n k names one typing room e) = absurd (no_file_too text g r k h)
one_refusal text r s (by_file h) (by_large g n q k names one typing room large e) = absurd (no_file_too text g r k h)
one_refusal text r s (by_names f h first) (by_file k) = absurd (no_file_too text f s h k)
one_refusal text r s (by_names f h first) (by_names g k other) = first_names text f g r s h k first other
one_refusal text r s (by_names f h first) (by_types g k names other) = absurd (names_sound text f g r h k names first)
one_refusal text r s (by_names f h first) (by_room g n k names one typing room e) = absurd (names_sound text f g r h k names first)
one_refusal text r s (by_names f h first) (by_large g n q k names one typing room large e) = absurd (names_sound text f g r h k names first)
one_refusal text r s (by_types f h names first) (by_file k) = absurd (no_file_too text f s h k)
one_refusal text r s (by_types f h names first) (by_names g k other) = absurd (names_sound text g f s k h names other)
one_refusal text r s (by_types f h names first) (by_types g k also other) = first_types text f g r s h k first other
one_refusal text r s (by_types f h names first) (by_room g n k also one typing room e) = absurd (types_sound text f g r h k typing first)
one_refusal text r s (by_types f h names first) (by_large g n q k also one typing room large e) = absurd (types_sound text f g r h k typing first)
one_refusal text r s (by_room f m h names one typing room e) (by_file k) = absurd (no_file_too text f s h k)
one_refusal text r s (by_room f m h names one typing room e) (by_names g k other) = absurd (names_sound text g f s k h names other)
one_refusal text r s (by_room f m h names one typing room e) (by_types g k also other) = absurd (types_sound text g f s k h typing other)
one_refusal text r s (by_room f m h names one typing room e) (by_room g n k also others full more o) = inl (e ∙ sym o)
one_refusal text r s (by_room f m h names one typing room e) (by_large g n q k also other more full large o) = absurd (both_ways (has_room f m) room (room_of text f g m n h k one other.is ∙ full))
one_refusal text r s (by_large f m p h names one typing room large e) (by_file k) = absurd (no_file_too text f s h k)
one_refusal text r s (by_large f m p h names one typing room large e) (by_names g k other) = absurd (names_sound text g f s k h names other)
one_refusal text r s (by_large f m p h names one typing room large e) (by_types g k also other) = absurd (types_sound text g f s k h typing other)
one_refusal text r s (by_large f m p h names one typing room large e) (by_room g n k also other more full o) = absurd (both_ways (has_room g n) full (room_of text g f n m k h other one.is ∙ room))
one_refusal text r s (by_large f m p h names one typing room large e) (by_large g n q k also other more full long o) = inl (e ∙ sym o)
