-- What each pass says of a text.
use Rattle.std.proofs.Common.{◌≡◌, [], ◌++◌, List, ℕ, true, false, Some, Result, Ok, Err, sym, subst, inl, inr}
use Rattle.std.specs.Prelude.{IfOk, IfErr, OnOk}
use Rattle.source_tree.specs.declared.token.Tok.{Tok}
use Rattle.rules.specs.declared.fault.Fault.{Fault}
use Rattle.source_tree.specs.Syntax.{PouData, FileData}
use Rattle.program_tree.specs.Tree.{ProgramData}
use Rattle.program_tree.specs.declared.typed.Program.{Program}
use Rattle.program_tree.specs.View.{program_view}
use Rattle.grammar.specs.WholeFile.{IsFile, IsFileFault}
use Rattle.call_order.specs.Uses.{Reaches}
use Rattle.rules.specs.Rules.{IsAmong}
use Rattle.naming.specs.FileScope.{pou_at}
use Rattle.naming.specs.Broken.{broken_names}
use Rattle.naming.specs.Circles.{uses_of}
use Rattle.naming.proofs.CircleLemmas.{nothing_left}
use Rattle.st_names.specs.Bound.{program_number}
use Rattle.st_names.specs.Bound as naming
use Rattle.typing.specs.Pous.{broken_types, has_room}
use Rattle.typing.specs.Faults as typing
use Rattle.running_pous.specs.Stated.{stated_program}
use Rattle.st_types.specs.LargePous.{runs_large, IsRefusedIf}
use Rattle.rules.specs.declared.fault.Fault.TheVariants as faults
use Rattle.front_end.specs.Texts.{HasTokens, HasTree, HasNoTree, by_nesting, by_grammar, HasFile, HasNoFile, by_text, by_prelude, AreNamesSound, HasProgram, StatesProgram, StatesNoProgram, by_file, by_names, by_types, by_room, by_large}
use Rattle.front_end.proofs.OnePou.{one_pou}
use Rattle.front_end.specs.StandardBlocks.{prelude_text}
use Rattle.rules.specs.Faults.{IfRefused}

pub tree_found : (text : List ℕ) (toks : List Tok) (f : FileData) → HasTokens text toks → IsFile toks f → HasTree text f
tree_found text toks f h k = record { toks = toks; tokens = h; sound = k.sound; printed = k.printed; levelled = k.levelled }

pub tree_refused : (text : List ℕ) (toks : List Tok) (e : Fault) → HasTokens text toks → IsFileFault toks e → IfRefused (HasNoTree text) e
tree_refused text toks (faults.Refused r) h (inl k) = by_nesting toks h k
tree_refused text toks (faults.Refused r) h (inr k) = by_grammar toks h k.sound (λ f printed levelled. k.none f levelled printed) k.rule
tree_refused text toks faults.Memory h k = tt

-- the text's own tree is asked for first, and then that of the prelude
pub text_first : (text : List ℕ) (e : Fault) → IfRefused (HasNoTree text) e → IfRefused (HasNoFile text) e
text_first text (faults.Refused r) h = by_text h
text_first text faults.Memory h = tt

pub prelude_next : (text : List ℕ) (own : FileData) (e : Fault) → HasTree text own → IfRefused (HasNoTree prelude_text) e → IfRefused (HasNoFile text) e
prelude_next text own (faults.Refused r) tree h = by_prelude own tree h
prelude_next text own faults.Memory tree h = tt

pub file_first : (text : List ℕ) (e : Fault) → IfRefused (HasNoFile text) e → IfRefused (StatesNoProgram text) e
file_first text (faults.Refused r) h = by_file h
file_first text faults.Memory h = tt

-- a text's file, from the tree of the prelude and its own
pub file_found : (text : List ℕ) (blocks own f : FileData) → HasTree prelude_text blocks → HasTree text own → f ≡ blocks ++ own → HasFile text f
file_found text blocks own f h k joined = record { blocks = blocks; own = own; prelude = h; tree = k; joined = joined }

pub names_refused : (text : List ℕ) (f : FileData) (e : Fault) → HasFile text f → naming.IsFaultOf f e → IfRefused (StatesNoProgram text) e
names_refused text f (faults.Refused r) h k = by_names f h k
names_refused text f faults.Memory h k = tt

-- where nothing is on the list, and no POU uses itself, nothing is broken
pub sound_names : (f : FileData) → broken_names f ≡ [] → ((k : ℕ) → ¬ (Reaches (uses_of f) k k)) → AreNamesSound f
sound_names f none acyclic r (inl among) = subst (IsAmong r) none among
sound_names f none acyclic r (inr circle) = acyclic circle.number circle.reaches

pub none_broken : (f : FileData) → AreNamesSound f → broken_names f ≡ []
none_broken f names = nothing_left (broken_names f) (λ r among. names r (inl among))

pub types_refused : (text : List ℕ) (f : FileData) (number : ℕ) (e : Fault) → HasFile text f → AreNamesSound f → program_number f ≡ Some number → typing.IsFaultOf f number e
    → IfRefused (StatesNoProgram text) e
types_refused text f number (faults.Refused r) h n one (inl k) = by_types f h n k
types_refused text f number (faults.Refused r) h n one (inr k) = by_room f number h n one k.0 k.1 k.2
types_refused text f number faults.Memory h n one k = tt

-- what a program's typing says, where the file's PROGRAM is known
pub program_of : (text : List ℕ) (f : FileData) (number : ℕ) (pou : PouData) (p : ProgramData) → HasFile text f → AreNamesSound f → HasProgram f number pou
    → broken_types f ≡ [] → ((n : ℕ) → program_number f ≡ Some n → has_room f n ≡ true)
    → ((n : ℕ) (q : PouData) → program_number f ≡ Some n → pou_at f n ≡ Some q → runs_large f n q ≡ false)
    → ((n : ℕ) (q : PouData) → program_number f ≡ Some n → pou_at f n ≡ Some q → p ≡ stated_program f n q) → StatesProgram text p
program_of text f number pou p h n one types room few typed =
    record { file = f; number = number; pou = pou; states = h; names = n; one = one; typing = types; room = room number one.is; few = few number pou one.is one.there; program = typed number pou one.is one.there }

-- a program that is refused since a POU that may run is large
pub large_refused : (text : List ℕ) (f : FileData) (e : Fault) → HasFile text f → AreNamesSound f → broken_types f ≡ [] → ((n : ℕ) → program_number f ≡ Some n → has_room f n ≡ true)
    → ((n : ℕ) (q : PouData) → program_number f ≡ Some n → pou_at f n ≡ Some q → IfRefused (IsRefusedIf (runs_large f n q)) e) → IfRefused (StatesNoProgram text) e
large_refused text f (faults.Refused r) h n types room large =
    let one = one_pou f (none_broken f n) in
    let refused = large one.number one.pou one.one.is one.one.there in
    by_large f one.number one.pou h n one.one types (room one.number one.one.is) refused.0 refused.1
large_refused text f faults.Memory h n types room large = tt

-- facts of what is given, and of faults
pub ok_more : {A E : Type 0} → (r : Result A E) (P Q : A → Type 0) → ((a : A) → P a → Q a) → IfOk r P → IfOk r Q
ok_more (Ok a) P Q each h = each a h
ok_more (Err e) P Q each h = h

pub err_more : {A E : Type 0} → (r : Result A E) (P Q : E → Type 0) → ((e : E) → P e → Q e) → IfErr r P → IfErr r Q
err_more (Ok a) P Q each h = h
err_more (Err e) P Q each h = each e h

-- what the typing of a file says of each text of that file
pub program_read : {E : Type 0} (f : FileData) (r : Result Program E) → AreNamesSound f → broken_types f ≡ [] → ((n : ℕ) → program_number f ≡ Some n → has_room f n ≡ true)
    → OnOk r ((n : ℕ) (q : PouData) → program_number f ≡ Some n → pou_at f n ≡ Some q → runs_large f n q ≡ false)
    → IfOk r (λ p. (n : ℕ) (q : PouData) → program_number f ≡ Some n → pou_at f n ≡ Some q → program_view p ≡ stated_program f n q) → IfOk r (λ p. (text : List ℕ) → HasFile text f → StatesProgram text (program_view p))
program_read f (Ok p) names types room few typed = λ text h. let one = one_pou f (none_broken f names) in program_of text f one.number one.pou (program_view p) h names one.one types room few typed
program_read f (Err e) names types room few typed = typed

-- a file whose names are bound, where it is the file that was given
pub sound_in : {A E : Type 0} (f : FileData) (r : Result A E) (file : A → FileData) → IfOk r (λ n. file n ≡ f) → OnOk r (broken_names f ≡ []) → OnOk r ((k : ℕ) → ¬ (Reaches (uses_of f) k k))
    → IfOk r (λ n. AreNamesSound (file n))
sound_in f (Ok n) file same kept acyclic = subst AreNamesSound (sym same) (sound_names f kept acyclic)
sound_in f (Err e) file same kept acyclic = same

-- what is said of each text of a file is said of each text of the same file
pub of_file : (P : List ℕ → Type 0) (f g : FileData) → f ≡ g → ((text : List ℕ) → HasFile text f → P text) → (text : List ℕ) → HasFile text g → P text
of_file P f g same each text h = each text (subst (HasFile text) (sym same) h)
