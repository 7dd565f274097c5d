-- Words that are found stand in the text, and a word's own text is found.
use Rattle.std.proofs.Common.{◌≡◌, Bool, true, false, cond, List, ℕ, codes, bytes_eq, Option, Some, None, refl, ap, ◌∙◌}
use Rattle.std.proofs.lemmas.Slice.Eq.{bytes_eq-Decides}
use Rattle.scan_model.specs.declared.side.Side.{Side}
use Rattle.scan_model.specs.declared.side.Side.TheVariants as sides
use Rattle.relation_lines.specs.declared.line.Setting.TheVariants as settings
use Rattle.relation_lines.specs.declared.line.Condition.TheVariants as conditions
use Rattle.relation_lines.specs.declared.word.FirstWord.{FirstWord}
use Rattle.relation_lines.specs.declared.word.FirstWord.TheVariants as words
use Rattle.relation_lines.specs.Prints.{setting_word, condition_word, side_word, faults_word}
use Rattle.relation_lines.specs.Words.{first_word_of, agreement_of, side_of}
use Rattle.grammar_laws.proofs.Steps.{some_is}

-- the text of a first word
abbrev pub spelling : FirstWord → List ℕ
spelling (words.Setting s) = setting_word s
spelling words.Faults = codes "FAULTS"
spelling words.Input = codes "INPUT"
spelling (words.Clause c) = condition_word c

-- one word more among those that are tried
tried : {A : Type 0} (spell : A → List ℕ) (text : List ℕ) (x : A) (other : Option A) (y : A) (b : Bool) → bytes_eq text (spell x) ≡ b
    → (other ≡ Some y → text ≡ spell y) → cond b (Some x) other ≡ Some y → text ≡ spell y
tried spell text x other y true same more e = (bytes_eq-Decides text (spell x)).0 same ∙ ap spell (some_is x y e)
tried spell text x other y false same more e = more e

none_tried : {A : Type 0} (spell : A → List ℕ) (text : List ℕ) (y : A) → (let o : Option A = None in o) ≡ Some y → text ≡ spell y
none_tried spell text y e = absurd cc

pub first_word_is : (text : List ℕ) (w : FirstWord) → first_word_of text ≡ Some w → text ≡ spelling w
unfolding first_word_of
first_word_is text w e =
    tried spelling text (words.Setting settings.Version) _ w _ refl (
    tried spelling text words.Faults _ w _ refl (
    tried spelling text (words.Setting settings.Depth) _ w _ refl (
    tried spelling text (words.Setting settings.Conflicts) _ w _ refl (
    tried spelling text words.Input _ w _ refl (
    tried spelling text (words.Clause conditions.Environment) _ w _ refl (
    tried spelling text (words.Clause conditions.Relate) _ w _ refl (
    tried spelling text (words.Clause conditions.Invariant) _ w _ refl (none_tried spelling text w)))))))) e

pub agreement_is : (text : List ℕ) (equal : Bool) → agreement_of text ≡ Some equal → text ≡ faults_word equal
unfolding agreement_of
agreement_is text equal e =
    tried faults_word text true _ equal _ refl (tried faults_word text false _ equal _ refl (none_tried faults_word text equal)) e

pub side_is : (text : List ℕ) (s : Side) → side_of text ≡ Some s → text ≡ side_word s
unfolding side_of
side_is text s e = tried side_word text sides.Old _ s _ refl (tried side_word text sides.New _ s _ refl (none_tried side_word text s)) e

pub first_word_again : (w : FirstWord) → first_word_of (spelling w) ≡ Some w
unfolding first_word_of
first_word_again (words.Setting settings.Version) = refl
first_word_again (words.Setting settings.Depth) = refl
first_word_again (words.Setting settings.Conflicts) = refl
first_word_again words.Faults = refl
first_word_again words.Input = refl
first_word_again (words.Clause conditions.Environment) = refl
first_word_again (words.Clause conditions.Relate) = refl
first_word_again (words.Clause conditions.Invariant) = refl

pub agreement_again : (equal : Bool) → agreement_of (faults_word equal) ≡ Some equal
unfolding agreement_of
agreement_again true = refl
agreement_again false = refl

pub side_again : (s : Side) → side_of (side_word s) ≡ Some s
unfolding side_of
side_again sides.Old = refl
side_again sides.New = refl
