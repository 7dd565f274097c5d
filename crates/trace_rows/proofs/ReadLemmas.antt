-- The grammar's values under what a trace takes of them, a turn at a time.
use Rattle.std.proofs.Common.{◌≡◌, ℕ, zero, suc, ◌+◌, ◌-◌, ◌*◌, ◌<◌, ◌≤◌, List, [], ◌∷◌, ◌++◌, length, ℤ, Option, Some, None, option_map, option_and_then, refl, sym, ap, ap₂, ◌∙◌, append_assoc, append-nil, add-one, Bool as Truth, true, false, nat_eq, eq-eqb, ne_eqb, arith}
use Rattle.std.specs.Prelude.{MatchOption, is_some}
use Rattle.std.specs.Bool.{MatchBool}
use Rattle.std.proofs.lemmas.Bool.{false≢true, eqb-true}
use Rattle.std.specs.Borrow.{Bor}
use Rattle.std.proofs.lemmas.List.{length-append}
use Rattle.json.specs.Token.{Token}
use Rattle.json.specs.Lex.{tokens}
use Rattle.json.specs.Json as json
use Rattle.json.specs.Json.{Parse, parse_map, after_end_array, items_step, items, value, if_last}
use Rattle.json.specs.Reads.{token_of}
use Rattle.json.specs.declared.token.Token.{Token as TextToken}
use Rattle.json.specs.declared.token.Token.TheVariants.{BeginObject, EndObject, BeginArray, EndArray, Key, String, Number, Bool, Null, Bad}
use Rattle.json.proofs.Grammar.{value_is, value-begin_array, items_end, items_more}
use Rattle.serde_json.specs.Data.{Data, null, boolean, number, string, array, object, Items, no_items, item, Members, no_members, Num}
use Rattle.serde_json.specs.Read.{number_of, of_json, of_items, of_members, converted, max_depth, read}
use Rattle.serde_json.specs.Find.{as_array, as_integer}
use Rattle.trace_rows.specs.Traces.{number_in, numbers_in, of_width, row_in, rows_in, trace_in}
use Rattle.trace_rows.specs.Rows.{rows_of}
use Rattle.trace_rows.specs.Reading.{by_data, after_begin_array, number_depth, row_depth, number_read, numbers_read, row_read, rows_read, IsAdded}
use Rattle.trace_rows.proofs.RowLemmas.{one_more_row, one_more}

-- ---- items, each under one function

-- a turn: the items of the grammar go through f one after another
abbrev IsEach : (A : Type 0) → (json.Json → Option A) → (json.Items → Option (List A)) → Type 0
IsEach A f all = (all json.no_items ≡ Some []) × ((j : json.Json) (js : json.Items) → all (json.item j js) ≡ option_and_then (λ a. option_map (λ rest. a ∷ rest) (all js)) (f j))

mapped : {A : Type 0} (a : A) (r : List Token) (o : Option (List A)) → option_map {U = List A × List Token} (λ b. (b, r)) (option_map (λ rest. a ∷ rest) o) ≡ parse_map (λ rest. a ∷ rest) (option_map (λ b. (b, r)) o)
mapped a r None = refl
mapped a r (Some rest) = refl

abbrev pick : {A : Type 0} → A → Option A → A
pick d None = d
pick d (Some a) = a

found : {A B : Type 0} (a : A) (r s : List Token) (x : Option B) (b : B) → option_map {U = B × List Token} (λ y. (y, r)) x ≡ Some (b, s) → (r ≡ s) × (x ≡ Some b)
found a r s None b e = absurd (cc)
found a r s (Some y) b e = let same = ap (pick (y, r)) e in (ap (λ p. p.1) same, ap (λ p. Some p.0) same)

was_read : {A B : Type 0} (f : A → Option B) (o : Option (A × List Token)) (b : B) (r : List Token) → converted f o ≡ Some (b, r) → (a : A) × (o ≡ Some (a, r)) × (f a ≡ Some b)
was_read f None b r e = absurd (cc)
was_read f (Some p) b r e = let both = found p.0 p.1 r (f p.0) b e in (p.0, ap (λ s. Some (p.0, s)) both.0, both.1)

none_left : {A : Type 0} (r : List Token) (o : Option A) → option_map {U = A × List Token} (λ b. (b, r)) o ≡ None → o ≡ None
none_left r None e = refl
none_left r (Some a) e = absurd (cc)

put_before : {A : Type 0} (f : json.Json → Option A) (all : json.Items → Option (List A)) → IsEach A f all → (j : json.Json) (a : A) → f j ≡ Some a
    → (o : Option (json.Items × List Token)) → converted all (parse_map (json.item j) o) ≡ parse_map (λ rest. a ∷ rest) (converted all o)
put_before f all h j a e None = refl
put_before f all h j a e (Some (js, r)) = ap (option_map (λ b. (b, r))) (h.1 j js ∙ ap (option_and_then (λ b. option_map (λ rest. b ∷ rest) (all js))) e) ∙ mapped a r (all js)

none_before : {A : Type 0} (f : json.Json → Option A) (all : json.Items → Option (List A)) → IsEach A f all → (j : json.Json) → f j ≡ None
    → (o : Option (json.Items × List Token)) → converted all (parse_map (json.item j) o) ≡ None
none_before f all h j e None = refl
none_before f all h j e (Some (js, r)) = ap (option_map (λ b. (b, r))) (h.1 j js ∙ ap (option_and_then (λ b. option_map (λ rest. b ∷ rest) (all js))) e)

module _ (A : Type 0) (f : json.Json → Option A) (all : json.Items → Option (List A)) (each : IsEach A f all) (p : Parse json.Json) where
  pub each_read : (n : ℕ) (ts r : List Token) (a : A) → 0 < n → after_end_array ts ≡ None → converted f (p ts) ≡ Some (a, r)
      → converted all (items p n ts) ≡ parse_map (λ rest. a ∷ rest) (converted all (items p (n - 1) r))
  each_read n ts r a some going e =
      let j = was_read f (p ts) a r e in
      ap (converted all) (items_more p n ts r j.0 some going j.1) ∙ put_before f all each j.0 a j.2 (items p (n - 1) r)

  no_turn : (more : Parse json.Items) (o : Option (json.Json × List Token)) → converted f o ≡ None → converted all (option_and_then (λ q. parse_map (json.item q.0) (more q.1)) o) ≡ None
  no_turn more None e = refl
  no_turn more (Some q) e = none_before f all each q.0 (none_left q.1 (f q.0) e) (more q.1)

  pub each_refused : (n : ℕ) (ts : List Token) → after_end_array ts ≡ None → converted f (p ts) ≡ None → converted all (items p n ts) ≡ None
  unfolding items
  each_refused zero ts going e = refl
  each_refused (suc n) ts going e = ap (λ o. converted all (items_step p (items p n) ts o)) going ∙ no_turn (items p n) (p ts) e

  pub each_over : (n : ℕ) (ts r : List Token) → length ts ≤ n → after_end_array ts ≡ Some r → converted all (items p n ts) ≡ Some ([], r)
  each_over n ts r enough e = ap (converted all) (items_end p n ts r enough e) ∙ ap (option_map (λ b. (b, r))) each.0

nothing : {A B : Type 0} (o : Option A) → option_and_then {U = B} (λ a. None) o ≡ None
nothing None = refl
nothing (Some a) = refl

-- whether an item's data or the rest's data is taken first plays no part
exchanged : {B : Type 0} (g : Data → Option B) (all : Items → Option (List B)) → ((d : Data) (ds : Items) → all (item d ds) ≡ option_and_then (λ b. option_map (λ rest. b ∷ rest) (all ds)) (g d))
    → (x : Option Data) (y : Option Items)
    → option_and_then all (option_and_then (λ d. option_map (item d) y) x) ≡ option_and_then (λ b. option_map (λ rest. b ∷ rest) (option_and_then all y)) (option_and_then g x)
exchanged g all step None y = refl
exchanged g all step (Some d) None = sym (nothing (g d))
exchanged g all step (Some d) (Some ds) = step d ds

numbers_each : IsEach ℤ (by_data number_in) (λ js. option_and_then numbers_in (of_items js))
numbers_each = (refl, λ j js. exchanged number_in numbers_in (λ d ds. refl) (of_json j) (of_items js))

rows_each : (width : ℕ) → IsEach (List ℤ) (by_data (row_in width)) (λ js. option_and_then (rows_in width) (of_items js))
rows_each width = (refl, λ j js. exchanged (row_in width) (rows_in width) (λ d ds. refl) (of_json j) (of_items js))

-- ---- the turns of a row and of a trace

pub number_turn : (n : ℕ) (ts r : List Token) (z : ℤ) → 0 < n → after_end_array ts ≡ None → number_read ts ≡ Some (z, r) → numbers_read n ts ≡ parse_map (λ zs. z ∷ zs) (numbers_read (n - 1) r)
number_turn = each_read ℤ (by_data number_in) (λ js. option_and_then numbers_in (of_items js)) numbers_each (value number_depth)

pub number_refused : (n : ℕ) (ts : List Token) → after_end_array ts ≡ None → number_read ts ≡ None → numbers_read n ts ≡ None
number_refused = each_refused ℤ (by_data number_in) (λ js. option_and_then numbers_in (of_items js)) numbers_each (value number_depth)

pub numbers_over : (n : ℕ) (ts r : List Token) → length ts ≤ n → after_end_array ts ≡ Some r → numbers_read n ts ≡ Some ([], r)
numbers_over = each_over ℤ (by_data number_in) (λ js. option_and_then numbers_in (of_items js)) numbers_each (value number_depth)

module _ (width : ℕ) where
  pub row_turn : (n : ℕ) (ts r : List Token) (row : List ℤ) → 0 < n → after_end_array ts ≡ None → row_read width ts ≡ Some (row, r) → rows_read width n ts ≡ parse_map (λ rows. row ∷ rows) (rows_read width (n - 1) r)
  row_turn = each_read (List ℤ) (by_data (row_in width)) (λ js. option_and_then (rows_in width) (of_items js)) (rows_each width) (value row_depth)

  pub row_refused : (n : ℕ) (ts : List Token) → after_end_array ts ≡ None → row_read width ts ≡ None → rows_read width n ts ≡ None
  row_refused = each_refused (List ℤ) (by_data (row_in width)) (λ js. option_and_then (rows_in width) (of_items js)) (rows_each width) (value row_depth)

  pub rows_over : (n : ℕ) (ts r : List Token) → length ts ≤ n → after_end_array ts ≡ Some r → rows_read width n ts ≡ Some ([], r)
  rows_over = each_over (List ℤ) (by_data (row_in width)) (λ js. option_and_then (rows_in width) (of_items js)) (rows_each width) (value row_depth)

-- lists that grow at their end
pub behind : {A : Type 0} (done : List A) (a : A) (o : Option (List A × List Token)) → parse_map (λ rest. done ++ rest) (parse_map (λ rest. a ∷ rest) o) ≡ parse_map (λ rest. (done ++ a ∷ []) ++ rest) o
behind done a None = refl
behind done a (Some p) = ap (λ rest. Some (rest, p.1)) (sym (append_assoc done (a ∷ []) p.0))

pub none_behind : {A : Type 0} (o : Option (List A × List Token)) → o ≡ parse_map (λ rest. [] ++ rest) o
none_behind None = refl
none_behind (Some p) = refl

-- ---- the first token

-- what is taken of an array alone
abbrev IsOfArrays : {A : Type 0} → (Data → Option A) → Type 0
IsOfArrays f = (d : Data) → as_array d ≡ None → f d ≡ None

object_value : (depth : ℕ) (ts : List Token) → (o : Option (json.Members × List Token)) × (value depth (Token.begin_object ∷ ts) ≡ parse_map json.object o)
unfolding value
object_value zero ts = (None, refl)
object_value (suc depth) ts = (json.members (value depth) (length ts) ts, refl)

module _ (A : Type 0) (f : Data → Option A) where
  of_object : ((ms : Members) → f (object ms) ≡ None) → (o : Option (json.Members × List Token)) → converted (by_data f) (parse_map json.object o) ≡ None
  of_object h None = refl
  of_object h (Some (ms, r)) = elim (of_members ms no_members) as (λ m. option_map {U = A × List Token} (λ b. (b, r)) (option_and_then f (option_map object m)) ≡ None) [ None ↦ refl | Some d ↦ ap (option_map (λ b. (b, r))) (h d) ]

  of_number : ((x : Num) → f (number x) ≡ None) → (s : List ℕ) (r : List Token) → converted (by_data f) (Some (json.number s, r)) ≡ None
  of_number h s r = elim (number_of s) as (λ m. option_map {U = A × List Token} (λ b. (b, r)) (option_and_then f (option_map number m)) ≡ None) [ None ↦ refl | Some x ↦ ap (option_map (λ b. (b, r))) (h x) ]

  pub no_array : IsOfArrays f → (depth : ℕ) (ts : List Token) → after_begin_array ts ≡ None → converted (by_data f) (value depth ts) ≡ None
  no_array h depth [] e = ap (converted (by_data f)) (value_is depth [])
  no_array h depth (Token.begin_object ∷ ts) e = let o = object_value depth ts in ap (converted (by_data f)) o.1 ∙ of_object (λ ms. h (object ms) refl) o.0
  no_array h depth (Token.end_object ∷ ts) e = ap (converted (by_data f)) (value_is depth (Token.end_object ∷ ts))
  no_array h depth (Token.begin_array ∷ ts) e = absurd (cc)
  no_array h depth (Token.end_array ∷ ts) e = ap (converted (by_data f)) (value_is depth (Token.end_array ∷ ts))
  no_array h depth (Token.key s ∷ ts) e = ap (converted (by_data f)) (value_is depth (Token.key s ∷ ts))
  no_array h depth (Token.string s ∷ ts) e = ap (converted (by_data f)) (value_is depth (Token.string s ∷ ts)) ∙ ap (option_map (λ b. (b, ts))) (h (string s) refl)
  no_array h depth (Token.number s ∷ ts) e = ap (converted (by_data f)) (value_is depth (Token.number s ∷ ts)) ∙ of_number (λ x. h (number x) refl) s ts
  no_array h depth (Token.boolean b ∷ ts) e = ap (converted (by_data f)) (value_is depth (Token.boolean b ∷ ts)) ∙ ap (option_map (λ b. (b, ts))) (h (boolean b) refl)
  no_array h depth (Token.null ∷ ts) e = ap (converted (by_data f)) (value_is depth (Token.null ∷ ts)) ∙ ap (option_map (λ b. (b, ts))) (h null refl)
  no_array h depth (Token.bad ∷ ts) e = ap (converted (by_data f)) (value_is depth (Token.bad ∷ ts))

array_is : (ts r : List Token) → after_begin_array ts ≡ Some r → ts ≡ Token.begin_array ∷ r
array_is [] r e = absurd (cc)
array_is (Token.begin_object ∷ ts) r e = absurd (cc)
array_is (Token.end_object ∷ ts) r e = absurd (cc)
array_is (Token.begin_array ∷ ts) r e = cc
array_is (Token.end_array ∷ ts) r e = absurd (cc)
array_is (Token.key s ∷ ts) r e = absurd (cc)
array_is (Token.string s ∷ ts) r e = absurd (cc)
array_is (Token.number s ∷ ts) r e = absurd (cc)
array_is (Token.boolean b ∷ ts) r e = absurd (cc)
array_is (Token.null ∷ ts) r e = absurd (cc)
array_is (Token.bad ∷ ts) r e = absurd (cc)

pub array_shorter : (ts r : List Token) → after_begin_array ts ≡ Some r → length r < length ts
array_shorter ts r e = omega (arith, ap length (array_is ts r e))

array_value : (depth : ℕ) (ts r : List Token) → 0 < depth → after_begin_array ts ≡ Some r → value depth ts ≡ parse_map json.array (items (value (depth - 1)) (length r) r)
array_value depth ts r some e = ap (value depth) (array_is ts r e) ∙ value-begin_array depth r some

-- ---- a number

of_data : (o : Option Num) → option_and_then number_in (option_map number o) ≡ option_and_then as_integer o
of_data None = refl
of_data (Some x) = refl

met : (read : Option (ℤ × List Token)) (r : List Token) (o : Option ℤ) → read ≡ option_map (λ z. (z, r)) o → MatchOption o (read ≡ None) (λ z. read ≡ Some (z, r))
met read r None e = e
met read r (Some z) e = e

pub number_first : (ts r : List Token) (s : List ℕ) (o : Option ℤ) → ts ≡ Token.number s ∷ r → o ≡ option_and_then as_integer (number_of s) → MatchOption o (number_read ts ≡ None) (λ z. number_read ts ≡ Some (z, r))
number_first ts r s o e is =
    met (number_read ts) r o (ap number_read e ∙ ap (converted (by_data number_in)) (value_is number_depth (Token.number s ∷ r)) ∙ ap (option_map (λ z. (z, r))) (of_data (number_of s) ∙ sym is))

of_array : (o : Option (json.Items × List Token)) → converted (by_data number_in) (parse_map json.array o) ≡ None
of_array None = refl
of_array (Some (js, r)) = elim (of_items js) as (λ m. option_map {U = ℤ × List Token} (λ b. (b, r)) (option_and_then number_in (option_map array m)) ≡ None) [ None ↦ refl | Some d ↦ refl ]

-- what a token that is no number begins
no_number : (r : List Token) (t : TextToken) → ((s : Bor (List ℕ)) → t ≡ Number s → ⊥) → number_read (token_of t ∷ r) ≡ None
no_number r BeginObject other = let o = object_value number_depth r in ap (converted (by_data number_in)) o.1 ∙ of_object ℤ number_in (λ ms. refl) o.0
no_number r EndObject other = ap (converted (by_data number_in)) (value_is number_depth (Token.end_object ∷ r))
no_number r BeginArray other = ap (converted (by_data number_in)) (value-begin_array number_depth r (omega arith)) ∙ of_array (items (value (number_depth - 1)) (length r) r)
no_number r EndArray other = ap (converted (by_data number_in)) (value_is number_depth (Token.end_array ∷ r))
no_number r (Key s) other = ap (converted (by_data number_in)) (value_is number_depth (Token.key s.now ∷ r))
no_number r (String s) other = ap (converted (by_data number_in)) (value_is number_depth (Token.string s.now ∷ r))
no_number r (Number s) other = absurd (other s refl)
no_number r (Bool b) other = ap (converted (by_data number_in)) (value_is number_depth (Token.boolean b ∷ r))
no_number r Null other = ap (converted (by_data number_in)) (value_is number_depth (Token.null ∷ r))
no_number r Bad other = ap (converted (by_data number_in)) (value_is number_depth (Token.bad ∷ r))

pub another_token : (ts r : List Token) (t : TextToken) → ts ≡ token_of t ∷ r → ((s : Bor (List ℕ)) → t ≡ Number s → ⊥) → number_read ts ≡ None
another_token ts r t e other = ap number_read e ∙ no_number r t other

pub no_token : (ts : List Token) → ts ≡ [] → number_read ts ≡ None
no_token ts e = ap number_read e ∙ ap (converted (by_data number_in)) (value_is number_depth [])

-- ---- the numbers of a row, so far

pub record NumbersSoFar (first now : List Token) (old new : List ℤ) : Type 0 where
  pub turns : ℕ
  pub enough : length now ≤ turns
  pub shorter : length now ≤ length first
  pub done : List ℤ
  pub added : new ≡ old ++ done
  pub whole : numbers_read (length first) first ≡ parse_map (λ zs. done ++ zs) (numbers_read turns now)

pub numbers_begun : (ts : List Token) (zs : List ℤ) → NumbersSoFar ts ts zs zs
numbers_begun ts zs = record {
  turns = length ts;
  enough = omega arith;
  shorter = omega arith;
  done = [];
  added = sym (append-nil zs);
  whole = none_behind (numbers_read (length ts) ts);
}

pub one_more_number : (first now r : List Token) (old new more : List ℤ) (z : ℤ) → NumbersSoFar first now old new → after_end_array now ≡ None → number_read now ≡ Some (z, r) → length r < length now → more ≡ new ++ z ∷ []
    → NumbersSoFar first r old more
one_more_number first now r old new more z h going e less pushed = record {
  turns = h.turns - 1;
  enough = omega (arith, h.enough);
  shorter = omega (arith, h.shorter);
  done = h.done ++ z ∷ [];
  added = pushed ∙ ap (λ zs. zs ++ z ∷ []) h.added ∙ append_assoc old h.done (z ∷ []);
  whole = h.whole ∙ ap (parse_map (λ zs. h.done ++ zs)) (number_turn h.turns now r z (omega (arith, h.enough)) going e) ∙ behind h.done z (numbers_read (h.turns - 1) r);
}

pub numbers_refused : (first now : List Token) (old new : List ℤ) → NumbersSoFar first now old new → after_end_array now ≡ None → number_read now ≡ None → numbers_read (length first) first ≡ None
numbers_refused first now old new h going e = h.whole ∙ ap (parse_map (λ zs. h.done ++ zs)) (number_refused h.turns now going e)

pub numbers_closed : (first now r : List Token) (old new : List ℤ) → NumbersSoFar first now old new → after_end_array now ≡ Some r → IsAdded (numbers_read (length first) first) old new r
numbers_closed first now r old new h e = record {
  numbers = h.done;
  added = h.added;
  is_read = h.whole ∙ ap (parse_map (λ zs. h.done ++ zs)) (numbers_over h.turns now r h.enough e) ∙ ap (λ zs. Some (zs, r)) (append-nil h.done);
}

-- ---- a row

of_row : (width : ℕ) (r : List Token) (o : Option (List ℤ)) → option_map {U = List ℤ × List Token} (λ b. (b, r)) (option_and_then (of_width width) o) ≡ converted (of_width width) (option_map (λ b. (b, r)) o)
of_row width r None = refl
of_row width r (Some zs) = refl

of_numbers : (width : ℕ) (r : List Token) (ds : Option Items)
    → option_map {U = List ℤ × List Token} (λ b. (b, r)) (option_and_then (row_in width) (option_map array ds)) ≡ converted (of_width width) (option_map (λ b. (b, r)) (option_and_then numbers_in ds))
of_numbers width r None = refl
of_numbers width r (Some ds) = of_row width r (numbers_in ds)

row_by_numbers : (width : ℕ) (o : Option (json.Items × List Token)) → converted (by_data (row_in width)) (parse_map json.array o) ≡ converted (of_width width) (converted (λ js. option_and_then numbers_in (of_items js)) o)
row_by_numbers width None = refl
row_by_numbers width (Some (js, r)) = of_numbers width r (of_items js)

row_first : (width : ℕ) (ts r : List Token) → after_begin_array ts ≡ Some r → row_read width ts ≡ converted (of_width width) (numbers_read (length r) r)
row_first width ts r e = ap (converted (by_data (row_in width))) (array_value row_depth ts r (omega arith) e) ∙ row_by_numbers width (items (value number_depth) (length r) r)

pub no_row : (width : ℕ) (ts : List Token) → after_begin_array ts ≡ None → row_read width ts ≡ None
no_row width ts e = no_array (List ℤ) (row_in width) (λ d h. ap (λ o. option_and_then (of_width width) (option_and_then numbers_in o)) h) row_depth ts e

pub no_numbers : (width : ℕ) (ts r : List Token) → after_begin_array ts ≡ Some r → numbers_read (length r) r ≡ None → row_read width ts ≡ None
no_numbers width ts r e h = row_first width ts r e ∙ ap (converted (of_width width)) h

-- how many numbers were put behind the others
pub count_added : (read : Option (List ℤ × List Token)) (old new : List ℤ) (r : List Token) (h : IsAdded read old new r) → length new ≡ length old + length h.numbers
count_added read old new r h = ap length h.added ∙ length-append old h.numbers

row_of_width : (width : ℕ) (ts s r : List Token) (old new : List ℤ) → after_begin_array ts ≡ Some s → IsAdded (numbers_read (length s) s) old new r → length new - length old ≡ width → IsAdded (row_read width ts) old new r
row_of_width width ts s r old new e h wide =
    let long : length h.numbers ≡ width = omega (arith, count_added (numbers_read (length s) s) old new r h) in
    record {
      numbers = h.numbers;
      added = h.added;
      is_read = row_first width ts s e ∙ ap (converted (of_width width)) h.is_read ∙ rw (eq-eqb (length h.numbers) width long);
    }

row_of_another_width : (width : ℕ) (ts s r : List Token) (old new : List ℤ) → after_begin_array ts ≡ Some s → IsAdded (numbers_read (length s) s) old new r → (length new - length old ≡ width → ⊥) → row_read width ts ≡ None
row_of_another_width width ts s r old new e h other =
    let long : length h.numbers ≡ width → ⊥ = λ w. other (omega (arith, count_added (numbers_read (length s) s) old new r h)) in
    row_first width ts s e ∙ ap (converted (of_width width)) h.is_read ∙ rw (ne_eqb (length h.numbers) width long)

by_test : (b : Truth) (P Q : Type 0) → (b ≡ true → P) → (b ≡ false → Q) → MatchBool b P Q
by_test true P Q p q = p refl
by_test false P Q p q = q refl

-- the numbers up to a row's end were read, and are as many as they have to be, or not
pub row_met : (width : ℕ) (ts s r : List Token) (old new : List ℤ) (n : ℕ) → after_begin_array ts ≡ Some s → IsAdded (numbers_read (length s) s) old new r → n ≡ length new - length old
    → MatchBool (nat_eq n width) (IsAdded (row_read width ts) old new r) (row_read width ts ≡ None)
row_met width ts s r old new n e h is =
    by_test (nat_eq n width) _ _ (λ same. row_of_width width ts s r old new e h (sym is ∙ eqb-true n width same))
    (λ other. row_of_another_width width ts s r old new e h (λ same. false≢true (sym other ∙ eq-eqb n width (is ∙ same))))

-- ---- the rows of a trace, so far

pub record RowsSoFar (width count : ℕ) (first now : List Token) (zs : List ℤ) : Type 0 where
  pub turns : ℕ
  pub enough : length now ≤ turns
  pub few : count + length now ≤ length first
  pub shape : length zs ≡ count * width
  pub whole : rows_read width (length first) first ≡ parse_map (λ rows. rows_of width count zs ++ rows) (rows_read width turns now)

pub rows_begun : (width : ℕ) (ts : List Token) → RowsSoFar width 0 ts ts []
rows_begun width ts = record {
  turns = length ts;
  enough = omega arith;
  few = omega arith;
  shape = omega arith;
  whole = none_behind (rows_read width (length ts) ts);
}

pub one_more_read : (width count : ℕ) (first now r : List Token) (old new : List ℤ) → RowsSoFar width count first now old → after_end_array now ≡ None → IsAdded (row_read width now) old new r
    → length r < length now → length new ≡ length old + width → RowsSoFar width (count + 1) first r new
one_more_read width count first now r old new h going e less wide =
    let row = e.numbers in
    let long : length row ≡ width = omega (arith, count_added (row_read width now) old new r e) in
    let grown : rows_of width (count + 1) new ≡ rows_of width count old ++ row ∷ [] = ap₂ (rows_of width) (add-one count) e.added ∙ one_more_row width count old row h.shape long in
    record {
      turns = h.turns - 1;
      enough = omega (arith, h.enough);
      few = omega (arith, h.few);
      shape = wide ∙ ap (λ n. n + width) h.shape ∙ sym (one_more width count);
      whole = h.whole ∙ ap (parse_map (λ rows. rows_of width count old ++ rows)) (row_turn width h.turns now r row (omega (arith, h.enough)) going e.is_read) ∙ behind (rows_of width count old) row (rows_read width (h.turns - 1) r)
          ∙ ap (λ rs. parse_map (λ rows. rs ++ rows) (rows_read width (h.turns - 1) r)) (sym grown);
    }

pub rows_refused : (width count : ℕ) (first now : List Token) (zs : List ℤ) → RowsSoFar width count first now zs → after_end_array now ≡ None → row_read width now ≡ None → rows_read width (length first) first ≡ None
rows_refused width count first now zs h going e = h.whole ∙ ap (parse_map (λ rows. rows_of width count zs ++ rows)) (row_refused width h.turns now going e)

pub rows_closed : (width count : ℕ) (first now r : List Token) (zs : List ℤ) → RowsSoFar width count first now zs → after_end_array now ≡ Some r → rows_read width (length first) first ≡ Some (rows_of width count zs, r)
rows_closed width count first now r zs h e =
    h.whole ∙ ap (parse_map (λ rows. rows_of width count zs ++ rows)) (rows_over width h.turns now r h.enough e) ∙ ap (λ rows. Some (rows, r)) (append-nil (rows_of width count zs))

-- ---- the whole text

abbrev at_end : {A : Type 0} → Option (A × List Token) → Option A
at_end None = None
at_end (Some (a, [])) = Some a
at_end (Some (a, t ∷ ts)) = None

end_here : {A : Type 0} (o : Option A) → o ≡ at_end (option_map (λ b. (b, [])) o)
end_here None = refl
end_here (Some a) = refl

more_here : {A : Type 0} (t : Token) (ts : List Token) (o : Option A) → None ≡ at_end (option_map (λ b. (b, t ∷ ts)) o)
more_here t ts None = refl
more_here t ts (Some a) = refl

at_the_end : (width : ℕ) (o : Option (json.Json × List Token)) → option_and_then (trace_in width) (option_and_then of_json (option_and_then (λ p. if_last p.0 p.1) o)) ≡ at_end (converted (by_data (trace_in width)) o)
at_the_end width None = refl
at_the_end width (Some (j, [])) = end_here (by_data (trace_in width) j)
at_the_end width (Some (j, t ∷ ts)) = more_here t ts (by_data (trace_in width) j)

of_rows : (width : ℕ) (r : List Token) (ds : Option Items)
    → option_map {U = List (List ℤ) × List Token} (λ b. (b, r)) (option_and_then (trace_in width) (option_map array ds)) ≡ option_map (λ b. (b, r)) (option_and_then (rows_in width) ds)
of_rows width r None = refl
of_rows width r (Some ds) = refl

trace_by_rows : (width : ℕ) (o : Option (json.Items × List Token)) → converted (by_data (trace_in width)) (parse_map json.array o) ≡ converted (λ js. option_and_then (rows_in width) (of_items js)) o
trace_by_rows width None = refl
trace_by_rows width (Some (js, r)) = of_rows width r (of_items js)

-- the rows that a text gives, by the rows behind its first bracket
abbrev pub trace_of : ℕ → List ℕ → Option (List (List ℤ))
trace_of width text = option_and_then (trace_in width) (read text)

pub no_trace : (width : ℕ) (text : List ℕ) → after_begin_array (tokens text) ≡ None → trace_of width text ≡ None
no_trace width text e =
    at_the_end width (value max_depth (tokens text)) ∙ ap at_end (no_array (List (List ℤ)) (trace_in width) (λ d h. ap (option_and_then (rows_in width)) h) max_depth (tokens text) e)

trace_first : (width : ℕ) (text : List ℕ) (r : List Token) → after_begin_array (tokens text) ≡ Some r → trace_of width text ≡ at_end (rows_read width (length r) r)
trace_first width text r e =
    at_the_end width (value max_depth (tokens text)) ∙ ap at_end (ap (converted (by_data (trace_in width))) (array_value max_depth (tokens text) r (omega arith) e) ∙ trace_by_rows width (items (value row_depth) (length r) r))

pub no_rows : (width : ℕ) (text : List ℕ) (r : List Token) → after_begin_array (tokens text) ≡ Some r → rows_read width (length r) r ≡ None → trace_of width text ≡ None
no_rows width text r e h = trace_first width text r e ∙ ap at_end h

pub more_behind : (width : ℕ) (text : List ℕ) (r s : List Token) (rows : List (List ℤ)) (t : Token) (rest : List Token) → after_begin_array (tokens text) ≡ Some r → rows_read width (length r) r ≡ Some (rows, s) → s ≡ t ∷ rest
    → trace_of width text ≡ None
more_behind width text r s rows t rest e h more = trace_first width text r e ∙ ap at_end (h ∙ ap (λ q. Some (rows, q)) more)

pub whole_trace : (width : ℕ) (text : List ℕ) (r s : List Token) (rows : List (List ℤ)) → after_begin_array (tokens text) ≡ Some r → rows_read width (length r) r ≡ Some (rows, s) → s ≡ []
    → trace_of width text ≡ Some rows
whole_trace width text r s rows e h over = trace_first width text r e ∙ ap at_end (h ∙ ap (λ q. Some (rows, q)) over)

-- whether a token is behind the rows
pub a_token_behind : (o : Option TextToken) (s r : List Token) → true ≡ is_some o → MatchOption o ((s ≡ []) × (r ≡ [])) (λ t. s ≡ token_of t ∷ r) → (t : Token) × (s ≡ t ∷ r)
a_token_behind None s r e h = absurd (cc)
a_token_behind (Some t) s r e h = (token_of t, h)

pub nothing_behind : (o : Option TextToken) (s r : List Token) → false ≡ is_some o → MatchOption o ((s ≡ []) × (r ≡ [])) (λ t. s ≡ token_of t ∷ r) → s ≡ []
nothing_behind None s r e h = h.0
nothing_behind (Some t) s r e h = absurd (cc)
