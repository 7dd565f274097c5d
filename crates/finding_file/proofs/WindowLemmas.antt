-- What a search for a line feed finds, and what it may skip later.
use Rattle.std.proofs.Common.{◌≡◌, ◌≢◌, ℕ, ◌+◌, ◌-◌, ◌<◌, ◌≤◌, List, ◌++◌, length, take, drop, get_or, ap, sym, ◌∙◌, ⊎_elim, arith, length-drop, length-append}
use Rattle.std.proofs.lemmas.List.{get_or-drop, get_or-take, length-take, get_or_append_left}
use Rattle.std.proofs.lemmas.List.Elements.{All-from_get_or}
use Rattle.std.proofs.lemmas.Bool.{cases_lt}
use Rattle.std.proofs.lemmas.Bool.Decides.{Decides-eqb}
use Rattle.memchr.specs.Find.{is_byte, Passes, Nowhere, NoneBefore}
use Rattle.finding_lines.specs.Reading.{LacksFeed}
use Rattle.finding_file.specs.Searching.{IsFirstFeed, IsSearched}

-- a byte further on
at-drop : (bytes : List ℕ) (n k : ℕ) → n ≤ k → get_or (drop n bytes) (k - n) 0 ≡ get_or bytes k 0
at-drop bytes n k le = get_or-drop n bytes (k - n) 0 ∙ ap (λ j. get_or bytes j 0) (omega arith)

no-feed : (bytes : List ℕ) (n upto : ℕ) → Nowhere (Passes (is_byte 10) (drop n bytes)) 0 upto → (k : ℕ) → n ≤ k → k - n < upto → get_or bytes k 0 ≢ 10
no-feed bytes n upto none k le below e =
    none (k - n) (omega arith) below ((Decides-eqb (get_or (drop n bytes) (k - n) 0) 10).1 (at-drop bytes n k le ∙ e))

-- what was looked at before, and what was looked at now
looked-on : (bytes : List ℕ) (begin searched upto : ℕ) → IsSearched bytes begin searched → Nowhere (Passes (is_byte 10) (drop searched bytes)) 0 upto → (k : ℕ) → begin ≤ k → k < searched + upto → get_or bytes k 0 ≢ 10
looked-on bytes begin searched upto before none k le below =
    ⊎_elim
    (λ (near : k < searched). before.none k le near)
    (λ (far : searched ≤ k). no-feed bytes searched upto none k far (omega arith))
    (cases_lt k searched)

pub looked-at_all : (bytes : List ℕ) (begin searched : ℕ) → IsSearched bytes begin searched → Nowhere (Passes (is_byte 10) (drop searched bytes)) 0 (length (drop searched bytes)) → IsSearched bytes begin (length bytes)
looked-at_all bytes begin searched before none =
    let order = before.order in
    let inside = before.inside in
    let lengths = length-drop searched bytes in
    record {
      order = omega (arith, order, inside);
      inside = omega arith;
      none = λ k le below. looked-on bytes begin searched (length (drop searched bytes)) before none k le (omega (arith, lengths, below, inside));
    }

pub lacks-from_searched : (bytes : List ℕ) (begin : ℕ) → IsSearched bytes begin (length bytes) → LacksFeed (drop begin bytes)
lacks-from_searched bytes begin all =
    let lengths = length-drop begin bytes in
    All-from_get_or (λ b. b ≢ 10) (drop begin bytes) 0
    (λ i below e. all.none (begin + i) (omega arith) (omega (arith, lengths, below)) (sym (get_or-drop begin bytes i 0) ∙ e))

pub looked-at_some : (bytes : List ℕ) (begin searched more : ℕ) → IsSearched bytes begin searched → NoneBefore (Passes (is_byte 10) (drop searched bytes)) 0 (length (drop searched bytes)) more → IsSearched bytes begin (searched + more)
looked-at_some bytes begin searched more before first =
    let order = before.order in
    let inside = before.inside in
    let high = first.high in
    let lengths = length-drop searched bytes in
    record {
      order = omega (arith, order);
      inside = omega (arith, high, lengths, inside);
      none = λ k le below. looked-on bytes begin searched more before first.before k le below;
    }

pub feed-found : (bytes : List ℕ) (begin searched more : ℕ) → IsSearched bytes begin searched → NoneBefore (Passes (is_byte 10) (drop searched bytes)) 0 (length (drop searched bytes)) more → Passes (is_byte 10) (drop searched bytes) more → IsFirstFeed (drop begin bytes) (searched + more - begin)
feed-found bytes begin searched more before first feed =
    let now = looked-at_some bytes begin searched more before first in
    let order = before.order in
    let inside = before.inside in
    let high = first.high in
    let lengths = length-drop searched bytes in
    let others = length-drop begin bytes in
    let taken = length-take (searched + more - begin) (drop begin bytes) in
    let is : get_or (drop searched bytes) more 0 ≡ 10 = (Decides-eqb (get_or (drop searched bytes) more 0) 10).0 feed in
    record {
      inside = omega (arith, high, lengths, others, order, inside);
      feed = at-drop bytes begin (searched + more) (omega (arith, order)) ∙ sym (get_or-drop searched bytes more 0) ∙ is;
      before = All-from_get_or (λ b. b ≢ 10) (take (searched + more - begin) (drop begin bytes)) 0
          (λ i below e.
          let near : i < searched + more - begin = omega (arith, taken, below) in
          now.none (begin + i) (omega arith) (omega (arith, near)) (sym (get_or-drop begin bytes i 0) ∙ sym (get_or-take (searched + more - begin) (drop begin bytes) i 0 near) ∙ e));
    }

-- after bytes are done with
pub searched-skip : (bytes : List ℕ) (begin searched count : ℕ) → IsSearched bytes begin searched → count ≤ length (drop begin bytes) → IsSearched bytes (begin + count) (begin + count)
searched-skip bytes begin searched count before few =
    let order = before.order in
    let inside = before.inside in
    let lengths = length-drop begin bytes in
    record {
      order = omega arith;
      inside = omega (arith, few, lengths, order, inside);
      none = λ k le below. absurd (omega (arith, le, below));
    }

-- the same bytes without those that are done with
pub searched-compact : (bytes : List ℕ) (begin searched : ℕ) → IsSearched bytes begin searched → IsSearched (drop begin bytes) 0 (searched - begin)
searched-compact bytes begin searched before =
    let order = before.order in
    let inside = before.inside in
    let lengths = length-drop begin bytes in
    record {
      order = omega arith;
      inside = omega (arith, order, inside, lengths);
      none = λ k le below e. before.none (begin + k) (omega arith) (omega (arith, below, order)) (sym (get_or-drop begin bytes k 0) ∙ e);
    }

-- and with more behind them
pub searched-add : (bytes more : List ℕ) (begin searched : ℕ) → IsSearched bytes begin searched → IsSearched (bytes ++ more) begin searched
searched-add bytes more begin searched before =
    let inside = before.inside in
    let lengths = length-append bytes more in
    record {
      order = before.order;
      inside = omega (arith, inside, lengths);
      none = λ k le below e. before.none k le below (sym (get_or_append_left bytes more 0 k (omega (arith, below, inside))) ∙ e);
    }
