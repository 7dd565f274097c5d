use Rattle.std.proofs.Common.{◌≡◌, ◌∙◌, ◌-◌, ◌+◌, ℕ, List, length, drop, ap, sym, subst}
use Rattle.std.proofs.lemmas.List.{take_rest}
use Rattle.memchr.specs.Find.{is_byte, Passes, Nowhere, NoneBefore}
use Rattle.finding_lines.specs.Reading.{LacksFeed}
use Rattle.finding_file.specs.Searching.{IsFirstFeed, IsSearched}
use Rattle.finding_file.proofs.WindowLemmas.{looked-at_all, looked-at_some, lacks-from_searched, feed-found}
use Rattle.finding_file.proofs.window.Window.find_feed.Goals as goal

pub invariant_of-self : goal.invariant_of-self
invariant_of-self c =
    let hay = take_rest c.as_slice.result.now c.self.inside.searched ∙ ap (drop c.self.inside.searched) c.as_slice.ensures.value in
    looked-at_some c.self.inside.bytes.items c.self.inside.begin c.self.inside.searched c.in-Some.more c.self.invariant
    (subst (λ (h : List ℕ). NoneBefore (Passes (is_byte 10) h) 0 (length h) c.in-Some.more) hay c.in-Some.ensures.0)

pub invariant_of-self-in-None : goal.invariant_of-self-in-None
invariant_of-self-in-None c =
    let hay = take_rest c.as_slice.result.now c.self.inside.searched ∙ ap (drop c.self.inside.searched) c.as_slice.ensures.value in
    let all = looked-at_all c.self.inside.bytes.items c.self.inside.begin c.self.inside.searched c.self.invariant
    (subst (λ (h : List ℕ). Nowhere (Passes (is_byte 10) h) 0 (length h)) hay c.in-None.ensures) in
    let lengths : length c.self.inside.bytes.items ≡ c.len-self-inside.result = ap length (sym c.as_slice.ensures.value) ∙ c.as_slice.ensures.len ∙ sym c.len-self-inside.ensures in
    subst (λ (n : ℕ). IsSearched c.self.inside.bytes.items c.self.inside.begin n) lengths all

pub returns-in-Some-clause-found : goal.returns-in-Some-clause-found
returns-in-Some-clause-found c =
    let hay = take_rest c.as_slice.result.now c.self.inside.searched ∙ ap (drop c.self.inside.searched) c.as_slice.ensures.value in
    subst (λ (w : List ℕ). IsFirstFeed w (c.self.inside.searched + c.in-Some.more - c.self.inside.begin)) c.self.view_is
    (feed-found c.self.inside.bytes.items c.self.inside.begin c.self.inside.searched c.in-Some.more c.self.invariant
    (subst (λ (h : List ℕ). NoneBefore (Passes (is_byte 10) h) 0 (length h) c.in-Some.more) hay c.in-Some.ensures.0)
    (subst (λ (h : List ℕ). Passes (is_byte 10) h c.in-Some.more) hay c.in-Some.ensures.1))

pub returns-in-None-clause-found : goal.returns-in-None-clause-found
returns-in-None-clause-found c =
    let hay = take_rest c.as_slice.result.now c.self.inside.searched ∙ ap (drop c.self.inside.searched) c.as_slice.ensures.value in
    let all = looked-at_all c.self.inside.bytes.items c.self.inside.begin c.self.inside.searched c.self.invariant
    (subst (λ (h : List ℕ). Nowhere (Passes (is_byte 10) h) 0 (length h)) hay c.in-None.ensures) in
    subst LacksFeed c.self.view_is (lacks-from_searched c.self.inside.bytes.items c.self.inside.begin all)
