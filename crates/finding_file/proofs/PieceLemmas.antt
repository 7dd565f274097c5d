-- What one more piece adds to what is held.
use Rattle.std.proofs.Common.{◌≡◌, ◌≢◌, ℕ, ◌+◌, ◌<◌, ◌≤◌, List, [], ◌++◌, length, take, drop, refl, ap, sym, ◌∙◌, arith, append_assoc, length-append}
use Rattle.std.proofs.lemmas.List.{take-append-drop, drop-drop, drop_at, drop_all, append-nil, length-take, length-take-le}
use Rattle.outside.specs.Contents.{IsRead}
use Rattle.finding_file.specs.Reading.{Reading, rest_of, Agrees}

-- what stands behind what is held
more-behind : (old : Reading) (bytes : List ℕ) (from : ℕ) → (a : Agrees old bytes) → from ≡ old.at + length old.held → drop from bytes ≡ a.0
more-behind old bytes from a e =
    ap (λ n. drop n bytes) e ∙ sym (drop-drop (length old.held) old.at bytes) ∙ ap (drop (length old.held)) a.1 ∙ drop_at old.held a.0 (length old.held) refl

pub agrees-added : (old new : Reading) (bytes buf : List ℕ) (from count : ℕ) → Agrees old bytes → IsRead bytes from buf count → from ≡ old.at + length old.held → new.at ≡ old.at → new.held ≡ old.held ++ take count buf → Agrees new bytes
agrees-added old new bytes buf from count a read e at held =
    let front : take count buf ≡ take count a.0 = read.front ∙ ap (take count) (more-behind old bytes from a e) in (
      drop count a.0,
      ap (λ n. drop n bytes) at ∙ a.1 ∙ ap (λ m. old.held ++ m) (sym (take-append-drop count a.0)) ∙ sym (append_assoc old.held (take count a.0) (drop count a.0))
          ∙ ap (λ h. h ++ drop count a.0) (ap (λ t. old.held ++ t) (sym front) ∙ sym held),
    )

pub meets-end : (old : Reading) (bytes buf : List ℕ) (from count : ℕ) → Agrees old bytes → IsRead bytes from buf count → from ≡ old.at + length old.held → count ≡ 0 → rest_of old bytes ≡ old.held
meets-end old bytes buf from count a read e none =
    let past : length bytes ≤ from = read.at_end none in
    let nothing : a.0 ≡ [] = sym (more-behind old bytes from a e) ∙ drop_all from bytes past in
    a.1 ∙ ap (λ m. old.held ++ m) nothing ∙ append-nil old.held

pub meets-past : (old : Reading) (bytes buf : List ℕ) (from count : ℕ) → Agrees old bytes → IsRead bytes from buf count → from ≡ old.at + length old.held → count ≢ 0 → count ≤ length buf → length old.held < length (rest_of old bytes)
meets-past old bytes buf from count a read e some within =
    let front : take count buf ≡ take count a.0 = read.front ∙ ap (take count) (more-behind old bytes from a e) in
    let lengths = ap length front in
    let left = length-take-le count buf within in
    let right = length-take count a.0 in
    let all = ap length a.1 in
    let parts = length-append old.held a.0 in
    omega (arith, lengths, left, right, all, parts, some)
