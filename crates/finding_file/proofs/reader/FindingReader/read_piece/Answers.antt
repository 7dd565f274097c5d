use Rattle.std.proofs.Common.{◌≡◌, ◌+◌, ◌++◌, ◌∙◌, ℕ, List, IfSome, length, take, ap, subst, string_bytes, arith}
use Rattle.std.proofs.lemmas.List.{take-append-le}
use Rattle.outside.specs.Contents.{IsRead}
use Rattle.finding_file.specs.Reading.{Reading, Agrees}
use Rattle.finding_file.proofs.PieceLemmas.{agrees-added}
use Rattle.finding_file.proofs.ReaderLemmas.{told-both}
use Rattle.finding_file.proofs.reader.FindingReader.read_piece.Goals as goal

pub returns-clause-agrees : goal.returns-clause-agrees
returns-clause-agrees g c =
    let old = c.args.self.now in
    let view = c.self.view_is in
    let count = c.in_ok-count.count in
    let buf = c.read_at.new.buf in
    let from = c.self.inside.at + length c.bytes.result.now in
    let new : Reading = record { name = string_bytes c.self.inside.name; limit = c.self.inside.limit; at = c.self.inside.at; number = c.self.inside.number; held = c.add.new.self } in
    let name : c.as_str.result.now ≡ old.name = c.as_str.ensures.value ∙ ap (λ (r : Reading). r.name) view in
    let read = subst (λ (n : List ℕ). IfSome ((g.S.Shelf.state c.args.shelf.now).file n) (λ bytes. IsRead bytes from buf count)) name c.in_ok-count.ensures.bytes in
    let at : c.self.inside.at ≡ old.at = ap (λ (r : Reading). r.at) view in
    let window : c.self.inside.window ≡ old.held = ap (λ (r : Reading). r.held) view in
    let lengths = ap length (c.bytes.ensures ∙ window) in
    let place : from ≡ old.at + length old.held = omega (arith, at, lengths) in
    let added : c.add.new.self ≡ c.self.inside.window ++ take count buf =
    c.in_ok-add.ensures.ok ∙ ap (λ (m : List ℕ). c.self.inside.window ++ m) (take-append-le count buf _ c.in_ok-count.ensures.within) in
    told-both ((g.S.Shelf.state c.args.shelf.now).file old.name) (Agrees old) (λ bytes. IsRead bytes from buf count) (Agrees new) c.requires.agrees read
    (λ bytes a r. agrees-added old new bytes buf from count a r place at (added ∙ ap (λ (h : List ℕ). h ++ take count buf) window))
