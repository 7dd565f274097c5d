-- Hashes of paths, and the first cell of each hash.
use Rattle.std.specs.Prelude.{◌≡◌, ℕ, ◌+◌, ◌*◌, ◌%◌, ◌^◌, List, [], ◌∷◌, Option, Some, None, if◌then◌else◌, nat_eq, bit_xor}
use Rattle.indexmap.specs.IndexMap.{IndexMap, get_by}
use Rattle.program_tree.specs.Tree.{CellData}

-- the hash of a text with one more byte
unfoldable pub with_byte : ℕ → ℕ → ℕ
with_byte hash byte = bit_xor hash byte * 1099511628211 % 2 ^ 64

abbrev pub with_bytes : ℕ → List ℕ → ℕ
with_bytes hash [] = hash
with_bytes hash (b ∷ bs) = with_bytes (with_byte hash b) bs

abbrev pub hash_of : List ℕ → ℕ
hash_of text = with_bytes 14695981039346656037 text

-- the place of the first cell whose path has a hash, among cells that begin at a place
abbrev pub first_hashed : ℕ → ℕ → List CellData → Option ℕ
first_hashed hash place [] = None
first_hashed hash place (c ∷ cs) = if nat_eq (hash_of c.path) hash then Some place else first_hashed hash (place + 1) cs

-- a map finds by each hash the first of the cells that begin at a place
abbrev pub FindsHashes : {S : Type 0} → IndexMap ℕ ℕ S → ℕ → List CellData → Type 0
FindsHashes found place cs = (hash : ℕ) → get_by (nat_eq hash) found ≡ first_hashed hash place cs
