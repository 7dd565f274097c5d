-- Files in memory, by name.
use Rattle.std.specs.Prelude.{ℕ, ◌+◌, List, [], ◌∷◌, if◌then◌else◌, string_bytes, Option, Some, None, unwrap_or}
use Rattle.std.specs.Str.{bytes_eq}
use Rattle.outside.specs.declared.files.MemFile.{MemFile}

-- the bytes of the file of that name, if there is one
abbrev pub file_at : List MemFile → List ℕ → Option (List ℕ)
file_at [] name = None
file_at (file ∷ files) name = if bytes_eq (string_bytes file.name) name then Some file.bytes.items else file_at files name

-- the bytes of a file; one that is absent counts as empty
abbrev pub bytes_at : List MemFile → List ℕ → List ℕ
bytes_at files name = unwrap_or (file_at files name) []

-- the place of a file, or past the end where it is absent
abbrev pub place_of : List MemFile → List ℕ → ℕ
place_of [] name = 0
place_of (file ∷ files) name = if bytes_eq (string_bytes file.name) name then 0 else place_of files name + 1
