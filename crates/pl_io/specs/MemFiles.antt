-- Files in memory by their names, oldest first.
use Rattle.std.specs.Prelude.{ℕ, suc, zero, ◌<◌, ◌≤◌, List, [], ◌∷◌, min, length, drop}
use Rattle.std.specs.Prelude.{Option, Some, None, if◌then◌else◌, string_bytes, bytes_eq}
use Rattle.std.specs.Option.{option_or}
use Rattle.pl_io.specs.declared.memory.file.MemFile.{MemFile}
use Rattle.pl_io.specs.declared.memory.file.Opened.{Opened}

-- the bytes under a name: those of the newest file that has it
abbrev pub file_in : List MemFile → List ℕ → Option (List ℕ)
file_in [] name = None
file_in (file ∷ newer) name = option_or (file_in newer name)
    (if bytes_eq (string_bytes file.name) name then Some file.bytes.items else None)

-- the bytes of the file at an index
abbrev pub bytes_at : List MemFile → ℕ → List ℕ
bytes_at [] k = []
bytes_at (file ∷ newer) zero = file.bytes.items
bytes_at (file ∷ newer) (suc k) = bytes_at newer k

-- the name of the file at an index
abbrev pub name_at : List MemFile → ℕ → List ℕ
name_at [] k = []
name_at (file ∷ newer) zero = string_bytes file.name
name_at (file ∷ newer) (suc k) = name_at newer k

-- the file is one of these, and its place no later than its end
abbrev pub IsInside : List MemFile → Opened → Type 0
IsInside files opened =
    (opened.file < length files) × (opened.place ≤ length (bytes_at files opened.file))

-- what is left of an open file
abbrev pub unread : List MemFile → Opened → List ℕ
unread files opened = drop opened.place (bytes_at files opened.file)

-- the name of an open file
abbrev pub opened_name : List MemFile → Opened → List ℕ
opened_name files opened = name_at files opened.file

-- how many bytes a read gives: as many as its step, the buffer and what is left allow
abbrev pub given : ℕ → ℕ → Option (List ℕ) → ℕ
given step room None = 0
given step room (Some rest) = min (min step (length rest)) room
