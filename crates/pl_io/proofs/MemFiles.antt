-- Files in memory: the newest of a name, and one more file.
use Rattle.std.proofs.Common.{◌≡◌, ◌≢◌, ℕ, suc, zero, ◌+◌, ◌<◌, take, List, [], ◌∷◌, ◌++◌, Bool, true, false, Option, Some, None, length, length-append, drop, get_or, arith, refl, ◌∙◌, sym}
use Rattle.std.specs.Prelude.{string_bytes, bytes_eq}
use Rattle.std.specs.Prelude.{IfSome, option_map, if◌then◌else◌}
use Rattle.std.specs.Option.{option_or}
use Rattle.std.proofs.lemmas.Slice.Eq.{bytes_eq-Decides}
use Rattle.std.proofs.lemmas.Bool.{false_from_ne_true}
use Rattle.std.proofs.lemmas.List.{drop-drop, take-append-drop}
use Rattle.pl_io.specs.declared.memory.file.MemFile.{MemFile}
use Rattle.pl_io.specs.declared.memory.file.Opened.{Opened}
use Rattle.pl_io.specs.MemFiles.{IsInside, bytes_at, file_in, name_at, opened_name, unread}

-- a file with the name behind which no other has it
pub file_in-newest : (files : List MemFile) (k : ℕ) (name : List ℕ) (other : MemFile) → k < length files →
    file_in (drop (suc k) files) name ≡ None → bytes_eq (string_bytes (get_or files k other).name) name ≡ true →
    file_in files name ≡ Some (bytes_at files k)
file_in-newest [] k name other inside none named = absurd (omega arith)
file_in-newest (file ∷ files) zero name other inside none named = rw (none, named)
file_in-newest (file ∷ files) (suc k) name other inside none named =
    rw (file_in-newest files k name other (omega arith) none named)

-- that file has the name
pub name_at-named : (files : List MemFile) (k : ℕ) (name : List ℕ) (other : MemFile) → k < length files →
    bytes_eq (string_bytes (get_or files k other).name) name ≡ true → name_at files k ≡ name
name_at-named [] k name other inside named = absurd (omega arith)
name_at-named (file ∷ files) zero name other inside named = (bytes_eq-Decides (string_bytes file.name) name).0 named
name_at-named (file ∷ files) (suc k) name other inside named = name_at-named files k name other (omega arith) named

option_or-None : {T : Type 0} (value : Option T) → option_or value None ≡ value
option_or-None None = refl
option_or-None (Some value) = refl

option_or-option_or : {T : Type 0} (a b c : Option T) → option_or (option_or a b) c ≡ option_or a (option_or b c)
option_or-option_or None b c = refl
option_or-option_or (Some value) b c = refl

-- after one more file
pub file_in-append : (files : List MemFile) (file : MemFile) (name : List ℕ) →
    file_in (files ++ file ∷ []) name ≡ option_or (if bytes_eq (string_bytes file.name) name then Some file.bytes.items else None) (file_in files name)
file_in-append [] file name = sym (option_or-None _)
file_in-append (first ∷ files) file name = rw (file_in-append files file name, option_or-option_or)

pub bytes_at-append : (files more : List MemFile) (k : ℕ) → k < length files → bytes_at (files ++ more) k ≡ bytes_at files k
bytes_at-append [] more k inside = absurd (omega arith)
bytes_at-append (file ∷ files) more zero inside = refl
bytes_at-append (file ∷ files) more (suc k) inside = bytes_at-append files more k (omega arith)

name_at-append : (files more : List MemFile) (k : ℕ) → k < length files → name_at (files ++ more) k ≡ name_at files k
name_at-append [] more k inside = absurd (omega arith)
name_at-append (file ∷ files) more zero inside = refl
name_at-append (file ∷ files) more (suc k) inside = name_at-append files more k (omega arith)

-- the bytes at an index are those of the file there
pub bytes_at-get : (files : List MemFile) (k : ℕ) (other : MemFile) → k < length files → bytes_at files k ≡ (get_or files k other).bytes.items
bytes_at-get [] k other inside = absurd (omega arith)
bytes_at-get (file ∷ files) zero other inside = refl
bytes_at-get (file ∷ files) (suc k) other inside = bytes_at-get files k other (omega arith)

pub file_in-added : (files : List MemFile) (file : MemFile) (name : List ℕ) → string_bytes file.name ≡ name →
    file_in (files ++ file ∷ []) name ≡ Some file.bytes.items
file_in-added files file name named =
    rw (file_in-append files file name, (bytes_eq-Decides (string_bytes file.name) name).1 named)

pub file_in-other : (files : List MemFile) (file : MemFile) (name other : List ℕ) → string_bytes file.name ≡ name → other ≢ name →
    file_in (files ++ file ∷ []) other ≡ file_in files other
file_in-other files file name other named ne =
    rw (file_in-append files file other, false_from_ne_true _ (λ same. ne (sym ((bytes_eq-Decides (string_bytes file.name) other).0 same) ∙ named)))

-- an open file stays as it is
inside-append : (files more : List MemFile) (opened : Option Opened) → IfSome opened (IsInside files) → IfSome opened (IsInside (files ++ more))
inside-append files more None inside = inside
inside-append files more (Some opened) inside = (omega (arith, length-append files more), rw (bytes_at-append files more opened.file inside.0) inside.1)

pub unread-append : (files more : List MemFile) (opened : Option Opened) → IfSome opened (IsInside files) →
    option_map (unread (files ++ more)) opened ≡ option_map (unread files) opened
unread-append files more None inside = refl
unread-append files more (Some opened) inside = rw (bytes_at-append files more opened.file inside.0)

pub name-append : (files more : List MemFile) (opened : Option Opened) → IfSome opened (IsInside files) →
    option_map (opened_name (files ++ more)) opened ≡ option_map (opened_name files) opened
name-append files more None inside = refl
name-append files more (Some opened) inside = rw (name_at-append files more opened.file inside.0)

-- the same where one more file may not have found memory
pub inside-pushed : (files pushed more : List MemFile) (found : Bool) (opened : Option Opened) →
    pushed ≡ (if found then files ++ more else files) → IfSome opened (IsInside files) → IfSome opened (IsInside pushed)
inside-pushed files pushed more true opened is inside = rw is (inside-append files more opened inside)
inside-pushed files pushed more false opened is inside = rw is inside

-- the bytes behind a place are those that were read and those behind the next place
pub read_on : (bytes buffer : List ℕ) (place n : ℕ) → take n buffer ≡ take n (drop place bytes) →
    drop place bytes ≡ take n buffer ++ drop (place + n) bytes
read_on bytes buffer place n front = rw (front, ← drop-drop n place bytes, take-append-drop)
