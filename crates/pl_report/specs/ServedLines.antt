-- The lines of a run that serves the archive. Each ends with LF.
use Rattle.std.specs.Prelude.{ℕ, List, ◌++◌, codes, decimal}

-- a link that was served, by the status of its reply, or 0 where none was sent whole
unfoldable pub served_text : ℕ → List ℕ
served_text status = codes "served " ++ decimal status ++ codes "\n"

unfoldable pub store_fault_text : List ℕ
store_fault_text = codes "store fault\n"

unfoldable pub door_fault_text : List ℕ
door_fault_text = codes "door fault\n"
