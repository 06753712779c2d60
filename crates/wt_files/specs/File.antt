-- What was read of a file.
use Rattle.std.specs.Prelude.{◌≡◌, ℕ, ◌≤◌, List, take, vec_items, vec_len, ⊤}
use Rattle.wt_files.specs.declared.file.FileRead.{FileRead}
use Rattle.wt_files.specs.declared.file.FileRead.TheVariants.{Read, Absent, Failed, NoMemory}

-- no more bytes than these were read
abbrev pub IsWithin : ℕ → FileRead → Type 0
IsWithin most (Read bytes) = vec_len bytes ≤ most
IsWithin most Absent = ⊤
IsWithin most Failed = ⊤
IsWithin most NoMemory = ⊤

-- of a file that holds these bytes the first were read: as many as were asked for, or all of them
abbrev pub IsFrontOf : ℕ → List ℕ → FileRead → Type 0
IsFrontOf most all (Read bytes) = vec_items bytes ≡ take most all
IsFrontOf most all Absent = ⊤
IsFrontOf most all Failed = ⊤
IsFrontOf most all NoMemory = ⊤
