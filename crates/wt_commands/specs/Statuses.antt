-- How a call ends, and the number of each end.
use Rattle.std.specs.Prelude.{ℕ, ⊤, ◌≤◌}
use Rattle.wt_commands.specs.declared.status.Status.{Status}
use Rattle.wt_commands.specs.declared.status.Status.TheVariants.{Done, Usage, PageRefused, HtmlRefused, EditRefused, ReadFault, FolderFault, WriteFault, NoMemory}

-- the number with which the program ends
abbrev pub code : Status → ℕ
code Done = 0
code Usage = 1
code PageRefused = 2
code HtmlRefused = 3
code EditRefused = 4
code ReadFault = 5
code FolderFault = 6
code WriteFault = 7
code NoMemory = 8

-- the call was answered: it is done, or what it was given is refused
abbrev pub IsAnswer : Status → Type 0
IsAnswer Done = ⊤
IsAnswer Usage = ⊤
IsAnswer PageRefused = ⊤
IsAnswer HtmlRefused = ⊤
IsAnswer EditRefused = ⊤
IsAnswer ReadFault = ⊥
IsAnswer FolderFault = ⊥
IsAnswer WriteFault = ⊥
IsAnswer NoMemory = ⊥

-- the number of an answer
abbrev pub IsDoneOrRefused : ℕ → Type 0
IsDoneOrRefused status = status ≤ code EditRefused

-- the number of no answer, but of a device's fault or of want of memory: which of these it is the line says that was written
abbrev pub IsFaultOrNoMemory : ℕ → Type 0
IsFaultOrNoMemory status = (code ReadFault ≤ status) × (status ≤ code NoMemory)
