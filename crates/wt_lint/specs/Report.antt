-- The lines of `lint`.
use Rattle.std.specs.Prelude.{ℕ, List, ◌++◌, codes, decimal}
use Rattle.std.specs.List.{flat_map}
use Rattle.wt_lint.specs.Kinds.{word}
use Rattle.wt_lint.specs.Lines.{Located}

-- a blank and a number
abbrev pub next_number : ℕ → List ℕ
next_number n = codes " " ++ decimal n

-- `KIND LINE COLUMN START END` and a line break
unfoldable pub line : Located → List ℕ
line f = word f.kind ++ (next_number f.line ++ (next_number f.column ++ (next_number f.start ++ (next_number f.end ++ codes "\n"))))

-- the lines of findings
abbrev pub finding_lines : List Located → List ℕ
finding_lines fs = flat_map line fs
