-- The listing of a tree: a line for each node that has a number, with its place in the page.
use Rattle.std.specs.Prelude.{ℕ, List, [], ◌++◌, Option, Some, None, ◌==◌, codes, decimal, if◌then◌else◌}
use Rattle.std.specs.List.{flat_map}
use Rattle.wt_tree.specs.declared.kind.Kind.{Kind}
use Rattle.wt_tree.specs.declared.kind.Ranges.{Ranges}
use Rattle.wt_tree.specs.Tree.{Tree}
use Rattle.wt_tree.specs.Look.{rows}
use Rattle.wt_tree.specs.Kinds.{word}

-- a blank and a number
abbrev pub next_number : ℕ → List ℕ
next_number n = codes " " ++ decimal n

-- the first and the last place, and how many bytes the two delimiters have
unfoldable pub place_numbers : Ranges → List ℕ
place_numbers r = next_number r.start ++ (next_number r.end ++ (next_number r.open_w ++ next_number r.close_w))

-- `mwN KIND START END OPEN CLOSE` and a line break
unfoldable pub line : ℕ → Kind → Ranges → List ℕ
line id kind r = codes "mw" ++ (decimal id ++ (codes " " ++ (word kind ++ (place_numbers r ++ codes "\n"))))

-- A node without a number has no line, and neither has one without a place. (Every numbered node of a page has a place.)
unfoldable pub line_of : ℕ × Kind × Option Ranges → List ℕ
line_of (id, kind, None) = []
line_of (id, kind, Some r) = if id == 0 then [] else line id kind r

-- the lines of all nodes, in preorder
abbrev pub listing : Tree → List ℕ
listing t = flat_map line_of (rows t)
