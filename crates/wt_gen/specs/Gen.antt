-- The page that is made from a number: as many sections, each with a heading, a paragraph with italic text and a link,
-- a list and a call of the template `T`.
use Rattle.std.specs.Prelude.{ℕ, zero, suc, List, [], ◌++◌, codes, decimal}

-- A number between two texts.
abbrev pub numbered : List ℕ → ℕ → List ℕ → List ℕ
numbered before k after = before ++ (decimal k ++ after)

-- The section of a number.
unfoldable pub section : ℕ → List ℕ
section k =
    numbered (codes "== Section ") k (codes " ==\n\n")
    ++ (numbered (codes "Word ''") k (codes "'' and ")
    ++ (numbered (codes "[[Page ") k (codes "]].\n\n")
    ++ numbered (codes "* item ") k (codes "\n\n{{T}}\n\n")))

-- The sections from 1 to a number, in order.
abbrev pub sections : ℕ → List ℕ
sections zero = []
sections (suc n) = sections n ++ section (suc n)

-- The template of these pages, in bold.
abbrev pub template : List ℕ
template = codes "'''t'''"
