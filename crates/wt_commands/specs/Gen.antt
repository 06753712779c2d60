-- What `gen` counts of the page that it makes from a number.
use Rattle.std.specs.Prelude.{ℕ, suc, ◌++◌, ◌==◌, if◌then◌else◌, List, [], ◌∷◌, Option, codes, length}
use Rattle.std.specs.Fmt.{decimal}
use Rattle.wt_devices.specs.Shelf.{look_up}
use Rattle.wt_tree.specs.declared.kind.Kind.{Kind}
use Rattle.wt_tree.specs.declared.kind.Ranges.{Ranges}
use Rattle.wt_tree.specs.Look.{rows}
use Rattle.wt_tree.specs.Source.{flat}
use Rattle.wt_tree.specs.Tiling.{is_group}
use Rattle.wt_tree.specs.Tree.{Tree}
use Rattle.wt_expand.specs.Work.{Pages}
use Rattle.wt_schema.specs.Read.{Read, page as as_page, ill, misfit, read}
use Rattle.wt_gen.specs.Gen.{sections, template}
use Rattle.wt_schema.specs.Html.{html_text}

-- the page with so many sections
abbrev pub gen_page : ℕ → List ℕ
gen_page n = sections n

-- the page of the template that each section calls, with its full name
abbrev pub template_page : List ℕ × List ℕ
template_page = (codes "Template:T", template)

-- its folder: this page alone
unfoldable pub gen_pages : Pages
gen_pages = look_up (template_page ∷ [])

-- ---- counts over the rows of a tree

abbrev pub Row : Type 0
Row = ℕ × Kind × Option Ranges

-- how many nodes have a number
abbrev pub number_count : List Row → ℕ
number_count [] = 0
number_count (r ∷ rs) = (if r.0 == 0 then number_count rs else suc (number_count rs))

-- how many are groups
abbrev pub group_count : List Row → ℕ
group_count [] = 0
group_count (r ∷ rs) = (if is_group r.1 then suc (group_count rs) else group_count rs)

-- ---- the way back

-- how many bytes come back: those of the source of what was read, none where nothing was
abbrev pub back : Read → ℕ
back (as_page t unsourced) = length (flat t)
back (ill place why) = 0
back (misfit n why) = 0

-- ---- the line

unfoldable pub line : ℕ → ℕ → ℕ → ℕ → List ℕ
line bytes nodes groups back =
    codes "bytes " ++ (decimal bytes ++ (codes " nodes " ++ (decimal nodes ++ (codes " groups " ++ (decimal groups
    ++ (codes " back " ++ (decimal back ++ codes "\n")))))))

-- of a page of so many bytes and of this tree
unfoldable pub gen_line : ℕ → Tree → List ℕ
gen_line bytes t = line bytes (number_count (rows t)) (group_count (rows t)) (back (read (html_text t)))
