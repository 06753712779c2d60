-- Worked cases of rows, units and blocks.
use Rattle.std.proofs.Common.{◌≡◌, ℕ, None, List, [], ◌∷◌, ◌++◌, refl, sym, subst, arith}
use Rattle.std.specs.Prelude.{codes, map, replicate}
use Rattle.wt_span.specs.Items.{Item, char}
use Rattle.wt_lines.specs.declared.kind.LineKind.{LineKind}
use Rattle.wt_lines.specs.declared.kind.LineKind.TheVariants as line
use Rattle.wt_lines.specs.Kinds.{kind_of_signs}
use Rattle.wt_tables.specs.Extents.{inner_len}
use Rattle.wt_tables.specs.Parts.{units}
use Rattle.wt_page.specs.Rows.{Row, kind_of, rows_from, rows}
use Rattle.wt_page.specs.Stretches.{gap}
use Rattle.wt_page.specs.Texts.{with_separators, para, pre}
use Rattle.wt_page.specs.Tables.{gaps}
use Rattle.wt_page.specs.Body.{blocks_by}
use Rattle.wt_part_laws.specs.Units.{IsUnit}
use Rattle.wt_part_laws.specs.Blocks.{paragraph, BeginOtherwise, AreBlocks}

-- characters of the page, and a line of them with its break
abbrev page : List ℕ → List Item
page bs = map (char None) bs

abbrev broken : List ℕ → List Item
broken bs = page (bs ++ 10 ∷ [])

-- the kinds of a page's rows
abbrev kinds : List Item → List LineKind
kinds xs = map kind_of (rows xs)

-- the same, by units
abbrev unit_kinds : List Item → List (List LineKind)
unit_kinds xs = map (map kind_of) (units kind_of (rows xs))

-- ---- kinds

-- behind the end of the only table no line is a cell
behind_the_end : kinds (broken (codes "{|") ++ (broken (codes "|}") ++ page (codes "| a"))) ≡ line.TableOpen ∷ line.TableEnd ∷ line.Text ∷ []
unfolding rows kind_of_signs
behind_the_end = refl

-- behind the end of an inner one it is
behind_the_inner_end : kinds (broken (codes "{|") ++ (broken (codes "{|") ++ (broken (codes "|}") ++ page (codes "| a"))))
    ≡ line.TableOpen ∷ line.TableOpen ∷ line.TableEnd ∷ line.Cell ∷ line.TableEnd ∷ []
unfolding rows kind_of_signs
behind_the_inner_end = refl

-- a line that ends no table is text
nothing_to_end : kinds (page (codes "|}")) ≡ line.Text ∷ []
unfolding rows kind_of_signs
nothing_to_end = refl

-- the seventeenth of nested tables isn't opened, and then the first line that ends one ends the sixteenth; the tables that no line ends are
-- ended behind the last line
seventeen : map kind_of (rows_from 0 (replicate 17 (page (codes "{|")) ++ page (codes "|}") ∷ page (codes "{|") ∷ []))
    ≡ replicate 16 line.TableOpen ++ (line.Text ∷ line.TableEnd ∷ line.TableOpen ∷ replicate 16 line.TableEnd)
unfolding kind_of_signs
seventeen = refl

-- ---- units

nested : unit_kinds (broken (codes "a") ++ (broken (codes "{|") ++ (broken (codes "| b") ++ (broken (codes "{|") ++ (broken (codes "|}")
    ++ (broken (codes "|} c") ++ page (codes "d"))))))) ≡
    (line.Text ∷ []) ∷ (line.TableOpen ∷ line.Cell ∷ line.TableOpen ∷ line.TableEnd ∷ line.TableEnd ∷ []) ∷ (line.Text ∷ []) ∷ (line.Text ∷ []) ∷ []
unfolding rows kind_of_signs inner_len
nested = refl

-- tables that no line ends are ended behind the last line
unended : unit_kinds (broken (codes "{|") ++ (broken (codes "| a") ++ page (codes "{|")))
    ≡ (line.TableOpen ∷ line.Cell ∷ line.TableOpen ∷ line.TableEnd ∷ line.TableEnd ∷ []) ∷ []
unfolding rows kind_of_signs inner_len
unended = refl

abbrev row : LineKind → List ℕ → Row
row k bs = record { kind = k; lead = []; items = page bs; ending = page (10 ∷ []) }

-- a row that opens a table is no unit without the one that ends it
open_alone : IsUnit (row line.TableOpen (codes "{|") ∷ []) → ⊥
open_alone h = absurd (omega (arith, h.balances))

-- two tables side by side are no unit
two_tables : IsUnit (row line.TableOpen (codes "{|") ∷ row line.TableEnd (codes "|}") ∷ row line.TableOpen (codes "{|") ∷ row line.TableEnd (codes "|}") ∷ []) → ⊥
two_tables h = let l = h.ends_fewer 2 (omega arith) (omega arith) in absurd (omega (arith, l))

-- ---- blocks

abbrev one : Row
one = row line.Text (codes "a")

abbrev two : Row
two = row line.Text (codes "b")

-- two lines of text are one paragraph, and not two
one_paragraph : AreBlocks (paragraph one (two ∷ []) ∷ []) (one ∷ two ∷ [])
one_paragraph = ([], refl, ((refl, (refl, tt)), tt), refl)

rest_is : (r : Row) (rs ss : List Row) → r ∷ rs ≡ r ∷ ss → rs ≡ ss
rest_is r rs ss e = cc

no_two_paragraphs : AreBlocks (paragraph one [] ∷ paragraph two [] ∷ []) (one ∷ two ∷ []) → ⊥
no_two_paragraphs (others, z, (a, begin), more) =
    let z' : two ∷ [] ≡ others = rest_is one (two ∷ []) others z in
    let no : two.kind ≡ line.Text → ⊥ = subst (BeginOtherwise line.Text) (sym z') begin in no refl

-- ---- what blocks make

-- two lines of text are read as one paragraph
read_as_one : blocks_by gaps (one ∷ two ∷ []) ≡ with_separators (para (one ∷ two ∷ [])) (one ∷ two ∷ [])
read_as_one = refl

abbrev spaced : Row
spaced = row line.Pre (codes " c")

-- text and preformatted text are two blocks, and a blank row is none
read_apart : blocks_by gaps (one ∷ spaced ∷ row line.Blank [] ∷ two ∷ []) ≡
    with_separators (para (one ∷ [])) (one ∷ []) ++ (with_separators (pre (spaced ∷ [])) (spaced ∷ [])
    ++ (gap (page (10 ∷ [])) ∷ with_separators (para (two ∷ [])) (two ∷ [])))
read_apart = refl
