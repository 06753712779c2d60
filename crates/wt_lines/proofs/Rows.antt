-- Worked cases of the definitions, each by computing. A line's signs are written as text; 256 is an atom, 257 a mark.
use Rattle.std.proofs.Common.{◌≡◌, None, Some, [], ◌∷◌, ◌++◌, map, refl}
use Rattle.std.specs.Prelude.{codes}
use Rattle.wt_span.specs.declared.form.ItemForm.TheVariants as form
use Rattle.wt_span.specs.Items.{Item, char, whole}
use Rattle.wt_lines.specs.declared.kind.LineKind.TheVariants as kind
use Rattle.wt_lines.specs.Lines.{lines, full_lines}
use Rattle.wt_lines.specs.Kinds.{kind_of_signs}

-- nothing visible but blanks; an atom is visible
blank_lines : map (kind_of_signs 0) ([] ∷ codes "  " ∷ (9 ∷ []) ∷ (257 ∷ 32 ∷ 257 ∷ []) ∷ (256 ∷ []) ∷ []) ≡ kind.Blank
    ∷ kind.Blank ∷ kind.Blank ∷ kind.Blank ∷ kind.Text ∷ []
unfolding kind_of_signs
blank_lines = refl

-- `=` at both ends; `=` and `==` alone are none, whatever blanks and marks stand round them, and a mark parts `==`
headings : map (kind_of_signs 0) (codes "=====" ∷ codes "=== x ==" ∷ codes "== a == " ∷ (257 ∷ (codes "=a=" ++ 9 ∷ 257 ∷ []))
    ∷ codes "=" ∷ codes "== " ∷ (codes "==" ++ 257 ∷ 32 ∷ []) ∷ (61 ∷ 257 ∷ 61 ∷ []) ∷ codes "= =" ∷ codes "== a" ∷ codes "a =="
    ∷ codes " = a =" ∷ (61 ∷ 256 ∷ 61 ∷ []) ∷ [])
    ≡ kind.Heading ∷ kind.Heading ∷ kind.Heading ∷ kind.Heading ∷ kind.Text ∷ kind.Text ∷ kind.Text ∷ kind.Heading ∷ kind.Heading
    ∷ kind.Text ∷ kind.Text ∷ kind.Pre ∷ kind.Heading ∷ []
unfolding kind_of_signs
headings = refl

-- four `-` that stand next to each other
rules : map (kind_of_signs 0) (codes "----" ∷ codes "-----x" ∷ codes "---" ∷ (codes "---" ++ 257 ∷ codes "-") ∷ (257 ∷ codes "----") ∷ codes " ----" ∷ [])
    ≡ kind.Rule ∷ kind.Rule ∷ kind.Text ∷ kind.Text ∷ kind.Rule ∷ kind.Pre ∷ []
unfolding kind_of_signs
rules = refl

-- signs of lists, and a space
first_signs : map (kind_of_signs 0) (codes "* a" ∷ codes "#" ∷ codes ":a" ∷ codes "; a : b" ∷ (257 ∷ codes "*") ∷ codes " a"
    ∷ (257 ∷ codes " a") ∷ (9 ∷ codes "a") ∷ (256 ∷ codes "*") ∷ [])
    ≡ kind.List ∷ kind.List ∷ kind.List ∷ kind.List ∷ kind.List ∷ kind.Pre ∷ kind.Pre ∷ kind.Text ∷ kind.Text ∷ []
unfolding kind_of_signs
first_signs = refl

-- outside tables only `{|` counts
outside : map (kind_of_signs 0) (codes "{| class=\"t\"" ∷ codes " \t{|" ∷ (123 ∷ 257 ∷ 124 ∷ []) ∷ codes "|}" ∷ codes "| a" ∷ codes " |-" ∷ codes "! x" ∷ [])
    ≡ kind.TableOpen ∷ kind.TableOpen ∷ kind.Text ∷ kind.Text ∷ kind.Text ∷ kind.Pre ∷ kind.Text ∷ []
unfolding kind_of_signs
outside = refl

-- in a table; a mark parts `|}`, and the other kinds stay
inside : map (kind_of_signs 1) (codes "{|" ∷ codes "|}" ∷ codes "\t|+ a" ∷ codes "|-" ∷ codes "| a || b" ∷ codes "|"
    ∷ codes " ! x !! y" ∷ (257 ∷ 32 ∷ codes "|}") ∷ (124 ∷ 257 ∷ 125 ∷ []) ∷ codes "== a ==" ∷ codes "* a" ∷ codes "a" ∷ [])
    ≡ kind.TableOpen ∷ kind.TableEnd ∷ kind.Caption ∷ kind.Row ∷ kind.Cell ∷ kind.Cell ∷ kind.Header ∷ kind.TableEnd ∷ kind.Cell
    ∷ kind.Heading ∷ kind.List ∷ kind.Text ∷ []
unfolding kind_of_signs
inside = refl

-- the seventeenth table isn't opened, and the line is text, also behind a blank
seventeenth : kind_of_signs 15 (codes "{|") ∷ kind_of_signs 16 (codes "{|") ∷ kind_of_signs 16 (codes " {|")
    ∷ kind_of_signs 16 (codes "|}") ∷ [] ≡ kind.TableOpen ∷ kind.Text ∷ kind.Text ∷ kind.TableEnd ∷ []
unfolding kind_of_signs
seventeenth = refl

-- ---- lines

abbrev break : Item
break = char None 10

-- a line break in a mark is none, one of a call is one
abbrev remark : Item
remark = whole form.Comment None (codes "<!--\n-->")

split_lines : lines (char None 97 ∷ break ∷ remark ∷ char (Some 0) 10 ∷ break ∷ []) ≡ (char None 97 ∷ []) ∷ (remark ∷ []) ∷ [] ∷ [] ∷ []
split_lines = refl

no_items : lines [] ≡ [] ∷ []
no_items = refl

kept_breaks : full_lines (char None 97 ∷ break ∷ break ∷ char None 98 ∷ break ∷ []) ≡ (char None 97 ∷ break ∷ []) ∷ (break ∷ [])
    ∷ (char None 98 ∷ break ∷ []) ∷ []
kept_breaks = refl
