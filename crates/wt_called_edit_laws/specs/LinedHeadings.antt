-- A heading of a page by its line alone: it is of a heading's kind, and begins with `=`.
use Rattle.std.specs.Prelude.{◌≡◌, ◌+◌, ℕ, true, List, take, drop, codes}
use Rattle.wt_span.specs.Bytes.{blank_len, begins}
use Rattle.wt_span.specs.Items.{Item, sources}
use Rattle.wt_lines.specs.declared.kind.LineKind.TheVariants as line
use Rattle.wt_blocks.specs.Headings.{level, opening, inside, closing}
use Rattle.wt_page.specs.Lines.{kind_at}
use Rattle.wt_page.specs.Rows.{signs}
use Rattle.wt_text_edit_laws.specs.TypedHeadings.{Sides}

-- of the close delimiter, the blanks before its `=`
abbrev pub blanks_behind : List Item → ℕ
blanks_behind l = blank_len (signs (closing l))

-- What a heading's line has beside what is between its delimiters: of the open one the blanks behind its `=`, and of the close one those before its
-- `=`, and what is behind these.
abbrev pub sides_of : List Item → Sides
sides_of l = record {
  level = level l;
  lead = drop (level l) (signs (opening l));
  trail = take (blanks_behind l) (signs (closing l));
  rest = sources (drop (blanks_behind l + level l) (closing l));
}

-- what is between them, as bytes
abbrev pub text_of : List Item → List ℕ
text_of l = sources (inside l)

-- A line where so many tables are open. No mark is before its first `=`.
pub record IsLinedHeading (n : ℕ) (l : List Item) : Type 0 where
  pub is_heading : kind_at n l ≡ line.Heading
  pub first : begins (codes "=") (signs l) ≡ true
