-- A line's kind, and what ends it.
use Rattle.std.specs.Prelude.{ℕ, List, [], ◌∷◌, if◌then◌else◌}
use Rattle.wt_span.specs.Items.{Item}
use Rattle.wt_lines.specs.declared.kind.LineKind.{LineKind}
use Rattle.wt_lines.specs.Kinds.{line_kind}
use Rattle.wt_lines.specs.Lines.{content, is_break_item}

-- the line break at the end of a line
abbrev pub ending : List Item → List Item
ending [] = []
ending (x ∷ []) = if is_break_item x then x ∷ [] else []
ending (x ∷ y ∷ ys) = ending (y ∷ ys)

-- the kind of a line at which so many tables are open
abbrev pub kind_at : ℕ → List Item → LineKind
kind_at tables l = line_kind tables (content l)
