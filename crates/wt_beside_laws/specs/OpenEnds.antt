-- What ends a line of a page: where marks end, and whether anything is shown.
use Rattle.std.specs.Prelude.{◌≡◌, ◌⊎◌, ◌&&◌, Bool, true, not, List, [], ◌∷◌}
use Rattle.wt_span.specs.Items.{Item, is_mark, sign, source}
use Rattle.wt_lines.specs.Kinds.{is_idle}
use Rattle.wt_lines.specs.Lines.{is_break_item}
use Rattle.wt_text_edit_laws.specs.TextBetween.{AreEnded}
use Rattle.wt_text_edit_laws.specs.TypedHeadings.{NoBreaks}

-- each mark but the last item ends with a `>` or a line break
abbrev pub MarksEnd : List Item → Type 0
MarksEnd [] = Unit {0}
MarksEnd (x ∷ []) = Unit {0}
MarksEnd (x ∷ y ∷ ys) = (is_mark x ≡ true → AreEnded (source x)) × MarksEnd (y ∷ ys)

-- neither a mark, nor a blank or a line break
abbrev pub is_shown : Item → Bool
is_shown x = not (is_idle (sign x)) && not (is_break_item x)

-- something is shown, and no line break is behind it
abbrev pub ShownLast : List Item → Type 0
ShownLast [] = ⊥
ShownLast (x ∷ xs) = ((is_shown x ≡ true) × NoBreaks xs) ⊎ ShownLast xs
