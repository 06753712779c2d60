-- What is not yet read of the pieces of a page, and the line breaks at its front.
use Rattle.std.specs.Prelude.{◌≡◌, ℕ, Bool, true, false, Option, Some, None, List, [], ◌∷◌, ◌++◌, length, drop}
use Rattle.std.specs.List.{AllByRecursion, list_all}
use Rattle.wt_span.specs.Bytes.{is_break}
use Rattle.wt_span.specs.declared.form.Piece.{Piece}
use Rattle.wt_span.specs.Items.{Item}
use Rattle.wt_lines.specs.Lines.{is_break_item}
use Rattle.wt_rows.specs.declared.unread.Unread.{Unread}

abbrev pub before : Option Piece → List Piece → List Piece
before None others = []
before (Some p) others = p ∷ others

abbrev pub left : Unread → List Piece
left u = before u.first u.others.now

abbrev pub all_breaks : List ℕ → Bool
all_breaks bs = list_all is_break bs

abbrev pub AreBreaks : List Item → Type 0
AreBreaks xs = AllByRecursion (λ x. is_break_item x ≡ true) xs

-- an empty line is at the front
abbrev pub begins_break : List Item → Bool
begins_break [] = false
begins_break (x ∷ xs) = is_break_item x

-- the second pieces are the first, and others after them
abbrev pub IsBehind : List Piece → List Piece → Type 0
IsBehind before all = all ≡ before ++ drop (length before) all
