-- Blocks among calls, and the calls of the page that are text.
use Rattle.std.specs.Prelude.{◌≡◌, ℕ, ◌+◌, false, Some, List, [], ◌∷◌, length}
use Rattle.wt_span.specs.Origins.{Span}
use Rattle.wt_expand.specs.PageCalls.{expanded_page}
use Rattle.wt_expand.specs.Work.{Pages}
use Rattle.wt_isolation.specs.TextCalls.{touches_text_call}
use Rattle.wt_text_edit_laws.specs.BlockSpots.{BlockSpot}
use Rattle.wt_text_edit_laws.specs.TextBlocks.{source_of}

-- none of these calls shares a byte with one of the blocks, where so many bytes of the page come before their parts
abbrev pub AreFreeFrom : List Span → ℕ → List BlockSpot → Type 0
AreFreeFrom calls at [] = Unit {0}
AreFreeFrom calls at (s ∷ ss) =
    let start = at + length s.before in
    let end = start + length (source_of s.block s.text) in
    ((first last : ℕ) → touches_text_call calls (Some (record { start = start; end = end; open_w = first; close_w = last })) ≡ false)
    × AreFreeFrom calls end ss

-- none of the blocks has a call of its own that is text
abbrev pub NoTextCalls : Pages → List BlockSpot → Type 0
NoTextCalls pages [] = Unit {0}
NoTextCalls pages (s ∷ ss) = ((expanded_page pages (source_of s.block s.text)).text_calls ≡ []) × NoTextCalls pages ss
