-- Pages with calls in which paragraphs and headings stand: what each part gives, the blocks among them, and what is asked of the page as a whole.
use Rattle.std.specs.Prelude.{◌≡◌, ℕ, ◌+◌, Bool, List, [], ◌∷◌, ◌++◌, Some, None, nat_le, length, map, if◌then◌else◌}
use Rattle.wt_span.specs.declared.form.Mode.TheVariants.{Page}
use Rattle.wt_span.specs.Items.{Item}
use Rattle.wt_span.specs.Lexemes.{words}
use Rattle.wt_span.specs.Braces.{Member, open_left, reduced}
use Rattle.wt_span.specs.Origins.{OuterCall, Span}
use Rattle.wt_expand.specs.Work.{Pages, Entry, entered}
use Rattle.wt_expand.specs.Expansion.{page_reading, text_given, page_work}
use Rattle.wt_expand.specs.PageCalls.{expanded_page}
use Rattle.wt_part_laws.specs.Apart.{close_left}
use Rattle.wt_part_laws.specs.Expanded.{moved_call, moved_span, part_items, calls_in, GivesAnywhere}
use Rattle.wt_text_edit_laws.specs.NoCalls.{Brace, opening, closing, NonePairs}
use Rattle.wt_text_edit_laws.specs.TextBlocks.{source_of}
use Rattle.wt_text_edit_laws.specs.BlockSpots.{BlockSpot, spots_source, EndBeforeBlocks, IsReadSpot, AreReadSpots}

-- ---- braces that are left

-- a member that two braces are left of opens, or closes
abbrev pub left_by : Bool → Bool → List Brace → List Brace
left_by opens closes bs = if opens then opening ∷ bs else (if closes then closing ∷ bs else bs)

abbrev pub left_in : List Member → List Brace
left_in [] = []
left_in (m ∷ ms) = left_by (nat_le 2 (open_left (Some m))) (nat_le 2 (close_left m)) (left_in ms)

-- which a text has by itself, in order
abbrev pub left_of : List ℕ → List Brace
left_of bs = left_in (reduced (words Page bs))

-- and which the parts of a page have
abbrev pub all_left : List BlockSpot → List ℕ → List Brace
all_left [] behind = left_of behind
all_left (s ∷ ss) behind = left_of s.before ++ (left_of (source_of s.block s.text) ++ all_left ss behind)

-- ---- the page

-- what each block gives doesn't hang on whether a line begins with it, or a comment or tag comes first
abbrev pub GiveAnywhere : Pages → List BlockSpot → Type 0
GiveAnywhere pages [] = Unit {0}
GiveAnywhere pages (s ∷ ss) = GivesAnywhere pages (source_of s.block s.text) × GiveAnywhere pages ss

-- Any calls may be before, between and behind the blocks, and in them. What begins before a block ends before it, and what begins in its text ends
-- there. Of the braces that the parts have left, each by itself, no two that open are before two that close: so no call goes over a part's end.
pub record AreParted (pages : Pages) (ss : List BlockSpot) (behind : List ℕ) : Type 0 where
  pub end_before : EndBeforeBlocks ss behind
  pub anywhere : GiveAnywhere pages ss
  pub apart : NonePairs (all_left ss behind)

-- there is one block at least
abbrev pub AreCalled : Pages → List BlockSpot → List ℕ → Type 0
AreCalled pages [] behind = ⊥
AreCalled pages (s ∷ ss) behind = IsReadSpot s × AreReadSpots ss behind × AreParted pages (s ∷ ss) behind

-- ---- what the parts give

-- its own work, where it is a part
abbrev pub work_in : Pages → List ℕ → List Entry
work_in pages bs = (text_given (page_reading pages) bs).work

-- how many outermost calls come before a block, and how many with it
abbrev pub calls_to : Pages → ℕ → BlockSpot → ℕ
calls_to pages k s = k + calls_in pages s.before

abbrev pub calls_past : Pages → ℕ → BlockSpot → ℕ
calls_past pages k s = calls_to pages k s + calls_in pages (source_of s.block s.text)

abbrev pub called_items : Pages → ℕ → List BlockSpot → List ℕ → List Item
called_items pages k [] behind = part_items pages k behind
called_items pages k (s ∷ ss) behind =
    part_items pages k s.before
    ++ (part_items pages (calls_to pages k s) (source_of s.block s.text) ++ called_items pages (calls_past pages k s) ss behind)

-- the outermost calls, and those that are text, each with its place in the page
abbrev pub called_outers : Pages → List BlockSpot → List ℕ → List OuterCall
called_outers pages [] behind = (expanded_page pages behind).outer
called_outers pages (s ∷ ss) behind =
    (expanded_page pages s.before).outer
    ++ map (moved_call (length s.before))
    ((expanded_page pages (source_of s.block s.text)).outer ++ map (moved_call (length (source_of s.block s.text))) (called_outers pages ss behind))

abbrev pub called_texts : Pages → List BlockSpot → List ℕ → List Span
called_texts pages [] behind = (expanded_page pages behind).text_calls
called_texts pages (s ∷ ss) behind =
    (expanded_page pages s.before).text_calls
    ++ map (moved_span (length s.before))
    ((expanded_page pages (source_of s.block s.text)).text_calls ++ map (moved_span (length (source_of s.block s.text))) (called_texts pages ss behind))

abbrev pub called_work : Pages → List BlockSpot → List ℕ → List Entry
called_work pages [] behind = work_in pages behind
called_work pages (s ∷ ss) behind = work_in pages s.before ++ (work_in pages (source_of s.block s.text) ++ called_work pages ss behind)

-- A page is expanded so: its items, calls and work are those of its parts, in order.
pub record IsByParts (pages : Pages) (ss : List BlockSpot) (behind : List ℕ) : Type 0 where
  pub items : (expanded_page pages (spots_source ss behind)).items ≡ called_items pages 0 ss behind
  pub outers : (expanded_page pages (spots_source ss behind)).outer ≡ called_outers pages ss behind
  pub texts : (expanded_page pages (spots_source ss behind)).text_calls ≡ called_texts pages ss behind
  pub work : page_work pages (spots_source ss behind) ≡ entered None ∷ called_work pages ss behind
