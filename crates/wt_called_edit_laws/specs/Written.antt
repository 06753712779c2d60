-- A content of text that is typed and nodes that stay, calls among them, as it is written: what it gives is what its signs give, one after the other.
use Rattle.std.specs.Prelude.{◌≡◌, ◌⊎◌, ℕ, ◌+◌, ◌==◌, ◌||◌, not, Bool, true, false, None, List, [], ◌∷◌, ◌++◌}
use Rattle.wt_span.specs.declared.form.Mode.TheVariants.{Page}
use Rattle.wt_span.specs.Characters as byte
use Rattle.wt_span.specs.Items.{Item}
use Rattle.wt_span.specs.Origins.{OuterCall}
use Rattle.wt_guards.specs.Content.{ContentSign, Thing, letter, thing, ends_line}
use Rattle.wt_guards.specs.Guards.{Setting, is_guarded, is_new_at_start, is_mark}
use Rattle.wt_guards.specs.Letters.{is_escaped}
use Rattle.wt_part_laws.specs.Lexer.{lexer}
use Rattle.wt_part_laws.specs.Scans.{Settles}
use Rattle.wt_expand.specs.PageItems.{page_items}
use Rattle.wt_expand.specs.Work.{Pages, Entry, deep_place}
use Rattle.wt_expand.specs.PageCalls.{expanded_page}
use Rattle.wt_part_laws.specs.Expanded.{part_items, calls_in, GivesAnywhere}
use Rattle.wt_part_laws.specs.MovedCalls.{AreMoved}
use Rattle.wt_text_edit_laws.specs.ReadContents.{BeginsUnclosed}
use Rattle.wt_text_edit_laws.specs.TextBetween.{EndsBy}
use Rattle.wt_beside_laws.specs.Commented.{IsCommentSource, IsReadInLine}
use Rattle.wt_beside_laws.specs.Content.{guard_items, letter_items}
use Rattle.wt_beside_laws.specs.Cuts.{own_glyphs}
use Rattle.wt_beside_laws.specs.Kept.{IsKept}
use Rattle.wt_beside_laws.specs.Nodes.{IsNode}
use Rattle.wt_beside_laws.specs.PageSigns.{HasNoBreak}
use Rattle.wt_beside_laws.specs.References.{ReferencesEnd}
use Rattle.wt_called_edit_laws.specs.Parts.{left_of, work_in}

-- ---- the source of a node

-- it is empty, or its first byte is no bracket and no brace that closes
abbrev pub BeginsOutward : List ℕ → Type 0
BeginsOutward [] = Unit {0}
BeginsOutward (b ∷ bs) = (b == byte.closing_brace || b == byte.closing_bracket) ≡ false

-- its last byte is no line break, and no bracket and no brace that opens
abbrev pub is_outward : ℕ → Bool
is_outward b = not (b == byte.line_break || (b == byte.opening_brace || b == byte.opening_bracket))

abbrev pub EndsOutward : List ℕ → Type 0
EndsOutward bs = EndsBy is_outward bs

-- a call: its lexemes are the same whatever is behind it, unless a `}` begins that
pub record IsCallSource (bs : List ℕ) : Type 0 where
  pub others : List ℕ
  pub is : bs ≡ byte.opening_brace ∷ others
  pub settles : (rest : List ℕ) → BeginsUnclosed rest → Settles (lexer Page) rest false 0 bs

-- another node on one line that stands whatever is written behind it, by its parts, a comment, or a node that is read as it is whatever is behind it; no
-- reference may begin at its end
abbrev pub IsHeldInLine : List ℕ → Type 0
IsHeldInLine source = (IsKept source × HasNoBreak (page_items source)) ⊎ (IsCommentSource source ⊎ (IsReadInLine source × ReferencesEnd source))

-- it stays what it is beside text that is typed; a mark is within its line
pub record IsReadThing (t : Thing) : Type 0 where
  pub source : (IsHeldInLine t.source × IsNode t.role (own_glyphs t) × (is_mark t.role ≡ true → is_new_at_start t.role ≡ true)) ⊎ (IsCallSource t.source × (ends_line t.role ≡ false))
  pub begins : BeginsOutward t.source
  pub ends : EndsOutward t.source

abbrev pub AreReadThings : List ContentSign → Type 0
AreReadThings [] = Unit {0}
AreReadThings (letter c ∷ after) = AreReadThings after
AreReadThings (thing t ∷ after) = IsReadThing t × AreReadThings after

-- and is a part of the page by itself: no two braces are left in it, what it gives doesn't hang on whether a line begins, and of its calls none is text,
-- nor lies too deep
pub record IsOwnPart (pages : Pages) (bs : List ℕ) : Type 0 where
  pub left : left_of bs ≡ []
  pub anywhere : GivesAnywhere pages bs
  pub texts : (expanded_page pages bs).text_calls ≡ []
  pub undeep : deep_place Page bs ≡ None

abbrev pub AreOwnParts : Pages → List ContentSign → Type 0
AreOwnParts pages [] = Unit {0}
AreOwnParts pages (letter c ∷ after) = AreOwnParts pages after
AreOwnParts pages (thing t ∷ after) = IsOwnPart pages t.source × AreOwnParts pages after

-- ---- what they give

-- where so many outermost calls come before them in the page
abbrev pub written_items : Pages → Setting → ℕ → List ContentSign → List ContentSign → List Item
written_items pages s i before [] = guard_items (is_guarded s before [])
written_items pages s i before (letter c ∷ after) =
    guard_items (is_guarded s before (letter c ∷ after))
    ++ (letter_items (is_escaped s.within s.place before c after) c ++ written_items pages s i (letter c ∷ before) after)
written_items pages s i before (thing t ∷ after) =
    guard_items (is_guarded s before (thing t ∷ after))
    ++ (part_items pages i t.source ++ written_items pages s (i + calls_in pages t.source) (thing t ∷ before) after)

-- the outermost calls of the nodes, each with its place in its node's source, and the work of expanding them
abbrev pub written_calls : Pages → List ContentSign → List OuterCall
written_calls pages [] = []
written_calls pages (letter c ∷ after) = written_calls pages after
written_calls pages (thing t ∷ after) = (expanded_page pages t.source).outer ++ written_calls pages after

abbrev pub written_work : Pages → List ContentSign → List Entry
written_work pages [] = []
written_work pages (letter c ∷ after) = written_work pages after
written_work pages (thing t ∷ after) = work_in pages t.source ++ written_work pages after

-- A text gives these items, where so many calls come before it, has these calls but for their places, and is this work; and it is a part by itself.
pub record IsWrittenAs (pages : Pages) (bs : List ℕ) (items : ℕ → List Item) (calls : List OuterCall) (work : List Entry) : Type 0 where
  pub items_are : (i : ℕ) → part_items pages i bs ≡ items i
  pub calls_are : AreMoved calls (expanded_page pages bs).outer
  pub work_is : work_in pages bs ≡ work
  pub part : IsOwnPart pages bs
