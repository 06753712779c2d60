-- A page with typed paragraphs and headings among any other blocks: its parts, one after the other, and what each makes.
use Rattle.std.specs.Prelude.{◌≡◌, ℕ, List, [], ◌∷◌, ◌++◌}
use Rattle.std.specs.Str.{IsUtf8}
use Rattle.wt_inline.specs.ItemTree.{ItemTree}
use Rattle.wt_expand.specs.PageItems.{page_items}
use Rattle.wt_text_edit_laws.specs.NoCalls.{CallsNothing}
use Rattle.wt_text_edit_laws.specs.SignParts.{IsLedTo}
use Rattle.wt_text_edit_laws.specs.TextBetween.{AreEnded, HasEndsBefore, StandsBehind}
use Rattle.wt_text_edit_laws.specs.ParagraphBetween.{blocks_in}
use Rattle.wt_text_edit_laws.specs.Parts.{HasNoGroups}
use Rattle.wt_text_edit_laws.specs.TextBlocks.{TextBlock, source_of, block_tree, IsBlock, LeadsTo, EndsBlock, BeginsLine, BeginsBetween}
use Rattle.wt_text_edit_laws.specs.Contents.{IsContent, TextEnds}
use Rattle.wt_text_edit_laws.specs.ReadContents.{IsReadContent}
use Rattle.wt_text_edit_laws.specs.TypedHeadings.{EndsLine}

-- ---- the page's source

-- A paragraph or a heading with a text, and what stands before it, behind the one before or at the page's start: other blocks, with the line
-- breaks round them.
pub record BlockSpot : Type 0 where
  pub before : List ℕ
  pub block : TextBlock
  pub text : List ℕ

-- and what stands behind the last
abbrev pub spots_source : List BlockSpot → List ℕ → List ℕ
spots_source [] behind = behind
spots_source (s ∷ ss) behind = s.before ++ (source_of s.block s.text ++ spots_source ss behind)

-- ---- what it means

abbrev pub page_blocks : List BlockSpot → List ℕ → List ItemTree
page_blocks [] behind = blocks_in (page_items behind)
page_blocks (s ∷ ss) behind = blocks_in (page_items s.before) ++ block_tree s.block s.text ∷ page_blocks ss behind

-- ---- where the parts stand by themselves

pub record IsBlockSpot (s : BlockSpot) : Type 0 where
  pub ended : AreEnded s.before
  pub before_utf8 : IsUtf8 s.before
  pub ungrouped : HasNoGroups s.before
  pub leads : LeadsTo s.block (page_items s.before)
  pub block : IsBlock s.block s.text

-- behind such a block
pub record IsBlockEnd (last : TextBlock) (behind : List ℕ) : Type 0 where
  pub stands : StandsBehind behind
  pub utf8 : IsUtf8 behind
  pub ungrouped : HasNoGroups behind
  pub ends : EndsBlock last (page_items behind)

abbrev pub AreFurtherBlocks : TextBlock → List BlockSpot → List ℕ → Type 0
AreFurtherBlocks last [] behind = IsBlockEnd last behind
AreFurtherBlocks last (s ∷ ss) behind = IsBlockSpot s × BeginsBetween last s.block (page_items s.before) × AreFurtherBlocks s.block ss behind

-- ---- what is asked of the page as a whole

-- What begins before a block ends before it, and what begins in its text ends there; or it is a tag that nothing in the page closes.
abbrev pub EndBeforeBlocks : List BlockSpot → List ℕ → Type 0
EndBeforeBlocks [] behind = Unit {0}
EndBeforeBlocks (s ∷ ss) behind =
    HasEndsBefore (source_of s.block s.text ++ spots_source ss behind) s.before × TextEnds s.block s.text (spots_source ss behind)
    × EndBeforeBlocks ss behind

-- Nowhere do two opening braces side by side come before two closing ones, and nothing that begins before a block, or in its text, ends behind it.
pub record AsAWhole (ss : List BlockSpot) (behind : List ℕ) : Type 0 where
  pub calls_nothing : CallsNothing (page_items (spots_source ss behind))
  pub end_before : EndBeforeBlocks ss behind

-- There is one paragraph or heading at least; nothing need stand before the first.
abbrev pub AreBlockSpots : List BlockSpot → List ℕ → Type 0
AreBlockSpots [] behind = ⊥
AreBlockSpots (s ∷ ss) behind = IsBlockSpot s × AreFurtherBlocks s.block ss behind × AsAWhole (s ∷ ss) behind

-- ---- what their reading hangs on

-- whatever stands before it, and whatever is in it
pub record IsRead (s : BlockSpot) : Type 0 where
  pub led : IsLedTo s.before s.block s.text
  pub before_utf8 : IsUtf8 s.before
  pub block : IsContent s.block s.text

-- behind such a block, which the page's end or a line break ends
abbrev pub AreReadAfter : List BlockSpot → List ℕ → Type 0
AreReadAfter [] behind = StandsBehind behind × IsUtf8 behind × EndsLine (page_items behind)
AreReadAfter (s ∷ ss) behind = IsRead s × BeginsLine (page_items s.before) × AreReadAfter ss behind

-- by their lexemes alone, whatever they call
pub record IsReadSpot (s : BlockSpot) : Type 0 where
  pub led : IsLedTo s.before s.block s.text
  pub before_utf8 : IsUtf8 s.before
  pub block : IsReadContent s.block s.text

abbrev pub AreReadSpots : List BlockSpot → List ℕ → Type 0
AreReadSpots [] behind = StandsBehind behind × IsUtf8 behind × EndsLine (page_items behind)
AreReadSpots (s ∷ ss) behind = IsReadSpot s × BeginsLine (page_items s.before) × AreReadSpots ss behind

-- there is one at least
abbrev pub AreRead : List BlockSpot → List ℕ → Type 0
AreRead [] behind = ⊥
AreRead (s ∷ ss) behind = IsRead s × AreReadAfter ss behind × AsAWhole (s ∷ ss) behind

-- ---- pages that are the same but for the texts of these

abbrev pub SameRound : List BlockSpot → List BlockSpot → Type 0
SameRound [] [] = Unit {0}
SameRound [] (r ∷ rs) = ⊥
SameRound (s ∷ ss) [] = ⊥
SameRound (s ∷ ss) (r ∷ rs) = (r.before ≡ s.before) × (r.block ≡ s.block) × SameRound ss rs

abbrev pub AreBlocks : List BlockSpot → Type 0
AreBlocks [] = Unit {0}
AreBlocks (s ∷ ss) = IsBlock s.block s.text × AreBlocks ss

-- ---- with other contents

abbrev pub AreContents : List BlockSpot → Type 0
AreContents [] = Unit {0}
AreContents (s ∷ ss) = IsContent s.block s.text × AreContents ss
