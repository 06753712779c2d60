-- A page with paragraphs and headings among any other lines, in the body, in cells and in captions; and texts that are typed in any of them.
use Rattle.std.specs.Prelude.{◌≡◌, ◌≢◌, ◌⊎◌, ℕ, zero, suc, Bool, Option, Some, None, List, [], ◌∷◌, length, map}
use Rattle.std.specs.Str.{IsUtf8}
use Rattle.wt_span.specs.Characters as byte
use Rattle.wt_span.specs.Items.{Item, char}
use Rattle.wt_tree.specs.Tree.{Tree, tree, Trees, none, more}
use Rattle.wt_lines.specs.Lines.{empty_end, full_lines}
use Rattle.wt_page.specs.Rows.{Row, rows_from}
use Rattle.wt_checks.specs.Kept.{children}
use Rattle.wt_expand.specs.PageItems.{page_items}
use Rattle.wt_part_laws.specs.Slots.{open_behind, AllTrue}
use Rattle.wt_typed_blocks.specs.Sent.{kind_of, Sent, stands, typed, holds, Sents, none_sent, more_sent, old_children, AreSent}
use Rattle.wt_typed_blocks.specs.Typed.{TakeTexts}
use Rattle.wt_text_edit_laws.specs.BlockEdits.{typed_as}
use Rattle.wt_text_edit_laws.specs.BlockSpots.{BlockSpot, spots_source, AsAWhole}
use Rattle.wt_text_edit_laws.specs.ParagraphBetween.{written_rows, before_marks, EndApart, BeginApart}
use Rattle.wt_text_edit_laws.specs.Parts.{part_tree, HasNoGroups}
use Rattle.wt_text_edit_laws.specs.TextBetween.{AreEnded, StandsBehind}
use Rattle.wt_text_edit_laws.specs.TextBlocks.{TextBlock, a_paragraph, a_heading, block_of, source_of, IsBlock, FirstApart}
use Rattle.wt_text_edit_laws.specs.TypedHeadings.{EndsLine}
use Rattle.wt_called_edit_laws.specs.InCells.{AreTextLines}
use Rattle.wt_called_edit_laws.specs.TableEnds.{IsEndFor}

-- ---- where the blocks stand

-- of the tables that are open behind rows, the innermost first: whether a paragraph may be there
abbrev pub open_after : List Bool → List Row → List Bool
open_after bs [] = bs
open_after bs (r ∷ rs) = open_after (open_behind bs r.kind) rs

abbrev pub rows_of_part : List Bool → List Item → List Row
rows_of_part bs xs = written_rows (length bs) (full_lines (before_marks xs))

-- and what is open behind the lines of a part
abbrev pub open_behind_part : List Bool → List Item → List Bool
open_behind_part bs xs = open_after bs (rows_of_part bs xs)

-- before a paragraph is no text
abbrev pub EndsFor : TextBlock → List Row → Type 0
EndsFor a_paragraph rs = EndApart rs
EndsFor (a_heading s) rs = Unit {0}

-- Each line of a paragraph is text where so many tables are open. Of a typed one that is so anyway.
abbrev pub StaysText : TextBlock → ℕ → List ℕ → Type 0
StaysText a_paragraph n q = AreTextLines n (page_items q)
StaysText (a_heading s) n q = Unit {0}

-- Lines, or nothing, and behind them comments and include tags, or none: a block that follows is in the body, in a cell or in a caption. Before a
-- paragraph the last line may be a table's end up to its sign.
pub record LeadsInto (k : TextBlock) (bs : List Bool) (xs : List Item) : Type 0 where
  pub whole : (empty_end (before_marks xs) ≡ [] ∷ []) ⊎ IsEndFor k (length bs) (before_marks xs)
  pub in_cells : AllTrue (open_behind_part bs xs)
  pub apart : EndsFor k (rows_of_part bs xs)

-- a block of one text, whatever stands before it
pub record IsTextRead (s : BlockSpot) : Type 0 where
  pub ended : AreEnded s.before
  pub before_utf8 : IsUtf8 s.before
  pub block : IsBlock s.block s.text

-- a block with its text, behind a part
abbrev pub IsSpotAt : List Bool → List Item → BlockSpot → Type 0
IsSpotAt bs xs s = IsTextRead s × LeadsInto s.block bs xs × StaysText s.block (length (open_behind_part bs xs)) s.text

-- behind a paragraph no text follows, and the next block, where it follows at once, is a heading
abbrev pub NextApart : TextBlock → TextBlock → List Row → Type 0
NextApart a_paragraph next rs = FirstApart next rs
NextApart (a_heading s) next rs = Unit {0}

-- what is between two blocks begins with the line break that ends the first
abbrev pub past_break : List Item → List Item
past_break [] = []
past_break (x ∷ xs) = xs

abbrev pub BeginsAfter : TextBlock → TextBlock → List Bool → List Item → Type 0
BeginsAfter last next bs [] = ⊥
BeginsAfter last next bs (x ∷ xs) = (x ≡ char None byte.line_break) × NextApart last next (rows_of_part bs xs)

-- Where so many tables are open: the page's end, or a line break, behind which no text follows a paragraph.
abbrev pub EndsAfter : TextBlock → ℕ → List Item → Type 0
EndsAfter a_paragraph n [] = Unit {0}
EndsAfter a_paragraph n (y ∷ ys) = (y ≡ char None byte.line_break) × BeginApart (rows_from n (full_lines ys))
EndsAfter (a_heading s) n ys = EndsLine ys

-- behind a block at which these tables are open
abbrev pub AreSpotsAfter : TextBlock → List Bool → List BlockSpot → List ℕ → Type 0
AreSpotsAfter last bs [] behind = StandsBehind behind × IsUtf8 behind × EndsAfter last (length bs) (page_items behind)
AreSpotsAfter last bs (s ∷ ss) behind =
    BeginsAfter last s.block bs (page_items s.before) × IsSpotAt bs (past_break (page_items s.before)) s
    × AreSpotsAfter s.block (open_behind_part bs (past_break (page_items s.before))) ss behind

-- there is one at least
abbrev pub AreParts : List BlockSpot → List ℕ → Type 0
AreParts [] behind = ⊥
AreParts (s ∷ ss) behind = IsSpotAt [] (page_items s.before) s × AreSpotsAfter s.block (open_behind_part [] (page_items s.before)) ss behind

-- The page calls nothing, what begins before a block or in its text ends there, and no node of the page can only be kept as a whole.
pub record AreSpots (ss : List BlockSpot) (behind : List ℕ) : Type 0 where
  pub parts : AreParts ss behind
  pub whole : AsAWhole ss behind
  pub ungrouped : HasNoGroups (spots_source ss behind)

-- ---- what is sent

-- the text that is typed at this path, if one is
abbrev mutual
  pub typed_at : List ℕ → Sent → Option (List ℕ)
  typed_at path (stands t u) = None
  typed_at [] (typed k l ts m x text) = Some text
  typed_at (i ∷ is) (typed k l ts m x text) = None
  typed_at [] (holds l m ss) = None
  typed_at (i ∷ is) (holds l m ss) = typed_among i is ss

  pub typed_among : ℕ → List ℕ → Sents → Option (List ℕ)
  typed_among i is none_sent = None
  typed_among zero is (more_sent s ss) = typed_at is s
  typed_among (suc i) is (more_sent s ss) = typed_among i is ss

abbrev pub typed_by : Sents → List ℕ → Option (List ℕ)
typed_by ss [] = None
typed_by ss (i ∷ is) = typed_among i is ss

-- of some paths those through the first of some nodes, from it on, and those through the others
abbrev pub first_paths : List (List ℕ) → List (List ℕ)
first_paths [] = []
first_paths ([] ∷ ps) = first_paths ps
first_paths ((zero ∷ is) ∷ ps) = is ∷ first_paths ps
first_paths ((suc i ∷ is) ∷ ps) = first_paths ps

abbrev pub other_paths : List (List ℕ) → List (List ℕ)
other_paths [] = []
other_paths ([] ∷ ps) = other_paths ps
other_paths ((zero ∷ is) ∷ ps) = other_paths ps
other_paths ((suc i ∷ is) ∷ ps) = (i ∷ is) ∷ other_paths ps

abbrev pub EndHere : List (List ℕ) → Type 0
EndHere [] = ⊥
EndHere ([] ∷ ps) = Unit {0}
EndHere ((i ∷ is) ∷ ps) = EndHere ps

abbrev pub GoOn : List (List ℕ) → Type 0
GoOn [] = ⊥
GoOn ([] ∷ ps) = GoOn ps
GoOn ((i ∷ is) ∷ ps) = Unit {0}

-- Each text is typed at one of these paths. A node is sent with what it holds where one of them goes on in it; every other one stays.
abbrev mutual
  pub TypesOnly : List (List ℕ) → Sent → Type 0
  TypesOnly ps (stands t u) = Unit {0}
  TypesOnly ps (typed k l ts m x text) = EndHere ps × IsUtf8 text
  TypesOnly ps (holds l m ss) = GoOn ps × AllTypeOnly ps ss

  pub AllTypeOnly : List (List ℕ) → Sents → Type 0
  AllTypeOnly ps none_sent = Unit {0}
  AllTypeOnly ps (more_sent s ss) = TypesOnly (first_paths ps) s × AllTypeOnly (other_paths ps) ss

-- ---- the edit, and the new page

pub record IsTextEdit (ss : List BlockSpot) (behind : List ℕ) (paths : List (List ℕ)) (es : Sents) : Type 0 where
  pub old : old_children es ≡ children (part_tree (spots_source ss behind))
  pub sent : AreSent es
  pub types : AllTypeOnly paths es
  pub take : TakeTexts es

abbrev pub with_text : BlockSpot → Option (List ℕ) → BlockSpot
with_text s None = s
with_text s (Some text) = record s { text = typed_as (block_of s.block) (source_of s.block s.text) text }

abbrev pub with_texts : List BlockSpot → List (Option (List ℕ)) → List BlockSpot
with_texts [] ts = []
with_texts (s ∷ ss) [] = s ∷ ss
with_texts (s ∷ ss) (t ∷ ts) = with_text s t ∷ with_texts ss ts

abbrev pub new_page : List BlockSpot → List ℕ → List (List ℕ) → Sents → List ℕ
new_page ss behind paths es = spots_source (with_texts ss (map (typed_by es) paths)) behind

-- ---- where they are

-- at this path is a node of this block's kind, with a number
abbrev mutual
  pub LeadsTo : TextBlock → List ℕ → Tree → Type 0
  LeadsTo k [] (tree l ts) = (l.kind ≡ kind_of (block_of k)) × (l.id ≢ 0)
  LeadsTo k (i ∷ is) (tree l ts) = LeadsAmong k i is ts

  pub LeadsAmong : TextBlock → ℕ → List ℕ → Trees → Type 0
  LeadsAmong k i is none = ⊥
  LeadsAmong k zero is (more t ts) = LeadsTo k is t
  LeadsAmong k (suc i) is (more t ts) = LeadsAmong k i is ts

abbrev pub AllLead : List BlockSpot → List (List ℕ) → Tree → Type 0
AllLead [] [] t = Unit {0}
AllLead [] (p ∷ ps) t = ⊥
AllLead (s ∷ ss) [] t = ⊥
AllLead (s ∷ ss) (p ∷ ps) t = LeadsTo s.block p t × AllLead ss ps t
