-- Texts typed in paragraphs and headings of a page, among any other blocks: what an editor sends, and the new page.
use Rattle.std.specs.Prelude.{◌≡◌, ℕ, false, List, [], ◌∷◌, ◌++◌, length, map}
use Rattle.std.specs.Str.{IsUtf8}
use Rattle.wt_tree.specs.Tree.{Label, Tree, tree, Trees, none, more, label}
use Rattle.wt_guards.specs.Content.{letters}
use Rattle.wt_guards.specs.Guards.{spelled}
use Rattle.wt_checks.specs.Kept.{children}
use Rattle.wt_expand.specs.PageItems.{page_items}
use Rattle.wt_typed_blocks.specs.Sent.{Block, Sent, stands, typed, Sents, none_sent, more_sent, StandsAsIs, new_body}
use Rattle.wt_typed_blocks.specs.Typed.{place_of, Takes}
use Rattle.wt_text_edit_laws.specs.ParagraphBetween.{blocks_in}
use Rattle.wt_text_edit_laws.specs.Parts.{part_tree}
use Rattle.wt_text_edit_laws.specs.TextBlocks.{TextBlock, block_of, source_of}
use Rattle.wt_text_edit_laws.specs.BlockSpots.{BlockSpot, spots_source, AreBlockSpots}

-- ---- what is sent

-- A paragraph or heading in which this text was typed: it is sent with the first label, and the text in it with the second one. Or a node
-- that is sent as this one.
pub data Sending : Type 0 where
  retyped : Block → Label → Label → List ℕ → Sending
  kept : Tree → Sending

abbrev pub sent_child : Sending → Tree → Sent
sent_child (retyped k p t text) (tree l ts) = typed k l ts p t text
sent_child (kept u) t = stands t u

abbrev pub sent_children : List Sending → Trees → Sents
sent_children [] ts = none_sent
sent_children (s ∷ ss) none = none_sent
sent_children (s ∷ ss) (more t ts) = more_sent (sent_child s t) (sent_children ss ts)

abbrev pub AreKept : List Sending → Trees → Type 0
AreKept [] ts = Unit {0}
AreKept (s ∷ ss) none = Unit {0}
AreKept (retyped k p t text ∷ ss) (more u us) = AreKept ss us
AreKept (kept v ∷ ss) (more u us) = StandsAsIs u v × AreKept ss us

-- ---- what is done to a page

-- what is sent for a paragraph or heading: another text, or the node that is sent for it as it is
pub data Typing : Type 0 where
  types : Label → Label → List ℕ → Typing
  keeps : Tree → Typing

-- A paragraph or heading of the page with the blocks before it: the nodes that are sent for these blocks, and what is sent for it.
pub record SpotEdit : Type 0 where
  pub spot : BlockSpot
  pub others : List Tree
  pub typing : Typing

-- All of them, what stands behind the last one, and the nodes that are sent for it.
pub record BlockEdit : Type 0 where
  pub spots : List SpotEdit
  pub behind : List ℕ
  pub others : List Tree

-- ---- the page, as it was and as it is

-- the text as the content of its block is spelled, where this was the block's source
abbrev pub typed_as : Block → List ℕ → List ℕ → List ℕ
typed_as k source text = spelled (record { within = false; place = place_of k; source = source }) (letters text)

abbrev pub new_text : TextBlock → Typing → List ℕ → List ℕ
new_text k (types p t text) q = typed_as (block_of k) (source_of k q) text
new_text k (keeps u) q = q

abbrev pub old_spots : List SpotEdit → List BlockSpot
old_spots es = map (λ e. e.spot) es

abbrev pub new_spot : SpotEdit → BlockSpot
new_spot e = record { before = e.spot.before; block = e.spot.block; text = new_text e.spot.block e.typing e.spot.text }

abbrev pub new_spots : List SpotEdit → List BlockSpot
new_spots es = map new_spot es

abbrev pub old_page : BlockEdit → List ℕ
old_page e = spots_source (old_spots e.spots) e.behind

abbrev pub new_page : BlockEdit → List ℕ
new_page e = spots_source (new_spots e.spots) e.behind

-- ---- the edited tree

abbrev pub all_kept : List Tree → List Sending
all_kept us = map (λ u. kept u) us

abbrev pub sending_for : TextBlock → Typing → Sending
sending_for k (types p t text) = retyped (block_of k) p t text
sending_for k (keeps u) = kept u

abbrev pub spot_sendings : List SpotEdit → List Tree → List Sending
spot_sendings [] others = all_kept others
spot_sendings (e ∷ es) others = all_kept e.others ++ sending_for e.spot.block e.typing ∷ spot_sendings es others

abbrev pub sendings : BlockEdit → List Sending
sendings e = spot_sendings e.spots e.others

-- the page's body, without sections
abbrev pub old_tree : BlockEdit → Tree
old_tree e = part_tree (old_page e)

-- with this label of its body
abbrev pub sent_page : Label → BlockEdit → Tree
sent_page b e = new_body (label (old_tree e)) b (sent_children (sendings e) (children (old_tree e)))

-- ---- which edits these are

-- a node is sent for each block of this part
abbrev pub IsSentFor : List Tree → List ℕ → Type 0
IsSentFor us part = length us ≡ length (blocks_in (page_items part))

abbrev pub AreSentFor : List SpotEdit → Type 0
AreSentFor [] = Unit {0}
AreSentFor (e ∷ es) = IsSentFor e.others e.spot.before × AreSentFor es

-- any text, and in a heading one line
abbrev pub IsText : TextBlock → Typing → Type 0
IsText k (types p t text) = IsUtf8 text × Takes (block_of k) text
IsText k (keeps u) = Unit {0}

abbrev pub AreTexts : List SpotEdit → Type 0
AreTexts [] = Unit {0}
AreTexts (e ∷ es) = IsText e.spot.block e.typing × AreTexts es

pub record IsBlockEdit (e : BlockEdit) : Type 0 where
  pub are_spots : AreBlockSpots (old_spots e.spots) e.behind
  pub are_texts : AreTexts e.spots
  pub before : AreSentFor e.spots
  pub behind : IsSentFor e.others e.behind
  pub are_kept : AreKept (sendings e) (children (old_tree e))
