-- The new page of such an edit, and where its texts may be typed.
use Rattle.std.specs.Prelude.{◌≡◌, ℕ, ◌+◌, false, Some, List, [], ◌++◌, length}
use Rattle.wt_span.specs.Origins.{Expanded}
use Rattle.wt_tree.specs.Kinds.{is_leaf}
use Rattle.wt_tree.specs.Source.{flat, flat_of_all}
use Rattle.wt_tree.specs.Tree.{Label, Trees}
use Rattle.wt_tree.specs.declared.edit_shape.Place.{Place}
use Rattle.wt_tree.specs.declared.edit_shape.Place.TheVariants as place
use Rattle.wt_guards.specs.Content.{letters}
use Rattle.wt_guards.specs.Guards.{spelled}
use Rattle.wt_content.specs.Content.{has_break}
use Rattle.wt_selser.specs.Edits.{is_tangled}
use Rattle.wt_typed_blocks.specs.Sent.{Block, paragraph, heading, Sent, stands, typed, holds, Sents, none_sent, more_sent, old_child, old_children}

-- ---- the new page

-- what the content of a block is spelled for
abbrev pub place_of : Block → Place
place_of paragraph = place.Paragraph
place_of (heading n) = place.Heading

-- the source of a block of the page: what it holds, between its delimiters
abbrev pub block_source : Label → Trees → List ℕ
block_source l ts = l.opening ++ flat_of_all ts ++ l.closing

-- What is in the new page for a node: its source, or the text, spelled as the content of its block, between the block's delimiters, or what
-- is there for its children, between its own.
abbrev mutual
  pub new_source : Sent → List ℕ
  new_source (stands t u) = flat t
  new_source (typed k l ts m x text) =
      l.opening ++ spelled (record { within = false; place = place_of k; source = block_source l ts }) (letters text) ++ l.closing
  new_source (holds l m ss) = l.opening ++ new_sources ss ++ l.closing

  pub new_sources : Sents → List ℕ
  new_sources none_sent = []
  new_sources (more_sent s ss) = new_source s ++ new_sources ss

-- ---- what may be typed

-- a heading has one line
abbrev pub Takes : Block → List ℕ → Type 0
Takes paragraph text = Unit {0}
Takes (heading n) text = has_break text ≡ false

abbrev mutual
  pub TakesText : Sent → Type 0
  TakesText (stands t u) = Unit {0}
  TakesText (typed k l ts m x text) = Takes k text
  TakesText (holds l m ss) = TakeTexts ss

  pub TakeTexts : Sents → Type 0
  TakeTexts none_sent = Unit {0}
  TakeTexts (more_sent s ss) = TakesText s × TakeTexts ss

-- its source in the page
abbrev pub old_source : Sent → List ℕ
old_source (stands t u) = flat t
old_source (typed k l ts m x text) = block_source l ts
old_source (holds l m ss) = block_source l (old_children ss)

-- Each block in which a text was typed says where it is in the page, where the nodes lie one after the other from this place on. What holds
-- others is no leaf.
abbrev mutual
  pub StandsAt : ℕ → Sent → Type 0
  StandsAt at (stands t u) = Unit {0}
  StandsAt at (typed k l ts m x text) =
      l.ranges ≡ Some (record { start = at; end = at + length (block_source l ts); open_w = length l.opening; close_w = length l.closing })
  StandsAt at (holds l m ss) = (is_leaf l.kind ≡ false) × StandAt (at + length l.opening) ss

  pub StandAt : ℕ → Sents → Type 0
  StandAt at none_sent = Unit {0}
  StandAt at (more_sent s ss) = StandsAt at s × StandAt (at + length (old_source s)) ss

-- none of these blocks is tangled
abbrev mutual
  pub IsUntangled : Expanded → List ℕ → Sent → Type 0
  IsUntangled items page (stands t u) = Unit {0}
  IsUntangled items page (typed k l ts m x text) = is_tangled items page (old_child (typed k l ts m x text)) ≡ false
  IsUntangled items page (holds l m ss) = AreUntangled items page ss

  pub AreUntangled : Expanded → List ℕ → Sents → Type 0
  AreUntangled items page none_sent = Unit {0}
  AreUntangled items page (more_sent s ss) = IsUntangled items page s × AreUntangled items page ss
