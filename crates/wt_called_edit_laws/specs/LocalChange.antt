-- An edit of contents is local: outside the edited blocks a page means what it meant, and its nodes are moved by the bytes that were added before them.
use Rattle.std.specs.Prelude.{◌≡◌, ℕ, ◌+◌, true, false, Option, Some, None, List, [], ◌∷◌, length, if◌then◌else◌}
use Rattle.wt_span.specs.Items.{Item, call_of}
use Rattle.wt_span.specs.Origins.{same_call}
use Rattle.wt_tree.specs.declared.kind.Ranges.{Ranges}
use Rattle.wt_tree.specs.Source.{flat}
use Rattle.wt_tree.specs.Tiling.{is_group}
use Rattle.wt_tree.specs.Tree.{Label, Tree, tree, Trees, none, more, label}
use Rattle.wt_checks.specs.Kept.{children}
use Rattle.wt_expand.specs.Expansion.{page_work}
use Rattle.wt_expand.specs.PageCalls.{expanded_page}
use Rattle.wt_expand.specs.Work.{Pages}
use Rattle.wt_part_laws.specs.MovedCalls.{AreMoved}
use Rattle.wt_part_laws.specs.Placeless.{placeless_label}
use Rattle.wt_typed_blocks.specs.Edited.{Edited, stays, edited, round, Edits, no_edits, more_edits}
use Rattle.wt_called_edit_laws.specs.Groups.{called_tree}
use Rattle.wt_called_edit_laws.specs.Retyped.{AreSomeOf}
use Rattle.wt_called_edit_laws.specs.SettledPages.{AreKindred}

-- ---- places

-- how many bytes the edited blocks before a place had, and how many they have now
pub record Shift : Type 0 where
  pub had : ℕ
  pub have : ℕ

abbrev pub no_shift : Shift
no_shift = record { had = 0; have = 0 }

-- a place of the page, and where it is in the new page: moved by the bytes that were added before it
abbrev pub MovesBy : Shift → ℕ → ℕ → Type 0
MovesBy s was now = now + s.had ≡ was + s.have

-- A node begins behind these bytes and ends behind those, and its delimiters are as wide as they were.
pub record RangesMove (before past : Shift) (was now : Ranges) : Type 0 where
  pub start : MovesBy before was.start now.start
  pub end : MovesBy past was.end now.end
  pub open_w : now.open_w ≡ was.open_w
  pub close_w : now.close_w ≡ was.close_w

-- each has its ranges
abbrev pub MovesIn : Shift → Shift → Option Ranges → Option Ranges → Type 0
MovesIn before past None None = ⊥
MovesIn before past None (Some s) = ⊥
MovesIn before past (Some r) None = ⊥
MovesIn before past (Some r) (Some s) = RangesMove before past r s

-- ---- nodes

-- the same kind, attributes, delimiters, data and source: all but its number and its ranges
abbrev pub IsSameNode : Label → Label → Type 0
IsSameNode l m = placeless_label l ≡ placeless_label m

-- A node that holds no edited block: it is the same, and so is all in it, moved by the bytes that were added before it. What is in a group, which has
-- no ranges, is as it was.
abbrev mutual
  pub StaysMoved : Shift → Tree → Tree → Type 0
  StaysMoved s (tree l ts) (tree m us) =
      IsSameNode l m × MovesIn s s l.ranges m.ranges × (is_group l.kind ≡ true → ts ≡ us) × (is_group l.kind ≡ false → AllStayMoved s ts us)

  pub AllStayMoved : Shift → Trees → Trees → Type 0
  AllStayMoved s none none = Unit {0}
  AllStayMoved s none (more u us) = ⊥
  AllStayMoved s (more t ts) none = ⊥
  AllStayMoved s (more t ts) (more u us) = StaysMoved s t u × AllStayMoved s ts us

-- the bytes of a block that was edited, as many as it had and has
abbrev pub past_block : Shift → Tree → Tree → Shift
past_block s was now = record { had = s.had + length (flat was); have = s.have + length (flat now) }

-- behind a node
abbrev mutual
  pub past_node : Edited → Shift → Tree → Tree → Shift
  past_node (stays t u) s was now = s
  past_node (edited k l m ps) s was now = past_block s was now
  past_node (round l m es) s (tree x ts) (tree y us) = past_nodes es s ts us

  pub past_nodes : Edits → Shift → Trees → Trees → Shift
  past_nodes no_edits s ts us = s
  past_nodes (more_edits e es) s none us = s
  past_nodes (more_edits e es) s (more t ts) none = s
  past_nodes (more_edits e es) s (more t ts) (more u us) = past_nodes es (past_node e s t u) ts us

-- A node of the page and of the new page, by what is sent for it. One that stays is the same, moved. A block whose content was edited keeps its kind and
-- its delimiters, and is moved. One that holds such blocks is the same, but it ends later by what was added in it, too, and of what it holds the same is
-- said.
abbrev mutual
  pub IsLocalAt : Edited → Shift → Tree → Tree → Type 0
  IsLocalAt (stays t u) s was now = StaysMoved s was now
  IsLocalAt (edited k l m ps) s was now = AreKindred was now × MovesIn s (past_block s was now) (label was).ranges (label now).ranges
  IsLocalAt (round l m es) s (tree x ts) (tree y us) = IsSameNode x y × MovesIn s (past_nodes es s ts us) x.ranges y.ranges × AreLocal es s ts us

  pub AreLocal : Edits → Shift → Trees → Trees → Type 0
  AreLocal no_edits s none none = Unit {0}
  AreLocal no_edits s none (more u us) = ⊥
  AreLocal no_edits s (more t ts) us = ⊥
  AreLocal (more_edits e es) s none us = ⊥
  AreLocal (more_edits e es) s (more t ts) none = ⊥
  AreLocal (more_edits e es) s (more t ts) (more u us) = IsLocalAt e s t u × AreLocal es (past_node e s t u) ts us

-- ---- the expansion

-- what the outermost call with this number gives
abbrev pub given_by : ℕ → List Item → List Item
given_by k [] = []
given_by k (x ∷ xs) = if same_call (Some k) (call_of x) then x ∷ given_by k xs else given_by k xs

-- The page that is new has the same calls, but for their places, and its expansion is the same work, or some of it.
pub record KeepsCalls (pages : Pages) (page new : List ℕ) : Type 0 where
  pub calls : AreMoved (expanded_page pages page).outer (expanded_page pages new).outer
  pub work : AreSomeOf (page_work pages new) (page_work pages page)

-- It is the same work, so it costs the same; and each call gives what it gave.
pub record ExpandsAlike (pages : Pages) (page new : List ℕ) : Type 0 where
  pub work : page_work pages new ≡ page_work pages page
  pub outputs : (k : ℕ) → given_by k (expanded_page pages new).items ≡ given_by k (expanded_page pages page).items

-- ---- the page

-- The page with what this edit sends for the nodes of its body. (Its sections are gathered from these nodes.)
pub record IsLocalChange (pages : Pages) (page new : List ℕ) (es : Edits) : Type 0 where
  pub body : IsSameNode (label (called_tree pages page)) (label (called_tree pages new))
  pub nodes : AreLocal es no_shift (children (called_tree pages page)) (children (called_tree pages new))
  pub keeps : KeepsCalls pages page new
