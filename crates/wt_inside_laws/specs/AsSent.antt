-- The edited tree of a page as the laws of edits take it: outside the marked blocks each node of the page is sent as it is, and in these blocks its
-- own nodes are, with the texts beside them that are sent. What else is sent counts for nothing: other separators, marks and skips, and how the
-- nodes that stay are told.
use Rattle.std.specs.Prelude.{◌≡◌, ◌⊎◌, ℕ, zero, suc, Bool, true, false, ◌||◌, Option, Some, None, MatchOption, List, [], ◌∷◌, ◌++◌, map, if◌then◌else◌}
use Rattle.std.specs.List.{AllByRecursion}
use Rattle.wt_span.specs.Origins.{Expanded}
use Rattle.wt_tree.specs.declared.edit_shape.BlockForm.{BlockForm}
use Rattle.wt_tree.specs.declared.edit_shape.BlockForm.TheVariants as form
use Rattle.wt_tree.specs.declared.edit_shape.Place.{Place as Surround}
use Rattle.wt_tree.specs.declared.kind.Mark.{Mark}
use Rattle.wt_tree.specs.declared.kind.Mark.TheVariants as marks
use Rattle.wt_tree.specs.EditShapes.{edit_shape}
use Rattle.wt_tree.specs.Kinds.{showing, writing}
use Rattle.wt_tree.specs.Opened.{without_sections}
use Rattle.wt_tree.specs.Plain.{Plains, plains_before}
use Rattle.wt_tree.specs.Tiling.{is_group, InPreorder}
use Rattle.wt_tree.specs.Tree.{Label, Tree, tree, Trees, none, more, label}
use Rattle.wt_original.specs.Page.{page_of as block_page}
use Rattle.wt_link_spelling.specs.Spelling.{children_of, signs_of_all}
use Rattle.wt_checks.specs.BareSections.{HasBareSections}
use Rattle.wt_checks.specs.Kept.{children}
use Rattle.wt_checks.specs.Places.{Place, places, number, is_kept, Page, page_of}
use Rattle.wt_checks.specs.PutBack.{IsOneBody, AreAsRead}
use Rattle.wt_checks.specs.Tokens.{is_text}
use Rattle.wt_checks.specs.Unmarked.{is_compared}
use Rattle.wt_checks.specs.WithoutMarks.{mark_off}
use Rattle.wt_content.specs.Content.{outermost, all_faults}
use Rattle.wt_slices.specs.Changes.{Pair, marked}
use Rattle.wt_visible.specs.Children.{shown_children}
use Rattle.wt_slices.specs.BodySlices.{slices}
use Rattle.wt_visible.specs.Restored.{all_restored, restored_from}
use Rattle.wt_visible.specs.SameNodes.{same_node}
use Rattle.wt_selser.specs.Edits.{edit_answer}
use Rattle.wt_selser.specs.Leaves.{LeavesHoldNoNumber}
use Rattle.wt_typed_blocks.specs.Sent.{Block, paragraph, heading}
use Rattle.wt_typed_blocks.specs.Edited.{Pieces, page_pieces, sent_pieces, PiecesStay, pieces_before, Edited, stays, edited, round, Edits, no_edits, more_edits, page_nodes, AreEdited, AreOutside, sent_body}
use Rattle.wt_expand.specs.Work.{Pages}
use Rattle.wt_page_round_trip.specs.PageTree.{page_tree}
use Rattle.wt_commands.specs.Answers.{edit_to}
use Rattle.wt_called_edit_laws.specs.EditsAt.{edited_by, AllEditOnly, sent_contents}
use Rattle.wt_called_edit_laws.specs.Groups.{called_tree}
use Rattle.wt_called_edit_laws.specs.SentAsIs.{as_sent}
use Rattle.wt_inside_laws.specs.RetypedPieces.{pieces_of, as_own}
use Rattle.wt_inside_laws.specs.TextEdits.{takes_text}

-- ---- the edit

-- all but separators, marks and skips, as the checks compare them
abbrev pub seen : Trees → List Tree
seen none = []
seen (more t ts) = if is_compared (showing (label t).kind) then t ∷ seen ts else seen ts

abbrev pub block_by : BlockForm → Block
block_by form.Paragraph = paragraph
block_by (form.Heading n) = heading n
block_by form.Rule = paragraph
block_by form.Item = paragraph
block_by form.NoBlock = paragraph

-- of a marked block the page's own nodes, and the texts that are sent beside them
abbrev pub pieces_for : Pair → Pieces
pieces_for p = as_own (pieces_of (children_of p.old) (children_of p.new))

abbrev pub edit_for : Pair → Edited
edit_for p = edited (block_by (edit_shape (label p.old).kind).form) (label p.old) (label p.new) (pieces_for p)

-- a node of the page that is sent as it is, without marks; of each group the elements that are written for it
abbrev pub as_it_is : Tree → Edited
as_it_is t = stays t (as_sent t)

-- a content is edited there
abbrev mutual
  pub holds_edit : Edited → Bool
  holds_edit (stays t u) = false
  holds_edit (edited k l m ps) = true
  holds_edit (round l m es) = hold_edits es

  pub hold_edits : Edits → Bool
  hold_edits no_edits = false
  hold_edits (more_edits e es) = holds_edit e || hold_edits es

abbrev pub round_if : Bool → Tree → Edits → Edited
round_if true t es = round (label t) (mark_off (label t)) es
round_if false t es = as_it_is t

-- by the mark of what is sent: for a node of the page, with what is sent for its children
abbrev pub edit_by : Mark → Pair → Edits → Edited
edit_by marks.Nothing p es = round_if (hold_edits es) p.old es
edit_by marks.Content p es = edit_for p
edit_by marks.Children p es = round_if (hold_edits es) p.old es
edit_by marks.Other p es = round_if (hold_edits es) p.old es

-- a text, or a group, is sent as it is
abbrev pub unless_whole : Bool → Tree → Edited → Edited
unless_whole true t e = as_it_is t
unless_whole false t e = e

-- A node of the page that is compared is the next of those that are sent.
abbrev pub first_edit : Bool → Tree → (Tree → Edited) → (List Tree → Edits) → List Tree → Edits
first_edit false t here after us = more_edits (as_it_is t) (after us)
first_edit true t here after [] = more_edits (as_it_is t) (after [])
first_edit true t here after (u ∷ us) = more_edits (here u) (after us)

abbrev mutual
  pub edit_of : Tree → Tree → Edited
  edit_of (tree l ts) u =
      unless_whole (is_text (writing l.kind)) (tree l ts)
      (unless_whole (is_group l.kind) (tree l ts)
      (edit_by (label u).mark (record { old = tree l ts; new = u }) (edits_among ts (seen (children_of u)))))

  pub edits_among : Trees → List Tree → Edits
  edits_among none us = no_edits
  edits_among (more t ts) us = first_edit (is_compared (showing (label t).kind)) t (λ u. edit_of t u) (λ vs. edits_among ts vs) us

-- of a page's tree, without its sections, and the tree that is sent for it
abbrev pub edits_of : Tree → Tree → Edits
edits_of t new = edits_among (children_of t) (seen (children_of new))

-- ---- where contents are edited

abbrev pub past_first : List ℕ → List ℕ
past_first [] = []
past_first (i ∷ is) = suc i ∷ is

-- the paths to them, in preorder
abbrev mutual
  pub paths_in : Edited → List (List ℕ)
  paths_in (stays t u) = []
  paths_in (edited k l m ps) = [] ∷ []
  paths_in (round l m es) = paths_of es

  pub paths_of : Edits → List (List ℕ)
  paths_of no_edits = []
  paths_of (more_edits e es) = map (λ p. zero ∷ p) (paths_in e) ++ map past_first (paths_of es)

-- the node at a path
abbrev mutual
  pub node_at : List ℕ → Tree → Option Tree
  node_at [] t = Some t
  node_at (i ∷ is) (tree l ts) = node_among i is ts

  pub node_among : ℕ → List ℕ → Trees → Option Tree
  node_among i is none = None
  node_among zero is (more t ts) = node_at is t
  node_among (suc i) is (more t ts) = node_among i is ts

-- each of these paths is one of those
abbrev pub IsOneOf : List ℕ → List (List ℕ) → Type 0
IsOneOf p [] = ⊥
IsOneOf p (q ∷ qs) = (p ≡ q) ⊎ IsOneOf p qs

abbrev pub AreSomeOf : List (List ℕ) → List (List ℕ) → Type 0
AreSomeOf ps qs = AllByRecursion (λ p. IsOneOf p qs) ps

-- ---- what is asked of what is sent

-- A page, in its sections or without them: its numbers are in preorder, and the body is the only one; no leaf holds a number.
pub record IsPlainPage (t : Tree) : Type 0 where
  pub sections : HasBareSections t
  pub numbered : InPreorder t
  pub one : IsOneBody (without_sections t)
  pub in_order : InPreorder (without_sections t)
  pub leaves : LeavesHoldNoNumber (without_sections t)

-- outside marked blocks: where the page's node with its number has no data, it has none
abbrev pub HasNoMore : Page → Place → Type 0
HasNoMore page p = is_kept p ≡ true → p.in_content ≡ false → MatchOption (page (number p)) (Unit {0}) (λ q. (label q.node).mw ≡ None → (label p.node).mw ≡ None)

-- What is sent for a page, as it is read: one body without sections, whose texts, separators, marks and skips hold nothing; no more data is in it than
-- in the page.
pub record IsReadFor (t new : Tree) : Type 0 where
  pub one : IsOneBody new
  pub read : AreAsRead new
  pub no_more : AllByRecursion (HasNoMore (page_of t)) (places new)

-- Of a marked paragraph or heading of the page these pieces are the content, and what is sent for it is written as they are, is refused where they
-- are, and shows what they show.
pub record IsAlike (same : Tree → Tree → Bool) (page : Page) (p : Pair) : Type 0 where
  pub block : takes_text (edit_shape (label p.old).kind).form ≡ true
  pub are : page_pieces (pieces_for p) ≡ children_of p.old
  pub stay : PiecesStay (pieces_for p)
  pub written : (pl : Surround) → signs_of_all (block_page same p.old) pl (children_of p.new) ≡ signs_of_all (block_page same p.old) pl (sent_pieces (pieces_for p))
  pub refused : all_faults (block_page same p.old) (outermost p.old) (children_of p.new)
      ≡ all_faults (block_page same p.old) (outermost p.old) (sent_pieces (pieces_for p))
  pub shows : (rest : Plains) → plains_before (all_restored page (children_of p.new)) rest ≡ pieces_before (pieces_for p) rest

-- ---- the same edit

-- The edit of the page's nodes, of which the marked ones alone are edited: at their paths, in their order, and none of them in a group. It is answered
-- as what was sent, shows what that shows, and replaces the same slices of the page.
pub record IsAsSent (same : Tree → Tree → Bool) (t new : Tree) (es : Edits) : Type 0 where
  pub old : page_nodes es ≡ children (without_sections t)
  pub stay : AreEdited es
  pub outside : AreOutside es
  pub at : map (λ path. node_at path (without_sections t)) (paths_of es) ≡ map (λ p. Some p.old) (marked t new)
  pub each : map (edited_by es) (paths_of es) ≡ map (λ p. Some (edit_for p)) (marked t new)
  pub only : (paths : List (List ℕ)) → AreSomeOf (paths_of es) paths → AllEditOnly paths es
  pub answer : (items : Expanded) (page : List ℕ) (b : Label)
      → edit_answer same items page t new ≡ edit_answer same items page t (sent_body (label (without_sections t)) b es)
  pub shows : (b : Label) → shown_children (restored_from t new) ≡ shown_children (restored_from t (sent_body (label (without_sections t)) b es))
  pub changes : (b : Label) → slices same t new ≡ slices same t (sent_body (label (without_sections t)) b es)

-- So of a page, whatever a folder has: the edit is that of its own nodes.
pub record IsSentOn (pages : Pages) (page : List ℕ) (new : Tree) (es : Edits) : Type 0 where
  pub old : page_nodes es ≡ children (called_tree pages page)
  pub stay : AreEdited es
  pub outside : AreOutside es
  pub at : map (λ path. node_at path (called_tree pages page)) (paths_of es) ≡ map (λ p. Some p.old) (marked (page_tree pages page) new)
  pub each : map (edited_by es) (paths_of es) ≡ map (λ p. Some (edit_for p)) (marked (page_tree pages page) new)
  pub only : (paths : List (List ℕ)) → AreSomeOf (paths_of es) paths → AllEditOnly paths es
  pub alike : (b : Label) → edit_to pages page new ≡ edit_to pages page (sent_contents (called_tree pages page) es b)
  pub changes : (b : Label) → slices same_node (page_tree pages page) new ≡ slices same_node (page_tree pages page) (sent_contents (called_tree pages page) es b)
