-- An edit that types texts at paths of a tree is one of contents: each is one text in the place of all that a block held.
use Rattle.std.proofs.Common.{◌≡◌, inl, ℕ, zero, suc, List, [], ◌∷◌, map, refl, ◌∙◌}
use Rattle.std.specs.Str.{IsUtf8}
use Rattle.wt_tree.specs.Tree.{Label, Tree, Trees, none, more}
use Rattle.wt_typed_blocks.specs.Sent.{Block, Sent, stands, typed, holds, Sents, none_sent, more_sent}
use Rattle.wt_typed_blocks.specs.Typed.{Takes, TakesText, TakeTexts}
use Rattle.wt_typed_blocks.proofs.AsEdits.{replaced, as_edited, as_edits, pages_are, are_edited}
use Rattle.wt_text_edit_laws.specs.BlockSpots.{BlockSpot}
use Rattle.wt_called_edit_laws.specs.AnyBlocks.{first_paths, other_paths, TypesOnly, AllTypeOnly}
use Rattle.wt_called_edit_laws.specs.EditsAt.{AllStand, edited_at, edited_among, edited_by, EditsOnly, AllEditOnly, IsOneText, FitsSpot, AreFitting, IsContentEdit}
use Rattle.wt_called_edit_laws.specs.TreeEdits.{IsEditOf}
use Rattle.wt_called_edit_laws.proofs.BlocksMade.{text_of}

-- ---- it is an edit of contents at these paths

mutual
  one_only : (ps : List (List ℕ)) (s : Sent) → TypesOnly ps s → EditsOnly ps (as_edited s)
  one_only ps (stands t u) h = tt
  one_only ps (typed k l ts m x text) h = h.0
  one_only ps (holds l m ss) h = (h.0, all_only ps ss h.1)

  pub all_only : (ps : List (List ℕ)) (ss : Sents) → AllTypeOnly ps ss → AllEditOnly ps (as_edits ss)
  all_only ps none_sent h = tt
  all_only ps (more_sent s ss) h = (one_only (first_paths ps) s h.0, all_only (other_paths ps) ss h.1)

pub one_text : (k : Block) (ts : Trees) (x : Label) (text : List ℕ) → IsUtf8 text → Takes k text → IsOneText k (replaced ts x text)
one_text k none x text u t = (u, t, tt)
one_text k (more v ts) x text u t = one_text k ts x text u t

pub same_text : (ts : Trees) (x : Label) (text : List ℕ) → text_of (replaced ts x text) ≡ text
same_text none x text = refl
same_text (more v ts) x text = same_text ts x text

mutual
  fits_to : (spot : BlockSpot) (p : List ℕ) (ps : List (List ℕ)) (s : Sent) → TypesOnly ps s → TakesText s → FitsSpot spot (edited_at p (as_edited s))
  fits_to spot p ps (stands t u) h c = tt
  fits_to spot [] ps (typed k l ts m x text) h c = inl (one_text k ts x text h.1 c)
  fits_to spot (i ∷ is) ps (typed k l ts m x text) h c = tt
  fits_to spot [] ps (holds l m ss) h c = tt
  fits_to spot (i ∷ is) ps (holds l m ss) h c = fits_among spot i is ps ss h.1 c

  fits_among : (spot : BlockSpot) (i : ℕ) (is : List ℕ) (ps : List (List ℕ)) (ss : Sents) → AllTypeOnly ps ss → TakeTexts ss
      → FitsSpot spot (edited_among i is (as_edits ss))
  fits_among spot i is ps none_sent h c = tt
  fits_among spot zero is ps (more_sent s ss) h c = fits_to spot is (first_paths ps) s h.0 c.0
  fits_among spot (suc i) is ps (more_sent s ss) h c = fits_among spot i is (other_paths ps) ss h.1 c.1

fits_by : (spot : BlockSpot) (p : List ℕ) (ps : List (List ℕ)) (ss : Sents) → AllTypeOnly ps ss → TakeTexts ss → FitsSpot spot (edited_by (as_edits ss) p)
fits_by spot [] ps ss h c = tt
fits_by spot (i ∷ is) ps ss h c = fits_among spot i is ps ss h c

all_fit : (spots : List BlockSpot) (qs ps : List (List ℕ)) (t : Tree) (ss : Sents) → AllStand spots qs t → AllTypeOnly ps ss → TakeTexts ss
    → AreFitting spots (map (edited_by (as_edits ss)) qs)
all_fit [] [] ps t ss a h c = tt
all_fit [] (q ∷ qs) ps t ss a h c = absurd a
all_fit (spot ∷ spots) [] ps t ss a h c = absurd a
all_fit (spot ∷ spots) (q ∷ qs) ps t ss a h c = (fits_by spot q ps ss h c, all_fit spots qs ps t ss a.1 h c)

pub as_contents : (t : Tree) (spots : List BlockSpot) (paths : List (List ℕ)) (ss : Sents) → AllStand spots paths t → IsEditOf t paths ss
    → IsContentEdit t spots paths (as_edits ss)
as_contents t spots paths ss a e = record {
  old = pages_are ss ∙ e.old;
  sent = are_edited ss e.sent;
  edits = all_only paths ss e.types;
  fit = all_fit spots paths paths t ss a e.types e.take;
}
