-- The pages of which contents of blocks that may hold calls are edited: by bytes, and those whose blocks call nothing among them.
use Rattle.std.proofs.Common.{◌≡◌, inl, inr, ℕ, zero, suc, None, Option, Some, List, [], ◌∷◌, map}
use Rattle.wt_tree.specs.Tree.{Tree, tree, Trees, none, more}
use Rattle.wt_span.specs.Origins.{OuterCall}
use Rattle.wt_expand.specs.PageCalls.{expanded_page}
use Rattle.wt_expand.specs.Work.{Pages}
use Rattle.wt_inline.specs.ItemTree.{ItemTree}
use Rattle.wt_typed_blocks.specs.Edited.{Edited, stays, edited, round, Edits}
use Rattle.wt_text_edit_laws.specs.BlockSpots.{BlockSpot, spots_source, AreContents}
use Rattle.wt_text_edit_laws.specs.Contents.{IsContent}
use Rattle.wt_text_edit_laws.specs.NoCalls.{CallsNothing}
use Rattle.wt_text_edit_laws.specs.TextBlocks.{TextBlock, source_of, block_items, block_tree}
use Rattle.wt_called_edit_laws.specs.CalledBlocks.{CallNothing, counted}
use Rattle.wt_called_edit_laws.specs.CallingContents.{FitsIn, IfSent, AreFittingIn, IsContentEditIn, IsUnmarkedContentEditIn}
use Rattle.wt_called_edit_laws.specs.CallingEdits.{TakesLetters, AllTakeLetters, IsCallingPage}
use Rattle.wt_called_edit_laws.specs.CallingGroups.{block_with_groups}
use Rattle.wt_called_edit_laws.specs.Covered.{IsEditablePage}
use Rattle.wt_called_edit_laws.specs.EditableBlocks.{IsEditableContent, AreEditableContents, IsEditableWithCalls}
use Rattle.wt_called_edit_laws.specs.EditsAt.{IsStanding, StandsTo, StandsAmong, AllStand, Fits, FitsSpot, AreFitting, edited_by, IsContentEdit, IsUnmarkedContentEdit}
use Rattle.wt_called_edit_laws.specs.FreeBlocks.{NoTextCalls}
use Rattle.wt_called_edit_laws.specs.Groups.{called_tree}
use Rattle.wt_called_edit_laws.specs.Parts.{calls_to, calls_past}
use Rattle.wt_called_edit_laws.specs.SettledAt.{IsSettledAt, SettledTo, SettledAmong, AllSettled}
use Rattle.wt_called_edit_laws.specs.WholeContents.{IsWholeIn, EachWhole}
use Rattle.wt_called_edit_laws.specs.WrittenAnew.{HoldsAnywhere, EachHolds}
use Rattle.wt_called_edit_laws.proofs.CallingMade.{calm_block, calm_standing, calm_letters}
use Rattle.wt_called_edit_laws.proofs.CallingOutside.{blocks_outside}
use Rattle.wt_called_edit_laws.proofs.Cells.CalledFrames.{among_contents}
use Rattle.wt_called_edit_laws.proofs.Cells.CallingFrames.{among_calling}
use Rattle.wt_called_edit_laws.proofs.GroupsOfPage.{first_bytes}
use Rattle.wt_called_edit_laws.proofs.Parts.NoCallsCalled.{calm_texts}
use Rattle.wt_called_edit_laws.proofs.SettledEdits.{settled_moved}
use Rattle.wt_called_edit_laws.proofs.SpotSources.{grouped_at}
use Rattle.wt_called_edit_laws.proofs.Written.AllHeld.{calm_anywhere}

-- ---- each content

one_holds : (pages : Pages) (k : TextBlock) (q : List ℕ) → IsEditableContent pages k q → HoldsAnywhere pages k q
one_holds pages k q (inl (c, n)) = calm_anywhere pages k q c n
one_holds pages k q (inr h) = h.holds

one_takes : (pages : Pages) (k : TextBlock) (q : List ℕ) → IsEditableContent pages k q → TakesLetters pages k q
one_takes pages k q (inl (c, n)) = calm_letters pages k q c n
one_takes pages k q (inr h) = h.letters

no_text : (pages : Pages) (k : TextBlock) (q : List ℕ) → IsEditableContent pages k q → (expanded_page pages (source_of k q)).text_calls ≡ []
no_text pages k q (inl (c, n)) = calm_texts pages k q c n
no_text pages k q (inr h) = h.texts

one_whole : (pages : Pages) (k : TextBlock) (q : List ℕ) → IsEditableContent pages k q → IsWholeIn pages k q
one_whole pages k q (inl (c, n)) = inl (c, n)
one_whole pages k q (inr h) = inr h.whole

all_hold : (pages : Pages) (ss : List BlockSpot) → AreEditableContents pages ss → EachHolds pages ss
all_hold pages [] h = tt
all_hold pages (s ∷ ss) h = (one_holds pages s.block s.text h.0, all_hold pages ss h.1)

all_take : (pages : Pages) (ss : List BlockSpot) → AreEditableContents pages ss → AllTakeLetters pages ss
all_take pages [] h = tt
all_take pages (s ∷ ss) h = (one_takes pages s.block s.text h.0, all_take pages ss h.1)

no_texts : (pages : Pages) (ss : List BlockSpot) → AreEditableContents pages ss → NoTextCalls pages ss
no_texts pages [] h = tt
no_texts pages (s ∷ ss) h = (no_text pages s.block s.text h.0, no_texts pages ss h.1)

all_whole : (pages : Pages) (ss : List BlockSpot) → AreEditableContents pages ss → EachWhole pages ss
all_whole pages [] h = tt
all_whole pages (s ∷ ss) h = (one_whole pages s.block s.text h.0, all_whole pages ss h.1)

-- ---- the page

pub editable_calling : (pages : Pages) (ss : List BlockSpot) (behind : List ℕ) → IsEditableWithCalls pages ss behind → IsCallingPage pages ss behind
editable_calling pages ss behind h =
    let hold : EachHolds pages ss = all_hold pages ss h.contents in
    let letters : AllTakeLetters pages ss = all_take pages ss h.contents in
    record {
      outside = blocks_outside pages ss behind h.blocks hold letters h.unrefused h.free;
      hold = hold;
      letters = letters;
      texts = no_texts pages ss h.contents;
      whole = all_whole pages ss h.contents;
      unrefused = h.unrefused;
    }

-- blocks that call nothing are such blocks
calm_contents : (pages : Pages) (ss : List BlockSpot) → AreContents ss → CallNothing ss → AreEditableContents pages ss
calm_contents pages [] c n = tt
calm_contents pages (s ∷ ss) c n = (inl (c.0, n.0), calm_contents pages ss c.1 n.1)

pub editable_with_calls : (pages : Pages) (ss : List BlockSpot) (behind : List ℕ) → IsEditablePage pages ss behind → IsEditableWithCalls pages ss behind
editable_with_calls pages ss behind h = record {
  blocks = among_calling pages ss behind h.among;
  contents = calm_contents pages ss h.among.contents h.among.calm;
  unrefused = h.unrefused;
  free = first_bytes (called_tree pages (spots_source ss behind)) ss 0 (among_contents pages ss behind h.among) h.in_no_group;
}

-- ---- where its blocks call nothing

mutual
  stands_to : (u : ItemTree) (v : Tree) (p : List ℕ) (t : Tree) → ((w : Tree) → IsSettledAt v w → IsStanding u w) → SettledTo v p t → StandsTo u p t
  stands_to u v [] t f h = f t h
  stands_to u v (i ∷ is) (tree l ts) f h = stands_among u v i is ts f h

  stands_among : (u : ItemTree) (v : Tree) (i : ℕ) (is : List ℕ) (ts : Trees) → ((w : Tree) → IsSettledAt v w → IsStanding u w) → SettledAmong v i is ts
      → StandsAmong u i is ts
  stands_among u v i is none f h = h
  stands_among u v zero is (more t ts) f h = stands_to u v is t f h
  stands_among u v (suc i) is (more t ts) f h = stands_among u v i is ts f h

all_stand : (pages : Pages) (calls : List OuterCall) (k : ℕ) (ss : List BlockSpot) (ps : List (List ℕ)) (t : Tree) → AreContents ss → CallNothing ss
    → AllSettled (grouped_at calls pages k ss) (counted ss) ps t → AllStand ss ps t
all_stand pages calls k [] [] t c n h = tt
all_stand pages calls k [] (p ∷ ps) t c n h = absurd h
all_stand pages calls k (s ∷ ss) [] t c n h = absurd h
all_stand pages calls k (s ∷ ss) (p ∷ ps) t c n h =
    let q : List ℕ = s.text in
    let v : Tree = grouped_at calls pages k (s ∷ ss) 0 in (
      stands_to (block_tree s.block q) v p t
          (λ w x. calm_standing s.block q v w c.0 (calm_block pages calls (calls_to pages k s) s.block q c.0 n.0) x) h.0,
      all_stand pages calls (calls_past pages k s) ss ps t c.1 n.1 (settled_moved (grouped_at calls pages k (s ∷ ss)) (counted ss) ps t h.1),
    )

-- they are at their paths as in a page without calls
pub calm_stand : (pages : Pages) (ss : List BlockSpot) (behind : List ℕ) (ps : List (List ℕ)) (t : Tree) → AreContents ss → CallNothing ss
    → AllSettled (block_with_groups pages ss behind) (counted ss) ps t → AllStand ss ps t
calm_stand pages ss behind ps t c n h = all_stand pages (expanded_page pages (spots_source ss behind)).outer 0 ss ps t c n h

-- and what may be sent for any block may be sent for them
fits_calm : (pages : Pages) (k : TextBlock) (q : List ℕ) (e : Edited) → IsContent k q → CallsNothing (block_items k q) → Fits k q e → FitsIn pages k q e
fits_calm pages k q (stays t u) c n f = f
fits_calm pages k q (edited j l m ps) c n f = inl (c, n, f)
fits_calm pages k q (round l m es) c n f = f

spot_calm : (pages : Pages) (s : BlockSpot) (o : Option Edited) → IsContent s.block s.text → CallsNothing (block_items s.block s.text) → FitsSpot s o
    → IfSent (FitsIn pages s.block s.text) o
spot_calm pages s None c n f = tt
spot_calm pages s (Some e) c n f = fits_calm pages s.block s.text e c n f

all_calm : (pages : Pages) (ss : List BlockSpot) (os : List (Option Edited)) → AreContents ss → CallNothing ss → AreFitting ss os → AreFittingIn pages ss os
all_calm pages [] [] c n f = tt
all_calm pages [] (o ∷ os) c n f = absurd f
all_calm pages (s ∷ ss) [] c n f = absurd f
all_calm pages (s ∷ ss) (o ∷ os) c n f = (spot_calm pages s o c.0 n.0 f.0, all_calm pages ss os c.1 n.1 f.1)

pub calm_edit : (pages : Pages) (t : Tree) (ss : List BlockSpot) (paths : List (List ℕ)) (es : Edits) → AreContents ss → CallNothing ss
    → IsContentEdit t ss paths es → IsContentEditIn pages t ss paths es
calm_edit pages t ss paths es c n e = record { old = e.old; sent = e.sent; edits = e.edits; fit = all_calm pages ss (map (edited_by es) paths) c n e.fit }

pub calm_unmarked : (pages : Pages) (t : Tree) (ss : List BlockSpot) (paths : List (List ℕ)) (es : Edits) → AreContents ss → CallNothing ss
    → IsUnmarkedContentEdit t ss paths es → IsUnmarkedContentEditIn pages t ss paths es
calm_unmarked pages t ss paths es c n e = record { edit = calm_edit pages t ss paths es c n e.edit; own = e.own }
