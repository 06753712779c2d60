-- What is sent for blocks of a page that may hold calls makes the blocks of the new page, each with its groups.
use Rattle.std.proofs.Common.{◌≡◌, ◌⊎◌, inl, inr, ℕ, zero, suc, Option, Some, None, List, [], ◌∷◌, refl, sym, ap, ◌∙◌, subst}
use Rattle.wt_tree.specs.Plain.{Plains, plain_before}
use Rattle.wt_tree.specs.Source.{flat}
use Rattle.wt_tree.specs.Tree.{Label, Tree}
use Rattle.wt_span.specs.Origins.{OuterCall}
use Rattle.wt_expand.specs.PageCalls.{expanded_page}
use Rattle.wt_expand.specs.Work.{Pages}
use Rattle.wt_inline.specs.ItemTree.{ItemTree}
use Rattle.wt_annotated.specs.CutTexts.{cut_texts}
use Rattle.wt_part_laws.specs.Expanded.{part_items}
use Rattle.wt_part_laws.specs.HeldCalls.{block_in}
use Rattle.wt_part_laws.specs.MovedCalls.{AreMoved}
use Rattle.wt_part_laws.specs.Placeless.{placeless}
use Rattle.wt_part_laws.specs.Rounded.{IsOwn}
use Rattle.wt_part_laws.specs.Standing.{standing}
use Rattle.wt_part_laws.specs.TreeFrames.{TreeFrames}
use Rattle.wt_part_laws.proofs.OwnWalks.{walk_own}
use Rattle.wt_part_laws.proofs.Sources.{standing_source}
use Rattle.wt_visible.specs.SameNodes.{same_node}
use Rattle.wt_typed_blocks.specs.Sent.{Block}
use Rattle.wt_typed_blocks.specs.Edited.{Pieces, Edited, stays, edited, round, Edits, page_node, edited_before}
use Rattle.wt_typed_blocks.specs.EditedPage.{edited_source, IsTaken, AreTaken}
use Rattle.wt_text_edit_laws.specs.BlockSpots.{BlockSpot}
use Rattle.wt_text_edit_laws.specs.Contents.{IsContent, IsNewContent}
use Rattle.wt_text_edit_laws.specs.NoCalls.{CallsNothing}
use Rattle.wt_text_edit_laws.specs.TextBlocks.{TextBlock, block_of, source_of, block_items, block_tree}
use Rattle.wt_text_edit_laws.proofs.Blocks.BlockReading.{HasFrame, content_frame}
use Rattle.wt_text_edit_laws.proofs.Blocks.Contents.{typed_new}
use Rattle.wt_text_edit_laws.proofs.Blocks.Contents.{block_source as source_is}
use Rattle.wt_text_edit_laws.proofs.Blocks.OwnContents.{content_own}
use Rattle.wt_text_edit_laws.proofs.Blocks.TypedBraces.{new_calm}
use Rattle.wt_called_edit_laws.specs.CalledContents.{tree_round, StayText}
use Rattle.wt_called_edit_laws.specs.CalledEdits.{MakesContentIn}
use Rattle.wt_called_edit_laws.specs.CallingBlocks.{IsNewContentIn, AreEdited}
use Rattle.wt_called_edit_laws.specs.CallingContents.{FitsIn, IfSent, AreFittingIn}
use Rattle.wt_called_edit_laws.specs.CallingEdits.{TakesLetters, AllTakeLetters, StaysAt}
use Rattle.wt_called_edit_laws.specs.EditsAt.{IsStanding, content_of, with_content, with_contents}
use Rattle.wt_called_edit_laws.specs.FreeBlocks.{NoTextCalls}
use Rattle.wt_called_edit_laws.specs.Parts.{calls_to, calls_past}
use Rattle.wt_called_edit_laws.specs.PartTexts.{HaveOwnSources}
use Rattle.wt_called_edit_laws.specs.Sends.{AllSend, MakesNode}
use Rattle.wt_called_edit_laws.specs.Settled.{settled}
use Rattle.wt_called_edit_laws.specs.SettledAt.{IsSettledAt}
use Rattle.wt_called_edit_laws.specs.TreeEdits.{IsInline}
use Rattle.wt_called_edit_laws.specs.WholeContents.{IsWholeIn, EachWhole}
use Rattle.wt_called_edit_laws.specs.WrittenAnew.{HoldsAnywhere, EachHolds}
use Rattle.wt_called_edit_laws.proofs.Beside.Making.{calls_make}
use Rattle.wt_called_edit_laws.proofs.Styles.Making.{styles_make}
use Rattle.wt_called_edit_laws.proofs.BlocksMade.{IsMade, edited_made, none_edited, same_edit, frames_taken}
use Rattle.wt_called_edit_laws.proofs.Cells.CallingFrames.{own_calm, content_in}
use Rattle.wt_called_edit_laws.proofs.Cells.ContentItems.{tree_is, new_anywhere}
use Rattle.wt_called_edit_laws.proofs.Cells.Equal.{same_block}
use Rattle.wt_called_edit_laws.proofs.Cells.PlaceGaps.{type_a, type_b}
use Rattle.wt_called_edit_laws.proofs.CutFrames.{block_is}
use Rattle.wt_called_edit_laws.proofs.Leads.{plain_so, edit_at}
use Rattle.wt_called_edit_laws.proofs.Parts.NoCallsCalled.{calm_outers, calm_texts, calm_items}
use Rattle.wt_called_edit_laws.proofs.Parts.Retyped.{part_anew}
use Rattle.wt_called_edit_laws.proofs.SettledEdits.{AreOfBlocks, block_kind, kind_there}
use Rattle.wt_called_edit_laws.proofs.SpotSources.{grouped_at}
use Rattle.wt_called_edit_laws.proofs.StandingSettled.{some_items, standing_settled}
use Rattle.wt_called_edit_laws.proofs.TextsMake.{flat_same}
use Rattle.wt_called_edit_laws.proofs.Written.AllHeld.{calm_anywhere}

-- ---- a block that calls nothing

-- with any calls of the page it is what it is in a page without calls
pub calm_block : (pages : Pages) (calls : List OuterCall) (i : ℕ) (k : TextBlock) (q : List ℕ) → IsContent k q → CallsNothing (block_items k q)
    → cut_texts (block_in calls (tree_round k (part_items pages i q))) ≡ placeless (standing 0 [] (block_tree k q))
calm_block pages calls i k q c calm =
    let t : ItemTree = block_tree k q in
    let own : IsOwn t = content_own k q c in
    ap (λ (u : ItemTree). cut_texts (block_in calls u)) (ap (tree_round k) (calm_items pages i q (own_calm k q c calm)) ∙ sym (tree_is k q))
    ∙ ap cut_texts (walk_own calls None 0 None [] t own.of_page own.has_items)
    ∙ block_is (λ n. t) 0

pub calm_standing : (k : TextBlock) (q : List ℕ) (v t : Tree) → IsContent k q → v ≡ placeless (standing 0 [] (block_tree k q)) → IsSettledAt v t
    → IsStanding (block_tree k q) t
calm_standing k q v t c e h = record {
  number = h.number;
  before = some_items h.at;
  some = h.some;
  is = h.is ∙ ap (settled h.number h.at) e ∙ sym (standing_settled h.number h.at (block_tree k q) (plain_so (block_tree k q) (content_own k q c)));
}

-- ---- and a new content that calls nothing

none_moved : (cs ds : List OuterCall) → cs ≡ [] → ds ≡ [] → AreMoved cs ds
none_moved cs ds e f = subst (λ xs. AreMoved xs ds) (sym e) (subst (λ ys. AreMoved [] ys) (sym f) tt)

calm_new : (pages : Pages) (k : TextBlock) (was now : List ℕ) → IsContent k was → CallsNothing (block_items k was) → IsNewContent k was now
    → IsNewContentIn pages k was now
calm_new pages k was now c calm n =
    let new : IsContent k now = n.firm.content in
    let none : CallsNothing (block_items k now) = new_calm k was now n in
    let text = new_anywhere k was now n in
    record {
      part = part_anew pages k was now n;
      content = content_in pages k now new none;
      calls = none_moved (expanded_page pages (source_of k was)).outer (expanded_page pages (source_of k now)).outer (calm_outers pages k was c calm)
          (calm_outers pages k now new none);
      stays = λ i j. subst (StayText k j) (sym (calm_items pages i now (own_calm k now new none))) (text.stays j);
    }

calm_letter : (pages : Pages) (k : TextBlock) (q now : List ℕ) → IsContent k q → CallsNothing (block_items k q) → IsNewContent k q now
    → IsNewContentIn pages k q now × HoldsAnywhere pages k now
calm_letter pages k q now c calm n = (calm_new pages k q now c calm n, calm_anywhere pages k now n.firm.content (new_calm k q now n))

pub calm_letters : (pages : Pages) (k : TextBlock) (q : List ℕ) → IsContent k q → CallsNothing (block_items k q) → TakesLetters pages k q
calm_letters pages k q c calm =
    let frame : HasFrame k = content_frame k q c in
    let a = calm_letter pages k q (97 ∷ []) c calm (typed_new k q (97 ∷ []) (type_a k frame)) in
    let b = calm_letter pages k q (98 ∷ []) c calm (typed_new k q (98 ∷ []) (type_b k frame)) in
    record { rest = []; one = a.0; other = b.0; one_holds = a.1; other_holds = b.1 }

-- ---- any content that fits

-- What holds of what is sent for a block: it is taken, what is written may stand in the old content's place, and beside it texts may be written again;
-- and it makes the block with this, whatever calls come before it.
pub record IsMadeIn (pages : Pages) (k : TextBlock) (q : List ℕ) (e : Edited) : Type 0 where
  pub taken : IsTaken same_node e
  pub inline : IsInline e
  pub new : IsNewContentIn pages k q (content_of e)
  pub holds : HoldsAnywhere pages k (content_of e)
  pub letters : TakesLetters pages k (content_of e)
  pub texts : (expanded_page pages (source_of k (content_of e))).text_calls ≡ []
  pub whole : IsWholeIn pages k (content_of e)
  pub source : edited_source same_node e ≡ source_of k (content_of e)
  pub shows : (calls : List OuterCall) (i : ℕ) (rest : Plains)
      → edited_before e rest ≡ plain_before (cut_texts (block_in calls (tree_round k (part_items pages i (content_of e))))) rest

calm_made : (pages : Pages) (k : TextBlock) (q : List ℕ) (e : Edited) → IsContent k q → CallsNothing (block_items k q) → IsMade k q e → IsMadeIn pages k q e
calm_made pages k q e c calm h =
    let now : List ℕ = content_of e in
    let new : IsContent k now = h.new.firm.content in
    let none : CallsNothing (block_items k now) = new_calm k q now h.new in
    record {
      taken = h.taken;
      inline = h.inline;
      new = calm_new pages k q now c calm h.new;
      holds = calm_anywhere pages k now new none;
      letters = calm_letters pages k now new none;
      texts = calm_texts pages k now new none;
      whole = inl (new, none);
      source = h.makes.source ∙ flat_same (standing 0 [] (block_tree k now)) ∙ standing_source 0 [] (block_tree k now) ∙ source_is k now;
      shows = λ calls i rest. h.makes.shows rest ∙ ap (λ (v : Tree). plain_before v rest) (sym (calm_block pages calls i k now new none));
    }

beside_made : (pages : Pages) (k : TextBlock) (q : List ℕ) (l m : Label) (ps : Pieces) → MakesContentIn pages k q (page_node (edited (block_of k) l m ps)) m ps
    → IsMadeIn pages k q (edited (block_of k) l m ps)
beside_made pages k q l m ps h = record {
  taken = h.taken;
  inline = h.inline;
  new = h.new;
  holds = h.holds;
  letters = h.letters;
  texts = h.texts;
  whole = h.whole;
  source = h.source;
  shows = h.shows;
}

-- where so many calls come before the block, and these are the page's
abbrev block_there : Pages → List OuterCall → ℕ → TextBlock → List ℕ → Tree
block_there pages calls i k q = cut_texts (block_in calls (tree_round k (part_items pages i q)))

own_made : (pages : Pages) (calls : List OuterCall) (i : ℕ) (k : TextBlock) (q : List ℕ) (l m : Label) (ps : Pieces)
    → IsSettledAt (block_there pages calls i k q) (page_node (edited (block_of k) l m ps)) → FitsIn pages k q (edited (block_of k) l m ps)
    → IsMadeIn pages k q (edited (block_of k) l m ps)
own_made pages calls i k q l m ps h (inl (c, calm, f)) =
    let e : Edited = edited (block_of k) l m ps in
    calm_made pages k q e c calm
    (edited_made k q (block_of k) l m ps c (calm_standing k q (block_there pages calls i k q) (page_node e) c (calm_block pages calls i k q c calm) h) f)
own_made pages calls i k q l m ps h (inr (inl (b, d))) =
    beside_made pages k q l m ps
    (calls_make pages k q (page_node (edited (block_of k) l m ps)) m ps h.number h.at i calls h.some h.is b d)
own_made pages calls i k q l m ps h (inr (inr (b, d))) =
    beside_made pages k q l m ps
    (styles_make pages k q (page_node (edited (block_of k) l m ps)) m ps h.number h.at i calls h.some h.is b d)

made_in : (pages : Pages) (calls : List OuterCall) (i : ℕ) (k : TextBlock) (q : List ℕ) (e : Edited) → IsSettledAt (block_there pages calls i k q) (page_node e)
    → FitsIn pages k q e → IsMadeIn pages k q e
made_in pages calls i k q (stays t u) h f = absurd f
made_in pages calls i k q (edited j l m ps) h f =
    let v : Tree = block_there pages calls i k q in
    let is : j ≡ block_of k = same_block j (block_of k) (kind_there v (page_node (edited j l m ps)) h ∙ block_kind calls k (part_items pages i q)) in
    let P : Block → Type 0 = λ b. IsSettledAt v (page_node (edited b l m ps)) → FitsIn pages k q (edited b l m ps) → IsMadeIn pages k q (edited b l m ps) in
    subst P (sym is) (λ g d. own_made pages calls i k q l m ps g d) h f
made_in pages calls i k q (round l m es) h f = absurd f

-- ---- at the paths of the blocks

abbrev pub AreMadeIn : Pages → List BlockSpot → List (Option Edited) → Type 0
AreMadeIn pages [] [] = Unit {0}
AreMadeIn pages [] (o ∷ os) = ⊥
AreMadeIn pages (s ∷ ss) [] = ⊥
AreMadeIn pages (s ∷ ss) (o ∷ os) = IfSent (IsMadeIn pages s.block s.text) o × AreMadeIn pages ss os

made_spot : (pages : Pages) (calls : List OuterCall) (i : ℕ) (k : TextBlock) (q : List ℕ) (o : Option Edited)
    → IfSent (λ d. IsSettledAt (block_there pages calls i k q) (page_node d)) o → IfSent (FitsIn pages k q) o → IfSent (IsMadeIn pages k q) o
made_spot pages calls i k q None h f = tt
made_spot pages calls i k q (Some e) h f = made_in pages calls i k q e h f

pub all_made : (pages : Pages) (calls : List OuterCall) (k : ℕ) (ss : List BlockSpot) (os : List (Option Edited)) → AreOfBlocks (grouped_at calls pages k ss) ss os
    → AreFittingIn pages ss os → AreMadeIn pages ss os
all_made pages calls k [] [] h f = tt
all_made pages calls k [] (o ∷ os) h f = absurd h
all_made pages calls k (s ∷ ss) [] h f = absurd h
all_made pages calls k (s ∷ ss) (o ∷ os) h f =
    (made_spot pages calls (calls_to pages k s) s.block s.text o h.0 f.0, all_made pages calls (calls_past pages k s) ss os h.1 f.1)

-- ---- the blocks of the new page

spot_edited : (pages : Pages) (s : BlockSpot) (o : Option Edited) → IfSent (IsMadeIn pages s.block s.text) o
    → ((with_content s o).before ≡ s.before) × ((with_content s o).block ≡ s.block)
    × (((with_content s o).text ≡ s.text) ⊎ IsNewContentIn pages (with_content s o).block s.text (with_content s o).text)
spot_edited pages s None h = (refl, refl, inl refl)
spot_edited pages s (Some e) h = (refl, refl, inr h.new)

pub all_edited : (pages : Pages) (ss : List BlockSpot) (os : List (Option Edited)) → AreMadeIn pages ss os → AreEdited pages ss (with_contents ss os)
all_edited pages [] [] h = tt
all_edited pages [] (o ∷ os) h = absurd h
all_edited pages (s ∷ ss) [] h = absurd h
all_edited pages (s ∷ ss) (o ∷ os) h =
    let r = spot_edited pages s o h.0 in (r.0, r.1, r.2, all_edited pages ss os h.1)

-- what each content has, those that are written, too
spot_has : (pages : Pages) (P : TextBlock → List ℕ → Type 0) → ((k : TextBlock) (q : List ℕ) (e : Edited) → IsMadeIn pages k q e → P k (content_of e))
    → (s : BlockSpot) (o : Option Edited) → IfSent (IsMadeIn pages s.block s.text) o → P s.block s.text → P (with_content s o).block (with_content s o).text
spot_has pages P f s None h g = g
spot_has pages P f s (Some e) h g = f s.block s.text e h

pub all_held : (pages : Pages) (ss : List BlockSpot) (os : List (Option Edited)) → AreMadeIn pages ss os → EachHolds pages ss → EachHolds pages (with_contents ss os)
all_held pages [] [] h g = tt
all_held pages [] (o ∷ os) h g = absurd h
all_held pages (s ∷ ss) [] h g = absurd h
all_held pages (s ∷ ss) (o ∷ os) h g = (spot_has pages (HoldsAnywhere pages) (λ k q e m. m.holds) s o h.0 g.0, all_held pages ss os h.1 g.1)

pub all_take : (pages : Pages) (ss : List BlockSpot) (os : List (Option Edited)) → AreMadeIn pages ss os → AllTakeLetters pages ss
    → AllTakeLetters pages (with_contents ss os)
all_take pages [] [] h g = tt
all_take pages [] (o ∷ os) h g = absurd h
all_take pages (s ∷ ss) [] h g = absurd h
all_take pages (s ∷ ss) (o ∷ os) h g = (spot_has pages (TakesLetters pages) (λ k q e m. m.letters) s o h.0 g.0, all_take pages ss os h.1 g.1)

pub none_text : (pages : Pages) (ss : List BlockSpot) (os : List (Option Edited)) → AreMadeIn pages ss os → NoTextCalls pages ss
    → NoTextCalls pages (with_contents ss os)
none_text pages [] [] h g = tt
none_text pages [] (o ∷ os) h g = absurd h
none_text pages (s ∷ ss) [] h g = absurd h
none_text pages (s ∷ ss) (o ∷ os) h g =
    (spot_has pages (λ k q. (expanded_page pages (source_of k q)).text_calls ≡ []) (λ k q e m. m.texts) s o h.0 g.0, none_text pages ss os h.1 g.1)

pub all_whole : (pages : Pages) (ss : List BlockSpot) (os : List (Option Edited)) → AreMadeIn pages ss os → EachWhole pages ss → EachWhole pages (with_contents ss os)
all_whole pages [] [] h g = tt
all_whole pages [] (o ∷ os) h g = absurd h
all_whole pages (s ∷ ss) [] h g = absurd h
all_whole pages (s ∷ ss) (o ∷ os) h g = (spot_has pages (IsWholeIn pages) (λ k q e m. m.whole) s o h.0 g.0, all_whole pages ss os h.1 g.1)

-- ---- what is sent makes them

spot_makes : (pages : Pages) (calls : List OuterCall) (i : ℕ) (s : BlockSpot) (o : Option Edited) (e : Edited) → IfSent (IsMadeIn pages s.block s.text) o
    → flat (block_there pages calls i (with_content s o).block (with_content s o).text) ≡ source_of (with_content s o).block (with_content s o).text
    → o ≡ Some e → MakesNode e (block_there pages calls i (with_content s o).block (with_content s o).text)
spot_makes pages calls i s None e h g p = absurd (none_edited e p)
spot_makes pages calls i s (Some d) e h g p =
    subst (λ (x : Edited). MakesNode x (block_there pages calls i s.block (content_of d))) (same_edit d e p)
    (record { source = h.source ∙ sym g; shows = λ rest. h.shows calls i rest })

pub all_make : (pages : Pages) (calls : List OuterCall) (k : ℕ) (ss : List BlockSpot) (os : List (Option Edited)) → AreMadeIn pages ss os
    → HaveOwnSources (grouped_at calls pages k (with_contents ss os)) (with_contents ss os) → (n : ℕ) (e : Edited) → edit_at os n ≡ Some e
    → MakesNode e (grouped_at calls pages k (with_contents ss os) n)
all_make pages calls k [] [] h g n e p = absurd (none_edited e p)
all_make pages calls k [] (o ∷ os) h g n e p = absurd h
all_make pages calls k (s ∷ ss) [] h g n e p = absurd h
all_make pages calls k (s ∷ ss) (o ∷ os) h g zero e p = spot_makes pages calls (calls_to pages k (with_content s o)) s o e h.0 g.0 p
all_make pages calls k (s ∷ ss) (o ∷ os) h g (suc n) e p = all_make pages calls (calls_past pages k (with_content s o)) ss os h.1 g.1 n e p

spot_stays : (s : BlockSpot) (o : Option Edited) → o ≡ None → (with_content s o).text ≡ s.text
spot_stays s None e = refl
spot_stays s (Some d) e = absurd (none_edited d (sym e))

pub all_stay : (pages : Pages) (ss : List BlockSpot) (os : List (Option Edited)) → AreMadeIn pages ss os → (n : ℕ) → edit_at os n ≡ None
    → StaysAt ss (with_contents ss os) n
all_stay pages [] os h n e = tt
all_stay pages (s ∷ ss) [] h n e = absurd h
all_stay pages (s ∷ ss) (o ∷ os) h zero e = spot_stays s o e
all_stay pages (s ∷ ss) (o ∷ os) h (suc n) e = all_stay pages ss os h.1 n e

-- ---- all that is sent is taken

spot_each : (pages : Pages) (P : Edited → Type 0) → ((k : TextBlock) (q : List ℕ) (e : Edited) → IsMadeIn pages k q e → P e) → (s : BlockSpot) (o : Option Edited)
    (e : Edited) → IfSent (IsMadeIn pages s.block s.text) o → o ≡ Some e → P e
spot_each pages P f s None e h p = absurd (none_edited e p)
spot_each pages P f s (Some d) e h p = subst P (same_edit d e p) (f s.block s.text d h)

each_made : (pages : Pages) (P : Edited → Type 0) → ((k : TextBlock) (q : List ℕ) (e : Edited) → IsMadeIn pages k q e → P e) → (ss : List BlockSpot)
    (os : List (Option Edited)) → AreMadeIn pages ss os → (n : ℕ) (e : Edited) → edit_at os n ≡ Some e → P e
each_made pages P f [] [] h n e p = absurd (none_edited e p)
each_made pages P f [] (o ∷ os) h n e p = absurd h
each_made pages P f (s ∷ ss) [] h n e p = absurd h
each_made pages P f (s ∷ ss) (o ∷ os) h zero e p = spot_each pages P f s o e h.0 p
each_made pages P f (s ∷ ss) (o ∷ os) h (suc n) e p = each_made pages P f ss os h.1 n e p

pub all_inline : (pages : Pages) (ss : List BlockSpot) (os : List (Option Edited)) → AreMadeIn pages ss os → (n : ℕ) (e : Edited) → edit_at os n ≡ Some e → IsInline e
all_inline pages ss os h = each_made pages IsInline (λ k q e m. m.inline) ss os h

pub all_taken : (pages : Pages) (ss : List BlockSpot) (os : List (Option Edited)) (fs : TreeFrames) (es : Edits) → AreMadeIn pages ss os
    → AllSend (edit_at os) fs es → AreTaken same_node es
all_taken pages ss os fs es h p = frames_taken (edit_at os) (each_made pages (IsTaken same_node) (λ k q e m. m.taken) ss os h) fs es p
