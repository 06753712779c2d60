-- Any texts are taken in paragraphs and headings among calls: an edit that types texts is one of contents.
use Rattle.std.proofs.Common.{◌≡◌, ◌≤◌, ℕ, zero, suc, List, [], ◌∷◌, length, map, refl, sym, ap, ap₂, ◌∙◌, subst}
use Rattle.std.specs.Str.{IsUtf8}
use Rattle.wt_span.specs.declared.limits.TheConstants.{PAGE_BYTES}
use Rattle.wt_devices.specs.Device.{Pages}
use Rattle.wt_tree.specs.Tree.{Label, Tree, tree, Trees, none, more, label}
use Rattle.wt_checks.specs.Kept.{children}
use Rattle.wt_commands.specs.Answers.{done, edit_to}
use Rattle.wt_difference.specs.Difference.{same_inside as is_same_inside}
use Rattle.wt_schema.specs.Read.{page as as_page}
use Rattle.wt_typed_blocks.specs.Sent.{Block, Sent, stands, typed, holds, Sents, none_sent, more_sent, old_child, old_children}
use Rattle.wt_typed_blocks.specs.Typed.{Takes, TakesText, TakeTexts}
use Rattle.wt_typed_blocks.specs.Edited.{edited, page_node}
use Rattle.wt_typed_blocks.specs.EditedUnmarked.{bare_node}
use Rattle.wt_typed_blocks.proofs.AsEdits.{replaced, as_edited, as_edits, page_is, bare_is, sent_body_is, bare_body_is}
use Rattle.wt_text_edit_laws.specs.BlockEdits.{typed_as}
use Rattle.wt_text_edit_laws.specs.BlockSpots.{BlockSpot, spots_source, AreContents}
use Rattle.wt_text_edit_laws.specs.Contents.{IsContent}
use Rattle.wt_text_edit_laws.specs.TextBlocks.{TextBlock, block_of, source_of, block_tree}
use Rattle.wt_called_edit_laws.specs.AnyBlocks.{typed_at, typed_among, typed_by, first_paths, other_paths, TypesOnly, AllTypeOnly, with_text, with_texts, new_page}
use Rattle.wt_called_edit_laws.specs.AnyTexts.{IsOwn, AreOwn}
use Rattle.wt_called_edit_laws.specs.CalledPages.{IsCalledPage}
use Rattle.wt_called_edit_laws.specs.CalledTexts.{spots_tree, TakesTextsAmong}
use Rattle.wt_called_edit_laws.specs.ContentsTaken.{TakesContents}
use Rattle.wt_called_edit_laws.specs.EditsAt.{IsStanding, StandsTo, StandsAmong, AllStand, edited_at, edited_among, edited_by, content_of, with_content, with_contents, edited_page, IsOwnEdit, AreOwnEdits}
use Rattle.wt_called_edit_laws.specs.TreeEdits.{IsEditOf, HasOwnEdits}
use Rattle.wt_called_edit_laws.proofs.BlocksMade.{text_content}
use Rattle.wt_called_edit_laws.proofs.CallsTake.{numbered_body, contents_by, contents_paths}
use Rattle.wt_called_edit_laws.proofs.Cells.Nodes.{same_inside}
use Rattle.wt_called_edit_laws.proofs.Cells.Equal.{same_first, same_rest, same_block}
use Rattle.wt_called_edit_laws.proofs.EditFacts.{IsFramedPage, framed_page, paths_of, spots_contents, spots_stand}
use Rattle.wt_called_edit_laws.proofs.Leads.{standing_kind, all_lead}
use Rattle.wt_called_edit_laws.proofs.OwnEdits.{own_edits}
use Rattle.wt_called_edit_laws.proofs.TextContents.{one_text, same_text, as_contents}

-- ---- the page with these texts

typed_own : (k : TextBlock) (q : List ℕ) (l : Label) (ts : Trees) (m x : Label) (text : List ℕ) → IsContent k q
    → IsStanding (block_tree k q) (old_child (typed (block_of k) l ts m x text)) → IsUtf8 text → Takes (block_of k) text
    → content_of (edited (block_of k) l m (replaced ts x text)) ≡ typed_as (block_of k) (source_of k q) text
typed_own k q l ts m x text c h u t =
    let is : old_child (typed (block_of k) l ts m x text) ≡ page_node (edited (block_of k) l m (replaced ts x text)) =
    sym (page_is (typed (block_of k) l ts m x text)) in
    text_content k q l m (replaced ts x text) c (subst (IsStanding (block_tree k q)) is h) (one_text (block_of k) ts x text u t)
    ∙ ap (typed_as (block_of k) (source_of k q)) (same_text ts x text)

typed_content : (k : TextBlock) (q : List ℕ) (j : Block) (l : Label) (ts : Trees) (m x : Label) (text : List ℕ) → IsContent k q
    → IsStanding (block_tree k q) (old_child (typed j l ts m x text)) → IsUtf8 text → Takes j text
    → content_of (edited j l m (replaced ts x text)) ≡ typed_as (block_of k) (source_of k q) text
typed_content k q j l ts m x text c h u t =
    let e : j ≡ block_of k = same_block j (block_of k) (standing_kind k q (old_child (typed j l ts m x text)) h) in
    let P : Block → Type 0 = λ i. IsStanding (block_tree k q) (old_child (typed i l ts m x text)) → Takes i text
    → content_of (edited i l m (replaced ts x text)) ≡ typed_as (block_of k) (source_of k q) text in
    subst P (sym e) (λ g d. typed_own k q l ts m x text c g u d) h t

mutual
  same_to : (spot : BlockSpot) (p : List ℕ) (ps : List (List ℕ)) (t : Tree) (s : Sent) → IsContent spot.block spot.text
      → StandsTo (block_tree spot.block spot.text) p t → old_child s ≡ t → TypesOnly ps s → TakesText s
      → with_content spot (edited_at p (as_edited s)) ≡ with_text spot (typed_at p s)
  same_to spot p ps t (stands v u) c a e h k = refl
  same_to spot [] ps t (typed j l ts m x text) c a e h k =
      ap (λ (bs : List ℕ). record spot { text = bs })
      (typed_content spot.block spot.text j l ts m x text c (subst (IsStanding (block_tree spot.block spot.text)) (sym e) a) h.1 k)
  same_to spot (i ∷ is) ps t (typed j l ts m x text) c a e h k = refl
  same_to spot [] ps t (holds l m ss) c a e h k = refl
  same_to spot (i ∷ is) ps (tree n ts) (holds l m ss) c a e h k = same_among spot i is ps ts ss c a (same_inside l n (old_children ss) ts e) h.1 k

  same_among : (spot : BlockSpot) (i : ℕ) (is : List ℕ) (ps : List (List ℕ)) (ts : Trees) (ss : Sents) → IsContent spot.block spot.text
      → StandsAmong (block_tree spot.block spot.text) i is ts → old_children ss ≡ ts → AllTypeOnly ps ss → TakeTexts ss
      → with_content spot (edited_among i is (as_edits ss)) ≡ with_text spot (typed_among i is ss)
  same_among spot i is ps none ss c a e h k = absurd a
  same_among spot zero is ps (more t ts) none_sent c a e h k = refl
  same_among spot (suc i) is ps (more t ts) none_sent c a e h k = refl
  same_among spot zero is ps (more t ts) (more_sent s ss) c a e h k =
      same_to spot is (first_paths ps) t s c a (same_first (old_child s) t (old_children ss) ts e) h.0 k.0
  same_among spot (suc i) is ps (more t ts) (more_sent s ss) c a e h k =
      same_among spot i is (other_paths ps) ts ss c a (same_rest (old_child s) t (old_children ss) ts e) h.1 k.1

same_by : (spot : BlockSpot) (p : List ℕ) (ps : List (List ℕ)) (t : Tree) (ss : Sents) → IsContent spot.block spot.text
    → StandsTo (block_tree spot.block spot.text) p t → old_children ss ≡ children t → AllTypeOnly ps ss → TakeTexts ss
    → with_content spot (edited_by (as_edits ss) p) ≡ with_text spot (typed_by ss p)
same_by spot [] ps t ss c a e h k = refl
same_by spot (i ∷ is) ps (tree l ts) ss c a e h k = same_among spot i is ps ts ss c a e h k

same_all : (spots : List BlockSpot) (qs ps : List (List ℕ)) (t : Tree) (ss : Sents) → AreContents spots → AllStand spots qs t → old_children ss ≡ children t
    → AllTypeOnly ps ss → TakeTexts ss → with_contents spots (map (edited_by (as_edits ss)) qs) ≡ with_texts spots (map (typed_by ss) qs)
same_all [] [] ps t ss c a e h k = refl
same_all [] (q ∷ qs) ps t ss c a e h k = absurd a
same_all (spot ∷ spots) [] ps t ss c a e h k = absurd a
same_all (spot ∷ spots) (q ∷ qs) ps t ss c a e h k =
    ap₂ (λ (r : BlockSpot) (rs : List BlockSpot). r ∷ rs) (same_by spot q ps t ss c.0 a.0 e h k) (same_all spots qs ps t ss c.1 a.1 e h k)

pub same_page : (pages : Pages) (ss : List BlockSpot) (behind : List ℕ) (paths : List (List ℕ)) → AllStand ss paths (spots_tree pages ss behind) → AreContents ss
    → (es : Sents) → IsEditOf (spots_tree pages ss behind) paths es → edited_page ss behind paths (as_edits es) ≡ new_page ss behind paths es
same_page pages ss behind paths stand contents = λ es e.
    ap (λ (rs : List BlockSpot). spots_source rs behind) (same_all ss paths paths (spots_tree pages ss behind) es contents stand e.old e.types e.take)

-- ---- what the difference looks at

mutual
  one_own : (s : Sent) → IsOwn s → IsOwnEdit (as_edited s)
  one_own (stands t u) h = h
  one_own (typed k l ts m x text) h =
      let s : Sent = typed k l ts m x text in
      ap (λ t. is_same_inside t (bare_node (as_edited s))) (page_is s) ∙ ap (is_same_inside (old_child s)) (bare_is s) ∙ h
  one_own (holds l m ss) h = (h.0, all_own ss h.1)

  pub all_own : (ss : Sents) → AreOwn ss → AreOwnEdits (as_edits ss)
  all_own none_sent h = tt
  all_own (more_sent s ss) h = (one_own s h.0, all_own ss h.1)

-- ---- the page

pub texts_by : (pages : Pages) (ss : List BlockSpot) (behind : List ℕ) (f : IsFramedPage pages ss behind) → IsCalledPage pages ss behind → TakesTextsAmong pages ss behind
texts_by pages ss behind f h =
    let t : Tree = spots_tree pages ss behind in
    let page : List ℕ = spots_source ss behind in
    let c : TakesContents pages ss behind = contents_by pages ss behind f h in
    let paths : List (List ℕ) = c.paths in
    let stand : AllStand ss paths t = c.stand in
    let contents : AreContents ss = spots_contents pages ss behind h in
    let same : (es : Sents) → IsEditOf t paths es → with_contents ss (map (edited_by (as_edits es)) paths) ≡ with_texts ss (map (typed_by es) paths) =
    λ es e. same_all ss paths paths t es contents stand e.old e.types e.take in
    let new : (es : Sents) → IsEditOf t paths es → edited_page ss behind paths (as_edits es) ≡ new_page ss behind paths es =
    same_page pages ss behind paths stand contents in
    record {
      paths = paths;
      lead = all_lead ss paths t stand;
      edits = subst (HasOwnEdits t ss) (sym (contents_paths pages ss behind f h))
          (own_edits t ss f.nodes (numbered_body pages ss behind h) (all_lead ss (paths_of f) t (spots_stand pages ss behind f h)));
      takes = λ b es e le.
          ap (edit_to pages page) (sym (sent_body_is (label t) b es))
          ∙ c.takes b (as_edits es) (as_contents t ss paths es stand e) (subst (λ (bs : List ℕ). length bs ≤ PAGE_BYTES) (sym (new es e)) le)
          ∙ ap done (new es e);
      unmarked = λ stands input b unsourced es e found short le small is.
          c.unmarked stands input b unsourced (as_edits es) (record { edit = as_contents t ss paths es stand e.edit; own = all_own es e.own }) found short
          (subst (λ (bs : List ℕ). length bs ≤ PAGE_BYTES) (sym (new es e.edit)) le) small
          (is ∙ ap (λ (u : Tree). as_page u unsourced) (sym (bare_body_is (label t) b es)));
      again = λ es e. subst (λ (rs : List BlockSpot). IsCalledPage pages rs behind) (same es e) (c.again (as_edits es) (as_contents t ss paths es stand e));
    }

pub texts_paths : (pages : Pages) (ss : List BlockSpot) (behind : List ℕ) (f : IsFramedPage pages ss behind) (h : IsCalledPage pages ss behind)
    → (texts_by pages ss behind f h).paths ≡ paths_of f
unfolding texts_by
texts_paths pages ss behind f h = contents_paths pages ss behind f h

pub texts_taken : (pages : Pages) (ss : List BlockSpot) (behind : List ℕ) → IsCalledPage pages ss behind → TakesTextsAmong pages ss behind
texts_taken pages ss behind h = texts_by pages ss behind (framed_page pages ss behind h) h
