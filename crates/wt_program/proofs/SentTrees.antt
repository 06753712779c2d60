-- The page's tree with edited contents in it may be written, and what is read of its HTML is what an editor sends.
use Rattle.std.proofs.Common.{◌≡◌, ℕ, suc, ◌+◌, ◌≤◌, ◌^◌, inl, inr, Bool, true, false, None, List, [], ◌∷◌, refl, sym, ap, ap₂, ◌∙◌, subst, arith}
use Rattle.std.specs.Prelude.{◌||◌, ◌&&◌, not, if◌then◌else◌}
use Rattle.std.specs.Str.{IsUtf8}
use Rattle.wt_tree.specs.declared.kind.Kind.{Kind}
use Rattle.wt_tree.specs.declared.kind.Kind.TheVariants as kind
use Rattle.wt_tree.specs.declared.kind.Mark.TheVariants as mark
use Rattle.wt_tree.specs.declared.row.Texts.{Texts}
use Rattle.wt_tree.specs.declared.row.Texts.TheVariants.{Separators, Page, Bordered, OwnCharacter}
use Rattle.wt_tree.specs.declared.row.Writing.{Writing}
use Rattle.wt_tree.specs.declared.row.Writing.TheVariants.{AsText, AsVoid, RoundCharacter, RoundChildren, AsSection, Unwritten}
use Rattle.wt_tree.specs.Kinds.{writing, is_block, is_leaf, is_mark, texts_of_kind, may_follow, spelling}
use Rattle.wt_tree.specs.Leaves.{leaf_label, text_leaf}
use Rattle.wt_tree.specs.Tiling.{is_group}
use Rattle.wt_tree.specs.Tree.{Label, Tree, tree, Trees, none, more, label}
use Rattle.wt_recut.specs.Cutting.{begins_with_text, IsWhole, IsFront, StandsBy, AreCut}
use Rattle.wt_recut.specs.Recut.{is_blank, are_spaces, has_break, is_as_text, is_text, shows_block, any_shows_block, is_border, is_passed, leads_to_block}
use Rattle.wt_recut.proofs.CutIs.{recut_is}
use Rattle.wt_recut.proofs.CutOnly.{cut_alone}
use Rattle.wt_schema.specs.Html.{groups, groups_of_all, groups_by}
use Rattle.wt_schema.specs.Rows.{holds_text}
use Rattle.wt_schema.specs.GroupNodes.{elements_for, all_follow}
use Rattle.wt_schema.specs.Written.{label_read, unranged, unranged_all, leaf_kind, HasLeafKind, IsWrittenGroup, is_childless, NodeIsWritten, joins, goes_behind, are_ordered, IsCutIn, WrittenIn, AllWrittenIn}
use Rattle.wt_schema.proofs.Bare.{others_read}
use Rattle.wt_checks.specs.Kept.{children}
use Rattle.wt_sections.specs.Gathering.{heading_count}
use Rattle.wt_sections.specs.Sections.{opens}
use Rattle.wt_page_round_trip.proofs.Sectioned.{IsWrittenBody}
use Rattle.wt_typed_blocks.specs.Sent.{Block, paragraph, heading, kind_of}
use Rattle.wt_typed_blocks.specs.Edited.{Pieces, no_pieces, gone, written, kept, around, new_style, page_pieces, sent_pieces, text_node, IsStyle, PiecesStay, Edited, stays, edited, round, Edits, no_edits, more_edits, page_node, page_nodes, IsEdited, AreEdited}
use Rattle.wt_typed_blocks.specs.EditedUnmarked.{bare_node, bare_nodes}
use Rattle.wt_program.specs.SentHtml.{typed_text, own_pieces, own_node, own_nodes, own_tree, AreApart, ArePiecesRead, IsRead, AreRead}

-- ---- kinds whose texts are texts of the page

record HoldsWords (k : Kind) : Type 0 where
  texts : texts_of_kind k ≡ Page
  words : holds_text k ≡ true

block_words : (k : Block) → HoldsWords (kind_of k)
block_words paragraph = record { texts = refl; words = refl }
block_words (heading n) = record { texts = refl; words = refl }

style_words : (k : Kind) → IsStyle k → HoldsWords k
style_words k (inl e) = subst HoldsWords (sym e) (record { texts = refl; words = refl })
style_words k (inr e) = subst HoldsWords (sym e) (record { texts = refl; words = refl })

style_writing : (k : Kind) → IsStyle k → writing k ≡ RoundChildren
style_writing k (inl e) = ap writing e
style_writing k (inr e) = ap writing e

style_leaf : (k : Kind) → IsStyle k → is_leaf k ≡ false
style_leaf k (inl e) = ap is_leaf e
style_leaf k (inr e) = ap is_leaf e

style_group : (k : Kind) → IsStyle k → is_group k ≡ false
style_group k (inl e) = ap is_group e
style_group k (inr e) = ap is_group e

block_writing : (k : Block) → writing (kind_of k) ≡ RoundChildren
block_writing paragraph = refl
block_writing (heading n) = refl

block_leaf : (k : Block) → is_leaf (kind_of k) ≡ false
block_leaf paragraph = refl
block_leaf (heading n) = refl

block_group : (k : Block) → is_group (kind_of k) ≡ false
block_group paragraph = refl
block_group (heading n) = refl

joins_page : (x : Texts) (b : Bool) → x ≡ Page → b ≡ false → joins x b ≡ false
joins_page x b e f = ap (λ y. joins y b) e ∙ f

not_cut : (x : Texts) (ts : Trees) → x ≡ Page → IsCutIn x ts
not_cut x ts e = subst (λ y. IsCutIn y ts) (sym e) tt

-- a text that was typed
typed_written : (k : ℕ) (parent : Kind) (b : ℕ) (bs : List ℕ) → HoldsWords parent → IsUtf8 (b ∷ bs) → WrittenIn k parent (text_leaf None (b ∷ bs))
typed_written k parent b bs w u = (
  record {
    kind = subst (λ (x : Texts). HasLeafKind x (leaf_kind parent) kind.Text) (sym w.texts)
        (ap (λ (h : Bool). if h then kind.Text else kind.Sep) (sym w.words));
    characters = u;
    some = refl;
    stands = ap (λ (h : Bool). if h then true else is_blank (b ∷ bs)) w.words;
    shown = refl;
    id = refl;
    opening = refl;
    closing = refl;
    attrs = refl;
    origin = refl;
    mark = refl;
    mw = refl;
  },
  refl,
)

-- a node that is written round what it holds holds other nodes that may be written there
round_written : (w : Writing) (k : ℕ) (parent : Kind) (l : Label) (ts us : Trees) (G : Type 0) → writing l.kind ≡ w → w ≡ RoundChildren → is_leaf l.kind ≡ false
    → (IsCutIn (texts_of_kind l.kind) ts × AllWrittenIn (suc k) l.kind ts → IsCutIn (texts_of_kind l.kind) us × AllWrittenIn (suc k) l.kind us)
    → NodeIsWritten w k parent l (is_childless ts) (IsCutIn (texts_of_kind l.kind) ts × AllWrittenIn (suc k) l.kind ts) G
    → NodeIsWritten w k parent l (is_childless us) (IsCutIn (texts_of_kind l.kind) us × AllWrittenIn (suc k) l.kind us) (IsWrittenGroup k parent l us)
round_written AsText k parent l ts us G e r f g h = absurd (cc r)
round_written AsVoid k parent l ts us G e r f g h = absurd (cc r)
round_written RoundCharacter k parent l ts us G e r f g h = absurd (cc r)
round_written RoundChildren k parent l ts us G e r f g h = (h.0, h.1, h.2, ap (λ b. not b || is_childless us) f, g h.4)
round_written (AsSection n) k parent l ts us G e r f g h = absurd (cc r)
round_written Unwritten k parent l ts us G e r f g h = absurd (cc r)

-- what such a node holds
inside_of : (w : Writing) (k : ℕ) (parent : Kind) (l : Label) (b : Bool) (H G : Type 0) → w ≡ RoundChildren → NodeIsWritten w k parent l b H G → H
inside_of AsText k parent l b H G e h = absurd (cc e)
inside_of AsVoid k parent l b H G e h = absurd (cc e)
inside_of RoundCharacter k parent l b H G e h = absurd (cc e)
inside_of RoundChildren k parent l b H G e h = h.4
inside_of (AsSection n) k parent l b H G e h = absurd (cc e)
inside_of Unwritten k parent l b H G e h = absurd (cc e)

-- ---- a content may be written

pieces_written : (ps : Pieces) (k : ℕ) (parent : Kind) → HoldsWords parent → PiecesStay ps → ArePiecesRead ps → AreApart (own_pieces ps)
    → AllWrittenIn k parent (page_pieces ps) → AllWrittenIn k parent (own_pieces ps)
pieces_written no_pieces k parent w s r a h = tt
pieces_written (gone t ps) k parent w s r a h = pieces_written ps k parent w s r a h.2
pieces_written (written x text ps) k parent w s r a h = by_text text r.1 a (λ b. pieces_written ps k parent w s r.2 b h)
  where
    by_text : (bs : List ℕ) → IsUtf8 bs → AreApart (typed_text bs (own_pieces ps)) → (AreApart (own_pieces ps) → AllWrittenIn k parent (own_pieces ps))
        → AllWrittenIn k parent (typed_text bs (own_pieces ps))
    by_text [] u b f = f b
    by_text (c ∷ cs) u b f = (
      typed_written k parent c cs w u,
      joins_page (texts_of_kind parent) (is_text (text_leaf None (c ∷ cs)) && begins_with_text (own_pieces ps)) w.texts b.0,
      f b.1,
    )
pieces_written (kept t u ps) k parent w s r a h = (
  h.0,
  joins_page (texts_of_kind parent) (is_text t && begins_with_text (own_pieces ps)) w.texts a.0,
  pieces_written ps k parent w s.1 r.1 a.1 h.2,
)
pieces_written (around l m is ps) k parent w s r a h = (
  round_written (writing l.kind) k parent l (page_pieces is) (own_pieces is) (IsWrittenGroup k parent l (page_pieces is)) refl (style_writing l.kind s.0)
      (style_leaf l.kind s.0)
      (λ i. (
        not_cut (texts_of_kind l.kind) (own_pieces is) (style_words l.kind s.0).texts,
        pieces_written is (suc k) l.kind (style_words l.kind s.0) s.2 r.2 r.1 i.1,
      )) h.0,
  joins_page (texts_of_kind parent) (is_text (tree l (own_pieces is)) && begins_with_text (own_pieces ps)) w.texts a.0,
  pieces_written ps k parent w s.3 r.3 a.1 h.2,
)
pieces_written (new_style m is ps) k parent w s r a h = absurd r

-- ---- what neighbours see stays

edited_label : (e : Edited) → label (own_node e) ≡ label (page_node e)
edited_label (stays t u) = refl
edited_label (edited k l m ps) = refl
edited_label (round l m es) = refl

edited_text : (e : Edited) → is_text (own_node e) ≡ is_text (page_node e)
edited_text e = ap (λ (l : Label). is_as_text (writing l.kind)) (edited_label e)

edited_begin : (es : Edits) → begins_with_text (own_nodes es) ≡ begins_with_text (page_nodes es)
edited_begin no_edits = refl
edited_begin (more_edits e es) = edited_text e

edited_childless : (es : Edits) → is_childless (own_nodes es) ≡ is_childless (page_nodes es)
edited_childless no_edits = refl
edited_childless (more_edits e es) = refl

shows_other : (l : Label) (ts : Trees) → is_group l.kind ≡ false → shows_block (tree l ts) ≡ is_block l.kind
shows_other l ts e = ap (λ (g : Bool). if g then any_shows_block ts else is_block l.kind) e

edited_shows : (e : Edited) → IsRead e → shows_block (own_node e) ≡ shows_block (page_node e)
edited_shows (stays t u) r = refl
edited_shows (edited k l m ps) r =
    shows_other (record l { kind = kind_of k }) (own_pieces ps) (block_group k)
    ∙ sym (shows_other (record l { kind = kind_of k }) (page_pieces ps) (block_group k))
edited_shows (round l m es) r = shows_other l (own_nodes es) r.1 ∙ sym (shows_other l (page_nodes es) r.1)

edited_border : (e : Edited) → IsRead e → is_border (own_node e) ≡ is_border (page_node e)
edited_border e r =
    ap₂ (λ (l : Label) (b : Bool). if is_as_text (writing l.kind) then has_break l.own else b) (edited_label e) (edited_shows e r)

edited_passed : (e : Edited) → is_passed (own_node e) ≡ is_passed (page_node e)
edited_passed e = ap (λ (l : Label). if is_as_text (writing l.kind) then are_spaces l.own else is_mark l.kind) (edited_label e)

edited_leads : (es : Edits) → AreRead es → leads_to_block (own_nodes es) ≡ leads_to_block (page_nodes es)
edited_leads no_edits r = refl
edited_leads (more_edits e es) r =
    ap₂ (λ x y. x || y) (edited_shows e r.0) (ap₂ (λ x y. x && y) (edited_passed e) (edited_leads es r.1))

-- a text holds nothing
text_childless : (w : Writing) (k : ℕ) (parent : Kind) (l : Label) (b : Bool) (H G : Type 0) → is_as_text w ≡ true → NodeIsWritten w k parent l b H G → b ≡ true
text_childless AsText k parent l b H G e h = h.1
text_childless AsVoid k parent l b H G e h = absurd (cc e)
text_childless RoundCharacter k parent l b H G e h = absurd (cc e)
text_childless RoundChildren k parent l b H G e h = absurd (cc e)
text_childless (AsSection n) k parent l b H G e h = absurd (cc e)
text_childless Unwritten k parent l b H G e h = absurd (cc e)

childless_same : (es : Edits) → is_childless (page_nodes es) ≡ true → own_nodes es ≡ page_nodes es
childless_same no_edits h = refl
childless_same (more_edits e es) h = absurd (cc h)

-- so it stays as it is
edited_same : (e : Edited) (k : ℕ) (parent : Kind) → WrittenIn k parent (page_node e) → is_text (page_node e) ≡ true → own_node e ≡ page_node e
edited_same (stays t u) k parent w h = refl
edited_same (edited j l m ps) k parent w h = absurd (let x : is_as_text (writing (kind_of j)) ≡ false = ap is_as_text (block_writing j) in cc)
edited_same (round l m es) k parent w h =
    ap (tree l) (childless_same es (text_childless (writing l.kind) k parent l (is_childless (page_nodes es))
    (IsCutIn (texts_of_kind l.kind) (page_nodes es) × AllWrittenIn (suc k) l.kind (page_nodes es)) (IsWrittenGroup k parent l (page_nodes es)) h w))

-- ---- the cut of texts stays

whole_same : (behind : Bool) (e : Edited) (es : Edits) → own_node e ≡ page_node e → AreRead es
    → IsWhole behind (leads_to_block (page_nodes es)) (page_node e) → IsWhole behind (leads_to_block (own_nodes es)) (own_node e)
whole_same behind e es same r h =
    subst (λ (t : Tree). IsWhole behind (leads_to_block (own_nodes es)) t) (sym same)
    (subst (λ (b : Bool). IsWhole behind b (page_node e)) (sym (edited_leads es r)) h)

stands_same : (behind : Bool) (e : Edited) (es : Edits) (k : ℕ) (parent : Kind) (x : Bool) → is_text (page_node e) ≡ x → WrittenIn k parent (page_node e)
    → AllWrittenIn k parent (page_nodes es) → AreRead es
    → StandsBy x (begins_with_text (page_nodes es)) (IsWhole behind (leads_to_block (page_nodes es)) (page_node e)) (IsFront behind (page_node e) (page_nodes es))
    → StandsBy x (begins_with_text (own_nodes es)) (IsWhole behind (leads_to_block (own_nodes es)) (own_node e)) (IsFront behind (own_node e) (own_nodes es))
stands_same behind e es k parent false t w ws r h = tt
stands_same behind e no_edits k parent true t w ws r h = whole_same behind e no_edits (edited_same e k parent w t) r h
stands_same behind e (more_edits d ds) k parent true t w ws r h = by_next (is_text (page_node d)) refl (is_text (own_node d)) (edited_text d) h
  where
    same : own_node e ≡ page_node e
    same = edited_same e k parent w t

    by_next : (y : Bool) → is_text (page_node d) ≡ y → (z : Bool) → z ≡ is_text (page_node d)
        → StandsBy true y (IsWhole behind (leads_to_block (page_nodes (more_edits d ds))) (page_node e)) (IsFront behind (page_node e) (page_nodes (more_edits d ds)))
        → StandsBy true z (IsWhole behind (leads_to_block (own_nodes (more_edits d ds))) (own_node e)) (IsFront behind (own_node e) (own_nodes (more_edits d ds)))
    by_next false y true z i = absurd (cc)
    by_next false y false z i = whole_same behind e (more_edits d ds) same r i
    by_next true y false z i = absurd (cc)
    by_next true y true z i =
        subst (λ (s : Tree). IsFront behind (own_node e) (more s (own_nodes ds))) (sym (edited_same d k parent ws.0 y))
        (subst (λ (s : Tree). IsFront behind s (more (page_node d) (own_nodes ds))) (sym same) i)

cut_same : (es : Edits) (behind : Bool) (k : ℕ) (parent : Kind) → AreRead es → AllWrittenIn k parent (page_nodes es) → AreCut behind (page_nodes es)
    → AreCut behind (own_nodes es)
cut_same no_edits behind k parent r w h = tt
cut_same (more_edits e es) behind k parent r w h = (
  subst (λ (x : Bool). StandsBy x (begins_with_text (own_nodes es)) (IsWhole behind (leads_to_block (own_nodes es)) (own_node e)) (IsFront behind (own_node e) (own_nodes es)))
      (sym (edited_text e)) (stands_same behind e es k parent (is_text (page_node e)) refl w.0 w.2 r.1 h.0),
  subst (λ (b : Bool). AreCut (behind || b) (own_nodes es)) (sym (edited_border e r.0)) (cut_same es (behind || is_border (page_node e)) k parent r.1 w.2 h.1),
)

goes_other : (b : Bool) (l : Label) (ts : Trees) → is_group l.kind ≡ false → goes_behind b (tree l ts) ≡ may_follow b l.kind
goes_other b l ts e = ap (λ (g : Bool). if g then all_follow b (elements_for ts) else may_follow b l.kind) e

edited_goes : (b : Bool) (e : Edited) → IsRead e → goes_behind b (own_node e) ≡ goes_behind b (page_node e)
edited_goes b (stays t u) r = refl
edited_goes b (edited k l m ps) r =
    goes_other b (record l { kind = kind_of k }) (own_pieces ps) (block_group k)
    ∙ sym (goes_other b (record l { kind = kind_of k }) (page_pieces ps) (block_group k))
edited_goes b (round l m es) r = goes_other b l (own_nodes es) r.1 ∙ sym (goes_other b l (page_nodes es) r.1)

ordered_same : (es : Edits) (b : Bool) → AreRead es → are_ordered b (own_nodes es) ≡ are_ordered b (page_nodes es)
ordered_same no_edits b r = refl
ordered_same (more_edits e es) b r =
    ap₂ (λ x y. x && are_ordered (b || y) (own_nodes es)) (edited_goes b e r.0) (edited_shows e r.0)
    ∙ ap (λ x. goes_behind b (page_node e) && x) (ordered_same es (b || shows_block (page_node e)) r.1)

cut_in_same : (x : Texts) (es : Edits) (k : ℕ) (parent : Kind) → AreRead es → AllWrittenIn k parent (page_nodes es) → IsCutIn x (page_nodes es) → IsCutIn x (own_nodes es)
cut_in_same Separators es k parent r w h = tt
cut_in_same Page es k parent r w h = tt
cut_in_same Bordered es k parent r w h =
    let was : AreCut false (page_nodes es) = subst (AreCut false) h.0 (recut_is (page_nodes es)) in
    (sym (cut_alone (own_nodes es) (own_nodes es) (cut_same es false k parent r w was) refl), ordered_same es false r ∙ h.1)
cut_in_same OwnCharacter es k parent r w h = tt

-- ---- nodes may be written

holder_written : (w : Writing) (k : ℕ) (parent : Kind) (l : Label) (es : Edits) → writing l.kind ≡ w → is_group l.kind ≡ false
    → (IsCutIn (texts_of_kind l.kind) (page_nodes es) × AllWrittenIn (suc k) l.kind (page_nodes es)
    → IsCutIn (texts_of_kind l.kind) (own_nodes es) × AllWrittenIn (suc k) l.kind (own_nodes es))
    → NodeIsWritten w k parent l (is_childless (page_nodes es)) (IsCutIn (texts_of_kind l.kind) (page_nodes es) × AllWrittenIn (suc k) l.kind (page_nodes es))
    (IsWrittenGroup k parent l (page_nodes es))
    → NodeIsWritten w k parent l (is_childless (own_nodes es)) (IsCutIn (texts_of_kind l.kind) (own_nodes es) × AllWrittenIn (suc k) l.kind (own_nodes es))
    (IsWrittenGroup k parent l (own_nodes es))
holder_written AsText k parent l es e n f h = (h.0, edited_childless es ∙ h.1)
holder_written AsVoid k parent l es e n f h = (h.0, h.1, h.2, ap (λ b. not (is_leaf l.kind) || b) (edited_childless es) ∙ h.3, f h.4)
holder_written RoundCharacter k parent l es e n f h = (h.0, h.1, h.2, ap (λ b. not (is_leaf l.kind) || b) (edited_childless es) ∙ h.3, f h.4)
holder_written RoundChildren k parent l es e n f h = (h.0, h.1, h.2, ap (λ b. not (is_leaf l.kind) || b) (edited_childless es) ∙ h.3, f h.4)
holder_written (AsSection s) k parent l es e n f h = absurd h
holder_written Unwritten k parent l es e n f h = absurd (let x : is_group l.kind ≡ true = ap is_group h.label.kind in cc)

mutual
  node_written : (e : Edited) (k : ℕ) (parent : Kind) → IsEdited e → IsRead e → WrittenIn k parent (page_node e) → WrittenIn k parent (own_node e)
  node_written (stays t u) k parent s r h = h
  node_written (edited j l m ps) k parent s r h =
      round_written (writing (kind_of j)) k parent (record l { kind = kind_of j }) (page_pieces ps) (own_pieces ps)
      (IsWrittenGroup k parent (record l { kind = kind_of j }) (page_pieces ps)) refl (block_writing j) (block_leaf j)
      (λ i. (
        not_cut (texts_of_kind (kind_of j)) (own_pieces ps) (block_words j).texts,
        pieces_written ps (suc k) (kind_of j) (block_words j) s.1 r.2 r.1 i.1,
      )) h
  node_written (round l m es) k parent s r h =
      holder_written (writing l.kind) k parent l es refl r.1
      (λ i. (cut_in_same (texts_of_kind l.kind) es (suc k) l.kind r.2 i.1 i.0, nodes_written es (suc k) l.kind s.1 r.2 i.1)) h

  pub nodes_written : (es : Edits) (k : ℕ) (parent : Kind) → AreEdited es → AreRead es → AllWrittenIn k parent (page_nodes es) → AllWrittenIn k parent (own_nodes es)
  nodes_written no_edits k parent s r h = tt
  nodes_written (more_edits e es) k parent s r h = (
    node_written e k parent s.0 r.0 h.0,
    ap₂ (λ x y. joins (texts_of_kind parent) (x && y)) (edited_text e) (edited_begin es) ∙ h.1,
    nodes_written es k parent s.1 r.1 h.2,
  )

-- ---- as many headings, and no more groups

headings_same : (es : Edits) → heading_count (own_nodes es) ≡ heading_count (page_nodes es)
headings_same no_edits = refl
headings_same (more_edits e es) = ap₂ (λ (l : Label) n. opens (spelling l.kind).level + n) (edited_label e) (headings_same es)

by_inside : (w : Writing) (a b : ℕ) → a ≤ b → groups_by w a ≤ groups_by w b
by_inside AsText a b h = omega arith
by_inside AsVoid a b h = omega arith
by_inside RoundCharacter a b h = omega arith
by_inside RoundChildren a b h = h
by_inside (AsSection n) a b h = h
by_inside Unwritten a b h = omega arith

groups_other : (l : Label) (ts : Trees) → is_group l.kind ≡ false → groups (tree l ts) ≡ groups_by (writing l.kind) (groups_of_all ts)
groups_other l ts e = ap (λ (g : Bool). if g then 1 else groups_by (writing l.kind) (groups_of_all ts)) e

groups_inside : (l : Label) (ts us : Trees) → is_group l.kind ≡ false → groups_of_all us ≤ groups_of_all ts → groups (tree l us) ≤ groups (tree l ts)
groups_inside l ts us e h =
    let a : groups (tree l us) ≡ groups_by (writing l.kind) (groups_of_all us) = groups_other l us e in
    let b : groups (tree l ts) ≡ groups_by (writing l.kind) (groups_of_all ts) = groups_other l ts e in
    let c : groups_by (writing l.kind) (groups_of_all us) ≤ groups_by (writing l.kind) (groups_of_all ts) =
    by_inside (writing l.kind) (groups_of_all us) (groups_of_all ts) h in
    omega (arith, a, b, c)

pieces_groups : (ps : Pieces) → PiecesStay ps → ArePiecesRead ps → groups_of_all (own_pieces ps) ≤ groups_of_all (page_pieces ps)
pieces_groups no_pieces s r = omega arith
pieces_groups (gone t ps) s r = let h : groups_of_all (own_pieces ps) ≤ groups_of_all (page_pieces ps) = pieces_groups ps s r in omega (arith, h)
pieces_groups (written x text ps) s r = by_text text (pieces_groups ps s r.2)
  where
    by_text : (bs : List ℕ) → groups_of_all (own_pieces ps) ≤ groups_of_all (page_pieces ps)
        → groups_of_all (typed_text bs (own_pieces ps)) ≤ groups_of_all (page_pieces ps)
    by_text [] h = h
    by_text (c ∷ cs) h = omega (arith, h)
pieces_groups (kept t u ps) s r = let h : groups_of_all (own_pieces ps) ≤ groups_of_all (page_pieces ps) = pieces_groups ps s.1 r.1 in omega (arith, h)
pieces_groups (around l m is ps) s r =
    let a : groups (tree l (own_pieces is)) ≤ groups (tree l (page_pieces is)) =
    groups_inside l (page_pieces is) (own_pieces is) (style_group l.kind s.0) (pieces_groups is s.2 r.2) in
    let b : groups_of_all (own_pieces ps) ≤ groups_of_all (page_pieces ps) = pieces_groups ps s.3 r.3 in
    omega (arith, a, b)
pieces_groups (new_style m is ps) s r = absurd r

mutual
  node_groups : (e : Edited) → IsEdited e → IsRead e → groups (own_node e) ≤ groups (page_node e)
  node_groups (stays t u) s r = omega arith
  node_groups (edited k l m ps) s r =
      groups_inside (record l { kind = kind_of k }) (page_pieces ps) (own_pieces ps) (block_group k) (pieces_groups ps s.1 r.2)
  node_groups (round l m es) s r = groups_inside l (page_nodes es) (own_nodes es) r.1 (nodes_groups es s.1 r.2)

  pub nodes_groups : (es : Edits) → AreEdited es → AreRead es → groups_of_all (own_nodes es) ≤ groups_of_all (page_nodes es)
  nodes_groups no_edits s r = omega arith
  nodes_groups (more_edits e es) s r =
      let a : groups (own_node e) ≤ groups (page_node e) = node_groups e s.0 r.0 in
      let b : groups_of_all (own_nodes es) ≤ groups_of_all (page_nodes es) = nodes_groups es s.1 r.1 in
      omega (arith, a, b)

-- ---- the page's tree with these contents in it

pub body_written : (t : Tree) (es : Edits) → page_nodes es ≡ children t → AreEdited es → AreRead es → IsWrittenBody t → IsWrittenBody (own_tree t es)
body_written (tree l ts) es e s r w = (
  w.0,
  w.1,
  nodes_written es 8 kind.Body s r (subst (AllWrittenIn 8 kind.Body) (sym e) w.2),
  subst (λ (n : ℕ). 1 + n ≤ 2 ^ 32) (sym (headings_same es ∙ ap heading_count e)) w.3,
)

pub body_groups : (t : Tree) (es : Edits) → page_nodes es ≡ children t → AreEdited es → AreRead es → (label t).kind ≡ kind.Body → groups (own_tree t es) ≤ groups t
body_groups (tree l ts) es e s r b =
    groups_inside l ts (own_nodes es) (ap is_group b)
    (subst (λ (us : Trees). groups_of_all (own_nodes es) ≤ groups_of_all us) e (nodes_groups es s r))

-- ---- what is read of it is what is sent, but for marks

pieces_read : (ps : Pieces) → PiecesStay ps → ArePiecesRead ps → sent_pieces ps ≡ unranged_all (own_pieces ps)
pieces_read no_pieces s r = refl
pieces_read (gone t ps) s r = pieces_read ps s r
pieces_read (written x text ps) s r = by_text text r.0 (pieces_read ps s r.2)
  where
    by_text : (bs : List ℕ) → x ≡ leaf_label kind.Text None bs bs → sent_pieces ps ≡ unranged_all (own_pieces ps)
        → text_node x bs (sent_pieces ps) ≡ unranged_all (typed_text bs (own_pieces ps))
    by_text [] e h = h
    by_text (c ∷ cs) e h =
        ap₂ (λ (y : Label) (us : Trees). more (tree (record y { kind = kind.Text; id = 0; shown = c ∷ cs; mark = mark.Nothing }) none) us) e h
pieces_read (kept t u ps) s r = ap₂ more r.0 (pieces_read ps s.1 r.1)
pieces_read (around l m is ps) s r =
    ap₂ (λ (y : Label) (us : Trees). more (tree y us) (sent_pieces ps)) r.0 (pieces_read is s.2 r.2)
    ∙ ap₂ more (sym (others_read l (own_pieces is) (style_group l.kind s.0))) (pieces_read ps s.3 r.3)
pieces_read (new_style m is ps) s r = absurd r

block_read : (k : Block) (l m : Label) (ts us : Trees) → m ≡ label_read (record l { kind = kind_of k }) → us ≡ unranged_all ts
    → tree (record m { kind = kind_of k; id = l.id; attrs = l.attrs; mw = l.mw }) us ≡ unranged (tree (record l { kind = kind_of k }) ts)
block_read paragraph l m ts us e h = ap₂ (λ (y : Label) (vs : Trees). tree (record y { kind = kind.Para; id = l.id; attrs = l.attrs; mw = l.mw }) vs) e h
block_read (heading n) l m ts us e h = ap₂ (λ (y : Label) (vs : Trees). tree (record y { kind = kind.Heading n; id = l.id; attrs = l.attrs; mw = l.mw }) vs) e h

mutual
  node_read : (e : Edited) → IsEdited e → IsRead e → bare_node e ≡ unranged (own_node e)
  node_read (stays t u) s r = r
  node_read (edited k l m ps) s r = block_read k l m (own_pieces ps) (sent_pieces ps) r.0 (pieces_read ps s.1 r.2)
  node_read (round l m es) s r = ap₂ tree r.0 (nodes_read es s.1 r.2) ∙ sym (others_read l (own_nodes es) r.1)

  pub nodes_read : (es : Edits) → AreEdited es → AreRead es → bare_nodes es ≡ unranged_all (own_nodes es)
  nodes_read no_edits s r = refl
  nodes_read (more_edits e es) s r = ap₂ more (node_read e s.0 r.0) (nodes_read es s.1 r.1)
