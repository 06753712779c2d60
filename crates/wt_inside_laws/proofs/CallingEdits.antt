-- A retyped block of the page that holds calls is an edit that may be sent for such a block.
use Rattle.std.proofs.Common.{arith, ◌≡◌, ℕ, suc, ◌<◌, Bool, true, false, None, List, [], refl, sym, ap, ◌∙◌, subst, inl, inr}
use Rattle.std.specs.Prelude.{◌||◌}
use Rattle.wt_span.specs.Origins.{Expanded}
use Rattle.wt_tree.specs.declared.kind.Kind.{Kind}
use Rattle.wt_tree.specs.declared.edit_shape.BlockForm.TheVariants as block
use Rattle.wt_tree.specs.declared.edit_shape.InlineForm.{InlineForm}
use Rattle.wt_tree.specs.declared.edit_shape.InlineForm.TheVariants as inline
use Rattle.wt_tree.specs.EditShapes.{edit_shape}
use Rattle.wt_tree.specs.Kinds.{is_leaf}
use Rattle.wt_tree.specs.Tree.{Label, Tree, tree, Trees, none, more, label}
use Rattle.wt_original.specs.Kept.{Kept, kept_nodes}
use Rattle.wt_original.specs.Numbers.{counts_up}
use Rattle.wt_original.specs.Page.{page_of}
use Rattle.wt_annotated.specs.CutTexts.{cut_texts}
use Rattle.wt_inline.specs.ItemTree.{ItemTree}
use Rattle.wt_slices.specs.Changes.{Pair}
use Rattle.wt_link_spelling.specs.Spelling.{children_of}
use Rattle.wt_visible.specs.SameNodes.{same_node}
use Rattle.wt_expand.specs.Work.{Pages}
use Rattle.wt_part_laws.specs.Expanded.{part_items}
use Rattle.wt_part_laws.specs.HeldCalls.{block_in}
use Rattle.wt_typed_blocks.specs.Sent.{kind_of}
use Rattle.wt_typed_blocks.specs.Edited.{Pieces, page_pieces, page_node}
use Rattle.wt_text_edit_laws.specs.TextBlocks.{TextBlock, a_paragraph, a_heading, block_of}
use Rattle.wt_beside_laws.specs.Called.{HasUncalled}
use Rattle.wt_beside_laws.specs.FlatBlocks.{sent_for}
use Rattle.wt_beside_laws.specs.FlatPages.{AreNodesAndTexts}
use Rattle.wt_beside_laws.specs.NewStyles.{NewStylesNest}
use Rattle.wt_beside_laws.specs.SentStyled.{sent_content, NestsBy, AllNest}
use Rattle.wt_beside_laws.specs.Styled.{StyledContent, signs_in}
use Rattle.wt_beside_laws.proofs.Styled.SentFaults.{text_unbroken}
use Rattle.wt_called_edit_laws.specs.CalledContents.{tree_round}
use Rattle.wt_called_edit_laws.specs.CalledEdits.{IsBesideCalls, IsCalledEditOf, written_in, SendsUncalled, TextsFitAt}
use Rattle.wt_called_edit_laws.specs.CallingContents.{FitsIn}
use Rattle.wt_called_edit_laws.specs.SentAsIs.{HaveNumberedGroups}
use Rattle.wt_called_edit_laws.specs.StyledCallEdits.{IsBesideBy, AreNodesBeside, IsBesideStyles, IsStyledCallEdit}
use Rattle.wt_called_edit_laws.proofs.Beside.Counts.{block_bare, settled_counts}
use Rattle.wt_called_edit_laws.proofs.Beside.Making.{IsSettledIn, block_kind, no_leaf, node_by}
use Rattle.wt_inside_laws.specs.AsSent.{block_by, pieces_for, edit_for}
use Rattle.wt_inside_laws.specs.Contents.{borders, texts, slots}
use Rattle.wt_inside_laws.specs.RetypedCalls.{IsCallingNode, IsBeside}
use Rattle.wt_inside_laws.specs.RetypedPieces.{pieces_of, AreRead, AreUtf8}
use Rattle.wt_inside_laws.specs.TextEdits.{IsOneLine, IsRetyped}
use Rattle.wt_inside_laws.proofs.CallingPieces.{trees_gone, gone_calm, no_call_goes, none_is_new, pieces_plain}
use Rattle.wt_inside_laws.proofs.OwnEdits.{AreText, utf8_leaves, node_form, AreNodes, AnyStyle, own_texts, OnOneLine, UnbrokenIn, broken_cut, broken_joined, own_one_line, own_nest, retyped_hold, slots_hold, SameSign, SameStyled, element_sign, style_sign, own_signs, same_length, paired}
use Rattle.wt_inside_laws.proofs.OwnPieces.{own_page, HoldIn, trees_in, Anything, any_leaves, own_pieces_stay}
use Rattle.wt_inside_laws.proofs.RetypedPieces.{retyped_pieces}
use Rattle.wt_inside_laws.proofs.SlotTexts.{LeavesBy, AllLeaves, TextsHold, leaves_hold, texts_hold}
use Rattle.wt_inside_laws.proofs.UncalledPage.{AreNumbered, own_numbered, styled_numbered, children_there, block_found, block_parted}
use Rattle.wt_inside_laws.proofs.UncalledSlots.{PageParted, PageSome, NewSome, new_some, sent_uncalled}

-- ---- its pieces

old_pieces : (items : Expanded) (page : List ℕ) (p : Pair) → IsRetyped same_node items page p → AreRead (children_of p.new)
    → page_pieces (pieces_for p) ≡ children_of p.old
old_pieces items page p r read =
    let are = retyped_pieces same_node items page p r read in own_page (pieces_of (children_of p.old) (children_of p.new)) ∙ are.page

sent_is : (items : Expanded) (page : List ℕ) (p : Pair) → IsRetyped same_node items page p → AreRead (children_of p.new) → HaveNumberedGroups (children_of p.old)
    → sent_for p.old (pieces_for p) ≡ sent_content (page_of same_node p.old) (children_of p.new)
sent_is items page p r read groups =
    let ts : Trees = children_of p.old in
    let us : Trees = children_of p.new in
    let are = retyped_pieces same_node items page p r read in
    own_signs 0 (page_of same_node p.old) (pieces_of ts us)
    (trees_in Anything SameSign SameStyled (λ l os m ws f g z a. element_sign l os m ws f g z) (λ l m s b z. style_sign l m b z) ts 0 us (any_leaves us 0)
    (sym r.in_order) groups)
    ∙ ap (sent_content (page_of same_node p.old)) are.sent

-- of each text in what was sent, and of what stays
texts_in : (W : ℕ → List ℕ → Type 0) (ts us : Trees) → borders us ≡ borders ts → HaveNumberedGroups ts → AllLeaves W 0 us
    → HoldIn W AreNodes AnyStyle 0 (pieces_of ts us)
texts_in W ts us e groups h =
    trees_in W AreNodes AnyStyle (λ l os m ws f g z a. node_form (edit_shape l.kind).inline f) (λ l m s b z. tt) ts 0 us h (sym e) groups

are_texts : (items : Expanded) (page : List ℕ) (p : Pair) → IsRetyped same_node items page p → AreUtf8 (children_of p.new) → HaveNumberedGroups (children_of p.old)
    → AreNodesAndTexts (pieces_for p)
are_texts items page p r utf8 groups =
    own_texts 0 (pieces_of (children_of p.old) (children_of p.new))
    (texts_in AreText (children_of p.old) (children_of p.new) r.in_order groups (utf8_leaves (children_of p.new) 0 utf8))

-- ---- something is sent or put that is no call

pub as_settled : (pages : Pages) (k : TextBlock) (q : List ℕ) (t : Tree) → IsCallingNode pages k q t → IsSettledIn pages k q t
as_settled pages k q t c = record { number = c.number; at = c.at; before = c.before; calls = c.calls; some = c.some; is = c.is }

uncalled : (pages : Pages) (q : List ℕ) (items : Expanded) (page : List ℕ) (p : Pair) → IsRetyped same_node items page p → AreRead (children_of p.new)
    → AreUtf8 (children_of p.new) → IsCallingNode pages a_paragraph q p.old → AreNumbered (children_of p.old) → SendsUncalled p.old (pieces_for p)
uncalled pages q items page p r read utf8 c numbered =
    let ts : Trees = children_of p.old in
    let us : Trees = children_of p.new in
    let ks : List Kept = kept_nodes p.old in
    let u : ItemTree = tree_round a_paragraph (part_items pages c.before q) in
    let v : Tree = cut_texts (block_in c.calls u) in
    let counts : counts_up c.number ks ≡ true =
    subst (λ (t : Tree). counts_up c.number (kept_nodes t) ≡ true) (sym c.is) (settled_counts c.number c.at v c.some (block_bare c.calls u)) in
    let leaf : is_leaf (label p.old).kind ≡ false =
    ap is_leaf (block_kind pages a_paragraph q p.old (as_settled pages a_paragraph q p.old c)) ∙ no_leaf a_paragraph in
    let found = block_found p.old c.number c.some counts leaf numbered in
    let own = c.uncalled in
    let parted : PageParted ks None (borders ts) (texts ts) = block_parted p.old leaf own.0 found in
    let some : PageSome ks (borders ts) (texts ts) = children_there ts p.old _ own.0 found own.1 in
    let new : NewSome ks None (borders us) (texts us) =
    subst (λ bs. NewSome ks None bs (texts us)) (sym r.in_order)
    (new_some ks None None (borders ts) (texts ts) (texts us) (same_length ts us r.in_order) (paired ks ts us r.in_order r.texts) parted some) in
    subst (λ (t : StyledContent). HasUncalled (written_in p.old) [] (signs_in t)) (sym (sent_is items page p r read c.groups))
    (sent_uncalled us (page_of same_node p.old) (written_in p.old) None [] refl refl refl utf8 new)

fits_at : (k : TextBlock) (pages : Pages) (q : List ℕ) (items : Expanded) (page : List ℕ) (p : Pair) → IsRetyped same_node items page p → AreRead (children_of p.new)
    → AreUtf8 (children_of p.new) → IsCallingNode pages k q p.old → AreNumbered (children_of p.old) → TextsFitAt k p.old (pieces_for p)
fits_at a_paragraph pages q items page p r read utf8 c numbered = uncalled pages q items page p r read utf8 c numbered
fits_at (a_heading s) pages q items page p r read utf8 c numbered =
    let ts : Trees = children_of p.old in
    let us : Trees = children_of p.new in
    let one : IsOneLine (block.Heading s.level) (slots us) =
    subst (λ (j : Kind). IsOneLine (edit_shape j).form (slots us)) (block_kind pages (a_heading s) q p.old (as_settled pages (a_heading s) q p.old c)) r.one_line in
    own_one_line 0 (pieces_of ts us)
    (texts_in OnOneLine ts us r.in_order c.groups
    (leaves_hold OnOneLine (λ d x y z. broken_cut x y z) us (slots_hold None (borders us) (texts us) 0 one)))

-- ---- beside calls

pub called_edit : (pages : Pages) (k : TextBlock) (q : List ℕ) (items : Expanded) (page : List ℕ) (p : Pair) → IsRetyped same_node items page p
    → AreRead (children_of p.new) → AreUtf8 (children_of p.new) → IsCallingNode pages k q p.old → IsBesideCalls pages k q p.old
    → IsCalledEditOf pages k p.old (pieces_for p)
called_edit pages k q items page p r read utf8 c h =
    let ts : Trees = children_of p.old in
    let us : Trees = children_of p.new in
    record {
      old = old_pieces items page p r read;
      stay = own_pieces_stay ts us c.groups r.in_order;
      are = are_texts items page p r utf8 c.groups;
      plain = pieces_plain ts us h.own;
      calm = gone_calm pages (pieces_of ts us) (trees_gone ts us);
      fits = fits_at k pages q items page p r read utf8 c (own_numbered ts h.own);
    }

-- ---- beside calls and styles

-- in the page no text in a style has a line break
nest_by : (f : InlineForm) (pages : Pages) (bold italic : Bool) (d : ℕ) (l : Label) (ts : Trees) (N : Bool → Bool → Type 0) (S L : Type 0)
    → (0 < d → (bold || italic) ≡ true) → ((b i : Bool) → (b || i) ≡ true → N b i → S → L) → NestsBy f bold italic l N → IsBesideBy f pages l ts S
    → LeavesBy f UnbrokenIn d l L
nest_by inline.Nothing pages bold italic d l ts N S L e g n h = tt
nest_by inline.Characters pages bold italic d l ts N S L e g n h = λ z. text_unbroken l.shown h.0 (n (e z))
nest_by inline.Bold pages bold italic d l ts N S L e g n h = g true italic refl n.1 h.2
nest_by inline.Italic pages bold italic d l ts N S L e g n h = g bold true (or_true bold) n.1 h.2
  where
    or_true : (b : Bool) → (b || true) ≡ true
    or_true true = refl
    or_true false = refl
nest_by inline.Shown pages bold italic d l ts N S L e g n h = tt
nest_by inline.PageLink pages bold italic d l ts N S L e g n h = tt
nest_by inline.ExternalLink pages bold italic d l ts N S L e g n h = tt
nest_by inline.Tag pages bold italic d l ts N S L e g n h = tt
nest_by inline.Break pages bold italic d l ts N S L e g n h = tt
nest_by inline.AsItStood pages bold italic d l ts N S L e g n h = tt

nest_leaves : (ts : Trees) (pages : Pages) (bold italic : Bool) (d : ℕ) → (0 < d → (bold || italic) ≡ true) → AllNest bold italic ts → AreNodesBeside pages ts
    → AllLeaves UnbrokenIn d ts
nest_leaves none pages bold italic d e n h = tt
nest_leaves (more (tree l ts) us) pages bold italic d e n h = (
  nest_by (edit_shape l.kind).inline pages bold italic d l ts (λ b i. AllNest b i ts) (AreNodesBeside pages ts) (AllLeaves UnbrokenIn (suc d) ts) e
      (λ b i z q s. nest_leaves ts pages b i (suc d) (λ w. z) q s) n.0 h.0,
  nest_leaves us pages bold italic d e n.1 h.1,
)

texts_nest : (pages : Pages) (k : TextBlock) (q : List ℕ) (items : Expanded) (page : List ℕ) (p : Pair) → IsRetyped same_node items page p
    → HaveNumberedGroups (children_of p.old) → IsBesideStyles pages k q p.old → NewStylesNest false false (pieces_for p)
texts_nest pages k q items page p r groups h =
    let ts : Trees = children_of p.old in
    let us : Trees = children_of p.new in
    let ks : List Kept = kept_nodes p.old in
    let old_texts : TextsHold UnbrokenIn 0 (borders ts) (texts ts) =
    texts_hold UnbrokenIn (λ d x y a b z. broken_joined x y (a z) (b z)) (λ d z. refl) ts
    (nest_leaves ts pages false false 0 (λ z. absurd (omega (arith, z))) h.nest h.children) in
    let new_texts : TextsHold UnbrokenIn 0 (borders us) (texts us) =
    subst (λ bs. TextsHold UnbrokenIn 0 bs (texts us)) (sym r.in_order)
    (retyped_hold ks None (borders ts) (texts ts) (texts us) 0 (same_length ts us r.in_order) (paired ks ts us r.in_order r.texts) old_texts) in
    let unbroken : AllLeaves UnbrokenIn 0 us =
    leaves_hold UnbrokenIn (λ d x y a. ((λ z. (broken_cut x y (a z)).0), (λ z. (broken_cut x y (a z)).1))) us new_texts in
    own_nest 0 false false (pieces_of ts us) (λ z. absurd (cc)) (texts_in UnbrokenIn ts us r.in_order groups unbroken)

pub styled_edit : (pages : Pages) (k : TextBlock) (q : List ℕ) (items : Expanded) (page : List ℕ) (p : Pair) → IsRetyped same_node items page p
    → AreRead (children_of p.new) → AreUtf8 (children_of p.new) → IsCallingNode pages k q p.old → IsBesideStyles pages k q p.old
    → IsStyledCallEdit pages k p.old (pieces_for p)
styled_edit pages k q items page p r read utf8 c h =
    let ts : Trees = children_of p.old in
    let us : Trees = children_of p.new in
    record {
      old = old_pieces items page p r read;
      stay = own_pieces_stay ts us c.groups r.in_order;
      are = are_texts items page p r utf8 c.groups;
      calm = no_call_goes pages (pieces_of ts us) (trees_gone ts us);
      new = texts_nest pages k q items page p r c.groups h;
      free = none_is_new pages (pieces_of ts us) (trees_gone ts us);
      fits = fits_at k pages q items page p r read utf8 c (styled_numbered ts h.numbers);
    }

-- ---- in other words

same_kind : (k : TextBlock) → kind_of (block_of k) ≡ kind_of (block_by (edit_shape (kind_of (block_of k))).form)
same_kind a_paragraph = refl
same_kind (a_heading w) = refl

-- the node of the edit is the page's
node_is : (pages : Pages) (k : TextBlock) (q : List ℕ) (items : Expanded) (page : List ℕ) (p : Pair) → IsRetyped same_node items page p → AreRead (children_of p.new)
    → IsCallingNode pages k q p.old → page_node (edit_for p) ≡ p.old
node_is pages k q items page p r read c =
    let own : (label p.old).kind ≡ kind_of (block_of k) = block_kind pages k q p.old (as_settled pages k q p.old c) in
    node_by (kind_of (block_by (edit_shape (label p.old).kind).form)) p.old (page_pieces (pieces_for p))
    (own ∙ same_kind k ∙ ap (λ (j : Kind). kind_of (block_by (edit_shape j).form)) (sym own)) (old_pieces items page p r read)

pub retyped_fits : (pages : Pages) (k : TextBlock) (q : List ℕ) (items : Expanded) (page : List ℕ) (p : Pair) → IsRetyped same_node items page p
    → AreRead (children_of p.new) → AreUtf8 (children_of p.new) → IsCallingNode pages k q p.old → IsBeside pages k q p.old → FitsIn pages k q (edit_for p)
retyped_fits pages k q items page p r read utf8 c h =
    let is : page_node (edit_for p) ≡ p.old = node_is pages k q items page p r read c in
    let ps : Pieces = pieces_for p in
    elim h [
      | inl b ↦
          inr (inl (subst (λ (t : Tree). IsBesideCalls pages k q t × IsCalledEditOf pages k t ps) (sym is)
          (b, called_edit pages k q items page p r read utf8 c b)))
      | inr b ↦
          inr (inr (subst (λ (t : Tree). IsBesideStyles pages k q t × IsStyledCallEdit pages k t ps) (sym is)
          (b, styled_edit pages k q items page p r read utf8 c b)))
    ]
