-- Where all nodes of a block stay, they are sent as they are, and in their order.
use Rattle.std.proofs.Common.{◌≡◌, ℕ, Bool, true, false, List, [], ◌∷◌, refl, sym, ap, ◌∙◌, subst}
use Rattle.std.specs.Prelude.{◌||◌, if◌then◌else◌, Option}
use Rattle.wt_tree.specs.declared.kind.Kind.{Kind}
use Rattle.wt_tree.specs.declared.kind.AttrName.{AttrName}
use Rattle.wt_tree.specs.declared.node.DataMw.{DataMw}
use Rattle.wt_tree.specs.Kinds.{showing}
use Rattle.wt_tree.specs.Plain.{Face, face, Plains, ended, shown_before, plain, plain_before, plains_before}
use Rattle.wt_tree.specs.Tiling.{is_group, HasNoGroup, NoneIsGroup}
use Rattle.wt_tree.specs.Tree.{Label, Tree, tree, Trees, none, more, label}
use Rattle.wt_tree.specs.EditShapes.{edit_shape}
use Rattle.wt_tree.specs.declared.edit_shape.InlineForm.{InlineForm}
use Rattle.wt_tree.specs.declared.edit_shape.InlineForm.TheVariants as inline
use Rattle.wt_original.specs.Kept.{Kept, kept_with}
use Rattle.wt_original.specs.Page.{Page, page_of, TellsSame, node_or, restored, restored_all}
use Rattle.wt_link_spelling.specs.Spelling.{children_of}
use Rattle.wt_typed_blocks.specs.Sent.{IsSentAsIs, StandsAsIs, AllStandAsIs}
use Rattle.wt_typed_blocks.specs.Edited.{Pieces, no_pieces, gone, written, kept, around, new_style, page_pieces, text_node, sent_pieces, IsStyle, PiecesStay}
use Rattle.wt_typed_blocks.proofs.SentGroups.{in_group, of_style}
use Rattle.wt_typed_blocks.proofs.EditedShows.{shown_same}
use Rattle.wt_beside_laws.specs.OwnSigns.{IsFlatBlock}
use Rattle.wt_beside_laws.specs.SentNodes.{IsUnchanged, IsSentBy, AreSent, number_by, numbers}
use Rattle.wt_beside_laws.specs.SentPieces.{IsNoNode, OnlyTextsGo, HaveNoStyle}
use Rattle.wt_beside_laws.proofs.OwnSigns.{own_sent}

-- ---- a node that is sent as it is

pub same_face : (l m : Label) → IsSentAsIs l m → face m ≡ face l
same_face l m s =
    let F : Kind → List (AttrName × List ℕ) → Option DataMw → Face = λ k xs d. record { kind = k; attrs = xs; mw = d } in
    ap (λ (k : Kind). F k m.attrs m.mw) s.kind
    ∙ ap (λ (xs : List (AttrName × List ℕ)). F l.kind xs m.mw) s.attrs
    ∙ ap (λ (d : Option DataMw). F l.kind l.attrs d) s.mw

-- with children that show something else
node_shows : (l m : Label) (us : Trees) (f : Plains → Plains) (rest : Plains) → IsSentAsIs l m → ((ps : Plains) → plains_before us ps ≡ f ps)
    → plain_before (tree m us) rest ≡ shown_before (showing l.kind) l f rest
node_shows l m us f rest h e =
    ap (λ (k : Kind). shown_before (showing k) m (λ ps. plains_before us ps) rest) h.kind
    ∙ shown_same (showing l.kind) l m (λ ps. plains_before us ps) f rest h.shown (same_face l m h) e

-- ---- groups are put back, of which there are none

mutual
  itself : (ks : List Kept) (t : Tree) → HasNoGroup t → restored ks t ≡ t
  itself ks (tree l ts) g =
      ap (λ (b : Bool). if b then node_or (tree l ts) (kept_with l.id ks) else tree l (restored_all ks ts)) g.0 ∙ ap (tree l) (themselves ks ts g.1)

  themselves : (ks : List Kept) (ts : Trees) → NoneIsGroup ts → restored_all ks ts ≡ ts
  themselves ks none g = refl
  themselves ks (more t ts) g = ap (λ u. more u (restored_all ks ts)) (itself ks t g.0) ∙ ap (more t) (themselves ks ts g.1)

pub not_group : {A B : Type 0} (b : Bool) → b ≡ true → b ≡ false → A → B
not_group b e f a = absurd (cc)

mutual
  same_before : (ks : List Kept) (t u : Tree) (rest : Plains) → StandsAsIs t u → HasNoGroup t → plain_before (restored ks u) rest ≡ plain_before t rest
  same_before ks (tree l ts) (tree m us) rest h g =
      ap (λ (b : Bool). plain_before (if b then node_or (tree m us) (kept_with m.id ks) else tree m (restored_all ks us)) rest) (ap is_group h.0.kind ∙ g.0)
      ∙ in_group (is_group l.kind) h.1 (λ e x. not_group (is_group l.kind) e g.0 x)
      (λ e a. node_shows l m (restored_all ks us) (λ ps. plains_before ts ps) rest h.0 (λ ps. all_same_before ks ts us ps a g.1))

  all_same_before : (ks : List Kept) (ts us : Trees) (rest : Plains) → AllStandAsIs ts us → NoneIsGroup ts
      → plains_before (restored_all ks us) rest ≡ plains_before ts rest
  all_same_before ks none none rest h g = refl
  all_same_before ks none (more u us) rest h g = absurd h
  all_same_before ks (more t ts) none rest h g = absurd h
  all_same_before ks (more t ts) (more u us) rest h g =
      ap (λ (ps : Plains). plain_before (restored ks u) ps) (all_same_before ks ts us rest h.1 g.1) ∙ same_before ks t u (plains_before ts rest) h.0 g.0

-- ---- a node that stays is unchanged

own_kind : (ks : List Kept) (m : Label) (us : Trees) → is_group m.kind ≡ false → (label (restored ks (tree m us))).kind ≡ m.kind
own_kind ks m us g = ap (λ (b : Bool). (label (if b then node_or (tree m us) (kept_with m.id ks) else tree m (restored_all ks us))).kind) g

either : (a b c : Bool) → (a || b) ≡ true → (b ≡ true → c ≡ true) → (a || c) ≡ true
either true b c e f = refl
either false b c e f = f e

pub stays_unchanged : (same : Tree → Tree → Bool) (block : Tree) (l m : Label) (ts us : Trees) → TellsSame same → StandsAsIs (tree l ts) (tree m us)
    → HasNoGroup (tree l ts) → IsUnchanged (page_of same block) l ts → IsUnchanged (page_of same block) m us
stays_unchanged same block l m ts us tells h g e =
    let p : Page = page_of same block in
    let ks : List Kept = p.kept in
    let old : Tree = restored ks (tree l ts) in
    let new : Tree = restored ks (tree m us) in
    let kinds : (label new).kind ≡ (label old).kind =
    own_kind ks m us (ap is_group h.0.kind ∙ g.0) ∙ h.0.kind ∙ sym (own_kind ks l ts g.0) in
    let plains : plain new ≡ plain old = same_before ks (tree l ts) (tree m us) ended h g ∙ ap plain (sym (itself ks (tree l ts) g)) in
    record {
      kept = e.kept;
      found = ap (λ (i : ℕ). kept_with i ks) h.0.id ∙ e.found;
      same = either (is_group (label e.kept.node).kind) (same old e.kept.node) (same new e.kept.node) e.same
          (λ t. let s = (tells old e.kept.node).0 t in (tells new e.kept.node).1 (kinds ∙ s.0, plains ∙ s.1));
    }

sent_so : (w : InlineForm) (same : Tree → Tree → Bool) (block : Tree) (l m : Label) (ts us : Trees) → TellsSame same → StandsAsIs (tree l ts) (tree m us)
    → HasNoGroup (tree l ts) → IsSentBy w (page_of same block) l ts → IsSentBy w (page_of same block) m us
sent_so inline.Nothing same block l m ts us tells h g e = tt
sent_so inline.Characters same block l m ts us tells h g e = tt
sent_so inline.Bold same block l m ts us tells h g e = e
sent_so inline.Italic same block l m ts us tells h g e = e
sent_so inline.Shown same block l m ts us tells h g e = stays_unchanged same block l m ts us tells h g e
sent_so inline.PageLink same block l m ts us tells h g e = stays_unchanged same block l m ts us tells h g e
sent_so inline.ExternalLink same block l m ts us tells h g e = stays_unchanged same block l m ts us tells h g e
sent_so inline.Tag same block l m ts us tells h g e = stays_unchanged same block l m ts us tells h g e
sent_so inline.Break same block l m ts us tells h g e = stays_unchanged same block l m ts us tells h g e
sent_so inline.AsItStood same block l m ts us tells h g e = stays_unchanged same block l m ts us tells h g e

-- ---- all of them

-- a style isn't among them
pub no_style : {A : Type 0} (p : Page) (l : Label) (ts : Trees) → IsStyle l.kind → IsSentBy (edit_shape l.kind).inline p l ts → A
no_style {A} p l ts h = of_style (λ k. IsSentBy (edit_shape k).inline p l ts → A) l.kind h (λ e. absurd e) (λ e. absurd e)

-- nor is one that is sent
pub no_style_sent : {A : Type 0} (p : Page) (l m : Label) (us : Trees) → IsStyle l.kind → IsSentAsIs l m → IsSentBy (edit_shape m.kind).inline p m us → A
no_style_sent p l m us h s e = no_style p m us (subst IsStyle (sym s.kind) h) e

pub text_sent : (p : Page) (x : Label) (text : List ℕ) (us : Trees) → AreSent p us → AreSent p (text_node x text us)
text_sent p x [] us h = h
text_sent p x (c ∷ cs) us h = (tt, h)

pieces_sent : (same : Tree → Tree → Bool) (block : Tree) (ps : Pieces) → TellsSame same → AreSent (page_of same block) (page_pieces ps)
    → NoneIsGroup (page_pieces ps) → PiecesStay ps → HaveNoStyle ps → AreSent (page_of same block) (sent_pieces ps)
pieces_sent same block no_pieces tells e g h n = tt
pieces_sent same block (gone (tree l ts) ps) tells e g h n = pieces_sent same block ps tells e.1 g.1 h n
pieces_sent same block (written x text ps) tells e g h n =
    text_sent (page_of same block) x text (sent_pieces ps) (pieces_sent same block ps tells e g h n)
pieces_sent same block (kept (tree l ts) (tree m us) ps) tells e g h n = (
  subst (λ (k : Kind). IsSentBy (edit_shape k).inline (page_of same block) m us) (sym h.0.0.kind)
      (sent_so (edit_shape l.kind).inline same block l m ts us tells h.0 g.0 e.0),
  pieces_sent same block ps tells e.1 g.1 h.1 n,
)
pieces_sent same block (around l m is ps) tells e g h n = absurd n
pieces_sent same block (new_style m is ps) tells e g h n = absurd n

pub stays_sent : (same : Tree → Tree → Bool) (block : Tree) (ps : Pieces) → TellsSame same → IsFlatBlock block → page_pieces ps ≡ children_of block
    → PiecesStay ps → HaveNoStyle ps → AreSent (page_of same block) (sent_pieces ps)
stays_sent same block ps tells b is h n =
    pieces_sent same block ps tells (subst (AreSent (page_of same block)) (sym is) (own_sent same block tells b)) (subst NoneIsGroup (sym is) b.ungrouped) h n

pub texts_alone : (ps : Pieces) → OnlyTextsGo ps → HaveNoStyle ps
texts_alone no_pieces o = tt
texts_alone (gone (tree l ts) ps) o = texts_alone ps o.1
texts_alone (written x text ps) o = texts_alone ps o
texts_alone (kept t u ps) o = texts_alone ps o
texts_alone (around l m is ps) o = absurd o
texts_alone (new_style m is ps) o = absurd o

-- ---- their numbers

no_number : (w : InlineForm) (n : ℕ) (ns : List ℕ) → IsNoNode w → number_by w n ns ≡ ns
no_number inline.Nothing n ns h = refl
no_number inline.Characters n ns h = refl
no_number inline.Bold n ns h = absurd h
no_number inline.Italic n ns h = absurd h
no_number inline.Shown n ns h = absurd h
no_number inline.PageLink n ns h = absurd h
no_number inline.ExternalLink n ns h = absurd h
no_number inline.Tag n ns h = absurd h
no_number inline.Break n ns h = absurd h
no_number inline.AsItStood n ns h = absurd h

text_numbers : (x : Label) (text : List ℕ) (us : Trees) → numbers (text_node x text us) ≡ numbers us
text_numbers x [] us = refl
text_numbers x (c ∷ cs) us = refl

pieces_numbers : (ps : Pieces) → PiecesStay ps → OnlyTextsGo ps → numbers (sent_pieces ps) ≡ numbers (page_pieces ps)
pieces_numbers no_pieces h o = refl
pieces_numbers (gone (tree l ts) ps) h o =
    pieces_numbers ps h o.1 ∙ sym (no_number (edit_shape l.kind).inline l.id (numbers (page_pieces ps)) o.0)
pieces_numbers (written x text ps) h o = text_numbers x text (sent_pieces ps) ∙ pieces_numbers ps h o
pieces_numbers (kept (tree l ts) (tree m us) ps) h o =
    ap (λ (k : Kind). number_by (edit_shape k).inline m.id (numbers (sent_pieces ps))) h.0.0.kind
    ∙ ap (λ (i : ℕ). number_by (edit_shape l.kind).inline i (numbers (sent_pieces ps))) h.0.0.id
    ∙ ap (number_by (edit_shape l.kind).inline l.id) (pieces_numbers ps h.1 o)
pieces_numbers (around l m is ps) h o = absurd o
pieces_numbers (new_style m is ps) h o = absurd o

pub same_numbers : (block : Tree) (ps : Pieces) → page_pieces ps ≡ children_of block → PiecesStay ps → OnlyTextsGo ps
    → numbers (sent_pieces ps) ≡ numbers (children_of block)
same_numbers block ps is h o = pieces_numbers ps h o ∙ ap numbers is
