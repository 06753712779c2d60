-- What is sent of a block with styles: nodes that stay, and any texts between them, in bold and italic that stay or are new, too.
use Rattle.std.proofs.Common.{◌≡◌, ℕ, Bool, List, [], ◌∷◌, ◌++◌, refl, sym, ap, ◌∙◌, subst, append_assoc}
use Rattle.std.specs.Str.{IsUtf8}
use Rattle.wt_tree.specs.declared.kind.Kind.{Kind}
use Rattle.wt_tree.specs.declared.kind.Showing.{Showing}
use Rattle.wt_tree.specs.declared.kind.Showing.TheVariants as showing
use Rattle.wt_tree.specs.declared.edit_shape.InlineForm.{InlineForm}
use Rattle.wt_tree.specs.declared.edit_shape.InlineForm.TheVariants as inline
use Rattle.wt_tree.specs.EditShapes.{edit_shape}
use Rattle.wt_tree.specs.Kinds.{showing as showing_of}
use Rattle.wt_tree.specs.Tiling.{is_group}
use Rattle.wt_tree.specs.Plain.{Plains, plain_before, plains_before, shown_before}
use Rattle.wt_tree.specs.Tiling.{HasNoGroup, NoneIsGroup}
use Rattle.wt_tree.specs.Tree.{Label, Tree, tree, Trees, none, more}
use Rattle.wt_recut.specs.Recutting.{appended}
use Rattle.wt_original.specs.Kept.{kept_with}
use Rattle.wt_original.specs.Page.{Page, page_of, TellsSame}
use Rattle.wt_typed_blocks.specs.Sent.{IsSentAsIs, StandsAsIs, AllStandAsIs}
use Rattle.wt_typed_blocks.specs.Edited.{Pieces, no_pieces, gone, written, kept, around, new_style, as_new, page_pieces, text_node, sent_pieces, IsStyle, PiecesStay, pieces_before}
use Rattle.wt_typed_blocks.proofs.EditedShows.{shown_same}
use Rattle.wt_typed_blocks.proofs.SentGroups.{in_group, of_style, apart, apart_groups, new_sent}
use Rattle.wt_beside_laws.specs.FlatPages.{AreNodesAndTexts}
use Rattle.wt_beside_laws.specs.SentPieces.{ShowsItsSource}
use Rattle.wt_beside_laws.specs.SentStyled.{IsStyledBy, IsStyledSent, AreStyledSent, ShowsBy, Shows, AllShow}
use Rattle.wt_beside_laws.specs.StyledBlocks.{numbers_by, numbers_of, all_numbers, AreSomeOf}
use Rattle.wt_beside_laws.proofs.SentPieces.{same_face, stays_unchanged, not_group}

-- ---- what stays shows the same

node_shows : (l m : Label) (us : Trees) (f : Plains → Plains) (rest : Plains) → IsSentAsIs l m → ((ps : Plains) → plains_before us ps ≡ f ps)
    → plain_before (tree m us) rest ≡ shown_before (showing_of l.kind) l f rest
node_shows l m us f rest h e =
    ap (λ (k : Kind). shown_before (showing_of k) m (λ ps. plains_before us ps) rest) h.kind
    ∙ shown_same (showing_of l.kind) l m (λ ps. plains_before us ps) f rest h.shown (same_face l m h) e

mutual
  same_plain : (t u : Tree) (rest : Plains) → StandsAsIs t u → HasNoGroup t → plain_before u rest ≡ plain_before t rest
  same_plain (tree l ts) (tree m us) rest h g =
      in_group (is_group l.kind) h.1 (λ e x. not_group (is_group l.kind) e g.0 x)
      (λ e a. node_shows l m us (λ ps. plains_before ts ps) rest h.0 (λ ps. same_plains ts us ps a g.1))

  same_plains : (ts us : Trees) (rest : Plains) → AllStandAsIs ts us → NoneIsGroup ts → plains_before us rest ≡ plains_before ts rest
  same_plains none none rest h g = refl
  same_plains none (more u us) rest h g = absurd h
  same_plains (more t ts) none rest h g = absurd h
  same_plains (more t ts) (more u us) rest h g =
      ap (λ (ps : Plains). plain_before u ps) (same_plains ts us rest h.1 g.1) ∙ same_plain t u (plains_before ts rest) h.0 g.0

text_plain : (x : Label) (text : List ℕ) (us : Trees) (rest : Plains) → plains_before (text_node x text us) rest ≡ pieces_before (written x text no_pieces) (plains_before us rest)
text_plain x [] us rest = sym (no_text (plains_before us rest))
  where
    no_text : (qs : Plains) → pieces_before (written x [] no_pieces) qs ≡ qs
    no_text qs = refl
text_plain x (c ∷ cs) us rest = refl

pub pieces_plain : (ps : Pieces) (rest : Plains) → NoneIsGroup (page_pieces ps) → PiecesStay ps → plains_before (sent_pieces ps) rest ≡ pieces_before ps rest
pieces_plain no_pieces rest g h = refl
pieces_plain (gone t ps) rest g h = pieces_plain ps rest g.1 h
pieces_plain (written x text ps) rest g h =
    text_plain x text (sent_pieces ps) rest ∙ ap (λ (qs : Plains). pieces_before (written x text no_pieces) qs) (pieces_plain ps rest g h)
pieces_plain (kept t u ps) rest g h =
    ap (λ (qs : Plains). plain_before u qs) (pieces_plain ps rest g.1 h.1) ∙ same_plain t u (pieces_before ps rest) h.0 g.0
pieces_plain (around l m is ps) rest g h =
    ap (λ (qs : Plains). plain_before (tree m (sent_pieces is)) qs) (pieces_plain ps rest g.1 h.3)
    ∙ node_shows l m (sent_pieces is) (λ qs. pieces_before is qs) (pieces_before ps rest) h.1 (λ qs. pieces_plain is qs g.0.1 h.2)
pieces_plain (new_style m is ps) rest g h =
    let r = apart_groups (page_pieces is) (page_pieces ps) g in
    ap (λ (qs : Plains). plain_before (tree (as_new m) (sent_pieces is)) qs) (pieces_plain ps rest r.1 h.2)
    ∙ node_shows (as_new m) (as_new m) (sent_pieces is) (λ qs. pieces_before is qs) (pieces_before ps rest) (new_sent m) (λ qs. pieces_plain is qs r.0 h.1)

-- ---- its nodes are the page's

one_styled : (w : InlineForm) (same : Tree → Tree → Bool) (block : Tree) (l m : Label) (ts us : Trees) (A B : Type 0) → TellsSame same
    → StandsAsIs (tree l ts) (tree m us) → HasNoGroup (tree l ts) → (A → B) → IsStyledBy w (page_of same block) l ts A → IsStyledBy w (page_of same block) m us B
one_styled inline.Nothing same block l m ts us A B tells h g f e = tt
one_styled inline.Characters same block l m ts us A B tells h g f e = tt
one_styled inline.Bold same block l m ts us A B tells h g f e = f e
one_styled inline.Italic same block l m ts us A B tells h g f e = f e
one_styled inline.Shown same block l m ts us A B tells h g f e = stays_unchanged same block l m ts us tells h g e
one_styled inline.PageLink same block l m ts us A B tells h g f e = stays_unchanged same block l m ts us tells h g e
one_styled inline.ExternalLink same block l m ts us A B tells h g f e = stays_unchanged same block l m ts us tells h g e
one_styled inline.Tag same block l m ts us A B tells h g f e = stays_unchanged same block l m ts us tells h g e
one_styled inline.Break same block l m ts us A B tells h g f e = stays_unchanged same block l m ts us tells h g e
one_styled inline.AsItStood same block l m ts us A B tells h g f e = stays_unchanged same block l m ts us tells h g e

mutual
  tree_styled : (same : Tree → Tree → Bool) (block t u : Tree) → TellsSame same → StandsAsIs t u → HasNoGroup t → IsStyledSent (page_of same block) t
      → IsStyledSent (page_of same block) u
  tree_styled same block (tree l ts) (tree m us) tells h g e =
      subst (λ (k : Kind). IsStyledBy (edit_shape k).inline (page_of same block) m us (AreStyledSent (page_of same block) us)) (sym h.0.kind)
      (one_styled (edit_shape l.kind).inline same block l m ts us (AreStyledSent (page_of same block) ts) (AreStyledSent (page_of same block) us) tells h g
      (λ a. in_group (is_group l.kind) h.1 (λ i x. not_group (is_group l.kind) i g.0 x) (λ i s. all_styled same block ts us tells s g.1 a)) e)

  all_styled : (same : Tree → Tree → Bool) (block : Tree) (ts us : Trees) → TellsSame same → AllStandAsIs ts us → NoneIsGroup ts
      → AreStyledSent (page_of same block) ts → AreStyledSent (page_of same block) us
  all_styled same block none none tells h g e = tt
  all_styled same block none (more u us) tells h g e = absurd h
  all_styled same block (more t ts) none tells h g e = absurd h
  all_styled same block (more t ts) (more u us) tells h g e = (tree_styled same block t u tells h.0 g.0 e.0, all_styled same block ts us tells h.1 g.1 e.1)

text_styled : (p : Page) (x : Label) (text : List ℕ) (us : Trees) → AreStyledSent p us → AreStyledSent p (text_node x text us)
text_styled p x [] us h = h
text_styled p x (c ∷ cs) us h = (tt, h)

-- so it is of bold and italic, whatever is in it
style_styled : {A B : Type 0} (p : Page) (l m : Label) (ts us : Trees) → IsStyle l.kind → IsSentAsIs l m → (A → B) → IsStyledBy (edit_shape l.kind).inline p l ts A
    → IsStyledBy (edit_shape m.kind).inline p m us B
style_styled {A} {B} p l m ts us h s f e =
    let same : IsStyledBy (edit_shape l.kind).inline p m us B =
    of_style (λ k. IsStyledBy (edit_shape k).inline p l ts A → IsStyledBy (edit_shape k).inline p m us B) l.kind h f f e in
    subst (λ (k : Kind). IsStyledBy (edit_shape k).inline p m us B) (sym s.kind) same

pub pieces_styled : (same : Tree → Tree → Bool) (block : Tree) (ps : Pieces) → TellsSame same → AreStyledSent (page_of same block) (page_pieces ps)
    → NoneIsGroup (page_pieces ps) → PiecesStay ps → AreStyledSent (page_of same block) (sent_pieces ps)
pieces_styled same block no_pieces tells e g h = tt
pieces_styled same block (gone t ps) tells e g h = pieces_styled same block ps tells e.1 g.1 h
pieces_styled same block (written x text ps) tells e g h =
    text_styled (page_of same block) x text (sent_pieces ps) (pieces_styled same block ps tells e g h)
pieces_styled same block (kept t u ps) tells e g h =
    (tree_styled same block t u tells h.0 g.0 e.0, pieces_styled same block ps tells e.1 g.1 h.1)
pieces_styled same block (around l m is ps) tells e g h = (
  style_styled (page_of same block) l m (page_pieces is) (sent_pieces is) h.0 h.1
      (λ a. pieces_styled same block is tells a g.0.1 h.2) e.0,
  pieces_styled same block ps tells e.1 g.1 h.3,
)
pieces_styled same block (new_style m is ps) tells e g h =
    let p : Page = page_of same block in
    let r = apart_groups (page_pieces is) (page_pieces ps) g in
    let d = apart (λ t. IsStyledSent p t) (λ us. AreStyledSent p us) tt (λ t us x. x) (λ t us x. x) (page_pieces is) (page_pieces ps) e in
    let own : AreStyledSent p (sent_pieces is) = pieces_styled same block is tells d.0 r.0 h.1 in (
      of_style (λ k. IsStyledBy (edit_shape k).inline p (as_new m) (sent_pieces is) (AreStyledSent p (sent_pieces is))) m.kind h.0 own own,
      pieces_styled same block ps tells d.1 r.1 h.2,
    )

-- ---- what they show

of_kind : (l m : Label) (s : Showing) → IsSentAsIs l m → showing_of l.kind ≡ s → showing_of m.kind ≡ s
of_kind l m s h e = ap showing_of h.kind ∙ e

source_shown : (p : Page) (l m : Label) (ts us : Trees) → IsSentAsIs l m → ((rest : Plains) → plain_before (tree m us) rest ≡ plain_before (tree l ts) rest)
    → ShowsItsSource p (tree l ts) → ShowsItsSource p (tree m us)
source_shown p l m ts us h e f = λ k i rest. f k (ap (λ (n : ℕ). kept_with n p.kept) (sym h.id) ∙ i) rest ∙ sym (e rest)

one_shows : (w : InlineForm) (p : Page) (l m : Label) (ts us : Trees) (A B : Type 0) → IsSentAsIs l m
    → ((rest : Plains) → plain_before (tree m us) rest ≡ plain_before (tree l ts) rest) → (A → B) → ShowsBy w p l ts A → ShowsBy w p m us B
one_shows inline.Nothing p l m ts us A B h e f s = of_kind l m showing.Nothing h s
one_shows inline.Characters p l m ts us A B h e f s = (of_kind l m showing.Characters h s.0, subst IsUtf8 (sym (h.shown s.0)) s.1)
one_shows inline.Bold p l m ts us A B h e f s = (of_kind l m showing.Element h s.0, same_face l m h ∙ s.1, f s.2)
one_shows inline.Italic p l m ts us A B h e f s = (of_kind l m showing.Element h s.0, same_face l m h ∙ s.1, f s.2)
one_shows inline.Shown p l m ts us A B h e f s = source_shown p l m ts us h e s
one_shows inline.PageLink p l m ts us A B h e f s = source_shown p l m ts us h e s
one_shows inline.ExternalLink p l m ts us A B h e f s = source_shown p l m ts us h e s
one_shows inline.Tag p l m ts us A B h e f s = source_shown p l m ts us h e s
one_shows inline.Break p l m ts us A B h e f s = source_shown p l m ts us h e s
one_shows inline.AsItStood p l m ts us A B h e f s = source_shown p l m ts us h e s

mutual
  tree_shows : (p : Page) (t u : Tree) → StandsAsIs t u → HasNoGroup t → Shows p t → Shows p u
  tree_shows p (tree l ts) (tree m us) h g s =
      subst (λ (k : Kind). ShowsBy (edit_shape k).inline p m us (AllShow p us)) (sym h.0.kind)
      (one_shows (edit_shape l.kind).inline p l m ts us (AllShow p ts) (AllShow p us) h.0 (λ rest. same_plain (tree l ts) (tree m us) rest h g)
      (λ a. in_group (is_group l.kind) h.1 (λ i x. not_group (is_group l.kind) i g.0 x) (λ i st. all_show p ts us st g.1 a)) s)

  all_show : (p : Page) (ts us : Trees) → AllStandAsIs ts us → NoneIsGroup ts → AllShow p ts → AllShow p us
  all_show p none none h g s = tt
  all_show p none (more u us) h g s = absurd h
  all_show p (more t ts) none h g s = absurd h
  all_show p (more t ts) (more u us) h g s = (tree_shows p t u h.0 g.0 s.0, all_show p ts us h.1 g.1 s.1)

text_shows : (p : Page) (x : Label) (text : List ℕ) (us : Trees) → IsUtf8 text → AllShow p us → AllShow p (text_node x text us)
text_shows p x [] us u h = h
text_shows p x (c ∷ cs) us u h = ((refl, u), h)

style_shows : {A B : Type 0} (p : Page) (l m : Label) (ts us : Trees) → IsStyle l.kind → IsSentAsIs l m → (A → B) → ShowsBy (edit_shape l.kind).inline p l ts A
    → ShowsBy (edit_shape m.kind).inline p m us B
style_shows {A} {B} p l m ts us h s f e =
    let same : ShowsBy (edit_shape l.kind).inline p m us B =
    of_style (λ k. ShowsBy (edit_shape k).inline p l ts A → ShowsBy (edit_shape k).inline p m us B) l.kind h
    (λ d. (of_kind l m showing.Element s d.0, same_face l m s ∙ d.1, f d.2)) (λ d. (of_kind l m showing.Element s d.0, same_face l m s ∙ d.1, f d.2)) e in
    subst (λ (k : Kind). ShowsBy (edit_shape k).inline p m us B) (sym s.kind) same

pub pieces_show : (p : Page) (ps : Pieces) → NoneIsGroup (page_pieces ps) → PiecesStay ps → AreNodesAndTexts ps → AllShow p (page_pieces ps)
    → AllShow p (sent_pieces ps)
pieces_show p no_pieces g h a s = tt
pieces_show p (gone t ps) g h a s = pieces_show p ps g.1 h a s.1
pieces_show p (written x text ps) g h a s = text_shows p x text (sent_pieces ps) a.0 (pieces_show p ps g h a.1 s)
pieces_show p (kept t u ps) g h a s = (tree_shows p t u h.0 g.0 s.0, pieces_show p ps g.1 h.1 a.1 s.1)
pieces_show p (around l m is ps) g h a s =
    (style_shows p l m (page_pieces is) (sent_pieces is) h.0 h.1 (λ e. pieces_show p is g.0.1 h.2 a.0 e) s.0, pieces_show p ps g.1 h.3 a.1 s.1)
pieces_show p (new_style m is ps) g h a s =
    let r = apart_groups (page_pieces is) (page_pieces ps) g in
    let d = apart (λ t. Shows p t) (λ us. AllShow p us) tt (λ t us x. x) (λ t us x. x) (page_pieces is) (page_pieces ps) s in
    let own : AllShow p (sent_pieces is) = pieces_show p is r.0 h.1 a.0 d.0 in (
      of_style (λ k. ShowsBy (edit_shape k).inline p (record (as_new m) { kind = k }) (sent_pieces is) (AllShow p (sent_pieces is))) m.kind h.0
          (refl, refl, own) (refl, refl, own),
      pieces_show p ps r.1 h.2 a.1 d.1,
    )

-- ---- their numbers

mutual
  same_numbers : (t u : Tree) → StandsAsIs t u → HasNoGroup t → numbers_of u ≡ numbers_of t
  same_numbers (tree l ts) (tree m us) h g =
      ap (λ (k : Kind). numbers_by (edit_shape k).inline m.id (all_numbers us)) h.0.kind
      ∙ ap (λ (n : ℕ). numbers_by (edit_shape l.kind).inline n (all_numbers us)) h.0.id
      ∙ ap (numbers_by (edit_shape l.kind).inline l.id)
      (in_group (is_group l.kind) h.1 (λ i x. not_group (is_group l.kind) i g.0 x) (λ i s. same_all ts us s g.1))

  same_all : (ts us : Trees) → AllStandAsIs ts us → NoneIsGroup ts → all_numbers us ≡ all_numbers ts
  same_all none none h g = refl
  same_all none (more u us) h g = absurd h
  same_all (more t ts) none h g = absurd h
  same_all (more t ts) (more u us) h g =
      ap (λ (ns : List ℕ). ns ++ all_numbers us) (same_numbers t u h.0 g.0) ∙ ap (λ (ns : List ℕ). numbers_of t ++ ns) (same_all ts us h.1 g.1)

some_behind : {A : Type 0} (xs ys zs : List A) → AreSomeOf xs zs → AreSomeOf xs (ys ++ zs)
some_behind [] ys zs h = tt
some_behind {A} (x ∷ xs) ys zs h = (ys ++ h.0, h.1, ap (λ (us : List A). ys ++ us) h.2 ∙ sym (append_assoc ys h.0 (x ∷ h.1)), h.3)

some_with : {A : Type 0} (xs ys zs : List A) → AreSomeOf ys zs → AreSomeOf (xs ++ ys) (xs ++ zs)
some_with [] ys zs h = h
some_with (x ∷ xs) ys zs h = ([], xs ++ zs, refl, some_with xs ys zs h)

some_both : {A : Type 0} (xs ys us vs : List A) → AreSomeOf xs us → AreSomeOf ys vs → AreSomeOf (xs ++ ys) (us ++ vs)
some_both [] ys us vs h k = some_behind ys us vs k
some_both {A} (x ∷ xs) ys us vs h k = (
  h.0,
  h.1 ++ vs,
  ap (λ (zs : List A). zs ++ vs) h.2 ∙ append_assoc h.0 (x ∷ h.1) vs,
  some_both xs ys h.1 vs h.3 k,
)

-- of a style those in it count
style_numbers : (k : Kind) (n : ℕ) (ns : List ℕ) → IsStyle k → numbers_by (edit_shape k).inline n ns ≡ ns
style_numbers k n ns h = of_style (λ j. numbers_by (edit_shape j).inline n ns ≡ ns) k h refl refl

pub numbers_appended : (ts us : Trees) → all_numbers (appended ts us) ≡ all_numbers ts ++ all_numbers us
numbers_appended none us = refl
numbers_appended (more t ts) us =
    ap (λ (ns : List ℕ). numbers_of t ++ ns) (numbers_appended ts us) ∙ sym (append_assoc (numbers_of t) (all_numbers ts) (all_numbers us))

text_numbers : (x : Label) (text : List ℕ) (us : Trees) → all_numbers (text_node x text us) ≡ all_numbers us
text_numbers x [] us = refl
text_numbers x (c ∷ cs) us = refl

pub some_numbers : (ps : Pieces) → NoneIsGroup (page_pieces ps) → PiecesStay ps → AreSomeOf (all_numbers (sent_pieces ps)) (all_numbers (page_pieces ps))
some_numbers no_pieces g h = tt
some_numbers (gone t ps) g h = some_behind (all_numbers (sent_pieces ps)) (numbers_of t) (all_numbers (page_pieces ps)) (some_numbers ps g.1 h)
some_numbers (written x text ps) g h =
    subst (λ (ns : List ℕ). AreSomeOf ns (all_numbers (page_pieces ps))) (sym (text_numbers x text (sent_pieces ps))) (some_numbers ps g h)
some_numbers (kept t u ps) g h =
    subst (λ (ns : List ℕ). AreSomeOf (ns ++ all_numbers (sent_pieces ps)) (numbers_of t ++ all_numbers (page_pieces ps))) (sym (same_numbers t u h.0 g.0))
    (some_with (numbers_of t) (all_numbers (sent_pieces ps)) (all_numbers (page_pieces ps)) (some_numbers ps g.1 h.1))
some_numbers (around l m is ps) g h =
    let ns : List ℕ = all_numbers (sent_pieces is) in
    let ms : List ℕ = all_numbers (page_pieces is) in
    let new : numbers_by (edit_shape m.kind).inline m.id ns ≡ ns = style_numbers m.kind m.id ns (subst IsStyle (sym h.1.kind) h.0) in
    subst (λ (js : List ℕ). AreSomeOf (js ++ all_numbers (sent_pieces ps)) (numbers_by (edit_shape l.kind).inline l.id ms ++ all_numbers (page_pieces ps))) (sym new)
    (subst (λ (js : List ℕ). AreSomeOf (ns ++ all_numbers (sent_pieces ps)) (js ++ all_numbers (page_pieces ps))) (sym (style_numbers l.kind l.id ms h.0))
    (some_both ns (all_numbers (sent_pieces ps)) ms (all_numbers (page_pieces ps)) (some_numbers is g.0.1 h.2) (some_numbers ps g.1 h.3)))
some_numbers (new_style m is ps) g h =
    let r = apart_groups (page_pieces is) (page_pieces ps) g in
    let ns : List ℕ = all_numbers (sent_pieces is) in
    let later : List ℕ = all_numbers (sent_pieces ps) in
    subst (AreSomeOf (numbers_by (edit_shape m.kind).inline 0 ns ++ later)) (sym (numbers_appended (page_pieces is) (page_pieces ps)))
    (subst (λ (js : List ℕ). AreSomeOf (js ++ later) (all_numbers (page_pieces is) ++ all_numbers (page_pieces ps))) (sym (style_numbers m.kind 0 ns h.0))
    (some_both ns later (all_numbers (page_pieces is)) (all_numbers (page_pieces ps)) (some_numbers is r.0 h.1) (some_numbers ps r.1 h.2)))
