-- What is written beside calls and styles shows what was sent.
use Rattle.std.proofs.Common.{◌≡◌, inr, ℕ, ◌+◌, Bool, true, false, Option, Some, List, [], ◌∷◌, length, ap, refl, subst, sym, ◌∙◌}
use Rattle.std.specs.Prelude.{encode_utf8}
use Rattle.std.proofs.lemmas.Str.{encodes-chars}
use Rattle.std.specs.List.{flat_map}
use Rattle.std.specs.Str.{IsUtf8, chars}
use Rattle.wt_span.specs.Items.{Item}
use Rattle.wt_tree.specs.EditShapes.{edit_shape}
use Rattle.wt_tree.specs.Kinds.{showing as showing_of}
use Rattle.wt_tree.specs.Plain.{Face, Plains, along, element, ended, face, plain_before, plains_before, shown_before, text_before}
use Rattle.wt_tree.specs.Source.{flat}
use Rattle.wt_tree.specs.Tree.{Label, Tree, Trees, more, none, tree}
use Rattle.wt_tree.specs.declared.edit_shape.InlineForm.{InlineForm}
use Rattle.wt_tree.specs.declared.edit_shape.InlineForm.TheVariants as inline
use Rattle.wt_tree.specs.declared.kind.Kind.{Kind}
use Rattle.wt_tree.specs.declared.kind.Kind.TheVariants as kind
use Rattle.wt_tree.specs.declared.kind.Showing.{Showing}
use Rattle.wt_tree.specs.declared.kind.Showing.TheVariants as showing
use Rattle.wt_guards.specs.Content.{ContentSign, letter, thing}
use Rattle.wt_guards.specs.Guards.{nowiki}
use Rattle.wt_guards.specs.declared.role.Stretch.{Stretch}
use Rattle.wt_original.specs.Kept.{Kept, kept_nodes, kept_with}
use Rattle.wt_original.specs.Page.{Page, page_of}
use Rattle.wt_context.specs.Line.{line_parts}
use Rattle.wt_link_spelling.specs.Spelling.{closing_place, opening_place}
use Rattle.wt_expand.specs.PageCalls.{expanded_page}
use Rattle.wt_expand.specs.Work.{Pages}
use Rattle.wt_part_laws.specs.Expanded.{part_items}
use Rattle.wt_typed_blocks.proofs.SentGroups.{of_style}
use Rattle.wt_typed_blocks.specs.Edited.{IsStyle, Pieces, PiecesStay, around, as_new, gone, kept, new_style, no_pieces, page_pieces, pieces_before, sent_pieces, text_node, written}
use Rattle.wt_typed_blocks.specs.Sent.{AllStandAsIs, IsSentAsIs, StandsAsIs}
use Rattle.wt_beside_laws.proofs.LineShown.{twice}
use Rattle.wt_beside_laws.proofs.SentShown.{all_encoded}
use Rattle.wt_beside_laws.proofs.Styled.SentNests.{IsStyleForm, style_form, style_stands, text_shows}
use Rattle.wt_beside_laws.proofs.Styled.SentStyles.{nowiki_shown}
use Rattle.wt_beside_laws.specs.Called.{owns_in}
use Rattle.wt_beside_laws.specs.FlatPages.{AreNodesAndTexts}
use Rattle.wt_beside_laws.specs.SentPieces.{IsNodeForm}
use Rattle.wt_beside_laws.specs.SentStyled.{found_then, or_nowiki, sent_before, sent_by, sent_content, style_face, text_then}
use Rattle.wt_beside_laws.specs.Shown.{parts_shown_at}
use Rattle.wt_beside_laws.specs.Styled.{StyledContent, delimiter, finished, mark_source, sign, signs_before, styled}
use Rattle.wt_beside_laws.specs.StyledCalls.{owns_left, owns_past, styled_called_shown}
use Rattle.wt_beside_laws.specs.StyledShown.{style_shown}
use Rattle.wt_called_edit_laws.specs.FoundGroups.{IsFoundAs}
use Rattle.wt_called_edit_laws.proofs.Styles.Found.{AreFound, FoundBy, IsFound}
use Rattle.wt_called_edit_laws.proofs.Styles.Put.{put_items}
use Rattle.wt_called_edit_laws.proofs.Styles.Sent.{beside_both, found_both, style_beside, style_found}
use Rattle.wt_called_edit_laws.specs.CalledEdits.{IsChildBeside}
use Rattle.wt_called_edit_laws.specs.StyledCallEdits.{AreNodesBeside, IsBesideBy, IsNodeBeside}

-- ---- in a folder, where so many calls come before it

abbrev after_mark : Pages → Bool → ℕ → ℕ
after_mark pages kind i = i + length (expanded_page pages (mark_source kind)).outer

-- with these before it, so many come before what is behind it
abbrev pub calls_behind : Pages → ℕ → StyledContent → ℕ
calls_behind pages i finished = i
calls_behind pages i (sign (letter c) t) = calls_behind pages i t
calls_behind pages i (sign (thing x) t) = calls_behind pages (i + length (expanded_page pages x.source).outer) t
calls_behind pages i (styled kind opening closing inside t) =
    calls_behind pages (after_mark pages kind (calls_behind pages (after_mark pages kind i) inside)) t

abbrev pub folder_shown : Pages → ℕ → StyledContent → Plains → Plains
folder_shown pages i finished rest = rest
folder_shown pages i (sign (letter c) t) rest = text_before (encode_utf8 c) (folder_shown pages i t rest)
folder_shown pages i (sign (thing x) t) rest =
    parts_shown_at 0 [] (line_parts (part_items pages i x.source)) (folder_shown pages (i + length (expanded_page pages x.source).outer) t rest)
folder_shown pages i (styled kind opening closing inside t) rest =
    style_shown kind (folder_shown pages (after_mark pages kind i) inside ended)
    (folder_shown pages (after_mark pages kind (calls_behind pages (after_mark pages kind i) inside)) t rest)

-- ---- a text

letters_show : (pages : Pages) (i : ℕ) (cs : List ℕ) (t : StyledContent) (rest : Plains)
    → folder_shown pages i (text_then cs t) rest ≡ text_before (flat_map encode_utf8 cs) (folder_shown pages i t rest)
letters_show pages i [] t rest = refl
letters_show pages i (c ∷ cs) t rest =
    ap (text_before (encode_utf8 c)) (letters_show pages i cs t rest)
    ∙ twice (encode_utf8 c) (flat_map encode_utf8 cs) (folder_shown pages i t rest)

text_shown : (pages : Pages) (i : ℕ) (text : List ℕ) (t : StyledContent) (rest : Plains) → IsUtf8 text
    → folder_shown pages i (text_then (chars text) t) rest ≡ text_before text (folder_shown pages i t rest)
text_shown pages i text t rest u =
    letters_show pages i (chars text) t rest
    ∙ ap (λ (bs : List ℕ). text_before bs (folder_shown pages i t rest)) (all_encoded (chars text) ∙ encodes-chars text u)

-- ---- kinds

nothing_shows : (k : Kind) → (edit_shape k).inline ≡ inline.Nothing → showing_of k ≡ showing.Nothing
nothing_shows kind.Sep e = refl
nothing_shows k e = cc

style_shows_so : (k : Kind) → IsStyleForm (edit_shape k).inline → showing_of k ≡ showing.Element
style_shows_so kind.Bold s = refl
style_shows_so kind.Italic s = refl
style_shows_so k s = absurd s

by_showing : (s : Showing) (l : Label) (held : Plains → Plains) (rest : Plains) → showing_of l.kind ≡ s → shown_before (showing_of l.kind) l held rest ≡ shown_before s l held rest
by_showing s l held rest e = ap (λ (x : Showing). shown_before x l held rest) e

-- ---- a style

nowiki_folder : (pages : Pages) (i : ℕ) → parts_shown_at 0 [] (line_parts (part_items pages i nowiki)) ended ≡ ended
nowiki_folder pages i =
    ap (λ (xs : List Item). parts_shown_at 0 [] (line_parts xs) ended) (put_items pages i nowiki (inr refl)) ∙ nowiki_shown ended

held_shown : (pages : Pages) (i : ℕ) (t : StyledContent) → folder_shown pages i (or_nowiki t) ended ≡ folder_shown pages i t ended
held_shown pages i finished = nowiki_folder pages i
held_shown pages i (sign c t) = refl
held_shown pages i (styled kind opening closing inside t) = refl

-- what is in it, and what is behind it
style_folder : (pages : Pages) (kind : Bool) (opening closing : Option Stretch) (held t : StyledContent) (own : Plains) (F : Plains → Plains)
    → ((j : ℕ) → folder_shown pages j held ended ≡ own) → ((j : ℕ) (qs : Plains) → folder_shown pages j t qs ≡ F qs) → (i : ℕ) (rest : Plains)
    → folder_shown pages i (styled kind opening closing (or_nowiki held) t) rest ≡ style_shown kind own (F rest)
style_folder pages kind opening closing held t own F h f i rest =
    let j : ℕ = after_mark pages kind i in
    let k : ℕ = after_mark pages kind (calls_behind pages j (or_nowiki held)) in
    ap (λ (qs : Plains). style_shown kind qs (folder_shown pages k t rest)) (held_shown pages j held ∙ h j) ∙ ap (style_shown kind own) (f k rest)

style_is : (bold : Bool) (l : Label) (held : Plains → Plains) (rest : Plains) → showing_of l.kind ≡ showing.Element → face l ≡ style_face bold
    → style_shown bold (held ended) rest ≡ shown_before (showing_of l.kind) l held rest
style_is bold l held rest e f = ap (λ (x : Face). along (element x (held ended)) rest) (sym f) ∙ sym (by_showing showing.Element l held rest e)

-- ---- a node that stays

form_of : (w : InlineForm) (l : Label) (Q : InlineForm → Type 0) → (edit_shape l.kind).inline ≡ w → Q w → Q (edit_shape l.kind).inline
form_of w l Q e h = subst Q (sym e) h

node_shows : (pages : Pages) (block : Tree) (l m : Label) (ts : Trees) (t : StyledContent) (F : Plains → Plains) → m.id ≡ l.id → IsChildBeside pages (tree l ts)
    → IsNodeForm (edit_shape l.kind).inline → IsFoundAs (kept_nodes block) l ts → ((j : ℕ) (qs : Plains) → folder_shown pages j t qs ≡ F qs) → (i : ℕ) (rest : Plains)
    → folder_shown pages i (found_then (kept_with m.id (kept_nodes block)) t) rest ≡ plain_before (tree l ts) (F rest)
node_shows pages block l m ts t F e g n f h i rest =
    let ks : List Kept = kept_nodes block in
    let now : kept_with m.id ks ≡ Some f.kept = ap (λ (k : ℕ). kept_with k ks) e ∙ f.found in
    let j : ℕ = i + length (expanded_page pages (flat f.kept.node)).outer in
    let later : Plains = folder_shown pages j t rest in
    ap (λ (o : Option Kept). folder_shown pages i (found_then o t) rest) now
    ∙ ap (λ (u : Tree). parts_shown_at 0 [] (line_parts (part_items pages i (flat u))) later) f.node
    ∙ g.shows n i later
    ∙ ap (plain_before (tree l ts)) (h j rest)

one_shows : (w : InlineForm) (pages : Pages) (block : Tree) (l m : Label) (ts : Trees) (held t : StyledContent) (F : Plains → Plains) (A D : Type 0)
    → (edit_shape l.kind).inline ≡ w → IsSentAsIs l m → IsBesideBy w pages l ts A → FoundBy w (kept_nodes block) l ts D
    → (IsStyleForm w → A → D → (j : ℕ) → folder_shown pages j held ended ≡ plains_before ts ended) → ((j : ℕ) (qs : Plains) → folder_shown pages j t qs ≡ F qs)
    → (i : ℕ) (rest : Plains) → folder_shown pages i (sent_by w (kept_with m.id (kept_nodes block)) m held t) rest ≡ plain_before (tree l ts) (F rest)
one_shows inline.Nothing pages block l m ts held t F A D e s g d k h i rest =
    h i rest ∙ sym (by_showing showing.Nothing l (λ qs. plains_before ts qs) (F rest) (nothing_shows l.kind e))
one_shows inline.Characters pages block l m ts held t F A D e s g d k h i rest =
    let characters : showing_of l.kind ≡ showing.Characters = text_shows l.kind e in
    let same : m.shown ≡ l.shown = s.shown characters in
    text_shown pages i m.shown t rest (subst IsUtf8 (sym same) g.0)
    ∙ ap (text_before m.shown) (h i rest)
    ∙ ap (λ (bs : List ℕ). text_before bs (F rest)) same
    ∙ sym (by_showing showing.Characters l (λ qs. plains_before ts qs) (F rest) characters)
one_shows inline.Bold pages block l m ts held t F A D e s g d k h i rest =
    let o : Option Kept = kept_with m.id (kept_nodes block) in
    style_folder pages true (opening_place o) (closing_place o) held t (plains_before ts ended) F (k tt g.2 d.1) h i rest
    ∙ style_is true l (λ qs. plains_before ts qs) (F rest) (style_shows_so l.kind (form_of inline.Bold l IsStyleForm e tt)) g.0
one_shows inline.Italic pages block l m ts held t F A D e s g d k h i rest =
    let o : Option Kept = kept_with m.id (kept_nodes block) in
    style_folder pages false (opening_place o) (closing_place o) held t (plains_before ts ended) F (k tt g.2 d.1) h i rest
    ∙ style_is false l (λ qs. plains_before ts qs) (F rest) (style_shows_so l.kind (form_of inline.Italic l IsStyleForm e tt)) g.0
one_shows inline.Shown pages block l m ts held t F A D e s g d k h i rest =
    node_shows pages block l m ts t F s.id g (form_of inline.Shown l IsNodeForm e tt) d h i rest
one_shows inline.PageLink pages block l m ts held t F A D e s g d k h i rest =
    node_shows pages block l m ts t F s.id g (form_of inline.PageLink l IsNodeForm e tt) d h i rest
one_shows inline.ExternalLink pages block l m ts held t F A D e s g d k h i rest =
    node_shows pages block l m ts t F s.id g (form_of inline.ExternalLink l IsNodeForm e tt) d h i rest
one_shows inline.Tag pages block l m ts held t F A D e s g d k h i rest =
    node_shows pages block l m ts t F s.id g (form_of inline.Tag l IsNodeForm e tt) d h i rest
one_shows inline.Break pages block l m ts held t F A D e s g d k h i rest =
    node_shows pages block l m ts t F s.id g (form_of inline.Break l IsNodeForm e tt) d h i rest
one_shows inline.AsItStood pages block l m ts held t F A D e s g d k h i rest =
    node_shows pages block l m ts t F s.id g (form_of inline.AsItStood l IsNodeForm e tt) d h i rest

mutual
  tree_shows : (pages : Pages) (same : Tree → Tree → Bool) (block t u : Tree) (c : StyledContent) (F : Plains → Plains) → StandsAsIs t u → IsNodeBeside pages t
      → IsFound (kept_nodes block) t → ((j : ℕ) (qs : Plains) → folder_shown pages j c qs ≡ F qs) → (i : ℕ) (rest : Plains)
      → folder_shown pages i (sent_before (page_of same block) u c) rest ≡ plain_before t (F rest)
  tree_shows pages same block (tree l ts) (tree m us) c F h g f k i rest =
      let held : StyledContent = sent_content (page_of same block) us in
      ap (λ (x : Kind). folder_shown pages i (sent_by (edit_shape x).inline (kept_with m.id (kept_nodes block)) m held c) rest) h.0.kind
      ∙ one_shows (edit_shape l.kind).inline pages block l m ts held c F (AreNodesBeside pages ts) (AreFound (kept_nodes block) ts) refl h.0 g f
      (λ s a d j. all_show pages same block ts us (style_stands l.kind l ts us s h.1) a d j ended) k i rest

  all_show : (pages : Pages) (same : Tree → Tree → Bool) (block : Tree) (ts us : Trees) → AllStandAsIs ts us → AreNodesBeside pages ts
      → AreFound (kept_nodes block) ts → (i : ℕ) (rest : Plains) → folder_shown pages i (sent_content (page_of same block) us) rest ≡ plains_before ts rest
  all_show pages same block none none h g f i rest = refl
  all_show pages same block none (more u us) h g f i rest = absurd h
  all_show pages same block (more t ts) none h g f i rest = absurd h
  all_show pages same block (more t ts) (more u us) h g f i rest =
      tree_shows pages same block t u (sent_content (page_of same block) us) (λ qs. plains_before ts qs) h.0 g.0 f.0
      (λ j qs. all_show pages same block ts us h.1 g.1 f.1 j qs) i rest

-- ---- all pieces

text_piece : (pages : Pages) (p : Page) (i : ℕ) (x : Label) (text : List ℕ) (us : Trees) (rest : Plains) → IsUtf8 text
    → folder_shown pages i (sent_content p (text_node x text us)) rest ≡ text_before text (folder_shown pages i (sent_content p us) rest)
text_piece pages p i x [] us rest u = refl
text_piece pages p i x (c ∷ cs) us rest u = text_shown pages i (c ∷ cs) (sent_content p us) rest u

-- a style of the page
around_shows : (pages : Pages) (l m : Label) (ts : Trees) (o : Option Kept) (held t : StyledContent) (G F : Plains → Plains) (A : Type 0) → IsStyle l.kind
    → m.kind ≡ l.kind → IsBesideBy (edit_shape l.kind).inline pages l ts A → ((j : ℕ) → folder_shown pages j held ended ≡ G ended)
    → ((j : ℕ) (qs : Plains) → folder_shown pages j t qs ≡ F qs) → (i : ℕ) (rest : Plains)
    → folder_shown pages i (sent_by (edit_shape m.kind).inline o m held t) rest ≡ shown_before (showing_of l.kind) l G (F rest)
around_shows pages l m ts o held t G F A s e b h f i rest =
    ap (λ (x : Kind). folder_shown pages i (sent_by (edit_shape x).inline o m held t) rest) e
    ∙ of_style
    (λ k. IsBesideBy (edit_shape k).inline pages l ts A → folder_shown pages i (sent_by (edit_shape k).inline o m held t) rest ≡ shown_before (showing_of l.kind) l G (F rest))
    l.kind s
    (λ d. style_folder pages true (opening_place o) (closing_place o) held t (G ended) F h f i rest ∙ style_is true l G (F rest) shows d.0)
    (λ d. style_folder pages false (opening_place o) (closing_place o) held t (G ended) F h f i rest ∙ style_is false l G (F rest) shows d.0) b
  where
    shows : showing_of l.kind ≡ showing.Element
    shows = style_shows_so l.kind (style_form l.kind s)

-- a new one
new_shows : (pages : Pages) (m : Label) (o : Option Kept) (held t : StyledContent) (G F : Plains → Plains) → IsStyle m.kind
    → ((j : ℕ) → folder_shown pages j held ended ≡ G ended) → ((j : ℕ) (qs : Plains) → folder_shown pages j t qs ≡ F qs) → (i : ℕ) (rest : Plains)
    → folder_shown pages i (sent_by (edit_shape m.kind).inline o (as_new m) held t) rest ≡ shown_before (showing_of m.kind) (as_new m) G (F rest)
new_shows pages m o held t G F s h f i rest =
    of_style
    (λ k. folder_shown pages i (sent_by (edit_shape k).inline o (as_new m) held t) rest ≡ shown_before (showing_of k) (record (as_new m) { kind = k }) G (F rest))
    m.kind s
    (style_folder pages true (opening_place o) (closing_place o) held t (G ended) F h f i rest)
    (style_folder pages false (opening_place o) (closing_place o) held t (G ended) F h f i rest)

pub pieces_show : (pages : Pages) (same : Tree → Tree → Bool) (block : Tree) (ps : Pieces) → AreFound (kept_nodes block) (page_pieces ps)
    → AreNodesBeside pages (page_pieces ps) → PiecesStay ps → AreNodesAndTexts ps → (i : ℕ) (rest : Plains)
    → folder_shown pages i (sent_content (page_of same block) (sent_pieces ps)) rest ≡ pieces_before ps rest
pieces_show pages same block no_pieces f g h a i rest = refl
pieces_show pages same block (gone t ps) f g h a i rest = pieces_show pages same block ps f.1 g.1 h a i rest
pieces_show pages same block (written x text ps) f g h a i rest =
    text_piece pages (page_of same block) i x text (sent_pieces ps) rest a.0 ∙ ap (text_before text) (pieces_show pages same block ps f g h a.1 i rest)
pieces_show pages same block (kept t u ps) f g h a i rest =
    tree_shows pages same block t u (sent_content (page_of same block) (sent_pieces ps)) (λ qs. pieces_before ps qs) h.0 g.0 f.0
    (λ j qs. pieces_show pages same block ps f.1 g.1 h.1 a.1 j qs) i rest
pieces_show pages same block (around l m is ps) f g h a i rest =
    let p : Page = page_of same block in
    let b = style_beside pages l (page_pieces is) h.0 g.0 in
    let d = style_found (kept_nodes block) l (page_pieces is) h.0 f.0 in
    around_shows pages l m (page_pieces is) (kept_with m.id (kept_nodes block)) (sent_content p (sent_pieces is)) (sent_content p (sent_pieces ps))
    (λ qs. pieces_before is qs) (λ qs. pieces_before ps qs) (AreNodesBeside pages (page_pieces is)) h.0 h.1.kind g.0
    (λ j. pieces_show pages same block is d.1 b.1 h.2 a.0 j ended) (λ j qs. pieces_show pages same block ps f.1 g.1 h.3 a.1 j qs) i rest
pieces_show pages same block (new_style m is ps) f g h a i rest =
    let p : Page = page_of same block in
    let b = beside_both pages (page_pieces is) (page_pieces ps) g in
    let d = found_both (kept_nodes block) (page_pieces is) (page_pieces ps) f in
    new_shows pages m (kept_with 0 (kept_nodes block)) (sent_content p (sent_pieces is)) (sent_content p (sent_pieces ps))
    (λ qs. pieces_before is qs) (λ qs. pieces_before ps qs) h.0
    (λ j. pieces_show pages same block is d.0 b.0 h.1 a.0 j ended) (λ j qs. pieces_show pages same block ps d.1 b.1 h.2 a.1 j qs) i rest

-- ---- by its owns

pub past_as : (pages : Pages) (i : ℕ) (t : StyledContent) (after : List ContentSign)
    → owns_past t (owns_in pages i (signs_before t after)) ≡ owns_in pages (calls_behind pages i t) after
past_as pages i finished after = refl
past_as pages i (sign (letter c) t) after = past_as pages i t after
past_as pages i (sign (thing x) t) after = past_as pages (i + length (expanded_page pages x.source).outer) t after
past_as pages i (styled kind opening closing inside t) after =
    let signs : List ContentSign = signs_before t after in
    ap (λ (os : List (List Item)). owns_past t (owns_left os)) (past_as pages (after_mark pages kind i) inside (delimiter kind closing ∷ signs))
    ∙ past_as pages (after_mark pages kind (calls_behind pages (after_mark pages kind i) inside)) t after

pub shown_as : (pages : Pages) (i : ℕ) (t : StyledContent) (after : List ContentSign) (rest : Plains)
    → styled_called_shown t (owns_in pages i (signs_before t after)) rest ≡ folder_shown pages i t rest
shown_as pages i finished after rest = refl
shown_as pages i (sign (letter c) t) after rest = ap (text_before (encode_utf8 c)) (shown_as pages i t after rest)
shown_as pages i (sign (thing x) t) after rest =
    ap (parts_shown_at 0 [] (line_parts (part_items pages i x.source))) (shown_as pages (i + length (expanded_page pages x.source).outer) t after rest)
shown_as pages i (styled kind opening closing inside t) after rest =
    let closes : List ContentSign = delimiter kind closing ∷ signs_before t after in
    let j : ℕ = after_mark pages kind i in
    let k : ℕ = after_mark pages kind (calls_behind pages j inside) in
    let owns : List (List Item) = owns_in pages j (signs_before inside closes) in
    ap
    (λ (qs : Plains). style_shown kind qs (styled_called_shown t (owns_left (owns_past inside owns)) rest))
    (shown_as pages j inside closes ended)
    ∙ ap (style_shown kind (folder_shown pages j inside ended))
    (ap (λ (os : List (List Item)). styled_called_shown t (owns_left os) rest) (past_as pages j inside closes) ∙ shown_as pages k t after rest)
