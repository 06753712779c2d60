-- A retyped block of the page, with the page's own nodes, is an edit of its content: nodes and styles stay, and texts go and come.
use Rattle.std.proofs.Common.{arith, ◌≡◌, ℕ, suc, ◌<◌, ◌==◌, Bool, true, false, not, Option, Some, None, List, [], ◌∷◌, ◌++◌, length, refl, sym, ap, ap₂, ◌∙◌, subst, inl, inr}
use Rattle.std.specs.Prelude.{◌||◌, zip}
use Rattle.std.specs.List.{AllByRecursion}
use Rattle.std.specs.Str.{IsUtf8}
use Rattle.wt_span.specs.Origins.{Expanded}
use Rattle.wt_tree.specs.declared.kind.Kind.{Kind}
use Rattle.wt_tree.specs.declared.kind.Kind.TheVariants as kind
use Rattle.wt_tree.specs.declared.kind.Mark.TheVariants as marks
use Rattle.wt_tree.specs.declared.edit_shape.InlineForm.{InlineForm}
use Rattle.wt_tree.specs.declared.edit_shape.InlineForm.TheVariants as inline
use Rattle.wt_tree.specs.declared.edit_shape.BlockForm.TheVariants as block
use Rattle.wt_tree.specs.declared.edit_shape.Place.TheVariants as place
use Rattle.wt_tree.specs.EditShapes.{edit_shape}
use Rattle.wt_tree.specs.Kinds.{is_leaf}
use Rattle.wt_tree.specs.Tiling.{HasNoGroup, NoneIsGroup}
use Rattle.wt_tree.specs.Tree.{Label, Tree, tree, Trees, none, more, label}
use Rattle.wt_checks.specs.WithoutMarks.{mark_off}
use Rattle.wt_content.specs.Content.{has_break}
use Rattle.wt_original.specs.Kept.{Kept, kept_nodes, kept_with}
use Rattle.wt_original.specs.Page.{Page, page_of}
use Rattle.wt_slices.specs.Changes.{Pair}
use Rattle.wt_link_spelling.specs.Spelling.{children_of}
use Rattle.wt_visible.specs.SameNodes.{same_node}
use Rattle.wt_typed_blocks.specs.Sent.{Block, paragraph, heading, kind_of}
use Rattle.wt_typed_blocks.specs.Edited.{Pieces, no_pieces, gone, written, kept, around, new_style, sent_pieces, text_node}
use Rattle.wt_typed_blocks.specs.Typed.{place_of}
use Rattle.wt_text_edit_laws.specs.TextBlocks.{TextBlock, a_paragraph, a_heading, block_of, block_tree}
use Rattle.wt_beside_laws.specs.FlatBlocks.{AreOneLine, TextsFitIn, signs_in as signs_of, sent_for}
use Rattle.wt_beside_laws.specs.FlatPages.{AreNodesAndTexts}
use Rattle.wt_beside_laws.specs.Led.{AreMarksLed}
use Rattle.wt_beside_laws.specs.NewStyles.{is_bold, NewStylesNest}
use Rattle.wt_beside_laws.specs.SentPieces.{IsNodeForm}
use Rattle.wt_beside_laws.specs.SentStyled.{found_then, sent_by, sent_before, sent_content, NestsBy, AllNest, ShowsBy, AllShow}
use Rattle.wt_beside_laws.specs.Styled.{StyledContent, signs_in}
use Rattle.wt_beside_laws.specs.StyledIn.{IsStyledIn, IsStyledEditOf}
use Rattle.wt_beside_laws.specs.OpenTags.{spine, EndTags}
use Rattle.wt_beside_laws.proofs.LinesOpen.{StayOnLines, lines_keep}
use Rattle.wt_beside_laws.proofs.Made.OldBlocks.{IsIn, block_kind, no_group}
use Rattle.wt_beside_laws.proofs.Styled.LedLines.{own_led}
use Rattle.wt_beside_laws.proofs.Styled.OwnFirst.{paragraph_begins}
use Rattle.wt_beside_laws.proofs.Styled.OwnNests.{own_nests}
use Rattle.wt_beside_laws.proofs.Styled.OwnSpine.{own_spine, own_stays}
use Rattle.wt_beside_laws.proofs.Styled.OwnStyled.{own_styled}
use Rattle.wt_beside_laws.proofs.Styled.SentFaults.{text_unbroken, or_both}
use Rattle.wt_visible.proofs.SameTells.{tells_same}
use Rattle.wt_called_edit_laws.specs.EditsAt.{IsStanding}
use Rattle.wt_called_edit_laws.specs.SentAsIs.{as_sent, HaveNumberedGroups}
use Rattle.wt_called_edit_laws.proofs.Cells.SentAsIs.{none_numbered}
use Rattle.wt_inside_laws.specs.Contents.{Border, borders, texts, Slot, slots_from, slots}
use Rattle.wt_inside_laws.specs.RetypedPieces.{pieces_of, as_own, AreRead, ArePiecesOf, Utf8By, AreUtf8}
use Rattle.wt_inside_laws.specs.TextEdits.{IsRetypedText, IsOneLine, IsRetyped}
use Rattle.wt_inside_laws.proofs.Between.{texts_between}
use Rattle.wt_inside_laws.proofs.Breaks.{unbroken_count, count_unbroken}
use Rattle.wt_inside_laws.proofs.OwnPieces.{own_page, IsElement, AreOfStyle, HoldIn, trees_in, Anything, any_leaves, own_pieces_stay}
use Rattle.wt_inside_laws.proofs.RetypedPieces.{retyped_pieces}
use Rattle.wt_inside_laws.proofs.SlotTexts.{LeavesBy, AllLeaves, depth_after, TextsHold, leaves_hold, texts_hold}
use Rattle.wt_inside_laws.proofs.SlotsFirst.{NewFirst, block_first, retyped_first, KnownFirst, nodes_known, heading_first, sent_first}
use Rattle.wt_inside_laws.proofs.SlotsLed.{TextsLed, texts_more, own_texts_led, retyped_led, sent_led}
use Rattle.wt_inside_laws.proofs.SlotsOpen.{spine_by, block_spine, sent_spine, retyped_spine}

-- ---- texts that are UTF-8

abbrev pub AreText : ℕ → List ℕ → Type 0
AreText d text = IsUtf8 text

utf8_by : (f : InlineForm) (d : ℕ) (l : Label) (U L : Type 0) → (U → L) → Utf8By f l U → LeavesBy f AreText d l L
utf8_by inline.Nothing d l U L g h = tt
utf8_by inline.Characters d l U L g h = h
utf8_by inline.Bold d l U L g h = g h
utf8_by inline.Italic d l U L g h = g h
utf8_by inline.Shown d l U L g h = tt
utf8_by inline.PageLink d l U L g h = tt
utf8_by inline.ExternalLink d l U L g h = tt
utf8_by inline.Tag d l U L g h = tt
utf8_by inline.Break d l U L g h = tt
utf8_by inline.AsItStood d l U L g h = tt

pub utf8_leaves : (ts : Trees) (d : ℕ) → AreUtf8 ts → AllLeaves AreText d ts
utf8_leaves none d h = tt
utf8_leaves (more (tree l ts) us) d h =
    (utf8_by (edit_shape l.kind).inline d l (AreUtf8 ts) (AllLeaves AreText (suc d) ts) (λ u. utf8_leaves ts (suc d) u) h.0, utf8_leaves us d h.1)

pub node_form : (f : InlineForm) → IsElement f → IsNodeForm f
node_form inline.Nothing h = absurd h
node_form inline.Characters h = absurd h
node_form inline.Bold h = absurd h
node_form inline.Italic h = absurd h
node_form inline.Shown h = tt
node_form inline.PageLink h = tt
node_form inline.ExternalLink h = tt
node_form inline.Tag h = tt
node_form inline.Break h = tt
node_form inline.AsItStood h = tt

-- what is kept are nodes
abbrev pub AreNodes : Tree → Tree → Type 0
AreNodes t u = IsNodeForm (edit_shape (label t).kind).inline

abbrev pub AnyStyle : Label → Label → Type 0
AnyStyle l m = Unit {0}

pub own_texts : (d : ℕ) (ps : Pieces) → HoldIn AreText AreNodes AnyStyle d ps → AreNodesAndTexts (as_own ps)
own_texts d no_pieces h = tt
own_texts d (gone t ps) h = own_texts d ps h
own_texts d (written x text ps) h = (h.0, own_texts d ps h.1)
own_texts d (kept t u ps) h = (h.0, own_texts d ps h.1)
own_texts d (around l m is ps) h = (own_texts (suc d) is h.1, own_texts d ps h.2)
own_texts d (new_style m is ps) h = absurd h

-- ---- texts without line breaks

abbrev pub OnOneLine : ℕ → List ℕ → Type 0
OnOneLine d text = has_break text ≡ false

-- in a style
abbrev pub UnbrokenIn : ℕ → List ℕ → Type 0
UnbrokenIn d text = 0 < d → has_break text ≡ false

pub broken_cut : (x y : List ℕ) → has_break (x ++ y) ≡ false → (has_break x ≡ false) × (has_break y ≡ false)
broken_cut [] y h = (refl, h)
broken_cut (b ∷ x) y h =
    let a = or_both (b == 10) (has_break (x ++ y)) h in
    let r = broken_cut x y a.1 in
    (ap (λ (v : Bool). v || has_break x) a.0 ∙ r.0, r.1)

pub broken_joined : (x y : List ℕ) → has_break x ≡ false → has_break y ≡ false → has_break (x ++ y) ≡ false
broken_joined [] y h k = k
broken_joined (b ∷ x) y h k =
    let a = or_both (b == 10) (has_break x) h in
    ap (λ (v : Bool). v || has_break (x ++ y)) a.0 ∙ broken_joined x y a.1 k

pub own_one_line : (d : ℕ) (ps : Pieces) → HoldIn OnOneLine AreNodes AnyStyle d ps → AreOneLine (as_own ps)
own_one_line d no_pieces h = tt
own_one_line d (gone t ps) h = own_one_line d ps h
own_one_line d (written x text ps) h = (h.0, own_one_line d ps h.1)
own_one_line d (kept t u ps) h = own_one_line d ps h.1
own_one_line d (around l m is ps) h = own_one_line d ps h.2
own_one_line d (new_style m is ps) h = absurd h

pub own_nest : (d : ℕ) (bold italic : Bool) (ps : Pieces) → ((bold || italic) ≡ true → 0 < d) → HoldIn UnbrokenIn AreNodes AnyStyle d ps
    → NewStylesNest bold italic (as_own ps)
own_nest d bold italic no_pieces e h = tt
own_nest d bold italic (gone t ps) e h = own_nest d bold italic ps e h
own_nest d bold italic (written x text ps) e h = ((λ z. h.0 (e z)), own_nest d bold italic ps e h.1)
own_nest d bold italic (kept t u ps) e h = own_nest d bold italic ps e h.1
own_nest d bold italic (around l m is ps) e h =
    (own_nest (suc d) (is_bold (mark_off l) || bold) (not (is_bold (mark_off l)) || italic) is (λ z. omega arith) h.1, own_nest d bold italic ps e h.2)
own_nest d bold italic (new_style m is ps) e h = absurd h

retyped_unbroken : (ks : List Kept) (s t : Slot) (d : ℕ) → IsRetypedText ks (s, t) → UnbrokenIn d s.text → UnbrokenIn d t.text
retyped_unbroken ks s t d (inl e) h = λ z. ap has_break e ∙ h z
retyped_unbroken ks s t d (inr r) h = λ z. count_unbroken t.text (r.breaks ∙ unbroken_count s.text (h z))

pub retyped_hold : (ks : List Kept) (left : Option Border) (bs : List Border) (ns ms : List (List ℕ)) (d : ℕ) → length ns ≡ length ms
    → AllByRecursion (IsRetypedText ks) (zip (slots_from left bs ns) (slots_from left bs ms)) → TextsHold UnbrokenIn d bs ns → TextsHold UnbrokenIn d bs ms
retyped_hold ks left bs [] [] d e t h = tt
retyped_hold ks left bs [] (m ∷ ms) d e t h = absurd (omega (arith, e))
retyped_hold ks left bs (n ∷ ns) [] d e t h = tt
retyped_hold ks left [] (n ∷ ns) (m ∷ ms) d e t h = (
  retyped_unbroken ks (record { left = left; text = n; right = None }) (record { left = left; text = m; right = None }) d t.0 h.0,
  retyped_hold ks None [] ns ms d (omega (arith, e)) t.1 h.1,
)
retyped_hold ks left (b ∷ bs) (n ∷ ns) (m ∷ ms) d e t h = (
  retyped_unbroken ks (record { left = left; text = n; right = Some b }) (record { left = left; text = m; right = Some b }) d t.0 h.0,
  retyped_hold ks (Some b) bs ns ms (depth_after d b) (omega (arith, e)) t.1 h.1,
)

-- one line, as the slots say it
pub slots_hold : (left : Option Border) (bs : List Border) (ns : List (List ℕ)) (d : ℕ) → AllByRecursion (λ s. has_break s.text ≡ false) (slots_from left bs ns)
    → TextsHold OnOneLine d bs ns
slots_hold left bs [] d h = tt
slots_hold left [] (n ∷ ns) d h = (h.0, slots_hold None [] ns d h.1)
slots_hold left (b ∷ bs) (n ∷ ns) d h = (h.0, slots_hold (Some b) bs ns (depth_after d b) h.1)

-- ---- the page's texts in styles have no line break

nests_by : (f : InlineForm) (bold italic : Bool) (d : ℕ) (p : Page) (l : Label) (ts : Trees) (N : Bool → Bool → Type 0) (S L : Type 0)
    → (0 < d → (bold || italic) ≡ true) → ((b i : Bool) → (b || i) ≡ true → N b i → S → L) → NestsBy f bold italic l N → ShowsBy f p l ts S
    → LeavesBy f UnbrokenIn d l L
nests_by inline.Nothing bold italic d p l ts N S L e g n h = tt
nests_by inline.Characters bold italic d p l ts N S L e g n h = λ z. text_unbroken l.shown h.1 (n (e z))
nests_by inline.Bold bold italic d p l ts N S L e g n h = g true italic refl n.1 h.2
nests_by inline.Italic bold italic d p l ts N S L e g n h = g bold true (or_true bold) n.1 h.2
  where
    or_true : (b : Bool) → (b || true) ≡ true
    or_true true = refl
    or_true false = refl
nests_by inline.Shown bold italic d p l ts N S L e g n h = tt
nests_by inline.PageLink bold italic d p l ts N S L e g n h = tt
nests_by inline.ExternalLink bold italic d p l ts N S L e g n h = tt
nests_by inline.Tag bold italic d p l ts N S L e g n h = tt
nests_by inline.Break bold italic d p l ts N S L e g n h = tt
nests_by inline.AsItStood bold italic d p l ts N S L e g n h = tt

nests_hold : (ts : Trees) (bold italic : Bool) (d : ℕ) (p : Page) → (0 < d → (bold || italic) ≡ true) → AllNest bold italic ts → AllShow p ts
    → AllLeaves UnbrokenIn d ts
nests_hold none bold italic d p e n h = tt
nests_hold (more (tree l ts) us) bold italic d p e n h = (
  nests_by (edit_shape l.kind).inline bold italic d p l ts (λ b i. AllNest b i ts) (AllShow p ts) (AllLeaves UnbrokenIn (suc d) ts) e
      (λ b i z q s. nests_hold ts b i (suc d) p (λ w. z) q s) n.0 h.0,
  nests_hold us bold italic d p e n.1 h.1,
)

-- ---- the signs are those of what was sent

kept_sent : (f g : InlineForm) (o : Option Kept) (l m : Label) (i j t : StyledContent) → IsElement f → IsElement g → sent_by f o l i t ≡ sent_by g o m j t
kept_sent f g o l m i j t h k = element f l i h ∙ sym (element g m j k)
  where
    element : (f : InlineForm) (l : Label) (i : StyledContent) → IsElement f → sent_by f o l i t ≡ found_then o t
    element inline.Nothing l i h = absurd h
    element inline.Characters l i h = absurd h
    element inline.Bold l i h = absurd h
    element inline.Italic l i h = absurd h
    element inline.Shown l i h = refl
    element inline.PageLink l i h = refl
    element inline.ExternalLink l i h = refl
    element inline.Tag l i h = refl
    element inline.Break l i h = refl
    element inline.AsItStood l i h = refl

abbrev pub SameSign : Tree → Tree → Type 0
SameSign t u = (p : Page) (rest : StyledContent) → sent_before p (as_sent t) rest ≡ sent_before p u rest

abbrev pub SameStyled : Label → Label → Type 0
SameStyled l m = (p : Page) (i rest : StyledContent)
    → sent_by (edit_shape l.kind).inline (kept_with l.id p.kept) (mark_off l) i rest ≡ sent_by (edit_shape m.kind).inline (kept_with m.id p.kept) m i rest

pub element_sign : (l : Label) (ts : Trees) (m : Label) (ws : Trees) → IsElement (edit_shape l.kind).inline → IsElement (edit_shape m.kind).inline → m.id ≡ l.id
    → SameSign (tree l ts) (tree m ws)
element_sign l ts m ws f g e = λ p rest.
    kept_sent (edit_shape l.kind).inline (edit_shape m.kind).inline (kept_with l.id p.kept) (mark_off l) m _ (sent_content p ws) rest f g
    ∙ ap (λ (n : ℕ). sent_by (edit_shape m.kind).inline (kept_with n p.kept) m (sent_content p ws) rest) (sym e)

pub style_sign : (l m : Label) → AreOfStyle (edit_shape l.kind).inline (edit_shape m.kind).inline → m.id ≡ l.id → SameStyled l m
style_sign l m (inl b) e = λ p i rest.
    ap (λ (f : InlineForm). sent_by f (kept_with l.id p.kept) (mark_off l) i rest) b.0
    ∙ ap (λ (n : ℕ). sent_by inline.Bold (kept_with n p.kept) m i rest) (sym e)
    ∙ ap (λ (f : InlineForm). sent_by f (kept_with m.id p.kept) m i rest) (sym b.1)
style_sign l m (inr b) e = λ p i rest.
    ap (λ (f : InlineForm). sent_by f (kept_with l.id p.kept) (mark_off l) i rest) b.0
    ∙ ap (λ (n : ℕ). sent_by inline.Italic (kept_with n p.kept) m i rest) (sym e)
    ∙ ap (λ (f : InlineForm). sent_by f (kept_with m.id p.kept) m i rest) (sym b.1)

text_same : (p : Page) (x : Label) (text : List ℕ) (us vs : Trees) → sent_content p us ≡ sent_content p vs
    → sent_content p (text_node x text us) ≡ sent_content p (text_node x text vs)
text_same p x [] us vs e = e
text_same p x (b ∷ bs) us vs e =
    ap (λ (t : StyledContent). sent_before p (tree (record x { kind = kind.Text; id = 0; shown = b ∷ bs; mark = marks.Nothing }) none) t) e

pub own_signs : (d : ℕ) (p : Page) (ps : Pieces) → HoldIn Anything SameSign SameStyled d ps → sent_content p (sent_pieces (as_own ps)) ≡ sent_content p (sent_pieces ps)
own_signs d p no_pieces h = refl
own_signs d p (gone t ps) h = own_signs d p ps h
own_signs d p (written x text ps) h = text_same p x text (sent_pieces (as_own ps)) (sent_pieces ps) (own_signs d p ps h.1)
own_signs d p (kept t u ps) h = ap (λ (r : StyledContent). sent_before p (as_sent t) r) (own_signs d p ps h.1) ∙ h.0 p (sent_content p (sent_pieces ps))
own_signs d p (around l m is ps) h =
    ap₂ (λ (i r : StyledContent). sent_by (edit_shape l.kind).inline (kept_with l.id p.kept) (mark_off l) i r) (own_signs (suc d) p is h.1) (own_signs d p ps h.2)
    ∙ h.0 p (sent_content p (sent_pieces is)) (sent_content p (sent_pieces ps))
own_signs d p (new_style m is ps) h = absurd h

-- ---- the edit

none_in : (t : Tree) → HasNoGroup t → NoneIsGroup (children_of t)
none_in (tree l ts) h = h.1

pub block_ungrouped : (k : TextBlock) (q : List ℕ) (t : Tree) → IsStyledIn k q → IsIn k q t → NoneIsGroup (children_of t)
block_ungrouped k q t h i = none_in t (subst HasNoGroup (sym i.is) (no_group k q i.number i.before h.utf8 h.is h.unended h.calls_nothing))

-- both have one text more than borders
pub same_length : (ts us : Trees) → borders us ≡ borders ts → length (texts ts) ≡ length (texts us)
same_length ts us e =
    let a = texts_between ts in
    let b = texts_between us in
    let c = ap length e in
    omega (arith, a, b, c)

-- the texts between them, one for one
pub paired : (ks : List Kept) (ts us : Trees) → borders us ≡ borders ts → AllByRecursion (IsRetypedText ks) (zip (slots ts) (slots us))
    → AllByRecursion (IsRetypedText ks) (zip (slots_from None (borders ts) (texts ts)) (slots_from None (borders ts) (texts us)))
paired ks ts us e h = subst (λ bs. AllByRecursion (IsRetypedText ks) (zip (slots ts) (slots_from None bs (texts us)))) e h

fits_in : (k : TextBlock) (q : List ℕ) (node : Tree) (us : Trees) (ps : Pieces) → IsIn k q node → IsOneLine (edit_shape (label node).kind).form (slots us)
    → (AllLeaves OnOneLine 0 us → HoldIn OnOneLine AreNodes AnyStyle 0 ps) → TextsFitIn k (as_own ps)
fits_in a_paragraph q node us ps i h g = tt
fits_in (a_heading s) q node us ps i h g =
    let one : IsOneLine (block.Heading s.level) (slots us) =
    subst (λ (j : Kind). IsOneLine (edit_shape j).form (slots us)) (block_kind (a_heading s) q node i) h in
    own_one_line 0 ps (g (leaves_hold OnOneLine (λ d x y z. broken_cut x y z) us (slots_hold None (borders us) (texts us) 0 one)))

pub new_texts_led : (k : TextBlock) (q : List ℕ) (items : Expanded) (page : List ℕ) (p : Pair) → IsRetyped same_node items page p → IsStyledIn k q → IsIn k q p.old
    → TextsLed (kept_nodes p.old) false (borders (children_of p.new)) (texts (children_of p.new))
new_texts_led k q items page p r h i =
    let ts : Trees = children_of p.old in
    let us : Trees = children_of p.new in
    let ks : List Kept = kept_nodes p.old in
    subst (λ bs. TextsLed ks false bs (texts us)) (sym r.in_order)
    (retyped_led ks None (borders ts) (texts ts) (texts us) false (same_length ts us r.in_order) (paired ks ts us r.in_order r.texts)
    (own_texts_led p.old _ false ts (own_led k q p.old h i)))

block_kinds : (b : Block) → is_leaf (kind_of b) ≡ false
block_kinds paragraph = refl
block_kinds (heading n) = refl

no_leaf_in : (k : TextBlock) (q : List ℕ) (t : Tree) → IsIn k q t → is_leaf (label t).kind ≡ false
no_leaf_in k q t i = ap is_leaf (block_kind k q t i) ∙ block_kinds (block_of k)

-- no node comes to be first that may not be
first_in : (k : TextBlock) (q : List ℕ) (items : Expanded) (page : List ℕ) (p : Pair) → IsRetyped same_node items page p → IsStyledIn k q → IsIn k q p.old
    → NewFirst (place_of (block_of k)) (kept_nodes p.old) (borders (children_of p.new)) (texts (children_of p.new))
first_in a_paragraph q items page p r h i =
    let ts : Trees = children_of p.old in
    let us : Trees = children_of p.new in
    let ks : List Kept = kept_nodes p.old in
    let led = own_led a_paragraph q p.old h i in
    subst (λ bs. NewFirst place.Paragraph ks bs (texts us)) (sym r.in_order)
    (retyped_first ks (borders ts) (texts ts) (texts us) false (same_length ts us r.in_order) (paired ks ts us r.in_order r.texts)
    (block_first p.old false (no_leaf_in a_paragraph q p.old i) (paragraph_begins q p.old h i) led) (own_texts_led p.old _ false ts led))
first_in (a_heading s) q items page p r h i =
    let ks : List Kept = kept_nodes p.old in
    heading_first ks (borders (children_of p.new)) (texts (children_of p.new))
    (subst (KnownFirst ks) (sym r.in_order) (nodes_known (children_of p.old) p.old _ false (own_led (a_heading s) q p.old h i)))
    (new_texts_led (a_heading s) q items page p r h i)

pub own_edit : (k : TextBlock) (q : List ℕ) (items : Expanded) (page : List ℕ) (p : Pair) → IsRetyped same_node items page p → AreRead (children_of p.new)
    → AreUtf8 (children_of p.new) → IsStyledIn k q → IsIn k q p.old → EndTags (signs_of k q)
    → IsStyledEditOf k p.old (as_own (pieces_of (children_of p.old) (children_of p.new)))
own_edit k q items page p r read utf8 h i tags =
    let ts : Trees = children_of p.old in
    let us : Trees = children_of p.new in
    let ks : List Kept = kept_nodes p.old in
    let ps : Pieces = pieces_of ts us in
    let shown : Page = page_of same_node p.old in
    let free : HaveNumberedGroups ts = none_numbered ts (block_ungrouped k q p.old h i) in
    let are : ArePiecesOf ts us ps = retyped_pieces same_node items page p r read in
    let nests = own_nests k q p.old h i in
    let own = own_styled same_node k q p.old tells_same h i in
    let old_texts : TextsHold UnbrokenIn 0 (borders ts) (texts ts) =
    texts_hold UnbrokenIn (λ d x y a b z. broken_joined x y (a z) (b z)) (λ d z. refl) ts
    (nests_hold ts false false 0 shown (λ z. absurd (omega (arith, z))) nests.0 own.1) in
    let new_texts : TextsHold UnbrokenIn 0 (borders us) (texts us) =
    subst (λ bs. TextsHold UnbrokenIn 0 bs (texts us)) (sym r.in_order)
    (retyped_hold ks None (borders ts) (texts ts) (texts us) 0 (same_length ts us r.in_order) (paired ks ts us r.in_order r.texts) old_texts) in
    let unbroken : AllLeaves UnbrokenIn 0 us =
    leaves_hold UnbrokenIn (λ d x y a. ((λ z. (broken_cut x y (a z)).0), (λ z. (broken_cut x y (a z)).1))) us new_texts in
    let same : sent_for p.old (as_own ps) ≡ sent_content shown us =
    own_signs 0 shown ps
    (trees_in Anything SameSign SameStyled (λ l os m ws f g z a. element_sign l os m ws f g z) (λ l m s b z. style_sign l m b z) ts 0 us (any_leaves us 0)
    (sym r.in_order) free)
    ∙ ap (sent_content shown) are.sent in
    let lines : spine (signs_in (sent_content shown us)) ≡ spine (signs_of k q) =
    sent_spine shown us utf8
    ∙ ap (λ (bs : List Border). spine_by ks bs (texts us)) r.in_order
    ∙ retyped_spine ks None (borders ts) (texts ts) (texts us) (same_length ts us r.in_order) (paired ks ts us r.in_order r.texts)
    ∙ block_spine ks ts
    ∙ own_spine k q shown p.old h i own.1 in
    record {
      old = own_page ps ∙ are.page;
      stay = own_pieces_stay ts us free r.in_order;
      are = own_texts 0 ps
          (trees_in AreText AreNodes AnyStyle (λ l os m ws f g z a. node_form (edit_shape l.kind).inline f) (λ l m s b z. tt) ts 0 us (utf8_leaves us 0 utf8) (sym r.in_order) free);
      fit = fits_in k q p.old us ps i r.one_line
          (λ a. trees_in OnOneLine AreNodes AnyStyle (λ l os m ws f g z b. node_form (edit_shape l.kind).inline f) (λ l m s b z. tt) ts 0 us a (sym r.in_order) free);
      new = own_nest 0 false false ps (λ z. absurd (cc))
          (trees_in UnbrokenIn AreNodes AnyStyle (λ l os m ws f g z a. node_form (edit_shape l.kind).inline f) (λ l m s b z. tt) ts 0 us unbroken (sym r.in_order) free);
      led = subst (λ (t : StyledContent). AreMarksLed (place_of (block_of k)) (signs_in t)) (sym same) (record {
        first = sent_first (place_of (block_of k)) us shown utf8 (first_in k q items page p r h i);
        others = sent_led shown us utf8
            (texts_more ks (borders us) (texts us) false true (λ e. refl) (new_texts_led k q items page p r h i));
      });
      unclosed = lines_keep (signs_in (sent_for p.old (as_own ps))) (subst StayOnLines (sym (ap (λ (t : StyledContent). spine (signs_in t)) same ∙ lines)) (own_stays k q h tags));
    }

pub standing_edit : (k : TextBlock) (q : List ℕ) (items : Expanded) (page : List ℕ) (p : Pair) → IsRetyped same_node items page p → AreRead (children_of p.new)
    → AreUtf8 (children_of p.new) → IsStanding (block_tree k q) p.old → IsStyledIn k q → EndTags (signs_of k q)
    → IsStyledEditOf k p.old (as_own (pieces_of (children_of p.old) (children_of p.new)))
standing_edit k q items page p r read utf8 s h c =
    own_edit k q items page p r read utf8 h (record { number = s.number; before = s.before; some = s.some; is = s.is }) c
