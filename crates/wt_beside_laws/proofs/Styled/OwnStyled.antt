-- A block of the page with styles, as it is: its nodes are sent as they are in the page, and each shows its source.
use Rattle.std.proofs.Common.{arith, ◌≡◌, ◌≢◌, ℕ, zero, suc, ◌+◌, ◌-◌, ◌<◌, Bool, true, false, Option, None, List, [], ◌∷◌, ◌++◌, length, map, take, drop, refl, sym, ap, ◌∙◌, subst, append-nil}
use Rattle.std.specs.List.{flat_map}
use Rattle.wt_span.specs.Items.{Item, sources}
use Rattle.wt_span.specs.Runs.{runs, IsRun, AreRuns}
use Rattle.wt_span.proofs.RunLaws.{runs_are}
use Rattle.wt_tree.specs.declared.edit_shape.InlineForm.{InlineForm}
use Rattle.wt_tree.specs.declared.edit_shape.InlineForm.TheVariants as inline
use Rattle.wt_tree.specs.EditShapes.{edit_shape}
use Rattle.wt_tree.specs.Source.{flat}
use Rattle.wt_tree.specs.Tiling.{HasNoGroup, NoneIsGroup}
use Rattle.wt_tree.specs.Tree.{Label, Tree, tree, Trees, none, more, label}
use Rattle.wt_guards.specs.declared.role.Role.{Role}
use Rattle.wt_guards.specs.Content.{ContentSign, Thing, letter}
use Rattle.wt_original.specs.Kept.{items, visible, kept_of, found_at, found_from, found_in}
use Rattle.wt_original.specs.Page.{Page, page_of, TellsSame}
use Rattle.wt_inline.specs.declared.loose.Loose.{Loose}
use Rattle.wt_inline.specs.declared.loose.Loose.TheVariants.{Text, Sep}
use Rattle.wt_inline.specs.ItemTree.{ItemTree, forest, tree_items}
use Rattle.wt_inline.specs.Parts.{Part, loose, node, held_parts, one_leaf, loose_leaf, child, children}
use Rattle.wt_quotes.specs.Forest.{Forest, bare, grown, forest_of}
use Rattle.wt_quotes.specs.Styles.{style_tree_of}
use Rattle.wt_tiles.specs.Contexts.{in_line}
use Rattle.wt_tiles.specs.Tiles.{tiles}
use Rattle.wt_context.specs.Chunks.{chunks}
use Rattle.wt_context.specs.Line.{context_parts, line_parts}
use Rattle.wt_context.specs.Nodes.{segments}
use Rattle.wt_context.specs.Segments.{Segment, segment_items, segment_parts}
use Rattle.wt_context.specs.Styled.{between, style_node, styled, with_styles}
use Rattle.wt_context.specs.Unstyled.{tile_part}
use Rattle.wt_context.proofs.NestedContexts.{contexts_are}
use Rattle.wt_context.proofs.PlainNodes.{IsText}
use Rattle.wt_context.proofs.TilePlaces.{tiles_placed}
use Rattle.wt_expand.specs.PageItems.{page_items}
use Rattle.wt_annotated.specs.Labels.{label_at}
use Rattle.wt_annotated.specs.Numbering.{count}
use Rattle.wt_annotated.specs.WithoutCalls.{placed}
use Rattle.wt_link_spelling.specs.Spelling.{children_of}
use Rattle.wt_part_laws.specs.Standing.{standing}
use Rattle.wt_typed_blocks.specs.Sent.{Block}
use Rattle.wt_text_edit_laws.specs.Contents.{content_parts_of}
use Rattle.wt_text_edit_laws.specs.ParagraphParts.{joined_parts}
use Rattle.wt_text_edit_laws.specs.TextBlocks.{TextBlock, block_of}
use Rattle.wt_text_edit_laws.proofs.Blocks.BlockLeaves.{open_items, close_items}
use Rattle.wt_beside_laws.specs.FlatBlocks.{lines_in, begins_at}
use Rattle.wt_beside_laws.specs.Nodes.{AreNodes}
use Rattle.wt_beside_laws.specs.PageSigns.{line_signs, signs_of_lines, AreFlatTiles, AreFlatLines}
use Rattle.wt_beside_laws.specs.SentNodes.{IsUnchanged}
use Rattle.wt_beside_laws.specs.SentPieces.{ShowsItsSource}
use Rattle.wt_beside_laws.specs.SentStyled.{IsStyledBy, IsStyledSent, AreStyledSent, ShowsBy, Shows, AllShow}
use Rattle.wt_beside_laws.specs.Stood.{things}
use Rattle.wt_beside_laws.specs.StyledIn.{IsStyledIn}
use Rattle.wt_beside_laws.proofs.BlockNumbers.{block_counts}
use Rattle.wt_beside_laws.proofs.BlockSigns.{block_by, its_children, no_leaf, inside}
use Rattle.wt_beside_laws.proofs.LineThings.{nodes_parts, segments_parts, tiles_here}
use Rattle.wt_beside_laws.proofs.Made.OldBlocks.{with_parts, parts_are, lines_are, IsIn, no_group}
use Rattle.wt_beside_laws.proofs.OwnSigns.{Every, every_left, every_right, Finds, all_found, own_unchanged, sent_own}
use Rattle.wt_beside_laws.proofs.PageSigns.{flat_nodes}
use Rattle.wt_beside_laws.proofs.PartThings.{IsThingForm, IsThing, tree_source, IsAlone, HaveThings, nodes_of, stands_form, node_number, shows_source}
use Rattle.wt_beside_laws.proofs.Styled.BlockNodes.{finds_own, style_round, style_children, style_holds, found_inside}
use Rattle.wt_beside_laws.proofs.Styled.StyledTexts.{HasTexts, HaveTexts, block_texts}

-- ---- its styles are the page's

-- unchanged, and of the kind of the page's node with its number
pub record IsOwnStyle (p : Page) (l : Label) (ts : Trees) : Type 0 where
  pub own : IsUnchanged p l ts
  pub kind : (label own.kept.node).kind ≡ l.kind

abbrev pub KnownBy : InlineForm → Page → Label → Trees → Type 0 → Type 0
KnownBy inline.Nothing p l ts inside = Unit {0}
KnownBy inline.Characters p l ts inside = Unit {0}
KnownBy inline.Bold p l ts inside = IsOwnStyle p l ts × inside
KnownBy inline.Italic p l ts inside = IsOwnStyle p l ts × inside
KnownBy inline.Shown p l ts inside = Unit {0}
KnownBy inline.PageLink p l ts inside = Unit {0}
KnownBy inline.ExternalLink p l ts inside = Unit {0}
KnownBy inline.Tag p l ts inside = Unit {0}
KnownBy inline.Break p l ts inside = Unit {0}
KnownBy inline.AsItStood p l ts inside = Unit {0}

abbrev mutual
  pub IsKnown : Page → Tree → Type 0
  IsKnown p (tree l ts) = KnownBy (edit_shape l.kind).inline p l ts (AreKnown p ts)

  pub AreKnown : Page → Trees → Type 0
  AreKnown p none = Unit {0}
  AreKnown p (more t us) = IsKnown p t × AreKnown p us

-- ---- nodes that go on as they are

-- a node, and nodes, that are sent as they are, show their source, and whose styles are the page's
abbrev Goes : Page → Tree → Type 0
Goes p t = IsStyledSent p t × Shows p t × IsKnown p t

abbrev Go : Page → Trees → Type 0
Go p ts = AreStyledSent p ts × AllShow p ts × AreKnown p ts

-- sent as it is, and showing its source, wherever it is
abbrev GoesOn : (Tree → Tree → Bool) → ItemTree → Type 0
GoesOn same u = (block : Tree) (at from n : ℕ) (before : List Item) → 0 < n → HasNoGroup (standing n before u) → HasTexts (standing n before u)
    → Every (Finds block) (found_from at from (standing n before u))
    → Goes (page_of same block) (standing n before u)

abbrev AllGoOn : (Tree → Tree → Bool) → List Part → Type 0
AllGoOn same [] = Unit {0}
AllGoOn same (loose k o b ∷ ps) = IsText k × AllGoOn same ps
AllGoOn same (node u ∷ ps) = GoesOn same u × AllGoOn same ps

go_both : (same : Tree → Tree → Bool) (ps qs : List Part) → AllGoOn same ps → AllGoOn same qs → AllGoOn same (ps ++ qs)
go_both same [] qs h k = k
go_both same (loose j o b ∷ ps) qs h k = (h.0, go_both same ps qs h.1 k)
go_both same (node u ∷ ps) qs h k = (h.0, go_both same ps qs h.1 k)

go_split : (same : Tree → Tree → Bool) (ps qs : List Part) → AllGoOn same (ps ++ qs) → AllGoOn same ps × AllGoOn same qs
go_split same [] qs h = (tt, h)
go_split same (loose j o b ∷ ps) qs h = let r = go_split same ps qs h.1 in ((h.0, r.0), r.1)
go_split same (node u ∷ ps) qs h = let r = go_split same ps qs h.1 in ((h.0, r.0), r.1)

-- ---- a node that is no style

sent_by : (w : InlineForm) (p : Page) (l : Label) (ts : Trees) (inside : Type 0) → IsThingForm w → IsUnchanged p l ts → IsStyledBy w p l ts inside
sent_by inline.Nothing p l ts inside f h = absurd f
sent_by inline.Characters p l ts inside f h = absurd f
sent_by inline.Bold p l ts inside f h = absurd f
sent_by inline.Italic p l ts inside f h = absurd f
sent_by inline.Shown p l ts inside f h = h
sent_by inline.PageLink p l ts inside f h = h
sent_by inline.ExternalLink p l ts inside f h = h
sent_by inline.Tag p l ts inside f h = h
sent_by inline.Break p l ts inside f h = h
sent_by inline.AsItStood p l ts inside f h = h

shown_by : (w : InlineForm) (p : Page) (l : Label) (ts : Trees) (inside : Type 0) → IsThingForm w → ShowsItsSource p (tree l ts) → ShowsBy w p l ts inside
shown_by inline.Nothing p l ts inside f h = absurd f
shown_by inline.Characters p l ts inside f h = absurd f
shown_by inline.Bold p l ts inside f h = absurd f
shown_by inline.Italic p l ts inside f h = absurd f
shown_by inline.Shown p l ts inside f h = h
shown_by inline.PageLink p l ts inside f h = h
shown_by inline.ExternalLink p l ts inside f h = h
shown_by inline.Tag p l ts inside f h = h
shown_by inline.Break p l ts inside f h = h
shown_by inline.AsItStood p l ts inside f h = h

known_by : (w : InlineForm) (p : Page) (l : Label) (ts : Trees) (inside : Type 0) → IsThingForm w → KnownBy w p l ts inside
known_by inline.Nothing p l ts inside f = absurd f
known_by inline.Characters p l ts inside f = absurd f
known_by inline.Bold p l ts inside f = absurd f
known_by inline.Italic p l ts inside f = absurd f
known_by inline.Shown p l ts inside f = tt
known_by inline.PageLink p l ts inside f = tt
known_by inline.ExternalLink p l ts inside f = tt
known_by inline.Tag p l ts inside f = tt
known_by inline.Break p l ts inside f = tt
known_by inline.AsItStood p l ts inside f = tt

tree_known : (p : Page) (t : Tree) → IsThingForm (edit_shape (label t).kind).inline → IsKnown p t
tree_known p (tree l ts) f = known_by (edit_shape l.kind).inline p l ts (AreKnown p ts) f

tree_sent : (same : Tree → Tree → Bool) (block t : Tree) (at from : ℕ) → TellsSame same → IsThingForm (edit_shape (label t).kind).inline → (label t).id ≢ 0
    → HasNoGroup t → Every (Finds block) (found_from at from t) → IsStyledSent (page_of same block) t
tree_sent same block (tree l ts) at from tells f d g e =
    sent_by (edit_shape l.kind).inline (page_of same block) l ts (AreStyledSent (page_of same block) ts) f
    (sent_own same block at from l ts tells g (finds_own block at from (tree l ts) d e))

tree_shown : (p : Page) (t : Tree) → IsThingForm (edit_shape (label t).kind).inline → ShowsItsSource p t → Shows p t
tree_shown p (tree l ts) f h = shown_by (edit_shape l.kind).inline p l ts (AllShow p ts) f h

thing_goes : (same : Tree → Tree → Bool) (u : ItemTree) (r : Role) → TellsSame same → IsThing u r → IsAlone u → GoesOn same u
thing_goes same u r tells i alone = λ block at from n before some g texts e.
    let t : Tree = standing n before u in
    let form : IsThingForm (edit_shape (label t).kind).inline = stands_form n before u r i in
    let numbered : (label t).id ≢ 0 = node_number n before u r some i in (
      tree_sent same block t at from tells form numbered g e,
      tree_shown (page_of same block) t form (shows_source same block at from n before u alone (finds_own block at from t numbered e)),
      tree_known (page_of same block) t form,
    )

parts_go : (same : Tree → Tree → Bool) (at : ℕ) (ps : List Part) (ts : List Thing) → TellsSame same → HaveThings at ps ts → AllGoOn same ps
parts_go same at [] ts tells h = tt
parts_go same at (loose k o b ∷ ps) ts tells h = (h.0, parts_go same (at + 1) ps ts tells h.1)
parts_go same at (node u ∷ ps) ts tells h = (thing_goes same u h.0 tells h.3 h.4, parts_go same (at + length (tree_source u)) ps h.1 tells h.5)

-- ---- the trees of parts

leaf_goes : (p : Page) (k : Loose) (own : List Item) (n : ℕ) (before : List Item) → IsText k → HasTexts (standing n before (loose_leaf k own))
    → Goes p (standing n before (loose_leaf k own))
unfolding label_at
leaf_goes p Text own n before i h = (tt, (refl, h), tt)
leaf_goes p Sep own n before i h = absurd i

past_run : (same : Tree → Tree → Bool) (k : Loose) (o : Option ℕ) (b : ℕ) (r others : List Part) → IsRun one_leaf (loose k o b ∷ r) others → AllGoOn same (r ++ others)
    → AllGoOn same others
past_run same k o b [] others run h = h
past_run same k o b (loose j i c ∷ r) others run h = past_run same j i c r others run.1 h.1
past_run same k o b (node x ∷ r) others run h = absurd (let no = run.0 in cc)

runs_go : (rs : List (List Part)) (ps : List Part) (same : Tree → Tree → Bool) (block : Tree) (at from n : ℕ) (before : List Item) → 0 < n → AreRuns one_leaf rs ps
    → AllGoOn same ps → NoneIsGroup (nodes_of n before (forest (map child rs))) → HaveTexts (nodes_of n before (forest (map child rs)))
    → Every (Finds block) (found_in at from (nodes_of n before (forest (map child rs))))
    → Go (page_of same block) (nodes_of n before (forest (map child rs)))
runs_go [] ps same block at from n before some a h g x e = (tt, tt, tt)
runs_go ([] ∷ rs) ps same block at from n before some a h g x e = absurd a.2
runs_go ((loose k o b ∷ r) ∷ rs) ps same block at from n before some a h g x e =
    let run : List Part = loose k o b ∷ r in
    let u : ItemTree = child run in
    let t : Tree = standing n before u in
    let m : ℕ = n + count (placed before u) in
    let own : AllGoOn same (run ++ a.0) = subst (AllGoOn same) a.1 h in
    let first = leaf_goes (page_of same block) k (held_parts run) n before own.0 x.0 in
    let later = runs_go rs a.0 same block (at + length (flat t)) (from + length (visible (items t))) m (before ++ tree_items u) (omega (arith, some)) a.3
    (past_run same k o b r a.0 a.2 own.1) g.1 x.1 (every_right (Finds block) (found_from at from t) _ e) in
    ((first.0, later.0), (first.1, later.1), (first.2, later.2))
runs_go ((node u ∷ []) ∷ rs) ps same block at from n before some a h g x e =
    let t : Tree = standing n before u in
    let m : ℕ = n + count (placed before u) in
    let own : AllGoOn same (node u ∷ a.0) = subst (AllGoOn same) a.1 h in
    let first = own.0 block at from n before some g.0 x.0 (every_left (Finds block) (found_from at from t) _ e) in
    let later = runs_go rs a.0 same block (at + length (flat t)) (from + length (visible (items t))) m (before ++ tree_items u) (omega (arith, some)) a.3
    own.1 g.1 x.1 (every_right (Finds block) (found_from at from t) _ e) in
    ((first.0, later.0), (first.1, later.1), (first.2, later.2))
runs_go ((node u ∷ p ∷ r) ∷ rs) ps same block at from n before some a h g x e = absurd (let no = a.2.0 in cc)

children_go : (ps : List Part) (same : Tree → Tree → Bool) (block : Tree) (at from n : ℕ) (before : List Item) → 0 < n → AllGoOn same ps
    → NoneIsGroup (nodes_of n before (forest (children ps))) → HaveTexts (nodes_of n before (forest (children ps)))
    → Every (Finds block) (found_in at from (nodes_of n before (forest (children ps))))
    → Go (page_of same block) (nodes_of n before (forest (children ps)))
unfolding children
children_go ps same block at from n before some h g x e = runs_go (runs one_leaf ps) ps same block at from n before some (runs_are one_leaf ps) h g x e

-- ---- a style

abbrev IsSame : Page → Tree → Type 0
IsSame p (tree l ts) = IsOwnStyle p l ts

style_is : (kind : Bool) (p : Page) (n : ℕ) (before opening closing : List Item) (ps : List Part)
    → IsSame p (standing n before (style_round kind opening ps closing)) → Go p (nodes_of (n + 1) (before ++ opening) (forest (children ps)))
    → Goes p (standing n before (style_round kind opening ps closing))
unfolding label_at
style_is true p n before opening closing ps i h = (h.0, (refl, refl, h.1), (i, h.2))
style_is false p n before opening closing ps i h = (h.0, (refl, refl, h.1), (i, h.2))

style_number : (kind : Bool) (n : ℕ) (before opening closing : List Item) (ps : List Part) → 0 < n → (label (standing n before (style_round kind opening ps closing))).id ≢ 0
unfolding label_at
style_number true n before opening closing ps some = omega (arith, some)
style_number false n before opening closing ps some = omega (arith, some)

tree_same : (same : Tree → Tree → Bool) (block t : Tree) (at from : ℕ) → TellsSame same → (label t).id ≢ 0 → HasNoGroup t → Every (Finds block) (found_from at from t)
    → IsSame (page_of same block) t
tree_same same block (tree l ts) at from tells d g e =
    let f : Finds block (found_at at from (tree l ts)) = finds_own block at from (tree l ts) d e in
    record {
      own = record { kept = kept_of block (found_at at from (tree l ts)); found = f; same = own_unchanged same block (tree l ts) at from tells g };
      kind = refl;
    }

style_free : (kind : Bool) (n : ℕ) (before opening closing : List Item) (ps : List Part) → HasNoGroup (standing n before (style_round kind opening ps closing))
    → NoneIsGroup (nodes_of (n + 1) (before ++ opening) (forest (children ps)))
unfolding label_at
style_free true n before opening closing ps h = h.1
style_free false n before opening closing ps h = h.1

pub style_texts : (kind : Bool) (n : ℕ) (before opening closing : List Item) (ps : List Part) → HasTexts (standing n before (style_round kind opening ps closing))
    → HaveTexts (nodes_of (n + 1) (before ++ opening) (forest (children ps)))
unfolding label_at
style_texts true n before opening closing ps h = h
style_texts false n before opening closing ps h = h

style_goes : (same : Tree → Tree → Bool) (kind : Bool) (opening closing : List Item) (ps : List Part) → TellsSame same → AllGoOn same ps → GoesOn same (style_round kind opening ps closing)
style_goes same kind opening closing ps tells h = λ block at from n before some g x e.
    let t : Tree = standing n before (style_round kind opening ps closing) in
    let m : ℕ = length (label t).opening in
    let found : Every (Finds block) (found_in (at + m) (from + m) (nodes_of (n + 1) (before ++ opening) (forest (children ps)))) =
    subst (λ (us : Trees). Every (Finds block) (found_in (at + m) (from + m) us)) (style_children kind n before opening closing ps)
    (found_inside (Finds block) at from t (style_holds kind n before opening closing ps) e) in
    style_is kind (page_of same block) n before opening closing ps
    (tree_same same block t at from tells (style_number kind n before opening closing ps some) g e)
    (children_go ps same block (at + m) (from + m) (n + 1) (before ++ opening) (omega arith) h (style_free kind n before opening closing ps g)
    (style_texts kind n before opening closing ps x) found)

-- ---- segments with styles round them

abbrev EachGoes : (Tree → Tree → Bool) → List Segment → Type 0
EachGoes same [] = Unit {0}
EachGoes same (u ∷ us) = AllGoOn same u.parts × EachGoes same us

each_goes : (same : Tree → Tree → Bool) (us : List Segment) → AllGoOn same (segment_parts us) → EachGoes same us
each_goes same [] h = tt
each_goes same (u ∷ us) h = let r = go_split same u.parts (segment_parts us) h in (r.0, each_goes same us r.1)

segments_go : (same : Tree → Tree → Bool) (us : List Segment) → EachGoes same us → AllGoOn same (segment_parts us)
segments_go same [] h = tt
segments_go same (u ∷ us) h = go_both same u.parts (segment_parts us) h.0 (segments_go same us h.1)

take_goes : (same : Tree → Tree → Bool) (n : ℕ) (us : List Segment) → EachGoes same us → EachGoes same (take n us)
take_goes same zero [] h = tt
take_goes same zero (u ∷ us) h = tt
take_goes same (suc n) [] h = tt
take_goes same (suc n) (u ∷ us) h = (h.0, take_goes same n us h.1)

drop_goes : (same : Tree → Tree → Bool) (n : ℕ) (us : List Segment) → EachGoes same us → EachGoes same (drop n us)
drop_goes same zero [] h = tt
drop_goes same zero (u ∷ us) h = h
drop_goes same (suc n) [] h = tt
drop_goes same (suc n) (u ∷ us) h = drop_goes same n us h.1

between_go : (same : Tree → Tree → Bool) (low high : ℕ) (us : List Segment) → EachGoes same us → AllGoOn same (segment_parts (between low high us))
between_go same low high us h = segments_go same (between low high us) (take_goes same (high - low) (drop low us) (drop_goes same low us h))

styled_go : (same : Tree → Tree → Bool) (low high : ℕ) (f : Forest) (us : List Segment) → TellsSame same → EachGoes same us → AllGoOn same (styled low high f us)
styled_go same low high bare us tells h = between_go same low high us h
styled_go same low high (grown s held after) us tells h =
    let mid : ℕ = s.from + s.open_w in
    let end : ℕ = s.to - s.close_w in
    go_both same (segment_parts (between low s.from us)) (node (style_node s (styled mid end held us) us) ∷ styled s.to high after us) (between_go same low s.from us h) (
      style_goes same s.bold (segment_items (between s.from mid us)) (segment_items (between end s.to us)) (styled mid end held us) tells (styled_go same mid end held us tells h),
      styled_go same s.to high after us tells h,
    )

-- ---- lines

line_goes : (same : Tree → Tree → Bool) (at : ℕ) (xs : List Item) → TellsSame same → AreFlatTiles (tiles in_line xs) → AreNodes (line_signs at xs) → AllGoOn same (line_parts xs)
unfolding segments with_styles
line_goes same at xs tells f n =
    let us : List Segment = segments context_parts in_line xs in
    let told = tiles_here at xs (tiles_placed in_line xs) f n in
    let flat_parts : AllGoOn same (segment_parts us) =
    subst (AllGoOn same) (sym (segments_parts (tiles in_line xs)))
    (parts_go same at (flat_map (tile_part context_parts in_line) (tiles in_line xs)) (things (line_signs at xs)) tells told.have) in
    subst (AllGoOn same) (sym (contexts_are in_line xs (omega arith))) (styled_go same 0 (length us) (forest_of (style_tree_of (chunks us))) us tells (each_goes same us flat_parts))

lines_go : (same : Tree → Tree → Bool) (at : ℕ) (ls : List (List Item)) → TellsSame same → AreFlatLines ls → AreNodes (signs_of_lines at ls) → AllGoOn same (joined_parts ls)
lines_go same at [] tells f n = tt
lines_go same at (xs ∷ []) tells f n = subst (AllGoOn same) (sym (append-nil (line_parts xs))) (line_goes same at xs tells f.1 n)
lines_go same at (xs ∷ ys ∷ ls) tells f n =
    let m : ℕ = length (sources xs) in
    let more : List ContentSign = letter 10 ∷ signs_of_lines (at + m + 1) (ys ∷ ls) in
    let nodes = nodes_parts (line_signs at xs) more n in
    go_both same (line_parts xs) (loose Text None 10 ∷ joined_parts (ys ∷ ls)) (line_goes same at xs tells f.1 nodes.0)
    (tt, lines_go same (at + m + 1) (ys ∷ ls) tells f.2 nodes.1)

-- ---- the block

none_in : (t : Tree) → HasNoGroup t → NoneIsGroup (children_of t)
none_in (tree l ts) h = h.1

block_goes : (k : Block) (same : Tree → Tree → Bool) (n : ℕ) (before opening closing : List Item) (ps : List Part) → 0 < n → AllGoOn same ps
    → HasNoGroup (standing n before (block_by k opening ps closing)) → HaveTexts (nodes_of (n + 1) (before ++ opening) (forest (children ps)))
    → Go (page_of same (standing n before (block_by k opening ps closing))) (children_of (standing n before (block_by k opening ps closing)))
block_goes k same n before opening closing ps some h g x =
    let block : Tree = standing n before (block_by k opening ps closing) in
    let at : ℕ = 0 + length (label block).opening in
    let ns : Trees = nodes_of (n + 1) (before ++ opening) (forest (children ps)) in
    let e : children_of block ≡ ns = its_children k n before opening closing ps in
    let found : Every (Finds block) (found_in at at (children_of block)) =
    inside (Finds block) block (no_leaf k n before opening closing ps) (all_found block n some (block_counts n before (block_by k opening ps closing) some g)) in
    subst (λ (ts : Trees). Go (page_of same block) ts) (sym e)
    (children_go ps same block at at (n + 1) (before ++ opening) (omega arith) h (subst NoneIsGroup e (none_in block g)) x
    (subst (λ (ts : Trees). Every (Finds block) (found_in at at ts)) e found))

pub own_styled : (same : Tree → Tree → Bool) (k : TextBlock) (q : List ℕ) (block : Tree) → TellsSame same → IsStyledIn k q → IsIn k q block
    → AreStyledSent (page_of same block) (children_of block) × AllShow (page_of same block) (children_of block) × AreKnown (page_of same block) (children_of block)
own_styled same k q block tells h i =
    let ls = lines_in k q in
    let at : ℕ = begins_at k in
    let ps : List Part = content_parts_of k (page_items q) in
    let go : AllGoOn same ps =
    subst (AllGoOn same) (sym (lines_are k q)) (lines_go same at ls tells h.flat (flat_nodes ls at (signs_of_lines at ls) h.flat refl)) in
    let is : block ≡ standing i.number i.before (with_parts k ps) = i.is ∙ ap (standing i.number i.before) (parts_are k q) in
    let free : HasNoGroup (standing i.number i.before (with_parts k ps)) =
    subst (λ (u : ItemTree). HasNoGroup (standing i.number i.before u)) (parts_are k q) (no_group k q i.number i.before h.utf8 h.is h.unended h.calls_nothing) in
    subst (λ (t : Tree). Go (page_of same t) (children_of t)) (sym is)
    (block_goes (block_of k) same i.number i.before (open_items k) (close_items k) ps i.some go free
    (block_texts k q (i.number + 1) (i.before ++ open_items k) h.utf8 h.is h.unended h.calls_nothing))
