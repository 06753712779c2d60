-- No node of a block with styles ends in an open tag, wherever it is, and none is a group: so it is a content that is read by itself.
use Rattle.std.proofs.Common.{arith, ◌≡◌, ℕ, zero, suc, ◌+◌, ◌-◌, Bool, true, false, Option, None, List, [], ◌∷◌, ◌++◌, length, map, take, drop, refl, sym, ap, ap₂, ◌∙◌, subst, append-nil}
use Rattle.std.specs.Prelude.{◌||◌}
use Rattle.std.specs.List.{flat_map}
use Rattle.wt_span.specs.Items.{Item, sources}
use Rattle.wt_span.specs.Origins.{Expanded}
use Rattle.wt_span.specs.Runs.{runs, IsRun, AreRuns}
use Rattle.wt_span.proofs.RunLaws.{runs_are}
use Rattle.wt_tree.specs.declared.edit_shape.InlineForm.{InlineForm}
use Rattle.wt_tree.specs.declared.edit_shape.InlineForm.TheVariants as inline
use Rattle.wt_tree.specs.EditShapes.{edit_shape}
use Rattle.wt_tree.specs.Tiling.{HasNoGroup, NoneIsGroup}
use Rattle.wt_tree.specs.Tree.{Label, Tree, tree, Trees, none, more}
use Rattle.wt_guards.specs.declared.role.Role.{Role}
use Rattle.wt_guards.specs.Content.{ContentSign, Thing, letter}
use Rattle.wt_isolation.specs.OpenTags.{ends_open, node_ends_open, any_ends_open}
use Rattle.wt_isolation.specs.OpenTexts.{in_style}
use Rattle.wt_checks.specs.Kept.{children as nodes_in}
use Rattle.wt_inline.specs.declared.loose.Loose.{Loose}
use Rattle.wt_inline.specs.declared.loose.Loose.TheVariants.{Text}
use Rattle.wt_inline.specs.ItemTree.{plain, ItemTree, inner, forest, tree_items}
use Rattle.wt_inline.specs.Parts.{Part, loose, node, held_parts, one_leaf, child, children}
use Rattle.wt_tiles.specs.Contexts.{in_line}
use Rattle.wt_tiles.specs.Tiles.{tiles}
use Rattle.wt_context.specs.Line.{context_parts, line_parts}
use Rattle.wt_context.specs.Nodes.{segments}
use Rattle.wt_context.specs.Segments.{Segment, segment_items, segment_parts}
use Rattle.wt_context.specs.Unstyled.{tile_part}
use Rattle.wt_context.specs.Styled.{style_kind, between, style_node, styled, with_styles}
use Rattle.wt_quotes.specs.Forest.{Forest, bare, grown, forest_of}
use Rattle.wt_quotes.specs.Styles.{style_tree_of}
use Rattle.wt_context.specs.Chunks.{chunks}
use Rattle.wt_context.proofs.NestedContexts.{contexts_are}
use Rattle.wt_context.proofs.PlainNodes.{IsText}
use Rattle.wt_context.proofs.TilePlaces.{tiles_placed}
use Rattle.wt_annotated.specs.Labels.{label_at}
use Rattle.wt_annotated.specs.Numbering.{count}
use Rattle.wt_annotated.specs.WithoutCalls.{placed}
use Rattle.wt_link_spelling.specs.Spelling.{children_of}
use Rattle.wt_part_laws.specs.Placeless.{placeless, all_placeless}
use Rattle.wt_part_laws.specs.Standing.{standing}
use Rattle.wt_part_laws.proofs.Sources.{standing_source}
use Rattle.wt_selser.specs.GroupFaults.{group_or_style, has_faulty_group}
use Rattle.wt_text_edit_laws.specs.Contents.{IsContent}
use Rattle.wt_text_edit_laws.specs.ParagraphParts.{joined_parts}
use Rattle.wt_text_edit_laws.specs.TextBlocks.{TextBlock, block_of, block_tree}
use Rattle.wt_text_edit_laws.proofs.Blocks.BlockLeaves.{open_items, close_items}
use Rattle.wt_text_edit_laws.proofs.Blocks.Untangled.{opens_same}
use Rattle.wt_beside_laws.specs.FlatBlocks.{lines_in, begins_at}
use Rattle.wt_beside_laws.specs.Nodes.{AreNodes}
use Rattle.wt_beside_laws.specs.PageBlocks.{IsBlockOfLines}
use Rattle.wt_beside_laws.specs.PageSigns.{line_signs, signs_of_lines, AreFlatTiles, AreFlatLines}
use Rattle.wt_beside_laws.specs.StyledIn.{IsStyledIn}
use Rattle.wt_beside_laws.specs.Stood.{things}
use Rattle.wt_beside_laws.proofs.BlockSigns.{its_children}
use Rattle.wt_beside_laws.proofs.LineThings.{nodes_parts, segments_parts, tiles_here}
use Rattle.wt_beside_laws.proofs.Made.OldBlocks.{with_parts, parts_are, lines_are, IsIn, no_group, marks_in}
use Rattle.wt_beside_laws.proofs.OwnItems.{content_own}
use Rattle.wt_beside_laws.proofs.PageSigns.{flat_nodes}
use Rattle.wt_beside_laws.proofs.PartThings.{IsThing, thing_at, tree_source, HaveThings, nodes_of, stands_form, ShutThings, shut_things, none_of_both, leaf_shut, node_open}
use Rattle.wt_beside_laws.proofs.SentNodes.{things_append}

-- ---- parts of which none ends in an open tag

-- wherever it is
abbrev IsShutTree : ItemTree → Type 0
IsShutTree u = (n : ℕ) (before : List Item) → node_ends_open (standing n before u) ≡ false

abbrev AllShut : List Part → Type 0
AllShut [] = Unit {0}
AllShut (loose k o b ∷ ps) = IsText k × AllShut ps
AllShut (node u ∷ ps) = IsShutTree u × AllShut ps

shut_both : (ps qs : List Part) → AllShut ps → AllShut qs → AllShut (ps ++ qs)
shut_both [] qs h k = k
shut_both (loose j o b ∷ ps) qs h k = (h.0, shut_both ps qs h.1 k)
shut_both (node u ∷ ps) qs h k = (h.0, shut_both ps qs h.1 k)

shut_split : (ps qs : List Part) → AllShut (ps ++ qs) → AllShut ps × AllShut qs
shut_split [] qs h = (tt, h)
shut_split (loose j o b ∷ ps) qs h = let r = shut_split ps qs h.1 in ((h.0, r.0), r.1)
shut_split (node u ∷ ps) qs h = let r = shut_split ps qs h.1 in ((h.0, r.0), r.1)

shut_tree : (u : ItemTree) (r : Role) → IsThing u r → ends_open (tree_source u) ≡ false → IsShutTree u
shut_tree u r i e = λ n before. node_open (standing n before u) (stands_form n before u r i) ∙ ap ends_open (standing_source n before u) ∙ e

shut_parts : (at : ℕ) (ps : List Part) (ts : List Thing) → HaveThings at ps ts → ShutThings ts → AllShut ps
shut_parts at [] ts h s = tt
shut_parts at (loose k o b ∷ ps) ts h s = (h.0, shut_parts (at + 1) ps ts h.1 s)
shut_parts at (node u ∷ ps) ts h s =
    let own : ShutThings (thing_at h.0 (tree_source u) at ∷ h.1) = subst ShutThings h.2 s in
    (shut_tree u h.0 h.3 own.0, shut_parts (at + length (tree_source u)) ps h.1 h.5 own.1)

-- ---- their nodes

past_run : (k : Loose) (o : Option ℕ) (b : ℕ) (r others : List Part) → IsRun one_leaf (loose k o b ∷ r) others → AllShut (r ++ others) → AllShut others
past_run k o b [] others run h = h
past_run k o b (loose j i c ∷ r) others run h = past_run j i c r others run.1 h.1
past_run k o b (node x ∷ r) others run h = absurd (let no = run.0 in cc)

runs_shut : (rs : List (List Part)) (ps : List Part) (n : ℕ) (before : List Item) → AreRuns one_leaf rs ps → AllShut ps
    → any_ends_open (nodes_of n before (forest (map child rs))) ≡ false
runs_shut [] ps n before a h = refl
runs_shut ([] ∷ rs) ps n before a h = absurd a.2
runs_shut ((loose k o b ∷ r) ∷ rs) ps n before a h =
    let run : List Part = loose k o b ∷ r in
    let u : ItemTree = child run in
    let m : ℕ = count (placed before u) in
    let own : AllShut (run ++ a.0) = subst AllShut a.1 h in
    none_of_both (node_ends_open (standing n before u)) (any_ends_open (nodes_of (n + m) (before ++ tree_items u) (forest (map child rs))))
    (leaf_shut k (held_parts run) n before own.0)
    (runs_shut rs a.0 (n + m) (before ++ tree_items u) a.3 (past_run k o b r a.0 a.2 own.1))
runs_shut ((node u ∷ []) ∷ rs) ps n before a h =
    let m : ℕ = count (placed before u) in
    let own : AllShut (node u ∷ a.0) = subst AllShut a.1 h in
    none_of_both (node_ends_open (standing n before u)) (any_ends_open (nodes_of (n + m) (before ++ tree_items u) (forest (map child rs))))
    (own.0 n before) (runs_shut rs a.0 (n + m) (before ++ tree_items u) a.3 own.1)
runs_shut ((node u ∷ p ∷ r) ∷ rs) ps n before a h = absurd (let no = a.2.0 in cc)

none_open : (ps : List Part) (n : ℕ) (before : List Item) → AllShut ps → any_ends_open (nodes_of n before (forest (children ps))) ≡ false
unfolding children
none_open ps n before h = runs_shut (runs one_leaf ps) ps n before (runs_are one_leaf ps) h

-- ---- styles

style_shut : (bold : Bool) (opening closing : List Item) (ps : List Part) → AllShut ps → IsShutTree (inner (plain (style_kind bold)) opening (forest (children ps)) closing)
unfolding label_at
style_shut true opening closing ps h = λ n before. none_open ps (n + 1) (before ++ opening) h
style_shut false opening closing ps h = λ n before. none_open ps (n + 1) (before ++ opening) h

-- segments of which each has such parts
abbrev EachShut : List Segment → Type 0
EachShut [] = Unit {0}
EachShut (u ∷ us) = AllShut u.parts × EachShut us

each_shut : (us : List Segment) → AllShut (segment_parts us) → EachShut us
each_shut [] h = tt
each_shut (u ∷ us) h = let r = shut_split u.parts (segment_parts us) h in (r.0, each_shut us r.1)

parts_shut : (us : List Segment) → EachShut us → AllShut (segment_parts us)
parts_shut [] h = tt
parts_shut (u ∷ us) h = shut_both u.parts (segment_parts us) h.0 (parts_shut us h.1)

take_shut : (n : ℕ) (us : List Segment) → EachShut us → EachShut (take n us)
take_shut zero [] h = tt
take_shut zero (u ∷ us) h = tt
take_shut (suc n) [] h = tt
take_shut (suc n) (u ∷ us) h = (h.0, take_shut n us h.1)

drop_shut : (n : ℕ) (us : List Segment) → EachShut us → EachShut (drop n us)
drop_shut zero [] h = tt
drop_shut zero (u ∷ us) h = h
drop_shut (suc n) [] h = tt
drop_shut (suc n) (u ∷ us) h = drop_shut n us h.1

between_shut : (low high : ℕ) (us : List Segment) → EachShut us → AllShut (segment_parts (between low high us))
between_shut low high us h = parts_shut (between low high us) (take_shut (high - low) (drop low us) (drop_shut low us h))

styled_shut : (low high : ℕ) (f : Forest) (us : List Segment) → EachShut us → AllShut (styled low high f us)
styled_shut low high bare us h = between_shut low high us h
styled_shut low high (grown s held after) us h =
    let mid : ℕ = s.from + s.open_w in
    let end : ℕ = s.to - s.close_w in
    shut_both (segment_parts (between low s.from us)) (node (style_node s (styled mid end held us) us) ∷ styled s.to high after us) (between_shut low s.from us h) (
      style_shut s.bold (segment_items (between s.from mid us)) (segment_items (between end s.to us)) (styled mid end held us) (styled_shut mid end held us h),
      styled_shut s.to high after us h,
    )

-- ---- lines

line_shut : (at : ℕ) (xs : List Item) → AreFlatTiles (tiles in_line xs) → AreNodes (line_signs at xs) → ShutThings (things (line_signs at xs))
    → AllShut (line_parts xs)
unfolding segments with_styles
line_shut at xs f n s =
    let us : List Segment = segments context_parts in_line xs in
    let told = tiles_here at xs (tiles_placed in_line xs) f n in
    let flat : AllShut (segment_parts us) =
    subst AllShut (sym (segments_parts (tiles in_line xs))) (shut_parts at (flat_map (tile_part context_parts in_line) (tiles in_line xs)) (things (line_signs at xs)) told.have s) in
    subst AllShut (sym (contexts_are in_line xs (omega arith))) (styled_shut 0 (length us) (forest_of (style_tree_of (chunks us))) us (each_shut us flat))

things_split : (ts us : List Thing) → ShutThings (ts ++ us) → ShutThings ts × ShutThings us
things_split [] us h = (tt, h)
things_split (t ∷ ts) us h = let r = things_split ts us h.1 in ((h.0, r.0), r.1)

lines_shut : (at : ℕ) (ls : List (List Item)) → AreFlatLines ls → AreNodes (signs_of_lines at ls) → ShutThings (things (signs_of_lines at ls))
    → AllShut (joined_parts ls)
lines_shut at [] f n s = tt
lines_shut at (xs ∷ []) f n s = subst AllShut (sym (append-nil (line_parts xs))) (line_shut at xs f.1 n s)
lines_shut at (xs ∷ ys ∷ ls) f n s =
    let m : ℕ = length (sources xs) in
    let more : List ContentSign = letter 10 ∷ signs_of_lines (at + m + 1) (ys ∷ ls) in
    let nodes = nodes_parts (line_signs at xs) more n in
    let shut = things_split (things (line_signs at xs)) (things more) (subst ShutThings (things_append (line_signs at xs) more) s) in
    shut_both (line_parts xs) (loose Text None 10 ∷ joined_parts (ys ∷ ls)) (line_shut at xs f.1 nodes.0 shut.0)
    (tt, lines_shut (at + m + 1) (ys ∷ ls) f.2 nodes.1 shut.1)

-- ---- nodes that are no groups have no fault, wherever they are

style_faultless : (w : InlineForm) → in_style w false ≡ false
style_faultless inline.Nothing = refl
style_faultless inline.Characters = refl
style_faultless inline.Bold = refl
style_faultless inline.Italic = refl
style_faultless inline.Shown = refl
style_faultless inline.PageLink = refl
style_faultless inline.ExternalLink = refl
style_faultless inline.Tag = refl
style_faultless inline.Break = refl
style_faultless inline.AsItStood = refl

node_faultless : (items : Expanded) (l : Label) (ts : Trees) → HasNoGroup (tree l ts) → has_faulty_group items ts ≡ false
    → group_or_style items l ts (has_faulty_group items ts) ≡ false
node_faultless items l ts g e = rw g.0 (ap (in_style (edit_shape l.kind).inline) e ∙ style_faultless (edit_shape l.kind).inline)

faultless : (items : Expanded) (ts : Trees) → NoneIsGroup ts → has_faulty_group items ts ≡ false
faultless items none g = refl
faultless items (more (tree l us) ts) g =
    ap₂ (λ (a b : Bool). a || b) (node_faultless items l us g.0 (faultless items us g.0.1)) (faultless items ts g.1)

placed_groupless : (ts : Trees) → NoneIsGroup ts → NoneIsGroup (all_placeless ts)
placed_groupless none g = tt
placed_groupless (more (tree l us) ts) g = ((g.0.0, placed_groupless us g.0.1), placed_groupless ts g.1)

groupless_placed : (ts : Trees) → NoneIsGroup (all_placeless ts) → NoneIsGroup ts
groupless_placed none g = tt
groupless_placed (more (tree l us) ts) g = ((g.0.0, groupless_placed us g.0.1), groupless_placed ts g.1)

-- ---- the block by itself

tree_lines : (k : TextBlock) (q : List ℕ) → block_tree k q ≡ with_parts k (joined_parts (lines_in k q))
tree_lines k q = parts_are k q ∙ ap (with_parts k) (lines_are k q)

none_in : (t : Tree) → HasNoGroup t → NoneIsGroup (children_of t)
none_in (tree l ts) h = h.1

abbrev own_nodes : TextBlock → List ℕ → Trees
own_nodes k q = children_of (standing 0 [] (block_tree k q))

own_shut : (k : TextBlock) (q : List ℕ) → IsStyledIn k q → any_ends_open (own_nodes k q) ≡ false
own_shut k q h =
    let ls : List (List Item) = lines_in k q in
    let at : ℕ = begins_at k in
    ap (λ (t : ItemTree). any_ends_open (children_of (standing 0 [] t))) (tree_lines k q)
    ∙ ap any_ends_open (its_children (block_of k) 0 [] (open_items k) (close_items k) (joined_parts ls))
    ∙ none_open (joined_parts ls) (0 + 1) ([] ++ open_items k)
    (lines_shut at ls h.flat (flat_nodes ls at (signs_of_lines at ls) h.flat refl) (shut_things (signs_of_lines at ls) h.shut))

-- ---- wherever it is in a page

placeless_children : (t : Tree) → nodes_in (placeless t) ≡ all_placeless (children_of t)
placeless_children (tree l ts) = refl

own_untangled : (k : TextBlock) (q : List ℕ) (items : Expanded) (t : Tree) → IsStyledIn k q → placeless t ≡ placeless (standing 0 [] (block_tree k q))
    → (any_ends_open (nodes_in t) ≡ false) × (has_faulty_group items (nodes_in t) ≡ false)
own_untangled k q items (tree l ts) h same =
    let ns : Trees = own_nodes k q in
    let inside : all_placeless ts ≡ all_placeless ns = ap nodes_in same ∙ placeless_children (standing 0 [] (block_tree k q)) in
    let free : NoneIsGroup ns = none_in (standing 0 [] (block_tree k q)) (no_group k q 0 [] h.utf8 h.is h.unended h.calls_nothing) in (
      sym (opens_same ts) ∙ ap any_ends_open inside ∙ opens_same ns ∙ own_shut k q h,
      faultless items ts (groupless_placed ts (subst NoneIsGroup (sym inside) (placed_groupless ns free))),
    )

pub styled_in_content : (k : TextBlock) (q : List ℕ) → IsStyledIn k q → IsContent k q
styled_in_content k q h = record {
  utf8 = h.utf8;
  ended = h.ended;
  unended = h.unended;
  is = h.is;
  of_page = content_own k q;
  has_items = h.has_items;
  untangled = λ items t e. own_untangled k q items t h e;
}

-- ---- it is what its lines make

pub styled_of_lines : (k : TextBlock) (q : List ℕ) (block : Tree) → IsStyledIn k q → IsIn k q block → IsBlockOfLines (lines_in k q) block
styled_of_lines k q block h i = record {
  number = i.number;
  before = i.before;
  form = block_of k;
  opening = open_items k;
  closing = close_items k;
  some = i.some;
  is = i.is ∙ ap (standing i.number i.before) (tree_lines k q);
  ungrouped = subst HasNoGroup (sym i.is) (no_group k q i.number i.before h.utf8 h.is h.unended h.calls_nothing);
  marks = marks_in k q block i h.flat h.kept;
}
