-- The other way round: where no node of a block ends in an open tag, no source of a form in its lines does. So a content that is read by itself has
-- no such form.
use Rattle.std.proofs.Common.{arith, ◌≡◌, ℕ, ◌+◌, ◌-◌, ◌≤◌, Bool, true, false, Option, None, List, [], ◌∷◌, ◌++◌, length, map, refl, sym, ap, ◌∙◌, subst, append-nil, append_assoc}
use Rattle.std.specs.Prelude.{◌||◌}
use Rattle.wt_span.specs.Items.{Item, sources}
use Rattle.wt_span.specs.Origins.{Expanded}
use Rattle.wt_span.specs.Runs.{runs, IsRun, AreRuns}
use Rattle.wt_span.proofs.RunLaws.{runs_are}
use Rattle.wt_tree.specs.Tree.{Tree, tree}
use Rattle.wt_guards.specs.declared.role.Role.{Role}
use Rattle.wt_guards.specs.Content.{ContentSign, Thing, letter}
use Rattle.wt_isolation.specs.OpenTags.{ends_open, node_ends_open, any_ends_open}
use Rattle.wt_checks.specs.Kept.{children as nodes_in}
use Rattle.wt_inline.specs.declared.loose.Loose.{Loose}
use Rattle.wt_inline.specs.declared.loose.Loose.TheVariants.{Text}
use Rattle.wt_inline.specs.ItemTree.{ItemTree, forest, tree_items}
use Rattle.wt_inline.specs.Parts.{Part, loose, node, one_leaf, child, children}
use Rattle.wt_tiles.specs.Contexts.{in_line}
use Rattle.wt_tiles.specs.Tiles.{tiles}
use Rattle.wt_context.specs.Chunks.{chunks}
use Rattle.wt_context.specs.Line.{context_parts, line_parts}
use Rattle.wt_context.specs.Nodes.{segments}
use Rattle.wt_context.specs.Segments.{Segment, segment_items, segment_parts}
use Rattle.wt_context.specs.Styled.{between, style_node, styled}
use Rattle.wt_context.specs.Styling.{Fill}
use Rattle.wt_context.proofs.Forests.{fill_le}
use Rattle.wt_context.proofs.QuotePlaces.{AreMarked, all_marked}
use Rattle.wt_quotes.specs.Forest.{Forest, bare, grown, forest_of}
use Rattle.wt_quotes.specs.Styles.{style_tree_of}
use Rattle.wt_annotated.specs.Labels.{label_at}
use Rattle.wt_annotated.specs.Numbering.{count}
use Rattle.wt_annotated.specs.WithoutCalls.{placed}
use Rattle.wt_link_spelling.specs.Spelling.{children_of}
use Rattle.wt_part_laws.specs.Standing.{standing}
use Rattle.wt_part_laws.proofs.Sources.{standing_source}
use Rattle.wt_text_edit_laws.specs.Contents.{IsContent}
use Rattle.wt_text_edit_laws.specs.NoCalls.{CallsNothing}
use Rattle.wt_text_edit_laws.specs.ParagraphParts.{joined_parts}
use Rattle.wt_text_edit_laws.specs.TextBlocks.{TextBlock, block_of, block_items, block_tree}
use Rattle.wt_text_edit_laws.proofs.Blocks.BlockLeaves.{open_items, close_items}
use Rattle.wt_beside_laws.specs.Calm.{AreUtf8Nodes}
use Rattle.wt_beside_laws.specs.Content.{AreKept}
use Rattle.wt_beside_laws.specs.FlatBlocks.{lines_in, begins_at, signs_in}
use Rattle.wt_beside_laws.specs.HeldLines.{AreHeldLines}
use Rattle.wt_beside_laws.specs.Nodes.{AreNodes}
use Rattle.wt_beside_laws.specs.PageBlocks.{AreShut}
use Rattle.wt_beside_laws.specs.PageSigns.{line_signs, signs_of_lines, AreFlatTiles, AreFlatLines}
use Rattle.wt_beside_laws.specs.Stood.{things}
use Rattle.wt_beside_laws.specs.StyledIn.{IsStyledIn}
use Rattle.wt_beside_laws.proofs.BlockSigns.{its_children}
use Rattle.wt_beside_laws.proofs.HeldLines.{content_flat}
use Rattle.wt_beside_laws.proofs.LineThings.{nodes_parts}
use Rattle.wt_beside_laws.proofs.Made.OldBlocks.{with_parts, parts_are, lines_are}
use Rattle.wt_beside_laws.proofs.PageSigns.{flat_nodes}
use Rattle.wt_beside_laws.proofs.PartThings.{IsThing, thing_at, tree_source, HaveThings, parts_width, nodes_of, stands_form, ShutThings, node_open, are_shut}
use Rattle.wt_beside_laws.proofs.SentNodes.{things_append}
use Rattle.wt_beside_laws.proofs.Styled.BlockNodes.{style_round}
use Rattle.wt_beside_laws.proofs.Styled.BlockStyles.{QuotesAre, quotes_between, quotes_none, parts_cut, things_cut, line_quotes, line_fill, line_is, line_things}

-- ---- parts by the sources in them

-- where this node doesn't end in an open tag, none of these does
abbrev Shuts : ItemTree → List Thing → Type 0
Shuts u ts = (n : ℕ) (before : List Item) → node_ends_open (standing n before u) ≡ false → ShutThings ts

abbrev AllShuts : List Part → List Thing → Type 0
AllShuts [] ts = ts ≡ []
AllShuts (loose k o b ∷ ps) ts = AllShuts ps ts
AllShuts (node u ∷ ps) ts = (us : List Thing) × (vs : List Thing) × (ts ≡ us ++ vs) × Shuts u us × AllShuts ps vs

shuts_both : (ps qs : List Part) (ts us : List Thing) → AllShuts ps ts → AllShuts qs us → AllShuts (ps ++ qs) (ts ++ us)
shuts_both [] qs ts us h k = subst (λ (xs : List Thing). AllShuts qs (xs ++ us)) (sym h) k
shuts_both (loose j o b ∷ ps) qs ts us h k = shuts_both ps qs ts us h k
shuts_both (node u ∷ ps) qs ts us h k =
    (h.0, h.1 ++ us, ap (λ (xs : List Thing). xs ++ us) h.2 ∙ append_assoc h.0 h.1 us, h.3, shuts_both ps qs h.1 us h.4 k)

thing_shuts : (at : ℕ) (u : ItemTree) (r : Role) → IsThing u r → Shuts u (thing_at r (tree_source u) at ∷ [])
thing_shuts at u r i = λ n before e.
    (sym (node_open (standing n before u) (stands_form n before u r i) ∙ ap ends_open (standing_source n before u)) ∙ e, tt)

by_things : (at : ℕ) (ps : List Part) (ts : List Thing) → HaveThings at ps ts → AllShuts ps ts
by_things at [] ts h = h
by_things at (loose k o b ∷ ps) ts h = by_things (at + 1) ps ts h.1
by_things at (node u ∷ ps) ts h =
    (thing_at h.0 (tree_source u) at ∷ [], h.1, h.2, thing_shuts at u h.0 h.3, by_things (at + length (tree_source u)) ps h.1 h.5)

-- ---- the trees of parts

both_false : (a b : Bool) → (a || b) ≡ false → (a ≡ false) × (b ≡ false)
both_false true b e = absurd (cc)
both_false false b e = (refl, e)

shut_both : (ts us : List Thing) → ShutThings ts → ShutThings us → ShutThings (ts ++ us)
shut_both [] us h k = k
shut_both (t ∷ ts) us h k = (h.0, shut_both ts us h.1 k)

past_run : (k : Loose) (o : Option ℕ) (b : ℕ) (r others : List Part) (ts : List Thing) → IsRun one_leaf (loose k o b ∷ r) others
    → AllShuts (r ++ others) ts → AllShuts others ts
past_run k o b [] others ts run h = h
past_run k o b (loose j i c ∷ r) others ts run h = past_run j i c r others ts run.1 h
past_run k o b (node x ∷ r) others ts run h = absurd (let no = run.0 in cc)

runs_shut : (rs : List (List Part)) (ps : List Part) (n : ℕ) (before : List Item) (ts : List Thing) → AreRuns one_leaf rs ps → AllShuts ps ts
    → any_ends_open (nodes_of n before (forest (map child rs))) ≡ false → ShutThings ts
runs_shut [] ps n before ts a h e = subst ShutThings (sym (subst (λ (qs : List Part). AllShuts qs ts) a h)) tt
runs_shut ([] ∷ rs) ps n before ts a h e = absurd a.2
runs_shut ((loose k o b ∷ r) ∷ rs) ps n before ts a h e =
    let u : ItemTree = child (loose k o b ∷ r) in
    let m : ℕ = count (placed before u) in
    let own : AllShuts (loose k o b ∷ (r ++ a.0)) ts = subst (λ (qs : List Part). AllShuts qs ts) a.1 h in
    let each = both_false (node_ends_open (standing n before u)) (any_ends_open (nodes_of (n + m) (before ++ tree_items u) (forest (map child rs)))) e in
    runs_shut rs a.0 (n + m) (before ++ tree_items u) ts a.3 (past_run k o b r a.0 ts a.2 own) each.1
runs_shut ((node u ∷ []) ∷ rs) ps n before ts a h e =
    let m : ℕ = count (placed before u) in
    let own : AllShuts (node u ∷ a.0) ts = subst (λ (qs : List Part). AllShuts qs ts) a.1 h in
    let each = both_false (node_ends_open (standing n before u)) (any_ends_open (nodes_of (n + m) (before ++ tree_items u) (forest (map child rs)))) e in
    subst ShutThings (sym own.2)
    (shut_both own.0 own.1 (own.3 n before each.0) (runs_shut rs a.0 (n + m) (before ++ tree_items u) own.1 a.3 own.4 each.1))
runs_shut ((node u ∷ p ∷ r) ∷ rs) ps n before ts a h e = absurd (let no = a.2.0 in cc)

parts_shut : (ps : List Part) (n : ℕ) (before : List Item) (ts : List Thing) → AllShuts ps ts
    → any_ends_open (nodes_of n before (forest (children ps))) ≡ false → ShutThings ts
unfolding children
parts_shut ps n before ts h e = runs_shut (runs one_leaf ps) ps n before ts (runs_are one_leaf ps) h e

-- ---- styles

style_shuts : (bold : Bool) (opening closing : List Item) (ps : List Part) (ts : List Thing) → AllShuts ps ts → Shuts (style_round bold opening ps closing) ts
unfolding label_at
style_shuts true opening closing ps ts h = λ n before e. parts_shut ps (n + 1) (before ++ opening) ts h e
style_shuts false opening closing ps ts h = λ n before e. parts_shut ps (n + 1) (before ++ opening) ts h e

styled_shuts : (low high : ℕ) (f : Forest) (us : List Segment) (at : ℕ) (ts : List Thing) → Fill low high f → AreMarked f us → QuotesAre us
    → HaveThings at (segment_parts (between low high us)) ts → AllShuts (styled low high f us) ts
styled_shuts low high bare us at ts f m q h = by_things at (segment_parts (between low high us)) ts h
styled_shuts low high (grown s held after) us at ts f m q h =
    let mid : ℕ = s.from + s.open_w in
    let end : ℕ = s.to - s.close_w in
    let within = fill_le mid end held f.1 in
    let past = fill_le s.to high after f.3 in
    let to_mid : s.from ≤ mid = omega arith in
    let to_end : s.from ≤ s.to = omega (arith, within, f.2) in
    let all_high : s.from ≤ high = omega (arith, to_end, past) in
    let mid_high : mid ≤ high = omega (arith, within, past) in
    let end_to : end ≤ s.to = omega arith in
    let end_high : end ≤ high = omega (arith, past) in
    let pa : List Part = segment_parts (between low s.from us) in
    let po : List Part = segment_parts (between s.from mid us) in
    let pi : List Part = segment_parts (between mid end us) in
    let pc : List Part = segment_parts (between end s.to us) in
    let pr : List Part = segment_parts (between s.to high us) in
    let wa : ℕ = parts_width pa in
    let wo : ℕ = parts_width po in
    let wi : ℕ = parts_width pi in
    let e1 : segment_parts (between low high us) ≡ pa ++ segment_parts (between s.from high us) = parts_cut low s.from high us f.0 all_high in
    let e2 : segment_parts (between s.from high us) ≡ po ++ segment_parts (between mid high us) = parts_cut s.from mid high us to_mid mid_high in
    let e3 : segment_parts (between mid high us) ≡ pi ++ segment_parts (between end high us) = parts_cut mid end high us within end_high in
    let e4 : segment_parts (between end high us) ≡ pc ++ pr = parts_cut end s.to high us end_to past in
    let c1 = things_cut at pa (segment_parts (between s.from high us)) ts (subst (λ (ps : List Part). HaveThings at ps ts) e1 h) in
    let c2 = things_cut (at + wa) po (segment_parts (between mid high us)) c1.later (subst (λ (ps : List Part). HaveThings (at + wa) ps c1.later) e2 c1.rest) in
    let c3 = things_cut (at + wa + wo) pi (segment_parts (between end high us)) c2.later (subst (λ (ps : List Part). HaveThings (at + wa + wo) ps c2.later) e3 c2.rest) in
    let c4 = things_cut (at + wa + wo + wi) pc pr c3.later (subst (λ (ps : List Part). HaveThings (at + wa + wo + wi) ps c3.later) e4 c3.rest) in
    let none_o : c2.first ≡ [] = quotes_none (between s.from mid us) (at + wa) c2.first m.0 (quotes_between s.from mid us q) c2.own in
    let none_c : c4.first ≡ [] = quotes_none (between end s.to us) (at + wa + wo + wi) c4.first m.1 (quotes_between end s.to us q) c4.own in
    let ps : List Part = styled mid end held us in
    let qs : List Part = styled s.to high after us in
    let inside = styled_shuts mid end held us (at + wa + wo) c3.first f.1 m.2 q c3.own in
    let behind = styled_shuts s.to high after us (at + wa + wo + wi + parts_width pc) c4.later f.3 m.3 q c4.rest in
    let u : ItemTree = style_node s ps us in
    let style : Shuts u c3.first = style_shuts s.bold (segment_items (between s.from mid us)) (segment_items (between end s.to us)) ps c3.first inside in
    let own : AllShuts (node u ∷ qs) (c3.first ++ c4.later) = (c3.first, c4.later, refl, style, behind) in
    let all : AllShuts (pa ++ (node u ∷ qs)) (c1.first ++ (c3.first ++ c4.later)) =
    shuts_both pa (node u ∷ qs) c1.first (c3.first ++ c4.later) (by_things at pa c1.first c1.own) own in
    let is : ts ≡ c1.first ++ (c3.first ++ c4.later) =
    c1.is
    ∙ ap (λ (os : List Thing). c1.first ++ os)
    (c2.is ∙ ap (λ (os : List Thing). os ++ c2.later) none_o ∙ c3.is ∙ ap (λ (os : List Thing). c3.first ++ os) (c4.is ∙ ap (λ (os : List Thing). os ++ c4.later) none_c)) in
    subst (AllShuts (pa ++ (node u ∷ qs))) (sym is) all

-- ---- lines

line_shuts : (at : ℕ) (xs : List Item) → AreFlatTiles (tiles in_line xs) → AreNodes (line_signs at xs) → AllShuts (line_parts xs) (things (line_signs at xs))
line_shuts at xs f n =
    let us : List Segment = segments context_parts in_line xs in
    subst (λ (ps : List Part). AllShuts ps (things (line_signs at xs))) (sym (line_is xs))
    (styled_shuts 0 (length us) (forest_of (style_tree_of (chunks us))) us at (things (line_signs at xs)) (line_fill us) (all_marked us) (line_quotes xs)
    (line_things at xs f n))

lines_shuts : (at : ℕ) (ls : List (List Item)) → AreFlatLines ls → AreNodes (signs_of_lines at ls) → AllShuts (joined_parts ls) (things (signs_of_lines at ls))
lines_shuts at [] f n = refl
lines_shuts at (xs ∷ []) f n =
    subst (λ (ps : List Part). AllShuts ps (things (line_signs at xs))) (sym (append-nil (line_parts xs))) (line_shuts at xs f.1 n)
lines_shuts at (xs ∷ ys ∷ ls) f n =
    let m : ℕ = length (sources xs) in
    let more : List ContentSign = letter 10 ∷ signs_of_lines (at + m + 1) (ys ∷ ls) in
    let split = nodes_parts (line_signs at xs) more n in
    subst (AllShuts (joined_parts (xs ∷ ys ∷ ls))) (sym (things_append (line_signs at xs) more))
    (shuts_both (line_parts xs) (loose Text None 10 ∷ joined_parts (ys ∷ ls)) (things (line_signs at xs)) (things more) (line_shuts at xs f.1 split.0)
    (lines_shuts (at + m + 1) (ys ∷ ls) f.2 split.1))

-- ---- a content

own_shut : (k : TextBlock) (q : List ℕ) → AreFlatLines (lines_in k q) → any_ends_open (children_of (standing 0 [] (block_tree k q))) ≡ false
    → AreShut (signs_in k q)
own_shut k q f e =
    let ls : List (List Item) = lines_in k q in
    let at : ℕ = begins_at k in
    let ps : List Part = joined_parts ls in
    let same : any_ends_open (children_of (standing 0 [] (block_tree k q))) ≡ any_ends_open (nodes_of (0 + 1) ([] ++ open_items k) (forest (children ps))) =
    ap (λ (t : ItemTree). any_ends_open (children_of (standing 0 [] t))) (parts_are k q ∙ ap (with_parts k) (lines_are k q))
    ∙ ap any_ends_open (its_children (block_of k) 0 [] (open_items k) (close_items k) ps) in
    are_shut (signs_of_lines at ls)
    (parts_shut ps (0 + 1) ([] ++ open_items k) (things (signs_of_lines at ls)) (lines_shuts at ls f (flat_nodes ls at (signs_of_lines at ls) f refl)) (sym same ∙ e))

inside_is : (t : Tree) → nodes_in t ≡ children_of t
inside_is (tree l ts) = refl

-- of some page
nowhere : Expanded
nowhere = record { items = []; outer = []; text_calls = [] }

pub content_shut : (k : TextBlock) (q : List ℕ) → IsContent k q → AreFlatLines (lines_in k q) → AreShut (signs_in k q)
content_shut k q h f =
    let t : Tree = standing 0 [] (block_tree k q) in
    own_shut k q f (ap any_ends_open (sym (inside_is t)) ∙ (h.untangled nowhere t refl).0)

pub content_styled : (k : TextBlock) (q : List ℕ) → IsContent k q → CallsNothing (block_items k q) → AreHeldLines (lines_in k q)
    → AreKept (signs_in k q) → AreUtf8Nodes (signs_in k q) → IsStyledIn k q
content_styled k q h none held kept utf8 =
    let flat : AreFlatLines (lines_in k q) = content_flat k q h.is held kept in
    record {
      utf8 = h.utf8;
      ended = h.ended;
      unended = h.unended;
      is = h.is;
      calls_nothing = none;
      has_items = h.has_items;
      flat = flat;
      kept = kept;
      nodes_utf8 = utf8;
      shut = content_shut k q h flat;
    }
