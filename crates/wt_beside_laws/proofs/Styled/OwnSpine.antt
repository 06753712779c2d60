-- The nodes and line breaks of a block of the page, by its tree, are those of its lines.
use Rattle.std.proofs.Common.{arith, ◌≡◌, ℕ, ◌+◌, ◌<◌, ◌==◌, Bool, true, false, Option, Some, None, List, [], ◌∷◌, ◌++◌, length, map, refl, sym, ap, ◌∙◌, subst, append-nil}
use Rattle.std.specs.Prelude.{◌||◌, if◌then◌else◌}
use Rattle.std.specs.List.{flat_map}
use Rattle.wt_span.specs.Items.{Item, sources}
use Rattle.wt_span.specs.Runs.{runs, IsRun, AreRuns}
use Rattle.wt_span.proofs.RunLaws.{runs_are}
use Rattle.wt_tree.specs.declared.edit_shape.InlineForm.{InlineForm}
use Rattle.wt_tree.specs.declared.edit_shape.InlineForm.TheVariants as inline
use Rattle.wt_tree.specs.EditShapes.{edit_shape}
use Rattle.wt_tree.specs.Source.{flat}
use Rattle.wt_tree.specs.Tiling.{HasNoGroup}
use Rattle.wt_tree.specs.Tree.{Label, Tree, tree, Trees, none, more, label}
use Rattle.wt_guards.specs.Content.{ContentSign, Thing, letter, thing}
use Rattle.wt_content.specs.Content.{has_break}
use Rattle.wt_inline.specs.declared.loose.Loose.{Loose}
use Rattle.wt_inline.specs.declared.loose.Loose.TheVariants.{Text, Sep}
use Rattle.wt_inline.specs.Carried.{shown_item}
use Rattle.wt_inline.specs.ItemTree.{ItemTree, forest, tree_items}
use Rattle.wt_inline.specs.Parts.{Part, loose, node, held_parts, one_leaf, loose_leaf, child, children}
use Rattle.wt_annotated.specs.Labels.{label_at}
use Rattle.wt_annotated.specs.Numbering.{count}
use Rattle.wt_annotated.specs.WithoutCalls.{placed}
use Rattle.wt_part_laws.specs.Standing.{standing}
use Rattle.wt_part_laws.proofs.Sources.{standing_source}
use Rattle.wt_original.specs.Kept.{Kept, items, visible, found_from, found_in, kept_nodes, kept_with}
use Rattle.wt_original.specs.Page.{Page}
use Rattle.wt_link_spelling.specs.Spelling.{kept_thing, children_of}
use Rattle.wt_context.specs.Line.{line_parts}
use Rattle.wt_context.proofs.PlainNodes.{IsText}
use Rattle.wt_typed_blocks.specs.Sent.{Block}
use Rattle.wt_text_edit_laws.specs.ParagraphParts.{joined_parts}
use Rattle.wt_text_edit_laws.specs.TextBlocks.{TextBlock}
use Rattle.wt_beside_laws.specs.FlatBlocks.{lines_in, begins_at, signs_in as signs_of}
use Rattle.wt_beside_laws.specs.InHeadings.{AreOnOneLine}
use Rattle.wt_beside_laws.specs.Nodes.{AreNodes}
use Rattle.wt_beside_laws.specs.OpenTags.{sign_on, spine, EndTags}
use Rattle.wt_beside_laws.specs.PageBlocks.{IsBlockOfLines, AreSoIn}
use Rattle.wt_beside_laws.specs.PageSigns.{line_signs, signs_of_lines, AreFlatLines}
use Rattle.wt_beside_laws.specs.SentStyled.{NestsBy, Nests, AllNest, ShowsBy, Shows, AllShow}
use Rattle.wt_beside_laws.specs.Stood.{things}
use Rattle.wt_beside_laws.specs.StyledBlocks.{numbers_by, numbers_of, all_numbers, found_thing, things_with}
use Rattle.wt_beside_laws.specs.StyledIn.{IsStyledIn}
use Rattle.wt_beside_laws.proofs.BlockNumbers.{block_counts}
use Rattle.wt_beside_laws.proofs.BlockSigns.{block_by, its_children, no_leaf, inside}
use Rattle.wt_beside_laws.proofs.LinesClosed.{stood_stay}
use Rattle.wt_beside_laws.proofs.TagEnds.{all_end_so}
use Rattle.wt_beside_laws.proofs.LinesOpen.{StayOnLines}
use Rattle.wt_beside_laws.proofs.LineThings.{nodes_parts}
use Rattle.wt_beside_laws.proofs.Made.OldBlocks.{IsIn, block_begins}
use Rattle.wt_beside_laws.proofs.OwnSigns.{Every, every_left, every_right, Finds, all_found}
use Rattle.wt_beside_laws.proofs.PageSigns.{flat_nodes, line_on_one, lines_stood, lines_untagged}
use Rattle.wt_beside_laws.proofs.PartThings.{tree_source, parts_width, loose_width, leaf_source, nodes_of}
use Rattle.wt_beside_laws.proofs.SentNodes.{things_append}
use Rattle.wt_beside_laws.proofs.Styled.BlockNodes.{IsFound, HaveFound, so_parts, with_append}
use Rattle.wt_beside_laws.proofs.Styled.BlockStyles.{line_found}
use Rattle.wt_beside_laws.proofs.Styled.OldStyled.{styled_of_lines}
use Rattle.wt_beside_laws.proofs.Styled.OwnNests.{MayBe, IsNoText, AreOnLine, line_on, own_nests}
use Rattle.wt_beside_laws.proofs.Styled.SentFaults.{or_both, text_unbroken}

-- ---- by the tree

-- where the lines of a text end
abbrev pub breaks : List ℕ → List (Option Thing) → List (Option Thing)
breaks [] rest = rest
breaks (b ∷ bs) rest = if b == 10 then None ∷ breaks bs rest else breaks bs rest

-- the page's node with a number
abbrev pub found_on : Option Kept → List (Option Thing) → List (Option Thing)
found_on None rest = rest
found_on (Some k) rest = sign_on (kept_thing k) rest

abbrev pub spine_on : InlineForm → Option Kept → List ℕ → (List (Option Thing) → List (Option Thing)) → List (Option Thing) → List (Option Thing)
spine_on inline.Nothing k shown held rest = rest
spine_on inline.Characters k shown held rest = breaks shown rest
spine_on inline.Bold k shown held rest = held rest
spine_on inline.Italic k shown held rest = held rest
spine_on inline.Shown k shown held rest = found_on k rest
spine_on inline.PageLink k shown held rest = found_on k rest
spine_on inline.ExternalLink k shown held rest = found_on k rest
spine_on inline.Tag k shown held rest = found_on k rest
spine_on inline.Break k shown held rest = found_on k rest
spine_on inline.AsItStood k shown held rest = found_on k rest

abbrev mutual
  pub tree_spine : List Kept → Tree → List (Option Thing) → List (Option Thing)
  tree_spine ks (tree l ts) rest = spine_on (edit_shape l.kind).inline (kept_with l.id ks) l.shown (λ os. all_spine ks ts os) rest

  pub all_spine : List Kept → Trees → List (Option Thing) → List (Option Thing)
  all_spine ks none rest = rest
  all_spine ks (more t us) rest = tree_spine ks t (all_spine ks us rest)

-- ---- of nodes

abbrev spined : List Thing → List (Option Thing) → List (Option Thing)
spined [] rest = rest
spined (t ∷ ts) rest = sign_on (thing t) (spined ts rest)

spined_append : (xs ys : List Thing) (rest : List (Option Thing)) → spined (xs ++ ys) rest ≡ spined xs (spined ys rest)
spined_append [] ys rest = refl
spined_append (x ∷ xs) ys rest = ap (sign_on (thing x)) (spined_append xs ys rest)

found_spined : (o : Option Kept) (rest : List (Option Thing)) → found_on o rest ≡ spined (found_thing o) rest
found_spined None rest = refl
found_spined (Some k) rest = refl

one_found : (ks : List Kept) (n : ℕ) (rest : List (Option Thing)) → found_on (kept_with n ks) rest ≡ spined (things_with ks (n ∷ [])) rest
one_found ks n rest = found_spined (kept_with n ks) rest ∙ ap (λ (ts : List Thing). spined ts rest) (sym (append-nil (found_thing (kept_with n ks))))

-- a text on one line
no_breaks : (bs : List ℕ) (rest : List (Option Thing)) → has_break bs ≡ false → breaks bs rest ≡ rest
no_breaks [] rest h = refl
no_breaks (b ∷ bs) rest h =
    let r = or_both (b == 10) (has_break bs) h in
    ap (λ (v : Bool). if v then None ∷ breaks bs rest else breaks bs rest) r.0 ∙ no_breaks bs rest r.1

or_true : (b : Bool) → (b || true) ≡ true
or_true true = refl
or_true false = refl

-- ---- in a style

form_spine : (f : InlineForm) (p : Page) (ks : List Kept) (l : Label) (ts : Trees) (ns : List ℕ) (held : List (Option Thing) → List (Option Thing))
    (bold italic : Bool) (rest : List (Option Thing)) → MayBe f bold italic
    → ((b i : Bool) → (b || i) ≡ true → AllNest b i ts → AllShow p ts → held rest ≡ spined (things_with ks ns) rest) → NestsBy f bold italic l (λ b i. AllNest b i ts)
    → ShowsBy f p l ts (AllShow p ts) → spine_on f (kept_with l.id ks) l.shown held rest ≡ spined (things_with ks (numbers_by f l.id ns)) rest
form_spine inline.Nothing p ks l ts ns held bold italic rest m g n s = refl
form_spine inline.Characters p ks l ts ns held bold italic rest m g n s = no_breaks l.shown rest (text_unbroken l.shown s.1 (n m))
form_spine inline.Bold p ks l ts ns held bold italic rest m g n s = g true italic refl n.1 s.2
form_spine inline.Italic p ks l ts ns held bold italic rest m g n s = g bold true (or_true bold) n.1 s.2
form_spine inline.Shown p ks l ts ns held bold italic rest m g n s = one_found ks l.id rest
form_spine inline.PageLink p ks l ts ns held bold italic rest m g n s = one_found ks l.id rest
form_spine inline.ExternalLink p ks l ts ns held bold italic rest m g n s = one_found ks l.id rest
form_spine inline.Tag p ks l ts ns held bold italic rest m g n s = one_found ks l.id rest
form_spine inline.Break p ks l ts ns held bold italic rest m g n s = one_found ks l.id rest
form_spine inline.AsItStood p ks l ts ns held bold italic rest m g n s = one_found ks l.id rest

may_be : (f : InlineForm) (bold italic : Bool) → (bold || italic) ≡ true → MayBe f bold italic
may_be inline.Nothing bold italic e = tt
may_be inline.Characters bold italic e = e
may_be inline.Bold bold italic e = tt
may_be inline.Italic bold italic e = tt
may_be inline.Shown bold italic e = tt
may_be inline.PageLink bold italic e = tt
may_be inline.ExternalLink bold italic e = tt
may_be inline.Tag bold italic e = tt
may_be inline.Break bold italic e = tt
may_be inline.AsItStood bold italic e = tt

in_style : (us : Trees) (p : Page) (ks : List Kept) (bold italic : Bool) (rest : List (Option Thing)) → (bold || italic) ≡ true → AllNest bold italic us → AllShow p us
    → all_spine ks us rest ≡ spined (things_with ks (all_numbers us)) rest
in_style none p ks bold italic rest e n s = refl
in_style (more (tree l ts) us) p ks bold italic rest e n s =
    let own : List ℕ = numbers_of (tree l ts) in
    form_spine (edit_shape l.kind).inline p ks l ts (all_numbers ts) (λ os. all_spine ks ts os) bold italic (all_spine ks us rest)
    (may_be (edit_shape l.kind).inline bold italic e) (λ b i f m r. in_style ts p ks b i (all_spine ks us rest) f m r) n.0 s.0
    ∙ ap (spined (things_with ks own)) (in_style us p ks bold italic rest e n.1 s.1)
    ∙ sym (spined_append (things_with ks own) (things_with ks (all_numbers us)) rest)
    ∙ ap (λ (os : List Thing). spined os rest) (sym (with_append ks own (all_numbers us)))

node_spine : (t : Tree) (p : Page) (ks : List Kept) (rest : List (Option Thing)) → MayBe (edit_shape (label t).kind).inline false false → Nests false false t
    → Shows p t → tree_spine ks t rest ≡ spined (things_with ks (numbers_of t)) rest
node_spine (tree l ts) p ks rest m n s =
    form_spine (edit_shape l.kind).inline p ks l ts (all_numbers ts) (λ os. all_spine ks ts os) false false rest m
    (λ b i f a r. in_style ts p ks b i rest f a r) n s

-- ---- parts

abbrev HaveSpine : Tree → ℕ → List Part → List (Option Thing) → Type 0
HaveSpine block at [] os = os ≡ []
HaveSpine block at (loose k o b ∷ ps) os =
    IsText k × (vs : List (Option Thing)) × (os ≡ (if b == 10 then None ∷ vs else vs)) × HaveSpine block (at + 1) ps vs
HaveSpine block at (node u ∷ ps) os =
    (us : List Thing) × (vs : List (Option Thing)) × (os ≡ spined us vs) × IsFound at u us × AreSoIn block us × IsNoText u
    × HaveSpine block (at + length (tree_source u)) ps vs

-- those of a line, before others
line_then : (block : Tree) (at : ℕ) (ps qs : List Part) (ts : List Thing) (vs : List (Option Thing)) → HaveFound at ps ts → AreOnLine ps → AreSoIn block ts
    → HaveSpine block (at + parts_width ps) qs vs → HaveSpine block at (ps ++ qs) (spined ts vs)
line_then block at [] qs ts vs h l so r =
    let z : at + 0 ≡ at = omega arith in
    subst (λ (os : List Thing). HaveSpine block at qs (spined os vs)) (sym h) (subst (λ (n : ℕ). HaveSpine block n qs vs) z r)
line_then block at (loose k o b ∷ ps) qs ts vs h l so r =
    let w : ℕ = parts_width ps in
    let z : at + (1 + w) ≡ at + 1 + w = omega arith in (
      h.0,
      spined ts vs,
      ap (λ (v : Bool). if v then None ∷ spined ts vs else spined ts vs) (sym l.0),
      line_then block (at + 1) ps qs ts vs h.1 l.1 so (subst (λ (n : ℕ). HaveSpine block n qs vs) z r),
    )
line_then block at (node u ∷ ps) qs ts vs h l so r =
    let w : ℕ = parts_width ps in
    let m : ℕ = length (tree_source u) in
    let z : at + (m + w) ≡ at + m + w = omega arith in
    let each = so_parts block h.0 h.1 (subst (AreSoIn block) h.2 so) in (
      h.0,
      spined h.1 vs,
      ap (λ (os : List Thing). spined os vs) h.2 ∙ spined_append h.0 h.1 vs,
      h.3,
      each.0,
      l.0,
      line_then block (at + m) ps qs h.1 vs h.4 l.1 each.1 (subst (λ (n : ℕ). HaveSpine block n qs vs) z r),
    )

-- ---- lines

signs_spined : (signs tail : List ContentSign) → AreOnOneLine signs → spine (signs ++ tail) ≡ spined (things signs) (spine tail)
signs_spined [] tail h = refl
signs_spined (letter c ∷ signs) tail h =
    ap (λ (v : Bool). if v then None ∷ spine (signs ++ tail) else spine (signs ++ tail)) h.0 ∙ signs_spined signs tail h.1
signs_spined (thing t ∷ signs) tail h = ap (sign_on (thing t)) (signs_spined signs tail h)

lines_spine : (block : Tree) (at : ℕ) (ls : List (List Item)) → AreFlatLines ls → AreNodes (signs_of_lines at ls) → AreSoIn block (things (signs_of_lines at ls))
    → HaveSpine block at (joined_parts ls) (spine (signs_of_lines at ls))
lines_spine block at [] f n so = refl
lines_spine block at (xs ∷ []) f n so =
    let signs : List ContentSign = line_signs at xs in
    let is : spine signs ≡ spined (things signs) [] =
    ap spine (sym (append-nil signs)) ∙ signs_spined signs [] (line_on_one at xs f.0 f.1) in
    subst (HaveSpine block at (line_parts xs ++ [])) (sym is)
    (line_then block at (line_parts xs) [] (things signs) [] (line_found at xs f.1 n).have (line_on at xs f.0 f.1 n) so refl)
lines_spine block at (xs ∷ ys ∷ ls) f n so =
    let m : ℕ = length (sources xs) in
    let signs : List ContentSign = line_signs at xs in
    let later : List ContentSign = signs_of_lines (at + m + 1) (ys ∷ ls) in
    let nodes = nodes_parts signs (letter 10 ∷ later) n in
    let own = line_found at xs f.1 nodes.0 in
    let w = own.wide in
    let each = so_parts block (things signs) (things later) (subst (AreSoIn block) (things_append signs (letter 10 ∷ later)) so) in
    let rest : HaveSpine block (at + m + 1) (joined_parts (ys ∷ ls)) (spine later) = lines_spine block (at + m + 1) (ys ∷ ls) f.2 nodes.1 each.1 in
    subst (HaveSpine block at (joined_parts (xs ∷ ys ∷ ls))) (sym (signs_spined signs (letter 10 ∷ later) (line_on_one at xs f.0 f.1)))
    (line_then block at (line_parts xs) (loose Text None 10 ∷ joined_parts (ys ∷ ls)) (things signs) (None ∷ spine later) own.have
    (line_on at xs f.0 f.1 nodes.0) each.0
    (tt, spine later, refl, subst (λ (i : ℕ). HaveSpine block (at + i + 1) (joined_parts (ys ∷ ls)) (spine later)) (sym w) rest))

-- ---- the trees of parts

leaf_spine : (k : Loose) (own : List Item) (n : ℕ) (before : List Item) (ks : List Kept) (rest : List (Option Thing)) → IsText k
    → tree_spine ks (standing n before (loose_leaf k own)) rest ≡ breaks (flat_map shown_item own) rest
unfolding label_at
leaf_spine Text own n before ks rest i = refl
leaf_spine Sep own n before ks rest i = absurd i

past_spine : (block : Tree) (k : Loose) (o : Option ℕ) (b at : ℕ) (r others : List Part) (os : List (Option Thing)) → IsRun one_leaf (loose k o b ∷ r) others
    → HaveSpine block at (loose k o b ∷ (r ++ others)) os
    → (vs : List (Option Thing)) × (os ≡ breaks (flat_map shown_item (held_parts (loose k o b ∷ r))) vs)
    × HaveSpine block (at + parts_width (loose k o b ∷ r)) others vs
past_spine block k o b at [] others os run h =
    let z : at + 1 ≡ at + (1 + 0) = omega arith in
    (h.1, h.2, subst (λ (n : ℕ). HaveSpine block n others h.1) z h.3)
past_spine block k o b at (loose j i c ∷ r) others os run h =
    let w : ℕ = parts_width (loose j i c ∷ r) in
    let z : at + 1 + w ≡ at + (1 + w) = omega arith in
    let q = past_spine block j i c (at + 1) r others h.1 run.1 h.3 in
    (q.0, h.2 ∙ ap (λ (vs : List (Option Thing)). if b == 10 then None ∷ vs else vs) q.1, subst (λ (n : ℕ). HaveSpine block n others q.0) z q.2)
past_spine block k o b at (node x ∷ r) others os run h = absurd (let no = run.0 in cc)

runs_spine : (rs : List (List Part)) (ps : List Part) (p : Page) (block : Tree) (at from n : ℕ) (before : List Item) (os : List (Option Thing)) → 0 < n
    → AreRuns one_leaf rs ps → HaveSpine block at ps os → Every (Finds block) (found_in at from (nodes_of n before (forest (map child rs))))
    → AllNest false false (nodes_of n before (forest (map child rs))) → AllShow p (nodes_of n before (forest (map child rs)))
    → all_spine (kept_nodes block) (nodes_of n before (forest (map child rs))) [] ≡ os
runs_spine [] ps p block at from n before os some a h e nest shows = sym (subst (λ (qs : List Part). HaveSpine block at qs os) a h)
runs_spine ([] ∷ rs) ps p block at from n before os some a h e nest shows = absurd a.2
runs_spine ((loose k o b ∷ r) ∷ rs) ps p block at from n before os some a h e nest shows =
    let run : List Part = loose k o b ∷ r in
    let u : ItemTree = child run in
    let t : Tree = standing n before u in
    let m : ℕ = n + count (placed before u) in
    let us : Trees = nodes_of m (before ++ tree_items u) (forest (map child rs)) in
    let own : HaveSpine block at (loose k o b ∷ (r ++ a.0)) os = subst (λ (qs : List Part). HaveSpine block at qs os) a.1 h in
    let q = past_spine block k o b at r a.0 os a.2 own in
    let wide : parts_width run ≡ length (flat t) =
    loose_width k o b r a.0 a.2 ∙ ap length (sym (leaf_source k (held_parts run))) ∙ ap length (sym (standing_source n before u)) in
    leaf_spine k (held_parts run) n before (kept_nodes block) (all_spine (kept_nodes block) us []) own.0
    ∙ ap (breaks (flat_map shown_item (held_parts run)))
    (runs_spine rs a.0 p block (at + length (flat t)) (from + length (visible (items t))) m (before ++ tree_items u) q.0 (omega (arith, some)) a.3
    (subst (λ (w : ℕ). HaveSpine block (at + w) a.0 q.0) wide q.2) (every_right (Finds block) (found_from at from t) _ e) nest.1 shows.1)
    ∙ sym q.1
runs_spine ((node u ∷ []) ∷ rs) ps p block at from n before os some a h e nest shows =
    let t : Tree = standing n before u in
    let m : ℕ = n + count (placed before u) in
    let us : Trees = nodes_of m (before ++ tree_items u) (forest (map child rs)) in
    let ks : List Kept = kept_nodes block in
    let own : HaveSpine block at (node u ∷ a.0) os = subst (λ (qs : List Part). HaveSpine block at qs os) a.1 h in
    let wide : length (tree_source u) ≡ length (flat t) = ap length (sym (standing_source n before u)) in
    node_spine t p ks (all_spine ks us []) (own.5 n before) nest.0 shows.0
    ∙ ap (λ (ts : List Thing). spined ts (all_spine ks us [])) (own.3.found block from n before some own.4 (every_left (Finds block) (found_from at from t) _ e))
    ∙ ap (spined own.0)
    (runs_spine rs a.0 p block (at + length (flat t)) (from + length (visible (items t))) m (before ++ tree_items u) own.1 (omega (arith, some)) a.3
    (subst (λ (w : ℕ). HaveSpine block (at + w) a.0 own.1) wide own.6) (every_right (Finds block) (found_from at from t) _ e) nest.1 shows.1)
    ∙ sym own.2
runs_spine ((node u ∷ q ∷ r) ∷ rs) ps p block at from n before os some a h e nest shows = absurd (let no = a.2.0 in cc)

parts_spine : (ps : List Part) (p : Page) (block : Tree) (at from n : ℕ) (before : List Item) (os : List (Option Thing)) → 0 < n
    → HaveSpine block at ps os → Every (Finds block) (found_in at from (nodes_of n before (forest (children ps))))
    → AllNest false false (nodes_of n before (forest (children ps))) → AllShow p (nodes_of n before (forest (children ps)))
    → all_spine (kept_nodes block) (nodes_of n before (forest (children ps))) [] ≡ os
unfolding children
parts_spine ps p block at from n before os some h e nest shows = runs_spine (runs one_leaf ps) ps p block at from n before os some (runs_are one_leaf ps) h e nest shows

-- ---- the block

block_spine : (k : Block) (p : Page) (n : ℕ) (before opening closing : List Item) (ls : List (List Item)) → 0 < n
    → HasNoGroup (standing n before (block_by k opening (joined_parts ls) closing)) → AreFlatLines ls
    → (let block : Tree = standing n before (block_by k opening (joined_parts ls) closing) in
    AreSoIn block (things (signs_of_lines (length (label block).opening) ls)) × AllNest false false (children_of block) × AllShow p (children_of block))
    → all_spine (kept_nodes (standing n before (block_by k opening (joined_parts ls) closing)))
    (children_of (standing n before (block_by k opening (joined_parts ls) closing))) []
    ≡ spine (signs_of_lines (length (label (standing n before (block_by k opening (joined_parts ls) closing))).opening) ls)
block_spine k p n before opening closing ls some g f h =
    let ps : List Part = joined_parts ls in
    let block : Tree = standing n before (block_by k opening ps closing) in
    let at : ℕ = 0 + length (label block).opening in
    let us : Trees = nodes_of (n + 1) (before ++ opening) (forest (children ps)) in
    let e : children_of block ≡ us = its_children k n before opening closing ps in
    let found : Every (Finds block) (found_in at at (children_of block)) =
    inside (Finds block) block (no_leaf k n before opening closing ps) (all_found block n some (block_counts n before (block_by k opening ps closing) some g)) in
    let z : at ≡ length (label block).opening = omega arith in
    let so : AreSoIn block (things (signs_of_lines at ls)) = subst (λ (i : ℕ). AreSoIn block (things (signs_of_lines i ls))) (sym z) h.0 in
    ap (λ (ts : Trees). all_spine (kept_nodes block) ts []) e
    ∙ parts_spine ps p block at at (n + 1) (before ++ opening) (spine (signs_of_lines at ls)) (omega arith)
    (lines_spine block at ls f (flat_nodes ls at (signs_of_lines at ls) f refl) so) (subst (λ (ts : Trees). Every (Finds block) (found_in at at ts)) e found)
    (subst (AllNest false false) e h.1) (subst (AllShow p) e h.2)
    ∙ ap (λ (i : ℕ). spine (signs_of_lines i ls)) z

lines_of_block : (ls : List (List Item)) (p : Page) (block : Tree) → AreFlatLines ls → IsBlockOfLines ls block → AllNest false false (children_of block)
    → AllShow p (children_of block) → all_spine (kept_nodes block) (children_of block) [] ≡ spine (signs_of_lines (length (label block).opening) ls)
lines_of_block ls p block f b nest shows =
    subst (λ (t : Tree). all_spine (kept_nodes t) (children_of t) [] ≡ spine (signs_of_lines (length (label t).opening) ls)) (sym b.is)
    (block_spine b.form p b.number b.before b.opening b.closing ls b.some (subst HasNoGroup b.is b.ungrouped) f
    (subst (λ (t : Tree). AreSoIn t (things (signs_of_lines (length (label t).opening) ls)) × AllNest false false (children_of t) × AllShow p (children_of t)) b.is
    (b.marks, nest, shows)))

pub own_spine : (k : TextBlock) (q : List ℕ) (p : Page) (block : Tree) → IsStyledIn k q → IsIn k q block → AllShow p (children_of block)
    → all_spine (kept_nodes block) (children_of block) [] ≡ spine (signs_of k q)
own_spine k q p block h i shows =
    lines_of_block (lines_in k q) p block h.flat (styled_of_lines k q block h i) (own_nests k q block h i).0 shows
    ∙ ap (λ (n : ℕ). spine (signs_of_lines n (lines_in k q))) (block_begins k q block i)

-- and a tag that opens a pair and stands there by itself is closed by none of them
pub own_stays : (k : TextBlock) (q : List ℕ) → IsStyledIn k q → EndTags (signs_of k q) → StayOnLines (spine (signs_of k q))
own_stays k q h tags =
    let at : ℕ = begins_at k in
    let ls : List (List Item) = lines_in k q in
    stood_stay false (signs_of k q) (lines_stood at ls h.flat) (lines_untagged at ls h.flat)
    (all_end_so (signs_of k q) (flat_nodes ls at (signs_of k q) h.flat refl) h.shut) tags
