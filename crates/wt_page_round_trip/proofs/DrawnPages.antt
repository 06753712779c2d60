-- The annotated tree of a page with calls is written in its sections, where its tree without groups is shown.
use Rattle.std.proofs.Common.{◌≡◌, ℕ, suc, ◌+◌, ◌<◌, ◌≤◌, ◌^◌, ◌⊎◌, Bool, true, false, Option, None, List, [], ◌++◌, length, refl, sym, ap, ◌∙◌, subst, arith, inl, inr}
use Rattle.std.specs.List.{AllByRecursion, list_all}
use Rattle.std.proofs.lemmas.Str.{IsUtf8-nil}
use Rattle.wt_tree.specs.declared.kind.Kind.{Kind}
use Rattle.wt_tree.specs.declared.kind.Kind.TheVariants as kind
use Rattle.wt_tree.specs.declared.row.Texts.{Texts}
use Rattle.wt_tree.specs.declared.row.Texts.TheVariants.{Separators, Page, Bordered, OwnCharacter}
use Rattle.wt_tree.specs.declared.row.Writing.{Writing}
use Rattle.wt_tree.specs.Kinds.{writing, is_leaf, is_section, may_hold, texts_of_kind, spelling}
use Rattle.wt_tree.specs.Opened.{without_sections}
use Rattle.wt_tree.specs.Elements.{span}
use Rattle.wt_recut.specs.Recut.{is_as_text}
use Rattle.wt_tree.specs.Tiling.{is_group}
use Rattle.wt_tree.specs.Tree.{Label, Tree, tree, Trees, none, more, label, trees}
use Rattle.wt_schema.specs.Rows.{holds_text}
use Rattle.wt_schema.specs.Html.{groups}
use Rattle.wt_span.specs.Cuts.{page_of}
use Rattle.wt_span.specs.Items.{Item, sources}
use Rattle.wt_span.specs.Origins.{OuterCall}
use Rattle.wt_span.specs.Runs.{runs}
use Rattle.wt_span.proofs.RunLaws.{runs_are}
use Rattle.wt_schema.specs.Written.{HasPlaces, is_childless}
use Rattle.wt_inline.specs.ItemTree.{Head, plain, ItemTree, inner, ItemTrees, nothing, further, tree_items, held_by_all}
use Rattle.wt_annotated.specs.Annotated.{kept_label, unplaced, all_unplaced, placed, annotated}
use Rattle.wt_annotated.specs.Clean.{is_page, own_by, is_clean}
use Rattle.wt_annotated.specs.Counted.{numbered_in_all}
use Rattle.wt_annotated.specs.CutTexts.{cut_texts, all_cut_texts}
use Rattle.wt_annotated.specs.GroupData.{group_data}
use Rattle.wt_annotated.specs.Grouped.{Grouped, grouped}
use Rattle.wt_annotated.specs.Labels.{width, if_leaf, if_inner, label_at}
use Rattle.wt_annotated.specs.Numbering.{count, count_all, with_numbers, all_with_numbers}
use Rattle.wt_annotated.specs.Reached.{AreReachedSlices, start_of, size_of}
use Rattle.wt_annotated.specs.Seams.{last_of, first_of, text_from}
use Rattle.wt_annotated.specs.NumbersNeeded.{numbers_needed}
use Rattle.wt_annotated.specs.Walked.{clean_at, Near, near_tied, near_nodes, near_runs, walked, near}
use Rattle.wt_annotated.specs.WithoutCalls.{inside_by}
use Rattle.wt_annotated.proofs.CutNumbered.{cut_numbered}
use Rattle.wt_annotated.proofs.CutPlaced.{placed_bare}
use Rattle.wt_annotated.proofs.Ends.{start_is, size_is, stand, body_clean}
use Rattle.wt_annotated.proofs.Slices.{slices}
use Rattle.wt_annotated.proofs.Walks.{walk_all}
use Rattle.wt_sections.specs.Gathering.{heading_count}
use Rattle.wt_sections.specs.Sections.{opens, with_sections}
use Rattle.wt_sections.specs.SectionLaws.{NoneIsSection}
use Rattle.wt_sections.proofs.Opened.{gathered_opened}
use Rattle.wt_page_round_trip.specs.GroupTexts.{ArePageCalls, AllHoldTexts}
use Rattle.wt_page_round_trip.proofs.LabelledGroups.{IfGroup, OfGroups, IsAlmost, annotated_almost}
use Rattle.wt_page_round_trip.proofs.OwnNodes.{is_own, AreOwn, HasOrigin, IsParted, AreParted}
use Rattle.wt_page_round_trip.proofs.ShownNodes.{IsShownLabel, NodeIsShown, IsOrdered, IsShownIn, AreShownIn}
use Rattle.wt_page_round_trip.proofs.Shown.{none_group}
use Rattle.wt_page_round_trip.proofs.DrawnTrees.{NodeIsDrawn, IsInOrder, IsDrawnGroup, IsDrawnIn, AreDrawnIn, element_numbered, all_numbered_uncut}
use Rattle.wt_page_round_trip.proofs.CutDrawn.{all_uncut_written}
use Rattle.wt_page_round_trip.proofs.KeptNodes.{clean_own, leaf_source, opening_source, closing_source, label_of, kept_drawn, own_clean, own_free, span_held}
use Rattle.wt_page_round_trip.proofs.GroupCounts.{few_groups}
use Rattle.wt_page_round_trip.proofs.NumbersFew.{children_light, nodes_light}
use Rattle.wt_page_round_trip.proofs.SectionGroups.{groups_stay}
use Rattle.wt_page_round_trip.proofs.Sectioned.{IsWrittenBody, headings_few, headings_numbered}
use Rattle.wt_page_round_trip.proofs.DrawnRuns.{kind_of, IsNear, IsFree, MayGroup, runs_drawn, order_drawn}

-- ---- a kept node

-- the mark of an empty call isn't kept
not_empty : (k : Kind) (opening : List Item) (ts : ItemTrees) (closing : List Item) → HasOrigin k opening ts closing
    → list_all is_page (own_by (is_leaf k) opening (held_by_all ts) closing) ≡ true → k ≡ kind.Empty → ⊥
not_empty k opening ts closing n e f =
    let n2 : list_all is_page (opening ++ (held_by_all ts ++ closing)) ≡ false = subst (λ (x : Kind). HasOrigin x opening ts closing) f n in
    let e2 : list_all is_page (opening ++ (held_by_all ts ++ closing)) ≡ true =
    subst (λ (x : Kind). list_all is_page (own_by (is_leaf x) opening (held_by_all ts) closing) ≡ true) f e in
    absurd (let g : false ≡ true = sym n2 ∙ e2 in cc)

-- the same node with the sources that stand on the page
with_sources : (w : Writing) (k : ℕ) (q : Kind) (h : Head) (childless : Bool) (inside : Type 0) (a b c d e f : List ℕ) → a ≡ d → b ≡ e → c ≡ f
    → NodeIsShown w k q (label_of h None a b c) childless inside → NodeIsShown w k q (label_of h None d e f) childless inside
with_sources w k q h childless inside a b c d e f x y z n =
    subst (λ v. NodeIsShown w k q (label_of h None d e v) childless inside) z
    (subst (λ v. NodeIsShown w k q (label_of h None d v c) childless inside) y
    (subst (λ v. NodeIsShown w k q (label_of h None v b c) childless inside) x n))

-- what stands in a node that is a leaf or isn't
abbrev Shows : Texts → ℕ → Kind → Trees → Type 0
Shows x k q us = IsOrdered x us × AreShownIn k q us

abbrev Draws : Texts → ℕ → Kind → Trees → Type 0
Draws x k q us = IsInOrder x us × AreDrawnIn k q us

order_none : (x : Texts) → IsInOrder x none
order_none Separators = tt
order_none Page = tt
order_none Bordered = refl
order_none OwnCharacter = tt

inside_leaf : (leaf : Bool) (x : Texts) (k : ℕ) (q : Kind) (us vs : Trees) → (leaf ≡ false → Shows x (suc k) q us → Draws x k q vs)
    → Shows x (suc k) q (inside_by leaf us) → Draws x k q (inside_by leaf vs)
inside_leaf true x k q us vs f h = (order_none x, tt)
inside_leaf false x k q us vs f h = f refl h

childless_leaf : (leaf : Bool) (us vs : Trees) → (is_childless us ≡ true → is_childless vs ≡ true) → is_childless (inside_by leaf us) ≡ true
    → is_childless (inside_by leaf vs) ≡ true
childless_leaf true us vs f e = refl
childless_leaf false us vs f e = f e

node_drawn : (calls : List OuterCall) (k : ℕ) (q : Kind) (o : Option ℕ) (at : ℕ) (p : Option ℕ) (h : Head) (opening : List Item) (ts : ItemTrees)
    (closing : List Item) (vs : Trees) → clean_at o p (inner h opening ts closing) ≡ true → HasOrigin h.kind opening ts closing
    → (is_childless (all_unplaced ts) ≡ true → is_childless vs ≡ true)
    → (suc k < 200 → is_leaf h.kind ≡ false → Shows (texts_of_kind h.kind) (suc (suc k)) h.kind (all_unplaced ts)
    → Draws (texts_of_kind h.kind) (suc k) h.kind vs)
    → IsShownIn (suc k) q (unplaced (inner h opening ts closing))
    → IsDrawnIn k q (tree (kept_label (is_leaf h.kind) h at (text_from calls o (opening ++ (held_by_all ts ++ closing))) (text_from calls o opening)
    (text_from calls (last_of (last_of o opening) (held_by_all ts)) closing)) (inside_by (is_leaf h.kind) vs))
unfolding label_at
node_drawn calls k q o at p h opening ts closing vs e n c f s =
    let leaf : Bool = is_leaf h.kind in
    let own : list_all is_page (own_by leaf opening (held_by_all ts) closing) ≡ true = clean_own o p h opening ts closing e in
    let l : Label = kept_label leaf h at (text_from calls o (opening ++ (held_by_all ts ++ closing))) (text_from calls o opening)
    (text_from calls (last_of (last_of o opening) (held_by_all ts)) closing) in
    let us : Trees = inside_by leaf (all_unplaced ts) in
    let ws : Trees = inside_by leaf vs in
    let x : Texts = texts_of_kind h.kind in
    let d : NodeIsDrawn (writing h.kind) k q l (is_childless ws) (Draws x (suc k) h.kind ws) =
    kept_drawn (writing h.kind) k q h l.ranges l.opening l.closing l.own (is_childless us) (is_childless ws) (Shows x (suc (suc k)) h.kind us)
    (Draws x (suc k) h.kind ws) (not_empty h.kind opening ts closing n own) (childless_leaf leaf (all_unplaced ts) vs c)
    (λ small. inside_leaf leaf x (suc k) h.kind (all_unplaced ts) vs (f small))
    (with_sources (writing h.kind) (suc k) q h (is_childless us) (Shows x (suc (suc k)) h.kind us)
    (if_inner leaf (sources opening)) (if_inner leaf (sources closing)) (if_leaf leaf (sources (opening ++ (held_by_all ts ++ closing))))
    l.opening l.closing l.own
    (opening_source leaf calls o opening (held_by_all ts) closing own)
    (closing_source leaf calls (last_of (last_of o opening) (held_by_all ts)) opening (held_by_all ts) closing own)
    (leaf_source leaf calls o opening (held_by_all ts) closing own) s) in
    subst (λ (g : Bool). IfGroup g (IsDrawnGroup k q ws) (NodeIsDrawn (writing h.kind) k q l (is_childless ws) (Draws x (suc k) h.kind ws)))
    (sym (none_group (suc k) q (label (unplaced (inner h opening ts closing))) us s)) d

-- ---- children

near_nodes_are : (calls : List OuterCall) (o : Option ℕ) (at : ℕ) (p : Option ℕ) (ts : ItemTrees)
    → near_nodes (near calls (group_data calls) o at p ts) ≡ ts
near_nodes_are calls o at p nothing = refl
near_nodes_are calls o at p (further t ts) =
    ap (further t) (near_nodes_are calls (last_of o (tree_items t)) (at + length (text_from calls o (tree_items t))) p ts)

walked_kind : (calls : List OuterCall) (o : Option ℕ) (at : ℕ) (p : Option ℕ) (t : ItemTree)
    → (label (walked calls (group_data calls) o at p t)).kind ≡ kind_of t
walked_kind calls o at p (inner h opening ts closing) = refl

leaf_text : (k : Kind) → is_as_text (writing k) ≡ true → is_leaf k ≡ true
leaf_text kind.Text e = refl
leaf_text kind.Sep e = refl
leaf_text k e = absurd cc

text_own : (o p : Option ℕ) (t : ItemTree) → clean_at o p t ≡ true → is_as_text (writing (kind_of t)) ≡ true → is_own t ≡ true
text_own o p (inner h opening ts closing) e f =
    ap (λ v. list_all is_page (own_by v opening (held_by_all ts) closing)) (sym (leaf_text h.kind f)) ∙ clean_own o p h opening ts closing e

own_nears : (calls : List OuterCall) (o : Option ℕ) (at : ℕ) (p : Option ℕ) (ts : ItemTrees) → AreOwn ts
    → AllByRecursion IsFree (near calls (group_data calls) o at p ts)
own_nears calls o at p nothing h = tt
own_nears calls o at p (further t ts) h = (
  (own_clean o (first_of (held_by_all ts) p) t h.0 h.1, own_free o (first_of (held_by_all ts) p) t h.0 h.1),
  own_nears calls (last_of o (tree_items t)) (at + length (text_from calls o (tree_items t))) p ts h.2,
)

-- in which nodes there may be groups, and in which there are none
may_group : (k : Kind) (opening : List Item) (ts : ItemTrees) (closing : List Item) (cs : List Near) → is_leaf k ≡ false → HasOrigin k opening ts closing
    → list_all is_page (own_by (is_leaf k) opening (held_by_all ts) closing) ≡ true → (AreOwn ts → AllByRecursion IsFree cs) → MayGroup k cs
may_group k opening ts closing cs leaf n e f = by_span (span_held k)
  where
    by_span : (k ≡ kind.Nowiki) ⊎ (is_leaf k ≡ false → holds_text k ≡ true → may_hold k span.kind ≡ true) → MayGroup k cs
    by_span (inr g) = inl (g leaf)
    by_span (inl g) =
        let n2 : list_all is_page (opening ++ closing) ≡ true → AreOwn ts = subst (λ (x : Kind). HasOrigin x opening ts closing) g n in
        inr (f (n2 (ap (λ v. list_all is_page (own_by v opening (held_by_all ts) closing)) (sym leaf) ∙ e)))

childless_runs : (calls : List OuterCall) (o : Option ℕ) (at : ℕ) (p : Option ℕ) (ts : ItemTrees) → is_childless (all_unplaced ts) ≡ true
    → is_childless (trees (near_runs calls (group_data calls) (near calls (group_data calls) o at p ts))) ≡ true
childless_runs calls o at p nothing e = refl
childless_runs calls o at p (further t ts) e = absurd cc

mutual
  walked_drawn : (calls : List OuterCall) (k : ℕ) (q : Kind) (o : Option ℕ) (at : ℕ) (p : Option ℕ) (t : ItemTree) → clean_at o p t ≡ true
      → IsShownIn (suc k) q (unplaced t) → IsParted t → IsDrawnIn k q (walked calls (group_data calls) o at p t)
  walked_drawn calls k q o at p (inner h opening ts closing) e s n =
      let place : ℕ = at + length (text_from calls o opening) in
      let ns : List Near = near calls (group_data calls) (last_of o opening) place (first_of closing p) ts in
      node_drawn calls k q o at p h opening ts closing (trees (near_runs calls (group_data calls) ns)) e n.0
      (childless_runs calls (last_of o opening) place (first_of closing p) ts)
      (λ small leaf i.
      let good : AllByRecursion (IsNear (suc k) h.kind) ns = nears_drawn calls (suc k) h.kind (last_of o opening) place (first_of closing p) ts i.1 n.1 in
      let same : near_nodes ns ≡ ts = near_nodes_are calls (last_of o opening) place (first_of closing p) ts in
      let may : MayGroup h.kind ns = may_group h.kind opening ts closing ns leaf n.0 (clean_own o p h opening ts closing e)
      (own_nears calls (last_of o opening) place (first_of closing p) ts) in (
        order_drawn (texts_of_kind h.kind) calls (suc k) h.kind (runs near_tied ns) ns (runs_are near_tied ns) good
            (subst (λ (us : ItemTrees). IsOrdered (texts_of_kind h.kind) (all_unplaced us)) (sym same) i.0),
        runs_drawn calls (suc k) h.kind (runs near_tied ns) ns (runs_are near_tied ns) small may good (subst AreParted (sym same) n.1),
      )) s

  nears_drawn : (calls : List OuterCall) (k : ℕ) (q : Kind) (o : Option ℕ) (at : ℕ) (p : Option ℕ) (ts : ItemTrees) → AreShownIn (suc k) q (all_unplaced ts)
      → AreParted ts → AllByRecursion (IsNear k q) (near calls (group_data calls) o at p ts)
  nears_drawn calls k q o at p nothing s n = tt
  nears_drawn calls k q o at p (further t ts) s n = (
    record {
      shown = s.0;
      kind = walked_kind calls o at (first_of (held_by_all ts) p) t;
      drawn = λ e. walked_drawn calls k q o at (first_of (held_by_all ts) p) t e s.0 n.0;
      own = λ e f. text_own o (first_of (held_by_all ts) p) t e f;
    },
    nears_drawn calls k q (last_of o (tree_items t)) (at + length (text_from calls o (tree_items t))) p ts s.1 n.2,
  )

-- ---- the page

abbrev body_of : ItemTrees → ItemTree
body_of ts = inner (plain kind.Body) [] ts []

placed_slices : (calls : List OuterCall) (t : ItemTree) → is_clean (tree_items t) 0 t ≡ true
    → AreReachedSlices (page_of calls (tree_items t)) (placed calls (group_data calls) (tree_items t) (grouped (tree_items t) 0 t))
placed_slices calls t q =
    let g : Grouped = grouped (tree_items t) 0 t in
    let w : start_of g + size_of g ≤ length (tree_items t) = omega (arith, start_is (tree_items t) 0 t, size_is (tree_items t) 0 t) in
    slices calls (group_data calls) (tree_items t) g (stand (tree_items t) 0 t q).0 w

-- the body as the walk makes it, without numbers
abbrev walked_body : List OuterCall → ItemTrees → Tree
walked_body calls ts = walked calls (group_data calls) None 0 None (body_of ts)

body_label : (at : ℕ) (source : List ℕ) → IsShownLabel (kept_label false (plain kind.Body) at source [] [])
unfolding spelling
body_label at source = record {
  element = refl;
  level = refl;
  source = record { own = refl; opening = IsUtf8-nil; closing = IsUtf8-nil };
  shown = refl;
  attrs = refl;
  origin = refl;
  mark = refl;
  mw = refl;
}

-- ---- the whole body

headings_cut : (ts : Trees) → heading_count (all_cut_texts ts) ≡ heading_count ts
headings_cut none = refl
headings_cut (more (tree l us) ts) = ap (λ k. opens (spelling l.kind).level + k) (headings_cut ts)

drawn_body : (calls : List OuterCall) (ts : ItemTrees) → AreShownIn 9 kind.Body (all_unplaced ts) → AreParted ts
    → AreDrawnIn 8 kind.Body (trees (near_runs calls (group_data calls) (near calls (group_data calls) None 0 None ts)))
drawn_body calls ts shown n =
    let ns : List Near = near calls (group_data calls) None 0 None ts in
    let good : AllByRecursion (IsNear 8 kind.Body) ns = nears_drawn calls 8 kind.Body None 0 None ts shown n in
    let same : near_nodes ns ≡ ts = near_nodes_are calls None 0 None ts in
    runs_drawn calls 8 kind.Body (runs near_tied ns) ns (runs_are near_tied ns) (omega arith) (inl (λ e. absurd cc)) good (subst AreParted (sym same) n)

whole_body : (page : List ℕ) (calls : List OuterCall) (ts : ItemTrees) → length page < 2 ^ 32 → AreReachedSlices page (walked_body calls ts)
    → OfGroups IsAlmost (walked_body calls ts) → 1 + count (walked_body calls ts) ≤ 2 ^ 32 → AreShownIn 9 kind.Body (all_unplaced ts) → AreParted ts
    → IsWrittenBody (cut_texts (with_numbers 1 (walked_body calls ts)))
whole_body page calls ts room s almost few shown n =
    let ns : List Near = near calls (group_data calls) None 0 None ts in
    let vs : Trees = trees (near_runs calls (group_data calls) ns) in
    let drawn : AreDrawnIn 8 kind.Body vs = drawn_body calls ts shown n in
    let cut : heading_count (all_cut_texts (all_with_numbers 1 vs)) ≡ heading_count vs =
    headings_cut (all_with_numbers 1 vs) ∙ headings_numbered 1 vs in
    let headings : heading_count vs ≤ count_all vs = headings_few vs in (
      refl,
      element_numbered 0 (label (walked_body calls ts)) (body_label 0 (text_from calls None (held_by_all ts ++ []))) refl (body_places page calls ts room s),
      all_uncut_written 8 kind.Body (all_with_numbers 1 vs) (all_numbered_uncut page 8 1 kind.Body vs room (omega arith) (omega (arith, few)) almost s.1 drawn),
      omega (arith, cut, headings, few),
    )
  where
    body_places : (page : List ℕ) (calls : List OuterCall) (ts : ItemTrees) → length page < 2 ^ 32 → AreReachedSlices page (walked_body calls ts)
        → HasPlaces (label (walked_body calls ts)).ranges
    body_places page calls ts room s = (omega arith, omega (arith, room, s.0.within), omega arith, omega arith)

-- at most one number for each node that has one without groups, and one for each byte
pub body_light : (calls : List OuterCall) (ts : ItemTrees) → AreShownIn 9 kind.Body (all_unplaced ts)
    → numbers_needed calls (body_of ts) ≤ numbered_in_all ts + width (held_by_all ts)
body_light calls ts shown = omega (arith, children_light calls None 0 None ts, nodes_light 9 kind.Body ts shown)

-- the annotated tree, from the tree in one pass
annotated_body : (calls : List OuterCall) (ts : ItemTrees)
    → cut_texts (with_numbers 1 (walked_body calls ts)) ≡ annotated calls (group_data calls) (body_of ts)
unfolding annotated
annotated_body calls ts =
    let t : ItemTree = body_of ts in
    let g : Grouped = grouped (tree_items t) 0 t in
    ap (λ (u : Tree). cut_texts (with_numbers 1 u)) (walk_all calls (group_data calls) t)
    ∙ cut_numbered 1 (placed calls (group_data calls) (tree_items t) g) (placed_bare calls (group_data calls) (tree_items t) g)

-- The annotated tree of a body whose nodes are shown and parted, and cut between characters.
pub grouped_body : (calls : List OuterCall) (ts : ItemTrees) → ArePageCalls calls → AreShownIn 9 kind.Body (all_unplaced ts) → AreParted ts
    → AllHoldTexts ts → length (page_of calls (tree_items (body_of ts))) < 2 ^ 32
    → numbered_in_all ts + width (held_by_all ts) < 2 ^ 32
    → IsWrittenBody (annotated calls (group_data calls) (body_of ts))
grouped_body calls ts c shown n holds room small =
    let t : ItemTree = body_of ts in
    let page : List ℕ = page_of calls (tree_items t) in
    let same : walked_body calls ts ≡ placed calls (group_data calls) (tree_items t) (grouped (tree_items t) 0 t) = walk_all calls (group_data calls) t in
    let clean : is_clean (tree_items t) 0 t ≡ true = body_clean ts in
    let few : 1 + count (walked_body calls ts) ≤ 2 ^ 32 =
    omega (arith, body_light calls ts shown, small) in
    subst IsWrittenBody (annotated_body calls ts)
    (whole_body page calls ts room (subst (AreReachedSlices page) (sym same) (placed_slices calls t clean))
    (subst (OfGroups IsAlmost) (sym same) (annotated_almost calls t c (refl, IsUtf8-nil, holds, IsUtf8-nil))) few shown n)

-- ---- without its sections it is what it was

drawn_no_section : (j : Kind) (k : ℕ) (q : Kind) (l : Label) (childless : Bool) (group inside : Type 0)
    → IfGroup (is_group j) group (NodeIsDrawn (writing j) k q l childless inside) → is_section j ≡ false
drawn_no_section (kind.Section n) k q l childless group inside h = absurd h
drawn_no_section j k q l childless group inside h = refl

none_section : (k : ℕ) (q : Kind) (ts : Trees) → AreDrawnIn k q ts → NoneIsSection ts
none_section k q none h = tt
none_section k q (more (tree l us) ts) h = (
  drawn_no_section l.kind k q l (is_childless us) (IsDrawnGroup k q us) (IsInOrder (texts_of_kind l.kind) us × AreDrawnIn (suc k) l.kind us) h.0,
  none_section k q ts h.2,
)

none_numbered : (n : ℕ) (ts : Trees) → NoneIsSection ts → NoneIsSection (all_with_numbers n ts)
none_numbered n none h = tt
none_numbered n (more (tree l us) ts) h = (h.0, none_numbered (n + count (tree l us)) ts h.1)

none_cut : (ts : Trees) → NoneIsSection ts → NoneIsSection (all_cut_texts ts)
none_cut none h = tt
none_cut (more (tree l us) ts) h = (h.0, none_cut ts h.1)

abbrev pub HoldsNoSection : Tree → Type 0
HoldsNoSection (tree l ts) = NoneIsSection ts

pub opened_again : (t : Tree) → HoldsNoSection t → without_sections (with_sections t) ≡ t
opened_again (tree l ts) h = ap (λ us. tree l us) (gathered_opened ts h)

pub grouped_none : (calls : List OuterCall) (ts : ItemTrees) → AreShownIn 9 kind.Body (all_unplaced ts) → AreParted ts
    → HoldsNoSection (annotated calls (group_data calls) (body_of ts))
grouped_none calls ts shown n =
    let vs : Trees = trees (near_runs calls (group_data calls) (near calls (group_data calls) None 0 None ts)) in
    subst HoldsNoSection (annotated_body calls ts)
    (none_cut (all_with_numbers 1 vs) (none_numbered 1 vs (none_section 8 kind.Body vs (drawn_body calls ts shown n))))

-- ---- its numbers and groups

-- it has no more numbers than its nodes have and bytes stand in it
pub placed_few : (calls : List OuterCall) (ts : ItemTrees) → AreShownIn 9 kind.Body (all_unplaced ts)
    → count (placed calls (group_data calls) (tree_items (body_of ts)) (grouped (tree_items (body_of ts)) 0 (body_of ts)))
    ≤ numbered_in_all ts + width (held_by_all ts)
placed_few calls ts shown =
    omega (arith, children_light calls None 0 None ts, nodes_light 9 kind.Body ts shown, ap count (walk_all calls (group_data calls) (body_of ts)))

pub few_groups_in : (calls : List OuterCall) (ts : ItemTrees) → AreShownIn 9 kind.Body (all_unplaced ts)
    → numbered_in_all ts + width (held_by_all ts) < 2 ^ 32 → groups (with_sections (annotated calls (group_data calls) (body_of ts))) < 2 ^ 64
few_groups_in calls ts shown small =
    let few : groups (annotated calls (group_data calls) (body_of ts)) < 2 ^ 64 =
    few_groups calls (body_of ts) (omega (arith, placed_few calls ts shown, small)) in
    subst (λ (n : ℕ). n < 2 ^ 64) (sym (groups_stay (annotated calls (group_data calls) (body_of ts)))) few
