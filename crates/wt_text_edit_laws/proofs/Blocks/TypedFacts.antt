-- What holds of blocks of a page and of what is sent for them, behind these items: one block before others.
use Rattle.std.proofs.Common.{arith, ◌≡◌, ◌≢◌, ℕ, ◌+◌, ◌≤◌, Bool, true, false, Option, Some, None, List, [], ◌∷◌, ◌++◌, length, map, take, refl, sym, ap, ap₂, ◌∙◌, subst, append-nil, append_assoc}
use Rattle.std.specs.Prelude.{◌||◌}
use Rattle.std.specs.List.{flat_map}
use Rattle.std.specs.Str.{IsUtf8}
use Rattle.std.proofs.Math.Seq.{take-append_seam}
use Rattle.std.proofs.lemmas.Grind.{flat_map-append}
use Rattle.wt_tree.specs.declared.kind.Mark.TheVariants as marks
use Rattle.wt_tree.specs.declared.kind.Ranges.{Ranges}
use Rattle.wt_tree.specs.Plain.{element, Plains, ended, along, text_before}
use Rattle.wt_tree.specs.Source.{flat, flat_of_all}
use Rattle.wt_tree.specs.Tiling.{HasNoGroup, NoneIsGroup}
use Rattle.wt_tree.specs.Tree.{Label, Tree, tree, Trees, none, more}
use Rattle.wt_span.specs.Items.{Item, source, sources}
use Rattle.wt_guards.specs.Guards.{Setting}
use Rattle.wt_inline.specs.ItemTree.{ItemTree, forest, tree_items, held_by_all}
use Rattle.wt_checks.specs.PutBack.{has_frame, have_frame}
use Rattle.wt_isolation.specs.OpenTags.{ends_open, any_ends_open}
use Rattle.wt_selser.specs.GroupFaults.{has_faulty_group}
use Rattle.wt_annotated.specs.Annotated.{unplaced}
use Rattle.wt_annotated.specs.Labels.{width, label_at}
use Rattle.wt_expand.specs.PageItems.{page_items}
use Rattle.wt_expand.proofs.PageLaws.{page_sources}
use Rattle.wt_text_edit_laws.specs.LonePages.{page_chars, of_items}
use Rattle.wt_text_edit_laws.proofs.Texts.TypedItems.{typed_shows}
use Rattle.wt_text_edit_laws.proofs.Texts.TypedLeaves.{AreOwn, Leaf, leaves, leaf_shown, leaves_shown, leaf_source, leaves_source, leaves_shut, leaf_tree}
use Rattle.wt_text_edit_laws.proofs.Texts.TypedShown.{leaves_show}
use Rattle.wt_text_edit_laws.proofs.Texts.TypedNodes.{nodes, nodes_flat, held_sources, none_open}
use Rattle.wt_text_edit_laws.proofs.Texts.TypedTrees.{none_faulty}
use Rattle.wt_part_laws.specs.Standing.{standing, IsOrdinary}
use Rattle.wt_part_laws.proofs.Moved.{shows_the_same}
use Rattle.wt_part_laws.proofs.Ordinary.{standing_ordinary, ordinary_ungrouped, ordinary_unframed}
use Rattle.wt_part_laws.proofs.Sources.{standing_source}
use Rattle.wt_typed_blocks.specs.Sent.{kind_of, Sents, old_children, AreSent, all_show}
use Rattle.wt_typed_blocks.specs.Typed.{place_of, block_source, new_sources, Takes, TakeTexts, StandAt, AreUntangled}
use Rattle.wt_text_edit_laws.proofs.Prose.ProseTrees.{items_behind}
use Rattle.wt_text_edit_laws.proofs.Prose.BlockFacts.{behind_source, behind_width}
use Rattle.wt_text_edit_laws.proofs.Blocks.KeptBlocks.{block_shown}
use Rattle.wt_text_edit_laws.specs.TypedHeadings.{Sides, equals, opening, closing, closing_items}
use Rattle.wt_text_edit_laws.specs.TextBlocks.{TextBlock, a_paragraph, a_heading, block_of, source_of}
use Rattle.wt_text_edit_laws.specs.BlockEdits.{Sending, retyped, kept, sent_children, AreKept, Typing, types, keeps, typed_as, new_text, sending_for, IsText}
use Rattle.wt_text_edit_laws.proofs.Blocks.BlockLeaves.{open_items, close_items, leaf_block}

-- Blocks with these nodes, for which this is sent, which gives this source in the new page and shows this.
pub record Facts (xs before : List Item) (ds : List Sending) (us : Trees) (was now : List ℕ) (shown : Plains) : Type 0 where
  pub old : old_children (sent_children ds us) ≡ us
  pub ungrouped : NoneIsGroup us
  pub unframed : have_frame us ≡ false
  pub sent : AreKept ds us → AreSent (sent_children ds us)
  pub takes : TakeTexts (sent_children ds us)
  pub untangled : (page : List ℕ) → page ≡ sources before ++ was → AreUntangled (of_items xs) page (sent_children ds us)
  pub flat : flat_of_all us ≡ was
  pub stand : StandAt (width before) (sent_children ds us)
  pub new : new_sources (sent_children ds us) ≡ now
  pub shows : all_show (sent_children ds us) ≡ shown

pub facts_nothing : (xs before : List Item) → Facts xs before [] none [] [] ended
facts_nothing xs before = record {
  old = refl;
  ungrouped = tt;
  unframed = refl;
  sent = λ h. tt;
  takes = tt;
  untangled = λ page e. tt;
  flat = refl;
  stand = tt;
  new = refl;
  shows = refl;
}

-- ---- a block of any kind that is kept

pub facts_kept : (xs : List Item) (n : ℕ) (before : List Item) (t : ItemTree) (u : Tree) (ds : List Sending) (us : Trees) (was now : List ℕ) (shown : Plains)
    → IsOrdinary (unplaced t) → Facts xs (items_behind before t) ds us was now shown
    → Facts xs before (kept u ∷ ds) (more (standing n before t) us) (sources (tree_items t) ++ was) (sources (tree_items t) ++ now) (block_shown t shown)
facts_kept xs n before t u ds us was now shown o f =
    let q : List ℕ = sources (tree_items t) in
    let ss : Sents = sent_children ds us in
    let own : Tree = standing n before t in
    let ordinary : IsOrdinary own = standing_ordinary n before t o in
    let its : flat own ≡ q = standing_source n before t in
    record {
      old = ap (λ vs. more own vs) f.old;
      ungrouped = (ordinary_ungrouped own ordinary, f.ungrouped);
      unframed = ap (λ (b : Bool). b || have_frame us) (ordinary_unframed own ordinary) ∙ f.unframed;
      sent = λ h. (h.0, f.sent h.1);
      takes = (tt, f.takes);
      untangled = λ page e. (tt, f.untangled page (e ∙ behind_source before (tree_items t) q was refl));
      flat = ap (λ cs. cs ++ flat_of_all us) its ∙ ap (λ cs. q ++ cs) f.flat;
      stand = (tt, subst (λ (at : ℕ). StandAt at ss) (behind_width before (tree_items t) (flat own) (sym its)) f.stand);
      new = ap (λ cs. cs ++ new_sources ss) its ∙ ap (λ cs. q ++ cs) f.new;
      shows = shows_the_same n 0 before [] t (all_show ss) ∙ ap (block_shown t) f.shows;
    }

-- ---- the source of a paragraph or heading

chars_are : (bs : List ℕ) → sources (page_chars bs) ≡ bs
chars_are [] = refl
chars_are (b ∷ bs) = ap (λ (cs : List ℕ). b ∷ cs) (chars_are bs)

closing_is : (s : Sides) → sources (closing_items s) ≡ closing s
closing_is s =
    let signs : List ℕ = s.trail ++ equals s.level in
    flat_map-append source (page_chars signs) (page_items s.rest)
    ∙ ap₂ (λ (bs cs : List ℕ). bs ++ cs) (chars_are signs) (page_sources s.rest)
    ∙ append_assoc s.trail (equals s.level) s.rest

pub framed : (k : TextBlock) (q : List ℕ) → sources (open_items k) ++ (q ++ sources (close_items k)) ≡ source_of k q
framed a_paragraph q = append-nil q
framed (a_heading s) q = ap₂ (λ (bs cs : List ℕ). bs ++ (q ++ cs)) (chars_are (opening s)) (closing_is s)

pub leaves_are : (q : List ℕ) → AreOwn (page_items q) → flat_map leaf_source (leaves (page_items q)) ≡ q
leaves_are q h = leaves_source (page_items q) h ∙ page_sources q

abbrev held : List Leaf → List Item
held ls = held_by_all (forest (map leaf_tree ls))

pub items_source : (k : TextBlock) (q : List ℕ) → AreOwn (page_items q) → sources (tree_items (leaf_block k (leaves (page_items q)))) ≡ source_of k q
items_source k q h =
    let ls : List Leaf = leaves (page_items q) in
    flat_map-append source (open_items k) (held ls ++ close_items k)
    ∙ ap (λ cs. sources (open_items k) ++ cs) (flat_map-append source (held ls) (close_items k))
    ∙ ap (λ cs. sources (open_items k) ++ (cs ++ sources (close_items k))) (held_sources ls ∙ leaves_are q h)
    ∙ framed k q

-- ---- its node

abbrev pub text_label : TextBlock → ℕ → List Item → List Leaf → Label
text_label k n before ls = record {
  kind = kind_of (block_of k);
  id = n;
  ranges = Some (record {
    start = width before;
    end = width before + width (open_items k ++ (held ls ++ close_items k));
    open_w = width (open_items k);
    close_w = width (close_items k);
  });
  opening = sources (open_items k);
  closing = sources (close_items k);
  own = [];
  shown = [];
  attrs = [];
  origin = None;
  mark = marks.Nothing;
  mw = None;
}

abbrev pub text_nodes : TextBlock → ℕ → List Item → List Leaf → Trees
text_nodes k n before ls = nodes (n + 1) (before ++ open_items k) ls

pub its_node : (k : TextBlock) (n : ℕ) (before : List Item) (ls : List Leaf)
    → standing n before (leaf_block k ls) ≡ tree (text_label k n before ls) (text_nodes k n before ls)
unfolding label_at
its_node a_paragraph n before ls = refl
its_node (a_heading s) n before ls = refl

-- ---- what it shows

abbrev pub text_shown : TextBlock → List ℕ → Plains → Plains
text_shown k text rest = along (element (record { kind = kind_of (block_of k); attrs = []; mw = None }) (text_before text ended)) rest

leaves_shown_in : (k : TextBlock) (ls : List Leaf) (rest : Plains) → block_shown (leaf_block k ls) rest ≡ text_shown k (flat_map leaf_shown ls) rest
unfolding label_at
leaves_shown_in a_paragraph ls rest =
    ap (λ ps. along (element (record { kind = kind_of (block_of a_paragraph); attrs = []; mw = None }) ps) rest) (leaves_show 1 [] ls ended)
leaves_shown_in (a_heading s) ls rest =
    ap (λ ps. along (element (record { kind = kind_of (block_of (a_heading s)); attrs = []; mw = None }) ps) rest) (leaves_show 1 (open_items (a_heading s)) ls ended)

-- a text that was typed is shown, however it is spelled
pub typed_shown : (k : TextBlock) (q text : List ℕ) (rest : Plains) → IsUtf8 text → AreOwn (page_items (typed_as (block_of k) q text))
    → text_shown k text rest ≡ block_shown (leaf_block k (leaves (page_items (typed_as (block_of k) q text)))) rest
typed_shown k q text rest u own =
    let s : Setting = record { within = false; place = place_of (block_of k); source = q } in
    let xs : List Item = page_items (typed_as (block_of k) q text) in
    sym (leaves_shown_in k (leaves xs) rest ∙ ap (λ cs. text_shown k cs rest) (leaves_shown xs own ∙ typed_shows s text u))

-- ---- one in which a text was typed

pub all_false : (a b c : Bool) → a ≡ false → b ≡ false → c ≡ false → ((a || b) || c) ≡ false
all_false false false false e f g = refl
all_false true b c e f g = cc
all_false false true c e f g = cc
all_false false false true e f g = cc

facts_typed : (xs : List Item) (n : ℕ) (before : List Item) (k : TextBlock) (q : List ℕ) (p x : Label) (text : List ℕ) (ds : List Sending) (us : Trees)
    (was now : List ℕ) (shown : Plains) → 1 ≤ n → ends_open (sources before) ≡ false → AreOwn (page_items q) → Takes (block_of k) text
    → IsOrdinary (unplaced (leaf_block k (leaves (page_items q))))
    → Facts xs (items_behind before (leaf_block k (leaves (page_items q)))) ds us was now shown
    → Facts xs before (retyped (block_of k) p x text ∷ ds) (more (standing n before (leaf_block k (leaves (page_items q)))) us)
    (source_of k q ++ was) (source_of k (typed_as (block_of k) (source_of k q) text) ++ now) (text_shown k text shown)
facts_typed xs n before k q p x text ds us was now shown le clear h takes o f =
    let ls : List Leaf = leaves (page_items q) in
    let block : ItemTree = leaf_block k ls in
    let own : Tree = standing n before block in
    let ordinary : IsOrdinary own = standing_ordinary n before block o in
    let l : Label = text_label k n before ls in
    let ts : Trees = text_nodes k n before ls in
    let e : own ≡ tree l ts = its_node k n before ls in
    let ss : Sents = sent_children ds us in
    let is : sources (tree_items block) ≡ source_of k q = items_source k q h in
    let its : flat (tree l ts) ≡ source_of k q = ap flat (sym e) ∙ standing_source n before block ∙ is in
    let inside : block_source l ts ≡ source_of k q =
    append_assoc (sources (open_items k)) (flat_of_all ts) (sources (close_items k))
    ∙ ap (λ cs. sources (open_items k) ++ (cs ++ sources (close_items k))) (nodes_flat (n + 1) (before ++ open_items k) ls ∙ leaves_are q h) ∙ framed k q in
    let some : n ≢ 0 = omega (arith, le) in
    let ranged : ℕ → Option Ranges = λ (size : ℕ). Some (record {
      start = width before;
      end = width before + size;
      open_w = width (open_items k);
      close_w = width (close_items k);
    }) in
    let new : List ℕ = typed_as (block_of k) (source_of k q) text in
    subst (λ t. Facts xs before (retyped (block_of k) p x text ∷ ds) (more t us) (source_of k q ++ was) (source_of k new ++ now) (text_shown k text shown)) (sym e)
    (record {
      old = ap (λ vs. more (tree l ts) vs) f.old;
      ungrouped = (subst HasNoGroup e (ordinary_ungrouped own ordinary), f.ungrouped);
      unframed = ap (λ (b : Bool). b || have_frame us) (ap has_frame (sym e) ∙ ordinary_unframed own ordinary) ∙ f.unframed;
      sent = λ a. (some, f.sent a);
      takes = (takes, f.takes);
      untangled = λ page a. (
        all_false (ends_open (take (width before) page)) (any_ends_open ts) (has_faulty_group (of_items xs) ts)
            (ap (λ cs. ends_open (take (width before) cs)) a ∙ ap ends_open (take-append_seam (sources before) (source_of k q ++ was)) ∙ clear)
            (none_open (n + 1) (before ++ open_items k) ls (leaves_shut (page_items q) h))
            (none_faulty (of_items xs) (n + 1) (before ++ open_items k) ls),
        f.untangled page (a ∙ behind_source before (tree_items block) (source_of k q) was is),
      );
      flat = ap (λ cs. cs ++ flat_of_all us) its ∙ ap (λ cs. source_of k q ++ cs) f.flat;
      stand = (
        ap ranged (ap length (is ∙ sym inside)),
        subst (λ (at : ℕ). StandAt at ss) (behind_width before (tree_items block) (block_source l ts) (is ∙ sym inside)) f.stand,
      );
      new =
          ap (λ cs. ((sources (open_items k) ++ typed_as (block_of k) cs text) ++ sources (close_items k)) ++ new_sources ss) inside
          ∙ ap (λ cs. cs ++ new_sources ss) (append_assoc (sources (open_items k)) new (sources (close_items k)) ∙ framed k new)
          ∙ ap (λ cs. source_of k new ++ cs) f.new;
      shows = ap (λ rest. text_shown k text rest) f.shows;
    })

-- ---- any of them

pub facts_text : (xs : List Item) (n : ℕ) (before : List Item) (k : TextBlock) (q : List ℕ) (y : Typing) (ds : List Sending) (us : Trees)
    (was now : List ℕ) (shown : Plains) → 1 ≤ n → ends_open (sources before) ≡ false → AreOwn (page_items q) → AreOwn (page_items (new_text k y q))
    → IsText k y → IsOrdinary (unplaced (leaf_block k (leaves (page_items q))))
    → Facts xs (items_behind before (leaf_block k (leaves (page_items q)))) ds us was now shown
    → Facts xs before (sending_for k y ∷ ds) (more (standing n before (leaf_block k (leaves (page_items q)))) us)
    (source_of k q ++ was) (source_of k (new_text k y q) ++ now) (block_shown (leaf_block k (leaves (page_items (new_text k y q)))) shown)
facts_text xs n before k q (types p t text) ds us was now shown le clear h g u o f =
    let own : Tree = standing n before (leaf_block k (leaves (page_items q))) in
    let new : List ℕ = typed_as (block_of k) (source_of k q) text in
    subst (λ ps. Facts xs before (retyped (block_of k) p t text ∷ ds) (more own us) (source_of k q ++ was) (source_of k new ++ now) ps)
    (typed_shown k (source_of k q) text shown u.0 g) (facts_typed xs n before k q p t text ds us was now shown le clear h u.1 o f)
facts_text xs n before k q (keeps v) ds us was now shown le clear h g u o f =
    let block : ItemTree = leaf_block k (leaves (page_items q)) in
    subst (λ bs. Facts xs before (kept v ∷ ds) (more (standing n before block) us) (bs ++ was) (bs ++ now) (block_shown block shown)) (items_source k q h)
    (facts_kept xs n before block v ds us was now shown o f)
