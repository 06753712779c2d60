-- Each block of a page whose calls give what may be a group, or that calls nothing, can be read by itself where it is.
use Rattle.std.proofs.Common.{arith, ◌≡◌, inl, inr, ℕ, zero, suc, ◌+◌, ◌<◌, ◌≤◌, Bool, true, false, Option, None, Some, List, [], ◌∷◌, ◌++◌, length, refl, sym, ap, ap₂, ◌∙◌, subst, append-nil}
use Rattle.std.specs.Prelude.{slice_get, if◌then◌else◌}
use Rattle.std.specs.List.{list_all}
use Rattle.std.proofs.lemmas.Bool.{cases_lt}
use Rattle.wt_tree.specs.declared.row.Texts.{Texts}
use Rattle.wt_tree.specs.declared.row.Texts.TheVariants.{Page}
use Rattle.wt_tree.specs.declared.kind.Kind.TheVariants as kind
use Rattle.wt_tree.specs.Kinds.{texts_of_kind}
use Rattle.wt_tree.specs.Tiling.{is_group}
use Rattle.wt_tree.specs.Tree.{Tree, Trees}
use Rattle.wt_span.specs.Items.{Item, sources}
use Rattle.wt_span.specs.Origins.{OuterCall, Expanded}
use Rattle.wt_span.specs.Cuts.{source_of_call}
use Rattle.wt_inline.specs.ItemTree.{Head, plain, ItemTree, inner, forest, tree_items, held_by_all}
use Rattle.wt_inline.specs.Parts.{Part, loose, node, children}
use Rattle.wt_context.specs.Line.{line_parts}
use Rattle.wt_annotated.specs.Clean.{is_page}
use Rattle.wt_annotated.specs.CutTexts.{cut_as, cut_texts, all_cut_texts}
use Rattle.wt_annotated.specs.Numbering.{next_after, with_numbers}
use Rattle.wt_annotated.specs.Seams.{last_of}
use Rattle.wt_annotated.specs.WithoutCalls.{placed}
use Rattle.wt_checks.specs.Kept.{children as nodes_in}
use Rattle.wt_isolation.specs.OpenTags.{ends_open, any_ends_open}
use Rattle.wt_selser.specs.GroupFaults.{has_faulty_group}
use Rattle.wt_expand.specs.Expansion.{page_work}
use Rattle.wt_expand.specs.PageCalls.{expanded_page}
use Rattle.wt_expand.specs.PageItems.{page_items}
use Rattle.wt_expand.specs.Work.{Pages, first_refusal}
use Rattle.wt_expand.proofs.PiecePlaces.{AllFrom}
use Rattle.wt_page_round_trip.proofs.HeldPages.{items_ones}
use Rattle.wt_page_round_trip.proofs.OpenedPages.{AreOnes}
use Rattle.wt_part_laws.specs.CallPieces.{EachNode, CallPiece, own, given, call_pieces, pieces_in_page}
use Rattle.wt_part_laws.specs.Expanded.{moved_call, part_items, calls_in}
use Rattle.wt_part_laws.specs.HeldCalls.{block_in, HoldsItsCalls, AllHold, IsRoundGiven, block_of_pieces}
use Rattle.wt_part_laws.specs.Placeless.{placeless}
use Rattle.wt_part_laws.specs.Rounded.{IsOwn}
use Rattle.wt_part_laws.specs.Standing.{standing}
use Rattle.wt_part_laws.proofs.CallPieces.{trees_of, all_trees, ArePieces, apart_none, all_pieces, children_given}
use Rattle.wt_part_laws.proofs.GroupsStay.{numbers_gone}
use Rattle.wt_part_laws.proofs.HeldBlocks.{given_block_is}
use Rattle.wt_part_laws.proofs.OwnWalks.{walk_own}
use Rattle.wt_part_laws.proofs.Recuts.{texts_same}
use Rattle.wt_text_edit_laws.specs.BlockSpots.{BlockSpot, spots_source}
use Rattle.wt_text_edit_laws.specs.Contents.{IsContent, content_parts_of}
use Rattle.wt_text_edit_laws.specs.NoCalls.{CallsNothing}
use Rattle.wt_text_edit_laws.specs.LonePages.{page_chars}
use Rattle.wt_text_edit_laws.specs.TextBlocks.{TextBlock, a_paragraph, a_heading, source_of, block_items, block_tree}
use Rattle.wt_text_edit_laws.specs.TypedHeadings.{Sides, opening, closing_items, equals}
use Rattle.wt_text_edit_laws.proofs.Blocks.BlockLeaves.{items_of_page}
use Rattle.wt_text_edit_laws.proofs.Blocks.OwnContents.{content_own}
use Rattle.wt_text_edit_laws.proofs.Texts.TypedShown.{chars_of_page, both_of_page}
use Rattle.wt_beside_laws.specs.RoundCalls.{AreShutCalls}
use Rattle.wt_beside_laws.specs.Given.{GivesSigns}
use Rattle.wt_called_edit_laws.specs.CalledBlocks.{counted}
use Rattle.wt_called_edit_laws.specs.CalledContents.{items_round, tree_round}
use Rattle.wt_called_edit_laws.specs.CallingBlocks.{IsContentIn, AreContentsInFolder, tree_with_calls}
use Rattle.wt_called_edit_laws.specs.CallingGroups.{AreCallingOutside, block_with_groups}
use Rattle.wt_called_edit_laws.specs.Parts.{calls_to, calls_past, called_items}
use Rattle.wt_called_edit_laws.specs.Settled.{settled, all_settled}
use Rattle.wt_called_edit_laws.specs.Untangled.{IsWhole, AreWhole}
use Rattle.wt_called_edit_laws.specs.WholeContents.{of_call, AreGroups, IsPartIn, ArePartsIn, AreShutParts, HoldsGroups, EachWhole}
use Rattle.wt_called_edit_laws.proofs.CalledUtf8.{called_utf8}
use Rattle.wt_called_edit_laws.proofs.Cells.CallingFrames.{own_calm}
use Rattle.wt_called_edit_laws.proofs.Cells.ContentItems.{tree_is}
use Rattle.wt_called_edit_laws.proofs.Parts.NoCallsCalled.{calm_items}
use Rattle.wt_called_edit_laws.proofs.Parts.Retyped.{is_by_parts}
use Rattle.wt_called_edit_laws.proofs.PartTexts.{own_text}
use Rattle.wt_called_edit_laws.proofs.SettledNodes.{settled_gone, placeless_twice}
use Rattle.wt_called_edit_laws.proofs.SpotSources.{OnesAt, SpotOnes, tree_opened, hold_moved, ones_moved, grouped_at, ones_in_tree, ones_in_page}
use Rattle.wt_called_edit_laws.proofs.Whole.CallPlaces.{AtPlaces, AreCallsAt, AreBlockCalls, part_placed, block_calls, page_placed}
use Rattle.wt_called_edit_laws.proofs.Whole.OfCall.{of_append, of_page, own_from, before_part, behind_part}
use Rattle.wt_called_edit_laws.proofs.Whole.Opened.{to_opened, from_opened}
use Rattle.wt_called_edit_laws.proofs.Whole.SourcesAt.{placed_sources}
use Rattle.wt_called_edit_laws.proofs.Whole.Pieces.{AreShutTrees, children_shut, some_items, AreGroupsHere, IsPartHere, here_pieces, own_here, IsAmong, pieces_fine, pieces_shut}

-- ---- a block at its place

last_page : (o : Option ℕ) (xs : List Item) → o ≡ None → AllFrom None xs → last_of o xs ≡ None
last_page o [] e h = e
last_page o (x ∷ xs) e h = last_page _ xs h.0 h.1

pub nodes_are : (calls : List OuterCall) (n s : ℕ) (h : Head) (q : List Item) (ps : List Part) (c : List Item) → is_group h.kind ≡ false → texts_of_kind h.kind ≡ Page
    → nodes_in (settled n s (cut_texts (block_of_pieces calls h q ps c)))
    ≡ all_settled (next_after h.kind n) (s + length (sources q)) (all_cut_texts (pieces_in_page calls (call_pieces (children ps))))
nodes_are calls n s h q ps c g t =
    let us : Trees = pieces_in_page calls (call_pieces (children ps)) in
    let m : ℕ = next_after h.kind n in
    let a : ℕ = s + length (sources q) in
    let cut : Trees = cut_as (texts_of_kind h.kind) (all_cut_texts us) in
    ap (λ (v : Bool). if v then (if v then us else cut) else all_settled m a (if v then us else cut)) g
    ∙ ap (λ (x : Texts). all_settled m a (cut_as x (all_cut_texts us))) t

round_whole : (e : Expanded) (s n : ℕ) (h : Head) (q : List Item) (ps : List Part) (c : List Item) → is_group h.kind ≡ false → texts_of_kind h.kind ≡ Page
    → IsRoundGiven h q ps c → AtPlaces e.outer s None (tree_items (inner h q (forest (children ps)) c))
    → AreGroupsHere e (call_pieces (children ps)) → EachNode (IsPartHere 2 e) ps → AreShutParts ps → AtPlaces e.outer 0 None e.items → AreOnes e.items
    → IsWhole e (settled n s (cut_texts (block_in e.outer (inner h q (forest (children ps)) c))))
round_whole e s n h q ps c g t r at groups here shut page ones =
    let calls : List OuterCall = e.outer in
    let ts : List ItemTree = children ps in
    let us : List CallPiece = call_pieces ts in
    let all : List Item = tree_items (inner h q (forest ts) c) in
    let m : ℕ = next_after h.kind n in
    let a : ℕ = s + length (sources q) in
    let free : AllFrom None q = own_from q r.own_opening in
    let are : ArePieces us = all_pieces ts (children_given ps r.parts) in
    let among : IsAmong calls s None a q all us c = record {
      is = ap (λ (xs : List ItemTree). q ++ (held_by_all (forest xs) ++ c)) (sym (all_trees ts));
      placed = at;
      behind = last_page None q refl free;
      at = ap (λ (bs : List ℕ). s + length bs) (sym (own_text calls None q free));
    } in
    let trees : AreShutTrees (trees_of us) = subst AreShutTrees (sym (all_trees ts)) (children_shut ps shut) in
    let nodes : nodes_in (settled n s (cut_texts (block_in calls (inner h q (forest ts) c)))) ≡ all_settled m a (all_cut_texts (pieces_in_page calls us)) =
    ap (λ (u : Tree). nodes_in (settled n s (cut_texts u))) (given_block_is calls h q ps c r) ∙ nodes_are calls n s h q ps c g t in (
      ap any_ends_open nodes ∙ pieces_shut 2 e a m us are groups (own_here 2 e ps here) trees,
      ap (has_faulty_group e) nodes ∙ pieces_fine 2 e s None a m q all us c are (apart_none us) among groups (own_here 2 e ps here) trees page ones,
    )

closing_page : (s : Sides) → list_all is_page (closing_items s) ≡ true
closing_page s = both_of_page (page_chars (s.trail ++ equals s.level)) (page_items s.rest) (chars_of_page (s.trail ++ equals s.level)) (items_of_page s.rest)

tree_whole : (e : Expanded) (s n : ℕ) (k : TextBlock) (xs : List Item) → HoldsItsCalls (tree_round k xs) → EachNode (IsPartHere 2 e) (content_parts_of k xs)
    → AtPlaces e.outer s None (tree_items (tree_round k xs)) → AreGroupsHere e (call_pieces (children (content_parts_of k xs))) → AreShutParts (content_parts_of k xs)
    → AtPlaces e.outer 0 None e.items → AreOnes e.items → IsWhole e (settled n s (cut_texts (block_in e.outer (tree_round k xs))))
tree_whole e s n a_paragraph xs hold parts at groups shut page ones =
    round_whole e s n (plain kind.Para) [] (content_parts_of a_paragraph xs) [] refl refl
    (record { no_leaf = refl; own_opening = refl; own_closing = refl; parts = here_pieces 2 e (content_parts_of a_paragraph xs) parts; some = hold.some }) at groups parts
    shut page ones
tree_whole e s n (a_heading d) xs hold parts at groups shut page ones =
    round_whole e s n (plain (kind.Heading d.level)) (page_chars (opening d)) (content_parts_of (a_heading d) xs) (closing_items d) refl refl
    (record {
      no_leaf = refl;
      own_opening = chars_of_page (opening d);
      own_closing = closing_page d;
      parts = here_pieces 2 e (content_parts_of (a_heading d) xs) parts;
      some = hold.some;
    }) at groups parts shut page ones

-- ---- what calls give among the items of its block

round_call : (j : ℕ) (q xs c : List Item) → list_all is_page q ≡ true → list_all is_page c ≡ true → of_call j (q ++ (xs ++ c)) ≡ of_call j xs
round_call j q xs c e f =
    of_append j q (xs ++ c)
    ∙ ap₂ (λ (us vs : List Item). us ++ vs) (of_page j q e) (of_append j xs c ∙ ap (λ (us : List Item). of_call j xs ++ us) (of_page j c f))
    ∙ append-nil (of_call j xs)

items_call : (j : ℕ) (k : TextBlock) (xs : List Item) → of_call j (items_round k xs) ≡ of_call j xs
items_call j a_paragraph xs = refl
items_call j (a_heading s) xs = round_call j (page_chars (opening s)) xs (closing_items s) (chars_of_page (opening s)) (closing_page s)

-- ---- which calls they are

call_shut : (calls : List OuterCall) (d i j : ℕ) (cs : List OuterCall) → AreCallsAt calls d i cs → AreShutCalls cs → i ≤ j → j < i + length cs
    → ends_open (source_of_call (slice_get calls j)) ≡ false
call_shut calls d i j [] h g low high = absurd (omega (arith, low, high))
call_shut calls d i j (c ∷ cs) h g low high = elim (cases_lt i j) [
  | inl less ↦
      let n : ℕ = length cs in
      let more : j < i + suc n = high in
      let le : suc i ≤ j = omega (arith, less) in
      let lt : j < suc i + n = omega (arith, more) in
      call_shut calls d (suc i) j cs h.1 g.1 le lt
  | inr le ↦
      let same : i ≡ j = omega (arith, low, le) in
      let get : slice_get calls j ≡ Some (moved_call d c) = subst (λ (m : ℕ). slice_get calls m ≡ Some (moved_call d c)) same h.0 in
      ap (λ (y : Option OuterCall). ends_open (source_of_call y)) get ∙ g.0
]

-- among the items of the page from some part on
abbrev AreLast : Expanded → Pages → ℕ → List BlockSpot → List ℕ → Type 0
AreLast e pages k ss behind = (j : ℕ) → k ≤ j → of_call j e.items ≡ of_call j (called_items pages k ss behind)

before_called : (pages : Pages) (j k : ℕ) (ss : List BlockSpot) (behind : List ℕ) → j < k → of_call j (called_items pages k ss behind) ≡ []
before_called pages j k [] behind l = before_part pages j k behind l
before_called pages j k (s ∷ ss) behind l =
    let i : ℕ = calls_to pages k s in
    let q : List ℕ = source_of s.block s.text in
    let next : ℕ = calls_past pages k s in
    let own : List Item = part_items pages i q in
    let rest : List Item = called_items pages next ss behind in
    of_append j (part_items pages k s.before) (own ++ rest)
    ∙ ap₂ (λ (us vs : List Item). us ++ vs) (before_part pages j k s.before l)
    (of_append j own rest
    ∙ ap₂ (λ (us vs : List Item). us ++ vs) (before_part pages j i q (omega (arith, l))) (before_called pages j next ss behind (omega (arith, l))))

next_last : (e : Expanded) (pages : Pages) (k : ℕ) (s : BlockSpot) (ss : List BlockSpot) (behind : List ℕ) → AreLast e pages k (s ∷ ss) behind
    → AreLast e pages (calls_past pages k s) ss behind
next_last e pages k s ss behind h = λ j l.
    let i : ℕ = calls_to pages k s in
    let q : List ℕ = source_of s.block s.text in
    let own : List Item = part_items pages i q in
    let rest : List Item = called_items pages (calls_past pages k s) ss behind in
    let first : k + calls_in pages s.before ≤ j = omega (arith, l) in
    let second : i + calls_in pages q ≤ j = l in
    h j (omega (arith, l))
    ∙ of_append j (part_items pages k s.before) (own ++ rest)
    ∙ ap₂ (λ (us vs : List Item). us ++ vs) (behind_part pages j k s.before first)
    (of_append j own rest ∙ ap (λ (us : List Item). us ++ of_call j rest) (behind_part pages j i q second))

own_last : (e : Expanded) (pages : Pages) (k j : ℕ) (s : BlockSpot) (ss : List BlockSpot) (behind : List ℕ) → AreLast e pages k (s ∷ ss) behind
    → calls_to pages k s ≤ j → j < calls_past pages k s → of_call j e.items ≡ of_call j (part_items pages (calls_to pages k s) (source_of s.block s.text))
own_last e pages k j s ss behind h low high =
    let i : ℕ = calls_to pages k s in
    let q : List ℕ = source_of s.block s.text in
    let own : List Item = part_items pages i q in
    let rest : List Item = called_items pages (calls_past pages k s) ss behind in
    let first : k + calls_in pages s.before ≤ j = low in
    h j (omega (arith, low))
    ∙ of_append j (part_items pages k s.before) (own ++ rest)
    ∙ ap₂ (λ (us vs : List Item). us ++ vs) (behind_part pages j k s.before first)
    (of_append j own rest ∙ ap (λ (us : List Item). of_call j own ++ us) (before_called pages j (calls_past pages k s) ss behind high) ∙ append-nil (of_call j own))

-- ---- a block

-- what is asked of it, and of the page
record IsBlockHere (e : Expanded) (pages : Pages) (k at : ℕ) (s : BlockSpot) (ss : List BlockSpot) (behind : List ℕ) : Type 0 where
  content : IsContentIn pages s.block s.text
  holds : HoldsItsCalls (tree_round s.block (part_items pages (calls_to pages k s) s.text))
  tree_ones : AreOnes (tree_items (tree_round s.block (part_items pages (calls_to pages k s) s.text)))
  item_ones : AreOnes (part_items pages (calls_to pages k s) (source_of s.block s.text))
  calls : AreCallsAt e.outer (at + length s.before) (calls_to pages k s) (expanded_page pages (source_of s.block s.text)).outer
  last : AreLast e pages k (s ∷ ss) behind
  placed : AtPlaces e.outer 0 None e.items
  ones : AreOnes e.items

abbrev node_here : Expanded → Pages → ℕ → BlockSpot → Tree
node_here e pages k s = cut_texts (block_in e.outer (tree_round s.block (part_items pages (calls_to pages k s) s.text)))

groups_here : (e : Expanded) (xs : List Item) (ps : List CallPiece)
    → ((j : ℕ) → GivesSigns j (of_call j xs) → (of_call j e.items ≡ of_call j xs) × (ends_open (source_of_call (slice_get e.outer j)) ≡ false)) → AreGroups xs ps
    → AreGroupsHere e ps
groups_here e xs [] f g = tt
groups_here e xs (own t ∷ ps) f g = groups_here e xs ps f g
groups_here e xs (given j t ts ∷ ps) f g =
    let here = f j g.0 in (
      record {
        gives = subst (GivesSigns j) (sym here.0) g.0;
        nodes = g.1 ∙ ap (λ (ys : List Item). children (line_parts ys)) (sym here.0);
        shut = here.1;
      },
      groups_here e xs ps f g.2,
    )

-- so in bold and italic
part_here : (d : ℕ) (e : Expanded) (xs : List Item) (t : ItemTree)
    → ((j : ℕ) → GivesSigns j (of_call j xs) → (of_call j e.items ≡ of_call j xs) × (ends_open (source_of_call (slice_get e.outer j)) ≡ false))
    → IsPartIn d e.outer xs t → IsPartHere d e t
part_here zero e xs t f h = h
part_here (suc d) e xs t f (inl h) = inl h
part_here (suc d) e xs t f (inr r) =
    inr (r.0, r.1, r.2, each_here d e xs r.1 f (λ u k. part_here d e xs u f k) r.3, groups_here e xs (call_pieces (children r.1)) f r.4, r.5)
  where
    each_here : (d : ℕ) (e : Expanded) (xs : List Item) (ps : List Part)
        → ((j : ℕ) → GivesSigns j (of_call j xs) → (of_call j e.items ≡ of_call j xs) × (ends_open (source_of_call (slice_get e.outer j)) ≡ false))
        → ((u : ItemTree) → IsPartIn d e.outer xs u → IsPartHere d e u) → EachNode (IsPartIn d e.outer xs) ps → EachNode (IsPartHere d e) ps
    each_here d e xs [] f g h = tt
    each_here d e xs (loose k o b ∷ ps) f g h = each_here d e xs ps f g h
    each_here d e xs (node u ∷ ps) f g h = (g u h.0, each_here d e xs ps f g h.1)

-- each call of the block is one of the page's, and ends in no open tag
calls_here : (e : Expanded) (pages : Pages) (k at : ℕ) (s : BlockSpot) (ss : List BlockSpot) (behind : List ℕ) → IsBlockHere e pages k at s ss behind
    → HoldsGroups pages s.block s.text → (j : ℕ) → GivesSigns j (of_call j (part_items pages (calls_to pages k s) s.text))
    → (of_call j e.items ≡ of_call j (part_items pages (calls_to pages k s) s.text)) × (ends_open (source_of_call (slice_get e.outer j)) ≡ false)
calls_here e pages k at s ss behind h w j g =
    let i : ℕ = calls_to pages k s in
    let q : List ℕ = source_of s.block s.text in
    let xs : List Item = part_items pages i s.text in
    let content : IsContentIn pages s.block s.text = h.content in
    let part_is : of_call j (part_items pages i q) ≡ of_call j xs = ap (of_call j) (content.items i) ∙ items_call j s.block xs in
    let some : of_call j xs ≡ [] → ⊥ = λ z. no_items j (of_call j xs) g z in
    let low : i ≤ j = elim (cases_lt j i) [
      | inl l ↦ absurd (some (sym part_is ∙ before_part pages j i q l))
      | inr l ↦ l
    ] in
    let high : j < i + calls_in pages q = elim (cases_lt j (i + calls_in pages q)) [
      | inl l ↦ l
      | inr l ↦ absurd (some (sym part_is ∙ behind_part pages j i q l))
    ] in (
      own_last e pages k j s ss behind h.last low high ∙ part_is,
      call_shut e.outer (at + length s.before) i j (expanded_page pages q).outer h.calls w.shut_calls low high,
    )
  where
    no_items : (j : ℕ) (ys : List Item) → GivesSigns j ys → ys ≡ [] → ⊥
    no_items j ys g z =
        let first = some_items j ys g in
        let no : first.0 ∷ first.1 ≡ [] = sym first.2 ∙ z in cc

block_groups : (e : Expanded) (pages : Pages) (k at : ℕ) (s : BlockSpot) (ss : List BlockSpot) (behind : List ℕ) → IsBlockHere e pages k at s ss behind
    → HoldsGroups pages s.block s.text → AreGroupsHere e (call_pieces (children (content_parts_of s.block (part_items pages (calls_to pages k s) s.text))))
block_groups e pages k at s ss behind h w =
    let i : ℕ = calls_to pages k s in
    let xs : List Item = part_items pages i s.text in
    groups_here e xs (call_pieces (children (content_parts_of s.block xs))) (calls_here e pages k at s ss behind h w) (w.groups i)

block_parts : (e : Expanded) (pages : Pages) (k at : ℕ) (s : BlockSpot) (ss : List BlockSpot) (behind : List ℕ) → IsBlockHere e pages k at s ss behind
    → HoldsGroups pages s.block s.text → EachNode (IsPartHere 2 e) (content_parts_of s.block (part_items pages (calls_to pages k s) s.text))
block_parts e pages k at s ss behind h w =
    let i : ℕ = calls_to pages k s in
    let xs : List Item = part_items pages i s.text in
    each_part e xs (content_parts_of s.block xs) (calls_here e pages k at s ss behind h w) (w.parts e.outer i (placed_sources e.outer (at + length s.before) i (expanded_page pages (source_of s.block s.text)).outer h.calls))
  where
    each_part : (e : Expanded) (xs : List Item) (ps : List Part)
        → ((j : ℕ) → GivesSigns j (of_call j xs) → (of_call j e.items ≡ of_call j xs) × (ends_open (source_of_call (slice_get e.outer j)) ≡ false))
        → ArePartsIn e.outer xs ps → EachNode (IsPartHere 2 e) ps
    each_part e xs [] f g = tt
    each_part e xs (loose k o b ∷ ps) f g = each_part e xs ps f g
    each_part e xs (node u ∷ ps) f g = (part_here 2 e xs u f g.0, each_part e xs ps f g.1)

groups_whole : (e : Expanded) (pages : Pages) (k at n : ℕ) (s : BlockSpot) (ss : List BlockSpot) (behind : List ℕ) → IsBlockHere e pages k at s ss behind
    → HoldsGroups pages s.block s.text → IsWhole e (settled n (at + length s.before) (node_here e pages k s))
groups_whole e pages k at n s ss behind h w =
    let i : ℕ = calls_to pages k s in
    let start : ℕ = at + length s.before in
    let xs : List Item = part_items pages i s.text in
    let content : IsContentIn pages s.block s.text = h.content in
    let part : AtPlaces e.outer start None (items_round s.block xs) =
    subst (AtPlaces e.outer start None) (content.items i) (part_placed pages e.outer start i (source_of s.block s.text) h.calls) in
    let ones : AreOnes (items_round s.block xs) = subst AreOnes (content.items i) h.item_ones in
    let placed : AtPlaces e.outer start None (tree_items (tree_round s.block xs)) =
    from_opened e.outer start None (tree_items (tree_round s.block xs)) h.tree_ones
    (subst (AtPlaces e.outer start None) (sym (tree_opened s.block xs (content.is i))) (to_opened e.outer start None (items_round s.block xs) ones part)) in
    tree_whole e start n s.block xs h.holds (block_parts e pages k at s ss behind h w) placed (block_groups e pages k at s ss behind h w) (w.shut i) h.placed h.ones

-- ---- one that calls nothing

own_node : (calls : List OuterCall) (t : ItemTree) → IsOwn t → cut_texts (block_in calls t) ≡ placeless (standing 0 [] t)
own_node calls t h =
    ap cut_texts (walk_own calls None 0 None [] t h.of_page h.has_items ∙ sym (numbers_gone 0 (placed [] t)))
    ∙ sym (texts_same (with_numbers 0 (placed [] t)))

pub calm_node : (pages : Pages) (calls : List OuterCall) (i : ℕ) (k : TextBlock) (q : List ℕ) → IsContent k q → CallsNothing (block_items k q)
    → cut_texts (block_in calls (tree_round k (part_items pages i q))) ≡ placeless (standing 0 [] (block_tree k q))
calm_node pages calls i k q h c =
    ap (λ (xs : List Item). cut_texts (block_in calls (tree_round k xs))) (calm_items pages i q (own_calm k q h c))
    ∙ ap (λ (t : ItemTree). cut_texts (block_in calls t)) (sym (tree_is k q))
    ∙ own_node calls (block_tree k q) (content_own k q h)

calm_whole : (e : Expanded) (pages : Pages) (k n start : ℕ) (s : BlockSpot) → IsContent s.block s.text → CallsNothing (block_items s.block s.text)
    → IsWhole e (settled n start (node_here e pages k s))
calm_whole e pages k n start s h c =
    let t : Tree = settled n start (node_here e pages k s) in
    let u : Tree = standing 0 [] (block_tree s.block s.text) in
    h.untangled e t
    (settled_gone n start (node_here e pages k s)
    ∙ ap placeless (calm_node pages e.outer (calls_to pages k s) s.block s.text h c)
    ∙ placeless_twice u)

-- ---- all of them

whole_from : (e : Expanded) (pages : Pages) (k at : ℕ) (ss : List BlockSpot) (behind : List ℕ) → AreContentsInFolder pages ss
    → AllHold (tree_with_calls pages k ss) (counted ss) → OnesAt (tree_with_calls pages k ss) (counted ss) → SpotOnes pages k ss
    → AreBlockCalls pages e.outer k at ss → AreLast e pages k ss behind → AtPlaces e.outer 0 None e.items → AreOnes e.items → EachWhole pages ss
    → AreWhole e (grouped_at e.outer pages k ss) at ss
whole_from e pages k at [] behind c h g o b l p r w = tt
whole_from e pages k at (s ∷ ss) behind c h g o b l p r w =
    let own : IsBlockHere e pages k at s ss behind = record {
      content = c.0;
      holds = h.0;
      tree_ones = g.0;
      item_ones = o.0;
      calls = b.0;
      last = l;
      placed = p;
      ones = r;
    } in (
      λ n. elim w.0 [
        | inl x ↦ calm_whole e pages k n (at + length s.before) s x.0 x.1
        | inr x ↦ groups_whole e pages k at n s ss behind own x
      ],
      whole_from e pages (calls_past pages k s) ((at + length s.before) + length (source_of s.block s.text)) ss behind c.1
          (hold_moved (tree_with_calls pages k (s ∷ ss)) (counted ss) h.1) (ones_moved (tree_with_calls pages k (s ∷ ss)) (counted ss) g.1) o.1 b.1
          (next_last e pages k s ss behind l) p r w.1,
    )

pub blocks_whole : (pages : Pages) (ss : List BlockSpot) (behind : List ℕ) → AreCallingOutside pages ss behind
    → first_refusal pages (spots_source ss behind) (page_work pages (spots_source ss behind)) ≡ None → EachWhole pages ss
    → AreWhole (expanded_page pages (spots_source ss behind)) (block_with_groups pages ss behind) 0 ss
blocks_whole pages ss behind h e w =
    let page : List ℕ = spots_source ss behind in
    let x : Expanded = expanded_page pages page in
    let by_parts = is_by_parts pages ss behind h.blocks.called in
    whole_from x pages 0 0 ss behind h.blocks.contents h.hold (ones_in_tree pages ss behind h.blocks h.stand e) (ones_in_page pages ss behind h.blocks e)
    (block_calls pages ss behind h.blocks.called) (λ j l. ap (of_call j) by_parts.items) (page_placed pages page)
    (items_ones pages page (called_utf8 pages ss behind h.blocks.called) e) w
