-- A paragraph or heading of a page's tree that holds its calls has a byte that no group in it has: of its delimiters, or of a node of the page's own.
use Rattle.std.proofs.Common.{arith, ◌≡◌, ◌≤◌, ◌<◌, ◌⊎◌, inl, inr, ℕ, zero, suc, ◌+◌, ◌==◌, Bool, true, false, Option, None, Some, List, [], ◌∷◌, ◌++◌, length, refl, sym, ap, ◌∙◌, subst, append-nil, append_assoc, length-append}
use Rattle.std.specs.Prelude.{if◌then◌else◌}
use Rattle.std.specs.List.{list_any}
use Rattle.std.specs.Str.{IsUtf8}
use Rattle.wt_tree.specs.declared.kind.Kind.TheVariants as kind
use Rattle.wt_tree.specs.Kinds.{is_leaf}
use Rattle.wt_tree.specs.Source.{flat, flat_of_all}
use Rattle.wt_tree.specs.Tiling.{is_group, HasNoGroup}
use Rattle.wt_tree.specs.Tree.{Tree, tree, Trees, none, more, label}
use Rattle.wt_span.specs.Items.{Item}
use Rattle.wt_span.specs.Origins.{OuterCall}
use Rattle.wt_inline.specs.ItemTree.{plain, Head, ItemTree, inner, ItemTrees, forest, tree_items, held_by_all}
use Rattle.wt_inline.specs.Parts.{Part, children}
use Rattle.wt_annotated.specs.Clean.{is_page}
use Rattle.wt_annotated.specs.CutTexts.{cut_texts, all_cut_texts}
use Rattle.wt_annotated.specs.Annotated.{kept_label}
use Rattle.wt_annotated.specs.Labels.{if_inner}
use Rattle.wt_annotated.specs.Numbering.{next_after, count}
use Rattle.wt_annotated.specs.Seams.{first_of, text_from}
use Rattle.wt_checks.specs.Kept.{children as nodes_in}
use Rattle.wt_context.specs.Line.{line_parts}
use Rattle.wt_expand.specs.PageCalls.{expanded_page}
use Rattle.wt_expand.specs.Work.{Pages}
use Rattle.wt_commands.specs.Answers.{refusal_of_page}
use Rattle.wt_page_round_trip.proofs.OpenedPages.{AreOnes}
use Rattle.wt_part_laws.specs.CallPieces.{IsOwnOrGiven, IsRoundNode, CallPiece, own, given, given_before, piece_before, call_pieces, node_in, piece_in_page, pieces_in_page}
use Rattle.wt_part_laws.specs.Expanded.{part_items}
use Rattle.wt_part_laws.specs.HeldCalls.{block_in, HoldsItsCalls, IsRoundGiven}
use Rattle.wt_part_laws.specs.Placeless.{placeless_label, placeless, all_placeless}
use Rattle.wt_part_laws.specs.Rounded.{IsOwn}
use Rattle.wt_part_laws.specs.Standing.{standing}
use Rattle.wt_part_laws.proofs.CallPieces.{trees_of, all_trees, ArePieces, AllNodes, all_pieces, children_of_each, children_given}
use Rattle.wt_part_laws.proofs.HeldBlocks.{given_block_is}
use Rattle.wt_part_laws.proofs.OwnWalks.{has_page}
use Rattle.wt_text_edit_laws.specs.Contents.{content_parts_of}
use Rattle.wt_text_edit_laws.specs.LonePages.{page_chars}
use Rattle.wt_text_edit_laws.specs.TextBlocks.{TextBlock, a_paragraph, a_heading, block_tree}
use Rattle.wt_text_edit_laws.specs.TypedHeadings.{Sides, equals, opening, closing_items}
use Rattle.wt_beside_laws.specs.Nests.{style_tree}
use Rattle.wt_beside_laws.proofs.Groups.RoundNodes.{no_group as no_round_group}
use Rattle.wt_beside_laws.proofs.Made.OldBlocks.{no_group}
use Rattle.wt_beside_laws.proofs.StyledGroups.Blocks.{style_round}
use Rattle.wt_called_edit_laws.specs.CalledContents.{tree_round, AreItemsOf}
use Rattle.wt_called_edit_laws.specs.CallingBlocks.{IsContentIn}
use Rattle.wt_called_edit_laws.specs.Covered.{NoneGroupAt, HasFreeByte}
use Rattle.wt_called_edit_laws.specs.EditableBlocks.{IsEditableContent}
use Rattle.wt_called_edit_laws.specs.EditableNodes.{IsEditable}
use Rattle.wt_called_edit_laws.specs.Groups.{called_tree}
use Rattle.wt_called_edit_laws.specs.RowBlocks.{IsReachedAt, IsReachedIn}
use Rattle.wt_called_edit_laws.specs.Settled.{settled, all_settled}
use Rattle.wt_called_edit_laws.specs.WholeContents.{ArePartsIn, HoldsGroups, IsAnyNode, IsPartIn, IsShutNode}
use Rattle.wt_called_edit_laws.proofs.BareInsides.{IsBare, AreBare}
use Rattle.wt_called_edit_laws.proofs.BlockTexts.{block_flat}
use Rattle.wt_called_edit_laws.proofs.BlocksOutside.{called_bare, inside_size, inner_bare, all_placeless_bare, beside_one, beside_all}
use Rattle.wt_called_edit_laws.proofs.CallingMade.{calm_block}
use Rattle.wt_called_edit_laws.proofs.Cells.CallingFrames.{content_in}
use Rattle.wt_called_edit_laws.proofs.PageBody.{page_body}
use Rattle.wt_called_edit_laws.proofs.SettledNodes.{settled_gone, placeless_twice, placeless_groupless, settled_groupless}
use Rattle.wt_called_edit_laws.proofs.Whole.PartsIn.{parts_pieces}
use Rattle.wt_called_edit_laws.proofs.Whole.SourcesAt.{sources_somewhere}
use Rattle.wt_called_edit_laws.proofs.Whole.Pieces.{AreShutTrees, children_shut, own_is, node_holds}
use Rattle.wt_called_edit_laws.proofs.Whole.Uncalled.{SomeOwn, some_own, none_some, first_given}
use Rattle.wt_called_edit_laws.proofs.AllTold.BlockBytes.{own_some}
use Rattle.wt_called_edit_laws.proofs.AllTold.ChosenLines.{ones_front, ones_behind}
use Rattle.wt_called_edit_laws.proofs.AllTold.NodePlaces.{if_false, page_nodes_settled}
use Rattle.wt_called_edit_laws.proofs.AllTold.Outside.{with_false, none_at, children_bare}

-- ---- a node of a page's tree is settled

pub record IsSettledThere (u : Tree) : Type 0 where
  pub number : ℕ
  pub at : ℕ
  pub is : u ≡ settled number at (placeless u)
  pub bare : IsBare (placeless u)

mutual
  settled_to : (n at : ℕ) (is : List ℕ) (w u : Tree) → IsBare (placeless w) → IsReachedAt is (settled n at (placeless w)) u → IsSettledThere u
  settled_to n at [] w u h e =
      let same : placeless w ≡ placeless u = sym (placeless_twice w) ∙ sym (settled_gone n at (placeless w)) ∙ ap placeless e in
      record { number = n; at = at; is = sym e ∙ ap (settled n at) same; bare = subst IsBare same h }
  settled_to n at (i ∷ is) (tree l ts) u h e =
      let vs : Trees = all_placeless ts in
      let us : Trees = all_settled (next_after l.kind n) (at + length l.opening) vs in
      let own : Trees = if is_group l.kind then vs else us in
      let same : own ≡ us = if_false (is_group l.kind) vs us e.0 in
      let bare = inner_bare (is_group l.kind) l vs e.0 h in
      settled_among (next_after l.kind n) (at + length l.opening) i is ts u bare.1 (subst (λ (ws : Trees). IsReachedIn i is ws u) same e.1)

  settled_among : (n at i : ℕ) (is : List ℕ) (ws : Trees) (u : Tree) → AreBare (all_placeless ws) → IsReachedIn i is (all_settled n at (all_placeless ws)) u
      → IsSettledThere u
  settled_among n at i is none u h e = absurd e
  settled_among n at zero is (more t ts) u h e = settled_to n at is t u h.0 e
  settled_among n at (suc i) is (more t ts) u h e = settled_among (n + count (placeless t)) (at + length (flat (placeless t))) i is ts u h.1 e

pub node_settled : (pages : Pages) (page : List ℕ) (i : ℕ) (is : List ℕ) (u : Tree) → IsUtf8 page → refusal_of_page pages page ≡ None
    → IsReachedIn i is (nodes_in (called_tree pages page)) u → IsSettledThere u
node_settled pages page i is u utf8 unrefused e =
    let t : Tree = called_tree pages page in
    let group : is_group (label t).kind ≡ false = ap is_group (page_body pages page utf8 unrefused).kind in
    let m : ℕ = next_after (label t).kind 1 in
    settled_among m 0 i is (nodes_in t) u (all_placeless_bare (nodes_in t) (children_bare t group (called_bare pages page)))
    (subst (λ (ws : Trees). IsReachedIn i is ws u) (page_nodes_settled pages page utf8 unrefused) e)

-- ---- a free byte of a tree

-- with this number, from this byte on
abbrev pub FreeFrom : ℕ → ℕ → Tree → Type 0
FreeFrom n at v = HasFreeByte (settled n at v) at (at + length (flat v))

-- the first of its opening delimiter
front_free : (n at : ℕ) (v : Tree) → IsBare v → is_group (label v).kind ≡ false → is_leaf (label v).kind ≡ false → 1 ≤ length (label v).opening → FreeFrom n at v
front_free n at (tree l ts) h g leaf some =
    let from : ℕ = at + length l.opening in
    let us : Trees = all_settled (next_after l.kind n) from ts in
    let bare = inner_bare (is_group l.kind) l ts g h in
    let size : length l.opening + length (flat_of_all ts) ≤ length (flat (tree l ts)) = inside_size (is_leaf l.kind) l.own l.opening (flat_of_all ts) l.closing leaf in
    let early : at < from = omega (arith, some) in
    (at, omega arith, omega (arith, some, size), with_false (is_group l.kind) _ at ts us g (beside_all at (next_after l.kind n) from ts bare.1 (inl early)))

-- the first of one without groups
calm_free : (n at : ℕ) (v : Tree) → HasNoGroup v → 1 ≤ length (flat v) → FreeFrom n at v
calm_free n at v h some = (at, omega arith, omega (arith, some), none_at at (settled n at v) (settled_groupless n at v h))

-- ---- a piece of the page's own

abbrev IsNoGroupNode : ItemTree → Type 0
IsNoGroupNode (inner h q ts c) = is_group h.kind ≡ false

-- a node of the page without groups, or one with delimiters of its own
abbrev IsFreePiece : ItemTree → Type 0
IsFreePiece t = (IsOwn t × HasNoGroup (standing 0 [] t)) ⊎ (IsRoundNode t × IsNoGroupNode t)

own_free : (calls : List OuterCall) (n at : ℕ) (t : ItemTree) → IsOwn t → HasNoGroup (standing 0 [] t) → AreOnes (tree_items t)
    → FreeFrom n at (cut_texts (node_in calls t))
own_free calls n at t o g ones =
    let some : 1 ≤ length (text_from calls None (tree_items t)) = own_some calls None (tree_items t) ones (has_page t o.has_items) in
    let size : length (flat (cut_texts (node_in calls t))) ≡ length (text_from calls None (tree_items t)) = ap length (block_flat calls t (node_holds t (inl o))) in
    calm_free n at (cut_texts (node_in calls t)) (subst HasNoGroup (sym (own_is calls t o)) (placeless_groupless (standing 0 [] t) g)) (omega (arith, some, size))

delimited_free : (calls : List OuterCall) (n at : ℕ) (h : Head) (q : List Item) (ts : ItemTrees) (c : List Item) → is_leaf h.kind ≡ false → is_group h.kind ≡ false
    → list_any is_page q ≡ true → AreOnes q → IsBare (cut_texts (node_in calls (inner h q ts c))) → FreeFrom n at (cut_texts (node_in calls (inner h q ts c)))
delimited_free calls n at h q ts c leaf g any ones bare =
    front_free n at (cut_texts (node_in calls (inner h q ts c))) bare g leaf
    (subst (λ (v : Bool). 1 ≤ length (if_inner v (text_from calls None q))) (sym leaf) (own_some calls None q ones any))

round_free : (calls : List OuterCall) (n at : ℕ) (t : ItemTree) → IsRoundNode t → IsNoGroupNode t → AreOnes (tree_items t) → IsBare (cut_texts (node_in calls t))
    → FreeFrom n at (cut_texts (node_in calls t))
round_free calls n at (inner h q ts c) r g ones bare = delimited_free calls n at h q ts c r.0 g r.2 (ones_front q (held_by_all ts ++ c) ones) bare

piece_free : (calls : List OuterCall) (n at : ℕ) (t : ItemTree) → IsFreePiece t → AreOnes (tree_items t) → IsBare (cut_texts (node_in calls t))
    → FreeFrom n at (cut_texts (node_in calls t))
piece_free calls n at t (inl f) ones bare = own_free calls n at t f.0 f.1 ones
piece_free calls n at t (inr f) ones bare = round_free calls n at t f.0 f.1 ones bare

-- ---- side by side

-- what holds of the page's own among these
abbrev OwnAre : (ItemTree → Type 0) → List CallPiece → Type 0
OwnAre P [] = Unit {0}
OwnAre P (own t ∷ ps) = P t × OwnAre P ps
OwnAre P (given j t ts ∷ ps) = OwnAre P ps

are_before : (P : ItemTree → Type 0) (j : ℕ) (t : ItemTree) (ps : List CallPiece) → OwnAre P ps → OwnAre P (given_before j t ps)
are_before P j t [] h = tt
are_before P j t (own u ∷ ps) h = h
are_before P j t (given k u us ∷ ps) h = by (j == k)
  where
    by : (v : Bool) → OwnAre P (if v then given j t (u ∷ us) ∷ ps else given j t [] ∷ given k u us ∷ ps)
    by true = h
    by false = h

are_with : (P : ItemTree → Type 0) (o : Option ℕ) (t : ItemTree) (ps : List CallPiece) → (o ≡ None → P t) → OwnAre P ps → OwnAre P (piece_before o t ps)
are_with P None t ps f h = (f refl, h)
are_with P (Some j) t ps f h = are_before P j t ps h

-- of a node whose first item is the page's
abbrev WhereOwn : (ItemTree → Type 0) → ItemTree → Type 0
WhereOwn P t = first_of (tree_items t) None ≡ None → P t

own_are : (P : ItemTree → Type 0) (ts : List ItemTree) → AllNodes (WhereOwn P) ts → OwnAre P (call_pieces ts)
own_are P [] h = tt
own_are P (t ∷ ts) h = are_with P (first_of (tree_items t) None) t (call_pieces ts) h.0 (own_are P ts h.1)

simple_free : (t : ItemTree) → IsShutNode t → IsOwnOrGiven t → WhereOwn IsFreePiece t
simple_free t s (inl o) = λ e. inl (o, (s o.of_page).1)
simple_free t s (inr g) = λ e. absurd (none_some g.0 (sym (first_given g.0 t g.1) ∙ e))

style_no_group : (bold : Bool) (ps : List Part) → IsNoGroupNode (style_tree bold ps)
style_no_group true ps = refl
style_no_group false ps = refl

style_free : (bold : Bool) (ps : List Part) → IsFreePiece (style_tree bold ps)
style_free bold ps = inr (style_round bold ps, style_no_group bold ps)

any_free : (calls : List OuterCall) (t : ItemTree) → IsShutNode t → IsAnyNode calls t → WhereOwn IsFreePiece t
any_free calls t s (inl h) = simple_free t s h
any_free calls (inner h q ts c) s (inr r) = λ e. inr (r.round, no_round_group h.kind r.round.0)

part_free : (n : ℕ) (calls : List OuterCall) (xs : List Item) (t : ItemTree) → IsShutNode t → IsPartIn n calls xs t → WhereOwn IsFreePiece t
part_free zero calls xs t s h = any_free calls t s h
part_free (suc n) calls xs t s (inl h) = any_free calls t s h
part_free (suc n) calls xs t s (inr r) = λ e. subst IsFreePiece (sym r.2) (style_free r.0 r.1)

parts_free : (n : ℕ) (calls : List OuterCall) (xs : List Item) (ts : List ItemTree) → AreShutTrees ts → AllNodes (IsPartIn n calls xs) ts
    → AllNodes (WhereOwn IsFreePiece) ts
parts_free n calls xs [] s h = tt
parts_free n calls xs (t ∷ ts) s h = (part_free n calls xs t s.0 h.0, parts_free n calls xs ts s.1 h.1)

forest_both : (ts us : List ItemTree) → held_by_all (forest (ts ++ us)) ≡ held_by_all (forest ts) ++ held_by_all (forest us)
forest_both [] us = refl
forest_both (t ∷ ts) us =
    ap (λ (xs : List Item). tree_items t ++ xs) (forest_both ts us) ∙ sym (append_assoc (tree_items t) (held_by_all (forest ts)) (held_by_all (forest us)))

-- a byte that no group among these nodes has
abbrev FreeAmong : ℕ → ℕ → Trees → Type 0
FreeAmong n at cs = (b : ℕ) × (at ≤ b) × (b < at + length (flat_of_all cs)) × NoneGroupAt b (all_settled n at cs)

some_free : (calls : List OuterCall) (ps : List CallPiece) (n at : ℕ) → SomeOwn ps → OwnAre IsFreePiece ps → AreBare (all_cut_texts (pieces_in_page calls ps))
    → AreOnes (held_by_all (forest (trees_of ps))) → FreeAmong n at (all_cut_texts (pieces_in_page calls ps))
some_free calls [] n at s f bare ones = absurd s
some_free calls (own t ∷ ps) n at s f bare ones =
    let u : Tree = cut_texts (node_in calls t) in
    let us : Trees = all_cut_texts (pieces_in_page calls ps) in
    let both : length (flat u ++ flat_of_all us) ≡ length (flat u) + length (flat_of_all us) = length-append (flat u) (flat_of_all us) in
    let own_ones : AreOnes (tree_items t) = ones_front (tree_items t) (held_by_all (forest (trees_of ps))) ones in
    let r : FreeFrom n at u = piece_free calls n at t f.0 own_ones bare.0 in
    let high : r.0 < at + length (flat u) = r.2 in
    (r.0, r.1, omega (arith, high, both), (r.3, beside_all r.0 (n + count u) (at + length (flat u)) us bare.1 (inl high)))
some_free calls (given j t ts ∷ ps) n at s f bare ones =
    let u : Tree = cut_texts (piece_in_page calls (given j t ts)) in
    let us : Trees = all_cut_texts (pieces_in_page calls ps) in
    let both : length (flat u ++ flat_of_all us) ≡ length (flat u) + length (flat_of_all us) = length-append (flat u) (flat_of_all us) in
    let others : AreOnes (held_by_all (forest (trees_of ps))) =
    ones_behind (held_by_all (forest (t ∷ ts))) (held_by_all (forest (trees_of ps))) (subst AreOnes (forest_both (t ∷ ts) (trees_of ps)) ones) in
    let r : FreeAmong (n + count u) (at + length (flat u)) us = some_free calls ps (n + count u) (at + length (flat u)) s f bare.1 others in
    let low : at + length (flat u) ≤ r.0 = r.1 in
    let high : r.0 < (at + length (flat u)) + length (flat_of_all us) = r.2 in
    (r.0, omega (arith, low), omega (arith, high, both), (beside_one r.0 n at u bare.0 (inr low), r.3))

-- ---- a paragraph

abbrev para_node : List OuterCall → List CallPiece → Tree
para_node calls us = tree (placeless_label (kept_label false (plain kind.Para) 0 [] [] [])) (pieces_in_page calls us)

-- its pieces
pieces_free : (calls : List OuterCall) (us : List CallPiece) (n at : ℕ) → SomeOwn us → OwnAre IsFreePiece us → IsBare (cut_texts (para_node calls us))
    → AreOnes (held_by_all (forest (trees_of us))) → FreeFrom n at (cut_texts (para_node calls us))
pieces_free calls us n at s f bare ones =
    let cs : Trees = all_cut_texts (pieces_in_page calls us) in
    let r : FreeAmong (next_after kind.Para n) (at + 0) cs = some_free calls us (next_after kind.Para n) (at + 0) s f bare.1 ones in
    let low : at + 0 ≤ r.0 = r.1 in
    let high : r.0 < (at + 0) + length (flat_of_all cs) = r.2 in
    let size : length (flat_of_all cs ++ []) ≡ length (flat_of_all cs) = ap length (append-nil (flat_of_all cs)) in
    (r.0, omega (arith, low), omega (arith, high, size), r.3)

paragraph_free : (pages : Pages) (calls : List OuterCall) (n at i : ℕ) (q : List ℕ) → HoldsItsCalls (tree_round a_paragraph (part_items pages i q))
    → HoldsGroups pages a_paragraph q → IsBare (cut_texts (block_in calls (tree_round a_paragraph (part_items pages i q))))
    → AreOnes (tree_items (tree_round a_paragraph (part_items pages i q))) → FreeFrom n at (cut_texts (block_in calls (tree_round a_paragraph (part_items pages i q))))
paragraph_free pages calls n at i q hold whole bare ones =
    let xs : List Item = part_items pages i q in
    let ps : List Part = content_parts_of a_paragraph xs in
    let ts : List ItemTree = children ps in
    let us : List CallPiece = call_pieces ts in
    let there = sources_somewhere i (expanded_page pages q).outer in
    let each : ArePartsIn there.0 xs ps = whole.parts there.0 i there.1 in
    let r : IsRoundGiven (plain kind.Para) [] ps [] = record {
      no_leaf = refl;
      own_opening = refl;
      own_closing = refl;
      parts = parts_pieces 2 there.0 xs ps each;
      some = hold.some;
    } in
    let are : ArePieces us = all_pieces ts (children_given ps r.parts) in
    let some : SomeOwn us =
    some_own us are
    (ap (λ (vs : List ItemTree). list_any is_page (held_by_all (forest vs))) (all_trees ts)
    ∙ ap (list_any is_page) (sym (append-nil (held_by_all (forest ts)))) ∙ hold.some) in
    let free : OwnAre IsFreePiece us =
    own_are IsFreePiece ts (parts_free 2 there.0 xs ts (children_shut ps (whole.shut i)) (children_of_each (IsPartIn 2 there.0 xs) (λ t g. inl (inl g)) ps each)) in
    let same : block_in calls (tree_round a_paragraph xs) ≡ para_node calls us = given_block_is calls (plain kind.Para) [] ps [] r in
    let held : AreOnes (held_by_all (forest ts)) = ones_front (held_by_all (forest ts)) [] ones in
    let own : AreOnes (held_by_all (forest (trees_of us))) = subst (λ (vs : List ItemTree). AreOnes (held_by_all (forest vs))) (sym (all_trees ts)) held in
    subst (λ (u : Tree). FreeFrom n at (cut_texts u)) (sym same)
    (pieces_free calls us n at some free (subst (λ (u : Tree). IsBare (cut_texts u)) same bare) own)

-- ---- a heading

some_equals : (n : ℕ) (bs : List ℕ) → 1 ≤ n → list_any is_page (page_chars (equals n ++ bs)) ≡ true
some_equals zero bs h = absurd (omega (arith, h))
some_equals (suc n) bs h = refl

heading_free : (calls : List OuterCall) (n at : ℕ) (s : Sides) (xs : List Item) → 1 ≤ s.level → IsBare (cut_texts (block_in calls (tree_round (a_heading s) xs)))
    → AreOnes (tree_items (tree_round (a_heading s) xs)) → FreeFrom n at (cut_texts (block_in calls (tree_round (a_heading s) xs)))
heading_free calls n at s xs level bare ones =
    let ts : ItemTrees = forest (children (line_parts xs)) in
    delimited_free calls n at (plain (kind.Heading s.level)) (page_chars (opening s)) ts (closing_items s) refl refl (some_equals s.level s.lead level)
    (ones_front (page_chars (opening s)) (held_by_all ts ++ closing_items s) ones) bare

-- ---- any of them

pub any_editable : (pages : Pages) (k : TextBlock) (q : List ℕ) → IsEditable pages k q → IsEditableContent pages k q
any_editable pages k q (inl c) = inl c
any_editable pages k q (inr h) = inr h.1

pub any_content : (pages : Pages) (k : TextBlock) (q : List ℕ) → IsEditable pages k q → IsContentIn pages k q
any_content pages k q (inl c) = content_in pages k q c.0 c.1
any_content pages k q (inr h) = h.0

pub block_free : (pages : Pages) (calls : List OuterCall) (n at i : ℕ) (k : TextBlock) (q : List ℕ) → IsEditable pages k q
    → IsBare (cut_texts (block_in calls (tree_round k (part_items pages i q)))) → AreOnes (tree_items (tree_round k (part_items pages i q)))
    → 1 ≤ length (flat (cut_texts (block_in calls (tree_round k (part_items pages i q)))))
    → FreeFrom n at (cut_texts (block_in calls (tree_round k (part_items pages i q))))
block_free pages calls n at i a_paragraph q (inr h) bare ones some = paragraph_free pages calls n at i q (h.1.holds i) h.1.whole bare ones
block_free pages calls n at i a_paragraph q (inl h) bare ones some =
    let v : Tree = cut_texts (block_in calls (tree_round a_paragraph (part_items pages i q))) in
    let u : Tree = standing 0 [] (block_tree a_paragraph q) in
    let calm : HasNoGroup (placeless u) = placeless_groupless u (no_group a_paragraph q 0 [] h.0.utf8 h.0.is h.0.unended h.1) in
    calm_free n at v (subst HasNoGroup (sym (calm_block pages calls i a_paragraph q h.0 h.1)) calm) some
block_free pages calls n at i (a_heading s) q h bare ones some =
    let c : IsContentIn pages (a_heading s) q = any_content pages (a_heading s) q h in
    let items : AreItemsOf (a_heading s) (part_items pages i q) = c.is i in
    heading_free calls n at s (part_items pages i q) items.sides.some bare ones
