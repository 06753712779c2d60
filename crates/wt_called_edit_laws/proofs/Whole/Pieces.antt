-- Nodes of the page side by side with groups of what calls give, where they are in the page: no tag is open in them, and no group has a fault.
use Rattle.std.proofs.Common.{arith, ◌≡◌, ◌⊎◌, inl, inr, ℕ, zero, suc, ◌+◌, ◌==◌, Bool, true, false, Option, None, Some, List, [], ◌∷◌, ◌++◌, length, map, refl, sym, ap, ap₂, ◌∙◌, subst, append_assoc, append-nil, length-append}
use Rattle.std.specs.Prelude.{slice_get, ◌||◌, if◌then◌else◌}
use Rattle.std.specs.List.{list_all, list_any}
use Rattle.wt_tree.specs.declared.edit_shape.InlineForm.{InlineForm}
use Rattle.wt_tree.specs.declared.edit_shape.InlineForm.TheVariants as inline
use Rattle.wt_tree.specs.declared.kind.Ranges.{Ranges}
use Rattle.wt_tree.specs.EditShapes.{edit_shape}
use Rattle.wt_tree.specs.Kinds.{is_leaf}
use Rattle.wt_tree.specs.Source.{flat}
use Rattle.wt_tree.specs.Tiling.{is_group, HasNoGroup, NoneIsGroup}
use Rattle.wt_tree.specs.Tree.{Label, Tree, tree, Trees, none, more, label}
use Rattle.wt_span.specs.Items.{Item, char, sources, call_of}
use Rattle.wt_span.specs.Origins.{OuterCall, Expanded}
use Rattle.wt_span.specs.Cuts.{source_of_call}
use Rattle.wt_span.specs.Runs.{runs, IsRun, AreRuns}
use Rattle.wt_span.proofs.RunLaws.{runs_are}
use Rattle.wt_tiles.specs.Glyphs.{glyph_of}
use Rattle.wt_inline.specs.declared.loose.Loose.TheVariants.{Text, Sep}
use Rattle.wt_inline.specs.ItemTree.{Head, plain, ItemTree, inner, ItemTrees, nothing, further, forest, tree_items, held_by_all}
use Rattle.wt_inline.specs.Parts.{Part, loose, node, held_parts, one_leaf, loose_leaf, child, children}
use Rattle.wt_context.specs.Line.{line_parts}
use Rattle.wt_context.specs.Styled.{style_kind}
use Rattle.wt_annotated.specs.Annotated.{no_place, unplaced, all_unplaced}
use Rattle.wt_annotated.specs.Clean.{is_page}
use Rattle.wt_annotated.specs.CutTexts.{cut_texts, all_cut_texts}
use Rattle.wt_annotated.specs.Labels.{label_at}
use Rattle.wt_annotated.specs.Numbering.{count, next_after, with_numbers}
use Rattle.wt_annotated.specs.Seams.{first_of, last_of, parted, text_from}
use Rattle.wt_annotated.specs.WithoutCalls.{inside_by, placed}
use Rattle.wt_annotated.proofs.Seams.{last_append, text_append_from}
use Rattle.wt_isolation.specs.GroupItems.{with_break_anew, empty_nowiki, items_alone}
use Rattle.wt_isolation.specs.OpenTags.{ends_open, open_by, node_ends_open, any_ends_open}
use Rattle.wt_isolation.specs.OpenTexts.{in_style}
use Rattle.wt_selser.specs.GroupFaults.{is_faulty, faulty_at, is_faulty_node, has_faulty_group}
use Rattle.wt_page_round_trip.proofs.OpenedPages.{AreOnes}
use Rattle.wt_part_laws.specs.CallPieces.{AreItemsOf, IsOfCall, AreOfCall, IsOwnOrGiven, IsRoundNode, IsPieceNode, EachNode, ArePieceNodes, CallPiece, own, given, given_before, piece_before, call_pieces, group_of_call, node_in, piece_in_page, pieces_in_page}
use Rattle.wt_part_laws.specs.HeldCalls.{HoldsItsCalls, block_of_pieces}
use Rattle.wt_part_laws.specs.Placeless.{placeless, all_placeless}
use Rattle.wt_part_laws.specs.Rounded.{IsOwn}
use Rattle.wt_part_laws.specs.Standing.{standing}
use Rattle.wt_part_laws.proofs.CallPieces.{piece_trees, trees_of, all_trees, step_same, own_first, own_last, piece_clean, own_node_in, round_some, IsPiece, piece_call, IsApart, apart_none, ArePieces, AllNodes, all_pieces, first_of_call, all_items, children_of_each, children_given}
use Rattle.wt_part_laws.proofs.CallTexts.{last_within, call_text}
use Rattle.wt_part_laws.proofs.GroupsStay.{numbers_gone}
use Rattle.wt_part_laws.proofs.HeldBlocks.{given_block_is}
use Rattle.wt_part_laws.proofs.OwnWalks.{text_own, has_page}
use Rattle.wt_part_laws.proofs.Recuts.{texts_same}
use Rattle.wt_text_edit_laws.proofs.Blocks.Untangled.{open_same}
use Rattle.wt_beside_laws.specs.Given.{GivenSign, given_glyphs, BeginsGiven, AreGivenSigns, GivesSigns}
use Rattle.wt_beside_laws.specs.Nests.{marks, style_tree}
use Rattle.wt_beside_laws.specs.RoundCalls.{IsUnstyledForm}
use Rattle.wt_beside_laws.proofs.Groups.RoundNodes.{no_group}
use Rattle.wt_beside_laws.proofs.Groups.Faults.{no_fault}
use Rattle.wt_beside_laws.proofs.Groups.GivenTiles.{given_are, some_glyph}
use Rattle.wt_beside_laws.proofs.StyledGroups.Blocks.{style_round}
use Rattle.wt_called_edit_laws.specs.Settled.{settled, all_settled}
use Rattle.wt_called_edit_laws.specs.WholeContents.{of_call, IsShutNode, AreShutParts, IsShutRound, IsAnyNode}
use Rattle.wt_called_edit_laws.proofs.BlockTexts.{block_flat}
use Rattle.wt_called_edit_laws.proofs.SettledNodes.{settled_open, placeless_groupless, settled_groupless}
use Rattle.wt_called_edit_laws.proofs.Whole.CallPlaces.{IsAtPlace, AtPlaces, places_split}
use Rattle.wt_called_edit_laws.proofs.Whole.InSlice.{call_span, span_long, call_items_in}

-- ---- a node without groups has no fault

style_fine : (w : InlineForm) → in_style w false ≡ false
style_fine inline.Nothing = refl
style_fine inline.Characters = refl
style_fine inline.Bold = refl
style_fine inline.Italic = refl
style_fine inline.Shown = refl
style_fine inline.PageLink = refl
style_fine inline.ExternalLink = refl
style_fine inline.Tag = refl
style_fine inline.Break = refl
style_fine inline.AsItStood = refl

mutual
  node_fine : (e : Expanded) (t : Tree) → HasNoGroup t → is_faulty_node e t ≡ false
  node_fine e (tree l ts) h =
      ap (λ (b : Bool). if b then faulty_at e l.ranges ts else in_style (edit_shape l.kind).inline (has_faulty_group e ts)) h.0
      ∙ ap (in_style (edit_shape l.kind).inline) (all_fine e ts h.1) ∙ style_fine (edit_shape l.kind).inline

  all_fine : (e : Expanded) (ts : Trees) → NoneIsGroup ts → has_faulty_group e ts ≡ false
  all_fine e none h = refl
  all_fine e (more t ts) h = ap (λ (b : Bool). b || has_faulty_group e ts) (node_fine e t h.0) ∙ all_fine e ts h.1

-- ---- nodes of which none ends in an open tag

abbrev pub AreShutTrees : List ItemTree → Type 0
AreShutTrees [] = Unit {0}
AreShutTrees (t ∷ ts) = IsShutNode t × AreShutTrees ts

leaf_shut : (xs : List Item) → IsShutNode (loose_leaf Text xs)
unfolding label_at
leaf_shut xs = λ e. (refl, (refl, tt))

past_run : (o : Option ℕ) (b : ℕ) (r others : List Part) → IsRun one_leaf (loose Text o b ∷ r) others → AreShutParts (r ++ others) → AreShutParts others
past_run o b [] others run h = h
past_run o b (loose Text i c ∷ r) others run h = past_run i c r others run.1 h
past_run o b (loose Sep i c ∷ r) others run h = absurd h
past_run o b (node x ∷ r) others run h = absurd (let no = run.0 in cc)

runs_shut : (rs : List (List Part)) (ps : List Part) → AreRuns one_leaf rs ps → AreShutParts ps → AreShutTrees (map child rs)
runs_shut [] ps a h = tt
runs_shut ([] ∷ rs) ps a h = absurd a.2
runs_shut ((loose Text o b ∷ r) ∷ rs) ps a h =
    let all : AreShutParts (r ++ a.0) = subst AreShutParts a.1 h in
    (leaf_shut (char o b ∷ held_parts r), runs_shut rs a.0 a.3 (past_run o b r a.0 a.2 all))
runs_shut ((loose Sep o b ∷ r) ∷ rs) ps a h = absurd (subst AreShutParts a.1 h)
runs_shut ((node u ∷ []) ∷ rs) ps a h =
    let all : AreShutParts (node u ∷ a.0) = subst AreShutParts a.1 h in
    (all.0, runs_shut rs a.0 a.3 all.1)
runs_shut ((node u ∷ p ∷ r) ∷ rs) ps a h = absurd (let no = a.2.0 in cc)

pub children_shut : (ps : List Part) → AreShutParts ps → AreShutTrees (children ps)
unfolding children
children_shut ps h = runs_shut (runs one_leaf ps) ps (runs_are one_leaf ps) h

shut_rest : (ts us : List ItemTree) → AreShutTrees (ts ++ us) → AreShutTrees us
shut_rest [] us h = h
shut_rest (t ∷ ts) us h = shut_rest ts us h.1

-- ---- a piece

abbrev piece_items : CallPiece → List Item
piece_items p = held_by_all (forest (piece_trees p))

held_both : (ts us : List ItemTree) → held_by_all (forest (ts ++ us)) ≡ held_by_all (forest ts) ++ held_by_all (forest us)
held_both [] us = refl
held_both (t ∷ ts) us =
    ap (λ (xs : List Item). tree_items t ++ xs) (held_both ts us) ∙ sym (append_assoc (tree_items t) (held_by_all (forest ts)) (held_by_all (forest us)))

-- the items of a group
record HasFirst (j : ℕ) (xs : List Item) : Type 0 where
  first : Item
  others : List Item
  is : xs ≡ first ∷ others
  of_call : AreItemsOf j (first ∷ others)

group_items : (j : ℕ) (t : ItemTree) (ts : List ItemTree) → IsOfCall j t → AreOfCall j ts → HasFirst j (piece_items (given j t ts))
group_items j t ts h k =
    let is : held_by_all (forest (t ∷ ts)) ≡ h.first ∷ (h.others ++ held_by_all (forest ts)) = ap (λ (xs : List Item). xs ++ held_by_all (forest ts)) h.is in
    record { first = h.first; others = h.others ++ held_by_all (forest ts); is = is; of_call = subst (AreItemsOf j) is (all_items j (t ∷ ts) (h, k)) }

last_piece : (p : CallPiece) → IsPiece p → (o : Option ℕ) → last_of o (piece_items p) ≡ piece_call p
last_piece (own t) h o = ap (last_of o) (append-nil (tree_items t)) ∙ own_last t o h
last_piece (given j t ts) h o =
    let g = group_items j t ts h.0 h.1 in
    ap (last_of o) g.is ∙ last_within j (call_of g.first) g.others g.of_call.1 g.of_call.0

-- a node of the page is what it is by itself
pub own_is : (calls : List OuterCall) (t : ItemTree) → IsOwn t → cut_texts (node_in calls t) ≡ placeless (standing 0 [] t)
own_is calls t h =
    ap cut_texts (own_node_in calls t h ∙ sym (numbers_gone 0 (placed [] t))) ∙ sym (texts_same (with_numbers 0 (placed [] t)))

-- it holds its calls
some_in : (t : ItemTree) → IsOwn t ⊎ IsRoundNode t → list_any is_page (tree_items t) ≡ true
some_in t (inl n) = has_page t n.has_items
some_in t (inr r) = round_some t r

pub node_holds : (t : ItemTree) → IsOwn t ⊎ IsRoundNode t → HoldsItsCalls t
node_holds t h = record { some = some_in t h; clean = piece_clean None None t h }

none_some : (j : ℕ) → Some j ≡ None → ⊥
none_some j e = cc

-- what is on the page for it doesn't hang on what comes before it
first_text : (calls : List OuterCall) (o : Option ℕ) (xs : List Item) → first_of xs (Some 0) ≡ None → text_from calls None xs ≡ text_from calls o xs
first_text calls o [] e = absurd (none_some 0 e)
first_text calls o (x ∷ xs) e = ap (λ (bs : List ℕ). bs ++ text_from calls (call_of x) xs) (sym (step_same calls o x e))

piece_flat : (calls : List OuterCall) (o : Option ℕ) (p : CallPiece) → IsPiece p → parted o (piece_call p) ≡ true
    → flat (cut_texts (piece_in_page calls p)) ≡ text_from calls o (piece_items p)
piece_flat calls o (own t) h e =
    block_flat calls t (node_holds t h)
    ∙ first_text calls o (tree_items t) (own_first t (Some 0) h)
    ∙ ap (text_from calls o) (sym (append-nil (tree_items t)))
piece_flat calls o (given j t ts) h e =
    let g = group_items j t ts h.0 h.1 in
    sym (ap (text_from calls o) g.is ∙ call_text calls o j g.first g.others g.of_call e)

-- ---- what a call gives in the page

-- The nodes of this group are what the call gives in the page, as they are on a line by themselves.
pub record IsGroupHere (e : Expanded) (j : ℕ) (ts : List ItemTree) : Type 0 where
  pub gives : GivesSigns j (of_call j e.items)
  pub nodes : ts ≡ children (line_parts (of_call j e.items))
  pub shut : ends_open (source_of_call (slice_get e.outer j)) ≡ false

abbrev pub AreGroupsHere : Expanded → List CallPiece → Type 0
AreGroupsHere e [] = Unit {0}
AreGroupsHere e (own t ∷ ps) = AreGroupsHere e ps
AreGroupsHere e (given j t ts ∷ ps) = IsGroupHere e j (t ∷ ts) × AreGroupsHere e ps

-- ---- in bold and italic

-- a node of the page, of a call, or of the page round calls; or a style of the page round such, to this depth
abbrev pub IsPartHere : ℕ → Expanded → ItemTree → Type 0
IsPartHere zero e t = IsAnyNode e.outer t
IsPartHere (suc n) e t =
    IsAnyNode e.outer t
    ⊎ ((bold : Bool) × (ps : List Part) × (t ≡ style_tree bold ps) × EachNode (IsPartHere n e) ps × AreGroupsHere e (call_pieces (children ps)) × AreShutParts ps)

any_piece : (calls : List OuterCall) (t : ItemTree) → IsAnyNode calls t → IsPieceNode t
any_piece calls t (inl h) = inl h
any_piece calls t (inr r) = inr r.round

part_piece : (n : ℕ) (e : Expanded) (t : ItemTree) → IsPartHere n e t → IsPieceNode t
part_piece zero e t h = any_piece e.outer t h
part_piece (suc n) e t (inl h) = any_piece e.outer t h
part_piece (suc n) e t (inr r) = inr (subst IsRoundNode (sym r.2) (style_round r.0 r.1))

pub here_pieces : (n : ℕ) (e : Expanded) (ps : List Part) → EachNode (IsPartHere n e) ps → ArePieceNodes ps
here_pieces n e [] h = tt
here_pieces n e (loose k o b ∷ ps) h = here_pieces n e ps h
here_pieces n e (node t ∷ ps) h = (part_piece n e t h.0, here_pieces n e ps h.1)

abbrev pub AreOwnHere : ℕ → Expanded → List CallPiece → Type 0
AreOwnHere n e [] = Unit {0}
AreOwnHere n e (own t ∷ ps) = IsPartHere n e t × AreOwnHere n e ps
AreOwnHere n e (given j t ts ∷ ps) = AreOwnHere n e ps

given_here : (n : ℕ) (e : Expanded) (j : ℕ) (t : ItemTree) (ps : List CallPiece) → AreOwnHere n e ps → AreOwnHere n e (given_before j t ps)
given_here n e j t [] h = tt
given_here n e j t (own u ∷ ps) h = h
given_here n e j t (given k u us ∷ ps) h = by (j == k)
  where
    by : (v : Bool) → AreOwnHere n e (if v then given j t (u ∷ us) ∷ ps else given j t [] ∷ given k u us ∷ ps)
    by true = h
    by false = h

piece_here : (n : ℕ) (e : Expanded) (c : Option ℕ) (t : ItemTree) (ps : List CallPiece) → IsPartHere n e t → AreOwnHere n e ps → AreOwnHere n e (piece_before c t ps)
piece_here n e None t ps f h = (f, h)
piece_here n e (Some j) t ps f h = given_here n e j t ps h

all_here : (n : ℕ) (e : Expanded) (ts : List ItemTree) → AllNodes (IsPartHere n e) ts → AreOwnHere n e (call_pieces ts)
all_here n e [] h = tt
all_here n e (t ∷ ts) h = piece_here n e (first_of (tree_items t) None) t (call_pieces ts) h.0 (all_here n e ts h.1)

simple_here : (n : ℕ) (e : Expanded) (t : ItemTree) → IsOwnOrGiven t → IsPartHere n e t
simple_here zero e t h = inl h
simple_here (suc n) e t h = inl (inl h)

pub own_here : (n : ℕ) (e : Expanded) (ps : List Part) → EachNode (IsPartHere n e) ps → AreOwnHere n e (call_pieces (children ps))
own_here n e ps h = all_here n e (children ps) (children_of_each (IsPartHere n e) (λ t g. simple_here n e t g) ps h)

-- a node of the page, or a style with something in it
abbrev IsStyleHere : ℕ → Expanded → ItemTree → Type 0
IsStyleHere zero e t = ⊥
IsStyleHere (suc n) e t =
    (bold : Bool) × (ps : List Part) × (t ≡ style_tree bold ps) × EachNode (IsPartHere n e) ps × AreGroupsHere e (call_pieces (children ps)) × AreShutParts ps

no_given : (t : ItemTree) → IsOwn t ⊎ IsRoundNode t → (j : ℕ) × IsOfCall j t → ⊥
no_given t h g = none_some g.0 (sym (first_of_call g.0 t None g.1) ∙ own_first t None h)

-- it is the page's own, or round calls, or such a style
abbrev IsOwnCase : ℕ → Expanded → ItemTree → Type 0
IsOwnCase n e t = IsOwn t ⊎ (IsShutRound e.outer t ⊎ IsStyleHere n e t)

any_case : (n : ℕ) (e : Expanded) (t : ItemTree) → IsOwn t ⊎ IsRoundNode t → IsAnyNode e.outer t → IsOwnCase n e t
any_case n e t h (inl (inl o)) = inl o
any_case n e t h (inl (inr g)) = absurd (no_given t h g)
any_case n e t h (inr r) = inr (inl r)

own_case : (n : ℕ) (e : Expanded) (t : ItemTree) → IsOwn t ⊎ IsRoundNode t → IsPartHere n e t → IsOwnCase n e t
own_case zero e t h k = any_case zero e t h k
own_case (suc n) e t h (inl k) = any_case (suc n) e t h k
own_case (suc n) e t h (inr s) = inr (inr s)

-- ---- where it is in its block

pub record IsAmong (calls : List OuterCall) (s : ℕ) (o : Option ℕ) (a : ℕ) (before all : List Item) (ps : List CallPiece) (last : List Item) : Type 0 where
  pub is : all ≡ before ++ (held_by_all (forest (trees_of ps)) ++ last)
  pub placed : AtPlaces calls s None all
  pub behind : last_of None before ≡ o
  pub at : a ≡ s + length (text_from calls None before)

among_next : (calls : List OuterCall) (s : ℕ) (o : Option ℕ) (a : ℕ) (before all : List Item) (p : CallPiece) (ps : List CallPiece) (last : List Item)
    → IsAmong calls s o a before all (p ∷ ps) last → IsPiece p → parted o (piece_call p) ≡ true
    → IsAmong calls s (piece_call p) (a + length (flat (cut_texts (piece_in_page calls p)))) (before ++ piece_items p) all ps last
among_next calls s o a before all p ps last h k e =
    let xs : List Item = piece_items p in
    let rest : List Item = held_by_all (forest (trees_of ps)) in
    let size : length (flat (cut_texts (piece_in_page calls p))) ≡ length (text_from calls o xs) = ap length (piece_flat calls o p k e) in
    let text : text_from calls None (before ++ xs) ≡ text_from calls None before ++ text_from calls o xs =
    text_append_from calls None before xs ∙ ap (λ (x : Option ℕ). text_from calls None before ++ text_from calls x xs) h.behind in
    let both : length (text_from calls None (before ++ xs)) ≡ length (text_from calls None before) + length (text_from calls o xs) =
    ap length text ∙ length-append (text_from calls None before) (text_from calls o xs) in
    let at : a ≡ s + length (text_from calls None before) = h.at in
    record {
      is = h.is
          ∙ ap (λ (ys : List Item). before ++ (ys ++ last)) (held_both (piece_trees p) (trees_of ps))
          ∙ ap (λ (ys : List Item). before ++ ys) (append_assoc xs rest last)
          ∙ sym (append_assoc before xs (rest ++ last));
      placed = h.placed;
      behind = last_append None before xs ∙ last_piece p k (last_of None before);
      at = omega (arith, at, size, both);
    }

-- a group begins where its call does
call_found : (calls : List OuterCall) (s : ℕ) (o : Option ℕ) (a j : ℕ) (before all : List Item) (t : ItemTree) (ts : List ItemTree) (ps : List CallPiece) (last : List Item)
    → IsAmong calls s o a before all (given j t ts ∷ ps) last → IsOfCall j t → parted o (Some j) ≡ true → (call_span calls j).0 ≡ a
call_found calls s o a j before all t ts ps last h k e =
    let rest : List Item = held_by_all (forest (ts ++ trees_of ps)) ++ last in
    let is : all ≡ before ++ (k.first ∷ (k.others ++ rest)) =
    h.is ∙ ap (λ (xs : List Item). before ++ xs)
    (append_assoc (tree_items t) (held_by_all (forest (ts ++ trees_of ps))) last ∙ ap (λ (xs : List Item). xs ++ rest) k.is) in
    let both = places_split calls s None before (k.first ∷ (k.others ++ rest)) (subst (AtPlaces calls s None) is h.placed) in
    let here : ℕ = s + length (text_from calls None before) in
    let there : AtPlaces calls here o (k.first ∷ (k.others ++ rest)) =
    subst (λ (x : Option ℕ). AtPlaces calls here x (k.first ∷ (k.others ++ rest))) h.behind both.1 in
    let found : IsAtPlace calls here o (Some j) = subst (IsAtPlace calls here o) k.of_call.0 there.0 in
    let r = found e in r.0 ∙ sym h.at

-- ---- its group

abbrev own_label : Head → List Item → ItemTrees → List Item → Label
own_label h o ts c = no_place (label_at 0 0 (is_leaf h.kind) h o (o ++ (held_by_all ts ++ c)) c)

inside_bare : (leaf : Bool) (us : Trees) → all_placeless us ≡ us → all_placeless (inside_by leaf us) ≡ inside_by leaf us
inside_bare true us e = refl
inside_bare false us e = e

mutual
  unfolding label_at

  unplaced_same : (t : ItemTree) → placeless (unplaced t) ≡ unplaced t
  unplaced_same (inner h o ts c) = ap (tree (own_label h o ts c)) (inside_bare (is_leaf h.kind) (all_unplaced ts) (all_unplaced_same ts))

  all_unplaced_same : (ts : ItemTrees) → all_placeless (all_unplaced ts) ≡ all_unplaced ts
  all_unplaced_same nothing = refl
  all_unplaced_same (further t ts) = ap₂ more (unplaced_same t) (all_unplaced_same ts)

-- the place of a node that is settled here
abbrev range_of : List OuterCall → ℕ → ℕ → Ranges
range_of calls a j = record { start = a; end = a + length (source_of_call (slice_get calls j)); open_w = 0; close_w = 0 }

group_faults : (e : Expanded) (n a j : ℕ) (ts : ItemTrees)
    → is_faulty_node e (settled n a (group_of_call e.outer j ts))
    ≡ is_faulty (items_alone e.outer e.items (range_of e.outer a j)) (all_placeless (all_unplaced ts))
group_faults e n a j ts = refl

some_signs : (word : Bool) (signs : List GivenSign) → BeginsGiven signs → AreGivenSigns word signs → given_glyphs signs ≡ [] → ⊥
some_signs word [] b h e = b
some_signs word (x ∷ signs) b h e = some_glyph word x signs h e

pub some_items : (j : ℕ) (xs : List Item) → GivesSigns j xs → (y : Item) × (ys : List Item) × (xs ≡ y ∷ ys)
some_items j [] h =
    let glyphs : [] ≡ given_glyphs h.signs = ap (map glyph_of) h.is ∙ given_are j h.signs in
    absurd (some_signs false h.signs h.begins h.are (sym glyphs))
some_items j (y ∷ ys) h = (y, ys, refl)

group_fine : (e : Expanded) (n a j : ℕ) (ts : List ItemTree) → (call_span e.outer j).0 ≡ a → AtPlaces e.outer 0 None e.items → AreOnes e.items
    → IsGroupHere e j ts → is_faulty_node e (settled n a (group_of_call e.outer j (forest ts))) ≡ false
group_fine e n a j ts start page ones k =
    let xs : List Item = of_call j e.items in
    let calls : List OuterCall = e.outer in
    let r : Ranges = range_of calls a j in
    let long = span_long (slice_get calls j) in
    let end : a + length (source_of_call (slice_get calls j)) ≡ (call_span calls j).1 = omega (arith, long, start) in
    let some = some_items j xs k.gives in
    let inside = call_items_in calls j r e.items some.0 some.1 (sym start) end page ones some.2 in
    group_faults e n a j (forest ts)
    ∙ ap (is_faulty (items_alone calls e.items r)) (all_unplaced_same (forest ts))
    ∙ ap (λ (us : List ItemTree). is_faulty (items_alone calls e.items r) (all_unplaced (forest us))) k.nodes
    ∙ ap (λ (ys : List Item). is_faulty (empty_nowiki ∷ with_break_anew calls ys) (all_unplaced (forest (children (line_parts xs))))) inside
    ∙ no_fault calls j xs k.gives

-- ---- a style

style_is : (calls : List OuterCall) (bold : Bool) (ps : List Part) → ArePieceNodes ps
    → node_in calls (style_tree bold ps) ≡ block_of_pieces calls (plain (style_kind bold)) (marks bold) ps (marks bold)
style_is calls true ps h =
    given_block_is calls (plain (style_kind true)) (marks true) ps (marks true)
    (record { no_leaf = refl; own_opening = refl; own_closing = refl; parts = h; some = refl })
style_is calls false ps h =
    given_block_is calls (plain (style_kind false)) (marks false) ps (marks false)
    (record { no_leaf = refl; own_opening = refl; own_closing = refl; parts = h; some = refl })

-- its nodes where it is
abbrev nodes_at : List OuterCall → ℕ → ℕ → List Part → Trees
nodes_at calls n a ps = all_settled n a (all_cut_texts (pieces_in_page calls (call_pieces (children ps))))

style_faults : (e : Expanded) (n a : ℕ) (bold : Bool) (ps : List Part)
    → is_faulty_node e (settled n a (cut_texts (block_of_pieces e.outer (plain (style_kind bold)) (marks bold) ps (marks bold))))
    ≡ has_faulty_group e (nodes_at e.outer (next_after (style_kind bold) n) (a + length (sources (marks bold))) ps)
style_faults e n a true ps = refl
style_faults e n a false ps = refl

style_opens : (calls : List OuterCall) (n a : ℕ) (bold : Bool) (ps : List Part)
    → node_ends_open (settled n a (cut_texts (block_of_pieces calls (plain (style_kind bold)) (marks bold) ps (marks bold))))
    ≡ any_ends_open (nodes_at calls (next_after (style_kind bold) n) (a + length (sources (marks bold))) ps)
style_opens calls n a true ps = refl
style_opens calls n a false ps = refl

marks_last : (o : Option ℕ) (bold : Bool) → last_of o (marks bold) ≡ None
marks_last o true = refl
marks_last o false = refl

marks_page : (bold : Bool) → list_all is_page (marks bold) ≡ true
marks_page true = refl
marks_page false = refl

-- where they are
inside_among : (calls : List OuterCall) (s : ℕ) (o : Option ℕ) (a : ℕ) (before all : List Item) (bold : Bool) (qs : List Part) (t : ItemTree) (ps : List CallPiece)
    (last : List Item) → t ≡ style_tree bold qs → IsAmong calls s o a before all (own t ∷ ps) last
    → IsAmong calls s None (a + length (sources (marks bold))) (before ++ marks bold) all (call_pieces (children qs))
    (marks bold ++ (held_by_all (forest (trees_of ps)) ++ last))
inside_among calls s o a before all bold qs t ps last is h =
    let ms : List Item = marks bold in
    let inside : List Item = held_by_all (forest (children qs)) in
    let rest : List Item = held_by_all (forest (trees_of ps)) in
    let behind : List Item = ms ++ (rest ++ last) in
    let items : tree_items t ≡ ms ++ (inside ++ ms) = ap tree_items is in
    let text : text_from calls None (before ++ ms) ≡ text_from calls None before ++ sources ms =
    text_append_from calls None before ms ∙ ap (λ (bs : List ℕ). text_from calls None before ++ bs) (text_own calls (last_of None before) ms (marks_page bold)) in
    let size : length (text_from calls None (before ++ ms)) ≡ length (text_from calls None before) + length (sources ms) =
    ap length text ∙ length-append (text_from calls None before) (sources ms) in
    let at : a ≡ s + length (text_from calls None before) = h.at in
    record {
      is = h.is
          ∙ ap (λ (xs : List Item). before ++ ((xs ++ rest) ++ last)) items
          ∙ ap (λ (xs : List Item). before ++ xs) (append_assoc (ms ++ (inside ++ ms)) rest last ∙ append_assoc ms (inside ++ ms) (rest ++ last)
          ∙ ap (λ (xs : List Item). ms ++ xs) (append_assoc inside ms (rest ++ last)))
          ∙ sym (append_assoc before ms (inside ++ behind))
          ∙ ap (λ (ts : List ItemTree). (before ++ ms) ++ (held_by_all (forest ts) ++ behind)) (sym (all_trees (children qs)));
      placed = h.placed;
      behind = last_append None before ms ∙ marks_last (last_of None before) bold;
      at = omega (arith, at, size);
    }

-- ---- all of them

groups_later : (e : Expanded) (p : CallPiece) (ps : List CallPiece) → AreGroupsHere e (p ∷ ps) → AreGroupsHere e ps
groups_later e (own t) ps g = g
groups_later e (given j t ts) ps g = g.1

own_later : (n : ℕ) (e : Expanded) (p : CallPiece) (ps : List CallPiece) → AreOwnHere n e (p ∷ ps) → AreOwnHere n e ps
own_later n e (own t) ps h = h.1
own_later n e (given j t ts) ps h = h

page_fine : (e : Expanded) (a n : ℕ) (t : ItemTree) → IsOwn t → IsShutNode t → is_faulty_node e (settled n a (cut_texts (node_in e.outer t))) ≡ false
page_fine e a n t h shut =
    let free = shut h.of_page in
    ap (λ (u : Tree). is_faulty_node e (settled n a u)) (own_is e.outer t h)
    ∙ node_fine e (settled n a (placeless (standing 0 [] t)))
    (settled_groupless n a (placeless (standing 0 [] t)) (placeless_groupless (standing 0 [] t) free.1))

page_shut : (e : Expanded) (a n : ℕ) (t : ItemTree) → IsOwn t → IsShutNode t → node_ends_open (settled n a (cut_texts (node_in e.outer t))) ≡ false
page_shut e a n t h shut =
    let free = shut h.of_page in
    settled_open n a (cut_texts (node_in e.outer t)) ∙ ap node_ends_open (own_is e.outer t h) ∙ open_same (standing 0 [] t) ∙ free.0

-- ---- a node of the page round calls: what is in it doesn't count

unstyled_fine : (w : InlineForm) (b : Bool) → IsUnstyledForm w → in_style w b ≡ false
unstyled_fine inline.Nothing b u = refl
unstyled_fine inline.Characters b u = refl
unstyled_fine inline.Bold b u = absurd u
unstyled_fine inline.Italic b u = absurd u
unstyled_fine inline.Shown b u = refl
unstyled_fine inline.PageLink b u = refl
unstyled_fine inline.ExternalLink b u = refl
unstyled_fine inline.Tag b u = refl
unstyled_fine inline.Break b u = refl
unstyled_fine inline.AsItStood b u = refl

unstyled_shut : (w : InlineForm) (bs : List ℕ) (b : Bool) → IsUnstyledForm w → ends_open bs ≡ false → open_by w bs b ≡ false
unstyled_shut inline.Nothing bs b u e = e
unstyled_shut inline.Characters bs b u e = refl
unstyled_shut inline.Bold bs b u e = absurd u
unstyled_shut inline.Italic bs b u e = absurd u
unstyled_shut inline.Shown bs b u e = e
unstyled_shut inline.PageLink bs b u e = e
unstyled_shut inline.ExternalLink bs b u e = e
unstyled_shut inline.Tag bs b u e = e
unstyled_shut inline.Break bs b u e = e
unstyled_shut inline.AsItStood bs b u e = e

tree_fine : (e : Expanded) (t : Tree) → is_group (label t).kind ≡ false → IsUnstyledForm (edit_shape (label t).kind).inline → is_faulty_node e t ≡ false
tree_fine e (tree l ts) g u =
    ap (λ (b : Bool). if b then faulty_at e l.ranges ts else in_style (edit_shape l.kind).inline (has_faulty_group e ts)) g
    ∙ unstyled_fine (edit_shape l.kind).inline (has_faulty_group e ts) u

tree_shut : (t : Tree) → IsUnstyledForm (edit_shape (label t).kind).inline → ends_open (flat t) ≡ false → node_ends_open t ≡ false
tree_shut (tree l ts) u e = unstyled_shut (edit_shape l.kind).inline (flat (tree l ts)) (any_ends_open ts) u e

round_fine : (e : Expanded) (a n : ℕ) (t : ItemTree) → IsShutRound e.outer t → is_faulty_node e (settled n a (cut_texts (node_in e.outer t))) ≡ false
round_fine e a n (inner h q ts c) r =
    let round : IsRoundNode (inner h q ts c) = r.round in
    tree_fine e (settled n a (cut_texts (node_in e.outer (inner h q ts c)))) (no_group h.kind round.0) r.plain

round_shut : (e : Expanded) (a n : ℕ) (t : ItemTree) → IsShutRound e.outer t → node_ends_open (settled n a (cut_texts (node_in e.outer t))) ≡ false
round_shut e a n (inner h q ts c) r =
    let t : ItemTree = inner h q ts c in
    let u : Tree = cut_texts (node_in e.outer t) in
    settled_open n a u ∙ tree_shut u r.plain (ap ends_open (block_flat e.outer t (node_holds t (inr r.round))) ∙ r.shut)

inside_shut : (qs : List Part) → AreShutParts qs → AreShutTrees (trees_of (call_pieces (children qs)))
inside_shut qs h = subst AreShutTrees (sym (all_trees (children qs))) (children_shut qs h)

-- ---- all of them, where each style has none

abbrev StylesFine : ℕ → Expanded → ℕ → List Item → Type 0
StylesFine d e s all =
    (o : Option ℕ) (a n : ℕ) (before : List Item) (t : ItemTree) (ps : List CallPiece) (last : List Item)
    → IsAmong e.outer s o a before all (own t ∷ ps) last → IsStyleHere d e t → is_faulty_node e (settled n a (cut_texts (node_in e.outer t))) ≡ false

one_fine : (d : ℕ) (e : Expanded) (s : ℕ) (o : Option ℕ) (a n : ℕ) (before all : List Item) (p : CallPiece) (ps : List CallPiece) (last : List Item)
    → StylesFine d e s all → IsAmong e.outer s o a before all (p ∷ ps) last → IsPiece p → parted o (piece_call p) ≡ true → AreGroupsHere e (p ∷ ps)
    → AreOwnHere d e (p ∷ ps) → AreShutTrees (trees_of (p ∷ ps)) → AtPlaces e.outer 0 None e.items → AreOnes e.items
    → is_faulty_node e (settled n a (cut_texts (piece_in_page e.outer p))) ≡ false
one_fine d e s o a n before all (own t) ps last f h k r g w shut page ones = elim (own_case d e t k w.0) [
  | inl page_node ↦ page_fine e a n t page_node shut.0
  | inr other ↦ elim other [
    | inl round ↦ round_fine e a n t round
    | inr style ↦ f o a n before t ps last h style
  ]
]
one_fine d e s o a n before all (given j t ts) ps last f h k r g w shut page ones =
    group_fine e n a j (t ∷ ts) (call_found e.outer s o a j before all t ts ps last h k.0 r) page ones g.0

fine_by : (d : ℕ) (e : Expanded) (s : ℕ) (o : Option ℕ) (a n : ℕ) (before all : List Item) (ps : List CallPiece) (last : List Item)
    → StylesFine d e s all → ArePieces ps → IsApart o ps → IsAmong e.outer s o a before all ps last → AreGroupsHere e ps → AreOwnHere d e ps
    → AreShutTrees (trees_of ps) → AtPlaces e.outer 0 None e.items → AreOnes e.items
    → has_faulty_group e (all_settled n a (all_cut_texts (pieces_in_page e.outer ps))) ≡ false
fine_by d e s o a n before all [] last f k r h g w shut page ones = refl
fine_by d e s o a n before all (p ∷ ps) last f k r h g w shut page ones =
    let u : Tree = cut_texts (piece_in_page e.outer p) in
    ap₂ (λ (v x : Bool). v || x) (one_fine d e s o a n before all p ps last f h k.0 r g w shut page ones)
    (fine_by d e s (piece_call p) (a + length (flat u)) (n + count u) (before ++ piece_items p) all ps last f k.2 k.1
    (among_next e.outer s o a before all p ps last h k.0 r) (groups_later e p ps g) (own_later d e p ps w) (shut_rest (piece_trees p) (trees_of ps) shut) page ones)

-- and each style has none, to this depth
styles_fine : (d : ℕ) (e : Expanded) (s : ℕ) (all : List Item) → AtPlaces e.outer 0 None e.items → AreOnes e.items → StylesFine d e s all
styles_fine zero e s all page ones = λ o a n before t ps last h k. absurd k
styles_fine (suc d) e s all page ones = λ o a n before t ps last h k.
    let bold : Bool = k.0 in
    let qs : List Part = k.1 in
    let pieces : ArePieceNodes qs = here_pieces d e qs k.3 in
    let are : ArePieces (call_pieces (children qs)) = all_pieces (children qs) (children_given qs pieces) in
    ap (λ (u : ItemTree). is_faulty_node e (settled n a (cut_texts (node_in e.outer u)))) k.2
    ∙ ap (λ (u : Tree). is_faulty_node e (settled n a (cut_texts u))) (style_is e.outer bold qs pieces)
    ∙ style_faults e n a bold qs
    ∙ fine_by d e s None (a + length (sources (marks bold))) (next_after (style_kind bold) n) (before ++ marks bold) all (call_pieces (children qs))
    (marks bold ++ (held_by_all (forest (trees_of ps)) ++ last)) (styles_fine d e s all page ones) are (apart_none (call_pieces (children qs)))
    (inside_among e.outer s o a before all bold qs t ps last k.2 h) k.4 (own_here d e qs k.3) (inside_shut qs k.5) page ones

pub pieces_fine : (d : ℕ) (e : Expanded) (s : ℕ) (o : Option ℕ) (a n : ℕ) (before all : List Item) (ps : List CallPiece) (last : List Item)
    → ArePieces ps → IsApart o ps → IsAmong e.outer s o a before all ps last → AreGroupsHere e ps → AreOwnHere d e ps → AreShutTrees (trees_of ps)
    → AtPlaces e.outer 0 None e.items → AreOnes e.items → has_faulty_group e (all_settled n a (all_cut_texts (pieces_in_page e.outer ps))) ≡ false
pieces_fine d e s o a n before all ps last k r h g w shut page ones =
    fine_by d e s o a n before all ps last (styles_fine d e s all page ones) k r h g w shut page ones

-- ---- none ends in an open tag

abbrev StylesShut : ℕ → Expanded → Type 0
StylesShut d e = (a n : ℕ) (t : ItemTree) → IsStyleHere d e t → node_ends_open (settled n a (cut_texts (node_in e.outer t))) ≡ false

one_shut : (d : ℕ) (e : Expanded) (a n : ℕ) (p : CallPiece) (ps : List CallPiece) → StylesShut d e → IsPiece p → AreGroupsHere e (p ∷ ps) → AreOwnHere d e (p ∷ ps)
    → AreShutTrees (trees_of (p ∷ ps)) → node_ends_open (settled n a (cut_texts (piece_in_page e.outer p))) ≡ false
one_shut d e a n (own t) ps f k g w shut = elim (own_case d e t k w.0) [
  | inl page_node ↦ page_shut e a n t page_node shut.0
  | inr other ↦ elim other [
    | inl round ↦ round_shut e a n t round
    | inr style ↦ f a n t style
  ]
]
one_shut d e a n (given j t ts) ps f k g w shut =
    let here = g.0 in settled_open n a (group_of_call e.outer j (further t (forest ts))) ∙ here.shut

shut_by : (d : ℕ) (e : Expanded) (a n : ℕ) (ps : List CallPiece) → StylesShut d e → ArePieces ps → AreGroupsHere e ps → AreOwnHere d e ps → AreShutTrees (trees_of ps)
    → any_ends_open (all_settled n a (all_cut_texts (pieces_in_page e.outer ps))) ≡ false
shut_by d e a n [] f k g w shut = refl
shut_by d e a n (p ∷ ps) f k g w shut =
    let u : Tree = cut_texts (piece_in_page e.outer p) in
    ap₂ (λ (v x : Bool). v || x) (one_shut d e a n p ps f k.0 g w shut)
    (shut_by d e (a + length (flat u)) (n + count u) ps f k.2 (groups_later e p ps g) (own_later d e p ps w) (shut_rest (piece_trees p) (trees_of ps) shut))

styles_shut : (d : ℕ) (e : Expanded) → StylesShut d e
styles_shut zero e = λ a n t k. absurd k
styles_shut (suc d) e = λ a n t k.
    let bold : Bool = k.0 in
    let qs : List Part = k.1 in
    let pieces : ArePieceNodes qs = here_pieces d e qs k.3 in
    ap (λ (u : ItemTree). node_ends_open (settled n a (cut_texts (node_in e.outer u)))) k.2
    ∙ ap (λ (u : Tree). node_ends_open (settled n a (cut_texts u))) (style_is e.outer bold qs pieces)
    ∙ style_opens e.outer n a bold qs
    ∙ shut_by d e (a + length (sources (marks bold))) (next_after (style_kind bold) n) (call_pieces (children qs)) (styles_shut d e)
    (all_pieces (children qs) (children_given qs pieces)) k.4 (own_here d e qs k.3) (inside_shut qs k.5)

pub pieces_shut : (d : ℕ) (e : Expanded) (a n : ℕ) (ps : List CallPiece) → ArePieces ps → AreGroupsHere e ps → AreOwnHere d e ps → AreShutTrees (trees_of ps)
    → any_ends_open (all_settled n a (all_cut_texts (pieces_in_page e.outer ps))) ≡ false
pieces_shut d e a n ps k g w shut = shut_by d e a n ps (styles_shut d e) k g w shut
