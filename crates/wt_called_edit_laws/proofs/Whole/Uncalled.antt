-- A paragraph that holds its calls has a node that is no group: something in it is the page's own.
use Rattle.std.proofs.Common.{◌≡◌, inl, inr, ℕ, zero, suc, ◌+◌, ◌==◌, Bool, true, false, Option, None, Some, List, [], ◌∷◌, ◌++◌, length, refl, sym, ap, ◌∙◌, subst, append_assoc, append-nil}
use Rattle.std.specs.Prelude.{◌||◌, if◌then◌else◌}
use Rattle.std.specs.List.{list_all, list_any}
use Rattle.wt_tree.specs.declared.kind.Kind.TheVariants as kind
use Rattle.wt_tree.specs.Tiling.{is_group, HasNoGroup}
use Rattle.wt_tree.specs.Source.{flat}
use Rattle.wt_tree.specs.Tree.{Tree, label}
use Rattle.wt_span.specs.Items.{Item}
use Rattle.wt_span.specs.Origins.{OuterCall}
use Rattle.wt_inline.specs.ItemTree.{plain, ItemTree, inner, forest, tree_items, held_by_all}
use Rattle.wt_inline.specs.Parts.{Part, children}
use Rattle.wt_annotated.specs.Clean.{is_no_call, is_page}
use Rattle.wt_annotated.specs.CutTexts.{cut_texts, all_cut_texts}
use Rattle.wt_annotated.specs.Labels.{label_at}
use Rattle.wt_annotated.specs.Numbering.{next_after, count}
use Rattle.wt_annotated.specs.Seams.{first_of}
use Rattle.wt_checks.specs.Kept.{children as nodes_in}
use Rattle.wt_expand.specs.PageItems.{page_items}
use Rattle.wt_expand.specs.Work.{Pages}
use Rattle.wt_part_laws.specs.CallPieces.{AreItemsOf, IsOfCall, IsOwnOrGiven, IsRoundNode, CallPiece, own, given, given_before, piece_before, call_pieces, piece_in_page, pieces_in_page}
use Rattle.wt_part_laws.specs.Expanded.{part_items}
use Rattle.wt_part_laws.specs.HeldCalls.{block_in, HoldsItsCalls, IsRoundGiven}
use Rattle.wt_part_laws.specs.Placeless.{placeless}
use Rattle.wt_part_laws.specs.Rounded.{IsOwn}
use Rattle.wt_part_laws.specs.Standing.{standing}
use Rattle.wt_part_laws.proofs.CallPieces.{trees_of, all_trees, ArePieces, AllNodes, all_pieces, all_items, children_of_each, children_given}
use Rattle.wt_part_laws.proofs.HeldBlocks.{given_block_is}
use Rattle.wt_part_laws.proofs.OwnWalks.{has_page}
use Rattle.wt_text_edit_laws.specs.Contents.{IsContent, content_parts_of}
use Rattle.wt_text_edit_laws.specs.NoCalls.{CallsNothing}
use Rattle.wt_text_edit_laws.specs.TextBlocks.{a_paragraph, block_items, block_tree}
use Rattle.wt_text_edit_laws.proofs.Blocks.OwnContents.{content_own}
use Rattle.wt_beside_laws.specs.Nests.{style_tree}
use Rattle.wt_beside_laws.proofs.Made.OldBlocks.{no_group}
use Rattle.wt_called_edit_laws.specs.CalledContents.{tree_round}
use Rattle.wt_called_edit_laws.specs.Settled.{settled, all_settled}
use Rattle.wt_called_edit_laws.specs.Uncalled.{SomeNoGroup}
use Rattle.wt_called_edit_laws.specs.WholeContents.{IsShutNode, IsAnyNode, IsPartIn, ArePartsIn, HoldsGroups, IsWholeIn}
use Rattle.wt_called_edit_laws.specs.WrittenAnew.{HoldsAnywhere}
use Rattle.wt_called_edit_laws.proofs.CallingMade.{calm_block}
use Rattle.wt_called_edit_laws.proofs.Cells.ContentItems.{tree_is}
use Rattle.wt_called_edit_laws.proofs.Whole.Blocks.{nodes_are}
use Rattle.wt_called_edit_laws.proofs.Whole.PartsIn.{parts_pieces}
use Rattle.wt_called_edit_laws.proofs.Whole.Pieces.{AreShutTrees, children_shut}
use Rattle.wt_called_edit_laws.proofs.Whole.SourcesAt.{sources_somewhere}
use Rattle.wt_beside_laws.proofs.Groups.RoundNodes.{no_group as no_group_kind}
use Rattle.wt_expand.specs.PageCalls.{expanded_page}

-- ---- what is the page's is none

abbrev IsOwnKind : ItemTree → Type 0
IsOwnKind (inner h q ts c) = is_group h.kind ≡ false

-- if it is the page's
abbrev OwnKind : ItemTree → Type 0
OwnKind t = first_of (tree_items t) None ≡ None → IsOwnKind t

abbrev OwnKinds : List CallPiece → Type 0
OwnKinds [] = Unit {0}
OwnKinds (own t ∷ ps) = IsOwnKind t × OwnKinds ps
OwnKinds (given j t ts ∷ ps) = OwnKinds ps

kinds_before : (j : ℕ) (t : ItemTree) (ps : List CallPiece) → OwnKinds ps → OwnKinds (given_before j t ps)
kinds_before j t [] h = tt
kinds_before j t (own u ∷ ps) h = h
kinds_before j t (given k u us ∷ ps) h = by (j == k)
  where
    by : (v : Bool) → OwnKinds (if v then given j t (u ∷ us) ∷ ps else given j t [] ∷ given k u us ∷ ps)
    by true = h
    by false = h

kinds_with : (o : Option ℕ) (t : ItemTree) (ps : List CallPiece) → (o ≡ None → IsOwnKind t) → OwnKinds ps → OwnKinds (piece_before o t ps)
kinds_with None t ps f h = (f refl, h)
kinds_with (Some j) t ps f h = kinds_before j t ps h

own_kinds : (ts : List ItemTree) → AllNodes OwnKind ts → OwnKinds (call_pieces ts)
own_kinds [] h = tt
own_kinds (t ∷ ts) h = kinds_with (first_of (tree_items t) None) t (call_pieces ts) h.0 (own_kinds ts h.1)

pub none_some : (j : ℕ) → Some j ≡ None → ⊥
none_some j e = cc

pub first_given : (j : ℕ) (t : ItemTree) → IsOfCall j t → first_of (tree_items t) None ≡ Some j
first_given j t h = ap (λ (xs : List Item). first_of xs None) h.is ∙ h.of_call.0

shut_kind : (t : ItemTree) → list_all is_page (tree_items t) ≡ true → IsShutNode t → IsOwnKind t
unfolding label_at
shut_kind (inner h q ts c) e s = (s e).1.0

simple_kind : (t : ItemTree) → IsShutNode t → IsOwnOrGiven t → OwnKind t
simple_kind t s (inl o) = λ e. shut_kind t o.of_page s
simple_kind t s (inr g) = λ e. absurd (none_some g.0 (sym (first_given g.0 t g.1) ∙ e))

style_kind : (bold : Bool) (ps : List Part) → IsOwnKind (style_tree bold ps)
style_kind true ps = refl
style_kind false ps = refl

round_kind : (t : ItemTree) → IsRoundNode t → IsOwnKind t
round_kind (inner h q ts c) r = no_group_kind h.kind r.0

any_kind : (calls : List OuterCall) (t : ItemTree) → IsShutNode t → IsAnyNode calls t → OwnKind t
any_kind calls t s (inl h) = simple_kind t s h
any_kind calls t s (inr r) = λ e. round_kind t r.round

part_kind : (n : ℕ) (calls : List OuterCall) (xs : List Item) (t : ItemTree) → IsShutNode t → IsPartIn n calls xs t → OwnKind t
part_kind zero calls xs t s h = any_kind calls t s h
part_kind (suc n) calls xs t s (inl h) = any_kind calls t s h
part_kind (suc n) calls xs t s (inr r) = λ e. subst IsOwnKind (sym r.2) (style_kind r.0 r.1)

part_kinds : (n : ℕ) (calls : List OuterCall) (xs : List Item) (ts : List ItemTree) → AreShutTrees ts → AllNodes (IsPartIn n calls xs) ts → AllNodes OwnKind ts
part_kinds n calls xs [] s h = tt
part_kinds n calls xs (t ∷ ts) s h = (part_kind n calls xs t s.0 h.0, part_kinds n calls xs ts s.1 h.1)

-- ---- some piece is the page's

abbrev pub SomeOwn : List CallPiece → Type 0
SomeOwn [] = ⊥
SomeOwn (own t ∷ ps) = Unit {0}
SomeOwn (given j t ts ∷ ps) = SomeOwn ps

given_alone : (j : ℕ) (xs : List Item) → AreItemsOf j xs → list_any is_page xs ≡ false
given_alone j [] h = refl
given_alone j (x ∷ xs) h = ap (λ (o : Option ℕ). is_no_call o || list_any is_page xs) h.0 ∙ given_alone j xs h.1

past : {A : Type 0} (v a b : Bool) → (a ≡ false → b ≡ true → A) → (v || a) ≡ false → (v || b) ≡ true → A
past true a b g e f = let no : true ≡ false = e in absurd (cc)
past false a b g e f = g e f

any_behind : (xs ys : List Item) → list_any is_page xs ≡ false → list_any is_page (xs ++ ys) ≡ true → list_any is_page ys ≡ true
any_behind [] ys e f = f
any_behind (x ∷ xs) ys e f = past (is_page x) (list_any is_page xs) (list_any is_page (xs ++ ys)) (λ g h. any_behind xs ys g h) e f

held_both : (ts us : List ItemTree) → held_by_all (forest (ts ++ us)) ≡ held_by_all (forest ts) ++ held_by_all (forest us)
held_both [] us = refl
held_both (t ∷ ts) us =
    ap (λ (xs : List Item). tree_items t ++ xs) (held_both ts us) ∙ sym (append_assoc (tree_items t) (held_by_all (forest ts)) (held_by_all (forest us)))

pub some_own : (ps : List CallPiece) → ArePieces ps → list_any is_page (held_by_all (forest (trees_of ps))) ≡ true → SomeOwn ps
some_own [] h e = let no : false ≡ true = e in absurd (cc)
some_own (own t ∷ ps) h e = tt
some_own (given j t ts ∷ ps) h e =
    some_own ps h.2
    (any_behind (held_by_all (forest (t ∷ ts))) (held_by_all (forest (trees_of ps))) (given_alone j (held_by_all (forest (t ∷ ts))) (all_items j (t ∷ ts) h.0))
    (ap (list_any is_page) (sym (held_both (t ∷ ts) (trees_of ps))) ∙ e))

-- ---- in the page

kind_here : (calls : List OuterCall) (t : ItemTree) (m a : ℕ) → IsOwnKind t → is_group (label (settled m a (cut_texts (piece_in_page calls (own t))))).kind ≡ false
kind_here calls (inner h q ts c) m a e = e

some_here : (calls : List OuterCall) (ps : List CallPiece) (m a : ℕ) → SomeOwn ps → OwnKinds ps → SomeNoGroup (all_settled m a (all_cut_texts (pieces_in_page calls ps)))
some_here calls [] m a s k = absurd s
some_here calls (own t ∷ ps) m a s k = inl (kind_here calls t m a k.0)
some_here calls (given j t ts ∷ ps) m a s k =
    let u : Tree = cut_texts (piece_in_page calls (given j t ts)) in
    inr (some_here calls ps (m + count u) (a + length (flat u)) s k)

holds_uncalled : (pages : Pages) (calls : List OuterCall) (n s i : ℕ) (q : List ℕ) → HoldsItsCalls (tree_round a_paragraph (part_items pages i q))
    → HoldsGroups pages a_paragraph q → SomeNoGroup (nodes_in (settled n s (cut_texts (block_in calls (tree_round a_paragraph (part_items pages i q))))))
holds_uncalled pages calls n s i q hold whole =
    let xs : List Item = part_items pages i q in
    let ps : List Part = content_parts_of a_paragraph xs in
    let ts : List ItemTree = children ps in
    let us : List CallPiece = call_pieces ts in
    let there = sources_somewhere i (expanded_page pages q).outer in
    let each : ArePartsIn there.0 xs ps = whole.parts there.0 i there.1 in
    let r : IsRoundGiven (plain kind.Para) [] ps [] = record {
      no_leaf = refl;
      own_opening = refl;
      own_closing = refl;
      parts = parts_pieces 2 there.0 xs ps each;
      some = hold.some;
    } in
    let are : ArePieces us = all_pieces ts (children_given ps r.parts) in
    let some : SomeOwn us =
    some_own us are
    (ap (λ (vs : List ItemTree). list_any is_page (held_by_all (forest vs))) (all_trees ts)
    ∙ ap (list_any is_page) (sym (append-nil (held_by_all (forest ts)))) ∙ hold.some) in
    let kinds : OwnKinds us =
    own_kinds ts (part_kinds 2 there.0 xs ts (children_shut ps (whole.shut i)) (children_of_each (IsPartIn 2 there.0 xs) (λ t g. inl (inl g)) ps each)) in
    subst SomeNoGroup
    (sym (ap (λ (u : Tree). nodes_in (settled n s (cut_texts u))) (given_block_is calls (plain kind.Para) [] ps [] r) ∙ nodes_are calls n s (plain kind.Para) [] ps [] refl refl))
    (some_here calls us (next_after kind.Para n) (s + 0) some kinds)

-- ---- of one that calls nothing

first_no_group : (n s : ℕ) (ts : List ItemTree) → list_any is_page (tree_items (inner (plain kind.Para) [] (forest ts) [])) ≡ true
    → HasNoGroup (standing 0 [] (inner (plain kind.Para) [] (forest ts) []))
    → SomeNoGroup (nodes_in (settled n s (placeless (standing 0 [] (inner (plain kind.Para) [] (forest ts) [])))))
unfolding label_at
first_no_group n s [] e h = let no : false ≡ true = e in absurd (cc)
first_no_group n s (inner k o us d ∷ ts) e h = inl h.1.0.0

calm_uncalled : (n s : ℕ) (q : List ℕ) → IsContent a_paragraph q → CallsNothing (block_items a_paragraph q)
    → SomeNoGroup (nodes_in (settled n s (placeless (standing 0 [] (block_tree a_paragraph q)))))
calm_uncalled n s q c calm =
    let ps : List Part = content_parts_of a_paragraph (page_items q) in
    let own : IsOwn (block_tree a_paragraph q) = content_own a_paragraph q c in
    let is : block_tree a_paragraph q ≡ inner (plain kind.Para) [] (forest (children ps)) [] = tree_is a_paragraph q in
    subst (λ (t : ItemTree). SomeNoGroup (nodes_in (settled n s (placeless (standing 0 [] t))))) (sym is)
    (first_no_group n s (children ps)
    (subst (λ (t : ItemTree). list_any is_page (tree_items t) ≡ true) is (has_page (block_tree a_paragraph q) own.has_items))
    (subst (λ (t : ItemTree). HasNoGroup (standing 0 [] t)) is (no_group a_paragraph q 0 [] c.utf8 c.is c.unended calm)))

-- ---- of any

pub whole_uncalled : (pages : Pages) (calls : List OuterCall) (n s i : ℕ) (q : List ℕ) → HoldsAnywhere pages a_paragraph q → IsWholeIn pages a_paragraph q
    → SomeNoGroup (nodes_in (settled n s (cut_texts (block_in calls (tree_round a_paragraph (part_items pages i q))))))
whole_uncalled pages calls n s i q hold (inl c) =
    subst (λ (t : Tree). SomeNoGroup (nodes_in (settled n s t))) (sym (calm_block pages calls i a_paragraph q c.0 c.1)) (calm_uncalled n s q c.0 c.1)
whole_uncalled pages calls n s i q hold (inr h) = holds_uncalled pages calls n s i q (hold i) h
