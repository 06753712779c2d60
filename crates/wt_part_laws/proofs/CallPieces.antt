-- A walk over nodes of calls and of the page makes one group of what one call gives side by side, and leaves all else as it is.
use Rattle.std.proofs.Common.{◌≡◌, ◌⊎◌, ℕ, ◌+◌, ◌==◌, Bool, true, false, not, Option, None, Some, List, [], ◌∷◌, ◌++◌, length, map, refl, sym, ap, ap₂, ◌∙◌, subst, cond, inl, inr}
use Rattle.std.specs.Prelude.{◌&&◌, ◌||◌, slice_get}
use Rattle.std.specs.List.{list_all, list_any}
use Rattle.std.proofs.lemmas.Bool.Decides.{Decides-eqb}
use Rattle.wt_tree.specs.Kinds.{is_leaf}
use Rattle.wt_tree.specs.Tree.{Tree, tree, more, trees}
use Rattle.wt_span.specs.Items.{Item, char, source, call_of}
use Rattle.wt_span.specs.Origins.{OuterCall}
use Rattle.wt_span.specs.Cuts.{source_of_call, text_by}
use Rattle.wt_span.specs.Runs.{put, runs}
use Rattle.wt_inline.specs.declared.loose.Loose.{Loose}
use Rattle.wt_inline.specs.declared.loose.Loose.TheVariants.{Text, Sep}
use Rattle.wt_inline.specs.ItemTree.{ItemTree, inner, ItemTrees, nothing, further, forest, tree_items, held_by_all}
use Rattle.wt_inline.specs.Parts.{Part, loose, node, held_parts, same_loose, same_origin, one_leaf, loose_leaf, child, children}
use Rattle.wt_annotated.specs.Annotated.{kept_label, group_label, all_unplaced}
use Rattle.wt_annotated.specs.Clean.{is_no_call, is_page, is_body, own_by}
use Rattle.wt_annotated.specs.GroupData.{group_data}
use Rattle.wt_annotated.specs.GroupParts.{called}
use Rattle.wt_annotated.specs.GroupParts.{Part as Piece}
use Rattle.wt_annotated.specs.Seams.{last_of, first_of, parted, text_step, text_from}
use Rattle.wt_annotated.specs.Walked.{free_places, clean_at, parts_from, Near, near_tied, near_nodes, near_group, near_run, near_runs, walked, near}
use Rattle.wt_annotated.specs.WithoutCalls.{inside_by, placed}
use Rattle.wt_annotated.proofs.Ends.{both}
use Rattle.wt_annotated.proofs.Seams.{last_append}
use Rattle.wt_part_laws.specs.Placeless.{placeless, all_placeless}
use Rattle.wt_part_laws.specs.Rounded.{IsOwn, HasItems}
use Rattle.wt_part_laws.specs.CallPieces.{AreItemsOf, IsNoBody, IsUncut, IsOfCall, AreOfCall, IsOwnOrGiven, IsRoundNode, IsPieceNode, EachNode, ArePieceNodes, AreOwnOrGiven, CallPiece, own, given, given_before, piece_before, call_pieces, group_of_call, node_in, pieces_in_page}
use Rattle.wt_part_laws.proofs.CallTexts.{itself, last_within, call_text, call_part, near_one, same_is, and_both}
use Rattle.wt_part_laws.proofs.OwnWalks.{behind_free, before_free, first_own, last_own, own_clean, walk_own, has_page}
use Rattle.wt_part_laws.proofs.RunCuts.{FreeBefore, near_apart, near_alone}
use Rattle.wt_part_laws.proofs.SameWalks.{same_data, walk_same}

-- ---- the trees of the pieces

abbrev pub piece_trees : CallPiece → List ItemTree
piece_trees (own t) = t ∷ []
piece_trees (given j t ts) = t ∷ ts

abbrev pub trees_of : List CallPiece → List ItemTree
trees_of [] = []
trees_of (p ∷ ps) = piece_trees p ++ trees_of ps

before_trees : (j : ℕ) (t : ItemTree) (ps : List CallPiece) → trees_of (given_before j t ps) ≡ t ∷ trees_of ps
before_trees j t [] = refl
before_trees j t (own u ∷ ps) = refl
before_trees j t (given k u us ∷ ps) = by (j == k)
  where
    by : (v : Bool) → trees_of (cond v (given j t (u ∷ us) ∷ ps) (given j t [] ∷ given k u us ∷ ps)) ≡ t ∷ u ∷ (us ++ trees_of ps)
    by true = refl
    by false = refl

piece_with : (c : Option ℕ) (t : ItemTree) (ps : List CallPiece) → trees_of (piece_before c t ps) ≡ t ∷ trees_of ps
piece_with None t ps = refl
piece_with (Some j) t ps = before_trees j t ps

pub all_trees : (ts : List ItemTree) → trees_of (call_pieces ts) ≡ ts
all_trees [] = refl
all_trees (t ∷ ts) = piece_with (first_of (tree_items t) None) t (call_pieces ts) ∙ ap (λ us. t ∷ us) (all_trees ts)

-- ---- a node of the page, or one round what calls give

round_first : (t : ItemTree) (o : Option ℕ) → IsRoundNode t → first_of (tree_items t) o ≡ None
round_first (inner h [] ts c) o r = let no : false ≡ true = r.2 in absurd (cc)
round_first (inner h (x ∷ q) ts c) o r = first_own (x ∷ q) o r.1 r.2

round_last : (t : ItemTree) (o : Option ℕ) → IsRoundNode t → last_of o (tree_items t) ≡ None
round_last (inner h q ts c) o r =
    let i : List Item = held_by_all ts in
    last_append o q (i ++ c) ∙ last_append (last_of o q) i c ∙ last_own (last_of (last_of o q) i) c r.3 r.4

or_more : (u v w : Bool) → (v ≡ true → w ≡ true) → (u || v) ≡ true → (u || w) ≡ true
or_more true v w f e = refl
or_more false v w f e = f e

some_left : (xs ys : List Item) → list_any is_page xs ≡ true → list_any is_page (xs ++ ys) ≡ true
some_left [] ys e = cc
some_left (x ∷ xs) ys e = or_more (is_page x) (list_any is_page xs) (list_any is_page (xs ++ ys)) (λ f. some_left xs ys f) e

page_both : (xs ys : List Item) → list_all is_page xs ≡ true → list_all is_page ys ≡ true → list_all is_page (xs ++ ys) ≡ true
page_both [] ys e f = f
page_both (x ∷ xs) ys e f =
    let r = both (is_page x) (list_all is_page xs) e in ap (λ (v : Bool). v && list_all is_page (xs ++ ys)) r.0 ∙ page_both xs ys r.1 f

own_delimiters : (leaf : Bool) (q i c : List Item) → leaf ≡ false → list_all is_page q ≡ true → list_all is_page c ≡ true → list_all is_page (own_by leaf q i c) ≡ true
own_delimiters true q i c e f g = let no : true ≡ false = e in absurd (cc)
own_delimiters false q i c e f g = page_both q c f g

six_true : (a b c d e f : Bool) → a ≡ true → b ≡ true → c ≡ true → d ≡ true → e ≡ true → f ≡ true → ((a && (b && (c && d))) && (e && f)) ≡ true
six_true true true true true true true p q r s t u = refl
six_true false b c d e f p q r s t u = cc
six_true true false c d e f p q r s t u = cc
six_true true true false d e f p q r s t u = cc
six_true true true true false e f p q r s t u = cc
six_true true true true true false f p q r s t u = cc
six_true true true true true true false p q r s t u = cc

or_last : (v w : Bool) → w ≡ true → (v || w) ≡ true
or_last true w e = refl
or_last false w e = e

round_clean : (o p : Option ℕ) (t : ItemTree) → IsRoundNode t → clean_at o p t ≡ true
round_clean o p (inner h q ts c) r =
    let i : List Item = held_by_all ts in
    let behind : Option ℕ = first_of i (first_of c p) in
    let within : Option ℕ = last_of (last_of o q) i in
    six_true (parted o (first_of q behind)) (parted (last_of o q) behind) (parted within (first_of c p)) (parted (last_of within c) p)
    (list_all is_page (own_by (is_leaf h.kind) q i c)) (is_body h.kind || list_any is_page (q ++ (i ++ c)))
    (before_free o (first_of q behind) (first_own q behind r.1 r.2)) (behind_free (last_of o q) behind (last_own o q r.1 r.2))
    (before_free within (first_of c p) (first_own c p r.3 r.4)) (behind_free (last_of within c) p (last_own within c r.3 r.4))
    (own_delimiters (is_leaf h.kind) q i c r.0 r.1 r.3) (or_last (is_body h.kind) (list_any is_page (q ++ (i ++ c))) (some_left q (i ++ c) r.2))

-- what is on the page for an item of it doesn't hang on what comes before
pub step_same : (calls : List OuterCall) (o : Option ℕ) (x : Item) → call_of x ≡ None → text_step calls o x ≡ text_step calls None x
step_same calls o x e =
    ap (λ (v : Bool). cond v (text_by calls (call_of x) (source x)) []) (before_free o (call_of x) e ∙ sym (before_free None (call_of x) e))

first_page : (x : Item) (xs : List Item) → list_all is_page (x ∷ xs) ≡ true → call_of x ≡ None
first_page x xs e = first_own (x ∷ []) None (ap (λ (v : Bool). v && true) (both (is_page x) (list_all is_page xs) e).0) (ap (λ (v : Bool). v || false) (both (is_page x) (list_all is_page xs) e).0)

round_anywhere : (calls : List OuterCall) (o : Option ℕ) (at : ℕ) (p : Option ℕ) (t : ItemTree) → IsRoundNode t
    → walked calls (group_data calls) o at p t ≡ walked calls (group_data calls) None at None t
round_anywhere calls o at p (inner h [] ts c) r = let no : false ≡ true = r.2 in absurd (cc)
round_anywhere calls o at p (inner h (x ∷ q) ts []) r = let no : false ≡ true = r.4 in absurd (cc)
round_anywhere calls o at p (inner h (x ∷ q) ts (y ∷ c)) r =
    let i : List Item = held_by_all ts in
    let rest : List ℕ = text_from calls (call_of x) (q ++ (i ++ (y ∷ c))) in
    let front : List ℕ = text_from calls (call_of x) q in
    let last : List ℕ = text_from calls (last_of (last_of (call_of x) q) i) (y ∷ c) in
    ap (λ (bs : List ℕ). tree (kept_label (is_leaf h.kind) h at (bs ++ rest) (bs ++ front) last)
    (inside_by (is_leaf h.kind) (trees (near_runs calls (group_data calls)
    (near calls (group_data calls) (last_of (call_of x) q) (at + length (bs ++ front)) (call_of y) ts)))))
    (step_same calls o x (first_page x q r.1))

pub own_first : (t : ItemTree) (o : Option ℕ) → IsOwn t ⊎ IsRoundNode t → first_of (tree_items t) o ≡ None
own_first t o (inl n) = first_own (tree_items t) o n.of_page (has_page t n.has_items)
own_first t o (inr r) = round_first t o r

pub own_last : (t : ItemTree) (o : Option ℕ) → IsOwn t ⊎ IsRoundNode t → last_of o (tree_items t) ≡ None
own_last t o (inl n) = last_own o (tree_items t) n.of_page (has_page t n.has_items)
own_last t o (inr r) = round_last t o r

pub piece_clean : (o p : Option ℕ) (t : ItemTree) → IsOwn t ⊎ IsRoundNode t → clean_at o p t ≡ true
piece_clean o p t (inl n) = own_clean o p t n.of_page (has_page t n.has_items)
piece_clean o p t (inr r) = round_clean o p t r

-- it is what it is by itself, wherever it is
piece_walk : (calls : List OuterCall) (o : Option ℕ) (at : ℕ) (p : Option ℕ) (t : ItemTree) → IsOwn t ⊎ IsRoundNode t
    → placeless (walked calls (group_data calls) o at p t) ≡ node_in calls t
piece_walk calls o at p t (inl n) = walk_own calls o at p [] t n.of_page n.has_items ∙ sym (walk_own calls None 0 None [] t n.of_page n.has_items)
piece_walk calls o at p t (inr r) = ap placeless (round_anywhere calls o at p t r) ∙ walk_same calls calls (same_data calls) None at 0 None t

-- a node of the page is what it is on a page without calls
pub own_node_in : (calls : List OuterCall) (t : ItemTree) → IsOwn t → node_in calls t ≡ placeless (placed [] t)
own_node_in calls t n = walk_own calls None 0 None [] t n.of_page n.has_items

pub round_some : (t : ItemTree) → IsRoundNode t → list_any is_page (tree_items t) ≡ true
round_some (inner h q ts c) r = some_left q (held_by_all ts ++ c) r.2

-- ---- no two of one call are side by side

abbrev pub IsPiece : CallPiece → Type 0
IsPiece (own t) = IsOwn t ⊎ IsRoundNode t
IsPiece (given j t ts) = IsOfCall j t × AreOfCall j ts

abbrev pub piece_call : CallPiece → Option ℕ
piece_call (own t) = None
piece_call (given j t ts) = Some j

-- behind an item of this call
abbrev pub IsApart : Option ℕ → List CallPiece → Type 0
IsApart o [] = Unit {0}
IsApart o (p ∷ ps) = parted o (piece_call p) ≡ true

abbrev pub ArePieces : List CallPiece → Type 0
ArePieces [] = Unit {0}
ArePieces (p ∷ ps) = IsPiece p × IsApart (piece_call p) ps × ArePieces ps

pub apart_none : (ps : List CallPiece) → IsApart None ps
apart_none [] = tt
apart_none (own t ∷ ps) = refl
apart_none (given j t ts ∷ ps) = refl

pub before_pieces : (j : ℕ) (t : ItemTree) (ps : List CallPiece) → IsOfCall j t → ArePieces ps → ArePieces (given_before j t ps)
before_pieces j t [] h k = ((h, tt), tt, tt)
before_pieces j t (own u ∷ ps) h k = ((h, tt), refl, k)
before_pieces j t (given i u us ∷ ps) h k = by (j == i) refl
  where
    by : (v : Bool) → (j == i) ≡ v → ArePieces (cond v (given j t (u ∷ us) ∷ ps) (given j t [] ∷ given i u us ∷ ps))
    by true e =
        let is : i ≡ j = sym ((Decides-eqb j i).0 e) in
        ((h, subst (λ (n : ℕ). IsOfCall n u × AreOfCall n us) is k.0), subst (λ (n : ℕ). IsApart (Some n) ps) is k.1, k.2)
    by false e = ((h, tt), ap not e, k)

-- the page's, or a call's
abbrev IsOneOf : ItemTree → Type 0
IsOneOf t = (IsOwn t ⊎ IsRoundNode t) ⊎ ((j : ℕ) × IsOfCall j t)

one_of : (t : ItemTree) → IsPieceNode t → IsOneOf t
one_of t (inl (inl n)) = inl (inl n)
one_of t (inl (inr g)) = inr g
one_of t (inr r) = inl (inr r)

pieces_by : (t : ItemTree) (ps : List CallPiece) → IsPieceNode t → ArePieces ps → ArePieces (piece_before (first_of (tree_items t) None) t ps)
pieces_by t ps h k = elim (one_of t h) [
  | inl n ↦ subst (λ (c : Option ℕ). ArePieces (piece_before c t ps)) (sym (own_first t None n)) (n, apart_none ps, k)
  | inr g ↦ subst (λ (c : Option ℕ). ArePieces (piece_before c t ps)) (sym (first_given g.0 t None g.1)) (before_pieces g.0 t ps g.1 k)
]
  where
    first_given : (j : ℕ) (t : ItemTree) (q : Option ℕ) → IsOfCall j t → first_of (tree_items t) q ≡ Some j
    first_given j t q h = ap (λ (xs : List Item). first_of xs q) h.is ∙ h.of_call.0

abbrev pub AllNodes : (ItemTree → Type 0) → List ItemTree → Type 0
AllNodes P [] = Unit {0}
AllNodes P (t ∷ ts) = P t × AllNodes P ts

abbrev pub AllPieceNodes : List ItemTree → Type 0
AllPieceNodes ts = AllNodes IsPieceNode ts

pub all_pieces : (ts : List ItemTree) → AllPieceNodes ts → ArePieces (call_pieces ts)
all_pieces [] h = tt
all_pieces (t ∷ ts) h = pieces_by t (call_pieces ts) h.0 (all_pieces ts h.1)

-- ---- nodes of one call

pub first_in : (j : ℕ) (t : ItemTree) (xs : List Item) (q : Option ℕ) → IsOfCall j t → first_of (tree_items t ++ xs) q ≡ Some j
first_in j t xs q h = ap (λ (ys : List Item). first_of (ys ++ xs) q) h.is ∙ h.of_call.0

pub first_of_call : (j : ℕ) (t : ItemTree) (q : Option ℕ) → IsOfCall j t → first_of (tree_items t) q ≡ Some j
first_of_call j t q h = ap (λ (xs : List Item). first_of xs q) h.is ∙ h.of_call.0

pub last_of_call : (j : ℕ) (t : ItemTree) (o : Option ℕ) → IsOfCall j t → last_of o (tree_items t) ≡ Some j
last_of_call j t o h = ap (last_of o) h.is ∙ last_within j (call_of h.first) h.others h.of_call.1 h.of_call.0

pub items_both : (j : ℕ) (xs ys : List Item) → AreItemsOf j xs → AreItemsOf j ys → AreItemsOf j (xs ++ ys)
items_both j [] ys h k = k
items_both j (x ∷ xs) ys h k = (h.0, items_both j xs ys h.1 k)

pub tree_of_call : (j : ℕ) (t : ItemTree) → IsOfCall j t → AreItemsOf j (tree_items t)
tree_of_call j t h = subst (AreItemsOf j) (sym h.is) h.of_call

pub all_items : (j : ℕ) (ts : List ItemTree) → AreOfCall j ts → AreItemsOf j (held_by_all (forest ts))
all_items j [] h = tt
all_items j (t ∷ ts) h = items_both j (tree_items t) (held_by_all (forest ts)) (tree_of_call j t h.0) (all_items j ts h.1)

-- none of them is clean
any_none : (j : ℕ) (xs : List Item) → AreItemsOf j xs → list_any is_page xs ≡ false
any_none j [] h = refl
any_none j (x ∷ xs) h = ap (λ (o : Option ℕ). is_no_call o || list_any is_page xs) h.0 ∙ any_none j xs h.1

no_clean : (a b c d : Bool) → c ≡ false → d ≡ false → (a && (b && (c || d))) ≡ false
no_clean true true c d e f = ap (λ (v : Bool). v || d) e ∙ f
no_clean true false c d e f = refl
no_clean false b c d e f = refl

unclean : (o p : Option ℕ) (j : ℕ) (t : ItemTree) → IsOfCall j t → clean_at o p t ≡ false
unclean o p j (inner h q ts c) g =
    no_clean (free_places o q (held_by_all ts) c p) (list_all is_page (own_by (is_leaf h.kind) q (held_by_all ts) c)) (is_body h.kind)
    (list_any is_page (q ++ (held_by_all ts ++ c))) g.no_body (any_none j (q ++ (held_by_all ts ++ c)) (tree_of_call j (inner h q ts c) g))

-- ---- they are one run

abbrev AllTied : List Near → Type 0
AllTied [] = Unit {0}
AllTied (c ∷ cs) = (c.free ≡ false) × AllTied cs

tied : (calls : List OuterCall) (o : Option ℕ) (at j : ℕ) (p : Option ℕ) (ts : List ItemTree) → o ≡ Some j → AreOfCall j ts
    → AllTied (near calls (group_data calls) o at p (forest ts))
tied calls o at j p [] e h = tt
tied calls o at j p (t ∷ ts) e h = (
  ap₂ parted e (first_of_call j t (first_of (held_by_all (forest ts)) p) h.0) ∙ ap not (itself j),
  tied calls (last_of o (tree_items t)) (at + length (text_from calls o (tree_items t))) j p ts (last_of_call j t o h.0) h.1,
)

run_whole : (c : Near) (cs : List Near) → AllTied cs → runs near_tied (c ∷ cs) ≡ (c ∷ cs) ∷ []
run_whole c [] h = refl
run_whole c (d ∷ ds) h =
    ap (put near_tied c) (run_whole d ds h.1) ∙ ap (λ (v : Bool). cond (not v) ((c ∷ d ∷ ds) ∷ []) ((c ∷ []) ∷ (d ∷ ds) ∷ [])) h.0

run_group : (calls : List OuterCall) (c : Near) (cs : List Near) → c.clean ≡ false
    → near_run calls (group_data calls) (c ∷ cs) ≡ near_group calls (group_data calls) (c ∷ cs)
run_group calls c [] e = ap (λ (v : Bool). cond v c.whole (near_group calls (group_data calls) (c ∷ []))) e
run_group calls c (d ∷ ds) e = refl

nodes_are : (calls : List OuterCall) (o : Option ℕ) (at : ℕ) (p : Option ℕ) (ts : ItemTrees) → near_nodes (near calls (group_data calls) o at p ts) ≡ ts
nodes_are calls o at p nothing = refl
nodes_are calls o at p (further t ts) =
    ap (further t) (nodes_are calls (last_of o (tree_items t)) (at + length (text_from calls o (tree_items t))) p ts)

-- ---- their group

-- what they have of the page is the call
group_by : (calls : List OuterCall) (o : Option ℕ) (at j : ℕ) (ts : ItemTrees) (xs ys : List Item) (x : Item) → xs ≡ x ∷ ys → AreItemsOf j (x ∷ ys)
    → parted o (Some j) ≡ true
    → placeless (tree (group_label at (text_from calls o xs) (group_data calls (parts_from o None xs))) (all_unplaced ts)) ≡ group_of_call calls j ts
group_by calls o at j ts xs ys x i h e =
    let text : text_from calls o xs ≡ source_of_call (slice_get calls j) = ap (text_from calls o) i ∙ call_text calls o j x ys h e in
    let parts : parts_from o None xs ≡ called j ∷ [] = ap (parts_from o None) i ∙ call_part o j x ys h e in
    ap₂ (λ (bs : List ℕ) (ps : List Piece). placeless (tree (group_label at bs (group_data calls ps)) (all_unplaced ts))) text parts

group_is : (calls : List OuterCall) (o : Option ℕ) (at j : ℕ) (p : Option ℕ) (t : ItemTree) (ts : List ItemTree) → IsOfCall j t → AreOfCall j ts
    → parted o (Some j) ≡ true
    → placeless (near_group calls (group_data calls) (near calls (group_data calls) o at p (forest (t ∷ ts)))) ≡ group_of_call calls j (further t (forest ts))
group_is calls o at j p t ts h k e =
    let all : List Item = held_by_all (further t (forest ts)) in
    let is : all ≡ h.first ∷ (h.others ++ held_by_all (forest ts)) = ap (λ (xs : List Item). xs ++ held_by_all (forest ts)) h.is in
    ap (λ (us : ItemTrees). placeless (tree (group_label at (text_from calls o (held_by_all us)) (group_data calls (parts_from o None (held_by_all us)))) (all_unplaced us)))
    (nodes_are calls o at p (further t (forest ts)))
    ∙ group_by calls o at j (further t (forest ts)) all (h.others ++ held_by_all (forest ts)) h.first is
    (items_both j (h.first ∷ h.others) (held_by_all (forest ts)) h.of_call (all_items j ts k)) e

given_alone : (calls : List OuterCall) (o : Option ℕ) (at j : ℕ) (p : Option ℕ) (t : ItemTree) (ts : List ItemTree) (ds : List Near) → IsOfCall j t
    → AreOfCall j ts → parted o (Some j) ≡ true → FreeBefore ds
    → all_placeless (trees (near_runs calls (group_data calls) (near calls (group_data calls) o at p (forest (t ∷ ts)) ++ ds)))
    ≡ more (group_of_call calls j (further t (forest ts))) (all_placeless (trees (near_runs calls (group_data calls) ds)))
given_alone calls o at j p t ts ds h k e f =
    let q : Option ℕ = first_of (held_by_all (forest ts)) p in
    let c : Near = near_one calls o at q t in
    let cs : List Near = near calls (group_data calls) (last_of o (tree_items t)) (at + length (text_from calls o (tree_items t))) p (forest ts) in
    let later : List Tree = near_runs calls (group_data calls) ds in
    let one : near_runs calls (group_data calls) (c ∷ cs) ≡ near_group calls (group_data calls) (c ∷ cs) ∷ [] =
    ap (map (near_run calls (group_data calls)))
    (run_whole c cs (tied calls (last_of o (tree_items t)) (at + length (text_from calls o (tree_items t))) j p ts (last_of_call j t o h) k))
    ∙ ap (λ (u : Tree). u ∷ []) (run_group calls c cs (unclean o q j t h)) in
    ap (λ (us : List Tree). all_placeless (trees us)) (near_apart calls (c ∷ cs) ds f ∙ ap (λ (us : List Tree). us ++ later) one)
    ∙ ap (λ (u : Tree). more u (all_placeless (trees later))) (group_is calls o at j p t ts h k e)

-- ---- before others

record IsCut (calls : List OuterCall) (o : Option ℕ) (at j : ℕ) (p : Option ℕ) (t : ItemTree) (ts us : List ItemTree) : Type 0 where
  behind : ℕ
  is : near calls (group_data calls) o at p (forest (t ∷ (ts ++ us)))
      ≡ near calls (group_data calls) o at (first_of (held_by_all (forest us)) p) (forest (t ∷ ts)) ++ near calls (group_data calls) (Some j) behind p (forest us)

cut_given : (calls : List OuterCall) (o : Option ℕ) (at j : ℕ) (p : Option ℕ) (t : ItemTree) (ts us : List ItemTree) → IsOfCall j t → AreOfCall j ts
    → IsCut calls o at j p t ts us
cut_given calls o at j p t [] us h k =
    let at2 : ℕ = at + length (text_from calls o (tree_items t)) in
    record {
      behind = at2;
      is = ap (λ (x : Option ℕ). near_one calls o at (first_of (held_by_all (forest us)) p) t ∷ near calls (group_data calls) x at2 p (forest us)) (last_of_call j t o h);
    }
cut_given calls o at j p t (u ∷ ts) us h k =
    let q : Option ℕ = first_of (held_by_all (forest us)) p in
    let o2 : Option ℕ = last_of o (tree_items t) in
    let at2 : ℕ = at + length (text_from calls o (tree_items t)) in
    let later = cut_given calls o2 at2 j p u ts us k.0 k.1 in
    let same : first_of (held_by_all (forest (u ∷ (ts ++ us)))) p ≡ first_of (held_by_all (forest (u ∷ ts))) q =
    first_in j u (held_by_all (forest (ts ++ us))) p k.0 ∙ sym (first_in j u (held_by_all (forest ts)) q k.0) in
    record {
      behind = later.behind;
      is = ap₂ (λ (x : Option ℕ) (ds : List Near). near_one calls o at x t ∷ ds) same later.is;
    }

free_before : (calls : List OuterCall) (o : Option ℕ) (at : ℕ) (p : Option ℕ) (ps : List CallPiece) → ArePieces ps → IsApart o ps
    → FreeBefore (near calls (group_data calls) o at p (forest (trees_of ps)))
free_before calls o at p [] h e = tt
free_before calls o at p (own t ∷ ps) h e =
    ap (parted o) (own_first t (first_of (held_by_all (forest (trees_of ps))) p) h.0) ∙ e
free_before calls o at p (given j t ts ∷ ps) h e =
    ap (parted o) (first_of_call j t (first_of (held_by_all (forest (ts ++ trees_of ps))) p) h.0.0) ∙ e

-- ---- all of them

walk_pieces : (calls : List OuterCall) (o : Option ℕ) (at : ℕ) (p : Option ℕ) (ps : List CallPiece) → ArePieces ps → IsApart o ps
    → all_placeless (trees (near_runs calls (group_data calls) (near calls (group_data calls) o at p (forest (trees_of ps))))) ≡ pieces_in_page calls ps
walk_pieces calls o at p [] h e = refl
walk_pieces calls o at p (own t ∷ ps) h e =
    let q : Option ℕ = first_of (held_by_all (forest (trees_of ps))) p in
    let o2 : Option ℕ = last_of o (tree_items t) in
    let at2 : ℕ = at + length (text_from calls o (tree_items t)) in
    let ds : List Near = near calls (group_data calls) o2 at2 p (forest (trees_of ps)) in
    let apart : IsApart o2 ps = subst (λ (x : Option ℕ). IsApart x ps) (sym (own_last t o h.0)) h.1 in
    ap (λ us. all_placeless (trees us))
    (near_alone calls (near_one calls o at q t) ds (piece_clean o q t h.0) (free_before calls o2 at2 p ps h.2 apart))
    ∙ ap₂ more (piece_walk calls o at q t h.0) (walk_pieces calls o2 at2 p ps h.2 apart)
walk_pieces calls o at p (given j t ts ∷ ps) h e =
    let c = cut_given calls o at j p t ts (trees_of ps) h.0.0 h.0.1 in
    let ds : List Near = near calls (group_data calls) (Some j) c.behind p (forest (trees_of ps)) in
    ap (λ (cs : List Near). all_placeless (trees (near_runs calls (group_data calls) cs))) c.is
    ∙ given_alone calls o at j (first_of (held_by_all (forest (trees_of ps))) p) t ts ds h.0.0 h.0.1 e (free_before calls (Some j) c.behind p ps h.2 h.1)
    ∙ ap (more (group_of_call calls j (further t (forest ts)))) (walk_pieces calls (Some j) c.behind p ps h.2 h.1)

-- ---- behind an item of any call that they don't begin with

head_call : (c : Option ℕ) (t : ItemTree) (ps : List CallPiece) (o : Option ℕ) → parted o c ≡ true → IsApart o (piece_before c t ps)
head_call None t ps o e = e
head_call (Some j) t [] o e = e
head_call (Some j) t (own u ∷ ps) o e = e
head_call (Some j) t (given k u us ∷ ps) o e = by (j == k)
  where
    by : (v : Bool) → IsApart o (cond v (given j t (u ∷ us) ∷ ps) (given j t [] ∷ given k u us ∷ ps))
    by true = e
    by false = e

first_same : (t : ItemTree) (xs : List Item) → IsPieceNode t → first_of (tree_items t ++ xs) None ≡ first_of (tree_items t) None
first_same t xs h = elim (one_of t h) [
  | inl n ↦ by (tree_items t) (own_first t (Some 0) n)
  | inr g ↦ first_in g.0 t xs None g.1 ∙ sym (first_of_call g.0 t None g.1)
]
  where
    by : (ys : List Item) → first_of ys (Some 0) ≡ None → first_of (ys ++ xs) None ≡ first_of ys None
    by [] e = absurd (cc)
    by (y ∷ ys) e = refl

pub behind_call : (o : Option ℕ) (ts : List ItemTree) → AllPieceNodes ts → parted o (first_of (held_by_all (forest ts)) None) ≡ true → IsApart o (call_pieces ts)
behind_call o [] h e = tt
behind_call o (t ∷ ts) h e =
    head_call (first_of (tree_items t) None) t (call_pieces ts) o (sym (ap (parted o) (first_same t (held_by_all (forest ts)) h.0)) ∙ e)

-- ---- the children of a node

-- characters of one kind and origin
abbrev AllLoose : Loose → Option ℕ → List Part → Type 0
AllLoose k o [] = Unit {0}
AllLoose k o (loose j p b ∷ ps) = (p ≡ o) × AllLoose k o ps
AllLoose k o (node t ∷ ps) = ⊥

abbrev IsRunOf : (ItemTree → Type 0) → List Part → Type 0
IsRunOf P [] = ⊥
IsRunOf P (loose k o b ∷ ps) = AllLoose k o ps
IsRunOf P (node t ∷ []) = P t
IsRunOf P (node t ∷ p ∷ ps) = ⊥

abbrev AreRunsOf : (ItemTree → Type 0) → List (List Part) → Type 0
AreRunsOf P [] = Unit {0}
AreRunsOf P (r ∷ rs) = IsRunOf P r × AreRunsOf P rs

loose_onto : (P : ItemTree → Type 0) (k j : Loose) (o q : Option ℕ) (b d : ℕ) (ys : List Part) (rs : List (List Part)) (v : Bool) → (v ≡ true → same_origin o q ≡ true)
    → AllLoose j q ys → AreRunsOf P rs
    → AreRunsOf P (cond v ((loose k o b ∷ loose j q d ∷ ys) ∷ rs) ((loose k o b ∷ []) ∷ (loose j q d ∷ ys) ∷ rs))
loose_onto P k j o q b d ys rs true e h g =
    let is : q ≡ o = sym (same_is o q (e refl)) in ((is, subst (λ (x : Option ℕ). AllLoose k x ys) is (of_kind ys h)), g)
  where
    of_kind : (ys : List Part) → AllLoose j q ys → AllLoose k q ys
    of_kind [] h = tt
    of_kind (loose i p c ∷ ys) h = (h.0, of_kind ys h.1)
    of_kind (node t ∷ ys) h = absurd h
loose_onto P k j o q b d ys rs false e h g = (tt, (h, g))

and_right : (v w : Bool) → (v && w) ≡ true → w ≡ true
and_right true w e = e
and_right false w e = cc

loose_put : (P : ItemTree → Type 0) (k : Loose) (o : Option ℕ) (b : ℕ) (rs : List (List Part)) → AreRunsOf P rs → AreRunsOf P (put one_leaf (loose k o b) rs)
loose_put P k o b [] h = (tt, tt)
loose_put P k o b ([] ∷ rs) h = absurd h.0
loose_put P k o b ((loose j q d ∷ ys) ∷ rs) h =
    loose_onto P k j o q b d ys rs (same_loose k j && same_origin o q) (and_right (same_loose k j) (same_origin o q)) h.0 h.1
loose_put P k o b ((node t ∷ ys) ∷ rs) h = (tt, h)

node_put : (P : ItemTree → Type 0) (t : ItemTree) (rs : List (List Part)) → P t → AreRunsOf P rs → AreRunsOf P (put one_leaf (node t) rs)
node_put P t [] g h = (g, tt)
node_put P t ([] ∷ rs) g h = absurd h.0
node_put P t ((y ∷ ys) ∷ rs) g h = (g, h)

runs_of : (P : ItemTree → Type 0) (ps : List Part) → EachNode P ps → AreRunsOf P (runs one_leaf ps)
runs_of P [] h = tt
runs_of P (loose k o b ∷ ps) h = loose_put P k o b (runs one_leaf ps) (runs_of P ps h)
runs_of P (node t ∷ ps) h = node_put P t (runs one_leaf ps) h.0 (runs_of P ps h.1)

loose_call : (k : Loose) (j : ℕ) (ps : List Part) → AllLoose k (Some j) ps → AreItemsOf j (held_parts ps)
loose_call k j [] h = tt
loose_call k j (loose i p b ∷ ps) h = (h.0, loose_call k j ps h.1)
loose_call k j (node t ∷ ps) h = absurd h

loose_page : (k : Loose) (ps : List Part) → AllLoose k None ps → list_all is_page (held_parts ps) ≡ true
loose_page k [] h = refl
loose_page k (loose i p b ∷ ps) h = and_both (is_no_call p) (list_all is_page (held_parts ps)) (ap is_no_call h.0) (loose_page k ps h.1)
loose_page k (node t ∷ ps) h = absurd h

leaf_items : (k : Loose) (xs : List Item) → tree_items (loose_leaf k xs) ≡ xs
leaf_items k [] = refl
leaf_items k (x ∷ xs) = ap (λ (ys : List Item). x ∷ ys) (leaf_items k xs)

leaf_given : (k : Loose) (o : Option ℕ) (b : ℕ) (ps : List Part) → AllLoose k o ps → IsOwnOrGiven (loose_leaf k (char o b ∷ held_parts ps))
leaf_given k None b ps h =
    let xs : List Item = char None b ∷ held_parts ps in
    inl (record { of_page = ap (list_all is_page) (leaf_items k xs) ∙ loose_page k ps h; has_items = some k b (held_parts ps) })
  where
    some : (k : Loose) (b : ℕ) (xs : List Item) → HasItems (loose_leaf k (char None b ∷ xs))
    some Text b xs = (refl, tt)
    some Sep b xs = (refl, tt)
leaf_given k (Some j) b ps h =
    inr (j, record { first = char (Some j) b; others = held_parts ps; is = leaf_items k (char (Some j) b ∷ held_parts ps); of_call = (refl, loose_call k j ps h); no_body = no_body k (held_parts ps); uncut = uncut k (held_parts ps) })
  where
    uncut : (k : Loose) (xs : List Item) → IsUncut (loose_leaf k (char (Some j) b ∷ xs))
    uncut Text xs = (refl, tt)
    uncut Sep xs = (refl, tt)

    no_body : (k : Loose) (xs : List Item) → IsNoBody (loose_leaf k (char (Some j) b ∷ xs))
    no_body Text xs = refl
    no_body Sep xs = refl

run_of : (P : ItemTree → Type 0) → ((t : ItemTree) → IsOwnOrGiven t → P t) → (r : List Part) → IsRunOf P r → P (child r)
run_of P f [] h = absurd h
run_of P f (loose k o b ∷ ps) h = f (loose_leaf k (char o b ∷ held_parts ps)) (leaf_given k o b ps h)
run_of P f (node t ∷ []) h = h
run_of P f (node t ∷ p ∷ ps) h = absurd h

all_of : (P : ItemTree → Type 0) → ((t : ItemTree) → IsOwnOrGiven t → P t) → (rs : List (List Part)) → AreRunsOf P rs → AllNodes P (map child rs)
all_of P f [] h = tt
all_of P f (r ∷ rs) h = (run_of P f r h.0, all_of P f rs h.1)

-- what holds of each node among the parts, and of characters, holds of each child
pub children_of_each : (P : ItemTree → Type 0) → ((t : ItemTree) → IsOwnOrGiven t → P t) → (ps : List Part) → EachNode P ps → AllNodes P (children ps)
unfolding children
children_of_each P f ps h = all_of P f (runs one_leaf ps) (runs_of P ps h)

pub as_pieces : (ps : List Part) → AreOwnOrGiven ps → ArePieceNodes ps
as_pieces [] h = tt
as_pieces (loose k o b ∷ ps) h = as_pieces ps h
as_pieces (node t ∷ ps) h = (inl h.0, as_pieces ps h.1)

pub children_given : (ps : List Part) → ArePieceNodes ps → AllPieceNodes (children ps)
children_given ps h = children_of_each IsPieceNode (λ t g. inl g) ps h

pub given_children_are : (calls : List OuterCall) (o : Option ℕ) (at : ℕ) (p : Option ℕ) (ps : List Part) → ArePieceNodes ps
    → parted o (first_of (held_by_all (forest (children ps))) None) ≡ true
    → all_placeless (trees (near_runs calls (group_data calls) (near calls (group_data calls) o at p (forest (children ps)))))
    ≡ pieces_in_page calls (call_pieces (children ps))
given_children_are calls o at p ps h e =
    let ts : List ItemTree = children ps in
    ap (λ (us : List ItemTree). all_placeless (trees (near_runs calls (group_data calls) (near calls (group_data calls) o at p (forest us))))) (sym (all_trees ts))
    ∙ walk_pieces calls o at p (call_pieces ts) (all_pieces ts (children_given ps h)) (behind_call o ts (children_given ps h) e)
