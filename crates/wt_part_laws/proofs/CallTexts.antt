-- A walk over characters of calls and nodes of the page makes a group of the characters of each call, and leaves all else as it is.
use Rattle.std.proofs.Common.{◌≡◌, ℕ, ◌+◌, ◌==◌, Bool, true, false, not, Option, None, Some, List, [], ◌∷◌, ◌++◌, length, map, refl, sym, ap, ap₂, ◌∙◌, subst, cond, append-nil}
use Rattle.std.specs.Prelude.{◌&&◌, ◌||◌, slice_get, if◌then◌else◌}
use Rattle.std.specs.List.{list_all, list_any}
use Rattle.std.proofs.lemmas.Bool.Decides.{Decides-eqb}
use Rattle.wt_tree.specs.Tree.{tree, more, trees}
use Rattle.wt_span.specs.Items.{Item, char, source, call_of}
use Rattle.wt_span.specs.Origins.{OuterCall}
use Rattle.wt_span.specs.Cuts.{text_by, source_of_call}
use Rattle.wt_span.specs.Runs.{put, runs}
use Rattle.wt_inline.specs.declared.loose.Loose.TheVariants.{Text, Sep}
use Rattle.wt_inline.specs.ItemTree.{ItemTree, ItemTrees, nothing, further, forest, tree_items, held_by_all}
use Rattle.wt_inline.specs.Parts.{Part, loose, node, held_parts, same_origin, one_leaf, loose_leaf, child, children}
use Rattle.wt_annotated.specs.Annotated.{group_label, all_unplaced}
use Rattle.wt_annotated.specs.Clean.{is_no_call, is_page}
use Rattle.wt_annotated.specs.GroupData.{group_data}
use Rattle.wt_annotated.specs.GroupParts.{called}
use Rattle.wt_annotated.specs.GroupParts.{Part as Piece}
use Rattle.wt_annotated.specs.Seams.{last_of, first_of, parted, text_step, text_from}
use Rattle.wt_annotated.specs.Walked.{free_places, clean_at, part_step, parts_from, Near, near_group, near_runs, group_at, walked, near}
use Rattle.wt_annotated.proofs.Seams.{first_append}
use Rattle.wt_part_laws.specs.Placeless.{placeless, all_placeless}
use Rattle.wt_part_laws.specs.Rounded.{IsOwn}
use Rattle.wt_part_laws.specs.CallPieces.{AreItemsOf}
use Rattle.wt_part_laws.specs.CallTexts.{AreOwnOrTexts, call_group, by_call, in_page, all_in_page}
use Rattle.wt_part_laws.proofs.OwnWalks.{before_free, last_own, first_own, own_clean, walk_own, has_page}
use Rattle.wt_part_laws.proofs.RunCuts.{FreeBefore, near_apart, near_alone}

-- ---- items of one call

pub itself : (j : ℕ) → (j == j) ≡ true
itself j = (Decides-eqb j j).1 refl

pub last_within : (j : ℕ) (o : Option ℕ) (xs : List Item) → AreItemsOf j xs → o ≡ Some j → last_of o xs ≡ Some j
last_within j o [] h e = e
last_within j o (x ∷ xs) h e = last_within j (call_of x) xs h.1 h.0

step_within : (calls : List OuterCall) (j : ℕ) (x : Item) → call_of x ≡ Some j → text_step calls (Some j) x ≡ []
step_within calls j x e =
    ap (λ (q : Option ℕ). cond (parted (Some j) q) (text_by calls q (source x)) []) e
    ∙ ap (λ (v : Bool). cond (not v) (text_by calls (Some j) (source x)) []) (itself j)

text_within : (calls : List OuterCall) (j : ℕ) (xs : List Item) → AreItemsOf j xs → text_from calls (Some j) xs ≡ []
text_within calls j [] h = refl
text_within calls j (x ∷ xs) h =
    ap (λ bs. bs ++ text_from calls (call_of x) xs) (step_within calls j x h.0)
    ∙ ap (λ (q : Option ℕ). text_from calls q xs) h.0
    ∙ text_within calls j xs h.1

-- what is on the page for them is the call
pub call_text : (calls : List OuterCall) (o : Option ℕ) (j : ℕ) (x : Item) (xs : List Item) → AreItemsOf j (x ∷ xs) → parted o (Some j) ≡ true
    → text_from calls o (x ∷ xs) ≡ source_of_call (slice_get calls j)
call_text calls o j x xs h e =
    ap (λ (q : Option ℕ). cond (parted o q) (text_by calls q (source x)) [] ++ text_from calls q xs) h.0
    ∙ ap (λ (v : Bool). cond v (source_of_call (slice_get calls j)) [] ++ text_from calls (Some j) xs) e
    ∙ ap (λ bs. source_of_call (slice_get calls j) ++ bs) (text_within calls j xs h.1)
    ∙ append-nil (source_of_call (slice_get calls j))

parts_within : (j : ℕ) (xs : List Item) → AreItemsOf j xs → parts_from (Some j) (Some []) xs ≡ []
parts_within j [] h = refl
parts_within j (x ∷ xs) h =
    ap (λ (q : Option ℕ). part_step (parted (Some j) q) q (source x) (Some []) (λ s. parts_from q s xs)) h.0
    ∙ ap (λ (v : Bool). part_step (not v) (Some j) (source x) (Some []) (λ s. parts_from (Some j) s xs)) (itself j)
    ∙ parts_within j xs h.1

-- and it is the only part of their group
pub call_part : (o : Option ℕ) (j : ℕ) (x : Item) (xs : List Item) → AreItemsOf j (x ∷ xs) → parted o (Some j) ≡ true → parts_from o None (x ∷ xs) ≡ called j ∷ []
call_part o j x xs h e =
    ap (λ (q : Option ℕ). part_step (parted o q) q (source x) None (λ s. parts_from q s xs)) h.0
    ∙ ap (λ (v : Bool). part_step v (Some j) (source x) None (λ s. parts_from (Some j) s xs)) e
    ∙ ap (λ ps. called j ∷ ps) (parts_within j xs h.1)

-- ---- the text of a call

no_clean : (a v b c : Bool) → v ≡ false → (a && ((v && b) && c)) ≡ false
no_clean true v b c e = ap (λ (w : Bool). (w && b) && c) e
no_clean false v b c e = refl

call_unclean : (o p : Option ℕ) (j : ℕ) (x : Item) (xs : List Item) → AreItemsOf j (x ∷ xs) → clean_at o p (loose_leaf Text (x ∷ xs)) ≡ false
call_unclean o p j x xs h =
    no_clean (free_places o (x ∷ xs) [] [] p) (is_page x) (list_all is_page (xs ++ [])) (list_any is_page (x ∷ (xs ++ []))) (ap is_no_call h.0)

leaf_items : (xs : List Item) → tree_items (loose_leaf Text xs) ≡ xs
leaf_items xs = append-nil xs

held_leaf : (xs : List Item) → held_by_all (further (loose_leaf Text xs) nothing) ≡ xs
held_leaf xs = append-nil (tree_items (loose_leaf Text xs)) ∙ leaf_items xs

group_is : (calls : List OuterCall) (o : Option ℕ) (at j : ℕ) (x : Item) (xs : List Item) → AreItemsOf j (x ∷ xs) → parted o (Some j) ≡ true
    → placeless (group_at calls (group_data calls) o at (further (loose_leaf Text (x ∷ xs)) nothing)) ≡ call_group calls j (loose_leaf Text (x ∷ xs))
group_is calls o at j x xs h e =
    let t : ItemTrees = further (loose_leaf Text (x ∷ xs)) nothing in
    let text : text_from calls o (held_by_all t) ≡ source_of_call (slice_get calls j) =
    ap (text_from calls o) (held_leaf (x ∷ xs)) ∙ call_text calls o j x xs h e in
    let parts : parts_from o None (held_by_all t) ≡ called j ∷ [] = ap (parts_from o None) (held_leaf (x ∷ xs)) ∙ call_part o j x xs h e in
    ap₂ (λ (bs : List ℕ) (ps : List Piece). placeless (tree (group_label at bs (group_data calls ps)) (all_unplaced t))) text parts

-- ---- nodes of the page and texts of calls, side by side

pub record IsCallText (j : ℕ) (t : ItemTree) : Type 0 where
  pub first : Item
  pub others : List Item
  pub is : t ≡ loose_leaf Text (first ∷ others)
  pub of_call : AreItemsOf j (first ∷ others)

abbrev pub IsPiece : Option ℕ → ItemTree → Type 0
IsPiece None t = IsOwn t
IsPiece (Some j) t = IsCallText j t

-- behind an item of this call; no two texts of one call are side by side
abbrev pub ArePieces : Option ℕ → List ItemTree → Type 0
ArePieces o [] = Unit {0}
ArePieces o (t ∷ ts) = (c : Option ℕ) × IsPiece c t × (parted o c ≡ true) × ArePieces c ts

piece_first : (c : Option ℕ) (t : ItemTree) → IsPiece c t → (q : Option ℕ) → first_of (tree_items t) q ≡ c
piece_first None t h q = first_own (tree_items t) q h.of_page (has_page t h.has_items)
piece_first (Some j) t h q = ap (λ (u : ItemTree). first_of (tree_items u) q) h.is ∙ h.of_call.0

piece_last : (c : Option ℕ) (t : ItemTree) → IsPiece c t → (o : Option ℕ) → last_of o (tree_items t) ≡ c
piece_last None t h o = last_own o (tree_items t) h.of_page (has_page t h.has_items)
piece_last (Some j) t h o =
    ap (λ (u : ItemTree). last_of o (tree_items u)) h.is
    ∙ ap (last_of o) (leaf_items (h.first ∷ h.others))
    ∙ last_within j (call_of h.first) h.others h.of_call.1 h.of_call.0

pieces_free : (calls : List OuterCall) (c : Option ℕ) (at : ℕ) (p : Option ℕ) (ts : List ItemTree) → ArePieces c ts
    → FreeBefore (near calls (group_data calls) c at p (forest ts))
pieces_free calls c at p [] h = tt
pieces_free calls c at p (t ∷ ts) h = ap (parted c) (piece_first h.0 t h.1 (first_of (held_by_all (forest ts)) p)) ∙ h.2

-- one with what is round it
abbrev pub near_one : List OuterCall → Option ℕ → ℕ → Option ℕ → ItemTree → Near
near_one calls o at q t = record {
  tree = t;
  before = o;
  after = q;
  byte = at;
  free = parted o (first_of (tree_items t) q);
  clean = clean_at o q t;
  whole = walked calls (group_data calls) o at q t;
}

piece_alone : (calls : List OuterCall) (o : Option ℕ) (at : ℕ) (q c : Option ℕ) (t : ItemTree) (ds : List Near) → IsPiece c t → parted o c ≡ true → FreeBefore ds
    → all_placeless (trees (near_runs calls (group_data calls) (near_one calls o at q t ∷ ds)))
    ≡ more (in_page calls t) (all_placeless (trees (near_runs calls (group_data calls) ds)))
piece_alone calls o at q None t ds h e f =
    let rest = all_placeless (trees (near_runs calls (group_data calls) ds)) in
    ap (λ us. all_placeless (trees us)) (near_alone calls (near_one calls o at q t) ds (own_clean o q t h.of_page (has_page t h.has_items)) f)
    ∙ ap (λ u. more u rest) (walk_own calls o at q [] t h.of_page h.has_items)
    ∙ ap (λ (x : Option ℕ). more (by_call calls x t) rest) (sym (piece_first None t h None))
piece_alone calls o at q (Some j) t ds h e f =
    let rest = all_placeless (trees (near_runs calls (group_data calls) ds)) in
    let P : ItemTree → Type 0 = λ (u : ItemTree). all_placeless (trees (near_runs calls (group_data calls) (near_one calls o at q u ∷ ds))) ≡ more (in_page calls u) rest in
    subst P (sym h.is) (leaf_alone calls o at q j h.first h.others ds h.of_call e f)
  where
    leaf_alone : (calls : List OuterCall) (o : Option ℕ) (at : ℕ) (q : Option ℕ) (j : ℕ) (x : Item) (xs : List Item) (ds : List Near) → AreItemsOf j (x ∷ xs)
        → parted o (Some j) ≡ true → FreeBefore ds
        → all_placeless (trees (near_runs calls (group_data calls) (near_one calls o at q (loose_leaf Text (x ∷ xs)) ∷ ds)))
        ≡ more (in_page calls (loose_leaf Text (x ∷ xs))) (all_placeless (trees (near_runs calls (group_data calls) ds)))
    leaf_alone calls o at q j x xs ds h e f =
        let t : ItemTree = loose_leaf Text (x ∷ xs) in
        let c : Near = near_one calls o at q t in
        let rest = all_placeless (trees (near_runs calls (group_data calls) ds)) in
        ap (λ us. all_placeless (trees us)) (near_apart calls (c ∷ []) ds f)
        ∙ ap (λ (v : Bool). more (placeless (cond v c.whole (near_group calls (group_data calls) (c ∷ [])))) rest) (call_unclean o q j x xs h)
        ∙ ap (λ u. more u rest) (group_is calls o at j x xs h e)
        ∙ ap (λ (y : Option ℕ). more (by_call calls y t) rest) (sym h.0)

pub pieces_are : (calls : List OuterCall) (o : Option ℕ) (at : ℕ) (p : Option ℕ) (ts : List ItemTree) → ArePieces o ts
    → all_placeless (trees (near_runs calls (group_data calls) (near calls (group_data calls) o at p (forest ts)))) ≡ all_in_page calls ts
pieces_are calls o at p [] h = refl
pieces_are calls o at p (t ∷ ts) h =
    let q : Option ℕ = first_of (held_by_all (forest ts)) p in
    let o2 : Option ℕ = last_of o (tree_items t) in
    let at2 : ℕ = at + length (text_from calls o (tree_items t)) in
    let last : o2 ≡ h.0 = piece_last h.0 t h.1 o in
    let more_pieces : ArePieces o2 ts = subst (λ (x : Option ℕ). ArePieces x ts) (sym last) h.3 in
    piece_alone calls o at q h.0 t (near calls (group_data calls) o2 at2 p (forest ts)) h.1 h.2 (pieces_free calls o2 at2 p ts more_pieces)
    ∙ ap (more (in_page calls t)) (pieces_are calls o2 at2 p ts more_pieces)

-- ---- characters of one call side by side are one text

abbrev AllTexts : Option ℕ → List Part → Type 0
AllTexts o [] = Unit {0}
AllTexts o (loose Text p b ∷ ps) = (p ≡ o) × AllTexts o ps
AllTexts o (loose Sep p b ∷ ps) = ⊥
AllTexts o (node t ∷ ps) = ⊥

abbrev IsRunOf : Option ℕ → List Part → Type 0
IsRunOf o [] = ⊥
IsRunOf o (loose Text p b ∷ ps) = (p ≡ o) × AllTexts o ps
IsRunOf o (loose Sep p b ∷ ps) = ⊥
IsRunOf o (node t ∷ []) = (o ≡ None) × IsOwn t
IsRunOf o (node t ∷ p ∷ ps) = ⊥

abbrev RunsOf : Option ℕ → List (List Part) → Type 0
RunsOf o [] = Unit {0}
RunsOf o (r ∷ rs) = (c : Option ℕ) × IsRunOf c r × (parted o c ≡ true) × RunsOf c rs

pub same_is : (o q : Option ℕ) → same_origin o q ≡ true → o ≡ q
same_is None None e = refl
same_is None (Some k) e = cc
same_is (Some j) None e = cc
same_is (Some j) (Some k) e = ap (λ (n : ℕ). Some n) ((Decides-eqb j k).0 e)

other_parted : (o q : Option ℕ) → same_origin o q ≡ false → parted o q ≡ true
other_parted None q e = refl
other_parted (Some j) None e = refl
other_parted (Some j) (Some k) e = ap not e

node_put : (t : ItemTree) (rs : List (List Part)) → IsOwn t → RunsOf None rs → RunsOf None (put one_leaf (node t) rs)
node_put t [] own h = (None, (refl, own), refl, tt)
node_put t ([] ∷ rs) own h = absurd h.1
node_put t ((y ∷ ys) ∷ rs) own h = (None, (refl, own), refl, (h.0, h.1, refl, h.3))

text_by_test : (o : Option ℕ) (b : ℕ) (q : Option ℕ) (d : ℕ) (ys : List Part) (rs : List (List Part)) (v : Bool) → same_origin o q ≡ v
    → RunsOf None ((loose Text q d ∷ ys) ∷ rs)
    → RunsOf None (if v then (loose Text o b ∷ loose Text q d ∷ ys) ∷ rs else (loose Text o b ∷ []) ∷ (loose Text q d ∷ ys) ∷ rs)
text_by_test o b q d ys rs true e h = (h.0, (same_is o q e ∙ h.1.0, h.1), refl, h.3)
text_by_test o b q d ys rs false e h =
    (o, (refl, tt), refl, (h.0, h.1, subst (λ (x : Option ℕ). parted o x ≡ true) h.1.0 (other_parted o q e), h.3))

node_behind : (c o : Option ℕ) (t : ItemTree) (ys : List Part) → IsRunOf c (node t ∷ ys) → parted o c ≡ true
node_behind c o t [] h = before_free o c h.0
node_behind c o t (y ∷ ys) h = absurd h

text_put : (o : Option ℕ) (b : ℕ) (rs : List (List Part)) → RunsOf None rs → RunsOf None (put one_leaf (loose Text o b) rs)
text_put o b [] h = (o, (refl, tt), refl, tt)
text_put o b ([] ∷ rs) h = absurd h.1
text_put o b ((loose Text q d ∷ ys) ∷ rs) h = text_by_test o b q d ys rs (same_origin o q) refl h
text_put o b ((loose Sep q d ∷ ys) ∷ rs) h = absurd h.1
text_put o b ((node t ∷ ys) ∷ rs) h = (o, (refl, tt), refl, (h.0, h.1, node_behind h.0 o t ys h.1, h.3))

runs_of : (ps : List Part) → AreOwnOrTexts ps → RunsOf None (runs one_leaf ps)
runs_of [] h = tt
runs_of (loose Text o b ∷ ps) h = text_put o b (runs one_leaf ps) (runs_of ps h)
runs_of (loose Sep o b ∷ ps) h = absurd h
runs_of (node t ∷ ps) h = node_put t (runs one_leaf ps) h.0 (runs_of ps h.1)

-- ---- so its children are pieces

call_items : (j : ℕ) (ps : List Part) → AllTexts (Some j) ps → AreItemsOf j (held_parts ps)
call_items j [] h = tt
call_items j (loose Text p b ∷ ps) h = (h.0, call_items j ps h.1)
call_items j (loose Sep p b ∷ ps) h = absurd h
call_items j (node t ∷ ps) h = absurd h

pub and_both : (v w : Bool) → v ≡ true → w ≡ true → (v && w) ≡ true
and_both true w e f = f
and_both false w e f = e

own_items : (ps : List Part) → AllTexts None ps → list_all is_page (held_parts ps) ≡ true
own_items [] h = refl
own_items (loose Text p b ∷ ps) h = and_both (is_no_call p) (list_all is_page (held_parts ps)) (ap is_no_call h.0) (own_items ps h.1)
own_items (loose Sep p b ∷ ps) h = absurd h
own_items (node t ∷ ps) h = absurd h

own_leaf : (p : Option ℕ) (b : ℕ) (ps : List Part) → p ≡ None → AllTexts None ps → IsOwn (loose_leaf Text (char p b ∷ held_parts ps))
own_leaf p b ps e h =
    let xs : List Item = char p b ∷ held_parts ps in
    record {
      of_page = ap (list_all is_page) (leaf_items xs) ∙ and_both (is_no_call p) (list_all is_page (held_parts ps)) (ap is_no_call e) (own_items ps h);
      has_items = (ap (λ (v : Bool). v || list_any is_page (held_parts ps ++ [])) (ap is_no_call e), tt);
    }

text_piece : (c p : Option ℕ) (b : ℕ) (ps : List Part) → p ≡ c → AllTexts c ps → IsPiece c (loose_leaf Text (char p b ∷ held_parts ps))
text_piece None p b ps e h = own_leaf p b ps e h
text_piece (Some j) p b ps e h = record { first = char p b; others = held_parts ps; is = refl; of_call = (e, call_items j ps h) }

piece_of : (c : Option ℕ) (r : List Part) → IsRunOf c r → IsPiece c (child r)
piece_of c [] h = absurd h
piece_of c (loose Text p b ∷ ps) h = text_piece c p b ps h.0 h.1
piece_of c (loose Sep p b ∷ ps) h = absurd h
piece_of c (node t ∷ []) h = subst (λ (x : Option ℕ). IsPiece x t) (sym h.0) h.1
piece_of c (node t ∷ p ∷ ps) h = absurd h

pieces_of : (o : Option ℕ) (rs : List (List Part)) → RunsOf o rs → ArePieces o (map child rs)
pieces_of o [] h = tt
pieces_of o (r ∷ rs) h = (h.0, piece_of h.0 r h.1, h.2, pieces_of h.0 rs h.3)

pub children_pieces : (ps : List Part) → AreOwnOrTexts ps → ArePieces None (children ps)
unfolding children
children_pieces ps h = pieces_of None (runs one_leaf ps) (runs_of ps h)

-- behind an item of any call that they don't begin with
pub pieces_behind : (o : Option ℕ) (ts : List ItemTree) → ArePieces None ts → parted o (first_of (held_by_all (forest ts)) None) ≡ true → ArePieces o ts
pieces_behind o [] h e = tt
pieces_behind o (t ∷ ts) h e =
    let q : Option ℕ = first_of (held_by_all (forest ts)) None in
    let is : first_of (held_by_all (forest (t ∷ ts))) None ≡ h.0 = first_append (tree_items t) (held_by_all (forest ts)) None ∙ piece_first h.0 t h.1 q in
    (h.0, h.1, subst (λ (x : Option ℕ). parted o x ≡ true) is e, h.3)

pub children_are : (calls : List OuterCall) (o : Option ℕ) (at : ℕ) (p : Option ℕ) (ps : List Part) → AreOwnOrTexts ps
    → parted o (first_of (held_by_all (forest (children ps))) None) ≡ true
    → all_placeless (trees (near_runs calls (group_data calls) (near calls (group_data calls) o at p (forest (children ps))))) ≡ all_in_page calls (children ps)
children_are calls o at p ps h e = pieces_are calls o at p (children ps) (pieces_behind o (children ps) (children_pieces ps h) e)
