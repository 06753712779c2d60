-- Nodes of an expanded page: their delimiters are texts and whole forms, cut between characters, and no two neighbours are texts
-- that were one; and parts that make such nodes.
use Rattle.std.proofs.Common.{◌≡◌, Bool, true, false, Option, Some, None, List, [], ◌∷◌, ◌++◌, map, ℕ, IsUtf8, refl, sym, ap, subst, append_assoc, append-nil}
use Rattle.std.specs.Prelude.{◌&&◌}
use Rattle.std.specs.List.{list_all}
use Rattle.std.proofs.lemmas.Bool.{and_parts, eqb-true}
use Rattle.std.proofs.lemmas.Str.{IsUtf8-append, IsUtf8-nil}
use Rattle.wt_span.specs.Items.{Item, char, sources}
use Rattle.wt_span.specs.Runs.{runs, IsRun, AreRuns}
use Rattle.wt_span.proofs.RunLaws.{runs_are}
use Rattle.wt_tree.specs.declared.kind.Kind.{Kind}
use Rattle.wt_tree.specs.declared.kind.Kind.TheVariants as kind
use Rattle.wt_tree.specs.Tiling.{is_group}
use Rattle.wt_inline.specs.declared.loose.Loose.{Loose}
use Rattle.wt_inline.specs.declared.loose.Loose.TheVariants.{Text, Sep}
use Rattle.wt_inline.specs.ItemTree.{ItemTree, inner, ItemTrees, nothing, further, forest, tree_items, held_by_all}
use Rattle.wt_inline.specs.Parts.{Part, loose, node, held_parts, same_loose, same_origin, one_leaf, loose_leaf, child, children}
use Rattle.wt_inline.proofs.HeldLaws.{sources_append}
use Rattle.wt_annotated.specs.Clean.{is_page}
use Rattle.wt_page_round_trip.proofs.TextItems.{continues, IfOther, CanCut, before_first, first_byte, cut_end, more_cut, seam_by}
use Rattle.wt_page_round_trip.proofs.OfPage.{ArePageItems, no_page_items, page_utf8, chars_page}
use Rattle.wt_page_round_trip.proofs.OwnNodes.{are_one_kind, is_one_text, IsApartFrom, HasOrigin}

-- ---- nodes

abbrev mutual
  pub IsPageNode : ItemTree → Type 0
  IsPageNode (inner h opening ts closing) =
      ArePageItems opening × ArePageItems closing × (is_group h.kind ≡ false) × ArePageNodes ts × HasOrigin h.kind opening ts closing

  pub ArePageNodes : ItemTrees → Type 0
  ArePageNodes nothing = Unit {0}
  ArePageNodes (further t ts) = IsPageNode t × IsApartFrom t ts × ArePageNodes ts

-- what nodes hold is UTF-8
utf8_both : (xs ys : List Item) → IsUtf8 (sources xs) → IsUtf8 (sources ys) → IsUtf8 (sources (xs ++ ys))
utf8_both xs ys u v = subst IsUtf8 (sym (sources_append xs ys)) (IsUtf8-append (sources xs) (sources ys) u v)

mutual
  pub node_utf8 : (t : ItemTree) → IsPageNode t → IsUtf8 (sources (tree_items t))
  node_utf8 (inner h opening ts closing) n =
      utf8_both opening (held_by_all ts ++ closing) (page_utf8 opening n.0) (utf8_both (held_by_all ts) closing (nodes_utf8 ts n.3) (page_utf8 closing n.1))

  pub nodes_utf8 : (ts : ItemTrees) → ArePageNodes ts → IsUtf8 (sources (held_by_all ts))
  nodes_utf8 nothing n = IsUtf8-nil
  nodes_utf8 (further t ts) n = utf8_both (tree_items t) (held_by_all ts) (node_utf8 t n.0) (nodes_utf8 ts n.2)

-- ---- parts

-- a text or a separator
abbrev pub is_words : Kind → Bool
is_words kind.Text = true
is_words kind.Sep = true
is_words k = false

-- a node that is neither
abbrev pub IsElement : ItemTree → Type 0
IsElement (inner h opening ts closing) = is_words h.kind ≡ false

-- where characters of another leaf follow, a character begins there
abbrev pub IsPartSeam : Loose → Option ℕ → List Part → Type 0
IsPartSeam j o [] = Unit {0}
IsPartSeam j o (loose i p c ∷ ps) = IfOther (same_loose j i && same_origin o p) (continues c ≡ false)
IsPartSeam j o (node t ∷ ps) = Unit {0}

-- These bytes, and then parts: the characters between two nodes are UTF-8, and so are those of each leaf by themselves; and
-- the nodes are a page's.
abbrev pub ArePageParts : List ℕ → List Part → Type 0
ArePageParts run [] = IsUtf8 run
ArePageParts run (loose j o b ∷ ps) = IsPartSeam j o ps × ArePageParts (run ++ b ∷ []) ps
ArePageParts run (node t ∷ ps) = IsUtf8 run × IsElement t × IsPageNode t × ArePageParts [] ps

-- a run is cut where its bytes can be
parts_cut : (r s : List ℕ) (ps : List Part) → CanCut r s → ArePageParts (r ++ s) ps → IsUtf8 r × ArePageParts s ps
parts_cut r s [] h w = cut_end r s h w
parts_cut r s (loose j o b ∷ ps) h w =
    let q : IsUtf8 r × ArePageParts (s ++ b ∷ []) ps =
    parts_cut r (s ++ b ∷ []) ps (more_cut r s b h) (subst (λ z. ArePageParts z ps) (append_assoc r s (b ∷ [])) w.1) in
    (q.0, (w.0, q.1))
parts_cut r s (node t ∷ ps) h w = let q = cut_end r s h w.0 in (q.0, (q.1, w.1, w.2, w.3))

-- ---- parts one behind another

parts_front : (run : List ℕ) (ps : List Part) → ArePageParts run ps → (s : List ℕ) × IsUtf8 (run ++ s)
parts_front run [] w = ([], subst IsUtf8 (sym (append-nil run)) w)
parts_front run (loose j o b ∷ ps) w =
    let q = parts_front (run ++ b ∷ []) ps w.1 in (b ∷ q.0, subst IsUtf8 (append_assoc run (b ∷ []) q.0) q.1)
parts_front run (node t ∷ ps) w = ([], subst IsUtf8 (sym (append-nil run)) w.0)

begin_part_seam : (j : Loose) (o : Option ℕ) (ps : List Part) → ArePageParts [] ps → IsPartSeam j o ps
begin_part_seam j o [] w = tt
begin_part_seam j o (node t ∷ ps) w = tt
begin_part_seam j o (loose i p b ∷ ps) w =
    let q = parts_front (b ∷ []) ps w.1 in seam_by (same_loose j i && same_origin o p) b (first_byte b q.0 q.1)

part_seam_both : (j : Loose) (o : Option ℕ) (ps qs : List Part) → IsPartSeam j o ps → ArePageParts [] qs → IsPartSeam j o (ps ++ qs)
part_seam_both j o [] qs s w = begin_part_seam j o qs w
part_seam_both j o (loose i p b ∷ ps) qs s w = s
part_seam_both j o (node t ∷ ps) qs s w = tt

parts_behind : (run s : List ℕ) (qs : List Part) → IsUtf8 run → ArePageParts s qs → ArePageParts (run ++ s) qs
parts_behind run s [] u w = IsUtf8-append run s u w
parts_behind run s (loose j o b ∷ qs) u w =
    (w.0, subst (λ r. ArePageParts r qs) (sym (append_assoc run s (b ∷ []))) (parts_behind run (s ++ b ∷ []) qs u w.1))
parts_behind run s (node t ∷ qs) u w = (IsUtf8-append run s u w.0, w.1, w.2, w.3)

pub parts_both : (run : List ℕ) (ps qs : List Part) → ArePageParts run ps → ArePageParts [] qs → ArePageParts run (ps ++ qs)
parts_both run [] qs v w = subst (λ r. ArePageParts r qs) (append-nil run) (parts_behind run [] qs v w)
parts_both run (loose j o b ∷ ps) qs v w = (part_seam_both j o ps qs v.0 w, parts_both (run ++ b ∷ []) ps qs v.1 w)
parts_both run (node t ∷ ps) qs v w = (v.0, v.1, v.2, parts_both [] ps qs v.3 w)

-- ---- one leaf

-- characters that follow make no leaf with it
abbrev pub StopsAt : Loose → Option ℕ → List Part → Type 0
StopsAt j o [] = Unit {0}
StopsAt j o (loose i p c ∷ ps) = (same_loose j i && same_origin o p) ≡ false
StopsAt j o (node t ∷ ps) = Unit {0}

-- characters of one leaf behind others, and what follows them
pub record IsLeafRun (run : List ℕ) (j : Loose) (o : Option ℕ) (r others : List Part) : Type 0 where
  pub first : ℕ
  pub more : List ℕ
  pub items : held_parts r ≡ map (char o) (first ∷ more)
  pub good : IsUtf8 (run ++ first ∷ more)
  pub rest : ArePageParts [] others
  pub stops : StopsAt j o others

same_loose_is : (j i : Loose) → same_loose j i ≡ true → j ≡ i
same_loose_is Text Text e = refl
same_loose_is Text Sep e = cc
same_loose_is Sep Text e = cc
same_loose_is Sep Sep e = refl

pub same_origin_is : (o p : Option ℕ) → same_origin o p ≡ true → o ≡ p
same_origin_is None None e = refl
same_origin_is None (Some k) e = cc
same_origin_is (Some j) None e = cc
same_origin_is (Some j) (Some k) e = ap (λ n. Some n) (eqb-true j k e)

pub leaf_run : (run : List ℕ) (j : Loose) (o : Option ℕ) (b : ℕ) (r others : List Part) → IsRun one_leaf (loose j o b ∷ r) others
    → ArePageParts run ((loose j o b ∷ r) ++ others) → IsLeafRun run j o (loose j o b ∷ r) others
leaf_run run j o b [] [] h w = record { first = b; more = []; items = refl; good = w.1; rest = IsUtf8-nil; stops = tt }
leaf_run run j o b [] (loose i p c ∷ others) h w =
    let v : ArePageParts (run ++ b ∷ []) (loose i p c ∷ others) = w.1 in
    let e : continues c ≡ false = subst (λ (t : Bool). IfOther t (continues c ≡ false)) h w.0 in
    let q : IsUtf8 (run ++ b ∷ []) × ArePageParts (c ∷ []) others =
    parts_cut (run ++ b ∷ []) (c ∷ []) others (before_first (run ++ b ∷ []) c e) v.1 in
    record { first = b; more = []; items = refl; good = q.0; rest = (v.0, q.1); stops = h }
leaf_run run j o b [] (node t ∷ others) h w =
    let v : ArePageParts (run ++ b ∷ []) (node t ∷ others) = w.1 in
    record { first = b; more = []; items = refl; good = v.0; rest = (IsUtf8-nil, v.1, v.2, v.3); stops = tt }
leaf_run run j o b (node t ∷ r) others h w = absurd (let e = h.0 in cc)
leaf_run run j o b (loose i p c ∷ r) others h w =
    let q : IsLeafRun (run ++ b ∷ []) i p (loose i p c ∷ r) others = leaf_run (run ++ b ∷ []) i p c r others h.1 w.1 in
    let s = and_parts (same_loose j i) (same_origin o p) h.0 in
    let e : i ≡ j = sym (same_loose_is j i s.0) in
    let f : p ≡ o = sym (same_origin_is o p s.1) in
    record {
      first = b;
      more = q.first ∷ q.more;
      items = ap (λ ys. char o b ∷ ys) (subst (λ x. held_parts (loose i p c ∷ r) ≡ map (char x) (q.first ∷ q.more)) f q.items);
      good = subst IsUtf8 (append_assoc run (b ∷ []) (q.first ∷ q.more)) q.good;
      rest = q.rest;
      stops = subst (λ x. StopsAt j x others) f (subst (λ (x : Loose). StopsAt x p others) e q.stops);
    }

-- ---- neighbours

-- neither is a text
one_text_left : (k j : Kind) → is_words k ≡ false → are_one_kind k j ≡ false
one_text_left kind.Text j e = absurd cc
one_text_left kind.Sep j e = absurd cc
one_text_left k j e = refl

one_text_right : (k j : Kind) → is_words j ≡ false → are_one_kind k j ≡ false
one_text_right kind.Text kind.Text e = absurd cc
one_text_right kind.Text j e = refl
one_text_right kind.Sep kind.Sep e = absurd cc
one_text_right kind.Sep j e = refl
one_text_right k j e = refl

not_one : (a b : Bool) → a ≡ false → (a && b) ≡ false
not_one a b e = ap (λ x. x && b) e

element_first : (t : ItemTree) (us : ItemTrees) → IsElement t → IsApartFrom t us
element_first t nothing e = tt
element_first (inner h o ts c) (further (inner i p us d) vs) e = not_one (are_one_kind h.kind i.kind) _ (one_text_left h.kind i.kind e)

element_next : (t u : ItemTree) (us : ItemTrees) → IsElement u → IsApartFrom t (further u us)
element_next (inner h o ts c) (inner i p us d) vs e = not_one (are_one_kind h.kind i.kind) _ (one_text_right h.kind i.kind e)

and_none : (a : Bool) → (a && false) ≡ false
and_none true = refl
and_none false = refl

other_origin : (o p : Option ℕ) (b c : ℕ) (xs ys : List Item) → same_origin o p ≡ false
    → (list_all is_page (char o b ∷ xs) && list_all is_page (char p c ∷ ys)) ≡ false
other_origin None None b c xs ys e = cc
other_origin None (Some k) b c xs ys e = and_none (list_all is_page xs)
other_origin (Some k) p b c xs ys e = refl

two_leaves : (j i : Loose) (o p : Option ℕ) (b c : ℕ) (xs ys : List Item) → (same_loose j i && same_origin o p) ≡ false
    → is_one_text (loose_leaf j (char o b ∷ xs)) (loose_leaf i (char p c ∷ ys)) ≡ false
two_leaves Text Text o p b c xs ys e = other_origin o p b c (xs ++ []) (ys ++ []) e
two_leaves Text Sep o p b c xs ys e = refl
two_leaves Sep Text o p b c xs ys e = refl
two_leaves Sep Sep o p b c xs ys e = other_origin o p b c (xs ++ []) (ys ++ []) e

-- a leaf, and what follows it
leaf_apart : (j : Loose) (o : Option ℕ) (b : ℕ) (xs : List Item) (rs : List (List Part)) (ps : List Part) → AreRuns one_leaf rs ps → ArePageParts [] ps
    → StopsAt j o ps → IsApartFrom (loose_leaf j (char o b ∷ xs)) (forest (map child rs))
leaf_apart j o b xs [] ps a w s = tt
leaf_apart j o b xs ([] ∷ rs) ps a w s = absurd a.2
leaf_apart j o b xs ((loose i p c ∷ r) ∷ rs) ps a w s = two_leaves j i o p b c xs (held_parts r) (subst (StopsAt j o) a.1 s)
leaf_apart j o b xs ((node t ∷ r) ∷ rs) ps a w s =
    let v : ArePageParts [] (node t ∷ (r ++ a.0)) = subst (ArePageParts []) a.1 w in
    element_next (loose_leaf j (char o b ∷ xs)) t (forest (map child rs)) v.1

-- ---- all children

leaf_node : (j : Loose) (xs : List Item) → ArePageItems xs → IsPageNode (loose_leaf j xs)
leaf_node Text xs h = (h, no_page_items, refl, tt, tt)
leaf_node Sep xs h = (h, no_page_items, refl, tt, tt)

runs_nodes : (rs : List (List Part)) (ps : List Part) → AreRuns one_leaf rs ps → ArePageParts [] ps → ArePageNodes (forest (map child rs))
runs_nodes [] ps a w = tt
runs_nodes ([] ∷ rs) ps a w = absurd a.2
runs_nodes ((node t ∷ p ∷ r) ∷ rs) ps a w = absurd (let e = a.2.0 in cc)
runs_nodes ((node t ∷ []) ∷ rs) ps a w =
    let v : ArePageParts [] (node t ∷ a.0) = subst (ArePageParts []) a.1 w in
    (v.2, element_first t (forest (map child rs)) v.1, runs_nodes rs a.0 a.3 v.3)
runs_nodes ((loose j o b ∷ r) ∷ rs) ps a w =
    let v : ArePageParts [] ((loose j o b ∷ r) ++ a.0) = subst (ArePageParts []) a.1 w in
    let q : IsLeafRun [] j o (loose j o b ∷ r) a.0 = leaf_run [] j o b r a.0 a.2 v in (
      leaf_node j (char o b ∷ held_parts r) (subst ArePageItems (sym q.items) (chars_page o (q.first ∷ q.more) q.good)),
      leaf_apart j o b (held_parts r) rs a.0 a.3 q.rest q.stops,
      runs_nodes rs a.0 a.3 q.rest,
    )

pub children_nodes : (ps : List Part) → ArePageParts [] ps → ArePageNodes (forest (children ps))
unfolding children
children_nodes ps w = runs_nodes (runs one_leaf ps) ps (runs_are one_leaf ps) w
