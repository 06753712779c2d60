-- The children of a node, read from the last to the first and then from the first to the last.
use Rattle.std.proofs.Common.{◌≡◌, ℕ, ◌+◌, ◌^◌, ◌<◌, Bool, Option, List, [], ◌∷◌, ◌++◌, length, map, refl, sym, ap, ◌∙◌, arith, length-append, append_assoc, append-nil}
use Rattle.std.specs.Prelude.{reverse}
use Rattle.std.proofs.lemmas.List.{map-append, reverse-append}
use Rattle.wt_span.specs.Items.{Item}
use Rattle.wt_span.specs.Origins.{OuterCall}
use Rattle.wt_inline.specs.ItemTree.{ItemTree, tree_items, held_by_all, forest}
use Rattle.wt_inline.specs.View.{item_tree, item_trees}
use Rattle.wt_inline.specs.declared.tree.PieceTree.{PieceTree}
use Rattle.wt_runs.specs.declared.child.Child.{Child}
use Rattle.wt_ranges.specs.declared.children.Followed.{Followed}
use Rattle.wt_runs.specs.Children.{near_of, nears_of, children_at}
use Rattle.wt_ranges.specs.Followers.{tree_after, trees_after}
use Rattle.wt_annotated.specs.GroupData.{group_data}
use Rattle.wt_annotated.specs.Seams.{first_of, last_of, parted, text_from}
use Rattle.wt_annotated.specs.Walked.{Near, clean_at, walked}
use Rattle.wt_annotated.proofs.Seams.{first_append, text_append_from}

abbrev pub Pair : Type 0
Pair = ItemTree × Option ℕ

-- ---- from the last to the first

held_last : (ts : List ItemTree) (t : ItemTree) → held_by_all (forest (ts ++ t ∷ [])) ≡ held_by_all (forest ts) ++ tree_items t
held_last [] t = append-nil (tree_items t)
held_last (u ∷ us) t = ap (λ xs. tree_items u ++ xs) (held_last us t) ∙ sym (append_assoc (tree_items u) (held_by_all (forest us)) (tree_items t))

after_last : (ts : List ItemTree) (t : ItemTree) (p : Option ℕ) → trees_after (ts ++ t ∷ []) p ≡ trees_after ts (first_of (tree_items t) p) ++ (t, p) ∷ []
after_last [] t p = refl
after_last (u ∷ us) t p =
    let e : first_of (held_by_all (forest (us ++ t ∷ []))) p ≡ first_of (held_by_all (forest us)) (first_of (tree_items t) p) =
    ap (λ xs. first_of xs p) (held_last us t) ∙ first_append (held_by_all (forest us)) (tree_items t) p in
    ap (λ (q : Option ℕ). (u, q) ∷ trees_after (us ++ t ∷ []) p) e
    ∙ ap (λ (ps : List Pair). (u, first_of (held_by_all (forest us)) (first_of (tree_items t) p)) ∷ ps) (after_last us t p)

-- one more at the end of a list is the first of the reversed one
pub reversed_more : (fs gs : List Followed) (f : Followed) → gs ≡ fs ++ f ∷ [] → reverse (map tree_after gs) ≡ tree_after f ∷ reverse (map tree_after fs)
reversed_more fs gs f e = ap (λ hs. reverse (map tree_after hs)) e ∙ ap reverse (map-append tree_after fs (f ∷ []))
    ∙ reverse-append (map tree_after fs) (tree_after f ∷ [])

pub follow_step : (ts us : List PieceTree) (t : PieceTree) (fs gs : List Followed) (f : Followed) (p q : Option ℕ) (all : List Pair) → ts ≡ us ++ t ∷ []
    → gs ≡ fs ++ f ∷ [] → tree_after f ≡ (item_tree t, p) → q ≡ first_of (tree_items (item_tree t)) p
    → trees_after (item_trees ts) p ++ reverse (map tree_after fs) ≡ all → trees_after (item_trees us) q ++ reverse (map tree_after gs) ≡ all
follow_step ts us t fs gs f p q all e g h r i =
    let o : Option ℕ = first_of (tree_items (item_tree t)) p in
    let rest : List Pair = reverse (map tree_after fs) in
    ap (λ (x : Option ℕ). trees_after (item_trees us) x ++ reverse (map tree_after gs)) r
    ∙ ap (λ (xs : List Pair). trees_after (item_trees us) o ++ xs) (reversed_more fs gs f g ∙ ap (λ (x : Pair). x ∷ rest) h)
    ∙ sym (append_assoc (trees_after (item_trees us) o) ((item_tree t, p) ∷ []) rest)
    ∙ ap (λ (xs : List Pair). xs ++ rest) (sym (after_last (item_trees us) (item_tree t) p))
    ∙ ap (λ (xs : List ItemTree). trees_after xs p ++ rest) (sym (ap item_trees e ∙ map-append item_tree us (t ∷ [])))
    ∙ i

pub follow_none : (ts : List PieceTree) (fs : List Followed) (p : Option ℕ) (all : List Pair) → length ts ≡ 0
    → trees_after (item_trees ts) p ++ reverse (map tree_after fs) ≡ all → reverse (map tree_after fs) ≡ all
follow_none [] fs p all l e = e
follow_none (t ∷ ts) fs p all l e = absurd (omega (arith, l))

-- ---- from the first to the last

abbrev pub near_child : List OuterCall → Option ℕ → ℕ → Option ℕ → ItemTree → Near
near_child calls o at p t = record {
  tree = t;
  before = o;
  after = p;
  byte = at;
  free = parted o (first_of (tree_items t) p);
  clean = clean_at o p t;
  whole = walked calls (group_data calls) o at p t;
}

abbrev pub nears_from : List OuterCall → Option ℕ → ℕ → List Pair → List Near
nears_from calls o at [] = []
nears_from calls o at (b ∷ bs) = near_child calls o at b.1 b.0 ∷ nears_from calls (last_of o (tree_items b.0))
    (at + length (text_from calls o (tree_items b.0))) bs

abbrev pub held_from : List Pair → List Item
held_from [] = []
held_from (b ∷ bs) = tree_items b.0 ++ held_from bs

pub held_is : (ts : List ItemTree) (p : Option ℕ) → held_from (trees_after ts p) ≡ held_by_all (forest ts)
held_is [] p = refl
held_is (t ∷ ts) p = ap (λ xs. tree_items t ++ xs) (held_is ts p)

pub nears_are : (calls : List OuterCall) (o : Option ℕ) (at : ℕ) (ts : List ItemTree) (p : Option ℕ)
    → nears_from calls o at (trees_after ts p) ≡ children_at calls o at p ts
nears_are calls o at [] p = refl
nears_are calls o at (t ∷ ts) p =
    ap (λ (ns : List Near). near_child calls o at (first_of (held_by_all (forest ts)) p) t ∷ ns)
    (nears_are calls (last_of o (tree_items t)) (at + length (text_from calls o (tree_items t))) ts p)

pub child_is : (calls : List OuterCall) (t : PieceTree) (o p : Option ℕ) (at : ℕ) (free clean : Bool) → free ≡ parted o (first_of (tree_items (item_tree t)) p)
    → clean ≡ clean_at o p (item_tree t)
    → near_of calls (record { tree = t; before = o; after = p; byte = at; free = free; clean = clean }) ≡ near_child calls o at p (item_tree t)
child_is calls t o p at free clean f c =
    ap (λ (v : Bool). record {
      tree = item_tree t;
      before = o;
      after = p;
      byte = at;
      free = v;
      clean = clean;
      whole =
          walked calls (group_data calls) o at p (item_tree t);
    }) f
    ∙ ap (λ (v : Bool). record {
      tree = item_tree t;
      before = o;
      after = p;
      byte = at;
      free = parted o (first_of (tree_items (item_tree t)) p);
      clean = v;
      whole =
          walked calls (group_data calls) o at p (item_tree t);
    }) c

-- what is done, and what comes next
pub record Read (calls : List OuterCall) (cs : List Child) (o : Option ℕ) (at : ℕ) (fs : List Followed) (all : List Near) : Type 0 where
  pub nears : nears_of calls cs ++ nears_from calls o at (reverse (map tree_after fs)) ≡ all
  pub fits : at + length (text_from calls o (held_from (reverse (map tree_after fs)))) < 2 ^ 32

pub read_first : (calls : List OuterCall) (cs : List Child) (fs : List Followed) (o p : Option ℕ) (at : ℕ) (ts : List PieceTree) → cs ≡ []
    → reverse (map tree_after fs) ≡ trees_after (item_trees ts) p → at + length (text_from calls o (held_by_all (forest (item_trees ts)))) < 2 ^ 32
    → Read calls cs o at fs (children_at calls o at p (item_trees ts))
read_first calls cs fs o p at ts z e w = record {
  nears =
      ap (λ (xs : List Child). nears_of calls xs ++ nears_from calls o at (reverse (map tree_after fs))) z
      ∙ ap (nears_from calls o at) e
      ∙ nears_are calls o at (item_trees ts) p;
  fits = omega (
    arith,
    w,
    ap (λ (bs : List Pair). length (text_from calls o (held_from bs))) e,
    ap (λ (xs : List Item). length (text_from calls o xs))
        (held_is (item_trees ts) p),
  );
}

-- the width of the next child
pub read_room : (calls : List OuterCall) (cs : List Child) (o : Option ℕ) (at : ℕ) (fs gs : List Followed) (f : Followed) (all : List Near)
    → Read calls cs o at fs all → fs ≡ gs ++ f ∷ []
    → at + length (text_from calls o (tree_items (item_tree f.tree)))
    + length (text_from calls (last_of o (tree_items (item_tree f.tree))) (held_from (reverse (map tree_after gs)))) < 2 ^ 32
read_room calls cs o at fs gs f all r e =
    let t : ItemTree = item_tree f.tree in
    let rest : List Item = held_from (reverse (map tree_after gs)) in
    let one : length (text_from calls o (held_from (reverse (map tree_after fs))))
    ≡ length (text_from calls o (tree_items t)) + length (text_from calls (last_of o (tree_items t)) rest) =
    ap (λ (bs : List Pair). length (text_from calls o (held_from bs))) (reversed_more gs fs f e) ∙ ap length (text_append_from calls o (tree_items t) rest)
    ∙ length-append (text_from calls o (tree_items t)) (text_from calls (last_of o (tree_items t)) rest) in
    omega (arith, r.fits, one)

pub read_step : (calls : List OuterCall) (cs ds : List Child) (c : Child) (o q : Option ℕ) (at at2 : ℕ) (fs gs : List Followed) (f : Followed)
    (all : List Near) → Read calls cs o at fs all → fs ≡ gs ++ f ∷ [] → ds ≡ cs ++ c ∷ []
    → near_of calls c ≡ near_child calls o at f.after (item_tree f.tree) → q ≡ last_of o (tree_items (item_tree f.tree))
    → at2 ≡ at + length (text_from calls o (tree_items (item_tree f.tree))) → Read calls ds q at2 gs all
read_step calls cs ds c o q at at2 fs gs f all r e d n l w =
    let t : ItemTree = item_tree f.tree in
    let rest : List Pair = reverse (map tree_after gs) in
    let m : ℕ = at + length (text_from calls o (tree_items t)) in
    record {
      nears =
          ap (λ (xs : List Child). nears_of calls xs ++ nears_from calls q at2 rest) d
          ∙ ap (λ (xs : List Near). xs ++ nears_from calls q at2 rest) (map-append (near_of calls) cs (c ∷ []))
          ∙ append_assoc (nears_of calls cs) (near_of calls c ∷ []) (nears_from calls q at2 rest)
          ∙ ap (λ (x : Near). nears_of calls cs ++ (x ∷ nears_from calls q at2 rest)) n
          ∙ ap (λ (x : Option ℕ). nears_of calls cs ++ (near_child calls o at f.after t ∷ nears_from calls x at2 rest)) l
          ∙ ap (λ (x : ℕ). nears_of calls cs ++ (near_child calls o at f.after t ∷ nears_from calls (last_of o (tree_items t)) x rest)) w
          ∙ ap (λ (bs : List Pair). nears_of calls cs ++ nears_from calls o at bs) (sym (reversed_more gs fs f e))
          ∙ r.nears;
      fits =
          let room = read_room calls cs o at fs gs f all r e in
          let s : length (text_from calls q (held_from rest)) ≡ length (text_from calls (last_of o (tree_items t)) (held_from rest)) =
          ap (λ (x : Option ℕ). length (text_from calls x (held_from rest))) l in
          omega (arith, room, s, w);
    }

pub read_all : (calls : List OuterCall) (cs : List Child) (o : Option ℕ) (at : ℕ) (fs : List Followed) (all : List Near) → Read calls cs o at fs all
    → length fs ≡ 0 → nears_of calls cs ≡ all
read_all calls cs o at [] all r l = sym (append-nil (nears_of calls cs)) ∙ r.nears
read_all calls cs o at (f ∷ fs) all r l = absurd (omega (arith, l))
