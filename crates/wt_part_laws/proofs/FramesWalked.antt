-- The nodes and groups that a walk makes of trees with places in them, but for places: the same whatever clean blocks are there.
use Rattle.std.proofs.Common.{◌≡◌, ℕ, ◌+◌, Bool, true, false, Option, None, List, [], ◌∷◌, ◌++◌, length, refl, sym, ap, ap₂, ◌∙◌, subst, append-nil, append_assoc, inl, inr}
use Rattle.std.specs.Prelude.{◌&&◌, ◌||◌}
use Rattle.std.specs.List.{list_all, list_any}
use Rattle.wt_tree.specs.declared.kind.Kind.{Kind}
use Rattle.wt_tree.specs.Kinds.{is_leaf}
use Rattle.wt_tree.specs.Tree.{Label, Tree, tree, Trees, none, more, trees}
use Rattle.wt_span.specs.Items.{Item, sources}
use Rattle.wt_span.specs.Origins.{OuterCall}
use Rattle.wt_inline.specs.ItemTree.{Head, ItemTree, inner, forest, tree_items, held_by_all}
use Rattle.wt_annotated.specs.Annotated.{kept_label}
use Rattle.wt_annotated.specs.Clean.{is_page, is_body, own_by}
use Rattle.wt_annotated.specs.GroupData.{group_data}
use Rattle.wt_annotated.specs.Seams.{last_of, first_of, parted, text_from}
use Rattle.wt_annotated.specs.Walked.{clean_at, Near, near_runs, walked, near}
use Rattle.wt_annotated.specs.WithoutCalls.{inside_by}
use Rattle.wt_annotated.proofs.Calls.{all_split}
use Rattle.wt_annotated.proofs.Ends.{both}
use Rattle.wt_annotated.proofs.Seams.{first_append, last_append}
use Rattle.wt_part_laws.specs.Rounds.{IsCellKind}
use Rattle.wt_part_laws.specs.Frames.{place, whole, around, Frames, no_frames, more_frames, tree_at, trees_at, all_places, Part, content, in_table, in_body, in_row, Holds, AreFrames}
use Rattle.wt_part_laws.specs.Placeless.{placeless_label, placeless, all_placeless}
use Rattle.wt_part_laws.specs.TreeFrames.{TreeFrame, spot, kept, holder, TreeFrames, no_nodes, more_nodes, filled, all_filled, spots}
use Rattle.wt_part_laws.specs.Rounded.{AreClean, AreCleanThere, HaveSameData}
use Rattle.wt_part_laws.specs.HeldCalls.{block_in, blocks_in}
use Rattle.wt_part_laws.proofs.EndWalks.{BothFree, walk_end, siblings_end}
use Rattle.wt_part_laws.proofs.EndWalks.{clean_same as clean_to_end}
use Rattle.wt_part_laws.proofs.OwnWalks.{OfPage, behind_free, before_free, text_own}
use Rattle.wt_part_laws.proofs.RunCuts.{FreeBefore, near_apart, near_alone}
use Rattle.wt_part_laws.proofs.SameWalks.{label_same, same_data, walk_same, siblings_same}
use Rattle.wt_part_laws.proofs.StartWalks.{FreeStarts, walk_start, siblings_start}
use Rattle.wt_part_laws.proofs.StartWalks.{clean_same as clean_from_start}

-- ---- siblings

forest_more : (us vs : List ItemTree) → held_by_all (forest (us ++ vs)) ≡ held_by_all (forest us) ++ held_by_all (forest vs)
forest_more [] vs = refl
forest_more (u ∷ us) vs = ap (λ xs. tree_items u ++ xs) (forest_more us vs) ∙ sym (append_assoc (tree_items u) (held_by_all (forest us)) (held_by_all (forest vs)))

abbrev siblings : List OuterCall → Option ℕ → ℕ → Option ℕ → List ItemTree → List Near
siblings calls o at p us = near calls (group_data calls) o at p (forest us)

-- the byte behind some
abbrev byte_after : List OuterCall → Option ℕ → ℕ → List ItemTree → ℕ
byte_after calls o at [] = at
byte_after calls o at (u ∷ us) = byte_after calls (last_of o (tree_items u)) (at + length (text_from calls o (tree_items u))) us

abbrev call_after : Option ℕ → List ItemTree → Option ℕ
call_after o us = last_of o (held_by_all (forest us))

siblings_more : (calls : List OuterCall) (o : Option ℕ) (at : ℕ) (p : Option ℕ) (us vs : List ItemTree)
    → siblings calls o at p (us ++ vs)
    ≡ siblings calls o at (first_of (held_by_all (forest vs)) p) us ++ siblings calls (call_after o us) (byte_after calls o at us) p vs
siblings_more calls o at p [] vs = refl
siblings_more calls o at p (u ∷ us) vs =
    let o2 : Option ℕ = last_of o (tree_items u) in
    let at2 : ℕ = at + length (text_from calls o (tree_items u)) in
    let after : first_of (held_by_all (forest (us ++ vs))) p ≡ first_of (held_by_all (forest us)) (first_of (held_by_all (forest vs)) p) =
    ap (λ xs. first_of xs p) (forest_more us vs) ∙ first_append (held_by_all (forest us)) (held_by_all (forest vs)) p in
    ap₂ (λ q ns. record {
      tree = u;
      before = o;
      after = q;
      byte = at;
      free = parted o (first_of (tree_items u) q);
      clean = clean_at o q u;
      whole = walked calls (group_data calls) o at q u;
    } ∷ ns) after
    (siblings_more calls o2 at2 p us vs
    ∙ ap (λ (x : Option ℕ). siblings calls o2 at2 (first_of (held_by_all (forest vs)) p) us ++ siblings calls x (byte_after calls o2 at2 us) p vs)
    (sym (last_append o (tree_items u) (held_by_all (forest us)))))

-- ---- the nodes

-- nodes before others
abbrev pub kept_before : Trees → TreeFrames → TreeFrames
kept_before none fs = fs
kept_before (more t ts) fs = more_nodes (kept t) (kept_before ts fs)

-- the label of a node round places
abbrev pub holder_label : Head → List Item → List Item → Label
holder_label k q c = placeless_label (kept_label false k 0 [] (sources q) (sources c))

-- the nodes and groups of these trees by themselves
abbrev pub stretch : List OuterCall → List ItemTree → Trees
stretch calls us = all_placeless (trees (near_runs calls (group_data calls) (siblings calls None 0 None us)))

-- those of trees, and of trees with places behind them
abbrev pub nodes_of : List OuterCall → List ItemTree → Frames → TreeFrames
nodes_of calls us no_frames = kept_before (stretch calls us) no_nodes
nodes_of calls us (more_frames (whole u) fs) = nodes_of calls (us ++ u ∷ []) fs
nodes_of calls us (more_frames (place n) fs) = kept_before (stretch calls us) (more_nodes (spot n) (nodes_of calls [] fs))
nodes_of calls us (more_frames (around k q gs c) fs) =
    kept_before (stretch calls us) (more_nodes (holder (holder_label k q c) (nodes_of calls [] gs)) (nodes_of calls [] fs))

free_next : (cs : List OuterCall) (o : Option ℕ) (at : ℕ) (p : Option ℕ) (vs : List ItemTree) → parted o (first_of (held_by_all (forest vs)) p) ≡ true
    → FreeBefore (siblings cs o at p vs)
free_next cs o at p [] e = tt
free_next cs o at p (v ∷ vs) e = ap (parted o) (sym (first_append (tree_items v) (held_by_all (forest vs)) p)) ∙ e

-- ---- where the cuts round them are free, what is beside them is nothing to them

last_free : (o p : Option ℕ) (xs : List Item) → parted (last_of o xs) p ≡ true → parted (last_of None xs) p ≡ true
last_free o p [] e = behind_free None p refl
last_free o p (x ∷ xs) e = e

-- the cuts before and behind some items
pub record AreApart (o p : Option ℕ) (xs : List Item) : Type 0 where
  pub first : parted o (first_of xs p) ≡ true
  pub last : parted (last_of o xs) p ≡ true

start_free : (o p : Option ℕ) (xs : List Item) → AreApart o p xs → FreeStarts o None p xs
start_free o p xs h = record { first = h.first; second = behind_free None (first_of xs p) refl }

end_free : (o p : Option ℕ) (xs : List Item) → AreApart o p xs → BothFree None p None xs
end_free o p xs h = record { first = last_free o p xs h.last; second = before_free (last_of None xs) None refl }

stretch_is : (cs calls : List OuterCall) → HaveSameData cs calls → (o : Option ℕ) (at : ℕ) (p : Option ℕ) (us : List ItemTree) → AreApart o p (held_by_all (forest us))
    → all_placeless (trees (near_runs cs (group_data cs) (siblings cs o at p us))) ≡ stretch calls us
stretch_is cs calls h o at p us e =
    siblings_same cs calls h o at 0 p (forest us)
    ∙ ap (λ (ts : List Tree). all_placeless (trees ts)) (siblings_start calls o None 0 p (forest us) (start_free o p (held_by_all (forest us)) e))
    ∙ ap (λ (ts : List Tree). all_placeless (trees ts)) (siblings_end calls None 0 p None (forest us) (end_free o p (held_by_all (forest us)) e))

-- a node that is clean by itself is clean wherever it is apart
pub clean_there : (o p : Option ℕ) (t : ItemTree) → clean_at None None t ≡ true → AreApart o p (tree_items t) → clean_at o p t ≡ true
clean_there o p t e h =
    clean_from_start o None p t (start_free o p (tree_items t) h) ∙ clean_to_end None p None t (end_free o p (tree_items t) h) ∙ e

-- a block
alone_is : (cs : List OuterCall) (o : Option ℕ) (at : ℕ) (p : Option ℕ) (t : ItemTree) → AreApart o p (tree_items t)
    → placeless (walked cs (group_data cs) o at p t) ≡ block_in cs t
alone_is cs o at p t e =
    walk_same cs cs (same_data cs) o at 0 p t
    ∙ ap placeless (walk_start cs o None 0 p t (start_free o p (tree_items t) e))
    ∙ ap placeless (walk_end cs None 0 p None t (end_free o p (tree_items t) e))

-- ---- a node among others

trees_before : (b : ℕ → Tree) (xs ys : List Tree) (fs : TreeFrames) → all_placeless (trees ys) ≡ all_filled b fs
    → all_placeless (trees (xs ++ ys)) ≡ all_filled b (kept_before (all_placeless (trees xs)) fs)
trees_before b [] ys fs e = e
trees_before b (x ∷ xs) ys fs e = ap (more (placeless x)) (trees_before b xs ys fs e)

kept_alone : (b : ℕ → Tree) (ts : Trees) → ts ≡ all_filled b (kept_before ts no_nodes)
kept_alone b none = refl
kept_alone b (more t ts) = ap (more t) (kept_alone b ts)

-- before the first of all, behind the one, and behind the last of all
first_all : (o p : Option ℕ) (us : List ItemTree) (u : ItemTree) (vs : List ItemTree)
    → first_of (held_by_all (forest (us ++ u ∷ vs))) p ≡ first_of (held_by_all (forest us)) (first_of (tree_items u) (first_of (held_by_all (forest vs)) p))
first_all o p us u vs =
    ap (λ (xs : List Item). first_of xs p) (forest_more us (u ∷ vs))
    ∙ first_append (held_by_all (forest us)) (tree_items u ++ held_by_all (forest vs)) p
    ∙ ap (first_of (held_by_all (forest us))) (first_append (tree_items u) (held_by_all (forest vs)) p)

last_all : (o : Option ℕ) (us : List ItemTree) (u : ItemTree) (vs : List ItemTree)
    → last_of o (held_by_all (forest (us ++ u ∷ vs))) ≡ last_of (last_of (call_after o us) (tree_items u)) (held_by_all (forest vs))
last_all o us u vs =
    ap (last_of o) (forest_more us (u ∷ vs))
    ∙ last_append o (held_by_all (forest us)) (tree_items u ++ held_by_all (forest vs))
    ∙ last_append (call_after o us) (tree_items u) (held_by_all (forest vs))

-- a clean node among others
node_round : (cs calls : List OuterCall) → HaveSameData cs calls → (b : ℕ → Tree) (o : Option ℕ) (at : ℕ) (p : Option ℕ) (us : List ItemTree) (u : ItemTree)
    (vs : List ItemTree) (f : TreeFrame) (fs : TreeFrames) → AreApart o p (held_by_all (forest (us ++ u ∷ vs)))
    → AreApart (call_after o us) (first_of (held_by_all (forest vs)) p) (tree_items u)
    → clean_at (call_after o us) (first_of (held_by_all (forest vs)) p) u ≡ true
    → placeless (walked cs (group_data cs) (call_after o us) (byte_after cs o at us) (first_of (held_by_all (forest vs)) p) u) ≡ filled b f
    → all_placeless (trees (near_runs cs (group_data cs) (siblings cs (last_of (call_after o us) (tree_items u))
    (byte_after cs o at us + length (text_from cs (call_after o us) (tree_items u))) p vs))) ≡ all_filled b fs
    → all_placeless (trees (near_runs cs (group_data cs) (siblings cs o at p (us ++ u ∷ vs)))) ≡ all_filled b (kept_before (stretch calls us) (more_nodes f fs))
node_round cs calls h b o at p us u vs f fs all own clean one rest =
    let a : Option ℕ = call_after o us in
    let i : ℕ = byte_after cs o at us in
    let q : Option ℕ = first_of (held_by_all (forest vs)) p in
    let x : Option ℕ = first_of (held_by_all (forest (u ∷ vs))) p in
    let next : x ≡ first_of (tree_items u) q = first_append (tree_items u) (held_by_all (forest vs)) p in
    let others : List Near = siblings cs (last_of a (tree_items u)) (i + length (text_from cs a (tree_items u))) p vs in
    let c : Near = record {
      tree = u;
      before = a;
      after = q;
      byte = i;
      free = parted a (first_of (tree_items u) q);
      clean = clean_at a q u;
      whole = walked cs (group_data cs) a i q u;
    } in
    let front : List Near = siblings cs o at x us in
    let apart : AreApart o x (held_by_all (forest us)) = record {
      first = ap (λ (y : Option ℕ). parted o (first_of (held_by_all (forest us)) y)) next ∙ ap (parted o) (sym (first_all o p us u vs)) ∙ all.first;
      last = ap (parted a) next ∙ own.first;
    } in
    ap (λ ns. all_placeless (trees (near_runs cs (group_data cs) ns))) (siblings_more cs o at p us (u ∷ vs))
    ∙ ap (λ ts. all_placeless (trees ts)) (near_apart cs front (c ∷ others) own.first)
    ∙ ap (λ ts. all_placeless (trees (near_runs cs (group_data cs) front ++ ts)))
    (near_alone cs c others clean (free_next cs (last_of a (tree_items u)) (i + length (text_from cs a (tree_items u))) p vs own.last))
    ∙ trees_before b (near_runs cs (group_data cs) front) (c.whole ∷ near_runs cs (group_data cs) others) (more_nodes f fs) (ap₂ more one rest)
    ∙ ap (λ ts. all_filled b (kept_before ts (more_nodes f fs))) (stretch_is cs calls h o at x us apart)

-- ---- what is round places

cell_leaf : (k : Kind) → IsCellKind k → is_leaf k ≡ false
cell_leaf k (inl e) = ap is_leaf e
cell_leaf k (inr e) = ap is_leaf e

pub no_leaf : (p q : Part) (k : Kind) → Holds p k q → is_leaf k ≡ false
no_leaf content in_table k h = ap is_leaf h
no_leaf content content k h = absurd h
no_leaf content in_body k h = absurd h
no_leaf content in_row k h = absurd h
no_leaf in_table in_body k h = ap is_leaf h
no_leaf in_table content k h = ap is_leaf h
no_leaf in_table in_table k h = absurd h
no_leaf in_table in_row k h = absurd h
no_leaf in_body in_row k h = ap is_leaf h
no_leaf in_body content k h = absurd h
no_leaf in_body in_table k h = absurd h
no_leaf in_body in_body k h = absurd h
no_leaf in_row content k h = cell_leaf k h
no_leaf in_row in_table k h = absurd h
no_leaf in_row in_body k h = absurd h
no_leaf in_row in_row k h = absurd h

round_apart : (o p : Option ℕ) (q i c : List Item) → parted o (first_of q (first_of i (first_of c p))) ≡ true
    → parted (last_of (last_of (last_of o q) i) c) p ≡ true → AreApart o p (q ++ (i ++ c))
round_apart o p q i c e f = record {
  first = ap (parted o) (first_append q (i ++ c) p ∙ ap (first_of q) (first_append i c p)) ∙ e;
  last = ap (λ (x : Option ℕ). parted x p) (last_append o q (i ++ c) ∙ last_append (last_of o q) i c) ∙ f;
}

-- of a clean one the cuts are free, those round it and those inside it, and the delimiters are the page's own
record CleanEnds (o p : Option ℕ) (q : List Item) (us : List ItemTree) (c : List Item) : Type 0 where
  apart : AreApart o p (q ++ (held_by_all (forest us) ++ c))
  inside : AreApart (last_of o q) (first_of c p) (held_by_all (forest us))
  opening : OfPage q
  closing : OfPage c

own_ends : (is : Bool) (q i c : List Item) → is ≡ false → OfPage (own_by is q i c) → OfPage q × OfPage c
own_ends true q i c e h = let no : true ≡ false = e in absurd (cc)
own_ends false q i c e h = all_split q c h

clean_ends : (o p : Option ℕ) (k : Head) (q : List Item) (us : List ItemTree) (c : List Item) → is_leaf k.kind ≡ false
    → clean_at o p (inner k q (forest us) c) ≡ true → CleanEnds o p q us c
clean_ends o p k q us c leaf e =
    let i : List Item = held_by_all (forest us) in
    let f1 : Bool = parted o (first_of q (first_of i (first_of c p))) in
    let f2 : Bool = parted (last_of o q) (first_of i (first_of c p)) in
    let f3 : Bool = parted (last_of (last_of o q) i) (first_of c p) in
    let f4 : Bool = parted (last_of (last_of (last_of o q) i) c) p in
    let own : Bool = list_all is_page (own_by (is_leaf k.kind) q i c) in
    let some : Bool = is_body k.kind || list_any is_page (q ++ (i ++ c)) in
    let r = both (f1 && (f2 && (f3 && f4))) (own && some) e in
    let s = both f1 (f2 && (f3 && f4)) r.0 in
    let y = both f2 (f3 && f4) s.1 in
    let z = both f3 f4 y.1 in
    let w = own_ends (is_leaf k.kind) q i c leaf (both own some r.1).0 in
    record {
      apart = round_apart o p q i c s.0 z.1;
      inside = record { first = y.0; last = z.0 };
      opening = w.0;
      closing = w.1;
    }

-- so of any clean node
pub clean_apart : (o p : Option ℕ) (t : ItemTree) → clean_at o p t ≡ true → AreApart o p (tree_items t)
clean_apart o p (inner k q ts c) e =
    let i : List Item = held_by_all ts in
    let f1 : Bool = parted o (first_of q (first_of i (first_of c p))) in
    let f2 : Bool = parted (last_of o q) (first_of i (first_of c p)) in
    let f3 : Bool = parted (last_of (last_of o q) i) (first_of c p) in
    let f4 : Bool = parted (last_of (last_of (last_of o q) i) c) p in
    let own : Bool = list_all is_page (own_by (is_leaf k.kind) q i c) in
    let some : Bool = is_body k.kind || list_any is_page (q ++ (i ++ c)) in
    let r = both (f1 && (f2 && (f3 && f4))) (own && some) e in
    let s = both f1 (f2 && (f3 && f4)) r.0 in
    round_apart o p q i c s.0 (both f3 f4 (both f2 (f3 && f4) s.1).1).1

inside_is : (is : Bool) (us : Trees) → is ≡ false → inside_by is us ≡ us
inside_is true us e = let no : true ≡ false = e in absurd (cc)
inside_is false us e = refl

holder_is : (cs : List OuterCall) (b : ℕ → Tree) (o : Option ℕ) (at : ℕ) (p : Option ℕ) (k : Head) (q : List Item) (us : List ItemTree) (c : List Item) (gs : TreeFrames)
    → is_leaf k.kind ≡ false → OfPage q → OfPage c
    → all_placeless (trees (near_runs cs (group_data cs) (siblings cs (last_of o q) (at + length (text_from cs o q)) (first_of c p) us))) ≡ all_filled b gs
    → placeless (walked cs (group_data cs) o at p (inner k q (forest us) c)) ≡ filled b (holder (holder_label k q c) gs)
holder_is cs b o at p k q us c gs leaf qs close e =
    let i : List Item = held_by_all (forest us) in
    let n : Option ℕ = last_of (last_of o q) i in
    let all : List ℕ = text_from cs o (q ++ (i ++ c)) in
    let inside : Trees = trees (near_runs cs (group_data cs) (siblings cs (last_of o q) (at + length (text_from cs o q)) (first_of c p) us)) in
    ap₂ (λ l ts. tree l ts)
    (label_same (is_leaf k.kind) k at 0 all (text_from cs o q) (text_from cs n c) all (sources q) (sources c) refl (text_own cs o q qs) (text_own cs n c close)
    ∙ ap (λ is. placeless_label (kept_label is k 0 all (sources q) (sources c))) leaf)
    (ap all_placeless (inside_is (is_leaf k.kind) inside leaf) ∙ e)

-- ---- all of them

-- behind the one, where all are apart
rest_apart : (o p : Option ℕ) (us : List ItemTree) (u : ItemTree) (vs : List ItemTree) → AreApart o p (held_by_all (forest (us ++ u ∷ vs)))
    → AreApart (call_after o us) (first_of (held_by_all (forest vs)) p) (tree_items u)
    → AreApart (last_of (call_after o us) (tree_items u)) p (held_by_all (forest vs))
rest_apart o p us u vs all own = record {
  first = own.last;
  last = ap (λ (x : Option ℕ). parted x p) (sym (last_all o us u vs)) ∙ all.last;
}

nodes_are : (cs calls : List OuterCall) → HaveSameData cs calls → (w : ℕ → ItemTree) (o : Option ℕ) (at : ℕ) (us : List ItemTree) (fs : Frames) (p : Option ℕ)
    (part : Part) → AreFrames fs part → AreClean w (call_after o us) fs p → AreCleanThere w (call_after o us) fs p
    → AreApart o p (held_by_all (forest (us ++ trees_at w fs)))
    → all_placeless (trees (near_runs cs (group_data cs) (siblings cs o at p (us ++ trees_at w fs)))) ≡ all_filled (blocks_in cs w) (nodes_of calls us fs)
nodes_are cs calls h w o at us no_frames p part of_cells clean there all =
    ap (λ vs. all_placeless (trees (near_runs cs (group_data cs) (siblings cs o at p vs)))) (append-nil us)
    ∙ stretch_is cs calls h o at p us (subst (λ (vs : List ItemTree). AreApart o p (held_by_all (forest vs))) (append-nil us) all)
    ∙ kept_alone (blocks_in cs w) (stretch calls us)
nodes_are cs calls h w o at us (more_frames (whole u) fs) p part of_cells clean there all =
    let behind : call_after o (us ++ u ∷ []) ≡ last_of (call_after o us) (tree_items u) =
    ap (last_of o) (forest_more us (u ∷ []) ∙ ap (λ xs. held_by_all (forest us) ++ xs) (append-nil (tree_items u)))
    ∙ last_append o (held_by_all (forest us)) (tree_items u) in
    let same : us ++ u ∷ trees_at w fs ≡ (us ++ u ∷ []) ++ trees_at w fs = sym (append_assoc us (u ∷ []) (trees_at w fs)) in
    ap (λ vs. all_placeless (trees (near_runs cs (group_data cs) (siblings cs o at p vs)))) same
    ∙ nodes_are cs calls h w o at (us ++ u ∷ []) fs p part of_cells.1 (subst (λ (x : Option ℕ). AreClean w x fs p) (sym behind) clean.1)
    (subst (λ (x : Option ℕ). AreCleanThere w x fs p) (sym behind) there.1)
    (subst (λ (vs : List ItemTree). AreApart o p (held_by_all (forest vs))) same all)
nodes_are cs calls h w o at us (more_frames (place n) fs) p part of_cells clean there all =
    let a : Option ℕ = call_after o us in
    let i : ℕ = byte_after cs o at us in
    let q : Option ℕ = first_of (held_by_all (forest (trees_at w fs))) p in
    let i2 : ℕ = i + length (text_from cs a (tree_items (w n))) in
    let own : AreApart a q (tree_items (w n)) = clean_apart a q (w n) there.0 in
    node_round cs calls h (blocks_in cs w) o at p us (w n) (trees_at w fs) (spot n) (nodes_of calls [] fs) all own there.0 (alone_is cs a i q (w n) own)
    (nodes_are cs calls h w (last_of a (tree_items (w n))) i2 [] fs p part of_cells.1 clean.1 there.1 (rest_apart o p us (w n) (trees_at w fs) all own))
nodes_are cs calls h w o at us (more_frames (around j x gs c) fs) p part of_cells clean there all =
    let a : Option ℕ = call_after o us in
    let i : ℕ = byte_after cs o at us in
    let q : Option ℕ = first_of (held_by_all (forest (trees_at w fs))) p in
    let u : ItemTree = tree_at w (around j x gs c) in
    let i2 : ℕ = i + length (text_from cs a (tree_items u)) in
    let leaf : is_leaf j.kind ≡ false = no_leaf part of_cells.0.0 j.kind of_cells.0.1 in
    let ends : CleanEnds a q x (trees_at w gs) c = clean_ends a q j x (trees_at w gs) c leaf clean.0.0 in
    node_round cs calls h (blocks_in cs w) o at p us u (trees_at w fs) (holder (holder_label j x c) (nodes_of calls [] gs)) (nodes_of calls [] fs) all ends.apart clean.0.0
    (holder_is cs (blocks_in cs w) a i q j x (trees_at w gs) c (nodes_of calls [] gs) leaf ends.opening ends.closing
    (nodes_are cs calls h w (last_of a x) (i + length (text_from cs a x)) [] gs (first_of c q) of_cells.0.0 of_cells.0.2 clean.0.1 there.0 ends.inside))
    (nodes_are cs calls h w (last_of a (tree_items u)) i2 [] fs p part of_cells.1 clean.1 there.1 (rest_apart o p us u (trees_at w fs) all ends.apart))

-- of a whole page
pub page_nodes_are : (cs calls : List OuterCall) → HaveSameData cs calls → (w : ℕ → ItemTree) (fs : Frames) (part : Part) → AreFrames fs part
    → AreClean w None fs None → AreCleanThere w None fs None
    → all_placeless (trees (near_runs cs (group_data cs) (siblings cs None 0 None (trees_at w fs)))) ≡ all_filled (blocks_in cs w) (nodes_of calls [] fs)
page_nodes_are cs calls h w fs part of_cells clean there =
    let xs : List Item = held_by_all (forest (trees_at w fs)) in
    nodes_are cs calls h w None 0 [] fs None part of_cells clean there
    (record { first = behind_free None (first_of xs None) refl; last = before_free (last_of None xs) None refl })

-- ---- the numbers of the places

spots_before : (ts : Trees) (fs : TreeFrames) → spots (kept_before ts fs) ≡ spots fs
spots_before none fs = refl
spots_before (more t ts) fs = spots_before ts fs

pub spots_are : (calls : List OuterCall) (us : List ItemTree) (fs : Frames) → spots (nodes_of calls us fs) ≡ all_places fs
spots_are calls us no_frames = spots_before (stretch calls us) no_nodes
spots_are calls us (more_frames (whole u) fs) = spots_are calls (us ++ u ∷ []) fs
spots_are calls us (more_frames (place n) fs) =
    spots_before (stretch calls us) (more_nodes (spot n) (nodes_of calls [] fs)) ∙ ap (λ ns. n ∷ ns) (spots_are calls [] fs)
spots_are calls us (more_frames (around k q gs c) fs) =
    spots_before (stretch calls us) (more_nodes (holder (holder_label k q c) (nodes_of calls [] gs)) (nodes_of calls [] fs))
    ∙ ap₂ (λ ms ns. ms ++ ns) (spots_are calls [] gs) (spots_are calls [] fs)
