-- Each node begins where the one before it ends, and is as long as its source.
use Rattle.std.proofs.Common.{arith, ◌≡◌, ℕ, ◌+◌, ◌-◌, Bool, true, false, Option, Some, None, List, [], ◌∷◌, ◌++◌, length, refl, sym, ap, ap₂, ◌∙◌, subst}
use Rattle.std.specs.Prelude.{if◌then◌else◌}
use Rattle.std.specs.List.{AllByRecursion}
use Rattle.wt_tree.specs.declared.kind.Ranges.{Ranges}
use Rattle.wt_tree.specs.Kinds.{is_leaf}
use Rattle.wt_tree.specs.Source.{flat}
use Rattle.wt_tree.specs.Tiling.{is_group, BeginsAt, end_of, TiledBy, Tiled, TiledFrom}
use Rattle.wt_tree.specs.Tree.{Label, tree, Trees, label}
use Rattle.wt_annotated.specs.Reached.{reached, reached_in_all}
use Rattle.wt_annotated.specs.Slices.{opening_by, opening_of, StandsIn, IsSlice}
use Rattle.wt_annotated.proofs.PageSlices.{slice_length}
use Rattle.wt_typed_blocks.specs.Sent.{paragraph, heading}
use Rattle.wt_typed_blocks.specs.Typed.{block_source}
use Rattle.wt_typed_blocks.specs.Edited.{Edited, stays, edited, round, Edits, no_edits, more_edits, page_node, page_nodes, page_pieces}
use Rattle.wt_typed_blocks.specs.EditedPage.{page_source, LiesAt, LieAt}
use Rattle.wt_called_edit_laws.specs.Stand.{HasHolders, HaveHolders, BlocksStand}

-- ---- ranges

abbrev pub ranges_at : ℕ → List ℕ → List ℕ → List ℕ → Ranges
ranges_at at source opening closing = record { start = at; end = at + length source; open_w = length opening; close_w = length closing }

pub ranges_are : (page : List ℕ) (at : ℕ) (r : Option Ranges) (source opening closing : List ℕ) → BeginsAt at r → StandsIn page r source opening closing
    → r ≡ Some (ranges_at at source opening closing)
ranges_are page at None source opening closing b h = absurd b
ranges_are page at (Some r) source opening closing b h =
    let size : length source ≡ r.end - r.start = ap length (sym h.stands) ∙ slice_length page r.start r.end h.ordered h.within in
    let last : r.end ≡ at + length source = omega (arith, size, b, h.ordered) in
    ap₂ (λ (i j : ℕ). Some (record { start = i; end = j; open_w = r.open_w; close_w = r.close_w })) b last
    ∙ ap₂ (λ (i j : ℕ). Some (record { start = at; end = at + length source; open_w = i; close_w = j })) h.open_width h.close_width

-- ---- lists of nodes

in_front : {A : Type 0} (P : A → Type 0) (xs ys : List A) → AllByRecursion P (xs ++ ys) → AllByRecursion P xs × AllByRecursion P ys
in_front P [] ys h = (tt, h)
in_front P (x ∷ xs) ys h = let r = in_front P xs ys h.1 in ((h.0, r.0), r.1)

-- ---- a node that is sent

flat_or : (v : Bool) (own inside : List ℕ) → v ≡ false → (if v then own else inside) ≡ inside
flat_or true own inside e = let no : true ≡ false = e in absurd (cc)
flat_or false own inside e = refl

opening_or : (v : Bool) (l : Label) → v ≡ false → opening_by v l ≡ l.opening
opening_or true l e = let no : true ≡ false = e in absurd (cc)
opening_or false l e = refl

pub inside_or : (v : Bool) (r : Option Ranges) (s : Ranges) (inside : ℕ → ℕ → Type 0) → v ≡ false → r ≡ Some s → TiledBy v r inside
    → inside (s.start + s.open_w) (s.end - s.close_w)
inside_or v r s inside e f h =
    let P : Bool → Option Ranges → Type 0 = λ w q. TiledBy w q inside in
    (subst (λ (q : Option Ranges). P false q) f (subst (λ (w : Bool). P w r) e h)).1

pub reached_or : (page : List ℕ) (v : Bool) (ts : Trees) → v ≡ false → AllByRecursion (IsSlice page) (if v then [] else reached_in_all ts)
    → AllByRecursion (IsSlice page) (reached_in_all ts)
reached_or page true ts e h = let no : true ≡ false = e in absurd (cc)
reached_or page false ts e h = h

-- where it ends
abbrev EndsSo : ℕ → Edited → Type 0
EndsSo at s = end_of (label (page_node s)).ranges ≡ at + length (page_source s)

mutual
  stands_so : (page : List ℕ) (at : ℕ) (s : Edited) → HasHolders s → BeginsAt at (label (page_node s)).ranges → Tiled (page_node s)
      → AllByRecursion (IsSlice page) (reached (page_node s)) → LiesAt at s × EndsSo at s
  stands_so page at (stays (tree l ts) u) w b t h =
      let is = ranges_are page at l.ranges (flat (tree l ts)) (opening_of l) l.closing b h.0 in (tt, ap end_of is)
  stands_so page at (edited paragraph l m ps) w b t h =
      let is = ranges_are page at l.ranges (block_source l (page_pieces ps)) l.opening l.closing b h.0 in (is, ap end_of is)
  stands_so page at (edited (heading n) l m ps) w b t h =
      let is = ranges_are page at l.ranges (block_source l (page_pieces ps)) l.opening l.closing b h.0 in (is, ap end_of is)
  stands_so page at (round l m ss) w b t h =
      let ts : Trees = page_nodes ss in
      let whole : flat (tree l ts) ≡ block_source l ts = flat_or (is_leaf l.kind) l.own (block_source l ts) w.0 in
      let own : opening_of l ≡ l.opening = opening_or (is_leaf l.kind) l w.0 in
      let is : l.ranges ≡ Some (ranges_at at (block_source l ts) l.opening l.closing) =
      ranges_are page at l.ranges (flat (tree l ts)) (opening_of l) l.closing b h.0
      ∙ ap₂ (λ (cs os : List ℕ). Some (ranges_at at cs os l.closing)) whole own in
      let inside = inside_or (is_leaf l.kind) l.ranges (ranges_at at (block_source l ts) l.opening l.closing) (λ from to. TiledFrom ts from to) w.0 is t in
      ((w.0, all_stand page (at + length l.opening) (at + length (block_source l ts) - length l.closing) ss w.2 inside (reached_or page (is_group l.kind) ts w.1 h.1)), ap end_of is)

  all_stand : (page : List ℕ) (at to : ℕ) (ss : Edits) → HaveHolders ss → TiledFrom (page_nodes ss) at to
      → AllByRecursion (IsSlice page) (reached_in_all (page_nodes ss)) → LieAt at ss
  all_stand page at to no_edits w t h = tt
  all_stand page at to (more_edits s ss) w t h =
      let r = in_front (IsSlice page) (reached (page_node s)) (reached_in_all (page_nodes ss)) h in
      let one = stands_so page at s w.0 t.0 t.1 r.0 in
      (one.0, all_stand page (at + length (page_source s)) to ss w.1 (subst (λ (i : ℕ). TiledFrom (page_nodes ss) i to) one.1 t.2) r.1)

pub blocks_stand : (page : List ℕ) (from to : ℕ) (ss : Edits) → BlocksStand page from to ss
blocks_stand page from to ss w t h = all_stand page from to ss w t h
