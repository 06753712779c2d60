-- How far a walk has come, by what was read so far and what comes next.
use Rattle.std.proofs.Common.{◌≡◌, ℕ, ◌+◌, ◌^◌, ◌<◌, Option, List, [], ◌++◌, length, refl, sym, ap, ap₂, ◌∙◌, arith, length-append}
use Rattle.wt_span.specs.declared.form.Piece.{Piece}
use Rattle.wt_span.specs.Items.{Item, items}
use Rattle.wt_span.specs.Origins.{OuterCall}
use Rattle.wt_inline.specs.ItemTree.{tree_items}
use Rattle.wt_inline.specs.View.{item_tree}
use Rattle.wt_inline.specs.declared.tree.PieceTree.{PieceTree, out-PieceTree}
use Rattle.wt_annotated.specs.declared.page_text.Progress.{Progress}
use Rattle.wt_annotated.specs.Progress.{outset, past}
use Rattle.wt_annotated.specs.Seams.{last_of, text_from}
use Rattle.wt_annotated.specs.TreeWalk.{HasLasts, HasWidths, filled as filled_by}
use Rattle.wt_annotated.proofs.Seams.{last_append, text_append_from}
use Rattle.wt_annotated.proofs.TreeWalks.{held_in_all, held_parts}

abbrev stands : Option ℕ → ℕ → Progress
stands o n = record { last = o; width = n }

pub past_none : (calls : List OuterCall) (p : Progress) → past calls p [] ≡ p
past_none calls p = let z : p.width + 0 ≡ p.width = omega arith in ap (stands p.last) z

-- some items and then others are read as all of them at once
pub past_append : (calls : List OuterCall) (p : Progress) (xs ys : List Item) → past calls p (xs ++ ys) ≡ past calls (past calls p xs) ys
past_append calls p xs ys =
    let w : p.width + length (text_from calls p.last (xs ++ ys))
    ≡ p.width + length (text_from calls p.last xs) + length (text_from calls (last_of p.last xs) ys) =
    omega (
      arith,
      ap length (text_append_from calls p.last xs ys),
      length-append (text_from calls p.last xs) (text_from calls (last_of p.last xs) ys),
    ) in
    ap₂ stands (last_append p.last xs ys) w

-- one more of several
pub past_more : (calls : List OuterCall) (at from next : Progress) (here one rest all : List Item) → here ≡ one ++ rest
    → past calls at here ≡ past calls from all → next ≡ past calls at one → past calls next rest ≡ past calls from all
past_more calls at from next here one rest all e i n =
    ap (λ (p : Progress). past calls p rest) n ∙ sym (past_append calls at one rest) ∙ ap (past calls at) (sym e) ∙ i

pub past_fits : (calls : List OuterCall) (at from : Progress) (here one rest all : List Item) → here ≡ one ++ rest
    → past calls at here ≡ past calls from all → (past calls from all).width < 2 ^ 32 → (past calls at one).width < 2 ^ 32
past_fits calls at from here one rest all e i w =
    let s : (past calls from all).width ≡ (past calls (past calls at one) rest).width =
    ap (λ (p : Progress). p.width) (sym i ∙ ap (past calls at) e ∙ past_append calls at one rest) in
    omega (arith, s, w)

-- ---- a tree

pub past_parts : (calls : List OuterCall) (p : Progress) (n : PieceTree) → past calls p (tree_items (item_tree n))
    ≡ past calls (past calls (past calls p (items (out-PieceTree n).opening)) (held_in_all (out-PieceTree n).children)) (items (out-PieceTree n).closing)
past_parts calls p n =
    let o : List Item = items (out-PieceTree n).opening in
    let i : List Item = held_in_all (out-PieceTree n).children in
    let c : List Item = items (out-PieceTree n).closing in
    ap (past calls p) (held_parts n) ∙ past_append calls p o (i ++ c) ∙ past_append calls (past calls p o) i c

-- its opening, then its inside, then its closing
pub tree_read : (calls : List OuterCall) (from opened filled closed : Progress) (n : PieceTree) (os cs : List Piece) (ns : List PieceTree)
    → os ≡ (out-PieceTree n).opening → ns ≡ (out-PieceTree n).children → cs ≡ (out-PieceTree n).closing → opened ≡ past calls from (items os)
    → filled ≡ past calls opened (held_in_all ns) → closed ≡ past calls filled (items cs) → closed ≡ past calls from (tree_items (item_tree n))
tree_read calls from opened filled closed n os cs ns i j k e f g =
    g
    ∙ ap (λ (p : Progress). past calls p (items cs)) f
    ∙ ap (λ (p : Progress). past calls (past calls p (held_in_all ns)) (items cs)) e
    ∙ ap (λ (ps : List Piece). past calls (past calls (past calls from (items ps)) (held_in_all ns)) (items cs)) i
    ∙ ap (λ (ms : List PieceTree). past calls (past calls (past calls from (items (out-PieceTree n).opening)) (held_in_all ms)) (items cs)) j
    ∙ ap (λ (ps : List Piece). past calls
    (past calls (past calls from (items (out-PieceTree n).opening)) (held_in_all (out-PieceTree n).children)) (items ps)) k
    ∙ sym (past_parts calls from n)

-- none of them takes more than all of it
pub opening_room : (calls : List OuterCall) (from : Progress) (n : PieceTree) (os : List Piece) → os ≡ (out-PieceTree n).opening
    → (past calls from (tree_items (item_tree n))).width < 2 ^ 32 → (past calls from (items os)).width < 2 ^ 32
opening_room calls from n os i w =
    let opened : Progress = past calls from (items os) in
    let filled : Progress = past calls opened (held_in_all (out-PieceTree n).children) in
    let all = tree_read calls from opened filled (past calls filled (items (out-PieceTree n).closing)) n os (out-PieceTree n).closing
    (out-PieceTree n).children i refl refl refl refl refl in
    let s = ap (λ (p : Progress). p.width) all in
    omega (arith, s, w)

pub inside_room : (calls : List OuterCall) (from opened : Progress) (n : PieceTree) (os : List Piece) (ns : List PieceTree)
    → os ≡ (out-PieceTree n).opening → ns ≡ (out-PieceTree n).children → opened ≡ past calls from (items os)
    → (past calls from (tree_items (item_tree n))).width < 2 ^ 32 → (past calls opened (held_in_all ns)).width < 2 ^ 32
inside_room calls from opened n os ns i j e w =
    let filled : Progress = past calls opened (held_in_all ns) in
    let all = tree_read calls from opened filled (past calls filled (items (out-PieceTree n).closing)) n os (out-PieceTree n).closing ns i j refl e
    refl refl in
    let s = ap (λ (p : Progress). p.width) all in
    omega (arith, s, w)

pub closing_room : (calls : List OuterCall) (from opened filled : Progress) (n : PieceTree) (os cs : List Piece) (ns : List PieceTree)
    → os ≡ (out-PieceTree n).opening → ns ≡ (out-PieceTree n).children → cs ≡ (out-PieceTree n).closing → opened ≡ past calls from (items os)
    → filled ≡ past calls opened (held_in_all ns) → (past calls from (tree_items (item_tree n))).width < 2 ^ 32
    → (past calls filled (items cs)).width < 2 ^ 32
closing_room calls from opened filled n os cs ns i j k e f w =
    let all = tree_read calls from opened filled (past calls filled (items cs)) n os cs ns i j k e f refl in
    let s = ap (λ (p : Progress). p.width) all in
    omega (arith, s, w)

-- ---- a tree by itself, from the outset

pub outset_room : (calls : List OuterCall) (o : Option ℕ) (from : Progress) (xs : List Item) → from ≡ outset o
    → length (text_from calls o xs) < 2 ^ 32 → (past calls from xs).width < 2 ^ 32
outset_room calls o from xs e w =
    let s = ap (λ (p : Progress). (past calls p xs).width) e in
    omega (arith, s, w)

pub walk_lasts : (calls : List OuterCall) (o : Option ℕ) (from opened filled closed : Progress) (n : PieceTree) (os cs : List Piece) (ns : List PieceTree)
    → from ≡ outset o → os ≡ (out-PieceTree n).opening → ns ≡ (out-PieceTree n).children → cs ≡ (out-PieceTree n).closing
    → opened ≡ past calls from (items os) → filled ≡ past calls opened (held_in_all ns) → closed ≡ past calls filled (items cs)
    → HasLasts o n (record { opened = opened; filled = filled; closed = closed })
walk_lasts calls o from opened filled closed n os cs ns z i j k e f g =
    let a : opened.last ≡ last_of o (items (out-PieceTree n).opening) =
    ap (λ (p : Progress). p.last) e ∙ ap (λ (p : Progress). last_of p.last (items os)) z ∙ ap (λ (ps : List Piece). last_of o (items ps)) i in
    record {
      opened = a;
      filled =
          ap (λ (p : Progress). p.last) f
          ∙ ap (λ (q : Option ℕ). last_of q (held_in_all ns)) a
          ∙ ap (λ (ms : List PieceTree). last_of (last_of o (items (out-PieceTree n).opening)) (held_in_all ms)) j;
      closed =
          ap (λ (p : Progress). p.last) (tree_read calls from opened filled closed n os cs ns i j k e f g)
          ∙ ap (λ (p : Progress). last_of p.last (tree_items (item_tree n))) z;
    }

pub walk_widths : (calls : List OuterCall) (o : Option ℕ) (from opened filled closed : Progress) (n : PieceTree) (os cs : List Piece) (ns : List PieceTree)
    → from ≡ outset o → os ≡ (out-PieceTree n).opening → ns ≡ (out-PieceTree n).children → cs ≡ (out-PieceTree n).closing
    → opened ≡ past calls from (items os) → filled ≡ past calls opened (held_in_all ns) → closed ≡ past calls filled (items cs)
    → HasWidths calls o n (record { opened = opened; filled = filled; closed = closed })
walk_widths calls o from opened filled closed n os cs ns z i j k e f g =
    let lasts = walk_lasts calls o from opened filled closed n os cs ns z i j k e f g in
    let a : opened.width ≡ 0 + length (text_from calls o (items (out-PieceTree n).opening)) =
    ap (λ (p : Progress). p.width) e ∙ ap (λ (p : Progress). p.width + length (text_from calls p.last (items os))) z
    ∙ ap (λ (ps : List Piece). 0 + length (text_from calls o (items ps))) i in
    let all : closed.width ≡ 0 + length (text_from calls o (tree_items (item_tree n))) =
    ap (λ (p : Progress). p.width) (tree_read calls from opened filled closed n os cs ns i j k e f g)
    ∙ ap (λ (p : Progress). p.width + length (text_from calls p.last (tree_items (item_tree n)))) z in
    record {
      opening = omega (arith, a);
      closing =
          ap (λ (p : Progress). p.width) g
          ∙ ap (λ (q : Option ℕ). filled.width + length (text_from calls q (items cs))) lasts.filled
          ∙ ap (λ (ps : List Piece). filled.width + length (text_from calls (filled_by o n) (items ps))) k;
      whole = omega (arith, all);
    }
