-- The difference of what was sent marks the blocks whose content was edited, and nothing else.
use Rattle.std.proofs.Common.{◌≡◌, ℕ, Bool, true, false, List, [], ◌∷◌, refl, sym, ap, ◌∙◌, subst}
use Rattle.std.specs.Prelude.{◌==◌, ◌&&◌, ◌||◌, not, if◌then◌else◌, Option, Some, None}
use Rattle.std.specs.List.{AllByRecursion}
use Rattle.std.specs.Str.{bytes_eq}
use Rattle.wt_tree.specs.declared.kind.Kind.{Kind}
use Rattle.wt_tree.specs.declared.kind.Kind.TheVariants as kind
use Rattle.wt_tree.specs.declared.kind.Mark.{Mark}
use Rattle.wt_tree.specs.declared.kind.Mark.TheVariants as marks
use Rattle.wt_tree.specs.Kinds.{showing, is_block}
use Rattle.wt_tree.specs.Opened.{opened, without_sections}
use Rattle.wt_recut.specs.Recut.{any_shows_block}
use Rattle.wt_tree.specs.Tiling.{is_group, InPreorder}
use Rattle.wt_tree.specs.Tree.{Label, Tree, tree, Trees, none, more, label}
use Rattle.wt_checks.specs.Alike.{same_kind, same_attrs}
use Rattle.wt_checks.specs.BareSections.{HasBareSections}
use Rattle.wt_checks.specs.Groups.{is_marked, has_mark, have_mark}
use Rattle.wt_checks.specs.Kept.{children}
use Rattle.wt_checks.specs.Places.{Place, all_placed, placed, Page, page_of, is_content, parent_below}
use Rattle.wt_checks.specs.PutBack.{is_frame, has_frame, have_frame, IsOneBody}
use Rattle.wt_checks.specs.Unmarked.{is_compared}
use Rattle.wt_checks.specs.WithoutMarks.{unmarked, all_unmarked}
use Rattle.wt_checks.proofs.Compares.{kinds_decide, attrs_decide}
use Rattle.wt_checks.proofs.Found.{Itself, found_root}
use Rattle.wt_checks.proofs.Frames.{bare_root}
use Rattle.wt_checks.proofs.InOrder.{not_zero_kept, test_equal}
use Rattle.wt_checks.proofs.Lookups.{each_split}
use Rattle.wt_checks.proofs.Repeated.{or_false}
use Rattle.wt_checks.proofs.Sections.{AreAlike, are_alike, kept_found}
use Rattle.wt_difference.specs.Difference.{is_partner, stays_in, is_stable, numbers, numbers_in, same_inside, are_none, difference}
use Rattle.wt_difference.specs.Insides.{is_block_part, has_inside, is_separator, ends_inside, before_blocks, from_blocks, inside, held}
use Rattle.wt_difference.specs.Remarked.{mark_of, remarked_in, all_remarked, are_left, remarked}
use Rattle.wt_difference.specs.Tokens.{all_tokens, same_tokens}
use Rattle.wt_difference.specs.Unedited.{IsUnedited, AreUnedited}
use Rattle.wt_difference.proofs.Remarks.{bare_stays, marks_alone, none_marked, block_no_group, left_remarked}
use Rattle.wt_difference.proofs.UneditedLaws.{nothing_differs}
use Rattle.wt_typed_blocks.specs.Sent.{Block, paragraph, heading, kind_of}
use Rattle.wt_typed_blocks.specs.Edited.{Pieces, no_pieces, gone, written, kept, around, new_style, as_new, text_node, sent_pieces, PiecesStay, Edited, stays, edited, round, Edits, no_edits, more_edits, page_node, sent_node, page_nodes, sent_nodes, IsEdited, AreEdited, page_body, sent_body}
use Rattle.wt_typed_blocks.specs.EditedUnmarked.{bare_node, bare_nodes, bare_body, AreRoundInBlocks, IsOwnRound, AreInline, IsTold, AreTold}
use Rattle.wt_typed_blocks.proofs.SentFrames.{no_frame_sent, pieces_frameless, pieces_markless}
use Rattle.wt_typed_blocks.proofs.SentGroups.{both_ways, no_group, of_style, no_mark}
use Rattle.wt_typed_blocks.proofs.EditedKept.{found}

-- ---- the page's own body, with what is sent for the children that stand

abbrev mutual
  kept_child : Edited → Tree
  kept_child (stays t u) = u
  kept_child (edited k l m ps) = page_node (edited k l m ps)
  kept_child (round l m ss) = tree m (kept_children ss)

  kept_children : Edits → Trees
  kept_children no_edits = none
  kept_children (more_edits s ss) = more (kept_child s) (kept_children ss)

abbrev kept_body : Label → Edits → Tree
kept_body l ss = tree (record l { kind = kind.Body; id = 0 }) (kept_children ss)

mutual
  unedited_itself : (t : Tree) → IsUnedited t t
  unedited_itself (tree l ts) = (
    record { id = refl; kind = refl; attrs = refl; mw = refl; shown = refl },
    both_ways (is_group l.kind) refl (all_unedited_themselves ts),
  )

  all_unedited_themselves : (ts : Trees) → AreUnedited ts ts
  all_unedited_themselves none = tt
  all_unedited_themselves (more t ts) = (unedited_itself t, all_unedited_themselves ts)

mutual
  unedited_kept : (s : Edited) → IsTold s → IsUnedited (page_node s) (kept_child s)
  unedited_kept (stays t u) a = a
  unedited_kept (edited k l m ps) a = unedited_itself (page_node (edited k l m ps))
  unedited_kept (round l m ss) a = (
    a.0.own,
    no_group (any_shows_block (page_nodes ss) ≡ any_shows_block (kept_children ss)) (is_group l.kind) (block_no_group l.kind a.0.part)
        (all_unedited_kept ss a.1),
  )

  all_unedited_kept : (ss : Edits) → AreTold ss → AreUnedited (page_nodes ss) (kept_children ss)
  all_unedited_kept no_edits a = tt
  all_unedited_kept (more_edits s ss) a = (unedited_kept s a.0, all_unedited_kept ss a.1)

-- ---- no frame in it

mutual
  kept_frameless_child : (s : Edited) → IsEdited s → has_frame (page_node s) ≡ false → has_frame (kept_child s) ≡ false
  kept_frameless_child (stays t u) h f = no_frame_sent t u h f
  kept_frameless_child (edited k l m ps) h f = f
  kept_frameless_child (round l m ss) h f =
      let d = or_false (is_frame l.kind) (have_frame (page_nodes ss)) f in
      ap (λ (k : Kind). is_frame k || have_frame (kept_children ss)) h.0.kind ∙ ap (λ (b : Bool). b || have_frame (kept_children ss)) d.0
      ∙ kept_frameless ss h.1 d.1

  kept_frameless : (ss : Edits) → AreEdited ss → have_frame (page_nodes ss) ≡ false → have_frame (kept_children ss) ≡ false
  kept_frameless no_edits h f = refl
  kept_frameless (more_edits s ss) h f =
      let d = or_false (has_frame (page_node s)) (have_frame (page_nodes ss)) f in
      ap (λ (b : Bool). b || have_frame (kept_children ss)) (kept_frameless_child s h.0 d.0) ∙ kept_frameless ss h.1 d.1

mutual
  bare_frameless_child : (s : Edited) → IsEdited s → has_frame (page_node s) ≡ false → has_frame (bare_node s) ≡ false
  bare_frameless_child (stays t u) h f = no_frame_sent t u h f
  bare_frameless_child (edited paragraph l m ps) h f = pieces_frameless ps h.1 f
  bare_frameless_child (edited (heading n) l m ps) h f = pieces_frameless ps h.1 f
  bare_frameless_child (round l m ss) h f =
      let d = or_false (is_frame l.kind) (have_frame (page_nodes ss)) f in
      ap (λ (k : Kind). is_frame k || have_frame (bare_nodes ss)) h.0.kind ∙ ap (λ (b : Bool). b || have_frame (bare_nodes ss)) d.0
      ∙ bare_frameless ss h.1 d.1

  bare_frameless : (ss : Edits) → AreEdited ss → have_frame (page_nodes ss) ≡ false → have_frame (bare_nodes ss) ≡ false
  bare_frameless no_edits h f = refl
  bare_frameless (more_edits s ss) h f =
      let d = or_false (has_frame (page_node s)) (have_frame (page_nodes ss)) f in
      ap (λ (b : Bool). b || have_frame (bare_nodes ss)) (bare_frameless_child s h.0 d.0) ∙ bare_frameless ss h.1 d.1

-- ---- it has no marks

not_true : (b : Bool) → true ≡ not b → b ≡ false
not_true true e = absurd (cc)
not_true false e = refl

own_remarked : (t : Tree) (l : Label) (ss : Edits) → (label t).kind ≡ kind.Body → InPreorder t → HasBareSections t → without_sections t ≡ page_body l ss
    → have_frame (page_nodes ss) ≡ false → AreEdited ss → AreTold ss
    → remarked t (kept_body l ss) ≡ unmarked (kept_body l ss)
own_remarked t l ss k pre bare w f h a =
    let u : Tree = kept_body l ss in
    let own : IsUnedited (page_body l ss) u = (record { id = refl; kind = refl; attrs = refl; mw = refl; shown = refl }, all_unedited_kept ss a) in
    let one : IsOneBody u = record { root = refl; alone = kept_frameless ss h f } in
    let none_differs : difference t u ≡ [] = nothing_differs t u k pre bare one (subst (λ (o : Tree). IsUnedited o u) (sym w) own) in
    let bare_so : has_mark (remarked t u) ≡ false = not_true (has_mark (remarked t u)) (sym (ap are_none none_differs) ∙ none_marked t u) in
    sym (bare_stays (remarked t u) bare_so) ∙ marks_alone t u

-- ---- the blocks whose content was edited are found, and what holds them

abbrev IsAt : Page → ℕ → ℕ → Tree → Type 0
IsAt page n parent t = (v : Bool) × (page n ≡ Some (record { node = t; parent = parent; in_content = v }))

abbrev mutual
  FindsChild : Page → ℕ → Edited → Type 0
  FindsChild page n (stays t u) = Unit {0}
  FindsChild page n (edited k l m ps) = IsAt page l.id n (page_node (edited k l m ps))
  FindsChild page n (round l m ss) = IsAt page l.id n (page_node (round l m ss)) × Finds page l.id ss

  Finds : Page → ℕ → Edits → Type 0
  Finds page n no_edits = Unit {0}
  Finds page n (more_edits s ss) = FindsChild page n s × Finds page n ss

below_numbered : (n i : ℕ) → not (i == 0) ≡ true → parent_below n i ≡ i
below_numbered n i e = by_test (i == 0) e
  where
    by_test : (b : Bool) → not b ≡ true → (if b then n else i) ≡ i
    by_test true e = absurd (cc)
    by_test false e = refl

mutual
  finds_child : (page other : Page) (n : ℕ) (v : Bool) (s : Edited) → AreAlike page other → IsEdited s → IsTold s
      → AllByRecursion (Itself other) (placed n v (page_node s)) → FindsChild page n s
  finds_child page other n v (stays t u) alike h a it = tt
  finds_child page other n v (edited k l m ps) alike h a it =
      let is_kept = not_zero_kept l.id h.0 in
      (v, kept_found page other (record { node = page_node (edited k l m ps); parent = n; in_content = v }) alike is_kept ∙ it.0 is_kept)
  finds_child page other n v (round l m ss) alike h a it =
      let is_kept = not_zero_kept l.id a.0.numbered in (
        (v, kept_found page other (record { node = page_node (round l m ss); parent = n; in_content = v }) alike is_kept ∙ it.0 is_kept),
        subst (λ (i : ℕ). Finds page i ss) (below_numbered n l.id is_kept)
            (finds page other (parent_below n l.id) (v || is_content l.mark) ss alike h.1 a.1 it.1),
      )

  finds : (page other : Page) (n : ℕ) (v : Bool) (ss : Edits) → AreAlike page other → AreEdited ss → AreTold ss
      → AllByRecursion (Itself other) (all_placed n v (page_nodes ss)) → Finds page n ss
  finds page other n v no_edits alike h a it = tt
  finds page other n v (more_edits s ss) alike h a it =
      let p = each_split (Itself other) (placed n v (page_node s)) (all_placed n v (page_nodes ss)) it in
      (finds_child page other n v s alike h.0 a.0 p.0, finds page other n v ss alike h.1 a.1 p.1)

-- ---- their marks

and_all : (a b c d : Bool) → a ≡ true → b ≡ true → c ≡ true → d ≡ true → (a && (b && (c && d))) ≡ true
and_all true true true true e f g i = refl
and_all true true true false e f g i = i
and_all true true false d e f g i = g
and_all true false c d e f g i = f
and_all false b c d e f g i = e

built_of : (k : Block) (b : Bool) → (is_block_part (kind_of k) && b) ≡ b
built_of paragraph b = refl
built_of (heading n) b = refl

stable : (page : Page) (n : ℕ) (k : Block) (l m : Label) (ps : Pieces) → IsEdited (edited k l m ps)
    → IsAt page l.id n (page_node (edited k l m ps)) → is_stable page n (bare_node (edited k l m ps)) ≡ true
stable page n k l m ps h e =
    let u : Tree = bare_node (edited k l m ps) in
    built_of k (is_partner n u (page l.id)) ∙ ap (is_partner n u) e.1
    ∙ and_all (not (l.id == 0)) (n == n) (same_kind (kind_of k) (kind_of k)) (same_attrs l.attrs l.attrs)
    (not_zero_kept l.id h.0) (test_equal n n refl) ((kinds_decide (kind_of k) (kind_of k)).1 refl) ((attrs_decide l.attrs l.attrs).1 refl)

holder_stable : (page : Page) (n : ℕ) (l m : Label) (ss : Edits) (us : Trees) → IsOwnRound l m ss → IsAt page l.id n (tree l (page_nodes ss)) → is_stable page n (tree m us) ≡ true
holder_stable page n l m ss us a e =
    ap (λ (k : Kind). is_block_part k && is_partner n (tree m us) (page m.id)) (sym a.own.kind)
    ∙ ap (λ (b : Bool). b && is_partner n (tree m us) (page m.id)) a.part
    ∙ ap (is_partner n (tree m us)) (ap page (sym a.own.id) ∙ e.1)
    ∙ and_all (not (m.id == 0)) (n == n) (same_kind l.kind m.kind) (same_attrs l.attrs m.attrs)
    (ap (λ (i : ℕ). not (i == 0)) (sym a.own.id) ∙ not_zero_kept l.id a.numbered) (test_equal n n refl)
    ((kinds_decide l.kind m.kind).1 a.own.kind) ((attrs_decide l.attrs m.attrs).1 a.own.attrs)

text_left : (x : Label) (text : List ℕ) (us : Trees) → are_left (text_node x text us) ≡ are_left us
text_left x [] us = refl
text_left x (c ∷ cs) us = refl

pieces_left : (ps : Pieces) → PiecesStay ps → AreInline ps → are_left (sent_pieces ps) ≡ true
pieces_left no_pieces h a = refl
pieces_left (gone t ps) h a = pieces_left ps h a
pieces_left (written x text ps) h a = text_left x text (sent_pieces ps) ∙ pieces_left ps h a
pieces_left (kept t u ps) h a =
    ap (λ (b : Bool). not b && (not (has_mark u) && are_left (sent_pieces ps))) a.0
    ∙ ap (λ (b : Bool). not b && are_left (sent_pieces ps)) (no_mark t u h.0)
    ∙ pieces_left ps h.1 a.1
pieces_left (around l m is ps) h a =
    let inline : is_block_part m.kind ≡ false = ap is_block_part h.1.kind ∙ of_style (λ k. is_block_part k ≡ false) l.kind h.0 refl refl in
    let bare_so : has_mark (tree m (sent_pieces is)) ≡ false =
    ap (λ (c : Mark). is_marked c || have_mark (sent_pieces is)) h.1.unmarked ∙ pieces_markless is h.2 in
    ap (λ (b : Bool). not b && (not (has_mark (tree m (sent_pieces is))) && are_left (sent_pieces ps))) inline
    ∙ ap (λ (b : Bool). not b && are_left (sent_pieces ps)) bare_so
    ∙ pieces_left ps h.3 a
pieces_left (new_style m is ps) h a =
    ap (λ (b : Bool). not b && (not (has_mark (tree (as_new m) (sent_pieces is))) && are_left (sent_pieces ps)))
    (of_style (λ k. is_block_part k ≡ false) m.kind h.0 refl refl)
    ∙ ap (λ (b : Bool). not b && are_left (sent_pieces ps)) (pieces_markless is h.1)
    ∙ pieces_left ps h.2 a

abbrev one_remarked : Page → ℕ → Tree → Tree
one_remarked page n u = if is_stable page n u then remarked_in page u else unmarked u

content_remarked : (page : Page) (n : ℕ) (k : Block) (l m : Label) (ps : Pieces) → IsEdited (edited k l m ps)
    → IsAt page l.id n (page_node (edited k l m ps))
    → IsTold (edited k l m ps)
    → one_remarked page n (bare_node (edited k l m ps)) ≡ sent_node (edited k l m ps)
content_remarked page n k l m ps h e a =
    let u : Tree = bare_node (edited k l m ps) in
    let T : Mark → Trees → Tree = λ c us. tree (record m { kind = kind_of k; id = l.id; attrs = l.attrs; mark = c; mw = l.mw }) us in
    let old : Tree = page_node (edited k l m ps) in
    ap (λ (b : Bool). if b then remarked_in page u else unmarked u) (stable page n k l m ps h e)
    ∙ ap (λ (o : Option Place). T (mark_of page u o) (all_remarked page l.id (sent_pieces ps))) e.1
    ∙ ap (λ (b : Bool). T (if b then (if bytes_eq (numbers (held old)) (numbers_in page l.id (held u)) then marks.Nothing else marks.Children) else marks.Content)
    (all_remarked page l.id (sent_pieces ps))) a.0
    ∙ ap (T marks.Content) (left_remarked page l.id (sent_pieces ps) (pieces_left ps h.1 a.1))

-- ---- numbers of the children

partner_alike : (n : ℕ) (k : Block) (l m : Label) (ps : Pieces) (o : Option Place)
    → is_partner n (bare_node (edited k l m ps)) o ≡ is_partner n (page_node (edited k l m ps)) o
partner_alike n k l m ps None = refl
partner_alike n k l m ps (Some q) = refl

holder_alike : (n : ℕ) (m : Label) (ts us : Trees) (o : Option Place) → is_partner n (tree m ts) o ≡ is_partner n (tree m us) o
holder_alike n m ts us None = refl
holder_alike n m ts us (Some q) = refl

numbers_alike : (page : Page) (n : ℕ) (ss : Edits) → numbers_in page n (bare_nodes ss) ≡ numbers_in page n (kept_children ss)
numbers_alike page n no_edits = refl
numbers_alike page n (more_edits (stays t u) ss) =
    ap (λ (ns : List ℕ). if is_compared (showing (label u).kind) then (if stays_in page n u then (label u).id else 0) ∷ ns else ns) (numbers_alike page n ss)
numbers_alike page n (more_edits (edited k l m ps) ss) =
    ap (λ (b : Bool). if is_compared (showing (kind_of k)) then (if b then l.id else 0) ∷ numbers_in page n (bare_nodes ss) else
    numbers_in page n (bare_nodes ss)) (partner_alike n k l m ps (page l.id))
    ∙ ap (λ (ns : List ℕ). if is_compared (showing (kind_of k)) then (if is_partner n (page_node (edited k l m ps)) (page l.id) then l.id else 0) ∷ ns else ns)
    (numbers_alike page n ss)
numbers_alike page n (more_edits (round l m rs) ss) =
    ap (λ (b : Bool). if is_compared (showing m.kind) then (if b then m.id else 0) ∷ numbers_in page n (bare_nodes ss) else
    numbers_in page n (bare_nodes ss)) (holder_alike n m (bare_nodes rs) (kept_children rs) (page m.id))
    ∙ ap (λ (ns : List ℕ). if is_compared (showing m.kind) then (if is_partner n (tree m (kept_children rs)) (page m.id) then m.id else 0) ∷ ns else ns)
    (numbers_alike page n ss)

content_ends : (k : Block) (l m : Label) (ps : Pieces)
    → ends_inside (bare_node (edited k l m ps)) ≡ ends_inside (kept_child (edited k l m ps))
content_ends paragraph l m ps = refl
content_ends (heading n) l m ps = refl

holder_no_group : (l m : Label) (ss : Edits) → IsOwnRound l m ss → is_group m.kind ≡ false
holder_no_group l m ss a = ap is_group (sym a.own.kind) ∙ block_no_group l.kind a.part

ends_alike : (s : Edited) → IsTold s → ends_inside (bare_node s) ≡ ends_inside (kept_child s)
ends_alike (stays t u) a = refl
ends_alike (edited k l m ps) a = content_ends k l m ps
ends_alike (round l m ss) a =
    let g : is_group m.kind ≡ false = holder_no_group l m ss a.0 in
    ap (λ (b : Bool). is_separator m.kind || (if b then any_shows_block (bare_nodes ss) else is_block m.kind)) g
    ∙ sym (ap (λ (b : Bool). is_separator m.kind || (if b then any_shows_block (kept_children ss) else is_block m.kind)) g)

-- ---- the text that a node begins with

or_true : (a b : Bool) → b ≡ true → (a || b) ≡ true
or_true true b e = refl
or_true false b e = e

holder_ends : (l m : Label) (ss : Edits) (us : Trees) → IsOwnRound l m ss → is_block l.kind ≡ true → ends_inside (tree m us) ≡ true
holder_ends l m ss us a e =
    or_true (is_separator m.kind) (if is_group m.kind then any_shows_block us else is_block m.kind)
    (ap (λ (b : Bool). if b then any_shows_block us else is_block m.kind) (holder_no_group l m ss a) ∙ ap is_block (sym a.own.kind) ∙ e)

before_alike : (ss : Edits) → AreTold ss → AreRoundInBlocks ss → before_blocks (bare_nodes ss) ≡ before_blocks (kept_children ss)
before_alike no_edits a h = refl
before_alike (more_edits (stays t u) ss) a h = ap (λ us. if ends_inside u then none else more u us) (before_alike ss a.1 h)
before_alike (more_edits (edited paragraph l m ps) ss) a h = refl
before_alike (more_edits (edited (heading n) l m ps) ss) a h = refl
before_alike (more_edits (round l m rs) ss) a h =
    ap (λ (b : Bool). if b then none else more (tree m (bare_nodes rs)) (before_blocks (bare_nodes ss)))
    (holder_ends l m rs (bare_nodes rs) a.0.0 h.0)
    ∙ sym (ap (λ (b : Bool). if b then none else more (tree m (kept_children rs)) (before_blocks (kept_children ss)))
    (holder_ends l m rs (kept_children rs) a.0.0 h.0))

inside_alike : (l m : Label) (ss : Edits) → IsTold (round l m ss) → inside (bare_node (round l m ss)) ≡ inside (kept_child (round l m ss))
inside_alike l m ss a = by_inside (has_inside m.kind) (λ e. before_alike ss a.1 (a.0.behind_text (ap has_inside a.0.own.kind ∙ e)))
  where
    by_inside : (b : Bool) → (b ≡ true → before_blocks (bare_nodes ss) ≡ before_blocks (kept_children ss))
        → (if b then before_blocks (bare_nodes ss) else none) ≡ (if b then before_blocks (kept_children ss) else none)
    by_inside true f = f refl
    by_inside false f = refl

-- ---- the children behind it

from_alike : (page : Page) (n : ℕ) (ss : Edits) → AreTold ss
    → numbers_in page n (from_blocks (bare_nodes ss)) ≡ numbers_in page n (from_blocks (kept_children ss))
from_alike page n no_edits a = refl
from_alike page n (more_edits s ss) a =
    ap (λ (b : Bool). numbers_in page n (if b then bare_nodes (more_edits s ss) else from_blocks (bare_nodes ss))) (ends_alike s a.0)
    ∙ by_end (ends_inside (kept_child s)) (from_alike page n ss a.1)
  where
    by_end : (b : Bool) → numbers_in page n (from_blocks (bare_nodes ss)) ≡ numbers_in page n (from_blocks (kept_children ss))
        → numbers_in page n (if b then bare_nodes (more_edits s ss) else from_blocks (bare_nodes ss))
        ≡ numbers_in page n (if b then kept_children (more_edits s ss) else from_blocks (kept_children ss))
    by_end true e = numbers_alike page n (more_edits s ss)
    by_end false e = e

held_alike : (page : Page) (n : ℕ) (m : Label) (ss : Edits) → AreTold ss → have_frame (bare_nodes ss) ≡ false → have_frame (kept_children ss) ≡ false
    → numbers_in page n (held (tree m (bare_nodes ss))) ≡ numbers_in page n (held (tree m (kept_children ss)))
held_alike page n m ss a f e = by_inside (has_inside m.kind)
  where
    by_inside : (b : Bool) → numbers_in page n (if b then from_blocks (bare_nodes ss) else opened (bare_nodes ss))
        ≡ numbers_in page n (if b then from_blocks (kept_children ss) else opened (kept_children ss))
    by_inside true = from_alike page n ss a
    by_inside false =
        ap (numbers_in page n) (bare_root (tree m (bare_nodes ss)) f) ∙ numbers_alike page n ss
        ∙ sym (ap (numbers_in page n) (bare_root (tree m (kept_children ss)) e))

-- ---- all children

first_or : Tree → Trees → Tree
first_or t none = t
first_or t (more u us) = u

rest_of : Trees → Trees
rest_of none = none
rest_of (more u us) = us

-- what holds them has no mark
holder_mark : (page : Page) (n : ℕ) (l m : Label) (ss : Edits) → IsTold (round l m ss) → IsAt page l.id n (page_node (round l m ss))
    → have_frame (bare_nodes ss) ≡ false → have_frame (kept_children ss) ≡ false
    → mark_of page (kept_child (round l m ss)) (page m.id) ≡ marks.Nothing → mark_of page (bare_node (round l m ss)) (page m.id) ≡ marks.Nothing
holder_mark page n l m ss a q f e k =
    let old : Tree = page_node (round l m ss) in
    let place : Place = record { node = old; parent = n; in_content = q.0 } in
    let is : page m.id ≡ Some place = ap page (sym a.0.own.id) ∙ q.1 in
    let between : Trees → List ℕ → Mark = λ us ns.
    if same_tokens (all_tokens (inside old)) (all_tokens us) then (if bytes_eq (numbers (held old)) ns then marks.Nothing else marks.Children) else marks.Content in
    ap (mark_of page (bare_node (round l m ss))) is
    ∙ ap (λ us. between us (numbers_in page m.id (held (bare_node (round l m ss))))) (inside_alike l m ss a)
    ∙ ap (between (inside (kept_child (round l m ss)))) (held_alike page m.id m ss a.1 f e)
    ∙ sym (ap (mark_of page (kept_child (round l m ss))) is) ∙ k

mutual
  unfolding first_or rest_of

  child_remarked : (page : Page) (n : ℕ) (s : Edited) → IsEdited s → IsTold s → FindsChild page n s → has_frame (page_node s) ≡ false
      → one_remarked page n (kept_child s) ≡ unmarked (kept_child s) → one_remarked page n (bare_node s) ≡ sent_node s
  child_remarked page n (stays t u) h a q f e = e ∙ bare_stays u (no_mark t u h)
  child_remarked page n (edited k l m ps) h a q f e = content_remarked page n k l m ps h q a
  child_remarked page n (round l m ss) h a q f e =
      let d = or_false (is_frame l.kind) (have_frame (page_nodes ss)) f in
      let u : Tree = bare_node (round l m ss) in
      let v : Tree = kept_child (round l m ss) in
      let own : remarked_in page v ≡ unmarked v =
      sym (ap (λ (b : Bool). if b then remarked_in page v else unmarked v) (holder_stable page n l m ss (kept_children ss) a.0 q.0)) ∙ e in
      let none_bare : mark_of page u (page m.id) ≡ marks.Nothing =
      holder_mark page n l m ss a q.0 (bare_frameless ss h.1 d.1) (kept_frameless ss h.1 d.1) (ap (λ (t : Tree). (label t).mark) own) in
      ap (λ (b : Bool). if b then remarked_in page u else unmarked u) (holder_stable page n l m ss (bare_nodes ss) a.0 q.0)
      ∙ ap (λ (c : Mark). tree (record m { mark = c }) (all_remarked page m.id (bare_nodes ss))) (none_bare ∙ sym h.0.unmarked)
      ∙ ap (tree m) (children_remarked page m.id ss h.1 a.1 (subst (λ (i : ℕ). Finds page i ss) a.0.own.id q.1) d.1 (ap children own))

  children_remarked : (page : Page) (n : ℕ) (ss : Edits) → AreEdited ss → AreTold ss → Finds page n ss → have_frame (page_nodes ss) ≡ false
      → all_remarked page n (kept_children ss) ≡ all_unmarked (kept_children ss) → all_remarked page n (bare_nodes ss) ≡ sent_nodes ss
  children_remarked page n no_edits h a q f e = refl
  children_remarked page n (more_edits s ss) h a q f e =
      let d = or_false (has_frame (page_node s)) (have_frame (page_nodes ss)) f in
      ap (λ (c : Tree). more c (all_remarked page n (bare_nodes ss))) (child_remarked page n s h.0 a.0 q.0 d.0 (ap (first_or (kept_child s)) e))
      ∙ ap (more (sent_node s)) (children_remarked page n ss h.1 a.1 q.1 d.1 (ap rest_of e))

-- ---- the body's own mark

body_mark : (t : Tree) (l b : Label) (ss : Edits) → HasBareSections t → have_frame (page_nodes ss) ≡ false → AreEdited ss
    → mark_of (page_of t) (kept_body l ss) (page_of t 0) ≡ marks.Nothing → mark_of (page_of t) (bare_body l b ss) (page_of t 0) ≡ marks.Nothing
body_mark t l b ss bare f h e =
    let page : Page = page_of t in
    let root = found_root t bare.root in
    let opened_alike = ap (numbers_in page 0) (bare_root (bare_body l b ss) (bare_frameless ss h f)) ∙ numbers_alike page 0 ss
    ∙ sym (ap (numbers_in page 0) (bare_root (kept_body l ss) (kept_frameless ss h f))) in
    ap (mark_of page (bare_body l b ss)) root
    ∙ ap (λ (ns : List ℕ). if same_inside t (kept_body l ss) then (if bytes_eq (numbers (held t)) ns then marks.Nothing else marks.Children) else marks.Content)
    opened_alike
    ∙ sym (ap (mark_of page (kept_body l ss)) root) ∙ e

-- ---- the body

pub told_by_difference : (t : Tree) (l b : Label) (ss : Edits) → (label t).kind ≡ kind.Body → InPreorder t → HasBareSections t
    → without_sections t ≡ page_body l ss → InPreorder (page_body l ss) → have_frame (page_nodes ss) ≡ false
    → AreEdited ss → AreTold ss → remarked t (bare_body l b ss) ≡ sent_body l b ss
unfolding remarked
told_by_difference t l b ss k pre bare w pre_opened f h a =
    let page : Page = page_of t in
    let own = own_remarked t l ss k pre bare w f h a in
    let q : Finds page 0 ss =
    finds page (page_of (page_body l ss)) 0 (is_content l.mark) ss (subst (λ (o : Tree). AreAlike page (page_of o)) w (are_alike t bare)) h a (found l ss pre_opened) in
    let T : Mark → Trees → Tree = λ c us. tree (record b { kind = kind.Body; id = 0; attrs = l.attrs; mark = c; mw = l.mw }) us in
    ap (λ (c : Mark). T c (all_remarked page 0 (bare_nodes ss))) (body_mark t l b ss bare f h (ap (λ (o : Tree). (label o).mark) own))
    ∙ ap (T marks.Nothing) (children_remarked page 0 ss h a q f (ap children own))
