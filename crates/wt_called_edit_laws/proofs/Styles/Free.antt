-- Calls in a style of what is sent give none of its kind, where none in a style of the page does, and none that does comes into one.
use Rattle.std.proofs.Common.{◌≡◌, ℕ, ◌==◌, Bool, true, false, not, Option, Some, None, List, [], ◌∷◌, map, ap, refl, subst, sym, ◌||◌, ◌∙◌}
use Rattle.std.specs.Prelude.{if◌then◌else◌}
use Rattle.std.specs.Str.{chars}
use Rattle.wt_tree.specs.EditShapes.{edit_shape}
use Rattle.wt_tree.specs.Source.{flat}
use Rattle.wt_tree.specs.Tiling.{is_group}
use Rattle.wt_tree.specs.Tree.{Label, Tree, Trees, label, more, none, tree}
use Rattle.wt_tree.specs.declared.edit_shape.InlineForm.{InlineForm}
use Rattle.wt_tree.specs.declared.edit_shape.InlineForm.TheVariants as inline
use Rattle.wt_tree.specs.declared.edit_shape.Sort.{Sort}
use Rattle.wt_tree.specs.declared.edit_shape.Sort.TheVariants as sort
use Rattle.wt_tree.specs.declared.kind.Kind.{Kind}
use Rattle.wt_tree.specs.declared.kind.Kind.TheVariants as kind
use Rattle.wt_guards.specs.Content.{is_group as is_call, letter, thing}
use Rattle.wt_original.specs.Kept.{Kept, KeptNode, first_with, found_from, island, kept_nodes, kept_of, kept_with, role_by, url}
use Rattle.wt_original.specs.Page.{Page, page_of}
use Rattle.wt_original.specs.declared.block.Extent.{Extent}
use Rattle.wt_expand.specs.Work.{Pages}
use Rattle.wt_recut.specs.Recutting.{appended}
use Rattle.wt_typed_blocks.proofs.SentGroups.{apart, of_style}
use Rattle.wt_typed_blocks.specs.Edited.{IsStyle, Pieces, PiecesStay, around, as_new, gone, kept, new_style, no_pieces, page_pieces, sent_pieces, text_node, written}
use Rattle.wt_typed_blocks.specs.Sent.{AllStandAsIs, StandsAsIs}
use Rattle.wt_part_laws.specs.Expanded.{part_items}
use Rattle.wt_context.specs.Line.{line_parts}
use Rattle.wt_beside_laws.proofs.Styled.SentNests.{IsStyleForm, style_stands}
use Rattle.wt_beside_laws.proofs.StyledGroups.Nesting.{parts_both, parts_free}
use Rattle.wt_beside_laws.specs.NewStyles.{is_bold, is_bold_form}
use Rattle.wt_beside_laws.specs.SentStyled.{found_then, or_nowiki, sent_before, sent_by, sent_content, text_then}
use Rattle.wt_beside_laws.specs.Styled.{StyledContent, finished, sign, styled}
use Rattle.wt_called_edit_laws.specs.FoundGroups.{IsFoundAs}
use Rattle.wt_called_edit_laws.proofs.Styles.Found.{AreFound, FoundBy, IsFound}
use Rattle.wt_called_edit_laws.proofs.Styles.Sent.{beside_both, found_both, style_beside, style_found}
use Rattle.wt_called_edit_laws.specs.StyledCallEdits.{AreNodesBeside, GivesNested, HasNestedGroups, IsBesideBy, IsNodeBeside, NestedGroups, NewStylesHoldNested}

-- ---- a node that is no group is none to its neighbours

abbrev IsOtherSort : Sort → Type 0
IsOtherSort sort.PageLink = Unit {0}
IsOtherSort sort.Url = Unit {0}
IsOtherSort sort.Switch = Unit {0}
IsOtherSort sort.Mark = Unit {0}
IsOtherSort sort.Group = ⊥
IsOtherSort sort.Island = Unit {0}
IsOtherSort sort.Other = Unit {0}

other_sort : (k : Kind) → is_group k ≡ false → IsOtherSort (edit_shape k).sort
other_sort kind.Group e = let no : true ≡ false = e in absurd (cc)
other_sort k e = tt

url_other : (opening text : List ℕ) → is_call (url opening text) ≡ false
url_other [] text = refl
url_other (b ∷ opening) text = refl

island_other : (called : Bool) → is_call (island called) ≡ false
island_other true = refl
island_other false = refl

role_other : (s : Sort) (block : Tree) (e : Extent) (t : Tree) → IsOtherSort s → is_call (role_by s block e t) ≡ false
role_other sort.PageLink block e t h = refl
role_other sort.Url block e t h = url_other (label t).opening _
role_other sort.Switch block e t h = refl
role_other sort.Mark block e t h = refl
role_other sort.Group block e t h = absurd h
role_other sort.Island block e t h = island_other _
role_other sort.Other block e t h = refl

-- so of the node with a number
abbrev HasOtherRole : Option Kept → Type 0
HasOtherRole None = Unit {0}
HasOtherRole (Some k) = is_group (label k.node).kind ≡ false → is_call k.role ≡ false

by_test : (b : Bool) (k : Kept) (o : Option Kept) → HasOtherRole (Some k) → HasOtherRole o → HasOtherRole (if b then Some k else o)
by_test true k o f g = f
by_test false k o f g = g

each_other : (block : Tree) (fs : List KeptNode) (n : ℕ) → HasOtherRole (first_with n (map (kept_of block) fs))
each_other block [] n = tt
each_other block (f ∷ fs) n =
    by_test ((label f.node).id == n) (kept_of block f) (first_with n (map (kept_of block) fs))
    (λ e. role_other (edit_shape (label f.node).kind).sort block f.extent f.node (other_sort (label f.node).kind e)) (each_other block fs n)

none_or : (b : Bool) (o : Option Kept) → HasOtherRole o → HasOtherRole (if b then None else o)
none_or true o h = tt
none_or false o h = h

other_role : (block : Tree) (n : ℕ) → HasOtherRole (kept_with n (kept_nodes block))
unfolding kept_with
other_role block n = none_or (n == 0) (first_with n (kept_nodes block)) (each_other block (found_from 0 0 block) n)

found_other : (block : Tree) (l : Label) (ts : Trees) (f : IsFoundAs (kept_nodes block) l ts) → is_group l.kind ≡ false → is_call f.kept.role ≡ false
found_other block l ts f e =
    let own : HasOtherRole (Some f.kept) = subst HasOtherRole f.found (other_role block l.id) in
    own (ap (λ (t : Tree). is_group (label t).kind) f.node ∙ e)

-- ---- a content in whose styles calls give none of their kind

-- of its nodes, where it is in bold or italic or in neither
abbrev pub NestsWithin : Pages → Bool → Bool → StyledContent → Type 0
NestsWithin pages bold italic finished = Unit {0}
NestsWithin pages bold italic (sign (letter c) t) = NestsWithin pages bold italic t
NestsWithin pages bold italic (sign (thing x) t) = (is_call x.role ≡ true → GivesNested pages bold italic x.source) × NestsWithin pages bold italic t
NestsWithin pages bold italic (styled kind opening closing inside t) =
    NestsWithin pages (kind || bold) (not kind || italic) inside × NestsWithin pages bold italic t

text_free : (pages : Pages) (bold italic : Bool) (cs : List ℕ) (t : StyledContent) → NestsWithin pages bold italic t → NestsWithin pages bold italic (text_then cs t)
text_free pages bold italic [] t h = h
text_free pages bold italic (c ∷ cs) t h = text_free pages bold italic cs t h

nowiki_free : (pages : Pages) (bold italic : Bool) (t : StyledContent) → NestsWithin pages bold italic t → NestsWithin pages bold italic (or_nowiki t)
nowiki_free pages bold italic finished h = ((λ f. let no : false ≡ true = f in absurd (cc)), tt)
nowiki_free pages bold italic (sign c t) h = h
nowiki_free pages bold italic (styled kind opening closing inside t) h = h

-- a group there nests, if it is one
abbrev NestsThere : Pages → Bool → Bool → Label → Trees → Type 0
NestsThere pages bold italic l ts = is_group l.kind ≡ true → GivesNested pages bold italic (flat (tree l ts))

found_nests : (pages : Pages) (bold italic : Bool) (block : Tree) (l : Label) (ts : Trees) (f : IsFoundAs (kept_nodes block) l ts)
    → NestsThere pages bold italic l ts → is_call f.kept.role ≡ true → GivesNested pages bold italic (flat f.kept.node)
found_nests pages bold italic block l ts f g e = by (is_group l.kind) refl
  where
    by : (v : Bool) → is_group l.kind ≡ v → GivesNested pages bold italic (flat f.kept.node)
    by true i = subst (λ (t : Tree). GivesNested pages bold italic (flat t)) (sym f.node) (g i)
    by false i = let no : true ≡ false = sym e ∙ found_other block l ts f i in absurd (cc)

found_free : (pages : Pages) (bold italic : Bool) (block : Tree) (l m : Label) (ts : Trees) (t : StyledContent) → m.id ≡ l.id → IsFoundAs (kept_nodes block) l ts
    → NestsThere pages bold italic l ts → NestsWithin pages bold italic t → NestsWithin pages bold italic (found_then (kept_with m.id (kept_nodes block)) t)
found_free pages bold italic block l m ts t e f g h =
    subst (λ (o : Option Kept). NestsWithin pages bold italic (found_then o t)) (sym (ap (λ (i : ℕ). kept_with i (kept_nodes block)) e ∙ f.found))
    ((λ c. found_nests pages bold italic block l ts f g c), h)

-- what is in a style of this form
abbrev NestsInForm : InlineForm → Pages → Bool → Bool → StyledContent → Type 0
NestsInForm w pages bold italic held = NestsWithin pages (is_bold_form w || bold) (not (is_bold_form w) || italic) held

one_free : (w : InlineForm) (pages : Pages) (bold italic : Bool) (block : Tree) (l m : Label) (ts : Trees) (held t : StyledContent) (F : Type 0) → m.id ≡ l.id
    → FoundBy w (kept_nodes block) l ts F → NestsThere pages bold italic l ts → (IsStyleForm w → F → NestsInForm w pages bold italic held)
    → NestsWithin pages bold italic t → NestsWithin pages bold italic (sent_by w (kept_with m.id (kept_nodes block)) m held t)
one_free inline.Nothing pages bold italic block l m ts held t F e f g k h = h
one_free inline.Characters pages bold italic block l m ts held t F e f g k h = text_free pages bold italic (chars m.shown) t h
one_free inline.Bold pages bold italic block l m ts held t F e f g k h = (nowiki_free pages true italic held (k tt f.1), h)
one_free inline.Italic pages bold italic block l m ts held t F e f g k h = (nowiki_free pages bold true held (k tt f.1), h)
one_free inline.Shown pages bold italic block l m ts held t F e f g k h = found_free pages bold italic block l m ts t e f g h
one_free inline.PageLink pages bold italic block l m ts held t F e f g k h = found_free pages bold italic block l m ts t e f g h
one_free inline.ExternalLink pages bold italic block l m ts held t F e f g k h = found_free pages bold italic block l m ts t e f g h
one_free inline.Tag pages bold italic block l m ts held t F e f g k h = found_free pages bold italic block l m ts t e f g h
one_free inline.Break pages bold italic block l m ts held t F e f g k h = found_free pages bold italic block l m ts t e f g h
one_free inline.AsItStood pages bold italic block l m ts held t F e f g k h = found_free pages bold italic block l m ts t e f g h

-- ---- the groups of nodes

nested_both : (pages : Pages) (bold italic : Bool) (ts us : Trees) → NestedGroups pages bold italic (appended ts us)
    → NestedGroups pages bold italic ts × NestedGroups pages bold italic us
nested_both pages bold italic ts us h =
    apart (λ t. HasNestedGroups pages bold italic t) (λ vs. NestedGroups pages bold italic vs) tt (λ t vs x. x) (λ t vs x. x) ts us h

-- beside no style any may be
mutual
  tree_free : (pages : Pages) (t : Tree) → HasNestedGroups pages false false t
  tree_free pages (tree l ts) = ((λ e i. parts_free (line_parts (part_items pages i (flat (tree l ts))))), trees_free pages ts)

  trees_free : (pages : Pages) (ts : Trees) → NestedGroups pages false false ts
  trees_free pages none = tt
  trees_free pages (more t ts) = (tree_free pages t, trees_free pages ts)

-- in one style and in the other
mutual
  tree_in_both : (pages : Pages) (b i c j : Bool) (t : Tree) → HasNestedGroups pages b i t → HasNestedGroups pages c j t
      → HasNestedGroups pages (b || c) (i || j) t
  tree_in_both pages b i c j (tree l ts) f g = (
    (λ e n. parts_both b i c j (line_parts (part_items pages n (flat (tree l ts)))) (f.0 e n) (g.0 e n)),
    trees_in_both pages b i c j ts f.1 g.1,
  )

  trees_in_both : (pages : Pages) (b i c j : Bool) (ts : Trees) → NestedGroups pages b i ts → NestedGroups pages c j ts
      → NestedGroups pages (b || c) (i || j) ts
  trees_in_both pages b i c j none f g = tt
  trees_in_both pages b i c j (more t ts) f g = (tree_in_both pages b i c j t f.0 g.0, trees_in_both pages b i c j ts f.1 g.1)

-- ---- nodes of the block

abbrev NestedInForm : InlineForm → Pages → Bool → Bool → Trees → Type 0
NestedInForm w pages bold italic ts = NestedGroups pages (is_bold_form w || bold) (not (is_bold_form w) || italic) ts

style_groups : (k : Kind) (pages : Pages) (bold italic : Bool) (l : Label) (ts : Trees) (A : Type 0) → IsStyleForm (edit_shape k).inline
    → IsBesideBy (edit_shape k).inline pages l ts A → NestedGroups pages bold italic ts → NestedInForm (edit_shape k).inline pages bold italic ts × A
style_groups kind.Bold pages bold italic l ts A s b g = (trees_in_both pages true false bold italic ts b.1 g, b.2)
style_groups kind.Italic pages bold italic l ts A s b g = (trees_in_both pages false true bold italic ts b.1 g, b.2)
style_groups k pages bold italic l ts A s b g = absurd s

-- where the groups in it nest
mutual
  node_free : (pages : Pages) (same : Tree → Tree → Bool) (bold italic : Bool) (block t u : Tree) (c : StyledContent) → StandsAsIs t u
      → IsFound (kept_nodes block) t → IsNodeBeside pages t → HasNestedGroups pages bold italic t → NestsWithin pages bold italic c
      → NestsWithin pages bold italic (sent_before (page_of same block) u c)
  node_free pages same bold italic block (tree l ts) (tree m us) c h f b g k =
      let held : StyledContent = sent_content (page_of same block) us in
      subst (λ (x : Kind). NestsWithin pages bold italic (sent_by (edit_shape x).inline (kept_with m.id (kept_nodes block)) m held c)) (sym h.0.kind)
      (one_free (edit_shape l.kind).inline pages bold italic block l m ts held c (AreFound (kept_nodes block) ts) h.0.id f g.0
      (λ s d. let r = style_groups l.kind pages bold italic l ts (AreNodesBeside pages ts) s b g.1 in
      nodes_free pages same (is_bold l || bold) (not (is_bold l) || italic) block ts us (style_stands l.kind l ts us s h.1) d r.1 r.0) k)

  nodes_free : (pages : Pages) (same : Tree → Tree → Bool) (bold italic : Bool) (block : Tree) (ts us : Trees) → AllStandAsIs ts us
      → AreFound (kept_nodes block) ts → AreNodesBeside pages ts → NestedGroups pages bold italic ts
      → NestsWithin pages bold italic (sent_content (page_of same block) us)
  nodes_free pages same bold italic block none none h f b g = tt
  nodes_free pages same bold italic block none (more u us) h f b g = absurd h
  nodes_free pages same bold italic block (more t ts) none h f b g = absurd h
  nodes_free pages same bold italic block (more t ts) (more u us) h f b g =
      node_free pages same bold italic block t u (sent_content (page_of same block) us) h.0 f.0 b.0 g.0
      (nodes_free pages same bold italic block ts us h.1 f.1 b.1 g.1)

-- ---- pieces

text_piece : (pages : Pages) (bold italic : Bool) (p : Page) (x : Label) (text : List ℕ) (us : Trees) → NestsWithin pages bold italic (sent_content p us)
    → NestsWithin pages bold italic (sent_content p (text_node x text us))
text_piece pages bold italic p x [] us h = h
text_piece pages bold italic p x (c ∷ cs) us h = text_free pages bold italic (chars (c ∷ cs)) (sent_content p us) h

style_free : (pages : Pages) (bold italic : Bool) (k : Kind) (o : Option Kept) (m : Label) (held t : StyledContent) → IsStyle k
    → NestsInForm (edit_shape k).inline pages bold italic held → NestsWithin pages bold italic t
    → NestsWithin pages bold italic (sent_by (edit_shape k).inline o m held t)
style_free pages bold italic k o m held t s a b =
    of_style
    (λ j. NestsInForm (edit_shape j).inline pages bold italic held → NestsWithin pages bold italic (sent_by (edit_shape j).inline o m held t))
    k s (λ h. (nowiki_free pages true italic held h, b)) (λ h. (nowiki_free pages bold true held h, b)) a

-- in bold or italic or in neither
inner_free : (pages : Pages) (same : Tree → Tree → Bool) (bold italic : Bool) (block : Tree) (ps : Pieces) → AreFound (kept_nodes block) (page_pieces ps)
    → AreNodesBeside pages (page_pieces ps) → NestedGroups pages bold italic (page_pieces ps) → PiecesStay ps → NewStylesHoldNested pages ps
    → NestsWithin pages bold italic (sent_content (page_of same block) (sent_pieces ps))
inner_free pages same bold italic block no_pieces f b g h e = tt
inner_free pages same bold italic block (gone t ps) f b g h e = inner_free pages same bold italic block ps f.1 b.1 g.1 h e
inner_free pages same bold italic block (written x text ps) f b g h e =
    text_piece pages bold italic (page_of same block) x text (sent_pieces ps) (inner_free pages same bold italic block ps f b g h e)
inner_free pages same bold italic block (kept t u ps) f b g h e =
    node_free pages same bold italic block t u (sent_content (page_of same block) (sent_pieces ps)) h.0 f.0 b.0 g.0
    (inner_free pages same bold italic block ps f.1 b.1 g.1 h.1 e)
inner_free pages same bold italic block (around l m is ps) f b g h e =
    let r = style_beside pages l (page_pieces is) h.0 b.0 in
    let d = style_found (kept_nodes block) l (page_pieces is) h.0 f.0 in
    let p : Page = page_of same block in
    let all : NestedGroups pages (is_bold l || bold) (not (is_bold l) || italic) (page_pieces is) =
    trees_in_both pages (is_bold l) (not (is_bold l)) bold italic (page_pieces is) r.0 g.0.1 in
    let inside : NestsInForm (edit_shape l.kind).inline pages bold italic (sent_content p (sent_pieces is)) =
    inner_free pages same (is_bold l || bold) (not (is_bold l) || italic) block is d.1 r.1 all h.2 e.0 in
    style_free pages bold italic m.kind (kept_with m.id (kept_nodes block)) m (sent_content p (sent_pieces is)) (sent_content p (sent_pieces ps))
    (subst IsStyle (sym h.1.kind) h.0)
    (subst (λ (k : Kind). NestsInForm (edit_shape k).inline pages bold italic (sent_content p (sent_pieces is))) (sym h.1.kind) inside)
    (inner_free pages same bold italic block ps f.1 b.1 g.1 h.3 e.1)
inner_free pages same bold italic block (new_style m is ps) f b g h e =
    let d = found_both (kept_nodes block) (page_pieces is) (page_pieces ps) f in
    let n = beside_both pages (page_pieces is) (page_pieces ps) b in
    let r = nested_both pages bold italic (page_pieces is) (page_pieces ps) g in
    let p : Page = page_of same block in
    let all : NestedGroups pages (is_bold m || bold) (not (is_bold m) || italic) (page_pieces is) =
    trees_in_both pages (is_bold m) (not (is_bold m)) bold italic (page_pieces is) e.0 r.0 in
    style_free pages bold italic m.kind (kept_with 0 (kept_nodes block)) (as_new m) (sent_content p (sent_pieces is)) (sent_content p (sent_pieces ps)) h.0
    (inner_free pages same (is_bold m || bold) (not (is_bold m) || italic) block is d.0 n.0 all h.1 e.1)
    (inner_free pages same bold italic block ps d.1 n.1 r.1 h.2 e.2)

pub pieces_free : (pages : Pages) (same : Tree → Tree → Bool) (block : Tree) (ps : Pieces) → AreFound (kept_nodes block) (page_pieces ps)
    → AreNodesBeside pages (page_pieces ps) → PiecesStay ps → NewStylesHoldNested pages ps
    → NestsWithin pages false false (sent_content (page_of same block) (sent_pieces ps))
pieces_free pages same block ps f g h e = inner_free pages same false false block ps f g (trees_free pages (page_pieces ps)) h e
