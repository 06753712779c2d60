-- The places of a page's tree stand between the characters of the page: what comes before each is a text.
use Rattle.std.proofs.Common.{◌≡◌, ℕ, suc, ◌+◌, ◌-◌, ◌<◌, ◌≤◌, ◌^◌, Bool, true, false, Option, Some, None, List, [], ◌∷◌, ◌++◌, length, take, refl, sym, ap, ◌∙◌, subst, arith, append-nil, append_assoc, length-append}
use Rattle.std.specs.Prelude.{◌||◌, not, if◌then◌else◌}
use Rattle.std.specs.Str.{IsUtf8, IsCharBoundary}
use Rattle.std.specs.List.{AllByRecursion}
use Rattle.std.proofs.lemmas.Str.{IsUtf8-nil, IsUtf8-append, IsCharBoundary-from_take}
use Rattle.std.proofs.lemmas.List.{take-append-drop, take-take, take_at, length-take-le}
use Rattle.wt_tree.specs.declared.kind.Kind.{Kind}
use Rattle.wt_tree.specs.declared.kind.Kind.TheVariants as kind
use Rattle.wt_tree.specs.declared.kind.Ranges.{Ranges}
use Rattle.wt_tree.specs.declared.row.Writing.{Writing}
use Rattle.wt_tree.specs.declared.row.Writing.TheVariants.{AsText, AsVoid, RoundCharacter, RoundChildren, AsSection, Unwritten}
use Rattle.wt_tree.specs.Kinds.{writing, is_leaf, texts_of_kind}
use Rattle.wt_tree.specs.Source.{flat, flat_of_all}
use Rattle.wt_tree.specs.Tiling.{BeginsAt, end_of, TiledBy, Tiled, TiledFrom, Covers, is_group}
use Rattle.wt_tree.specs.Tree.{Label, Tree, tree, Trees, none, more, label}
use Rattle.wt_span.specs.Cuts.{page_of}
use Rattle.wt_inline.specs.ItemTree.{tree_items}
use Rattle.wt_page.specs.Body.{meaning}
use Rattle.wt_expand.specs.Work.{Pages, first_refusal}
use Rattle.wt_expand.specs.Expansion.{page_work}
use Rattle.wt_expand.specs.PageCalls.{expanded_page}
use Rattle.wt_annotated.specs.Slices.{slice, opening_by, StandsAt, StandsIn, IsSlice}
use Rattle.wt_annotated.specs.Reached.{reached, reached_in_all, AreReachedSlices}
use Rattle.wt_annotated.specs.GroupData.{group_data}
use Rattle.wt_annotated.proofs.PageSlices.{slice_length}
use Rattle.wt_annotated.proofs.AnnotatedTree.{annotated_slices}
use Rattle.wt_schema.specs.Written.{IsElementLabel, IsLeafSource, HasSource, IsWrittenGroup, NodeIsWritten, is_childless, IsCutIn, WrittenIn, AllWrittenIn}
use Rattle.wt_page_round_trip.specs.PageTree.{page_tree}
use Rattle.wt_page_round_trip.proofs.Sectioned.{IsWrittenBody}
use Rattle.wt_page_round_trip.proofs.PageTrees.{ungathered, ungathered_tiled, clean_meaning, covers_width}
use Rattle.wt_page_round_trip.proofs.HeldPages.{its_page}
use Rattle.wt_page_round_trip.proofs.Pages.{body_written}
use Rattle.wt_slices.specs.Borders.{Said, IsSaidOf, IsSaidIn, IsSaidInAll}
use Rattle.wt_edit.proofs.GroupPlaces.{HasNone, AllHaveNone, NoneInGroups, AllNoneInGroups, annotated_held}
use Rattle.wt_edit.proofs.SectionPlaces.{sections_said}

-- ---- what comes before a place

abbrev Ends : List ℕ → ℕ → Type 0
Ends page p = (p ≤ length page) × IsUtf8 (take p page)

border : (page : List ℕ) (p : ℕ) → IsUtf8 page → Ends page p → IsCharBoundary page p
border page p u e = IsCharBoundary-from_take page p u e.0 e.1

-- a text more
grown : (page : List ℕ) (s e m : ℕ) (xs ys : List ℕ) → s ≤ e → e ≤ length page → slice page s e ≡ xs ++ ys → m ≡ s + length xs
    → IsUtf8 (take s page) → IsUtf8 xs → Ends page m
grown page s e m xs ys l w is at u v =
    let size : length xs + length ys ≡ e - s = sym (length-append xs ys) ∙ sym (ap length is) ∙ slice_length page s e l w in
    let front = take s page ++ xs in
    let before : length (take s page) ≡ s = length-take-le s page (omega (arith, l, w)) in
    let wide : length front ≡ m = length-append (take s page) xs ∙ omega (arith, before, at) in
    let within : m ≤ e = omega (arith, at, size, l) in
    let all : take e page ≡ front ++ ys =
    sym (take-append-drop s (take e page)) ∙ ap (λ zs. zs ++ slice page s e) (take-take s e page l) ∙ ap (λ zs. take s page ++ zs) is
    ∙ sym (append_assoc (take s page) xs ys) in
    let taken : take m page ≡ front =
    sym (take-take m e page within) ∙ ap (take m) all ∙ take_at front ys m wide in
    (omega (arith, within, w), subst IsUtf8 (sym taken) (IsUtf8-append (take s page) xs u v))

-- ---- the texts of a node

record AreTexts (l : Label) : Type 0 where
  own : IsUtf8 l.own
  opening : IsUtf8 l.opening
  closing : IsUtf8 l.closing
  leaf : is_leaf l.kind ≡ true → l.closing ≡ []

empty_text : (bs : List ℕ) → bs ≡ [] → IsUtf8 bs
empty_text bs e = subst IsUtf8 (sym e) IsUtf8-nil

leaf_texts : (l : Label) → IsLeafSource l → AreTexts l
leaf_texts l h = record { own = h.own; opening = empty_text l.opening h.opening; closing = empty_text l.closing h.closing; leaf = λ e. h.closing }

source_texts : (b : Bool) (l : Label) → is_leaf l.kind ≡ b → HasSource b l → AreTexts l
source_texts true l e h = leaf_texts l h
source_texts false l e h = record { own = empty_text l.own h.own; opening = h.opening; closing = h.closing; leaf = λ f. absurd (cc) }

element_texts : (l : Label) → IsElementLabel l → AreTexts l
element_texts l h = source_texts (is_leaf l.kind) l refl h.source

node_texts : (w : Writing) (k : ℕ) (parent : Kind) (l : Label) (ts : Trees) (inside : Type 0)
    → NodeIsWritten w k parent l (is_childless ts) inside (IsWrittenGroup k parent l ts) → AreTexts l
node_texts AsText k parent l ts inside h =
    record { own = h.0.characters; opening = empty_text l.opening h.0.opening; closing = empty_text l.closing h.0.closing; leaf = λ e. h.0.closing }
node_texts AsVoid k parent l ts inside h = element_texts l h.2
node_texts RoundCharacter k parent l ts inside h = element_texts l h.2
node_texts RoundChildren k parent l ts inside h = element_texts l h.2
node_texts (AsSection n) k parent l ts inside h = absurd h
node_texts Unwritten k parent l ts inside h = leaf_texts l h.label.source

-- ---- what a node holds

no_children : (ts : Trees) (k : ℕ) (parent : Kind) → is_childless ts ≡ true → AllWrittenIn k parent ts
no_children none k parent e = tt
no_children (more t ts) k parent e = absurd (cc)

by_leaf : (b c : Bool) → (not b || c) ≡ true → b ≡ true → c ≡ true
by_leaf true c h e = h
by_leaf false c h e = absurd (cc)

node_inside : (w : Writing) (k : ℕ) (parent : Kind) (l : Label) (ts : Trees)
    → NodeIsWritten w k parent l (is_childless ts) (IsCutIn (texts_of_kind l.kind) ts × AllWrittenIn (suc k) l.kind ts) (IsWrittenGroup k parent l ts)
    → is_leaf l.kind ≡ false → AllWrittenIn (suc k) l.kind ts
node_inside AsText k parent l ts h e = no_children ts (suc k) l.kind h.1
node_inside AsVoid k parent l ts h e = h.4.1
node_inside RoundCharacter k parent l ts h e = h.4.1
node_inside RoundChildren k parent l ts h e = h.4.1
node_inside (AsSection n) k parent l ts h e = absurd h
node_inside Unwritten k parent l ts h e = let leaf : is_leaf l.kind ≡ true = ap is_leaf h.label.kind in absurd (cc)

node_childless : (w : Writing) (k : ℕ) (parent : Kind) (l : Label) (ts : Trees) (inside : Type 0)
    → NodeIsWritten w k parent l (is_childless ts) inside (IsWrittenGroup k parent l ts) → is_leaf l.kind ≡ true → is_group l.kind ≡ false
    → is_childless ts ≡ true
node_childless AsText k parent l ts inside h e g = h.1
node_childless AsVoid k parent l ts inside h e g = by_leaf (is_leaf l.kind) (is_childless ts) h.3 e
node_childless RoundCharacter k parent l ts inside h e g = by_leaf (is_leaf l.kind) (is_childless ts) h.3 e
node_childless RoundChildren k parent l ts inside h e g = by_leaf (is_leaf l.kind) (is_childless ts) h.3 e
node_childless (AsSection n) k parent l ts inside h e g = absurd h
node_childless Unwritten k parent l ts inside h e g = let group : is_group l.kind ≡ true = ap is_group h.label.kind in absurd (cc)

-- ---- what has no place, and what holds nothing

mutual
  none_said : (P : Said) (t : Tree) → HasNone t → IsSaidIn P t
  none_said P (tree l ts) h = (subst (IsSaidOf P) (sym h.0) tt, all_none_said P ts h.1)

  all_none_said : (P : Said) (ts : Trees) → AllHaveNone ts → IsSaidInAll P ts
  all_none_said P none h = tt
  all_none_said P (more t ts) h = (none_said P t h.0, all_none_said P ts h.1)

childless_said : (P : Said) (ts : Trees) → is_childless ts ≡ true → IsSaidInAll P ts
childless_said P none e = tt
childless_said P (more t ts) e = absurd (cc)

leaf_inside : (P : Said) (b : Bool) (ts : Trees) → (b ≡ true → AllHaveNone ts) → (b ≡ false → is_childless ts ≡ true) → IsSaidInAll P ts
leaf_inside P true ts f g = all_none_said P ts (f refl)
leaf_inside P false ts f g = childless_said P ts (g refl)

-- ---- places

-- the open width of a leaf is that of nothing, or of all
opens_by : (page : List ℕ) (b : Bool) (r : Ranges) (own : List ℕ) → r.open_w ≡ length (take (if b then 0 else length own) own)
    → r.end ≡ r.start + length own → Ends page r.start → Ends page r.end → Ends page (r.start + r.open_w)
opens_by page true r own w z f g = subst (Ends page) (omega (arith, w)) f
opens_by page false r own w z f g =
    let all : length (take (length own) own) ≡ length own = length-take-le (length own) own (omega arith) in
    subst (Ends page) (omega (arith, w, all, z)) g

split : {X : Type 0} (P : X → Type 0) (xs ys : List X) → AllByRecursion P (xs ++ ys) → AllByRecursion P xs × AllByRecursion P ys
split P [] ys h = (tt, h)
split P (x ∷ xs) ys h = let r = split P xs ys h.1 in ((h.0, r.0), r.1)

ended : (page : List ℕ) (r : Ranges) (source opening closing : List ℕ) → StandsAt page r source opening closing → r.end ≡ r.start + length source
ended page r source opening closing s = omega (arith, ap length s.stands, slice_length page r.start r.end s.ordered s.within, s.ordered)

-- what is known of a node, by its ranges
abbrev Found : List ℕ → Option Ranges → List ℕ → Type 0
Found page o source = IsSaidOf (λ p. IsCharBoundary page p) o × Ends page (end_of o) × IsUtf8 source

leaf_found : (page : List ℕ) (at : ℕ) (l : Label) (o : Option Ranges) → IsUtf8 page → Ends page at → AreTexts l → is_leaf l.kind ≡ true
    → BeginsAt at o → StandsIn page o l.own (opening_by true l) l.closing → Found page o l.own
leaf_found page at l None u e t leaf b s = absurd s
leaf_found page at l (Some r) u e t leaf b s =
    let z = ended page r l.own (opening_by true l) l.closing s in
    let start : Ends page r.start = subst (Ends page) (sym b) e in
    let end : Ends page r.end = grown page r.start r.end r.end l.own [] s.ordered s.within (s.stands ∙ sym (append-nil l.own)) z start.1 t.own in
    let opens : Ends page (r.start + r.open_w) = opens_by page _ r l.own s.open_width z start end in
    let same : r.end ≡ r.end - r.close_w = omega (arith, s.close_width, ap length (t.leaf leaf)) in (
      (
        border page r.start u start,
        border page (r.start + r.open_w) u opens,
        subst (IsCharBoundary page) same (border page r.end u end),
        border page r.end u end,
      ),
      end,
      t.own,
    )

inner_found : (page : List ℕ) (at : ℕ) (l : Label) (o : Option Ranges) (inside : List ℕ) (f : ℕ → ℕ → Type 0) (X : Type 0) → IsUtf8 page → Ends page at
    → AreTexts l → BeginsAt at o → TiledBy false o f → StandsIn page o ((l.opening ++ inside) ++ l.closing) l.opening l.closing
    → ((a b : ℕ) → f a b → Ends page a → X × Ends page b × IsUtf8 inside) → X × Found page o ((l.opening ++ inside) ++ l.closing)
inner_found page at l None inside f X u e t b h s i = absurd s
inner_found page at l (Some r) inside f X u e t b h s i =
    let source = (l.opening ++ inside) ++ l.closing in
    let z = ended page r source l.opening l.closing s in
    let start : Ends page r.start = subst (Ends page) (sym b) e in
    let opens : Ends page (r.start + r.open_w) =
    grown page r.start r.end (r.start + r.open_w) l.opening (inside ++ l.closing) s.ordered s.within
    (s.stands ∙ append_assoc l.opening inside l.closing) (omega (arith, s.open_width)) start.1 t.opening in
    let held = i (r.start + r.open_w) (r.end - r.close_w) h.1 opens in
    let text = IsUtf8-append (l.opening ++ inside) l.closing (IsUtf8-append l.opening inside t.opening held.2) t.closing in
    let end : Ends page r.end = grown page r.start r.end r.end source [] s.ordered s.within (s.stands ∙ sym (append-nil source)) z start.1 text in (
      held.0,
      (
        (
          border page r.start u start,
          border page (r.start + r.open_w) u opens,
          border page (r.end - r.close_w) u held.1,
          border page r.end u end,
        ),
        end,
        text,
      ),
    )

-- the same of a tree and of trees that follow one another
abbrev NodeFound : List ℕ → Tree → Type 0
NodeFound page t = IsSaidIn (λ p. IsCharBoundary page p) t × Ends page (end_of (label t).ranges) × IsUtf8 (flat t)

abbrev AllFound : List ℕ → Trees → ℕ → Type 0
AllFound page ts to = IsSaidInAll (λ p. IsCharBoundary page p) ts × Ends page to × IsUtf8 (flat_of_all ts)

not_reached : (b : Bool) (P : Tree → Type 0) (ts : List Tree) → b ≡ false → AllByRecursion P (if b then [] else ts) → AllByRecursion P ts
not_reached true P ts e h = absurd (cc)
not_reached false P ts e h = h

no_group : (k : Kind) → is_leaf k ≡ false → is_group k ≡ false
no_group kind.Group e = absurd (cc)
no_group k e = refl

abbrev Written : ℕ → Kind → Label → Trees → Type 0
Written k parent l ts = NodeIsWritten (writing l.kind) k parent l (is_childless ts)
    (IsCutIn (texts_of_kind l.kind) ts × AllWrittenIn (suc k) l.kind ts) (IsWrittenGroup k parent l ts)

abbrev source_by : Bool → Label → Trees → List ℕ
source_by b l ts = if b then l.own else (l.opening ++ flat_of_all ts) ++ l.closing

node_by : (page : List ℕ) (k : ℕ) (parent : Kind) (l : Label) (ts : Trees) (at : ℕ) (b : Bool) → is_leaf l.kind ≡ b → IsUtf8 page → Written k parent l ts
    → BeginsAt at l.ranges → TiledBy b l.ranges (λ from to. TiledFrom ts from to)
    → StandsIn page l.ranges (source_by b l ts) (opening_by b l) l.closing → NoneInGroups (tree l ts) → Ends page at
    → (is_leaf l.kind ≡ false → AllWrittenIn (suc k) l.kind ts → (from to : ℕ) → TiledFrom ts from to → Ends page from → AllFound page ts to)
    → IsSaidIn (λ p. IsCharBoundary page p) (tree l ts) × Ends page (end_of l.ranges) × IsUtf8 (source_by b l ts)
node_by page k parent l ts at true leaf u w b t s g e f =
    let texts = node_texts (writing l.kind) k parent l ts _ w in
    let found = leaf_found page at l l.ranges u e texts leaf b s in
    let inside = leaf_inside (λ p. IsCharBoundary page p) (is_group l.kind) ts g.0 (λ h. node_childless (writing l.kind) k parent l ts _ w leaf h) in
    ((found.0, inside), found.1, found.2)
node_by page k parent l ts at false leaf u w b t s g e f =
    let texts = node_texts (writing l.kind) k parent l ts _ w in
    let inside = node_inside (writing l.kind) k parent l ts w leaf in
    let found = inner_found page at l l.ranges (flat_of_all ts) (λ from to. TiledFrom ts from to) (IsSaidInAll (λ p. IsCharBoundary page p) ts)
    u e texts b t s (λ from to h ends. f leaf inside from to h ends) in
    ((found.1.0, found.0), found.1.1, found.1.2)

mutual
  node_found : (page : List ℕ) (k : ℕ) (parent : Kind) (t : Tree) (at : ℕ) → IsUtf8 page → WrittenIn k parent t → BeginsAt at (label t).ranges → Tiled t
      → AreReachedSlices page t → NoneInGroups t → Ends page at → NodeFound page t
  node_found page k parent (tree l ts) at u w b t s g e =
      node_by page k parent l ts at (is_leaf l.kind) refl u w b t s.0 g e
      (λ leaf inside from to h ends. all_found page (suc k) l.kind ts from to u inside h
      (not_reached (is_group l.kind) (IsSlice page) (reached_in_all ts) (no_group l.kind leaf) s.1) (g.1 (no_group l.kind leaf)) ends)

  all_found : (page : List ℕ) (k : ℕ) (parent : Kind) (ts : Trees) (from to : ℕ) → IsUtf8 page → AllWrittenIn k parent ts → TiledFrom ts from to
      → AllByRecursion (IsSlice page) (reached_in_all ts) → AllNoneInGroups ts → Ends page from → AllFound page ts to
  all_found page k parent none from to u w t s g e = (tt, subst (Ends page) t e, IsUtf8-nil)
  all_found page k parent (more t ts) from to u w h s g e =
      let parted = split (IsSlice page) (reached t) (reached_in_all ts) s in
      let first = node_found page k parent t from u w.0 h.0 h.1 parted.0 g.0 e in
      let others = all_found page k parent ts (end_of (label t).ranges) to u w.2 h.2 parted.1 g.1 first.1 in
      ((first.0, others.0), others.1, IsUtf8-append (flat t) (flat_of_all ts) first.2 others.2)

-- ---- the tree of a page

body_found : (page : List ℕ) (t : Tree) → IsUtf8 page → IsWrittenBody t → BeginsAt 0 (label t).ranges → Tiled t → AreReachedSlices page t
    → NoneInGroups t → IsSaidIn (λ p. IsCharBoundary page p) t
body_found page (tree l ts) u w b t s g =
    let body : is_leaf l.kind ≡ false = ap is_leaf w.0 in
    let texts = element_texts l w.1 in
    let inside = inner_found page 0 l l.ranges (flat_of_all ts) (λ from to. TiledFrom ts from to) (IsSaidInAll (λ p. IsCharBoundary page p) ts) u
    (omega arith, IsUtf8-nil) texts b (subst (λ (v : Bool). TiledBy v l.ranges (λ from to. TiledFrom ts from to)) body t)
    (subst (λ (v : Bool). StandsIn page l.ranges (source_by v l ts) (opening_by v l) l.closing) body s.0)
    (λ from to h ends. all_found page 8 kind.Body ts from to u w.2 h
    (not_reached (is_group l.kind) (IsSlice page) (reached_in_all ts) (no_group l.kind body) s.1) (g.1 (no_group l.kind body)) ends) in
    (inside.1.0, inside.0)

begins_covered : (size : ℕ) (t : Tree) → Covers size t → BeginsAt 0 (label t).ranges
begins_covered size t e = subst (BeginsAt 0) (sym e) refl

pub page_places : (pages : Pages) (page : List ℕ) → IsUtf8 page → length page < 2 ^ 30 → first_refusal pages page (page_work pages page) ≡ None
    → IsSaidIn (λ p. IsCharBoundary page p) (page_tree pages page)
page_places pages page u room free =
    let calls = (expanded_page pages page).outer in
    let xs = (expanded_page pages page).items in
    let t : Tree = ungathered calls xs in
    let own = its_page pages page u free in
    let slices = subst (λ bs. AreReachedSlices bs t) own (annotated_slices calls (group_data calls) (meaning xs) (clean_meaning xs)) in
    sections_said (λ p. IsCharBoundary page p) t
    (body_found page t u (body_written pages page u room free) (begins_covered (length (page_of calls (tree_items (meaning xs)))) t (covers_width calls xs))
    (ungathered_tiled calls xs) slices (annotated_held calls (meaning xs)))
