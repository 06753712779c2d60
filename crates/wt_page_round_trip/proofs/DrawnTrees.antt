-- Trees with groups, by what is written of them: first but for numbers, places and the labels of groups, then but for the cut of
-- texts alone.
use Rattle.std.proofs.Common.{◌≡◌, ℕ, suc, ◌+◌, ◌<◌, ◌≤◌, ◌^◌, Bool, true, false, Option, Some, None, List, [], ◌∷◌, ◌++◌, length, take, refl, sym, ap, ap₂, ◌∙◌, subst, cond, arith, length-take, length-drop, length-append}
use Rattle.std.specs.Prelude.{◌&&◌, ◌||◌, not, if◌then◌else◌}
use Rattle.std.specs.List.{AllByRecursion}
use Rattle.wt_tree.specs.declared.kind.Kind.{Kind}
use Rattle.wt_tree.specs.declared.kind.Kind.TheVariants as kind
use Rattle.wt_tree.specs.declared.kind.Ranges.{Ranges}
use Rattle.wt_tree.specs.declared.row.Texts.{Texts}
use Rattle.wt_tree.specs.declared.row.Texts.TheVariants.{Separators, Page, Bordered, OwnCharacter}
use Rattle.wt_tree.specs.declared.row.Writing.{Writing}
use Rattle.wt_tree.specs.declared.row.Writing.TheVariants.{AsText, AsVoid, RoundCharacter, RoundChildren, AsSection, Unwritten}
use Rattle.wt_recut.specs.Cutting.{begins_with_text}
use Rattle.wt_tree.specs.Kinds.{writing, is_leaf, is_numbered, texts_of_kind, is_block, may_follow}
use Rattle.wt_recut.specs.Recut.{is_as_text, is_text, shows_block, any_shows_block}
use Rattle.wt_tree.specs.Source.{flat, flat_of_all}
use Rattle.wt_tree.specs.Tiling.{is_group}
use Rattle.wt_tree.specs.Tree.{Label, Tree, tree, Trees, none, more}
use Rattle.wt_schema.specs.GroupNodes.{elements_for, group_nodes, all_follow}
use Rattle.wt_schema.specs.Written.{IsTextIn, HasPlaces, IsNumber, HasSource, IsElementLabel, IsWrittenGroup, TopsIn, NodeIsWritten, is_childless, joins, goes_behind, are_ordered}
use Rattle.wt_annotated.specs.Labels.{leaf_open}
use Rattle.wt_annotated.specs.Numbering.{number_of, next_after, count, count_all, with_id, with_numbers, all_with_numbers}
use Rattle.wt_annotated.specs.Reached.{AreReachedSlices, reached, reached_in_all}
use Rattle.wt_annotated.specs.Slices.{slice, opening_by, opening_of, StandsIn, IsSlice}
use Rattle.wt_page_round_trip.proofs.LabelledGroups.{IfGroup, OfGroups, OfAllGroups, EndsBelow, IsAlmost}
use Rattle.wt_page_round_trip.proofs.ShownNodes.{IsShownLabel, IsShownElement}

-- ---- but for numbers and places

abbrev pub NodeIsDrawn : Writing → ℕ → Kind → Label → Bool → Type 0 → Type 0
NodeIsDrawn AsText k parent l childless inside = IsTextIn parent l × (childless ≡ true)
NodeIsDrawn AsVoid k parent l childless inside = IsShownElement k parent l childless inside
NodeIsDrawn RoundCharacter k parent l childless inside = IsShownElement k parent l childless inside
NodeIsDrawn RoundChildren k parent l childless inside = IsShownElement k parent l childless inside
NodeIsDrawn (AsSection n) k parent l childless inside = ⊥
NodeIsDrawn Unwritten k parent l childless inside = ⊥

-- the children of an item, a cell or a caption stand in their order
abbrev pub IsInOrder : Texts → Trees → Type 0
IsInOrder Separators ts = Unit {0}
IsInOrder Page ts = Unit {0}
IsInOrder Bordered ts = are_ordered false ts ≡ true
IsInOrder OwnCharacter ts = Unit {0}

-- a group over these nodes
pub record IsDrawnGroup (k : ℕ) (parent : Kind) (ts : Trees) : Type 0 where
  pub elements : TopsIn k parent (elements_for ts)
  pub blocks : any_shows_block (group_nodes ts) ≡ any_shows_block ts

abbrev mutual
  pub IsDrawnIn : ℕ → Kind → Tree → Type 0
  IsDrawnIn k q (tree l ts) = IfGroup (is_group l.kind) (IsDrawnGroup k q ts)
      (NodeIsDrawn (writing l.kind) k q l (is_childless ts) (IsInOrder (texts_of_kind l.kind) ts × AreDrawnIn (suc k) l.kind ts))

  pub AreDrawnIn : ℕ → Kind → Trees → Type 0
  AreDrawnIn k q none = Unit {0}
  AreDrawnIn k q (more t ts) = IsDrawnIn k q t × (joins (texts_of_kind q) (is_text t && begins_with_text ts) ≡ false) × AreDrawnIn k q ts

-- ---- but for the cut of texts

abbrev mutual
  pub IsUncutIn : ℕ → Kind → Tree → Type 0
  IsUncutIn k q (tree l ts) = NodeIsWritten (writing l.kind) k q l (is_childless ts)
      (IsInOrder (texts_of_kind l.kind) ts × AreUncutIn (suc k) l.kind ts) (IsWrittenGroup k q l ts)

  pub AreUncutIn : ℕ → Kind → Trees → Type 0
  AreUncutIn k q none = Unit {0}
  AreUncutIn k q (more t ts) = IsUncutIn k q t × (joins (texts_of_kind q) (is_text t && begins_with_text ts) ≡ false) × AreUncutIn k q ts

-- ---- kinds

pub group_writing : (k : Kind) → is_group k ≡ true → writing k ≡ Unwritten
group_writing kind.Group e = refl
group_writing k e = absurd cc

group_numbered : (k : Kind) → is_group k ≡ true → is_numbered k ≡ true
group_numbered kind.Group e = refl
group_numbered k e = absurd cc

pub text_unnumbered : (k : Kind) → is_as_text (writing k) ≡ true → is_numbered k ≡ false
text_unnumbered kind.Sep e = refl
text_unnumbered kind.Text e = refl
text_unnumbered k e = absurd cc

no_number : (v : Bool) (n : ℕ) → v ≡ false → IsNumber v n → n ≡ 0
no_number true n e h = absurd cc
no_number false n e h = h

-- ---- what neighbours see of a node doesn't hang on numbers

childless_numbered : (n : ℕ) (ts : Trees) → is_childless (all_with_numbers n ts) ≡ is_childless ts
childless_numbered n none = refl
childless_numbered n (more t ts) = refl

text_numbered : (n : ℕ) (t : Tree) → is_text (with_numbers n t) ≡ is_text t
text_numbered n (tree l us) = refl

begins_numbered : (n : ℕ) (ts : Trees) → begins_with_text (all_with_numbers n ts) ≡ begins_with_text ts
begins_numbered n none = refl
begins_numbered n (more t ts) = text_numbered n t

pub shows_by : (g b : Bool) (us vs : Trees) → cond g (any_shows_block (cond g us vs)) b ≡ cond g (any_shows_block us) b
shows_by true b us vs = refl
shows_by false b us vs = refl

pub goes_by : (g b v : Bool) (us vs : Trees) → cond g (all_follow b (elements_for (cond g us vs))) v ≡ cond g (all_follow b (elements_for us)) v
goes_by true b v us vs = refl
goes_by false b v us vs = refl

shows_numbered : (n : ℕ) (t : Tree) → shows_block (with_numbers n t) ≡ shows_block t
shows_numbered n (tree l us) = shows_by (is_group l.kind) (is_block l.kind) us (all_with_numbers (next_after l.kind n) us)

goes_numbered : (b : Bool) (n : ℕ) (t : Tree) → goes_behind b (with_numbers n t) ≡ goes_behind b t
goes_numbered b n (tree l us) = goes_by (is_group l.kind) b (may_follow b l.kind) us (all_with_numbers (next_after l.kind n) us)

ordered_numbered : (b : Bool) (n : ℕ) (ts : Trees) → are_ordered b (all_with_numbers n ts) ≡ are_ordered b ts
ordered_numbered b n none = refl
ordered_numbered b n (more t ts) =
    ap₂ (λ x y. x && are_ordered (b || y) (all_with_numbers (n + count t) ts)) (goes_numbered b n t) (shows_numbered n t)
    ∙ ap (λ x. goes_behind b t && x) (ordered_numbered (b || shows_block t) (n + count t) ts)

order_numbered : (x : Texts) (n : ℕ) (ts : Trees) → IsInOrder x ts → IsInOrder x (all_with_numbers n ts)
order_numbered Separators n ts h = tt
order_numbered Page n ts h = tt
order_numbered Bordered n ts h = ordered_numbered false n ts ∙ h
order_numbered OwnCharacter n ts h = tt

-- ---- labels

source_numbered : (v : Bool) (n : ℕ) (l : Label) → HasSource v l → HasSource v (with_id n l)
source_numbered true n l h = record { own = h.own; opening = h.opening; closing = h.closing }
source_numbered false n l h = record { own = h.own; opening = h.opening; closing = h.closing }

pub element_numbered : (n : ℕ) (l : Label) → IsShownLabel l → IsNumber (is_numbered l.kind) n → HasPlaces l.ranges → IsElementLabel (with_id n l)
element_numbered n l h number places = record {
  element = h.element;
  level = h.level;
  number = number;
  places = places;
  source = source_numbered (is_leaf l.kind) n l h.source;
  shown = h.shown;
  attrs = h.attrs;
  origin = h.origin;
  mark = h.mark;
  mw = h.mw;
}

text_same : (parent : Kind) (n : ℕ) (l : Label) → n ≡ 0 → IsTextIn parent l → IsTextIn parent (with_id n l)
text_same parent n l zero h = record {
  kind = h.kind;
  characters = h.characters;
  some = h.some;
  stands = h.stands;
  shown = h.shown;
  id = zero;
  opening = h.opening;
  closing = h.closing;
  attrs = h.attrs;
  origin = h.origin;
  mark = h.mark;
  mw = h.mw;
}

-- ---- places

short_slice : (page : List ℕ) (a b : ℕ) → length (slice page a b) ≤ length page
short_slice page a b = omega (arith, length-drop a (take b page), length-take b page)

-- the delimiters of a node are no longer than all of it, and a leaf has no closing one
open_within : (v : Bool) (l : Label) (inside : List ℕ) → length (opening_by v l) ≤ length (cond v l.own (l.opening ++ inside ++ l.closing))
open_within true l inside = omega (arith, length-take (leaf_open l.kind (length l.own)) l.own)
open_within false l inside = omega (arith, length-append (l.opening ++ inside) l.closing, length-append l.opening inside)

close_within : (v : Bool) (l : Label) (inside : List ℕ) → HasSource v l → length l.closing ≤ length (cond v l.own (l.opening ++ inside ++ l.closing))
close_within true l inside h = omega (arith, ap length h.closing)
close_within false l inside h = omega (arith, length-append (l.opening ++ inside) l.closing)

places_by : (page : List ℕ) (r : Option Ranges) (source opening closing : List ℕ) → length page < 2 ^ 32 → length opening ≤ length source
    → length closing ≤ length source → StandsIn page r source opening closing → HasPlaces r
places_by page None source opening closing room o c h = h
places_by page (Some r) source opening closing room o c h =
    let s : length source ≤ length page = omega (arith, ap length h.stands, short_slice page r.start r.end) in (
      omega (arith, room, h.ordered, h.within),
      omega (arith, room, h.within),
      omega (arith, room, s, o, h.open_width),
      omega (arith, room, s, c, h.close_width),
    )

places_in : (page : List ℕ) (l : Label) (ts : Trees) → length page < 2 ^ 32 → HasSource (is_leaf l.kind) l → IsSlice page (tree l ts) → HasPlaces l.ranges
places_in page l ts room h s =
    places_by page l.ranges (flat (tree l ts)) (opening_of l) l.closing room (open_within (is_leaf l.kind) l (flat_of_all ts))
    (close_within (is_leaf l.kind) l (flat_of_all ts) h) s

ends_by : (page : List ℕ) (r : Option Ranges) (source opening closing : List ℕ) → length page < 2 ^ 32 → StandsIn page r source opening closing
    → EndsBelow r
ends_by page None source opening closing room h = h
ends_by page (Some r) source opening closing room h = omega (arith, room, h.within)

-- ---- a node with its number

kept_numbered : (w : Writing) (k n : ℕ) (q : Kind) (l : Label) (c d : Bool) (old new group : Type 0) → writing l.kind ≡ w
    → IsNumber (is_numbered l.kind) n → (HasSource (is_leaf l.kind) l → HasPlaces l.ranges) → d ≡ c → (old → new)
    → NodeIsDrawn w k q l c old → NodeIsWritten w k q (with_id n l) d new group
kept_numbered AsText k n q l c d old new group e number places same f h =
    (text_same q n l (no_number (is_numbered l.kind) n (text_unnumbered l.kind (ap is_as_text e)) number) h.0, same ∙ h.1)
kept_numbered AsVoid k n q l c d old new group e number places same f h =
    (h.0, h.1, element_numbered n l h.2 number (places h.2.source), ap (λ x. not (is_leaf l.kind) || x) same ∙ h.3, f h.4)
kept_numbered RoundCharacter k n q l c d old new group e number places same f h =
    (h.0, h.1, element_numbered n l h.2 number (places h.2.source), ap (λ x. not (is_leaf l.kind) || x) same ∙ h.3, f h.4)
kept_numbered RoundChildren k n q l c d old new group e number places same f h =
    (h.0, h.1, element_numbered n l h.2 number (places h.2.source), ap (λ x. not (is_leaf l.kind) || x) same ∙ h.3, f h.4)
kept_numbered (AsSection m) k n q l c d old new group e number places same f h = absurd h
kept_numbered Unwritten k n q l c d old new group e number places same f h = absurd h

group_numbered_in : (k n : ℕ) (q : Kind) (l : Label) (ts : Trees) (c : Bool) (inside : Type 0)
    → is_group l.kind ≡ true
    → IsNumber (is_numbered l.kind) n → EndsBelow l.ranges → IsAlmost l → IsDrawnGroup k q ts
    → NodeIsWritten (writing l.kind) k q (with_id n l) c inside (IsWrittenGroup k q (with_id n l) ts)
group_numbered_in k n q l ts c inside e number ends almost d =
    let g : IsWrittenGroup k q (with_id n l) ts = record {
      label = almost n (subst (λ (v : Bool). IsNumber v n) (group_numbered l.kind e) number) ends;
      elements = d.elements;
      blocks = d.blocks;
    } in
    subst (λ (w : Writing). NodeIsWritten w k q (with_id n l) c inside (IsWrittenGroup k q (with_id n l) ts)) (sym (group_writing l.kind e)) g

node_numbered : (g : Bool) (k n : ℕ) (q : Kind) (l : Label) (ts us : Trees) → is_group l.kind ≡ g
    → IsNumber (is_numbered l.kind) n → (HasSource (is_leaf l.kind) l → HasPlaces l.ranges) → EndsBelow l.ranges → is_childless us ≡ is_childless ts
    → IfGroup g (IsAlmost l) (OfAllGroups IsAlmost ts)
    → (g ≡ false → OfAllGroups IsAlmost ts → IsInOrder (texts_of_kind l.kind) ts × AreDrawnIn (suc k) l.kind ts
    → IsInOrder (texts_of_kind l.kind) us × AreUncutIn (suc k) l.kind us)
    → IfGroup g (IsDrawnGroup k q ts)
    (NodeIsDrawn (writing l.kind) k q l (is_childless ts) (IsInOrder (texts_of_kind l.kind) ts × AreDrawnIn (suc k) l.kind ts))
    → NodeIsWritten (writing l.kind) k q (with_id n l) (is_childless (cond g ts us))
    (IsInOrder (texts_of_kind l.kind) (cond g ts us) × AreUncutIn (suc k) l.kind (cond g ts us)) (IsWrittenGroup k q (with_id n l) (cond g ts us))
node_numbered true k n q l ts us e number places ends same a f h =
    group_numbered_in k n q l ts (is_childless ts) (IsInOrder (texts_of_kind l.kind) ts × AreUncutIn (suc k) l.kind ts) e number ends a h
node_numbered false k n q l ts us e number places ends same a f h =
    kept_numbered (writing l.kind) k n q l (is_childless ts) (is_childless us) (IsInOrder (texts_of_kind l.kind) ts × AreDrawnIn (suc k) l.kind ts)
    (IsInOrder (texts_of_kind l.kind) us × AreUncutIn (suc k) l.kind us) (IsWrittenGroup k q (with_id n l) us) refl number places same (f refl a) h

-- ---- numbers and places of all nodes

number_good : (v : Bool) (m c : ℕ) → 0 < m → m + ((if v then 1 else 0) + c) ≤ 2 ^ 32 → IsNumber v (if v then m else 0)
number_good true m c some few = (some, omega (arith, few))
number_good false m c some few = refl

next_good : (v : Bool) (m : ℕ) → 0 < m → 0 < (if v then m + 1 else m)
next_good true m some = omega arith
next_good false m some = some

next_few : (g v : Bool) (m c : ℕ) → g ≡ false → m + ((if v then 1 else 0) + (if g then 0 else c)) ≤ 2 ^ 32 → (if v then m + 1 else m) + c ≤ 2 ^ 32
next_few true v m c e few = absurd cc
next_few false true m c e few = omega (arith, few)
next_few false false m c e few = omega (arith, few)

all_left : (P : Tree → Type 0) (us vs : List Tree) → AllByRecursion P (us ++ vs) → AllByRecursion P us × AllByRecursion P vs
all_left P [] vs h = (tt, h)
all_left P (u ∷ us) vs h = let r = all_left P us vs h.1 in ((h.0, r.0), r.1)

inside_reached : (P : Tree → Type 0) (g : Bool) (ts : Trees) → g ≡ false → AllByRecursion P (cond g [] (reached_in_all ts))
    → AllByRecursion P (reached_in_all ts)
inside_reached P true ts e h = absurd cc
inside_reached P false ts e h = h

mutual
  pub numbered_uncut : (page : List ℕ) (k n : ℕ) (q : Kind) (t : Tree) → length page < 2 ^ 32 → 0 < n → n + count t ≤ 2 ^ 32 → OfGroups IsAlmost t
      → AreReachedSlices page t → IsDrawnIn k q t → IsUncutIn k q (with_numbers n t)
  numbered_uncut page k n q (tree l ts) room some few almost s h =
      node_numbered (is_group l.kind) k (number_of l.kind n) q l ts (all_with_numbers (next_after l.kind n) ts) refl
      (number_good (is_numbered l.kind) n (if is_group l.kind then 0 else count_all ts) some few)
      (λ i. places_in page l ts room i s.0) (ends_by page l.ranges _ _ _ room s.0) (childless_numbered (next_after l.kind n) ts) almost
      (λ e a i. (
        order_numbered (texts_of_kind l.kind) (next_after l.kind n) ts i.0,
        all_numbered_uncut page (suc k) (next_after l.kind n) l.kind ts room (next_good (is_numbered l.kind) n some)
            (next_few (is_group l.kind) (is_numbered l.kind) n (count_all ts) e few) a
            (inside_reached (IsSlice page) (is_group l.kind) ts e s.1) i.1,
      )) h

  pub all_numbered_uncut : (page : List ℕ) (k n : ℕ) (q : Kind) (ts : Trees) → length page < 2 ^ 32 → 0 < n → n + count_all ts ≤ 2 ^ 32
      → OfAllGroups IsAlmost ts → AllByRecursion (IsSlice page) (reached_in_all ts) → AreDrawnIn k q ts → AreUncutIn k q (all_with_numbers n ts)
  all_numbered_uncut page k n q none room some few almost s h = tt
  all_numbered_uncut page k n q (more t ts) room some few almost s h =
      let r = all_left (IsSlice page) (reached t) (reached_in_all ts) s in (
        numbered_uncut page k n q t room some (omega (arith, few)) almost.0 r.0 h.0,
        ap₂ (λ x y. joins (texts_of_kind q) (x && y)) (text_numbered n t) (begins_numbered (n + count t) ts) ∙ h.1,
        all_numbered_uncut page k (n + count t) q ts room (omega (arith, some)) (omega (arith, few)) almost.1 r.1 h.2,
      )
