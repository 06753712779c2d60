-- Where the checks refuse nothing, each node of the page that is compared has its node in what is sent, in the page's order.
use Rattle.std.proofs.Common.{◌≡◌, ◌≢◌, ◌⊎◌, ℕ, Bool, true, false, List, [], ◌∷◌, map, refl, sym, ap, ◌∙◌, subst, inl, inr}
use Rattle.std.specs.Prelude.{◌==◌, ◌||◌, not, if◌then◌else◌, Option, Some, None}
use Rattle.std.specs.List.{AllByRecursion, flat_map}
use Rattle.wt_tree.specs.declared.kind.Kind.{Kind}
use Rattle.wt_tree.specs.declared.kind.Kind.TheVariants as kind
use Rattle.wt_tree.specs.declared.kind.Mark.{Mark}
use Rattle.wt_tree.specs.declared.kind.Mark.TheVariants as marks
use Rattle.wt_tree.specs.declared.kind.Showing.TheVariants.{Characters}
use Rattle.wt_tree.specs.declared.node.DataMw.{DataMw}
use Rattle.wt_tree.specs.declared.edit_shape.Editing.{Editing}
use Rattle.wt_tree.specs.declared.edit_shape.Editing.TheVariants.{Never, Content, InlineContent, Children, TopChildren}
use Rattle.wt_tree.specs.Kinds.{showing, writing, is_numbered}
use Rattle.wt_tree.specs.Tiling.{is_group, numbers, numbers_of_all}
use Rattle.wt_tree.specs.Tree.{Label, Tree, tree, Trees, none, more, label}
use Rattle.wt_link_spelling.specs.Spelling.{children_of}
use Rattle.wt_checks.specs.Groups.{is_marked, has_mark, have_mark}
use Rattle.wt_checks.specs.Kept.{GroupAsItWas, HoldsTheSame, NodeAsItWas, GroupKept, NodeKept, MarkKept}
use Rattle.wt_checks.specs.Marks.{editing, allows, is_children}
use Rattle.wt_checks.specs.Places.{Place, placed, all_placed, number, kind_at, is_body, is_content, Page, parent_below}
use Rattle.wt_checks.specs.PutBack.{is_frame, has_frame, have_frame, IsAsRead}
use Rattle.wt_checks.specs.Tokens.{is_text}
use Rattle.wt_checks.specs.Unmarked.{Entry, text as entry_text, child as entry_child, is_compared, entry_by, entry, entries, own_character}
use Rattle.wt_checks.proofs.Found.{Itself, own_by}
use Rattle.wt_checks.proofs.Frames.{bare_root}
use Rattle.wt_checks.proofs.InOrder.{not_zero_kept}
use Rattle.wt_checks.proofs.Lookups.{each_split, NoZero}
use Rattle.wt_checks.proofs.PutBack.{at_some, numbered_kind}
use Rattle.wt_checks.proofs.Repeated.{or_false}
use Rattle.wt_slices.specs.Changes.{pair_with, is_edited, pair_at}
use Rattle.wt_typed_blocks.proofs.SentGroups.{mark_none}
use Rattle.wt_inside_laws.specs.AsSent.{seen, HasNoMore, IsAlike}
use Rattle.wt_inside_laws.proofs.Groups.{group_kind}

-- ---- a node of the page, and what is sent for it

-- its label, but for what it shows
pub record IsLike (l m : Label) : Type 0 where
  pub kind : m.kind ≡ l.kind
  pub id : m.id ≡ l.id
  pub attrs : m.attrs ≡ l.attrs
  pub mw : m.mw ≡ l.mw
  pub numbered : l.id ≢ 0

pub record IsSameText (l m : Label) (us : Trees) : Type 0 where
  pub here : l.kind ≡ kind.Text
  pub there : m.kind ≡ kind.Text
  pub shown : m.shown ≡ l.shown
  pub unmarked : m.mark ≡ marks.Nothing
  pub bare : us ≡ none

-- of what is sent: what isn't compared holds nothing, and no mark is on it
pub record IsHidden (u : Tree) : Type 0 where
  pub unmarked : (label u).mark ≡ marks.Nothing
  pub bare : children_of u ≡ none

abbrev pub AreHidden : Trees → Type 0
AreHidden none = Unit {0}
AreHidden (more u us) = (is_compared (showing (label u).kind) ≡ false → IsHidden u) × AreHidden us

-- a block that was marked `content`
pub record IsMarked (same : Tree → Tree → Bool) (page : Page) (t u : Tree) : Type 0 where
  pub parent : ℕ
  pub within : Bool
  pub there : page (label u).id ≡ Some (record { node = t; parent = parent; in_content = within })
  pub markless : have_mark (children_of u) ≡ false
  pub alike : IsAlike same page (record { old = t; new = u })

-- a group of the page, and what is sent for it: no mark is on it or in it
pub record IsSameGroup (page : Page) (t u : Tree) : Type 0 where
  pub parent : ℕ
  pub within : Bool
  pub there : page (label u).id ≡ Some (record { node = t; parent = parent; in_content = within })
  pub markless : has_mark u ≡ false

-- a text, or a group, or another node
abbrev pub WholeOr : Bool → Type 0 → Type 0 → Type 0
WholeOr true A B = A
WholeOr false A B = B

-- no mark is on it, or `content`
abbrev pub MarkedBy : Mark → Type 0 → Type 0 → Type 0
MarkedBy marks.Nothing A B = A
MarkedBy marks.Content A B = B
MarkedBy marks.Children A B = ⊥
MarkedBy marks.Other A B = ⊥

-- a node of the page that is compared is the next of those that are sent
abbrev pub FirstMatches : Bool → (Tree → Type 0) → (List Tree → Type 0) → List Tree → Type 0
FirstMatches false P Q us = Q us
FirstMatches true P Q [] = ⊥
FirstMatches true P Q (u ∷ us) = P u × Q us

pub record IsOpen (l : Label) (u : Tree) (matched : Type 0) : Type 0 where
  pub shown : showing l.kind ≡ Characters → (label u).shown ≡ l.shown
  pub hidden : AreHidden (children_of u)
  pub inside : matched

abbrev mutual
  pub Matches : (Tree → Tree → Bool) → Page → Tree → Tree → Type 0
  Matches same page (tree l ts) u =
      WholeOr (is_text (writing l.kind)) (IsSameText l (label u) (children_of u))
      (IsLike l (label u) × WholeOr (is_group l.kind) (IsSameGroup page (tree l ts) u)
      (MarkedBy (label u).mark (IsOpen l u (AllMatch same page ts (seen (children_of u)))) (IsMarked same page (tree l ts) u)))

  pub AllMatch : (Tree → Tree → Bool) → Page → Trees → List Tree → Type 0
  AllMatch same page none [] = Unit {0}
  AllMatch same page none (u ∷ us) = ⊥
  AllMatch same page (more t ts) us =
      FirstMatches (is_compared (showing (label t).kind)) (λ u. Matches same page t u) (λ vs. AllMatch same page ts vs) us

-- what follows in both cases
pub by_text : {A B : Type 0} (P : Bool → Type 0) (b : Bool) → WholeOr b A B → (A → P true) → (B → P false) → P b
by_text P true h f g = f h
by_text P false h f g = g h

pub by_group : {A B : Type 0} (P : Bool → Type 0) (b : Bool) → WholeOr b A B → (b ≡ true → A → P true) → (b ≡ false → B → P false) → P b
by_group P true h f g = f refl h
by_group P false h f g = g refl h

pub by_mark : {A B : Type 0} (P : Mark → Type 0) (m : Mark) → MarkedBy m A B → (A → P marks.Nothing) → (B → P marks.Content) → P m
by_mark P marks.Nothing h f g = f h
by_mark P marks.Content h f g = g h
by_mark P marks.Children h f g = absurd h
by_mark P marks.Other h f g = absurd h

-- ---- what is given of a place of what is sent

pub record IsGiven (same : Tree → Tree → Bool) (page : Page) (p : Place) : Type 0 where
  pub group : GroupKept false page p
  pub node : NodeKept page p
  pub mark : MarkKept page p
  pub read : IsAsRead p
  pub no_more : HasNoMore page p
  pub stays : is_children (label p.node).mark ≡ false
  pub alike : AllByRecursion (IsAlike same page) (pair_at page p)

pub all_given : (same : Tree → Tree → Bool) (page : Page) (ps : List Place) → AllByRecursion (GroupKept false page) ps
    → AllByRecursion (NodeKept page) ps → AllByRecursion (MarkKept page) ps → AllByRecursion IsAsRead ps → AllByRecursion (HasNoMore page) ps → AllByRecursion (λ p. is_children (label p.node).mark ≡ false) ps
    → AllByRecursion (λ p. AllByRecursion (IsAlike same page) (pair_at page p)) ps → AllByRecursion (IsGiven same page) ps
all_given same page [] g n m r d s a = tt
all_given same page (p ∷ ps) g n m r d s a = (
  record { group = g.0; node = n.0; mark = m.0; read = r.0; no_more = d.0; stays = s.0; alike = a.0 },
  all_given same page ps g.1 n.1 m.1 r.1 d.1 s.1 a.1,
)

-- what holds of all that some places give
pub each_of_flat : {A B : Type 0} (P : B → Type 0) (f : A → List B) (xs : List A) → AllByRecursion P (flat_map f xs)
    → AllByRecursion (λ x. AllByRecursion P (f x)) xs
each_of_flat P f [] h = tt
each_of_flat P f (x ∷ xs) h = let s = each_split P (f x) (flat_map f xs) h in (s.0, each_of_flat P f xs s.1)

-- ---- marks

pub unmarked_by : (b : Bool) (m : Mark) → is_marked m ≡ b → (is_marked m ≡ true → ⊥) → m ≡ marks.Nothing
unmarked_by true m e f = absurd (f e)
unmarked_by false m e f = mark_none m e

-- of a kind that may have none
never_marked : (page : Page) (p : Place) → editing (kind_at p) ≡ Never → MarkKept page p → (label p.node).mark ≡ marks.Nothing
never_marked page p n h =
    unmarked_by (is_marked (label p.node).mark) (label p.node).mark refl
    (λ e. let a : false ≡ true = sym (ap (λ (w : Editing). allows w (label p.node).mark (page (number p))) n) ∙ (h e).allowed in absurd (cc))

hidden_never : (k : Kind) → is_compared (showing k) ≡ false → editing k ≡ Never
hidden_never kind.Comment e = refl
hidden_never kind.Include e = refl
hidden_never kind.Skip e = refl
hidden_never kind.Sep e = refl
hidden_never kind.Empty e = refl
hidden_never k e = absurd (cc)

-- no other mark may be anywhere
pub no_other : (w : Editing) (o : Option Place) → allows w marks.Other o ≡ true → ⊥
no_other Never o e = absurd (cc)
no_other Content o e = absurd (cc)
no_other InlineContent o e = absurd (cc)
no_other Children o e = absurd (cc)
no_other TopChildren o e = absurd (cc)

-- nor any in marked content
mutual
  markless : (page : Page) (j : ℕ) (u : Tree) → AllByRecursion (MarkKept page) (placed j true u) → has_mark u ≡ false
  markless page j (tree m us) h =
      ap (λ (c : Mark). is_marked c || have_mark us) (unmarked_by (is_marked m.mark) m.mark refl (λ e. let o : true ≡ false = (h.0 e).outside in absurd (cc)))
      ∙ all_markless page (parent_below j m.id) us h.1

  all_markless : (page : Page) (j : ℕ) (us : Trees) → AllByRecursion (MarkKept page) (all_placed j true us) → have_mark us ≡ false
  all_markless page j none h = refl
  all_markless page j (more u us) h =
      let s = each_split (MarkKept page) (placed j true u) (all_placed j true us) h in
      ap (λ (b : Bool). b || have_mark us) (markless page j u s.0) ∙ all_markless page j us s.1

marks_given : (same : Tree → Tree → Bool) (page : Page) (ps : List Place) → AllByRecursion (IsGiven same page) ps → AllByRecursion (MarkKept page) ps
marks_given same page [] h = tt
marks_given same page (p ∷ ps) h = (h.0.mark, marks_given same page ps h.1)

-- ---- those that are compared

seen_by : (P : Tree → Type 0) (b : Bool) (u : Tree) (us : Trees) → P u → AllByRecursion P (seen us) → AllByRecursion P (if b then u ∷ seen us else seen us)
seen_by P true u us h r = (h, r)
seen_by P false u us h r = r

pub seen_given : (same : Tree → Tree → Bool) (page : Page) (j : ℕ) (us : Trees) → AllByRecursion (IsGiven same page) (all_placed j false us)
    → AllByRecursion (λ u. AllByRecursion (IsGiven same page) (placed j false u)) (seen us)
seen_given same page j none h = tt
seen_given same page j (more u us) h =
    let s = each_split (IsGiven same page) (placed j false u) (all_placed j false us) h in
    seen_by (λ v. AllByRecursion (IsGiven same page) (placed j false v)) (is_compared (showing (label u).kind)) u us s.0 (seen_given same page j us s.1)

abbrev pub IsSeen : Tree → Type 0
IsSeen u = is_compared (showing (label u).kind) ≡ true

pub are_seen : (us : Trees) → AllByRecursion IsSeen (seen us)
are_seen none = tt
are_seen (more u us) = by_test (is_compared (showing (label u).kind)) refl (are_seen us)
  where
    by_test : (b : Bool) → is_compared (showing (label u).kind) ≡ b → AllByRecursion IsSeen (seen us)
        → AllByRecursion IsSeen (if b then u ∷ seen us else seen us)
    by_test true e r = (e, r)
    by_test false e r = r

abbrev pub entry_list : List Tree → List Entry
entry_list us = map (λ u. entry (label u)) us

pub entries_seen : (us : Trees) → entries us ≡ entry_list (seen us)
entries_seen none = refl
entries_seen (more u us) = by_test (is_compared (showing (label u).kind)) (entries us) (seen us) (entries_seen us)
  where
    by_test : (b : Bool) (es : List Entry) (vs : List Tree) → es ≡ entry_list vs
        → (if b then entry (label u) ∷ es else es) ≡ entry_list (if b then u ∷ vs else vs)
    by_test true es vs e = ap (λ xs. entry (label u) ∷ xs) e
    by_test false es vs e = e

one_hidden : (same : Tree → Tree → Bool) (page : Page) (j : ℕ) (u : Tree) → AllByRecursion (IsGiven same page) (placed j false u)
    → is_compared (showing (label u).kind) ≡ false → IsHidden u
one_hidden same page j (tree m us) h e = record {
  unmarked = never_marked page (record { node = tree m us; parent = j; in_content = false }) (hidden_never m.kind e) h.0.mark;
  bare = h.0.read.hidden e;
}

pub are_hidden : (same : Tree → Tree → Bool) (page : Page) (j : ℕ) (us : Trees) → AllByRecursion (IsGiven same page) (all_placed j false us) → AreHidden us
are_hidden same page j none h = tt
are_hidden same page j (more u us) h =
    let s = each_split (IsGiven same page) (placed j false u) (all_placed j false us) h in
    ((λ e. one_hidden same page j u s.0 e), are_hidden same page j us s.1)

-- ---- the first that is sent

first_matches : (b : Bool) (t : Tree) (es : List Entry) (P : Tree → Type 0) (Q : List Tree → Type 0) (G : Tree → Type 0) (us : List Tree)
    → is_compared (showing (label t).kind) ≡ b → (if b then entry (label t) ∷ es else es) ≡ entry_list us → AllByRecursion IsSeen us → AllByRecursion G us
    → ((u : Tree) → IsSeen t → IsSeen u → entry (label t) ≡ entry (label u) → G u → P u)
    → ((vs : List Tree) → es ≡ entry_list vs → AllByRecursion IsSeen vs → AllByRecursion G vs → Q vs) → FirstMatches b P Q us
first_matches false t es P Q G us c e s g f h = h us e s g
first_matches true t es P Q G [] c e s g f h = absurd (cc)
first_matches true t es P Q G (u ∷ us) c e s g f h =
    let d : (entry (label t) ≡ entry (label u)) × (es ≡ entry_list us) = (cc, cc) in
    (f u c s.0 d.0 g.0, h us d.1 s.1 g.1)

-- ---- a text

text_kind : (k : Kind) → is_text (writing k) ≡ true → is_compared (showing k) ≡ true → k ≡ kind.Text
text_kind kind.Text e c = refl
text_kind kind.Sep e c = absurd (cc)
text_kind k e c = absurd (cc)

text_entry : (l : Label) → l.kind ≡ kind.Text → entry l ≡ entry_text l.shown
text_entry l e = ap (λ (k : Kind). entry_by (writing k) l) e

node_entry : (k : Kind) (l : Label) → is_text (writing k) ≡ false → entry_by (writing k) l ≡ entry_child l.id
node_entry kind.Text l e = absurd (cc)
node_entry kind.Sep l e = absurd (cc)
node_entry kind.Body l e = refl
node_entry (kind.Section n) l e = refl
node_entry kind.Para l e = refl
node_entry (kind.Heading n) l e = refl
node_entry k l e = refl

text_mark : (page : Page) (p : Place) → kind_at p ≡ kind.Text → MarkKept page p → (label p.node).mark ≡ marks.Nothing
text_mark page p e h = never_marked page p (ap editing e) h

text_matches : (same : Tree → Tree → Bool) (page : Page) (b : Bool) (j : ℕ) (l m : Label) (us : Trees) → is_text (writing m.kind) ≡ b
    → is_text (writing l.kind) ≡ true → is_compared (showing l.kind) ≡ true → is_compared (showing m.kind) ≡ true → entry l ≡ entry m
    → IsGiven same page (record { node = tree m us; parent = j; in_content = false }) → IsSameText l m us
text_matches same page true j l m us w v c d e h =
    let here : l.kind ≡ kind.Text = text_kind l.kind v c in
    let there : m.kind ≡ kind.Text = text_kind m.kind w d in
    let shows : entry_text m.shown ≡ entry_text l.shown = sym (text_entry m there) ∙ sym e ∙ text_entry l here in
    let shown : m.shown ≡ l.shown = cc in
    record {
      here = here;
      there = there;
      shown = shown;
      unmarked = text_mark page (record { node = tree m us; parent = j; in_content = false }) there h.mark;
      bare = h.read.text w;
    }
text_matches same page false j l m us w v c d e h =
    let x : entry_text l.shown ≡ entry_child m.id = sym (text_entry l (text_kind l.kind v c)) ∙ e ∙ node_entry m.kind m w in absurd (cc)

-- ---- another node

-- what is sent for it is no text, and has its number
node_number : (b : Bool) (l m : Label) → is_text (writing m.kind) ≡ b → is_text (writing l.kind) ≡ false → is_compared (showing m.kind) ≡ true
    → entry l ≡ entry m → m.id ≡ l.id
node_number true l m w v d e =
    let x : entry_child l.id ≡ entry_text m.shown = sym (node_entry l.kind l v) ∙ e ∙ text_entry m (text_kind m.kind w d) in absurd (cc)
node_number false l m w v d e =
    let x : entry_child m.id ≡ entry_child l.id = sym (node_entry m.kind m w) ∙ sym e ∙ node_entry l.kind l v in
    let y : m.id ≡ l.id = cc in y

same_data : (c d : Option DataMw) → (c ≡ None) ⊎ (c ≡ d) → (c ≡ None → d ≡ None) → d ≡ c
same_data c d (inl e) f = f e ∙ sym e
same_data c d (inr e) f = sym e

own_shown : (k : Kind) (s z : List ℕ) → is_text (writing k) ≡ false → showing k ≡ Characters → own_character (writing k) s ≡ own_character (writing k) z → z ≡ s
own_shown kind.Entity s z v c e = sym e
own_shown kind.Text s z v c e = absurd (cc)
own_shown k s z v c e = absurd (cc)

-- where no mark is on it, it holds the same
pub held_same : (t u : Tree) → (is_marked (label u).mark ≡ true) ⊎ HoldsTheSame t u → is_marked (label u).mark ≡ false → HoldsTheSame t u
held_same t u (inl e) f = absurd (cc)
held_same t u (inr h) f = h

-- what is known of such a node, with what is sent for it
record IsSame (same : Tree → Tree → Bool) (page : Page) (i j : ℕ) (v : Bool) (l m : Label) (ts us : Trees) : Type 0 where
  like : IsLike l m
  was : NodeAsItWas (tree l ts) (tree m us)
  there : page m.id ≡ Some (record { node = tree l ts; parent = i; in_content = v })
  given : IsGiven same page (record { node = tree m us; parent = j; in_content = false })

kept_old : (n : ℕ) (k : Kind) → n ≢ 0 → (not (n == 0) || is_body k) ≡ true
kept_old n k z = ap (λ (b : Bool). b || is_body k) (not_zero_kept n z)

node_same : (same : Tree → Tree → Bool) (page : Page) (i j : ℕ) (v : Bool) (l m : Label) (ts us : Trees)
    → Itself page (record { node = tree l ts; parent = i; in_content = v }) → l.id ≢ 0 → m.id ≡ l.id → is_group l.kind ≡ false
    → IsGiven same page (record { node = tree m us; parent = j; in_content = false }) → IsSame same page i j v l m ts us
node_same same page i j v l m ts us it z n g h =
    let q : Place = record { node = tree l ts; parent = i; in_content = v } in
    let p : Place = record { node = tree m us; parent = j; in_content = false } in
    let there : page m.id ≡ Some q = ap page n ∙ it (not_zero_kept l.id z) in
    let kept : not (m.id == 0) ≡ true = not_zero_kept m.id (λ e. z (sym n ∙ e)) in
    let was : NodeAsItWas (tree l ts) (tree m us) =
    at_some (λ r. is_group (kind_at r) ≡ false → NodeAsItWas r.node (tree m us)) (page m.id) q there
    (h.node (kept_old m.id m.kind (λ e. z (sym n ∙ e))) refl) g in
    record {
      like = record {
        kind = sym was.kind;
        id = n;
        attrs = sym was.attrs;
        mw = same_data l.mw m.mw was.mw (at_some (λ r. (label r.node).mw ≡ None → m.mw ≡ None) (page m.id) q there (h.no_more kept refl));
        numbered = z;
      };
      was = was;
      there = there;
      given = h;
    }

-- and of a group, with what is sent for it
own_data : (c d : Option DataMw) → (false ≡ true) ⊎ (c ≡ d) → d ≡ c
own_data c d (inl e) = absurd (cc)
own_data c d (inr e) = sym e

group_same : (same : Tree → Tree → Bool) (page : Page) (i j : ℕ) (v : Bool) (l m : Label) (ts us : Trees)
    → Itself page (record { node = tree l ts; parent = i; in_content = v }) → l.id ≢ 0 → m.id ≡ l.id → is_group l.kind ≡ true
    → IsGiven same page (record { node = tree m us; parent = j; in_content = false }) → IsLike l m × IsSameGroup page (tree l ts) (tree m us)
group_same same page i j v l m ts us it z n g h =
    let q : Place = record { node = tree l ts; parent = i; in_content = v } in
    let there : page m.id ≡ Some q = ap page n ∙ it (not_zero_kept l.id z) in
    let was : GroupAsItWas false (tree l ts) (tree m us) =
    at_some (λ r. is_group (kind_at r) ≡ true → GroupAsItWas false r.node (tree m us)) (page m.id) q there
    (h.group (not_zero_kept m.id (λ e. z (sym n ∙ e)))) g in (
      record {
        kind = group_kind m.kind was.group ∙ sym (group_kind l.kind g);
        id = n;
        attrs = sym was.attrs;
        mw = own_data l.mw m.mw was.mw;
        numbered = z;
      },
      record { parent = i; within = v; there = there; markless = was.unmarked },
    )

-- its pair, where it is marked
pair_there : (same : Tree → Tree → Bool) (page : Page) (t u : Tree) (q p : Place) → (label u).mark ≡ marks.Content → page (label u).id ≡ Some q → q.node ≡ t
    → AllByRecursion (IsAlike same page) (if is_edited (label u).mark then pair_with (page (label u).id) u else [])
    → IsAlike same page (record { old = t; new = u })
pair_there same page t u q p e there n h =
    let a : AllByRecursion (IsAlike same page) (pair_with (page (label u).id) u) =
    subst (λ (c : Mark). AllByRecursion (IsAlike same page) (if is_edited c then pair_with (page (label u).id) u else [])) e h in
    let b : AllByRecursion (IsAlike same page) (pair_with (Some q) u) = subst (λ (o : Option Place). AllByRecursion (IsAlike same page) (pair_with o u)) there a in
    subst (λ (v : Tree). IsAlike same page (record { old = v; new = u })) n b.0

-- by its mark
marked_by : (same : Tree → Tree → Bool) (page : Page) (i j : ℕ) (v : Bool) (l m : Label) (ts us : Trees) (c : Mark) (A : Type 0) → m.mark ≡ c
    → IsSame same page i j v l m ts us → is_text (writing l.kind) ≡ false → have_frame ts ≡ false
    → AllByRecursion (IsGiven same page) (all_placed (parent_below j m.id) (is_content m.mark) us) → (entries ts ≡ entries us
    → AllByRecursion (IsGiven same page) (all_placed (parent_below j m.id) false us) → A)
    → MarkedBy c (IsOpen l (tree m us) A) (IsMarked same page (tree l ts) (tree m us))
marked_by same page i j v l m ts us marks.Nothing A e h w f g rest =
    let g' : AllByRecursion (IsGiven same page) (all_placed (parent_below j m.id) false us) =
    subst (λ (c : Mark). AllByRecursion (IsGiven same page) (all_placed (parent_below j m.id) (is_content c) us)) e g in
    let held : HoldsTheSame (tree l ts) (tree m us) = held_same (tree l ts) (tree m us) h.was.holds (ap is_marked e) in
    record {
      shown = λ c. own_shown l.kind l.shown m.shown w c (held.character ∙ ap (λ (k : Kind). own_character (writing k) m.shown) h.like.kind);
      hidden = are_hidden same page (parent_below j m.id) us g';
      inside = rest (sym (ap entries (bare_root (tree l ts) f)) ∙ held.held) g';
    }
marked_by same page i j v l m ts us marks.Content A e h w f g rest = record {
  parent = i;
  within = v;
  there = h.there;
  markless =
      all_markless page (parent_below j m.id) us
      (marks_given same page (all_placed (parent_below j m.id) true us)
      (subst (λ (c : Mark). AllByRecursion (IsGiven same page) (all_placed (parent_below j m.id) (is_content c) us)) e g));
  alike =
      pair_there same page (tree l ts) (tree m us) (record { node = tree l ts; parent = i; in_content = v })
      (record { node = tree m us; parent = j; in_content = false }) e h.there refl h.given.alike;
}
marked_by same page i j v l m ts us marks.Children A e h w f g rest =
    let x : true ≡ false = sym (ap is_children e) ∙ h.given.stays in absurd (cc)
marked_by same page i j v l m ts us marks.Other A e h w f g rest =
    absurd (no_other (editing m.kind) (page m.id)
    (sym (ap (λ (c : Mark). allows (editing m.kind) c (page m.id)) e) ∙ (h.given.mark (ap is_marked e)).allowed))

both_or : {L A B : Type 0} (b : Bool) → (b ≡ true → L × A) → (b ≡ false → L × B) → L × WholeOr b A B
both_or true f g = f refl
both_or false f g = g refl

node_matches : (same : Tree → Tree → Bool) (page : Page) (i j : ℕ) (v : Bool) (l m : Label) (ts us : Trees) (A : Type 0) → is_text (writing l.kind) ≡ false
    → is_compared (showing m.kind) ≡ true → entry l ≡ entry m → Itself page (record { node = tree l ts; parent = i; in_content = v })
    → has_frame (tree l ts) ≡ false → (is_numbered l.kind ≡ true → l.id ≢ 0)
    → AllByRecursion (IsGiven same page) (placed j false (tree m us))
    → (is_group l.kind ≡ false → entries ts ≡ entries us → AllByRecursion (IsGiven same page) (all_placed (parent_below j m.id) false us) → A)
    → IsLike l m × WholeOr (is_group l.kind) (IsSameGroup page (tree l ts) (tree m us))
    (MarkedBy m.mark (IsOpen l (tree m us) A) (IsMarked same page (tree l ts) (tree m us)))
node_matches same page i j v l m ts us A w c e it f z h rest =
    let d = or_false (is_frame l.kind) (have_frame ts) f in
    let number : m.id ≡ l.id = node_number (is_text (writing m.kind)) l m refl w c e in
    let some : l.id ≢ 0 = z (numbered_kind l.kind d.0 w) in
    both_or (is_group l.kind) (λ g. group_same same page i j v l m ts us it some number g h.0)
    (λ g. let is = node_same same page i j v l m ts us it some number g h.0 in
    (is.like, marked_by same page i j v l m ts us m.mark A refl is w d.1 h.1 (rest g)))

whole_or : {A B : Type 0} (b : Bool) → (b ≡ true → A) → (b ≡ false → B) → WholeOr b A B
whole_or true f g = f refl
whole_or false f g = g refl

-- ---- all nodes

pub group_open : (b : Bool) (ns : List ℕ) → b ≡ false → NoZero (if b then [] else ns) → NoZero ns
group_open true ns e h = absurd (cc)
group_open false ns e h = h

mutual
  one_matches : (same : Tree → Tree → Bool) (page : Page) (i j : ℕ) (v : Bool) (t u : Tree) → AllByRecursion (Itself page) (placed i v t)
      → has_frame t ≡ false → NoZero (numbers t) → IsSeen t → IsSeen u → entry (label t) ≡ entry (label u)
      → AllByRecursion (IsGiven same page) (placed j false u) → Matches same page t u
  one_matches same page i j v (tree l ts) (tree m us) it f z c d e h =
      let own = each_split (λ n. n ≢ 0) (if is_numbered l.kind then l.id ∷ [] else []) (if is_group l.kind then [] else numbers_of_all ts) z in
      whole_or (is_text (writing l.kind)) (λ w. text_matches same page (is_text (writing m.kind)) j l m us refl w c d e h.0)
      (λ w. node_matches same page i j v l m ts us (AllMatch same page ts (seen us)) w d e it.0 f
      (own_by (is_numbered l.kind) l.id (if is_group l.kind then [] else numbers_of_all ts) z) h
      (λ g same_held given. all_match same page (parent_below i l.id) (parent_below j m.id) (v || is_content l.mark) ts (seen us) it.1
      (or_false (is_frame l.kind) (have_frame ts) f).1 (group_open (is_group l.kind) (numbers_of_all ts) g own.1)
      (same_held ∙ entries_seen us) (are_seen us) (seen_given same page (parent_below j m.id) us given)))

  pub all_match : (same : Tree → Tree → Bool) (page : Page) (i j : ℕ) (v : Bool) (ts : Trees) (us : List Tree)
      → AllByRecursion (Itself page) (all_placed i v ts) → have_frame ts ≡ false → NoZero (numbers_of_all ts)
      → entries ts ≡ entry_list us → AllByRecursion IsSeen us → AllByRecursion (λ u. AllByRecursion (IsGiven same page) (placed j false u)) us
      → AllMatch same page ts us
  all_match same page i j v none [] it f z e s h = tt
  all_match same page i j v none (u ∷ us) it f z e s h = absurd (cc)
  all_match same page i j v (more t ts) us it f z e s h =
      let a = each_split (Itself page) (placed i v t) (all_placed i v ts) it in
      let d = or_false (has_frame t) (have_frame ts) f in
      let n = each_split (λ n. n ≢ 0) (numbers t) (numbers_of_all ts) z in
      first_matches (is_compared (showing (label t).kind)) t (entries ts) (λ u. Matches same page t u) (λ vs. AllMatch same page ts vs)
      (λ u. AllByRecursion (IsGiven same page) (placed j false u)) us refl e s h
      (λ u x y k given. one_matches same page i j v t u a.0 d.0 n.0 x y k given)
      (λ vs k r given. all_match same page i j v ts vs a.1 d.1 n.1 k r given)
