-- Where nothing is refused, the edited tree with what may differ put back is the page's.
use Rattle.std.proofs.Common.{◌≡◌, ◌≢◌, ℕ, Bool, true, false, List, [], ◌∷◌, map, refl, sym, ap, ◌∙◌, subst, arith, inl, inr, ◌⊎◌}
use Rattle.std.specs.Prelude.{◌==◌, ◌&&◌, ◌||◌, not, if◌then◌else◌, filter, MatchOption, Option, Some, None}
use Rattle.std.specs.List.{AllByRecursion}
use Rattle.std.proofs.lemmas.Bool.Decides.{nat_tests}
use Rattle.wt_tree.specs.declared.kind.Kind.{Kind}
use Rattle.wt_tree.specs.declared.kind.Kind.TheVariants as kind
use Rattle.wt_tree.specs.declared.kind.Mark.{Mark}
use Rattle.wt_tree.specs.declared.kind.Mark.TheVariants as marks
use Rattle.wt_tree.specs.declared.node.DataMw.{DataMw}
use Rattle.wt_tree.specs.declared.row.Writing.{Writing}
use Rattle.wt_tree.specs.declared.row.Writing.TheVariants.{AsText, AsVoid, RoundCharacter, RoundChildren, AsSection, Unwritten}
use Rattle.wt_tree.specs.Kinds.{showing, writing, is_numbered}
use Rattle.wt_tree.specs.Opened.{opened}
use Rattle.wt_tree.specs.Tiling.{is_group}
use Rattle.wt_tree.specs.Tree.{Label, Tree, tree, Trees, none, more, label, listed}
use Rattle.wt_tree.specs.declared.edit_shape.Editing.{Editing}
use Rattle.wt_tree.specs.declared.edit_shape.Editing.TheVariants.{Never, Content, InlineContent, Children, TopChildren}
use Rattle.wt_checks.specs.Gist.{features, Gist, text, node, Gists, ended, along, gist_by, gist, gists}
use Rattle.wt_checks.specs.Groups.{is_marked}
use Rattle.wt_checks.specs.Kept.{children, is_of_page, GroupAsItWas, HoldsTheSame, NodeAsItWas, GroupKept, NodeKept, MarkKept}
use Rattle.wt_checks.specs.Marks.{editing, allows, is_children}
use Rattle.wt_checks.specs.Places.{Place, placed, all_placed, number, kind_at, is_kept, is_body, is_content, Page, parent_below}
use Rattle.wt_checks.specs.PutBack.{is_frame, original, inside, page_data, data_back, label_back, numbered_or, as_they_stand, inside_back, put_back, all_put_back}
use Rattle.wt_checks.specs.Tokens.{is_text}
use Rattle.wt_checks.specs.Unmarked.{Entry, is_compared, entry, entries, own_character}
use Rattle.wt_checks.specs.Unmarked as unmarked
use Rattle.wt_checks.proofs.AsItWas.{both}
use Rattle.wt_checks.proofs.Found.{Found, IsKnown, PageNode}
use Rattle.wt_checks.proofs.Frames.{IsBare}
use Rattle.wt_checks.proofs.InOrder.{not_zero_kept}
use Rattle.wt_checks.proofs.Lookups.{each_split}

-- ---- what is known of a place of the edited tree

pub record Stays (values : Bool) (page : Page) (p : Place) : Type 0 where
  pub group : GroupKept values page p
  pub node : NodeKept page p
  pub mark : MarkKept page p

pub all_stay : (values : Bool) (page : Page) (ps : List Place) → AllByRecursion (GroupKept values page) ps → AllByRecursion (NodeKept page) ps
    → AllByRecursion (MarkKept page) ps → AllByRecursion (Stays values page) ps
all_stay values page [] g n m = tt
all_stay values page (p ∷ ps) g n m = (record { group = g.0; node = n.0; mark = m.0 }, all_stay values page ps g.1 n.1 m.1)

-- ---- marks

allowed_marks : (e : Editing) (m : Mark) (o : Option Place) → allows e m o ≡ true → (is_content m ≡ true) ⊎ (is_children m ≡ true)
allowed_marks Never m o h = absurd (cc)
allowed_marks Content m o h = inl h
allowed_marks InlineContent m o h = inl (both (is_content m) _ h).0
allowed_marks Children m o h = inr h
allowed_marks TopChildren m o h = inr (both (is_children m) _ h).0

children_outside : (m : Mark) → is_children m ≡ true → is_content m ≡ false
children_outside marks.Nothing e = refl
children_outside marks.Content e = absurd (cc)
children_outside marks.Children e = refl
children_outside marks.Other e = refl

unmarked_outside : (m : Mark) → is_marked m ≡ false → is_content m ≡ false
unmarked_outside marks.Nothing e = refl
unmarked_outside marks.Content e = absurd (cc)
unmarked_outside marks.Children e = refl
unmarked_outside marks.Other e = refl

pub content_marked : (m : Mark) → is_content m ≡ true → is_marked m ≡ true
content_marked marks.Nothing e = e
content_marked marks.Content e = refl
content_marked marks.Children e = refl
content_marked marks.Other e = refl

-- what may be marked has no text of its own
marked_element : (k : Kind) (m : Mark) (o : Option Place) → allows (editing k) m o ≡ true → writing k ≡ RoundChildren
marked_element kind.Body m o h = refl
marked_element kind.Para m o h = refl
marked_element (kind.Heading n) m o h = refl
marked_element kind.Ul m o h = refl
marked_element kind.Ol m o h = refl
marked_element kind.Li m o h = refl
marked_element kind.Dt m o h = refl
marked_element kind.Dd m o h = refl
marked_element kind.Caption m o h = refl
marked_element kind.Td m o h = refl
marked_element kind.Th m o h = refl
marked_element k m o h = absurd (cc)

-- ---- a node and the page's

-- what makes the gists of the two one
record Same (values : Bool) (o : Option Place) (t u : Tree) : Type 0 where
  kind : (label u).kind ≡ (label t).kind
  attrs : (label u).attrs ≡ (label t).attrs
  mw : data_back (values && is_group (label u).kind) o (label u).mw ≡ (label t).mw
  character : own_character (writing (label u).kind) (label u).shown ≡ own_character (writing (label t).kind) (label t).shown
  held : is_marked (label u).mark ≡ false → is_group (label u).kind ≡ false → entries (children u) ≡ entries (opened (children t))

group_is : (k : Kind) → is_group k ≡ true → k ≡ kind.Group
group_is kind.Group e = refl
group_is k e = absurd (cc)

data_same : (b : Bool) (c d : Option DataMw) → c ≡ d → page_data b c d ≡ c
data_same true c d e = refl
data_same false None d e = refl
data_same false (Some c) d e = sym e

data_kept : (c d : Option DataMw) → (c ≡ None) ⊎ (c ≡ d) → page_data false c d ≡ c
data_kept None d e = refl
data_kept (Some c) d (inl e) = absurd (cc)
data_kept (Some c) d (inr e) = sym e

pub and_false : (b : Bool) → (b && false) ≡ false
and_false true = refl
and_false false = refl

pub not_both : (b : Bool) → b ≡ true → b ≡ false → ⊥
not_both b e f = absurd (cc)

group_same : (values : Bool) (o : Option Place) (q : Place) (u : Tree) → o ≡ Some q → is_group (kind_at q) ≡ true
    → GroupAsItWas values q.node u → Same values o q.node u
group_same values o q u oe g h =
    let k : (label u).kind ≡ kind.Group = group_is (label u).kind h.group in
    let j : kind_at q ≡ kind.Group = group_is (kind_at q) g in
    record {
      kind = k ∙ sym j;
      attrs = sym h.attrs;
      mw =
          ap (λ x. data_back (values && is_group (label u).kind) x (label u).mw) oe
          ∙ elim h.mw [
            | inl v ↦ ap (λ b. page_data (b && is_group (label u).kind) (label q.node).mw (label u).mw) v
                ∙ ap (λ b. page_data b (label q.node).mw (label u).mw) h.group
            | inr e ↦ data_same (values && is_group (label u).kind) (label q.node).mw (label u).mw e
          ];
      character =
          ap (λ x. own_character (writing x) (label u).shown) k
          ∙ sym (ap (λ x. own_character (writing x) (label q.node).shown) j);
      held = λ c e. absurd (not_both (is_group (label u).kind) h.group e);
    }

character_by : (c : Bool) (m : Mark) (k j : Kind) (bs cs : List ℕ) → is_marked m ≡ c → k ≡ j → (is_marked m ≡ true → writing k ≡ RoundChildren)
    → (is_marked m ≡ false → own_character (writing k) bs ≡ own_character (writing j) cs) → own_character (writing k) bs ≡ own_character (writing j) cs
character_by true m k j bs cs e s w f = ap (λ x. own_character x bs) (w e) ∙ sym (ap (λ x. own_character x cs) (ap writing (sym s) ∙ w e))
character_by false m k j bs cs e s w f = f e

holding : (t u : Tree) → (is_marked (label u).mark ≡ true) ⊎ HoldsTheSame t u → is_marked (label u).mark ≡ false → HoldsTheSame t u
holding t u (inl e) f = absurd (not_both (is_marked (label u).mark) e f)
holding t u (inr h) f = h

node_same : (values : Bool) (o : Option Place) (q : Place) (u : Tree) → o ≡ Some q → is_group (kind_at q) ≡ false
    → NodeAsItWas q.node u → (is_marked (label u).mark ≡ true → writing (label u).kind ≡ RoundChildren) → Same values o q.node u
node_same values o q u oe g h w =
    let n : is_group (label u).kind ≡ false = ap is_group (sym h.kind) ∙ g in
    record {
      kind = sym h.kind;
      attrs = sym h.attrs;
      mw =
          ap (λ x. data_back (values && is_group (label u).kind) x (label u).mw) oe
          ∙ ap (λ b. page_data (values && b) (label q.node).mw (label u).mw) n
          ∙ ap (λ b. page_data b (label q.node).mw (label u).mw) (and_false values)
          ∙ data_kept (label q.node).mw (label u).mw h.mw;
      character = character_by (is_marked (label u).mark) (label u).mark (label u).kind (label q.node).kind (label u).shown (label q.node).shown
          refl (sym h.kind) w (λ c. sym (holding q.node u h.holds c).character);
      held = λ c e. sym (holding q.node u h.holds c).held;
    }

pub at_some : (P : Place → Type 0) (o : Option Place) (q : Place) → o ≡ Some q → MatchOption o (Unit {0}) P → P q
at_some P None q e h = absurd (cc)
at_some P (Some r) q e h = let d : r ≡ q = cc in subst P d h

same_by : (g values : Bool) (page : Page) (p q : Place) (o : Option Place) → is_group (kind_at q) ≡ g → o ≡ Some q
    → page (number p) ≡ Some q → is_of_page p ≡ true → p.in_content ≡ false → (is_group (kind_at q) ≡ true → is_kept p ≡ true)
    → Stays values page p → Same values o q.node p.node
same_by true values page p q o g oe e old out k s =
    group_same values o q p.node oe g
    (at_some (λ r. is_group (kind_at r) ≡ true → GroupAsItWas values r.node p.node) (page (number p)) q e (s.group (k g)) g)
same_by false values page p q o g oe e old out k s =
    node_same values o q p.node oe g
    (at_some (λ r. is_group (kind_at r) ≡ false → NodeAsItWas r.node p.node) (page (number p)) q e (s.node old out) g)
    (λ m. marked_element (kind_at p) (label p.node).mark (page (number p)) (s.mark m).allowed)

pub gist_node : (w : Writing) (l : Label) (held : Gists) → is_text w ≡ false → gist_by w l held ≡ node (features l) held
gist_node AsText l held e = absurd (cc)
gist_node AsVoid l held e = refl
gist_node RoundCharacter l held e = refl
gist_node RoundChildren l held e = refl
gist_node (AsSection n) l held e = refl
gist_node Unwritten l held e = refl

pub gist_text : (w : Writing) (l : Label) (held : Gists) → is_text w ≡ true → gist_by w l held ≡ text l.shown
gist_text AsText l held e = refl
gist_text AsVoid l held e = absurd (cc)
gist_text RoundCharacter l held e = absurd (cc)
gist_text RoundChildren l held e = absurd (cc)
gist_text (AsSection n) l held e = absurd (cc)
gist_text Unwritten l held e = absurd (cc)

features_same : (values : Bool) (o : Option Place) (t u : Tree) → (label u).id ≡ (label t).id → Same values o t u
    → features (label_back values o (label u)) ≡ features (label t)
features_same values o t u n s =
    λ i. record { number = n i; kind = s.kind i; attrs = s.attrs i; mw = s.mw i; character = s.character i }

gist_same : (values : Bool) (o : Option Place) (m : Label) (us xs : Trees) (t : Tree) → is_text (writing m.kind) ≡ false → m.id ≡ (label t).id
    → Same values o t (tree m us) → gists xs ≡ gists (children t) → gist (tree (label_back values o m) xs) ≡ gist t
gist_same values o m us xs (tree l ts) w n s h =
    gist_node (writing m.kind) (label_back values o m) (gists xs) w
    ∙ (λ i. node (features_same values o (tree l ts) (tree m us) n s i) (h i))
    ∙ sym (gist_node (writing l.kind) l (gists ts) (ap (λ k. is_text (writing k)) (sym s.kind) ∙ w))

inside_same : (m : Mark) (g : Bool) (o : Option Place) (q : Place) (ys : Trees) → o ≡ Some q
    → (is_marked m ≡ true → (is_content m ≡ true) ⊎ (is_children m ≡ true)) → (is_marked m ≡ false → g ≡ false → gists ys ≡ gists (children q.node))
    → (is_children m ≡ true → gists (as_they_stand (children q.node) ys) ≡ gists (children q.node))
    → gists (inside_back m g o ys) ≡ gists (children q.node)
inside_same marks.Nothing true o q ys e a f h = ap (λ x. gists (inside x)) e
inside_same marks.Nothing false o q ys e a f h = f refl refl
inside_same marks.Content g o q ys e a f h = ap (λ x. gists (inside x)) e
inside_same marks.Children g o q ys e a f h = ap (λ x. gists (as_they_stand (inside x) ys)) e ∙ h refl
inside_same marks.Other g o q ys e a f h = elim (a refl) [ inl i ↦ absurd (cc) | inr i ↦ absurd (cc) ]

-- ---- lists of children, without what isn't compared

abbrev pub shown_children : Trees → List Tree
shown_children ts = filter (λ t. is_compared (showing (label t).kind)) (listed ts)

abbrev pub gist_list : List Tree → Gists
gist_list [] = ended
gist_list (t ∷ ts) = along (gist t) (gist_list ts)

abbrev entry_list : List Tree → List Entry
entry_list ts = map (λ t. entry (label t)) ts

entries_shown : (ts : Trees) → entries ts ≡ entry_list (shown_children ts)
entries_shown none = refl
entries_shown (more t ts) = by_compared (is_compared (showing (label t).kind)) t (entries ts) (shown_children ts) (entries_shown ts)
  where
    by_compared : (b : Bool) (t : Tree) (es : List Entry) (us : List Tree) → es ≡ entry_list us
        → (if b then entry (label t) ∷ es else es) ≡ entry_list (if b then t ∷ us else us)
    by_compared true t es us e = ap (λ xs. entry (label t) ∷ xs) e
    by_compared false t es us e = e

pub gists_shown : (ts : Trees) → gists ts ≡ gist_list (shown_children ts)
gists_shown none = refl
gists_shown (more t ts) = by_compared (is_compared (showing (label t).kind)) t (gists ts) (shown_children ts) (gists_shown ts)
  where
    by_compared : (b : Bool) (t : Tree) (gs : Gists) (us : List Tree) → gs ≡ gist_list us
        → (if b then along (gist t) gs else gs) ≡ gist_list (if b then t ∷ us else us)
    by_compared true t gs us e = ap (λ xs. along (gist t) xs) e
    by_compared false t gs us e = e

pub each_shown : (P : Tree → Type 0) (f : Tree → Bool) (ts : List Tree) → AllByRecursion P ts → AllByRecursion P (filter f ts)
each_shown P f [] h = tt
each_shown P f (t ∷ ts) h = by_test (f t) (each_shown P f ts h.1)
  where
    by_test : (b : Bool) → AllByRecursion P (filter f ts) → AllByRecursion P (if b then t ∷ filter f ts else filter f ts)
    by_test true r = (h.0, r)
    by_test false r = r

-- ---- the page's children, as they stand

-- a tree with a number is the page's
abbrev Back : Page → Tree → Type 0
Back page v = (label v).id ≢ 0 → (r : Place) → page (label v).id ≡ Some r → ((label v).kind ≡ kind_at r) × (gist v ≡ gist r.node)

record IsLike (t v : Tree) : Type 0 where
  kind : (label v).kind ≡ (label t).kind
  gist : gist v ≡ gist t

same_number : (m n : ℕ) → (m == n) ≡ true → m ≡ n
same_number m n e = grind (arith, nat_tests)

no_zero : (n : ℕ) → (n == 0) ≡ false → n ≢ 0
no_zero n e z = let h : (n == 0) ≡ true = grind (arith, nat_tests) in absurd (cc)

numbered_like : (page : Page) (t : Tree) (r : Place) (vs : Trees) → (label t).id ≢ 0 → page (label t).id ≡ Some r → r.node ≡ t
    → AllByRecursion (Back page) (listed vs) → IsLike t (numbered_or t (label t).id vs)
numbered_like page t r none z e n h = record { kind = refl; gist = refl }
numbered_like page t r (more v vs) z e n h =
    by_number ((label v).id == (label t).id) refl (numbered_like page t r vs z e n h.1)
  where
    by_number : (b : Bool) → ((label v).id == (label t).id) ≡ b → IsLike t (numbered_or t (label t).id vs)
        → IsLike t (if b then v else numbered_or t (label t).id vs)
    by_number true s f =
        let d : (label v).id ≡ (label t).id = same_number (label v).id (label t).id s in
        let a = h.0 (λ i. z (sym d ∙ i)) r (ap page d ∙ e) in
        record { kind = a.0 ∙ ap (λ x. (label x).kind) n; gist = a.1 ∙ ap gist n }
    by_number false s f = f

stands_like : (page : Page) (t : Tree) (vs : Trees) → Found page t → AllByRecursion (Back page) (listed vs)
    → IsLike t (if (label t).id == 0 then t else numbered_or t (label t).id vs)
stands_like page t vs f h = by_zero ((label t).id == 0) refl
  where
    by_zero : (b : Bool) → ((label t).id == 0) ≡ b → IsLike t (if b then t else numbered_or t (label t).id vs)
    by_zero true s = record { kind = refl; gist = refl }
    by_zero false s = let z = no_zero (label t).id s in let r = f z in numbered_like page t r.0 vs z r.1 r.2 h

like_more : (t v : Tree) (gs hs : Gists) → IsLike t v → gs ≡ hs → (if is_compared (showing (label v).kind) then along (gist v) gs else gs)
    ≡ (if is_compared (showing (label t).kind) then along (gist t) hs else hs)
like_more t v gs hs l e =
    ap (λ k. if is_compared (showing k) then along (gist v) gs else gs) l.kind
    ∙ ap (λ g. if is_compared (showing (label t).kind) then along g gs else gs) l.gist
    ∙ ap (λ xs. if is_compared (showing (label t).kind) then along (gist t) xs else xs) e

stand_like : (page : Page) (ts vs : Trees) → AllByRecursion (Found page) (listed ts) → AllByRecursion (Back page) (listed vs)
    → gists (as_they_stand ts vs) ≡ gists ts
stand_like page none vs f h = refl
stand_like page (more t ts) vs f h =
    like_more t (if (label t).id == 0 then t else numbered_or t (label t).id vs) (gists (as_they_stand ts vs)) (gists ts)
    (stands_like page t vs f.0 h) (stand_like page ts vs f.1 h)

-- ---- a child and the page's in its place

pub numbered_kind : (k : Kind) → is_frame k ≡ false → is_text (writing k) ≡ false → is_numbered k ≡ true
numbered_kind kind.Body b w = absurd (cc)
numbered_kind (kind.Section n) b w = absurd (cc)
numbered_kind kind.Sep b w = absurd (cc)
numbered_kind kind.Text b w = absurd (cc)
numbered_kind k b w = refl

text_entry : (w : Writing) (l : Label) → is_text w ≡ true → unmarked.entry_by w l ≡ unmarked.text l.shown
text_entry AsText l e = refl
text_entry AsVoid l e = absurd (cc)
text_entry RoundCharacter l e = absurd (cc)
text_entry RoundChildren l e = absurd (cc)
text_entry (AsSection n) l e = absurd (cc)
text_entry Unwritten l e = absurd (cc)

child_entry : (w : Writing) (l : Label) → is_text w ≡ false → unmarked.entry_by w l ≡ unmarked.child l.id
child_entry AsText l e = absurd (cc)
child_entry AsVoid l e = refl
child_entry RoundCharacter l e = refl
child_entry RoundChildren l e = refl
child_entry (AsSection n) l e = refl
child_entry Unwritten l e = refl

child_by : (b c : Bool) (m : Label) (page : Page) (g : Gist) (t : Tree) → is_text (writing m.kind) ≡ b → is_text (writing (label t).kind) ≡ c
    → entry m ≡ entry (label t) → Found page t → IsKnown t → (is_text (writing m.kind) ≡ true → g ≡ text m.shown)
    → ((r : Place) → is_text (writing m.kind) ≡ false → m.id ≢ 0 → page m.id ≡ Some r → r.node ≡ t → g ≡ gist t) → g ≡ gist t
child_by true true m page g (tree l ts) b c e f k x y =
    let s : unmarked.text m.shown ≡ unmarked.text l.shown = sym (text_entry (writing m.kind) m b) ∙ e ∙ text_entry (writing l.kind) l c in
    let d : m.shown ≡ l.shown = cc in
    x b ∙ ap text d ∙ sym (gist_text (writing l.kind) l (gists ts) c)
child_by true false m page g t b c e f k x y =
    let s : unmarked.text m.shown ≡ unmarked.child (label t).id = sym (text_entry (writing m.kind) m b) ∙ e
    ∙ child_entry (writing (label t).kind) (label t) c in
    absurd (cc)
child_by false true m page g t b c e f k x y =
    let s : unmarked.child m.id ≡ unmarked.text (label t).shown = sym (child_entry (writing m.kind) m b) ∙ e
    ∙ text_entry (writing (label t).kind) (label t) c in
    absurd (cc)
child_by false false m page g t b c e f k x y =
    let s : unmarked.child m.id ≡ unmarked.child (label t).id =
    sym (child_entry (writing m.kind) m b) ∙ e ∙ child_entry (writing (label t).kind) (label t) c in
    let d : m.id ≡ (label t).id = cc in
    let z : (label t).id ≢ 0 = k.has (numbered_kind (label t).kind k.other c) in
    let r = f z in
    y r.0 b (λ i. z (sym d ∙ i)) (ap page d ∙ r.1) r.2

nodes_by : (b : Bool) (m : Label) (g : Gist) (es : List Entry) (rest : Gists) (page : Page) (ts : List Tree)
    → (if b then entry m ∷ es else es) ≡ entry_list ts → AllByRecursion (Found page) ts → AllByRecursion IsKnown ts
    → ((t : Tree) → entry m ≡ entry (label t) → Found page t → IsKnown t → g ≡ gist t)
    → ((rs : List Tree) → es ≡ entry_list rs → AllByRecursion (Found page) rs → AllByRecursion IsKnown rs → rest ≡ gist_list rs)
    → (if b then along g rest else rest) ≡ gist_list ts
nodes_by false m g es rest page ts e f k x y = y ts e f k
nodes_by true m g es rest page [] e f k x y = absurd (cc)
nodes_by true m g es rest page (t ∷ ts) e f k x y =
    let h : (entry m ≡ entry (label t)) × (es ≡ entry_list ts) = (cc, cc) in
    let a = x t h.0 f.0 k.0 in
    let r = y ts h.1 f.1 k.1 in
    ap (λ z. along z rest) a ∙ ap (λ z. along (gist t) z) r

-- ---- the whole tree

abbrev pub PageOf : Page → Type 0
PageOf page = (n : ℕ) (q : Place) → page n ≡ Some q → PageNode page q × (number q ≡ n)

abbrev pub is_old : Label → Bool
is_old l = not (l.id == 0) || is_body l.kind

kept_old : (l : Label) → not (l.id == 0) ≡ true → is_old l ≡ true
kept_old l e = ap (λ b. b || is_body l.kind) e

pub record IsFor (page : Page) (m : Label) (q : Place) : Type 0 where
  pub element : is_text (writing m.kind) ≡ false
  pub old : is_old m ≡ true
  pub kept : is_group (kind_at q) ≡ true → not (m.id == 0) ≡ true
  pub there : page m.id ≡ Some q
  pub number : number q ≡ m.id
  pub found : AllByRecursion (Found page) (listed (children q.node))
  pub known : is_group (kind_at q) ≡ false → AllByRecursion IsKnown (listed (children q.node))
  pub bare : IsBare q

pub kept_for : (page : Page) (m : Label) (q : Place) → PageOf page → is_text (writing m.kind) ≡ false → m.id ≢ 0 → page m.id ≡ Some q → IsFor page m q
kept_for page m q H w z e =
    let h = H m.id q e in
    let k : not (m.id == 0) ≡ true = not_zero_kept m.id z in
    record {
      element = w;
      old = kept_old m k;
      kept = λ g. k;
      there = e;
      number = h.1;
      found = h.0.found;
      known = h.0.known (not_zero_kept (number q) (λ i. z (sym h.1 ∙ i)));
      bare = h.0.bare;
    }

-- a kept node has the page's kind
kind_back : (values : Bool) (page : Page) (parent : ℕ) (m : Label) (vs : Trees) (r : Place) → m.id ≢ 0 → page m.id ≡ Some r
    → Stays values page (record { node = tree m vs; parent = parent; in_content = false }) → m.kind ≡ kind_at r
kind_back values page parent m vs r z e s =
    let k : not (m.id == 0) ≡ true = not_zero_kept m.id z in
    let o : is_old m ≡ true = kept_old m k in
    (same_by (is_group (kind_at r)) values page (record { node = tree m vs; parent = parent; in_content = false }) r (original page m) refl
    (ap (λ b. if b then page m.id else None) o ∙ e) e o refl (λ g. k) s).kind

mutual
  pub same_node : (values : Bool) (page : Page) (parent : ℕ) (u : Tree) (q : Place) → PageOf page → IsFor page (label u) q
      → AllByRecursion (Stays values page) (placed parent false u) → gist (put_back values page u) ≡ gist q.node
  same_node values page parent (tree m us) q H f s =
      let o : Option Place = original page m in
      let oe : o ≡ Some q = ap (λ b. if b then page m.id else None) f.old ∙ f.there in
      let p : Place = record { node = tree m us; parent = parent; in_content = false } in
      let a = same_by (is_group (kind_at q)) values page p q o refl oe f.there f.old refl f.kept s.0 in
      let out = λ (c : is_content m.mark ≡ false). subst
      (λ (b : Bool). AllByRecursion (Stays values page) (all_placed (parent_below parent m.id) b us)) c s.1 in
      gist_same values o m us (inside_back m.mark (is_group m.kind) o (all_put_back values page us)) q.node f.element (sym f.number) a
      (inside_same m.mark (is_group m.kind) o q (all_put_back values page us) oe
      (λ h. allowed_marks (editing m.kind) m.mark (page m.id) (s.0.mark h).allowed)
      (λ c g. same_nodes values page (parent_below parent m.id) us (shown_children (children q.node)) H
      (a.held c g ∙ ap entries f.bare ∙ entries_shown (children q.node))
      (each_shown (Found page) (λ t. is_compared (showing (label t).kind)) (listed (children q.node)) f.found)
      (each_shown IsKnown (λ t. is_compared (showing (label t).kind)) (listed (children q.node)) (f.known (ap is_group (sym a.kind) ∙ g)))
      (out (unmarked_outside m.mark c))
      ∙ sym (gists_shown (children q.node)))
      (λ h. stand_like page (children q.node) (all_put_back values page us) f.found
      (back_nodes values page (parent_below parent m.id) us H (out (children_outside m.mark h)))))

  same_nodes : (values : Bool) (page : Page) (parent : ℕ) (us : Trees) (ts : List Tree) → PageOf page → entries us ≡ entry_list ts
      → AllByRecursion (Found page) ts → AllByRecursion IsKnown ts → AllByRecursion (Stays values page) (all_placed parent false us)
      → gists (all_put_back values page us) ≡ gist_list ts
  same_nodes values page parent none [] H e f k s = refl
  same_nodes values page parent none (t ∷ ts) H e f k s = absurd (cc)
  same_nodes values page parent (more (tree m vs) us) ts H e f k s =
      let w = each_split (Stays values page) (placed parent false (tree m vs)) (all_placed parent false us) s in
      nodes_by (is_compared (showing m.kind)) m (gist (put_back values page (tree m vs))) (entries us) (gists (all_put_back values page us)) page ts e f k
      (λ t d x y. child_by (is_text (writing m.kind)) (is_text (writing (label t).kind)) m page (gist (put_back values page (tree m vs))) t refl refl d x y
      (λ i. gist_text (writing m.kind) (label_back values (original page m) m)
      (gists (inside_back m.mark (is_group m.kind) (original page m) (all_put_back values page vs))) i)
      (λ r i z j n. same_node values page parent (tree m vs) r H (kept_for page m r H i z j) w.0 ∙ ap gist n))
      (λ rs d x y. same_nodes values page parent us rs H d x y w.1)

  -- each child with a number is the page's node
  back_nodes : (values : Bool) (page : Page) (parent : ℕ) (us : Trees) → PageOf page → AllByRecursion (Stays values page) (all_placed parent false us)
      → AllByRecursion (Back page) (listed (all_put_back values page us))
  back_nodes values page parent none H s = tt
  back_nodes values page parent (more (tree m vs) us) H s =
      let w = each_split (Stays values page) (placed parent false (tree m vs)) (all_placed parent false us) s in (
        λ z r e. let k = kind_back values page parent m vs r z e w.0.0 in
            let h = H m.id r e in
            let c : is_kept r ≡ true = not_zero_kept (number r) (λ i. z (sym h.1 ∙ i)) in
            let x : is_text (writing m.kind) ≡ false = ap (λ j. is_text (writing j)) k ∙ h.0.element c in
            (k, same_node values page parent (tree m vs) r H (kept_for page m r H x z e) w.0),
        back_nodes values page parent us H w.1,
      )

-- ---- the body

pub body_element : (k : Kind) → is_body k ≡ true → is_text (writing k) ≡ false
body_element kind.Body h = refl
body_element k h = absurd (cc)

or_true : (x y : Bool) → y ≡ true → (x || y) ≡ true
or_true true y h = refl
or_true false y h = h

pub for_body : (page : Page) (m : Label) (q : Place) → is_body m.kind ≡ true → page m.id ≡ Some q → number q ≡ m.id → is_group (kind_at q) ≡ false
    → AllByRecursion (Found page) (listed (children q.node)) → AllByRecursion IsKnown (listed (children q.node)) → IsBare q → IsFor page m q
for_body page m q b e n g f k o =
    record {
      element = body_element m.kind b;
      old = or_true (not (m.id == 0)) (is_body m.kind) b;
      kept = λ h. absurd (not_both (is_group (kind_at q)) h g);
      there = e;
      number = n;
      found = f;
      known = λ h. k;
      bare = o;
    }
