-- Where the edited tree with what may differ put back is the page's, each of its nodes is as it was.
use Rattle.std.proofs.Common.{◌≡◌, ◌≢◌, ℕ, Bool, true, false, List, [], ◌∷◌, refl, sym, ap, ◌∙◌, subst, arith, inl, inr, ◌⊎◌}
use Rattle.std.specs.Prelude.{◌==◌, ◌&&◌, ◌||◌, not, if◌then◌else◌, MatchOption, Option, Some, None}
use Rattle.std.specs.List.{AllByRecursion}
use Rattle.std.proofs.lemmas.Bool.Decides.{nat_tests}
use Rattle.wt_tree.specs.declared.kind.Mark.{Mark}
use Rattle.wt_tree.specs.declared.kind.Mark.TheVariants as marks
use Rattle.wt_tree.specs.declared.node.DataMw.{DataMw}
use Rattle.wt_tree.specs.declared.row.Writing.{Writing}
use Rattle.wt_tree.specs.declared.row.Writing.TheVariants.{AsText, AsVoid, RoundCharacter, RoundChildren, AsSection, Unwritten}
use Rattle.wt_tree.specs.Kinds.{showing, writing}
use Rattle.wt_tree.specs.Tiling.{is_group}
use Rattle.wt_tree.specs.Tree.{Label, Tree, tree, Trees, none, more, label, listed}
use Rattle.wt_checks.specs.Gist.{Features, features, Gist, text, node, Gists, ended, along, gist_by, gist, gists}
use Rattle.wt_checks.specs.Groups.{is_marked}
use Rattle.wt_checks.specs.Kept.{children, HoldsTheSame, NodeAsItWas, NodeKept}
use Rattle.wt_checks.specs.Marks.{is_children}
use Rattle.wt_checks.specs.Places.{Place, placed, all_placed, kind_at, is_body, is_content, Page, parent_below}
use Rattle.wt_checks.specs.PutBack.{original, inside, page_data, data_back, label_back, as_they_stand, inside_back, put_back, all_put_back, in_new, all_in_new, is_frame, has_frame, have_frame}
use Rattle.wt_checks.specs.Tokens.{is_text}
use Rattle.wt_checks.specs.Unmarked.{Entry, is_compared, entry, entries}
use Rattle.wt_checks.specs.Unmarked as unmarked
use Rattle.wt_checks.proofs.Found.{Found, IsKnown}
use Rattle.wt_checks.proofs.Frames.{no_frame, IsBare}
use Rattle.wt_checks.proofs.InOrder.{kept_not_zero, not_zero_kept, zero_of}
use Rattle.wt_checks.proofs.Lookups.{each_split, each_join}
use Rattle.wt_checks.proofs.Given.{Given, IsPages, pages_children}
use Rattle.wt_checks.proofs.PutBack.{not_both, and_false, content_marked, gist_node, gist_text, gist_list, shown_children, gists_shown, each_shown, numbered_kind, PageOf, IsFor, kept_for}
use Rattle.wt_checks.proofs.Repeated.{or_false}

-- ---- nodes that aren't compared with the page's

mutual
  in_content : (page : Page) (parent : ℕ) (t : Tree) → AllByRecursion (NodeKept page) (placed parent true t)
  in_content page parent (tree l ts) = ((λ o c. absurd (cc)), all_in_content page (parent_below parent l.id) ts)

  all_in_content : (page : Page) (parent : ℕ) (ts : Trees) → AllByRecursion (NodeKept page) (all_placed parent true ts)
  all_in_content page parent none = tt
  all_in_content page parent (more t ts) =
      each_join (NodeKept page) (placed parent true t) (all_placed parent true ts) (in_content page parent t) (all_in_content page parent ts)

new_by : (k b : Bool) → (k || b) ≡ true → (k ≡ true → ⊥) → b ≡ false → ⊥
new_by true b e f h = f refl
new_by false b e f h = not_both b e h

no_true : (b : Bool) → (b ≡ true → ⊥) → b ≡ false
no_true true f = absurd (f refl)
no_true false f = refl

parent_same : (id parent : ℕ) → id ≡ 0 → parent ≡ parent_below parent id
parent_same id parent e = by_test (id == 0) (zero_test id e)
  where
    zero_test : (n : ℕ) → n ≡ 0 → (n == 0) ≡ true
    zero_test n h = grind (arith, nat_tests)

    by_test : (b : Bool) → b ≡ true → parent ≡ (if b then parent else id)
    by_test true h = refl
    by_test false h = absurd (cc)

-- in a group of the page nothing is kept
mutual
  in_group : (values : Bool) (page : Page) (n : ℕ) (q : Place) (within : Bool) (t : Tree) → page n ≡ Some q → is_group (kind_at q) ≡ true
      → has_frame t ≡ false → AllByRecursion (Given values page) (placed n within t) → AllByRecursion (NodeKept page) (placed n within t)
  in_group values page n q within (tree l ts) e g b h =
      let c = or_false (is_frame l.kind) (have_frame ts) b in
      let new = λ (k : not (l.id == 0) ≡ true). not_both (is_group (kind_at q)) g (h.0.free k q e) in
      let z : l.id ≡ 0 = zero_of l.id (no_true (not (l.id == 0)) new) in
      let s : n ≡ parent_below n l.id = parent_same l.id n z in (
        λ o i. absurd (new_by (not (l.id == 0)) (is_body l.kind) o new (no_frame l.kind c.0).0),
        subst (λ (m : ℕ). AllByRecursion (NodeKept page) (all_placed m (within || is_content l.mark) ts)) s
            (all_in_group values page n q (within || is_content l.mark) ts e g c.1
            (subst (λ (m : ℕ). AllByRecursion (Given values page) (all_placed m (within || is_content l.mark) ts)) (sym s) h.1)),
      )

  all_in_group : (values : Bool) (page : Page) (n : ℕ) (q : Place) (within : Bool) (ts : Trees) → page n ≡ Some q → is_group (kind_at q) ≡ true
      → have_frame ts ≡ false → AllByRecursion (Given values page) (all_placed n within ts) → AllByRecursion (NodeKept page) (all_placed n within ts)
  all_in_group values page n q within none e g b h = tt
  all_in_group values page n q within (more t ts) e g b h =
      let c = or_false (has_frame t) (have_frame ts) b in
      let s = each_split (Given values page) (placed n within t) (all_placed n within ts) h in
      each_join (NodeKept page) (placed n within t) (all_placed n within ts) (in_group values page n q within t e g c.0 s.0)
      (all_in_group values page n q within ts e g c.1 s.1)

-- ---- what the gist tells

abbrev entry_of : Gist → Entry
entry_of (text bs) = unmarked.text bs
entry_of (node f gs) = unmarked.child f.number

abbrev entries_of : Gists → List Entry
entries_of ended = []
entries_of (along g gs) = entry_of g ∷ entries_of gs

gist_entry : (w : Writing) (l : Label) (held : Gists) → unmarked.entry_by w l ≡ entry_of (gist_by w l held)
gist_entry AsText l held = refl
gist_entry AsVoid l held = refl
gist_entry RoundCharacter l held = refl
gist_entry RoundChildren l held = refl
gist_entry (AsSection n) l held = refl
gist_entry Unwritten l held = refl

-- with the same number and characters
gist_entry_back : (w : Writing) (values : Bool) (o : Option Place) (l : Label) (held : Gists)
    → unmarked.entry_by w l ≡ entry_of (gist_by w (label_back values o l) held)
gist_entry_back AsText values o l held = refl
gist_entry_back AsVoid values o l held = refl
gist_entry_back RoundCharacter values o l held = refl
gist_entry_back RoundChildren values o l held = refl
gist_entry_back (AsSection n) values o l held = refl
gist_entry_back Unwritten values o l held = refl

entries_step : (b : Bool) (e : Entry) (es : List Entry) (g : Gist) (gs : Gists) → e ≡ entry_of g → es ≡ entries_of gs
    → (if b then e ∷ es else es) ≡ entries_of (if b then along g gs else gs)
entries_step true e es g gs h k = ap (λ x. x ∷ es) h ∙ ap (λ xs. entry_of g ∷ xs) k
entries_step false e es g gs h k = k

gists_entries : (ts : Trees) → entries ts ≡ entries_of (gists ts)
gists_entries none = refl
gists_entries (more (tree l us) ts) =
    entries_step (is_compared (showing l.kind)) (entry l) (entries ts) (gist (tree l us)) (gists ts) (gist_entry (writing l.kind) l (gists us))
    (gists_entries ts)

back_entries : (values : Bool) (page : Page) (us : Trees) → entries us ≡ entries_of (gists (all_put_back values page us))
back_entries values page none = refl
back_entries values page (more (tree m vs) us) =
    entries_step (is_compared (showing m.kind)) (entry m) (entries us) (gist (put_back values page (tree m vs))) (gists (all_put_back values page us))
    (gist_entry_back (writing m.kind) values (original page m) m
    (gists (inside_back m.mark (is_group m.kind) (original page m) (all_put_back values page vs))))
    (back_entries values page us)

record Parts (values : Bool) (o : Option Place) (m : Label) (xs : Trees) (t : Tree) : Type 0 where
  features : features (label_back values o m) ≡ features (label t)
  held : gists xs ≡ gists (children t)
  element : is_text (writing (label t).kind) ≡ false

parts_by : (b : Bool) (values : Bool) (o : Option Place) (m : Label) (xs : Trees) (t : Tree) → is_text (writing (label t).kind) ≡ b
    → is_text (writing m.kind) ≡ false → gist (tree (label_back values o m) xs) ≡ gist t → Parts values o m xs t
parts_by true values o m xs (tree l ts) b w h =
    let e : node (features (label_back values o m)) (gists xs) ≡ text l.shown =
    sym (gist_node (writing m.kind) (label_back values o m) (gists xs) w) ∙ h ∙ gist_text (writing l.kind) l (gists ts) b in
    absurd (cc)
parts_by false values o m xs (tree l ts) b w h =
    let e : node (features (label_back values o m)) (gists xs) ≡ node (features l) (gists ts) =
    sym (gist_node (writing m.kind) (label_back values o m) (gists xs) w) ∙ h ∙ gist_node (writing l.kind) l (gists ts) b in
    record { features = cc; held = cc; element = b }

data_of : (c d : Option DataMw) → page_data false c d ≡ c → (c ≡ None) ⊎ (c ≡ d)
data_of None d e = inl refl
data_of (Some c) d e = inr (sym e)

inside_parts : (m : Mark) (g : Bool) (o : Option Place) (ys : Trees) (gs : Gists) → is_content m ≡ false → is_children m ≡ false → g ≡ false
    → gists (inside_back m g o ys) ≡ gs → gists ys ≡ gs
inside_parts marks.Nothing true o ys gs c d e h = absurd (cc)
inside_parts marks.Nothing false o ys gs c d e h = h
inside_parts marks.Content g o ys gs c d e h = absurd (cc)
inside_parts marks.Children g o ys gs c d e h = absurd (cc)
inside_parts marks.Other true o ys gs c d e h = absurd (cc)
inside_parts marks.Other false o ys gs c d e h = h

unmarked_content : (b : Bool) (m : Mark) → is_content m ≡ b → is_marked m ≡ false → is_content m ≡ false
unmarked_content true m e f = absurd (not_both (is_marked m) (content_marked m e) f)
unmarked_content false m e f = e

children_marked : (m : Mark) → is_children m ≡ true → is_marked m ≡ true
children_marked marks.Nothing e = e
children_marked marks.Content e = absurd (cc)
children_marked marks.Children e = refl
children_marked marks.Other e = refl

unmarked_children : (b : Bool) (m : Mark) → is_children m ≡ b → is_marked m ≡ false → is_children m ≡ false
unmarked_children true m e f = absurd (not_both (is_marked m) (children_marked m e) f)
unmarked_children false m e f = e

-- with a mark `children` the page's children, as they stand
stand_parts : (m : Mark) (g : Bool) (o : Option Place) (q : Place) (ys : Trees) (gs : Gists) → is_children m ≡ true → o ≡ Some q
    → gists (inside_back m g o ys) ≡ gs → gists (as_they_stand (children q.node) ys) ≡ gs
stand_parts marks.Nothing g o q ys gs c e h = absurd (cc)
stand_parts marks.Content g o q ys gs c e h = absurd (cc)
stand_parts marks.Children g o q ys gs c e h = sym (ap (λ x. gists (as_they_stand (inside x) ys)) e) ∙ h
stand_parts marks.Other g o q ys gs c e h = absurd (cc)

-- a node with the page's features and entries is as it was
node_as : (values : Bool) (page : Page) (o : Option Place) (q : Place) (m : Label) (us : Trees) → o ≡ Some q → is_group (kind_at q) ≡ false → IsBare q
    → Parts values o m (inside_back m.mark (is_group m.kind) o (all_put_back values page us)) q.node
    → NodeAsItWas q.node (tree m us)
node_as values page o q m us oe g b p =
    let k : m.kind ≡ kind_at q = ap (λ (f : Features). f.kind) p.features in
    let n : is_group m.kind ≡ false = ap is_group k ∙ g in
    record {
      kind = sym k;
      attrs = sym (ap (λ (f : Features). f.attrs) p.features);
      mw =
          data_of (label q.node).mw m.mw
          (sym (ap (λ b. page_data b (label q.node).mw m.mw) (ap (λ b. values && b) n ∙ and_false values))
          ∙ sym (ap (λ x. data_back (values && is_group m.kind) x m.mw) oe) ∙ ap (λ (f : Features). f.mw) p.features);
      holds = holds_by (is_marked m.mark) refl n;
    }
  where
    holds_by : (b : Bool) → is_marked m.mark ≡ b → is_group m.kind ≡ false → (is_marked m.mark ≡ true) ⊎ HoldsTheSame q.node (tree m us)
    holds_by true e n = inl e
    holds_by false e n = inr (record {
      character = sym (ap (λ (f : Features). f.character) p.features);
      held =
          ap entries b
          ∙ gists_entries (children q.node)
          ∙ ap entries_of (sym (inside_parts m.mark (is_group m.kind) o (all_put_back values page us) (gists (children q.node))
          (unmarked_content (is_content m.mark) m.mark refl e) (unmarked_children (is_children m.mark) m.mark refl e) n p.held))
          ∙ sym (back_entries values page us);
    })

of_some : (P : Place → Type 0) (o : Option Place) (q : Place) → o ≡ Some q → P q → MatchOption o (Unit {0}) P
of_some P None q e h = absurd (cc)
of_some P (Some r) q e h = let d : q ≡ r = cc in subst P d h

-- ---- places below a node

below_by : (c g d : Bool) (values : Bool) (page : Page) (m : Label) (parent : ℕ) (q : Place) (us : Trees) → is_group m.kind ≡ g → is_children m.mark ≡ d
    → page m.id ≡ Some q → (is_group m.kind ≡ true → is_group (kind_at q) ≡ true) → parent_below parent m.id ≡ m.id
    → have_frame us ≡ false → AllByRecursion (Given values page) (all_placed (parent_below parent m.id) c us)
    → (c ≡ false → g ≡ false → d ≡ false → AllByRecursion (NodeKept page) (all_placed (parent_below parent m.id) false us))
    → (c ≡ false → g ≡ false → d ≡ true → AllByRecursion (NodeKept page) (all_placed (parent_below parent m.id) false us))
    → AllByRecursion (NodeKept page) (all_placed (parent_below parent m.id) c us)
below_by true g d values page m parent q us i j e k s b h f x = all_in_content page (parent_below parent m.id) us
below_by false true d values page m parent q us i j e k s b h f x =
    subst (λ (n : ℕ). AllByRecursion (NodeKept page) (all_placed n false us)) (sym s)
    (all_in_group values page m.id q false us e (k i) b (subst (λ (n : ℕ). AllByRecursion (Given values page) (all_placed n false us)) s h))
below_by false false false values page m parent q us i j e k s b h f x = f refl refl refl
below_by false false true values page m parent q us i j e k s b h f x = x refl refl refl

kept_below : (parent id : ℕ) → not (id == 0) ≡ true → parent_below parent id ≡ id
kept_below parent id e = by_test (id == 0) e
  where
    by_test : (b : Bool) → not b ≡ true → (if b then parent else id) ≡ id
    by_test true h = absurd (cc)
    by_test false h = refl

nothing_below : (page : Page) (parent : ℕ) (within : Bool) (us : Trees) → us ≡ none → AllByRecursion (NodeKept page) (all_placed parent within us)
nothing_below page parent within us e = subst (λ (ts : Trees). AllByRecursion (NodeKept page) (all_placed parent within ts)) (sym e) tt

-- one child: it isn't compared, or a text, or an element that is the page's
child_kept : (c b : Bool) (values : Bool) (page : Page) (parent : ℕ) (m : Label) (us : Trees) → is_compared (showing m.kind) ≡ c → is_text (writing m.kind) ≡ b
    → is_body m.kind ≡ false → Given values page (record { node = tree m us; parent = parent; in_content = false })
    → (c ≡ true → b ≡ false → AllByRecursion (NodeKept page) (placed parent false (tree m us)))
    → AllByRecursion (NodeKept page) (placed parent false (tree m us))
child_kept false b values page parent m us c w n h f = (
  h.hidden c,
  nothing_below page (parent_below parent m.id) (false || is_content m.mark) us (h.read.hidden c),
)
child_kept true true values page parent m us c w n h f = (
  λ o i. absurd (new_by (not (m.id == 0)) (is_body m.kind) o (λ k. kept_not_zero m.id k (h.read.unnumbered w)) n),
  nothing_below page (parent_below parent m.id) (false || is_content m.mark) us (h.read.text w),
)
child_kept true false values page parent m us c w n h f = f refl refl

-- the children that are compared, beside the page's
children_by : (c : Bool) (g : Gist) (rest : Gists) (page : Page) (ts : List Tree) (P Q : Type 0) → (if c then along g rest else rest) ≡ gist_list ts
    → AllByRecursion (Found page) ts → AllByRecursion IsKnown ts
    → ((c ≡ true → (t : Tree) × (g ≡ gist t) × Found page t × IsKnown t) → P)
    → ((rs : List Tree) → rest ≡ gist_list rs → AllByRecursion (Found page) rs → AllByRecursion IsKnown rs → Q) → P × Q
children_by false g rest page ts P Q e f k x y = (x (λ h. absurd (cc)), y ts e f k)
children_by true g rest page [] P Q e f k x y = absurd (cc)
children_by true g rest page (t ∷ ts) P Q e f k x y =
    let h : (g ≡ gist t) × (rest ≡ gist_list ts) = (cc, cc) in
    (x (λ i. (t, h.0, f.0, k.0)), y ts h.1 f.1 k.1)

pub gist_number : (values : Bool) (o : Option Place) (m : Label) (xs : Trees) (t : Tree) → is_text (writing m.kind) ≡ false
    → gist (tree (label_back values o m) xs) ≡ gist t → m.id ≡ (label t).id
gist_number values o m xs t w e =
    ap (λ (x : Features). x.number) (parts_by (is_text (writing (label t).kind)) values o m xs t refl w e).features

-- an element with the page's gist is found by its number
element_found : (values : Bool) (page : Page) (o : Option Place) (m : Label) (xs : Trees) (t : Tree) → is_text (writing m.kind) ≡ false
    → gist (tree (label_back values o m) xs) ≡ gist t → Found page t → IsKnown t
    → (r : Place) × (page m.id ≡ Some r) × (r.node ≡ t) × (m.id ≢ 0)
element_found values page o m xs t w e f k =
    let p = parts_by (is_text (writing (label t).kind)) values o m xs t refl w e in
    let d : m.id ≡ (label t).id = ap (λ (x : Features). x.number) p.features in
    let z : (label t).id ≢ 0 = k.has (numbered_kind (label t).kind k.other p.element) in
    let r = f z in
    (r.0, ap page d ∙ r.1, r.2, (λ i. z (sym d ∙ i)))

-- a child of a node that is marked `children`: a new one, whose inside is kept, or the page's
marked_child_by : (k : Bool) (values : Bool) (page : Page) (parent : ℕ) (m : Label) (us : Trees) → not (m.id == 0) ≡ k
    → is_body m.kind ≡ false → AllByRecursion (Given values page) (placed parent false (tree m us)) → AllByRecursion (NodeKept page) (in_new parent false (tree m us))
    → (m.id ≢ 0 → is_text (writing m.kind) ≡ false → is_compared (showing m.kind) ≡ true → AllByRecursion (NodeKept page) (placed parent false (tree m us)))
    → AllByRecursion (NodeKept page) (placed parent false (tree m us))
marked_child_by true values page parent m us k n h i f =
    child_kept (is_compared (showing m.kind)) (is_text (writing m.kind)) values page parent m us refl refl n h.0
    (λ c w. f (kept_not_zero m.id k) w c)
marked_child_by false values page parent m us k n h i f =
    let new : (not (m.id == 0) || is_body m.kind) ≡ false = ap (λ b. b || is_body m.kind) k ∙ n in (
      λ o c. absurd (not_both (not (m.id == 0) || is_body m.kind) o new),
      subst (λ (b : Bool). AllByRecursion (NodeKept page) (if b then all_in_new (parent_below parent m.id) (false || is_content m.mark) us
          else all_placed (parent_below parent m.id) (false || is_content m.mark) us)) new i,
    )

old_in_new : (page : Page) (parent : ℕ) (m : Label) (us : Trees) → (not (m.id == 0) || is_body m.kind) ≡ true
    → AllByRecursion (NodeKept page) (in_new parent false (tree m us)) → AllByRecursion (NodeKept page) (all_in_new (parent_below parent m.id) (false || is_content m.mark) us)
old_in_new page parent m us o i =
    subst (λ (b : Bool). AllByRecursion (NodeKept page) (if b then all_in_new (parent_below parent m.id) (false || is_content m.mark) us
    else all_placed (parent_below parent m.id) (false || is_content m.mark) us)) o i

mutual
  pub node_kept : (values : Bool) (page : Page) (parent : ℕ) (u : Tree) (q : Place) → PageOf page → IsFor page (label u) q
      → parent_below parent (label u).id ≡ (label u).id → have_frame (children u) ≡ false
      → AllByRecursion (Given values page) (placed parent false u) → AllByRecursion (NodeKept page) (in_new parent false u)
      → gist (put_back values page u) ≡ gist q.node → AllByRecursion (NodeKept page) (placed parent false u)
  node_kept values page parent (tree m us) q H f d b s i e =
      let o : Option Place = original page m in
      let oe : o ≡ Some q = ap (λ z. if z then page m.id else None) f.old ∙ f.there in
      let vs : Trees = all_put_back values page us in
      let p = parts_by (is_text (writing (kind_at q))) values o m (inside_back m.mark (is_group m.kind) o vs) q.node refl f.element e in
      let k : m.kind ≡ kind_at q = ap (λ (x : Features). x.kind) p.features in
      let n : ℕ = parent_below parent m.id in
      let new = old_in_new page parent m us f.old i in
      let out = λ (c : is_content m.mark ≡ false). subst (λ (w : Bool). AllByRecursion (Given values page) (all_placed n w us)) c s.1 in
      let inner = λ (c : is_content m.mark ≡ false). subst (λ (w : Bool). AllByRecursion (NodeKept page) (all_in_new n w us)) c new in (
        λ old out. of_some (λ r. is_group (kind_at r) ≡ false → NodeAsItWas r.node (tree m us)) (page m.id) q f.there
            (λ g. node_as values page o q m us oe g f.bare p),
        below_by (is_content m.mark) (is_group m.kind) (is_children m.mark) values page m parent q us refl refl f.there (λ g. ap is_group (sym k) ∙ g) d b s.1
            (λ c g x. nodes_kept values page n us (shown_children (children q.node)) H
            (inside_parts m.mark (is_group m.kind) o vs (gists (children q.node)) c x g p.held ∙ gists_shown (children q.node))
            (each_shown (Found page) (λ t. is_compared (showing (label t).kind)) (listed (children q.node)) f.found)
            (each_shown IsKnown (λ t. is_compared (showing (label t).kind)) (listed (children q.node)) (f.known (ap is_group (sym k) ∙ g))) b (out c) (inner c))
            (λ c g x. children_kept values page n us H b (out c) (inner c)
            (pages_children values page n q us H (ap page d ∙ f.there) (stand_parts m.mark (is_group m.kind) o q vs (gists (children q.node)) x oe p.held)
            f.found s.0.distinct (out c))),
      )

  nodes_kept : (values : Bool) (page : Page) (parent : ℕ) (us : Trees) (ts : List Tree) → PageOf page
      → gists (all_put_back values page us) ≡ gist_list ts → AllByRecursion (Found page) ts → AllByRecursion IsKnown ts → have_frame us ≡ false
      → AllByRecursion (Given values page) (all_placed parent false us) → AllByRecursion (NodeKept page) (all_in_new parent false us)
      → AllByRecursion (NodeKept page) (all_placed parent false us)
  nodes_kept values page parent none ts H e f k b s i = tt
  nodes_kept values page parent (more (tree m vs) us) ts H e f k b s i =
      let w = each_split (Given values page) (placed parent false (tree m vs)) (all_placed parent false us) s in
      let j = each_split (NodeKept page) (in_new parent false (tree m vs)) (all_in_new parent false us) i in
      let n = or_false (is_frame m.kind || have_frame vs) (have_frame us) b in
      let d = or_false (is_frame m.kind) (have_frame vs) n.0 in
      let g : Gist = gist (put_back values page (tree m vs)) in
      let r = children_by (is_compared (showing m.kind)) g (gists (all_put_back values page us)) page ts
      (AllByRecursion (NodeKept page) (placed parent false (tree m vs))) (AllByRecursion (NodeKept page) (all_placed parent false us)) e f k
      (λ h. child_kept (is_compared (showing m.kind)) (is_text (writing m.kind)) values page parent m vs refl refl (no_frame m.kind d.0).0 w.0.0
      (λ c i. let t = h c in
      let a = element_found values page (original page m) m
      (inside_back m.mark (is_group m.kind) (original page m) (all_put_back values page vs)) t.0 i t.1 t.2 t.3 in
      node_kept values page parent (tree m vs) a.0 H (kept_for page m a.0 H i a.3 a.1) (kept_below parent m.id (not_zero_kept m.id a.3)) d.1 w.0 j.0
      (t.1 ∙ ap gist (sym a.2))))
      (λ rs x y z. nodes_kept values page parent us rs H x y z n.1 w.1 j.1) in
      each_join (NodeKept page) (placed parent false (tree m vs)) (all_placed parent false us) r.0 r.1

  children_kept : (values : Bool) (page : Page) (parent : ℕ) (us : Trees) → PageOf page → have_frame us ≡ false
      → AllByRecursion (Given values page) (all_placed parent false us) → AllByRecursion (NodeKept page) (all_in_new parent false us)
      → AllByRecursion (IsPages values page) (listed us) → AllByRecursion (NodeKept page) (all_placed parent false us)
  children_kept values page parent none H b s i a = tt
  children_kept values page parent (more (tree m vs) us) H b s i a =
      let w = each_split (Given values page) (placed parent false (tree m vs)) (all_placed parent false us) s in
      let j = each_split (NodeKept page) (in_new parent false (tree m vs)) (all_in_new parent false us) i in
      let n = or_false (is_frame m.kind || have_frame vs) (have_frame us) b in
      let d = or_false (is_frame m.kind) (have_frame vs) n.0 in
      each_join (NodeKept page) (placed parent false (tree m vs)) (all_placed parent false us)
      (marked_child_by (not (m.id == 0)) values page parent m vs refl (no_frame m.kind d.0).0 w.0 j.0
      (λ z x c. let r = a.0 z c in
      node_kept values page parent (tree m vs) r.0 H (kept_for page m r.0 H x z r.1) (kept_below parent m.id (not_zero_kept m.id z)) d.1 w.0 j.0 r.2))
      (children_kept values page parent us H n.1 w.1 j.1 a.1)
