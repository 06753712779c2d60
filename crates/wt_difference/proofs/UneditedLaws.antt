-- Where the edited tree is the page's own, there is no difference.
use Rattle.std.proofs.Common.{◌≡◌, ◌≢◌, ℕ, Bool, true, false, List, [], ◌∷◌, ◌++◌, refl, sym, ap, ap₂, ◌∙◌, subst}
use Rattle.std.specs.Prelude.{◌==◌, ◌&&◌, ◌||◌, not, if◌then◌else◌, Option, Some, None}
use Rattle.std.specs.List.{AllByRecursion}
use Rattle.std.specs.Str.{bytes_eq}
use Rattle.std.proofs.lemmas.Slice.Eq.{bytes_eq-Decides}
use Rattle.wt_tree.specs.declared.kind.Kind.{Kind}
use Rattle.wt_tree.specs.declared.kind.Kind.TheVariants as kind
use Rattle.wt_tree.specs.Kinds.{showing, writing, is_section, is_block}
use Rattle.wt_tree.specs.Opened.{opened_before, all_opened_before, opened, without_sections}
use Rattle.wt_recut.specs.Recut.{shows_block, any_shows_block}
use Rattle.wt_tree.specs.Tiling.{is_group, InPreorder}
use Rattle.wt_tree.specs.Tree.{Label, Tree, tree, Trees, none, more, label}
use Rattle.wt_checks.specs.Alike.{same_kind, same_attrs, same_data}
use Rattle.wt_checks.specs.BareSections.{IsBareSection, AreBareSections, HasBareSections}
use Rattle.wt_checks.specs.Places.{Place, placed, all_placed, places, is_content, is_body, Page, page_of, parent_below}
use Rattle.wt_checks.specs.PutBack.{is_frame, has_frame, have_frame, IsOneBody}
use Rattle.wt_checks.specs.Tokens.{is_text}
use Rattle.wt_checks.specs.Unmarked.{is_compared, own_character}
use Rattle.wt_checks.proofs.Compares.{kinds_decide, attrs_decide, data_decide}
use Rattle.wt_checks.proofs.Found.{Itself, each_itself, found_root}
use Rattle.wt_checks.proofs.InOrder.{not_zero_kept, test_equal, zero_of, kept_not_zero}
use Rattle.wt_checks.proofs.Lookups.{each_split}
use Rattle.wt_checks.proofs.Repeated.{or_false}
use Rattle.wt_checks.proofs.WhatIsKept.{increasing}
use Rattle.wt_difference.specs.Difference.{Region, Inside, Children, Changed, is_partner, stays_in, is_stable, numbers, numbers_in, same_inside, same_children, unless, changed, differing, all_differing, difference}
use Rattle.wt_difference.specs.Insides.{is_block_part, has_inside, is_separator, ends_inside, before_blocks, from_blocks, held}
use Rattle.wt_difference.specs.Tokens.{Token, characters, opens, closes, tokens, all_tokens, same_label, same_token, same_tokens}
use Rattle.wt_difference.proofs.Remarks.{block_no_group}
use Rattle.wt_difference.specs.Unedited.{SameLabel, GroupOr, IsUnedited, AreUnedited}

-- ---- tests

and_left : (a b : Bool) → (a && b) ≡ true → a ≡ true
and_left true b e = refl
and_left false b e = absurd (cc)

and_right : (a b : Bool) → (a && b) ≡ true → b ≡ true
and_right true b e = e
and_right false b e = absurd (cc)

and_both : (a b : Bool) → a ≡ true → b ≡ true → (a && b) ≡ true
and_both true b e f = f
and_both false b e f = absurd (cc)

zero_is : (n : ℕ) → (n == 0) ≡ true → n ≡ 0
zero_is n e = zero_of n (ap not e)

-- ---- where the nodes of a page stand

-- The page finds a node that has a number by it, under this parent, and so it finds what it holds.
abbrev mutual
  Stands : Page → ℕ → Tree → Type 0
  Stands page parent (tree l ts) =
      (l.id ≢ 0 → (w : Bool) × (page l.id ≡ Some (record { node = tree l ts; parent = parent; in_content = w })))
      × AllStand page (parent_below parent l.id) ts

  AllStand : Page → ℕ → Trees → Type 0
  AllStand page parent none = Unit {0}
  AllStand page parent (more t ts) = Stands page parent t × AllStand page parent ts

mutual
  stands : (page : Page) (parent : ℕ) (w : Bool) (t : Tree) → AllByRecursion (Itself page) (placed parent w t) → Stands page parent t
  stands page parent w (tree l ts) h = (
    λ z. (w, h.0 (not_zero_kept l.id z)),
    all_stand page (parent_below parent l.id) (w || is_content l.mark) ts h.1,
  )

  all_stand : (page : Page) (parent : ℕ) (w : Bool) (ts : Trees) → AllByRecursion (Itself page) (all_placed parent w ts) → AllStand page parent ts
  all_stand page parent w none h = tt
  all_stand page parent w (more t ts) h =
      let s = each_split (Itself page) (placed parent w t) (all_placed parent w ts) h in
      (stands page parent w t s.0, all_stand page parent w ts s.1)

-- what stands in sections stands in the body
mutual
  stands_before : (page : Page) (parent : ℕ) (t : Tree) (us : Trees) → IsBareSection t → Stands page parent t → AllStand page parent us
      → AllStand page parent (opened_before t us)
  stands_before page parent (tree l ts) us b h k =
      by_section (is_section l.kind)
      (λ e. all_stand_before page parent ts us (b e).2 (subst (λ n. AllStand page (parent_below parent n) ts) (b e).0 h.1) k) refl
    where
      by_section : (v : Bool) → (is_section l.kind ≡ true → AllStand page parent (all_opened_before ts us)) → is_section l.kind ≡ v
          → AllStand page parent (if v then all_opened_before ts us else more (tree l ts) us)
      by_section true f e = f e
      by_section false f e = (h, k)

  all_stand_before : (page : Page) (parent : ℕ) (ts us : Trees) → AreBareSections ts → AllStand page parent ts → AllStand page parent us
      → AllStand page parent (all_opened_before ts us)
  all_stand_before page parent none us b h k = k
  all_stand_before page parent (more t ts) us b h k =
      stands_before page parent t (all_opened_before ts us) b.0 h.0 (all_stand_before page parent ts us b.1 h.1 k)

-- ---- no sections

frame_section : (k : Kind) → is_frame k ≡ false → is_section k ≡ false
frame_section k e = (or_false (is_body k) (is_section k) e).1

unframed : (l : Label) (ts : Trees) → has_frame (tree l ts) ≡ false → (is_section l.kind ≡ false) × (have_frame ts ≡ false)
unframed l ts e = let s = or_false (is_frame l.kind) (have_frame ts) e in (frame_section l.kind s.0, s.1)

stays_closed : (us : Trees) → have_frame us ≡ false → opened us ≡ us
stays_closed none e = refl
stays_closed (more (tree m vs) us) e =
    let s = or_false (has_frame (tree m vs)) (have_frame us) e in
    ap (λ b. if b then all_opened_before vs (opened us) else more (tree m vs) (opened us)) (unframed m vs s.0).0
    ∙ ap (more (tree m vs)) (stays_closed us s.1)

closed_again : (ts us : Trees) → AreUnedited ts us → have_frame us ≡ false → opened ts ≡ ts
closed_again none none h e = refl
closed_again none (more u us) h e = absurd h
closed_again (more t ts) none h e = absurd h
closed_again (more (tree l vs) ts) (more (tree m ws) us) h e =
    let s = or_false (has_frame (tree m ws)) (have_frame us) e in
    ap (λ b. if b then all_opened_before vs (opened ts) else more (tree l vs) (opened ts)) (ap is_section h.0.0.kind ∙ (unframed m ws s.0).0)
    ∙ ap (more (tree l vs)) (closed_again ts us h.1 s.1)

-- ---- tokens

label_same : (l m : Label) → SameLabel l m → same_label l m ≡ true
label_same l m h =
    and_both (l.id == m.id) _ (test_equal l.id m.id h.id)
    (and_both (same_kind l.kind m.kind) _ ((kinds_decide l.kind m.kind).1 h.kind)
    (and_both (same_attrs l.attrs m.attrs) _ ((attrs_decide l.attrs m.attrs).1 h.attrs)
    (and_both (same_data l.mw m.mw) _ ((data_decide l.mw m.mw).1 h.mw)
    ((bytes_eq-Decides (own_character (writing l.kind) l.shown) (own_character (writing m.kind) m.shown)).1
    (ap₂ (λ k bs. own_character (writing k) bs) h.kind h.shown)))))

both_same : (xs ys zs ws : List Token) → same_tokens xs ys ≡ true → same_tokens zs ws ≡ true → same_tokens (xs ++ zs) (ys ++ ws) ≡ true
both_same [] [] zs ws e f = f
both_same [] (y ∷ ys) zs ws e f = absurd (cc)
both_same (x ∷ xs) [] zs ws e f = absurd (cc)
both_same (x ∷ xs) (y ∷ ys) zs ws e f =
    and_both (same_token x y) (same_tokens (xs ++ zs) (ys ++ ws)) (and_left (same_token x y) (same_tokens xs ys) e)
    (both_same xs ys zs ws (and_right (same_token x y) (same_tokens xs ys) e) f)

abbrev tokens_by : Bool → Bool → Bool → Label → List Token → List Token
tokens_by c x g l held = if c then (if x then characters l.shown ∷ [] else if g then opens l ∷ closes ∷ [] else opens l ∷ (held ++ closes ∷ [])) else []

by_tests : (c x g : Bool) (l m : Label) (xs ys : List Token) → SameLabel l m → (g ≡ false → same_tokens xs ys ≡ true)
    → same_tokens (tokens_by c x g l xs) (tokens_by c x g m ys) ≡ true
by_tests false x g l m xs ys h f = refl
by_tests true true g l m xs ys h f = and_both (bytes_eq l.shown m.shown) true ((bytes_eq-Decides l.shown m.shown).1 h.shown) refl
by_tests true false true l m xs ys h f = and_both (same_label l m) true (label_same l m h) refl
by_tests true false false l m xs ys h f =
    and_both (same_label l m) (same_tokens (xs ++ closes ∷ []) (ys ++ closes ∷ [])) (label_same l m h)
    (both_same xs ys (closes ∷ []) (closes ∷ []) (f refl) refl)

mutual
  tokens_same : (t u : Tree) → IsUnedited t u → same_tokens (tokens t) (tokens u) ≡ true
  tokens_same (tree l ts) (tree m us) h =
      ap (λ k. same_tokens (tokens (tree l ts)) (tokens_by (is_compared (showing k)) (is_text (writing k)) (is_group k) m (all_tokens us))) (sym h.0.kind)
      ∙ by_tests (is_compared (showing l.kind)) (is_text (writing l.kind)) (is_group l.kind) l m (all_tokens ts) (all_tokens us) h.0
      (λ g. all_tokens_same ts us (subst (λ b. GroupOr b (any_shows_block ts ≡ any_shows_block us) (AreUnedited ts us)) g h.1))

  all_tokens_same : (ts us : Trees) → AreUnedited ts us → same_tokens (all_tokens ts) (all_tokens us) ≡ true
  all_tokens_same none none h = refl
  all_tokens_same none (more u us) h = absurd h
  all_tokens_same (more t ts) none h = absurd h
  all_tokens_same (more t ts) (more u us) h =
      both_same (tokens t) (tokens u) (all_tokens ts) (all_tokens us) (tokens_same t u h.0) (all_tokens_same ts us h.1)

-- ---- the inside and what stands behind it

block_same : (t u : Tree) → IsUnedited t u → shows_block t ≡ shows_block u
block_same (tree l ts) (tree m us) h =
    by_group (is_group l.kind) refl ∙ ap (λ k. if is_group k then any_shows_block us else is_block k) h.0.kind
  where
    by_group : (g : Bool) → is_group l.kind ≡ g → (if g then any_shows_block ts else is_block l.kind) ≡ (if g then any_shows_block us else is_block l.kind)
    by_group true e = subst (λ b. GroupOr b (any_shows_block ts ≡ any_shows_block us) (AreUnedited ts us)) e h.1
    by_group false e = refl

kind_same : (t u : Tree) → IsUnedited t u → (label t).kind ≡ (label u).kind
kind_same (tree l ts) (tree m us) h = h.0.kind

ends_same : (t u : Tree) → IsUnedited t u → ends_inside t ≡ ends_inside u
ends_same t u h = ap₂ (λ k b. is_separator k || b) (kind_same t u h) (block_same t u h)

before_both : (b c : Bool) (t u : Tree) (ts us : Trees) → b ≡ c → IsUnedited t u → AreUnedited ts us
    → AreUnedited (if b then none else more t ts) (if c then none else more u us)
before_both true true t u ts us e h k = tt
before_both false false t u ts us e h k = (h, k)
before_both true false t u ts us e h k = absurd (cc)
before_both false true t u ts us e h k = absurd (cc)

before_unedited : (ts us : Trees) → AreUnedited ts us → AreUnedited (before_blocks ts) (before_blocks us)
before_unedited none none h = tt
before_unedited none (more u us) h = absurd h
before_unedited (more t ts) none h = absurd h
before_unedited (more t ts) (more u us) h =
    before_both (ends_inside t) (ends_inside u) t u (before_blocks ts) (before_blocks us) (ends_same t u h.0) h.0 (before_unedited ts us h.1)

from_both : (b c : Bool) (ts us vs ws : Trees) → b ≡ c → AreUnedited ts us → AreUnedited vs ws → AreUnedited (if b then ts else vs) (if c then us else ws)
from_both true true ts us vs ws e h k = h
from_both false false ts us vs ws e h k = k
from_both true false ts us vs ws e h k = absurd (cc)
from_both false true ts us vs ws e h k = absurd (cc)

from_unedited : (ts us : Trees) → AreUnedited ts us → AreUnedited (from_blocks ts) (from_blocks us)
from_unedited none none h = tt
from_unedited none (more u us) h = absurd h
from_unedited (more t ts) none h = absurd h
from_unedited (more t ts) (more u us) h =
    from_both (ends_inside t) (ends_inside u) (more t ts) (more u us) (from_blocks ts) (from_blocks us) (ends_same t u h.0) h (from_unedited ts us h.1)

either_stand : (page : Page) (n : ℕ) (b : Bool) (ts us : Trees) → AllStand page n ts → AllStand page n us → AllStand page n (if b then ts else us)
either_stand page n true ts us h k = h
either_stand page n false ts us h k = k

from_stands : (page : Page) (n : ℕ) (ts : Trees) → AllStand page n ts → AllStand page n (from_blocks ts)
from_stands page n none h = tt
from_stands page n (more t ts) h = either_stand page n (ends_inside t) (more t ts) (from_blocks ts) h (from_stands page n ts h.1)

-- ---- numbers of children

-- a node that the page has under this parent is its own partner
partner_itself : (page : Page) (holder : ℕ) (t u : Tree) → Stands page holder t → IsUnedited t u → (label u).id ≢ 0 → stays_in page holder u ≡ true
partner_itself page holder (tree l ts) (tree m us) h e z =
    let f = h.0 (λ x. z (sym e.0.id ∙ x)) in
    ap (λ n. is_partner holder (tree m us) (page n)) (sym e.0.id) ∙ ap (is_partner holder (tree m us)) f.1
    ∙ and_both (not (m.id == 0)) _ (not_zero_kept m.id z)
    (and_both (holder == holder) _ (test_equal holder holder refl)
    (and_both (same_kind l.kind m.kind) (same_attrs l.attrs m.attrs) ((kinds_decide l.kind m.kind).1 e.0.kind) ((attrs_decide l.attrs m.attrs).1 e.0.attrs)))

by_zero : (n : ℕ) (s b : Bool) → (n == 0) ≡ b → (n ≢ 0 → s ≡ true) → (if s then n else 0) ≡ n
by_zero n true b e f = refl
by_zero n false true e f = sym (zero_is n e)
by_zero n false false e f = let g : false ≡ true = f (kept_not_zero n (ap not e)) in absurd (cc)

number_same : (page : Page) (holder : ℕ) (t u : Tree) → Stands page holder t → IsUnedited t u
    → (if stays_in page holder u then (label u).id else 0) ≡ (label t).id
number_same page holder (tree l ts) (tree m us) h e =
    by_zero m.id (stays_in page holder (tree m us)) (m.id == 0) refl (partner_itself page holder (tree l ts) (tree m us) h e) ∙ sym e.0.id

numbers_same : (page : Page) (holder : ℕ) (ts us : Trees) → AllStand page holder ts → AreUnedited ts us → numbers_in page holder us ≡ numbers ts
numbers_same page holder none none h e = refl
numbers_same page holder none (more u us) h e = absurd e
numbers_same page holder (more t ts) none h e = absurd e
numbers_same page holder (more t ts) (more u us) h e =
    ap (λ k. if is_compared (showing k) then (if stays_in page holder u then (label u).id else 0) ∷ numbers_in page holder us else numbers_in page holder us)
    (sym (kind_same t u e.0))
    ∙ ap₂ (λ n ns. if is_compared (showing (label t).kind) then n ∷ ns else ns) (number_same page holder t u h.0 e.0) (numbers_same page holder ts us h.1 e.1)

-- ---- one node

same_numbers : (xs ys : List ℕ) → ys ≡ xs → bytes_eq xs ys ≡ true
same_numbers xs ys e = (bytes_eq-Decides xs ys).1 (sym e)

held_same : (page : Page) (holder : ℕ) (b c : Bool) (ts us : Trees) → b ≡ c → AllStand page holder ts → AreUnedited ts us → have_frame us ≡ false
    → bytes_eq (numbers (if b then from_blocks ts else opened ts)) (numbers_in page holder (if c then from_blocks us else opened us)) ≡ true
held_same page holder true true ts us e h k f =
    same_numbers (numbers (from_blocks ts)) (numbers_in page holder (from_blocks us))
    (numbers_same page holder (from_blocks ts) (from_blocks us) (from_stands page holder ts h) (from_unedited ts us k))
held_same page holder false false ts us e h k f =
    same_numbers (numbers (opened ts)) (numbers_in page holder (opened us))
    (ap (numbers_in page holder) (stays_closed us f) ∙ numbers_same page holder ts us h k ∙ ap numbers (sym (closed_again ts us k f)))
held_same page holder true false ts us e h k f = absurd (cc)
held_same page holder false true ts us e h k f = absurd (cc)

inside_same : (b c : Bool) (ts us : Trees) → b ≡ c → AreUnedited ts us
    → same_tokens (all_tokens (if b then before_blocks ts else none)) (all_tokens (if c then before_blocks us else none)) ≡ true
inside_same true true ts us e h = all_tokens_same (before_blocks ts) (before_blocks us) (before_unedited ts us h)
inside_same false false ts us e h = refl
inside_same true false ts us e h = absurd (cc)
inside_same false true ts us e h = absurd (cc)

nothing_if : (b : Bool) (r : Region) (t u : Tree) → b ≡ true → unless b r t u ≡ []
nothing_if true r t u e = refl
nothing_if false r t u e = absurd (cc)

-- what is said of a node of the page that is as it was
unchanged : (page : Page) (t u : Tree) (o : Option Place) (q : Place) → o ≡ Some q → q.node ≡ t → same_inside t u ≡ true → same_children page t u ≡ true
    → changed page u o ≡ []
unchanged page t u o q e f a b =
    ap (changed page u) e
    ∙ ap (λ x. unless (same_inside x u) Inside x u ++ unless (same_children page x u) Children x u) f
    ∙ ap₂ (λ xs ys. xs ++ ys) (nothing_if (same_inside t u) Inside t u a) (nothing_if (same_children page t u) Children t u b)

stable_number : (page : Page) (holder : ℕ) (u : Tree) (o : Option Place) → is_partner holder u o ≡ true → (label u).id ≢ 0
stable_number page holder u None e = absurd (cc)
stable_number page holder u (Some q) e = kept_not_zero (label u).id (and_left (not ((label u).id == 0)) _ e)

by_number : (parent id : ℕ) (b : Bool) → (id == 0) ≡ b → id ≢ 0 → (if b then parent else id) ≡ id
by_number parent id true e z = absurd (z (zero_is id e))
by_number parent id false e z = refl

below_number : (parent id : ℕ) → id ≢ 0 → parent_below parent id ≡ id
below_number parent id z = by_number parent id (id == 0) refl z

if_stable : (b : Bool) (cs : List Changed) → (b ≡ true → cs ≡ []) → (if b then cs else []) ≡ []
if_stable true cs f = f refl
if_stable false cs f = refl

-- ---- all nodes

mutual
  none_differs : (page : Page) (parent : ℕ) (t u : Tree) → Stands page parent t → IsUnedited t u → has_frame u ≡ false
      → (label u).id ≢ 0 → is_group (label u).kind ≡ false → differing page u ≡ []
  none_differs page parent (tree l ts) (tree m us) h e f z g =
      let s = h.0 (λ x. z (sym e.0.id ∙ x)) in
      let k : AreUnedited ts us = subst (λ b. GroupOr b (any_shows_block ts ≡ any_shows_block us) (AreUnedited ts us)) (ap is_group e.0.kind ∙ g) e.1 in
      let a : AllStand page m.id ts = subst (λ n. AllStand page n ts) (below_number parent l.id (λ x. z (sym e.0.id ∙ x)) ∙ e.0.id) h.1 in
      let c : have_frame us ≡ false = (unframed m us f).1 in
      ap₂ (λ xs ys. xs ++ ys)
      (unchanged page (tree l ts) (tree m us) (page m.id) (record { node = tree l ts; parent = parent; in_content = s.0 })
      (ap page (sym e.0.id) ∙ s.1) refl
      (inside_same (has_inside l.kind) (has_inside m.kind) ts us (ap has_inside e.0.kind) k)
      (held_same page m.id (has_inside l.kind) (has_inside m.kind) ts us (ap has_inside e.0.kind) a k c))
      (all_none_differ page m.id ts us a k c)

  all_none_differ : (page : Page) (holder : ℕ) (ts us : Trees) → AllStand page holder ts → AreUnedited ts us → have_frame us ≡ false
      → all_differing page holder us ≡ []
  all_none_differ page holder none none h e f = refl
  all_none_differ page holder none (more u us) h e f = absurd e
  all_none_differ page holder (more t ts) none h e f = absurd e
  all_none_differ page holder (more t ts) (more u us) h e f =
      let s = or_false (has_frame u) (have_frame us) f in
      ap₂ (λ xs ys. xs ++ ys)
      (if_stable (is_stable page holder u) (differing page u)
      (λ x. none_differs page holder t u h.0 e.0 s.0
      (stable_number page holder u (page (label u).id) (and_right (is_block_part (label u).kind) (stays_in page holder u) x))
      (block_no_group (label u).kind (and_left (is_block_part (label u).kind) (stays_in page holder u) x))))
      (all_none_differ page holder ts us h.1 e.1 s.1)

-- ---- the body

body_kind : (k : Kind) → k ≡ kind.Body → (is_group k ≡ false) × (has_inside k ≡ false)
body_kind k e = (ap is_group e, ap has_inside e)

body_same : (page : Page) (l m : Label) (ts us : Trees) → page 0 ≡ Some (record { node = tree l ts; parent = 0; in_content = false }) → l.kind ≡ kind.Body
    → l.id ≡ 0 → SameLabel l m → AllStand page 0 (opened ts) → AreUnedited (opened ts) us → have_frame us ≡ false → differing page (tree m us) ≡ []
body_same page l m ts us p b z e h k f =
    let i : m.id ≡ 0 = sym e.id ∙ z in
    let a : AllStand page m.id (opened ts) = subst (λ n. AllStand page n (opened ts)) (sym i) h in
    let v : has_inside l.kind ≡ false = (body_kind l.kind b).1 in
    let w : has_inside m.kind ≡ false = ap has_inside (sym e.kind) ∙ v in
    ap₂ (λ xs ys. xs ++ ys)
    (unchanged page (tree l ts) (tree m us) (page m.id) (record { node = tree l ts; parent = 0; in_content = false }) (ap page i ∙ p) refl
    (ap₂ (λ c d. same_tokens (all_tokens (if c then before_blocks ts else none)) (all_tokens (if d then before_blocks us else none))) v w)
    (ap₂ (λ c d. bytes_eq (numbers (if c then from_blocks ts else opened ts)) (numbers_in page m.id (if d then from_blocks us else opened us))) v w
    ∙ same_numbers (numbers (opened ts)) (numbers_in page m.id (opened us))
    (ap (numbers_in page m.id) (stays_closed us f) ∙ numbers_same page m.id (opened ts) us a k)))
    (all_none_differ page m.id (opened ts) us a k f)

pub nothing_differs : (page edited : Tree) → (label page).kind ≡ kind.Body → InPreorder page → HasBareSections page → IsOneBody edited
    → IsUnedited (without_sections page) edited → difference page edited ≡ []
nothing_differs (tree l ts) (tree m us) b i s o e =
    let h : AllStand (page_of (tree l ts)) (parent_below 0 l.id) ts =
    (stands (page_of (tree l ts)) 0 false (tree l ts) (each_itself (places (tree l ts)) (increasing (tree l ts) b i))).1 in
    let z : parent_below 0 l.id ≡ 0 = ap (parent_below 0) s.root in
    body_same (page_of (tree l ts)) l m ts us (found_root (tree l ts) s.root) b s.root e.0
    (all_stand_before (page_of (tree l ts)) 0 ts none s.sections (subst (λ n. AllStand (page_of (tree l ts)) n ts) z h) tt)
    (subst (λ v. GroupOr v (any_shows_block (opened ts) ≡ any_shows_block us) (AreUnedited (opened ts) us)) (body_kind l.kind b).0 e.1)
    o.alone
