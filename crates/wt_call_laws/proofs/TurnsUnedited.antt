-- A node that is the page's own has no place: nothing in it differs, and what it holds stays in its turn.
use Rattle.std.proofs.Common.{◌≡◌, ◌≢◌, ◌≤◌, ◌<◌, ◌⊎◌, ℕ, Bool, true, false, Some, None, List, [], ◌∷◌, ◌++◌, refl, sym, ap, ap₂, ◌∙◌, subst, inl, inr, arith, true≢false}
use Rattle.std.specs.Prelude.{◌==◌, ◌&&◌, ◌||◌, ⊤, not, if◌then◌else◌, Option}
use Rattle.std.specs.Str.{bytes_eq}
use Rattle.std.proofs.lemmas.Slice.Eq.{bytes_eq-Decides}
use Rattle.wt_tree.specs.declared.kind.Kind.{Kind}
use Rattle.wt_tree.specs.declared.kind.Kind.TheVariants as kind
use Rattle.wt_tree.specs.Kinds.{is_section, showing, writing}
use Rattle.wt_tree.specs.Opened.{all_opened_before, opened}
use Rattle.wt_tree.specs.Tiling.{is_group}
use Rattle.wt_tree.specs.Tree.{Label, Tree, tree, Trees, none, more, label}
use Rattle.wt_recut.specs.Recut.{any_shows_block, shows_block}
use Rattle.wt_tree.specs.Kinds.{is_block}
use Rattle.wt_checks.specs.Alike.{same_attrs, same_data, same_kind}
use Rattle.wt_checks.specs.Kept.{children}
use Rattle.wt_checks.specs.Places.{Page, Place, is_body}
use Rattle.wt_checks.specs.PutBack.{has_frame, have_frame, is_frame}
use Rattle.wt_checks.specs.Tokens.{is_text}
use Rattle.wt_checks.specs.Unmarked.{is_compared, own_character}
use Rattle.wt_checks.proofs.Compares.{attrs_decide, data_decide, kinds_decide}
use Rattle.wt_checks.proofs.Firsts.{if_true}
use Rattle.wt_checks.proofs.InOrder.{not_zero_kept, same_by, test_equal, test_other}
use Rattle.wt_checks.proofs.Repeated.{or_false}
use Rattle.wt_difference.specs.Difference.{is_partner, same_inside, stays_in}
use Rattle.wt_difference.specs.Insides.{before_blocks, behind_inside, ends_inside, from_blocks, has_inside, held, is_block_part, is_separator}
use Rattle.wt_difference.specs.Tokens.{Token, all_tokens, characters, closes, opens, same_label, same_token, same_tokens, tokens}
use Rattle.wt_difference.specs.Unedited.{AreUnedited, GroupOr, IsUnedited, SameLabel}
use Rattle.wt_places.specs.declared.reached.Reached.{Reached}
use Rattle.wt_places.specs.declared.slot.Slot.{Slot}
use Rattle.wt_places.specs.Places.{along, arrived, before_number, begun, behind_number, gap, gap_before, gap_end, if_in_turn, inside_stop, node_or, partner, places_in, rest_behind, some_count}
use Rattle.wt_places.specs.Turns.{is_in_turn, may_stay}
use Rattle.wt_places.proofs.Walking.{places_out}
use Rattle.wt_call_laws.specs.Choices.{IsRising, those_that_may_stay}
use Rattle.wt_call_laws.specs.Untouched.{AllAreNumberedBehind, AreNumbered, IsNumberedBehind, is_looked_into}
use Rattle.wt_call_laws.proofs.Choosing.{all_stay}
use Rattle.wt_call_laws.proofs.Standing.{AllStand, Rising, Stands}

-- ---- tests

and_left : (a b : Bool) → (a && b) ≡ true → a ≡ true
and_left true b e = refl
and_left false b e = absurd (true≢false (sym e))

and_right : (a b : Bool) → (a && b) ≡ true → b ≡ true
and_right true b e = e
and_right false b e = absurd (true≢false (sym e))

pub and_both : (a b : Bool) → a ≡ true → b ≡ true → (a && b) ≡ true
and_both true b e f = f
and_both false b e f = absurd (true≢false (sym e))

-- ---- kinds

looked_no_group : (k : Kind) → is_looked_into k ≡ true → is_group k ≡ false
looked_no_group kind.Group e = absurd (cc)
looked_no_group k e = refl

pub looked_block : (k : Kind) → is_block_part k ≡ true → is_looked_into k ≡ true
looked_block k e = ap (λ b. b || is_body k) e

-- ---- tokens

label_same : (l m : Label) → SameLabel l m → same_label l m ≡ true
label_same l m h =
    and_both (l.id == m.id) _ (test_equal l.id m.id h.id)
    (and_both (same_kind l.kind m.kind) _ ((kinds_decide l.kind m.kind).1 h.kind)
    (and_both (same_attrs l.attrs m.attrs) _ ((attrs_decide l.attrs m.attrs).1 h.attrs)
    (and_both (same_data l.mw m.mw) _ ((data_decide l.mw m.mw).1 h.mw)
    ((bytes_eq-Decides (own_character (writing l.kind) l.shown) (own_character (writing m.kind) m.shown)).1
    (ap₂ (λ k bs. own_character (writing k) bs) h.kind h.shown)))))

both_same : (xs ys zs ws : List Token) → same_tokens xs ys ≡ true → same_tokens zs ws ≡ true → same_tokens (xs ++ zs) (ys ++ ws) ≡ true
both_same [] [] zs ws e f = f
both_same [] (y ∷ ys) zs ws e f = absurd (cc)
both_same (x ∷ xs) [] zs ws e f = absurd (cc)
both_same (x ∷ xs) (y ∷ ys) zs ws e f =
    and_both (same_token x y) (same_tokens (xs ++ zs) (ys ++ ws)) (and_left (same_token x y) (same_tokens xs ys) e)
    (both_same xs ys zs ws (and_right (same_token x y) (same_tokens xs ys) e) f)

abbrev tokens_by : Bool → Bool → Bool → Label → List Token → List Token
tokens_by c x g l held = if c then (if x then characters l.shown ∷ [] else if g then opens l ∷ closes ∷ [] else opens l ∷ (held ++ closes ∷ [])) else []

by_tests : (c x g : Bool) (l m : Label) (xs ys : List Token) → SameLabel l m → (g ≡ false → same_tokens xs ys ≡ true)
    → same_tokens (tokens_by c x g l xs) (tokens_by c x g m ys) ≡ true
by_tests false x g l m xs ys h f = refl
by_tests true true g l m xs ys h f = and_both (bytes_eq l.shown m.shown) true ((bytes_eq-Decides l.shown m.shown).1 h.shown) refl
by_tests true false true l m xs ys h f = and_both (same_label l m) true (label_same l m h) refl
by_tests true false false l m xs ys h f =
    and_both (same_label l m) (same_tokens (xs ++ closes ∷ []) (ys ++ closes ∷ [])) (label_same l m h)
    (both_same xs ys (closes ∷ []) (closes ∷ []) (f refl) refl)

mutual
  tokens_same : (t u : Tree) → IsUnedited t u → same_tokens (tokens t) (tokens u) ≡ true
  tokens_same (tree l ts) (tree m us) h =
      ap (λ k. same_tokens (tokens (tree l ts)) (tokens_by (is_compared (showing k)) (is_text (writing k)) (is_group k) m (all_tokens us))) (sym h.0.kind)
      ∙ by_tests (is_compared (showing l.kind)) (is_text (writing l.kind)) (is_group l.kind) l m (all_tokens ts) (all_tokens us) h.0
      (λ g. all_tokens_same ts us (subst (λ b. GroupOr b (any_shows_block ts ≡ any_shows_block us) (AreUnedited ts us)) g h.1))

  all_tokens_same : (ts us : Trees) → AreUnedited ts us → same_tokens (all_tokens ts) (all_tokens us) ≡ true
  all_tokens_same none none h = refl
  all_tokens_same none (more u us) h = absurd h
  all_tokens_same (more t ts) none h = absurd h
  all_tokens_same (more t ts) (more u us) h =
      both_same (tokens t) (tokens u) (all_tokens ts) (all_tokens us) (tokens_same t u h.0) (all_tokens_same ts us h.1)

-- ---- the inside, and what comes after it

pub kind_same : (t u : Tree) → IsUnedited t u → (label t).kind ≡ (label u).kind
kind_same (tree l ts) (tree m us) h = h.0.kind

pub number_same : (t u : Tree) → IsUnedited t u → (label t).id ≡ (label u).id
number_same (tree l ts) (tree m us) h = h.0.id

block_same : (t u : Tree) → IsUnedited t u → shows_block t ≡ shows_block u
block_same (tree l ts) (tree m us) h =
    by_group (is_group l.kind) refl ∙ ap (λ k. if is_group k then any_shows_block us else is_block k) h.0.kind
  where
    by_group : (g : Bool) → is_group l.kind ≡ g → (if g then any_shows_block ts else is_block l.kind) ≡ (if g then any_shows_block us else is_block l.kind)
    by_group true e = subst (λ b. GroupOr b (any_shows_block ts ≡ any_shows_block us) (AreUnedited ts us)) e h.1
    by_group false e = refl

ends_same : (t u : Tree) → IsUnedited t u → ends_inside t ≡ ends_inside u
ends_same t u h = ap₂ (λ k b. is_separator k || b) (kind_same t u h) (block_same t u h)

before_both : (b c : Bool) (t u : Tree) (ts us : Trees) → b ≡ c → IsUnedited t u → AreUnedited ts us
    → AreUnedited (if b then none else more t ts) (if c then none else more u us)
before_both true true t u ts us e h k = tt
before_both false false t u ts us e h k = (h, k)
before_both true false t u ts us e h k = absurd (cc)
before_both false true t u ts us e h k = absurd (cc)

before_unedited : (ts us : Trees) → AreUnedited ts us → AreUnedited (before_blocks ts) (before_blocks us)
before_unedited none none h = tt
before_unedited none (more u us) h = absurd h
before_unedited (more t ts) none h = absurd h
before_unedited (more t ts) (more u us) h =
    before_both (ends_inside t) (ends_inside u) t u (before_blocks ts) (before_blocks us) (ends_same t u h.0) h.0 (before_unedited ts us h.1)

from_both : (b c : Bool) (ts us vs ws : Trees) → b ≡ c → AreUnedited ts us → AreUnedited vs ws → AreUnedited (if b then ts else vs) (if c then us else ws)
from_both true true ts us vs ws e h k = h
from_both false false ts us vs ws e h k = k
from_both true false ts us vs ws e h k = absurd (cc)
from_both false true ts us vs ws e h k = absurd (cc)

from_unedited : (ts us : Trees) → AreUnedited ts us → AreUnedited (from_blocks ts) (from_blocks us)
from_unedited none none h = tt
from_unedited none (more u us) h = absurd h
from_unedited (more t ts) none h = absurd h
from_unedited (more t ts) (more u us) h =
    from_both (ends_inside t) (ends_inside u) (more t ts) (more u us) (from_blocks ts) (from_blocks us) (ends_same t u h.0) h (from_unedited ts us h.1)

inside_same : (b c : Bool) (ts us : Trees) → b ≡ c → AreUnedited ts us
    → same_tokens (all_tokens (if b then before_blocks ts else none)) (all_tokens (if c then before_blocks us else none)) ≡ true
inside_same true true ts us e h = all_tokens_same (before_blocks ts) (before_blocks us) (before_unedited ts us h)
inside_same false false ts us e h = refl
inside_same true false ts us e h = absurd (cc)
inside_same false true ts us e h = absurd (cc)

-- ---- no sections

unframed : (l : Label) (ts : Trees) → has_frame (tree l ts) ≡ false → (is_section l.kind ≡ false) × (have_frame ts ≡ false)
unframed l ts e =
    let s = or_false (is_frame l.kind) (have_frame ts) e in ((or_false (is_body l.kind) (is_section l.kind) s.0).1, s.1)

pub no_frames : (u : Tree) → has_frame u ≡ false → have_frame (children u) ≡ false
no_frames (tree l ts) e = (unframed l ts e).1

closed : (ts us : Trees) → AreUnedited ts us → have_frame us ≡ false → opened ts ≡ ts
closed none none h e = refl
closed none (more u us) h e = absurd h
closed (more t ts) none h e = absurd h
closed (more (tree l vs) ts) (more (tree m ws) us) h e =
    let s = or_false (has_frame (tree m ws)) (have_frame us) e in
    ap (λ b. if b then all_opened_before vs (opened ts) else more (tree l vs) (opened ts)) (ap is_section h.0.0.kind ∙ (unframed m ws s.0).0)
    ∙ ap (more (tree l vs)) (closed ts us h.1 s.1)

-- ---- what comes after the inside is as it was

rising_less : (k m : ℕ) (ts : Trees) → k ≤ m → Rising m ts → Rising k ts
rising_less k m none le h = tt
rising_less k m (more t ts) le (inl h) = inl (h.0, rising_less k m ts le h.1)
rising_less k m (more t ts) le (inr h) = let lt = h.0 in inr (omega (arith, le, lt), h.1)

rising_tail : (k : ℕ) (t : Tree) (ts : Trees) → Rising k (more t ts) → Rising k ts
rising_tail k t ts (inl h) = h.1
rising_tail k t ts (inr h) = let lt = h.0 in rising_less k (label t).id ts (omega (arith, lt)) h.1

-- each of the page's nodes that has a number and is looked into has no place, in the edited one beside it
abbrev Still : Page → Trees → Trees → Type 0
Still page none none = ⊤
Still page none (more u us) = ⊥
Still page (more t ts) none = ⊥
Still page (more t ts) (more u us) = ((label t).id ≢ 0 → is_looked_into (label t).kind ≡ true → places_in page t u ≡ []) × Still page ts us

-- what is said of nodes that come after the inside
record Behind (page : Page) (holder : ℕ) (ts us : Trees) : Type 0 where
  still : Still page ts us
  stand : AllStand page holder ts
  rise : Rising 0 ts
  unedited : AreUnedited ts us
  unframed : have_frame us ≡ false

behind_both : (page : Page) (n : ℕ) (b c : Bool) (ts us vs ws : Trees) → b ≡ c → Behind page n ts us → Behind page n vs ws
    → Behind page n (if b then ts else vs) (if c then us else ws)
behind_both page n true true ts us vs ws e h k = h
behind_both page n false false ts us vs ws e h k = k
behind_both page n true false ts us vs ws e h k = absurd (cc)
behind_both page n false true ts us vs ws e h k = absurd (cc)

behind_blocks : (page : Page) (n : ℕ) (ts us : Trees) → Behind page n ts us → Behind page n (from_blocks ts) (from_blocks us)
behind_blocks page n none none h = h
behind_blocks page n none (more u us) h = absurd h.unedited
behind_blocks page n (more t ts) none h = absurd h.unedited
behind_blocks page n (more t ts) (more u us) h =
    behind_both page n (ends_inside t) (ends_inside u) (more t ts) (more u us) (from_blocks ts) (from_blocks us) (ends_same t u h.unedited.0) h
    (behind_blocks page n ts us (record {
      still = h.still.1;
      stand = h.stand.1;
      rise = rising_tail 0 t ts h.rise;
      unedited = h.unedited.1;
      unframed = (or_false (has_frame u) (have_frame us) h.unframed).1;
    }))

held_by : (page : Page) (n : ℕ) (b c : Bool) (ts us : Trees) → b ≡ c → Behind page n ts us
    → Behind page n (if b then from_blocks ts else opened ts) (if c then from_blocks us else us)
held_by page n true true ts us e h = behind_blocks page n ts us h
held_by page n false false ts us e h = subst (λ (vs : Trees). Behind page n vs us) (sym (closed ts us h.unedited h.unframed)) h
held_by page n true false ts us e h = absurd (cc)
held_by page n false true ts us e h = absurd (cc)

-- ---- each of these nodes may stay

-- what the page has for a node that is as it was
pub record Own (page : Page) (holder : ℕ) (t u : Tree) : Type 0 where
  pub stays : stays_in page holder u ≡ true
  pub partner : partner page u ≡ t

pub own : (page : Page) (holder : ℕ) (t u : Tree) → Stands page holder t → IsUnedited t u → (label t).id ≢ 0 → Own page holder t u
own page holder (tree l ts) (tree m us) h e z =
    let f = h.0 z in
    let found = ap page (sym e.0.id) ∙ f.1 in
    record {
      stays =
          ap (is_partner holder (tree m us)) found
          ∙ and_both (not (m.id == 0)) _ (not_zero_kept m.id (λ x. z (e.0.id ∙ x)))
          (and_both (holder == holder) _ (test_equal holder holder refl)
          (and_both (same_kind l.kind m.kind) (same_attrs l.attrs m.attrs) ((kinds_decide l.kind m.kind).1 e.0.kind)
          ((attrs_decide l.attrs m.attrs).1 e.0.attrs)));
      partner = ap (node_or (tree m us)) found;
    }

-- one that may stay has a number
stays_numbered : (holder : ℕ) (u : Tree) (o : Option Place) → is_partner holder u o ≡ true → (label u).id ≢ 0
stays_numbered holder u None e = absurd (true≢false (sym e))
stays_numbered holder u (Some q) e =
    λ x. let k = and_left (not ((label u).id == 0)) _ e in absurd (true≢false (sym k ∙ ap not (test_equal (label u).id 0 x)))

may_number : (page : Page) (holder : ℕ) (u : Tree) → may_stay page holder u ≡ true → (label u).id ≢ 0
may_number page holder u e =
    stays_numbered holder u (page (label u).id) (and_right (is_compared (showing (label u).kind)) (stays_in page holder u) e)

-- where none of them moved, those that may stay rise
pub choice_rises : (page : Page) (holder n k : ℕ) (ts us : Trees) → n ≤ k → Rising k ts → AreUnedited ts us
    → IsRising page holder n (those_that_may_stay page holder us) us
choice_rises page holder n k none none le r e = tt
choice_rises page holder n k none (more u us) le r e = absurd e
choice_rises page holder n k (more t ts) none le r e = absurd e
choice_rises page holder n k (more t ts) (more u us) le (inl r) e = by (may_stay page holder u) refl (choice_rises page holder n k ts us le r.1 e.1)
  where
    by : (s : Bool) → may_stay page holder u ≡ s → IsRising page holder n (those_that_may_stay page holder us) us
        → IsRising page holder n (s ∷ those_that_may_stay page holder us) (more u us)
    by true m rest = absurd (may_number page holder u m (sym (number_same t u e.0) ∙ r.0))
    by false m rest = rest
choice_rises page holder n k (more t ts) (more u us) le (inr r) e =
    by (may_stay page holder u) refl
    (λ i same. choice_rises page holder i (label t).id ts us (omega (arith, same)) r.1 e.1)
    (let lt = r.0 in choice_rises page holder n (label t).id ts us (omega (arith, le, lt)) r.1 e.1)
  where
    by : (s : Bool) → may_stay page holder u ≡ s
        → ((i : ℕ) → (label t).id ≡ i → IsRising page holder i (those_that_may_stay page holder us) us)
        → IsRising page holder n (those_that_may_stay page holder us) us
        → IsRising page holder n (s ∷ those_that_may_stay page holder us) (more u us)
    by true m next rest =
        let same = number_same t u e.0 in
        let lt = r.0 in (m, (omega (arith, le, lt, same), next (label u).id same))
    by false m next rest = rest

abbrev first_turn : List Bool → Bool
first_turn [] = false
first_turn (b ∷ bs) = b

-- so each that may stay does, in its turn
in_turn : (page : Page) (holder n : ℕ) (u : Tree) (us : Trees) → IsRising page holder n (those_that_may_stay page holder (more u us)) (more u us)
    → is_in_turn page holder n u us ≡ may_stay page holder u
in_turn page holder n u us h = ap first_turn (all_stay page holder n (more u us) h)

-- ---- the walk along them

-- The first nodes are the second ones, and before them some that show nothing and have no greater number.
abbrev Leads : ℕ → Trees → Trees → Type 0
Leads k none ts = ts ≡ none
Leads k (more x left) ts =
    (more x left ≡ ts) ⊎ ((is_compared (showing (label x).kind) ≡ false) × (((label x).id ≤ k) × Leads k left ts))

leads_itself : (k : ℕ) (ts : Trees) → Leads k ts ts
leads_itself k none = refl
leads_itself k (more t ts) = inl refl

first_is : (x t : Tree) (left ts : Trees) → more x left ≡ more t ts → (x ≡ t) × (left ≡ ts)
first_is x t left ts e = (cc, cc)

silent : (k : ℕ) (left : Trees) → Leads k left none → some_count left ≡ false
silent k none h = refl
silent k (more x left) (inl e) = absurd (cc)
silent k (more x left) (inr h) = ap (λ b. b || some_count left) h.0 ∙ silent k left h.1.1

-- before the one with this number nothing is counted, and what follows it is behind
count_by : (b : Bool) (x : Tree) (left : Trees) → is_compared (showing (label x).kind) ≡ false → some_count left ≡ false
    → some_count (if b then none else more x left) ≡ false
count_by true x left e f = refl
count_by false x left e f = ap (λ c. c || some_count left) e ∙ f

silent_before : (k n : ℕ) (left : Trees) (t : Tree) (ts : Trees) → Leads k left (more t ts) → (label t).id ≡ n → some_count (before_number n left) ≡ false
silent_before k n none t ts h e = absurd (cc)
silent_before k n (more x left) t ts (inl h) e =
    let same = first_is x t left ts h in
    ap (λ b. some_count (if b then none else more x (before_number n left))) (test_equal (label x).id n (ap (λ y. (label y).id) same.0 ∙ e))
silent_before k n (more x left) t ts (inr h) e =
    count_by ((label x).id == n) x (before_number n left) h.0 (silent_before k n left t ts h.1.1 e)

follows_behind : (k n : ℕ) (left : Trees) (t : Tree) (ts : Trees) → Leads k left (more t ts) → (label t).id ≡ n → k < n → behind_number n left ≡ ts
follows_behind k n none t ts h e lt = absurd (cc)
follows_behind k n (more x left) t ts (inl h) e lt =
    let same = first_is x t left ts h in
    ap (λ b. if b then left else behind_number n left) (test_equal (label x).id n (ap (λ y. (label y).id) same.0 ∙ e)) ∙ same.1
follows_behind k n (more x left) t ts (inr h) e lt =
    let le = h.1.0 in
    ap (λ b. if b then left else behind_number n left) (test_other (label x).id n (λ y. omega (arith, le, lt, y)))
    ∙ follows_behind k n left t ts h.1.1 e lt

-- one more is passed that shows nothing
leads_on : (k m : ℕ) (left : Trees) (t : Tree) (ts : Trees) → Leads k left (more t ts) → is_compared (showing (label t).kind) ≡ false
    → (label t).id ≤ m → k ≤ m → Leads m left ts
leads_on k m none t ts h c l le = absurd (cc)
leads_on k m (more x left) t ts (inl h) c l le =
    let same = first_is x t left ts h in
    let number = ap (λ y. (label y).id) same.0 in
    inr (
      ap (λ y. is_compared (showing (label y).kind)) same.0 ∙ c,
      (omega (arith, number, l), subst (λ (us : Trees). Leads m left us) same.1 (leads_itself m left)),
    )
leads_on k m (more x left) t ts (inr h) c l le = let less = h.1.0 in inr (h.0, (omega (arith, less, le), leads_on k m left t ts h.1.1 c l le))

-- how far one has come: nothing came, and the last number isn't greater
record Quiet (k : ℕ) (r : Reached) : Type 0 where
  came : r.came ≡ false
  number : r.number ≤ k

abbrev along_by : Page → Tree → Reached → Trees → Tree → Trees → Bool → List Slot
along_by page t r ts u us b =
    if_in_turn b (gap_before r ts (partner page u) u ++ if_in_turn (is_block_part (label u).kind) (places_in page (partner page u) u))
    ++ along page t false (arrived b (partner page u) r u) (rest_behind b u ts) us

no_gap : (b : Bool) (x y : ℕ) → b ≡ false → gap b x y ≡ []
no_gap true x y e = absurd (true≢false e)
no_gap false x y e = refl

both_false : (a b : Bool) → a ≡ false → b ≡ false → (a || b) ≡ false
both_false true b e f = absurd (true≢false e)
both_false false b e f = f

none_within : (b : Bool) (ss : List Slot) → (b ≡ true → ss ≡ []) → if_in_turn b ss ≡ []
none_within true ss f = f refl
none_within false ss f = refl

-- one that shows nothing, or that the page tells by its number
record Told (page : Page) (holder k : ℕ) (t u : Tree) : Type 0 where
  numbered : (label u).id ≢ 0
  greater : k < (label t).id
  pub partner : partner page u ≡ t

told : (page : Page) (holder k : ℕ) (t u : Tree) (ts : Trees) → Stands page holder t → Rising k (more t ts) → IsUnedited t u
    → may_stay page holder u ≡ true → Told page holder k t u
told page holder k t u ts h (inl r) e m = absurd (may_number page holder u m (sym (number_same t u e) ∙ r.0))
told page holder k t u ts h (inr r) e m =
    let z = may_number page holder u m in
    record { numbered = z; greater = r.0; partner = (own page holder t u h e (λ x. z (sym (number_same t u e) ∙ x))).partner }

hidden : (page : Page) (holder : ℕ) (t u : Tree) → Stands page holder t → IsUnedited t u
    → (is_compared (showing (label t).kind) ≡ true → (label t).id ≢ 0) → may_stay page holder u ≡ false → is_compared (showing (label t).kind) ≡ false
hidden page holder t u h e n m = by (is_compared (showing (label t).kind)) refl
  where
    by : (c : Bool) → is_compared (showing (label t).kind) ≡ c → c ≡ false
    by true c =
        let s = own page holder t u h e (n c) in
        let k = and_both (is_compared (showing (label u).kind)) (stays_in page holder u) (ap (λ x. is_compared (showing x)) (sym (kind_same t u e)) ∙ c) s.stays in
        absurd (true≢false (sym k ∙ m))
    by false c = refl

-- the numbers that follow a node that was passed
record Passed (k : ℕ) (t : Tree) (ts : Trees) : Type 0 where
  last : ℕ
  rise : Rising last ts
  least : k ≤ last
  past : (label t).id ≤ last

passed : (k : ℕ) (t : Tree) (ts : Trees) → Rising k (more t ts) → Passed k t ts
passed k t ts (inl h) = let z = h.0 in record { last = k; rise = h.1; least = omega arith; past = omega (arith, z) }
passed k t ts (inr h) = let lt = h.0 in record { last = (label t).id; rise = h.1; least = omega (arith, lt); past = omega arith }

below_number : (holder id : ℕ) (v : Bool) → (id == 0) ≡ v → id ≢ 0 → (if v then holder else id) ≡ id
below_number holder id true e z = absurd (z (same_by id 0 e))
below_number holder id false e z = refl

pub holds : (page : Page) (holder : ℕ) (x : Tree) → (label x).id ≢ 0 → Stands page holder x → Rising 0 (children x) × AllStand page (label x).id (children x)
holds page holder (tree l ts) z a = (a.1.0, subst (λ (n : ℕ). AllStand page n ts) (below_number holder l.id (l.id == 0) refl z) a.1.1)

rising_behind : (k : ℕ) (x : Tree) (ts : Trees) → (label x).id ≢ 0 → Rising k (more x ts) → Rising (label x).id ts
rising_behind k x ts z (inl h) = absurd (z h.0)
rising_behind k x ts z (inr h) = h.1

-- one node more
none_by : (page : Page) (t : Tree) (k : ℕ) (r : Reached) (left : Trees) (x : Tree) (ts : Trees) (u : Tree) (us : Trees) → Stands page (label t).id x
    → Rising k (more x ts) → (is_compared (showing (label x).kind) ≡ true → (label x).id ≢ 0) → IsUnedited x u → Leads k left (more x ts) → Quiet k r
    → (s : Bool) → may_stay page (label t).id u ≡ s → is_in_turn page (label t).id r.number u us ≡ may_stay page (label t).id u
    → ((label x).id ≢ 0 → is_looked_into (label x).kind ≡ true → places_in page x u ≡ [])
    → ((i : ℕ) (p : Reached) (rest : Trees) → Rising i ts → Leads i rest ts → Quiet i p → along page t false p rest us ≡ [])
    → along page t false r left (more u us) ≡ []
none_by page t k r left x ts u us a rise n e leads q true m turn inner next =
    let d = told page (label t).id k x u ts a rise e m in
    let same = number_same x u e in
    let greater = d.greater in
    let here = number_same x u e in
    ap (along_by page t r left u us) (turn ∙ m)
    ∙ ap₂ (λ (xs ys : List Slot). xs ++ ys)
    (ap₂ (λ (xs ys : List Slot). xs ++ ys)
    (no_gap (r.came || some_count (before_number (label u).id left)) r.end (gap_end (partner page u))
    (both_false r.came (some_count (before_number (label u).id left)) q.came (silent_before k (label u).id left x ts leads same)))
    (none_within (is_block_part (label u).kind) (places_in page (partner page u) u)
    (λ y. ap (λ (p : Tree). places_in page p u) d.partner
    ∙ inner (λ z. d.numbered (sym same ∙ z)) (ap is_looked_into (kind_same x u e) ∙ looked_block (label u).kind y))))
    (ap (λ (rest : Trees). along page t false (arrived true (partner page u) r u) rest us) (follows_behind k (label u).id left x ts leads same (omega (arith, greater, here)))
    ∙ next (label x).id (arrived true (partner page u) r u) ts (rising_behind k x ts (λ z. d.numbered (sym same ∙ z)) rise) (leads_itself (label x).id ts)
    (record { came = refl; number = omega (arith, here) }))
none_by page t k r left x ts u us a rise n e leads q false m turn inner next =
    let c = hidden page (label t).id x u a e n m in
    let p = passed k x ts rise in
    let number = q.number in
    let least = p.least in
    ap (along_by page t r left u us) (turn ∙ m)
    ∙ next p.last (arrived false (partner page u) r u) left p.rise (leads_on k p.last left x ts leads c p.past p.least)
    (record {
      came = both_false r.came (is_compared (showing (label u).kind)) q.came (ap (λ y. is_compared (showing y)) (sym (kind_same x u e)) ∙ c);
      number = omega (arith, number, least);
    })

none_along : (page : Page) (t : Tree) (k : ℕ) (r : Reached) (left ts us : Trees) → Still page ts us → AllStand page (label t).id ts → Rising k ts → AreNumbered ts
    → AreUnedited ts us → Leads k left ts → Quiet k r → along page t false r left us ≡ []
none_along page t k r left none none s a rise n e leads q =
    no_gap (r.came || some_count left) r.end (inside_stop (label t).ranges) (both_false r.came (some_count left) q.came (silent k left leads))
none_along page t k r left none (more u us) s a rise n e leads q = absurd e
none_along page t k r left (more x ts) none s a rise n e leads q = absurd e
none_along page t k r left (more x ts) (more u us) s a rise n e leads q =
    none_by page t k r left x ts u us a.0 rise n.0 e.0 leads q (may_stay page (label t).id u) refl
    (in_turn page (label t).id r.number u us (choice_rises page (label t).id r.number k (more x ts) (more u us) q.number rise e)) s.0
    (λ i p rest y z w. none_along page t i p rest ts us s.1 a.1 y n.1 e.1 z w)

mutual
  -- a node that is the page's own has no place
  pub none_in : (page : Page) (t u : Tree) → AllStand page (label t).id (children t) → Rising 0 (children t) → IsNumberedBehind t → is_looked_into (label t).kind ≡ true
      → IsUnedited t u → have_frame (children u) ≡ false → places_in page t u ≡ []
  none_in page (tree l ts) (tree m us) a rise n g e f =
      let b : AreNumbered (held (tree l ts)) × AllAreNumberedBehind ts =
      subst (λ v. GroupOr v (AreNumbered (held (tree l ts)) × AllAreNumberedBehind ts) ⊤) g n in
      let k : AreUnedited ts us = subst (λ v. GroupOr v (any_shows_block ts ≡ any_shows_block us) (AreUnedited ts us)) (looked_no_group l.kind g) e.1 in
      let h = held_by page l.id (has_inside l.kind) (has_inside m.kind) ts us (ap has_inside e.0.kind)
      (record { still = all_still page l.id ts us a b.1 k f; stand = a; rise = rise; unedited = k; unframed = f }) in
      places_out page (tree l ts) (tree m us)
      ∙ ap₂ (λ (xs ys : List Slot). xs ++ ys)
      (if_true (same_inside (tree l ts) (tree m us)) _ _ (inside_same (has_inside l.kind) (has_inside m.kind) ts us (ap has_inside e.0.kind) k))
      (none_along page (tree l ts) 0 (begun (tree l ts)) (held (tree l ts)) (held (tree l ts)) (behind_inside (tree m us)) h.still h.stand h.rise b.0 h.unedited
      (leads_itself 0 (held (tree l ts))) (record { came = refl; number = omega arith }))

  all_still : (page : Page) (parent : ℕ) (ts us : Trees) → AllStand page parent ts → AllAreNumberedBehind ts → AreUnedited ts us → have_frame us ≡ false
      → Still page ts us
  all_still page parent none none a b e f = tt
  all_still page parent none (more u us) a b e f = absurd e
  all_still page parent (more t ts) none a b e f = absurd e
  all_still page parent (more t ts) (more u us) a b e f =
      let s = or_false (has_frame u) (have_frame us) f in (
        λ z g. let h = holds page parent t z a.0 in none_in page t u h.1 h.0 b.0 g e.0 (no_frames u s.0),
        all_still page parent ts us a.1 b.1 e.1 s.1,
      )
