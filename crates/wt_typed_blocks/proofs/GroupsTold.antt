-- What a group is to its neighbours is told by what it shows and by what is before it and after it.
use Rattle.std.proofs.Common.{arith, ◌≡◌, ◌⊎◌, ℕ, suc, ◌+◌, ◌-◌, ◌==◌, Bool, true, false, Option, Some, List, [], ◌∷◌, ◌++◌, length, take, drop, refl, sym, ap, ◌∙◌, inl, inr, append_assoc, length-append}
use Rattle.std.specs.Prelude.{◌↔◌, ◌&&◌, not, nat_lt, slice_get, codes}
use Rattle.std.specs.List.{AllByRecursion, list_all}
use Rattle.std.specs.Str.Iter.{HasSubslice}
use Rattle.std.proofs.Math.Seq.{take-append_seam, drop-append_seam}
use Rattle.std.proofs.lemmas.Bool.Decides.{nat_tests, Decides-eqb}
use Rattle.wt_span.specs.Bytes.{is_blank}
use Rattle.wt_span.specs.Characters as byte
use Rattle.wt_names.specs.Good.{begins, holds}
use Rattle.wt_names.proofs.Words.{anywhere_after, anywhere_found, begins-append, begins_rest}
use Rattle.wt_tree.specs.Tree.{Tree, label}
use Rattle.wt_tree.specs.declared.edit_shape.Sort.{Sort}
use Rattle.wt_tree.specs.declared.edit_shape.Sort.TheVariants as sort
use Rattle.wt_tree.specs.EditShapes.{edit_shape}
use Rattle.wt_original.specs.Kept.{Item, character, opaque, invisible, items, visible, shown, seen, seen_inside, is_character, is_blank_item, are_blank_to_end, last_of, ended_line, between_equals, transclusion, role_by, KeptNode}
use Rattle.wt_typed_blocks.specs.KeptPlaces.{LiesIn, StartsWith, EndsWith, IsBlankOne, AreBlank, AreBlankUp, IsToldGroup}
use Rattle.wt_typed_blocks.proofs.KeptPlaces.{either, both_true, or_right, and_both, no_length, began, ended_end}

-- ---- an item

is_it : (c : ℕ) (x : Item) → is_character (λ (d : ℕ). d == c) (Some x) ≡ true → x ≡ character c
is_it c (character d) e = ap character ((Decides-eqb d c).0 e)
is_it c opaque e = absurd (cc)
is_it c invisible e = absurd (cc)

itself : (c : ℕ) → (c == c) ≡ true
itself c = (Decides-eqb c c).1 refl

blank_to : (x : Item) → is_blank_item x ≡ true → IsBlankOne x
blank_to (character c) e = elim (either (c == byte.space) (c == byte.tab) e) [
  | inl h ↦ inl (ap character ((Decides-eqb c byte.space).0 h))
  | inr h ↦ inr (ap character ((Decides-eqb c byte.tab).0 h))
]
blank_to opaque e = absurd (cc)
blank_to invisible e = absurd (cc)

blank_from : (x : Item) → IsBlankOne x → is_blank_item x ≡ true
blank_from x (inl e) = ap is_blank_item e
blank_from x (inr e) = ap is_blank_item e

-- ---- the first and the last

starts : (c : ℕ) (xs : List Item) → (is_character (λ (d : ℕ). d == c) (slice_get xs 0) ≡ true) ↔ StartsWith c xs
starts c xs = (to xs, λ h. ap (λ (ys : List Item). is_character (λ (d : ℕ). d == c) (slice_get ys 0)) h.is ∙ itself c)
  where
    to : (ys : List Item) → is_character (λ (d : ℕ). d == c) (slice_get ys 0) ≡ true → StartsWith c ys
    to [] e = absurd (cc)
    to (y ∷ ys) e = record { rest = ys; is = ap (λ (z : Item). z ∷ ys) (is_it c y e) }

record LastItem (xs : List Item) : Type 0 where
  front : List Item
  last : Item
  is : xs ≡ front ++ last ∷ []

last_item : (x : Item) (xs : List Item) → LastItem (x ∷ xs)
last_item x [] = record { front = []; last = x; is = refl }
last_item x (y ∷ ys) =
    let r : LastItem (y ∷ ys) = last_item y ys in
    record { front = x ∷ r.front; last = r.last; is = ap (λ (zs : List Item). x ∷ zs) r.is }

one_more : (front : List Item) (x : Item) → length (front ++ x ∷ []) ≡ suc (length front)
one_more front x = let e : length (front ++ x ∷ []) ≡ length front + 1 = length-append front (x ∷ []) in omega (arith, e)

one_less : (front : List Item) (x : Item) → length (front ++ x ∷ []) - 1 ≡ length front
one_less front x = let e = one_more front x in omega (arith, e)

got_last : (front : List Item) (x : Item) → slice_get (front ++ x ∷ []) (length front) ≡ Some x
got_last [] x = refl
got_last (y ∷ front) x = got_last front x

got_within : (front : List Item) (x : Item) (rest : List Item) → slice_get ((front ++ x ∷ []) ++ rest) (length front) ≡ Some x
got_within [] x rest = refl
got_within (y ∷ front) x rest = got_within front x rest

last_is : (front : List Item) (x : Item) → last_of (front ++ x ∷ []) ≡ Some x
last_is front x = ap (λ (n : ℕ). slice_get (front ++ x ∷ []) n) (one_less front x) ∙ got_last front x

ends_to : (c : ℕ) (xs : List Item) → is_character (λ (d : ℕ). d == c) (last_of xs) ≡ true → EndsWith c xs
ends_to c [] e = absurd (cc)
ends_to c (x ∷ xs) e =
    let r : LastItem (x ∷ xs) = last_item x xs in
    let found : is_character (λ (d : ℕ). d == c) (Some r.last) ≡ true =
    sym (ap (λ (o : Option Item). is_character (λ (d : ℕ). d == c) o) (ap last_of r.is ∙ last_is r.front r.last)) ∙ e in
    record { front = r.front; is = r.is ∙ ap (λ (y : Item). r.front ++ y ∷ []) (is_it c r.last found) }

ends_from : (c : ℕ) (xs : List Item) → EndsWith c xs → is_character (λ (d : ℕ). d == c) (last_of xs) ≡ true
ends_from c xs h = ap (λ (o : Option Item). is_character (λ (d : ℕ). d == c) o) (ap last_of h.is ∙ last_is h.front (character c)) ∙ itself c

ends : (c : ℕ) (xs : List Item) → (is_character (λ (d : ℕ). d == c) (last_of xs) ≡ true) ↔ EndsWith c xs
ends c xs = (ends_to c xs, ends_from c xs)

-- ---- blanks

all_to : (xs : List Item) → list_all is_blank_item xs ≡ true → AllByRecursion IsBlankOne xs
all_to [] e = tt
all_to (x ∷ xs) e = let two = both_true (is_blank_item x) (list_all is_blank_item xs) e in (blank_to x two.0, all_to xs two.1)

all_from : (xs : List Item) → AllByRecursion IsBlankOne xs → list_all is_blank_item xs ≡ true
all_from [] h = refl
all_from (x ∷ xs) h = and_both (is_blank_item x) (list_all is_blank_item xs) (blank_from x h.0) (all_from xs h.1)

some_are : (x : Item) (xs : List Item) → not (length (x ∷ xs) == 0) ≡ true
some_are x xs = let no : (suc (length xs) == 0) ≡ false = grind (arith, nat_tests) in ap not no

blank_span_to : (xs : List Item) → (not (length xs == 0) && list_all is_blank_item xs) ≡ true → AreBlank xs
blank_span_to [] e = absurd (cc)
blank_span_to (x ∷ xs) e = record {
  first = x;
  rest = xs;
  some = refl;
  all = all_to (x ∷ xs) (both_true (not (length (x ∷ xs) == 0)) (list_all is_blank_item (x ∷ xs)) e).1;
}

blank_span_from : (xs : List Item) → AreBlank xs → (not (length xs == 0) && list_all is_blank_item xs) ≡ true
blank_span_from xs h =
    and_both (not (length xs == 0)) (list_all is_blank_item xs) (ap (λ (ys : List Item). not (length ys == 0)) h.some ∙ some_are h.first h.rest)
    (all_from xs h.all)

up_to_end : (xs : List Item) → are_blank_to_end xs ≡ true → AreBlankUp xs
up_to_end [] e = record { blanks = []; rest = []; are = refl; all = tt; up_to = inl refl }
up_to_end (character c ∷ xs) e = elim (either (c == byte.line_break) (is_blank c && are_blank_to_end xs) e) [
  | inl h ↦ at_break h
  | inr h ↦ further (both_true (is_blank c) (are_blank_to_end xs) h).0 (up_to_end xs (both_true (is_blank c) (are_blank_to_end xs) h).1)
]
  where
    at_break : (c == byte.line_break) ≡ true → AreBlankUp (character c ∷ xs)
    at_break h =
        let here : StartsWith byte.line_break (character c ∷ xs) =
        record { rest = xs; is = ap (λ (d : ℕ). character d ∷ xs) ((Decides-eqb c byte.line_break).0 h) } in
        record { blanks = []; rest = character c ∷ xs; are = refl; all = tt; up_to = inr here }

    further : is_blank c ≡ true → AreBlankUp xs → AreBlankUp (character c ∷ xs)
    further b r = record {
      blanks = character c ∷ r.blanks;
      rest = r.rest;
      are = ap (λ (ys : List Item). character c ∷ ys) r.are;
      all = (inl (blank_to (character c) b), r.all);
      up_to = r.up_to;
    }
up_to_end (opaque ∷ xs) e = absurd (cc)
up_to_end (invisible ∷ xs) e =
    let r = up_to_end xs e in
    record {
      blanks = invisible ∷ r.blanks;
      rest = r.rest;
      are = ap (λ (ys : List Item). invisible ∷ ys) r.are;
      all = (inr refl, r.all);
      up_to = r.up_to;
    }

rest_is : (xs : List Item) → (xs ≡ []) ⊎ StartsWith byte.line_break xs → are_blank_to_end xs ≡ true
rest_is xs (inl e) = ap are_blank_to_end e
rest_is xs (inr h) = ap are_blank_to_end h.is

one_blank : (x : Item) (xs : List Item) → IsBlankOne x ⊎ (x ≡ invisible) → are_blank_to_end xs ≡ true → are_blank_to_end (x ∷ xs) ≡ true
one_blank (character c) xs (inl b) e =
    or_right (c == byte.line_break) (is_blank c && are_blank_to_end xs) (and_both (is_blank c) (are_blank_to_end xs) (blank_from (character c) b) e)
one_blank (character c) xs (inr h) e = absurd (cc)
one_blank opaque xs (inl b) e = let no : false ≡ true = blank_from opaque b in absurd (cc)
one_blank opaque xs (inr h) e = absurd (cc)
one_blank invisible xs b e = e

blanks_up : (blanks rest : List Item) → AllByRecursion (λ (x : Item). IsBlankOne x ⊎ (x ≡ invisible)) blanks → are_blank_to_end rest ≡ true
    → are_blank_to_end (blanks ++ rest) ≡ true
blanks_up [] rest a e = e
blanks_up (x ∷ xs) rest a e = one_blank x (xs ++ rest) a.0 (blanks_up xs rest a.1 e)

up_from : (xs : List Item) → AreBlankUp xs → are_blank_to_end xs ≡ true
up_from xs h = ap are_blank_to_end h.are ∙ blanks_up h.blanks h.rest h.all (rest_is h.rest h.up_to)

-- ---- its place

line_told : (block : Tree) (f : KeptNode) (l : LiesIn block f) (rest closing : List Item) → l.seen_after ≡ rest ++ closing
    → length closing ≡ length (label block).closing → (ended_line block f.extent ≡ true) ↔ AreBlankUp rest
line_told block f l rest closing e long =
    let v : List Item = visible (items f.node) in
    let front : List Item = l.seen_before ++ v in
    let whole : seen block ≡ (front ++ rest) ++ closing =
    l.seen ∙ ap (λ (xs : List Item). l.seen_before ++ (v ++ xs)) e ∙ sym (append_assoc l.seen_before v (rest ++ closing)) ∙ sym (append_assoc front rest closing) in
    let size : length (seen block) ≡ length (front ++ rest) + length closing = ap length whole ∙ length-append (front ++ rest) closing in
    let less : length (seen block) - length (label block).closing ≡ length (front ++ rest) = omega (arith, size, long) in
    let inside : seen_inside block ≡ front ++ rest =
    ap (λ (n : ℕ). take n (seen block)) less ∙ ap (take (length (front ++ rest))) whole ∙ take-append_seam (front ++ rest) closing in
    let place : f.extent.to ≡ length front = l.to ∙ sym (length-append l.seen_before v) in
    let left : drop f.extent.to (seen_inside block) ≡ rest =
    ap (λ (n : ℕ). drop n (seen_inside block)) place ∙ ap (drop (length front)) inside ∙ drop-append_seam front rest in
    (λ h. up_to_end rest (sym (ap are_blank_to_end left) ∙ h), λ h. ap are_blank_to_end left ∙ up_from rest h)

at_seam : (before after : List Item) → slice_get (before ++ after) (length before) ≡ slice_get after 0
at_seam [] after = refl
at_seam (x ∷ before) after = at_seam before after

equals : Option Item → Bool
equals x = is_character (λ (d : ℕ). d == byte.equals_sign) x

before_to : (before after : List Item) → (nat_lt 0 (length before) && equals (slice_get (before ++ after) (length before - 1))) ≡ true
    → EndsWith byte.equals_sign before
unfolding equals
before_to [] after e = absurd (cc)
before_to (x ∷ xs) after e =
    let r : LastItem (x ∷ xs) = last_item x xs in
    let two = both_true (nat_lt 0 (length (x ∷ xs))) (equals (slice_get ((x ∷ xs) ++ after) (length (x ∷ xs) - 1))) e in
    let got : slice_get ((x ∷ xs) ++ after) (length (x ∷ xs) - 1) ≡ Some r.last =
    ap (λ (ys : List Item). slice_get (ys ++ after) (length ys - 1)) r.is
    ∙ ap (λ (n : ℕ). slice_get ((r.front ++ r.last ∷ []) ++ after) n) (one_less r.front r.last) ∙ got_within r.front r.last after in
    let found : is_character (λ (d : ℕ). d == byte.equals_sign) (Some r.last) ≡ true = sym (ap equals got) ∙ two.1 in
    record { front = r.front; is = r.is ∙ ap (λ (y : Item). r.front ++ y ∷ []) (is_it byte.equals_sign r.last found) }

before_from : (before after : List Item) → EndsWith byte.equals_sign before
    → (nat_lt 0 (length before) && equals (slice_get (before ++ after) (length before - 1))) ≡ true
unfolding equals
before_from before after h =
    let long : length before ≡ suc (length h.front) = ap length h.is ∙ one_more h.front (character byte.equals_sign) in
    let some : nat_lt 0 (length before) ≡ true = grind (arith, nat_tests, long) in
    let got : slice_get (before ++ after) (length before - 1) ≡ Some (character byte.equals_sign) =
    ap (λ (ys : List Item). slice_get (ys ++ after) (length ys - 1)) h.is
    ∙ ap (λ (n : ℕ). slice_get ((h.front ++ character byte.equals_sign ∷ []) ++ after) n) (one_less h.front (character byte.equals_sign))
    ∙ got_within h.front (character byte.equals_sign) after in
    and_both (nat_lt 0 (length before)) (equals (slice_get (before ++ after) (length before - 1))) some (ap equals got)

three : (u v w : Bool) → (u && (v && w)) ≡ true → ((u && v) ≡ true) × (w ≡ true)
three true true w e = (refl, e)
three true false w e = absurd (cc)
three false v w e = absurd (cc)

three_back : (u v w : Bool) → (u && v) ≡ true → w ≡ true → (u && (v && w)) ≡ true
three_back true true w e f = f
three_back true false w e f = absurd (cc)
three_back false v w e f = absurd (cc)

between_told : (block : Tree) (f : KeptNode) (l : LiesIn block f)
    → (between_equals block f.extent ≡ true) ↔ (EndsWith byte.equals_sign l.seen_before
    × StartsWith byte.equals_sign (visible (items f.node) ++ l.seen_after))
unfolding equals
between_told block f l =
    let after : List Item = visible (items f.node) ++ l.seen_after in
    let n : ℕ = length l.seen_before in
    let u : Bool = nat_lt 0 n in
    let v : Bool = equals (slice_get (l.seen_before ++ after) (n - 1)) in
    let w : Bool = equals (slice_get after 0) in
    let same : between_equals block f.extent ≡ (u && (v && w)) =
    ap (λ (k : ℕ). nat_lt 0 k && (equals (slice_get (seen block) (k - 1)) && equals (slice_get (seen block) k))) l.from
    ∙ ap (λ (xs : List Item). u && (equals (slice_get xs (n - 1)) && equals (slice_get xs n))) l.seen
    ∙ ap (λ (o : Option Item). u && (v && equals o)) (at_seam l.seen_before after) in
    let two = starts byte.equals_sign after in (
      λ e. let h = three u v w (sym same ∙ e) in (before_to l.seen_before after h.0, two.0 h.1),
      λ h. same ∙ three_back u v w (before_from l.seen_before after h.0) (two.1 h.1),
    )

-- ---- two slashes

held : (word text : List ℕ) → (holds word text ≡ true) ↔ HasSubslice text word
held word text = (
  λ e. let found = anywhere_found (begins word) text e in
      (found.0, drop (length word) found.1, found.2 ∙ ap (λ (xs : List ℕ). found.0 ++ xs) (begins_rest word found.1 found.3)),
  λ e. ap (holds word) e.2 ∙ anywhere_after (begins word) e.0 (word ++ e.1) (begins-append word e.1),
)

-- ---- the group

pub group_told : (block : Tree) (f : KeptNode) (l : LiesIn block f) → (edit_shape (label f.node).kind).sort ≡ sort.Group → IsToldGroup block f l
group_told block f l e = record {
  told = transclusion block f.extent f.node;
  role = ap (λ (s : Sort). role_by s block f.extent f.node) e;
  unseen = no_length (visible (items f.node));
  blank = (blank_span_to (visible (items f.node)), blank_span_from (visible (items f.node)));
  slashes = held (codes "//") (shown f.node);
  opens = starts byte.apostrophe (items f.node);
  closes = ends byte.apostrophe (items f.node);
  beginning = began block f l;
  line_end = line_told block f l;
  content_end = ended_end block f l;
  between = between_told block f l;
}
