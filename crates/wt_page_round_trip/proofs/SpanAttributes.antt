-- The attributes of a span stand in the order of its row, and their values are UTF-8.
use Rattle.std.proofs.Common.{◌≡◌, ℕ, zero, suc, ◌+◌, ◌-◌, ◌<◌, ◌==◌, Bool, true, false, Option, Some, None, List, [], ◌∷◌, ◌++◌, length, map, take, drop, nat_lt, codes, lit<, IsUtf8, refl, sym, subst, arith, append_assoc, inl, inr}
use Rattle.std.specs.Prelude.{if◌then◌else◌, option_map}
use Rattle.std.specs.Option.{option_or}
use Rattle.std.specs.List.{AllByRecursion, filter_map, cons_option}
use Rattle.std.proofs.lemmas.Bool.{eqb-true}
use Rattle.std.proofs.lemmas.Str.{IsUtf8-take, IsUtf8-drop}
use Rattle.wt_span.specs.Bytes.{is_blank}
use Rattle.wt_span.specs.Items.{Item}
use Rattle.wt_tree.specs.declared.kind.AttrName.{AttrName}
use Rattle.wt_tree.specs.declared.kind.AttrName.TheVariants as attr
use Rattle.wt_tree.specs.declared.kind.Kind.TheVariants as kind
use Rattle.wt_span.specs.declared.tag_name.TagName.{TagName}
use Rattle.wt_span.specs.declared.tag_name.TagName.TheVariants as name
use Rattle.wt_tree.specs.declared.row.Values.TheVariants as value
use Rattle.wt_tree.specs.declared.row.Own.{Own}
use Rattle.wt_tree.specs.Kinds.{own, spelling}
use Rattle.wt_names.proofs.Utf8.{utf8_around}
use Rattle.wt_attributes.specs.declared.class.ScanClass.{ScanClass}
use Rattle.wt_attributes.specs.declared.class.ScanClass.TheVariants as class
use Rattle.wt_attributes.specs.Attributes.{Named, Read, begins_any_case, after_word, name_at, quoted, bare, after_sign, opened, value_at, past_blanks, after_equals, value_in, assigned, with_name, with_value, attribute_at, going_on, readings, same_name, value_of, named_in, attributes}
use Rattle.wt_attributes.specs.Characters.{text_of}
use Rattle.wt_attributes.specs.Classes.{run_len}
use Rattle.wt_attributes.proofs.Fronts.{border_word}
use Rattle.wt_attributes.proofs.Runs.{border_run}
use Rattle.wt_schema.specs.Written.{IsUtf8IfAny, AreOwn, HasAttributes}
use Rattle.wt_context.specs.Heads.{attribute_items, attributes_of}
use Rattle.wt_page_round_trip.proofs.OfPage.{ArePageItems}
use Rattle.wt_page_round_trip.proofs.ShownTexts.{shown_utf8, same_text, blank_low}

-- ---- one attribute

-- the value that was read, or what is left behind a name
abbrev IsRead : Read (List ℕ) → Type 0
IsRead None = Unit {0}
IsRead (Some r) = IsUtf8 r.0

abbrev IsLeft : Read AttrName → Type 0
IsLeft None = Unit {0}
IsLeft (Some r) = IsUtf8 r.1

abbrev IsNamed : Read Named → Type 0
IsNamed None = Unit {0}
IsNamed (Some r) = IsUtf8 r.0.1

quoted_read : (c : ScanClass) (bs : List ℕ) → IsUtf8 bs → IsRead (quoted c bs)
unfolding quoted
quoted_read c bs u = by_test (nat_lt (run_len c bs) (length bs))
  where
    by_test : (t : Bool) → IsRead (if t then Some (take (run_len c bs) bs, drop (run_len c bs + 1) bs) else None)
    by_test true = IsUtf8-take bs (run_len c bs) u (border_run c bs u)
    by_test false = tt

bare_read : (bs : List ℕ) → IsUtf8 bs → IsRead (bare bs)
unfolding bare
bare_read bs u = by_test (nat_lt 0 (run_len class.Bare bs))
  where
    by_test : (t : Bool) → IsRead (if t then Some (take (run_len class.Bare bs) bs, drop (run_len class.Bare bs) bs) else None)
    by_test true = IsUtf8-take bs (run_len class.Bare bs) u (border_run class.Bare bs u)
    by_test false = tt

sign_left : (sign : ℕ) → sign < 128 → (bs : List ℕ) → IsUtf8 bs → IsUtf8IfAny (after_sign sign bs)
sign_left sign low [] u = tt
sign_left sign low (b ∷ bs) u = by_test (b == sign) refl
  where
    by_test : (t : Bool) → (b == sign) ≡ t → IsUtf8IfAny (if t then Some bs else None)
    by_test true e = let f : b ≡ sign = eqb-true b sign e in (utf8_around [] bs b (omega (arith, f, low)) u).1
    by_test false e = tt

opened_read : (o p : Option (List ℕ)) (bs : List ℕ) → IsUtf8IfAny o → IsUtf8IfAny p → IsUtf8 bs → IsRead (opened o p bs)
opened_read (Some inside) p bs h i u = quoted_read class.NoDouble inside h
opened_read None (Some inside) bs h i u = quoted_read class.NoSingle inside i
opened_read None None bs h i u = bare_read bs u

value_read : (bs : List ℕ) → IsUtf8 bs → IsRead (value_at bs)
unfolding value_at
value_read bs u = opened_read (after_sign 34 bs) (after_sign 39 bs) bs (sign_left 34 (lit< tt) bs u) (sign_left 39 (lit< tt) bs u) u

past_utf8 : (bs : List ℕ) → IsUtf8 bs → IsUtf8 (past_blanks bs)
unfolding past_blanks
past_utf8 bs u = IsUtf8-drop bs (run_len class.Blank bs) u (border_run class.Blank bs u)

past_if : (o : Option (List ℕ)) → IsUtf8IfAny o → IsUtf8IfAny (option_map past_blanks o)
past_if None h = tt
past_if (Some bs) h = past_utf8 bs h

in_read : (o : Option (List ℕ)) → IsUtf8IfAny o → IsRead (value_in o)
in_read None h = tt
in_read (Some bs) h = value_read bs h

assigned_read : (bs : List ℕ) → IsUtf8 bs → IsRead (assigned bs)
unfolding assigned
assigned_read bs u = in_read (after_equals (past_blanks bs)) (past_if (after_sign 61 (past_blanks bs))
    (sign_left 61 (lit< tt) (past_blanks bs) (past_utf8 bs u)))

word_left : (n : AttrName) (word bs : List ℕ) → 0 < length word → length word - 1 < 128 → IsUtf8 bs
    → (begins_any_case word bs ≡ true → IsUtf8 (drop (length word) bs)) → IsLeft (after_word n word bs)
word_left n word bs some few u h = by_test (begins_any_case word bs) refl
  where
    by_test : (t : Bool) → begins_any_case word bs ≡ t → IsLeft (if t then Some (n, drop (length word) bs) else None)
    by_test true e = h e
    by_test false e = tt

or_left : (a b : Read AttrName) → IsLeft a → IsLeft b → IsLeft (option_or a b)
or_left None b h i = i
or_left (Some x) b h i = h

behind_class : (bs : List ℕ) → IsUtf8 bs → begins_any_case (codes "class") bs ≡ true → IsUtf8 (drop (length (codes "class")) bs)
behind_class bs u e = IsUtf8-drop bs 5 u (border_word (codes "class") bs u (omega arith) (omega arith) e)

behind_colspan : (bs : List ℕ) → IsUtf8 bs → begins_any_case (codes "colspan") bs ≡ true → IsUtf8 (drop (length (codes "colspan")) bs)
behind_colspan bs u e = IsUtf8-drop bs 7 u (border_word (codes "colspan") bs u (omega arith) (omega arith) e)

behind_rowspan : (bs : List ℕ) → IsUtf8 bs → begins_any_case (codes "rowspan") bs ≡ true → IsUtf8 (drop (length (codes "rowspan")) bs)
behind_rowspan bs u e = IsUtf8-drop bs 7 u (border_word (codes "rowspan") bs u (omega arith) (omega arith) e)

behind_scope : (bs : List ℕ) → IsUtf8 bs → begins_any_case (codes "scope") bs ≡ true → IsUtf8 (drop (length (codes "scope")) bs)
behind_scope bs u e = IsUtf8-drop bs 5 u (border_word (codes "scope") bs u (omega arith) (omega arith) e)

behind_lang : (bs : List ℕ) → IsUtf8 bs → begins_any_case (codes "lang") bs ≡ true → IsUtf8 (drop (length (codes "lang")) bs)
behind_lang bs u e = IsUtf8-drop bs 4 u (border_word (codes "lang") bs u (omega arith) (omega arith) e)

behind_dir : (bs : List ℕ) → IsUtf8 bs → begins_any_case (codes "dir") bs ≡ true → IsUtf8 (drop (length (codes "dir")) bs)
behind_dir bs u e = IsUtf8-drop bs 3 u (border_word (codes "dir") bs u (omega arith) (omega arith) e)

name_left : (bs : List ℕ) → IsUtf8 bs → IsLeft (name_at bs)
unfolding name_at
name_left bs u =
    or_left (after_word attr.Class (codes "class") bs) _ (word_left attr.Class (codes "class") bs (omega arith) (omega arith) u (behind_class bs u))
    (or_left (after_word attr.Colspan (codes "colspan") bs) _ (word_left attr.Colspan (codes "colspan") bs (omega arith) (omega arith) u (behind_colspan bs u))
    (or_left (after_word attr.Rowspan (codes "rowspan") bs) _ (word_left attr.Rowspan (codes "rowspan") bs (omega arith) (omega arith) u (behind_rowspan bs u))
    (or_left (after_word attr.Scope (codes "scope") bs) _ (word_left attr.Scope (codes "scope") bs (omega arith) (omega arith) u (behind_scope bs u))
    (or_left (after_word attr.Lang (codes "lang") bs) (after_word attr.Dir (codes "dir") bs)
    (word_left attr.Lang (codes "lang") bs (omega arith) (omega arith) u (behind_lang bs u))
    (word_left attr.Dir (codes "dir") bs (omega arith) (omega arith) u (behind_dir bs u))))))

with_name_read : (n : AttrName) (o : Read (List ℕ)) → IsRead o → IsNamed (with_name n o)
with_name_read n None h = tt
with_name_read n (Some (v, rest)) h = h

with_value_read : (o : Read AttrName) → IsLeft o → IsNamed (with_value o)
with_value_read None h = tt
with_value_read (Some (n, bs)) h = with_name_read n (assigned bs) (assigned_read bs h)

attribute_read : (bs : List ℕ) → IsUtf8 bs → IsNamed (attribute_at bs)
unfolding attribute_at
attribute_read bs u = with_value_read (name_at bs) (name_left bs u)

-- ---- all of a text

abbrev AreNamed : List Named → Type 0
AreNamed rs = AllByRecursion (λ (a : Named). IsUtf8 a.1) rs

on_read : (o : Read Named) (bs : List ℕ) (after : ℕ → List Named) (without : List Named) → IsNamed o → ((n : ℕ) → AreNamed (after n)) → AreNamed without
    → AreNamed (going_on o bs after without)
on_read None bs after without h f g = g
on_read (Some (a, rest)) bs after without h f g = (h, f (length bs - length rest))

all_read : (fresh : Bool) (n : ℕ) (run bs : List ℕ) → IsUtf8 (run ++ bs) → (fresh ≡ true → IsUtf8 bs) → AreNamed (readings fresh n bs)
all_read fresh n run [] u f = tt
all_read fresh (suc n) run (b ∷ bs) u f = all_read false n (run ++ b ∷ []) bs (subst IsUtf8 (sym (append_assoc run (b ∷ []) bs)) u) (λ e. cc)
all_read false zero run (b ∷ bs) u f =
    all_read (is_blank b) zero (run ++ b ∷ []) bs (subst IsUtf8 (sym (append_assoc run (b ∷ []) bs)) u) (λ e. (utf8_around run bs b (blank_low b e) u).1)
all_read true zero run (b ∷ bs) u f =
    let v : IsUtf8 ((run ++ b ∷ []) ++ bs) = subst IsUtf8 (sym (append_assoc run (b ∷ []) bs)) u in
    on_read (attribute_at (b ∷ bs)) bs (λ n. readings false n bs) (readings (is_blank b) zero bs) (attribute_read (b ∷ bs) (f refl))
    (λ n. all_read false n (run ++ b ∷ []) bs v (λ e. cc))
    (all_read (is_blank b) zero (run ++ b ∷ []) bs v (λ e. (utf8_around run bs b (blank_low b e) u).1))

-- ---- those that count

value_utf8 : (n : AttrName) (rs : List Named) → AreNamed rs → IsUtf8IfAny (value_of n rs)
value_utf8 n [] h = tt
value_utf8 n ((m, v) ∷ rs) h = by_test (same_name m n) (value_utf8 n rs h.1)
  where
    by_test : (t : Bool) → IsUtf8IfAny (value_of n rs) → IsUtf8IfAny (if t then Some v else value_of n rs)
    by_test true i = h.0
    by_test false i = i

abbrev any_of : List AttrName → List Own
any_of ns = map (λ n. own n value.Any) ns

one_own : (n : AttrName) (ns : List AttrName) (o : Option (List ℕ)) (xs : List Named) → IsUtf8IfAny o → AreOwn (any_of ns) xs
    → AreOwn (any_of (n ∷ ns)) (cons_option (option_map (λ v. (n, v)) o) xs)
one_own n ns None xs h i = inr (refl, i)
one_own n ns (Some v) xs h i = inl (v, xs, refl, refl, refl, h, i)

all_own : (ns : List AttrName) (rs : List Named) → AreNamed rs → AreOwn (any_of ns) (filter_map (named_in rs) ns)
all_own [] rs h = refl
all_own (n ∷ ns) rs h = one_own n ns (value_of n rs) (filter_map (named_in rs) ns) (value_utf8 n rs h) (all_own ns rs h)

pub span_has : (xs : List Item) → ArePageItems xs → HasAttributes (kind.Tag name.Span) (attributes xs)
unfolding spelling attributes
span_has xs p =
    let u : IsUtf8 (text_of xs) = subst IsUtf8 (sym (same_text xs)) (shown_utf8 xs p) in
    all_own (attr.Class ∷ attr.Colspan ∷ attr.Rowspan ∷ attr.Scope ∷ attr.Lang ∷ attr.Dir ∷ []) (readings true 0 (text_of xs))
    (all_read true 0 [] (text_of xs) u (λ e. u))

-- a tag has the attributes of its row
pub tag_has : (m : TagName) (opening : List Item) → ArePageItems (attribute_items opening) → HasAttributes (kind.Tag m) (attributes_of m opening)
unfolding spelling
tag_has name.Sup opening p = refl
tag_has name.Sub opening p = refl
tag_has name.Small opening p = refl
tag_has name.S opening p = refl
tag_has name.U opening p = refl
tag_has name.Code opening p = refl
tag_has name.Span opening p = span_has (attribute_items opening) p
