-- Where a lexeme ends: with a byte of its own, or with the text, if it is a comment or a hidden part that nothing there ends.
use Rattle.std.proofs.Common.{arith, ◌≡◌, ◌⊎◌, inl, inr, ℕ, zero, suc, ◌+◌, ◌-◌, ◌<◌, ◌≤◌, Bool, true, false, Option, Some, None, List, [], ◌∷◌, ◌++◌, length, get_or, take, drop, nat_lt, refl, sym, ap, ◌∙◌, subst, length-drop, codes}
use Rattle.std.specs.Prelude.{◌==◌, ◌&&◌, ◌||◌, if◌then◌else◌, slice_index}
use Rattle.std.specs.Option.{option_or, unwrap_or}
use Rattle.std.specs.List.{list_all, prefix_len}
use Rattle.std.proofs.lemmas.Bool.{cases_lt}
use Rattle.wt_span.specs.declared.form.ItemForm.{ItemForm}
use Rattle.wt_span.specs.declared.form.ItemForm.TheVariants as form
use Rattle.wt_span.specs.declared.form.LexKind.{LexKind}
use Rattle.wt_span.specs.declared.form.LexKind.TheVariants as lex
use Rattle.wt_span.specs.declared.form.Mode.TheVariants.{Page}
use Rattle.wt_span.specs.Bytes.{is_break, begins, through, blank_len}
use Rattle.wt_span.specs.Comments.{comment_len, comment_line_len, remarks_len}
use Rattle.wt_span.specs.Entities.{entity_at}
use Rattle.wt_span.specs.Items.{Item, char, whole, is_mark_form, is_mark, source, sources, items_by}
use Rattle.wt_span.specs.Lexemes.{Word, as_word, comment_line_word, entity_word, run_at, sign_at, sign_word, form_at}
use Rattle.wt_span.specs.Tags.{Tag, opening_tag, closing_tag, with_inside, is_nowiki, raw_len, hides, is_left_out, hidden_len, opening_include, closing_include, include_at}
use Rattle.wt_lex.proofs.AllForms.{form_fits}
use Rattle.wt_lex.proofs.Begins.{and_right, byte_is, is_within, begins_len}
use Rattle.wt_lex.proofs.TagForms.{OptTag, opening_fits, closing_fits, EndsTag, OptEnds}
use Rattle.wt_expand.specs.PageItems.{raw_form_by, form_of, page_items}
use Rattle.wt_typed_blocks.specs.Reading.{stands}
use Rattle.wt_text_edit_laws.specs.LonePages.{page_chars}
use Rattle.wt_text_edit_laws.specs.TextBetween.{EndsBy, is_end, AreEnded, ends_comment}
use Rattle.wt_text_edit_laws.proofs.Between.Fronts.{items_from, byte_from, form_from}
use Rattle.wt_text_edit_laws.proofs.Cuts.ItemCuts.{page_from}
use Rattle.wt_beside_laws.specs.OpenEnds.{MarksEnd}
use Rattle.wt_beside_laws.proofs.Own.Words.{LexemeEnds, OptWordEnds, comment_ends, tag_end, inside_end, raw_end, reference_ends, reference_word, ends_taken}

-- ---- a comment and a hidden part that go on to the text's end

pub record OpenComment (bs : List ℕ) (n : ℕ) : Type 0 where
  pub whole : n ≡ length bs
  pub opens : begins (codes "<!--") bs ≡ true
  pub nowhere : stands (codes "-->") (drop 4 bs) ≡ false

pub record OpenHidden (bs : List ℕ) (n : ℕ) : Type 0 where
  pub whole : n ≡ length bs
  pub tag : Tag
  pub is : opening_tag bs ≡ Some tag
  pub hidden : hides Page tag.name ≡ true
  pub unended : with_inside tag bs ≡ None

-- ---- the last byte

-- a line of comments begins behind a line break, and ends with its own
pub record LineEnds (a : Bool) (bs : List ℕ) (n : ℕ) : Type 0 where
  pub after : a ≡ true
  pub size : remarks_len 0 bs + 1 ≡ n
  pub some : 0 < n
  pub within : n ≤ length bs
  pub last : is_break (get_or bs (n - 1) 0) ≡ true

-- of a lexeme that is one item; a sign ends with one of its own bytes
abbrev pub AnyEnds : Bool → LexKind → List ℕ → ℕ → Type 0
AnyEnds a lex.Chars bs n = ⊥
AnyEnds a lex.CommentLine bs n = LineEnds a bs n
AnyEnds a lex.Comment bs n = OpenComment bs n ⊎ EndsTag bs n
AnyEnds a lex.Raw bs n = EndsTag bs n
AnyEnds a lex.Include bs n = EndsTag bs n
AnyEnds a lex.Hidden bs n = OpenHidden bs n ⊎ EndsTag bs n
AnyEnds a (lex.Entity c) bs n = LexemeEnds bs n
AnyEnds a lex.Opens bs n = Unit {0}
AnyEnds a lex.Closes bs n = Unit {0}
AnyEnds a lex.LinkOpen bs n = Unit {0}
AnyEnds a lex.LinkClose bs n = Unit {0}
AnyEnds a lex.Pipe bs n = Unit {0}
AnyEnds a lex.Equals bs n = Unit {0}

abbrev OptAnyEnds : Bool → List ℕ → Option Word → Type 0
OptAnyEnds a bs None = Unit {0}
OptAnyEnds a bs (Some (kind, n)) = AnyEnds a kind bs n

or_any : (a : Bool) (bs : List ℕ) (o p : Option Word) → OptAnyEnds a bs o → OptAnyEnds a bs p → OptAnyEnds a bs (option_or o p)
or_any a bs None p f g = g
or_any a bs (Some w) p f g = f

-- ---- lines of comments

line_any : (a : Bool) (bs : List ℕ) → OptAnyEnds a bs (comment_line_word a bs)
unfolding comment_line_len
line_any false bs = tt
line_any true bs = by (nat_lt (blank_len bs) (remarks_len 0 bs) && is_break (slice_index bs (remarks_len 0 bs))) refl
  where
    by : (t : Bool) → (nat_lt (blank_len bs) (remarks_len 0 bs) && is_break (slice_index bs (remarks_len 0 bs))) ≡ t
        → OptAnyEnds true bs (as_word lex.CommentLine (if t then Some (remarks_len 0 bs + 1) else None))
    by false e = tt
    by true e =
        let n : ℕ = remarks_len 0 bs in
        let last = byte_is bs n 10 (and_right (nat_lt (blank_len bs) n) (is_break (slice_index bs n)) e) in
        let there = is_within bs n 10 last (omega arith) in
        let z : n + 1 - 1 ≡ n = omega arith in
        record {
          after = refl;
          size = refl;
          some = omega arith;
          within = omega (arith, there);
          last = ap (λ (i : ℕ). is_break (get_or bs i 0)) z ∙ ap is_break last;
        }

-- ---- comments

nowhere_through : (w ys : List ℕ) → stands w ys ≡ false → through w ys ≡ length ys
nowhere_through w [] e = refl
nowhere_through w (b ∷ ys) e = by (begins w (b ∷ ys)) e (λ f. nowhere_through w ys f)
  where
    by : (t : Bool) → (t || stands w ys) ≡ false → (stands w ys ≡ false → through w ys ≡ length ys) → (if t then length w else 1 + through w ys) ≡ suc (length ys)
    by true f go = absurd (cc)
    by false f go = let r = go f in omega (arith, r)

-- it has that many bytes
pub open_comment_len : (bs : List ℕ) → begins (codes "<!--") bs ≡ true → stands (codes "-->") (drop 4 bs) ≡ false → 4 ≤ length bs → comment_len bs ≡ Some (length bs)
unfolding comment_len
open_comment_len bs e f le =
    let r = nowhere_through (codes "-->") (drop 4 bs) f in
    let size : 4 + through (codes "-->") (drop 4 bs) ≡ length bs = omega (arith, r, length-drop 4 bs, le) in
    ap (λ (t : Bool). if t then Some (4 + through (codes "-->") (drop 4 bs)) else None) e ∙ ap Some size

comment_any : (a : Bool) (bs : List ℕ) → OptAnyEnds a bs (as_word lex.Comment (comment_len bs))
unfolding comment_len
comment_any a bs = by (begins (codes "<!--") bs) refl (stands (codes "-->") (drop 4 bs)) refl
  where
    m : ℕ
    m = through (codes "-->") (drop 4 bs)

    closed : begins (codes "<!--") bs ≡ true → stands (codes "-->") (drop 4 bs) ≡ true → EndsTag bs (4 + m)
    closed e f =
        let ends : ends_comment bs ≡ true = ap (λ (t : Bool). if t then stands (codes "-->") (drop 4 bs) else true) e ∙ f in
        subst (λ (t : Bool). OptEnds bs (if t then Some (4 + m) else None)) e (comment_ends bs ends)

    by : (t : Bool) → begins (codes "<!--") bs ≡ t → (u : Bool) → stands (codes "-->") (drop 4 bs) ≡ u
        → OptAnyEnds a bs (as_word lex.Comment (if t then Some (4 + m) else None))
    by false e u f = tt
    by true e true f = inr (closed e f)
    by true e false f =
        let r = nowhere_through (codes "-->") (drop 4 bs) f in
        let four = begins_len (codes "<!--") bs e in
        inl (record { whole = omega (arith, r, length-drop 4 bs, four); opens = e; nowhere = f })

-- ---- tags

raw_any : (a : Bool) (bs : List ℕ) (o : Option ℕ) → OptEnds bs o → OptAnyEnds a bs (as_word lex.Raw o)
raw_any a bs None e = tt
raw_any a bs (Some n) e = e

opening_any : (a : Bool) (bs : List ℕ) (o : Option Tag) → opening_tag bs ≡ o → OptTag bs o → OptAnyEnds a bs (opening_include Page o bs)
opening_any a bs None e f = tt
opening_any a bs (Some t) e f = by (hides Page t.name) refl (is_left_out Page t.name)
  where
    ends : (o : Option ℕ) → with_inside t bs ≡ o → OptEnds bs o → hides Page t.name ≡ true → OpenHidden bs (unwrap_or o (length bs)) ⊎ EndsTag bs (unwrap_or o (length bs))
    ends None g h v = inl (record { whole = refl; tag = t; is = e; hidden = v; unended = g })
    ends (Some n) g h v = inr h

    by : (v : Bool) → hides Page t.name ≡ v → (u : Bool)
        → OptAnyEnds a bs (if v then Some (lex.Hidden, hidden_len t bs) else (if u then Some (lex.Include, t.len) else None))
    by true v u = ends (with_inside t bs) refl (inside_end bs t f) v
    by false v true = tag_end bs t f
    by false v false = tt

closing_any : (a : Bool) (bs : List ℕ) (o : Option Tag) → OptTag bs o → OptAnyEnds a bs (closing_include Page o)
closing_any a bs None f = tt
closing_any a bs (Some t) f = by (is_left_out Page t.name)
  where
    by : (v : Bool) → OptAnyEnds a bs (if v then Some (lex.Include, t.len) else None)
    by true = tag_end bs t f
    by false = tt

include_any : (a : Bool) (bs : List ℕ) → OptAnyEnds a bs (include_at Page bs)
unfolding include_at
include_any a bs =
    or_any a bs (opening_include Page (opening_tag bs) bs) (closing_include Page (closing_tag bs)) (opening_any a bs (opening_tag bs) refl (opening_fits bs))
    (closing_any a bs (closing_tag bs) (closing_fits bs))

-- ---- references and signs

reference_any : (a : Bool) (bs : List ℕ) (o : Option (ℕ × ℕ)) → OptWordEnds bs (entity_word o) → OptAnyEnds a bs (entity_word o)
reference_any a bs None h = tt
reference_any a bs (Some e) h = h

if_any : (a : Bool) (bs : List ℕ) (t : Bool) (kind : LexKind) (n : ℕ) → AnyEnds a kind bs n → OptAnyEnds a bs (if t then Some (kind, n) else None)
if_any a bs true kind n h = h
if_any a bs false kind n h = tt

sign_any : (a : Bool) (bs : List ℕ) → OptAnyEnds a bs (sign_word bs)
unfolding sign_word
sign_any a bs =
    or_any a bs (run_at lex.Opens 123 bs) _ (if_any a bs (nat_lt 1 (prefix_len (λ b. b == 123) bs)) lex.Opens (prefix_len (λ b. b == 123) bs) tt)
    (or_any a bs (run_at lex.Closes 125 bs) _ (if_any a bs (nat_lt 1 (prefix_len (λ b. b == 125) bs)) lex.Closes (prefix_len (λ b. b == 125) bs) tt)
    (or_any a bs (sign_at lex.LinkOpen (codes "[[") 2 bs) _ (if_any a bs (begins (codes "[[") bs) lex.LinkOpen 2 tt)
    (or_any a bs (sign_at lex.LinkClose (codes "]]") 2 bs) _ (if_any a bs (begins (codes "]]") bs) lex.LinkClose 2 tt)
    (or_any a bs (sign_at lex.Pipe (codes "|") 1 bs) (sign_at lex.Equals (codes "=") 1 bs) (if_any a bs (begins (codes "|") bs) lex.Pipe 1 tt)
    (if_any a bs (begins (codes "=") bs) lex.Equals 1 tt)))))

-- ---- any lexeme

form_any : (a : Bool) (bs : List ℕ) → OptAnyEnds a bs (form_at Page a bs)
unfolding form_at
form_any a bs =
    or_any a bs (comment_line_word a bs) _ (line_any a bs)
    (or_any a bs (as_word lex.Comment (comment_len bs)) _ (comment_any a bs)
    (or_any a bs (as_word lex.Raw (raw_len bs)) _ (raw_any a bs (raw_len bs) (raw_end bs))
    (or_any a bs (include_at Page bs) _ (include_any a bs)
    (or_any a bs (entity_word (entity_at bs)) (sign_word bs) (reference_any a bs (entity_at bs) (reference_word bs (entity_at bs) (reference_ends bs))) (sign_any a bs)))))

pub any_ends : (a : Bool) (bs : List ℕ) (kind : LexKind) (n : ℕ) → form_at Page a bs ≡ Some (kind, n) → AnyEnds a kind bs n
any_ends a bs kind n e = let P : Option Word → Type 0 = OptAnyEnds a bs in subst P e (form_any a bs)

-- ---- the marks of a page: one behind which another item is ends with a `>` or a line break

mark_before : (x : Item) (rest : List Item) → ((y : Item) (ys : List Item) → rest ≡ y ∷ ys → is_mark x ≡ true → AreEnded (source x)) → MarksEnd rest → MarksEnd (x ∷ rest)
mark_before x [] f h = tt
mark_before x (y ∷ ys) f h = (f y ys refl, h)

chars_marks : (bs : List ℕ) (rest : List Item) → MarksEnd rest → MarksEnd (page_chars bs ++ rest)
chars_marks [] rest h = h
chars_marks (b ∷ bs) rest h = mark_before (char None b) (page_chars bs ++ rest) (λ y ys e m. absurd (cc)) (chars_marks bs rest h)

own_marks : (f : ItemForm) (word : List ℕ) (rest : List Item) → (is_mark_form f ≡ true → (y : Item) (ys : List Item) → rest ≡ y ∷ ys → AreEnded word)
    → MarksEnd rest → MarksEnd (items_by f None word ++ rest)
own_marks form.Chars word rest g h = chars_marks word rest h
own_marks (form.Entity c) word rest g h = mark_before (whole (form.Entity c) None word) rest (λ y ys e m. g m y ys e) h
own_marks form.Nowiki word rest g h = mark_before (whole form.Nowiki None word) rest (λ y ys e m. g m y ys e) h
own_marks form.Extension word rest g h = mark_before (whole form.Extension None word) rest (λ y ys e m. g m y ys e) h
own_marks form.Function word rest g h = mark_before (whole form.Function None word) rest (λ y ys e m. g m y ys e) h
own_marks form.Comment word rest g h = mark_before (whole form.Comment None word) rest (λ y ys e m. g m y ys e) h
own_marks form.Include word rest g h = mark_before (whole form.Include None word) rest (λ y ys e m. g m y ys e) h
own_marks form.Hidden word rest g h = mark_before (whole form.Hidden None word) rest (λ y ys e m. g m y ys e) h
own_marks form.EmptyCall word rest g h = mark_before (whole form.EmptyCall None word) rest (λ y ys e m. g m y ys e) h

raw_unmarked : (o : Option Tag) → is_mark_form (raw_form_by o) ≡ false
raw_unmarked None = refl
raw_unmarked (Some t) = by (is_nowiki t.name)
  where
    by : (v : Bool) → is_mark_form (if v then form.Nowiki else form.Extension) ≡ false
    by true = refl
    by false = refl

tag_ended : (bs : List ℕ) (j : ℕ) → EndsTag bs (suc j) → AreEnded (take (suc j) bs)
tag_ended bs j e =
    let z : suc j - 1 ≡ j = omega arith in
    ends_taken is_end j bs (omega (arith, e.within)) (ap is_end (ap (λ (i : ℕ). get_or bs i 0) (sym z) ∙ e.last))

break_end : (b : ℕ) → is_break b ≡ true → is_end b ≡ true
break_end b e = ap (λ (v : Bool). v || b == 62) e

line_ended : (a : Bool) (bs : List ℕ) (j : ℕ) → LineEnds a bs (suc j) → AreEnded (take (suc j) bs)
line_ended a bs j e =
    let z : suc j - 1 ≡ j = omega arith in
    ends_taken is_end j bs (omega (arith, e.within)) (ap (λ (i : ℕ). is_end (get_or bs i 0)) (sym z) ∙ break_end (get_or bs (suc j - 1) 0) e.last)

kind_ended : (a : Bool) (kind : LexKind) (bs : List ℕ) (j : ℕ) → AnyEnds a kind bs (suc j) → suc j < length bs
    → is_mark_form (form_of kind (take (suc j) bs)) ≡ true → AreEnded (take (suc j) bs)
kind_ended a lex.Chars bs j h lt m = absurd h
kind_ended a lex.CommentLine bs j h lt m = line_ended a bs j h
kind_ended a lex.Comment bs j (inl o) lt m = absurd (let z = o.whole in omega (arith, z, lt))
kind_ended a lex.Comment bs j (inr e) lt m = tag_ended bs j e
kind_ended a lex.Raw bs j h lt m = absurd (let no : true ≡ false = sym m ∙ raw_unmarked (opening_tag (take (suc j) bs)) in cc)
kind_ended a lex.Include bs j h lt m = tag_ended bs j h
kind_ended a lex.Hidden bs j (inl o) lt m = absurd (let z = o.whole in omega (arith, z, lt))
kind_ended a lex.Hidden bs j (inr e) lt m = tag_ended bs j e
kind_ended a (lex.Entity c) bs j h lt m = absurd (cc)
kind_ended a lex.Opens bs j h lt m = absurd (cc)
kind_ended a lex.Closes bs j h lt m = absurd (cc)
kind_ended a lex.LinkOpen bs j h lt m = absurd (cc)
kind_ended a lex.LinkClose bs j h lt m = absurd (cc)
kind_ended a lex.Pipe bs j h lt m = absurd (cc)
kind_ended a lex.Equals bs j h lt m = absurd (cc)

nothing_left : (a : Bool) (q : List ℕ) → items_from a (length q) q ≡ []
nothing_left a [] = refl
nothing_left a (b ∷ q) = nothing_left (is_break b) q

-- where something is read behind so many bytes, there are more
pub more_bytes : (a : Bool) (j : ℕ) (bs : List ℕ) (y : Item) (ys : List Item) → j ≤ length bs → items_from a j bs ≡ y ∷ ys → j < length bs
more_bytes a j bs y ys le e = elim (cases_lt j (length bs)) [
  | inl lt ↦ lt
  | inr all ↦
      let same : j ≡ length bs = omega (arith, le, all) in
      let none : [] ≡ y ∷ ys = sym (ap (λ (k : ℕ). items_from a k bs) same ∙ nothing_left a bs) ∙ e in
      absurd (cc)
]

marks_by : (a : Bool) (b : ℕ) (bs : List ℕ) (o : Option Word) → form_at Page a (b ∷ bs) ≡ o → ((n : ℕ) → MarksEnd (items_from (is_break b) n bs))
    → MarksEnd (items_from a 0 (b ∷ bs))
marks_by a b bs None e go =
    subst MarksEnd (sym (byte_from a b bs e)) (mark_before (char None b) (items_from (is_break b) 0 bs) (λ y ys z m. absurd (cc)) (go 0))
marks_by a b bs (Some (kind, zero)) e go = let fits = form_fits Page a (b ∷ bs) (kind, zero) e in absurd (omega (arith, fits.some))
marks_by a b bs (Some (kind, suc j)) e go =
    let fits = form_fits Page a (b ∷ bs) (kind, suc j) e in
    let rest : List Item = items_from (is_break b) j bs in
    subst MarksEnd (sym (form_from a b bs kind j e))
    (own_marks (form_of kind (b ∷ take j bs)) (b ∷ take j bs) rest
    (λ m y ys z.
    let more = more_bytes (is_break b) j bs y ys (omega (arith, fits.within)) z in
    kind_ended a kind (b ∷ bs) j (any_ends a (b ∷ bs) kind (suc j) e) (omega (arith, more)) m)
    (go j))

marks_from : (a : Bool) (n : ℕ) (bs : List ℕ) → MarksEnd (items_from a n bs)
marks_from a zero [] = tt
marks_from a (suc n) [] = tt
marks_from a (suc n) (b ∷ bs) = marks_from (is_break b) n bs
marks_from a zero (b ∷ bs) = marks_by a b bs (form_at Page a (b ∷ bs)) refl (λ n. marks_from (is_break b) n bs)

pub page_marks : (page : List ℕ) → MarksEnd (page_items page)
page_marks page = subst MarksEnd (sym (page_from page)) (marks_from false 0 page)

pub marks_behind : (xs ys : List Item) → MarksEnd (xs ++ ys) → MarksEnd ys
marks_behind [] ys h = h
marks_behind (x ∷ []) [] h = tt
marks_behind (x ∷ []) (y ∷ ys) h = h.1
marks_behind (x ∷ z ∷ xs) ys h = marks_behind (z ∷ xs) ys h.1

-- ---- so marks that begin a line end so

ends_both : (test : ℕ → Bool) (xs ys : List ℕ) → EndsBy test xs → EndsBy test ys → EndsBy test (xs ++ ys)
ends_both test [] ys h k = k
ends_both test (x ∷ []) [] h k = h
ends_both test (x ∷ []) (y ∷ ys) h k = k
ends_both test (x ∷ z ∷ xs) ys h k = ends_both test (z ∷ xs) ys h k

both_true : (u v : Bool) → (u && v) ≡ true → (u ≡ true) × (v ≡ true)
both_true true v e = (refl, e)
both_true false v e = absurd (cc)

-- marks before an item
pub marks_ended : (ms : List Item) (y : Item) (ys : List Item) → list_all is_mark ms ≡ true → MarksEnd (ms ++ y ∷ ys) → AreEnded (sources ms)
marks_ended [] y ys e h = tt
marks_ended (m ∷ []) y ys e h =
    let own = both_true (is_mark m) true e in
    ends_both is_end (source m) [] (h.0 own.0) tt
marks_ended (m ∷ n ∷ ms) y ys e h =
    let own = both_true (is_mark m) (list_all is_mark (n ∷ ms)) e in
    ends_both is_end (source m) (sources (n ∷ ms)) (h.0 own.0) (marks_ended (n ∷ ms) y ys own.1 h.1)
