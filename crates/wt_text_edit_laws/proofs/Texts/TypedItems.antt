-- The items of what is spelled of a text: characters, references and nowikis among which nothing begins, and they show the text.
use Rattle.std.proofs.Common.{arith, ◌≡◌, ◌≢◌, ℕ, zero, suc, ◌-◌, ◌≤◌, ◌==◌, Bool, true, false, List, [], ◌∷◌, ◌++◌, length, take, drop, map, refl, sym, ap, ◌∙◌, subst, append-nil, Some, None, inl, inr, All}
use Rattle.std.specs.Prelude.{◌||◌, ◌&&◌, codes, encode_utf8, if◌then◌else◌}
use Rattle.std.specs.List.{flat_map}
use Rattle.std.specs.Str.{chars, IsUtf8}
use Rattle.std.specs.Char.{is_ascii_alphabetic}
use Rattle.std.specs.Fmt.{digits}
use Rattle.std.proofs.Math.Utf8.{encodes}
use Rattle.std.proofs.lemmas.Bool.{cases_lt}
use Rattle.std.proofs.lemmas.Bool.Decides.{Decides-eqb, nat_tests}
use Rattle.std.proofs.lemmas.List.Elements.{All-head, All-tail}
use Rattle.std.proofs.lemmas.Str.{encode_ascii, encodes-chars}
use Rattle.wt_span.specs.declared.form.Mode.TheVariants.{Page}
use Rattle.wt_span.specs.declared.form.LexKind.{LexKind}
use Rattle.wt_span.specs.declared.form.LexKind.TheVariants.{Chars, Raw, Entity, Equals}
use Rattle.wt_span.specs.declared.form.ItemForm.{ItemForm}
use Rattle.wt_span.specs.declared.form.ItemForm.TheVariants as form
use Rattle.wt_span.specs.Bytes as bytes
use Rattle.wt_span.specs.Comments.{comment_len}
use Rattle.wt_span.specs.Tags.{opening_tag, tag_after}
use Rattle.wt_span.specs.Items.{Item, char, whole}
use Rattle.wt_span.specs.Lexemes.{Word, Cut, cuts, closed, words, form_at}
use Rattle.wt_lex.specs.Words.{is_form_byte}
use Rattle.wt_lex.proofs.Cuts.{cuts_cons}
use Rattle.wt_names.proofs.Ascii.{IsWide, encode_wide}
use Rattle.wt_guards.specs.Content.{ContentSign, letter, letters}
use Rattle.wt_guards.specs.Letters.{is_bracket, is_escaped, reference, written_by}
use Rattle.wt_guards.specs.Guards.{Setting, nowiki, nowiki_if, is_guarded, spelled_from, spelled}
use Rattle.wt_guards.proofs.Escapes.{is_escapable, escapable, each_escapable}
use Rattle.wt_inline.specs.Carried.{shown_item}
use Rattle.wt_isolation.specs.OpenTags.{ends_open}
use Rattle.wt_tiles.specs.Glyphs.{glyph_of, begins}
use Rattle.wt_tiles.specs.declared.glyph.Glyph.TheVariants as glyph
use Rattle.wt_expand.specs.PageItems.{items_of_word, items_of_words, page_items}
use Rattle.wt_typed_blocks.specs.Reading.{stands}
use Rattle.wt_typed_blocks.proofs.Forms.{NoComments, comment_other, comment_not, without_line, other_byte, equals_byte, IsTame, less_byte, and_byte, nowiki_form, reference_form}
use Rattle.wt_typed_blocks.proofs.TextReads.{begin_next, or_parts, bracket_escaped, not_bracket, equal_or, apart}
use Rattle.wt_typed_blocks.proofs.Signs.{no_styles, no_switches, no_addresses}
use Rattle.wt_text_edit_laws.specs.LonePages.{page_chars}
use Rattle.wt_text_edit_laws.specs.StillItems.{starts_tag, IsTypedForm, StillItems}
use Rattle.wt_text_edit_laws.proofs.Texts.PlainWords.{and_left, and_right, or_left, or_right}
use Rattle.wt_text_edit_laws.proofs.Texts.TypedLeaves.{IsOwnForm, AreOwn}

-- ---- the items of a text from a place on

abbrev pub items_cut : List ℕ → Cut → List Item
items_cut bs c = page_chars (take c.0 bs) ++ items_of_words c.1 (drop c.0 bs)

-- whether a line break stands before or not
abbrev pub ItemsOf : List ℕ → List Item → Type 0
ItemsOf bs xs = (after : Bool) → items_cut bs (cuts Page after 0 bs) ≡ xs

closed_if : (n : ℕ) (t : Bool) (bs : List ℕ) (ws : List Word) → (n == 0) ≡ t → items_of_words (if t then ws else (Chars, n) ∷ ws) bs ≡ items_cut bs (n, ws)
closed_if zero true bs ws e = refl
closed_if zero false bs ws e = cc
closed_if (suc n) true bs ws e = let z : suc n ≡ 0 = (Decides-eqb (suc n) 0).0 e in absurd (omega (arith, z))
closed_if (suc n) false bs ws e = refl

pub closed_items : (bs : List ℕ) (c : Cut) → items_of_words (closed c.0 c.1) bs ≡ items_cut bs c
unfolding closed
closed_items bs (n, ws) = closed_if n (n == 0) bs ws refl

pub items_byte : (b : ℕ) (bs : List ℕ) (xs : List Item) → ((after : Bool) → form_at Page after (b ∷ bs) ≡ None) → ItemsOf bs xs → ItemsOf (b ∷ bs) (char None b ∷ xs)
items_byte b bs xs f r after =
    ap (items_cut (b ∷ bs)) (cuts_cons Page after b bs None (f after)) ∙ ap (λ ys. char None b ∷ ys) (r (bytes.is_break b))

pub skip : (P : Cut → Type 0) (q rest : List ℕ) (after : Bool) → ((a : Bool) → P (cuts Page a 0 rest)) → P (cuts Page after (length q) (q ++ rest))
skip P [] rest after f = f after
skip P (b ∷ q) rest after f = skip P q rest (bytes.is_break b) f

take_front : (q rest : List ℕ) → take (length q) (q ++ rest) ≡ q
take_front [] rest = refl
take_front (b ∷ q) rest = ap (λ bs. b ∷ bs) (take_front q rest)

drop_front : (q rest : List ℕ) → drop (length q) (q ++ rest) ≡ rest
drop_front [] rest = refl
drop_front (b ∷ q) rest = drop_front q rest

form_items : (b : ℕ) (q rest : List ℕ) (xs : List Item) (kind : LexKind) (c : Cut) → items_cut rest c ≡ xs
    → items_cut (b ∷ (q ++ rest)) (0, (kind, suc (length q)) ∷ closed c.0 c.1) ≡ items_of_word kind (b ∷ q) ++ xs
form_items b q rest xs kind c r =
    ap (λ bs. items_of_word kind (b ∷ bs) ++ items_of_words (closed c.0 c.1) (drop (length q) (q ++ rest))) (take_front q rest)
    ∙ ap (λ bs. items_of_word kind (b ∷ q) ++ items_of_words (closed c.0 c.1) bs) (drop_front q rest)
    ∙ ap (λ ys. items_of_word kind (b ∷ q) ++ ys) (closed_items rest c ∙ r)

pub items_form : (kind : LexKind) (b : ℕ) (q rest : List ℕ) (xs : List Item) → ((after : Bool) → form_at Page after (b ∷ (q ++ rest)) ≡ Some (kind, suc (length q)))
    → ItemsOf rest xs → ItemsOf (b ∷ (q ++ rest)) (items_of_word kind (b ∷ q) ++ xs)
items_form kind b q rest xs f r after =
    let z : suc (length q) - 1 ≡ length q = omega arith in
    let P : Cut → Type 0 = λ c. items_cut (b ∷ (q ++ rest)) (0, (kind, suc (length q)) ∷ closed c.0 c.1) ≡ items_of_word kind (b ∷ q) ++ xs in
    ap (items_cut (b ∷ (q ++ rest))) (cuts_cons Page after b (q ++ rest) (Some (kind, suc (length q))) (f after))
    ∙ subst (λ (n : ℕ). P (cuts Page (bytes.is_break b) n (q ++ rest))) (sym z)
    (skip P q rest (bytes.is_break b) (λ a. form_items b q rest xs kind (cuts Page a 0 rest) (r a)))

-- ---- what holds from a place on

-- no sign stands from here on
record NoSigns (bs : List ℕ) : Type 0 where
  styles : stands (codes "''") bs ≡ false
  switches : stands (codes "__") bs ≡ false
  addresses : stands (codes "://") bs ≡ false

abbrev tag_bytes : List ℕ → Bool
tag_bytes [] = false
tag_bytes (b ∷ bs) = is_ascii_alphabetic b || b == 47

record Typed (bs t : List ℕ) : Type 0 where
  items : List Item
  reads : ItemsOf bs items
  clean : NoComments bs
  shows : flat_map shown_item items ≡ t
  front : (word : List ℕ) → begins word (map glyph_of items) ≡ true → bytes.begins word bs ≡ true
  head : starts_tag (map glyph_of items) ≡ true → tag_bytes bs ≡ true
  still : NoSigns bs → StillItems items
  own : AreOwn items

and_true : (a b : Bool) → a ≡ true → b ≡ true → (a && b) ≡ true
and_true true b e f = f
and_true false b e f = cc

first_false : (a b : Bool) → a ≡ false → (a && b) ≡ false
first_false true b e = cc
first_false false b e = refl

false_as : (a b : Bool) → (a ≡ true → b ≡ true) → b ≡ false → a ≡ false
false_as true b f e = let no : true ≡ false = sym (f refl) ∙ e in cc
false_as false b f e = refl

typed_nothing : Typed [] []
typed_nothing = record { items = []; reads = λ after. refl; clean = tt; shows = refl; front = λ word e. no_word word e; head = λ e. cc; still = λ n. tt; own = tt }
  where
    no_word : (word : List ℕ) → begins word [] ≡ true → bytes.begins word [] ≡ true
    no_word [] e = refl
    no_word (w ∷ word) e = cc

less_signs : (b : ℕ) (bs : List ℕ) → NoSigns (b ∷ bs) → NoSigns bs
less_signs b bs n = record {
  styles = or_right _ (stands (codes "''") bs) n.styles;
  switches = or_right _ (stands (codes "__") bs) n.switches;
  addresses = or_right _ (stands (codes "://") bs) n.addresses;
}

signs_behind : (q rest : List ℕ) → NoSigns (q ++ rest) → NoSigns rest
signs_behind [] rest n = n
signs_behind (b ∷ q) rest n = signs_behind q rest (less_signs b (q ++ rest) n)

front_byte : (b : ℕ) (bs : List ℕ) (xs : List Item) → ((word : List ℕ) → begins word (map glyph_of xs) ≡ true → bytes.begins word bs ≡ true)
    → (word : List ℕ) → begins word (glyph.Byte b ∷ map glyph_of xs) ≡ true → bytes.begins word (b ∷ bs) ≡ true
front_byte b bs xs f [] e = refl
front_byte b bs xs f (w ∷ word) e =
    let is : b ≡ w = (Decides-eqb b w).0 (and_left (b == w) (begins word (map glyph_of xs)) e) in
    and_true (w == b) (bytes.begins word bs) ((Decides-eqb w b).1 (sym is)) (f word (and_right (b == w) (begins word (map glyph_of xs)) e))

-- a character as it is
typed_byte : (b : ℕ) (bs t : List ℕ) → form_at Page false (b ∷ bs) ≡ None → comment_len (b ∷ bs) ≡ None → (b == 91) ≡ false
    → (g : Typed bs t) → ((b == 60) && tag_bytes bs) ≡ false → Typed (b ∷ bs) (b ∷ t)
typed_byte b bs t f c k g a =
    let xs : List Item = g.items in
    let fr = front_byte b bs xs g.front in
    record {
      items = char None b ∷ xs;
      reads = items_byte b bs xs (λ after. without_line Page after (b ∷ bs) (c, g.clean) ∙ f) g.reads;
      clean = (c, g.clean);
      shows = ap (λ cs. b ∷ cs) g.shows;
      front = fr;
      head = λ e. e;
      still = λ n. (
        record {
          bracket = k;
          tag = false_as ((b == 60) && starts_tag (map glyph_of xs)) ((b == 60) && tag_bytes bs)
              (λ e. and_true (b == 60) (tag_bytes bs) (and_left (b == 60) (starts_tag (map glyph_of xs)) e)
              (g.head (and_right (b == 60) (starts_tag (map glyph_of xs)) e))) a;
          quotes = false_as _ (bytes.begins (codes "''") (b ∷ bs)) (fr (codes "''")) (or_left _ (stands (codes "''") bs) n.styles);
          switch = false_as _ (bytes.begins (codes "__") (b ∷ bs)) (fr (codes "__")) (or_left _ (stands (codes "__") bs) n.switches);
          address = false_as _ (bytes.begins (codes "://") (b ∷ bs)) (fr (codes "://")) (or_left _ (stands (codes "://") bs) n.addresses);
        },
        g.still (less_signs b bs n),
      );
      own = g.own;
    }

-- a reference or a nowiki, as an item
abbrev IsAtom : ItemForm → Type 0
IsAtom f = IsTypedForm f

atom_front : (f : ItemForm) (xs : List Item) (bs : List ℕ) (own : List ℕ) → IsTypedForm f → (word : List ℕ)
    → begins word (map glyph_of (whole f None own ∷ xs)) ≡ true → bytes.begins word bs ≡ true
atom_front f xs bs own h [] e = refl
atom_front form.Chars xs bs own h (w ∷ word) e = cc
atom_front (form.Entity c) xs bs own h (w ∷ word) e = cc
atom_front form.Nowiki xs bs own h (w ∷ word) e = cc
atom_front form.Extension xs bs own h (w ∷ word) e = cc
atom_front form.Function xs bs own h (w ∷ word) e = cc
atom_front form.Comment xs bs own h (w ∷ word) e = cc
atom_front form.Include xs bs own h (w ∷ word) e = cc
atom_front form.Hidden xs bs own h (w ∷ word) e = cc
atom_front form.EmptyCall xs bs own h (w ∷ word) e = cc

no_tag_first : (f : ItemForm) (xs : List Item) (own : List ℕ) → IsTypedForm f → starts_tag (map glyph_of (whole f None own ∷ xs)) ≡ false
no_tag_first form.Chars xs own h = absurd h
no_tag_first (form.Entity c) xs own h = refl
no_tag_first form.Nowiki xs own h = refl
no_tag_first form.Extension xs own h = absurd h
no_tag_first form.Function xs own h = absurd h
no_tag_first form.Comment xs own h = absurd h
no_tag_first form.Include xs own h = absurd h
no_tag_first form.Hidden xs own h = absurd h
no_tag_first form.EmptyCall xs own h = absurd h

typed_form : (kind : LexKind) (f : ItemForm) (b : ℕ) (q rest t u : List ℕ) → form_at Page false (b ∷ (q ++ rest)) ≡ Some (kind, suc (length q))
    → items_of_word kind (b ∷ q) ≡ whole f None (b ∷ q) ∷ [] → IsTypedForm f → IsOwnForm f (b ∷ q) → shown_item (whole f None (b ∷ q)) ≡ u
    → NoComments (b ∷ (q ++ rest)) → Typed rest t → Typed (b ∷ (q ++ rest)) (u ++ t)
typed_form kind f b q rest t u e is h o s c g =
    let xs : List Item = g.items in
    record {
      items = whole f None (b ∷ q) ∷ xs;
      reads = subst (λ ys. ItemsOf (b ∷ (q ++ rest)) (ys ++ xs)) is
          (items_form kind b q rest xs (λ after. without_line Page after (b ∷ (q ++ rest)) c ∙ e) g.reads);
      clean = c;
      shows = ap (λ cs. cs ++ flat_map shown_item xs) s ∙ ap (λ cs. u ++ cs) g.shows;
      front = atom_front f xs (b ∷ (q ++ rest)) (b ∷ q) h;
      head = λ e. let no : true ≡ false = sym e ∙ no_tag_first f xs (b ∷ q) h in cc;
      still = λ n. (h, g.still (signs_behind (b ∷ q) rest n));
      own = (o, g.own);
    }

-- ---- what is put

typed_nowiki : (rest t : List ℕ) → Typed rest t → Typed (nowiki ++ rest) t
unfolding nowiki comment_len opening_tag tag_after
typed_nowiki rest t g =
    typed_form Raw form.Nowiki 60 (codes "nowiki/>") rest t [] (nowiki_form Page rest) refl tt refl refl
    (refl, (refl, (refl, (refl, (refl, (refl, (refl, (refl, (refl, g.clean))))))))) g

typed_guard : (guarded : Bool) (rest t : List ℕ) → Typed rest t → Typed (nowiki_if guarded ++ rest) t
typed_guard true rest t g = typed_nowiki rest t g
typed_guard false rest t g = g

-- the bytes of a reference
pub record IsReference (c : ℕ) : Type 0 where
  pub others : List ℕ
  pub is : reference c ≡ 38 ∷ others
  pub clean : (rest : List ℕ) → NoComments rest → NoComments (38 ∷ (others ++ rest))

pub references : (c : ℕ) → is_escapable c ≡ true → IsReference c
unfolding reference digits comment_len
references c e = each_escapable IsReference
    (record { others = codes "#91;"; is = refl; clean = λ rest h. (refl, (refl, (refl, (refl, (refl, h))))) })
    (record { others = codes "#93;"; is = refl; clean = λ rest h. (refl, (refl, (refl, (refl, (refl, h))))) })
    (record { others = codes "#123;"; is = refl; clean = λ rest h. (refl, (refl, (refl, (refl, (refl, (refl, h)))))) })
    (record { others = codes "#125;"; is = refl; clean = λ rest h. (refl, (refl, (refl, (refl, (refl, (refl, h)))))) })
    (record { others = codes "#124;"; is = refl; clean = λ rest h. (refl, (refl, (refl, (refl, (refl, (refl, h)))))) })
    (record { others = codes "gt;"; is = refl; clean = λ rest h. (refl, (refl, (refl, (refl, h)))) })
    (record { others = codes "lt;"; is = refl; clean = λ rest h. (refl, (refl, (refl, (refl, h)))) })
    (record { others = codes "amp;"; is = refl; clean = λ rest h. (refl, (refl, (refl, (refl, (refl, h))))) })
    (record { others = codes "#39;"; is = refl; clean = λ rest h. (refl, (refl, (refl, (refl, (refl, h))))) })
    (record { others = codes "#95;"; is = refl; clean = λ rest h. (refl, (refl, (refl, (refl, (refl, h))))) })
    (record { others = codes "#58;"; is = refl; clean = λ rest h. (refl, (refl, (refl, (refl, (refl, h))))) })
    (record { others = codes "#61;"; is = refl; clean = λ rest h. (refl, (refl, (refl, (refl, (refl, h))))) })
    (record { others = codes "#33;"; is = refl; clean = λ rest h. (refl, (refl, (refl, (refl, (refl, h))))) }) c e

reference_shut : (c : ℕ) → is_escapable c ≡ true → ends_open (reference c) ≡ false
unfolding reference digits
reference_shut c e = each_escapable (λ k. ends_open (reference k) ≡ false) refl refl refl refl refl refl refl refl refl refl refl refl refl c e

typed_reference : (c : ℕ) (rest t : List ℕ) → is_escapable c ≡ true → Typed rest t → Typed (reference c ++ rest) (encode_utf8 c ++ t)
typed_reference c rest t e g =
    let r = references c e in
    let f : form_at Page false (38 ∷ (r.others ++ rest)) ≡ Some (Entity c, suc (length r.others)) =
    ap (λ bs. form_at Page false (bs ++ rest)) (sym r.is) ∙ reference_form Page rest c e ∙ ap (λ bs. Some (Entity c, length bs)) r.is in
    subst (λ bs. Typed (bs ++ rest) (encode_utf8 c ++ t)) (sym r.is)
    (typed_form (Entity c) (form.Entity c) 38 r.others rest t (encode_utf8 c) f refl tt (subst (λ bs. ends_open bs ≡ false) r.is (reference_shut c e)) refl (r.clean rest g.clean) g)

-- ---- characters as they are

pub wide_form : (b : ℕ) → 128 ≤ b → is_form_byte b ≡ false
wide_form b h = grind (arith, nat_tests)

wide_not : (b : ℕ) → 128 ≤ b → ((b == 91) ≡ false) × ((b == 60) ≡ false)
wide_not b h = (grind (arith, nat_tests), grind (arith, nat_tests))

typed_wide : (bs rest t : List ℕ) → All IsWide bs → Typed rest t → Typed (bs ++ rest) (bs ++ t)
typed_wide [] rest t h g = g
typed_wide (b ∷ bs) rest t h g =
    let w : 128 ≤ b = All-head IsWide b bs h in
    let other : b ≢ 60 = omega (arith, w) in
    let n = wide_not b w in
    typed_byte b (bs ++ rest) (bs ++ t) (other_byte Page b (bs ++ rest) (wide_form b w)) (comment_other b (bs ++ rest) other) n.0
    (typed_wide bs rest t (All-tail IsWide b bs h) g) (first_false (b == 60) _ n.1)

pub wide_tame : (x : ℕ) → 128 ≤ x → IsTame x
wide_tame x h = (grind (arith, nat_tests), omega (arith, h), omega (arith, h))

pub tame_if : (x : ℕ) → (is_ascii_alphabetic x || (x == 47 || x == 33)) ≡ false → IsTame x
tame_if x e =
    let p = or_parts (is_ascii_alphabetic x) _ e in
    let q = or_parts (x == 47) (x == 33) p.1 in
    (p.0, apart x 33 q.1, apart x 47 q.0)

abbrev pub IsMild : ℕ → Type 0
IsMild x = (is_ascii_alphabetic x ≡ false) × (x ≢ 35)

pub wide_mild : (x : ℕ) → 128 ≤ x → IsMild x
wide_mild x h = (grind (arith, nat_tests), omega (arith, h))

pub mild_if : (x : ℕ) → (is_ascii_alphabetic x || x == 35) ≡ false → IsMild x
mild_if x e = let p = or_parts (is_ascii_alphabetic x) _ e in (p.0, apart x 35 p.1)

-- the rest of what is spelled
abbrev pub after_it : Setting → ℕ → List ContentSign → List ℕ → List ℕ
after_it s c before cs = spelled_from s (letter c ∷ before) (map letter cs)

typed_less : (s : Setting) (before : List ContentSign) (cs t : List ℕ) → is_escaped s.within s.place before 60 (map letter cs) ≡ false
    → Typed (after_it s 60 before cs) t → Typed (60 ∷ after_it s 60 before cs) (60 ∷ t)
unfolding is_escaped
typed_less s before [] t e g = cc
typed_less s before (d ∷ ds) t e g =
    let n = begin_next IsTame s 60 d before ds refl refl (refl, omega arith, omega arith) (λ h. tame_if d e) wide_tame in
    let f = ap (λ bs. form_at Page false (60 ∷ bs)) n.is ∙ less_byte Page n.first n.others n.fits in
    let c = ap (λ bs. comment_len (60 ∷ bs)) n.is ∙ comment_not n.first n.others n.fits.1 in
    let a : tag_bytes (after_it s 60 before (d ∷ ds)) ≡ false = ap tag_bytes n.is ∙ no_tag_byte n.first n.fits in
    typed_byte 60 (after_it s 60 before (d ∷ ds)) t f c refl g a
  where
    no_tag_byte : (x : ℕ) → IsTame x → (is_ascii_alphabetic x || x == 47) ≡ false
    no_tag_byte x h = let k : (x == 47) ≡ false = grind (arith, nat_tests) in rw (h.0, k) refl

typed_and : (s : Setting) (before : List ContentSign) (cs t : List ℕ) → is_escaped s.within s.place before 38 (map letter cs) ≡ false
    → Typed (after_it s 38 before cs) t → Typed (38 ∷ after_it s 38 before cs) (38 ∷ t)
unfolding is_escaped
typed_and s before [] t e g = cc
typed_and s before (d ∷ ds) t e g =
    let n = begin_next IsMild s 38 d before ds refl refl (refl, omega arith) (λ h. mild_if d e) wide_mild in
    let f = ap (λ bs. form_at Page false (38 ∷ bs)) n.is ∙ and_byte Page n.first n.others n.fits.0 n.fits.1 in
    typed_byte 38 (after_it s 38 before (d ∷ ds)) t f (comment_other 38 (after_it s 38 before (d ∷ ds)) (omega arith)) refl g refl

-- `=` is a lexeme, and a character
typed_equals : (rest t : List ℕ) → Typed rest t → Typed (61 ∷ rest) (61 ∷ t)
typed_equals rest t g =
    let xs : List Item = g.items in
    let fr = front_byte 61 rest xs g.front in
    let c : NoComments (61 ∷ rest) = (comment_other 61 rest (omega arith), g.clean) in
    record {
      items = char None 61 ∷ xs;
      reads = items_form Equals 61 [] rest xs (λ after. without_line Page after (61 ∷ rest) c ∙ equals_byte Page rest) g.reads;
      clean = c;
      shows = ap (λ cs. 61 ∷ cs) g.shows;
      front = fr;
      head = λ e. e;
      still = λ n. (
        record {
          bracket = refl;
          tag = refl;
          quotes = false_as _ (bytes.begins (codes "''") (61 ∷ rest)) (fr (codes "''")) (or_left _ (stands (codes "''") rest) n.styles);
          switch = false_as _ (bytes.begins (codes "__") (61 ∷ rest)) (fr (codes "__")) (or_left _ (stands (codes "__") rest) n.switches);
          address = false_as _ (bytes.begins (codes "://") (61 ∷ rest)) (fr (codes "://")) (or_left _ (stands (codes "://") rest) n.addresses);
        },
        g.still (less_signs 61 rest n),
      );
      own = g.own;
    }

pub no_form_byte : (c : ℕ) → is_bracket c ≡ false → (c == 60) ≡ false → (c == 38) ≡ false → (c == 61) ≡ false → is_form_byte c ≡ false
no_form_byte c b l a e =
    let p91 = or_parts (c == 91) _ b in
    let p93 = or_parts (c == 93) _ p91.1 in
    let p123 = or_parts (c == 123) _ p93.1 in
    let p125 = or_parts (c == 125) _ p123.1 in
    let p124 = or_parts (c == 124) _ p125.1 in
    rw (l, a, e, p91.0, p93.0, p123.0, p125.0, p124.0) refl

typed_other : (c : ℕ) (rest t : List ℕ) → is_bracket c ≡ false → (c == 60) ≡ false → (c == 38) ≡ false → (c == 61) ≡ false
    → Typed rest t → Typed (c ∷ rest) (c ∷ t)
typed_other c rest t b l a e g =
    typed_byte c rest t (other_byte Page c rest (no_form_byte c b l a e)) (comment_other c rest (apart c 60 l)) (or_left (c == 91) _ b) g
    (first_false (c == 60) _ l)

typed_small : (s : Setting) (before : List ContentSign) (c : ℕ) (cs t : List ℕ) → is_escaped s.within s.place before c (map letter cs) ≡ false
    → Typed (after_it s c before cs) t → Typed (c ∷ after_it s c before cs) (c ∷ t)
typed_small s before c cs t e g =
    let P : ℕ → Type 0 = λ k. is_escaped s.within s.place before k (map letter cs) ≡ false
    → Typed (after_it s k before cs) t → Typed (k ∷ after_it s k before cs) (k ∷ t) in
    let b = not_bracket (is_bracket c) (is_escaped s.within s.place before c (map letter cs)) (bracket_escaped s.within s.place before c (map letter cs)) e in
    elim (equal_or c 60) [
      | inl i ↦ subst P (sym i) (typed_less s before cs t) e g
      | inr l ↦ elim (equal_or c 38) [
        | inl i ↦ subst P (sym i) (typed_and s before cs t) e g
        | inr a ↦ elim (equal_or c 61) [
          | inl i ↦ subst P (sym i) (λ h k. typed_equals (after_it s 61 before cs) t k) e g
          | inr q ↦ typed_other c (after_it s c before cs) t b l a q g
        ]
      ]
    ]

typed_plain : (s : Setting) (before : List ContentSign) (c : ℕ) (cs t : List ℕ) → is_escaped s.within s.place before c (map letter cs) ≡ false
    → Typed (after_it s c before cs) t → Typed (encode_utf8 c ++ after_it s c before cs) (encode_utf8 c ++ t)
typed_plain s before c cs t e g = elim (cases_lt c 128) [
  | inl small ↦ subst (λ bs. Typed (bs ++ after_it s c before cs) (bs ++ t)) (sym (encode_ascii c small)) (typed_small s before c cs t e g)
  | inr wide ↦ typed_wide (encode_utf8 c) (after_it s c before cs) t (encode_wide c wide) g
]

typed_letter : (s : Setting) (before : List ContentSign) (c : ℕ) (cs t : List ℕ) (e : Bool) → is_escaped s.within s.place before c (map letter cs) ≡ e
    → Typed (after_it s c before cs) t → Typed (written_by e c ++ after_it s c before cs) (encode_utf8 c ++ t)
typed_letter s before c cs t true h g = typed_reference c (after_it s c before cs) t (escapable s.within s.place before c (map letter cs) h) g
typed_letter s before c cs t false h g = typed_plain s before c cs t h g

-- ---- all

typed_from : (s : Setting) (before : List ContentSign) (cs : List ℕ) → Typed (spelled_from s before (map letter cs)) (encodes cs)
typed_from s before [] =
    subst (λ bs. Typed bs []) (append-nil (nowiki_if (is_guarded s before []))) (typed_guard (is_guarded s before []) [] [] typed_nothing)
typed_from s before (c ∷ cs) =
    let after = map letter cs in
    let e = is_escaped s.within s.place before c after in
    typed_guard (is_guarded s before (letter c ∷ after)) (written_by e c ++ after_it s c before cs) (encode_utf8 c ++ encodes cs)
    (typed_letter s before c cs (encodes cs) e refl (typed_from s (letter c ∷ before) cs))

pub items_are : (bs : List ℕ) (xs : List Item) → ItemsOf bs xs → page_items bs ≡ xs
unfolding page_items words
items_are bs xs r = closed_items bs (cuts Page false 0 bs) ∙ r false

pub typed_still : (s : Setting) (text : List ℕ) → StillItems (page_items (spelled s (letters text)))
typed_still s text =
    let g = typed_from s [] (chars text) in
    subst StillItems (sym (items_are (spelled s (letters text)) g.items g.reads))
    (g.still (record { styles = no_styles s text; switches = no_switches s text; addresses = no_addresses s text }))

pub typed_own : (s : Setting) (text : List ℕ) → AreOwn (page_items (spelled s (letters text)))
typed_own s text =
    let g = typed_from s [] (chars text) in
    subst AreOwn (sym (items_are (spelled s (letters text)) g.items g.reads)) g.own

pub typed_shows : (s : Setting) (text : List ℕ) → IsUtf8 text → flat_map shown_item (page_items (spelled s (letters text))) ≡ text
typed_shows s text u =
    let g = typed_from s [] (chars text) in
    ap (flat_map shown_item) (items_are (spelled s (letters text)) g.items g.reads) ∙ g.shows ∙ encodes-chars text u
