-- Characters with which nothing begins are text in every context: no form begins among them, so that they are one run, and no style
-- is switched.
use Rattle.std.proofs.Common.{◌≡◌, ℕ, zero, suc, ◌+◌, ◌<◌, ◌==◌, Bool, true, false, Option, Some, None, List, [], ◌∷◌, ◌++◌, length, take, drop, map, codes, refl, sym, ap, ◌∙◌, arith, append-nil, take_all}
use Rattle.std.specs.Prelude.{◌&&◌, ◌||◌, not, cond, if◌then◌else◌, option_map, nat_lt}
use Rattle.std.specs.List.{list_all, list_any, flat_map}
use Rattle.std.specs.Option.{option_or}
use Rattle.std.specs.Char.{to_ascii_lowercase}
use Rattle.std.proofs.lemmas.Bool.Decides.{nat_tests}
use Rattle.std.proofs.lemmas.List.{length-map, drop_all}
use Rattle.wt_span.specs.declared.form.ItemForm.{ItemForm}
use Rattle.wt_span.specs.declared.form.ItemForm.TheVariants as form
use Rattle.wt_span.specs.Items.{Item, char, whole, items_by}
use Rattle.wt_lines.specs.Pieces.{is_chars}
use Rattle.wt_span.specs.Runs.{runs, IsRun}
use Rattle.wt_span.proofs.RunLaws.{runs_cut}
use Rattle.wt_inline.specs.declared.loose.Loose.TheVariants.{Text}
use Rattle.wt_inline.specs.Parts.{parts}
use Rattle.wt_tiles.specs.declared.context.Context.{Context}
use Rattle.wt_tiles.specs.declared.glyph.Glyph.{Glyph}
use Rattle.wt_tiles.specs.declared.glyph.Glyph.TheVariants as glyph
use Rattle.wt_tiles.specs.declared.shape.Shape.{Shape}
use Rattle.wt_tiles.specs.Glyphs.{glyph_of, begins, begins_like}
use Rattle.wt_tiles.specs.Links.{link_at}
use Rattle.wt_tiles.specs.Urls.{scheme_len, bare_url_of, bare_url_at, ext_link_at, kept_len, url_items}
use Rattle.wt_tiles.specs.Tags.{opening_tag, closing_tag, tag_at}
use Rattle.wt_tiles.specs.Tiles.{shape_of_tag, tag_tile, switch_at, outside, link_or_url, form_at, chars, closed, shapes, tiles, size, parts as tile_parts}
use Rattle.wt_tiles.specs.Reading.{tile_at, word_before, AreTiles}
use Rattle.wt_tiles.proofs.Readings.{shapes_only}
use Rattle.wt_tiles.proofs.Joining.{tiles_are}
use Rattle.wt_quotes.specs.Toggles.{toggle_at, toggles_of}
use Rattle.wt_quotes.specs.Styles.{style_tree_of}
use Rattle.wt_context.specs.Segments.{Segment, one_stretch, is_first_quote, loose_segment, loose_segments}
use Rattle.wt_context.specs.Chunks.{chunks}
use Rattle.wt_context.specs.Styled.{with_styles}
use Rattle.wt_context.specs.Nodes.{Reading, tile_segments, segments}
use Rattle.wt_context.specs.Line.{within}
use Rattle.wt_context.specs.Inert.{is_inert, are_inert}

-- ---- characters

record IsNone (b : ℕ) : Type 0 where
  quote : (b == 39) ≡ false
  colon : (b == 58) ≡ false
  angle : (b == 60) ≡ false
  bracket : (b == 91) ≡ false
  underscore : (b == 95) ≡ false

none_by : (b : ℕ) (v w x y z : Bool) → (b == 39) ≡ v → (b == 58) ≡ w → (b == 60) ≡ x → (b == 91) ≡ y → (b == 95) ≡ z
    → not (v || (w || (x || (y || z)))) ≡ true → IsNone b
none_by b true w x y z d e f g h p = cc
none_by b false true x y z d e f g h p = cc
none_by b false false true y z d e f g h p = cc
none_by b false false false true z d e f g h p = cc
none_by b false false false false true d e f g h p = cc
none_by b false false false false false d e f g h p = record { quote = d; colon = e; angle = f; bracket = g; underscore = h }

none_of : (b : ℕ) → is_inert b ≡ true → IsNone b
none_of b p = none_by b (b == 39) (b == 58) (b == 60) (b == 91) (b == 95) refl refl refl refl refl p

left_of : (a b : Bool) → (a && b) ≡ true → a ≡ true
left_of true b e = refl
left_of false b e = cc

right_of : (a b : Bool) → (a && b) ≡ true → b ≡ true
right_of true b e = e
right_of false b e = cc

no_left : (a b : Bool) → a ≡ false → (a && b) ≡ false
no_left true b e = cc
no_left false b e = refl

no_right : (a b : Bool) → b ≡ false → (a && b) ≡ false
no_right true b e = e
no_right false b e = refl

-- ---- the same as glyphs

abbrev AreInert : List Glyph → Type 0
AreInert [] = Unit {0}
AreInert (glyph.Byte b ∷ gs) = IsNone b × AreInert gs
AreInert (glyph.Entity c ∷ gs) = ⊥
AreInert (glyph.Atom ∷ gs) = ⊥
AreInert (glyph.Mark ∷ gs) = ⊥

inert_glyphs : (xs : List Item) → are_inert xs ≡ true → AreInert (map glyph_of xs)
inert_glyphs [] e = tt
inert_glyphs (char o b ∷ xs) e = (none_of b (left_of (is_inert b) (are_inert xs) e), inert_glyphs xs (right_of (is_inert b) (are_inert xs) e))
inert_glyphs (whole f o bs ∷ xs) e = cc

inert_drop : (k : ℕ) (gs : List Glyph) → AreInert gs → AreInert (drop k gs)
inert_drop zero gs h = h
inert_drop (suc k) [] h = tt
inert_drop (suc k) (glyph.Byte b ∷ gs) h = inert_drop k gs h.1
inert_drop (suc k) (glyph.Entity c ∷ gs) h = absurd h
inert_drop (suc k) (glyph.Atom ∷ gs) h = absurd h
inert_drop (suc k) (glyph.Mark ∷ gs) h = absurd h

-- ---- no form begins

if_none : {A : Type 0} (t : Bool) (o : Option A) → t ≡ false → (if t then o else None) ≡ None
if_none true o e = cc
if_none false o e = refl

or_none : {A : Type 0} (a b : Option A) → a ≡ None → b ≡ None → option_or a b ≡ None
or_none None b e f = f
or_none (Some x) b e f = cc

map_none : {A B : Type 0} (f : A → B) (o : Option A) → o ≡ None → option_map f o ≡ None
map_none f o e = ap (option_map f) e

outside_none : (t : Bool) (o : Option Shape) → o ≡ None → outside t o ≡ None
outside_none true o e = refl
outside_none false o e = e

no_link : (b : ℕ) (gs : List Glyph) → IsNone b → link_at (glyph.Byte b ∷ gs) ≡ None
unfolding link_at
no_link b gs h = if_none (begins (codes "[[") (glyph.Byte b ∷ gs)) _ (no_left (b == 91) _ h.bracket)

no_ext_link : (b : ℕ) (gs : List Glyph) → IsNone b → ext_link_at (glyph.Byte b ∷ gs) ≡ None
unfolding ext_link_at
no_ext_link b gs h = if_none (b == 91) _ h.bracket

lower_by : (b : ℕ) (v w : Bool) → nat_lt b 65 ≡ v → nat_lt b 91 ≡ w → (b == 58) ≡ false → (cond v b (cond w (b + 32) b) == 58) ≡ false
lower_by b true w e f h = h
lower_by b false true e f h = grind (arith, nat_tests)
lower_by b false false e f h = h

no_colon : (c b : ℕ) (v : Bool) → (c == 58) ≡ v → v ≡ true → (b == 58) ≡ false → (to_ascii_lowercase b == c) ≡ false
no_colon c b true e t h =
    let i : c ≡ 58 = grind (arith, nat_tests) in
    ap (λ (n : ℕ). to_ascii_lowercase b == n) i ∙ lower_by b (nat_lt b 65) (nat_lt b 91) refl refl h
no_colon c b false e t h = cc

word_by : (c b : ℕ) (word : List ℕ) (gs : List Glyph) (v : Bool) → (c == 58) ≡ v → (v || list_any (λ d. d == 58) word) ≡ true → (b == 58) ≡ false
    → (list_any (λ d. d == 58) word ≡ true → begins_like word gs ≡ false) → ((to_ascii_lowercase b == c) && begins_like word gs) ≡ false
word_by c b word gs true i j h next = no_left (to_ascii_lowercase b == c) (begins_like word gs) (no_colon c b true i refl h)
word_by c b word gs false i j h next = no_right (to_ascii_lowercase b == c) (begins_like word gs) (next j)

no_word : (word : List ℕ) (gs : List Glyph) → list_any (λ c. c == 58) word ≡ true → AreInert gs → begins_like word gs ≡ false
no_word [] gs e h = cc
no_word (c ∷ word) [] e h = refl
no_word (c ∷ word) (glyph.Byte b ∷ gs) e h = word_by c b word gs (c == 58) refl e h.0.colon (λ f. no_word word gs f h.1)
no_word (c ∷ word) (glyph.Entity d ∷ gs) e h = absurd h
no_word (c ∷ word) (glyph.Atom ∷ gs) e h = absurd h
no_word (c ∷ word) (glyph.Mark ∷ gs) e h = absurd h

scheme_by : (u v w : Bool) → u ≡ false → v ≡ false → w ≡ false → (if u then 7 else (if v then 8 else (if w then 6 else 0))) ≡ zero
scheme_by false false false e f g = refl
scheme_by true v w e f g = cc
scheme_by false true w e f g = cc
scheme_by false false true e f g = cc

no_scheme : (gs : List Glyph) → AreInert gs → scheme_len gs ≡ 0
unfolding scheme_len
no_scheme gs h =
    scheme_by (begins_like (codes "http://") gs) (begins_like (codes "https://") gs) (begins_like (codes "ftp://") gs)
    (no_word (codes "http://") gs refl h) (no_word (codes "https://") gs refl h) (no_word (codes "ftp://") gs refl h)

no_url_by : (after : Bool) (o : Option Shape) → o ≡ None → (if after then None else o) ≡ None
no_url_by true o e = refl
no_url_by false o e = e

no_url : (after : Bool) (gs : List Glyph) → AreInert gs → bare_url_at after gs ≡ None
unfolding bare_url_at
no_url after gs h = no_url_by after _ (ap (λ n. bare_url_of n (kept_len (url_items gs))) (no_scheme gs h))

no_tag : (b : ℕ) (gs : List Glyph) → IsNone b → tag_at (glyph.Byte b ∷ gs) ≡ None
unfolding tag_at opening_tag closing_tag
no_tag b gs h =
    or_none (opening_tag (glyph.Byte b ∷ gs)) (closing_tag (glyph.Byte b ∷ gs))
    (if_none _ _ (no_left (b == 60) _ h.angle)) (if_none _ _ (no_left (begins (codes "</") (glyph.Byte b ∷ gs)) _ (no_left (b == 60) _ h.angle)))

no_switch : (b : ℕ) (gs : List Glyph) → IsNone b → switch_at (glyph.Byte b ∷ gs) ≡ None
unfolding switch_at
no_switch b gs h = if_none (begins (codes "__") (glyph.Byte b ∷ gs)) _ (no_left (b == 95) _ h.underscore)

no_form : (cx : Context) (after : Bool) (b : ℕ) (gs : List Glyph) → IsNone b → AreInert gs → form_at cx after (glyph.Byte b ∷ gs) ≡ None
unfolding form_at link_or_url tag_tile
no_form cx after b gs h p =
    let all = glyph.Byte b ∷ gs in
    or_none (outside cx.in_link (link_or_url after all)) _
    (outside_none cx.in_link (link_or_url after all) (or_none (link_at all) _ (no_link b gs h)
    (or_none (ext_link_at all) (bare_url_at after all) (no_ext_link b gs h) (no_url after all (h, p)))))
    (or_none (tag_tile cx.pairs all) (switch_at all)
    (map_none (λ t. shape_of_tag cx.pairs t.name t.shape t.len all) (tag_at all) (no_tag b gs h)) (no_switch b gs h))

no_tile : (cx : Context) (after : Bool) (gs : List Glyph) → AreInert gs → tile_at cx after gs ≡ None
no_tile cx after [] h = refl
no_tile cx after (glyph.Byte b ∷ gs) h = no_form cx after b gs h.0 h.1
no_tile cx after (glyph.Entity c ∷ gs) h = absurd h
no_tile cx after (glyph.Atom ∷ gs) h = absurd h
no_tile cx after (glyph.Mark ∷ gs) h = absurd h

-- ---- one run of characters

one_tile : (cx : Context) (gs : List Glyph) → 0 < length gs → AreInert gs → AreTiles cx false (chars (length gs) ∷ []) gs
one_tile cx gs s h =
    let w = chars (length gs) in
    let n : size w ≡ length gs = omega arith in (
      omega (arith, n, s),
      omega (arith, n),
      (ap chars (sym n), λ k l. no_tile cx (word_before false gs k) (drop k gs) (inert_drop k gs h)),
      tt,
      drop_all (size w) gs (omega (arith, n)),
    )

one_part : (xs : List Item) (gs : List Glyph) → length gs ≡ length xs → tile_parts (chars (length gs) ∷ []) xs ≡ (chars (length gs), xs) ∷ []
one_part xs gs e =
    let n : size (chars (length gs)) ≡ length gs = omega arith in
    let ys : take (size (chars (length gs))) xs ≡ xs = take_all (size (chars (length gs))) xs (omega (arith, e, n)) in
    ap (λ zs. (chars (length gs), zs) ∷ []) ys

inert_tiles : (cx : Context) (xs : List Item) → 0 < length xs → are_inert xs ≡ true → tiles cx xs ≡ (chars (length (map glyph_of xs)), xs) ∷ []
inert_tiles cx xs s e =
    let gs = map glyph_of xs in
    let n : length gs ≡ length xs = length-map xs glyph_of in
    tiles_are cx xs
    ∙ ap (λ ws. tile_parts ws xs) (sym (shapes_only cx (chars (length gs) ∷ []) gs (one_tile cx gs (omega (arith, n, s)) (inert_glyphs xs e))))
    ∙ one_part xs gs n

-- ---- one segment

joined_pair : (a b : Bool) → a ≡ false → b ≡ false → not (a || b) ≡ true
joined_pair false false e f = refl
joined_pair true b e f = cc
joined_pair false true e f = cc

one_run : (xs : List Item) → 0 < length xs → are_inert xs ≡ true → IsRun one_stretch xs []
one_run [] s e = absurd (omega arith)
one_run (x ∷ []) s e = tt
one_run (whole f o bs ∷ y ∷ ys) s e = cc
one_run (char o b ∷ whole f p bs ∷ ys) s e = let r = right_of (is_inert b) (are_inert (whole f p bs ∷ ys)) e in cc
one_run (char o b ∷ char p c ∷ ys) s e =
    let f = left_of (is_inert b) (are_inert (char p c ∷ ys)) e in
    let r = right_of (is_inert b) (are_inert (char p c ∷ ys)) e in
    let g = left_of (is_inert c) (are_inert ys) r in
    (joined_pair (b == 39) (c == 39) (none_of b f).quote (none_of c g).quote, one_run (char p c ∷ ys) (omega arith) r)

no_quote : (xs : List Item) → are_inert xs ≡ true → is_first_quote xs ≡ false
no_quote [] e = refl
no_quote (char o b ∷ xs) e = (none_of b (left_of (is_inert b) (are_inert xs) e)).quote
no_quote (whole f o bs ∷ xs) e = cc

abbrev text_segment : List Item → Segment
text_segment xs = record { quote = false; items = xs; parts = parts Text xs }

one_segment : (xs : List Item) → 0 < length xs → are_inert xs ≡ true → loose_segments xs ≡ text_segment xs ∷ []
unfolding loose_segments
one_segment xs s e =
    ap (map loose_segment) (ap (runs one_stretch) (sym (append-nil xs)) ∙ runs_cut one_stretch xs [] (one_run xs s e))
    ∙ ap (λ (q : Bool). record { quote = q; items = xs; parts = parts Text xs } ∷ []) (no_quote xs e)

unstyled : (xs : List Item) → with_styles (text_segment xs ∷ []) ≡ parts Text xs ++ []
unfolding with_styles chunks style_tree_of toggles_of toggle_at
unstyled xs = refl

-- ---- a context

nothing_read : (read : Reading) (cx : Context) → with_styles (segments read cx []) ≡ []
unfolding segments tiles shapes closed with_styles chunks style_tree_of toggles_of
nothing_read read cx = refl

some_read : (read : Reading) (cx : Context) (xs : List Item) → 0 < length xs → are_inert xs ≡ true → with_styles (segments read cx xs) ≡ parts Text xs
unfolding segments
some_read read cx xs s e =
    ap (λ ts. with_styles (flat_map (tile_segments read cx) ts)) (inert_tiles cx xs s e)
    ∙ ap with_styles (append-nil (loose_segments xs) ∙ one_segment xs s e) ∙ unstyled xs ∙ append-nil (parts Text xs)

inert_read : (read : Reading) (cx : Context) (xs : List Item) → are_inert xs ≡ true → with_styles (segments read cx xs) ≡ parts Text xs
inert_read read cx [] e = nothing_read read cx
inert_read read cx (x ∷ xs) e = some_read read cx (x ∷ xs) (omega arith) e

pub none_within : (n : ℕ) (cx : Context) (xs : List Item) → n ≡ 0 → within n cx xs ≡ parts Text xs
none_within zero cx xs e = refl
none_within (suc n) cx xs e = absurd (omega arith)

pub inert_within : (n : ℕ) (cx : Context) (xs : List Item) → are_inert xs ≡ true → within n cx xs ≡ parts Text xs
inert_within zero cx xs e = refl
inert_within (suc n) cx xs e = inert_read (within n) cx xs e

-- ---- bytes and items

inert_bytes : (o : Option ℕ) (bs : List ℕ) → list_all is_inert bs ≡ true → are_inert (map (char o) bs) ≡ true
inert_bytes o [] e = refl
inert_bytes o (b ∷ bs) e =
    let p = left_of (is_inert b) (list_all is_inert bs) e in
    let q = inert_bytes o bs (right_of (is_inert b) (list_all is_inert bs) e) in
    rw (p, q) refl

chars_form : (f : ItemForm) → is_chars f ≡ true → f ≡ form.Chars
chars_form form.Chars e = refl
chars_form (form.Entity c) e = cc
chars_form form.Nowiki e = cc
chars_form form.Extension e = cc
chars_form form.Function e = cc
chars_form form.Comment e = cc
chars_form form.Include e = cc
chars_form form.Hidden e = cc
chars_form form.EmptyCall e = cc

pub inert_form : (f : ItemForm) (o : Option ℕ) (bs : List ℕ) → is_chars f ≡ true → list_all is_inert bs ≡ true → are_inert (items_by f o bs) ≡ true
inert_form f o bs e h = ap (λ g. are_inert (items_by g o bs)) (chars_form f e) ∙ inert_bytes o bs h
