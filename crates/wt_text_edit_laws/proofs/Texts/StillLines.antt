-- Characters, references and empty nowikis among which no form begins and no two apostrophes stand side by side: they are characters and
-- atoms in every context.
use Rattle.std.proofs.Common.{◌≡◌, ℕ, zero, suc, ◌+◌, ◌-◌, ◌==◌, Bool, true, false, Option, Some, None, List, [], ◌∷◌, ◌++◌, length, take, drop, map, codes, refl, sym, ap, ◌∙◌, subst, arith, take_all, append_assoc}
use Rattle.std.specs.Prelude.{◌&&◌, ◌||◌, cond, if◌then◌else◌, option_map, nat_lt, slice_get}
use Rattle.std.specs.List.{list_all, flat_map, filter_map, range_with_len}
use Rattle.std.specs.Option.{option_or}
use Rattle.std.specs.Char.{to_ascii_lowercase, is_ascii_alphabetic}
use Rattle.std.proofs.lemmas.Bool.Decides.{Decides-eqb, nat_tests}
use Rattle.std.proofs.lemmas.List.{map-append}
use Rattle.wt_span.specs.Bytes as bytes
use Rattle.wt_span.specs.declared.form.ItemForm.{ItemForm}
use Rattle.wt_span.specs.declared.form.ItemForm.TheVariants as form
use Rattle.wt_span.specs.Items.{Item, char, whole, is_mark_form}
use Rattle.wt_span.specs.Runs.{put, runs, IsRun, AreRuns}
use Rattle.wt_span.proofs.RunLaws.{runs_are}
use Rattle.wt_lex.specs.Words.{is_form_byte}
use Rattle.wt_inline.specs.declared.loose.Loose.TheVariants.{Text}
use Rattle.wt_inline.specs.Parts.{part, parts}
use Rattle.wt_tiles.specs.declared.context.Context.{Context}
use Rattle.wt_tiles.specs.declared.glyph.Glyph.{Glyph}
use Rattle.wt_tiles.specs.declared.glyph.Glyph.TheVariants as glyph
use Rattle.wt_tiles.specs.declared.shape.Shape.{Shape}
use Rattle.wt_tiles.specs.declared.shape.TileKind.{TileKind}
use Rattle.wt_tiles.specs.declared.shape.TileKind.TheVariants as tile
use Rattle.wt_tiles.specs.Glyphs.{glyph_of, glyph_of_form, is_in, begins, begins_like}
use Rattle.wt_tiles.specs.Links.{link_at}
use Rattle.wt_tiles.specs.Urls.{scheme_len, bare_url_of, bare_url_at, ext_link_at, kept_len, url_items, is_word}
use Rattle.wt_tiles.specs.Tags.{opening_tag, closing_tag, tag_at, name_len}
use Rattle.wt_tiles.specs.Tiles.{shape_of_tag, tag_tile, switch_at, outside, link_or_url, form_at, chars, closed, shapes, size, parts as tile_parts, cuts, cut_with}
use Rattle.wt_tiles.proofs.Joining.{tiles_are, tiles_join}
use Rattle.wt_quotes.specs.declared.chunk.Chunk.{Chunk}
use Rattle.wt_quotes.specs.declared.chunk.Chunk.TheVariants as chunk
use Rattle.wt_quotes.specs.declared.toggle.Toggle.{Toggle}
use Rattle.wt_quotes.specs.Runs.{run_length, bytes_of}
use Rattle.wt_quotes.specs.Toggles.{toggle_of, toggle_at, is_due, exchange_place, exchange_at, toggles_of}
use Rattle.wt_quotes.specs.Turns.{turns_of}
use Rattle.wt_quotes.specs.Styles.{styles_by, style_tree_of}
use Rattle.wt_quotes.specs.Forest.{forest_of}
use Rattle.wt_context.specs.Segments.{Segment, is_quote, one_stretch, is_first_quote, loose_segment, loose_segments, segment_items, segment_parts}
use Rattle.wt_context.specs.Chunks.{both_quotes, is_run, other_chunk, chunks_since, chunks}
use Rattle.wt_context.specs.Styled.{styled, with_styles}
use Rattle.wt_context.specs.Nodes.{Reading, tile_segments, segments, tile_tree, segments_by}
use Rattle.wt_context.specs.Line.{within}
use Rattle.wt_typed_blocks.specs.Reading.{stands}
use Rattle.wt_text_edit_laws.specs.PlainTexts.{is_plain}
use Rattle.wt_text_edit_laws.specs.LonePages.{page_chars}
use Rattle.wt_text_edit_laws.specs.StillItems.{starts_tag, IsStill, IsTypedForm, StillItems}
use Rattle.wt_text_edit_laws.proofs.Texts.PlainWords.{and_left, and_right, not_false, or_left, or_right}

-- ---- tests

and_true : (a b : Bool) → a ≡ true → b ≡ true → (a && b) ≡ true
and_true true b e f = f
and_true false b e f = cc

first_false : (a b : Bool) → a ≡ false → (a && b) ≡ false
first_false true b e = cc
first_false false b e = refl

and_false : (a b : Bool) → b ≡ false → (a && b) ≡ false
and_false true b e = e
and_false false b e = refl

-- true in a case that is false
false_as : (a b : Bool) → (a ≡ true → b ≡ true) → b ≡ false → a ≡ false
false_as true b f e = let no : true ≡ false = sym (f refl) ∙ e in cc
false_as false b f e = refl

-- ---- as glyphs

abbrev Still : List Glyph → Type 0
Still [] = Unit {0}
Still (glyph.Byte b ∷ gs) = IsStill b gs × Still gs
Still (glyph.Entity c ∷ gs) = Still gs
Still (glyph.Atom ∷ gs) = Still gs
Still (glyph.Mark ∷ gs) = ⊥

whole_glyph : (f : ItemForm) (gs : List Glyph) → IsTypedForm f → Still gs → Still (glyph_of_form f ∷ gs)
whole_glyph form.Chars gs f h = absurd f
whole_glyph (form.Entity c) gs f h = h
whole_glyph form.Nowiki gs f h = h
whole_glyph form.Extension gs f h = absurd f
whole_glyph form.Function gs f h = absurd f
whole_glyph form.Comment gs f h = absurd f
whole_glyph form.Include gs f h = absurd f
whole_glyph form.Hidden gs f h = absurd f
whole_glyph form.EmptyCall gs f h = absurd f

-- none of them is a mark
pub no_mark : (f : ItemForm) → IsTypedForm f → is_mark_form f ≡ false
no_mark form.Chars h = refl
no_mark (form.Entity c) h = refl
no_mark form.Nowiki h = refl
no_mark form.Extension h = refl
no_mark form.Function h = refl
no_mark form.Comment h = absurd h
no_mark form.Include h = absurd h
no_mark form.Hidden h = absurd h
no_mark form.EmptyCall h = absurd h

still_glyphs : (xs : List Item) → StillItems xs → Still (map glyph_of xs)
still_glyphs [] c = tt
still_glyphs (char o b ∷ xs) c = (c.0, still_glyphs xs c.1)
still_glyphs (whole f o bs ∷ xs) c = whole_glyph f (map glyph_of xs) c.0 (still_glyphs xs c.1)

-- ---- in parts

front_begins : (word : List ℕ) (xs ys : List Item) → begins word (map glyph_of xs) ≡ true → begins word (map glyph_of (xs ++ ys)) ≡ true
front_begins [] xs ys e = refl
front_begins (w ∷ word) [] ys e = cc
front_begins (w ∷ word) (x ∷ xs) ys e =
    let g = is_in (λ c. c == w) (glyph_of x) in
    and_true g (begins word (map glyph_of (xs ++ ys))) (and_left g (begins word (map glyph_of xs)) e)
    (front_begins word xs ys (and_right g (begins word (map glyph_of xs)) e))

less : (word : List ℕ) (b : ℕ) (xs ys : List Item) → begins word (glyph.Byte b ∷ map glyph_of (xs ++ ys)) ≡ false
    → begins word (glyph.Byte b ∷ map glyph_of xs) ≡ false
less word b xs ys e =
    false_as (begins word (glyph.Byte b ∷ map glyph_of xs)) (begins word (glyph.Byte b ∷ map glyph_of (xs ++ ys)))
    (front_begins word (char None b ∷ xs) ys) e

less_tag : (b : ℕ) (xs ys : List Item) → ((b == 60) && starts_tag (map glyph_of (xs ++ ys))) ≡ false → ((b == 60) && starts_tag (map glyph_of xs)) ≡ false
less_tag b [] ys e = and_false (b == 60) false refl
less_tag b (x ∷ xs) ys e = e

still_less : (b : ℕ) (xs ys : List Item) → IsStill b (map glyph_of (xs ++ ys)) → IsStill b (map glyph_of xs)
still_less b xs ys c = record {
  bracket = c.bracket;
  tag = less_tag b xs ys c.tag;
  quotes = less (codes "''") b xs ys c.quotes;
  switch = less (codes "__") b xs ys c.switch;
  address = less (codes "://") b xs ys c.address;
}

pub still_left : (xs ys : List Item) → StillItems (xs ++ ys) → StillItems xs
still_left [] ys c = tt
still_left (char o b ∷ xs) ys c = (still_less b xs ys c.0, still_left xs ys c.1)
still_left (whole f o bs ∷ xs) ys c = (c.0, still_left xs ys c.1)

pub still_right : (xs ys : List Item) → StillItems (xs ++ ys) → StillItems ys
still_right [] ys c = c
still_right (char o b ∷ xs) ys c = still_right xs ys c.1
still_right (whole f o bs ∷ xs) ys c = still_right xs ys c.1

-- ---- no form begins at a character

if_none : {A : Type 0} (t : Bool) (o : Option A) → t ≡ false → (if t then o else None) ≡ None
if_none true o e = cc
if_none false o e = refl

or_none : {A : Type 0} (a b : Option A) → a ≡ None → b ≡ None → option_or a b ≡ None
or_none None b e f = f
or_none (Some x) b e f = cc

map_none : {A B : Type 0} (f : A → B) (o : Option A) → o ≡ None → option_map f o ≡ None
map_none f o e = ap (option_map f) e

outside_none : (t : Bool) (o : Option Shape) → o ≡ None → outside t o ≡ None
outside_none true o e = refl
outside_none false o e = e

-- a sign is no letter: in lower case it is itself
lower_by : (b c : ℕ) (v w : Bool) → nat_lt b 65 ≡ v → nat_lt b 91 ≡ w → nat_lt c 65 ≡ true → (cond v b (cond w (b + 32) b) == c) ≡ true → (b == c) ≡ true
lower_by b c true w e f g h = h
lower_by b c false true e f g h = grind (arith, nat_tests)
lower_by b c false false e f g h = h

lower_is : (b c : ℕ) → nat_lt c 65 ≡ true → (to_ascii_lowercase b == c) ≡ true → (b == c) ≡ true
lower_is b c g h = lower_by b c (nat_lt b 65) (nat_lt b 91) refl refl g h

like_begins : (word : List ℕ) (gs : List Glyph) → list_all (λ c. nat_lt c 65) word ≡ true → begins_like word gs ≡ true → begins word gs ≡ true
like_begins [] gs a e = refl
like_begins (w ∷ word) [] a e = cc
like_begins (w ∷ word) (glyph.Byte b ∷ gs) a e =
    let small = and_left (nat_lt w 65) (list_all (λ c. nat_lt c 65) word) a in
    let l = to_ascii_lowercase b == w in
    and_true (b == w) (begins word gs) (lower_is b w small (and_left l (begins_like word gs) e))
    (like_begins word gs (and_right (nat_lt w 65) (list_all (λ c. nat_lt c 65) word) a) (and_right l (begins_like word gs) e))
like_begins (w ∷ word) (glyph.Entity c ∷ gs) a e = cc
like_begins (w ∷ word) (glyph.Atom ∷ gs) a e = cc
like_begins (w ∷ word) (glyph.Mark ∷ gs) a e = cc

no_address : (gs : List Glyph) → Still gs → begins_like (codes "://") gs ≡ false
no_address [] c = refl
no_address (glyph.Byte b ∷ gs) c =
    let all = glyph.Byte b ∷ gs in
    false_as (begins_like (codes "://") all) (begins (codes "://") all) (like_begins (codes "://") all refl) c.0.address
no_address (glyph.Entity d ∷ gs) c = refl
no_address (glyph.Atom ∷ gs) c = refl
no_address (glyph.Mark ∷ gs) c = absurd c

no_word : (front : List ℕ) (gs : List Glyph) → Still gs → begins_like (front ++ codes "://") gs ≡ false
no_word [] gs c = no_address gs c
no_word (w ∷ front) [] c = refl
no_word (w ∷ front) (glyph.Byte b ∷ gs) c = and_false (to_ascii_lowercase b == w) (begins_like (front ++ codes "://") gs) (no_word front gs c.1)
no_word (w ∷ front) (glyph.Entity d ∷ gs) c = refl
no_word (w ∷ front) (glyph.Atom ∷ gs) c = refl
no_word (w ∷ front) (glyph.Mark ∷ gs) c = absurd c

scheme_by : (u v w : Bool) → u ≡ false → v ≡ false → w ≡ false → (if u then 7 else (if v then 8 else (if w then 6 else 0))) ≡ zero
scheme_by false false false e f g = refl
scheme_by true v w e f g = cc
scheme_by false true w e f g = cc
scheme_by false false true e f g = cc

no_scheme : (gs : List Glyph) → Still gs → scheme_len gs ≡ 0
unfolding scheme_len
no_scheme gs c =
    scheme_by (begins_like (codes "http://") gs) (begins_like (codes "https://") gs) (begins_like (codes "ftp://") gs)
    (no_word (codes "http") gs c) (no_word (codes "https") gs c) (no_word (codes "ftp") gs c)

no_url_by : (after : Bool) (o : Option Shape) → o ≡ None → (if after then None else o) ≡ None
no_url_by true o e = refl
no_url_by false o e = e

no_url : (after : Bool) (gs : List Glyph) → Still gs → bare_url_at after gs ≡ None
unfolding bare_url_at
no_url after gs c = no_url_by after _ (ap (λ n. bare_url_of n (kept_len (url_items gs))) (no_scheme gs c))

no_link : (b : ℕ) (gs : List Glyph) → IsStill b gs → link_at (glyph.Byte b ∷ gs) ≡ None
unfolding link_at
no_link b gs c = if_none (begins (codes "[[") (glyph.Byte b ∷ gs)) _ (first_false (b == 91) _ c.bracket)

no_ext_link : (b : ℕ) (gs : List Glyph) → IsStill b gs → ext_link_at (glyph.Byte b ∷ gs) ≡ None
unfolding ext_link_at
no_ext_link b gs c = if_none (b == 91) _ c.bracket

-- a name begins with a letter
no_name : (gs : List Glyph) → starts_tag gs ≡ false → name_len gs ≡ 0
no_name [] e = refl
no_name (glyph.Byte c ∷ gs) e = rw (or_left (is_ascii_alphabetic c) (c == 47) e) refl
no_name (glyph.Entity d ∷ gs) e = refl
no_name (glyph.Atom ∷ gs) e = refl
no_name (glyph.Mark ∷ gs) e = refl

no_slash : (gs : List Glyph) → starts_tag gs ≡ false → begins (codes "/") gs ≡ false
no_slash [] e = refl
no_slash (glyph.Byte c ∷ gs) e = first_false (c == 47) _ (or_right (is_ascii_alphabetic c) (c == 47) e)
no_slash (glyph.Entity d ∷ gs) e = refl
no_slash (glyph.Atom ∷ gs) e = refl
no_slash (glyph.Mark ∷ gs) e = refl

-- by whether the character is a `<`
both_by : (v w u : Bool) → (v && w) ≡ false → (w ≡ false → u ≡ false) → (v && u) ≡ false
both_by true w u e f = f e
both_by false w u e f = refl

no_opening : (b : ℕ) (gs : List Glyph) → ((b == 60) && starts_tag gs) ≡ false → opening_tag (glyph.Byte b ∷ gs) ≡ None
unfolding opening_tag
no_opening b gs e =
    if_none _ _ (both_by (b == 60) (starts_tag gs) (nat_lt 0 (name_len gs)) e (λ f. ap (λ n. nat_lt 0 n) (no_name gs f)))

no_closing : (b : ℕ) (gs : List Glyph) → ((b == 60) && starts_tag gs) ≡ false → closing_tag (glyph.Byte b ∷ gs) ≡ None
unfolding closing_tag
no_closing b gs e =
    if_none _ _ (first_false (begins (codes "</") (glyph.Byte b ∷ gs)) _ (both_by (b == 60) (starts_tag gs) (begins (codes "/") gs) e (no_slash gs)))

no_tag : (b : ℕ) (gs : List Glyph) → IsStill b gs → tag_at (glyph.Byte b ∷ gs) ≡ None
unfolding tag_at
no_tag b gs c = or_none (opening_tag (glyph.Byte b ∷ gs)) (closing_tag (glyph.Byte b ∷ gs)) (no_opening b gs c.tag) (no_closing b gs c.tag)

no_switch : (b : ℕ) (gs : List Glyph) → IsStill b gs → switch_at (glyph.Byte b ∷ gs) ≡ None
unfolding switch_at
no_switch b gs c = if_none (begins (codes "__") (glyph.Byte b ∷ gs)) _ c.switch

no_form : (cx : Context) (after : Bool) (b : ℕ) (gs : List Glyph) → IsStill b gs → Still gs → form_at cx after (glyph.Byte b ∷ gs) ≡ None
unfolding form_at link_or_url tag_tile
no_form cx after b gs c p =
    let all = glyph.Byte b ∷ gs in
    or_none (outside cx.in_link (link_or_url after all)) _
    (outside_none cx.in_link (link_or_url after all) (or_none (link_at all) _ (no_link b gs c)
    (or_none (ext_link_at all) (bare_url_at after all) (no_ext_link b gs c) (no_url after all (c, p)))))
    (or_none (tag_tile cx.pairs all) (switch_at all)
    (map_none (λ t. shape_of_tag cx.pairs t.name t.shape t.len all) (tag_at all) (no_tag b gs c)) (no_switch b gs c))

-- ---- characters and atoms alone

abbrev IsLoose : TileKind → Type 0
IsLoose tile.Link = ⊥
IsLoose tile.Category = ⊥
IsLoose tile.Media = ⊥
IsLoose tile.ExtLink = ⊥
IsLoose tile.BareUrl = ⊥
IsLoose tile.Br = ⊥
IsLoose tile.Pair = ⊥
IsLoose tile.TagIsland = ⊥
IsLoose tile.Switch = ⊥
IsLoose tile.Atom = Unit {0}
IsLoose tile.Mark = ⊥
IsLoose tile.Chars = Unit {0}

abbrev AreLoose : List Shape → Type 0
AreLoose [] = Unit {0}
AreLoose (w ∷ ws) = IsLoose w.kind × AreLoose ws

closed_by : (t : Bool) (n : ℕ) (ws : List Shape) → AreLoose ws → AreLoose (if t then ws else chars n ∷ ws)
closed_by true n ws h = h
closed_by false n ws h = (tt, h)

loose_closed : (n : ℕ) (ws : List Shape) → AreLoose ws → AreLoose (closed n ws)
unfolding closed
loose_closed n ws h = closed_by (n == 0) n ws h

still_cuts : (cx : Context) (after : Bool) (n : ℕ) (gs : List Glyph) → Still gs → AreLoose (cuts cx after n gs).1
still_cuts cx after n [] c = tt
still_cuts cx after (suc n) (glyph.Byte b ∷ gs) c = still_cuts cx (is_word b) n gs c.1
still_cuts cx after (suc n) (glyph.Entity d ∷ gs) c = still_cuts cx false n gs c
still_cuts cx after (suc n) (glyph.Atom ∷ gs) c = still_cuts cx false n gs c
still_cuts cx after (suc n) (glyph.Mark ∷ gs) c = absurd c
still_cuts cx after zero (glyph.Byte b ∷ gs) c =
    subst (λ o. AreLoose (cut_with o (λ n. cuts cx (is_word b) n gs)).1) (sym (no_form cx after b gs c.0 c.1)) (still_cuts cx (is_word b) 0 gs c.1)
still_cuts cx after zero (glyph.Entity d ∷ gs) c = (tt, loose_closed (cuts cx false 0 gs).0 (cuts cx false 0 gs).1 (still_cuts cx false 0 gs c))
still_cuts cx after zero (glyph.Atom ∷ gs) c = (tt, loose_closed (cuts cx false 0 gs).0 (cuts cx false 0 gs).1 (still_cuts cx false 0 gs c))
still_cuts cx after zero (glyph.Mark ∷ gs) c = absurd c

still_shapes : (cx : Context) (gs : List Glyph) → Still gs → AreLoose (shapes cx gs)
unfolding shapes
still_shapes cx gs c = loose_closed (cuts cx false 0 gs).0 (cuts cx false 0 gs).1 (still_cuts cx false 0 gs c)

-- ---- their segments

-- a tile that is characters or an atom has no tree
no_tree : (read : Reading) (cx : Context) (k : TileKind) (w : Shape) (xs : List Item) → IsLoose k → tile_tree read cx k w xs ≡ None
no_tree read cx tile.Link w xs h = absurd h
no_tree read cx tile.Category w xs h = absurd h
no_tree read cx tile.Media w xs h = absurd h
no_tree read cx tile.ExtLink w xs h = absurd h
no_tree read cx tile.BareUrl w xs h = absurd h
no_tree read cx tile.Br w xs h = absurd h
no_tree read cx tile.Pair w xs h = absurd h
no_tree read cx tile.TagIsland w xs h = absurd h
no_tree read cx tile.Switch w xs h = absurd h
no_tree read cx tile.Atom w xs h = refl
no_tree read cx tile.Mark w xs h = absurd h
no_tree read cx tile.Chars w xs h = refl

-- the stretches of all tiles
abbrev bits : List (Shape × List Item) → List (List Item)
bits [] = []
bits ((w, ys) ∷ ts) = runs one_stretch ys ++ bits ts

loose_are : (read : Reading) (cx : Context) (ws : List Shape) (xs : List Item) → AreLoose ws
    → flat_map (tile_segments read cx) (tile_parts ws xs) ≡ map loose_segment (bits (tile_parts ws xs))
unfolding loose_segments
loose_are read cx [] xs h = refl
loose_are read cx (w ∷ ws) xs h =
    let ys : List Item = take (size w) xs in
    let rest : List (Shape × List Item) = tile_parts ws (drop (size w) xs) in
    ap (λ o. segments_by o ys ++ flat_map (tile_segments read cx) rest) (no_tree read cx w.kind w ys h.0)
    ∙ ap (λ us. loose_segments ys ++ us) (loose_are read cx ws (drop (size w) xs) h.1)
    ∙ sym (map-append loose_segment (runs one_stretch ys) (bits rest))

-- stretches that join to these items, each of which is one by itself
abbrev AreBits : List (List Item) → List Item → Type 0
AreBits [] xs = xs ≡ []
AreBits (r ∷ rs) xs = (others : List Item) × (xs ≡ r ++ others) × IsRun one_stretch r [] × AreBits rs others

run_itself : (r others : List Item) → IsRun one_stretch r others → IsRun one_stretch r []
run_itself [] others h = h
run_itself (x ∷ []) others h = tt
run_itself (x ∷ y ∷ ys) others h = (h.0, run_itself (y ∷ ys) others h.1)

bits_before : (rs ss : List (List Item)) (xs ys : List Item) → AreRuns one_stretch rs xs → AreBits ss ys → AreBits (rs ++ ss) (xs ++ ys)
bits_before [] ss xs ys h g = subst (λ zs. AreBits ss (zs ++ ys)) (sym h) g
bits_before (r ∷ rs) ss xs ys h g =
    (h.0 ++ ys, ap (λ zs. zs ++ ys) h.1 ∙ append_assoc r h.0 ys, run_itself r h.0 h.2, bits_before rs ss h.0 ys h.3 g)

bits_are : (ts : List (Shape × List Item)) → AreBits (bits ts) (flat_map (λ t. t.1) ts)
bits_are [] = refl
bits_are ((w, ys) ∷ ts) = bits_before (runs one_stretch ys) (bits ts) ys (flat_map (λ t. t.1) ts) (runs_are one_stretch ys) (bits_are ts)

bits_joined : (rs : List (List Item)) (xs : List Item) → AreBits rs xs → flat_map (λ r. r) rs ≡ xs
bits_joined [] xs h = sym h
bits_joined (r ∷ rs) xs h = ap (λ ys. r ++ ys) (bits_joined rs h.0 h.3) ∙ sym h.1

-- ---- no style

two_by : (v w : Bool) → (v && (w && true)) ≡ false → (v && w) ≡ false
two_by true true e = e
two_by true false e = refl
two_by false w e = refl

two_apart : (x y : Item) (zs : List Item) → StillItems (x ∷ y ∷ zs) → (is_quote x && is_quote y) ≡ false
two_apart (whole f o bs) y zs c = refl
two_apart (char o b) (whole f p bs) zs c = and_false (b == 39) false refl
two_apart (char o b) (char p d) zs c = two_by (b == 39) (d == 39) c.0.quotes

firsts_apart : (r s xs others ends : List Item) → xs ≡ r ++ others → IsRun one_stretch r [] → others ≡ s ++ ends → StillItems xs
    → (is_first_quote r && is_first_quote s) ≡ false
firsts_apart [] s xs others ends is run e c = absurd run
firsts_apart (x ∷ z ∷ zs) s xs others ends is run e c =
    first_false (is_quote x) (is_first_quote s) (or_left (is_quote x) (is_quote z) (not_false (is_quote x || is_quote z) run.0))
firsts_apart (x ∷ []) [] xs others ends is run e c = and_false (is_quote x) false refl
firsts_apart (x ∷ []) (y ∷ ys) xs others ends is run e c =
    two_apart x y (ys ++ ends) (subst StillItems (is ∙ ap (λ zs. x ∷ zs) e) c)

abbrev pub alone : Segment → List Segment
alone u = u ∷ []

pub apart_put : (u v : Segment) (rs : List (List Segment)) → both_quotes u v ≡ false → put both_quotes u ((v ∷ []) ∷ rs) ≡ (u ∷ []) ∷ (v ∷ []) ∷ rs
apart_put u v rs e = rw e refl

runs_alone : (rs : List (List Item)) (xs : List Item) → AreBits rs xs → StillItems xs
    → runs both_quotes (map loose_segment rs) ≡ map alone (map loose_segment rs)
runs_alone [] xs h c = refl
runs_alone (r ∷ []) xs h c = refl
runs_alone (r ∷ s ∷ rs) xs h c =
    let rest : StillItems h.0 = still_right r h.0 (subst StillItems h.1 c) in
    ap (put both_quotes (loose_segment r)) (runs_alone (s ∷ rs) h.0 h.3 rest)
    ∙ apart_put (loose_segment r) (loose_segment s) (map alone (map loose_segment rs)) (firsts_apart r s xs h.0 h.3.0 h.1 h.2 h.3.1 c)

abbrev pub HasNoRun : List Chunk → Type 0
HasNoRun [] = Unit {0}
HasNoRun (chunk.Run n ∷ cs) = ⊥
HasNoRun (chunk.Text n l b ∷ cs) = HasNoRun cs
HasNoRun (chunk.Tile n l b ∷ cs) = HasNoRun cs

one_is_none : (u : Segment) → is_run (u ∷ []) ≡ false
one_is_none u = and_false u.quote _ refl

pub no_runs : (xs : List Item) (us : List Segment) → HasNoRun (chunks_since xs (map alone us))
no_runs xs [] = tt
no_runs xs (u ∷ us) =
    let ys : List Item = xs ++ segment_items (u ∷ []) in
    subst (λ (t : Bool). HasNoRun (if t then chunk.Run 1 ∷ chunks_since [] (map alone us) else other_chunk 1 ys ∷ chunks_since ys (map alone us)))
    (sym (one_is_none u)) (no_runs ys us)

no_length : (cs : List Chunk) (k : ℕ) → HasNoRun cs → run_length (slice_get cs k) ≡ 0
no_length [] k h = refl
no_length (chunk.Run n ∷ cs) k h = absurd h
no_length (chunk.Text n l b ∷ cs) zero h = refl
no_length (chunk.Text n l b ∷ cs) (suc k) h = no_length cs k h
no_length (chunk.Tile n l b ∷ cs) zero h = refl
no_length (chunk.Tile n l b ∷ cs) (suc k) h = no_length cs k h

no_toggle : (cs : List Chunk) (k : ℕ) → HasNoRun cs → toggle_at cs k ≡ None
unfolding toggle_at
no_toggle cs k h = ap (toggle_of k) (no_length cs k h)

none_kept : (f : ℕ → Option Toggle) (ks : List ℕ) → ((k : ℕ) → f k ≡ None) → filter_map f ks ≡ []
none_kept f [] h = refl
none_kept f (k ∷ ks) h = rw (h k) (none_kept f ks h)

no_toggles : (cs : List Chunk) → HasNoRun cs → toggles_of cs ≡ []
unfolding toggles_of
no_toggles cs h =
    ap (λ (ts : List Toggle). if is_due ts then exchange_at (exchange_place cs ts) ts else ts)
    (none_kept (toggle_at cs) (range_with_len 0 (length cs)) (λ k. no_toggle cs k h))

pub no_styles : (cs : List Chunk) → HasNoRun cs → style_tree_of cs ≡ []
unfolding style_tree_of
no_styles cs h = ap (λ (ts : List Toggle). styles_by (bytes_of cs) (turns_of cs ts)) (no_toggles cs h)

loose_joined : (rs : List (List Item)) → segment_parts (map loose_segment rs) ≡ parts Text (flat_map (λ r. r) rs)
loose_joined [] = refl
loose_joined (r ∷ rs) = ap (λ ps. parts Text r ++ ps) (loose_joined rs) ∙ sym (map-append (part Text) r (flat_map (λ s. s) rs))

still_chunks : (rs : List (List Item)) (xs : List Item) → AreBits rs xs → StillItems xs → HasNoRun (chunks (map loose_segment rs))
unfolding chunks
still_chunks rs xs h c = subst (λ ss. HasNoRun (chunks_since [] ss)) (sym (runs_alone rs xs h c)) (no_runs [] (map loose_segment rs))

unstyled : (rs : List (List Item)) (xs : List Item) → AreBits rs xs → StillItems xs → with_styles (map loose_segment rs) ≡ parts Text xs
unfolding with_styles
unstyled rs xs h c =
    let us : List Segment = map loose_segment rs in
    ap (λ ss. styled 0 (length us) (forest_of ss) us) (no_styles (chunks us) (still_chunks rs xs h c))
    ∙ ap segment_parts (take_all (length us - 0) us (omega arith)) ∙ loose_joined rs ∙ ap (parts Text) (bits_joined rs xs h)

-- ---- a context

still_read : (read : Reading) (cx : Context) (xs : List Item) → StillItems xs → with_styles (segments read cx xs) ≡ parts Text xs
unfolding segments
still_read read cx xs c =
    let ws : List Shape = shapes cx (map glyph_of xs) in
    let ts : List (Shape × List Item) = tile_parts ws xs in
    let all : flat_map (λ t. t.1) ts ≡ xs = ap (λ (us : List (Shape × List Item)). flat_map (λ t. t.1) us) (sym (tiles_are cx xs)) ∙ tiles_join cx xs in
    ap (λ us. with_styles (flat_map (tile_segments read cx) us)) (tiles_are cx xs)
    ∙ ap with_styles (loose_are read cx ws xs (still_shapes cx (map glyph_of xs) (still_glyphs xs c)))
    ∙ unstyled (bits ts) xs (subst (AreBits (bits ts)) all (bits_are ts)) c

pub still_within : (n : ℕ) (cx : Context) (xs : List Item) → StillItems xs → within n cx xs ≡ parts Text xs
still_within zero cx xs c = refl
still_within (suc n) cx xs c = still_read (within n) cx xs c

-- ---- bytes

glyphs_begin : (word bs : List ℕ) → begins word (map glyph_of (page_chars bs)) ≡ true → bytes.begins word bs ≡ true
glyphs_begin [] bs e = refl
glyphs_begin (w ∷ word) [] e = cc
glyphs_begin (w ∷ word) (b ∷ bs) e =
    let is : b ≡ w = (Decides-eqb b w).0 (and_left (b == w) (begins word (map glyph_of (page_chars bs))) e) in
    and_true (w == b) (bytes.begins word bs) ((Decides-eqb w b).1 (sym is))
    (glyphs_begin word bs (and_right (b == w) (begins word (map glyph_of (page_chars bs))) e))

not_begun : (word : List ℕ) (b : ℕ) (bs : List ℕ) → stands word (b ∷ bs) ≡ false → begins word (glyph.Byte b ∷ map glyph_of (page_chars bs)) ≡ false
not_begun word b bs e =
    false_as (begins word (glyph.Byte b ∷ map glyph_of (page_chars bs))) (bytes.begins word (b ∷ bs)) (glyphs_begin word (b ∷ bs))
    (or_left (bytes.begins word (b ∷ bs)) (stands word bs) e)

pub form_parts : (b : ℕ) → is_plain b ≡ true → ((b == 60) ≡ false) × ((b == 91) ≡ false)
form_parts b p =
    let f = not_false (is_form_byte b) p in
    let f38 = or_right (b == 60) _ f in
    let f123 = or_right (b == 38) _ f38 in
    let f125 = or_right (b == 123) _ f123 in
    let f91 = or_right (b == 125) _ f125 in
    (or_left (b == 60) _ f, or_left (b == 91) _ f91)

pub still_bytes : (bs : List ℕ) → list_all is_plain bs ≡ true → stands (codes "''") bs ≡ false → stands (codes "__") bs ≡ false
    → stands (codes "://") bs ≡ false → StillItems (page_chars bs)
still_bytes [] p q s a = tt
still_bytes (b ∷ bs) p q s a =
    let f = form_parts b (and_left (is_plain b) (list_all is_plain bs) p) in (
      record {
        bracket = f.1;
        tag = first_false (b == 60) _ f.0;
        quotes = not_begun (codes "''") b bs q;
        switch = not_begun (codes "__") b bs s;
        address = not_begun (codes "://") b bs a;
      },
      still_bytes bs (and_right (is_plain b) (list_all is_plain bs) p) (or_right _ (stands (codes "''") bs) q) (or_right _ (stands (codes "__") bs) s)
          (or_right _ (stands (codes "://") bs) a),
    )
