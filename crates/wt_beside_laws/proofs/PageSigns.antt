-- The signs of lines of a page, by their tiles, are nodes that are read there, each at its place.
use Rattle.std.proofs.Common.{arith, ◌≡◌, ℕ, zero, suc, ◌+◌, ◌-◌, ◌<◌, ◌≤◌, ◌==◌, Bool, true, false, Option, Some, None, List, [], ◌∷◌, ◌++◌, length, map, take, drop, refl, sym, ap, ◌∙◌, subst, inl, inr, All, append_assoc, append-nil}
use Rattle.std.specs.Prelude.{encode_utf8, if◌then◌else◌}
use Rattle.std.specs.Str.{chars, IsUtf8}
use Rattle.std.proofs.Math.Utf8.{encodes}
use Rattle.std.proofs.lemmas.Bool.{cases_lt}
use Rattle.std.proofs.lemmas.Bool.Decides.{nat_tests}
use Rattle.std.proofs.lemmas.List.{length-append, length-take, length-map, take-append-drop, map-append}
use Rattle.std.proofs.lemmas.List.Elements.{All-head, All-tail}
use Rattle.std.proofs.lemmas.Grind.{flat_map-append}
use Rattle.std.proofs.lemmas.Str.{encodes-chars, encode_ascii}
use Rattle.wt_names.proofs.Ascii.{IsWide, encode_wide, encode_some}
use Rattle.wt_span.specs.declared.form.ItemForm.{ItemForm}
use Rattle.wt_span.specs.declared.form.ItemForm.TheVariants as form
use Rattle.wt_span.specs.Items.{Item, char, whole, source, sources}
use Rattle.wt_guards.specs.Content.{ContentSign, Thing, letter, thing, letters}
use Rattle.wt_guards.specs.Guards.{Setting}
use Rattle.wt_tiles.specs.declared.glyph.Glyph.{Glyph}
use Rattle.wt_tiles.specs.declared.glyph.Glyph.TheVariants as glyph
use Rattle.wt_tiles.specs.declared.shape.Shape.{Shape}
use Rattle.wt_tiles.specs.declared.shape.TileKind.{TileKind}
use Rattle.wt_tiles.specs.declared.shape.TileKind.TheVariants as kind
use Rattle.wt_tiles.specs.Contexts.{in_line}
use Rattle.wt_tiles.specs.Glyphs.{glyph_of, is_in, byte_glyphs}
use Rattle.wt_tiles.specs.Reading.{tile_at, is_word_at, word_before, StandsBy, AreTiles}
use Rattle.wt_tiles.specs.Tiles.{size, shapes, parts, tiles}
use Rattle.wt_tiles.specs.Tags.{tag_at}
use Rattle.wt_tiles.specs.Urls.{is_word}
use Rattle.wt_tiles.proofs.Readings.{shapes_are}
use Rattle.wt_tiles.proofs.TagInsides.{no_tag}
use Rattle.wt_beside_laws.specs.Cuts.{own_glyphs, ends_word, form_before}
use Rattle.wt_beside_laws.specs.InHeadings.{AreOnOneLine}
use Rattle.wt_beside_laws.specs.Nodes.{AreNodes, AllStayOpen, AllMeet}
use Rattle.wt_beside_laws.specs.PageSigns.{ends_break, atom_role, tile_role, form_sign, tile_signs, signs_of_tiles, line_signs, signs_of_lines, IsFlatForm, IsFlatTile, AreFlatTiles, HasNoBreak, AreFlatLines}
use Rattle.wt_beside_laws.specs.Stood.{IsTileOf, IsRead, line_glyphs, AreStood, AreAt, things}
use Rattle.wt_beside_laws.proofs.OpenTags.{untiled}
use Rattle.wt_beside_laws.proofs.PageNodes.{nodes_stay, nodes_meet}

-- ---- letters

-- whether a letter, digit or `_` is last
flag_after : Bool → List ℕ → Bool
flag_after a [] = a
flag_after a (c ∷ cs) = flag_after (is_word c) cs

wide_flag : (a : Bool) (bs : List ℕ) → All IsWide bs → 0 < length bs → ends_word a (byte_glyphs bs) ≡ false
wide_flag a [] h some = absurd (omega (arith, some))
wide_flag a (b ∷ []) h some = let le : 128 ≤ b = All-head IsWide b [] h in grind (arith, nat_tests)
wide_flag a (b ∷ d ∷ bs) h some = wide_flag (is_word b) (d ∷ bs) (All-tail IsWide b (d ∷ bs) h) (omega arith)

wide_word : (c : ℕ) → 128 ≤ c → is_word c ≡ false
wide_word c le = grind (arith, nat_tests)

ends_append : (a : Bool) (xs ys : List Glyph) → ends_word a (xs ++ ys) ≡ ends_word (ends_word a xs) ys
ends_append a [] ys = refl
ends_append a (x ∷ xs) ys = ends_append (is_in is_word x) xs ys

bytes_append : (xs ys : List ℕ) → byte_glyphs (xs ++ ys) ≡ byte_glyphs xs ++ byte_glyphs ys
bytes_append xs ys = map-append (λ (b : ℕ). glyph.Byte b) xs ys

one_flag : (a : Bool) (c : ℕ) → ends_word a (byte_glyphs (encode_utf8 c)) ≡ is_word c
one_flag a c = elim (cases_lt c 128) [
  | inl small ↦ ap (λ bs. ends_word a (byte_glyphs bs)) (encode_ascii c small)
  | inr wide ↦ (wide_flag a (encode_utf8 c) (encode_wide c wide) (encode_some c) ∙ sym (wide_word c wide))
]

flag_is : (a : Bool) (cs : List ℕ) → ends_word a (byte_glyphs (encodes cs)) ≡ flag_after a cs
unfolding flag_after
flag_is a [] = refl
flag_is a (c ∷ cs) =
    ap (ends_word a) (bytes_append (encode_utf8 c) (encodes cs))
    ∙ ends_append a (byte_glyphs (encode_utf8 c)) (byte_glyphs (encodes cs))
    ∙ ap (λ (v : Bool). ends_word v (byte_glyphs (encodes cs))) (one_flag a c)
    ∙ flag_is (is_word c) cs

letters_stood : (a : Bool) (cs : List ℕ) (rest : List ContentSign) → AreStood (flag_after a cs) rest → AreStood a (map letter cs ++ rest)
unfolding flag_after
letters_stood a [] rest h = h
letters_stood a (c ∷ cs) rest h = letters_stood (is_word c) cs rest h

letters_at : (at : ℕ) (cs : List ℕ) (rest : List ContentSign) → AreAt (at + length (encodes cs)) rest → AreAt at (map letter cs ++ rest)
letters_at at [] rest h = let z : at + 0 ≡ at = omega arith in subst (λ (n : ℕ). AreAt n rest) z h
letters_at at (c ∷ cs) rest h =
    let sum : length (encode_utf8 c ++ encodes cs) ≡ length (encode_utf8 c) + length (encodes cs) = length-append (encode_utf8 c) (encodes cs) in
    let z : at + length (encode_utf8 c ++ encodes cs) ≡ at + length (encode_utf8 c) + length (encodes cs) = omega (arith, sum) in
    letters_at (at + length (encode_utf8 c)) cs rest (subst (λ (n : ℕ). AreAt n rest) z h)

-- no byte is a line break
abbrev NoBreaks : List ℕ → Type 0
NoBreaks [] = Unit {0}
NoBreaks (b ∷ bs) = ((b == 10) ≡ false) × NoBreaks bs

none_parts : (xs ys : List ℕ) → NoBreaks (xs ++ ys) → NoBreaks xs × NoBreaks ys
none_parts [] ys h = (tt, h)
none_parts (x ∷ xs) ys h = let r = none_parts xs ys h.1 in ((h.0, r.0), r.1)

char_none : (c : ℕ) → NoBreaks (encode_utf8 c) → (c == 10) ≡ false
char_none c h = elim (cases_lt c 128) [
  | inl small ↦ (let own : NoBreaks (c ∷ []) = subst NoBreaks (encode_ascii c small) h in own.0)
  | inr wide ↦ grind (arith, nat_tests, wide)
]

letters_glyphs : (cs : List ℕ) (rest : List ContentSign) → NoBreaks (encodes cs) → line_glyphs (map letter cs ++ rest) ≡ byte_glyphs (encodes cs) ++ line_glyphs rest
letters_glyphs [] rest h = refl
letters_glyphs (c ∷ cs) rest h =
    let r = none_parts (encode_utf8 c) (encodes cs) h in
    ap (λ (v : Bool). if v then [] else byte_glyphs (encode_utf8 c) ++ line_glyphs (map letter cs ++ rest)) (char_none c r.0)
    ∙ ap (λ (gs : List Glyph). byte_glyphs (encode_utf8 c) ++ gs) (letters_glyphs cs rest r.1)
    ∙ sym (append_assoc (byte_glyphs (encode_utf8 c)) (byte_glyphs (encodes cs)) (line_glyphs rest))
    ∙ ap (λ (gs : List Glyph). gs ++ line_glyphs rest) (sym (bytes_append (encode_utf8 c) (encodes cs)))

-- ---- no character begins a tag

abbrev pub AreUntagged : List ContentSign → Type 0
AreUntagged [] = Unit {0}
AreUntagged (letter c ∷ after) = (tag_at (glyph.Byte c ∷ line_glyphs after) ≡ None) × AreUntagged after
AreUntagged (thing t ∷ after) = AreUntagged after

-- so at each of these items
abbrev NoneTagged : List Glyph → List Glyph → Type 0
NoneTagged [] behind = Unit {0}
NoneTagged (g ∷ gs) behind = (tag_at (g ∷ (gs ++ behind)) ≡ None) × NoneTagged gs behind

tagged_later : (xs ys behind : List Glyph) → NoneTagged (xs ++ ys) behind → NoneTagged ys behind
tagged_later [] ys behind h = h
tagged_later (x ∷ xs) ys behind h = tagged_later xs ys behind h.1

wide_untagged : (c : ℕ) (gs : List Glyph) → 128 ≤ c → tag_at (glyph.Byte c ∷ gs) ≡ None
wide_untagged c gs le = no_tag (glyph.Byte c ∷ gs) (let z : (c == 60) ≡ false = grind (arith, nat_tests, le) in z)

letters_untagged : (cs : List ℕ) (rest : List ContentSign) → NoBreaks (encodes cs) → NoneTagged (byte_glyphs (encodes cs)) (line_glyphs rest) → AreUntagged rest
    → AreUntagged (map letter cs ++ rest)
letters_untagged [] rest n h u = u
letters_untagged (c ∷ cs) rest n h u =
    let r = none_parts (encode_utf8 c) (encodes cs) n in
    let gs : List Glyph = byte_glyphs (encodes cs) in
    let both : NoneTagged (byte_glyphs (encode_utf8 c) ++ gs) (line_glyphs rest) =
    subst (λ (hs : List Glyph). NoneTagged hs (line_glyphs rest)) (bytes_append (encode_utf8 c) (encodes cs)) h in
    let first : tag_at (glyph.Byte c ∷ (gs ++ line_glyphs rest)) ≡ None = elim (cases_lt c 128) [
      | inl small ↦ (let own : NoneTagged (glyph.Byte c ∷ gs) (line_glyphs rest) =
          subst (λ (bs : List ℕ). NoneTagged (byte_glyphs bs ++ gs) (line_glyphs rest)) (encode_ascii c small) both in own.0)
      | inr wide ↦ wide_untagged c (gs ++ line_glyphs rest) wide
    ] in (
      subst (λ (hs : List Glyph). tag_at (glyph.Byte c ∷ hs) ≡ None) (sym (letters_glyphs cs rest r.1)) first,
      letters_untagged cs rest r.1 (tagged_later (byte_glyphs (encode_utf8 c)) gs (line_glyphs rest) both) u,
    )

-- ---- what is shown of the signs of some items

record Read (a : Bool) (at : ℕ) (xs : List Item) (signs : List ContentSign) : Type 0 where
  stood : AreStood a signs
  places : AreAt at signs
  glyphs : line_glyphs signs ≡ map glyph_of xs
  untagged : AreUntagged signs

-- what comes after a line
pub record EndsLine (at : ℕ) (signs : List ContentSign) : Type 0 where
  pub stood : (a : Bool) → AreStood a signs
  pub places : AreAt at signs
  pub none : line_glyphs signs ≡ []
  pub untagged : AreUntagged signs

sources_append : (xs ys : List Item) → sources (xs ++ ys) ≡ sources xs ++ sources ys
sources_append xs ys = flat_map-append source xs ys

-- ---- a run of characters

-- each of these items is a character
abbrev pub AreChars : List Item → Type 0
AreChars [] = Unit {0}
AreChars (char o b ∷ xs) = AreChars xs
AreChars (whole f o bs ∷ xs) = ⊥

chars_glyphs : (xs : List Item) → AreChars xs → map glyph_of xs ≡ byte_glyphs (sources xs)
chars_glyphs [] h = refl
chars_glyphs (char o b ∷ xs) h = ap (λ gs. glyph.Byte b ∷ gs) (chars_glyphs xs h)
chars_glyphs (whole f o bs ∷ xs) h = absurd h

chars_none : (xs : List Item) → AreChars xs → HasNoBreak xs → NoBreaks (sources xs)
chars_none [] h k = tt
chars_none (char o b ∷ xs) h k = (k.0, chars_none xs h k.1)
chars_none (whole f o bs ∷ xs) h k = absurd h

no_form : (a : Bool) (f : ItemForm) (o : Option ℕ) (bs : List ℕ) (gs : List Glyph) → tile_at in_line a (glyph_of (whole f o bs) ∷ gs) ≡ None → ⊥
no_form a form.Chars o bs gs e = cc
no_form a (form.Entity c) o bs gs e = cc
no_form a form.Nowiki o bs gs e = cc
no_form a form.Extension o bs gs e = cc
no_form a form.Function o bs gs e = cc
no_form a form.Comment o bs gs e = cc
no_form a form.Include o bs gs e = cc
no_form a form.Hidden o bs gs e = cc
no_form a form.EmptyCall o bs gs e = cc

-- where no form begins at the first n items
pub are_chars : (n : ℕ) (a : Bool) (xs : List Item)
    → ((k : ℕ) → k < n → tile_at in_line (word_before a (map glyph_of xs) k) (drop k (map glyph_of xs)) ≡ None) → AreChars (take n xs)
are_chars zero a xs f = tt
are_chars (suc n) a [] f = tt
are_chars (suc n) a (char o b ∷ xs) f = are_chars n (is_word b) xs (λ k lt. later k lt)
  where
    later : (k : ℕ) → k < n → tile_at in_line (word_before (is_word b) (map glyph_of xs) k) (drop k (map glyph_of xs)) ≡ None
    later zero lt = f 1 (omega (arith, lt))
    later (suc k) lt = f (suc (suc k)) (omega (arith, lt))
are_chars (suc n) a (whole g o bs ∷ xs) f = absurd (no_form a g o bs (map glyph_of xs) (f 0 (omega arith)))

both_glyphs : (n : ℕ) (xs : List Item) → map glyph_of xs ≡ map glyph_of (take n xs) ++ map glyph_of (drop n xs)
both_glyphs n xs = sym (ap (λ (us : List Item). map glyph_of us) (take-append-drop n xs)) ∙ map-append glyph_of (take n xs) (drop n xs)

-- nor a tag
none_tagged : (n : ℕ) (a : Bool) (xs : List Item)
    → ((k : ℕ) → k < n → tile_at in_line (word_before a (map glyph_of xs) k) (drop k (map glyph_of xs)) ≡ None)
    → NoneTagged (map glyph_of (take n xs)) (map glyph_of (drop n xs))
none_tagged zero a xs f = tt
none_tagged (suc n) a [] f = tt
none_tagged (suc n) a (char o b ∷ xs) f = (
  subst (λ (gs : List Glyph). tag_at (glyph.Byte b ∷ gs) ≡ None) (both_glyphs n xs) (untiled a b (map glyph_of xs) (f 0 (omega arith))),
  none_tagged n (is_word b) xs (λ k lt. later k lt),
)
  where
    later : (k : ℕ) → k < n → tile_at in_line (word_before (is_word b) (map glyph_of xs) k) (drop k (map glyph_of xs)) ≡ None
    later zero lt = f 1 (omega (arith, lt))
    later (suc k) lt = f (suc (suc k)) (omega (arith, lt))
none_tagged (suc n) a (whole g o bs ∷ xs) f = absurd (no_form a g o bs (map glyph_of xs) (f 0 (omega arith)))

-- ---- cuts

map_take : (n : ℕ) (xs : List Item) → map glyph_of (take n xs) ≡ take n (map glyph_of xs)
map_take zero xs = refl
map_take (suc n) [] = refl
map_take (suc n) (x ∷ xs) = ap (λ gs. glyph_of x ∷ gs) (map_take n xs)

pub map_drop : (n : ℕ) (xs : List Item) → map glyph_of (drop n xs) ≡ drop n (map glyph_of xs)
map_drop zero xs = refl
map_drop (suc n) [] = refl
map_drop (suc n) (x ∷ xs) = map_drop n xs

pub none_take : (n : ℕ) (xs : List Item) → HasNoBreak xs → HasNoBreak (take n xs)
none_take zero xs h = tt
none_take (suc n) [] h = tt
none_take (suc n) (x ∷ xs) h = (h.0, none_take n xs h.1)

pub none_drop : (n : ℕ) (xs : List Item) → HasNoBreak xs → HasNoBreak (drop n xs)
none_drop zero xs h = h
none_drop (suc n) [] h = tt
none_drop (suc n) (x ∷ xs) h = none_drop n xs h.1

-- whether a letter, digit or `_` is last of the first n
word_last : (n : ℕ) (a : Bool) (gs : List Glyph) → n < length gs → ends_word a (take (suc n) gs) ≡ is_word_at gs n
word_last n a [] lt = absurd (omega (arith, lt))
word_last zero a (g ∷ gs) lt = refl
word_last (suc n) a (g ∷ gs) lt = word_last n (is_in is_word g) gs (omega (arith, lt))

flag_at : (n : ℕ) (a : Bool) (xs : List Item) → 0 < n → n ≤ length (map glyph_of xs) → ends_word a (map glyph_of (take n xs)) ≡ is_word_at (map glyph_of xs) (n - 1)
flag_at zero a xs some le = absurd (omega (arith, some))
flag_at (suc n) a xs some le =
    let z : suc n - 1 ≡ n = omega arith in
    ap (ends_word a) (map_take (suc n) xs) ∙ word_last n a (map glyph_of xs) (omega (arith, le)) ∙ ap (is_word_at (map glyph_of xs)) (sym z)

-- ---- a tile before the rest of its line

chars_read : (a : Bool) (at : ℕ) (ys zs : List Item) (more : List ContentSign) → AreChars ys → HasNoBreak ys → IsUtf8 (sources ys)
    → NoneTagged (map glyph_of ys) (map glyph_of zs) → Read (ends_word a (map glyph_of ys)) (at + length (sources ys)) zs more → Read a at (ys ++ zs) (letters (sources ys) ++ more)
chars_read a at ys zs more c n u tags r =
    let cs : List ℕ = chars (sources ys) in
    let own : encodes cs ≡ sources ys = encodes-chars (sources ys) u in
    let glyphs : map glyph_of ys ≡ byte_glyphs (encodes cs) = chars_glyphs ys c ∙ ap byte_glyphs (sym own) in
    let flag : ends_word a (map glyph_of ys) ≡ flag_after a cs = ap (ends_word a) glyphs ∙ flag_is a cs in
    let unbroken : NoBreaks (encodes cs) = subst NoBreaks (sym own) (chars_none ys c n) in
    let own_tags : NoneTagged (byte_glyphs (encodes cs)) (line_glyphs more) =
    subst (λ (hs : List Glyph). NoneTagged (byte_glyphs (encodes cs)) hs) (sym r.glyphs) (subst (λ (hs : List Glyph). NoneTagged hs (map glyph_of zs)) glyphs tags) in
    record {
      stood = letters_stood a cs more (subst (λ (v : Bool). AreStood v more) flag r.stood);
      places = letters_at at cs more (subst (λ (bs : List ℕ). AreAt (at + length bs) more) (sym own) r.places);
      glyphs =
          letters_glyphs cs more unbroken
          ∙ ap (λ (gs : List Glyph). gs ++ line_glyphs more) (sym glyphs)
          ∙ ap (λ (gs : List Glyph). map glyph_of ys ++ gs) r.glyphs
          ∙ sym (map-append glyph_of ys zs);
      untagged = letters_untagged cs more unbroken own_tags r.untagged;
    }

atom_tile : (xs : List Item) → IsTileOf (atom_role xs) kind.Atom
atom_tile [] = tt
atom_tile (char o b ∷ xs) = tt
atom_tile (whole form.Chars o bs ∷ xs) = tt
atom_tile (whole (form.Entity c) o bs ∷ xs) = tt
atom_tile (whole form.Nowiki o bs ∷ xs) = tt
atom_tile (whole form.Extension o bs ∷ xs) = tt
atom_tile (whole form.Function o bs ∷ xs) = refl
atom_tile (whole form.Comment o bs ∷ xs) = tt
atom_tile (whole form.Include o bs ∷ xs) = tt
atom_tile (whole form.Hidden o bs ∷ xs) = tt
atom_tile (whole form.EmptyCall o bs ∷ xs) = tt

-- a form that stays
abbrev pub IsFlatKind : TileKind → Type 0
IsFlatKind kind.Link = Unit {0}
IsFlatKind kind.Category = Unit {0}
IsFlatKind kind.Media = Unit {0}
IsFlatKind kind.ExtLink = Unit {0}
IsFlatKind kind.BareUrl = Unit {0}
IsFlatKind kind.Br = Unit {0}
IsFlatKind kind.Pair = Unit {0}
IsFlatKind kind.TagIsland = Unit {0}
IsFlatKind kind.Switch = Unit {0}
IsFlatKind kind.Atom = Unit {0}
IsFlatKind kind.Mark = Unit {0}
IsFlatKind kind.Chars = ⊥

pub role_fits : (k : TileKind) (began : Bool) (xs : List Item) → IsFlatKind k → IsTileOf (tile_role k began xs) k
role_fits kind.Link began xs h = refl
role_fits kind.Category began xs h = tt
role_fits kind.Media began xs h = tt
role_fits kind.ExtLink began xs h = refl
role_fits kind.BareUrl began xs h = refl
role_fits kind.Br began xs h = tt
role_fits kind.Pair began xs h = tt
role_fits kind.TagIsland began xs h = tt
role_fits kind.Switch began xs h = refl
role_fits kind.Atom began xs h = atom_tile xs
role_fits kind.Mark began xs h = refl
role_fits kind.Chars began xs h = absurd h

pub before_is : (a : Bool) (own behind : List Glyph) → 0 < length own → form_before in_line a own behind ≡ tile_at in_line a (own ++ behind)
before_is a [] behind some = absurd (omega (arith, some))
before_is a (g ∷ gs) behind some = refl

form_read : (a began : Bool) (at : ℕ) (w : Shape) (k : TileKind) (ys zs : List Item) (more : List ContentSign) → w.kind ≡ k → IsFlatKind k → IsFlatForm ys → size w ≡ length ys
    → 0 < length ys → tile_at in_line a (map glyph_of (ys ++ zs)) ≡ Some w → Read (ends_word a (map glyph_of ys)) (at + length (sources ys)) zs more
    → Read a at (ys ++ zs) (form_sign k began at ys ++ more)
form_read a began at w k ys zs more kind_is flat f fits some e r =
    let t : Thing = record { role = tile_role k began ys; source = sources ys; place = Some (record { start = at; end = at + length (sources ys) }) } in
    let own : own_glyphs t ≡ map glyph_of ys = ap (λ xs. map glyph_of xs) f.alone in
    let long : length (map glyph_of ys) ≡ length ys = length-map ys glyph_of in
    let form : form_before in_line a (map glyph_of ys) (line_glyphs more) ≡ Some w =
    ap (form_before in_line a (map glyph_of ys)) r.glyphs
    ∙ before_is a (map glyph_of ys) (map glyph_of zs) (omega (arith, some, long))
    ∙ ap (tile_at in_line a) (sym (map-append glyph_of ys zs)) ∙ e in
    let read : IsRead a t.role (map glyph_of ys) (line_glyphs more) =
    record { shape = w; form = form; whole = fits ∙ sym long; tile = subst (IsTileOf (tile_role k began ys)) (sym kind_is) (role_fits k began ys flat) } in
    record {
      stood = (
        subst (λ (gs : List Glyph). IsRead a t.role gs (line_glyphs more)) (sym own) read,
        subst (λ (gs : List Glyph). AreStood (ends_word a gs) more) (sym own) r.stood,
      );
      places = (refl, r.places);
      glyphs =
          ap (λ (gs : List Glyph). gs ++ line_glyphs more) own
          ∙ ap (λ (gs : List Glyph). map glyph_of ys ++ gs) r.glyphs
          ∙ sym (map-append glyph_of ys zs);
      untagged = r.untagged;
    }

form_tile : (k : TileKind) (a began : Bool) (at : ℕ) (w : Shape) (xs : List Item) (more : List ContentSign) → w.kind ≡ k → IsFlatKind k → IsFlatForm (take (size w) xs)
    → tile_at in_line a (map glyph_of xs) ≡ Some w → 0 < size w → size w ≤ length xs
    → Read (ends_word a (map glyph_of (take (size w) xs))) (at + length (sources (take (size w) xs))) (drop (size w) xs) more
    → Read a at (take (size w) xs ++ drop (size w) xs) (form_sign k began at (take (size w) xs) ++ more)
form_tile k a began at w xs more e flat f s some le r =
    let cut = length-take (size w) xs in
    let long : length (take (size w) xs) ≡ size w = omega (arith, cut, le) in
    form_read a began at w k (take (size w) xs) (drop (size w) xs) more e flat f (sym long) (omega (arith, long, some))
    (ap (λ us. tile_at in_line a (map glyph_of us)) (take-append-drop (size w) xs) ∙ s) r

by_kind : (k : TileKind) (a began : Bool) (at : ℕ) (w : Shape) (xs : List Item) (more : List ContentSign) → w.kind ≡ k → IsFlatTile k (take (size w) xs)
    → StandsBy k in_line a w (map glyph_of xs) → 0 < size w → size w ≤ length xs → HasNoBreak xs
    → Read (ends_word a (map glyph_of (take (size w) xs))) (at + length (sources (take (size w) xs))) (drop (size w) xs) more
    → Read a at (take (size w) xs ++ drop (size w) xs) (tile_signs k began at (take (size w) xs) ++ more)
by_kind kind.Link a began at w xs more e f s some le n r = form_tile kind.Link a began at w xs more e tt f s some le r
by_kind kind.Category a began at w xs more e f s some le n r = form_tile kind.Category a began at w xs more e tt f s some le r
by_kind kind.Media a began at w xs more e f s some le n r = form_tile kind.Media a began at w xs more e tt f s some le r
by_kind kind.ExtLink a began at w xs more e f s some le n r = form_tile kind.ExtLink a began at w xs more e tt f s some le r
by_kind kind.BareUrl a began at w xs more e f s some le n r = form_tile kind.BareUrl a began at w xs more e tt f s some le r
by_kind kind.Br a began at w xs more e f s some le n r = form_tile kind.Br a began at w xs more e tt f s some le r
by_kind kind.Pair a began at w xs more e f s some le n r = form_tile kind.Pair a began at w xs more e tt f s some le r
by_kind kind.TagIsland a began at w xs more e f s some le n r = form_tile kind.TagIsland a began at w xs more e tt f s some le r
by_kind kind.Switch a began at w xs more e f s some le n r = form_tile kind.Switch a began at w xs more e tt f s some le r
by_kind kind.Atom a began at w xs more e f s some le n r = form_tile kind.Atom a began at w xs more e tt f s some le r
by_kind kind.Mark a began at w xs more e f s some le n r = form_tile kind.Mark a began at w xs more e tt f s some le r
by_kind kind.Chars a began at w xs more e f s some le n r =
    chars_read a at (take (size w) xs) (drop (size w) xs) more (are_chars (size w) a xs s.1) (none_take (size w) xs n) f (none_tagged (size w) a xs s.1) r

-- ---- a line, and lines

-- no more items, no more tiles
no_tiles : (a : Bool) (at : ℕ) (xs : List Item) (tail : List ContentSign) → map glyph_of xs ≡ [] → EndsLine (at + length (sources xs)) tail → Read a at xs tail
no_tiles a at [] tail e end =
    let z : at + 0 ≡ at = omega arith in
    record { stood = end.stood a; places = subst (λ (n : ℕ). AreAt n tail) z end.places; glyphs = end.none; untagged = end.untagged }
no_tiles a at (x ∷ xs) tail e end = cc

tiles_read : (ws : List Shape) (a began : Bool) (at : ℕ) (xs : List Item) (tail : List ContentSign) → AreTiles in_line a ws (map glyph_of xs) → AreFlatTiles (parts ws xs)
    → HasNoBreak xs → EndsLine (at + length (sources xs)) tail → Read a at xs (signs_of_tiles began at (parts ws xs) ++ tail)
tiles_read [] a began at xs tail t f n end = no_tiles a at xs tail t end
tiles_read (w ∷ ws) a began at xs tail t f n end =
    let m : ℕ = size w in
    let ys : List Item = take m xs in
    let zs : List Item = drop m xs in
    let all : ys ++ zs ≡ xs = take-append-drop m xs in
    let long : length (map glyph_of xs) ≡ length xs = length-map xs glyph_of in
    let some : 0 < size w = t.0 in
    let le : size w ≤ length (map glyph_of xs) = t.1 in
    let flag : is_word_at (map glyph_of xs) (m - 1) ≡ ends_word a (map glyph_of ys) = sym (flag_at m a xs some le) in
    let sum : length (sources xs) ≡ length (sources ys) + length (sources zs) =
    ap (λ us. length (sources us)) (sym all) ∙ ap length (sources_append ys zs) ∙ length-append (sources ys) (sources zs) in
    let z : at + length (sources xs) ≡ at + length (sources ys) + length (sources zs) = omega (arith, sum) in
    let behind : Read (is_word_at (map glyph_of xs) (m - 1)) (at + length (sources ys)) zs (signs_of_tiles (ends_break (sources ys)) (at + length (sources ys)) (parts ws zs) ++ tail) =
    tiles_read ws (is_word_at (map glyph_of xs) (m - 1)) (ends_break (sources ys)) (at + length (sources ys)) zs tail
    (subst (λ gs. AreTiles in_line (is_word_at (map glyph_of xs) (m - 1)) ws gs) (sym (map_drop m xs)) t.4) f.1 (none_drop m xs n)
    (subst (λ (i : ℕ). EndsLine i tail) z end) in
    let more : List ContentSign = signs_of_tiles (ends_break (sources ys)) (at + length (sources ys)) (parts ws zs) ++ tail in
    let own : Read a at (ys ++ zs) (tile_signs w.kind began at ys ++ more) =
    by_kind w.kind a began at w xs more refl f.0 t.2 some (omega (arith, le, long)) n (subst (λ (v : Bool). Read v (at + length (sources ys)) zs more) flag behind) in
    subst (λ us. Read a at us (signs_of_tiles began at ((w, ys) ∷ parts ws zs) ++ tail)) all
    (subst (λ us. Read a at (ys ++ zs) us) (sym (append_assoc (tile_signs w.kind began at ys) (signs_of_tiles (ends_break (sources ys)) (at + length (sources ys)) (parts ws zs)) tail)) own)

line_read : (a : Bool) (at : ℕ) (xs : List Item) (tail : List ContentSign) → a ≡ false → AreFlatTiles (tiles in_line xs) → HasNoBreak xs
    → EndsLine (at + length (sources xs)) tail → Read a at xs (line_signs at xs ++ tail)
unfolding tiles
line_read true at xs tail e f n end = cc
line_read false at xs tail e f n end = tiles_read (shapes in_line (map glyph_of xs)) false true at xs tail (shapes_are in_line (map glyph_of xs)) f n end

none_left : (at : ℕ) → EndsLine at []
none_left at = record { stood = λ a. tt; places = tt; none = refl; untagged = tt }

record LinesRead (at : ℕ) (ls : List (List Item)) : Type 0 where
  stood : AreStood false (signs_of_lines at ls)
  places : AreAt at (signs_of_lines at ls)
  untagged : AreUntagged (signs_of_lines at ls)

next_line : (at : ℕ) (ls : List (List Item)) → LinesRead (at + 1) ls → EndsLine at (letter 10 ∷ signs_of_lines (at + 1) ls)
next_line at ls r =
    let one : length (encode_utf8 10) ≡ 1 = ap length (encode_ascii 10 (omega arith)) in
    let z : at + 1 ≡ at + length (encode_utf8 10) = omega (arith, one) in
    record { stood = λ a. r.stood; places = subst (λ (n : ℕ). AreAt n (signs_of_lines (at + 1) ls)) z r.places; none = refl; untagged = (no_tag (glyph.Byte 10 ∷ line_glyphs (signs_of_lines (at + 1) ls)) refl, r.untagged) }

lines_read : (at : ℕ) (ls : List (List Item)) → AreFlatLines ls → LinesRead at ls
lines_read at [] h = record { stood = tt; places = tt; untagged = tt }
lines_read at (xs ∷ []) h =
    let r : Read false at xs (line_signs at xs ++ []) = line_read false at xs [] refl h.1 h.0 (none_left (at + length (sources xs))) in
    let s : Read false at xs (line_signs at xs) = subst (λ us. Read false at xs us) (append-nil (line_signs at xs)) r in
    record { stood = s.stood; places = s.places; untagged = s.untagged }
lines_read at (xs ∷ ys ∷ ls) h =
    let more : LinesRead (at + length (sources xs) + 1) (ys ∷ ls) = lines_read (at + length (sources xs) + 1) (ys ∷ ls) h.2 in
    let r : Read false at xs (line_signs at xs ++ (letter 10 ∷ signs_of_lines (at + length (sources xs) + 1) (ys ∷ ls))) =
    line_read false at xs (letter 10 ∷ signs_of_lines (at + length (sources xs) + 1) (ys ∷ ls)) refl h.1 h.0 (next_line (at + length (sources xs)) (ys ∷ ls) more) in
    record { stood = r.stood; places = r.places; untagged = r.untagged }

pub lines_stood : (at : ℕ) (ls : List (List Item)) → AreFlatLines ls → AreStood false (signs_of_lines at ls)
lines_stood at ls h = (lines_read at ls h).stood

-- ---- no character of a line ends it

letters_one_line : (cs : List ℕ) → NoBreaks (encodes cs) → AreOnOneLine (map letter cs)
letters_one_line [] h = tt
letters_one_line (c ∷ cs) h = let r = none_parts (encode_utf8 c) (encodes cs) h in (char_none c r.0, letters_one_line cs r.1)

both_one_line : (xs ys : List ContentSign) → AreOnOneLine xs → AreOnOneLine ys → AreOnOneLine (xs ++ ys)
both_one_line [] ys h k = k
both_one_line (letter c ∷ xs) ys h k = (h.0, both_one_line xs ys h.1 k)
both_one_line (thing t ∷ xs) ys h k = both_one_line xs ys h k

kind_one_line : (k : TileKind) (a began : Bool) (at : ℕ) (w : Shape) (xs : List Item) → IsFlatTile k (take (size w) xs) → StandsBy k in_line a w (map glyph_of xs)
    → HasNoBreak xs → AreOnOneLine (tile_signs k began at (take (size w) xs))
kind_one_line kind.Link a began at w xs f s n = tt
kind_one_line kind.Category a began at w xs f s n = tt
kind_one_line kind.Media a began at w xs f s n = tt
kind_one_line kind.ExtLink a began at w xs f s n = tt
kind_one_line kind.BareUrl a began at w xs f s n = tt
kind_one_line kind.Br a began at w xs f s n = tt
kind_one_line kind.Pair a began at w xs f s n = tt
kind_one_line kind.TagIsland a began at w xs f s n = tt
kind_one_line kind.Switch a began at w xs f s n = tt
kind_one_line kind.Atom a began at w xs f s n = tt
kind_one_line kind.Mark a began at w xs f s n = tt
kind_one_line kind.Chars a began at w xs f s n =
    let ys : List Item = take (size w) xs in
    letters_one_line (chars (sources ys))
    (subst NoBreaks (sym (encodes-chars (sources ys) f)) (chars_none ys (are_chars (size w) a xs s.1) (none_take (size w) xs n)))

tiles_one_line : (ws : List Shape) (a began : Bool) (at : ℕ) (xs : List Item) → AreTiles in_line a ws (map glyph_of xs) → AreFlatTiles (parts ws xs)
    → HasNoBreak xs → AreOnOneLine (signs_of_tiles began at (parts ws xs))
tiles_one_line [] a began at xs t f n = tt
tiles_one_line (w ∷ ws) a began at xs t f n =
    let m : ℕ = size w in
    let ys : List Item = take m xs in
    let zs : List Item = drop m xs in
    both_one_line (tile_signs w.kind began at ys) (signs_of_tiles (ends_break (sources ys)) (at + length (sources ys)) (parts ws zs))
    (kind_one_line w.kind a began at w xs f.0 t.2 n)
    (tiles_one_line ws (is_word_at (map glyph_of xs) (m - 1)) (ends_break (sources ys)) (at + length (sources ys)) zs
    (subst (λ gs. AreTiles in_line (is_word_at (map glyph_of xs) (m - 1)) ws gs) (sym (map_drop m xs)) t.4) f.1 (none_drop m xs n))

pub line_on_one : (at : ℕ) (xs : List Item) → HasNoBreak xs → AreFlatTiles (tiles in_line xs) → AreOnOneLine (line_signs at xs)
unfolding tiles
line_on_one at xs n f = tiles_one_line (shapes in_line (map glyph_of xs)) false true at xs (shapes_are in_line (map glyph_of xs)) f n

pub lines_untagged : (at : ℕ) (ls : List (List Item)) → AreFlatLines ls → AreUntagged (signs_of_lines at ls)
lines_untagged at ls h = (lines_read at ls h).untagged

pub lines_at : (at : ℕ) (ls : List (List Item)) → AreFlatLines ls → AreAt at (signs_of_lines at ls)
lines_at at ls h = (lines_read at ls h).places

pub flat_nodes : (ls : List (List Item)) (at : ℕ) (signs : List ContentSign) → AreFlatLines ls → things signs ≡ things (signs_of_lines at ls) → AreNodes signs
flat_nodes ls at signs h same = nodes_stay (signs_of_lines at ls) signs (lines_read at ls h).stood same

pub flat_meet : (s : Setting) (ls : List (List Item)) (at : ℕ) (signs : List ContentSign) → AreFlatLines ls → things signs ≡ things (signs_of_lines at ls)
    → AllStayOpen s [] signs → AllMeet s [] signs []
flat_meet s ls at signs h same unclosed = let r = lines_read at ls h in nodes_meet s (signs_of_lines at ls) signs at r.stood r.places same unclosed
