-- A bare URL of the page that an apostrophe follows doesn't end with one; by the bytes of the content.
use Rattle.std.proofs.Common.{arith, ◌≡◌, ◌⊎◌, ℕ, ◌+◌, ◌-◌, ◌<◌, ◌≤◌, suc, Bool, true, false, Some, None, List, [], ◌∷◌, ◌++◌, length, map, take, drop, refl, sym, ap, ◌∙◌, subst, inl, inr, append_assoc, append-nil, All}
use Rattle.std.specs.Prelude.{encode_utf8}
use Rattle.std.specs.Str.{chars}
use Rattle.std.proofs.Math.Utf8.{encodes}
use Rattle.std.proofs.lemmas.Bool.{cases_lt}
use Rattle.std.proofs.lemmas.List.{take-append-drop}
use Rattle.std.proofs.lemmas.List.Elements.{All-head}
use Rattle.std.proofs.lemmas.Str.{encodes-chars, encode_ascii}
use Rattle.wt_names.proofs.Ascii.{IsWide, encode_wide, encode_some}
use Rattle.wt_span.specs.declared.form.Mode.TheVariants.{Page}
use Rattle.wt_span.specs.Bytes.{is_break}
use Rattle.wt_span.specs.Items.{Item, char, sources}
use Rattle.wt_typed_blocks.proofs.Forms.{other_byte}
use Rattle.wt_guards.specs.Content.{ContentSign, Thing, letter, thing}
use Rattle.wt_guards.specs.Guards.{end_of}
use Rattle.wt_inline.proofs.HeldLaws.{held_append, sources_append}
use Rattle.wt_inline.specs.Parts.{held_parts}
use Rattle.wt_tiles.specs.declared.glyph.Glyph.{Glyph}
use Rattle.wt_tiles.specs.declared.glyph.GlyphClass.TheVariants as class
use Rattle.wt_tiles.specs.declared.shape.Shape.{Shape}
use Rattle.wt_tiles.specs.declared.shape.TileKind.{TileKind}
use Rattle.wt_tiles.specs.declared.shape.TileKind.TheVariants as kind
use Rattle.wt_tiles.specs.Contexts.{in_line}
use Rattle.wt_tiles.specs.Glyphs.{glyph_of, first_is, byte_glyphs}
use Rattle.wt_tiles.specs.Reading.{is_word_at, AreTiles}
use Rattle.wt_tiles.specs.Tiles.{size, shapes, parts as tiles_by, tiles}
use Rattle.wt_tiles.specs.Urls.{is_word}
use Rattle.wt_tiles.proofs.Readings.{shapes_are}
use Rattle.wt_context.specs.Line.{line_parts}
use Rattle.wt_context.proofs.LineHolding.{line_source}
use Rattle.wt_text_edit_laws.specs.ParagraphParts.{after_breaks, joined_parts}
use Rattle.wt_text_edit_laws.proofs.Between.Fronts.{first_items, items_from, first_from, byte_from}
use Rattle.wt_beside_laws.specs.Cuts.{own_glyphs, ends_word}
use Rattle.wt_beside_laws.specs.PageSigns.{ends_break, tile_signs, signs_of_tiles, line_signs, signs_of_lines, IsFlatTile, AreFlatTiles, AreFlatLines}
use Rattle.wt_beside_laws.specs.Stood.{line_glyphs, AreStood, AreAt, things}
use Rattle.wt_beside_laws.specs.StyledNodes.{EndsUnquoted}
use Rattle.wt_beside_laws.proofs.Each.{Each}
use Rattle.wt_beside_laws.proofs.PageNodes.{form_some, source_some}
use Rattle.wt_beside_laws.proofs.PageSigns.{map_drop}
use Rattle.wt_beside_laws.proofs.Stood.{stood}
use Rattle.wt_beside_laws.specs.NodeItems.{node_items}
use Rattle.wt_beside_laws.proofs.NodeItems.{node_same}
use Rattle.wt_typed_blocks.proofs.Forms.{comment_other}
use Rattle.wt_text_edit_laws.proofs.Prose.Uncommented.{uncommented_other}

-- ---- an apostrophe at a place

-- behind so many bytes come these, of which the one at this place is an apostrophe
abbrev pub QuoteAt : ℕ → ℕ → List ℕ → Type 0
QuoteAt c at [] = ⊥
QuoteAt c at (b ∷ bs) = ((c ≡ at) × (b ≡ 39)) ⊎ QuoteAt c (at + 1) bs

at_least : (c at : ℕ) (bs : List ℕ) → QuoteAt c at bs → at ≤ c
at_least c at [] h = absurd h
at_least c at (b ∷ bs) h = elim h [
  | inl e ↦ (let is = e.0 in omega (arith, is))
  | inr r ↦ (let le = at_least c (at + 1) bs r in omega (arith, le))
]

pub quote_left : (c at : ℕ) (xs ys : List ℕ) → QuoteAt c at xs → QuoteAt c at (xs ++ ys)
quote_left c at [] ys h = absurd h
quote_left c at (x ∷ xs) ys h = elim h [
  | inl e ↦ inl e
  | inr r ↦ inr (quote_left c (at + 1) xs ys r)
]

pub quote_right : (c at : ℕ) (xs ys : List ℕ) → QuoteAt c (at + length xs) ys → QuoteAt c at (xs ++ ys)
quote_right c at [] ys h = let z : at + 0 ≡ at = omega arith in subst (λ (n : ℕ). QuoteAt c n ys) z h
quote_right c at (x ∷ xs) ys h =
    let z : at + suc (length xs) ≡ at + 1 + length xs = omega arith in
    inr (quote_right c (at + 1) xs ys (subst (λ (n : ℕ). QuoteAt c n ys) z h))

-- it is before these, or in them
abbrev IsFrom : ℕ → ℕ → List ℕ → Type 0
IsFrom c at bs = (c < at) ⊎ QuoteAt c at bs

quote_cut : (c at : ℕ) (xs ys : List ℕ) → QuoteAt c at (xs ++ ys) → IsFrom c (at + length xs) ys
quote_cut c at [] ys h = let z : at ≡ at + 0 = omega arith in inr (subst (λ (n : ℕ). QuoteAt c n ys) z h)
quote_cut c at (x ∷ xs) ys h = elim h [
  | inl e ↦ (let is = e.0 in inl (omega (arith, is)))
  | inr r ↦ (
      let z : at + 1 + length xs ≡ at + suc (length xs) = omega arith in
      subst (λ (n : ℕ). IsFrom c n ys) z (quote_cut c (at + 1) xs ys r)
      )
]

from_cut : (c at : ℕ) (xs ys : List ℕ) → IsFrom c at (xs ++ ys) → IsFrom c (at + length xs) ys
from_cut c at xs ys h = elim h [ inl lt ↦ inl (omega (arith, lt)) | inr q ↦ quote_cut c at xs ys q ]

abbrev FirstQuote : List ℕ → Type 0
FirstQuote [] = ⊥
FirstQuote (b ∷ bs) = b ≡ 39

quote_first : (c : ℕ) (bs : List ℕ) → QuoteAt c c bs → FirstQuote bs
quote_first c [] h = h
quote_first c (b ∷ bs) h = elim h [
  | inl e ↦ e.1
  | inr r ↦ (let le = at_least c (c + 1) bs r in absurd (omega (arith, le)))
]

-- ---- the bytes of signs

abbrev pub bytes_in : List ContentSign → List ℕ
bytes_in [] = []
bytes_in (letter c ∷ signs) = encode_utf8 c ++ bytes_in signs
bytes_in (thing t ∷ signs) = t.source ++ bytes_in signs

bytes_append : (xs ys : List ContentSign) → bytes_in (xs ++ ys) ≡ bytes_in xs ++ bytes_in ys
bytes_append [] ys = refl
bytes_append (letter c ∷ xs) ys = ap (λ (bs : List ℕ). encode_utf8 c ++ bs) (bytes_append xs ys) ∙ sym (append_assoc (encode_utf8 c) (bytes_in xs) (bytes_in ys))
bytes_append (thing t ∷ xs) ys = ap (λ (bs : List ℕ). t.source ++ bs) (bytes_append xs ys) ∙ sym (append_assoc t.source (bytes_in xs) (bytes_in ys))

-- ---- an apostrophe that is first among them is the first item

quote_items : (bs : List ℕ) → node_items (39 ∷ bs) ≡ char None 39 ∷ items_from (is_break 39) 0 bs
quote_items bs =
    node_same (39 ∷ bs) (uncommented_other 39 bs refl (comment_other 39 bs (omega arith))) ∙ first_items (39 ∷ bs) ∙ sym (first_from false (39 ∷ bs)) ∙ byte_from false 39 bs (other_byte Page 39 bs refl)

source_first : (source ys : List ℕ) (gs : List Glyph) → 0 < length source → FirstQuote (source ++ ys)
    → first_is (class.Only 39) (map glyph_of (node_items source) ++ gs) ≡ true
source_first [] ys gs some q = absurd (omega (arith, some))
source_first (b ∷ bs) ys gs some q =
    subst (λ (k : ℕ). first_is (class.Only 39) (map glyph_of (node_items (k ∷ bs)) ++ gs) ≡ true) (sym q)
    (ap (λ (xs : List Item). first_is (class.Only 39) (map glyph_of xs ++ gs)) (quote_items bs))

wide_first : (bs ys : List ℕ) → All IsWide bs → 0 < length bs → FirstQuote (bs ++ ys) → ⊥
wide_first [] ys h some q = absurd (omega (arith, some))
wide_first (b ∷ bs) ys h some q = let w : 128 ≤ b = All-head IsWide b bs h in absurd (omega (arith, w, q))

letter_first : (d : ℕ) (after : List ContentSign) → FirstQuote (encode_utf8 d ++ bytes_in after) → first_is (class.Only 39) (line_glyphs (letter d ∷ after)) ≡ true
letter_first d after q = elim (cases_lt d 128) [
  | inl small ↦ (
      let is : d ≡ 39 = subst (λ (bs : List ℕ). FirstQuote (bs ++ bytes_in after)) (encode_ascii d small) q in
      subst (λ (k : ℕ). first_is (class.Only 39) (line_glyphs (letter k ∷ after)) ≡ true) (sym is)
      (ap (λ (bs : List ℕ). first_is (class.Only 39) (byte_glyphs bs ++ line_glyphs after)) (encode_ascii 39 (omega arith)))
      )
  | inr wide ↦ absurd (wide_first (encode_utf8 d) (bytes_in after) (encode_wide d wide) (encode_some d) q)
]

signs_first : (a : Bool) (signs : List ContentSign) → AreStood a signs → FirstQuote (bytes_in signs) → first_is (class.Only 39) (line_glyphs signs) ≡ true
signs_first a [] h q = absurd q
signs_first a (letter d ∷ after) h q = letter_first d after q
signs_first a (thing t ∷ after) h q =
    source_first t.source (bytes_in after) (line_glyphs after) (source_some t.source (form_some a (own_glyphs t) (line_glyphs after) h.0.shape h.0.form)) q

-- ---- what a URL that an apostrophe follows ends with

abbrev pub EndsAt : ℕ → Thing → Type 0
EndsAt c t = end_of t.place ≡ Some c → EndsUnquoted t.role (own_glyphs t)

some_same : (m n : ℕ) → Some m ≡ Some n → m ≡ n
some_same m n e = cc

one_end : (c end : ℕ) (t : Thing) (v : Bool) (after : List ContentSign) → end_of t.place ≡ Some end
    → (first_is (class.Only 39) (line_glyphs after) ≡ true → EndsUnquoted t.role (own_glyphs t)) → AreStood v after → IsFrom c end (bytes_in after) → EndsAt c t
one_end c end t v after place f stand from = λ e.
    let is : end ≡ c = some_same end c (sym place ∙ e) in
    elim from [
      | inl lt ↦ absurd (omega (arith, lt, is))
      | inr q ↦ f (signs_first v after stand (quote_first c (bytes_in after) (subst (λ (n : ℕ). QuoteAt c n (bytes_in after)) is q)))
    ]

urls_end : (a : Bool) (at c : ℕ) (signs : List ContentSign) → AreStood a signs → AreAt at signs → IsFrom c at (bytes_in signs) → Each (EndsAt c) (things signs)
urls_end a at c [] h p q = tt
urls_end a at c (letter d ∷ after) h p q =
    urls_end (is_word d) (at + length (encode_utf8 d)) c after h p (from_cut c at (encode_utf8 d) (bytes_in after) q)
urls_end a at c (thing t ∷ after) h p q =
    let end : ℕ = at + length t.source in
    let rest : IsFrom c end (bytes_in after) = from_cut c at t.source (bytes_in after) q in
    let s = stood a t.role (own_glyphs t) (line_glyphs after) h.0 in (
      one_end c end t (ends_word a (own_glyphs t)) after (ap end_of p.0) s.unquoted h.1 rest,
      urls_end (ends_word a (own_glyphs t)) end c after h.1 p.1 rest,
    )

-- where such a place is in the content
abbrev pub EndsIn : ℕ → List ℕ → Thing → Type 0
EndsIn at bs t = (c : ℕ) → QuoteAt c at bs → EndsAt c t

each_place : (at : ℕ) (bs : List ℕ) (ts : List Thing) → ((c : ℕ) → QuoteAt c at bs → Each (EndsAt c) ts) → Each (EndsIn at bs) ts
each_place at bs [] f = tt
each_place at bs (t ∷ ts) f = ((λ c q. (f c q).0), each_place at bs ts (λ c q. (f c q).1))

pub urls_unquoted : (a : Bool) (at : ℕ) (signs : List ContentSign) → AreStood a signs → AreAt at signs → Each (EndsIn at (bytes_in signs)) (things signs)
urls_unquoted a at signs h p = each_place at (bytes_in signs) (things signs) (λ c q. urls_end a at c signs h p (inr q))

-- ---- the bytes of lines

letters_bytes : (cs : List ℕ) → bytes_in (map letter cs) ≡ encodes cs
letters_bytes [] = refl
letters_bytes (c ∷ cs) = ap (λ (bs : List ℕ). encode_utf8 c ++ bs) (letters_bytes cs)

tile_bytes : (k : TileKind) (began : Bool) (at : ℕ) (ys : List Item) → IsFlatTile k ys → bytes_in (tile_signs k began at ys) ≡ sources ys
tile_bytes kind.Link began at ys f = append-nil (sources ys)
tile_bytes kind.Category began at ys f = append-nil (sources ys)
tile_bytes kind.Media began at ys f = append-nil (sources ys)
tile_bytes kind.ExtLink began at ys f = append-nil (sources ys)
tile_bytes kind.BareUrl began at ys f = append-nil (sources ys)
tile_bytes kind.Br began at ys f = append-nil (sources ys)
tile_bytes kind.Pair began at ys f = append-nil (sources ys)
tile_bytes kind.TagIsland began at ys f = append-nil (sources ys)
tile_bytes kind.Switch began at ys f = append-nil (sources ys)
tile_bytes kind.Atom began at ys f = append-nil (sources ys)
tile_bytes kind.Mark began at ys f = append-nil (sources ys)
tile_bytes kind.Chars began at ys f = letters_bytes (chars (sources ys)) ∙ encodes-chars (sources ys) f

none_bytes : (xs : List Item) → map glyph_of xs ≡ [] → [] ≡ sources xs
none_bytes [] e = refl
none_bytes (x ∷ xs) e = absurd (cc)

shapes_bytes : (ws : List Shape) (a began : Bool) (at : ℕ) (xs : List Item) → AreTiles in_line a ws (map glyph_of xs) → AreFlatTiles (tiles_by ws xs)
    → bytes_in (signs_of_tiles began at (tiles_by ws xs)) ≡ sources xs
shapes_bytes [] a began at xs t f = none_bytes xs t
shapes_bytes (w ∷ ws) a began at xs t f =
    let m : ℕ = size w in
    let ys : List Item = take m xs in
    let zs : List Item = drop m xs in
    let later : List ContentSign = signs_of_tiles (ends_break (sources ys)) (at + length (sources ys)) (tiles_by ws zs) in
    let flag : Bool = is_word_at (map glyph_of xs) (m - 1) in
    bytes_append (tile_signs w.kind began at ys) later
    ∙ ap (λ (bs : List ℕ). bs ++ bytes_in later) (tile_bytes w.kind began at ys f.0)
    ∙ ap (λ (bs : List ℕ). sources ys ++ bs)
    (shapes_bytes ws flag (ends_break (sources ys)) (at + length (sources ys)) zs (subst (λ (gs : List Glyph). AreTiles in_line flag ws gs) (sym (map_drop m xs)) t.4) f.1)
    ∙ sym (sources_append ys zs) ∙ ap sources (take-append-drop m xs)

line_bytes : (at : ℕ) (xs : List Item) → AreFlatTiles (tiles in_line xs) → bytes_in (line_signs at xs) ≡ sources xs
unfolding tiles
line_bytes at xs f = shapes_bytes (shapes in_line (map glyph_of xs)) false true at xs (shapes_are in_line (map glyph_of xs)) f

-- with line breaks between them
abbrev after_bytes : List (List Item) → List ℕ
after_bytes [] = []
after_bytes (l ∷ ls) = 10 ∷ (sources l ++ after_bytes ls)

abbrev lines_bytes : List (List Item) → List ℕ
lines_bytes [] = []
lines_bytes (l ∷ ls) = sources l ++ after_bytes ls

signs_bytes : (at : ℕ) (ls : List (List Item)) → AreFlatLines ls → bytes_in (signs_of_lines at ls) ≡ lines_bytes ls
signs_bytes at [] f = refl
signs_bytes at (xs ∷ []) f = line_bytes at xs f.1 ∙ sym (append-nil (sources xs))
signs_bytes at (xs ∷ ys ∷ ls) f =
    let later : List ContentSign = signs_of_lines (at + length (sources xs) + 1) (ys ∷ ls) in
    bytes_append (line_signs at xs) (letter 10 ∷ later)
    ∙ ap (λ (bs : List ℕ). bs ++ (encode_utf8 10 ++ bytes_in later)) (line_bytes at xs f.1)
    ∙ ap (λ (bs : List ℕ). sources xs ++ (bs ++ bytes_in later)) (encode_ascii 10 (omega arith))
    ∙ ap (λ (bs : List ℕ). sources xs ++ (10 ∷ bs)) (signs_bytes (at + length (sources xs) + 1) (ys ∷ ls) f.2)

line_then : (l : List Item) (ls : List (List Item)) → sources (held_parts (after_breaks ls)) ≡ after_bytes ls
    → sources (held_parts (line_parts l ++ after_breaks ls)) ≡ sources l ++ after_bytes ls
line_then l ls e =
    ap sources (held_append (line_parts l) (after_breaks ls))
    ∙ sources_append (held_parts (line_parts l)) (held_parts (after_breaks ls))
    ∙ ap (λ (bs : List ℕ). bs ++ sources (held_parts (after_breaks ls))) (line_source l)
    ∙ ap (λ (bs : List ℕ). sources l ++ bs) e

after_source : (ls : List (List Item)) → sources (held_parts (after_breaks ls)) ≡ after_bytes ls
after_source [] = refl
after_source (l ∷ ls) = ap (λ (bs : List ℕ). 10 ∷ bs) (line_then l ls (after_source ls))

parts_bytes : (ls : List (List Item)) → sources (held_parts (joined_parts ls)) ≡ lines_bytes ls
parts_bytes [] = refl
parts_bytes (l ∷ ls) = line_then l ls (after_source ls)

pub lines_source : (at : ℕ) (ls : List (List Item)) → AreFlatLines ls → sources (held_parts (joined_parts ls)) ≡ bytes_in (signs_of_lines at ls)
lines_source at ls f = parts_bytes ls ∙ sym (signs_bytes at ls f)
