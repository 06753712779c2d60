-- The links of tiles are UTF-8, and are read as they are written.
use Rattle.std.proofs.Common.{◌≡◌, ℕ, ◌<◌, ◌%◌, ◌/◌, Bool, true, false, Option, Some, None, List, [], ◌∷◌, ◌++◌, nat_lt, codes, IsUtf8, refl, ap, arith, inl}
use Rattle.std.specs.Prelude.{◌==◌, if◌then◌else◌, slice_index, drop, take}
use Rattle.std.specs.List.{list_any}
use Rattle.std.specs.Str.{is_utf8}
use Rattle.std.specs.Fmt.{digit_glyph}
use Rattle.std.proofs.lemmas.Bool.{ltb-true}
use Rattle.std.proofs.lemmas.Bool.Decides.{nat_tests}
use Rattle.std.proofs.lemmas.Str.{IsUtf8-nil, IsUtf8-append, IsUtf8-from_is_utf8}
use Rattle.percent_encoding.specs.Percent.{percent_encode_byte}
use Rattle.json.proofs.Printed.Utf8.{IsUtf8-are_ascii}
use Rattle.wt_tree.specs.declared.kind.Kind.TheVariants as kind
use Rattle.wt_tree.specs.declared.kind.AttrName.TheVariants as attr
use Rattle.wt_tree.specs.Kinds.{spelling}
use Rattle.wt_names.specs.declared.title.Title.{Title}
use Rattle.wt_names.specs.Namespace.{full_name_of}
use Rattle.wt_names.specs.Good.{read_text}
use Rattle.wt_names.specs.Written.{underscored, stays_in_link, escaped, link_text, link_fragment, link_to, read_bytes, read_link}
use Rattle.wt_names.proofs.Links.{links_back}
use Rattle.wt_tiles.specs.declared.glyph.Glyph.{Glyph}
use Rattle.wt_tiles.specs.declared.target.Target.{Target}
use Rattle.wt_tiles.specs.Links.{is_atom, aimed, target_in, target_text, target_of}
use Rattle.wt_tiles.proofs.Words.{and_left}
use Rattle.wt_schema.specs.Rows.{link_by, link_read}
use Rattle.wt_schema.specs.Written.{HasAttributes}
use Rattle.wt_schema.proofs.Json.{ascii_then}
use Rattle.wt_context.specs.Heads.{target_size, target, href_to, href_with}

-- ---- a link is ASCII

digit_low : (d : ℕ) → d < 16 → digit_glyph true d < 128
digit_low d h = grind (arith, nat_tests)

byte_utf8 : (b : ℕ) → IsUtf8 (percent_encode_byte b)
unfolding percent_encode_byte
byte_utf8 b = ascii_then 37 _ (omega arith) (ascii_then (digit_glyph true (b / 16 % 16)) _ (digit_low (b / 16 % 16) (omega arith))
    (ascii_then (digit_glyph true (b % 16)) [] (digit_low (b % 16) (omega arith)) IsUtf8-nil))

stays_low : (b : ℕ) → stays_in_link b ≡ true → b < 128
unfolding stays_in_link
stays_low b e = ltb-true b 128 (and_left (nat_lt b 128) _ e)

escape_utf8 : (b : ℕ) (t : Bool) → stays_in_link b ≡ t → IsUtf8 (if t then b ∷ [] else percent_encode_byte b)
escape_utf8 b true e = ascii_then b [] (stays_low b e) IsUtf8-nil
escape_utf8 b false e = byte_utf8 b

escaped_utf8 : (bs : List ℕ) → IsUtf8 (escaped stays_in_link bs)
escaped_utf8 [] = IsUtf8-nil
escaped_utf8 (b ∷ bs) = IsUtf8-append (if stays_in_link b then b ∷ [] else percent_encode_byte b) (escaped stays_in_link bs)
    (escape_utf8 b (stays_in_link b) refl) (escaped_utf8 bs)

text_utf8 : (bs : List ℕ) → IsUtf8 (link_text bs)
unfolding link_text
text_utf8 bs = escaped_utf8 (underscored bs)

fragment_utf8 : (o : Option (List ℕ)) → IsUtf8 (link_fragment o)
fragment_utf8 None = IsUtf8-nil
fragment_utf8 (Some f) = IsUtf8-append (codes "#") (link_text f) (IsUtf8-are_ascii (codes "#") refl) (text_utf8 f)

pub link_utf8 : (t : Title) → IsUtf8 (link_to t)
unfolding link_to
link_utf8 t = IsUtf8-append (codes "./") (link_text (full_name_of t) ++ link_fragment t.fragment) (IsUtf8-are_ascii (codes "./") refl)
    (IsUtf8-append (link_text (full_name_of t)) (link_fragment t.fragment) (text_utf8 (full_name_of t)) (fragment_utf8 t.fragment))

-- ---- a target is a title that was read

abbrev IsReadTarget : Option Target → Type 0
IsReadTarget None = Unit {0}
IsReadTarget (Some t) = (text : List ℕ) × IsUtf8 text × (read_text text ≡ Some t.title)

aimed_read : (colon : Bool) (text : List ℕ) (o : Option Title) → IsUtf8 text → read_text text ≡ o → IsReadTarget (aimed colon o)
aimed_read colon text None u e = tt
aimed_read colon text (Some t) u e = (text, u, e)

bytes_read : (colon : Bool) (bs : List ℕ) → IsReadTarget (aimed colon (read_bytes bs))
bytes_read colon bs = by_test (is_utf8 bs) refl
  where
    by_test : (t : Bool) → is_utf8 bs ≡ t → IsReadTarget (aimed colon (if t then read_text bs else None))
    by_test true e = aimed_read colon bs (read_text bs) (IsUtf8-from_is_utf8 bs e) refl
    by_test false e = tt

in_read : (bs : List ℕ) → IsReadTarget (target_in bs)
in_read bs = by_test (slice_index bs 0 == 58)
  where
    by_test : (t : Bool) → IsReadTarget (if t then aimed true (read_bytes (drop 1 bs)) else aimed false (read_bytes bs))
    by_test true = bytes_read true (drop 1 bs)
    by_test false = bytes_read false bs

of_read : (gs : List Glyph) → IsReadTarget (target_of gs)
unfolding target_of
of_read gs = by_test (list_any is_atom gs)
  where
    by_test : (t : Bool) → IsReadTarget (if t then None else target_in (target_text gs))
    by_test true = tt
    by_test false = in_read (target_text gs)

target_read : (gs : List Glyph) → IsReadTarget (target gs)
unfolding target
target_read gs = of_read (take (target_size gs) (drop 2 gs))

-- ---- heads

-- it is UTF-8, and is read as it is
record IsLink (href : List ℕ) : Type 0 where
  same : link_read href ≡ href
  utf8 : IsUtf8 href

no_link : IsLink []
unfolding read_link
no_link = record { same = refl; utf8 = IsUtf8-nil }

href_link : (o : Option Target) → IsReadTarget o → IsLink (href_to o)
href_link None h = no_link
href_link (Some t) h = record { same = ap (link_by (link_to t.title)) (links_back h.0 t.title h.1 h.2); utf8 = link_utf8 t.title }

pub link_has : (gs : List Glyph) → HasAttributes kind.WikiLink ((attr.Href, href_to (target gs)) ∷ [])
unfolding spelling
link_has gs =
    let l : IsLink (href_to (target gs)) = href_link (target gs) (target_read gs) in
    inl (href_to (target gs), [], refl, refl, l.same, l.utf8, refl)

with_utf8 : (o : Option Target) (k : Option (List ℕ)) → IsUtf8 (href_with o k)
with_utf8 None k = IsUtf8-nil
with_utf8 (Some t) k = link_utf8 (record { ns = t.title.ns; name = t.title.name; fragment = k })

pub category_has : (gs : List Glyph) (k : Option (List ℕ)) → HasAttributes kind.Category ((attr.Href, href_with (target gs) k) ∷ [])
unfolding spelling
category_has gs k = inl (href_with (target gs) k, [], refl, refl, refl, with_utf8 (target gs) k, refl)

pub url_has : (href : List ℕ) → IsUtf8 href → HasAttributes kind.ExtLink ((attr.Href, href) ∷ [])
unfolding spelling
url_has href u = inl (href, [], refl, refl, refl, u, refl)
