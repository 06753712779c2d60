-- External links and bare URLs.
use Rattle.std.specs.Prelude.{ℕ, suc, ◌+◌, ◌-◌, ◌==◌, ◌&&◌, ◌||◌, Bool, false, not, Option, Some, None, List, [], ◌∷◌, length, take, drop, reverse, nat_lt, codes, option_map, if◌then◌else◌}
use Rattle.std.specs.List.{list_any, prefix_len}
use Rattle.std.specs.Char.{is_ascii_alphanumeric}
use Rattle.wt_span.specs.Characters as byte
use Rattle.wt_tiles.specs.declared.glyph.Glyph.{Glyph}
use Rattle.wt_tiles.specs.declared.glyph.Glyph.TheVariants as glyph
use Rattle.wt_tiles.specs.declared.glyph.GlyphClass.TheVariants as class
use Rattle.wt_tiles.specs.declared.shape.Shape.{Shape}
use Rattle.wt_tiles.specs.declared.shape.TileKind.TheVariants as kind
use Rattle.wt_tiles.specs.Glyphs.{is_in, first_is, run_len, begins, begins_like}
use Rattle.wt_tiles.specs.Links.{place}

-- how many items the beginning of a URL takes, 0 where none begins
unfoldable pub scheme_len : List Glyph → ℕ
scheme_len gs =
    if begins_like (codes "http://") gs then 7 else
    (if begins_like (codes "https://") gs then 8 else (if begins_like (codes "ftp://") gs then 6 else 0))

-- the characters of URLs: above the space, but for U+007F and `[ ] < > "`
unfoldable pub is_url_char : ℕ → Bool
is_url_char c = nat_lt 32 c && not (c == 127 || (c == byte.opening_bracket || (c == byte.closing_bracket || (c == byte.less_than || (c == byte.greater_than || c == byte.quotation_mark)))))

-- such a character, or an entity of one
abbrev pub is_url_glyph : Glyph → Bool
is_url_glyph (glyph.Byte b) = is_url_char b
is_url_glyph (glyph.Entity c) = is_url_char c
is_url_glyph glyph.Atom = false
is_url_glyph glyph.Mark = false

-- how many URL items are first; they end before `''`
abbrev pub url_run : List Glyph → ℕ
url_run [] = 0
url_run (g ∷ gs) = if is_url_glyph g && not (begins (codes "''") (g ∷ gs)) then suc (url_run gs) else 0

-- how many items follow the beginning of the URL that begins the items
abbrev pub url_items : List Glyph → List Glyph
url_items gs = take (url_run (drop (scheme_len gs) gs)) (drop (scheme_len gs) gs)

-- ---- external links

-- how many items the text takes: it holds no `[`, and the first `]` ends it
abbrev pub text_len : List Glyph → Option ℕ
text_len gs = place (first_is (class.Only 93)) (first_is (class.Only 91)) gs

abbrev pub ext_shape : ℕ → ℕ → Shape
ext_shape m k = record { kind = kind.ExtLink; opening = m; inside = k; closing = 1; trail = 0 }

-- the link whose `[` and URL take n items; the blanks after these belong to the open delimiter
abbrev pub ext_link_after : ℕ → List Glyph → Option Shape
ext_link_after n gs = let m = n + run_len class.Blank (drop n gs) in option_map (ext_shape m) (text_len (drop m gs))

-- the link by the items of its URL; one at least follows the beginning
abbrev pub ext_link_of : ℕ → ℕ → List Glyph → Option Shape
ext_link_of scheme m gs = if nat_lt 0 scheme && nat_lt 0 m then ext_link_after (1 + scheme + m) gs else None

-- the external link that begins the items
unfoldable pub ext_link_at : List Glyph → Option Shape
ext_link_at gs = if first_is (class.Only 91) gs then ext_link_of (scheme_len (drop 1 gs)) (length (url_items (drop 1 gs))) gs else None

-- ---- bare URLs

-- a letter, digit or `_`, after which no bare URL begins
abbrev pub is_word : ℕ → Bool
is_word b = is_ascii_alphanumeric b || b == byte.underscore

-- a character that doesn't end a URL: one of `, ; . : ! ?`, and `)` where the URL has no `(`
unfoldable pub is_dropped : Bool → ℕ → Bool
is_dropped paren b = b == byte.comma || (b == byte.semicolon || (b == byte.full_stop || (b == byte.colon || (b == byte.exclamation_mark || (b == byte.question_mark || (not paren && b == byte.closing_parenthesis))))))

abbrev pub has_paren : List Glyph → Bool
has_paren us = list_any (is_in (λ b. b == byte.opening_parenthesis)) us

-- how many of a URL's items are left when such characters are dropped from its end
unfoldable pub kept_len : List Glyph → ℕ
kept_len us = length us - prefix_len (is_in (is_dropped (has_paren us))) (reverse us)

abbrev pub bare_shape : ℕ → Shape
bare_shape n = record { kind = kind.BareUrl; opening = 0; inside = n; closing = 0; trail = 0 }

abbrev pub bare_url_of : ℕ → ℕ → Option Shape
bare_url_of scheme m = if nat_lt 0 scheme && nat_lt 0 m then Some (bare_shape (scheme + m)) else None

-- the bare URL that begins the items; `after` says whether a letter, digit or `_` comes before them
unfoldable pub bare_url_at : Bool → List Glyph → Option Shape
bare_url_at after gs = if after then None else bare_url_of (scheme_len gs) (kept_len (url_items gs))
