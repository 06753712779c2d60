-- Tags whose names count, as they begin a context: an opening tag is `<`, a name, nothing or a blank and more, and `>`; one
-- that closes itself has a `/` before the `>`; a closing tag is `</`, a name, blanks and `>`. Names have no case.
use Rattle.std.specs.Prelude.{ℕ, ◌+◌, ◌-◌, ◌==◌, ◌&&◌, ◌||◌, Bool, false, Option, Some, None, List, [], ◌∷◌, length, take, drop, nat_lt, codes, option_map, if◌then◌else◌}
use Rattle.std.specs.Option.{option_or}
use Rattle.wt_span.specs.Characters as byte
use Rattle.wt_span.specs.declared.tag_name.TagName.TheVariants as name
use Rattle.wt_tiles.specs.declared.glyph.Glyph.{Glyph}
use Rattle.wt_tiles.specs.declared.glyph.GlyphClass.TheVariants as class
use Rattle.wt_tiles.specs.declared.tag.Name.{Name}
use Rattle.wt_tiles.specs.declared.tag.Name.TheVariants.{Paired, Break, Island}
use Rattle.wt_tiles.specs.declared.tag.TagShape.{TagShape}
use Rattle.wt_tiles.specs.declared.tag.TagShape.TheVariants.{Opening, Alone, Closing}
use Rattle.wt_tiles.specs.declared.tag.Tag.{Tag}
use Rattle.wt_tiles.specs.Glyphs.{first_is, run_len, begins, is_like}

-- ---- names

-- one of these words, without ASCII case
abbrev pub is_among : List (List ℕ) → List Glyph → Bool
is_among [] gs = false
is_among (word ∷ words) gs = is_like word gs || is_among words gs

abbrev pub if_like : List ℕ → Name → List Glyph → Option Name
if_like word n gs = if is_like word gs then Some n else None

-- tags that are in pairs, and the line break
unfoldable pub live_name : List Glyph → Option Name
live_name gs =
    option_or (if_like (codes "sup") (Paired name.Sup) gs) (option_or (if_like (codes "sub") (Paired name.Sub) gs)
    (option_or (if_like (codes "small") (Paired name.Small) gs) (option_or (if_like (codes "s") (Paired name.S) gs)
    (option_or (if_like (codes "u") (Paired name.U) gs) (option_or (if_like (codes "code") (Paired name.Code) gs)
    (option_or (if_like (codes "span") (Paired name.Span) gs) (if_like (codes "br") Break gs)))))))

-- tags that are kept as islands: of styles, of words, of blocks, of headings and lists, of tables, and those of includes
unfoldable pub is_style_name : List Glyph → Bool
is_style_name gs =
    is_among (codes "b" ∷ codes "i" ∷ codes "em" ∷ codes "strong" ∷ codes "del" ∷ codes "ins" ∷ codes "big" ∷ codes "tt" ∷ codes "font"
    ∷ codes "strike" ∷ []) gs

unfoldable pub is_phrase_name : List Glyph → Bool
is_phrase_name gs =
    is_among (codes "kbd" ∷ codes "samp" ∷ codes "var" ∷ codes "cite" ∷ codes "dfn" ∷ codes "abbr" ∷ codes "mark" ∷ codes "q" ∷ codes "bdi"
    ∷ codes "bdo" ∷ codes "wbr" ∷ []) gs

unfoldable pub is_block_name : List Glyph → Bool
is_block_name gs =
    is_among (codes "div" ∷ codes "p" ∷ codes "center" ∷ codes "blockquote" ∷ codes "hr" ∷ codes "h1" ∷ codes "h2" ∷ codes "h3" ∷ codes "h4"
    ∷ codes "h5" ∷ codes "h6" ∷ []) gs

unfoldable pub is_list_name : List Glyph → Bool
is_list_name gs = is_among (codes "ul" ∷ codes "ol" ∷ codes "li" ∷ codes "dl" ∷ codes "dt" ∷ codes "dd" ∷ []) gs

unfoldable pub is_table_name : List Glyph → Bool
is_table_name gs =
    is_among (codes "table" ∷ codes "caption" ∷ codes "thead" ∷ codes "tbody" ∷ codes "tfoot" ∷ codes "tr" ∷ codes "td" ∷ codes "th" ∷ []) gs

unfoldable pub is_include_name : List Glyph → Bool
is_include_name gs = is_among (codes "noinclude" ∷ codes "includeonly" ∷ codes "onlyinclude" ∷ []) gs

unfoldable pub is_island_name : List Glyph → Bool
is_island_name gs = is_style_name gs || (is_phrase_name gs || (is_block_name gs || (is_list_name gs || (is_table_name gs || is_include_name gs))))

abbrev pub island_name : List Glyph → Option Name
island_name gs = if is_island_name gs then Some Island else None

-- what a tag of this name is, if it counts
unfoldable pub name_of : List Glyph → Option Name
name_of gs = option_or (live_name gs) (island_name gs)

-- ---- forms

abbrev pub tag_of : TagShape → ℕ → Option Name → Option Tag
tag_of shape n o = option_map (λ m. record { name = m; shape = shape; len = n }) o

-- a letter, then letters and digits; 0 where none begin the items
abbrev pub name_len : List Glyph → ℕ
name_len gs = if first_is class.Letter gs then run_len class.Name gs else 0

-- what is between the name and the `>`: nothing, a blank and more, or `/`
abbrev pub is_inside : List Glyph → Bool
is_inside gs = length gs == 0 || (first_is class.Blank gs || (length gs == 1 && first_is (class.Only byte.slash) gs))

-- the last item before the `>` is a `/`
abbrev pub shape_of : List Glyph → TagShape
shape_of gs = if first_is (class.Only byte.slash) (drop (length gs - 1) gs) then Alone else Opening

-- the opening tag of this name, by what follows the name
unfoldable pub tag_after : List Glyph → List Glyph → Option Tag
tag_after name gs =
    let inside = take (run_len class.Tag gs) gs in
    if first_is (class.Only 62) (drop (run_len class.Tag gs) gs) && is_inside inside
    then tag_of (shape_of inside) (2 + length name + length inside) (name_of name) else None

unfoldable pub opening_tag : List Glyph → Option Tag
opening_tag gs =
    let n = name_len (drop 1 gs) in
    if first_is (class.Only 60) gs && nat_lt 0 n then tag_after (take n (drop 1 gs)) (drop (1 + n) gs) else None

unfoldable pub closing_tag : List Glyph → Option Tag
closing_tag gs =
    let n = name_len (drop 2 gs) in
    let k = run_len class.Blank (drop (2 + n) gs) in
    if begins (codes "</") gs && (nat_lt 0 n && first_is (class.Only 62) (drop (2 + n + k) gs))
    then tag_of Closing (3 + n + k) (name_of (take n (drop 2 gs)))
    else None

-- the tag that begins the items, if its name counts
unfoldable pub tag_at : List Glyph → Option Tag
tag_at gs = option_or (opening_tag gs) (closing_tag gs)
