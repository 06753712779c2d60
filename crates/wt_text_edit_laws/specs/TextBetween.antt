-- What comes before and after a text of a page.
use Rattle.std.specs.Prelude.{◌≡◌, ◌<◌, ℕ, ◌==◌, ◌&&◌, ◌||◌, not, Bool, true, false, Option, Some, None, List, [], ◌∷◌, ◌++◌, length, drop, codes, is_some, if◌then◌else◌, slice_index}
use Rattle.wt_span.specs.declared.form.Mode.TheVariants.{Page}
use Rattle.wt_span.specs.Bytes.{is_break, begins, blank_len}
use Rattle.wt_span.specs.Comments.{remarks_len}
use Rattle.wt_span.specs.Tags.{Tag, opening_tag, with_inside, is_raw_name, hides}
use Rattle.wt_span.specs.Characters as byte
use Rattle.wt_typed_blocks.specs.Reading.{stands}
use Rattle.wt_part_laws.specs.Scans.{AtStarts}
use Rattle.wt_part_laws.specs.Lexer.{lexer}

-- ---- lines

-- no `<` is in it
abbrev pub HasNoTag : List ℕ → Type 0
HasNoTag [] = Unit {0}
HasNoTag (b ∷ bs) = ((b == byte.less_than) ≡ false) × HasNoTag bs

-- nothing, or bytes of which the last passes a test
abbrev pub EndsBy : (ℕ → Bool) → List ℕ → Type 0
EndsBy test [] = Unit {0}
EndsBy test (b ∷ []) = test b ≡ true
EndsBy test (b ∷ c ∷ cs) = EndsBy test (c ∷ cs)

-- nothing, or lines, the last of which ends
abbrev pub AreWholeLines : List ℕ → Type 0
AreWholeLines bs = EndsBy is_break bs

-- a line break, or the last byte of a comment or tag
abbrev pub is_end : ℕ → Bool
is_end b = b == byte.line_break || b == byte.greater_than

-- nothing, or lines, and behind the last one comments and tags
abbrev pub AreEnded : List ℕ → Type 0
AreEnded bs = EndsBy is_end bs

-- no line of comments and blanks begins these bytes, nor goes on in them
abbrev pub BeginsShown : List ℕ → Type 0
BeginsShown bs = is_break (slice_index bs (remarks_len 0 bs)) ≡ false

-- behind the comments and blanks that begin them is a byte, and it is no line break
pub record BeginsSeen (bs : List ℕ) : Type 0 where
  pub short : remarks_len 0 bs < length bs
  pub shown : BeginsShown bs

-- ---- what begins in a part and ends in it

-- where a comment begins these bytes, its `-->` is in them
abbrev pub ends_comment : List ℕ → Bool
ends_comment bs = if begins (codes "<!--") bs then stands (codes "-->") (drop 4 bs) else true

-- where a tag begins these bytes whose inside is no wikitext of the page, it closes itself, or its closing tag is in them
abbrev pub ends_tag : Option Tag → List ℕ → Bool
ends_tag None bs = true
ends_tag (Some t) bs = if is_raw_name t.name || hides Page t.name then is_some (with_inside t bs) else true

abbrev pub ends_here : List ℕ → Bool
ends_here bs = ends_comment bs && ends_tag (opening_tag bs) bs

-- Each comment that begins in it ends in it, and so does each tag of an extension, `<nowiki>` and `<includeonly>`. Asked is where a lexeme
-- may begin: what is inside of another one counts for nothing.
abbrev pub HasEnds : List ℕ → Type 0
HasEnds bs = AtStarts (lexer Page) (λ after rest. ends_here rest ≡ true) false 0 bs

-- The same before the rest of a page; or the tag is one of an extension or `<nowiki>` that has no closing tag, neither in these bytes nor in
-- the rest, and so is characters. An open `<includeonly>` would hide the rest.
abbrev pub ends_tag_before : List ℕ → Option Tag → List ℕ → Bool
ends_tag_before rest None bs = true
ends_tag_before rest (Some t) bs =
    if is_raw_name t.name || hides Page t.name
    then is_some (with_inside t bs) || (not (hides Page t.name) && not (is_some (with_inside t (bs ++ rest))))
    else true

abbrev pub ends_before : List ℕ → List ℕ → Bool
ends_before rest bs = ends_comment bs && ends_tag_before rest (opening_tag bs) bs

-- So of a part before the rest of a page.
abbrev pub HasEndsBefore : List ℕ → List ℕ → Type 0
HasEndsBefore rest bs = AtStarts (lexer Page) (λ after here. ends_before rest here ≡ true) false 0 bs

-- So of a line before the rest of a page. Where the page ends with it nothing is asked.
abbrev pub LineEnds : List ℕ → List ℕ → Type 0
LineEnds line [] = Unit {0}
LineEnds line (b ∷ rest) = HasEndsBefore rest (line ++ b ∷ [])

-- ---- the parts of a page

-- Before the text: nothing, or lines of any kind, and comments and tags behind the last one. Tags and comments may be in the lines, too.
pub record StandsBefore (bs : List ℕ) : Type 0 where
  pub ends : AreEnded bs
  pub has_ends : HasEnds bs

-- After it: anything. No comment begins it, nor follows the blanks that begin it.
pub record StandsBehind (bs : List ℕ) : Type 0 where
  pub uncommented : remarks_len 0 bs ≡ blank_len bs
