-- Tags, raw tags and include tags, as they begin a text.
use Rattle.std.specs.Prelude.{ℕ, ◌+◌, ◌-◌, ◌==◌, ◌&&◌, ◌||◌, not, Bool, false, Option, Some, None, List, [], ◌∷◌, length, take, drop, slice_index, nat_lt, codes, if◌then◌else◌}
use Rattle.std.specs.Option.{option_map, option_or, unwrap_or}
use Rattle.std.specs.List.{prefix_len, list_any}
use Rattle.std.specs.Str.{bytes_eq}
use Rattle.wt_span.specs.declared.form.Mode.{Mode}
use Rattle.wt_span.specs.declared.form.Mode.TheVariants.{Page, Template}
use Rattle.wt_span.specs.declared.form.LexKind.{LexKind}
use Rattle.wt_span.specs.declared.form.LexKind.TheVariants.{Include, Hidden}
use Rattle.wt_span.specs.Bytes.{is_blank, begins, name_len, blank_len, lower}
use Rattle.wt_span.specs.Characters as byte

-- ---- tags

-- a tag by its name in lower case, how many bytes it takes, and whether it closes itself
pub record Tag : Type 0 where
  pub name : List ℕ
  pub len : ℕ
  pub alone : Bool

-- what may be in a tag: no `<`, no `>`, no line break
abbrev pub is_tag_byte : ℕ → Bool
is_tag_byte b = not (b == byte.less_than || (b == byte.greater_than || b == byte.line_break))

-- what is between the name and the `>`: nothing, `/`, or a space or tab and more
abbrev pub is_tag_inside : List ℕ → Bool
is_tag_inside bs = length bs == 0 || (is_blank (slice_index bs 0) || (length bs == 1 && slice_index bs 0 == byte.slash))

-- the last byte before the `>` is a `/`
abbrev pub closes_itself : List ℕ → Bool
closes_itself bs = nat_lt 0 (length bs) && slice_index bs (length bs - 1) == byte.slash

-- the tag of this name, by what follows the name
unfoldable pub tag_after : List ℕ → List ℕ → Option Tag
tag_after name bs =
    let inside = take (prefix_len is_tag_byte bs) bs in
    if slice_index bs (length inside) == byte.greater_than && is_tag_inside inside
    then Some (record { name = lower name; len = 2 + length name + length inside; alone = closes_itself inside })
    else None

-- an opening tag: `<`, a name, what is in it, `>`
unfoldable pub opening_tag : List ℕ → Option Tag
opening_tag bs =
    let n = name_len (drop 1 bs) in
    if slice_index bs 0 == byte.less_than && nat_lt 0 n then tag_after (take n (drop 1 bs)) (drop (1 + n) bs) else None

-- a closing tag: `</`, a name, blanks, `>`
unfoldable pub closing_tag : List ℕ → Option Tag
closing_tag bs =
    let n = name_len (drop 2 bs) in
    let k = blank_len (drop (2 + n) bs) in
    if begins (codes "</") bs && (nat_lt 0 n && slice_index bs (2 + n + k) == byte.greater_than)
    then Some (record { name = lower (take n (drop 2 bs)); len = 3 + n + k; alone = false })
    else None

-- how many bytes a tag takes where it has this name
abbrev pub len_if_named : List ℕ → Option Tag → Option ℕ
len_if_named name None = None
len_if_named name (Some t) = if bytes_eq t.name name then Some t.len else None

-- how many bytes up to and with the next closing tag of this name
abbrev pub to_closing : List ℕ → List ℕ → Option ℕ
to_closing name [] = None
to_closing name (b ∷ bs) = option_or (len_if_named name (closing_tag (b ∷ bs))) (option_map (λ n. 1 + n) (to_closing name bs))

-- a tag with its inside: alone if it closes itself, else to the end of the next closing tag of its name
unfoldable pub with_inside : Tag → List ℕ → Option ℕ
with_inside t bs = if t.alone then Some t.len else option_map (λ n. t.len + n) (to_closing t.name (drop t.len bs))

-- ---- raw tags

-- tags of extensions
unfoldable pub is_extension : List ℕ → Bool
is_extension name =
    list_any (bytes_eq name) (codes "ref" ∷ codes "references" ∷ codes "gallery" ∷ codes "math" ∷ codes "pre" ∷ codes "poem"
    ∷ codes "syntaxhighlight" ∷ codes "source" ∷ codes "score" ∷ codes "timeline" ∷ codes "imagemap" ∷ codes "templatestyles" ∷ [])

abbrev pub is_nowiki : List ℕ → Bool
is_nowiki name = bytes_eq name (codes "nowiki")

abbrev pub is_raw_name : List ℕ → Bool
is_raw_name name = is_nowiki name || is_extension name

-- a raw tag with its inside; without a closing tag it is none
abbrev pub raw_by : (List ℕ → Bool) → Option Tag → List ℕ → Option ℕ
raw_by named None bs = None
raw_by named (Some t) bs = if named t.name then with_inside t bs else None

unfoldable pub raw_len : List ℕ → Option ℕ
raw_len bs = raw_by is_raw_name (opening_tag bs) bs

-- ---- include tags

abbrev pub is_noinclude : List ℕ → Bool
is_noinclude name = bytes_eq name (codes "noinclude")

abbrev pub is_includeonly : List ℕ → Bool
is_includeonly name = bytes_eq name (codes "includeonly")

abbrev pub is_onlyinclude : List ℕ → Bool
is_onlyinclude name = bytes_eq name (codes "onlyinclude")

-- the tag whose inside isn't shown: on the page what only templates include, in a template what they don't
abbrev pub hides : Mode → List ℕ → Bool
hides Page name = is_includeonly name
hides Template name = is_noinclude name

-- the tags that are left out, with their inside shown
abbrev pub is_left_out : Mode → List ℕ → Bool
is_left_out Page name = is_noinclude name || is_onlyinclude name
is_left_out Template name = is_includeonly name

-- a hidden part runs to the end of the text where no closing tag comes
abbrev pub hidden_len : Tag → List ℕ → ℕ
hidden_len t bs = unwrap_or (with_inside t bs) (length bs)

abbrev pub opening_include : Mode → Option Tag → List ℕ → Option (LexKind × ℕ)
opening_include mode None bs = None
opening_include mode (Some t) bs =
    if hides mode t.name then Some (Hidden, hidden_len t bs) else (if is_left_out mode t.name then Some (Include, t.len) else None)

abbrev pub closing_include : Mode → Option Tag → Option (LexKind × ℕ)
closing_include mode None = None
closing_include mode (Some t) = if is_left_out mode t.name then Some (Include, t.len) else None

unfoldable pub include_at : Mode → List ℕ → Option (LexKind × ℕ)
include_at mode bs = option_or (opening_include mode (opening_tag bs) bs) (closing_include mode (closing_tag bs))
