-- What is written for a title: its link and the name of its file; and how a link is read.
use Rattle.std.specs.Prelude.{ℕ, List, [], ◌∷◌, ◌++◌, Bool, ◌&&◌, ◌||◌, ◌==◌, nat_lt, nat_eq, Option, Some, None, if◌then◌else◌, drop, codes}
use Rattle.std.specs.List.{list_any, flat_map, starts_with}
use Rattle.std.specs.Char.{is_ascii_alphanumeric}
use Rattle.std.specs.Str.{is_utf8}
use Rattle.percent_encoding.specs.Percent.{percent_encode_byte, percent_decode}
use Rattle.wt_names.specs.declared.title.Title.{Title}
use Rattle.wt_names.specs.Namespace.{full_name_of}
use Rattle.wt_names.specs.Reading.{replaced}
use Rattle.wt_names.specs.Good.{read_text}

-- each space is `_`
abbrev pub underscored : List ℕ → List ℕ
underscored bs = replaced 32 95 bs

-- the ASCII characters that are in a link, and in the name of a file, as they are
unfoldable pub stays_in_link : ℕ → Bool
stays_in_link b = nat_lt b 128 && (is_ascii_alphanumeric b || list_any (λ c. c == b) (codes "-_.~!*(),;:@/$"))

unfoldable pub stays_in_file : ℕ → Bool
stays_in_file b = nat_lt b 128 && (is_ascii_alphanumeric b || list_any (λ c. c == b) (codes "-_."))

-- every other byte is `%` and its two hexadecimal digits, in upper case
abbrev pub escaped : (ℕ → Bool) → List ℕ → List ℕ
escaped stays bs = flat_map (λ b. if stays b then b ∷ [] else percent_encode_byte b) bs

unfoldable pub link_text : List ℕ → List ℕ
link_text text = escaped stays_in_link (underscored text)

abbrev pub link_fragment : Option (List ℕ) → List ℕ
link_fragment None = []
link_fragment (Some fragment) = codes "#" ++ link_text fragment

-- the link to a title
unfoldable pub link_to : Title → List ℕ
link_to t = codes "./" ++ (link_text (full_name_of t) ++ link_fragment t.fragment)

-- the name of the file that holds the page of this full name
unfoldable pub file_of : List ℕ → List ℕ
file_of full = escaped stays_in_file (underscored full) ++ codes ".wiki"

-- the title that these bytes are, where they are a text and that is one
abbrev pub read_bytes : List ℕ → Option Title
read_bytes bytes = if is_utf8 bytes then read_text bytes else None

-- the title that a link leads to: the link without its `./`, its escapes read, is the title's text
unfoldable pub read_link : List ℕ → Option Title
read_link href = if starts_with nat_eq href (codes "./") then read_bytes (percent_decode (drop 2 href)) else None
