-- Islands that are tags which come in pairs. (An island is kept as it is: of its forms only a tag of such a name begins so.)
use Rattle.std.specs.Prelude.{ℕ, ◌-◌, ◌==◌, ◌&&◌, not, Bool, List, [], ◌∷◌, length, take, drop, slice_index, nat_lt, codes}
use Rattle.std.specs.Char.{is_ascii_alphanumeric}
use Rattle.std.specs.List.{prefix_len, list_any}
use Rattle.std.specs.Str.{bytes_eq}
use Rattle.wt_span.specs.Bytes.{begins, lower}
use Rattle.wt_span.specs.Characters as byte

-- the name that is at a place of the source, in lower case: letters and digits
abbrev pub name_at : ℕ → List ℕ → List ℕ
name_at at source = let rest = drop at source in lower (take (prefix_len is_ascii_alphanumeric rest) rest)

unfoldable pub is_paired_name : List ℕ → Bool
is_paired_name name =
    list_any (bytes_eq name) (codes "sup" ∷ codes "sub" ∷ codes "small" ∷ codes "s" ∷ codes "u" ∷ codes "code" ∷ codes "span" ∷ [])

-- a `/` comes before the last byte
abbrev pub closes_itself : List ℕ → Bool
closes_itself source = nat_lt 1 (length source) && slice_index source (length source - 2) == byte.slash

-- the source is an opening tag, and doesn't close itself
abbrev pub is_open_tag : List ℕ → Bool
is_open_tag source = begins (codes "<") source && (is_paired_name (name_at 1 source) && not (closes_itself source))

-- the source is a closing tag
abbrev pub is_closing_tag : List ℕ → Bool
is_closing_tag source = begins (codes "</") source && is_paired_name (name_at 2 source)
