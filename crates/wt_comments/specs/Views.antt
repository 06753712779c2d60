-- What the values of this crate's own types stand for in the definitions.
use Rattle.std.specs.Prelude.{ℕ, ◌==◌, Bool, ◌&&◌, Option, Some, None, List, slice_index, length, nat_lt, nat_le, if◌then◌else◌}
use Rattle.std.specs.Char.{is_ascii_alphanumeric, is_ascii_digit, is_ascii_hexdigit}
use Rattle.wt_span.specs.Bytes.{is_blank}
use Rattle.wt_span.specs.Comments.{comment_len}
use Rattle.wt_span.specs.Tags.{is_tag_byte}
use Rattle.wt_comments.specs.declared.byte.ByteClass.{ByteClass}
use Rattle.wt_comments.specs.declared.byte.ByteClass.TheVariants as class

abbrev pub in_class : ByteClass → ℕ → Bool
in_class class.Blank = is_blank
in_class class.Name = is_ascii_alphanumeric
in_class class.Tag = is_tag_byte
in_class class.Digit = is_ascii_digit
in_class class.HexDigit = is_ascii_hexdigit
in_class (class.Only one) = λ b. b == one

-- the comment or the blank that begins a text: how many bytes it takes, 0 where none begins it
abbrev pub remark_by : Option ℕ → ℕ → ℕ
remark_by None b = if is_blank b then 1 else 0
remark_by (Some n) b = n

abbrev pub remark_len : List ℕ → ℕ
remark_len bs = remark_by (comment_len bs) (slice_index bs 0)

-- a name that isn't empty and has few bytes
abbrev pub is_short : List ℕ → Bool
is_short name = nat_lt 0 (length name) && nat_le (length name) 10
