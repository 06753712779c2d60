-- How a byte is written in a text, and in an attribute's value between quotation marks.
use Rattle.std.specs.Prelude.{ℕ, List}
use Rattle.std.specs.List.{flat_map}
use Rattle.wt_span.specs.Characters as byte
use Rattle.wt_schema.specs.Escapes.{escape, escape_double, escape_single}
use Rattle.wt_html_out.specs.declared.bytes.Escaping.{Escaping}
use Rattle.wt_html_out.specs.declared.bytes.Escaping.TheVariants as for

abbrev pub escape_in : Escaping → ℕ → List ℕ
escape_in for.Text = escape
escape_in for.DoubleQuoted = escape_double
escape_in for.SingleQuoted = escape_single

abbrev pub escaped_in : Escaping → List ℕ → List ℕ
escaped_in e bs = flat_map (escape_in e) bs

-- the quotation mark that is escaped; in a text there is none, and `&` is escaped anyway
abbrev pub quote_of : Escaping → ℕ
quote_of for.Text = byte.ampersand
quote_of for.DoubleQuoted = byte.quotation_mark
quote_of for.SingleQuoted = byte.apostrophe
