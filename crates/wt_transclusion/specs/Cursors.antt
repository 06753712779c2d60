-- Where a text is read.
use Rattle.std.specs.Prelude.{◌≡◌, ◌≤◌, ℕ, ◌-◌, Bool, List, length, slice_index, nat_lt, nat_le}
use Rattle.std.specs.List.{prefix_len}
use Rattle.wt_span.specs.Bytes.{is_break}
use Rattle.wt_transclusion.specs.declared.cursor.Cursor.{Cursor}
use Rattle.wt_transclusion.specs.declared.read.ReadText.{ReadText}

-- whether a place after the first byte is at the start of a line
abbrev pub starts : List ℕ → ℕ → Bool
starts t q = is_break (slice_index t (q - 1))

-- a place, with how many lexemes end up to it and how many calls begin in front of it
pub record IsAt (text : ReadText) (p : ℕ) (c : Cursor) : Type 0 where
  pub at_is : c.at ≡ p
  pub lexeme_is : c.lexeme ≡ prefix_len (λ x. nat_le x.at.end p) text.lexemes.now
  pub call_is : c.call ≡ prefix_len (λ x. nat_lt x.at.start p) text.calls.now

-- its numbers are some of the text
pub record IsOn (text : ReadText) (c : Cursor) : Type 0 where
  pub lexeme_within : c.lexeme ≤ length text.lexemes.now
  pub call_within : c.call ≤ length text.calls.now
