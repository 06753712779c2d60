-- Comments, and lines that hold nothing else.
use Rattle.std.specs.Prelude.{ℕ, zero, suc, ◌+◌, ◌-◌, ◌&&◌, Option, Some, None, List, [], ◌∷◌, drop, slice_index, nat_lt, codes, if◌then◌else◌}
use Rattle.wt_span.specs.Bytes.{is_blank, is_break, begins, through, blank_len}

-- a comment: `<!--` up to and with the next `-->`, or to the end of the text
unfoldable pub comment_len : List ℕ → Option ℕ
comment_len bs = if begins (codes "<!--") bs then Some (4 + through (codes "-->") (drop 4 bs)) else None

-- one more comment, or one more blank, before others
abbrev pub remarks_with : Option ℕ → ℕ → (ℕ → ℕ) → ℕ
remarks_with (Some n) b rest = 1 + rest (n - 1)
remarks_with None b rest = if is_blank b then 1 + rest 0 else 0

-- how many bytes of comments and blanks begin a text, of which the first n lie in a comment
abbrev pub remarks_len : ℕ → List ℕ → ℕ
remarks_len n [] = 0
remarks_len (suc n) (b ∷ bs) = 1 + remarks_len n bs
remarks_len zero (b ∷ bs) = remarks_with (comment_len (b ∷ bs)) b (λ n. remarks_len n bs)

-- a line of comments and blanks, at least one comment among them, with its line break
unfoldable pub comment_line_len : List ℕ → Option ℕ
comment_line_len bs =
    let n = remarks_len 0 bs in
    if nat_lt (blank_len bs) n && is_break (slice_index bs n) then Some (n + 1) else None
