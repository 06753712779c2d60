-- The forms that begin a text, in the groups in which they are looked for.
use Rattle.std.specs.Prelude.{ℕ, ◌-◌, ◌==◌, Bool, ◌&&◌, ◌||◌, Option, List, slice_index, nat_lt}
use Rattle.std.specs.Option.{option_or}
use Rattle.wt_span.specs.declared.form.Mode.{Mode}
use Rattle.wt_span.specs.declared.form.LexKind.TheVariants.{Comment, Raw}
use Rattle.wt_span.specs.Bytes.{is_blank, is_break}
use Rattle.wt_span.specs.Comments.{comment_len}
use Rattle.wt_span.specs.Tags.{raw_len, include_at}
use Rattle.wt_span.specs.Entities.{entity_at}
use Rattle.wt_span.specs.Lexemes.{Word, as_word, comment_line_word, entity_word, sign_word}
use Rattle.wt_span.specs.Characters as byte

-- a byte with which a form begins anywhere: one of `<`, `&`, `{`, `}`, `[`, `]`, `|`, `=`
abbrev pub is_form_byte : ℕ → Bool
is_form_byte b = b == byte.less_than || (b == byte.ampersand || (b == byte.opening_brace || (b == byte.closing_brace || (b == byte.opening_bracket || (b == byte.closing_bracket || (b == byte.vertical_bar || b == byte.equals_sign))))))

-- a byte with which a form may begin, after a line break or elsewhere
abbrev pub may_begin : Bool → ℕ → Bool
may_begin after b = is_form_byte b || (after && is_blank b)

-- a line break comes before a place of a text
abbrev pub after_break : List ℕ → ℕ → Bool
after_break text at = nat_lt 0 at && is_break (slice_index text (at - 1))

abbrev pub remark_word : Bool → List ℕ → Option Word
remark_word after bs = option_or (comment_line_word after bs) (as_word Comment (comment_len bs))

abbrev pub tag_word : Mode → List ℕ → Option Word
tag_word mode bs = option_or (as_word Raw (raw_len bs)) (include_at mode bs)

abbrev pub inner_word : List ℕ → Option Word
inner_word bs = option_or (entity_word (entity_at bs)) (sign_word bs)
