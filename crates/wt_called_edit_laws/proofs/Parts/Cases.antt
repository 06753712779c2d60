-- Worked cases of the braces that are left, each computed.
use Rattle.std.proofs.Common.{◌≡◌, [], ◌∷◌, refl}
use Rattle.std.specs.Prelude.{codes}
use Rattle.wt_span.specs.Comments.{comment_len, comment_line_len}
use Rattle.wt_span.specs.Entities.{entity_at, named_entity, decimal_entity, hex_entity, entity_names}
use Rattle.wt_span.specs.Tags.{raw_len, opening_tag, tag_after, closing_tag, with_inside, is_extension, include_at}
use Rattle.wt_span.specs.Lexemes.{sign_word, form_at, closed, words}
use Rattle.wt_span.specs.Braces.{rewritten, reduced}
use Rattle.wt_text_edit_laws.specs.NoCalls.{opening, closing}
use Rattle.wt_called_edit_laws.specs.Parts.{left_of}

-- a call leaves none
call_left : left_of (codes "a {{b|c}} {") ≡ []
unfolding words closed form_at comment_len comment_line_len raw_len opening_tag tag_after closing_tag with_inside is_extension
    include_at entity_at named_entity decimal_entity hex_entity entity_names sign_word reduced rewritten
call_left = refl

-- two close nothing; and of five that open three are taken by three that close, so that two are left
more_left : left_of (codes "}}{{{{{a}}}") ≡ closing ∷ opening ∷ []
unfolding words closed form_at comment_len comment_line_len raw_len opening_tag tag_after closing_tag with_inside is_extension
    include_at entity_at named_entity decimal_entity hex_entity entity_names sign_word reduced rewritten
more_left = refl
