-- What a content with styles shows: its texts, its nodes, each as it would be shown by itself, and bold and italic round them.
use Rattle.std.specs.Prelude.{Bool, None, [], encode_utf8}
use Rattle.wt_tree.specs.Plain.{Plains, ended, along, element, text_before}
use Rattle.wt_guards.specs.Content.{letter, thing}
use Rattle.wt_context.specs.Line.{line_parts}
use Rattle.wt_context.specs.Styled.{style_kind}
use Rattle.wt_beside_laws.specs.NodeItems.{node_items}
use Rattle.wt_beside_laws.specs.Shown.{parts_shown_at}
use Rattle.wt_beside_laws.specs.Styled.{StyledContent, finished, sign, styled}

-- an element without attributes
abbrev pub style_shown : Bool → Plains → Plains → Plains
style_shown bold held rest = along (element (record { kind = style_kind bold; attrs = []; mw = None }) held) rest

abbrev pub styled_shown : StyledContent → Plains → Plains
styled_shown finished rest = rest
styled_shown (sign (letter c) t) rest = text_before (encode_utf8 c) (styled_shown t rest)
styled_shown (sign (thing x) t) rest = parts_shown_at 0 [] (line_parts (node_items x.source)) (styled_shown t rest)
styled_shown (styled bold opening closing inside t) rest = style_shown bold (styled_shown inside ended) (styled_shown t rest)
