-- What a content without styles shows: its texts, and each node as it would be shown by itself.
use Rattle.std.specs.Prelude.{ℕ, List, [], ◌∷◌, encode_utf8}
use Rattle.wt_tree.specs.Plain.{Plains, text_before, plains_before}
use Rattle.wt_span.specs.Items.{Item}
use Rattle.wt_guards.specs.Content.{ContentSign, letter, thing}
use Rattle.wt_inline.specs.ItemTree.{forest}
use Rattle.wt_inline.specs.Parts.{Part, children}
use Rattle.wt_context.specs.Line.{line_parts}
use Rattle.wt_annotated.specs.CutTexts.{all_cut_texts}
use Rattle.wt_annotated.specs.Numbering.{all_with_numbers}
use Rattle.wt_annotated.specs.WithoutCalls.{all_placed}
use Rattle.wt_beside_laws.specs.NodeItems.{node_items}

-- The nodes of these parts, after these items of a page and with these numbers, before what is shown behind them.
abbrev pub parts_shown_at : ℕ → List Item → List Part → Plains → Plains
parts_shown_at n before ps rest = plains_before (all_cut_texts (all_with_numbers n (all_placed before (forest (children ps))))) rest

-- references and nowikis leave nothing but the text that was typed
abbrev pub content_shown : List ContentSign → Plains → Plains
content_shown [] rest = rest
content_shown (letter c ∷ after) rest = text_before (encode_utf8 c) (content_shown after rest)
content_shown (thing t ∷ after) rest = parts_shown_at 0 [] (line_parts (node_items t.source)) (content_shown after rest)
