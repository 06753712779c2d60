-- A paragraph among the blocks of a page's rows is a child of the body that the page means.
use Rattle.std.proofs.Common.{◌≡◌, List, [], ◌∷◌, ◌++◌, refl, sym, ap, ◌∙◌, append_assoc}
use Rattle.std.specs.List.{flat_map}
use Rattle.std.proofs.lemmas.Grind.{flat_map-append}
use Rattle.wt_span.specs.Items.{Item}
use Rattle.wt_lines.specs.Lines.{full_lines}
use Rattle.wt_inline.specs.ItemTree.{ItemTree}
use Rattle.wt_inline.specs.Parts.{node, children}
use Rattle.wt_page.specs.Rows.{Row, first_lead, last_ending, rows_from, rows}
use Rattle.wt_page.specs.Stretches.{Stretch, gap, stretches_parts, tree_block}
use Rattle.wt_page.specs.Tables.{Reading}
use Rattle.wt_page.specs.Texts.{para}
use Rattle.wt_page.specs.Body.{blocks_by, within, blocks}
use Rattle.wt_part_laws.specs.Blocks.{Block, paragraph, block_parts}
use Rattle.wt_part_laws.proofs.BlockCases.{read_by_cases}
use Rattle.wt_part_laws.proofs.Fitting.{parts_round}
use Rattle.wt_text_edit_laws.specs.BodyParagraphs.{IsBodyParagraph, IsBodyChild}
use Rattle.wt_text_edit_laws.specs.ParagraphBetween.{body_with}
use Rattle.wt_text_edit_laws.proofs.Paragraphs.Standing.{round_node, body_is}

blocks_are : (xs : List Item) → blocks (rows xs) ≡ blocks_by (within 15) (rows_from 0 (full_lines xs))
unfolding blocks rows
blocks_are xs = refl

pub body_child : (xs : List Item) (r : Row) (rs : List Row) → IsBodyParagraph xs r rs → IsBodyChild xs (para (r ∷ rs))
body_child xs r rs h =
    let read : Reading = within 15 in
    let t : ItemTree = para (r ∷ rs) in
    let made : Block → List Stretch = block_parts read in
    let first : List Stretch = flat_map made h.before in
    let lead : Stretch = gap (first_lead (r ∷ rs)) in
    let last : List Stretch = gap (last_ending (r ∷ rs)) ∷ flat_map made h.behind in
    let us : List Stretch = first ++ lead ∷ [] in
    let are : blocks (rows xs) ≡ us ++ tree_block t ∷ last =
    blocks_are xs ∙ read_by_cases read (h.before ++ paragraph r rs ∷ h.behind) (rows_from 0 (full_lines xs)) h.are
    ∙ flat_map-append made h.before (paragraph r rs ∷ h.behind) ∙ sym (append_assoc first (lead ∷ []) (tree_block t ∷ last)) in
    let parts : stretches_parts (blocks (rows xs)) ≡ stretches_parts us ++ node t ∷ stretches_parts last = ap stretches_parts are ∙ parts_round us last t in
    record {
      before = children (stretches_parts us);
      behind = children (stretches_parts last);
      is = body_is xs (stretches_parts us ++ node t ∷ stretches_parts last) parts ∙ ap body_with (round_node t (stretches_parts us) (stretches_parts last));
    }
