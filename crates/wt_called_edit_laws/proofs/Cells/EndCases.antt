-- A worked case by computing: a paragraph on the line of a table's end, which begins with a blank, so that its line by itself would be preformatted text.
use Rattle.std.proofs.Common.{arith, ◌≡◌, inr, None, List, [], refl}
use Rattle.std.specs.Prelude.{codes}
use Rattle.std.proofs.lemmas.List.Elements.{All-nil}
use Rattle.wt_span.specs.Items.{Item, char}
use Rattle.wt_lines.specs.declared.kind.LineKind.TheVariants as line
use Rattle.wt_lines.specs.Kinds.{kind_of_signs, line_kind}
use Rattle.wt_text_edit_laws.specs.LonePages.{page_chars}
use Rattle.wt_text_edit_laws.specs.TextBlocks.{a_paragraph}
use Rattle.wt_called_edit_laws.specs.AnyBlocks.{LeadsInto}
use Rattle.wt_called_edit_laws.specs.StaysIn.{StaysIn}
use Rattle.wt_called_edit_laws.specs.TableEnds.{IsTableEnd}

abbrev front : List Item
front = page_chars (codes "{|\n|a\n\t|}")

table_end : IsTableEnd 0 front
unfolding kind_of_signs
table_end = record {
  front = page_chars (codes "{|\n|a\n");
  last = page_chars (codes "\t|}");
  is = refl;
  whole = refl;
  end = record {
    lead = page_chars (codes "\t");
    bar = char None 124;
    brace = char None 125;
    is = refl;
    idle = (refl, refl, tt);
    is_bar = refl;
    bar_goes = refl;
    is_brace = refl;
    brace_goes = refl;
  };
  tables = omega arith;
}

leads : LeadsInto a_paragraph [] front
unfolding kind_of_signs
leads = record { whole = inr table_end; in_cells = tt; apart = refl }

stays : StaysIn a_paragraph [] front (page_chars (codes " b"))
unfolding kind_of_signs
stays = inr (table_end, All-nil (λ l. line_kind 0 l ≡ line.Text))

alone : line_kind 0 (page_chars (codes " b")) ≡ line.Pre
unfolding kind_of_signs
alone = refl
