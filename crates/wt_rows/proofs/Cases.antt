-- Worked cases, each by computing.
use Rattle.std.proofs.Common.{◌≡◌, ℕ, None, List, [], ◌∷◌, length, map, refl}
use Rattle.std.specs.Prelude.{codes}
use Rattle.wt_span.specs.Items.{Item, char}
use Rattle.wt_lines.specs.declared.kind.LineKind.{LineKind}
use Rattle.wt_lines.specs.declared.kind.LineKind.TheVariants as line
use Rattle.wt_lines.specs.Kinds.{kind_of_signs}
use Rattle.wt_page.specs.Rows.{rows, kind_of, first_lead, last_ending}
use Rattle.wt_page.specs.Lists.{prefix_of, item_opening_len}

-- the items of a page of these bytes
page : List ℕ → List Item
page bs = map (char None) bs

page_kinds : List ℕ → List LineKind
page_kinds bs = map kind_of (rows (page bs))

-- a rule with something behind it makes two rows, with blanks behind it one
rule_and_text : page_kinds (codes "----x") ≡ line.Rule ∷ line.Text ∷ []
unfolding page page_kinds rows kind_of_signs
rule_and_text = refl

rule_and_blanks : page_kinds (codes "---- \n") ≡ line.Rule ∷ []
unfolding page page_kinds rows kind_of_signs
rule_and_blanks = refl

-- so does the end of a table; a table that no line ends is ended behind the last line
end_and_text : page_kinds (codes "{|\n|}x") ≡ line.TableOpen ∷ line.TableEnd ∷ line.Text ∷ []
unfolding page page_kinds rows kind_of_signs
end_and_text = refl

unended : page_kinds (codes "{|\n{|") ≡ line.TableOpen ∷ line.TableOpen ∷ line.TableEnd ∷ line.TableEnd ∷ []
unfolding page page_kinds rows kind_of_signs
unended = refl

-- blanks stand before the sign of a table, but begin preformatted text
blanks_before_table : length (first_lead (rows (page (codes "  {|")))) ≡ 2
unfolding page rows kind_of_signs
blanks_before_table = refl

no_blanks_before_text : length (first_lead (rows (page (codes "  a")))) ≡ 0
unfolding page rows kind_of_signs
no_blanks_before_text = refl

-- blanks behind a rule lie outside it
behind_rule : length (last_ending (rows (page (codes "---- \n")))) ≡ 2
unfolding page rows kind_of_signs
behind_rule = refl

-- the prefix of a line, and the open delimiter with the blanks behind it
prefix : prefix_of (page (codes "*#; a")) ≡ codes "*#;"
unfolding page
prefix = refl

item_opening : item_opening_len (page (codes "*#;  a")) ≡ 5
unfolding page
item_opening = refl
