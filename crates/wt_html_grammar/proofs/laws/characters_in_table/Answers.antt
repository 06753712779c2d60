use Rattle.wt_html_grammar.proofs.Chars.{of_bytes, of_char}
use Rattle.wt_html_grammar.proofs.laws.characters_in_table.Goals as goal

pub returns : goal.returns
returns c = record { sound = of_bytes; whole = of_char }
