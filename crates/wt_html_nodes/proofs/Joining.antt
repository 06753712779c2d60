-- Texts of an element, joined one after another.
use Rattle.std.proofs.Common.{◌≡◌, ℕ, true, List, ◌++◌}
use Rattle.wt_html_grammar.specs.Markup.{Markups}
use Rattle.wt_schema.specs.Fit.{texts_in}
use Rattle.wt_html_nodes.specs.Texts.{are_utf8_markups}

-- some are joined, and the rest is still to come
pub record Joined (all : Markups) (done : List ℕ) (rest : Markups) : Type 0 where
  pub texts : done ++ texts_in rest ≡ texts_in all
  pub utf8 : are_utf8_markups rest ≡ true
