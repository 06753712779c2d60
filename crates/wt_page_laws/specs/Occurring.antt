-- All texts and all values of attributes that are in a tree of elements.
use Rattle.std.specs.Prelude.{ℕ, List, [], ◌∷◌, ◌++◌, map}
use Rattle.wt_html_grammar.specs.Markup.{Markup, Markups, text, node, empty, more}

abbrev mutual
  pub texts_of : Markup → List (List ℕ)
  texts_of (text bs) = bs ∷ []
  texts_of (node name ps c) = map (λ p. p.1) ps ++ texts_of_all c

  pub texts_of_all : Markups → List (List ℕ)
  texts_of_all empty = []
  texts_of_all (more t ts) = texts_of t ++ texts_of_all ts
