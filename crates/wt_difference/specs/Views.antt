-- What the code finds, as the definitions speak of it.
use Rattle.std.specs.Prelude.{List, map}
use Rattle.wt_tree.specs.Tree.{Trees, trees}
use Rattle.wt_tree.specs.View.{view, label_of}
use Rattle.wt_tree.specs.declared.node.Node.{out-Node}
use Rattle.wt_difference.specs.declared.insides.Child.{Child}
use Rattle.wt_difference.specs.declared.tokens.Token.{Token as Seen}
use Rattle.wt_difference.specs.declared.tokens.Token.TheVariants as seen
use Rattle.wt_difference.specs.Tokens.{Token, characters, opens, closes}

abbrev pub token_view : Seen → Token
token_view (seen.Characters text) = characters text.now
token_view (seen.Opens n) = opens (label_of (out-Node n.now))
token_view seen.Closes = closes

abbrev pub tokens_view : List Seen → List Token
tokens_view ts = map token_view ts

abbrev pub child_views : List Child → Trees
child_views cs = trees (map (λ c. view c.node.now) cs)
