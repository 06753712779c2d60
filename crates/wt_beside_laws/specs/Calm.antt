-- Nodes that stay and bring no calls.
use Rattle.std.specs.Prelude.{ℕ, List, [], ◌∷◌}
use Rattle.std.specs.Str.{IsUtf8}
use Rattle.wt_guards.specs.Content.{ContentSign, letter, thing}
use Rattle.wt_text_edit_laws.specs.NoCalls.{AreUnpaired}
use Rattle.wt_beside_laws.specs.NodeItems.{node_items}

-- no two braces are side by side in it; what is in a lexeme doesn't count
pub record IsCalm (source : List ℕ) : Type 0 where
  pub utf8 : IsUtf8 source
  pub unpaired : AreUnpaired (node_items source)

-- so each node's source
abbrev pub AreCalm : List ContentSign → Type 0
AreCalm [] = Unit {0}
AreCalm (letter c ∷ after) = AreCalm after
AreCalm (thing t ∷ after) = IsCalm t.source × AreCalm after

-- the source of each node is UTF-8
abbrev pub AreUtf8Nodes : List ContentSign → Type 0
AreUtf8Nodes [] = Unit {0}
AreUtf8Nodes (letter c ∷ after) = AreUtf8Nodes after
AreUtf8Nodes (thing t ∷ after) = IsUtf8 t.source × AreUtf8Nodes after
