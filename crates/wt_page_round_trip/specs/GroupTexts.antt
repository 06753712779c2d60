-- What makes the labels of groups such as are written: calls and characters of a page in UTF-8, and trees that are cut between
-- characters.
use Rattle.std.specs.Prelude.{◌≡◌, ℕ, ◌<◌, ◌^◌, ◌++◌, true, false, Some, None, List, [], ◌∷◌, length, IsUtf8}
use Rattle.std.specs.List.{AllByRecursion}
use Rattle.wt_tree.specs.Tiling.{is_group}
use Rattle.wt_tree.specs.Tree.{Tree, label}
use Rattle.wt_span.specs.Items.{Item, char, whole}
use Rattle.wt_span.specs.Origins.{OuterCall, IsSoundCall}
use Rattle.wt_schema.specs.Written.{IsUtf8IfAny, IsGroupLabel}
use Rattle.wt_inline.specs.ItemTree.{ItemTree, inner, ItemTrees, nothing, further}

-- An outermost call of a page in UTF-8: sound, with a source that isn't empty, and with fewer parts than there are numbers.
pub record IsPageCall (c : OuterCall) : Type 0 where
  pub sound : IsSoundCall c
  pub some : 0 < length c.source
  pub source : IsUtf8 c.source
  pub link : IsUtf8IfAny c.href
  pub few : length c.parts < 2 ^ 64

abbrev pub ArePageCalls : List OuterCall → Type 0
ArePageCalls cs = AllByRecursion IsPageCall cs

-- These bytes, and then the page's own characters up to the next form or the next call, are UTF-8; so are those between any two of
-- these, and the page's own forms.
abbrev pub AreOwnTexts : List ℕ → List Item → Type 0
AreOwnTexts run [] = IsUtf8 run
AreOwnTexts run (char None b ∷ xs) = AreOwnTexts (run ++ b ∷ []) xs
AreOwnTexts run (char (Some k) b ∷ xs) = IsUtf8 run × AreOwnTexts [] xs
AreOwnTexts run (whole f None bs ∷ xs) = IsUtf8 run × IsUtf8 bs × AreOwnTexts [] xs
AreOwnTexts run (whole f (Some k) bs ∷ xs) = IsUtf8 run × AreOwnTexts [] xs

-- No node is of the kind of groups, and each is cut between characters: those of the page itself are UTF-8 in each delimiter.
abbrev mutual
  pub HoldsTexts : ItemTree → Type 0
  HoldsTexts (inner h opening ts closing) = (is_group h.kind ≡ false) × AreOwnTexts [] opening × AllHoldTexts ts × AreOwnTexts [] closing

  pub AllHoldTexts : ItemTrees → Type 0
  AllHoldTexts nothing = Unit {0}
  AllHoldTexts (further t ts) = HoldsTexts t × AllHoldTexts ts

-- where a node is a group its label is written
abbrev pub HasGroupLabel : Tree → Type 0
HasGroupLabel t = is_group (label t).kind ≡ true → IsGroupLabel (label t)
