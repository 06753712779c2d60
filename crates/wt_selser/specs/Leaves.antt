-- What a leaf holds has no number: what it holds is of its own source, and no part of the page by itself. Outside leaves the root is the only body,
-- and no section is in it.
use Rattle.std.specs.Prelude.{◌≡◌, true, false}
use Rattle.std.specs.List.{AllByRecursion}
use Rattle.wt_tree.specs.Kinds.{is_leaf}
use Rattle.wt_tree.specs.Tiling.{ids_of_all}
use Rattle.wt_tree.specs.Tree.{Tree, tree, Trees, none, more, label}
use Rattle.wt_checks.specs.PutBack.{is_frame}

abbrev mutual
  pub LeavesHoldNoNumber : Tree → Type 0
  LeavesHoldNoNumber (tree l ts) = (is_leaf l.kind ≡ true → AllByRecursion (λ n. n ≡ 0) (ids_of_all ts)) × AllLeavesHoldNoNumber ts

  pub AllLeavesHoldNoNumber : Trees → Type 0
  AllLeavesHoldNoNumber none = Unit {0}
  AllLeavesHoldNoNumber (more t ts) = LeavesHoldNoNumber t × AllLeavesHoldNoNumber ts

-- no body and no section is below the root, leaves aside
abbrev mutual
  pub HoldsNoFrame : Tree → Type 0
  HoldsNoFrame (tree l ts) = is_leaf l.kind ≡ false → NoneIsFrame ts

  pub NoneIsFrame : Trees → Type 0
  NoneIsFrame none = Unit {0}
  NoneIsFrame (more t ts) = (is_frame (label t).kind ≡ false) × HoldsNoFrame t × NoneIsFrame ts
