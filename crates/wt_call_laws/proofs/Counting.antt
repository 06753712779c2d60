-- What `gen` counts.
use Rattle.std.proofs.Common.{◌≡◌, ℕ, suc, List, [], ◌∷◌, ◌++◌, map, refl, ap, ◌∙◌}
use Rattle.std.specs.Prelude.{◌==◌, if◌then◌else◌}
use Rattle.std.proofs.lemmas.List.{map-append}
use Rattle.wt_tree.specs.Look.{rows}
use Rattle.wt_tree.specs.Tiling.{ids, ids_of_all}
use Rattle.wt_tree.specs.Tree.{Tree, tree, Trees, none, more, label, subtrees, subtrees_of_all}
use Rattle.wt_commands.specs.Gen.{Row, number_count}
use Rattle.wt_call_laws.specs.Uses.{others_than_zero}

abbrev number : Row → ℕ
number r = r.0

abbrev id : Tree → ℕ
id t = (label t).id

mutual
  ids_are : (t : Tree) → map id (subtrees t) ≡ ids t
  ids_are (tree l ts) = ap (λ (ns : List ℕ). l.id ∷ ns) (all_ids_are ts)

  all_ids_are : (ts : Trees) → map id (subtrees_of_all ts) ≡ ids_of_all ts
  all_ids_are none = refl
  all_ids_are (more t ts) = map-append id (subtrees t) (subtrees_of_all ts) ∙ ap (λ (ns : List ℕ). ns ++ map id (subtrees_of_all ts)) (ids_are t)
      ∙ ap (λ (ns : List ℕ). ids t ++ ns) (all_ids_are ts)

counted : (us : List Tree) → number_count (map (λ u. ((label u).id, (label u).kind, (label u).ranges)) us) ≡ others_than_zero (map id us)
counted [] = refl
counted (u ∷ us) = ap (λ (n : ℕ). if (label u).id == 0 then n else suc n) (counted us)

pub counted_numbers : (t : Tree) → number_count (rows t) ≡ others_than_zero (ids t)
counted_numbers t = counted (subtrees t) ∙ ap others_than_zero (ids_are t)
