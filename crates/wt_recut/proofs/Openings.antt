-- What sections hold, before what follows them.
use Rattle.std.proofs.Common.{◌≡◌, Bool, true, false, ◌∷◌, ◌++◌, refl, sym, ap, ◌∙◌, cond}
use Rattle.wt_tree.specs.Kinds.{is_section}
use Rattle.wt_tree.specs.Opened.{opened_before, all_opened_before, opened}
use Rattle.wt_recut.specs.Recutting.{appended}
use Rattle.wt_tree.specs.Tree.{Tree, tree, Trees, none, more, listed}
use Rattle.wt_recut.proofs.Recuts.{appended_assoc}

onto_by : (v : Bool) (t : Tree) (ts rest : Trees) → all_opened_before ts rest ≡ appended (all_opened_before ts none) rest
    → cond v (all_opened_before ts rest) (more t rest) ≡ appended (cond v (all_opened_before ts none) (more t none)) rest
onto_by true t ts rest h = h
onto_by false t ts rest h = refl

mutual
  pub opened_onto : (t : Tree) (rest : Trees) → opened_before t rest ≡ appended (opened_before t none) rest
  opened_onto (tree l ts) rest = onto_by (is_section l.kind) (tree l ts) ts rest (all_onto ts rest)

  pub all_onto : (ts rest : Trees) → all_opened_before ts rest ≡ appended (opened ts) rest
  all_onto none rest = refl
  all_onto (more t ts) rest =
      opened_onto t (all_opened_before ts rest)
      ∙ ap (appended (opened_before t none)) (all_onto ts rest)
      ∙ sym (appended_assoc (opened_before t none) (opened ts) rest)
      ∙ ap (λ us. appended us rest) (sym (opened_onto t (opened ts)))

pub listed_appended : (us vs : Trees) → listed (appended us vs) ≡ listed us ++ listed vs
listed_appended none vs = refl
listed_appended (more t us) vs = ap (λ ts. t ∷ ts) (listed_appended us vs)

-- one tree more
pub listed_opened : (t : Tree) (ts : Trees) → listed (opened (more t ts)) ≡ listed (opened_before t none) ++ listed (opened ts)
listed_opened t ts = ap listed (opened_onto t (opened ts)) ∙ listed_appended (opened_before t none) (opened ts)
