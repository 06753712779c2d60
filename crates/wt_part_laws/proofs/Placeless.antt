-- What a tree shows hangs on neither numbers nor places.
use Rattle.std.proofs.Common.{◌≡◌, Bool, true, false, refl, ap, ◌∙◌, cond}
use Rattle.wt_tree.specs.declared.kind.Showing.{Showing}
use Rattle.wt_tree.specs.declared.kind.Showing.TheVariants.{Characters, Inside, Nothing, Element}
use Rattle.wt_tree.specs.Kinds.{showing}
use Rattle.wt_tree.specs.Plain.{Plains, ended, along, element, face, shown_before, plain_before, plains_before}
use Rattle.wt_tree.specs.Tree.{Label, Tree, tree, Trees, none, more}
use Rattle.wt_part_laws.specs.Placeless.{placeless_label, placeless, all_placeless}

-- the same nodes by this test
pub either : (v : Bool) (us vs xs ys : Trees) → all_placeless us ≡ xs → all_placeless vs ≡ ys → all_placeless (cond v us vs) ≡ cond v xs ys
either true us vs xs ys e f = e
either false us vs xs ys e f = f

-- ---- what it shows

shown_by : (s : Showing) (l : Label) (f g : Plains → Plains) (rest : Plains) → ((ps : Plains) → f ps ≡ g ps)
    → shown_before s (placeless_label l) f rest ≡ shown_before s l g rest
shown_by Characters l f g rest h = refl
shown_by Inside l f g rest h = h rest
shown_by Nothing l f g rest h = refl
shown_by Element l f g rest h = ap (λ ps. along (element (face l) ps) rest) (h ended)

mutual
  pub shown_placeless : (t : Tree) (rest : Plains) → plain_before (placeless t) rest ≡ plain_before t rest
  shown_placeless (tree l ts) rest =
      shown_by (showing l.kind) l (λ ps. plains_before (all_placeless ts) ps) (λ ps. plains_before ts ps) rest (λ ps. all_shown_placeless ts ps)

  pub all_shown_placeless : (ts : Trees) (rest : Plains) → plains_before (all_placeless ts) rest ≡ plains_before ts rest
  all_shown_placeless none rest = refl
  all_shown_placeless (more t ts) rest =
      shown_placeless t (plains_before (all_placeless ts) rest) ∙ ap (plain_before t) (all_shown_placeless ts rest)
