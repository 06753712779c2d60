-- Marks count for nothing in what is shown.
use Rattle.std.proofs.Common.{◌≡◌, ℕ, Bool, true, false, refl, sym, ap, ◌∙◌}
use Rattle.std.specs.Prelude.{◌==◌, Option, Some, None, if◌then◌else◌}
use Rattle.wt_tree.specs.declared.kind.Showing.{Showing}
use Rattle.wt_tree.specs.declared.kind.Showing.TheVariants.{Characters, Inside, Nothing, Element}
use Rattle.wt_tree.specs.Kinds.{showing}
use Rattle.wt_tree.specs.Plain.{Plains, ended, along, element, face, shown_before, plain_before, plains_before}
use Rattle.wt_tree.specs.Tiling.{is_group}
use Rattle.wt_tree.specs.Tree.{Label, Tree, tree, Trees, none, more}
use Rattle.wt_checks.specs.Places.{Place, Page, page_of}
use Rattle.wt_checks.specs.WithoutMarks.{mark_off, unmarked, all_unmarked}
use Rattle.wt_visible.specs.Children.{listed, shown_children}
use Rattle.wt_visible.specs.Restored.{held_there, held_by, restored, all_restored, restored_from}

-- ---- a tree

shown_off : (s : Showing) (l : Label) (f g : Plains → Plains) (rest : Plains) → ((ps : Plains) → f ps ≡ g ps)
    → shown_before s (mark_off l) f rest ≡ shown_before s l g rest
shown_off Characters l f g rest h = refl
shown_off Inside l f g rest h = h rest
shown_off Nothing l f g rest h = refl
shown_off Element l f g rest h = ap (λ qs. along (element (face l) qs) rest) (h ended)

mutual
  plain_off : (t : Tree) (rest : Plains) → plain_before (unmarked t) rest ≡ plain_before t rest
  plain_off (tree l ts) rest =
      shown_off (showing l.kind) l (λ ps. plains_before (all_unmarked ts) ps) (λ ps. plains_before ts ps) rest (λ ps. plains_off ts ps)

  plains_off : (ts : Trees) (rest : Plains) → plains_before (all_unmarked ts) rest ≡ plains_before ts rest
  plains_off none rest = refl
  plains_off (more t ts) rest = ap (plain_before (unmarked t)) (plains_off ts rest) ∙ plain_off t (plains_before ts rest)

-- ---- with the page's groups

there_off : (o : Option Place) (ts : Trees) (rest : Plains) → plains_before (held_there o (all_unmarked ts)) rest ≡ plains_before (held_there o ts) rest
there_off None ts rest = plains_off ts rest
there_off (Some p) ts rest = refl

group_off : (z : Bool) (o : Option Place) (ts : Trees) (rest : Plains)
    → plains_before (if z then all_unmarked ts else held_there o (all_unmarked ts)) rest ≡ plains_before (if z then ts else held_there o ts) rest
group_off true o ts rest = plains_off ts rest
group_off false o ts rest = there_off o ts rest

held_off : (page : Page) (group : Bool) (n : ℕ) (ts us vs : Trees) (rest : Plains) → plains_before us rest ≡ plains_before vs rest
    → plains_before (held_by page group n (all_unmarked ts) us) rest ≡ plains_before (held_by page group n ts vs) rest
held_off page true n ts us vs rest h = group_off (n == 0) (page n) ts rest
held_off page false n ts us vs rest h = h

mutual
  restored_off : (page : Page) (t : Tree) (rest : Plains) → plain_before (restored page (unmarked t)) rest ≡ plain_before (restored page t) rest
  restored_off page (tree l ts) rest =
      shown_off (showing l.kind) l (λ ps. plains_before (held_by page (is_group l.kind) l.id (all_unmarked ts) (all_restored page (all_unmarked ts))) ps)
      (λ ps. plains_before (held_by page (is_group l.kind) l.id ts (all_restored page ts)) ps) rest
      (λ ps. held_off page (is_group l.kind) l.id ts (all_restored page (all_unmarked ts)) (all_restored page ts) ps (all_restored_off page ts ps))

  all_restored_off : (page : Page) (ts : Trees) (rest : Plains)
      → plains_before (all_restored page (all_unmarked ts)) rest ≡ plains_before (all_restored page ts) rest
  all_restored_off page none rest = refl
  all_restored_off page (more t ts) rest =
      ap (plain_before (restored page (unmarked t))) (all_restored_off page ts rest)
      ∙ restored_off page t (plains_before (all_restored page ts) rest)

children_off : (page : Page) (t : Tree) → shown_children (restored page (unmarked t)) ≡ shown_children (restored page t)
children_off page (tree l ts) =
    ap listed (held_off page (is_group l.kind) l.id ts (all_restored page (all_unmarked ts)) (all_restored page ts) ended (all_restored_off page ts ended))

pub marks_unseen : (page edited : Tree) → shown_children (restored_from page edited) ≡ shown_children (restored_from page (unmarked edited))
marks_unseen page edited = sym (children_off (page_of page) edited)
