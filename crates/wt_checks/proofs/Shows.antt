-- What two groups show is the same where they are groups with the same attributes and elements.
use Rattle.std.proofs.Common.{◌≡◌, Bool, true, false, refl, sym, ◌∙◌}
use Rattle.std.specs.Prelude.{◌&&◌}
use Rattle.wt_tree.specs.Tiling.{is_group}
use Rattle.wt_tree.specs.View.{view, views, attrs_of}
use Rattle.wt_tree.specs.declared.node.Node.{Node, out-Node}
use Rattle.wt_tree.proofs.Views.{view_out}
use Rattle.wt_checks.specs.Alike.{same_attrs}
use Rattle.wt_checks.specs.Elements.{written_for, all_read, signs_in}
use Rattle.wt_checks.specs.Groups.{same_signs, shows_same}

abbrev pub elements_same : Node → Node → Bool
elements_same q u = same_signs (signs_in (written_for (views (out-Node q).children))) (signs_in (all_read (views (out-Node u).children)))

shows_out : (q u : Node) → shows_same (view q) (view u)
    ≡ (is_group (out-Node u).kind && (same_attrs (attrs_of (out-Node q).more.attrs) (attrs_of (out-Node u).more.attrs) && elements_same q u))
shows_out q u = rw (view_out q, view_out u)

both_true : (a b c : Bool) → a ≡ true → b ≡ true → (a && (b && c)) ≡ c
both_true true true c e f = refl
both_true true false c e f = absurd (cc)
both_true false b c e f = absurd (cc)

pub shows_when : (q u : Node) → is_group (out-Node u).kind ≡ true
    → same_attrs (attrs_of (out-Node q).more.attrs) (attrs_of (out-Node u).more.attrs) ≡ true → elements_same q u ≡ shows_same (view q) (view u)
shows_when q u g a = sym (shows_out q u ∙ both_true (is_group (out-Node u).kind)
    (same_attrs (attrs_of (out-Node q).more.attrs) (attrs_of (out-Node u).more.attrs)) (elements_same q u) g a)
