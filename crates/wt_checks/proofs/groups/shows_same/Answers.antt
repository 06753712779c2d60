use Rattle.std.proofs.Common.{sym, ap, ◌∙◌, ◌≡◌, true, List}
use Rattle.wt_tree.specs.Tiling.{is_group}
use Rattle.wt_tree.specs.View.{views, attrs_of}
use Rattle.wt_tree.specs.declared.node.Attr.{Attr}
use Rattle.wt_tree.specs.declared.node.Node.{Node, out-Node}
use Rattle.wt_checks.specs.Alike.{same_attrs}
use Rattle.wt_checks.specs.Elements.{written_for, all_read, signs_in}
use Rattle.wt_checks.specs.Groups.{same_signs}
use Rattle.wt_checks.proofs.Shows.{shows_when}
use Rattle.wt_checks.proofs.groups.shows_same.Goals as goal

pub returns : goal.returns
returns c =
    let q = c.args.original.now in
    let u = c.args.node.now in
    let g : is_group (out-Node u).kind ≡ true = sym c.is_group.ensures ∙ c.if-not-is_group.false in
    let a : same_attrs (attrs_of (out-Node q).more.attrs) (attrs_of (out-Node u).more.attrs) ≡ true =
    ap (λ (xs : List Attr). same_attrs (attrs_of xs) (attrs_of (out-Node u).more.attrs)) (sym c.attrs.ensures)
    ∙ ap (λ (xs : List Attr). same_attrs (attrs_of c.attrs.result.now) (attrs_of xs)) (sym c.attrs-2.ensures)
    ∙ sym c.same_attrs.ensures ∙ c.if-not-same_attrs.false in
    c.in_ok-same.ensures
    ∙ ap (λ (ns : List Node). same_signs (signs_in (written_for (views ns))) (signs_in (all_read (views c.as_slice-2.result.now)))) c.as_slice.ensures
    ∙ ap (λ (ns : List Node). same_signs (signs_in (written_for (views (out-Node q).children))) (signs_in (all_read (views ns))))
    c.as_slice-2.ensures ∙ shows_when q u g a
