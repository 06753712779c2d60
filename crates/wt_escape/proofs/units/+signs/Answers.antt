use Rattle.std.proofs.Common.{arith, refl, sym, ap, ◌∙◌, append-nil, List, ◌++◌, [], ◌∷◌}
use Rattle.std.specs.Prelude.{option_map}
use Rattle.std.proofs.lemmas.Grind.{common_steps}
use Rattle.wt_span.specs.Characters as byte
use Rattle.wt_tree.specs.declared.node.Node.{Node, out-Node}
use Rattle.wt_tree.specs.View.{label_of, view, views}
use Rattle.wt_tree.specs.declared.edit_shape.InlineForm.TheVariants as inline
use Rattle.wt_tree.specs.declared.edit_shape.EditShape.{EditShape}
use Rattle.wt_tree.specs.EditShapes.{edit_shape}
use Rattle.wt_guards.specs.declared.role.Role.TheVariants as role
use Rattle.wt_original.specs.Gathered.{kept_view}
use Rattle.wt_link_spelling.specs.Spelling.{unless_kept, new_thing, style, anew_by, signs_of_all}
use Rattle.wt_original.specs.PageViews.{page_view}
use Rattle.wt_guards.specs.Views.{all_signs}
use Rattle.wt_guards.specs.Content.{letters}
use Rattle.wt_original.specs.Kept.{shown}
use Rattle.wt_tree.proofs.Views.{view_out}
use Rattle.wt_escape.proofs.Signing.{signs_pushed, anew_pushed, none_anew, kept_or_anew, same_form, same_quiet, unless_seen, signs_views, leaves_done, leaves_then}
use Rattle.wt_escape.proofs.units.+signs.Goals as goal

pub push_signs-returns-in-Nothing : goal.push_signs-returns-in-Nothing
push_signs-returns-in-Nothing t c = λ same tells.
    let n = c.args.node.now in
    let p = page_view same c.args.page.now in
    let k = option_map kept_view c.find-kept.result in
    signs_pushed n inline.Nothing p c.args.place k (all_signs c.args.out.now.items) (all_signs c.args.out.now.items) []
    (ap (λ (r : EditShape). r.inline) (sym c.edit_shape.ensures) ∙ c.in-Nothing.is) c.find-kept.ensures refl (sym (append-nil (all_signs c.args.out.now.items)))

pub push_signs-returns-in_ok-push_style-in-Bold : goal.push_signs-returns-in_ok-push_style-in-Bold
push_signs-returns-in_ok-push_style-in-Bold t c = λ same tells.
    let n = c.args.node.now in
    let p = page_view same c.args.page.now in
    let pl = c.args.place in
    let k = option_map kept_view c.find-kept.result in
    let old = all_signs c.args.out.now.items in
    let sign = byte.apostrophe ∷ byte.apostrophe ∷ byte.apostrophe ∷ [] in
    signs_pushed n inline.Bold p pl k old (all_signs c.push_style.new.out.items)
    (style sign k (signs_of_all p pl (views (out-Node n).children)))
    (ap (λ (r : EditShape). r.inline) (sym c.edit_shape.ensures) ∙ c.in-Bold.is) c.find-kept.ensures refl
    (c.in_ok-push_style-in-Bold.ensures ∙ ap (λ s. old ++ style sign k s)
    (c.in_ok-inside-in-Bold.ensures same tells ∙ ap (λ (ns : List Node). signs_of_all p pl (views ns)) c.as_slice.ensures))

pub push_signs-returns-in_ok-push_style-in-Italic : goal.push_signs-returns-in_ok-push_style-in-Italic
push_signs-returns-in_ok-push_style-in-Italic t c = λ same tells.
    let n = c.args.node.now in
    let p = page_view same c.args.page.now in
    let pl = c.args.place in
    let k = option_map kept_view c.find-kept.result in
    let old = all_signs c.args.out.now.items in
    let sign = byte.apostrophe ∷ byte.apostrophe ∷ [] in
    signs_pushed n inline.Italic p pl k old (all_signs c.push_style-in-Italic.new.out.items)
    (style sign k (signs_of_all p pl (views (out-Node n).children)))
    (ap (λ (r : EditShape). r.inline) (sym c.edit_shape.ensures) ∙ c.in-Italic.is) c.find-kept.ensures refl
    (c.in_ok-push_style-in-Italic.ensures ∙ ap (λ s. old ++ style sign k s)
    (c.in_ok-inside-in-Italic.ensures same tells ∙ ap (λ (ns : List Node). signs_of_all p pl (views ns)) c.as_slice-in-Italic.ensures))

pub push_signs-returns-in_ok-push_unless_unchanged-in-Shown : goal.push_signs-returns-in_ok-push_unless_unchanged-in-Shown
push_signs-returns-in_ok-push_unless_unchanged-in-Shown t c = λ same tells.
    let n = c.args.node.now in
    let p = page_view same c.args.page.now in
    let pl = c.args.place in
    let k = option_map kept_view c.find-kept.result in
    let l = label_of (out-Node n) in
    let ts = views (out-Node n).children in
    let v = (edit_shape (out-Node n).kind).inline in
    let inside = signs_of_all p pl ts in
    let row = ap (λ (r : EditShape). r.inline) (sym c.edit_shape.ensures) in
    signs_pushed n v p pl k (all_signs c.args.out.now.items) (all_signs c.push_unless_unchanged.new.out.items)
    (unless_kept p k (view n) (anew_by v p pl k l ts inside)) refl c.find-kept.ensures
    (kept_or_anew v p pl k l ts inside (same_form row c.in-Shown.is) ∙ sym (unless_seen n p k _))
    (c.in_ok-push_unless_unchanged-in-Shown.ensures same tells)

pub push_anew-returns-in_ok-push_new-in-PageLink : goal.push_anew-returns-in_ok-push_new-in-PageLink
push_anew-returns-in_ok-push_new-in-PageLink t c = λ same tells.
    let n = c.args.node.now in
    let p = page_view same c.args.page.now in
    let pl = c.args.place in
    let k = option_map kept_view c.args.kept in
    let l = label_of (out-Node n) in
    let ts = views (out-Node n).children in
    let v = (edit_shape (out-Node n).kind).inline in
    let inside = signs_of_all p pl ts in
    let old = all_signs c.args.out.now.items in
    anew_pushed v inline.PageLink p pl k l ts inside old (all_signs c.push_new.new.out.items)
    (ap (λ (r : EditShape). r.inline) (sym c.edit_shape.ensures) ∙ c.in-PageLink.is)
    (c.in_ok-push_new-in-PageLink.ensures ∙ ap (λ s. old ++ new_thing role.Link s k) (c.in_ok-source-in-PageLink.ensures same tells))

pub push_anew-returns-in_ok-push_new-in-ExternalLink : goal.push_anew-returns-in_ok-push_new-in-ExternalLink
push_anew-returns-in_ok-push_new-in-ExternalLink t c = λ same tells.
    let n = c.args.node.now in
    let p = page_view same c.args.page.now in
    let pl = c.args.place in
    let k = option_map kept_view c.args.kept in
    let l = label_of (out-Node n) in
    let ts = views (out-Node n).children in
    let v = (edit_shape (out-Node n).kind).inline in
    let inside = signs_of_all p pl ts in
    let old = all_signs c.args.out.now.items in
    anew_pushed v inline.ExternalLink p pl k l ts inside old (all_signs c.push_new-in-ExternalLink.new.out.items)
    (ap (λ (r : EditShape). r.inline) (sym c.edit_shape.ensures) ∙ c.in-ExternalLink.is)
    (c.in_ok-push_new-in-ExternalLink.ensures ∙ ap (λ s. old ++ new_thing role.External s k) (c.in_ok-source-in-ExternalLink.ensures same tells))

pub push_anew-returns-in_ok-push_new-in-Tag : goal.push_anew-returns-in_ok-push_new-in-Tag
push_anew-returns-in_ok-push_new-in-Tag t c = λ same tells.
    let n = c.args.node.now in
    let p = page_view same c.args.page.now in
    let pl = c.args.place in
    let k = option_map kept_view c.args.kept in
    let l = label_of (out-Node n) in
    let ts = views (out-Node n).children in
    let v = (edit_shape (out-Node n).kind).inline in
    let inside = signs_of_all p pl ts in
    let old = all_signs c.args.out.now.items in
    anew_pushed v inline.Tag p pl k l ts inside old (all_signs c.push_new-in-Tag.new.out.items)
    (ap (λ (r : EditShape). r.inline) (sym c.edit_shape.ensures) ∙ c.in-Tag.is)
    (c.in_ok-push_new-in-Tag.ensures ∙ ap (λ s. old ++ new_thing role.Node s k) (c.in_ok-source-in-Tag.ensures same tells))

pub push_anew-returns-in_ok-push_new-in-Break : goal.push_anew-returns-in_ok-push_new-in-Break
push_anew-returns-in_ok-push_new-in-Break t c = λ same tells.
    let n = c.args.node.now in
    let p = page_view same c.args.page.now in
    let pl = c.args.place in
    let k = option_map kept_view c.args.kept in
    let l = label_of (out-Node n) in
    let ts = views (out-Node n).children in
    let v = (edit_shape (out-Node n).kind).inline in
    let inside = signs_of_all p pl ts in
    let old = all_signs c.args.out.now.items in
    anew_pushed v inline.Break p pl k l ts inside old (all_signs c.push_new-in-Break.new.out.items)
    (ap (λ (r : EditShape). r.inline) (sym c.edit_shape.ensures) ∙ c.in-Break.is)
    (c.in_ok-push_new-in-Break.ensures ∙ ap (λ s. old ++ new_thing role.Node s k) c.in_ok-source-in-Break.ensures)

pub push_anew-returns-in_ok-push_shown-in-Shown : goal.push_anew-returns-in_ok-push_shown-in-Shown
push_anew-returns-in_ok-push_shown-in-Shown t c = λ same tells.
    let n = c.args.node.now in
    let p = page_view same c.args.page.now in
    let pl = c.args.place in
    let k = option_map kept_view c.args.kept in
    let l = label_of (out-Node n) in
    let ts = views (out-Node n).children in
    let v = (edit_shape (out-Node n).kind).inline in
    let old = all_signs c.args.out.now.items in
    anew_pushed v inline.Shown p pl k l ts (signs_of_all p pl ts) old (all_signs c.push_shown.new.out.items)
    (ap (λ (r : EditShape). r.inline) (sym c.edit_shape.ensures) ∙ c.in-Shown.is)
    (c.in_ok-push_shown-in-Shown.ensures ∙ ap (λ u. old ++ letters (shown u)) (view_out n))

pub push_anew-returns-in-Nothing : goal.push_anew-returns-in-Nothing
push_anew-returns-in-Nothing t c = λ same tells.
    let n = c.args.node.now in
    let p = page_view same c.args.page.now in
    let pl = c.args.place in
    let k = option_map kept_view c.args.kept in
    let l = label_of (out-Node n) in
    let ts = views (out-Node n).children in
    let v = (edit_shape (out-Node n).kind).inline in
    none_anew v p pl k l ts (signs_of_all p pl ts) (all_signs c.args.out.now.items)
    (same_quiet (ap (λ (r : EditShape). r.inline) (sym c.edit_shape.ensures)) c.in-Nothing.is)

pub push_unless_unchanged-returns-then-done : goal.push_unless_unchanged-returns-then-done
push_unless_unchanged-returns-then-done t c = λ same tells.
    let n = c.args.node.now in
    let p = page_view same c.args.page.now in
    let k = option_map kept_view c.args.kept in
    let ts = views (out-Node n).children in
    leaves_done c.in_ok-done.done (all_signs c.args.out.now.items) (all_signs c.push_if_unchanged.new.out.items) (unless_kept p k (view n))
    (anew_by (edit_shape (out-Node n).kind).inline p c.args.place k (label_of (out-Node n)) ts (signs_of_all p c.args.place ts))
    c.if-done.true (c.in_ok-done.ensures same tells)

pub push_unless_unchanged-returns : goal.push_unless_unchanged-returns
push_unless_unchanged-returns t c = λ same tells.
    let n = c.args.node.now in
    let p = page_view same c.args.page.now in
    let k = option_map kept_view c.args.kept in
    let ts = views (out-Node n).children in
    leaves_then c.in_ok-done.done (all_signs c.args.out.now.items) (all_signs c.push_if_unchanged.new.out.items) (all_signs c.push_anew.new.out.items)
    (unless_kept p k (view n)) (anew_by (edit_shape (out-Node n).kind).inline p c.args.place k (label_of (out-Node n)) ts (signs_of_all p c.args.place ts))
    c.if-done.false (c.in_ok-done.ensures same tells) (c.in_ok-push_anew.ensures same tells)

pub units_of-loop-node-preserved : goal.units_of-loop-node-preserved
units_of-loop-node-preserved t c = λ same tells. grind (arith, common_steps, c.loop-node.invariant same tells, c.in_ok-push_signs.ensures same tells)

pub units_of-returns : goal.units_of-returns
units_of-returns t c = λ same tells.
    rw (signs_views (page_view same c.args.page.now) c.args.place c.args.nodes.now) (grind (arith, common_steps, c.loop-node.invariant same tells))
