use Rattle.std.proofs.Common.{◌≡◌, ap, ◌∙◌, Err, rules, subst, sym, arith}
use Rattle.std.specs.Prelude.{IfErr}
use Rattle.wt_tree.specs.View.{view}
use Rattle.wt_transclusion.specs.Answers.{IsRefused}
use Rattle.wt_transclusion.specs.Stops.{Stops}
use Rattle.wt_transclusion.specs.declared.refusal.ExpandRefusal.TheVariants as of_expansion
use Rattle.wt_edit.specs.Edits.{refusal_of_page}
use Rattle.wt_selser.specs.Borders.{page_text}
use Rattle.wt_slices.specs.Borders.{HasBorders}
use Rattle.wt_expand.proofs.Joins.{origins_join}
use Rattle.wt_edit.proofs.PagePlaces.{page_places}
use Rattle.wt_edit.proofs.Meanings.{page_few, page_small, tree_expanded}
use Rattle.wt_expand.specs.Expansion.{page_work}
use Rattle.wt_edit.proofs.AskedLaws.{stops_behind}
use Rattle.wt_edit.proofs.known.known_page.Goals as goal

pub annotated_of_items-requires-clause-numbers : goal.annotated_of_items-requires-clause-numbers
annotated_of_items-requires-clause-numbers g c =
    let s = c.in_ok-expanded.ensures.some in
    page_few s.0 c.args.page.now c.in_ok-expanded.expanded.items c.utf8.page c.requires.room s.2 s.1

pub annotated_of_items-requires-clause-bytes : goal.annotated_of_items-requires-clause-bytes
annotated_of_items-requires-clause-bytes g c =
    let s = c.in_ok-expanded.ensures.some in
    page_small s.0 c.args.page.now c.in_ok-expanded.expanded.items c.utf8.page c.requires.room s.2 s.1

pub returns-in_err-expanded-clause-refused : goal.returns-in_err-expanded-clause-refused
returns-in_err-expanded-clause-refused g c = λ pages met told free.
    let e : c.from_residual.result ≡ Err c.in_err-expanded.field-0.0 = search rules in
    subst (λ x. IfErr x (IsRefused (refusal_of_page pages c.args.page.now))) (sym e) (c.in_err-expanded.ensures.refused pages met told free)

pub returns-clause-tree : goal.returns-clause-tree
returns-clause-tree g c = λ pages met told free.
    tree_expanded pages c.args.page.now (view c.in_ok-annotated.annotated.tree.body) c.in_ok-expanded.expanded.items c.in_ok-annotated.ensures.tree
    (c.in_ok-expanded.ensures.items pages met told free)

pub returns-clause-places : goal.returns-clause-places
returns-clause-places g c =
    let s = c.in_ok-expanded.ensures.some in
    let page = c.args.page.now in
    let is = tree_expanded s.0 page (view c.in_ok-annotated.annotated.tree.body) c.in_ok-expanded.expanded.items c.in_ok-annotated.ensures.tree s.1 in
    subst (HasBorders page) (sym is) (page_places s.0 page c.utf8.page (omega (arith, c.requires.room)) s.2)

pub returns-clause-text : goal.returns-clause-text
returns-clause-text g c =
    let s = c.in_ok-expanded.ensures.some in
    ap page_text (c.in_ok-annotated.ensures.items ∙ s.1) ∙ origins_join s.0 c.args.page.now

pub returns-clause-items : goal.returns-clause-items
returns-clause-items g c = λ pages met told free.
    c.in_ok-annotated.ensures.items ∙ c.in_ok-expanded.ensures.items pages met told free

pub returns-clause-whole : goal.returns-clause-whole
returns-clause-whole g c = λ pages met told free. c.in_ok-expanded.ensures.whole pages met told free

pub returns-in_err-expanded-clause-stops : goal.returns-in_err-expanded-clause-stops
returns-in_err-expanded-clause-stops g c = λ pages met told free.
    let d = g.F.Folder in
    let page = c.args.page.now in
    let e : c.from_residual.result ≡ Err c.in_err-expanded.field-0.0 = search rules in
    subst (λ x. IfErr x (Stops pages page 0 met (page_work pages page) (d.answered c.args.folder.now) (d.answered c.expand_knowing.new.folder)))
    (sym e) (c.in_err-expanded.ensures.stops pages met told free)

pub returns-in_err-annotated-clause-stops : goal.returns-in_err-annotated-clause-stops
returns-in_err-annotated-clause-stops g c = λ pages met told free.
    let d = g.F.Folder in
    let page = c.args.page.now in
    let e : c.from_residual-in_err-annotated.result ≡ Err of_expansion.NoMemory = search rules in
    subst (λ x. IfErr x (Stops pages page 0 met (page_work pages page) (d.answered c.args.folder.now) (d.answered c.expand_knowing.new.folder)))
    (sym e)
    (stops_behind pages page met (d.answered c.args.folder.now) (d.answered c.expand_knowing.new.folder) c.in_ok-expanded.expanded.expansion
    (c.in_ok-expanded.ensures.whole pages met told free) (c.in_ok-expanded.ensures.named pages met told free))

pub returns-clause-named : goal.returns-clause-named
returns-clause-named g c = λ pages met told free. c.in_ok-expanded.ensures.named pages met told free
