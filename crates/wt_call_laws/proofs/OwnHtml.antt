-- What `html` answers is unchanged.
use Rattle.std.proofs.Common.{◌≡◌, ℕ, List, [], Some, None, sym, subst}
use Rattle.wt_tree.specs.Tiling.{InPreorder}
use Rattle.wt_tree.specs.Tree.{Tree, label}
use Rattle.wt_tree.specs.declared.kind.Kind.TheVariants as kind
use Rattle.wt_difference.specs.Difference.{difference}
use Rattle.wt_difference.specs.Unedited.{IsUnedited}
use Rattle.wt_difference.proofs.UneditedLaws.{nothing_differs}
use Rattle.wt_expand.specs.Work.{Pages}
use Rattle.wt_page_round_trip.specs.PageTree.{page_tree}
use Rattle.wt_page_round_trip.proofs.PageTrees.{page_numbered}
use Rattle.wt_schema.specs.Written.{unranged}
use Rattle.wt_visible.specs.Restored.{restored_from}
use Rattle.wt_commands.specs.Answers.{done, html_answer}
use Rattle.wt_pagetool.specs.Selser.{IsUnchanged}
use Rattle.wt_commands.proofs.EditLaws.{restored_bare}
use Rattle.wt_commands.proofs.SectionEdits.{plain_page}
use Rattle.wt_pagetool.proofs.SelserUnchanged.{nodes_taken}
use Rattle.wt_commands.proofs.ShownLaws.{page_body, page_face, read_face, same_shown}
use Rattle.wt_commands.proofs.UnchangedLaws.{IsInSections, sections_shown, read_again}
use Rattle.wt_commands.proofs.UneditedRead.{unedited_read}

none_found : (t u : Tree) → IsInSections t u → (label t).kind ≡ kind.Body → InPreorder t → difference t (unranged u) ≡ []
none_found t u h b i =
    nothing_differs t (unranged u) b i h.bare h.one (subst (λ x. IsUnedited x (unranged u)) (sym h.opened) (unedited_read u h.written))

pub own_html : (pages : Pages) → (page bytes : List ℕ) → html_answer pages (Some page) ≡ done bytes → IsUnchanged pages page bytes
own_html pages page bytes e =
    let r = read_again pages page bytes e in
    let t : Tree = page_tree pages page in
    let u : Tree = plain_page pages page in
    record {
      edited = unranged u;
      unsourced = None;
      answered = record { text = r.text; unrefused = r.unrefused };
      within = r.few;
      reads = r.reads;
      allowed = nodes_taken t u r.held r.held.one.root;
      same = none_found t u r.held (page_body pages page) (page_numbered pages page);
      shows = same_shown t (restored_from t (unranged u)) (page_face pages page)
          (restored_bare t (unranged u) (read_face bytes (unranged u) None r.reads)) (sections_shown t u r.held);
    }
