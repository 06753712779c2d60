-- How the source of a node is read behind a line break.
use Rattle.std.proofs.Common.{◌≡◌, ℕ, true, false, None, List, [], ◌∷◌, ◌++◌, drop, refl, sym, ap, ◌∙◌, append-nil}
use Rattle.wt_span.specs.declared.form.Mode.TheVariants.{Page}
use Rattle.wt_span.specs.Items.{Item, char, sources}
use Rattle.wt_expand.specs.PageItems.{page_items}
use Rattle.wt_expand.proofs.PageLaws.{page_sources}
use Rattle.wt_typed_blocks.proofs.Forms.{other_byte}
use Rattle.wt_text_edit_laws.proofs.Between.Fronts.{ReadsAfter, reads_after, reads_either, alone_reads, first_items, items_from, first_from, byte_from}
use Rattle.wt_text_edit_laws.proofs.Prose.InFront.{reads_nothing}
use Rattle.wt_text_edit_laws.proofs.Prose.Uncommented.{BeginsUncommented}
use Rattle.wt_beside_laws.specs.NodeItems.{node_items}
use Rattle.wt_beside_laws.proofs.Firm.{ReadsAs}

behind_first : (q : List ℕ) → page_items (10 ∷ q) ≡ char None 10 ∷ items_from true 0 q
behind_first q = first_items (10 ∷ q) ∙ sym (first_from false (10 ∷ q)) ∙ byte_from false 10 q (other_byte Page 10 q refl)

pub are_from : (q : List ℕ) → node_items q ≡ items_from true 0 q
unfolding node_items
are_from q = ap (drop 1) (behind_first q)

pub behind_break : (q : List ℕ) → page_items (10 ∷ q) ≡ char None 10 ∷ node_items q
behind_break q = behind_first q ∙ ap (λ xs. char None 10 ∷ xs) (sym (are_from q))

pub node_read : (q : List ℕ) (own : List Item) → ReadsAfter true q own → node_items q ≡ own
node_read q own r = are_from q ∙ first_from true q ∙ r.items

pub node_as : (q : List ℕ) (own : List Item) → ReadsAs q own → node_items q ≡ own
node_as q own f =
    let r : ReadsAfter true (q ++ []) (own ++ []) = reads_after true (q ++ []) (own ++ []) (f [] [] reads_nothing) in
    ap node_items (sym (append-nil q)) ∙ node_read (q ++ []) (own ++ []) r ∙ append-nil own

-- where no comment begins it
pub node_same : (q : List ℕ) → BeginsUncommented q → node_items q ≡ page_items q
node_same q u = node_read q (page_items q) (reads_after true q (page_items q) (reads_either q (page_items q) u (alone_reads q)))

pub node_sources : (q : List ℕ) → sources (node_items q) ≡ q
node_sources q =
    let all : sources (char None 10 ∷ node_items q) ≡ 10 ∷ q = ap sources (sym (behind_break q)) ∙ page_sources (10 ∷ q) in ap (drop 1) all
