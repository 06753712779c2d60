-- The answer to such an edit: the page with the slices of these steps, unless that is longer than a page may be.
use Rattle.std.proofs.Common.{◌≡◌, ℕ, false, List, [], ◌∷◌, ◌++◌, refl, ap, ◌∙◌}
use Rattle.std.specs.Prelude.{Option, None, option_map}
use Rattle.std.specs.List.{flat_map}
use Rattle.wt_span.specs.Origins.{Expanded}
use Rattle.wt_tree.specs.Opened.{without_sections}
use Rattle.wt_tree.specs.Tiling.{InPreorder}
use Rattle.wt_tree.specs.Tree.{Label, Tree, Trees}
use Rattle.wt_checks.specs.declared.refusal.TreeRefusal.{TreeRefusal}
use Rattle.wt_checks.specs.BareSections.{HasBareSections}
use Rattle.wt_checks.specs.Places.{Place, all_placed, Page, page_of}
use Rattle.wt_checks.specs.PutBack.{have_frame}
use Rattle.wt_checks.proofs.Found.{found_root}
use Rattle.wt_checks.proofs.Frames.{bare_root}
use Rattle.wt_content.specs.declared.children.Holder.TheVariants as holder
use Rattle.wt_content.specs.declared.reason.ContentWhy.{ContentWhy}
use Rattle.wt_slices.specs.BodySlices.{start, body_slices, slices}
use Rattle.wt_slices.specs.Changes.{Pair, pair_with, pair_at, marked}
use Rattle.wt_slices.specs.Steps.{Step, steps}
use Rattle.wt_selser.specs.declared.refusal.EditRefusal.{EditRefusal}
use Rattle.wt_selser.specs.declared.refusal.EditRefusal.TheVariants as refusal
use Rattle.wt_selser.specs.Edits.{first_with, if_short, unless_refused, refused_pairs, pairs_answer, edit_answer}
use Rattle.wt_selser.proofs.Sections.{answers_same}
use Rattle.wt_splice.specs.Splice.{Change, spliced}
use Rattle.wt_typed_blocks.specs.Coming.{Coming, page_children, sent_children, body_before, body_sent, AllStay, AreListed, steps_of}
use Rattle.wt_typed_blocks.proofs.ComingPasses.{passes, one_body, no_pairs_in, good_children}
use Rattle.wt_typed_blocks.proofs.ComingSteps.{steps_are}
use Rattle.wt_typed_blocks.proofs.EditedSlices.{Same}

abbrev pair : Label → Label → Coming → Pair
pair l b cs = record { old = body_before l cs; new = body_sent l b cs }

-- the body alone is marked
marked_are : (l b : Label) (cs : Coming) → AllStay cs → marked (body_before l cs) (body_sent l b cs) ≡ pair l b cs ∷ []
marked_are l b cs h =
    let page : Page = page_of (body_before l cs) in
    let inside : List Pair = flat_map (pair_at page) (all_placed 0 false (sent_children cs)) in
    ap (λ (o : Option Place). pair_with o (body_sent l b cs) ++ inside) (found_root (body_before l cs) refl)
    ∙ ap (λ (ps : List Pair). pair l b cs ∷ ps) (no_pairs_in page 0 false cs h)

none_refused : (same : Same) (items : Expanded) (page : List ℕ) (l b : Label) (cs : Coming) → AllStay cs
    → refused_pairs same items page (pair l b cs ∷ []) ≡ None
none_refused same items page l b cs h =
    ap (λ (o : Option ContentWhy). first_with (first_with (option_map (refusal.BadContent 0) o) None) None) (good_children same l b cs h)

abbrev pub coming_slices : Same → Label → Coming → List Change
coming_slices same l cs = body_slices same (page_of (body_before l cs)) start (steps_of cs)

slices_are : (same : Same) (l b : Label) (cs : Coming) → have_frame (page_children cs) ≡ false → AllStay cs → AreListed cs
    → slices same (body_before l cs) (body_sent l b cs) ≡ coming_slices same l cs
slices_are same l b cs f h o =
    let page : Page = page_of (body_before l cs) in
    ap (λ (ts : Trees). body_slices same page start (steps holder.Body ts (sent_children cs))) (bare_root (body_before l cs) f)
    ∙ ap (λ (ss : List Step). body_slices same page start ss) (steps_are cs h o)

pub answer_is : (same : Same) (items : Expanded) (page : List ℕ) (l b : Label) (cs : Coming) → InPreorder (body_before l cs)
    → have_frame (page_children cs) ≡ false → AllStay cs → AreListed cs
    → edit_answer same items page (body_before l cs) (body_sent l b cs) ≡ if_short (spliced page (coming_slices same l cs))
unfolding edit_answer
answer_is same items page l b cs pre f h o =
    let old : Tree = body_before l cs in
    let new : Tree = body_sent l b cs in
    ap (λ (c : Option TreeRefusal). unless_refused (option_map refusal.Check c) (pairs_answer same items page (marked old new) (slices same old new)))
    (passes l b cs pre f h)
    ∙ ap (λ (ps : List Pair). pairs_answer same items page ps (slices same old new)) (marked_are l b cs h)
    ∙ ap (pairs_answer same items page (pair l b cs ∷ [])) (slices_are same l b cs f h o)
    ∙ ap (λ (r : Option EditRefusal). unless_refused r (if_short (spliced page (coming_slices same l cs)))) (none_refused same items page l b cs h)

-- of a page in sections, too
pub answer_in_sections : (same : Same) (items : Expanded) (page : List ℕ) (t : Tree) (l b : Label) (cs : Coming) → HasBareSections t
    → without_sections t ≡ body_before l cs → InPreorder (body_before l cs) → have_frame (page_children cs) ≡ false → AllStay cs → AreListed cs
    → edit_answer same items page t (body_sent l b cs) ≡ if_short (spliced page (coming_slices same l cs))
answer_in_sections same items page t l b cs bare w pre f h o =
    answers_same same items page t (body_sent l b cs) bare (one_body l b cs h f)
    ∙ ap (λ (u : Tree). edit_answer same items page u (body_sent l b cs)) w
    ∙ answer_is same items page l b cs pre f h o
