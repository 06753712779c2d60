-- A text that somebody typed between two parts of a page: the items of the page are those of all three, and it calls nothing.
use Rattle.std.proofs.Common.{◌≡◌, ℕ, true, false, None, List, ◌++◌, sym, ap, ◌∙◌, subst, All}
use Rattle.wt_span.specs.Items.{Item}
use Rattle.wt_span.specs.declared.form.Mode.TheVariants.{Page}
use Rattle.wt_lines.specs.declared.kind.LineKind.TheVariants as line
use Rattle.wt_lines.specs.Kinds.{line_kind}
use Rattle.wt_lines.specs.Lines.{lines}
use Rattle.wt_expand.specs.PageCalls.{expanded_page}
use Rattle.wt_expand.specs.PageItems.{page_items}
use Rattle.wt_expand.specs.Work.{Pages, first_refusal}
use Rattle.wt_expand.specs.Expansion.{page_work}
use Rattle.wt_typed_blocks.proofs.TextKinds.{lines_are_text}
use Rattle.wt_part_laws.specs.Lexer.{lexer}
use Rattle.wt_part_laws.specs.Scans.{after_all}
use Rattle.wt_text_edit_laws.specs.LonePages.{of_items}
use Rattle.wt_text_edit_laws.specs.TypedPages.{IsTypedPage}
use Rattle.wt_text_edit_laws.specs.NoCalls.{Brace, NonePairs, CallsNothing, AreUnbraced, braces_of}
use Rattle.wt_text_edit_laws.specs.TextBetween.{BeginsShown, StandsBefore, StandsBehind}
use Rattle.wt_text_edit_laws.proofs.Prose.InFront.{Reads}
use Rattle.wt_text_edit_laws.proofs.Prose.ProseReading.{page_front}
use Rattle.wt_text_edit_laws.proofs.Between.LineForms.{ends_before_any}
use Rattle.wt_text_edit_laws.proofs.Between.Fronts.{ReadsAfter, reads_after, page_read, before_reads, behind_reads}
use Rattle.wt_text_edit_laws.specs.ReadContents.{begins_shown}
use Rattle.wt_text_edit_laws.proofs.Between.Shown.{shown_before, shown_lines, shown_reads}
use Rattle.wt_text_edit_laws.proofs.Between.NoCalls.{calm_expanded, calm_unrefused}
use Rattle.wt_text_edit_laws.proofs.Between.LessBraces.{items_behind_end, none_unbraced, unbraced_ends, page_unbraced, ended_unbraced}

-- its first line is text
pub typed_lines : (q : List ℕ) → IsTypedPage q → All (λ l. line_kind 0 l ≡ line.Text) (lines (page_items q))
typed_lines q h = subst (λ bs. All (λ l. line_kind 0 l ≡ line.Text) (lines (page_items bs))) (sym h.is) (lines_are_text h.setting h.text 0 h.utf8 h.of_block)

typed_shown : (q : List ℕ) → IsTypedPage q → begins_shown (page_items q) ≡ true
typed_shown q h = shown_lines (page_items q) (typed_lines q h)

between_reads : (bs q cs : List ℕ) → StandsBefore bs → IsTypedPage q → StandsBehind cs
    → ReadsAfter false (bs ++ (q ++ cs)) (page_items bs ++ (page_items q ++ page_items cs))
between_reads bs q cs b h c =
    let r : Reads (q ++ cs) (page_items q ++ page_items cs) = page_front q cs (page_items cs) h (behind_reads cs c) in
    let s : BeginsShown (q ++ cs) = shown_reads (q ++ cs) (page_items q ++ page_items cs) r (shown_before (page_items q) (page_items cs) (typed_shown q h)) in
    before_reads bs (q ++ cs) (page_items q ++ page_items cs) b.ends (ends_before_any (q ++ cs) bs b.has_ends) s (reads_after (after_all (lexer Page) false bs) (q ++ cs) (page_items q ++ page_items cs) r)

pub items_between : (bs q cs : List ℕ) → StandsBefore bs → IsTypedPage q → StandsBehind cs
    → page_items (bs ++ (q ++ cs)) ≡ page_items bs ++ (page_items q ++ page_items cs)
items_between bs q cs b h c = page_read (bs ++ (q ++ cs)) (page_items bs ++ (page_items q ++ page_items cs)) (between_reads bs q cs b h c)

-- typed text adds no braces
pub calm_between : (bs q cs : List ℕ) → StandsBefore bs → IsTypedPage q → StandsBehind cs → CallsNothing (page_items bs ++ page_items cs)
    → CallsNothing (page_items (bs ++ (q ++ cs)))
calm_between bs q cs b h c n =
    let front : List Item = page_items bs in
    let own : List Item = page_items q in
    let rest : List Item = page_items cs in
    let u : AreUnbraced own = page_unbraced q h in
    let behind : braces_of (own ++ rest) ≡ braces_of rest = items_behind_end own rest (unbraced_ends own u) ∙ ap (λ (ys : List Brace). ys ++ braces_of rest) (none_unbraced own u) in
    let all : braces_of (front ++ (own ++ rest)) ≡ braces_of (front ++ rest) =
    items_behind_end front (own ++ rest) (ended_unbraced bs b.ends) ∙ ap (λ (ys : List Brace). braces_of front ++ ys) behind
    ∙ sym (items_behind_end front rest (ended_unbraced bs b.ends)) in
    subst CallsNothing (sym (items_between bs q cs b h c)) (subst NonePairs (sym all) n)

pub expanded_between : (pages : Pages) (bs q cs : List ℕ) → StandsBefore bs → IsTypedPage q → StandsBehind cs
    → CallsNothing (page_items bs ++ page_items cs) → expanded_page pages (bs ++ (q ++ cs)) ≡ of_items (page_items (bs ++ (q ++ cs)))
expanded_between pages bs q cs b h c n = calm_expanded pages (bs ++ (q ++ cs)) (calm_between bs q cs b h c n)

pub unrefused_between : (pages : Pages) (bs q cs : List ℕ) → StandsBefore bs → IsTypedPage q → StandsBehind cs
    → CallsNothing (page_items bs ++ page_items cs) → first_refusal pages (bs ++ (q ++ cs)) (page_work pages (bs ++ (q ++ cs))) ≡ None
unrefused_between pages bs q cs b h c n = calm_unrefused pages (bs ++ (q ++ cs)) (calm_between bs q cs b h c n)
