-- No call that is text has a byte of the lines of a node of a page's tree that touches none.
use Rattle.std.proofs.Common.{arith, ◌≡◌, ◌≤◌, ℕ, ◌+◌, Bool, true, false, Option, None, List, [], ◌∷◌, ◌++◌, length, refl, sym, ap, ◌∙◌, subst, append_assoc, append-nil}
use Rattle.std.specs.Prelude.{if◌then◌else◌}
use Rattle.std.specs.Str.{IsUtf8}
use Rattle.wt_span.specs.Items.{Item, char, whole, call_of, source, sources}
use Rattle.wt_span.specs.Origins.{OuterCall, Expanded}
use Rattle.wt_tree.specs.Tree.{Tree, label}
use Rattle.wt_annotated.specs.Seams.{last_of, text_from}
use Rattle.wt_inline.specs.ItemTree.{ItemTree, inner, tree_items}
use Rattle.wt_expand.specs.PageCalls.{expanded_page}
use Rattle.wt_expand.specs.Work.{Pages}
use Rattle.wt_expand.proofs.PiecePlaces.{AllFrom}
use Rattle.wt_commands.specs.Answers.{refusal_of_page}
use Rattle.wt_isolation.specs.TextCalls.{touches_text_call}
use Rattle.wt_lines.specs.Lines.{content, full_lines, is_break_item}
use Rattle.wt_page.specs.Body.{meaning}
use Rattle.wt_lines.specs.Kinds.{line_kind}
use Rattle.wt_lines.specs.declared.kind.LineKind.TheVariants as line
use Rattle.wt_page.specs.Lines.{kind_at, ending}
use Rattle.wt_called_edit_laws.proofs.Among.FirstItems.{OwnFilled, items_filled, filled_behind}
use Rattle.wt_page.proofs.Ends.{content_ending}
use Rattle.wt_tables.specs.Parts.{joined}
use Rattle.wt_called_edit_laws.proofs.AllTold.TextFacts.{seen_shown}
use Rattle.wt_called_edit_laws.proofs.AllTold.ToldStarts.{blank_is}
use Rattle.wt_called_edit_laws.specs.AllTold.{IsBesideTexts}
use Rattle.wt_called_edit_laws.specs.LinedAmong.{AreOfPage, AreBeside}
use Rattle.wt_called_edit_laws.specs.PlacedLines.{LinedBlock, lead_of, all_lines}
use Rattle.wt_called_edit_laws.specs.RowBlocks.{StandsIn, node_between}
use Rattle.wt_called_edit_laws.specs.ToldLines.{Told, a_paragraph_of, a_heading_on, lined, OwnTold}
use Rattle.wt_called_edit_laws.specs.ToldTogether.{start_of}
use Rattle.wt_called_edit_laws.proofs.Among.OwnItems.{from_page}
use Rattle.wt_called_edit_laws.proofs.Among.OwnSeams.{own_size, text_size, sources_size}
use Rattle.wt_called_edit_laws.proofs.Among.TextEnds.{AreTextsIn}
use Rattle.wt_called_edit_laws.proofs.Among.TextsBeside.{IsOwnEnd, nothing, a_break, page_texts, from_byte, to_byte, apart_ranges, all_beside}
use Rattle.wt_called_edit_laws.proofs.Cells.PlacedLines.{own_items, lines_joined}
use Rattle.wt_called_edit_laws.proofs.AllTold.Found.{size, tree_size, size_both}
use Rattle.wt_called_edit_laws.proofs.AllTold.LineKinds.{Lines}
use Rattle.wt_called_edit_laws.proofs.AllTold.OneNode.{page_joined, same_text, text_before}

break_of : (x : Item) → is_break_item x ≡ true → call_of x ≡ None → IsOwnEnd (x ∷ [])
break_of (char o b) e h = a_break b (ap (λ (p : Option ℕ). char p b ∷ []) h) e
break_of (whole f o bs) e h = absurd (cc)

own_end : (xs : List Item) → AreOfPage (ending xs) → IsOwnEnd (ending xs)
own_end [] h = nothing refl
own_end (x ∷ []) h = by (is_break_item x) refl h
  where
    by : (v : Bool) → is_break_item x ≡ v → AreOfPage (if v then x ∷ [] else []) → IsOwnEnd (if v then x ∷ [] else [])
    by true e g = break_of x e g.0
    by false e g = nothing refl
own_end (x ∷ y ∷ ys) h = own_end (y ∷ ys) h

from_so : (calls : List OuterCall) (n : ℕ) (before : List Item) (u : ItemTree) (behind : List Item)
    → from_byte (label (node_between calls n before u behind)).ranges ≡ length (text_from calls None before)
from_so calls n before (inner h o ts c) behind = refl

to_so : (calls : List OuterCall) (n : ℕ) (before : List Item) (u : ItemTree) (behind : List Item)
    → to_byte (label (node_between calls n before u behind)).ranges
    ≡ length (text_from calls None before) + length (text_from calls (last_of None before) (tree_items u))
to_so calls n before (inner h o ts c) behind = refl

pub node_texts : (pages : Pages) (page : List ℕ) (t : Tree) (s : StandsIn pages page t) (o : Told) (rest : Lines) → IsUtf8 page → refusal_of_page pages page ≡ None
    → full_lines (expanded_page pages page).items ≡ all_lines (lined o ∷ []) rest → touches_text_call (expanded_page pages page).text_calls (label t).ranges ≡ false
    → AreOfPage (ending (own_items (lined o))) → AllFrom None (content (own_items (lined o))) → size s.before ≡ start_of 0 o
    → tree_size s.block + size (ending (own_items (lined o))) ≡ size (own_items (lined o)) → 1 ≤ length (sources (content (own_items (lined o))))
    → IsBesideTexts (expanded_page pages page) (joined (lined o).before) o
node_texts pages page t s o rest u r are free ended mine at own_len some =
    let e : Expanded = expanded_page pages page in
    let calls : List OuterCall = e.outer in
    let b : LinedBlock = lined o in
    let fs : List Item = joined b.before ++ lead_of b in
    let own : List Item = own_items b in
    let cs : List Item = content own in
    let es : List Item = ending own in
    let zs : List Item = joined rest in
    let split : own ≡ cs ++ es = sym (content_ending own) in
    let joint : e.items ≡ fs ++ (own ++ zs) = page_joined pages page (all_lines (b ∷ []) rest) are ∙ lines_joined b rest in
    let parts : own ++ zs ≡ cs ++ (es ++ zs) = ap (λ (xs : List Item). xs ++ zs) split ∙ append_assoc cs es zs in
    let cut : e.items ≡ (fs ++ cs) ++ (es ++ zs) = joint ∙ ap (λ (xs : List Item). fs ++ xs) parts ∙ sym (append_assoc fs cs (es ++ zs)) in
    let texts : AreTextsIn calls None 0 ((fs ++ cs) ++ (es ++ zs)) e.text_calls =
    subst (λ (xs : List Item). AreTextsIn calls None 0 xs e.text_calls) cut (page_texts pages page) in
    let node : List Item = s.before ++ tree_items s.block in
    let count : start_of 0 o ≡ size fs = omega (arith, size_both (joined b.before) (lead_of b)) in
    let whole : tree_items (meaning e.items) ≡ node ++ s.behind = s.whole ∙ sym (append_assoc s.before (tree_items s.block) s.behind) in
    let sizes : size node ≡ size (fs ++ cs) =
    omega (arith, at, count, own_len, size_both s.before (tree_items s.block), size_both fs cs, sym (size_both cs es) ∙ ap size (content_ending own)) in
    let begins : text_from calls None s.before ≡ text_from calls None fs = text_before pages page t s fs (own ++ zs) u r joint (at ∙ count) in
    let ends : text_from calls None node ≡ text_from calls None (fs ++ cs) = same_text pages page (fs ++ cs) (es ++ zs) node s.behind u r whole cut sizes in
    let from : from_byte (label t).ranges ≡ length (text_from calls None fs) =
    ap (λ (v : Tree). from_byte (label v).ranges) s.is ∙ from_so calls s.number s.before s.block s.behind ∙ ap length begins in
    let to : to_byte (label t).ranges ≡ length (text_from calls None (fs ++ cs)) =
    ap (λ (v : Tree). to_byte (label v).ranges) s.is ∙ to_so calls s.number s.before s.block s.behind ∙ sym (text_size calls None s.before (tree_items s.block))
    ∙ ap length ends in
    let c = text_size calls None fs cs in
    let d = own_size calls (last_of None fs) cs mine in
    let apart : AreBeside (from_byte (label t).ranges) (to_byte (label t).ranges) e.text_calls =
    apart_ranges calls ((fs ++ cs) ++ (es ++ zs)) (label t).ranges e.text_calls texts free (omega (arith, from, to, c, d, some)) in
    let lines = all_beside calls fs cs es zs e.text_calls texts (own_end own ended)
    (subst (λ (n : ℕ). AreBeside n (length (text_from calls None (fs ++ cs))) e.text_calls) from
    (subst (λ (n : ℕ). AreBeside (from_byte (label t).ranges) n e.text_calls) to apart)) in
    let f = text_size calls None (fs ++ cs) es in
    let g = own_size calls (last_of None (fs ++ cs)) es (from_page es ended) in
    let h = ap (λ (xs : List Item). length (sources xs)) split ∙ sources_size cs es in
    let end : length (text_from calls None ((fs ++ cs) ++ es)) ≡ length (text_from calls None fs) + length (sources own) = omega (arith, c, d, f, g, h) in
    subst (λ (n : ℕ). AreBeside (length (text_from calls None fs)) n e.text_calls) end lines

-- ---- its content has bytes

pub some_content : (n : ℕ) (first : List Item) (ls : Lines) → 1 ≤ length first → (kind_at n first ≡ line.Blank → ⊥) → 1 ≤ length (content (joined (first ∷ ls)))
some_content n [] ls some shown = absurd (omega (arith, some))
some_content n (x ∷ []) ls some shown = by (joined ls) (is_break_item x) refl
  where
    by : (ys : List Item) (v : Bool) → is_break_item x ≡ v → 1 ≤ length (content (x ∷ ys))
    by [] true e = absurd (shown (ap (λ (v : Bool). line_kind n (if v then [] else x ∷ [])) e ∙ blank_is n))
    by [] false e = let z = ap (λ (v : Bool). length (if v then [] else x ∷ [])) e in omega (arith, z)
    by (y ∷ ys) v e = omega arith
some_content n (x ∷ y ∷ zs) ls some shown = omega arith

-- so has a line of text, and one of a heading's kind
pub told_content : (t : Told) (n : ℕ) → 1 ≤ length (lined t).first → OwnTold t n → 1 ≤ length (content (own_items (lined t)))
told_content (a_paragraph_of before [] marks first more) n some h =
    some_content n first more some (λ w. let wrong : line.Blank ≡ line.Text = sym w ∙ h.0.0 in absurd (cc))
told_content (a_paragraph_of before (s ∷ ss) marks first more) n some h = some_content n first more some (λ w. seen_shown n first h.0.0 w)
told_content (a_heading_on before marks l) n some h =
    some_content n l [] some (λ w. let wrong : line.Blank ≡ line.Heading = sym w ∙ h.is_heading in absurd (cc))

first_bytes : (xs : List Item) → 1 ≤ length xs → AllFrom None xs → (rest : List Item) → OwnFilled (xs ++ rest) → 1 ≤ length (sources xs)
first_bytes [] some mine rest f = absurd (omega (arith, some))
first_bytes (x ∷ xs) some mine rest f =
    let n = f.0 mine.0 in
    let e = sources_size (x ∷ []) xs in
    let g = sources_size [] (x ∷ []) in
    let h = ap length (append-nil (source x)) in
    omega (arith, n, e, h)

pub content_bytes : (pages : Pages) (page : List ℕ) (o : Told) (rest : Lines) (n : ℕ) → full_lines (expanded_page pages page).items ≡ all_lines (lined o ∷ []) rest
    → 1 ≤ length (lined o).first → (kind_at n (lined o).first ≡ line.Blank → ⊥) → AllFrom None (content (own_items (lined o)))
    → 1 ≤ length (sources (content (own_items (lined o))))
content_bytes pages page o rest n are some shown mine =
    let b : LinedBlock = lined o in
    let own : List Item = own_items b in
    let front : List Item = joined b.before ++ lead_of b in
    let tail : List Item = ending own ++ joined rest in
    let all : (expanded_page pages page).items ≡ front ++ (content own ++ tail) =
    page_joined pages page (all_lines (b ∷ []) rest) are ∙ lines_joined b rest
    ∙ ap (λ (xs : List Item). front ++ xs)
    (ap (λ (xs : List Item). xs ++ joined rest) (sym (content_ending own)) ∙ append_assoc (content own) (ending own) (joined rest)) in
    first_bytes (content own) (some_content n b.first b.more some shown) mine tail
    (filled_behind front (content own ++ tail) (subst OwnFilled all (items_filled pages page)))
