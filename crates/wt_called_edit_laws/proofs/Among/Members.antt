-- What the members of a page give, and how many bytes of the page that is.
use Rattle.std.proofs.Common.{arith, ◌≡◌, ℕ, suc, ◌+◌, ◌-◌, ◌≤◌, Bool, false, Option, List, [], ◌∷◌, ◌++◌, length, take, drop, refl, sym, ap, ◌∙◌, subst, append_assoc, append-nil, length-append, length-take, length-drop}
use Rattle.std.specs.Prelude.{slice_index}
use Rattle.wt_span.specs.declared.form.LexKind.TheVariants.{Closes}
use Rattle.wt_span.specs.Bytes.{is_break}
use Rattle.wt_span.specs.Items.{Item, source, sources}
use Rattle.wt_span.specs.Lexemes.{Word}
use Rattle.wt_span.specs.Origins.{OuterCall}
use Rattle.wt_span.specs.Braces.{Member, Members, lexeme, call, none, more, width, width_of_all}
use Rattle.wt_annotated.specs.Seams.{last_of, text_from}
use Rattle.wt_annotated.proofs.Seams.{last_append}
use Rattle.wt_braces.specs.PartMembers.{part_members}
use Rattle.wt_braces.specs.Words.{total_width}
use Rattle.wt_expand.specs.PageItems.{form_of, items_of_word, items_of_words}
use Rattle.wt_expand.specs.Stretches.{page_bytes}
use Rattle.wt_expand.specs.Targets.{Called, argument, choice, function, page, text, called}
use Rattle.wt_expand.specs.Work.{Pages}
use Rattle.wt_expand.specs.Expansion.{Output, chars, PartOutput, part_outputs, target_part, Reading, front_braces, back_braces, called_output, outputs_of, page_reading}
use Rattle.wt_expand.specs.PageCalls.{Stretch, own, outer, text_call, call_stretches, stretches_of, all_stretches, outer_items, numbered, outer_calls}
use Rattle.wt_expand.proofs.PageLaws.{form_sources, char_sources}
use Rattle.wt_called_edit_laws.specs.PartTexts.{AreSourcesAt}
use Rattle.wt_called_edit_laws.proofs.Among.Flattened.{flat, flat_all, width_append}
use Rattle.wt_called_edit_laws.proofs.PartTexts.{OwnPage, own_one, IsBelow, below_own, below_outer, joined}

-- ---- their bytes

bytes_both : (ss ts : List Stretch) → page_bytes (ss ++ ts) ≡ page_bytes ss ++ page_bytes ts
bytes_both [] ts = refl
bytes_both (own xs ∷ ss) ts = ap (λ ys. sources xs ++ ys) (bytes_both ss ts) ∙ sym (append_assoc (sources xs) (page_bytes ss) (page_bytes ts))
bytes_both (outer c xs ∷ ss) ts = ap (λ ys. c.source ++ ys) (bytes_both ss ts) ∙ sym (append_assoc c.source (page_bytes ss) (page_bytes ts))
bytes_both (text_call s ∷ ss) ts = bytes_both ss ts

-- of a call's source the braces at its ends
pub front_size : (k n : ℕ) (source : List ℕ) → length source ≡ k + n + k → length (front_braces k source) ≡ k
front_size k n source e = let t = length-take k source in omega (arith, t, e)

pub back_size : (k n : ℕ) (source : List ℕ) → length source ≡ k + n + k → length (back_braces k source) ≡ k
back_size k n source e = let d = length-drop (length source - k) source in omega (arith, d, e)

call_size : (c : Called) (r : Reading) (start : Bool) (at k : ℕ) (source : List ℕ) (ms : Members) (ps : List PartOutput) (os : List Output)
    (inside : List Stretch) (n : ℕ) → length source ≡ k + n + k → length (page_bytes inside) ≡ n
    → length (page_bytes (call_stretches c at k source ms (called_output c r start k source ps os).items inside)) ≡ k + n + k
call_size argument r start at k source ms ps os inside n e f = ap length (append-nil source) ∙ e
call_size (choice g i) r start at k source ms ps os inside n e f = ap length (append-nil source) ∙ e
call_size function r start at k source ms ps os inside n e f = ap length (append-nil (source ++ []) ∙ append-nil source) ∙ e
call_size (page t) r start at k source ms ps os inside n e f = ap length (append-nil source) ∙ e
call_size text r start at k source ms ps os inside n e f =
    let back : List Item = chars (back_braces k source) in
    let rest : List ℕ = page_bytes (inside ++ own back ∷ []) in
    let first : length (sources (chars (front_braces k source))) ≡ k = ap length (char_sources (front_braces k source)) ∙ front_size k n source e in
    let last : length (sources back) ≡ k = ap length (char_sources (back_braces k source)) ∙ back_size k n source e in
    let inner = ap length (bytes_both inside (own back ∷ [])) ∙ length-append (page_bytes inside) (sources back ++ []) in
    let end = ap length (append-nil (sources back)) in
    let all = length-append (sources (chars (front_braces k source))) rest in
    omega (arith, first, last, inner, end, all, f)

lexeme_size : (w : Word) (bs : List ℕ) → w.1 ≤ length bs → length (sources (items_of_word w.0 (take w.1 bs))) ≡ w.1
lexeme_size (kind, n) bs le =
    let e = ap length (form_sources (form_of kind (take n bs)) (take n bs)) in
    let t = length-take n bs in
    omega (arith, e, t, le)

mutual
  one_size : (pages : Pages) (at : ℕ) (start : Bool) (bs : List ℕ) (m : Member) → width m ≤ length bs
      → length (page_bytes (stretches_of (page_reading pages) at start bs m)) ≡ width m
  one_size pages at start bs (lexeme (kind, n)) le =
      ap length (append-nil (sources (items_of_word kind (take n bs)))) ∙ lexeme_size (kind, n) bs le
  one_size pages at start bs (call k ms) le =
      let r : Reading = page_reading pages in
      let os = outputs_of r false (drop k bs) ms in
      let ps = part_outputs (part_members 0 ms) os in
      let n : ℕ = width_of_all ms in
      let source = take (k + n + k) bs in
      let t = length-take (k + n + k) bs in
      let d = length-drop k bs in
      let size : length source ≡ k + n + k = omega (arith, t, le) in
      let long : n ≤ length (drop k bs) = omega (arith, d, le) in
      call_size (called k source (target_part ps).items) r start at k source ms ps os (all_stretches r (at + k) false (drop k bs) ms) n size
      (all_size pages (at + k) false (drop k bs) ms long)

  all_size : (pages : Pages) (at : ℕ) (start : Bool) (bs : List ℕ) (ms : Members) → width_of_all ms ≤ length bs
      → length (page_bytes (all_stretches (page_reading pages) at start bs ms)) ≡ width_of_all ms
  all_size pages at start bs none le = refl
  all_size pages at start bs (more m ms) le =
      let r : Reading = page_reading pages in
      let first : List Stretch = stretches_of r at start bs m in
      let rest : List Stretch = all_stretches r (at + width m) (is_break (slice_index bs (width m - 1))) (drop (width m) bs) ms in
      let d = length-drop (width m) bs in
      let one = one_size pages at start bs m (omega (arith, le)) in
      let others = all_size pages (at + width m) (is_break (slice_index bs (width m - 1))) (drop (width m) bs) ms (omega (arith, d, le)) in
      let all = ap length (bytes_both first rest) ∙ length-append (page_bytes first) (page_bytes rest) in
      omega (arith, all, one, others)

-- so much is on the page for what a member gives
pub member_text : (pages : Pages) (calls : List OuterCall) (o : Option ℕ) (k at : ℕ) (start : Bool) (bs : List ℕ) (m : Member) → IsBelow k o
    → width m ≤ length bs → AreSourcesAt calls k (outer_calls (stretches_of (page_reading pages) at start bs m))
    → length (text_from calls o (numbered k (stretches_of (page_reading pages) at start bs m))) ≡ width m
member_text pages calls o k at start bs m b le s =
    let r : Reading = page_reading pages in
    ap length (joined calls o k (stretches_of r at start bs m) b (own_one r at start bs m) s) ∙ one_size pages at start bs m le

-- the last item is the page's own, or comes from one of the calls so far
pub below_all : (k : ℕ) (o : Option ℕ) (ss : List Stretch) → IsBelow k o → OwnPage ss → IsBelow (k + length (outer_calls ss)) (last_of o (numbered k ss))
below_all k o [] b h = let e : k ≡ k + 0 = omega arith in subst (λ (n : ℕ). IsBelow n o) e b
below_all k o (own xs ∷ ss) b h =
    subst (IsBelow (k + length (outer_calls ss))) (sym (last_append o xs (numbered k ss))) (below_all k (last_of o xs) ss (below_own k o xs b h.0) h.1)
below_all k o (outer c xs ∷ ss) b h =
    let zs : List Item = outer_items k c xs in
    let e : suc k + length (outer_calls ss) ≡ k + suc (length (outer_calls ss)) = omega arith in
    subst (λ (n : ℕ). IsBelow n (last_of o (numbered k (outer c xs ∷ ss)))) e
    (subst (IsBelow (suc k + length (outer_calls ss))) (sym (last_append o zs (numbered (suc k) ss))) (below_all (suc k) (last_of o zs) ss (below_outer k o c xs) h))
below_all k o (text_call s ∷ ss) b h = below_all k o ss b h

pub named_both : (calls : List OuterCall) (k : ℕ) (cs ds : List OuterCall) → AreSourcesAt calls k (cs ++ ds)
    → AreSourcesAt calls k cs × AreSourcesAt calls (k + length cs) ds
named_both calls k [] ds h = let e : k ≡ k + 0 = omega arith in (tt, subst (λ (n : ℕ). AreSourcesAt calls n ds) e h)
named_both calls k (c ∷ cs) ds h =
    let r = named_both calls (suc k) cs ds h.1 in
    let e : suc k + length cs ≡ k + suc (length cs) = omega arith in
    ((h.0, r.0), subst (λ (n : ℕ). AreSourcesAt calls n ds) e r.1)

-- ---- their lexemes

mutual
  pub flat_width : (m : Member) → total_width (flat m) ≡ width m
  flat_width (lexeme w) = omega arith
  flat_width (call k ms) =
      let e = flat_widths ms in
      let f = width_append (flat_all ms) ((Closes, k) ∷ []) in
      omega (arith, e, f)

  pub flat_widths : (ms : Members) → total_width (flat_all ms) ≡ width_of_all ms
  flat_widths none = refl
  flat_widths (more m ms) =
      let e = width_append (flat m) (flat_all ms) in
      let f = flat_width m in
      let g = flat_widths ms in
      omega (arith, e, f, g)

pub words_size : (ws : List Word) (bs : List ℕ) → total_width ws ≤ length bs → length (sources (items_of_words ws bs)) ≡ total_width ws
words_size [] bs le = refl
words_size ((kind, n) ∷ ws) bs le =
    let d = length-drop n bs in
    let e = words_size ws (drop n bs) (omega (arith, d, le)) in
    let f = lexeme_size (kind, n) bs (omega (arith, le)) in
    let g = sources_size (items_of_word kind (take n bs)) (items_of_words ws (drop n bs)) in
    omega (arith, e, f, g)
  where
    sources_size : (xs ys : List Item) → length (sources (xs ++ ys)) ≡ length (sources xs) + length (sources ys)
    sources_size [] ys = omega arith
    sources_size (x ∷ xs) ys =
        let a = length-append (source x) (sources (xs ++ ys)) in
        let b = length-append (source x) (sources xs) in
        let c = sources_size xs ys in
        omega (arith, a, b, c)
