-- Where a text that is read can be cut: at both ends of what is read in one step, and round the braces of a call.
use Rattle.std.proofs.Common.{◌≡◌, ◌⊎◌, inl, inr, ℕ, zero, suc, ◌+◌, ◌-◌, ◌<◌, ◌≤◌, List, length, sym, subst, arith}
use Rattle.std.specs.Prelude.{Bool, slice_index}
use Rattle.std.specs.Str.{IsUtf8, IsCharBoundary}
use Rattle.std.proofs.lemmas.Str.{IsCharBoundary-before_ascii, IsCharBoundary-after_ascii}
use Rattle.wt_span.specs.declared.form.Mode.{Mode}
use Rattle.wt_span.specs.declared.form.LexKind.{LexKind}
use Rattle.wt_span.specs.Braces.{Member, width_of_all}
use Rattle.wt_transclusion.specs.declared.read.Braces.{Braces}
use Rattle.wt_transclusion.specs.declared.read.ReadText.{ReadText}
use Rattle.wt_transclusion.specs.declared.cursor.Next.TheVariants as next
use Rattle.wt_transclusion.specs.Reads.{IsRead}
use Rattle.wt_transclusion.specs.Steps.{IsStretchOf, AnswersNext}
use Rattle.wt_transclusion.proofs.CursorLaws.{stretch_within, text_len}
use Rattle.wt_transclusion.proofs.PlaceBorders.{place_border, end_border}
use Rattle.wt_template_stack.specs.Calls.{IsCallOf}
use Rattle.wt_template_stack.specs.Readers.{CanBeCut, IsReading}
use Rattle.wt_template_stack.specs.declared.reader.Reader.{Reader}

-- ---- a reader's text

pub cut_there : (m : Mode) (t : List ℕ) (r : Reader) (p : ℕ) (s : Bool) (from to : ℕ) → IsReading m t r p s → CanBeCut t from to
    → CanBeCut r.text.text.now from to
cut_there m t r p s from to reading cut = subst (λ (bs : List ℕ). CanBeCut bs from to) (sym reading.read.text_is) cut

-- from the place up to which it is read
pub cut_here : (m : Mode) (t : List ℕ) (r : Reader) (p : ℕ) (s : Bool) (to : ℕ) → IsReading m t r p s → CanBeCut t p to
    → CanBeCut r.text.text.now r.cursor.at to
cut_here m t r p s to reading cut = cut_there m t r p s r.cursor.at to reading (subst (λ q. CanBeCut t q to) (sym reading.at.at_is) cut)

-- ---- what is read in one step

pub before_or_at : (a b : ℕ) → (a < b) ⊎ (b ≤ a)
before_or_at a zero = inr (omega arith)
before_or_at zero (suc b) = inl (omega arith)
before_or_at (suc a) (suc b) = one_more (before_or_at a b)
  where
    one_more : (a < b) ⊎ (b ≤ a) → (suc a < suc b) ⊎ (suc b ≤ suc a)
    one_more (inl less) = inl (omega (arith, less))
    one_more (inr late) = inr (omega (arith, late))

pub chunk_cut : (m : Mode) (t : List ℕ) (text : ReadText) (p e : ℕ) (xs : List Member) (kind : LexKind) (to : ℕ) → IsRead m t text → IsStretchOf m t p e xs
    → AnswersNext m t p e xs (next.Chunk kind to) → CanBeCut t p to
chunk_cut m t text p e xs kind to read st (later, before, taken) =
    let low : p < e = omega (arith, later, before) in
    let inside = stretch_within _ _ p e xs st low in
    let len = text_len m t in
    record {
      in_order = omega (arith, later);
      from_border = place_border m t text p e xs read st low;
      to_border = at_border (before_or_at to e) low (omega (arith, inside, len));
    }
  where
    at_border : (to < e) ⊎ (e ≤ to) → p < e → e ≤ length t → IsCharBoundary t to
    at_border (inl less) low within = place_border m t text to e taken.left read taken.stretch less
    at_border (inr late) low within =
        let same : e ≡ to = omega (arith, before, late) in
        subst (IsCharBoundary t) same (end_border m t text p e xs read st low within)

-- ---- a call, whose braces are characters

brace_at : (t : List ℕ) (p b : ℕ) → p < length t → slice_index t p ≡ b → b < 128 → IsCharBoundary t p
brace_at t p b l e low = IsCharBoundary-before_ascii t p l (omega (arith, e, low))

behind_brace : (t : List ℕ) (p b : ℕ) → IsUtf8 t → p < length t → slice_index t p ≡ b → b < 128 → IsCharBoundary t (p + 1)
behind_brace t p b u l e low = IsCharBoundary-after_ascii t p u l (omega (arith, e, low))

call_from : (m : Mode) (t : List ℕ) (b : Braces) → IsCallOf m t b → IsCharBoundary t b.at.start
call_from m t b c =
    let start = c.start_is in
    let end = c.end_is in
    let two = c.two in
    let fits = c.fits in
    let z : c.at + 0 ≡ b.at.start = omega (arith, start) in
    subst (IsCharBoundary t) z (brace_at t (c.at + 0) 123 (omega (arith, end, two, fits)) (c.opening 0 (omega (arith, two))) (omega arith))

call_to : (m : Mode) (t : List ℕ) (b : Braces) → IsUtf8 t → IsCallOf m t b → IsCharBoundary t b.at.end
call_to m t b u c =
    let end = c.end_is in
    let two = c.two in
    let fits = c.fits in
    let q = c.at + (c.braces + width_of_all c.inside) + (c.braces - 1) in
    let z : q + 1 ≡ b.at.end = omega (arith, end, two) in
    subst (IsCharBoundary t) z (behind_brace t q 125 u (omega (arith, z, fits)) (c.closing (c.braces - 1) (omega (arith, two))) (omega arith))

-- all of it
pub call_cut : (m : Mode) (t : List ℕ) (b : Braces) → IsUtf8 t → IsCallOf m t b → CanBeCut t b.at.start b.at.end
call_cut m t b u c = let start = c.start_is in let end = c.end_is in record {
  in_order = omega (arith, start, end);
  from_border = call_from m t b c;
  to_border = call_to m t b u c;
}

-- its first braces
pub front_cut : (m : Mode) (t : List ℕ) (b : Braces) (to : ℕ) → IsUtf8 t → (c : IsCallOf m t b) → to ≡ c.at + c.braces → CanBeCut t b.at.start to
front_cut m t b to u c is =
    let start = c.start_is in
    let end = c.end_is in
    let two = c.two in
    let fits = c.fits in
    let q = c.at + (c.braces - 1) in
    let z : q + 1 ≡ to = omega (arith, is, two) in
    record {
      in_order = omega (arith, start, is);
      from_border = call_from m t b c;
      to_border = subst (IsCharBoundary t) z
          (behind_brace t q 123 u (omega (arith, end, two, fits)) (c.opening (c.braces - 1) (omega (arith, two))) (omega arith));
    }

-- and its last ones
pub back_cut : (m : Mode) (t : List ℕ) (b : Braces) (from : ℕ) → IsUtf8 t → (c : IsCallOf m t b) → from + c.braces ≡ b.at.end → CanBeCut t from b.at.end
back_cut m t b from u c is =
    let end = c.end_is in
    let two = c.two in
    let fits = c.fits in
    let q = c.at + (c.braces + width_of_all c.inside) + 0 in
    let z : q ≡ from = omega (arith, end, is) in
    record {
      in_order = omega (arith, is);
      from_border = subst (IsCharBoundary t) z (brace_at t q 125 (omega (arith, end, two, fits)) (c.closing 0 (omega (arith, two))) (omega arith));
      to_border = call_to m t b u c;
    }
