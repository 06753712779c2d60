use Rattle.std.proofs.Common.{◌≡◌, ◌+◌, ◌-◌, ap, refl, ◌∙◌, arith, drop, false, true, subst, sym}
use Rattle.std.specs.Str.{IsUtf8, IsCharBoundary}
use Rattle.wt_span.specs.Slice.{bytes_of, start_of}
use Rattle.wt_transclusion.proofs.Behind.{more_is_chars, chars_behind, ascii_border}
use Rattle.wt_transclusion.proofs.trim.behind_bytes.Goals as goal

pub returns : goal.returns
returns c = λ ascii.
    let p = c.args.piece in
    let e : (c.range.result.start + c.args.count) - start_of p.text ≡ c.args.count = omega (arith, c.range.ensures.start) in
    chars_behind p (record { text = c.split_at.result.1; form = p.form; origin = p.origin }) c.args.count
    (more_is_chars p c.args.count c.requires c.if-count-eq0.false) refl refl (c.split_at.ensures.back ∙ ap (λ k. drop k (bytes_of p.text)) e)

pub returns-then-not-is_char_boundary : goal.returns-then-not-is_char_boundary
returns-then-not-is_char_boundary c = λ ascii.
    let p = c.args.piece in
    let u = subst IsUtf8 c.as_str-text.ensures c.as_str-text.utf8 in
    let border = ascii_border p c.args.count u c.requires c.if-count-eq0.false ascii in
    let is : false ≡ true = c.if-not-is_char_boundary.ensures.test.1 (subst (λ bs. IsCharBoundary bs c.args.count) (sym c.as_str-text.ensures) border) in
    cc
