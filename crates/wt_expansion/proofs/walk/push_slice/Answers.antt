use Rattle.std.proofs.Common.{ℕ, Err, List, Ok, ap, ◌∙◌}
use Rattle.std.specs.Prelude.{OnOk, Result, slice_range}
use Rattle.wt_span.specs.declared.form.Mode.TheVariants as mode
use Rattle.wt_span.specs.Slice.{bytes_of, end_of, start_of}
use Rattle.wt_template_stack.proofs.Cuts.{cut_there}
use Rattle.wt_expansion.proofs.FoundLaws.{adds_there, some_bytes}
use Rattle.wt_expansion.proofs.walk.push_slice.Goals as goal

if_ok : {A E P Q : Type 0} → (r : Result A E) → (P → Q) → OnOk r P → OnOk r Q
if_ok (Ok x) f h = f h
if_ok (Err e) f h = tt

pub returns : goal.returns
returns c =
    let from = c.args.from in
    let to = c.args.to in
    let text = c.slice-text.result in
    if_ok c.push_own.result (λ adds page p s reading cut low.
    let there = cut_there mode.Page page c.args.reader p s from to reading cut in
    adds_there c.args.found.now c.push_own.new.self c.args.form from to (start_of text) (end_of text) (bytes_of text) (slice_range page from to)
    (c.slice-text.ensures.start there) (c.slice-text.ensures.end there)
    (c.slice-text.ensures.bytes there ∙ ap (λ (xs : List ℕ). slice_range xs from to) reading.read.text_is)
    (some_bytes page from to low cut.to_border.0) adds) c.push_own.ensures
