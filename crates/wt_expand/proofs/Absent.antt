-- A page that is absent gives the link to it.
use Rattle.std.proofs.Common.{◌≡◌, ℕ, suc, Bool, false, None, List, [], ◌∷◌, ap, ◌∙◌}
use Rattle.std.specs.Prelude.{if◌then◌else◌}
use Rattle.wt_span.specs.declared.form.Mode.TheVariants as mode
use Rattle.wt_names.specs.declared.title.Title.{Title}
use Rattle.wt_names.specs.Namespace.{full_name_of}
use Rattle.wt_expand.specs.Work.{Pages, fetched, is_among}
use Rattle.wt_expand.specs.Expansion.{Output, just, chars, Frame, text_given, loop_text, absent_text, fetched_output, template_output}

pub absent_page : (pages : Pages) (left : ℕ) (titles : List (List ℕ)) (t : Title) (v : Frame)
    → is_among (full_name_of t) titles ≡ false → pages (full_name_of t) ≡ None
    → template_output pages (suc left) titles t v ≡ record { items = chars (absent_text (full_name_of t)); work = fetched (full_name_of t) ∷ [] }
absent_page pages left titles t v e f =
    let full = full_name_of t in
    let read : List ℕ → Output = λ bs. text_given (record { mode = mode.Template; frame = v; template = template_output pages left (full ∷ titles) }) bs in
    ap (λ (b : Bool). if b then just (chars (loop_text t)) else fetched_output full read (pages full)) e ∙ ap (fetched_output full read) f
