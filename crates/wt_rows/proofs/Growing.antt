-- The children of a node grow by stretches.
use Rattle.std.proofs.Common.{◌≡◌, List, [], ◌∷◌, ◌++◌, length, sym, ap, ◌∙◌, arith, append_assoc}
use Rattle.wt_span.specs.declared.form.Piece.{Piece}
use Rattle.wt_inline.specs.Parts.{Part}
use Rattle.wt_inline.specs.Grown.{Grown, Grows, made}
use Rattle.wt_rows.specs.declared.stretch.StretchAt.{StretchAt}
use Rattle.wt_page.specs.Stretches.{stretch_parts, stretches_parts}
use Rattle.wt_rows.specs.Views.{stretch_view, stretches_view, IsRest}

pub rest_step : (g h i : Grown) (all added left rest : List Part) → left ≡ added ++ rest → Grows h added i → IsRest g all h left → IsRest g all i rest
rest_step g h i all added left rest e grows r qs =
    grows (rest ++ qs) ∙ ap (made h) (sym (append_assoc added rest qs) ∙ ap (λ ps. ps ++ qs) (sym e)) ∙ r qs

pub stretches_step : (ps : List Piece) (g h i : Grown) (all : List Part) (before rest : List StretchAt) (s : StretchAt) → before ≡ s ∷ rest
    → Grows h (stretch_parts (stretch_view ps s)) i → IsRest g all h (stretches_parts (stretches_view ps before))
    → IsRest g all i (stretches_parts (stretches_view ps rest))
stretches_step ps g h i all before rest s e grows r =
    rest_step g h i all (stretch_parts (stretch_view ps s)) (stretches_parts (stretches_view ps before)) (stretches_parts (stretches_view ps rest))
    (ap (λ ss. stretches_parts (stretches_view ps ss)) e) grows r

pub stretches_done : (ps : List Piece) (g h : Grown) (rest given all : List StretchAt)
    → IsRest g (stretches_parts (stretches_view ps given)) h (stretches_parts (stretches_view ps rest))
    → length rest ≡ 0 → given ≡ all → Grows g (stretches_parts (stretches_view ps all)) h
stretches_done ps g h [] given all r len e qs = r qs ∙ ap (λ ss. made g (stretches_parts (stretches_view ps ss) ++ qs)) e
stretches_done ps g h (s ∷ rest) given all r len e qs = absurd (omega arith)
