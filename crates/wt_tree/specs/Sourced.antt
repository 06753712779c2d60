-- What a node has of its source: the delimiters as texts of the page, of a leaf its own texts, and the
-- characters that a text or an entity shows.
use Rattle.std.specs.Prelude.{ℕ, List, []}
use Rattle.wt_span.specs.declared.text.Text.{Text}

pub record Sourced : Type 0 where
  pub opening : List Text
  pub closing : List Text
  pub own : List Text
  pub shown : List ℕ

abbrev pub leaf_sourced : List Text → List ℕ → Sourced
leaf_sourced own shown = record { opening = []; closing = []; own = own; shown = shown }

abbrev pub round_sourced : List Text → List Text → Sourced
round_sourced opening closing = record { opening = opening; closing = closing; own = []; shown = [] }
