-- Outermost calls, by what is read of them.
use Rattle.std.specs.Prelude.{Option, ℕ, List, map}
use Rattle.wt_span.specs.declared.text.Text.{Text}
use Rattle.wt_span.specs.Slice.{bytes_of, start_of}
use Rattle.wt_span.specs.Origins.{OuterCall}
use Rattle.wt_braces.specs.Views.{part_of}
use Rattle.wt_transclusion.specs.declared.read.Braces.{Braces}

abbrev pub outer_of : Text → Braces → Option (List ℕ) → OuterCall
outer_of source b href =
    record {
      start = start_of source;
      source = bytes_of source;
      argument = b.argument;
      parts = map (λ p. (p.from, p.to)) (map part_of b.parts.now);
      equals = map (λ p. p.equals_at) (map part_of b.parts.now);
      href = href;
    }
