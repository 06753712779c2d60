use Rattle.std.proofs.Common.{◌≡◌, ◌++◌, List, length, map}
use Rattle.wt_span.specs.Slice.{bytes_of}
use Rattle.wt_span.specs.Items.{call_of_origin}
use Rattle.wt_inline.specs.Inside.{inside_items}
use Rattle.wt_inline.specs.Parts.{Part, inside_part, children}
use Rattle.wt_inline.specs.Grown.{growth, made}
use Rattle.wt_inline.proofs.nowiki.inside.Given as goal

abbrev pub invariant-loop-rest : goal.invariant-loop-rest
invariant-loop-rest l =
    (ps : List Part) → made (growth l.children) (map inside_part (inside_items (call_of_origin l.origin) 0 (bytes_of l.rest))
    ++ ps) ≡ children (map inside_part (inside_items (call_of_origin l.origin) 0 (bytes_of l.text)) ++ ps)

abbrev pub decreases-loop-rest : goal.decreases-loop-rest
decreases-loop-rest l = length (bytes_of l.rest)
