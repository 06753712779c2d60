-- Where a block touches a call of the page that is text: they share a byte.
use Rattle.std.specs.Prelude.{◌&&◌, Bool, false, Option, Some, None, List, nat_lt}
use Rattle.std.specs.List.{list_any}
use Rattle.wt_span.specs.Origins.{Span}
use Rattle.wt_tree.specs.declared.kind.Ranges.{Ranges}

-- the greater of the two starts lies before the lesser of the two ends
abbrev pub share_byte : Span → Ranges → Bool
share_byte s r = (nat_lt s.0 s.1 && nat_lt r.start r.end) && (nat_lt s.0 r.end && nat_lt r.start s.1)

-- a block that is here in the page touches one of these text calls
abbrev pub touches_text_call : List Span → Option Ranges → Bool
touches_text_call calls None = false
touches_text_call calls (Some r) = list_any (λ s. share_byte s r) calls
