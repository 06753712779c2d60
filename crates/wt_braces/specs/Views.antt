-- What the values of this crate's types stand for.
use Rattle.std.specs.Prelude.{ℕ, ◌-◌, Bool, List, map}
use Rattle.wt_span.specs.Braces.{PartAt as PartOf, CallAt, PartSign as SignAt, pipe, equals}
use Rattle.wt_braces.specs.declared.call.PartAt.{PartAt}
use Rattle.wt_braces.specs.declared.call.Call.{Call}
use Rattle.wt_braces.specs.declared.parts.PartSign.{PartSign}
use Rattle.wt_braces.specs.declared.parts.PartSign.TheVariants as sign
use Rattle.wt_braces.specs.declared.matching.Closed.{Closed}

abbrev pub part_of : PartAt → PartOf
part_of p = record { from = p.at.start; to = p.at.end; equals_at = p.equals }

abbrev pub call_of : Call → CallAt
call_of c = record { argument = c.argument; from = c.at.start; to = c.at.end; parts = map part_of c.parts; parent = c.parent }

abbrev pub sign_at : PartSign → SignAt
sign_at (sign.Pipe r) = pipe r.start (r.end - r.start)
sign_at (sign.Equals r) = equals r.start (r.end - r.start)

-- a call among the calls by their last bytes; `first` is the number of the first of those that lie in it, or its own
pub record ClosedAt : Type 0 where
  pub argument : Bool
  pub from : ℕ
  pub to : ℕ
  pub parts : List PartOf
  pub first : ℕ

abbrev pub closed_at : Closed → ClosedAt
closed_at c = record { argument = c.argument; from = c.at.start; to = c.at.end; parts = map part_of c.parts; first = c.first }
