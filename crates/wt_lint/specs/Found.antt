-- What is found: a kind and a range, the place of its first byte and the one after its last.
use Rattle.std.specs.Prelude.{ℕ, List, map}
use Rattle.wt_lint.specs.declared.finding.Kind.{Kind}
use Rattle.wt_lint.specs.declared.bare_finding.BareFinding.{BareFinding}

abbrev pub Span : Type 0
Span = ℕ × ℕ

abbrev pub KindAndRange : Type 0
KindAndRange = Kind × Span

abbrev pub as_found : Kind → Span → KindAndRange
as_found kind span = (kind, span)

-- all of these ranges as findings of one kind
abbrev pub as_all : Kind → List Span → List KindAndRange
as_all kind spans = map (as_found kind) spans

-- what the code keeps
abbrev pub seen : BareFinding → KindAndRange
seen s = (s.kind, (s.start, s.end))

abbrev pub each : List BareFinding → List KindAndRange
each spots = map seen spots
