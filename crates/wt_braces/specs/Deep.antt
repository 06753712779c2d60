-- The first byte of the leftmost call that has a hundred others round it.
use Rattle.std.specs.Prelude.{ℕ, ◌+◌, Option, Some, None, nat_le, if◌then◌else◌}
use Rattle.std.specs.Option.{option_or}
use Rattle.wt_span.specs.Braces.{Member, Members, lexeme, call, none, more, width}
use Rattle.wt_braces.specs.declared.nesting.TheConstants.{NESTED_BRACES}

-- among members that begin at `at` and have so many calls round them
abbrev mutual
  pub deep_of : ℕ → ℕ → Member → Option ℕ
  deep_of at depth (lexeme w) = None
  deep_of at depth (call k ms) = if nat_le NESTED_BRACES depth then Some at else deep_of_all (at + k) (depth + 1) ms

  pub deep_of_all : ℕ → ℕ → Members → Option ℕ
  deep_of_all at depth none = None
  deep_of_all at depth (more m ms) = option_or (deep_of at depth m) (deep_of_all (at + width m) depth ms)
