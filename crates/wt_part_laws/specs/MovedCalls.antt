-- Calls that are the same but for where they are in a page.
use Rattle.std.specs.Prelude.{◌≡◌, ℕ, List, [], ◌∷◌}
use Rattle.wt_span.specs.Origins.{OuterCall}
use Rattle.wt_part_laws.specs.Expanded.{moved_call}

-- one call, so many bytes later each
pub record IsMoved (c d : OuterCall) : Type 0 where
  pub call : OuterCall
  pub first : ℕ
  pub second : ℕ
  pub was : c ≡ moved_call first call
  pub now : d ≡ moved_call second call

abbrev pub AreMoved : List OuterCall → List OuterCall → Type 0
AreMoved [] [] = Unit {0}
AreMoved [] (d ∷ ds) = ⊥
AreMoved (c ∷ cs) [] = ⊥
AreMoved (c ∷ cs) (d ∷ ds) = IsMoved c d × AreMoved cs ds
