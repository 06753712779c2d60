-- Two calls of a sink, one after the other.
use Rattle.std.specs.Prelude.{◌≡◌, ℕ, suc, ◌==◌, if◌then◌else◌, List, [], ◌∷◌}
use Rattle.wt_commands.specs.Devices.{SinkUse}

-- the second call begins with what the first one left
pub record Meet (first second : SinkUse) : Type 0 where
  pub taken : first.taken_after ≡ second.taken_before
  pub count : first.faults_after ≡ second.faults_before

-- both of them as one
abbrev pub both : SinkUse → SinkUse → SinkUse
both first second = record {
  taken_before = first.taken_before;
  taken_after = second.taken_after;
  faults_before = first.faults_before;
  faults_after = second.faults_after;
}

-- how many numbers aren't 0
abbrev pub others_than_zero : List ℕ → ℕ
others_than_zero [] = 0
others_than_zero (n ∷ ns) = (if n == 0 then others_than_zero ns else suc (others_than_zero ns))
