-- Of which numbers something is so.
use Rattle.std.specs.Prelude.{ℕ, ◌<◌}

-- the first and the last number of which something is so, and that it is so of none
pub record IsFirst (P : ℕ → Type 0) (n : ℕ) : Type 0 where
  pub here : P n
  pub none_before : (m : ℕ) → m < n → P m → ⊥

pub record IsLast (P : ℕ → Type 0) (n : ℕ) : Type 0 where
  pub here : P n
  pub none_behind : (m : ℕ) → n < m → P m → ⊥

abbrev pub IsNowhere : (ℕ → Type 0) → Type 0
IsNowhere P = (n : ℕ) → P n → ⊥
