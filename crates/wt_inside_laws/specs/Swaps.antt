-- Two lists that differ in one stretch: bytes, lexemes, items, work or lines of a page before and after an edit of one block.
use Rattle.std.specs.Prelude.{◌≡◌, List, ◌++◌, map}

-- In place of the stretch `old` of one list the other has `new`; what comes before it and after it is the same.
pub record Swap {A : Type 0} (old new was now : List A) : Type 0 where
  pub before : List A
  pub behind : List A
  pub was_is : was ≡ before ++ (old ++ behind)
  pub now_is : now ≡ before ++ (new ++ behind)

-- the same, where what comes after was moved
pub record SwapBy {A : Type 0} (move : A → A) (old new was now : List A) : Type 0 where
  pub before : List A
  pub behind : List A
  pub was_is : was ≡ before ++ (old ++ behind)
  pub now_is : now ≡ before ++ (new ++ map move behind)
