-- What is done of a text, and what is left of it.
use Rattle.std.specs.Prelude.{◌≡◌, ℕ, ◌+◌, true, None, List, [], ◌++◌}
use Rattle.wt_expand.specs.Expansion.{Output}
use Rattle.wt_expand.specs.Fronts.{cost_of_all}
use Rattle.wt_expand.specs.Work.{Pages, Entry, fetches, is_among, refusal_from}
use Rattle.wt_template_stack.specs.Rests.{with_work}

-- what had been spent when a text began, what was done of it since, and what is left
pub record Account : Type 0 where
  pub before : ℕ
  pub done : List Entry
  pub left : Output

-- nothing of a text is done
abbrev pub undone : ℕ → Output → Account
undone spent o = record { before = spent; done = []; left = o }

-- what is spent in all
abbrev pub spent_of : Account → ℕ
spent_of a = a.before + cost_of_all a.done

-- nothing that was done is refused
abbrev pub IsAllowed : Pages → List ℕ → Account → Type 0
IsAllowed pages page a = refusal_from pages page a.before a.done ≡ None

-- work that came first in what was left is done
pub record Does (work : List Entry) (total left : Account) : Type 0 where
  pub before_is : left.before ≡ total.before
  pub done_is : left.done ≡ total.done ++ work
  pub left_is : total.left ≡ with_work work left.left

-- each page that this work fetches was fetched before
abbrev pub AreFetched : List Entry → List Entry → Type 0
AreFetched before work = (name : List ℕ) → is_among name (fetches work) ≡ true → is_among name (fetches before) ≡ true

-- the last of what was done, before which so much had been spent
pub record IsLast (total : Account) (spent : ℕ) (work : List Entry) : Type 0 where
  pub earlier : List Entry
  pub done_is : total.done ≡ earlier ++ work
  pub spent_is : spent ≡ total.before + cost_of_all earlier
