-- Where an expansion stops, and why.
use Rattle.std.specs.Prelude.{◌≡◌, ℕ, ◌+◌, Option, option_map, List, ◌∷◌, ◌++◌}
use Rattle.wt_expand.specs.Work.{Pages, Entry, braces_too_deep, too_large, not_utf8, too_long, fetches, firsts_after}
use Rattle.wt_expand.specs.Fronts.{Front, NextRefuses, NextFetches, cost_of_all, known_after}
use Rattle.wt_transclusion.specs.declared.refusal.ExpandRefusal.{ExpandRefusal}
use Rattle.wt_transclusion.specs.declared.refusal.ExpandRefusal.TheVariants as answer

-- The next entry is refused for this cause, where so much is spent; or it is the fetch that failed, of a page that wasn't fetched before.
-- Memory may be missing anywhere.
abbrev pub IsCause : Pages → List ℕ → ℕ → List (List ℕ) → List Entry → ExpandRefusal → Type 0
IsCause pages page spent met left (answer.BracesTooDeep title place) = NextRefuses pages page spent (braces_too_deep title place) left
IsCause pages page spent met left answer.TooLarge = NextRefuses pages page spent too_large left
IsCause pages page spent met left answer.FolderFault = NextFetches met left
IsCause pages page spent met left (answer.TemplateNotUtf8 title place) = NextRefuses pages page spent (not_utf8 title place) left
IsCause pages page spent met left (answer.TemplateTooLong title) = NextRefuses pages page spent (too_long title) left
IsCause pages page spent met left answer.NoMemory = Unit {0}

-- the names that are answered with those of this work, where some were met before
abbrev pub told_with : List (List ℕ) → List Entry → Option (List (List ℕ)) → Option (List (List ℕ))
told_with met es told = option_map (λ ns. ns ++ firsts_after met (fetches es)) told

-- Work stopped after a front of it, where so much was spent and these names were met before. The folder has answered the names of
-- this front since, each once, and no others; and what comes next is the cause.
pub record Stops (pages : Pages) (page : List ℕ) (spent : ℕ) (met : List (List ℕ)) (work : List Entry) (before now : Option (List (List ℕ)))
    (e : ExpandRefusal) : Type 0 where
  pub done : List Entry
  pub left : List Entry
  pub front : Front pages page spent work done left
  pub cause : IsCause pages page (spent + cost_of_all done) (known_after met (fetches done)) left e
  pub told : now ≡ told_with met done before

-- ---- what follows of it

-- a refusal of the page itself or of a template's: no fault of the folder, and no want of memory
abbrev pub IsOfPages : ExpandRefusal → Type 0
IsOfPages (answer.BracesTooDeep title place) = Unit {0}
IsOfPages answer.TooLarge = Unit {0}
IsOfPages answer.FolderFault = ⊥
IsOfPages (answer.TemplateNotUtf8 title place) = Unit {0}
IsOfPages (answer.TemplateTooLong title) = Unit {0}
IsOfPages answer.NoMemory = ⊥

-- some of these names were answered since, and the next of them wasn't
pub record AnswersFewer (names : List (List ℕ)) (before now : Option (List (List ℕ))) : Type 0 where
  pub told : List (List ℕ)
  pub title : List ℕ
  pub more : List (List ℕ)
  pub now_is : now ≡ option_map (λ ns. ns ++ told) before
  pub names_are : names ≡ told ++ title ∷ more
