-- A page that somebody typed as one paragraph.
use Rattle.std.specs.Prelude.{◌≡◌, ℕ, false, List}
use Rattle.std.specs.Str.{IsUtf8}
use Rattle.wt_guards.specs.Content.{letters}
use Rattle.wt_guards.specs.Guards.{Setting, spelled}

-- It is a text as some block spells it, and not as the inside of a link or tag.
pub record IsTypedPage (page : List ℕ) : Type 0 where
  pub setting : Setting
  pub text : List ℕ
  pub utf8 : IsUtf8 text
  pub of_block : setting.within ≡ false
  pub is : page ≡ spelled setting (letters text)
