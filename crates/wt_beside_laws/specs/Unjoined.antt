-- What is written behind a bare URL of a content: the URL may end with the beginning of a reference, such as `&copy`.
use Rattle.std.specs.Prelude.{ℕ, List, [], ◌∷◌}
use Rattle.wt_guards.specs.declared.role.Role.{Role}
use Rattle.wt_guards.specs.declared.role.Role.TheVariants.{Link, External, Bare, Switch, Toggle, Mark, Group, Function, Node}
use Rattle.wt_guards.specs.Content.{ContentSign, letter, thing}
use Rattle.wt_guards.specs.Guards.{Setting, spelled_from}
use Rattle.wt_text_edit_laws.specs.ReadContents.{BeginsUnjoined}

-- no reference goes on with what is behind it
abbrev pub IsUnjoined : Role → List ℕ → Type 0
IsUnjoined Link more = Unit {0}
IsUnjoined External more = Unit {0}
IsUnjoined (Bare ends) more = BeginsUnjoined more
IsUnjoined Switch more = Unit {0}
IsUnjoined Toggle more = Unit {0}
IsUnjoined (Mark ends began) more = Unit {0}
IsUnjoined (Group g) more = Unit {0}
IsUnjoined Function more = Unit {0}
IsUnjoined Node more = Unit {0}

-- so behind each bare URL, by what is written there
abbrev pub AllUnjoined : Setting → List ContentSign → List ContentSign → Type 0
AllUnjoined s before [] = Unit {0}
AllUnjoined s before (letter c ∷ after) = AllUnjoined s (letter c ∷ before) after
AllUnjoined s before (thing t ∷ after) = IsUnjoined t.role (spelled_from s (thing t ∷ before) after) × AllUnjoined s (thing t ∷ before) after
