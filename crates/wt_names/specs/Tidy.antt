-- What every title that is read is like, and the text that is read as it.
use Rattle.std.specs.Prelude.{◌≡◌, ℕ, List, [], ◌∷◌, ◌++◌, Bool, true, false, ◌||◌, ◌==◌, Option, Some, None, IfSome}
use Rattle.std.specs.List.{list_any}
use Rattle.wt_span.specs.Characters as byte
use Rattle.wt_names.specs.declared.namespace.Ns.TheVariants.{Main}
use Rattle.wt_names.specs.declared.title.Title.{Title}
use Rattle.wt_names.specs.Namespace.{full_name_of}
use Rattle.wt_names.specs.Reading.{split_once, squeezed, trimmed, raised, named_part}
use Rattle.wt_names.specs.Good.{is_forbidden, is_good}

-- a forbidden byte or `_`; and in a name also `#`
abbrev pub is_no_fragment_byte : ℕ → Bool
is_no_fragment_byte b = is_forbidden b || b == byte.underscore

abbrev pub is_no_name_byte : ℕ → Bool
is_no_name_byte b = is_no_fragment_byte b || b == byte.hash

-- the fragment has its bytes and no space at its ends
abbrev pub IsTidyFragment : List ℕ → Type 0
IsTidyFragment fragment = (list_any is_no_fragment_byte fragment ≡ false) × (trimmed fragment ≡ fragment)

-- the name has its bytes, single spaces, no space at its ends and a raised first letter; the name of a title in the main namespace
-- doesn't begin as one of another namespace; the conditions hold
pub record IsTidy (t : Title) : Type 0 where
  pub bytes : list_any is_no_name_byte t.name ≡ false
  pub single : squeezed t.name ≡ t.name
  pub ends : trimmed t.name ≡ t.name
  pub first : raised t.name ≡ t.name
  pub main : t.ns ≡ Main → named_part (split_once byte.colon t.name) ≡ None
  pub fragment : IfSome t.fragment IsTidyFragment
  pub good : is_good t ≡ true

-- the full name, and where there is a fragment `#` and it
abbrev pub fragment_suffix : Option (List ℕ) → List ℕ
fragment_suffix None = []
fragment_suffix (Some fragment) = byte.hash ∷ fragment

abbrev pub text_of : Title → List ℕ
text_of t = full_name_of t ++ fragment_suffix t.fragment
