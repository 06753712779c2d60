-- The source of a raw tag (`nowiki`, or an extension's) in three: its opening tag, its inside and its closing tag.
use Rattle.std.specs.Prelude.{ℕ, ◌+◌, Bool, false, Option, Some, None, List, [], ◌∷◌, take, drop, is_some, if◌then◌else◌}
use Rattle.wt_span.specs.Tags.{Tag, opening_tag, closing_tag, len_if_named}

-- how many bytes come before the next closing tag of this name; all where there is none
abbrev pub before_closing : List ℕ → List ℕ → ℕ
before_closing name [] = 0
before_closing name (b ∷ bs) = if is_some (len_if_named name (closing_tag (b ∷ bs))) then 0 else 1 + before_closing name bs

abbrev pub len_of : Option Tag → ℕ
len_of None = 0
len_of (Some t) = t.len

abbrev pub name_of : Option Tag → List ℕ
name_of None = []
name_of (Some t) = t.name

abbrev pub is_alone : Option Tag → Bool
is_alone None = false
is_alone (Some t) = t.alone

-- how many bytes its opening tag has; one that closes itself has nothing else
abbrev pub opening_len : List ℕ → ℕ
opening_len bs = len_of (opening_tag bs)

-- what comes after the opening tag
abbrev pub behind : List ℕ → List ℕ
behind bs = drop (opening_len bs) bs

-- how many bytes its inside has: all before its closing tag
abbrev pub inside_len : List ℕ → ℕ
inside_len bs = before_closing (name_of (opening_tag bs)) (behind bs)

abbrev pub opening_of : List ℕ → List ℕ
opening_of bs = take (opening_len bs) bs

abbrev pub inside_of : List ℕ → List ℕ
inside_of bs = take (inside_len bs) (behind bs)

abbrev pub closing_of : List ℕ → List ℕ
closing_of bs = drop (inside_len bs) (behind bs)
