-- What an editor sees of tokens.
use Rattle.std.specs.Prelude.{ℕ, List, map}
use Rattle.wt_checks.specs.Gist.{Features, features}
use Rattle.wt_difference.specs.Tokens.{Token, characters, opens, closes}

-- a text by its characters, an element by its number, kind, attributes, data and, of an entity, its character
pub data Seen : Type 0 where
  letters : List ℕ → Seen
  element : Features → Seen
  ended : Seen

abbrev pub seen : Token → Seen
seen (characters bs) = letters bs
seen (opens l) = element (features l)
seen closes = ended

abbrev pub all_seen : List Token → List Seen
all_seen ts = map seen ts
