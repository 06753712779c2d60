-- The words of a call, as its caller gives them.
use Rattle.std.specs.Prelude.{ℕ, List, [], Option, Some, None, map}
use Rattle.wt_utf8.specs.Places.{not_utf8_place}
use Rattle.wt_replies.specs.declared.words.Word.{Word}

-- a word that isn't UTF-8 counts as the empty one, which no command has
abbrev pub word_by : List ℕ → Option ℕ → List ℕ
word_by bytes None = bytes
word_by bytes (Some place) = []

abbrev pub word_of : Word → List ℕ
word_of word = word_by word.bytes.now (not_utf8_place word.bytes.now)

abbrev pub words_of : List Word → List (List ℕ)
words_of words = map word_of words
