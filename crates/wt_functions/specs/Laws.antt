-- What holds of every function call, in other words.
use Rattle.std.specs.Prelude.{Bool, ◌≡◌, ℕ, ◌+◌, ◌<◌, ◌≤◌, List, ◌++◌, length, take, nat_lt, if◌then◌else◌}
use Rattle.std.specs.List.{AllPass}
use Rattle.wt_span.specs.declared.function.Function.{Function}
use Rattle.wt_span.specs.declared.function.Function.TheVariants.{If, IfEq, Switch}
use Rattle.wt_functions.specs.declared.chooser.Ask.TheVariants.{Tell, Give}
use Rattle.wt_span.specs.Bytes.{is_white, lower}
use Rattle.wt_span.specs.Functions.{word_of}
use Rattle.wt_functions.specs.Choice.{Telling, text_at, told_count, chosen, given, asked}

-- A target that names a function: blanks and line breaks, the function's word in any case, and anything; part 0 begins after
-- the word.
pub record NamesFunction (f : Function) (part_0 : ℕ) (target : List ℕ) : Type 0 where
  pub space : List ℕ
  pub word : List ℕ
  pub rest : List ℕ
  pub all : target ≡ space ++ (word ++ rest)
  pub is_white : AllPass is_white space
  pub is_word : lower word ≡ word_of f
  pub behind : part_0 ≡ length space + length word

-- a part that is told is there, and it is the next one
abbrev pub TellsInOrder : Telling → Type 0
TellsInOrder t = (part : ℕ) → asked t ≡ Tell part → (part ≡ length t.texts) × (part ≤ length t.equals)

-- a part that is given is there, and it isn't part 0
abbrev pub GivesAPart : Telling → Type 0
GivesAPart t = (part : ℕ) → asked t ≡ Give part → (0 < part) × (part ≤ length t.equals)

-- of `#if` part 0 alone is told, of `#ifeq` part 1 too, and of `#switch` no part after one that is equal to part 0
abbrev pub IsNeeded : Function → ℕ → List (List ℕ) → Type 0
IsNeeded If part texts = part ≡ 0
IsNeeded IfEq part texts = part ≤ 1
IsNeeded Switch part texts = (before : ℕ) → 0 < before → before < part → text_at texts before ≡ text_at texts 0 → ⊥

abbrev pub TellsWhatIsNeeded : Telling → Type 0
TellsWhatIsNeeded t = (part : ℕ) → asked t ≡ Tell part → IsNeeded t.function part t.texts

-- Over the texts of all parts: those that are told are asked for one after the other, and then the part is given that is chosen
-- from all of them.
abbrev pub AsksAlong : Function → List Bool → List (List ℕ) → Type 0
AsksAlong f equals texts =
    (n : ℕ) → n ≤ told_count f equals texts → asked (record { function = f; equals = equals; texts = take n texts })
    ≡ (if nat_lt n (told_count f equals texts) then Tell n else given (chosen f equals texts))

-- when further texts are told
abbrev pub with_more : Telling → List (List ℕ) → Telling
with_more t more = record t { texts = t.texts ++ more }

-- where nothing more is told, the texts of the other parts change nothing
abbrev pub IsForGood : Telling → Type 0
IsForGood t =
    ((part : ℕ) → asked t ≡ Tell part → ⊥) → (more : List (List ℕ)) → length (t.texts ++ more) ≤ length t.equals + 1
    → asked (with_more t more) ≡ asked t
