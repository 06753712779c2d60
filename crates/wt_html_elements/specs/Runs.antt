-- Runs of bytes that stand for themselves, which are taken at once.
use Rattle.std.specs.Prelude.{ℕ, Bool, false, not, List, ◌∷◌, ◌++◌}
use Rattle.wt_html_grammar.specs.Signs.{in_text, in_value}
use Rattle.wt_html_grammar.specs.Machine.{State, inside, value, is_plain}
use Rattle.wt_html_grammar.specs.Events.{Building, with_open, with_value, add_bytes}

-- a byte of a text or of a value that stands for itself: the machine stays where it is
abbrev pub stays : State → ℕ → Bool
stays (inside (n ∷ ns)) b = is_plain in_text b
stays (value t q) b = is_plain (in_value q) b
stays s b = false

-- a byte at which a run of a value in this quote ends
abbrev pub ends_run : ℕ → ℕ → Bool
ends_run quote b = not (is_plain (in_value quote) b)

-- what is built from a run of such bytes
abbrev pub put_run : Building → State → List ℕ → Building
put_run x (value t q) bs = with_value x (x.value ++ bs)
put_run x s bs = with_open x (add_bytes x.opened bs)
