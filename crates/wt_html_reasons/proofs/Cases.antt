-- Worked cases of the reasons, by what is open and begun at the place.
use Rattle.std.proofs.Common.{◌≡◌, ℕ, zero, suc, ◌≤◌, true, List, [], ◌∷◌, ◌++◌, length, refl, ap, lit<, codes, arith, inl, inr}
use Rattle.std.specs.Str.{IsUtf8}
use lib.Utf8.{encode}
use Rattle.wt_html_grammar.specs.declared.why.HtmlWhy.TheVariants as why
use Rattle.wt_html_grammar.specs.Grammar.{Attribute, none, Head}
use Rattle.wt_html_reasons.specs.Written.{Level, spell_levels, AreLevels, Within}
use Rattle.wt_html_reasons.specs.Reasons.{HoldsBetween, Holds, comes_before}
use Rattle.wt_html_reasons.proofs.Texts.{no_character}

no_head : Head
no_head = record { lead = []; doctype = []; gap = [] }

-- an open element with nothing in it
abbrev empty : List ℕ → Level
empty n = record { name = n; attributes = []; gap = []; contents = none }

within_i : Within (empty (codes "i") ∷ []) (codes "<i>")
unfolding no_head
within_i = (((lit< tt, (refl, tt), tt, tt, tt, refl), tt), (no_head, (tt, tt, tt), refl))

-- the name of another element: nothing of the open element's name is taken
crossing : Holds why.EndTag (codes "<i></b>") 5
crossing = (empty (codes "i"), [], codes "<i>", [], codes "i", within_i, refl, refl, λ e. absurd cc)

-- a name that goes on
longer : Holds why.EndTag (codes "<i></ix>") 6
longer = (empty (codes "i"), [], codes "<i>", codes "i", [], within_i, refl, refl, λ e. refl)

-- an input that ends in the name of an end tag: both hold, and the end is the first
both : Holds why.End (codes "<i></") 5 × Holds why.EndTag (codes "<i></") 5 × (comes_before why.End why.EndTag ≡ true)
both = (refl, (empty (codes "i"), [], codes "<i>", [], codes "i", within_i, refl, refl, λ e. absurd cc), refl)

-- an escape in a text, and one in a value
in_text : Holds why.Escape (codes "<i>&l;") 5
in_text = (codes "<i>", codes "l", inl (empty (codes "i"), [], within_i), refl, (refl, tt))

within_none : Within [] []
unfolding no_head
within_none = (tt, (no_head, (tt, tt, tt), refl))

in_value : Holds why.Escape (codes "<i a=\"&x") 7
in_value = (
  codes "<i a=\"",
  [],
  inr (
    [],
    codes "<i",
    a,
    ([], [], codes "i", within_none, lit< tt, (refl, tt), tt, refl),
    ((refl, tt), (refl, tt), tt, refl, tt, tt),
    refl,
    refl,
  ),
  refl,
  tt,
)
  where
    a : Attribute
    a = record { gap = codes " "; name = codes "a"; left = []; right = []; quote = 34; value = [] }

-- an attribute's name that came before
twice : Holds why.Repeated (codes "<i a='' a=''>") 9
twice = (
  a ∷ [],
  codes "<i a=''",
  codes " ",
  codes "a",
  ([], [], codes "i", within_none, lit< tt, (refl, tt), (((refl, tt), (refl, tt), tt, refl, tt, tt), refl, tt), refl),
  (refl, tt),
  (refl, tt),
  refl,
  refl,
  λ e. cc,
)
  where
    a : Attribute
    a = record { gap = codes " "; name = codes "a"; left = []; right = []; quote = 39; value = [] }

-- a byte that no text in UTF-8 has
i_utf8 : IsUtf8 (codes "<i>")
unfolding encode
i_utf8 = (codes "<i>", (refl, refl))

no_utf8 : Holds why.NotUtf8 (codes "<i>" ++ 255 ∷ []) 3
no_utf8 = no_character (codes "<i>") 255 i_utf8 refl

-- 200 elements in one another, and one more
nested : ℕ → List Level
nested zero = []
nested (suc n) = empty (codes "b") ∷ nested n

as_many : (n : ℕ) → length (nested n) ≡ n
unfolding nested
as_many zero = refl
as_many (suc n) = ap suc (as_many n)

are_nested : (n : ℕ) → n ≤ 200 → AreLevels (nested n)
unfolding nested
are_nested zero h = tt
are_nested (suc n) h = ((omega (arith, as_many n), (refl, tt), tt, tt, tt, refl), are_nested n (omega arith))

within_nested : Within (nested 200) (spell_levels (nested 200))
unfolding no_head
within_nested = (are_nested 200 (omega arith), (no_head, (tt, tt, tt), refl))

too_deep : HoldsBetween why.TooDeep (spell_levels (nested 200) ++ codes "<") (codes "b>")
too_deep = (nested 200, spell_levels (nested 200), within_nested, as_many 200, refl, refl)
