-- The text that is taken of a template's page.
use Rattle.std.specs.Prelude.{ℕ, zero, suc, Bool, true, false, List, [], ◌∷◌, drop, codes, if◌then◌else◌}
use Rattle.wt_span.specs.Bytes.{begins}

unfoldable pub begins_only : List ℕ → Bool
begins_only bs = begins (codes "<onlyinclude>") bs

unfoldable pub ends_only : List ℕ → Bool
ends_only bs = begins (codes "</onlyinclude>") bs

-- a `</onlyinclude>` is somewhere
abbrev pub has_end : List ℕ → Bool
has_end [] = false
has_end (b ∷ bs) = if ends_only (b ∷ bs) then true else has_end bs

-- an `<onlyinclude>` is somewhere with a `</onlyinclude>` after it
abbrev pub has_only : List ℕ → Bool
has_only [] = false
has_only (b ∷ bs) = if begins_only (b ∷ bs) then has_end (drop 13 (b ∷ bs)) else has_only bs

-- What is between each `<onlyinclude>` and the next `</onlyinclude>` or the end, joined; the first n bytes lie in a tag, and
-- what follows is inside or not.
abbrev pub insides : ℕ → Bool → List ℕ → List ℕ
insides n inside [] = []
insides (suc n) inside (b ∷ bs) = insides n inside bs
insides zero false (b ∷ bs) = if begins_only (b ∷ bs) then insides 12 true bs else insides zero false bs
insides zero true (b ∷ bs) = if ends_only (b ∷ bs) then insides 13 false bs else b ∷ insides zero true bs

-- the text of a template: where it has `<onlyinclude>`, spelled so, with a later `</onlyinclude>`, only their insides
unfoldable pub template_text : List ℕ → List ℕ
template_text bs = if has_only bs then insides 0 false bs else bs
