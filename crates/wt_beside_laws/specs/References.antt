-- Texts in which no reference begins that goes on in what is behind them.
use Rattle.std.specs.Prelude.{◌≡◌, ◌⊎◌, ℕ, ◌==◌, ◌||◌, Bool, true, false, List, [], ◌∷◌, codes}
use Rattle.std.specs.Char.{is_ascii_alphanumeric}
use Rattle.std.specs.List.{list_all}
use Rattle.wt_span.specs.Bytes.{begins}
use Rattle.wt_span.specs.Characters as byte
use Rattle.wt_span.specs.Entities.{entity_names}

-- a letter, a digit or a `#`: of a reference, between its `&` and its `;`
abbrev pub is_reference_byte : ℕ → Bool
is_reference_byte b = is_ascii_alphanumeric b || b == byte.hash

-- a name of an entity begins with these bytes, or is these
abbrev pub begins_name : List (List ℕ × ℕ) → List ℕ → Bool
begins_name [] bs = false
begins_name ((name, c) ∷ entries) bs = begins bs name || begins_name entries bs

-- a reference may begin with these bytes: `&c`, `&copy` and `&#1`, but not `&action`
abbrev pub may_be_reference : List ℕ → Bool
may_be_reference bs = begins_name entity_names bs || begins (codes "&#") bs

-- Behind each `&` comes a byte that is none of a reference, or no reference begins so: then none is one with what follows.
abbrev pub ReferencesEnd : List ℕ → Type 0
ReferencesEnd [] = Unit {0}
ReferencesEnd (b ∷ bs) = ((b == byte.ampersand) ≡ true → (list_all is_reference_byte bs ≡ false) ⊎ (may_be_reference (b ∷ bs) ≡ false)) × ReferencesEnd bs
