-- How a text is read as a title, in the order of the steps. Texts are lists of bytes: 32 is a space, 35 `#`, 58 `:`, 95 `_`.
use Rattle.std.specs.Prelude.{ℕ, List, [], ◌∷◌, Bool, false, ◌&&◌, ◌==◌, Option, Some, None, option_map, unwrap_or, if◌then◌else◌, map, length}
use Rattle.std.specs.Char.{to_ascii_uppercase}
use Rattle.wt_span.specs.Characters as byte
use Rattle.wt_names.specs.declared.namespace.Ns.{Ns}
use Rattle.wt_names.specs.declared.namespace.Ns.TheVariants.{Main}
use Rattle.wt_names.specs.declared.title.Title.{Title}
use Rattle.wt_names.specs.Namespace.{namespace_named}

-- one byte for each one of another kind
abbrev pub replaced_byte : ℕ → ℕ → ℕ → ℕ
replaced_byte from to b = if b == from then to else b

abbrev pub replaced : ℕ → ℕ → List ℕ → List ℕ
replaced from to bs = map (replaced_byte from to) bs

-- each `_` is a space
abbrev pub spaced : List ℕ → List ℕ
spaced bs = replaced 95 32 bs

-- the text before the first such byte and the text after it, where there is one
abbrev pub split_once : ℕ → List ℕ → Option (List ℕ × List ℕ)
split_once sign [] = None
split_once sign (b ∷ bs) =
    if b == sign then Some ([], bs) else option_map (λ parts. (b ∷ parts.0, parts.1)) (split_once sign bs)

abbrev pub begins_with_space : List ℕ → Bool
begins_with_space [] = false
begins_with_space (b ∷ bs) = b == byte.space

-- runs of spaces become one: a space before another one is left out
abbrev pub squeezed : List ℕ → List ℕ
squeezed [] = []
squeezed (b ∷ bs) = if b == byte.space && begins_with_space bs then squeezed bs else b ∷ squeezed bs

-- without the spaces at its start, at its end, and at both
abbrev pub trimmed_start : List ℕ → List ℕ
trimmed_start [] = []
trimmed_start (b ∷ bs) = if b == byte.space then trimmed_start bs else b ∷ bs

abbrev pub trimmed_end : List ℕ → List ℕ
trimmed_end [] = []
trimmed_end (b ∷ bs) = if b == byte.space && length (trimmed_end bs) == 0 then [] else b ∷ trimmed_end bs

abbrev pub trimmed : List ℕ → List ℕ
trimmed bs = trimmed_end (trimmed_start bs)

-- the first character in upper case, where it is an ASCII letter
abbrev pub raised : List ℕ → List ℕ
raised [] = []
raised (b ∷ bs) = to_ascii_uppercase b ∷ bs

-- of a spaced text, cut at its first `#`: the part that names the page, and the fragment
abbrev pub page_part : Option (List ℕ × List ℕ) → List ℕ → List ℕ
page_part None text = text
page_part (Some parts) text = parts.0

abbrev pub fragment_part : Option (List ℕ × List ℕ) → Option (List ℕ)
fragment_part parts = option_map (λ p. trimmed p.1) parts

-- the part that names the page, with its spaces in order
unfoldable pub whole_in : List ℕ → List ℕ
whole_in text = trimmed (squeezed (page_part (split_once 35 text) text))

-- of the two parts round the first `:`: the namespace that the first one names, and the rest
abbrev pub named_part : Option (List ℕ × List ℕ) → Option (Ns × List ℕ)
named_part None = None
named_part (Some parts) = option_map (λ ns. (ns, trimmed parts.1)) (namespace_named (trimmed parts.0))

-- the namespace, and what is left of the part that names the page
unfoldable pub cut_namespace : List ℕ → Ns × List ℕ
cut_namespace whole = unwrap_or (named_part (split_once 58 whole)) (Main, whole)

abbrev pub title_from : Ns × List ℕ → Option (List ℕ) → Title
title_from part fragment = record { ns = part.0; name = raised part.1; fragment = fragment }

abbrev pub spaced_title : List ℕ → Title
spaced_title text = title_from (cut_namespace (whole_in text)) (fragment_part (split_once 35 text))

-- the title that a text names, good or not
unfoldable pub title_in : List ℕ → Title
title_in text = spaced_title (spaced text)
