-- Worked cases: styles that calls give, beside the page's own.
use Rattle.std.proofs.Common.{◌≡◌, ℕ, true, false, Option, Some, None, List, [], ◌∷◌, ◌++◌, map, refl}
use Rattle.std.specs.Prelude.{codes}
use Rattle.wt_span.specs.Items.{char}
use Rattle.wt_inline.specs.declared.loose.Loose.TheVariants.{Text}
use Rattle.wt_inline.specs.Parts.{Part, node, part}
use Rattle.wt_context.specs.Segments.{Segment, loose_segment}
use Rattle.wt_context.specs.Styled.{with_styles}
use Rattle.wt_beside_laws.specs.Nests.{Nest, stretch, enclosing, IsNest, style_of}
use Rattle.wt_beside_laws.proofs.Styled.NestForests.{nests_read}

abbrev segments : Option ℕ → List ℕ → List Segment
segments origin bs = map (λ b. loose_segment (char origin b ∷ [])) bs

abbrev text : Option ℕ → ℕ → Part
text origin b = part Text (char origin b)

-- `''b''`, all of it from this call
abbrev italic : Nest
italic = enclosing (Some 0) [] false (stretch (segments (Some 0) (codes "b"))) (stretch [])

pub italic_nests : IsNest false false italic []
italic_nests = (refl, refl, refl, refl, (refl, λ b. refl), refl, (refl, λ b. refl))

pub italic_read : with_styles (segments (Some 0) (codes "''b''")) ≡ node (style_of (Some 0) false (text (Some 0) 98 ∷ [])) ∷ []
italic_read = nests_read italic italic_nests

-- a call's style between two texts of the page, and one of the page behind it: `x ''b'', '''c'''`
abbrev among : Nest
among =
    enclosing (Some 0) (segments None (codes "x ")) false (stretch (segments (Some 0) (codes "b")))
    (enclosing None (segments None (codes ", ")) true (stretch (segments None (codes "c"))) (stretch []))

pub among_nests : IsNest false false among []
among_nests = (refl, refl, refl, refl, (refl, λ b. refl), refl, (refl, refl, refl, refl, (refl, λ b. refl), refl, (refl, λ b. refl)))

pub among_read : with_styles (segments None (codes "x ") ++ (segments (Some 0) (codes "''b''") ++ segments None (codes ", '''c'''")))
    ≡ text None 120 ∷ text None 32 ∷ node (style_of (Some 0) false (text (Some 0) 98 ∷ [])) ∷ text None 44 ∷ text None 32
    ∷ node (style_of None true (text None 99 ∷ [])) ∷ []
among_read = nests_read among among_nests

-- with nothing inside it is none
none_inside : IsNest false false (enclosing (Some 0) [] false (stretch []) (stretch [])) [] → true ≡ false
none_inside h = h.3
