-- Calls of a text and their parts, where they are in it.
use Rattle.std.specs.Prelude.{◌≡◌, ◌<◌, ◌≤◌, ℕ, ◌+◌, ◌==◌, false, Option, Some, None, List, [], ◌∷◌, map, length, take, drop, slice_index}
use Rattle.wt_span.specs.declared.form.Mode.{Mode}
use Rattle.wt_span.specs.Characters as byte
use Rattle.wt_span.specs.Braces.{Member, Members, lexeme, listed, members, width_of_all}
use Rattle.wt_span.specs.declared.form.LexKind.TheVariants as lex
use Rattle.wt_braces.specs.PartMembers.{PartMembers, joined, rejoined, part_members, placed, width_of}
use Rattle.wt_braces.specs.Views.{part_of}
use Rattle.wt_expand.specs.Expansion.{Output, Reading, PartOutput, outputs_of}
use Rattle.wt_transclusion.specs.declared.read.Braces.{Braces}
use Rattle.wt_transclusion.specs.Cursors.{starts}
use Rattle.wt_transclusion.specs.Parts.{parts_given}
use Rattle.wt_transclusion.specs.Steps.{IsStretchOf, given_from}

-- ---- parts

-- the name of a part that begins at a place, and its value after the `=`, are in stretches
abbrev pub IsCut : Mode → List ℕ → ℕ → Option (List Member × ℕ) → List Member → Type 0
IsCut m t at None value = Unit {0}
IsCut m t at (Some (xs, n)) value = (n ≡ 1) × IsStretchOf m t at (at + width_of xs) xs
    × IsStretchOf m t (at + width_of xs + n) (at + width_of xs + n + width_of value) value

-- a part that begins at a place is in a stretch, which ends before `most`
pub record IsPartAt (m : Mode) (t : List ℕ) (most at : ℕ) (p : PartMembers) : Type 0 where
  pub all : IsStretchOf m t at (at + width_of (joined p.name p.value)) (joined p.name p.value)
  pub cut : IsCut m t at p.name p.value
  pub ends : at + width_of (joined p.name p.value) < most

-- where the part after one that begins at a place begins
abbrev pub next_place : ℕ → PartMembers → ℕ
next_place at p = at + width_of (joined p.name p.value) + p.bar

-- parts that follow one another from a place on
abbrev pub ArePartsAt : Mode → List ℕ → ℕ → ℕ → List PartMembers → Type 0
ArePartsAt m t most at [] = Unit {0}
ArePartsAt m t most at (p ∷ ps) = IsPartAt m t most at p × ArePartsAt m t most (next_place at p) ps

-- a `|` comes behind each part but the last one
abbrev pub HaveBars : List PartMembers → Type 0
HaveBars [] = Unit {0}
HaveBars (p ∷ []) = Unit {0}
HaveBars (p ∷ q ∷ ps) = (1 ≤ p.bar) × HaveBars (q ∷ ps)

-- a place comes before parts that begin at another one, if there are any
abbrev pub IsBefore : ℕ → ℕ → List PartMembers → Type 0
IsBefore place at [] = Unit {0}
IsBefore place at (p ∷ ps) = place < at

-- ---- calls

-- a call of a text, with its members
pub record IsCallOf (m : Mode) (t : List ℕ) (b : Braces) : Type 0 where
  pub at : ℕ
  pub braces : ℕ
  pub inside : Members
  pub start_is : b.at.start ≡ at
  pub end_is : b.at.end ≡ at + (braces + width_of_all inside + braces)
  pub kind_is : b.argument ≡ (braces == 3)
  pub parts_are : map part_of b.parts.now ≡ placed (at + braces) (part_members 0 inside)
  pub two : 2 ≤ braces
  pub opening : (i : ℕ) → i < braces → slice_index t (at + i) ≡ byte.opening_brace
  pub closing : (i : ℕ) → i < braces → slice_index t (at + (braces + width_of_all inside) + i) ≡ byte.closing_brace
  pub fits : b.at.end ≤ length t
  pub stretch : IsStretchOf m t (at + braces) (at + braces + width_of_all inside) (listed inside)
  pub parts_stand : ArePartsAt m t b.at.end (at + braces) (part_members 0 inside)

-- its source
abbrev pub source_of : (m : Mode) (t : List ℕ) (b : Braces) → IsCallOf m t b → List ℕ
source_of m t b c = take (c.braces + width_of_all c.inside + c.braces) (drop c.at t)

-- what its parts give
abbrev pub parts_of_call : (r : Reading) (t : List ℕ) (b : Braces) → IsCallOf r.mode t b → List PartOutput
parts_of_call r t b c = parts_given r false t (c.at + c.braces) (part_members 0 c.inside)

-- what its members give, one by one
abbrev pub outs_of_call : (r : Reading) (t : List ℕ) (b : Braces) → IsCallOf r.mode t b → List Output
outs_of_call r t b c = outputs_of r false (drop (c.at + c.braces) t) (members (listed c.inside))

-- ---- what comes after the first part

-- the members after it, with the `|` that ends it
abbrev pub members_behind : List PartMembers → List Member
members_behind [] = []
members_behind (p ∷ []) = []
members_behind (p ∷ q ∷ ps) = lexeme (lex.Pipe, p.bar) ∷ rejoined (q ∷ ps)

abbrev pub first_end : ℕ → List PartMembers → ℕ
first_end at [] = at
first_end at (p ∷ ps) = at + width_of (joined p.name p.value)

-- what they give
abbrev pub behind_given : (r : Reading) (t : List ℕ) (b : Braces) → IsCallOf r.mode t b → Output
behind_given r t b c =
    let ps = part_members 0 c.inside in
    let q = first_end (c.at + c.braces) ps in
    given_from r (starts t q) t q (members_behind ps)
