-- The first element that doesn't fit, without going over the tree: all elements in document order,
-- each with its number, where it is and how, and what is wrong with each by itself.
use Rattle.std.specs.Prelude.{◌≡◌, ℕ, suc, ◌+◌, ◌++◌, ◌&&◌, ◌||◌, Bool, true, false, not, is_some, Option, Some, None, List, [], ◌∷◌, map, find}
use Rattle.std.specs.List.{AllByRecursion}
use Rattle.std.specs.Option.{option_map}
use Rattle.wt_tree.specs.declared.kind.Kind.{Kind}
use Rattle.wt_tree.specs.declared.kind.Kind.TheVariants as kind
use Rattle.wt_tree.specs.Kinds.{is_section}
use Rattle.wt_html_grammar.specs.Markup.{Pair, Markup, Markups, text, node, empty, more}
use Rattle.wt_schema.specs.declared.why.FitWhy.{FitWhy}
use Rattle.wt_schema.specs.declared.why.FitWhy.TheVariants as why
use Rattle.wt_schema.specs.declared.standing.Standing.{Standing}
use Rattle.wt_schema.specs.declared.standing.Standing.TheVariants as stands
use Rattle.wt_schema.specs.Groups.{standing, open_after, is_grouped}
use Rattle.wt_schema.specs.Data.{Data, data_for}
use Rattle.wt_schema.specs.Unsourced.{is_marked, is_unsourced}
use Rattle.wt_schema.specs.Fit.{BodyElement, elements, row_as, is_block_element, fits_place, body_data, text_fits}

-- An element with its number, its parent's kind and its own, whether it is in a group and after a block,
-- and how it is. The body's parent has no kind, and neither has an element that is no row.
pub record Place : Type 0 where
  pub number : ℕ
  pub parent : Option Kind
  pub inside : Bool
  pub behind : Bool
  pub standing : Standing
  pub kind : Option Kind
  pub attributes : List Pair
  pub contents : Markups

abbrev pub place : ℕ → Option Kind → Bool → Bool → Standing → Option Kind → List Pair → Markups → Place
place n p inside behind s k ps c =
    record { number = n; parent = p; inside = inside; behind = behind; standing = s; kind = k; attributes = ps; contents = c }

-- `group` is the group that is open before it
abbrev mutual
  pub places : ℕ → Option Kind → Bool → Bool → Option (List ℕ) → Markup → List Place
  places n p inside behind group (text bs) = []
  places n p inside behind group (node name ps c) =
      place n p inside behind (standing group ps) (row_as (standing group ps) name ps) ps c
      ∷ places_of_all (suc n) (row_as (standing group ps) name ps) (inside || is_grouped (standing group ps)) false None c

  pub places_of_all : ℕ → Option Kind → Bool → Bool → Option (List ℕ) → Markups → List Place
  places_of_all n p inside behind group empty = []
  places_of_all n p inside behind group (more t ts) =
      places n p inside behind group t ++ places_of_all (n + elements t) p inside (behind || is_block_element group t) (open_after group t ts) ts

-- the body, and all below it
abbrev pub places_of_body : BodyElement → List Place
places_of_body f =
    place f.number None false false stands.Alone (Some kind.Body) f.attributes f.contents
    ∷ places_of_all (suc f.number) (Some kind.Body) false false None f.contents

-- ---- which elements have no source

-- of a group the first element alone is asked, and what is in one is not
abbrev pub is_asked : Bool → Standing → Bool
is_asked inside stands.Alone = not inside
is_asked inside stands.First = not inside
is_asked inside stands.Further = false
is_asked inside stands.Astray = not inside

abbrev pub is_section_row : Option Kind → Bool
is_section_row None = false
is_section_row (Some k) = is_section k

-- an element's number, and whether it is asked, is no section, and has no source or has the mark of an edit
abbrev pub source_at : Place → ℕ × Bool
source_at x = (x.number, is_asked x.inside x.standing && (not (is_section_row x.kind) && is_unsourced x.attributes))

-- the body, which needs no source, and all below it
abbrev pub sources_of_body : BodyElement → List (ℕ × Bool)
sources_of_body f = (f.number, is_marked f.attributes) ∷ map source_at (places_of_all (suc f.number) (Some kind.Body) false false None f.contents)

-- the number of the first of them that has none
abbrev pub first_unsourced : List (ℕ × Bool) → Option ℕ
first_unsourced xs = option_map (λ (x : ℕ × Bool). x.0) (find (λ (x : ℕ × Bool). x.1) xs)

-- ---- what is wrong with an element

abbrev pub is_misplaced : Option Kind → Bool → Standing → Option Kind → Markups → Bool
is_misplaced None behind s k c = false
is_misplaced (Some p) behind s None c = false
is_misplaced (Some p) behind s (Some k) c = not (fits_place p behind s k c)

-- the data of the body, or of an element in a parent
abbrev pub data_at : Option Kind → Bool → Standing → Kind → List Pair → Option Data
data_at None inside s k ps = body_data ps
data_at (Some p) inside s k ps = data_for inside s k ps

abbrev pub has_bad_data : Option Kind → Bool → Standing → Option Kind → List Pair → Bool
has_bad_data p inside s None ps = false
has_bad_data p inside s (Some k) ps = not (is_some (data_at p inside s k ps))

abbrev pub has_other_text : Option Kind → Markups → Bool
has_other_text None c = false
has_other_text (Some k) c = not (text_fits k c)

-- it is no row, it may not be there, its data are bad, text is in it that may not
abbrev pub is_wrong : FitWhy → Place → Bool
is_wrong why.Root x = false
is_wrong why.Element x = not (is_some x.kind)
is_wrong why.Place x = is_misplaced x.parent x.behind x.standing x.kind x.contents
is_wrong why.Data x = has_bad_data x.parent x.inside x.standing x.kind x.attributes
is_wrong why.Text x = has_other_text x.kind x.contents

-- this reason holds, and none before it
abbrev pub IsReason : FitWhy → Place → Type 0
IsReason why.Root x = ⊥
IsReason why.Element x = is_wrong why.Element x ≡ true
IsReason why.Place x = (is_wrong why.Element x ≡ false) × (is_wrong why.Place x ≡ true)
IsReason why.Data x = (is_wrong why.Element x ≡ false) × (is_wrong why.Place x ≡ false) × (is_wrong why.Data x ≡ true)
IsReason why.Text x = (is_wrong why.Element x ≡ false) × (is_wrong why.Place x ≡ false) × (is_wrong why.Data x ≡ false) × (is_wrong why.Text x ≡ true)

-- none holds
abbrev pub FitsAlone : Place → Type 0
FitsAlone x = (is_wrong why.Element x ≡ false) × (is_wrong why.Place x ≡ false) × (is_wrong why.Data x ≡ false) × (is_wrong why.Text x ≡ false)

-- all before one fit, and this reason is the first that holds of it
pub record FirstMisfit (xs : List Place) (n : ℕ) (w : FitWhy) : Type 0 where
  pub before : List Place
  pub here : Place
  pub behind : List Place
  pub parts : xs ≡ before ++ here ∷ behind
  pub fit : AllByRecursion FitsAlone before
  pub number : here.number ≡ n
  pub reason : IsReason w here
