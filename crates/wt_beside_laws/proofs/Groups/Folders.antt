-- Texts beside calls in a folder: what these give there.
use Rattle.std.proofs.Common.{◌≡◌, ◌⊎◌, inl, inr, ℕ, ◌+◌, Bool, true, false, List, [], ◌∷◌, ◌++◌, length, map, refl, sym, ap, ◌∙◌, subst}
use Rattle.std.specs.List.{list_any}
use Rattle.wt_span.specs.Items.{Item}
use Rattle.wt_guards.specs.declared.role.Role.{Role}
use Rattle.wt_guards.specs.declared.role.Role.TheVariants.{Link, External, Bare, Switch, Toggle, Mark, Group, Function, Node}
use Rattle.wt_guards.specs.declared.role.Transclusion.{Transclusion}
use Rattle.wt_guards.specs.Content.{ContentSign, Thing, letter, thing, is_group}
use Rattle.wt_guards.specs.Guards.{Setting, is_guarded}
use Rattle.wt_guards.specs.Letters.{is_escaped}
use Rattle.wt_expand.specs.PageCalls.{numbered, page_stretches, expanded_page}
use Rattle.wt_expand.specs.Work.{Pages}
use Rattle.wt_inline.specs.declared.loose.Loose.TheVariants.{Text, Sep}
use Rattle.wt_inline.specs.Parts.{Part, loose, node, held_parts, parts}
use Rattle.wt_context.specs.Line.{line_parts}
use Rattle.wt_annotated.specs.Clean.{is_page}
use Rattle.wt_lines.specs.Lines.{IsUnbroken}
use Rattle.wt_tiles.specs.Glyphs.{glyph_of}
use Rattle.wt_part_laws.specs.CallPieces.{AreOwnOrGiven}
use Rattle.wt_beside_laws.specs.Called.{owns_in, parts_with, HasUncalled, IsOwnNode, IsGivenAs, AreGiven, AreOwnInside, IsCalledContent, GivesGroup, StaysAsItIs, StaysRound, IsOfFolder, AreOfFolder, IsCalledIn, AllEndSeen, IsCalledHeading, AllSeenIn, IsCalledInHeading}
use Rattle.wt_beside_laws.specs.Content.{guard_items, letter_items}
use Rattle.wt_beside_laws.specs.Flat.{IsFlat, AreFlat}
use Rattle.wt_beside_laws.specs.Given.{AreGivenBy, GivesSigns, IsGroup, is_bare_url}
use Rattle.wt_beside_laws.specs.NodeItems.{node_items}
use Rattle.wt_beside_laws.specs.RoundCalls.{IsRoundCalls}
use Rattle.wt_beside_laws.specs.Nodes.{IsNode, OpensNoPair}
use Rattle.wt_beside_laws.specs.Stood.{things}
use Rattle.wt_beside_laws.proofs.Groups.CalledBlocks.{held_left, held_right, page_given, some_guard, some_letter, some_of_page, some_page, some_round}

-- ---- a node

abbrev own_of : Pages → ℕ → Thing → List Item
own_of pages i t = numbered i (page_stretches pages t.source)

stays_given : (pages : Pages) (i : ℕ) (t : Thing) → StaysAsItIs pages t → IsOwnNode t (own_of pages i t)
stays_given pages i t h = record {
  node = subst (λ (xs : List Item). IsNode t.role (map glyph_of xs)) (sym (h.items i)) h.node;
  closed = subst (λ (xs : List Item). OpensNoPair (map glyph_of xs)) (sym (h.items i)) h.closed;
  inside = h.inside;
  unbroken = subst IsUnbroken (sym (h.items i)) h.unbroken;
}

either_given : (pages : Pages) (i : ℕ) (t : Thing) → StaysAsItIs pages t ⊎ StaysRound pages t → IsOwnNode t (own_of pages i t)
either_given pages i t (inl h) = stays_given pages i t h
either_given pages i t (inr r) = r.node i

pub given_as : (r : Role) (pages : Pages) (i : ℕ) (t : Thing) → IsOfFolder r pages t → IsGivenAs r t (own_of pages i t)
given_as Link pages i t h = either_given pages i t h
given_as External pages i t h = either_given pages i t h
given_as (Bare ends) pages i t h = stays_given pages i t h
given_as Switch pages i t h = stays_given pages i t h
given_as Toggle pages i t h = (h.items i, stays_given pages i t h)
given_as (Mark ends began) pages i t h = stays_given pages i t h
given_as (Group g) pages i t h = (i, h i)
given_as Function pages i t h = stays_given pages i t h
given_as Node pages i t h = either_given pages i t h

-- it stays as it is, or round calls, or is a group
abbrev pub FolderCase : Role → Pages → Thing → Type 0
FolderCase r pages t =
    (StaysAsItIs pages t × (is_group r ≡ false))
    ⊎ ((StaysRound pages t × (is_group r ≡ false) × (is_bare_url r ≡ false)) ⊎ ((g : Transclusion) × (r ≡ Group g) × GivesGroup pages g t.source))

either_case : (r : Role) (pages : Pages) (t : Thing) → is_group r ≡ false → is_bare_url r ≡ false → StaysAsItIs pages t ⊎ StaysRound pages t → FolderCase r pages t
either_case r pages t e f (inl h) = inl (h, e)
either_case r pages t e f (inr h) = inr (inl (h, e, f))

pub folder_case : (r : Role) (pages : Pages) (t : Thing) → IsOfFolder r pages t → FolderCase r pages t
folder_case Link pages t h = either_case Link pages t refl refl h
folder_case External pages t h = either_case External pages t refl refl h
folder_case (Bare ends) pages t h = inl (h, refl)
folder_case Switch pages t h = inl (h, refl)
folder_case Toggle pages t h = inl (h, refl)
folder_case (Mark ends began) pages t h = inl (h, refl)
folder_case (Group g) pages t h = inr (inr (g, refl, h))
folder_case Function pages t h = inl (h, refl)
folder_case Node pages t h = either_case Node pages t refl refl h

flat_in : (pages : Pages) (t : Thing) → IsOfFolder t.role pages t → IsFlat t.role
flat_in pages t h = elim (folder_case t.role pages t h) [
  | inl k ↦ let stays : StaysAsItIs pages t = k.0 in stays.flat
  | inr e ↦ elim e [
    | inl k ↦ let stays : StaysRound pages t = k.0 in stays.flat
    | inr k ↦ subst IsFlat (sym k.1) tt
  ]
]

-- what it is on a line by itself
pub given_by : (j : ℕ) (ps : List Part) → AreGivenBy j ps → AreOwnOrGiven ps
given_by j [] h = tt
given_by j (loose Text o b ∷ ps) h = given_by j ps h.1
given_by j (loose Sep o b ∷ ps) h = absurd h
given_by j (node t ∷ ps) h = (inr (j, h.0), given_by j ps h.1)

pub stays_inside : (pages : Pages) (i : ℕ) (t : Thing) → StaysAsItIs pages t → AreOwnOrGiven (line_parts (own_of pages i t))
stays_inside pages i t stays =
    subst (λ (xs : List Item). AreOwnOrGiven (line_parts xs)) (sym (stays.items i))
    (page_given (line_parts (node_items t.source)) (some_of_page (line_parts (node_items t.source)) stays.own))

pub group_inside : (pages : Pages) (i : ℕ) (g : Transclusion) (t : Thing) → GivesGroup pages g t.source → AreOwnOrGiven (line_parts (own_of pages i t))
group_inside pages i g t h =
    let group : IsGroup g i (own_of pages i t) = h i in
    let gives : GivesSigns i (own_of pages i t) = group.gives in
    given_by i (line_parts (own_of pages i t)) gives.inside

inside_in : (pages : Pages) (i : ℕ) (t : Thing) → IsOfFolder t.role pages t → AreOwnOrGiven (line_parts (own_of pages i t)) ⊎ IsRoundCalls (own_of pages i t)
inside_in pages i t h = elim (folder_case t.role pages t h) [
  | inl k ↦ inl (stays_inside pages i t k.0)
  | inr e ↦ elim e [
    | inl k ↦ let stays : StaysRound pages t = k.0 in inr (stays.round i)
    | inr k ↦ inl (group_inside pages i k.0 t k.2)
  ]
]

-- ---- something of it is the page's own

node_some : (pages : Pages) (i : ℕ) (t : Thing) → IsOfFolder t.role pages t → is_group t.role ≡ false
    → list_any is_page (held_parts (line_parts (own_of pages i t))) ≡ true
node_some pages i t h e = elim (folder_case t.role pages t h) [
  | inl k ↦
      let stays : StaysAsItIs pages t = k.0 in
      subst (λ (xs : List Item). list_any is_page (held_parts (line_parts xs)) ≡ true) (sym (stays.items i)) (some_page (line_parts (node_items t.source)) stays.own)
  | inr f ↦ elim f [
    | inl k ↦ let stays : StaysRound pages t = k.0 in some_round (own_of pages i t) (stays.round i)
    | inr k ↦ let no : true ≡ false = sym (ap is_group k.1) ∙ e in absurd (cc)
  ]
]

some_in : (pages : Pages) (i : ℕ) (s : Setting) (before signs : List ContentSign) → AreOfFolder pages signs → HasUncalled s before signs
    → list_any is_page (held_parts (parts_with s before signs (owns_in pages i signs))) ≡ true
some_in pages i s before [] g h = some_guard (is_guarded s before []) h
some_in pages i s before (letter c ∷ after) g h =
    let e : Bool = is_escaped s.within s.place before c after in
    let own : List Part = parts Text (letter_items e c) in
    let more : List Part = parts_with s (letter c ∷ before) after (owns_in pages i after) in
    held_right (parts Text (guard_items (is_guarded s before (letter c ∷ after)))) (own ++ more) (held_left own more (some_letter e c))
some_in pages i s before (thing t ∷ after) g h =
    let next : ℕ = i + length (expanded_page pages t.source).outer in
    let put : Bool = is_guarded s before (thing t ∷ after) in
    let own : List Part = line_parts (own_of pages i t) in
    let more : List Part = parts_with s (thing t ∷ before) after (owns_in pages next after) in
    elim h [
      | inl u ↦ held_left (parts Text (guard_items put)) (own ++ more) (some_guard put u)
      | inr r ↦
          held_right (parts Text (guard_items put)) (own ++ more)
          (elim r [
            | inl n ↦ held_left own more (node_some pages i t g.0 n)
            | inr m ↦ held_right own more (some_in pages next s (thing t ∷ before) after g.1 m)
          ])
    ]

-- ---- a content

all_given : (pages : Pages) (i : ℕ) (signs : List ContentSign) → AreOfFolder pages signs → AreGiven signs (owns_in pages i signs)
all_given pages i [] h = tt
all_given pages i (letter c ∷ after) h = all_given pages i after h
all_given pages i (thing t ∷ after) h = (given_as t.role pages i t h.0, all_given pages (i + length (expanded_page pages t.source).outer) after h.1)

all_flat : (pages : Pages) (signs : List ContentSign) → AreOfFolder pages signs → AreFlat signs
all_flat pages [] h = tt
all_flat pages (letter c ∷ after) h = all_flat pages after h
all_flat pages (thing t ∷ after) h = (flat_in pages t h.0, all_flat pages after h.1)

pub all_inside : (pages : Pages) (i : ℕ) (signs : List ContentSign) → AreOfFolder pages signs → AreOwnInside (owns_in pages i signs)
all_inside pages i [] h = tt
all_inside pages i (letter c ∷ after) h = all_inside pages i after h
all_inside pages i (thing t ∷ after) h = (inside_in pages i t h.0, all_inside pages (i + length (expanded_page pages t.source).outer) after h.1)

pub called_in : (pages : Pages) (i : ℕ) (s : Setting) (signs : List ContentSign) → IsCalledIn pages s signs → IsCalledContent s signs (owns_in pages i signs)
called_in pages i s signs h = record {
  of_block = h.of_block;
  characters = h.characters;
  given = all_given pages i signs h.given;
  flat = all_flat pages signs h.given;
  own = all_inside pages i signs h.given;
  meet = h.meet i;
  some = some_in pages i s [] signs h.given h.some;
}

-- ---- in a heading

pub all_seen : (pages : Pages) (i : ℕ) (signs : List ContentSign) → AllSeenIn pages (things signs) → AllEndSeen (owns_in pages i signs)
all_seen pages i [] h = tt
all_seen pages i (letter c ∷ after) h = all_seen pages i after h
all_seen pages i (thing t ∷ after) h =
    let own = h.0 i in (own.0, own.1, all_seen pages (i + length (expanded_page pages t.source).outer) after h.1)

pub heading_in : (pages : Pages) (i : ℕ) (s : Setting) (signs : List ContentSign) → IsCalledInHeading pages s signs → IsCalledHeading s signs (owns_in pages i signs)
heading_in pages i s signs h = record {
  of_block = h.of_block;
  of_heading = h.of_heading;
  one_line = h.one_line;
  characters = h.characters;
  given = all_given pages i signs h.given;
  flat = all_flat pages signs h.given;
  own = all_inside pages i signs h.given;
  meet = h.meet i;
  end_seen = all_seen pages i signs h.end_seen;
}
