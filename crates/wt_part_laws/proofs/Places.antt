-- Paragraphs and headings at their places, all at once: whatever they are, the tree is the same with them at the same places.
use Rattle.std.proofs.Common.{◌≡◌, ℕ, List, [], ◌∷◌, ◌++◌, refl, sym, ap, ap₂, ◌∙◌, subst, append_assoc}
use Rattle.wt_lines.specs.declared.kind.TheConstants.{MOST_TABLES}
use Rattle.wt_inline.specs.ItemTree.{ItemTree}
use Rattle.wt_inline.specs.Parts.{children}
use Rattle.wt_page.specs.Rows.{Row}
use Rattle.wt_page.specs.Stretches.{stretches_parts}
use Rattle.wt_page.specs.Body.{within, blocks}
use Rattle.wt_part_laws.specs.Frames.{content}
use Rattle.wt_part_laws.specs.Slots.{Slot, a_row, a_paragraph, a_heading, rows_at, numbers_of, AreAt, AreInCells, AreApart, AreFew, PlacesStand}
use Rattle.wt_part_laws.proofs.FrameFits.{frames_from, frames_children, frames_places, frames_in}
use Rattle.wt_part_laws.proofs.Contents.{Content, last, then_place, then_table, Groups, no_groups, more_groups, slot_rows, slot_numbers, content_rows, groups_rows, content_numbers, groups_numbers, IsContent, IsShallow, SlotAt, ContentAt, GroupsAt, within_is, content_fit}
use Rattle.wt_part_laws.proofs.Parsed.{rows_slots, content_slots, groups_slots, Rest, here, within as within_table, rest_slots, IsRest, parsed}

-- ---- rows

pub rows_join : (q : ℕ → List Row) (xs ys : List Slot) → rows_at q (xs ++ ys) ≡ rows_at q xs ++ rows_at q ys
rows_join q [] ys = refl
rows_join q (a_row r ∷ xs) ys = ap (λ rs. r ∷ rs) (rows_join q xs ys)
rows_join q (a_paragraph n a b ∷ xs) ys = ap (λ rs. q n ++ rs) (rows_join q xs ys) ∙ sym (append_assoc (q n) (rows_at q xs) (rows_at q ys))
rows_join q (a_heading n a b ∷ xs) ys = ap (λ rs. q n ++ rs) (rows_join q xs ys) ∙ sym (append_assoc (q n) (rows_at q xs) (rows_at q ys))

pub own_rows : (q : ℕ → List Row) (rs : List Row) → rows_at q (rows_slots rs) ≡ rs
own_rows q [] = refl
own_rows q (r ∷ rs) = ap (λ xs. r ∷ xs) (own_rows q rs)

slot_first : (q : ℕ → List Row) (s : Slot) (ss : List Slot) → rows_at q (s ∷ ss) ≡ slot_rows q s ++ rows_at q ss
slot_first q (a_row r) ss = refl
slot_first q (a_paragraph n a b) ss = refl
slot_first q (a_heading n a b) ss = refl

mutual
  content_is : (q : ℕ → List Row) (c : Content) → rows_at q (content_slots c) ≡ content_rows q c
  content_is q (last rs) = own_rows q rs
  content_is q (then_place rs s c) =
      rows_join q (rows_slots rs) (s ∷ content_slots c)
      ∙ ap₂ (λ xs ys. xs ++ ys) (own_rows q rs) (slot_first q s (content_slots c) ∙ ap (λ xs. slot_rows q s ++ xs) (content_is q c))
  content_is q (then_table rs f front gs l c) =
      let back : List Row = content_rows q c in
      rows_join q (rows_slots rs) (a_row f ∷ (rows_slots front ++ (groups_slots gs ++ a_row l ∷ content_slots c)))
      ∙ ap₂ (λ xs ys. xs ++ f ∷ ys) (own_rows q rs)
      (rows_join q (rows_slots front) (groups_slots gs ++ a_row l ∷ content_slots c)
      ∙ ap₂ (λ xs ys. xs ++ ys) (own_rows q front) (rows_join q (groups_slots gs) (a_row l ∷ content_slots c)
      ∙ ap₂ (λ xs ys. xs ++ l ∷ ys) (groups_are q gs) (content_is q c))
      ∙ sym (append_assoc front (groups_rows q gs) (l ∷ back))
      ∙ sym (append_assoc (front ++ groups_rows q gs) (l ∷ []) back))

  groups_are : (q : ℕ → List Row) (gs : Groups) → rows_at q (groups_slots gs) ≡ groups_rows q gs
  groups_are q no_groups = refl
  groups_are q (more_groups r c gs) =
      ap (λ xs. r ∷ xs) (rows_join q (content_slots c) (groups_slots gs) ∙ ap₂ (λ xs ys. xs ++ ys) (content_is q c) (groups_are q gs))

-- ---- numbers

pub numbers_join : (xs ys : List Slot) → numbers_of (xs ++ ys) ≡ numbers_of xs ++ numbers_of ys
numbers_join [] ys = refl
numbers_join (a_row r ∷ xs) ys = numbers_join xs ys
numbers_join (a_paragraph n a b ∷ xs) ys = ap (λ ns. n ∷ ns) (numbers_join xs ys)
numbers_join (a_heading n a b ∷ xs) ys = ap (λ ns. n ∷ ns) (numbers_join xs ys)

pub no_numbers : (rs : List Row) (ss : List Slot) → numbers_of (rows_slots rs ++ ss) ≡ numbers_of ss
no_numbers [] ss = refl
no_numbers (r ∷ rs) ss = no_numbers rs ss

pub row_numbers : (rs : List Row) → numbers_of (rows_slots rs) ≡ []
row_numbers [] = refl
row_numbers (r ∷ rs) = row_numbers rs

slot_number : (s : Slot) (ss : List Slot) → numbers_of (s ∷ ss) ≡ slot_numbers s ++ numbers_of ss
slot_number (a_row r) ss = refl
slot_number (a_paragraph n a b) ss = refl
slot_number (a_heading n a b) ss = refl

mutual
  content_numbered : (c : Content) → numbers_of (content_slots c) ≡ content_numbers c
  content_numbered (last rs) = row_numbers rs
  content_numbered (then_place rs s c) =
      no_numbers rs (s ∷ content_slots c) ∙ slot_number s (content_slots c) ∙ ap (λ ns. slot_numbers s ++ ns) (content_numbered c)
  content_numbered (then_table rs f front gs l c) =
      no_numbers rs (a_row f ∷ (rows_slots front ++ (groups_slots gs ++ a_row l ∷ content_slots c)))
      ∙ no_numbers front (groups_slots gs ++ a_row l ∷ content_slots c)
      ∙ numbers_join (groups_slots gs) (a_row l ∷ content_slots c)
      ∙ ap₂ (λ ms ns. ms ++ ns) (groups_numbered gs) (content_numbered c)

  groups_numbered : (gs : Groups) → numbers_of (groups_slots gs) ≡ groups_numbers gs
  groups_numbered no_groups = refl
  groups_numbered (more_groups r c gs) = numbers_join (content_slots c) (groups_slots gs) ∙ ap₂ (λ ms ns. ms ++ ns) (content_numbered c) (groups_numbered gs)

-- ---- what is at the places

at_first : (xs ys : List Slot) (q : ℕ → List Row) (t : ℕ → ItemTree) → AreAt (xs ++ ys) q t → AreAt xs q t
at_first [] ys q t h = tt
at_first (a_row r ∷ xs) ys q t h = at_first xs ys q t h
at_first (a_paragraph n a b ∷ xs) ys q t h = (h.0, h.1, at_first xs ys q t h.2)
at_first (a_heading n a b ∷ xs) ys q t h = (h.0, at_first xs ys q t h.1)

at_rest : (xs ys : List Slot) (q : ℕ → List Row) (t : ℕ → ItemTree) → AreAt (xs ++ ys) q t → AreAt ys q t
at_rest [] ys q t h = h
at_rest (a_row r ∷ xs) ys q t h = at_rest xs ys q t h
at_rest (a_paragraph n a b ∷ xs) ys q t h = at_rest xs ys q t h.2
at_rest (a_heading n a b ∷ xs) ys q t h = at_rest xs ys q t h.1

slot_is : (E : Type 0) (p : E → ℕ → List Row) (t : E → ℕ → ItemTree) (s : Slot) (ss : List Slot) → ((e : E) → AreAt (s ∷ ss) (p e) (t e)) → SlotAt E p t s
slot_is E p t (a_row r) ss h = tt
slot_is E p t (a_paragraph n a b) ss h = λ e. ((h e).0, (h e).1)
slot_is E p t (a_heading n a b) ss h = λ e. (h e).0

past_slot : (s : Slot) (ss : List Slot) (q : ℕ → List Row) (t : ℕ → ItemTree) → AreAt (s ∷ ss) q t → AreAt ss q t
past_slot (a_row r) ss q t h = h
past_slot (a_paragraph n a b) ss q t h = h.2
past_slot (a_heading n a b) ss q t h = h.1

mutual
  content_at : (E : Type 0) (p : E → ℕ → List Row) (t : E → ℕ → ItemTree) (c : Content) → ((e : E) → AreAt (content_slots c) (p e) (t e)) → ContentAt E p t c
  content_at E p t (last rs) h = tt
  content_at E p t (then_place rs s c) h =
      let own : (e : E) → AreAt (s ∷ content_slots c) (p e) (t e) = λ e. at_rest (rows_slots rs) (s ∷ content_slots c) (p e) (t e) (h e) in
      (slot_is E p t s (content_slots c) own, content_at E p t c (λ e. past_slot s (content_slots c) (p e) (t e) (own e)))
  content_at E p t (then_table rs f front gs l c) h =
      let back : List Slot = a_row l ∷ content_slots c in
      let own : (e : E) → AreAt (groups_slots gs ++ back) (p e) (t e) =
      λ e. at_rest (rows_slots front) (groups_slots gs ++ back) (p e) (t e)
      (at_rest (rows_slots rs) (a_row f ∷ (rows_slots front ++ (groups_slots gs ++ back))) (p e) (t e) (h e)) in
      (groups_at E p t gs (λ e. at_first (groups_slots gs) back (p e) (t e) (own e)), content_at E p t c (λ e. at_rest (groups_slots gs) back (p e) (t e) (own e)))

  groups_at : (E : Type 0) (p : E → ℕ → List Row) (t : E → ℕ → ItemTree) (gs : Groups) → ((e : E) → AreAt (groups_slots gs) (p e) (t e)) → GroupsAt E p t gs
  groups_at E p t no_groups h = tt
  groups_at E p t (more_groups r c gs) h = (
    content_at E p t c (λ e. at_first (content_slots c) (groups_slots gs) (p e) (t e) (h e)),
    groups_at E p t gs (λ e. at_rest (content_slots c) (groups_slots gs) (p e) (t e) (h e)),
  )

-- ---- the body

abbrev Fillings : List Slot → Type 0
Fillings ss = (q : ℕ → List Row) × (t : ℕ → ItemTree) × AreAt ss q t

content_stands : (ss : List Slot) (c : Content) → IsContent c → IsShallow MOST_TABLES c → content_slots c ≡ ss → PlacesStand ss
unfolding blocks
content_stands ss c h s e =
    let E : Type 0 = Fillings ss in
    let p : E → ℕ → List Row = λ f. f.0 in
    let t : E → ℕ → ItemTree = λ f. f.1 in
    let at : ContentAt E p t c = content_at E p t c (λ f. subst (λ xs. AreAt xs f.0 f.1) (sym e) f.2) in
    let fit = content_fit E p t MOST_TABLES c h s at in
    record {
      frames = frames_from [] fit.frames;
      of_cells = frames_in content [] fit.frames fit.held;
      in_order = frames_places [] fit.frames ∙ fit.order ∙ sym (content_numbered c) ∙ ap numbers_of e;
      stands = λ q u k.
          ap (λ xs. children (stretches_parts (within MOST_TABLES (rows_at q xs)))) (sym e)
          ∙ ap (λ rs. children (stretches_parts (within MOST_TABLES rs))) (content_is q c)
          ∙ ap (λ ss. children (stretches_parts ss)) (within_is MOST_TABLES (content_rows q c) ∙ fit.is (q, u, k))
          ∙ frames_children u [] fit.frames;
    }

pub places_stand : (ss : List Slot) → AreInCells [] ss → AreApart ss → AreFew MOST_TABLES [] ss → PlacesStand ss
places_stand ss h a f = let p = parsed MOST_TABLES [] ss h a f in by_rest p.rest p.is p.slots
  where
    by_rest : (rest : Rest) → IsRest MOST_TABLES [] rest → rest_slots rest ≡ ss → PlacesStand ss
    by_rest (here c) is e = content_stands ss c is.0 is.1 e
    by_rest (within_table c gs l rest) is e = absurd is
