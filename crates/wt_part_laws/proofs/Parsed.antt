-- Rows and places, parsed by their tables: from the last on, with what is behind them in each table that is open.
use Rattle.std.proofs.Common.{◌≡◌, ◌<◌, ◌-◌, ℕ, zero, suc, Bool, true, false, List, [], ◌∷◌, ◌++◌, length, map, refl, sym, ap, ap₂, ◌∙◌, subst, append_assoc, arith, inl, inr}
use Rattle.std.specs.Prelude.{◌&&◌}
use Rattle.std.specs.List.{AllByRecursion}
use Rattle.std.proofs.lemmas.List.{map-append}
use Rattle.wt_lines.specs.declared.kind.LineKind.{LineKind}
use Rattle.wt_lines.specs.declared.kind.LineKind.TheVariants as line
use Rattle.wt_tables.specs.Parts.{begins_part, begins_group, is_row}
use Rattle.wt_inline.specs.ItemTree.{ItemTree}
use Rattle.wt_page.specs.Rows.{Row, kind_of}
use Rattle.wt_page.specs.Texts.{para}
use Rattle.wt_part_laws.specs.Rounds.{AreContent}
use Rattle.wt_part_laws.specs.Slots.{top_is, open_behind, AllTrue, Slot, a_row, a_paragraph, a_heading, AreInCells, BeginsApart, AreApart, AreFew}
use Rattle.wt_part_laws.proofs.Falling.{IsOther, sort}
use Rattle.wt_part_laws.proofs.InCells.{one_level, alone_first, content_join, level_join}
use Rattle.wt_part_laws.proofs.Contents.{Content, last, then_place, then_table, Groups, no_groups, more_groups, content_rows, groups_rows, NotTextFirst, SlotApart, HasNoPlaces, IsContent, AreGroups, IsShallow, AreShallow, ContentAt, GroupsAt, table_whole, groups_level}

-- ---- slots of contents

abbrev pub rows_slots : List Row → List Slot
rows_slots rs = map a_row rs

abbrev mutual
  pub content_slots : Content → List Slot
  content_slots (last rs) = rows_slots rs
  content_slots (then_place rs s c) = rows_slots rs ++ s ∷ content_slots c
  content_slots (then_table rs f front gs l c) = rows_slots rs ++ a_row f ∷ (rows_slots front ++ (groups_slots gs ++ a_row l ∷ content_slots c))

  pub groups_slots : Groups → List Slot
  groups_slots no_groups = []
  groups_slots (more_groups r c gs) = a_row r ∷ (content_slots c ++ groups_slots gs)

-- ---- what is behind a row

-- The rest of the body; or of a cell, the other parts of the table, its last row, and what is behind the table.
pub data Rest : Type 0 where
  here : Content → Rest
  within : Content → Groups → Row → Rest → Rest

abbrev pub rest_slots : Rest → List Slot
rest_slots (here c) = content_slots c
rest_slots (within c gs l rest) = content_slots c ++ (groups_slots gs ++ a_row l ∷ rest_slots rest)

abbrev pub current : Rest → Content
current (here c) = c
current (within c gs l rest) = c

abbrev pub all_true : List Bool → Bool
all_true [] = true
all_true (b ∷ bs) = b && all_true bs

abbrev mutual
  pub HasNone : Content → Type 0
  HasNone (last rs) = Unit {0}
  HasNone (then_place rs s c) = ⊥
  HasNone (then_table rs f front gs l c) = HaveNone gs × HasNone c

  pub HaveNone : Groups → Type 0
  HaveNone no_groups = Unit {0}
  HaveNone (more_groups r c gs) = HasNone c × HaveNone gs

pub record IsLevel (m : ℕ) (b : Bool) (bs : List Bool) (c : Content) (gs : Groups) (l : Row) : Type 0 where
  pub content : IsContent c
  pub shallow : IsShallow (m - suc (length bs)) c
  pub groups : AreGroups gs
  pub deep : AreShallow (m - suc (length bs)) gs
  pub ends : l.kind ≡ line.TableEnd
  pub rows_only : b ≡ false → HasNoPlaces c
  pub none : all_true bs ≡ false → HasNone c × HaveNone gs

abbrev pub IsRest : ℕ → List Bool → Rest → Type 0
IsRest m [] (here c) = IsContent c × IsShallow m c
IsRest m [] (within c gs l rest) = ⊥
IsRest m (b ∷ bs) (here c) = ⊥
IsRest m (b ∷ bs) (within c gs l rest) = IsLevel m b bs c gs l × IsRest m bs rest

-- ---- beside text

abbrev pub NoParagraphFirst : Content → Type 0
NoParagraphFirst (last rs) = Unit {0}
NoParagraphFirst (then_place [] (a_row r) c) = Unit {0}
NoParagraphFirst (then_place [] (a_paragraph n a b) c) = ⊥
NoParagraphFirst (then_place [] (a_heading n a b) c) = Unit {0}
NoParagraphFirst (then_place (r ∷ rs) s c) = Unit {0}
NoParagraphFirst (then_table rs f front gs l c) = Unit {0}

abbrev pub FirstIs : List Slot → Content → Type 0
FirstIs [] c = NoParagraphFirst c
FirstIs (a_row r ∷ ss) c = NoParagraphFirst c
FirstIs (a_paragraph n a b ∷ ss) c = Unit {0}
FirstIs (a_heading n a b ∷ ss) c = NoParagraphFirst c

pub record Parsed (m : ℕ) (bs : List Bool) (ss : List Slot) : Type 0 where
  pub rest : Rest
  pub is : IsRest m bs rest
  pub slots : rest_slots rest ≡ ss
  pub first : FirstIs ss (current rest)
  pub apart : BeginsApart ss → NotTextFirst (current rest)

-- ---- a row more

abbrev push : Row → Content → Content
push r (last rs) = last (r ∷ rs)
push r (then_place rs s c) = then_place (r ∷ rs) s c
push r (then_table rs f front gs l c) = then_table (r ∷ rs) f front gs l c

abbrev PushOk : Row → Content → Type 0
PushOk r (last rs) = Unit {0}
PushOk r (then_place [] (a_row s) c) = Unit {0}
PushOk r (then_place [] (a_paragraph n a b) c) = r.kind ≡ line.Text → ⊥
PushOk r (then_place [] (a_heading n a b) c) = Unit {0}
PushOk r (then_place (s ∷ rs) sl c) = Unit {0}
PushOk r (then_table rs f front gs l c) = Unit {0}

none_first : (r : Row) (c : Content) → NoParagraphFirst c → PushOk r c
none_first r (last rs) h = tt
none_first r (then_place [] (a_row s) c) h = tt
none_first r (then_place [] (a_paragraph n a b) c) h = absurd h
none_first r (then_place [] (a_heading n a b) c) h = tt
none_first r (then_place (s ∷ rs) sl c) h = tt
none_first r (then_table rs f front gs l c) h = tt

not_text_push : (r : Row) (c : Content) → (r.kind ≡ line.Text → ⊥) → PushOk r c
not_text_push r (last rs) h = tt
not_text_push r (then_place [] (a_row s) c) h = tt
not_text_push r (then_place [] (a_paragraph n a b) c) h = h
not_text_push r (then_place [] (a_heading n a b) c) h = tt
not_text_push r (then_place (s ∷ rs) sl c) h = tt
not_text_push r (then_table rs f front gs l c) h = tt

push_ok : (r : Row) (ss : List Slot) (c : Content) → AreApart (a_row r ∷ ss) → FirstIs ss c → PushOk r c
push_ok r [] c h f = none_first r c f
push_ok r (a_row s ∷ ss) c h f = none_first r c f
push_ok r (a_paragraph n a b ∷ ss) c h f = not_text_push r c h.0
push_ok r (a_heading n a b ∷ ss) c h f = none_first r c f

rest_apart : (r : Row) (ss : List Slot) → AreApart (a_row r ∷ ss) → AreApart ss
rest_apart r [] h = tt
rest_apart r (a_row s ∷ ss) h = h
rest_apart r (a_paragraph n a b ∷ ss) h = h.1
rest_apart r (a_heading n a b ∷ ss) h = h

push_apart : (r : Row) (rs : List Row) (s : Slot) (c : Content) → PushOk r (then_place rs s c) → SlotApart rs s c → SlotApart (r ∷ rs) s c
push_apart r rs (a_row x) c k h = h
push_apart r [] (a_paragraph n a b) c k h = (k, h.1)
push_apart r (s ∷ rs) (a_paragraph n a b) c k h = h
push_apart r rs (a_heading n a b) c k h = tt

push_content : (r : Row) (c : Content) → AreContent (r ∷ []) → PushOk r c → IsContent c → IsContent (push r c)
push_content r (last rs) o k h = content_join (r ∷ []) rs o h
push_content r (then_place rs s c) o k h = (content_join (r ∷ []) rs o h.0, push_apart r rs s c k h.1, h.2)
push_content r (then_table rs f front gs l c) o k h = (content_join (r ∷ []) rs o h.0, h.1, h.2, h.3, h.4, h.5)

push_shallow : (n : ℕ) (r : Row) (c : Content) → IsShallow n c → IsShallow n (push r c)
push_shallow n r (last rs) h = tt
push_shallow n r (then_place rs s c) h = h
push_shallow zero r (then_table rs f front gs l c) h = h
push_shallow (suc n) r (then_table rs f front gs l c) h = h

push_slots : (r : Row) (c : Content) → content_slots (push r c) ≡ a_row r ∷ content_slots c
push_slots r (last rs) = refl
push_slots r (then_place rs s c) = refl
push_slots r (then_table rs f front gs l c) = refl

push_first : (r : Row) (c : Content) → NoParagraphFirst (push r c)
push_first r (last rs) = tt
push_first r (then_place rs s c) = tt
push_first r (then_table rs f front gs l c) = tt

push_not_text : (r : Row) (c : Content) → (r.kind ≡ line.Text → ⊥) → NotTextFirst (push r c)
push_not_text r (last rs) h = h
push_not_text r (then_place rs s c) h = h
push_not_text r (then_table rs f front gs l c) h = h

push_last : (r : Row) (c : Content) → HasNoPlaces c → HasNoPlaces (push r c)
push_last r (last rs) h = tt
push_last r (then_place rs s c) h = absurd h
push_last r (then_table rs f front gs l c) h = absurd h

push_none : (r : Row) (c : Content) → HasNone c → HasNone (push r c)
push_none r (last rs) h = tt
push_none r (then_place rs s c) h = absurd h
push_none r (then_table rs f front gs l c) h = h

one_content : (r : Row) → IsOther r.kind → begins_part r.kind ≡ false → AreContent (r ∷ [])
one_content r o e = record {
  level = one_level r o;
  plain = subst (λ us. AllByRecursion (λ u. begins_group kind_of u ≡ false) us) (sym (alone_first r [] o)) (e, tt);
}

no_rows : AreContent []
no_rows = record { level = tt; plain = tt }

-- a row that neither opens nor ends a table, nor begins a part
add_other : (m : ℕ) (bs : List Bool) (r : Row) (ss : List Slot) → IsOther r.kind → begins_part r.kind ≡ false → AreApart (a_row r ∷ ss) → Parsed m bs ss
    → Parsed m bs (a_row r ∷ ss)
add_other m bs r ss o e ok p = by_rest bs p.rest p.is p.slots p.first
  where
    by_rest : (bs : List Bool) (rest : Rest) → IsRest m bs rest → rest_slots rest ≡ ss → FirstIs ss (current rest) → Parsed m bs (a_row r ∷ ss)
    by_rest [] (here c) is sl f = record {
      rest = here (push r c);
      is = (push_content r c (one_content r o e) (push_ok r ss c ok f) is.0, push_shallow m r c is.1);
      slots = push_slots r c ∙ ap (λ xs. a_row r ∷ xs) sl;
      first = push_first r c;
      apart = λ b. push_not_text r c b;
    }
    by_rest [] (within c gs l rest) is sl f = absurd is
    by_rest (b ∷ bs) (here c) is sl f = absurd is
    by_rest (b ∷ bs) (within c gs l rest) is sl f =
        let v = is.0 in
        record {
          rest = within (push r c) gs l rest;
          is = (
            record {
              content = push_content r c (one_content r o e) (push_ok r ss c ok f) v.content;
              shallow = push_shallow (m - suc (length bs)) r c v.shallow;
              groups = v.groups;
              deep = v.deep;
              ends = v.ends;
              rows_only = λ z. push_last r c (v.rows_only z);
              none = λ z. let n = v.none z in (push_none r c n.0, n.1);
            },
            is.1,
          );
          slots = ap (λ xs. xs ++ (groups_slots gs ++ a_row l ∷ rest_slots rest)) (push_slots r c) ∙ ap (λ xs. a_row r ∷ xs) sl;
          first = push_first r c;
          apart = λ b. push_not_text r c b;
        }

-- ---- a row that ends a table

add_end : (m : ℕ) (b : Bool) (bs : List Bool) (r : Row) (ss : List Slot) → r.kind ≡ line.TableEnd → Parsed m bs ss → Parsed m (b ∷ bs) (a_row r ∷ ss)
add_end m b bs r ss e p = record {
  rest = within (last []) no_groups r p.rest;
  is = (record { content = no_rows; shallow = tt; groups = tt; deep = tt; ends = e; rows_only = λ z. tt; none = λ z. (tt, tt) }, p.is);
  slots = ap (λ xs. a_row r ∷ xs) p.slots;
  first = tt;
  apart = λ z. tt;
}

-- ---- a row that begins a part

add_part : (m : ℕ) (b c : Bool) (bs : List Bool) (r : Row) (ss : List Slot) → begins_part r.kind ≡ true → (is_row r.kind ≡ true → c ≡ false) → Parsed m (c ∷ bs) ss
    → Parsed m (b ∷ bs) (a_row r ∷ ss)
add_part m b c bs r ss e k p = by_rest p.rest p.is p.slots
  where
    by_rest : (rest : Rest) → IsRest m (c ∷ bs) rest → rest_slots rest ≡ ss → Parsed m (b ∷ bs) (a_row r ∷ ss)
    by_rest (here x) is sl = absurd is
    by_rest (within x gs l rest) is sl =
        let v = is.0 in
        record {
          rest = within (last []) (more_groups r x gs) l rest;
          is = (
            record {
              content = no_rows;
              shallow = tt;
              groups = (e, (λ z. v.rows_only (k z)), v.content, v.groups);
              deep = (v.shallow, v.deep);
              ends = v.ends;
              rows_only = λ z. tt;
              none = λ z. (tt, v.none z);
            },
            is.1,
          );
          slots = ap (λ xs. a_row r ∷ xs) (append_assoc (content_slots x) (groups_slots gs) (a_row l ∷ rest_slots rest) ∙ sl);
          first = tt;
          apart = λ z. tt;
        }

-- ---- a place

true_all : (bs : List Bool) → AllTrue bs → all_true bs ≡ true
true_all [] h = refl
true_all (b ∷ bs) h = ap (λ (v : Bool). v && all_true bs) h.0 ∙ true_all bs h.1

add_place : (m : ℕ) (bs : List Bool) (s : Slot) (ss : List Slot) → AllTrue bs → (p : Parsed m bs ss) → SlotApart [] s (current p.rest)
    → FirstIs (s ∷ ss) (then_place [] s (current p.rest)) → (BeginsApart (s ∷ ss) → NotTextFirst (then_place [] s (current p.rest))) → Parsed m bs (s ∷ ss)
add_place m bs s ss h p k f g = by_rest bs h p.rest p.is p.slots k f g
  where
    by_rest : (bs : List Bool) → AllTrue bs → (rest : Rest) → IsRest m bs rest → rest_slots rest ≡ ss → SlotApart [] s (current rest)
        → FirstIs (s ∷ ss) (then_place [] s (current rest)) → (BeginsApart (s ∷ ss) → NotTextFirst (then_place [] s (current rest))) → Parsed m bs (s ∷ ss)
    by_rest [] h (here c) is sl k f g = record {
      rest = here (then_place [] s c);
      is = ((no_rows, k, is.0), is.1);
      slots = ap (λ xs. s ∷ xs) sl;
      first = f;
      apart = g;
    }
    by_rest [] h (within c gs l rest) is sl k f g = absurd is
    by_rest (b ∷ bs) h (here c) is sl k f g = absurd is
    by_rest (b ∷ bs) h (within c gs l rest) is sl k f g =
        let v = is.0 in
        let all : all_true bs ≡ true = true_all bs h.1 in
        record {
          rest = within (then_place [] s c) gs l rest;
          is = (
            record {
              content = (no_rows, k, v.content);
              shallow = v.shallow;
              groups = v.groups;
              deep = v.deep;
              ends = v.ends;
              rows_only = λ z. let y : true ≡ false = sym h.0 ∙ z in absurd (cc);
              none = λ z. let y : true ≡ false = sym all ∙ z in absurd (cc);
            },
            is.1,
          );
          slots = ap (λ xs. s ∷ xs) sl;
          first = f;
          apart = g;
        }

-- ---- a row that opens a table

abbrev none_at : ℕ → List Row
none_at n = []

pub rows_join : (rs ss : List Row) → rows_slots (rs ++ ss) ≡ rows_slots rs ++ rows_slots ss
rows_join rs ss = map-append a_row rs ss

mutual
  none_slots : (c : Content) → HasNone c → rows_slots (content_rows none_at c) ≡ content_slots c
  none_slots (last rs) h = refl
  none_slots (then_place rs s c) h = absurd h
  none_slots (then_table rs f front gs l c) h =
      let inner : List Row = front ++ groups_rows none_at gs in
      let back : List Slot = a_row l ∷ content_slots c in
      rows_join rs ((f ∷ (inner ++ l ∷ [])) ++ content_rows none_at c)
      ∙ ap (λ xs. rows_slots rs ++ a_row f ∷ xs) (rows_join (inner ++ l ∷ []) (content_rows none_at c)
      ∙ ap₂ (λ xs ys. xs ++ ys) (rows_join inner (l ∷ []) ∙ ap (λ xs. xs ++ a_row l ∷ []) (rows_join front (groups_rows none_at gs) ∙ ap (λ xs. rows_slots front ++ xs) (all_none_slots gs h.0))) (none_slots c h.1)
      ∙ append_assoc (rows_slots front ++ groups_slots gs) (a_row l ∷ []) (content_slots c)
      ∙ append_assoc (rows_slots front) (groups_slots gs) back)

  all_none_slots : (gs : Groups) → HaveNone gs → rows_slots (groups_rows none_at gs) ≡ groups_slots gs
  all_none_slots no_groups h = refl
  all_none_slots (more_groups r c gs) h =
      ap (λ xs. a_row r ∷ xs) (rows_join (content_rows none_at c) (groups_rows none_at gs) ∙ ap₂ (λ xs ys. xs ++ ys) (none_slots c h.0) (all_none_slots gs h.1))

mutual
  none_is_at : (E : Type 0) (p : E → ℕ → List Row) (t : E → ℕ → ItemTree) (c : Content) → HasNone c → ContentAt E p t c
  none_is_at E p t (last rs) h = tt
  none_is_at E p t (then_place rs s c) h = absurd h
  none_is_at E p t (then_table rs f front gs l c) h = (none_are_at E p t gs h.0, none_is_at E p t c h.1)

  none_are_at : (E : Type 0) (p : E → ℕ → List Row) (t : E → ℕ → ItemTree) (gs : Groups) → HaveNone gs → GroupsAt E p t gs
  none_are_at E p t no_groups h = tt
  none_are_at E p t (more_groups r c gs) h = (none_is_at E p t c h.0, none_are_at E p t gs h.1)

one_more : (m k : ℕ) → k < m → m - k ≡ suc (m - suc k)
one_more m k h = omega (arith, h)

deeper : (m k : ℕ) (f : Row) (front : List Row) (gs : Groups) (l : Row) (c : Content) → k < m → AreShallow (m - suc k) gs → IsShallow (m - k) c
    → IsShallow (m - k) (then_table [] f front gs l c)
deeper m k f front gs l c h g s =
    let e : m - k ≡ suc (m - suc k) = one_more m k h in
    subst (λ (n : ℕ). IsShallow n (then_table [] f front gs l c)) (sym e) (g, subst (λ (n : ℕ). IsShallow n c) e s)

-- the rows of such a table, where no place is in it
abbrev table_rows : Row → List Row → Groups → Row → List Row
table_rows f front gs l = f ∷ ((front ++ groups_rows none_at gs) ++ l ∷ [])

fixed_table : (f : Row) (front : List Row) (gs : Groups) (l : Row) → f.kind ≡ line.TableOpen → AreContent front → AreGroups gs → HaveNone gs → l.kind ≡ line.TableEnd
    → AreContent (table_rows f front gs l)
fixed_table f front gs l o h g n e =
    let at = none_are_at (Unit {0}) (λ u. none_at) (λ u i. para []) gs n in
    table_whole f l (front ++ groups_rows none_at gs) o e
    (level_join 0 front (groups_rows none_at gs) h.level (groups_level (Unit {0}) (λ u. none_at) (λ u i. para []) gs g at tt))

add_open : (m : ℕ) (bs : List Bool) (r : Row) (ss : List Slot) → r.kind ≡ line.TableOpen → length bs < m → Parsed m (false ∷ bs) ss → Parsed m bs (a_row r ∷ ss)
add_open m bs r ss e few p = by_rest bs few p.rest p.is p.slots
  where
    no_text : r.kind ≡ line.Text → ⊥
    no_text z = let y : line.TableOpen ≡ line.Text = sym e ∙ z in absurd (cc)

    by_rest : (bs : List Bool) → length bs < m → (rest : Rest) → IsRest m (false ∷ bs) rest → rest_slots rest ≡ ss → Parsed m bs (a_row r ∷ ss)
    by_rest bs few (here x) is sl = absurd is
    by_rest bs few (within (then_place rs s x) gs l rest) is sl = absurd (is.0.rows_only refl)
    by_rest bs few (within (then_table rs f front hs k x) gs l rest) is sl = absurd (is.0.rows_only refl)
    by_rest [] few (within (last front) gs l (within c hs k rest)) is sl = absurd is.1
    by_rest (b ∷ bs) few (within (last front) gs l (here c)) is sl = absurd is.1
    by_rest [] few (within (last front) gs l (here c)) is sl =
        let v = is.0 in
        let z : m - 0 ≡ m = omega arith in
        record {
          rest = here (then_table [] r front gs l c);
          is = (
            (no_rows, e, v.content, v.groups, v.ends, is.1.0),
            subst (λ (n : ℕ). IsShallow n (then_table [] r front gs l c)) z
                (deeper m 0 r front gs l c few v.deep (subst (λ (n : ℕ). IsShallow n c) (sym z) is.1.1)),
          );
          slots = ap (λ xs. a_row r ∷ xs) sl;
          first = tt;
          apart = λ b. no_text;
        }
    by_rest (true ∷ bs) few (within (last front) gs l (within c hs k rest)) is sl =
        let v = is.0 in
        let w = is.1.0 in
        let back : List Slot = groups_slots hs ++ a_row k ∷ rest_slots rest in
        record {
          rest = within (then_table [] r front gs l c) hs k rest;
          is = (
            record {
              content = (no_rows, e, v.content, v.groups, v.ends, w.content);
              shallow = deeper m (suc (length bs)) r front gs l c few v.deep w.shallow;
              groups = w.groups;
              deep = w.deep;
              ends = w.ends;
              rows_only = λ z. absurd (cc);
              none = λ z. let n = w.none z in (((v.none z).1, n.0), n.1);
            },
            is.1.1,
          );
          slots = ap (λ xs. a_row r ∷ xs) (append_assoc (rows_slots front) (groups_slots gs ++ a_row l ∷ content_slots c) back
              ∙ ap (λ xs. rows_slots front ++ xs) (append_assoc (groups_slots gs) (a_row l ∷ content_slots c) back) ∙ sl);
          first = tt;
          apart = λ b. no_text;
        }
    by_rest (false ∷ bs) few (within (last front) gs l (within (then_place rs s x) hs k rest)) is sl = absurd (is.1.0.rows_only refl)
    by_rest (false ∷ bs) few (within (last front) gs l (within (then_table rs f fs js j x) hs k rest)) is sl = absurd (is.1.0.rows_only refl)
    by_rest (false ∷ bs) few (within (last front) gs l (within (last rs) hs k rest)) is sl =
        let v = is.0 in
        let w = is.1.0 in
        let n = v.none refl in
        let own : List Row = table_rows r front gs l in
        let back : List Slot = groups_slots hs ++ a_row k ∷ rest_slots rest in
        record {
          rest = within (last (own ++ rs)) hs k rest;
          is = (
            record {
              content = content_join own rs (fixed_table r front gs l e v.content v.groups n.1 v.ends) w.content;
              shallow = tt;
              groups = w.groups;
              deep = w.deep;
              ends = w.ends;
              rows_only = λ z. tt;
              none = λ z. (tt, (w.none z).1);
            },
            is.1.1,
          );
          slots = ap (λ xs. xs ++ back) (none_slots (then_table [] r front gs l (last rs)) (n.1, tt))
              ∙ ap (λ xs. a_row r ∷ xs) (append_assoc (rows_slots front) (groups_slots gs ++ a_row l ∷ rows_slots rs) back
              ∙ ap (λ xs. rows_slots front ++ xs) (append_assoc (groups_slots gs) (a_row l ∷ rows_slots rs) back) ∙ sl);
          first = tt;
          apart = λ b. no_text;
        }

-- ---- all of them

-- how a row changes what is open
data Sorted (k : LineKind) : Type 0 where
  opens : k ≡ line.TableOpen → Sorted k
  ends : k ≡ line.TableEnd → Sorted k
  begins_row : begins_part k ≡ true → ((bs : List Bool) → open_behind bs k ≡ top_is false bs) → Sorted k
  begins_cell : begins_part k ≡ true → (is_row k ≡ true → ⊥) → ((bs : List Bool) → open_behind bs k ≡ top_is true bs) → Sorted k
  is_other : IsOther k → begins_part k ≡ false → ((bs : List Bool) → open_behind bs k ≡ bs) → Sorted k

other_kind : (k : LineKind) → (k ≡ line.TableOpen → ⊥) → (k ≡ line.TableEnd → ⊥) → IsOther k
other_kind k f g = elim (sort k) [ inl o ↦ absurd (f o) | inr (inl z) ↦ absurd (g z) | inr (inr o) ↦ o ]

sorted : (k : LineKind) → Sorted k
sorted line.Blank = is_other (other_kind line.Blank (λ e. absurd (cc)) (λ e. absurd (cc))) refl (λ bs. refl)
sorted line.TableOpen = opens refl
sorted line.TableEnd = ends refl
sorted line.Caption = begins_cell refl (λ e. absurd (cc)) (λ bs. refl)
sorted line.Row = begins_row refl (λ bs. refl)
sorted line.Cell = begins_cell refl (λ e. absurd (cc)) (λ bs. refl)
sorted line.Header = begins_cell refl (λ e. absurd (cc)) (λ bs. refl)
sorted line.Heading = is_other (other_kind line.Heading (λ e. absurd (cc)) (λ e. absurd (cc))) refl (λ bs. refl)
sorted line.Rule = is_other (other_kind line.Rule (λ e. absurd (cc)) (λ e. absurd (cc))) refl (λ bs. refl)
sorted line.List = is_other (other_kind line.List (λ e. absurd (cc)) (λ e. absurd (cc))) refl (λ bs. refl)
sorted line.Pre = is_other (other_kind line.Pre (λ e. absurd (cc)) (λ e. absurd (cc))) refl (λ bs. refl)
sorted line.Text = is_other (other_kind line.Text (λ e. absurd (cc)) (λ e. absurd (cc))) refl (λ bs. refl)

add_row : (m : ℕ) (bs : List Bool) (r : Row) (ss : List Slot) → Sorted r.kind → (r.kind ≡ line.TableEnd → 0 < length bs) → (begins_part r.kind ≡ true → 0 < length bs)
    → (r.kind ≡ line.TableOpen → length bs < m) → AreApart (a_row r ∷ ss) → Parsed m (open_behind bs r.kind) ss → Parsed m bs (a_row r ∷ ss)
add_row m bs r ss (opens e) h g few ok p = add_open m bs r ss e (few e) (subst (λ (k : LineKind). Parsed m (open_behind bs k) ss) e p)
add_row m [] r ss (ends e) h g few ok p = absurd (omega (arith, h e))
add_row m (b ∷ bs) r ss (ends e) h g few ok p = add_end m b bs r ss e (subst (λ (k : LineKind). Parsed m (open_behind (b ∷ bs) k) ss) e p)
add_row m [] r ss (begins_row e f) h g few ok p = absurd (omega (arith, g e))
add_row m (b ∷ bs) r ss (begins_row e f) h g few ok p = add_part m b false bs r ss e (λ z. refl) (subst (λ cs. Parsed m cs ss) (f (b ∷ bs)) p)
add_row m [] r ss (begins_cell e n f) h g few ok p = absurd (omega (arith, g e))
add_row m (b ∷ bs) r ss (begins_cell e n f) h g few ok p = add_part m b true bs r ss e (λ z. absurd (n z)) (subst (λ cs. Parsed m cs ss) (f (b ∷ bs)) p)
add_row m bs r ss (is_other o e f) h g few ok p = add_other m bs r ss o e ok (subst (λ cs. Parsed m cs ss) (f bs) p)

pub parsed : (m : ℕ) (bs : List Bool) (ss : List Slot) → AreInCells bs ss → AreApart ss → AreFew m bs ss → Parsed m bs ss
parsed m [] [] h a f = record { rest = here (last []); is = (no_rows, tt); slots = refl; first = tt; apart = λ z. tt }
parsed m (b ∷ bs) [] h a f = absurd (cc)
parsed m bs (a_row r ∷ ss) h a f = add_row m bs r ss (sorted r.kind) h.0 h.1 f.0 a (parsed m (open_behind bs r.kind) ss h.2 (rest_apart r ss a) f.1)
parsed m bs (a_paragraph n x y ∷ ss) h a f =
    let p = parsed m bs ss h.1 a.1 f in
    add_place m bs (a_paragraph n x y) ss h.0 p (tt, p.apart a.0) tt (λ z. absurd z)
parsed m bs (a_heading n x y ∷ ss) h a f =
    let p = parsed m bs ss h.1 a f in
    add_place m bs (a_heading n x y) ss h.0 p tt tt (λ z. tt)
