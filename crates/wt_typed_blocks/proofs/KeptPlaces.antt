-- The nodes that are found in a block lie where they say.
use Rattle.std.proofs.Common.{arith, ◌≡◌, ◌⊎◌, ℕ, suc, ◌+◌, ◌-◌, ◌≤◌, ◌==◌, Bool, true, false, Some, List, [], ◌∷◌, ◌++◌, length, drop, refl, sym, ap, ◌∙◌, subst, inl, inr, append_assoc, append-nil, length-append}
use Rattle.std.specs.Prelude.{◌↔◌, ◌&&◌, ◌||◌, not, nat_lt, nat_eq, slice_get, if◌then◌else◌}
use Rattle.std.specs.Cmp.Lexicographic.{pointwise}
use Rattle.std.specs.List.{AllByRecursion, ends_with}
use Rattle.std.proofs.lemmas.Bool.Decides.{nat_tests, Decides-eqb}
use Rattle.wt_span.specs.Characters as byte
use Rattle.wt_tree.specs.Kinds.{is_leaf}
use Rattle.wt_tree.specs.Source.{flat, flat_of_all}
use Rattle.wt_tree.specs.Tree.{Label, Tree, tree, Trees, none, more, label}
use Rattle.wt_tree.specs.declared.edit_shape.ItemsOf.{ItemsOf}
use Rattle.wt_tree.specs.declared.edit_shape.ItemsOf.TheVariants.{Delimited, Characters, Opaque, Invisible, Nodes}
use Rattle.wt_tree.specs.declared.edit_shape.Sort.{Sort}
use Rattle.wt_tree.specs.declared.edit_shape.Sort.TheVariants as sort
use Rattle.wt_tree.specs.EditShapes.{edit_shape}
use Rattle.wt_checks.proofs.Lookups.{each_join}
use Rattle.wt_original.specs.Kept.{Item, character, opaque, invisible, characters, items_by, items, items_of_all, visible, is_break_at, began_line, ended_content, role_by, KeptNode, found_at, found_if, is_delimited, holds_kept, found_from, found_in}
use Rattle.wt_typed_blocks.specs.KeptPlaces.{LiesIn, EndsLine, BeginsLine, IsToldMark}

-- ---- visible items

visible_joined : (xs ys : List Item) → visible (xs ++ ys) ≡ visible xs ++ visible ys
visible_joined [] ys = refl
visible_joined (character c ∷ xs) ys = ap (λ (zs : List Item). character c ∷ zs) (visible_joined xs ys)
visible_joined (opaque ∷ xs) ys = ap (λ (zs : List Item). opaque ∷ zs) (visible_joined xs ys)
visible_joined (invisible ∷ xs) ys = visible_joined xs ys

all_visible : (bs : List ℕ) → visible (characters bs) ≡ characters bs
all_visible [] = refl
all_visible (b ∷ bs) = ap (λ (zs : List Item). character b ∷ zs) (all_visible bs)

as_long : (bs : List ℕ) → length (characters bs) ≡ length bs
as_long [] = refl
as_long (b ∷ bs) = ap suc (as_long bs)

-- those of a node with delimiters
delimited_items : (w : ItemsOf) (l : Label) (inside : List Item) → is_delimited w ≡ true
    → visible (items_by w l inside) ≡ characters l.opening ++ (visible inside ++ characters l.closing)
delimited_items Delimited l inside e =
    visible_joined (characters l.opening) (inside ++ characters l.closing)
    ∙ ap (λ (xs : List Item). xs ++ visible (inside ++ characters l.closing)) (all_visible l.opening)
    ∙ ap (λ (xs : List Item). characters l.opening ++ xs)
    (visible_joined inside (characters l.closing) ∙ ap (λ (xs : List Item). visible inside ++ xs) (all_visible l.closing))
delimited_items Characters l inside e = absurd (cc)
delimited_items Opaque l inside e = absurd (cc)
delimited_items Invisible l inside e = absurd (cc)
delimited_items Nodes l inside e = absurd (cc)

-- ---- round what a node holds

both : (a b : Bool) → (not a && b) ≡ true → (a ≡ false) × (b ≡ true)
both true b e = absurd (cc)
both false b e = (refl, e)

in_front : {A : Type 0} (a o i c z : List A) → a ++ ((o ++ (i ++ c)) ++ z) ≡ (a ++ o) ++ (i ++ (c ++ z))
in_front a o i c z =
    ap (λ xs. a ++ xs) (append_assoc o (i ++ c) z ∙ ap (λ xs. o ++ xs) (append_assoc i c z)) ∙ sym (append_assoc a o (i ++ (c ++ z)))

first_of_two : {A : Type 0} (a t u z : List A) → a ++ ((t ++ u) ++ z) ≡ a ++ (t ++ (u ++ z))
first_of_two a t u z = ap (λ xs. a ++ xs) (append_assoc t u z)

rest_of_two : {A : Type 0} (a t u z : List A) → a ++ ((t ++ u) ++ z) ≡ (a ++ t) ++ (u ++ z)
rest_of_two a t u z = first_of_two a t u z ∙ sym (append_assoc a t (u ++ z))

flat_inside : (l : Label) (ts : Trees) → is_leaf l.kind ≡ false → flat (tree l ts) ≡ l.opening ++ (flat_of_all ts ++ l.closing)
flat_inside l ts e =
    ap (λ (b : Bool). if b then l.own else l.opening ++ flat_of_all ts ++ l.closing) e ∙ append_assoc l.opening (flat_of_all ts) l.closing

-- ---- all that are found

abbrev AllLie : Tree → List KeptNode → Type 0
AllLie block fs = AllByRecursion (LiesIn block) fs

own_lies : (block : Tree) (b : Bool) (before after : List ℕ) (seen seen_after : List Item) (t : Tree) → flat block ≡ before ++ (flat t ++ after)
    → visible (items block) ≡ seen ++ (visible (items t) ++ seen_after) → AllLie block (found_if b (found_at (length before) (length seen) t))
own_lies block true before after seen seen_after t e v = tt
own_lies block false before after seen seen_after t e v =
    let here : LiesIn block (found_at (length before) (length seen) t) = record {
      before = before;
      after = after;
      source = e;
      start = refl;
      end = refl;
      seen_before = seen;
      seen_after = seen_after;
      seen = v;
      from = refl;
      to = refl;
    } in
    (here, tt)

if_holds : (block : Tree) (b : Bool) (fs : List KeptNode) → (b ≡ true → AllLie block fs) → AllLie block (if b then fs else [])
if_holds block true fs f = f refl
if_holds block false fs f = tt

mutual
  node_lies : (block : Tree) (before after : List ℕ) (seen seen_after : List Item) (t : Tree) → flat block ≡ before ++ (flat t ++ after)
      → visible (items block) ≡ seen ++ (visible (items t) ++ seen_after) → AllLie block (found_from (length before) (length seen) t)
  node_lies block before after seen seen_after (tree l ts) e v =
      let o : List ℕ = l.opening in
      let xs : List Item = characters o in
      each_join (LiesIn block) (found_if (l.id == 0) (found_at (length before) (length seen) (tree l ts)))
      (if holds_kept l then found_in (length before + length o) (length seen + length o) ts else [])
      (own_lies block (l.id == 0) before after seen seen_after (tree l ts) e v)
      (if_holds block (holds_kept l) (found_in (length before + length o) (length seen + length o) ts)
      (λ h.
      let two = both (is_leaf l.kind) (is_delimited (edit_shape l.kind).items) h in
      let bytes : flat block ≡ (before ++ o) ++ (flat_of_all ts ++ (l.closing ++ after)) =
      e ∙ ap (λ (bs : List ℕ). before ++ (bs ++ after)) (flat_inside l ts two.0) ∙ in_front before o (flat_of_all ts) l.closing after in
      let items_are : visible (items block) ≡ (seen ++ xs) ++ (visible (items_of_all ts) ++ (characters l.closing ++ seen_after)) =
      v ∙ ap (λ (zs : List Item). seen ++ (zs ++ seen_after)) (delimited_items (edit_shape l.kind).items l (items_of_all ts) two.1)
      ∙ in_front seen xs (visible (items_of_all ts)) (characters l.closing) seen_after in
      let there : AllLie block (found_in (length (before ++ o)) (length (seen ++ xs)) ts) =
      nodes_lie block (before ++ o) (l.closing ++ after) (seen ++ xs) (characters l.closing ++ seen_after) ts bytes items_are in
      subst (λ (n : ℕ). AllLie block (found_in (length before + length o) n ts)) (length-append seen xs ∙ ap (λ (n : ℕ). length seen + n) (as_long o))
      (subst (λ (n : ℕ). AllLie block (found_in n (length (seen ++ xs)) ts)) (length-append before o) there)))

  nodes_lie : (block : Tree) (before after : List ℕ) (seen seen_after : List Item) (ts : Trees) → flat block ≡ before ++ (flat_of_all ts ++ after)
      → visible (items block) ≡ seen ++ (visible (items_of_all ts) ++ seen_after) → AllLie block (found_in (length before) (length seen) ts)
  nodes_lie block before after seen seen_after none e v = tt
  nodes_lie block before after seen seen_after (more t ts) e v =
      let vs : List Item = visible (items t) in
      let us : List Item = visible (items_of_all ts) in
      let items_are : visible (items block) ≡ seen ++ ((vs ++ us) ++ seen_after) =
      v ∙ ap (λ (zs : List Item). seen ++ (zs ++ seen_after)) (visible_joined (items t) (items_of_all ts)) in
      let there : AllLie block (found_in (length (before ++ flat t)) (length (seen ++ vs)) ts) =
      nodes_lie block (before ++ flat t) after (seen ++ vs) seen_after ts (e ∙ rest_of_two before (flat t) (flat_of_all ts) after)
      (items_are ∙ rest_of_two seen vs us seen_after) in
      each_join (LiesIn block) (found_from (length before) (length seen) t) (found_in (length before + length (flat t)) (length seen + length vs) ts)
      (node_lies block before (flat_of_all ts ++ after) seen (us ++ seen_after) t (e ∙ first_of_two before (flat t) (flat_of_all ts) after)
      (items_are ∙ first_of_two seen vs us seen_after))
      (subst (λ (n : ℕ). AllLie block (found_in (length before + length (flat t)) n ts)) (length-append seen vs)
      (subst (λ (n : ℕ). AllLie block (found_in n (length (seen ++ vs)) ts)) (length-append before (flat t)) there))

pub all_lie : (block : Tree) → AllLie block (found_from 0 0 block)
all_lie block = node_lies block [] [] [] [] block (sym (append-nil (flat block))) (sym (append-nil (visible (items block))))

-- ---- whether it began its line

-- the last byte of what comes before it
last_got : (front : List ℕ) (b : ℕ) (rest : List ℕ) → slice_get ((front ++ b ∷ []) ++ rest) (length front) ≡ Some b
last_got [] b rest = refl
last_got (c ∷ front) b rest = last_got front b rest

-- a list that isn't empty has a last one
record Last (bs : List ℕ) : Type 0 where
  front : List ℕ
  last : ℕ
  is : bs ≡ front ++ last ∷ []

has_last : (b : ℕ) (bs : List ℕ) → Last (b ∷ bs)
has_last b [] = record { front = []; last = b; is = refl }
has_last b (c ∷ bs) =
    let r : Last (c ∷ bs) = has_last c bs in
    record { front = b ∷ r.front; last = r.last; is = ap (λ (cs : List ℕ). b ∷ cs) r.is }

one_longer : (front : List ℕ) (b : ℕ) → length (front ++ b ∷ []) ≡ suc (length front)
one_longer front b = let e : length (front ++ b ∷ []) ≡ length front + 1 = length-append front (b ∷ []) in omega (arith, e)

-- the byte before the node
byte_before : (block : Tree) (f : KeptNode) (l : LiesIn block f) (front : List ℕ) (b : ℕ) → l.before ≡ front ++ b ∷ []
    → (nat_lt 0 f.extent.start ≡ true) × (slice_get (flat block) (f.extent.start - 1) ≡ Some b)
byte_before block f l front b e =
    let n : f.extent.start ≡ suc (length front) = l.start ∙ ap length e ∙ one_longer front b in
    let less : f.extent.start - 1 ≡ length front = omega (arith, n) in
    let some : nat_lt 0 f.extent.start ≡ true = grind (arith, nat_tests, n) in
    let is : flat block ≡ (front ++ b ∷ []) ++ (flat f.node ++ l.after) = l.source ∙ ap (λ (bs : List ℕ). bs ++ (flat f.node ++ l.after)) e in (
      some,
      ap (λ (k : ℕ). slice_get (flat block) k) less ∙ ap (λ (bs : List ℕ). slice_get bs (length front)) is ∙ last_got front b (flat f.node ++ l.after),
    )

pub either : (v w : Bool) → (v || w) ≡ true → (v ≡ true) ⊎ (w ≡ true)
either true w e = inl refl
either false w e = inr e

pub both_true : (v w : Bool) → (v && w) ≡ true → (v ≡ true) × (w ≡ true)
both_true true w e = (refl, e)
both_true false w e = absurd (cc)

pub or_right : (v w : Bool) → w ≡ true → (v || w) ≡ true
or_right true w e = refl
or_right false w e = e

pub and_both : (v w : Bool) → v ≡ true → w ≡ true → (v && w) ≡ true
and_both true w e f = f
and_both false w e f = absurd (cc)

ended_so : (block : Tree) (f : KeptNode) (l : LiesIn block f) (before : List ℕ) → l.before ≡ before
    → (nat_lt 0 f.extent.start && is_break_at (slice_get (flat block) (f.extent.start - 1))) ≡ true → EndsLine before
ended_so block f l [] e h =
    let none_before : f.extent.start ≡ 0 = l.start ∙ ap length e in
    let no : nat_lt 0 f.extent.start ≡ false = ap (nat_lt 0) none_before in
    let yes = (both_true (nat_lt 0 f.extent.start) (is_break_at (slice_get (flat block) (f.extent.start - 1))) h).0 in
    absurd (cc)
ended_so block f l (b ∷ bs) e h =
    let r : Last (b ∷ bs) = has_last b bs in
    let got = byte_before block f l r.front r.last (e ∙ r.is) in
    let ten : (r.last == byte.line_break) ≡ true =
    sym (ap is_break_at got.1) ∙ (both_true (nat_lt 0 f.extent.start) (is_break_at (slice_get (flat block) (f.extent.start - 1))) h).1 in
    let same : r.last ≡ byte.line_break = (Decides-eqb r.last byte.line_break).0 ten in
    record { front = r.front; is = r.is ∙ ap (λ (c : ℕ). r.front ++ c ∷ []) same }

pub began : (block : Tree) (f : KeptNode) (l : LiesIn block f) → (began_line block f.extent ≡ true) ↔ BeginsLine block l.before
began block f l = (to, from)
  where
    to : began_line block f.extent ≡ true → BeginsLine block l.before
    to e = elim (either (f.extent.start == length (label block).opening) (nat_lt 0 f.extent.start && is_break_at (slice_get (flat block) (f.extent.start - 1))) e) [
      | inl h ↦ inl (sym l.start ∙ (Decides-eqb f.extent.start (length (label block).opening)).0 h)
      | inr h ↦ inr (ended_so block f l l.before refl h)
    ]

    from : BeginsLine block l.before → began_line block f.extent ≡ true
    from (inl e) =
        ap (λ (b : Bool). b || (nat_lt 0 f.extent.start && is_break_at (slice_get (flat block) (f.extent.start - 1))))
        ((Decides-eqb f.extent.start (length (label block).opening)).1 (l.start ∙ e))
    from (inr h) =
        let got = byte_before block f l h.front byte.line_break h.is in
        or_right (f.extent.start == length (label block).opening) (nat_lt 0 f.extent.start && is_break_at (slice_get (flat block) (f.extent.start - 1)))
        (and_both (nat_lt 0 f.extent.start) (is_break_at (slice_get (flat block) (f.extent.start - 1))) got.0 (ap is_break_at got.1))

-- ---- whether it ends with a line break

behind_front : (front : List ℕ) (b : ℕ) → drop (length front) (front ++ b ∷ []) ≡ b ∷ []
behind_front [] b = refl
behind_front (c ∷ front) b = behind_front front b

ends_as : (front : List ℕ) (b : ℕ) → ends_with nat_eq (front ++ b ∷ []) (byte.line_break ∷ []) ≡ (nat_eq byte.line_break b && true)
ends_as front b =
    let less : length (front ++ b ∷ []) - 1 ≡ length front = let e = one_longer front b in omega (arith, e) in
    ap (λ (n : ℕ). pointwise nat_eq (byte.line_break ∷ []) (drop n (front ++ b ∷ []))) less
    ∙ ap (pointwise nat_eq (byte.line_break ∷ [])) (behind_front front b)

ends_told : (bs cs : List ℕ) → cs ≡ bs → ends_with nat_eq cs (byte.line_break ∷ []) ≡ true → EndsLine bs
ends_told [] cs e h = let no : ends_with nat_eq [] (byte.line_break ∷ []) ≡ false = refl in let yes = sym (ap (λ (ds : List ℕ). ends_with nat_eq ds (byte.line_break ∷ [])) e) ∙ h in absurd (cc)
ends_told (b ∷ bs) cs e h =
    let r : Last (b ∷ bs) = has_last b bs in
    let at : (nat_eq byte.line_break r.last && true) ≡ true =
    sym (ap (λ (ds : List ℕ). ends_with nat_eq ds (byte.line_break ∷ [])) (e ∙ r.is) ∙ ends_as r.front r.last) ∙ h in
    let same : byte.line_break ≡ r.last = (Decides-eqb byte.line_break r.last).0 (both_true (nat_eq byte.line_break r.last) true at).0 in
    record { front = r.front; is = r.is ∙ ap (λ (c : ℕ). r.front ++ c ∷ []) (sym same) }

pub ends_line : (bs : List ℕ) → (ends_with nat_eq bs (byte.line_break ∷ []) ≡ true) ↔ EndsLine bs
ends_line bs = (ends_told bs bs refl, λ h. ap (λ (ds : List ℕ). ends_with nat_eq ds (byte.line_break ∷ [])) h.is ∙ ends_as h.front byte.line_break)

-- ---- marks, and what groups share with them

pub mark_told : (block : Tree) (f : KeptNode) (l : LiesIn block f) → (edit_shape (label f.node).kind).sort ≡ sort.Mark → IsToldMark block f l.before
mark_told block f l e = record {
  ends = ends_with nat_eq (flat f.node) (byte.line_break ∷ []);
  begins = began_line block f.extent;
  role = ap (λ (s : Sort). role_by s block f.extent f.node) e;
  ending = ends_line (flat f.node);
  beginning = began block f l;
}

pub no_length : (xs : List Item) → ((length xs == 0) ≡ true) ↔ (xs ≡ [])
no_length [] = (λ e. refl, λ e. refl)
no_length (x ∷ xs) =
    let no : (suc (length xs) == 0) ≡ false = grind (arith, nat_tests) in
    (λ e. absurd (cc), λ e. absurd (cc))

pub ended_end : (block : Tree) (f : KeptNode) (l : LiesIn block f) → length (label block).closing ≤ length (flat block)
    → (ended_content block f.extent ≡ true) ↔ (length l.after ≡ length (label block).closing)
ended_end block f l le =
    let c : ℕ = length (label block).closing in
    let long : length (flat block) ≡ length l.before + (length (flat f.node) + length l.after) =
    ap length l.source ∙ length-append l.before (flat f.node ++ l.after) ∙ ap (λ (n : ℕ). length l.before + n) (length-append (flat f.node) l.after) in
    let end : f.extent.end ≡ length l.before + length (flat f.node) = l.end in
    let d = Decides-eqb f.extent.end (length (flat block) - c) in
    (λ e. let s = d.0 e in omega (arith, long, end, s, le), λ e. d.1 (omega (arith, long, end, e, le)))
