-- Sections as the grammar has them, and all that stands in the body or in a section: how it is spelled, that it
-- is good, and what it stands for.
use Rattle.std.proofs.Common.{◌≡◌, ℕ, suc, ◌+◌, ◌<◌, ◌^◌, Bool, true, false, List, [], ◌∷◌, ◌++◌, map, decimal, chars, IsUtf8, refl, sym, ap, ap₂, ◌∙◌, subst, arith, codes}
use Rattle.std.proofs.lemmas.Fmt.{decimal_is_IsNumeral, IsAscii-decimal}
use Rattle.std.proofs.lemmas.Str.{IsUtf8-from_ascii}
use Rattle.wt_tree.specs.declared.kind.Kind.{Kind}
use Rattle.wt_tree.specs.declared.kind.Kind.TheVariants as kind
use Rattle.wt_tree.specs.declared.row.Writing.{Writing}
use Rattle.wt_tree.specs.declared.row.Writing.TheVariants.{AsText, AsVoid, RoundCharacter, RoundChildren, AsSection, Unwritten}
use Rattle.wt_tree.specs.Kinds.{writing, spelling, element_name}
use Rattle.wt_tree.specs.Tiling.{is_group}
use Rattle.wt_tree.specs.Tree.{Label, Tree, tree, Trees, none as no_trees, more as one_more}
use Rattle.wt_schema.specs.Html.{section_start, end_tag, written, groups_by, groups, groups_of_all, html, html_of_all}
use Rattle.wt_html_grammar.specs.declared.limits.TheConstants.{NESTED_ELEMENTS}
use Rattle.wt_html_grammar.specs.Grammar.{spell_pieces, Items, spell, spell_items, IsElement, AreItems}
use Rattle.wt_html_grammar.specs.Markup.{Markups, node, more, flush, meaning, contents}
use Rattle.wt_html_grammar.proofs.Steps.{if_false}
use Rattle.wt_schema.specs.GroupNodes.{elements_for}
use Rattle.wt_schema.specs.Written.{WrittenIn, PartIsWritten, PartIn, PartsIn}
use Rattle.wt_schema.proofs.Pieces.{double_piece, spells_double, pieces_spelled, pieces_stand, pieces_good}
use Rattle.wt_schema.proofs.Said.{digits_plain}
use Rattle.wt_schema.proofs.Tags.{section_for, section_markup, text_before, text_empty, text_node}
use Rattle.wt_schema.proofs.GroupItems.{group_items, group_markups}
use Rattle.wt_schema.proofs.Elements.{placed, item_before, items_of, is_written, not_group, item_spelled, item_good, marked_up, markup_before, markups_of, item_stands}

-- ---- a section by itself

abbrev pub is_as_section : Writing → Bool
is_as_section (AsSection n) = true
is_as_section w = false

named_section : (k : Kind) → is_as_section (writing k) ≡ true → element_name k ≡ codes "section"
unfolding spelling
named_section (kind.Section n) e = refl
named_section k e = absurd cc

section_name : (k : Kind) (n : ℕ) → writing k ≡ AsSection n → element_name k ≡ codes "section"
section_name k n e = named_section k (ap is_as_section e)

number_utf8 : (n : ℕ) → n < 2 ^ 64 → IsUtf8 (decimal n)
number_utf8 n h = IsUtf8-from_ascii (decimal n) (IsAscii-decimal n h)

number_spelled : (n : ℕ) → n < 2 ^ 64 → spell_pieces (map double_piece (chars (decimal n))) ≡ decimal n
number_spelled n h = pieces_spelled _ _ _ spells_double (decimal n) (number_utf8 n h) ∙ digits_plain (decimal n) (decimal_is_IsNumeral n h).0.1

-- the end of its start tag
closed : (ds ts : List ℕ) → ((ds ++ 34 ∷ []) ++ []) ++ (62 ∷ ts) ≡ (ds ++ codes "\">") ++ ts
closed [] ts = refl
closed (d ∷ ds) ts = ap (λ (x : List ℕ). d ∷ x) (closed ds ts)

section_spelled : (n : ℕ) (l : Label) (inside : Items) (bytes : List ℕ) → n < 2 ^ 64 → writing l.kind ≡ AsSection n → spell_items inside ≡ bytes
    → spell (section_for n inside) ≡ section_start n ++ (bytes ++ end_tag l)
unfolding section_start end_tag
section_spelled n l inside bytes small e f =
    ap₂ (λ (v b : List ℕ). 60 ∷ (codes "section" ++ (((32 ∷ (codes "data-mw-section-id" ++ (61 ∷ 34 ∷ (v ++ 34 ∷ [])))) ++ [])
    ++ (62 ∷ (b ++ codes "</section>"))))) (number_spelled n small) f
    ∙ ap (λ (x : List ℕ). codes "<section data-mw-section-id=\"" ++ x) (closed (decimal n) (bytes ++ codes "</section>"))
    ∙ ap (λ (x : List ℕ). (codes "<section data-mw-section-id=\"" ++ (decimal n ++ codes "\">")) ++ (bytes ++ (codes "</" ++ (x ++ codes ">"))))
    (sym (section_name l.kind n e))

section_good : (n k : ℕ) (inside : Items) → n < 2 ^ 64 → k < NESTED_ELEMENTS → AreItems (suc k) inside → IsElement k (section_for n inside)
section_good n k inside small h i = (
  h,
  (refl, (refl, (refl, (refl, (refl, (refl, (refl, tt))))))),
  (
    (
      (refl, tt),
      (
        refl,
        (
          refl,
          (
            refl,
            (
              refl,
              (
                refl,
                (
                  refl,
                  (
                    refl,
                    (
                      refl,
                      (
                        refl,
                        (refl, (refl, (refl, (refl, (refl, (refl, (refl, (refl, (refl, tt))))))))),
                      ),
                    ),
                  ),
                ),
              ),
            ),
          ),
        ),
      ),
      pieces_good _ _ _ spells_double (decimal n) (number_utf8 n small),
      refl,
      tt,
      tt,
    ),
    refl,
    tt,
  ),
  tt,
  i,
  tt,
  refl,
)

section_stands : (n : ℕ) (inside : Items) (m : Markups) → n < 2 ^ 64 → contents [] inside ≡ m → meaning (section_for n inside) ≡ section_markup n m
section_stands n inside m small e =
    ap₂ (λ v c. node (codes "section") ((codes "data-mw-section-id", v) ∷ []) c) (pieces_stand _ _ _ spells_double (decimal n) (number_utf8 n small)) e

-- ---- a section or a node

pub by_part : (P : Type 0) (w : Writing) (k : ℕ) (H N : Type 0) → PartIsWritten w k H N → (N → P)
    → ((n : ℕ) → w ≡ AsSection n → k < NESTED_ELEMENTS → n < 2 ^ 32 → H → P) → P
by_part P AsText k H N h f g = f h
by_part P AsVoid k H N h f g = f h
by_part P RoundCharacter k H N h f g = f h
by_part P RoundChildren k H N h f g = f h
by_part P (AsSection n) k H N h f g = g n refl h.0 h.1 h.2
by_part P Unwritten k H N h f g = f h

section_groups : (l : Label) (ts : Trees) (n : ℕ) → writing l.kind ≡ AsSection n → groups (tree l ts) ≡ groups_of_all ts
section_groups l ts n e = if_false (is_group l.kind) _ _ (not_group l.kind (ap is_written e)) ∙ ap (λ w. groups_by w (groups_of_all ts)) e

pub section_number : (i : ℕ) (l : Label) (ts : Trees) (n : ℕ) → i + groups (tree l ts) < 2 ^ 64 → writing l.kind ≡ AsSection n
    → i + groups_of_all ts < 2 ^ 64
section_number i l ts n b e = omega (arith, b, section_groups l ts n e)

section_html : (i : ℕ) (l : Label) (ts : Trees) (n : ℕ) → writing l.kind ≡ AsSection n
    → html i (tree l ts) ≡ section_start n ++ (html_of_all i ts ++ end_tag l)
section_html i l ts n e = if_false (is_group l.kind) _ _ (not_group l.kind (ap is_written e)) ∙ ap (λ w. written w l (html_of_all i ts)) e

-- ---- they are spelled as they are written

section_item : (n : ℕ) (l : Label) (ts : Trees) (rest : Items) (i : ℕ) → writing l.kind ≡ AsSection n → n < 2 ^ 32
    → spell_items (items_of i ts) ≡ html_of_all i ts → spell_items (item_before i (tree l ts) rest) ≡ html i (tree l ts) ++ spell_items rest
section_item n l ts rest i e s f =
    ap (λ w. spell_items (placed w l (items_of i ts) (group_items true (suc i) l (elements_for ts) rest) rest)) e
    ∙ ap (λ (x : List ℕ). x ++ spell_items rest)
    (section_spelled n l (items_of i ts) (html_of_all i ts) (omega (arith, s)) e f ∙ sym (section_html i l ts n e))

mutual
  part_spelled : (t : Tree) (k : ℕ) (parent : Kind) (rest : Items) (i : ℕ) → PartIn k parent t → i + groups t < 2 ^ 64
      → spell_items (item_before i t rest) ≡ html i t ++ spell_items rest
  part_spelled (tree l ts) k parent rest i h b =
      by_part (spell_items (item_before i (tree l ts) rest) ≡ html i (tree l ts) ++ spell_items rest) (writing l.kind) k
      (PartsIn (suc k) (kind.Section 0) ts) (WrittenIn k parent (tree l ts)) h
      (λ w. item_spelled (tree l ts) k parent rest i w b)
      (λ n e d s g. section_item n l ts rest i e s (parts_spelled ts (suc k) (kind.Section 0) i g (section_number i l ts n b e)))

  pub parts_spelled : (ts : Trees) (k : ℕ) (parent : Kind) (i : ℕ) → PartsIn k parent ts → i + groups_of_all ts < 2 ^ 64
      → spell_items (items_of i ts) ≡ html_of_all i ts
  parts_spelled no_trees k parent i h b = refl
  parts_spelled (one_more t ts) k parent i h b =
      part_spelled t k parent (items_of (i + groups t) ts) i h.0 (omega (arith, b))
      ∙ ap (λ (x : List ℕ). html i t ++ x) (parts_spelled ts k parent (i + groups t) h.2 (omega (arith, b)))

-- ---- they are good

section_item_good : (n k : ℕ) (l : Label) (ts : Trees) (rest : Items) (i : ℕ) → writing l.kind ≡ AsSection n → k < NESTED_ELEMENTS → n < 2 ^ 32
    → AreItems (suc k) (items_of i ts) → AreItems k rest → AreItems k (item_before i (tree l ts) rest)
section_item_good n k l ts rest i e d s g r =
    let P : Writing → Type 0 = λ w. AreItems k (placed w l (items_of i ts) (group_items true (suc i) l (elements_for ts) rest) rest) in
    subst P (sym e) (section_good n k (items_of i ts) (omega (arith, s)) d g, r)

mutual
  part_good : (t : Tree) (k : ℕ) (parent : Kind) (rest : Items) (i : ℕ) → PartIn k parent t → i + groups t < 2 ^ 64 → AreItems k rest
      → AreItems k (item_before i t rest)
  part_good (tree l ts) k parent rest i h b r =
      by_part (AreItems k (item_before i (tree l ts) rest)) (writing l.kind) k (PartsIn (suc k) (kind.Section 0) ts) (WrittenIn k parent (tree l ts)) h
      (λ w. item_good (tree l ts) k parent rest i w b r)
      (λ n e d s g. section_item_good n k l ts rest i e d s (parts_good ts (suc k) (kind.Section 0) i g (section_number i l ts n b e)) r)

  pub parts_good : (ts : Trees) (k : ℕ) (parent : Kind) (i : ℕ) → PartsIn k parent ts → i + groups_of_all ts < 2 ^ 64 → AreItems k (items_of i ts)
  parts_good no_trees k parent i h b = tt
  parts_good (one_more t ts) k parent i h b =
      part_good t k parent (items_of (i + groups t) ts) i h.0 (omega (arith, b)) (parts_good ts k parent (i + groups t) h.2 (omega (arith, b)))

-- ---- what they stand for

section_item_stands : (n : ℕ) (l : Label) (ts : Trees) (rest : Items) (m : Markups) (run : List ℕ) (i : ℕ) → writing l.kind ≡ AsSection n → n < 2 ^ 32
    → contents [] (items_of i ts) ≡ markups_of i ts → contents [] rest ≡ m
    → contents run (item_before i (tree l ts) rest) ≡ text_before run (markup_before i (tree l ts) m)
section_item_stands n l ts rest m run i e s f r =
    ap (λ w. contents run (placed w l (items_of i ts) (group_items true (suc i) l (elements_for ts) rest) rest)) e
    ∙ ap₂ (λ x y. flush run (more x y)) (section_stands n (items_of i ts) (markups_of i ts) (omega (arith, s)) f) r
    ∙ text_node run (codes "section") ((codes "data-mw-section-id", decimal n) ∷ []) (markups_of i ts) m
    ∙ ap (λ w. text_before run (marked_up w l (markups_of i ts) (group_markups true (suc i) l (elements_for ts) m) m)) (sym e)

mutual
  part_stands : (t : Tree) (k : ℕ) (parent : Kind) (rest : Items) (m : Markups) (run : List ℕ) (i : ℕ) → PartIn k parent t → i + groups t < 2 ^ 64
      → ((r : List ℕ) → contents r rest ≡ text_before r m) → contents run (item_before i t rest) ≡ text_before run (markup_before i t m)
  part_stands (tree l ts) k parent rest m run i h b r =
      by_part (contents run (item_before i (tree l ts) rest) ≡ text_before run (markup_before i (tree l ts) m)) (writing l.kind) k
      (PartsIn (suc k) (kind.Section 0) ts) (WrittenIn k parent (tree l ts)) h
      (λ w. item_stands (tree l ts) k parent rest m run i w b r)
      (λ n e d s g. section_item_stands n l ts rest m run i e s
      (parts_stand ts (suc k) (kind.Section 0) [] i g (section_number i l ts n b e)) (r []))

  pub parts_stand : (ts : Trees) (k : ℕ) (parent : Kind) (run : List ℕ) (i : ℕ) → PartsIn k parent ts → i + groups_of_all ts < 2 ^ 64
      → contents run (items_of i ts) ≡ text_before run (markups_of i ts)
  parts_stand no_trees k parent run i h b = text_empty run
  parts_stand (one_more t ts) k parent run i h b =
      part_stands t k parent (items_of (i + groups t) ts) (markups_of (i + groups t) ts) run i h.0 (omega (arith, b))
      (λ r. parts_stand ts k parent r (i + groups t) h.2 (omega (arith, b)))
