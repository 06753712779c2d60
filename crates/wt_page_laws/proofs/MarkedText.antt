-- A document in which elements have the mark of an edit has a text: that of the document, with this attribute in the tags of these
-- elements.
use Rattle.std.proofs.Common.{◌≡◌, ℕ, suc, ◌+◌, Bool, true, false, Option, Some, None, Ok, List, [], ◌∷◌, ◌++◌, map, refl, sym, ap, ap₂, ◌∙◌, subst, codes}
use Rattle.std.specs.Prelude.{◌&&◌, ◌||◌, not, filter, is_some, if◌then◌else◌}
use Rattle.std.specs.Str.{bytes_eq}
use Rattle.std.specs.Option.{option_or}
use Rattle.std.proofs.lemmas.Bool.{or_parts}
use Rattle.std.proofs.lemmas.Slice.Eq.{bytes_eq-Decides}
use lib.Utf8.{encode}
use Rattle.wt_tree.specs.Tree.{Tree}
use Rattle.wt_html_grammar.specs.Signs.{is_among}
use Rattle.wt_html_grammar.specs.Grammar.{plain, Attribute, IsAttribute, AreAttributes, Element, Items, element, void, none, sign, child, IsElement, AreItems, Document, spell_document}
use Rattle.wt_html_grammar.specs.Markup.{Pair, pair_of, Markup, Markups, text, node, empty, more, unit_of, flush, meaning, contents, Stands}
use Rattle.wt_schema.specs.Attributes.{value_of, has}
use Rattle.wt_schema.specs.Fit.{elements, elements_of_all, elements_in, is_marked_root, BodyElement, body_in, fit_body, fit}
use Rattle.wt_schema.specs.Groups.{standing_by, open_after}
use Rattle.wt_schema.specs.Rows.{row}
use Rattle.wt_schema.specs.Sections.{is_section_name, is_mark_pair, bared, all_bared}
use Rattle.wt_schema.specs.Unsourced.{is_marked, is_unsourced, lacks_source, unsourced_as, unsourced_node, unsourced_nodes, unsourced_body, unsourced}
use Rattle.wt_page_laws.specs.EditMarks.{is_chosen_row, is_chosen, pairs_marked, marked, all_marked, part_marked, parts_marked, child_marked, children_marked, document_marked}
use Rattle.wt_page_laws.proofs.MarkedBodies.{no_section_chosen, no_about}

abbrev edit_name : List ℕ
edit_name = codes "data-wt-edit"

-- ---- which elements may get the mark: those that have none

abbrev IfOut : Bool → Type 0 → Type 0
IfOut true A = Unit {0}
IfOut false A = A

abbrev mutual
  MayMark : (ℕ → Bool) → Markup → Type 0
  MayMark f (text bs) = Unit {0}
  MayMark f (node name ps c) = (is_chosen f name ps ≡ true → value_of edit_name ps ≡ None) × IfOut (has (codes "about") ps) (AllMayMark f c)

  AllMayMark : (ℕ → Bool) → Markups → Type 0
  AllMayMark f empty = Unit {0}
  AllMayMark f (more t ts) = MayMark f t × AllMayMark f ts

abbrev BySection : Bool → Type 0 → Type 0 → Type 0
BySection true A B = A
BySection false A B = B

abbrev mutual
  PartMayMark : (ℕ → Bool) → Markup → Type 0
  PartMayMark f (text bs) = Unit {0}
  PartMayMark f (node name ps c) = BySection (is_section_name name) (PartsMayMark f c) (MayMark f (node name ps c))

  PartsMayMark : (ℕ → Bool) → Markups → Type 0
  PartsMayMark f empty = Unit {0}
  PartsMayMark f (more t ts) = PartMayMark f t × PartsMayMark f ts

-- ---- where each element has its source, none that may be chosen has a mark

or_none : {A : Type 0} (o p : Option A) → option_or o p ≡ None → (o ≡ None) × (p ≡ None)
or_none None p e = (refl, e)
or_none (Some a) p e = absurd (cc e)

none_of : {A : Type 0} (o : Option A) → is_some o ≡ false → o ≡ None
none_of None e = refl
none_of (Some a) e = absurd (cc e)

alone_none : (g o : Option (List ℕ)) (m : Bool) (n : ℕ) (lacks : Bool) (inside : Option ℕ) → is_some o ≡ false
    → unsourced_as (standing_by g o m) n lacks inside ≡ None → (lacks ≡ false) × (inside ≡ None)
alone_none g None m n true inside a e = absurd (cc e)
alone_none g None m n false inside a e = (refl, e)
alone_none g (Some b) m n lacks inside a e = absurd (cc a)

chosen_unmarked : (f : ℕ → Bool) (name : List ℕ) (ps : List Pair) → f 0 ≡ false → lacks_source name ps ≡ false → is_chosen f name ps ≡ true
    → value_of edit_name ps ≡ None
chosen_unmarked f name ps z l c = by_name (is_section_name name) refl l
  where
    by_name : (b : Bool) → is_section_name name ≡ b → (not b && is_unsourced ps) ≡ false → value_of edit_name ps ≡ None
    by_name true e h = absurd (let x : is_chosen f name ps ≡ false = no_section_chosen f name ps z e in cc)
    by_name false e h = none_of (value_of edit_name ps) (or_parts (not (has (codes "data-parsoid") ps)) (is_marked ps) h).1

mutual
  node_may : (t : Markup) (f : ℕ → Bool) (n : ℕ) (g : Option (List ℕ)) → f 0 ≡ false → unsourced_node n g t ≡ None → MayMark f t
  node_may (text bs) f n g z e = tt
  node_may (node name ps c) f n g z e = by_about (has (codes "about") ps) refl (λ i. nodes_may c f (suc n) None z i)
    where
      by_about : (a : Bool) → has (codes "about") ps ≡ a → (unsourced_nodes (suc n) None c ≡ None → AllMayMark f c)
          → (is_chosen f name ps ≡ true → value_of edit_name ps ≡ None) × IfOut a (AllMayMark f c)
      by_about true h ih = (λ i. absurd (let x : is_chosen f name ps ≡ false = ap (λ (y : Bool). not y && is_chosen_row f (row name ps) ps) h in cc), tt)
      by_about false h ih =
          let q = alone_none g (value_of (codes "about") ps) (has (codes "data-mw") ps) n (lacks_source name ps) (unsourced_nodes (suc n) None c) h e in
          (λ i. chosen_unmarked f name ps z q.0 i, ih q.1)

  nodes_may : (ts : Markups) (f : ℕ → Bool) (n : ℕ) (g : Option (List ℕ)) → f 0 ≡ false → unsourced_nodes n g ts ≡ None → AllMayMark f ts
  nodes_may empty f n g z e = tt
  nodes_may (more t ts) f n g z e =
      let q = or_none (unsourced_node n g t) (unsourced_nodes (n + elements t) (open_after g t ts) ts) e in
      (node_may t f n g z q.0, nodes_may ts f (n + elements t) (open_after g t ts) z q.1)

mutual
  part_may : (t : Markup) (f : ℕ → Bool) (n : ℕ) (g : Option (List ℕ)) → f 0 ≡ false → unsourced_node n g (bared t) ≡ None → PartMayMark f t
  part_may (text bs) f n g z e = tt
  part_may (node name ps c) f n g z e = by_name (is_section_name name) refl e (λ i. parts_may c f (suc n) None z i)
    where
      by_name : (b : Bool) → is_section_name name ≡ b → unsourced_node n g (if b then node name (filter is_mark_pair ps) (all_bared c) else node name ps c) ≡ None
          → (unsourced_nodes (suc n) None (all_bared c) ≡ None → PartsMayMark f c) → BySection b (PartsMayMark f c) (MayMark f (node name ps c))
      by_name true h i ih =
          let qs : List Pair = filter is_mark_pair ps in
          ih (alone_none g (value_of (codes "about") qs) (has (codes "data-mw") qs) n (lacks_source name qs) (unsourced_nodes (suc n) None (all_bared c))
          (ap is_some (no_about ps)) i).1
      by_name false h i ih = node_may (node name ps c) f n g z i

  parts_may : (ts : Markups) (f : ℕ → Bool) (n : ℕ) (g : Option (List ℕ)) → f 0 ≡ false → unsourced_nodes n g (all_bared ts) ≡ None → PartsMayMark f ts
  parts_may empty f n g z e = tt
  parts_may (more t ts) f n g z e =
      let q = or_none (unsourced_node n g (bared t)) (unsourced_nodes (n + elements (bared t)) (open_after g (bared t) (all_bared ts)) (all_bared ts)) e in
      (part_may t f n g z q.0, parts_may ts f (n + elements (bared t)) (open_after g (bared t) (all_bared ts)) z q.1)

-- ---- the document, with the mark

abbrev edit_attribute : Attribute
edit_attribute = record { gap = 32 ∷ []; name = codes "data-wt-edit"; left = []; right = []; quote = 34; value = map plain (codes "content") }

abbrev with_attribute : Bool → List Attribute → List Attribute
with_attribute true attrs = edit_attribute ∷ attrs
with_attribute false attrs = attrs

abbrev mutual
  element_marked : (ℕ → Bool) → Element → Element
  element_marked f (element name attrs gap items end) =
      element name (with_attribute (is_chosen f name (map pair_of attrs)) attrs) gap (if has (codes "about") (map pair_of attrs) then items else items_marked f items) end
  element_marked f (void name attrs gap end) = void name (with_attribute (is_chosen f name (map pair_of attrs)) attrs) gap end

  items_marked : (ℕ → Bool) → Items → Items
  items_marked f none = none
  items_marked f (sign p items) = sign p (items_marked f items)
  items_marked f (child e items) = child (element_marked f e) (items_marked f items)

abbrev mutual
  part_written : (ℕ → Bool) → Element → Element
  part_written f (element name attrs gap items end) =
      if is_section_name name then element name attrs gap (parts_written f items) end else element_marked f (element name attrs gap items end)
  part_written f (void name attrs gap end) = if is_section_name name then void name attrs gap end else element_marked f (void name attrs gap end)

  parts_written : (ℕ → Bool) → Items → Items
  parts_written f none = none
  parts_written f (sign p items) = sign p (parts_written f items)
  parts_written f (child e items) = child (part_written f e) (parts_written f items)

abbrev child_written : (ℕ → Bool) → Element → Element
child_written f (element name attrs gap items end) = element name attrs gap (if bytes_eq name (codes "body") then parts_written f items else items) end
child_written f (void name attrs gap end) = void name attrs gap end

abbrev children_written : (ℕ → Bool) → Items → Items
children_written f none = none
children_written f (sign p items) = sign p (children_written f items)
children_written f (child e items) = child (child_written f e) (children_written f items)

abbrev root_written : (ℕ → Bool) → Element → Element
root_written f (element name attrs gap items end) = element name attrs gap (children_written f items) end
root_written f (void name attrs gap end) = void name attrs gap end

-- ---- it stands for the document with the mark

pairs_are : (b : Bool) (attrs : List Attribute) → map pair_of (with_attribute b attrs) ≡ pairs_marked b (map pair_of attrs)
unfolding encode
pairs_are true attrs = refl
pairs_are false attrs = refl

flush_marked : (f : ℕ → Bool) (run : List ℕ) (ms : Markups) → all_marked f (flush run ms) ≡ flush run (all_marked f ms)
flush_marked f [] ms = refl
flush_marked f (c ∷ cs) ms = refl

mutual
  element_means : (e : Element) (f : ℕ → Bool) → meaning (element_marked f e) ≡ marked f (meaning e)
  element_means (element name attrs gap items end) f =
      ap₂ (node name) (pairs_are (is_chosen f name (map pair_of attrs)) attrs) (by_about (has (codes "about") (map pair_of attrs)) (items_mean items f []))
    where
      by_about : (a : Bool) → contents [] (items_marked f items) ≡ all_marked f (contents [] items)
          → contents [] (if a then items else items_marked f items) ≡ (if a then contents [] items else all_marked f (contents [] items))
      by_about true h = refl
      by_about false h = h
  element_means (void name attrs gap end) f =
      ap₂ (node name) (pairs_are (is_chosen f name (map pair_of attrs)) attrs) (by_about (has (codes "about") (map pair_of attrs)))
    where
      by_about : (a : Bool) → empty ≡ (if a then empty else empty)
      by_about true = refl
      by_about false = refl

  items_mean : (items : Items) (f : ℕ → Bool) (run : List ℕ) → contents run (items_marked f items) ≡ all_marked f (contents run items)
  items_mean none f run = sym (flush_marked f run empty)
  items_mean (sign p items) f run = items_mean items f (run ++ unit_of p)
  items_mean (child e items) f run =
      ap₂ (λ t ms. flush run (more t ms)) (element_means e f) (items_mean items f []) ∙ sym (flush_marked f run (more (meaning e) (contents [] items)))

flush_parts : (f : ℕ → Bool) (run : List ℕ) (ms : Markups) → parts_marked f (flush run ms) ≡ flush run (parts_marked f ms)
flush_parts f [] ms = refl
flush_parts f (c ∷ cs) ms = refl

mutual
  part_means : (e : Element) (f : ℕ → Bool) → meaning (part_written f e) ≡ part_marked f (meaning e)
  part_means (element name attrs gap items end) f = by_name (is_section_name name) (parts_mean items f [])
    where
      by_name : (b : Bool) → contents [] (parts_written f items) ≡ parts_marked f (contents [] items)
          → meaning (if b then element name attrs gap (parts_written f items) end else element_marked f (element name attrs gap items end))
          ≡ (if b then node name (map pair_of attrs) (parts_marked f (contents [] items)) else marked f (meaning (element name attrs gap items end)))
      by_name true h = ap (node name (map pair_of attrs)) h
      by_name false h = element_means (element name attrs gap items end) f
  part_means (void name attrs gap end) f = by_name (is_section_name name)
    where
      by_name : (b : Bool) → meaning (if b then void name attrs gap end else element_marked f (void name attrs gap end))
          ≡ (if b then node name (map pair_of attrs) empty else marked f (meaning (void name attrs gap end)))
      by_name true = refl
      by_name false = element_means (void name attrs gap end) f

  parts_mean : (items : Items) (f : ℕ → Bool) (run : List ℕ) → contents run (parts_written f items) ≡ parts_marked f (contents run items)
  parts_mean none f run = sym (flush_parts f run empty)
  parts_mean (sign p items) f run = parts_mean items f (run ++ unit_of p)
  parts_mean (child e items) f run =
      ap₂ (λ t ms. flush run (more t ms)) (part_means e f) (parts_mean items f []) ∙ sym (flush_parts f run (more (meaning e) (contents [] items)))

child_means : (f : ℕ → Bool) (e : Element) → meaning (child_written f e) ≡ child_marked f (meaning e)
child_means f (element name attrs gap items end) = ap (node name (map pair_of attrs)) (by_name (bytes_eq name (codes "body")))
  where
    by_name : (b : Bool) → contents [] (if b then parts_written f items else items) ≡ (if b then parts_marked f (contents [] items) else contents [] items)
    by_name true = parts_mean items f []
    by_name false = refl
child_means f (void name attrs gap end) = ap (node name (map pair_of attrs)) (by_name (bytes_eq name (codes "body")))
  where
    by_name : (b : Bool) → empty ≡ (if b then empty else empty)
    by_name true = refl
    by_name false = refl

flush_children : (f : ℕ → Bool) (run : List ℕ) (ms : Markups) → children_marked f (flush run ms) ≡ flush run (children_marked f ms)
flush_children f [] ms = refl
flush_children f (c ∷ cs) ms = refl

children_mean : (f : ℕ → Bool) (items : Items) (run : List ℕ) → contents run (children_written f items) ≡ children_marked f (contents run items)
children_mean f none run = sym (flush_children f run empty)
children_mean f (sign p items) run = children_mean f items (run ++ unit_of p)
children_mean f (child e items) run =
    ap₂ (λ t ms. flush run (more t ms)) (child_means f e) (children_mean f items []) ∙ sym (flush_children f run (more (meaning e) (contents [] items)))

root_means : (f : ℕ → Bool) (e : Element) → meaning (root_written f e) ≡ document_marked f (meaning e)
root_means f (element name attrs gap items end) = ap (node name (map pair_of attrs)) (children_mean f items [])
root_means f (void name attrs gap end) = refl

-- ---- it is well-formed

edit_good : IsAttribute edit_attribute
edit_good = (
  (refl, tt),
  (refl, (refl, (refl, (refl, (refl, (refl, (refl, (refl, (refl, (refl, (refl, (refl, tt)))))))))))),
  ((refl, refl), ((refl, refl), ((refl, refl), ((refl, refl), ((refl, refl), ((refl, refl), ((refl, refl), tt))))))),
  refl,
  tt,
  tt,
)

or_false : (a b : Bool) → a ≡ false → b ≡ false → (a || b) ≡ false
or_false true b e f = cc
or_false false b e f = f

-- an attribute of another name before them
names_past : (before : List (List ℕ)) (attrs : List Attribute) → AreAttributes before attrs → value_of edit_name (map pair_of attrs) ≡ None
    → AreAttributes (edit_name ∷ before) attrs
names_past before [] h e = tt
names_past before (a ∷ attrs) h e = by_test (bytes_eq a.name edit_name) refl (λ q. names_past (before ++ a.name ∷ []) attrs h.2 q) e
  where
    by_test : (b : Bool) → bytes_eq a.name edit_name ≡ b
        → (value_of edit_name (map pair_of attrs) ≡ None → AreAttributes (edit_name ∷ (before ++ a.name ∷ [])) attrs)
        → (if b then Some (pair_of a).1 else value_of edit_name (map pair_of attrs)) ≡ None → AreAttributes (edit_name ∷ before) (a ∷ attrs)
    by_test true i ih q = absurd (cc q)
    by_test false i ih q = (h.0, or_false (bytes_eq a.name edit_name) (is_among a.name before) i h.1, ih q)

attributes_good : (b : Bool) (attrs : List Attribute) → AreAttributes [] attrs → (b ≡ true → value_of edit_name (map pair_of attrs) ≡ None)
    → AreAttributes [] (with_attribute b attrs)
attributes_good true attrs h e = (edit_good, refl, names_past [] attrs h (e refl))
attributes_good false attrs h e = h

unflushed : (f : ℕ → Bool) (run : List ℕ) (ms : Markups) → AllMayMark f (flush run ms) → AllMayMark f ms
unflushed f [] ms h = h
unflushed f (c ∷ cs) ms h = h.1

mutual
  element_good : (e : Element) (f : ℕ → Bool) (k : ℕ) → IsElement k e → MayMark f (meaning e) → IsElement k (element_marked f e)
  element_good (element name attrs gap items end) f k h u = (
    h.0,
    h.1,
    attributes_good (is_chosen f name (map pair_of attrs)) attrs h.2 u.0,
    h.3,
    by_about (has (codes "about") (map pair_of attrs)) (λ v. items_good items f (suc k) [] h.4 v) u.1,
    h.5,
    h.6,
  )
    where
      by_about : (a : Bool) → (AllMayMark f (contents [] items) → AreItems (suc k) (items_marked f items)) → IfOut a (AllMayMark f (contents [] items))
          → AreItems (suc k) (if a then items else items_marked f items)
      by_about true i v = h.4
      by_about false i v = i v
  element_good (void name attrs gap end) f k h u = (h.0, h.1, attributes_good (is_chosen f name (map pair_of attrs)) attrs h.2 u.0, h.3, h.4)

  items_good : (items : Items) (f : ℕ → Bool) (k : ℕ) (run : List ℕ) → AreItems k items → AllMayMark f (contents run items) → AreItems k (items_marked f items)
  items_good none f k run h u = tt
  items_good (sign p items) f k run h u = (h.0, items_good items f k (run ++ unit_of p) h.1 u)
  items_good (child e items) f k run h u =
      let v = unflushed f run (more (meaning e) (contents [] items)) u in
      (element_good e f k h.0 v.0, items_good items f k [] h.1 v.1)

parts_unflushed : (f : ℕ → Bool) (run : List ℕ) (ms : Markups) → PartsMayMark f (flush run ms) → PartsMayMark f ms
parts_unflushed f [] ms h = h
parts_unflushed f (c ∷ cs) ms h = h.1

mutual
  part_good : (e : Element) (f : ℕ → Bool) (k : ℕ) → IsElement k e → PartMayMark f (meaning e) → IsElement k (part_written f e)
  part_good (element name attrs gap items end) f k h u = by_name (is_section_name name) (λ v. parts_good items f (suc k) [] h.4 v) u
    where
      by_name : (b : Bool) → (PartsMayMark f (contents [] items) → AreItems (suc k) (parts_written f items))
          → BySection b (PartsMayMark f (contents [] items)) (MayMark f (meaning (element name attrs gap items end)))
          → IsElement k (if b then element name attrs gap (parts_written f items) end else element_marked f (element name attrs gap items end))
      by_name true i v = (h.0, h.1, h.2, h.3, i v, h.5, h.6)
      by_name false i v = element_good (element name attrs gap items end) f k h v
  part_good (void name attrs gap end) f k h u = by_name (is_section_name name) u
    where
      by_name : (b : Bool) → BySection b (PartsMayMark f empty) (MayMark f (meaning (void name attrs gap end)))
          → IsElement k (if b then void name attrs gap end else element_marked f (void name attrs gap end))
      by_name true v = h
      by_name false v = element_good (void name attrs gap end) f k h v

  parts_good : (items : Items) (f : ℕ → Bool) (k : ℕ) (run : List ℕ) → AreItems k items → PartsMayMark f (contents run items) → AreItems k (parts_written f items)
  parts_good none f k run h u = tt
  parts_good (sign p items) f k run h u = (h.0, parts_good items f k (run ++ unit_of p) h.1 u)
  parts_good (child e items) f k run h u =
      let v = parts_unflushed f run (more (meaning e) (contents [] items)) u in
      (part_good e f k h.0 v.0, parts_good items f k [] h.1 v.1)

-- ---- the body

abbrev IfBody : Bool → Type 0 → Type 0
IfBody true A = A
IfBody false A = Unit {0}

abbrev ChildMayMark : (ℕ → Bool) → Markup → Type 0
ChildMayMark f (text bs) = Unit {0}
ChildMayMark f (node name ps c) = IfBody (bytes_eq name (codes "body")) (PartsMayMark f c)

abbrev ChildrenMayMark : (ℕ → Bool) → Markups → Type 0
ChildrenMayMark f empty = Unit {0}
ChildrenMayMark f (more t ts) = ChildMayMark f t × ChildrenMayMark f ts

children_unflushed : (f : ℕ → Bool) (run : List ℕ) (ms : Markups) → ChildrenMayMark f (flush run ms) → ChildrenMayMark f ms
children_unflushed f [] ms h = h
children_unflushed f (c ∷ cs) ms h = h.1

child_good : (f : ℕ → Bool) (e : Element) (k : ℕ) → IsElement k e → ChildMayMark f (meaning e) → IsElement k (child_written f e)
child_good f (element name attrs gap items end) k h u = (h.0, h.1, h.2, h.3, by_name (bytes_eq name (codes "body")) u, h.5, h.6)
  where
    by_name : (b : Bool) → IfBody b (PartsMayMark f (contents [] items)) → AreItems (suc k) (if b then parts_written f items else items)
    by_name true v = parts_good items f (suc k) [] h.4 v
    by_name false v = h.4
child_good f (void name attrs gap end) k h u = h

children_good : (f : ℕ → Bool) (items : Items) (k : ℕ) (run : List ℕ) → AreItems k items → ChildrenMayMark f (contents run items)
    → AreItems k (children_written f items)
children_good f none k run h u = tt
children_good f (sign p items) k run h u = (h.0, children_good f items k (run ++ unit_of p) h.1 u)
children_good f (child e items) k run h u =
    let v = children_unflushed f run (more (meaning e) (contents [] items)) u in
    (child_good f e k h.0 v.0, children_good f items k [] h.1 v.1)

abbrev RootMayMark : (ℕ → Bool) → Markup → Type 0
RootMayMark f (text bs) = Unit {0}
RootMayMark f (node name ps c) = ChildrenMayMark f c

root_good : (f : ℕ → Bool) (e : Element) → IsElement 0 e → RootMayMark f (meaning e) → IsElement 0 (root_written f e)
root_good f (element name attrs gap items end) h u = (h.0, h.1, h.2, h.3, children_good f items 1 [] h.4 u, h.5, h.6)
root_good f (void name attrs gap end) h u = h

-- ---- of a page whose elements have their sources

body_may : (f : ℕ → Bool) (b : Bool) (n : ℕ) (ps : List Pair) (c : Markups) → f 0 ≡ false
    → unsourced_body (if b then Some (record { number = n; attributes = ps; contents = all_bared c }) else None) ≡ None → b ≡ true → PartsMayMark f c
body_may f true n ps c z e b = by_mark (is_marked ps) e
  where
    by_mark : (x : Bool) → (if x then Some n else unsourced_nodes (suc n) None (all_bared c)) ≡ None → PartsMayMark f c
    by_mark true i = absurd (cc i)
    by_mark false i = parts_may c f (suc n) None z i
body_may f false n ps c z e b = absurd (cc b)

if_body : (b : Bool) (A : Type 0) → (b ≡ true → A) → IfBody b A
if_body true A g = g refl
if_body false A g = tt

none_fits : (t : Tree) {A : Type 0} → fit_body None ≡ Ok t → A
none_fits t e = absurd (cc e)

abbrev found_if : Bool → ℕ → List Pair → Markups → Option BodyElement
found_if b n ps c = if b then Some (record { number = n; attributes = ps; contents = all_bared c }) else None

-- a head is no body
head_other : (head : List ℕ) → bytes_eq head (codes "head") ≡ true → bytes_eq head (codes "body") ≡ false
head_other head e = ap (λ (w : List ℕ). bytes_eq w (codes "body")) ((bytes_eq-Decides head (codes "head")).0 e)

not_body : (b : Bool) (A : Type 0) → b ≡ false → IfBody b A
not_body true A e = absurd (cc e)
not_body false A e = tt

second_may : (f : ℕ → Bool) (a b : Bool) (n : ℕ) (ps : List Pair) (c : Markups) (t : Tree) → f 0 ≡ false → fit_body (found_if (a && b) n ps c) ≡ Ok t
    → unsourced_body (found_if (a && b) n ps c) ≡ None → (a ≡ true) × IfBody b (PartsMayMark f c)
second_may f false b n ps c t z e u = none_fits t e
second_may f true false n ps c t z e u = none_fits t e
second_may f true true n ps c t z e u = (refl, body_may f true n ps c z u refl)

children_may : (f : ℕ → Bool) (ts : Markups) (t : Tree) → f 0 ≡ false → fit_body (body_in ts) ≡ Ok t → unsourced_body (body_in ts) ≡ None → ChildrenMayMark f ts
children_may f empty t z e u = tt
children_may f (more (text bs) ts) t z e u = none_fits t e
children_may f (more (node name ps c) empty) t z e u =
    (if_body (bytes_eq name (codes "body")) (PartsMayMark f c) (λ b. body_may f (bytes_eq name (codes "body")) 2 ps c z u b), tt)
children_may f (more (node name ps c) (more (text bs) ts)) t z e u = none_fits t e
children_may f (more (node head hs hc) (more (node name ps c) empty)) t z e u =
    let r = second_may f (bytes_eq head (codes "head")) (bytes_eq name (codes "body")) (3 + elements_of_all hc) ps c t z e u in
    (not_body (bytes_eq head (codes "body")) (PartsMayMark f hc) (head_other head r.0), (r.1, tt))
children_may f (more (node head hs hc) (more (node name ps c) (more v vs))) t z e u = none_fits t e

elements_may : (f : ℕ → Bool) (ts : Markups) → ChildrenMayMark f (elements_in ts) → ChildrenMayMark f ts
elements_may f empty h = tt
elements_may f (more (text bs) ts) h = (tt, elements_may f ts h)
elements_may f (more (node name ps c) ts) h = (h.0, elements_may f ts h.1)

root_may : (f : ℕ → Bool) (m : Markup) (t : Tree) → f 0 ≡ false → fit m ≡ Ok t → unsourced m ≡ None → RootMayMark f m
root_may f (text bs) t z e u = tt
root_may f (node name ps c) t z e u = by_root (bytes_eq name (codes "html") && not (is_marked_root ps)) e u
  where
    by_root : (b : Bool) → fit_body (if b then body_in (elements_in c) else None) ≡ Ok t
        → unsourced_body (if b then body_in (elements_in c) else None) ≡ None → ChildrenMayMark f c
    by_root true i v = elements_may f c (children_may f (elements_in c) t z i v)
    by_root false i v = none_fits t i

-- ---- the law

pub marked_text : (f : ℕ → Bool) (bytes : List ℕ) (m : Markup) (t : Tree) → f 0 ≡ false → Stands bytes m → fit m ≡ Ok t → unsourced m ≡ None
    → (others : List ℕ) × Stands others (document_marked f m)
marked_text f bytes m t z s e u =
    let d : Document = s.0 in
    let may : RootMayMark f (meaning d.root) = subst (RootMayMark f) (sym s.3) (root_may f m t z e u) in
    let w : Document = record d { root = root_written f d.root } in (
      spell_document w,
      (w, (s.1.0, root_good f d.root s.1.1 may, s.1.2), refl, root_means f d.root ∙ ap (document_marked f) s.3),
    )
