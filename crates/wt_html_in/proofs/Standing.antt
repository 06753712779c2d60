-- Trees for which bytes stand: they have fewer elements than bytes, and their texts and values are
-- UTF-8.
use Rattle.std.proofs.Common.{◌≡◌, ℕ, suc, ◌+◌, ◌≤◌, Bool, true, List, [], ◌∷◌, ◌++◌, length, length-append, map, refl, sym, ap, ◌∙◌, arith}
use Rattle.std.specs.Prelude.{encode_utf8}
use Rattle.std.specs.List.{flat_map}
use Rattle.std.specs.Str.{IsUtf8, is_utf8}
use Rattle.std.proofs.lemmas.Str.{IsUtf8-append, IsUtf8-nil, IsUtf8-encode, is_utf8-from_IsUtf8}
use lib.Utf8.{scalar}
use Rattle.wt_html_grammar.specs.declared.names.EscapeName.{EscapeName}
use Rattle.wt_html_grammar.proofs.Reading.{and_true}
use Rattle.wt_html_grammar.specs.declared.names.EscapeName.TheVariants.{Amp, Lt, Gt, Quot, Apos, Nbsp}
use Rattle.wt_html_grammar.specs.Signs.{in_text, in_value, character_of, number_from}
use Rattle.wt_html_grammar.specs.Grammar.{Piece, plain, named, number, IsPiece, ArePieces, Attribute, AreAttributes, spell_piece, spell_attributes, Slash, bare, slash, spell_slash, Element, Items, element, void, none, sign, child, spell, spell_items, IsElement, AreItems, spell_head}
use Rattle.wt_html_grammar.specs.Markup.{Markup, Markups, empty, more, unit_of, pair_of, flush, meaning, contents, Stands}
use Rattle.wt_schema.specs.Fit.{elements, elements_of_all}
use Rattle.wt_html_nodes.specs.Texts.{are_utf8_values, is_utf8_markup, are_utf8_markups}

-- ---- elements and bytes

flush_count : (run : List ℕ) (ts : Markups) → elements_of_all (flush run ts) ≡ elements_of_all ts
flush_count [] ts = refl
flush_count (c ∷ cs) ts = omega arith

tail_le : (xs ys : List ℕ) (n : ℕ) → n ≤ length ys → n ≤ length (xs ++ ys)
tail_le xs ys n h = omega (arith, length-append xs ys, h)

slash_one : (s : Slash) → 1 ≤ length (spell_slash s)
slash_one bare = omega arith
slash_one slash = omega arith

mutual
  few_elements : (e : Element) → elements (meaning e) + 1 ≤ length (spell e)
  few_elements (element name ps gap items end) =
      let i = few_items [] items in
      let tail : List ℕ = 60 ∷ 47 ∷ (name ++ (end ++ 62 ∷ [])) in
      let inner : List ℕ = 62 ∷ (spell_items items ++ tail) in
      let a : suc (length (spell_items items)) ≤ length inner = omega (arith, length-append (spell_items items) tail) in
      let b = tail_le name (spell_attributes ps ++ (gap ++ inner)) (suc (length (spell_items items)))
      (tail_le (spell_attributes ps) (gap ++ inner) (suc (length (spell_items items))) (tail_le gap inner (suc (length (spell_items items))) a)) in
      omega (arith, i, b)
  few_elements (void name ps gap end) =
      let b = tail_le name (spell_attributes ps ++ (gap ++ spell_slash end)) 1
      (tail_le (spell_attributes ps) (gap ++ spell_slash end) 1 (tail_le gap (spell_slash end) 1 (slash_one end))) in
      omega (arith, b)

  few_items : (run : List ℕ) (items : Items) → elements_of_all (contents run items) ≤ length (spell_items items)
  few_items run none = omega (arith, flush_count run empty)
  few_items run (sign p items) = tail_le (spell_piece p) (spell_items items) (elements_of_all (contents (run ++ unit_of p) items))
      (few_items (run ++ unit_of p) items)
  few_items run (child e items) =
      omega (arith, flush_count run (more (meaning e) (contents [] items)), few_elements e, few_items [] items, length-append (spell e) (spell_items items))

pub stands_few : (bytes : List ℕ) (m : Markup) → Stands bytes m → elements m + 1 ≤ length bytes
stands_few bytes m (d, w, b, e) =
    let f = few_elements d.root in
    let g = ap length b in
    omega (arith, f, g, ap elements e, length-append (spell_head d.head) (spell d.root ++ d.end), length-append (spell d.root) d.end)

-- ---- texts and values

char_utf8 : (c : ℕ) → scalar c ≡ true → IsUtf8 (encode_utf8 c)
char_utf8 c h = IsUtf8-encode c h

named_utf8 : (n : EscapeName) → IsUtf8 (encode_utf8 (character_of n))
named_utf8 Amp = char_utf8 38 refl
named_utf8 Lt = char_utf8 60 refl
named_utf8 Gt = char_utf8 62 refl
named_utf8 Quot = char_utf8 34 refl
named_utf8 Apos = char_utf8 39 refl
named_utf8 Nbsp = char_utf8 160 refl

piece_utf8 : (t : ℕ → Bool) (p : Piece) → IsPiece t p → IsUtf8 (unit_of p)
piece_utf8 t (plain c) h = char_utf8 c h.0
piece_utf8 t (named n) h = named_utf8 n
piece_utf8 t (number r ds) h = char_utf8 (number_from r 0 ds) h.3

pieces_utf8 : (t : ℕ → Bool) (ps : List Piece) → ArePieces t ps → IsUtf8 (flat_map unit_of ps)
pieces_utf8 t [] h = IsUtf8-nil
pieces_utf8 t (p ∷ ps) h = IsUtf8-append (unit_of p) (flat_map unit_of ps) (piece_utf8 t p h.0) (pieces_utf8 t ps h.1)

values_utf8 : (before : List (List ℕ)) (xs : List Attribute) → AreAttributes before xs → are_utf8_values (map pair_of xs) ≡ true
values_utf8 before [] h = refl
values_utf8 before (a ∷ xs) h =
    and_true (is_utf8 (flat_map unit_of a.value)) (are_utf8_values (map pair_of xs))
    (is_utf8-from_IsUtf8 (flat_map unit_of a.value) (pieces_utf8 (in_value a.quote) a.value h.0.2)) (values_utf8 (before ++ a.name ∷ []) xs h.2)

flush_utf8 : (run : List ℕ) (ts : Markups) → IsUtf8 run → are_utf8_markups ts ≡ true → are_utf8_markups (flush run ts) ≡ true
flush_utf8 [] ts h e = e
flush_utf8 (c ∷ cs) ts h e = and_true (is_utf8 (c ∷ cs)) (are_utf8_markups ts) (is_utf8-from_IsUtf8 (c ∷ cs) h) e

mutual
  element_utf8 : (k : ℕ) (e : Element) → IsElement k e → is_utf8_markup (meaning e) ≡ true
  element_utf8 k (element name ps gap items end) h =
      and_true (are_utf8_values (map pair_of ps)) (are_utf8_markups (contents [] items)) (values_utf8 [] ps h.2) (items_utf8 (suc k) [] items h.4 IsUtf8-nil)
  element_utf8 k (void name ps gap end) h = and_true (are_utf8_values (map pair_of ps)) true (values_utf8 [] ps h.2) refl

  items_utf8 : (k : ℕ) (run : List ℕ) (items : Items) → AreItems k items → IsUtf8 run → are_utf8_markups (contents run items) ≡ true
  items_utf8 k run none h u = flush_utf8 run empty u refl
  items_utf8 k run (sign p items) h u = items_utf8 k (run ++ unit_of p) items h.1 (IsUtf8-append run (unit_of p) u (piece_utf8 in_text p h.0))
  items_utf8 k run (child e items) h u =
      flush_utf8 run (more (meaning e) (contents [] items)) u
      (and_true (is_utf8_markup (meaning e)) (are_utf8_markups (contents [] items)) (element_utf8 k e h.0) (items_utf8 k [] items h.1 IsUtf8-nil))

pub stands_utf8 : (bytes : List ℕ) (m : Markup) → Stands bytes m → is_utf8_markup m ≡ true
stands_utf8 bytes m (d, w, b, e) = sym (ap is_utf8_markup e) ∙ element_utf8 0 d.root w.1
